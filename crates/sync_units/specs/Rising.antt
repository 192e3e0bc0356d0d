-- The local copies at the ticks of a clock as whole numbers, which no word cuts.
use Rattle.std.specs.Prelude.{◌≡◌, ℕ, suc, ◌+◌, ◌*◌, ◌%◌, ◌^◌, ◌<◌, ◌≤◌}
use Rattle.sync_units.specs.Edges.{EdgeAt}

-- over n ticks, from tick 0 on, the numbers rise: from one tick to the next by at most 11
abbrev pub AreRising : (ℕ → ℕ) → ℕ → Type 0
AreRising whole n = (i : ℕ) → i < n → (whole i ≤ whole (suc i)) × (whole (suc i) ≤ whole i + 11)

-- the local copies at the ticks 1 to n are the words of w bits of these numbers
abbrev pub AreWordsOf : ℕ → (ℕ → ℕ) → (ℕ → ℕ) → ℕ → Type 0
AreWordsOf w whole copy n = (i : ℕ) → 1 ≤ i → i ≤ n → copy i ≡ whole i % 2 ^ w

-- edge k is at tick m, where edge 0 is due at the number v: there the number has come to v and k cycles, and is at most 10 above that
pub record RaisesAt (w : ℕ) (whole copy : ℕ → ℕ) (cycle v k m : ℕ) : Type 0 where
  pub edge : EdgeAt w copy cycle (v % 2 ^ w) k m
  pub some : 0 < m
  pub reached : v + k * cycle ≤ whole m
  pub near : whole m ≤ v + k * cycle + 10
