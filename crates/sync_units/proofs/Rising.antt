-- Edges of copies that are the words of rising numbers.
use Rattle.std.proofs.Common.{◌≡◌, ℕ, zero, suc, ◌+◌, ◌-◌, ◌*◌, ◌%◌, ◌^◌, ◌<◌, ◌≤◌, true, false, arith, ap, sym, subst, ◌∙◌, inl, inr}
use Rattle.std.specs.Prelude.{nat_lt}
use Rattle.std.proofs.lemmas.Bool.{cases_lt}
use Rattle.std.proofs.lemmas.Bool.Decides.{nat_tests}
use Rattle.std.proofs.Math.Nat.{pow-le-pow_right}
use Rattle.wrap_time.proofs.Exported.{sum_of_cut}
use Rattle.local_clock.specs.FirstReaching.{is_behind}
use Rattle.local_clock.proofs.Exported.{behind_near}
use Rattle.sync_units.specs.Edges.{IsNextReached}
use Rattle.sync_units.specs.Rising.{AreRising, AreWordsOf, RaisesAt}

module _ (whole : ℕ → ℕ) (n : ℕ) (rising : AreRising whole n) where
  rises : (i j : ℕ) → i + j ≤ n → whole i ≤ whole (i + j)
  rises i zero low = let same : whole i ≡ whole (i + 0) = ap whole (omega arith) in omega (arith, same)
  rises i (suc j) low =
      let rest = rises i j (omega (arith, low)) in
      let one = (rising (i + j) (omega (arith, low))).0 in
      let same : whole (suc (i + j)) ≡ whole (i + suc j) = ap whole (omega arith) in
      omega (arith, rest, one, same)

  rises_to : (i m : ℕ) → i ≤ m → m ≤ n → whole i ≤ whole m
  rises_to i m low high =
      let r = rises i (m - i) (omega (arith, low, high)) in
      let same : whole (i + (m - i)) ≡ whole m = ap whole (omega (arith, low)) in
      omega (arith, r, same)

  -- the first tick after one at which a number is reached that was not yet
  record Reaches (from due : ℕ) : Type 0 where
    pub tick : ℕ
    pub after : from < tick
    pub within : tick ≤ n
    pub reached : due ≤ whole tick
    pub near : whole tick ≤ due + 10
    pub before : (i : ℕ) → from < i → i < tick → whole i < due

  reach : (from due j : ℕ) → from + j ≤ n → whole from < due → due ≤ whole (from + j) → Reaches from due
  reach from due zero low before there =
      let same : whole (from + 0) ≡ whole from = ap whole (omega arith) in absurd (omega (arith, before, there, same))
  reach from due (suc j) low before there =
      elim (cases_lt (whole (from + j)) due) [
        | inl early ↦
            let same : whole (from + suc j) ≡ whole (suc (from + j)) = ap whole (omega arith) in
            let one = (rising (from + j) (omega (arith, low))).1 in
            record {
              tick = suc (from + j);
              after = omega arith;
              within = omega (arith, low);
              reached = omega (arith, there, same);
              near = omega (arith, one, early);
              before = λ i past less. let r = rises_to i (from + j) (omega (arith, less)) (omega (arith, low)) in omega (arith, r, early);
            }
        | inr late ↦ reach from due j (omega (arith, low)) before late
      ]

  module _ (w : ℕ) (copy : ℕ → ℕ) (wide : 32 ≤ w) (words : AreWordsOf w whole copy n) where
    half : 2 ^ 31 ≤ 2 ^ (w - 1)
    half = pow-le-pow_right {n = 2} (omega arith) {i = 31} {j = w - 1} (omega (arith, wide))

    -- a copy that is near what is due tells whether it is behind
    behind : (i due : ℕ) → 1 ≤ i → i ≤ n → whole i < due + 2 ^ 31 → due < whole i + 2 ^ 31 → is_behind w (copy i) (due % 2 ^ w) ≡ nat_lt (whole i) due
    behind i due some low above below =
        let h = half in
        ap (λ (x : ℕ). is_behind w x (due % 2 ^ w)) (words i some low)
        ∙ behind_near w (whole i) due (omega (arith, wide)) (record { above = omega (arith, above, h); below = omega (arith, below, h) })

    next : (from due : ℕ) → due < whole from + 2 ^ 31 → from ≤ n → (r : Reaches from due) → IsNextReached w copy (due % 2 ^ w) from r.tick
    next from due ahead low r = record {
      after = r.after;
      reached =
          (let after = r.after in
          let reached = r.reached in
          let near = r.near in
          let not : nat_lt (whole r.tick) due ≡ false = grind (arith, nat_tests, reached) in
          behind r.tick due (omega (arith, after)) r.within (omega (arith, near)) (omega (arith, reached)) ∙ not);
      before = λ i past less.
          let early = r.before i past less in
          let inside = r.within in
          let up = rises_to from i (omega (arith, past)) (omega (arith, less, inside)) in
          let is : nat_lt (whole i) due ≡ true = grind (arith, nat_tests, early) in
          behind i due (omega (arith, past)) (omega (arith, less, inside)) (omega (arith, early)) (omega (arith, up, ahead)) ∙ is;
    }

    module _ (cycle v : ℕ) (ahead : whole 0 < v) (soon : v < whole 0 + 2 ^ 31) (some : 11 ≤ cycle) (short : cycle < 2 ^ 31) where
      edge : (k : ℕ) → v + k * cycle ≤ whole n → (m : ℕ) × (m ≤ n) × RaisesAt w whole copy cycle v k m
      edge zero there =
          let at : whole (0 + n) ≡ whole n = ap whole (omega arith) in
          let r = reach 0 v n (omega arith) ahead (omega (arith, there, at)) in
          let reached = r.reached in
          let near = r.near in
          (r.tick, r.within, record { edge = next 0 v soon (omega arith) r; some = r.after; reached = omega (arith, reached); near = omega (arith, near) })
      edge (suc k) there =
          let e = edge k (omega (arith, there, some)) in
          let m = e.0 in
          let low = e.1 in
          let h = e.2 in
          let reached = h.reached in
          let near = h.near in
          let due = v + suc k * cycle in
          let to : whole (m + (n - m)) ≡ whole n = ap whole (omega (arith, low)) in
          let r = reach m due (n - m) (omega (arith, low)) (omega (arith, near, some)) (omega (arith, there, to)) in
          let word : (v % 2 ^ w + suc k * cycle) % 2 ^ w ≡ due % 2 ^ w = sum_of_cut w v (suc k * cycle) in
          let here = next m due (omega (arith, reached, short)) low r in
          let after = r.after in (
            r.tick,
            r.within,
            record {
              edge = (m, h.edge, subst (λ (x : ℕ). IsNextReached w copy x m r.tick) (sym word) here);
              some = omega (arith, after);
              reached = r.reached;
              near = r.near;
            },
          )

pub rising_edge : (w : ℕ) (whole copy : ℕ → ℕ) (n cycle v k : ℕ) → 32 ≤ w → AreRising whole n → AreWordsOf w whole copy n
    → whole 0 < v → v < whole 0 + 2 ^ 31 → 11 ≤ cycle → cycle < 2 ^ 31 → v + k * cycle ≤ whole n
    → (m : ℕ) × (m ≤ n) × RaisesAt w whole copy cycle v k m
rising_edge w whole copy n cycle v k wide rising words ahead soon some short there =
    edge whole n rising w copy wide words cycle v ahead soon some short k there
