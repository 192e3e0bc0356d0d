-- The draws that segments are made of: thirteen for each slave, whether it uses them or not.
use Rattle.std.specs.Prelude.{ℕ, zero, suc, ◌+◌, ◌*◌, ◌%◌, ◌<◌, List, [], ◌∷◌}

-- one draw: the next state, which is also what is drawn
unfoldable pub next : ℕ → ℕ
next x = 48271 * x % 2147483647

-- the state after so many draws
unfoldable pub after : ℕ → ℕ → ℕ
after zero x = x
after (suc k) x = after k (next x)

-- what is drawn for a slave, in this order
pub record Draws : Type 0 where
  pub clockless : ℕ
  pub narrow : ℕ
  pub tp : ℕ
  pub tf : ℕ
  pub cable : ℕ
  pub branch : ℕ
  pub parent : ℕ
  pub start_high : ℕ
  pub start_low : ℕ
  pub period : ℕ
  pub phase : ℕ
  pub shift : ℕ
  pub sync1 : ℕ

abbrev pub draws_at : ℕ → Draws
draws_at x = record {
  clockless = after 1 x;
  narrow = after 2 x;
  tp = after 3 x;
  tf = after 4 x;
  cable = after 5 x;
  branch = after 6 x;
  parent = after 7 x;
  start_high = after 8 x;
  start_low = after 9 x;
  period = after 10 x;
  phase = after 11 x;
  shift = after 12 x;
  sync1 = after 13 x;
}

-- the draws of so many slaves from a state on
unfoldable pub draws_from : ℕ → ℕ → List Draws
draws_from zero x = []
draws_from (suc n) x = draws_at x ∷ draws_from n (after 13 x)

-- the first state of a seed
abbrev pub seeded : ℕ → ℕ
seeded seed = 1 + seed % 2147483646

-- all that the laws of generated segments ask of draws: each is below 2,147,483,647
abbrev pub IsDraw : ℕ → Type 0
IsDraw x = x < 2147483647

pub record AreLow (d : Draws) : Type 0 where
  pub clockless : IsDraw d.clockless
  pub narrow : IsDraw d.narrow
  pub tp : IsDraw d.tp
  pub tf : IsDraw d.tf
  pub cable : IsDraw d.cable
  pub branch : IsDraw d.branch
  pub parent : IsDraw d.parent
  pub start_high : IsDraw d.start_high
  pub start_low : IsDraw d.start_low
  pub period : IsDraw d.period
  pub phase : IsDraw d.phase
  pub shift : IsDraw d.shift
  pub sync1 : IsDraw d.sync1
