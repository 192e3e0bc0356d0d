-- The ticks of an oscillator whose period may change, counted one by one. Times are true times in fs,
-- and ticks are numbered from 1.
use Rattle.std.specs.Prelude.{ℕ, suc, zero, ◌+◌, ◌<◌, ◌≤◌, ⊤, List, [], ◌∷◌, length, nat_le, if◌then◌else◌}

-- each tick after this one comes a period after the one before, until another rate says otherwise
pub record Rate : Type 0 where
  pub tick : ℕ
  pub period : ℕ

-- when the first tick comes, the time from each tick to the next, and the rows that change it
pub record Oscillator : Type 0 where
  pub phase : ℕ
  pub period : ℕ
  pub rates : List Rate

-- the period of the last row whose tick is at most k, or the given one where there is none
abbrev pub period_at : List Rate → ℕ → ℕ → ℕ
period_at [] period k = period
period_at (rate ∷ rates) period k = period_at rates (if nat_le rate.tick k then rate.period else period) k

-- the time from tick k to tick k + 1; the first tick comes a phase after true time 0, which is no tick
abbrev pub gap : Oscillator → ℕ → ℕ
gap o zero = o.phase
gap o (suc k) = period_at o.rates o.period (suc k)

-- when tick k is: the gaps before it, added up
abbrev pub instant : Oscillator → ℕ → ℕ
instant o zero = 0
instant o (suc k) = instant o k + gap o k

-- how many of the ticks 1 to n are at or before t
abbrev pub ticks_among : Oscillator → ℕ → ℕ → ℕ
ticks_among o t zero = 0
ticks_among o t (suc n) = ticks_among o t n + (if nat_le (instant o (suc n)) t then 1 else 0)

-- how many ticks are at or before t; none after number t is, since each gap is at least 1 (the law
-- `counted` of ticks_and_instants)
abbrev pub ticks : Oscillator → ℕ → ℕ
ticks o t = ticks_among o t t

-- each row's tick is above that of the row before, the first above the given one; no period is 0
abbrev pub AreRising : ℕ → List Rate → Type 0
AreRising tick [] = ⊤
AreRising tick (rate ∷ rates) = (tick < rate.tick) × (0 < rate.period) × AreRising rate.tick rates

-- an oscillator that runs: its first tick comes within its first period, and at most 64 rows change it
pub record IsRunning (o : Oscillator) : Type 0 where
  pub some : 0 < o.phase
  pub within : o.phase ≤ o.period
  pub few : length o.rates ≤ 64
  pub rising : AreRising 0 o.rates
