-- How a clock is kept, where these turn a word into its number and back.
use Rattle.std.specs.Prelude.{◌≡◌, ℕ, ◌<◌, ◌≤◌, ◌^◌, pos, unsigned_abs}
use Rattle.osc_clock.specs.Ticks.{IsRunning}
use Rattle.local_clock.specs.Reading.{Clock}
use Rattle.local_clock.specs.AtOnce.{share_of}
use Rattle.local_clock.specs.declared.clock.LocalClock.TheInside.{Inside}

abbrev pub value_of : {W : Type 0} → (W → ℕ) → Inside W → Clock
value_of number a = record {
  osc = a.ticker.osc;
  instant = a.ticker.instant;
  reading = number a.reading;
  left = a.left;
  count = a.count;
  g = a.g;
}

abbrev pub inside_of : {W : Type 0} → (ℕ → W) → Clock → Inside W
inside_of word c = record {
  ticker = record { osc = c.osc; instant = c.instant };
  reading = word c.reading;
  left = c.left;
  count = c.count;
  g = c.g;
  share = share_of c.g;
}

-- it runs, fewer ticks are counted than a correction takes, and none while nothing is left
abbrev pub IsKept : {W : Type 0} → (W → ℕ) → (ℕ → W) → Inside W → Type 0
IsKept number word a =
    (a.count < a.g) × (a.left ≡ pos 0 → a.count ≡ 0) × (unsigned_abs a.left ≤ 2 ^ 31)
    × (word (number a.reading) ≡ a.reading) × (a.share ≡ share_of a.g) × IsRunning a.ticker.osc
