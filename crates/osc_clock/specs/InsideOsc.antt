-- How an oscillator is kept.
use Rattle.std.specs.Prelude.{◌≡◌, ℕ, ◌-◌, List, ◌++◌, length, take, replicate}
use Rattle.std.proofs.Common.{sym}
use Rattle.osc_clock.specs.Ticks.{Rate, Oscillator, IsRunning}
use Rattle.osc_clock.specs.declared.osc.Osc.TheInside.{Inside}

-- what stands where no row is kept
abbrev pub no_rate : Rate
no_rate = record { tick = 0; period = 0 }

-- the rows in an array of 64, with zeros behind them
abbrev pub in_array : List Rate → List Rate
in_array rates = rates ++ replicate (64 - length rates) no_rate

-- the oscillator that is kept
abbrev pub value_of : Inside → Oscillator
value_of a = record { phase = a.phase; period = a.period; rates = take a.count a.rows }

abbrev pub inside_of : Oscillator → Inside
inside_of o = record { phase = o.phase; period = o.period; rows = in_array o.rates; count = length o.rates }

-- it runs, and its rows are the first of the array
pub record IsKept (a : Inside) : Type 0 where
  pub running : IsRunning (value_of a)
  pub rows : a.rows ≡ in_array (take a.count a.rows)
  pub count : a.count ≡ length (take a.count a.rows)

inside_path : (phase period : ℕ) (rows rows' : List Rate) (count count' : ℕ) → rows ≡ rows' → count ≡ count'
    → ◌≡◌ {A = Inside} (record { phase = phase; period = period; rows = rows; count = count })
    (record { phase = phase; period = period; rows = rows'; count = count' })
inside_path phase period rows rows' count count' p q = cc

pub inside_of-value_of : (a : Inside) → IsKept a → inside_of (value_of a) ≡ a
inside_of-value_of a kept = inside_path a.phase a.period _ a.rows _ a.count (sym kept.rows) (sym kept.count)
