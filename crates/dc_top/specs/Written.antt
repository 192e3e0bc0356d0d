-- What is said of a text that was to be written.
use Rattle.std.specs.Prelude.{◌≡◌, ℕ, List, [], Option}
use Rattle.std.specs.Io.KnownBytes.{Appends}
use Rattle.dc_base.specs.Told.{AppendsFront}
use Rattle.dc_top.specs.declared.outcome.Outcome.{Outcome}
use Rattle.dc_top.specs.declared.outcome.Outcome.TheVariants.{Done, WriteFault}

-- a front of a text that is not empty: where nothing is to be written, no write can fail
abbrev pub IsCut : List ℕ → Option (List ℕ) → Option (List ℕ) → Type 0
IsCut text taken taken' = (text ≡ [] → ⊥) × AppendsFront taken taken' text

-- Done: all of it; WriteFault: a front of it. No other answer is given.
abbrev pub Wrote : List ℕ → Outcome → Option (List ℕ) → Option (List ℕ) → Type 0
Wrote text Done taken taken' = Appends taken taken' text
Wrote text WriteFault taken taken' = IsCut text taken taken'
Wrote text o taken taken' = ⊥
