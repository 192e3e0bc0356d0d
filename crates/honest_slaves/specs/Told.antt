-- What a master is told by slaves that stand at their positions, and which steps it asks of them then.
use Rattle.std.specs.Prelude.{◌≡◌, ℕ, ◌<◌, ◌≤◌, true, if◌then◌else◌, ⊤, List, length, map, Some}
use Rattle.ecat_frame.specs.FrameGrammar.{DatagramValue}
use Rattle.dc_delay.specs.ShapeRows.{positions}
use Rattle.esc_regs.specs.RegisterTable.{features}
use Rattle.esc_regs.specs.declared.clock_kind.ClockKind.{ClockKind}
use Rattle.frame_pass.specs.SlaveState.{Slave}
use Rattle.esc_regs.specs.Kinds.{measures, has_clock}
use Rattle.master_script.specs.Slaves.{SlaveWords}
use Rattle.master_script.specs.Words.{Words}
use Rattle.master_script.specs.declared.step.Step.{Step}
use Rattle.master_script.specs.declared.step.Step.TheVariants.{Count, Identify, Rate, Latch, Times, Set, Settle, Drift, Arm}
use Rattle.honest_slaves.specs.Standing.{AreStanding}

-- what Identify tells of a slave of this kind and status
abbrev pub word_of : ClockKind → ℕ → SlaveWords
word_of kind status = record { features = features kind; status = status; fourth = if has_clock kind then 1 else 0 }

-- of the first n slaves
abbrev pub words_of : (ℕ → ClockKind) → (ℕ → ℕ) → ℕ → List SlaveWords
words_of kinds statuses n = map (λ q. word_of (kinds q) (statuses q)) (positions n)

-- n slaves at their positions, of which the first so many have their station addresses
pub record AreInOrder (kinds : ℕ → ClockKind) (statuses : ℕ → ℕ) (n named : ℕ) (ss : List Slave) : Type 0 where
  pub many : length ss ≡ n
  pub few : n ≤ 256
  pub within : named ≤ n
  pub standing : AreStanding kinds statuses named ss

-- a master that was told of n slaves, and judged the one at position r the reference
pub record Knows (kinds : ℕ → ClockKind) (statuses : ℕ → ℕ) (n r : ℕ) (w : Words) : Type 0 where
  pub slaves : w.slaves ≡ words_of kinds statuses n
  pub reference : w.reference ≡ Some r
  pub below : r < n

-- a step behind the judgement, which asks nothing of a slave that the slave does not have
abbrev pub IsMeant : (ℕ → ClockKind) → ℕ → Step → Type 0
IsMeant kinds n Count = ⊥
IsMeant kinds n (Identify p) = ⊥
IsMeant kinds n Rate = ⊤
IsMeant kinds n Latch = ⊤
IsMeant kinds n (Times p) = (p < n) × (measures (kinds p) ≡ true)
IsMeant kinds n (Set p) = (p < n) × (has_clock (kinds p) ≡ true)
IsMeant kinds n Settle = ⊤
IsMeant kinds n (Drift k) = ⊤
IsMeant kinds n (Arm p) = (p < n) × (has_clock (kinds p) ≡ true)

-- the positions that a step names are below 256
abbrev pub IsNear : Step → Type 0
IsNear (Identify p) = p < 256
IsNear step = ⊤

-- the counters of datagrams, one by one
abbrev pub counts_of : List DatagramValue → List ℕ
counts_of ds = map (λ (d : DatagramValue). d.wkc) ds
