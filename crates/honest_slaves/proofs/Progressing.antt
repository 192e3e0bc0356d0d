-- How far a script has come over slaves that answer as they are.
use Rattle.std.specs.Prelude.{◌≡◌, ◌⊎◌, ℕ, ◌+◌, ◌<◌, List, ◌∷◌, map, Some, None, IfSome}
use Rattle.std.specs.List.{AllByRecursion, range_with_len}
use Rattle.esc_regs.specs.declared.clock_kind.ClockKind.{ClockKind}
use Rattle.frame_pass.specs.SlaveState.{Slave}
use Rattle.master_script.specs.Progress.{Progress, Commissioning}
use Rattle.master_script.specs.declared.step.Refusal.{Refusal}
use Rattle.master_script.specs.declared.step.Refusal.TheVariants.{Lost}
use Rattle.master_script.specs.declared.step.Step.{Step}
use Rattle.master_script.specs.declared.step.Step.TheVariants.{Count, Identify}
use Rattle.honest_slaves.specs.Told.{words_of, AreInOrder, Knows, IsMeant}

-- a refusal for want of replies: no try of a step came back
abbrev pub IsLoss : Refusal → Type 0
IsLoss r = (step : Step) × (r ≡ Lost step)

-- the steps up to the judgement, from the one that identifies the slave at position j on
abbrev pub identifying : ℕ → ℕ → List Step
identifying j more = map Identify (range_with_len j more)

-- Up to the judgement: the first j slaves are named, and told what they are, and the others are still to be identified.
pub record IsEarly (kinds : ℕ → ClockKind) (statuses : ℕ → ℕ) (n : ℕ) (p : Progress) (ss : List Slave) : Type 0 where
  pub phase : p.phase ≡ Commissioning
  pub unrefused : p.refused ≡ None
  pub unjudged : p.words.reference ≡ None
  pub told : ℕ
  pub more : ℕ
  pub all : told + more ≡ n
  pub some : 0 < more
  pub slaves : p.words.slaves ≡ words_of kinds statuses told
  pub are : AreInOrder kinds statuses n told ss
  pub todo : (p.todo ≡ identifying told more) ⊎ ((p.todo ≡ Count ∷ identifying told more) × (told ≡ 0))

-- Behind it: the master knows of all slaves, which are all named, and asks of each what it has.
pub record IsLate (kinds : ℕ → ClockKind) (statuses : ℕ → ℕ) (n r : ℕ) (p : Progress) (ss : List Slave) : Type 0 where
  pub unrefused : p.refused ≡ None
  pub knows : Knows kinds statuses n r p.words
  pub are : AreInOrder kinds statuses n n ss
  pub todo : AllByRecursion (IsMeant kinds n) p.todo

-- A refusal came, for want of replies; where the slaves were judged before, the master was told of all of them.
pub record IsOver (kinds : ℕ → ClockKind) (statuses : ℕ → ℕ) (n : ℕ) (p : Progress) : Type 0 where
  pub over : IfSome p.refused IsLoss
  pub refused : (p.refused ≡ None) → ⊥
  pub told : (reference : ℕ) → p.words.reference ≡ Some reference → p.words.slaves ≡ words_of kinds statuses n

-- one of these
abbrev pub IsHonest : (ℕ → ClockKind) → (ℕ → ℕ) → ℕ → ℕ → Progress → List Slave → Type 0
IsHonest kinds statuses n r p ss = IsEarly kinds statuses n p ss ⊎ (IsLate kinds statuses n r p ss ⊎ IsOver kinds statuses n p)
