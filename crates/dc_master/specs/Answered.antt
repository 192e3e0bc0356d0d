-- What each call of a master leaves of what it keeps, by its answer alone.
use Rattle.std.specs.Prelude.{◌≡◌, ◌≤◌, Some, None, Err, OnOk, OnErr}
use Rattle.master_script.specs.Kept.{Kept}
use Rattle.master_script.specs.Script.{Answer}
use Rattle.master_script.specs.declared.step.MasterError.TheVariants.{Refused, Spent}
use Rattle.master_script.specs.declared.step.Refusal.{Refusal}
use Rattle.master_script.specs.declared.step.Stage.{Stage}
use Rattle.master_script.specs.declared.step.Stage.TheVariants as at

-- A master that kept `m` keeps `later` after a call with this answer. Ok leads to this stage.
pub record IsAnswered (to : Stage) (m later : Kept) (answer : Answer) : Type 0 where
  pub config : later.config ≡ m.config
  pub spent_before : (r : Refusal) → answer ≡ Err (Spent r) → m.refusal ≡ Some r
  pub stage : OnOk answer (later.stage ≡ to)
  pub refusal : OnOk answer (later.refusal ≡ None)
  pub ended : OnErr answer (later.stage ≡ at.Spent)
  pub refused : (r : Refusal) → answer ≡ Err (Refused r) → later.refusal ≡ Some r
  pub few : later.sent ≤ 203097
