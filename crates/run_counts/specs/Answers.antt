-- How a run answers, by the step that is lost.
use Rattle.std.specs.Prelude.{Option, Some, None, Ok, Err}
use Rattle.master_script.specs.Script.{Answer}
use Rattle.master_script.specs.declared.step.MasterError.TheVariants.{Refused}
use Rattle.master_script.specs.declared.step.Refusal.TheVariants.{Lost}
use Rattle.master_script.specs.declared.step.Step.{Step}

-- it is refused with the step that is lost, and else goes well
abbrev pub answer_for : Option Step → Answer
answer_for None = Ok tt
answer_for (Some step) = Err (Refused (Lost step))
