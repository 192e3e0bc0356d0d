-- A step of the script in words.
use Rattle.std.specs.Prelude.{ℕ, List, ◌++◌, codes, decimal}
use Rattle.master_script.specs.declared.step.Step.{Step}
use Rattle.master_script.specs.declared.step.Step.TheVariants.{Count, Identify, Rate, Latch, Times, Set, Settle, Drift, Arm}

abbrev pub step_text : Step → List ℕ
step_text Count = codes "count"
step_text (Identify p) = codes "identify " ++ decimal p
step_text Rate = codes "rate"
step_text Latch = codes "latch"
step_text (Times p) = codes "times " ++ decimal p
step_text (Set p) = codes "set " ++ decimal p
step_text Settle = codes "settle"
step_text (Drift number) = codes "drift " ++ decimal number
step_text (Arm p) = codes "arm " ++ decimal p
