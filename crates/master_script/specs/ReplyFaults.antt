-- What is wrong with a reply, with no step: the judgement of `Judged` for scripts that are not the master's.
use Rattle.std.specs.Prelude.{ℕ, ◌==◌, if◌then◌else◌, List, [], ◌∷◌, Option, Some, None}
use Rattle.ecat_frame.specs.Difference.{first_difference}
use Rattle.ecat_frame.specs.FrameGrammar.{FrameValue}
use Rattle.master_script.specs.Judged.{counters}
use Rattle.master_script.specs.declared.step.Refusal.{Refusal}
use Rattle.master_script.specs.declared.step.Refusal.TheVariants.{Reply, Counter}
use Rattle.master_script.specs.declared.step.Step.{Step}

-- Why a reply is refused, whatever step it belongs to: the first byte that differs and may not, or the first working counter that is not
-- the expected one.
pub data ReplyFault : Type 0 where
  Differs : (at : ℕ) → ReplyFault
  Miscounts : (expected got : ℕ) → ReplyFault

-- the first counter that is not the expected one
abbrev pub first_miscount : List ℕ → List ℕ → Option ReplyFault
first_miscount [] counters = None
first_miscount (e ∷ es) [] = None
first_miscount (e ∷ es) (k ∷ ks) = if k == e then first_miscount es ks else Some (Miscounts e k)

-- by the first byte that differs and may not, if there is one
abbrev pub fault_by : List ℕ → FrameValue → Option ℕ → Option ReplyFault
fault_by expected reply (Some at) = Some (Differs at)
fault_by expected reply None = first_miscount expected (counters reply)

-- what is wrong with the reply to a frame, if anything is: the differing byte first, and the counters only where no byte differs
unfoldable pub reply_fault : List ℕ → FrameValue → FrameValue → Option ReplyFault
reply_fault expected sent reply = fault_by expected reply (first_difference sent reply)

-- the refusal of a step whose reply has this fault
abbrev pub refused_at : Step → ReplyFault → Refusal
refused_at step (Differs at) = Reply step at
refused_at step (Miscounts expected got) = Counter step expected got
