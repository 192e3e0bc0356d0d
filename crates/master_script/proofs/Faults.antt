-- A judgement is that of the reply, told of a step.
use Rattle.std.proofs.Common.{◌≡◌, refl, ℕ, ◌==◌, List, [], ◌∷◌, Bool, true, false, Option, Some, None}
use Rattle.std.specs.Prelude.{if◌then◌else◌, option_map}
use Rattle.ecat_frame.specs.Difference.{first_difference}
use Rattle.ecat_frame.specs.FrameGrammar.{FrameValue}
use Rattle.master_script.specs.Judged.{counters, miscounted, judged_by, judged}
use Rattle.master_script.specs.ReplyFaults.{first_miscount, fault_by, reply_fault, refused_at}
use Rattle.master_script.specs.declared.step.Step.{Step}
use Rattle.master_script.specs.declared.step.Refusal.TheVariants.{Counter}
use Rattle.master_script.specs.ReplyFaults.ReplyFault.{Miscounts}

counted : (step : Step) (expected counters : List ℕ) → miscounted step expected counters ≡ option_map (refused_at step) (first_miscount expected counters)
counted step [] counters = refl
counted step (e ∷ es) [] = refl
counted step (e ∷ es) (k ∷ ks) = by_test (k == e) (counted step es ks)
  where
    by_test : (b : Bool) → miscounted step es ks ≡ option_map (refused_at step) (first_miscount es ks)
        → (if b then miscounted step es ks else Some (Counter step e k)) ≡ option_map (refused_at step) (if b then first_miscount es ks else Some (Miscounts e k))
    by_test true later = later
    by_test false later = refl

by_difference : (step : Step) (expected : List ℕ) (reply : FrameValue) (o : Option ℕ) → judged_by step expected reply o ≡ option_map (refused_at step) (fault_by expected reply o)
by_difference step expected reply (Some at) = refl
by_difference step expected reply None = counted step expected (counters reply)

pub judged_by_fault : (step : Step) (expected : List ℕ) (sent reply : FrameValue) → judged step expected sent reply ≡ option_map (refused_at step) (reply_fault expected sent reply)
unfolding judged reply_fault
judged_by_fault step expected sent reply = by_difference step expected reply (first_difference sent reply)
