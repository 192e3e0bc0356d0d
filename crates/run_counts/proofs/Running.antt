-- Running: a lost frame is no refusal.
use Rattle.std.proofs.Common.{◌≡◌, ℕ, List, Option, Some, None, is_none, Ok, Err, refl, sym, ap, subst, ◌∙◌, arith}
use Rattle.ecat_frame.specs.FrameGrammar.{FrameValue}
use Rattle.ecat_link.specs.Exchanges.{Exchange}
use Rattle.ecat_link.specs.Serves.{Send}
use Rattle.master_script.specs.Begins.{Begins}
use Rattle.master_script.specs.Config.{ConfigValue}
use Rattle.master_script.specs.Judged.{judged}
use Rattle.master_script.specs.Progress.{Phase, Commissioning, Settling, Arming, Running as RunPhase, Progress, progress, after, counted, moved, running}
use Rattle.master_script.specs.Script.{Answer, script, Run}
use Rattle.master_script.specs.Steps.{expected}
use Rattle.master_script.specs.declared.step.MasterError.TheVariants.{Refused, Spent}
use Rattle.master_script.specs.declared.step.Refusal.{Refusal}
use Rattle.master_script.specs.declared.step.Refusal.TheVariants.{Lost}
use Rattle.master_script.specs.declared.step.Step.{Step}
use Rattle.master_script.specs.declared.step.Step.TheVariants.{Drift}
use Rattle.loss_list.specs.declared.loss_row.Phase.TheVariants as frames
use Rattle.segment_file.specs.Segment.{SegmentValue}
use Rattle.segment_file.specs.Legal.{IsLegal}
use Rattle.lost_step.specs.LostStep.{loses}
use Rattle.run_of_file.specs.MasterOfFile.{master_of}
use Rattle.run_of_file.specs.RunOfFile.{RunEnd, frames_given}
use Rattle.run_counts.proofs.Honest.{IsRefusedForLoss}
use Rattle.run_counts.proofs.Ends.{ended, refused_at_end, never_spent}
use Rattle.run_counts.proofs.Led.{IsLed, HasGone}
use Rattle.run_counts.proofs.Numbers.{in_step, in_phase}
use Rattle.run_counts.proofs.Walking.{IsNext, walk}
use Rattle.run_counts.specs.IfLost.{IfLost}
use Rattle.run_counts.proofs.Replies.{judged_other}

-- no step was lost
abbrev pub NoLoss : Option Refusal → Type 0
NoLoss None = Unit {0}
NoLoss (Some r) = IfLost r (λ step. ⊥)

judged_no_loss : (step : Step) (es : List ℕ) (sent f : FrameValue) (o : Option Refusal) → judged step es sent f ≡ o → NoLoss o
judged_no_loss step es sent f None is = tt
judged_no_loss step es sent f (Some r) is = judged_other step es sent f r (λ step. ⊥) is

running_no_loss : (cfg : ConfigValue) (p : Progress) (sent : FrameValue) (back : Option FrameValue) → NoLoss p.refused → NoLoss (running cfg p sent back).refused
running_no_loss cfg p sent None h = h
running_no_loss cfg p sent (Some f) h = judged_no_loss (Drift p.drifts) (expected cfg p.words (Drift p.drifts) f) sent f _ refl

moved_no_loss : (cfg : ConfigValue) (p : Progress) (sent : FrameValue) (back : Option FrameValue) (o : Option Refusal) (s : Phase) → o ≡ None → s ≡ RunPhase → NoLoss p.refused → NoLoss (moved cfg (counted p back) sent back o s).refused
moved_no_loss cfg p sent back (Some r) s x y h = absurd cc
moved_no_loss cfg p sent back None Commissioning x y h = absurd cc
moved_no_loss cfg p sent back None Settling x y h = absurd cc
moved_no_loss cfg p sent back None Arming x y h = absurd cc
moved_no_loss cfg p sent back None RunPhase x y h = running_no_loss cfg (counted p back) sent back h

after_no_loss : (cfg : ConfigValue) (p : Progress) (e : Exchange) → p.refused ≡ None → p.phase ≡ RunPhase → NoLoss p.refused → NoLoss (after cfg p e).refused
unfolding after
after_no_loss cfg p e n s h = moved_no_loss cfg p e.sent e.back p.refused p.phase n s h

one_runs : (s : SegmentValue) (k : ℕ) (es : List Exchange) (e : Exchange) → script (master_of s) (Run k) es ≡ Send e.wait_ns e.sent
    → ((number : ℕ) → IsNext (Run k) (progress (master_of s) es) number → loses s frames.Drift number ≡ is_none e.back)
    → NoLoss (progress (master_of s) es).refused → NoLoss (after (master_of s) (progress (master_of s) es) e).refused
one_runs s k es e wanted now h =
    let phase = in_phase (master_of s) (Run k) es e.wait_ns e.sent wanted in
    after_no_loss (master_of s) (progress (master_of s) es) e phase.0 phase.1 h

pub run_answers : (s : SegmentValue) → IsLegal s → (before run : RunEnd) → IsLed s before → Begins (master_of s) RunPhase (progress (master_of s) before.exchanges) → HasGone s (Run (frames_given s)) before run → IsRefusedForLoss run
    → run.answer ≡ Ok tt
run_answers s legal before run led b gone honest = by_answer run.answer refl
  where
    stands : NoLoss (progress (master_of s) run.exchanges).refused
    stands =
        subst (λ (es : List Exchange). NoLoss (progress (master_of s) es).refused) (sym gone.all)
        (walk s legal (Run (frames_given s)) (omega arith) (λ p. NoLoss p.refused) (one_runs s (frames_given s)) before.exchanges gone.more before.state run.state led.scripted
        (in_step s legal before.exchanges before.state led.scripted led.runs) (subst NoLoss (sym b.unrefused) tt) gone.sends gone.runs)

    by_loss : (step : Step) → run.answer ≡ Err (Refused (Lost step)) → ⊥
    by_loss step e = subst NoLoss (refused_at_end (master_of s) (Run (frames_given s)) run.exchanges (Lost step) (gone.end ∙ ap ended e)) stands

    by_answer : (answer : Answer) → run.answer ≡ answer → answer ≡ Ok tt
    by_answer (Ok tt) e = refl
    by_answer (Err (Refused r)) e = let l = honest r e in absurd (by_loss l.0 (e ∙ ap (λ (x : Refusal). Err (Refused x)) l.1))
    by_answer (Err (Spent r)) e = absurd (never_spent (master_of s) (Run (frames_given s)) run.exchanges r (gone.end ∙ ap ended e))
