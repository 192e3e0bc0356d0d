-- Replies in the run of a legal segment are honest.
use Rattle.std.proofs.Common.{◌≡◌, Some, ap, ◌∙◌}
use Rattle.std.specs.Prelude.{Err}
use Rattle.honest_slaves.proofs.Exported.{judged_told, told_measuring, told_clocks, commissioned_honest, settled_honest, armed_honest, ran_honest}
use Rattle.lost_step.specs.LostStep.{measuring_positions, clock_positions}
use Rattle.master_script.specs.Progress.{progress}
use Rattle.master_script.specs.Slaves.{measuring, clocks}
use Rattle.master_script.specs.declared.step.MasterError.{MasterError}
use Rattle.master_script.specs.declared.step.MasterError.TheVariants.{Refused}
use Rattle.master_script.specs.declared.step.Refusal.{Refusal}
use Rattle.master_script.specs.declared.step.Refusal.TheVariants.{Lost}
use Rattle.master_script.specs.declared.step.Step.{Step}
use Rattle.run_of_file.specs.MasterOfFile.{master_of}
use Rattle.run_of_file.specs.RunOfFile.{RunEnd, commissioned}
use Rattle.run_counts.proofs.Honest.{HasHonestReplies, IsRefusedForLoss, TellsKinds}
use Rattle.segment_file.specs.Legal.{IsLegal}
use Rattle.segment_file.specs.Segment.{SegmentValue}

same_refusal : {r t : Refusal} → Refused r ≡ Refused t → r ≡ t
same_refusal e = cc

lost_alone : (run : RunEnd) → ((x : MasterError) → run.answer ≡ Err x → (step : Step) × (x ≡ Refused (Lost step))) → IsRefusedForLoss run
lost_alone run loss r e = let x = loss (Refused r) e in (x.0, same_refusal x.1)

kinds_told : (s : SegmentValue) → IsLegal s → (run : RunEnd) → commissioned s ≡ Some run → TellsKinds s (progress (master_of s) run.exchanges).words
unfolding measuring_positions clock_positions
kinds_told s legal run is = record {
  measuring = λ r e. ap measuring (judged_told s run r legal is e) ∙ told_measuring s legal;
  clocks = λ r e. ap clocks (judged_told s run r legal is e) ∙ told_clocks s legal;
}

pub honest_replies : (s : SegmentValue) → IsLegal s → HasHonestReplies s
honest_replies s legal = record {
  commissioned = λ run is. (lost_alone run (commissioned_honest s legal run is).loss, kinds_told s legal run is);
  settled = λ run is. lost_alone run (settled_honest s legal run is).loss;
  armed = λ run is. lost_alone run (armed_honest s legal run is).loss;
  ran = λ run is. lost_alone run (ran_honest s legal run is).loss;
}
