-- The answer of arming, by the list of losses.
use Rattle.std.proofs.Common.{◌≡◌, ℕ, ◌+◌, List, [], ◌++◌, map, Option, Some, None, is_none, Result, Ok, Err, refl, sym, ap, subst, ◌∙◌, arith}
use Rattle.std.proofs.lemmas.List.{append-nil}
use Rattle.std.specs.Result.{result_err}
use Rattle.ecat_link.specs.Exchanges.{Exchange}
use Rattle.ecat_link.specs.Serves.{Send}
use Rattle.master_script.specs.Begins.{Begins}
use Rattle.master_script.specs.Config.{settle_frames}
use Rattle.master_script.specs.Progress.{Phase, Commissioning, Settling, Arming, Running, Progress, progress, after, arm_steps}
use Rattle.master_script.specs.Script.{Answer, script, Arm}
use Rattle.master_script.specs.Slaves.{SlaveWords, clocks}
use Rattle.master_script.specs.declared.step.MasterError.TheVariants.{Refused, Spent}
use Rattle.master_script.specs.declared.step.Refusal.{Refusal}
use Rattle.master_script.specs.declared.step.Refusal.TheVariants.{Lost}
use Rattle.master_script.specs.declared.step.Step.{Step}
use Rattle.master_script.specs.declared.step.Step.TheVariants as step
use Rattle.master_script.proofs.Exported.{arm_sends}
use Rattle.loss_list.specs.declared.loss_row.Phase.TheVariants as frames
use Rattle.segment_file.specs.Segment.{SegmentValue}
use Rattle.segment_file.specs.Legal.{IsLegal}
use Rattle.lost_step.specs.LostStep.{loses, asked, clock_positions, arm_steps as steps_of_arming, first_arming, lost_in_arming}
use Rattle.run_of_file.specs.MasterOfFile.{master_of}
use Rattle.run_of_file.specs.RunOfFile.{RunEnd}
use Rattle.run_counts.specs.Answers.{answer_for}
use Rattle.run_counts.proofs.Honest.{IsRefusedForLoss}
use Rattle.run_counts.specs.Arming.{ArmsBy, StandsArming, StopsArming, Armed}
use Rattle.run_counts.proofs.Arming.{after_arms}
use Rattle.run_counts.proofs.Tries.{begins}
use Rattle.run_counts.proofs.Ends.{ended, refused_at_end, never_spent, step_asked}
use Rattle.run_counts.proofs.Led.{IsLed, HasGone}
use Rattle.run_counts.proofs.Numbers.{in_step, in_phase}
use Rattle.run_counts.proofs.Walking.{IsNext, walk}
use Rattle.run_counts.proofs.Settled.{BeginsArming}
use Rattle.run_counts.specs.Reached.{Reached}

arms_of : (lost : ℕ → _) (begin : ℕ) (all : List Step) (p : Progress) (o : Option Refusal) (s : Phase) → o ≡ None → s ≡ Arming → ArmsBy lost begin all p o s → Reached lost begin all p.todo (p.drifts + 1) p.tries
arms_of lost begin all p (Some r) s x y h = absurd cc
arms_of lost begin all p None Commissioning x y h = absurd cc
arms_of lost begin all p None Settling x y h = absurd cc
arms_of lost begin all p None Arming x y h = h
arms_of lost begin all p None Running x y h = absurd cc

one_arms : (s : SegmentValue) (begin : ℕ) (all : List Step) (es : List Exchange) (e : Exchange) → script (master_of s) Arm es ≡ Send e.wait_ns e.sent
    → ((number : ℕ) → IsNext Arm (progress (master_of s) es) number → loses s frames.Drift number ≡ is_none e.back)
    → StandsArming (loses s frames.Drift) begin all (progress (master_of s) es) → StandsArming (loses s frames.Drift) begin all (after (master_of s) (progress (master_of s) es) e)
one_arms s begin all es e wanted now stands =
    let cfg = master_of s in
    let p = progress cfg es in
    let lost = loses s frames.Drift in
    let phase = in_phase cfg Arm es e.wait_ns e.sent wanted in
    let some = step_asked cfg Arm es e.wait_ns e.sent tt wanted in
    after_arms lost begin all cfg p e some.0 some.1 phase.0 phase.1 some.2 (arms_of lost begin all p p.refused p.phase phase.0 phase.1 stands) (now (p.drifts + 1) refl)

pub master_first : (s : SegmentValue) → settle_frames (master_of s) + 1 ≡ first_arming s
unfolding master_of
master_first s = omega arith

pub arm_stands : (s : SegmentValue) → IsLegal s → (ss : List SlaveWords) (before run : RunEnd) → IsLed s before → BeginsArming s ss before.exchanges → HasGone s Arm before run
    → StandsArming (loses s frames.Drift) (first_arming s) (arm_steps ss) (progress (master_of s) run.exchanges)
arm_stands s legal ss before run led b gone =
    let cfg = master_of s in
    let lost = loses s frames.Drift in
    let p = progress cfg before.exchanges in
    let number : first_arming s ≡ p.drifts + 1 = sym (master_first s) ∙ ap (λ (n : ℕ). n + 1) (sym b.drifts) in
    let first : Reached lost (first_arming s) (arm_steps ss) p.todo (p.drifts + 1) p.tries =
    subst (λ (todo : List Step). Reached lost (first_arming s) (arm_steps ss) todo (p.drifts + 1) p.tries) (sym b.todo)
    (subst (λ (k : ℕ). Reached lost (first_arming s) (arm_steps ss) (arm_steps ss) (p.drifts + 1) k) (sym b.tries)
    (subst (λ (n : ℕ). Reached lost (first_arming s) (arm_steps ss) (arm_steps ss) n 0) number (begins lost (first_arming s) (arm_steps ss)))) in
    subst (λ (es : List Exchange). StandsArming lost (first_arming s) (arm_steps ss) (progress cfg es)) (sym gone.all)
    (walk s legal Arm tt (StandsArming lost (first_arming s) (arm_steps ss)) (one_arms s (first_arming s) (arm_steps ss)) before.exchanges gone.more before.state run.state led.scripted
    (in_step s legal before.exchanges before.state led.scripted led.runs)
    (subst (λ (o : Option Refusal). ArmsBy lost (first_arming s) (arm_steps ss) p o p.phase) (sym b.begins.unrefused)
    (subst (λ (x : Phase). ArmsBy lost (first_arming s) (arm_steps ss) p None x) (sym b.begins.phase_is) first)) gone.sends gone.runs)

-- where arming ended with Ok, its exchanges all came
pub arm_done : (s : SegmentValue) → IsLegal s → (ss : List SlaveWords) (before run : RunEnd) → IsLed s before → BeginsArming s ss before.exchanges → HasGone s Arm before run → run.answer ≡ Ok tt
    → Begins (master_of s) Running (progress (master_of s) run.exchanges) × (asked (loses s frames.Drift) (first_arming s) (arm_steps ss) ≡ Ok ((progress (master_of s) run.exchanges).drifts + 1))
arm_done s legal ss before run led b gone ok =
    let cfg = master_of s in
    let p = progress cfg run.exchanges in
    let lost = loses s frames.Drift in
    let end : script cfg Arm (before.exchanges ++ gone.more) ≡ ended (Ok tt) = ap (script cfg Arm) (sym gone.all) ∙ gone.end ∙ ap ended ok in
    let now : Begins cfg Running p = subst (λ (es : List Exchange). Begins cfg Running (progress cfg es)) (sym gone.all) (arm_sends cfg before.exchanges gone.more b.begins gone.sends end).0 in
    let all : Armed lost (first_arming s) (arm_steps ss) p =
    subst (λ (x : Phase). ArmsBy lost (first_arming s) (arm_steps ss) p None x) now.phase_is
    (subst (λ (o : Option Refusal). ArmsBy lost (first_arming s) (arm_steps ss) p o p.phase) now.unrefused (arm_stands s legal ss before run led b gone)) in
    (now, all.came)

file_steps : (s : SegmentValue) (ss : List SlaveWords) → clocks ss ≡ clock_positions s → arm_steps ss ≡ steps_of_arming s
file_steps s ss told = ap (λ (ps : List ℕ). map step.Arm ps) told

pub arm_answers : (s : SegmentValue) → IsLegal s → (ss : List SlaveWords) (before run : RunEnd) → clocks ss ≡ clock_positions s → IsLed s before → BeginsArming s ss before.exchanges → HasGone s Arm before run → IsRefusedForLoss run
    → run.answer ≡ answer_for (lost_in_arming s)
arm_answers s legal ss before run told led b gone honest = by_answer run.answer refl
  where
    by_loss : (lost : Step) → run.answer ≡ Err (Refused (Lost lost)) → lost_in_arming s ≡ Some lost
    by_loss lost e =
        let refused = refused_at_end (master_of s) Arm run.exchanges (Lost lost) (gone.end ∙ ap ended e) in
        let p = progress (master_of s) run.exchanges in
        let stops : StopsArming (loses s frames.Drift) (first_arming s) (arm_steps ss) p (Lost lost) =
        subst (λ (o : Option Refusal). ArmsBy (loses s frames.Drift) (first_arming s) (arm_steps ss) p o p.phase) refused (arm_stands s legal ss before run led b gone) in
        ap (λ (steps : List Step). result_err (asked (loses s frames.Drift) (first_arming s) steps)) (sym (append-nil (arm_steps ss) ∙ file_steps s ss told))
        ∙ ap (λ (r : Result ℕ Step). result_err r) (stops.lost_step [])

    by_answer : (answer : Answer) → run.answer ≡ answer → answer ≡ answer_for (lost_in_arming s)
    by_answer (Ok tt) e =
        ap (λ (r : Result ℕ Step). answer_for (result_err r)) (sym (ap (asked (loses s frames.Drift) (first_arming s)) (sym (file_steps s ss told)) ∙ (arm_done s legal ss before run led b gone e).1))
    by_answer (Err (Refused r)) e =
        let l = honest r e in
        ap (λ (x : Refusal). Err (Refused x)) l.1 ∙ ap answer_for (sym (by_loss l.0 (e ∙ ap (λ (x : Refusal). Err (Refused x)) l.1)))
    by_answer (Err (Spent r)) e = absurd (never_spent (master_of s) Arm run.exchanges r (gone.end ∙ ap ended e))
