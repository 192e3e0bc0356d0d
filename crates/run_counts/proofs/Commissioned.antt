-- The answer of commissioning, by the list of losses.
use Rattle.std.proofs.Common.{◌≡◌, ℕ, ◌+◌, List, [], ◌∷◌, ◌++◌, length, map, Option, Some, None, is_none, Result, Ok, Err, refl, sym, ap, ap₂, subst, ◌∙◌, arith}
use Rattle.std.proofs.lemmas.List.{append-nil}
use Rattle.std.specs.Result.{result_err}
use Rattle.ecat_link.specs.Exchanges.{Exchange, Runs}
use Rattle.ecat_link.specs.Serves.{Send, Sends}
use Rattle.ecat_link.proofs.Exported.{driven}
use Rattle.dc_delay.specs.ShapeRows.{positions}
use Rattle.master_script.specs.Config.{ConfigValue}
use Rattle.master_script.specs.Progress.{Phase, Commissioning, Settling, Arming, Running, Progress, progress, beginning, first_steps, later_steps, after}
use Rattle.master_script.specs.Script.{Answer, script, Commission}
use Rattle.master_script.specs.Scripted.{AreScripted, none}
use Rattle.master_script.specs.Slaves.{SlaveWords, measuring, clocks}
use Rattle.master_script.specs.declared.step.MasterError.TheVariants.{Refused, Spent}
use Rattle.master_script.specs.declared.step.Refusal.{Refusal}
use Rattle.master_script.specs.declared.step.Refusal.TheVariants.{Lost}
use Rattle.master_script.specs.declared.step.Step.{Step}
use Rattle.master_script.specs.declared.step.Step.TheVariants as step
use Rattle.master_script.proofs.Exported.{commission_done, calls_scripted}
use Rattle.loss_list.specs.declared.loss_row.Phase.TheVariants as frames
use Rattle.frame_pass.specs.SegmentState.{SegmentState, segment_step}
use Rattle.segment_file.specs.Segment.{SegmentValue}
use Rattle.segment_file.specs.Legal.{IsLegal}
use Rattle.segment_start.specs.Start.{started_segment}
use Rattle.lost_step.specs.LostStep.{loses, asked, measuring_positions, clock_positions, commission_steps, lost_in_commissioning}
use Rattle.lost_step.proofs.Exported.{behind_identify}
use Rattle.run_of_file.specs.MasterOfFile.{master_of}
use Rattle.run_of_file.specs.RunOfFile.{RunEnd, turns, frames_given, commissioned}
use Rattle.run_of_file.proofs.Exported.{as_many_kinds}
use Rattle.run_counts.specs.Answers.{answer_for}
use Rattle.run_counts.proofs.Honest.{TellsKinds, IsRefusedForLoss}
use Rattle.run_counts.specs.Commissioning.{Asks, Done, Stops, StandsBy, Stands, steps_known}
use Rattle.run_counts.proofs.Commissioning.{beginning_stands, after_stands}
use Rattle.run_counts.proofs.Ends.{ended, refused_at_end, never_spent, step_asked}
use Rattle.run_counts.proofs.Numbers.{in_phase, starts_in_step}
use Rattle.run_counts.proofs.Walking.{IsNext, walk}

nothing_sent : (cfg : ConfigValue) → progress cfg [] ≡ beginning cfg
unfolding progress
nothing_sent cfg = refl

asks_of : (lost : ℕ → _) (cfg : ConfigValue) (p : Progress) (o : Option Refusal) (s : Phase) → o ≡ None → s ≡ Commissioning → StandsBy lost cfg p o s → Asks lost cfg p
asks_of lost cfg p (Some r) s x y h = absurd cc
asks_of lost cfg p None Commissioning x y h = h
asks_of lost cfg p None Settling x y h = absurd cc
asks_of lost cfg p None Arming x y h = absurd cc
asks_of lost cfg p None Running x y h = absurd cc

one_step : (s : SegmentValue) (es : List Exchange) (e : Exchange) → script (master_of s) Commission es ≡ Send e.wait_ns e.sent
    → ((number : ℕ) → IsNext Commission (progress (master_of s) es) number → loses s frames.Commission number ≡ is_none e.back)
    → Stands (loses s frames.Commission) (master_of s) (progress (master_of s) es) → Stands (loses s frames.Commission) (master_of s) (after (master_of s) (progress (master_of s) es) e)
one_step s es e wanted now stands =
    let cfg = master_of s in
    let p = progress cfg es in
    let lost = loses s frames.Commission in
    let phase = in_phase cfg Commission es e.wait_ns e.sent wanted in
    let asks = asks_of lost cfg p p.refused p.phase phase.0 phase.1 stands in
    let some = step_asked cfg Commission es e.wait_ns e.sent tt wanted in
    let d = asks.drifts in
    after_stands lost cfg p e some.0 some.1 phase.0 phase.1 some.2 asks (now (p.sent + 1) (omega (arith, d)))

-- what a run of commissioning has come to
pub record HasCommissioned (s : SegmentValue) (state : SegmentState) (es : List Exchange) : Type 0 where
  pub scripted : AreScripted (master_of s) (frames_given s) es
  pub sends : Sends (script (master_of s) Commission) [] es
  pub runs : Runs segment_step (Some (started_segment s)) es (Some state)
  pub stands : Stands (loses s frames.Commission) (master_of s) (progress (master_of s) es)

pub has_commissioned : (s : SegmentValue) → IsLegal s → (run : RunEnd) → commissioned s ≡ Some run → HasCommissioned s run.state run.exchanges × (script (master_of s) Commission run.exchanges ≡ ended run.answer)
unfolding commissioned
has_commissioned s legal run is =
    let cfg = master_of s in
    let lost = loses s frames.Commission in
    let d = driven segment_step (script cfg Commission) turns [] (started_segment s) run is in
    let made = calls_scripted cfg (frames_given s) Commission [] d.more tt none d.script in
    let first : Stands lost cfg (progress cfg []) = subst (λ (p : Progress). Stands lost cfg p) (sym (nothing_sent cfg)) (beginning_stands lost cfg) in (
      subst (λ (es : List Exchange). HasCommissioned s run.state es) (sym d.all)
          (record {
            scripted = made;
            sends = d.script;
            runs = d.runs;
            stands = walk s legal Commission tt (Stands lost cfg) (one_step s) [] d.more (started_segment s) run.state none (starts_in_step s) first d.script d.runs;
          }),
      d.end,
    )

-- the steps of the file, by what was told
later_told : (s : SegmentValue) (ss : List SlaveWords) → measuring ss ≡ measuring_positions s → clocks ss ≡ clock_positions s → later_steps ss ≡ behind_identify s
later_told s ss m c = ap₂ (λ (ms cs : List ℕ). step.Rate ∷ step.Latch ∷ (map step.Times ms ++ map step.Set cs)) m c

first_told : (s : SegmentValue) → IsLegal s → (later : List Step) → later ≡ behind_identify s → first_steps (master_of s) ++ later ≡ commission_steps s
first_told s legal later is =
    ap (λ (n : ℕ). step.Count ∷ (map step.Identify (positions n) ++ later)) (as_many_kinds s legal)
    ∙ ap (λ (steps : List Step). step.Count ∷ (map step.Identify (positions (length s.rows)) ++ steps)) is

-- refused with a lost step
lost_by : (s : SegmentValue) → IsLegal s → (p : Progress) → TellsKinds s p.words → (lost : Step) (o : Option ℕ) → p.words.reference ≡ o
    → ((more : List Step) → asked (loses s frames.Commission) 1 (steps_known (master_of s) p.words.slaves o ++ more) ≡ Err lost) → lost_in_commissioning s ≡ Some lost
lost_by s legal p tells lost None is h =
    ap (λ (steps : List Step). result_err (asked (loses s frames.Commission) 1 steps)) (sym (first_told s legal (behind_identify s) refl))
    ∙ ap (λ (r : Result ℕ Step). result_err r) (h (behind_identify s))
lost_by s legal p tells lost (Some x) is h =
    ap (λ (steps : List Step). result_err (asked (loses s frames.Commission) 1 steps))
    (sym (append-nil (first_steps (master_of s) ++ later_steps p.words.slaves)
    ∙ first_told s legal (later_steps p.words.slaves) (later_told s p.words.slaves (tells.measuring x is) (tells.clocks x is))))
    ∙ ap (λ (r : Result ℕ Step). result_err r) (h [])

pub commission_lost : (s : SegmentValue) → IsLegal s → (run : RunEnd) → commissioned s ≡ Some run → TellsKinds s (progress (master_of s) run.exchanges).words → (lost : Step) → run.answer ≡ Err (Refused (Lost lost))
    → lost_in_commissioning s ≡ Some lost
commission_lost s legal run is tells lost answer =
    let cfg = master_of s in
    let p = progress cfg run.exchanges in
    let h = has_commissioned s legal run is in
    let refused = refused_at_end cfg Commission run.exchanges (Lost lost) (h.1 ∙ ap ended answer) in
    let stops : Stops (loses s frames.Commission) cfg p (Lost lost) = subst (λ (o : Option Refusal). StandsBy (loses s frames.Commission) cfg p o p.phase) refused h.0.stands in
    lost_by s legal p tells lost p.words.reference refl stops.lost_step

-- ended with Ok
pub commission_ended : (s : SegmentValue) → IsLegal s → (run : RunEnd) → commissioned s ≡ Some run → run.answer ≡ Ok tt → Done (loses s frames.Commission) (master_of s) (progress (master_of s) run.exchanges)
commission_ended s legal run is answer =
    let cfg = master_of s in
    let p = progress cfg run.exchanges in
    let lost = loses s frames.Commission in
    let h = has_commissioned s legal run is in
    let begins = (commission_done cfg run.exchanges h.0.sends (h.1 ∙ ap ended answer)).0 in
    subst (λ (x : Phase). StandsBy lost cfg p None x) begins.phase_is (subst (λ (o : Option Refusal). StandsBy lost cfg p o p.phase) begins.unrefused h.0.stands)

pub commission_came : (s : SegmentValue) → IsLegal s → (run : RunEnd) → commissioned s ≡ Some run → TellsKinds s (progress (master_of s) run.exchanges).words → run.answer ≡ Ok tt
    → asked (loses s frames.Commission) 1 (commission_steps s) ≡ Ok ((progress (master_of s) run.exchanges).sent + 1)
commission_came s legal run is tells answer =
    let p = progress (master_of s) run.exchanges in
    let done = commission_ended s legal run is answer in
    let x = done.judged in
    ap (asked (loses s frames.Commission) 1) (sym (first_told s legal (later_steps p.words.slaves) (later_told s p.words.slaves (tells.measuring x.0 x.1) (tells.clocks x.0 x.1)))) ∙ done.all

-- the answer
pub commission_answers : (s : SegmentValue) → IsLegal s → (run : RunEnd) → commissioned s ≡ Some run → TellsKinds s (progress (master_of s) run.exchanges).words → IsRefusedForLoss run
    → run.answer ≡ answer_for (lost_in_commissioning s)
commission_answers s legal run is tells honest = by_answer run.answer refl
  where
    by_refusal : (r : Refusal) → run.answer ≡ Err (Refused r) → Err (Refused r) ≡ answer_for (lost_in_commissioning s)
    by_refusal r e =
        let l = honest r e in
        let lost = commission_lost s legal run is tells l.0 (e ∙ ap (λ (x : Refusal). Err (Refused x)) l.1) in
        ap (λ (x : Refusal). Err (Refused x)) l.1 ∙ ap answer_for (sym lost)

    by_answer : (answer : Answer) → run.answer ≡ answer → answer ≡ answer_for (lost_in_commissioning s)
    by_answer (Ok tt) e = ap (λ (r : Result ℕ Step). answer_for (result_err r)) (sym (commission_came s legal run is tells e))
    by_answer (Err (Refused r)) e = by_refusal r e
    by_answer (Err (Spent r)) e = absurd (never_spent (master_of s) Commission run.exchanges r ((has_commissioned s legal run is).1 ∙ ap ended e))

-- then the clocks that were told are the file's
pub known_clocks : (s : SegmentValue) → IsLegal s → (run : RunEnd) → commissioned s ≡ Some run → TellsKinds s (progress (master_of s) run.exchanges).words → run.answer ≡ Ok tt
    → clocks (progress (master_of s) run.exchanges).words.slaves ≡ clock_positions s
known_clocks s legal run is tells answer = let x = (commission_ended s legal run is answer).judged in tells.clocks x.0 x.1
