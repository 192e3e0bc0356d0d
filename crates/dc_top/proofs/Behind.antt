-- What is known of a bench that has made its run.
use Rattle.std.proofs.Common.{◌≡◌, ◌∙◌, ℕ, ◌≤◌, Option, Some, None, Ok, Err, ap, refl, sym, subst}
use Rattle.std.specs.Prelude.{false}
use Rattle.bench_report.proofs.Exported.{commissioned_delays, run_delays}
use Rattle.copy_law.proofs.Exported.{copies_stay, locked}
use Rattle.dc_bench.specs.BenchState.{BenchState}
use Rattle.delay_law.specs.NearDelays.{AreNear}
use Rattle.delay_law.proofs.Exported.{commissioned_near, later_near, whole_near}
use Rattle.edge_law.specs.InWindow.{AreEdgesWithin}
use Rattle.edge_law.proofs.Exported.{within_window}
use Rattle.edge_report.specs.Delays.{AreDelays}
use Rattle.frame_pass.specs.SegmentState.{SegmentState}
use Rattle.lost_step.specs.LostStep.{lost_step_of}
use Rattle.master_script.specs.Kept.{Kept}
use Rattle.master_script.specs.Script.{Answer, Arm, Call, Run as RunCall, Settle}
use Rattle.master_script.specs.declared.step.MasterError.{MasterError}
use Rattle.master_script.specs.declared.step.MasterError.TheVariants.{Refused}
use Rattle.master_script.specs.declared.step.Refusal.TheVariants.{Lost as LostStep}
use Rattle.master_script.specs.declared.step.Step.{Step}
use Rattle.master_script.proofs.Exported.{kept_counts}
use Rattle.run_counts.proofs.Exported.{honest_replies, whole_answers, whole_follows, commissioning_few, delays_at_end, whole_few, whole_counted, commissioned_answers}
use Rattle.run_of_file.specs.AtEnd.{IsAtEnd}
use Rattle.run_of_file.specs.MasterOfFile.{master_of}
use Rattle.run_of_file.specs.RunOfFile.{RunEnd, armed, commissioned, followed_by, frames_given, ran, run_of, settled}
use Rattle.run_counts.specs.Answers.{answer_for}
use Rattle.segment_bench.specs.BenchRun.{HasRun}
use Rattle.segment_file.specs.Legal.{IsLegal}
use Rattle.segment_file.specs.Segment.{SegmentValue}
use Rattle.dc_top.specs.Runs.{HasMade, InWindow, Together, goes_on}
use Rattle.dc_top.specs.Transmissions.{Sends, SendsRun}
use Rattle.dc_top.specs.declared.report.Report.{Report}
use Rattle.dc_top.specs.declared.report.Report.TheVariants.{Delays, Run, Drill}

-- ---- how it answers

abbrev ok_answer : Answer
ok_answer = Ok tt

abbrev err_answer : MasterError → Answer
err_answer e = Err e

-- how the run of a legal segment ends is told by the list of losses
answer_of : (r : Report) (s : SegmentValue) (b : BenchState) (answer : Answer) → IsLegal s → HasMade r s b answer → answer ≡ answer_for (lost_step_of s (goes_on r))
answer_of Delays s b answer legal run = sym run.answer_is ∙ commissioned_answers s legal (honest_replies s legal) run.end run.run_is
answer_of (Run edges) s b (Ok tt) legal run = sym run.0.answer_is ∙ whole_answers s run.0.end legal run.0.run_is
answer_of (Run edges) s b (Err e) legal run = sym run.1.answer_is ∙ whole_answers s run.1.end legal run.1.run_is
answer_of Drill s b (Ok tt) legal run = sym run.0.answer_is ∙ whole_answers s run.0.end legal run.0.run_is
answer_of Drill s b (Err e) legal run = sym run.1.answer_is ∙ whole_answers s run.1.end legal run.1.run_is

none_by : (o : Option Step) → ok_answer ≡ answer_for o → o ≡ None
none_by None e = refl
none_by (Some step) e = absurd (let x = e in cc)

some_by : (o : Option Step) (e : MasterError) → err_answer e ≡ answer_for o → (step : Step) × ((o ≡ Some step) × (e ≡ Refused (LostStep step)))
some_by None e h = absurd (let x = h in cc)
some_by (Some step) e h = let same : e ≡ Refused (LostStep step) = cc in (step, (refl, same))

pub none_lost : (r : Report) (s : SegmentValue) (b : BenchState) → IsLegal s → HasMade r s b (Ok tt) → lost_step_of s (goes_on r) ≡ None
none_lost r s b legal run = none_by (lost_step_of s (goes_on r)) (answer_of r s b (Ok tt) legal run)

-- it is refused for a lost step alone
pub only_lost : (r : Report) (s : SegmentValue) (b : BenchState) (e : MasterError) → IsLegal s → HasMade r s b (Err e) → (step : Step) × (e ≡ Refused (LostStep step))
only_lost r s b e legal run = let x = some_by (lost_step_of s (goes_on r)) e (answer_of r s b (Err e) legal run) in (x.0, x.1.1)

pub step_lost : (r : Report) (s : SegmentValue) (b : BenchState) (step : Step) → IsLegal s → HasMade r s b (Err (Refused (LostStep step))) → lost_step_of s (goes_on r) ≡ Some step
step_lost r s b step legal run =
    let x = some_by (lost_step_of s (goes_on r)) (Refused (LostStep step)) (answer_of r s b (Err (Refused (LostStep step))) legal run) in
    let same : x.0 ≡ step = let both = x.1.1 in cc in
    x.1.0 ∙ ap (λ (y : Step). Some y) same

-- ---- its delays

pub delays_near : (r : Report) (s : SegmentValue) (b : BenchState) → IsLegal s → HasMade r s b (Ok tt) → AreNear s b.master.delays
delays_near Delays s b legal at = subst (λ (m : Kept). AreNear s m.delays) (sym at.master_is) (commissioned_near s legal at.end at.run_is at.answer_is)
delays_near (Run edges) s b legal at = subst (λ (m : Kept). AreNear s m.delays) (sym at.0.master_is) (whole_near s at.0.end (Some (frames_given s)) legal at.0.run_is at.0.answer_is)
delays_near Drill s b legal at = subst (λ (m : Kept). AreNear s m.delays) (sym at.0.master_is) (whole_near s at.0.end (Some (frames_given s)) legal at.0.run_is at.0.answer_is)

pub delays_there : (r : Report) (s : SegmentValue) (b : BenchState) → IsLegal s → HasMade r s b (Ok tt) → AreDelays s b.master.delays
delays_there Delays s b legal at = commissioned_delays s b legal at
delays_there (Run edges) s b legal at = run_delays s b legal at
delays_there Drill s b legal at = run_delays s b legal at

-- the commissioning of a whole run
before : (call : Call) (s : SegmentValue) (o : Option RunEnd) (run : RunEnd) → followed_by call s o ≡ Some run → (first : RunEnd) × (o ≡ Some first)
before call s None run is = absurd (let x = is in cc)
before call s (Some first) run is = (first, refl)

before_settled : (s : SegmentValue) (run : RunEnd) → settled s ≡ Some run → (first : RunEnd) × (commissioned s ≡ Some first)
unfolding settled
before_settled s run is = before Settle s (commissioned s) run is

before_armed : (s : SegmentValue) (run : RunEnd) → armed s ≡ Some run → (first : RunEnd) × (settled s ≡ Some first)
unfolding armed
before_armed s run is = before Arm s (settled s) run is

before_ran : (s : SegmentValue) (run : RunEnd) → ran s ≡ Some run → (first : RunEnd) × (armed s ≡ Some first)
unfolding ran
before_ran s run is = before (RunCall (frames_given s)) s (armed s) run is

first_phase : (s : SegmentValue) (run : RunEnd) → run_of s ≡ Some run → (first : RunEnd) × (commissioned s ≡ Some first)
first_phase s run is =
    let last = whole_follows s run is in
    let third = before_ran s last.last last.is in
    let second = before_armed s third.0 third.1 in
    before_settled s second.0 second.1

-- behind it the delays are near, however the run ends
delays_near_later : (s : SegmentValue) (b : BenchState) (e : MasterError) → IsLegal s → HasRun s b (Err e) → lost_step_of s false ≡ None → AreNear s b.master.delays
delays_near_later s b e legal run none =
    let at = run.1 in
    let first = first_phase s at.end at.run_is in
    let fine : first.0.answer ≡ Ok tt = commissioned_answers s legal (honest_replies s legal) first.0 first.1 ∙ ap answer_for none in
    subst (λ (m : Kept). AreNear s m.delays) (sym at.master_is) (later_near s first.0 at.end run.0 legal first.1 fine at.run_is)

pub near_if_later : (r : Report) (s : SegmentValue) (b : BenchState) (step : Step) → IsLegal s → HasMade r s b (Err (Refused (LostStep step))) → lost_step_of s (goes_on r) ≡ Some step
    → lost_step_of s false ≡ None → AreNear s b.master.delays
near_if_later Delays s b step legal run lost none = absurd (let x = sym lost ∙ none in cc)
near_if_later (Run edges) s b step legal run lost none = delays_near_later s b (Refused (LostStep step)) legal run none
near_if_later Drill s b step legal run lost none = delays_near_later s b (Refused (LostStep step)) legal run none

-- ---- its clocks

pub come_together : (r : Report) (s : SegmentValue) → IsLegal s → Together r s
come_together Delays s legal = tt
come_together (Run edges) s legal = record { lock_in = locked s legal; copies = copies_stay s legal }
come_together Drill s legal = record { lock_in = locked s legal; copies = copies_stay s legal }

-- ---- its edges

edges_within : (s : SegmentValue) (b : BenchState) → IsLegal s → HasRun s b (Ok tt) → AreEdgesWithin s b.wire.slaves
edges_within s b legal at =
    subst (λ (x : SegmentState). AreEdgesWithin s x.slaves) (sym at.0.segment_is) (within_window s legal at.0.end at.0.run_is at.0.answer_is)

pub lie_within : (r : Report) (s : SegmentValue) (b : BenchState) → IsLegal s → HasMade r s b (Ok tt) → InWindow r s b
lie_within Delays s b legal at = tt
lie_within (Run edges) s b legal at = edges_within s b legal at
lie_within Drill s b legal at = edges_within s b legal at

-- ---- the frames that it has sent

run_sends : (s : SegmentValue) (state : SegmentState) (m : Kept) → IsLegal s → IsAtEnd s (Some (frames_given s)) (run_of s) state m (Ok tt) → SendsRun s m.sent
run_sends s state m legal at =
    let counted = whole_counted s legal at.end at.run_is at.answer_is in
    record {
      run = at.end;
      is = at.run_is;
      phases = counted.0;
      many = ap (λ (k : Kept). k.sent) at.master_is ∙ (kept_counts (master_of s) (Some (frames_given s)) at.end.exchanges).0 ∙ counted.1.whole;
    }

pub frames_told : (r : Report) (s : SegmentValue) (b : BenchState) → IsLegal s → HasMade r s b (Ok tt) → Sends r s b
frames_told Delays s b legal at = delays_at_end s b.wire b.master legal at
frames_told (Run edges) s b legal at = run_sends s b.wire b.master legal at.0
frames_told Drill s b legal at = run_sends s b.wire b.master legal at.0

run_few : (s : SegmentValue) (b : BenchState) (answer : Answer) → IsLegal s → HasRun s b answer → b.master.sent ≤ 100000
run_few s b (Ok tt) legal at = whole_few s (Some (frames_given s)) b.wire b.master (Ok tt) legal at.0
run_few s b (Err e) legal at = whole_few s at.0 b.wire b.master (Err e) legal at.1

pub frames_few : (r : Report) (s : SegmentValue) (b : BenchState) (answer : Answer) → IsLegal s → HasMade r s b answer → b.master.sent ≤ 100000
frames_few Delays s b answer legal at = commissioning_few s None b.wire b.master answer legal at
frames_few (Run edges) s b answer legal at = run_few s b answer legal at
frames_few Drill s b answer legal at = run_few s b answer legal at
