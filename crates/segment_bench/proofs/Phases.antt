-- The phases of a run over a bench, one behind the other.
use Rattle.std.proofs.Common.{◌≡◌, ℕ, ◌≤◌, Some, None, sym, subst, ◌∙◌}
use Rattle.std.specs.Prelude.{Ok, Err}
use Rattle.ecat_link.specs.Serves.{Serves}
use Rattle.dc_bench.specs.BenchState.{BenchState}
use Rattle.frame_pass.specs.SegmentState.{SegmentState, segment_step, finished}
use Rattle.master_script.specs.Kept.{Ends, StandsFor}
use Rattle.master_script.specs.Script.{Answer, Call, Commission, Settle, Arm, Run, script}
use Rattle.master_script.specs.declared.step.MasterError.{MasterError}
use Rattle.master_script.specs.declared.step.Stage.TheVariants.{Ended}
use Rattle.run_of_file.specs.AtEnd.{IsAtEnd}
use Rattle.run_of_file.specs.RunOfFile.{commissioned, settled, armed, ran, end_of_run, frames_given}
use Rattle.run_of_file.proofs.Exported.{commissioned_by, settled_by, armed_by, ran_by, ran_few, commissioned_ends, settled_ends, armed_ends, ran_ends, whole_ends_so}
use Rattle.segment_file.specs.Legal.{IsLegal}
use Rattle.segment_file.specs.Segment.{SegmentValue}
use Rattle.segment_bench.specs.BenchRun.{HasRun}
use Rattle.segment_bench.specs.NewBench.{IsNew}
use Rattle.segment_bench.proofs.Started.{started}

-- what a call of the master over the wire says
abbrev Called : Call → BenchState → BenchState → Answer → Type 0
Called call old new answer = Serves segment_step (script old.master.config call) (StandsFor None old.master) (Some old.wire) (Some new.wire) (Ends old.master.config call new.master answer)

pub commissions : (s : SegmentValue) (a b : BenchState) (answer : Answer) → IsNew s a → b.master.config ≡ a.master.config → Called Commission a b answer
    → IsAtEnd s None (commissioned s) b.wire b.master answer
commissions s a b answer new same serves =
    commissioned_by s new.legal a.master new.master b.wire b.master same answer
    (subst (λ (w : SegmentState). Serves segment_step (script a.master.config Commission) (StandsFor None a.master) (Some w) (Some b.wire) (Ends a.master.config Commission b.master answer)) new.wire serves)

pub settles : (s : SegmentValue) (a b : BenchState) (before answer : Answer) → IsLegal s → IsAtEnd s None (commissioned s) a.wire a.master before → before ≡ Ok tt
    → b.master.config ≡ a.master.config → Called Settle a b answer → IsAtEnd s None (settled s) b.wire b.master answer
settles s a b before answer legal at ok same serves =
    settled_by s legal a.wire a.master (subst (IsAtEnd s None (commissioned s) a.wire a.master) ok at) b.wire b.master same answer serves

pub arms : (s : SegmentValue) (a b : BenchState) (before answer : Answer) → IsLegal s → IsAtEnd s None (settled s) a.wire a.master before → before ≡ Ok tt
    → b.master.config ≡ a.master.config → Called Arm a b answer → IsAtEnd s None (armed s) b.wire b.master answer
arms s a b before answer legal at ok same serves =
    armed_by s legal a.wire a.master (subst (IsAtEnd s None (settled s) a.wire a.master) ok at) b.wire b.master same answer serves

pub runs : (s : SegmentValue) (a b : BenchState) (before answer : Answer) (frames : ℕ) → IsLegal s → IsAtEnd s None (armed s) a.wire a.master before → before ≡ Ok tt
    → frames ≡ frames_given s → b.master.config ≡ a.master.config → Called (Run frames) a b answer → IsAtEnd s (Some (frames_given s)) (ran s) b.wire b.master answer
runs s a b before answer frames legal at ok are same serves =
    ran_by s legal a.wire a.master (subst (IsAtEnd s None (armed s) a.wire a.master) ok at) b.wire b.master same answer (subst (λ (k : ℕ). Called (Run k) a b answer) are serves)

-- a refusal is the end
pub stops_commissioned : (s : SegmentValue) (b : BenchState) (answer : Answer) (e : MasterError) → IsAtEnd s None (commissioned s) b.wire b.master answer → answer ≡ Err e → HasRun s b (Err e)
stops_commissioned s b answer e at is = (None, commissioned_ends s b.wire b.master e (subst (IsAtEnd s None (commissioned s) b.wire b.master) is at))

pub stops_settled : (s : SegmentValue) (b : BenchState) (answer : Answer) (e : MasterError) → IsAtEnd s None (settled s) b.wire b.master answer → answer ≡ Err e → HasRun s b (Err e)
stops_settled s b answer e at is = (None, settled_ends s b.wire b.master e (subst (IsAtEnd s None (settled s) b.wire b.master) is at))

pub stops_armed : (s : SegmentValue) (b : BenchState) (answer : Answer) (e : MasterError) → IsAtEnd s None (armed s) b.wire b.master answer → answer ≡ Err e → HasRun s b (Err e)
stops_armed s b answer e at is = (None, armed_ends s b.wire b.master e (subst (IsAtEnd s None (armed s) b.wire b.master) is at))

pub stops_ran : (s : SegmentValue) (b : BenchState) (answer : Answer) (e : MasterError) → IsAtEnd s (Some (frames_given s)) (ran s) b.wire b.master answer → answer ≡ Err e → HasRun s b (Err e)
stops_ran s b answer e at is = (Some (frames_given s), ran_ends s (Some (frames_given s)) b.wire b.master e (subst (IsAtEnd s (Some (frames_given s)) (ran s) b.wire b.master) is at))

-- few frames were sent
pub sends_few : (s : SegmentValue) (b : BenchState) (answer : Answer) → IsLegal s → IsAtEnd s (Some (frames_given s)) (ran s) b.wire b.master answer → b.wire.sent ≤ 203097
sends_few s b answer legal at = subst (λ (w : SegmentState). w.sent ≤ 203097) (sym at.segment_is) (ran_few s legal at.end at.run_is)

-- the whole run
pub ends : (s : SegmentValue) (a b : BenchState) (answer : Answer) (t : ℕ) → IsLegal s → IsAtEnd s (Some (frames_given s)) (ran s) a.wire a.master answer → answer ≡ Ok tt
    → a.master.stage ≡ Ended → t ≡ end_of_run s a.wire → b ≡ record a { wire = finished t a.wire } → HasRun s b (Ok tt)
ends s a b answer t legal at ok ended is new =
    let at1 = subst (IsAtEnd s (Some (frames_given s)) (ran s) a.wire a.master) ok at in
    let whole = whole_ends_so s (Some (frames_given s)) a.wire a.master at1 in
    let there = started s legal (Some (frames_given s)) at.end.exchanges a.master at.master_is ended in
    subst (λ (c : BenchState). HasRun s c (Ok tt)) (sym new)
    (subst (λ (k : ℕ). HasRun s (record a { wire = finished k a.wire }) (Ok tt)) (sym is) (whole, there))
