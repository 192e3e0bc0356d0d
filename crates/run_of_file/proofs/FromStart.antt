-- The exchanges of a run are those that the segment makes of its frames, from its start on.
use Rattle.std.proofs.Common.{◌≡◌, ℕ, ◌+◌, ◌≤◌, List, [], ◌∷◌, length, Bool, true, false, nat_lt, Option, Some, None, refl, sym, subst, arith}
use Rattle.std.specs.Prelude.{Ok, Err}
use Rattle.ecat_frame.specs.FrameGrammar.{FrameValue}
use Rattle.ecat_link.specs.Exchanges.{Exchange, Runs}
use Rattle.ecat_link.proofs.Exported.{driven, runs_then}
use Rattle.master_script.specs.Script.{Call, Commission, Settle, Arm, Run, Answer, script}
use Rattle.master_script.proofs.Exported.{sends_most}
use Rattle.loss_list.specs.Losses.{loss_at}
use Rattle.loss_list.specs.declared.loss_row.Phase.{Phase}
use Rattle.loss_list.specs.declared.loss_row.Phase.TheVariants.{Commission as CommissionFrame, Drift}
use Rattle.frame_pass.specs.SegmentState.{SegmentState, segment_step, carried, leaves_at, leaving, number_of, numbered, phase_of}
use Rattle.segment_file.specs.Segment.{SegmentValue}
use Rattle.segment_file.specs.Legal.{IsLegal}
use Rattle.segment_start.specs.Start.{started_segment}
use Rattle.run_of_file.specs.MasterOfFile.{master_of}
use Rattle.run_of_file.specs.RunOfFile.{RunEnd, turns, call_run, next_call, followed_by, frames_given, commissioned, settled, armed, ran}
use Rattle.run_of_file.proofs.InRange.{as_many_kinds, some_rows, few_rows, lock_in_few, loss_run_few, frames_few}
use Rattle.run_of_file.proofs.Ending.{ran_on}

-- a run that came to be so
abbrev pub IsFromStart : SegmentValue → RunEnd → Type 0
IsFromStart s run = Runs segment_step (Some (started_segment s)) run.exchanges (Some run.state)

abbrev pub AreFromStart : SegmentValue → Option RunEnd → Type 0
AreFromStart s o = (run : RunEnd) → o ≡ Some run → IsFromStart s run

call_from : (s : SegmentValue) (call : Call) (before : List Exchange) (state : SegmentState) → Runs segment_step (Some (started_segment s)) before (Some state)
    → AreFromStart s (call_run s call before state)
call_from s call before state r run is =
    let d = driven segment_step (script (master_of s) call) turns before state run is in
    subst (λ (es : List Exchange). Runs segment_step (Some (started_segment s)) es (Some run.state)) (sym d.all)
    (runs_then segment_step before d.more (Some (started_segment s)) (Some state) (Some run.state) r d.runs)

next_from : (s : SegmentValue) (call : Call) (run : RunEnd) (answer : Answer) → IsFromStart s run → AreFromStart s (next_call s call run answer)
next_from s call run (Ok tt) r = call_from s call run.exchanges run.state r
next_from s call run (Err e) r = λ later is. let same : run ≡ later = cc in subst (IsFromStart s) same r

followed_from : (s : SegmentValue) (call : Call) (o : Option RunEnd) → AreFromStart s o → AreFromStart s (followed_by call s o)
followed_from s call None h = λ run is. absurd (let x = is in cc)
followed_from s call (Some run) h = next_from s call run run.answer (h run refl)

pub commissioned_exchanges : (s : SegmentValue) → AreFromStart s (commissioned s)
unfolding commissioned
commissioned_exchanges s = call_from s Commission [] (started_segment s) refl

pub settled_exchanges : (s : SegmentValue) → AreFromStart s (settled s)
unfolding settled
settled_exchanges s = followed_from s Settle (commissioned s) (commissioned_exchanges s)

pub armed_exchanges : (s : SegmentValue) → AreFromStart s (armed s)
unfolding armed
armed_exchanges s = followed_from s Arm (settled s) (settled_exchanges s)

pub ran_exchanges : (s : SegmentValue) → AreFromStart s (ran s)
unfolding ran
ran_exchanges s = followed_from s (Run (frames_given s)) (armed s) (armed_exchanges s)

-- what each sending keeps, a run keeps
pub kept_by_runs : (P : SegmentState → Type 0) → ((s : SegmentState) (wait_ns : ℕ) (f : FrameValue) → P s → P (segment_step s wait_ns f).0)
    → (es : List Exchange) (s t : SegmentState) → Runs segment_step (Some s) es (Some t) → P s → P t
kept_by_runs P keeps [] s t r h = let same : s ≡ t = cc in subst P same h
kept_by_runs P keeps (e ∷ es) s t r h = kept_by_runs P keeps es (segment_step s e.wait_ns e.sent).0 t r.1 (keeps s e.wait_ns e.sent h)

-- a sending is counted once, or not at all
sent_numbered : (phase : Phase) (s : SegmentState) → (numbered phase s).sent ≡ s.sent
sent_numbered CommissionFrame s = refl
sent_numbered Drift s = refl

sent_carried : (o : Option ℕ) (s : SegmentState) (f : FrameValue) → (carried o s f).0.sent ≡ s.sent
sent_carried None s f = refl
sent_carried (Some n) s f = refl

sent_step : (s : SegmentState) (wait_ns : ℕ) (f : FrameValue) → (segment_step s wait_ns f).0.sent ≤ s.sent + 1
unfolding segment_step
sent_step s wait_ns f = by (nat_lt s.sent 1000000) refl
  where
    by : (b : Bool) → nat_lt s.sent 1000000 ≡ b → (segment_step s wait_ns f).0.sent ≤ s.sent + 1
    by true e =
        let phase = phase_of f.datagrams in
        let t = numbered phase (leaving (leaves_at s wait_ns) s) in
        let same = sent_carried (loss_at t.losses phase (number_of phase t)) t f in
        let left = sent_numbered phase (leaving (leaves_at s wait_ns) s) in
        rw e (omega (arith, same, left))
    by false e = rw e (omega arith)

sent_few : (es : List Exchange) (s t : SegmentState) → Runs segment_step (Some s) es (Some t) → t.sent ≤ s.sent + length es
sent_few [] s t r = let same : s ≡ t = cc in subst (λ (u : SegmentState). u.sent ≤ s.sent + 0) same (omega arith)
sent_few (e ∷ es) s t r =
    let later = sent_few es (segment_step s e.wait_ns e.sent).0 t r.1 in
    let one = sent_step s e.wait_ns e.sent in
    omega (arith, later, one)

none_sent : (s : SegmentValue) → (started_segment s).sent ≡ 0
unfolding started_segment
none_sent s = refl

-- a run of a legal segment sends few frames
pub ran_few : (s : SegmentValue) → IsLegal s → (run : RunEnd) → ran s ≡ Some run → run.state.sent ≤ 203097
ran_few s legal run is =
    let many = as_many_kinds s legal in
    let some = some_rows s legal in
    let few = few_rows s legal in
    let most = sends_most (master_of s) (frames_given s) run.exchanges (omega (arith, many, some)) (omega (arith, many, few)) (lock_in_few s legal) (loss_run_few s legal)
    ((ran_on s legal).on run is).scripted in
    let frames = frames_few s legal in
    let sent = sent_few run.exchanges (started_segment s) run.state (ran_exchanges s run is) in
    let none = none_sent s in
    omega (arith, most, frames, sent, none)
