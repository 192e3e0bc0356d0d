-- A master over a segment makes the run of the file, call by call.
use Rattle.std.proofs.Common.{◌≡◌, ℕ, ◌<◌, List, [], ◌++◌, length, Option, Some, None, refl, sym, ap, subst, ◌∙◌, arith, length-append}
use Rattle.std.specs.Prelude.{Ok}
use Rattle.ecat_link.specs.Exchanges.{Exchange}
use Rattle.ecat_link.specs.Serves.{Serves, Sends, End}
use Rattle.ecat_link.proofs.Exported.{run_is}
use Rattle.master_script.specs.Config.{ConfigValue}
use Rattle.master_script.specs.Kept.{Kept, kept_after, StandsFor, Ends, given}
use Rattle.master_script.specs.Script.{Call, Commission, Settle, Arm, Run, Answer, script}
use Rattle.master_script.specs.Scripted.{AreScripted, IsLimited, none}
use Rattle.master_script.proofs.Exported.{calls_scripted, sends_most}
use Rattle.frame_pass.specs.Invariants.{IsSoundSegment}
use Rattle.frame_pass.specs.SegmentState.{SegmentState, segment_step}
use Rattle.segment_file.specs.Segment.{SegmentValue}
use Rattle.segment_file.specs.Legal.{IsLegal}
use Rattle.segment_start.specs.Start.{started_segment}
use Rattle.run_of_file.specs.MasterOfFile.{master_of}
use Rattle.run_of_file.specs.RunOfFile.{RunEnd, turns, call_run, next_call, followed_by, frames_given, commissioned_from, settled_from, armed_from, ran_from, commissioned, settled, armed, ran, master_after}
use Rattle.run_of_file.specs.AtEnd.{IsAtEnd}
use Rattle.run_of_file.proofs.InRange.{as_many_kinds, some_rows, few_rows, lock_in_few, loss_run_few, frames_few}
use Rattle.run_of_file.proofs.Ending.{HasEnd, turns_are, commissioned_from_on, settled_from_on, armed_from_on, commissioned_on, settled_on, armed_on}

some_same : {X : Type 0} {x y : X} → Some x ≡ Some y → x ≡ y
some_same e = cc

-- all exchanges of the calls of a legal segment are fewer than the turns
few_turns : (s : SegmentValue) → IsLegal s → (before es : List Exchange) → AreScripted (master_of s) (frames_given s) (before ++ es) → length es < turns
few_turns s legal before es made =
    let many = as_many_kinds s legal in
    let some = some_rows s legal in
    let few = few_rows s legal in
    let most = sends_most (master_of s) (frames_given s) (before ++ es) (omega (arith, many, some)) (omega (arith, many, few)) (lock_in_few s legal) (loss_run_few s legal) made in
    let frames = frames_few s legal in
    let parts = length-append before es in
    let t = turns_are in
    omega (arith, most, frames, parts, t)

-- the configuration of a master that stands for exchanges of the file
config_is : (s : SegmentValue) (m : Kept) (frames : Option ℕ) (es : List Exchange) → m ≡ master_after s frames es → m.config ≡ master_of s
unfolding kept_after
config_is s m frames es e = ap (λ (k : Kept). k.config) e

-- one call
one_call : (s : SegmentValue) → IsLegal s → (call : Call) → IsLimited (frames_given s) call → (before : List Exchange) → AreScripted (master_of s) (frames_given s) before
    → (state : SegmentState) (m : Kept) → m ≡ master_after s None before → (later : SegmentState) (n : Kept) → n.config ≡ m.config → (answer : Answer)
    → Serves segment_step (script m.config call) (StandsFor None m) (Some state) (Some later) (Ends m.config call n answer)
    → IsAtEnd s (given call) (call_run s call before state) later n answer
one_call s legal call limited before scripted state m is later n same answer serves =
    let cfg : m.config ≡ master_of s = config_is s m None before is in
    let es = serves.exchanges in
    let stood : StandsFor None m before = is ∙ sym (ap (λ (k : ConfigValue). kept_after k None before) cfg) in
    let sends : Sends (script (master_of s) call) before es = subst (λ (k : ConfigValue). Sends (script k call) before es) cfg (serves.script before stood) in
    let ends = serves.stands before stood in
    let end : script (master_of s) call (before ++ es) ≡ End answer = subst (λ (k : ConfigValue). script k call (before ++ es) ≡ End answer) cfg ends.end in
    let r = run_is segment_step (script (master_of s) call) es turns before state (Some later) answer serves.runs sends end
    (few_turns s legal before es (calls_scripted (master_of s) (frames_given s) call before es limited scripted sends)) in
    record {
      end = record { exchanges = before ++ es; state = r.0; answer = answer };
      run_is = r.2;
      segment_is = some_same r.1;
      master_is = ends.stands ∙ ap (λ (k : ConfigValue). kept_after k (given call) (before ++ es)) (same ∙ cfg);
      answer_is = refl;
    }

-- a call behind a run that ended with Ok
next_by : (s : SegmentValue) → IsLegal s → (call : Call) → IsLimited (frames_given s) call → (run : Option RunEnd) → HasEnd s run
    → (state : SegmentState) (m : Kept) → IsAtEnd s None run state m (Ok tt) → (later : SegmentState) (n : Kept) → n.config ≡ m.config → (answer : Answer)
    → Serves segment_step (script m.config call) (StandsFor None m) (Some state) (Some later) (Ends m.config call n answer)
    → IsAtEnd s (given call) (followed_by call s run) later n answer
next_by s legal call limited run has state m at later n same answer serves =
    let c = one_call s legal call limited at.end.exchanges (has.on at.end at.run_is).scripted at.end.state m at.master_is later n same answer
    (subst (λ (v : SegmentState). Serves segment_step (script m.config call) (StandsFor None m) (Some v) (Some later) (Ends m.config call n answer)) at.segment_is serves) in
    let here : followed_by call s run ≡ call_run s call at.end.exchanges at.end.state = ap (followed_by call s) at.run_is ∙ ap (next_call s call at.end) at.answer_is in
    record { end = c.end; run_is = here ∙ c.run_is; segment_is = c.segment_is; master_is = c.master_is; answer_is = c.answer_is }

-- a run from any state of the segment on
module _ (s : SegmentValue) (legal : IsLegal s) (start : SegmentState) where
  pub commissioned_from_by : (m : Kept) → m ≡ master_after s None [] → (later : SegmentState) (n : Kept) → n.config ≡ m.config → (answer : Answer)
      → Serves segment_step (script m.config Commission) (StandsFor None m) (Some start) (Some later) (Ends m.config Commission n answer)
      → IsAtEnd s None (commissioned_from s start) later n answer
  commissioned_from_by m is later n same answer serves = one_call s legal Commission tt [] none start m is later n same answer serves

  module _ (timely : IsSoundSegment start) (state : SegmentState) (m : Kept) where
    pub settled_from_by : IsAtEnd s None (commissioned_from s start) state m (Ok tt) → (later : SegmentState) (n : Kept) → n.config ≡ m.config → (answer : Answer)
        → Serves segment_step (script m.config Settle) (StandsFor None m) (Some state) (Some later) (Ends m.config Settle n answer)
        → IsAtEnd s None (settled_from s start) later n answer
    settled_from_by at later n same answer serves =
        next_by s legal Settle tt (commissioned_from s start) (commissioned_from_on s legal start timely) state m at later n same answer serves

    pub armed_from_by : IsAtEnd s None (settled_from s start) state m (Ok tt) → (later : SegmentState) (n : Kept) → n.config ≡ m.config → (answer : Answer)
        → Serves segment_step (script m.config Arm) (StandsFor None m) (Some state) (Some later) (Ends m.config Arm n answer)
        → IsAtEnd s None (armed_from s start) later n answer
    armed_from_by at later n same answer serves =
        next_by s legal Arm tt (settled_from s start) (settled_from_on s legal start timely) state m at later n same answer serves

    pub ran_from_by : IsAtEnd s None (armed_from s start) state m (Ok tt) → (later : SegmentState) (n : Kept) → n.config ≡ m.config → (answer : Answer)
        → Serves segment_step (script m.config (Run (frames_given s))) (StandsFor None m) (Some state) (Some later) (Ends m.config (Run (frames_given s)) n answer)
        → IsAtEnd s (Some (frames_given s)) (ran_from s start) later n answer
    ran_from_by at later n same answer serves =
        next_by s legal (Run (frames_given s)) (omega arith) (armed_from s start) (armed_from_on s legal start timely) state m at later n same answer serves

pub commissioned_by : (s : SegmentValue) → IsLegal s → (m : Kept) → m ≡ master_after s None [] → (later : SegmentState) (n : Kept) → n.config ≡ m.config → (answer : Answer)
    → Serves segment_step (script m.config Commission) (StandsFor None m) (Some (started_segment s)) (Some later) (Ends m.config Commission n answer)
    → IsAtEnd s None (commissioned s) later n answer
unfolding commissioned
commissioned_by s legal m is later n same answer serves = commissioned_from_by s legal (started_segment s) m is later n same answer serves

pub settled_by : (s : SegmentValue) → IsLegal s → (state : SegmentState) (m : Kept) → IsAtEnd s None (commissioned s) state m (Ok tt)
    → (later : SegmentState) (n : Kept) → n.config ≡ m.config → (answer : Answer)
    → Serves segment_step (script m.config Settle) (StandsFor None m) (Some state) (Some later) (Ends m.config Settle n answer)
    → IsAtEnd s None (settled s) later n answer
unfolding settled
settled_by s legal state m at later n same answer serves = next_by s legal Settle tt (commissioned s) (commissioned_on s legal) state m at later n same answer serves

pub armed_by : (s : SegmentValue) → IsLegal s → (state : SegmentState) (m : Kept) → IsAtEnd s None (settled s) state m (Ok tt)
    → (later : SegmentState) (n : Kept) → n.config ≡ m.config → (answer : Answer)
    → Serves segment_step (script m.config Arm) (StandsFor None m) (Some state) (Some later) (Ends m.config Arm n answer)
    → IsAtEnd s None (armed s) later n answer
unfolding armed
armed_by s legal state m at later n same answer serves = next_by s legal Arm tt (settled s) (settled_on s legal) state m at later n same answer serves

pub ran_by : (s : SegmentValue) → IsLegal s → (state : SegmentState) (m : Kept) → IsAtEnd s None (armed s) state m (Ok tt)
    → (later : SegmentState) (n : Kept) → n.config ≡ m.config → (answer : Answer)
    → Serves segment_step (script m.config (Run (frames_given s))) (StandsFor None m) (Some state) (Some later) (Ends m.config (Run (frames_given s)) n answer)
    → IsAtEnd s (Some (frames_given s)) (ran s) later n answer
unfolding ran
ran_by s legal state m at later n same answer serves = next_by s legal (Run (frames_given s)) (omega arith) (armed s) (armed_on s legal) state m at later n same answer serves
