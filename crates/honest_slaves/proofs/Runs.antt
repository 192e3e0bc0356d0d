-- Whole calls, and the run of a file.
use Rattle.std.proofs.Common.{◌≡◌, ℕ, Bool, true, false, cond, ltb, List, [], ◌∷◌, ◌++◌, length, map, Option, Some, None, Ok, Err, refl, sym, ap, subst, ◌∙◌, arith, append_assoc, inl, inr}
use Rattle.std.specs.Prelude.{IfSome}
use Rattle.std.proofs.lemmas.List.{append-nil}
use Rattle.ecat_frame.specs.FrameGrammar.{FrameValue}
use Rattle.ecat_link.specs.Exchanges.{Exchange, Runs}
use Rattle.ecat_link.specs.Serves.{Send, End, Sends}
use Rattle.ecat_link.proofs.Exported.{driven}
use Rattle.cable_tree.specs.Positions.{position_of}
use Rattle.esc_regs.specs.declared.clock_kind.ClockKind.{ClockKind}
use Rattle.frame_pass.specs.SlaveState.{Slave}
use Rattle.frame_pass.specs.Invariants.{IsSoundSegment}
use Rattle.frame_pass.specs.SegmentState.{SegmentState, segment_step}
use Rattle.frame_pass.proofs.Exported.{timely_step}
use Rattle.dc_delay.specs.ShapeRows.{positions}
use Rattle.master_script.specs.Config.{ConfigValue}
use Rattle.master_script.specs.Progress.{Phase, Commissioning, Settling, Arming, Running, Progress, progress, after}
use Rattle.master_script.specs.Script.{Call, Commission, Settle as CallSettle, Arm as CallArm, Run, Answer, script, next_by, next_in, asks_next, drifts_next}
use Rattle.master_script.specs.declared.step.MasterError.{MasterError}
use Rattle.master_script.specs.declared.step.MasterError.TheVariants.{Refused}
use Rattle.master_script.specs.declared.step.Refusal.{Refusal}
use Rattle.master_script.specs.declared.step.Refusal.TheVariants.{Lost}
use Rattle.master_script.specs.declared.step.Step.{Step}
use Rattle.master_script.specs.declared.step.Step.TheVariants.{Count, Identify}
use Rattle.master_script.proofs.Exported.{progress_push}
use Rattle.segment_file.specs.Legal.{IsLegal}
use Rattle.segment_file.specs.Segment.{SegmentValue, tree_rows}
use Rattle.segment_file.proofs.Exported.{legal_reference}
use Rattle.segment_start.specs.Start.{started_segment}
use Rattle.segment_start.proofs.Exported.{starts_timely}
use Rattle.run_of_file.specs.MasterOfFile.{master_of}
use Rattle.run_of_file.specs.RunOfFile.{RunEnd, turns, call_run, next_call, followed_by, frames_given, commissioned, settled, armed, ran}
use Rattle.run_of_file.proofs.Exported.{as_many_kinds, some_rows}
use Rattle.honest_slaves.specs.FileSlaves.{kind_at, status_at}
use Rattle.honest_slaves.proofs.Progressing.{IsHonest, IsLoss}
use Rattle.honest_slaves.proofs.Beginning.{begins}
use Rattle.honest_slaves.proofs.Judged.{judged_ok}
use Rattle.honest_slaves.proofs.Turns.{honest_turn}

some_same : {X : Type 0} {x y : X} → Some x ≡ Some y → x ≡ y
some_same e = cc

-- what a script wants, by its progress
wanted : (cfg : ConfigValue) (call : Call) (es : List Exchange) → script cfg call es ≡ next_by cfg (progress cfg es) call (progress cfg es).refused
unfolding script
wanted cfg call es = refl

exchange_is : (e : Exchange) (back : Option FrameValue) → e.back ≡ back → e ≡ record { wait_ns = e.wait_ns; sent = e.sent; back = back }
exchange_is e back is = rw (← is) refl

-- a call has no end with an error that is no refusal
asks_fine : (cfg : ConfigValue) (p : Progress) (todo : List Step) (x : MasterError) → asks_next cfg p todo ≡ End (Err x) → ⊥
asks_fine cfg p [] x h = let z = h in cc
asks_fine cfg p (step ∷ rest) x h = let z = h in cc

run_fine : (cfg : ConfigValue) (p : Progress) (b : Bool) (x : MasterError) → cond b (drifts_next cfg p) (End (Ok tt)) ≡ End (Err x) → ⊥
run_fine cfg p true x h = let z = h in cc
run_fine cfg p false x h = let z = h in cc

fine_in : (cfg : ConfigValue) (p : Progress) (call : Call) (phase : Phase) (x : MasterError) → next_in cfg p call phase ≡ End (Err x) → ⊥
fine_in cfg p Commission Commissioning x h = asks_fine cfg p p.todo x h
fine_in cfg p CallSettle Settling x h = let z = h in cc
fine_in cfg p CallArm Arming x h = asks_fine cfg p p.todo x h
fine_in cfg p (Run k) Running x h = run_fine cfg p (ltb p.ran k) x h
fine_in cfg p call phase x h = let z = h in cc

-- an error is the refusal
record IsRefusal (p : Progress) (x : MasterError) : Type 0 where
  refusal : Refusal
  is : x ≡ Refused refusal
  refused : p.refused ≡ Some refusal

refused_by : (cfg : ConfigValue) (p : Progress) (call : Call) (o : Option Refusal) (x : MasterError) → p.refused ≡ o → next_by cfg p call o ≡ End (Err x) → IsRefusal p x
refused_by cfg p call None x e h = absurd (fine_in cfg p call p.phase x h)
refused_by cfg p call (Some r) x e h = record { refusal = r; is = (let z = h in cc); refused = e }

-- so it is for want of replies
loss_by : (kinds : ℕ → ClockKind) (statuses : ℕ → ℕ) (n r : ℕ) (p : Progress) (ss : List Slave) (x : Refusal) → p.refused ≡ Some x → IsHonest kinds statuses n r p ss → IsLoss x
loss_by kinds statuses n r p ss x e (inl h) = absurd (let z : None ≡ Some x = sym h.unrefused ∙ e in cc)
loss_by kinds statuses n r p ss x e (inr (inl h)) = absurd (let z : None ≡ Some x = sym h.unrefused ∙ e in cc)
loss_by kinds statuses n r p ss x e (inr (inr h)) = subst (λ (o : Option Refusal). IfSome o IsLoss) e h.over

module _ (s : SegmentValue) (legal : IsLegal s) where
  abbrev pub IsHonestAt : List Exchange → List Slave → Type 0
  IsHonestAt es ss = IsHonest (kind_at s) (status_at s) (length s.rows) (position_of (tree_rows s.rows) (legal_reference s legal).0) (progress (master_of s) es) ss

  -- exchanges that a script wants
  honest_runs : (call : Call) (es before : List Exchange) (state later : SegmentState) → IsSoundSegment state → Runs segment_step (Some state) es (Some later) → Sends (script (master_of s) call) before es
      → IsHonestAt before state.slaves → IsHonestAt (before ++ es) later.slaves
  honest_runs call [] before state later sound runs sends h =
      subst (λ es. IsHonestAt es later.slaves) (sym (append-nil before)) (subst (λ (t : SegmentState). IsHonestAt before t.slaves) (some_same (sym runs)) h)
  honest_runs call (e ∷ es) before state later sound runs sends h =
      let cfg = master_of s in
      let next : next_by cfg (progress cfg before) call (progress cfg before).refused ≡ Send e.wait_ns e.sent = sym (wanted cfg call before) ∙ sends.0 in
      let turn = honest_turn (kind_at s) (status_at s) (length s.rows) (position_of (tree_rows s.rows) (legal_reference s legal).0) cfg (as_many_kinds s legal) (judged_ok s legal) (progress cfg before) state call e.wait_ns e.sent sound h next in
      let here : IsHonestAt (before ++ e ∷ []) (segment_step state e.wait_ns e.sent).0.slaves =
      subst (λ p. IsHonest (kind_at s) (status_at s) (length s.rows) (position_of (tree_rows s.rows) (legal_reference s legal).0) p (segment_step state e.wait_ns e.sent).0.slaves)
      (sym (progress_push cfg before e ∙ ap (after cfg (progress cfg before)) (exchange_is e (segment_step state e.wait_ns e.sent).1 runs.0))) turn in
      subst (λ xs. IsHonestAt xs later.slaves) (append_assoc before (e ∷ []) es)
      (honest_runs call es (before ++ e ∷ []) (segment_step state e.wait_ns e.sent).0 later (timely_step state e.wait_ns e.sent sound) runs.1 sends.1 here)

  timely_runs : (es : List Exchange) (state later : SegmentState) → Runs segment_step (Some state) es (Some later) → IsSoundSegment state → IsSoundSegment later
  timely_runs [] state later runs h = subst IsSoundSegment (some_same (sym runs)) h
  timely_runs (e ∷ es) state later runs h = timely_runs es (segment_step state e.wait_ns e.sent).0 later runs.1 (timely_step state e.wait_ns e.sent h)

  -- the end of a call
  pub record EndsHonestly (run : RunEnd) : Type 0 where
    pub honest : IsHonestAt run.exchanges run.state.slaves
    pub timely : IsSoundSegment run.state
    pub loss : (x : MasterError) → run.answer ≡ Err x → (step : Step) × (x ≡ Refused (Lost step))

  call_honest : (call : Call) (before : List Exchange) (state : SegmentState) (run : RunEnd) → IsSoundSegment state → IsHonestAt before state.slaves → call_run s call before state ≡ Some run → EndsHonestly run
  call_honest call before state run sound h is =
      let cfg = master_of s in
      let d = driven segment_step (script cfg call) turns before state run is in
      let honest : IsHonestAt run.exchanges run.state.slaves = subst (λ es. IsHonestAt es run.state.slaves) (sym d.all) (honest_runs call d.more before state run.state sound d.runs d.script h) in
      record {
        honest = honest;
        timely = timely_runs d.more state run.state d.runs sound;
        loss = λ x e.
            let p = progress cfg run.exchanges in
            let end : next_by cfg p call p.refused ≡ End (Err x) = sym (wanted cfg call run.exchanges) ∙ d.end ∙ ap (λ (a : Answer). End a) e in
            let refusal = refused_by cfg p call p.refused x refl end in
            let lost = loss_by (kind_at s) (status_at s) (length s.rows) (position_of (tree_rows s.rows) (legal_reference s legal).0) p run.state.slaves refusal.refusal refusal.refused honest in
            (lost.0, refusal.is ∙ ap Refused lost.1);
      }

  -- before the first exchange
  begins_honestly : IsHonestAt [] (started_segment s).slaves
  unfolding progress
  begins_honestly =
      let many = as_many_kinds s legal in
      let some = some_rows s legal in
      inl (record {
        phase = refl;
        unrefused = refl;
        unjudged = refl;
        told = 0;
        more = length s.rows;
        all = omega arith;
        some = some;
        slaves = refl;
        are = begins s legal;
        todo = inr (ap (λ k. Count ∷ map Identify (positions k)) many, refl);
      })

  -- the phases of the run
  abbrev pub EndHonestly : Option RunEnd → Type 0
  EndHonestly run = (end : RunEnd) → run ≡ Some end → EndsHonestly end

  next_honest : (call : Call) (run : RunEnd) (answer : Answer) → EndsHonestly run → EndHonestly (next_call s call run answer)
  next_honest call run (Ok tt) h end is = call_honest call run.exchanges run.state end h.timely h.honest is
  next_honest call run (Err x) h end is = subst EndsHonestly (some_same is) h

  followed_honest : (call : Call) (run : Option RunEnd) → EndHonestly run → EndHonestly (followed_by call s run)
  followed_honest call None h end is = absurd (let z = is in cc)
  followed_honest call (Some run) h end is = next_honest call run run.answer (h run refl) end is

  pub commissioned_honest : EndHonestly (commissioned s)
  unfolding commissioned
  commissioned_honest run is = call_honest Commission [] (started_segment s) run (starts_timely s legal) begins_honestly is

  pub settled_honest : EndHonestly (settled s)
  unfolding settled
  settled_honest = followed_honest CallSettle (commissioned s) commissioned_honest

  pub armed_honest : EndHonestly (armed s)
  unfolding armed
  armed_honest = followed_honest CallArm (settled s) settled_honest

  pub ran_honest : EndHonestly (ran s)
  unfolding ran
  ran_honest = followed_honest (Run (frames_given s)) (armed s) armed_honest
