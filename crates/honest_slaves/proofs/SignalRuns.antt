-- The run of a file keeps the slaves to the signals of the file.
use Rattle.std.proofs.Common.{◌≡◌, ℕ, zero, suc, ◌<◌, ◌≤◌, List, [], ◌∷◌, ◌++◌, length, map, Option, Some, None, Bool, refl, sym, ap, subst, ◌∙◌, arith}
use Rattle.std.specs.Prelude.{Ok, Err, IfSome, is_some, option_map, slice_get, ◌&&◌}
use Rattle.std.specs.List.{AllByRecursion}
use Rattle.std.proofs.lemmas.List.{get_or-map}
use Rattle.ecat_frame.specs.FrameGrammar.{FrameValue}
use Rattle.ecat_link.specs.Exchanges.{Exchange, Runs}
use Rattle.ecat_link.specs.Serves.{Send}
use Rattle.cable_tree.specs.FrameOrder.{order}
use Rattle.esc_regs.specs.declared.clock_kind.ClockKind.{ClockKind}
use Rattle.esc_regs.specs.declared.clock_kind.ClockKind.TheVariants as kind
use Rattle.esc_regs.specs.Kinds.{has_clock}
use Rattle.frame_pass.specs.SlaveState.{Slave}
use Rattle.frame_pass.specs.Advancing.{advanced_to}
use Rattle.frame_pass.specs.Invariants.{IsSoundSegment}
use Rattle.frame_pass.specs.SegmentState.{SegmentState, finished, segment_step}
use Rattle.frame_pass.proofs.Exported.{finished_at, timely_step}
use Rattle.sync_units.specs.declared.edge.Signal.{Signal}
use Rattle.sync_units.specs.declared.edge.Signal.TheVariants.{Sync1}
use Rattle.honest_slaves.specs.Mindful.{AreMindful}
use Rattle.master_script.specs.Config.{ConfigValue}
use Rattle.master_script.specs.Script.{Answer, Call, script}
use Rattle.master_script.specs.Scripted.{AreScripted, more, none}
use Rattle.master_script.specs.declared.step.Step.{Step}
use Rattle.master_script.specs.declared.step.Step.TheVariants.{Count, Identify, Rate, Latch, Times, Set, Settle, Drift, Arm}
use Rattle.master_script.proofs.Exported.{wants, StepWithin}
use Rattle.honest_slaves.specs.Told.{AreInOrder, IsNear}
use Rattle.honest_slaves.proofs.Mindful.{mindful_step}
use Rattle.segment_file.specs.Legal.{IsLegal}
use Rattle.segment_file.specs.Segment.{RowValue, SegmentValue, row_of, tree_rows}
use Rattle.segment_file.proofs.Exported.{order_many}
use Rattle.segment_start.specs.Start.{slave_of, started_segment, timing_by}
use Rattle.segment_start.proofs.Exported.{starts_timely}
use Rattle.run_of_file.specs.MasterOfFile.{master_of, plan_of}
use Rattle.run_of_file.specs.RunOfFile.{RunEnd, armed, commissioned, end_of_run, frames_given, ran, rounded_off, run_of, settled}
use Rattle.run_of_file.proofs.Exported.{armed_on, commissioned_on, ran_on, settled_on, IsFromStart, armed_exchanges, commissioned_exchanges, ran_exchanges, settled_exchanges, as_many_kinds, few_rows, some_rows}
use Rattle.honest_slaves.specs.FileSlaves.{kind_at, status_at}
use Rattle.honest_slaves.proofs.Beginning.{begins}
use Rattle.honest_slaves.proofs.Returning.{order_stays}
use Rattle.honest_slaves.proofs.Turning.{sent_by}
use Rattle.honest_slaves.specs.OwnSignals.{AllKeepTo, KeepsTo, SlaveKeepsTo, signals_at}
use Rattle.honest_slaves.specs.Planned.{ArePlanned, plans_sync1}
use Rattle.honest_slaves.proofs.AtSlaves.{advanced_keeps}
use Rattle.honest_slaves.proofs.PlannedFrames.{step_keeps}
use Rattle.honest_slaves.proofs.Scripts.{planned_step}

some_same : {X : Type 0} {x y : X} → Some x ≡ Some y → x ≡ y
some_same e = cc

-- what an exchange of the script sends
record IsGood (cfg : ConfigValue) (e : Exchange) : Type 0 where
  mindful : AreMindful 0 e.sent.datagrams
  planned : ArePlanned (plans_sync1 cfg) e.sent.datagrams

near : (n : ℕ) (step : Step) → n ≤ 256 → StepWithin n step → IsNear step
near n Count few h = tt
near n (Identify p) few h = omega (arith, few, h)
near n Rate few h = tt
near n Latch few h = tt
near n (Times p) few h = tt
near n (Set p) few h = tt
near n Settle few h = tt
near n (Drift k) few h = tt
near n (Arm p) few h = tt

module _ (cfg : ConfigValue) (frames : ℕ) (some : 0 < length cfg.kinds) (few : length cfg.kinds ≤ 256) where
  sent_good : (call : Call) (es : List Exchange) (e : Exchange) → script cfg call es ≡ Send e.wait_ns e.sent → IsGood cfg e
  sent_good call es e next =
      let w = wants cfg call es e.wait_ns e.sent some next in
      let are = sym (ap (λ (f : FrameValue). f.datagrams) w.is ∙ sent_by cfg _ w.step) in
      record {
        mindful = subst (AreMindful 0) are (mindful_step cfg _ w.step (near (length cfg.kinds) w.step few w.within));
        planned = subst (ArePlanned (plans_sync1 cfg)) are (planned_step cfg _ w.step);
      }

  all_push : (es : List Exchange) (e : Exchange) → AllByRecursion (IsGood cfg) es → IsGood cfg e → AllByRecursion (IsGood cfg) (es ++ e ∷ [])
  all_push [] e all good = (good, tt)
  all_push (x ∷ es) e all good = (all.0, all_push es e all.1 good)

  scripted_good : (es : List Exchange) → AreScripted cfg frames es → AllByRecursion (IsGood cfg) es
  scripted_good _ none = tt
  scripted_good _ (more es e call before limited next) = all_push es e (scripted_good es before) (sent_good call es e next)

-- a slave that begins is not armed, and has raised nothing
begins_by : (own : Signal → Bool) (k : ClockKind) (cycles : ℕ) (row : RowValue) → IfSome (timing_by k cycles row) (KeepsTo own)
begins_by own kind.None cycles row = tt
begins_by own kind.R32 cycles row = record { unit = tt; edges = tt }
begins_by own kind.C32 cycles row = record { unit = tt; edges = tt }
begins_by own kind.C64 cycles row = record { unit = tt; edges = tt }

each_begins : (own : Signal → Bool) (s : SegmentValue) (r : ℕ) → SlaveKeepsTo own (slave_of s r)
unfolding slave_of
each_begins own s r = begins_by own _ s.head.cycles _

all_begin : (own : ℕ → Signal → Bool) (s : SegmentValue) (rs : List ℕ) (p : ℕ) (v : Slave) → slice_get (map (slave_of s) rs) p ≡ Some v → SlaveKeepsTo (own p) v
all_begin own s [] p v is = absurd (let z = is in cc)
all_begin own s (r ∷ rs) zero v is = subst (SlaveKeepsTo (own 0)) (some_same is) (each_begins (own 0) s r)
all_begin own s (r ∷ rs) (suc p) v is = all_begin (λ q. own (suc q)) s rs p v is

pub signals_begin : (s : SegmentValue) → AllKeepTo (signals_at s) (started_segment s).slaves
unfolding started_segment
signals_begin s = all_begin (signals_at s) s (order (tree_rows s.rows))

-- the plan of the slave at a position is that of its row
planned_by_row : (s : SegmentValue) → IsLegal s → (q : ℕ) → q < length s.rows → signals_at s q Sync1 ≡ (has_clock (kind_at s q) && plans_sync1 (master_of s) q)
unfolding master_of
planned_by_row s legal q low =
    let many = order_many s legal in
    ap (λ plan. has_clock (kind_at s q) && is_some plan.sync1_ns) (sym (get_or-map (λ r. plan_of (row_of s r)) (order (tree_rows s.rows)) q 0 (record { shift_ns = 0; sync1_ns = None }) (omega (arith, many, low))))

module _ (s : SegmentValue) (legal : IsLegal s) where
  -- what holds of the state of a run
  record IsKept (w : SegmentState) : Type 0 where
    sound : IsSoundSegment w
    are : AreInOrder (kind_at s) (status_at s) (length s.rows) 0 w.slaves
    keep : AllKeepTo (signals_at s) w.slaves

  runs_keep : (es : List Exchange) (w v : SegmentState) → Runs segment_step (Some w) es (Some v) → AllByRecursion (IsGood (master_of s)) es → IsKept w → IsKept v
  runs_keep [] w v runs good h = subst IsKept (some_same (sym runs)) h
  runs_keep (e ∷ es) w v runs good h = runs_keep es (segment_step w e.wait_ns e.sent).0 v runs.1 good.1 (record {
    sound = timely_step w e.wait_ns e.sent h.sound;
    are = order_stays (kind_at s) (status_at s) (length s.rows) 0 w e.wait_ns e.sent h.sound good.0.mindful h.are;
    keep = step_keeps (kind_at s) (status_at s) (length s.rows) (plans_sync1 (master_of s)) (signals_at s) (λ q. refl) (planned_by_row s legal) w e.wait_ns e.sent h.sound h.are good.0.mindful good.0.planned h.keep;
  })

  run_keeps : (run : RunEnd) → AreScripted (master_of s) (frames_given s) run.exchanges → IsFromStart s run → AllKeepTo (signals_at s) run.state.slaves
  run_keeps run scripted from =
      let many = as_many_kinds s legal in
      let some = some_rows s legal in
      let few = few_rows s legal in
      (runs_keep run.exchanges (started_segment s) run.state from
      (scripted_good (master_of s) (frames_given s) (omega (arith, many, some)) (omega (arith, many, few)) run.exchanges scripted)
      (record { sound = starts_timely s legal; are = begins s legal; keep = signals_begin s })).keep

  pub commissioned_keeps : (run : RunEnd) → commissioned s ≡ Some run → AllKeepTo (signals_at s) run.state.slaves
  commissioned_keeps run is = run_keeps run ((commissioned_on s legal).on run is).scripted (commissioned_exchanges s run is)

  pub settled_keeps : (run : RunEnd) → settled s ≡ Some run → AllKeepTo (signals_at s) run.state.slaves
  settled_keeps run is = run_keeps run ((settled_on s legal).on run is).scripted (settled_exchanges s run is)

  pub armed_keeps : (run : RunEnd) → armed s ≡ Some run → AllKeepTo (signals_at s) run.state.slaves
  armed_keeps run is = run_keeps run ((armed_on s legal).on run is).scripted (armed_exchanges s run is)

  pub ran_keeps : (run : RunEnd) → ran s ≡ Some run → AllKeepTo (signals_at s) run.state.slaves
  ran_keeps run is = run_keeps run ((ran_on s legal).on run is).scripted (ran_exchanges s run is)

  -- clocks that go on to the end of the run
  advanced_at : (own : Signal → Bool) (t : ℕ) (o : Option Slave) (v : Slave) → ((u : Slave) → o ≡ Some u → SlaveKeepsTo own u) → option_map (advanced_to t) o ≡ Some v → SlaveKeepsTo own v
  advanced_at own t None v each is = absurd (let z = is in cc)
  advanced_at own t (Some u) v each is = subst (SlaveKeepsTo own) (some_same is) (advanced_keeps own t u (each u refl))

  finished_keeps : (t : ℕ) (w : SegmentState) → AllKeepTo (signals_at s) w.slaves → AllKeepTo (signals_at s) (finished t w).slaves
  finished_keeps t w keep p v is = advanced_at (signals_at s p) t (slice_get w.slaves p) v (keep p) (sym (finished_at w t p) ∙ is)

  rounded_keeps : (r : RunEnd) (answer : Answer) → AllKeepTo (signals_at s) r.state.slaves → AllKeepTo (signals_at s) (rounded_off s r answer).state.slaves
  rounded_keeps r (Ok tt) keep = finished_keeps (end_of_run s r.state) r.state keep
  rounded_keeps r (Err e) keep = keep

  whole_of : (o : Option RunEnd) → ((r : RunEnd) → o ≡ Some r → AllKeepTo (signals_at s) r.state.slaves) → (end : RunEnd) → option_map (λ r. rounded_off s r r.answer) o ≡ Some end
      → AllKeepTo (signals_at s) end.state.slaves
  whole_of None each end is = absurd (let z = is in cc)
  whole_of (Some r) each end is = subst (λ (x : RunEnd). AllKeepTo (signals_at s) x.state.slaves) (some_same is) (rounded_keeps r r.answer (each r refl))

  pub whole_keeps : (run : RunEnd) → run_of s ≡ Some run → AllKeepTo (signals_at s) run.state.slaves
  unfolding run_of
  whole_keeps run is = whole_of (ran s) ran_keeps run is
