-- The slaves that a drift frame finds, and the frame that it is.
use Rattle.std.proofs.Common.{◌≡◌, ℕ, ◌+◌, ◌*◌, ◌<◌, ◌≤◌, List, [], ◌∷◌, ◌++◌, length, length-append, map, Option, Some, None, true, Ok, refl, sym, ap, subst, ◌∙◌, arith}
use Rattle.std.specs.Prelude.{option_map, slice_get, slice_index_or}
use Rattle.std.specs.Option.{unwrap_or}
use Rattle.std.specs.List.{AllByRecursion}
use Rattle.std.proofs.lemmas.Option.{slice_get-map}
use Rattle.cable_tree.specs.Positions.{position_of}
use Rattle.dc_bounds.specs.LockNumbers.{period_fs}
use Rattle.copy_law.specs.DriftFrames.{IsDriftFrame, sent_at}
use Rattle.copy_law.specs.Receipts.{IsReference}
use Rattle.copy_law.proofs.Behind.{IsWanted, commissioned_ok, drift_number, is_wanted, phase_is}
use Rattle.copy_law.proofs.OnTheWay.{IsDrifting, drifting_step}
use Rattle.ecat_frame.specs.FrameGrammar.{DatagramValue, FrameValue}
use Rattle.ecat_link.specs.Exchanges.{Exchange, Runs}
use Rattle.ecat_link.specs.Serves.{Send}
use Rattle.ecat_link.proofs.Exported.{runs_then}
use Rattle.esc_regs.specs.declared.clock_kind.ClockKind.{ClockKind}
use Rattle.esc_regs.specs.declared.clock_kind.ClockKind.TheVariants as kind
use Rattle.frame_pass.specs.Invariants.{IsSoundSegment}
use Rattle.frame_pass.specs.Reach.{reach_of, reached_by}
use Rattle.frame_pass.specs.SegmentState.{SegmentState, leaves_at, number_of, phase_of, segment_step}
use Rattle.frame_pass.specs.SlaveState.{FixedPart, Slave, Timing, fixed_part}
use Rattle.frame_pass.proofs.Exported.{same_step, timely_step}
use Rattle.honest_slaves.specs.Told.{AreInOrder, IsNear}
use Rattle.honest_slaves.proofs.Exported.{mindful_step, commissioned_late, order_stays, sent_by, low_where}
use Rattle.honest_slaves.specs.FileSlaves.{kind_at, status_at}
use Rattle.master_script.specs.Config.{ConfigValue}
use Rattle.master_script.specs.Kept.{kept_after}
use Rattle.master_script.specs.Progress.{progress}
use Rattle.master_script.specs.Script.{Call, script}
use Rattle.master_script.specs.Scripted.{AreScripted, more, none}
use Rattle.master_script.specs.Steps.{datagrams_of}
use Rattle.master_script.specs.Words.{reference_of}
use Rattle.master_script.specs.declared.step.Step.{Step}
use Rattle.master_script.specs.declared.step.Step.TheVariants.{Count, Identify, Rate, Latch, Times, Set, Settle, Drift, Arm}
use Rattle.master_script.proofs.Exported.{progress_sent, stays_kept, wants, StepWithin}
use Rattle.honest_slaves.specs.Mindful.{AreMindful}
use Rattle.run_of_file.specs.MasterOfFile.{master_of}
use Rattle.run_of_file.specs.RunOfFile.{frames_given}
use Rattle.run_of_file.proofs.Exported.{commissioned_on, commissioned_exchanges, kept_by_runs, as_many_kinds, few_rows}
use Rattle.run_counts.specs.OnTheWay.{StandsAfter}
use Rattle.run_counts.proofs.Exported.{master_frame_ns, some_kinds, stands_after}
use Rattle.segment_file.specs.Legal.{IsLegal}
use Rattle.segment_file.specs.Segment.{RowValue, SegmentValue, no_row, row_at, tree_rows}
use Rattle.segment_file.proofs.Exported.{legal_reference}
use Rattle.loss_list.specs.Losses.{loss_at}
use Rattle.esc_regs.specs.Kinds.{has_clock}
use Rattle.loss_list.specs.declared.loss_row.LossRow.{LossRow}
use Rattle.loss_list.specs.declared.loss_row.Phase.{Phase}
use Rattle.loss_list.specs.declared.loss_row.Phase.TheVariants as phase
use Rattle.segment_start.specs.Start.{slave_of, started_segment, timing_by}
use Rattle.segment_start.proofs.Exported.{stands_at}

some_same : {X : Type 0} {x y : X} → Some x ≡ Some y → x ≡ y
some_same e = cc

-- a clock counts
timed_by : (k : ClockKind) (cycles : ℕ) (row : RowValue) (o : Option Timing) → option_map (λ (m : Timing). m.clock.osc) o ≡ option_map (λ (m : Timing). m.clock.osc) (timing_by k cycles row) → has_clock k ≡ true
    → (m : Timing) × (o ≡ Some m)
timed_by k cycles row (Some m) e is = (m, refl)
timed_by kind.None cycles row None e is = absurd (let x = is in cc)
timed_by kind.R32 cycles row None e is = absurd (let x = is in cc)
timed_by kind.C32 cycles row None e is = absurd (let x = e in cc)
timed_by kind.C64 cycles row None e is = absurd (let x = e in cc)

-- every frame of a script is mindful
near : (n : ℕ) (step : Step) → n ≤ 256 → StepWithin n step → IsNear step
near n Count few h = tt
near n (Identify p) few h = omega (arith, few, h)
near n Rate few h = tt
near n Latch few h = tt
near n (Times p) few h = tt
near n (Set p) few h = tt
near n Settle few h = tt
near n (Drift k) few h = tt
near n (Arm p) few h = tt

module _ (cfg : ConfigValue) (frames : ℕ) (some : 0 < length cfg.kinds) (few : length cfg.kinds ≤ 256) where
  mindful_one : (call : Call) (es : List Exchange) (e : Exchange) → script cfg call es ≡ Send e.wait_ns e.sent → AreMindful 0 e.sent.datagrams
  mindful_one call es e next =
      let w = wants cfg call es e.wait_ns e.sent some next in
      subst (AreMindful 0) (sym (ap (λ (f : FrameValue). f.datagrams) w.is ∙ sent_by cfg _ w.step)) (mindful_step cfg _ w.step (near (length cfg.kinds) w.step few w.within))

  all_push : (es : List Exchange) (e : Exchange) → AllByRecursion (λ (x : Exchange). AreMindful 0 x.sent.datagrams) es → AreMindful 0 e.sent.datagrams
      → AllByRecursion (λ (x : Exchange). AreMindful 0 x.sent.datagrams) (es ++ e ∷ [])
  all_push [] e all here = (here, tt)
  all_push (x ∷ es) e all here = (all.0, all_push es e all.1 here)

  pub mindful_all : (es : List Exchange) → AreScripted cfg frames es → AllByRecursion (λ (x : Exchange). AreMindful 0 x.sent.datagrams) es
  mindful_all _ none = tt
  mindful_all _ (more es e call before limited next) = all_push es e (mindful_all es before) (mindful_one call es e next)

pub all_behind : (xs ys : List Exchange) → AllByRecursion (λ (x : Exchange). AreMindful 0 x.sent.datagrams) (xs ++ ys) → AllByRecursion (λ (x : Exchange). AreMindful 0 x.sent.datagrams) ys
all_behind [] ys all = all
all_behind (x ∷ xs) ys all = all_behind xs ys all.1

-- named slaves, all sound
pub record IsOrderly (s : SegmentValue) (w : SegmentState) : Type 0 where
  pub sound : IsSoundSegment w
  pub are : AreInOrder (kind_at s) (status_at s) (length s.rows) (length s.rows) w.slaves

pub orderly_led : (s : SegmentValue) (es : List Exchange) (w v : SegmentState) → Runs segment_step (Some w) es (Some v) → AllByRecursion (λ (x : Exchange). AreMindful 0 x.sent.datagrams) es
    → IsOrderly s w → IsOrderly s v
orderly_led s [] w v runs mindful h = subst (IsOrderly s) (some_same (sym runs)) h
orderly_led s (e ∷ es) w v runs mindful h = orderly_led s es (segment_step w e.wait_ns e.sent).0 v runs.1 mindful.1 (record {
  sound = timely_step w e.wait_ns e.sent h.sound;
  are = order_stays (kind_at s) (status_at s) (length s.rows) (length s.rows) w e.wait_ns e.sent h.sound mindful.0 h.are;
})

module _ (s : SegmentValue) (legal : IsLegal s) (k : ℕ) (t : SegmentState) (e : Exchange) (f : IsDriftFrame s k t e) where
  abbrev behind : List Exchange
  behind = f.first.exchanges ++ f.before

  asked_for : IsWanted (master_of s) (frames_given s) behind e
  asked_for = is_wanted s legal k t e f

  ok : f.first.answer ≡ Ok tt
  ok = commissioned_ok s legal k t e f

  pub orderly : IsOrderly s t
  orderly =
      let many = as_many_kinds s legal in
      let few = few_rows s legal in
      let all = mindful_all (master_of s) (frames_given s) (some_kinds s legal) (omega (arith, many, few)) behind asked_for.scripted in
      orderly_led s f.before f.first.state t f.led (all_behind f.first.exchanges f.before all)
      (record { sound = ((commissioned_on s legal).on f.first f.commissioned).timely; are = (commissioned_late s legal f.first f.commissioned ok).late.are })

  stands : StandsAfter s (progress (master_of s) behind).sent (progress (master_of s) behind).drifts t
  stands =
      stands_after s legal behind t asked_for.scripted
      (runs_then segment_step f.first.exchanges f.before (Some (started_segment s)) (Some f.first.state) (Some t) (commissioned_exchanges s f.first f.commissioned) f.led)

  pub leaves : leaves_at t e.wait_ns ≡ sent_at s f.first k
  leaves =
      let wait = (wants (master_of s) asked_for.call behind e.wait_ns e.sent (some_kinds s legal) asked_for.wanted).wait ∙ master_frame_ns s in
      let sent = progress_sent (master_of s) behind in
      let parts = length-append f.first.exchanges f.before in
      let number = f.number in
      let same : (progress (master_of s) behind).sent + 1 ≡ length f.first.exchanges + k = omega (arith, sent, parts, number) in
      ap (λ (w : ℕ). leaves_at t w) wait ∙ stands.next ∙ ap (λ (n : ℕ). n * period_fs s.head.frame_ns) same

  pub reaches : reach_of t e.sent ≡ reached_by (loss_at s.losses phase.Drift k) t.slaves
  unfolding reach_of
  reaches =
      ap (λ (x : Phase). reached_by (loss_at t.losses x (number_of x t + 1)) t.slaves) (phase_is s legal k t e f).1
      ∙ ap (λ (ls : List LossRow). reached_by (loss_at ls phase.Drift (t.drift + 1)) t.slaves) stands.losses
      ∙ ap (λ (n : ℕ). reached_by (loss_at s.losses phase.Drift n) t.slaves) (drift_number s legal k t e f)

  reference_told : (progress (master_of s) behind).words.reference ≡ Some (position_of (tree_rows s.rows) (legal_reference s legal).0)
  unfolding kept_after
  reference_told =
      (stays_kept (master_of s) None f.first.exchanges f.before (some_kinds s legal)).reference (position_of (tree_rows s.rows) (legal_reference s legal).0)
      (commissioned_late s legal f.first f.commissioned ok).late.knows.reference

  pub drifting : (r : ℕ) → IsReference s r → IsDrifting r e.sent.datagrams
  drifting r reference =
      let p = progress (master_of s) behind in
      let w = wants (master_of s) asked_for.call behind e.wait_ns e.sent (some_kinds s legal) asked_for.wanted in
      let are = ap (λ (g : FrameValue). g.datagrams) w.is ∙ sent_by (master_of s) p.words w.step in
      let row : (legal_reference s legal).0 ≡ reference.row = some_same (sym (legal_reference s legal).1 ∙ reference.found) in
      let told : reference_of p.words ≡ r = ap (λ (o : Option ℕ). unwrap_or o 0) reference_told ∙ ap (position_of (tree_rows s.rows)) row ∙ sym reference.position in
      subst (IsDrifting r) (sym are)
      (subst (λ (q : ℕ). IsDrifting q (datagrams_of (master_of s) p.words w.step)) told
      (drifting_step (master_of s) p.words w.step (ap (λ (ds : List DatagramValue). phase_of ds) (sym are) ∙ (phase_is s legal k t e f).1)))

  -- what never changes of the slaves is as the file has it, so each clock counts
  fixed : map fixed_part t.slaves ≡ map fixed_part (started_segment s).slaves
  fixed =
      kept_by_runs (λ (u : SegmentState). map fixed_part u.slaves ≡ map fixed_part (started_segment s).slaves) (λ u wait_ns g h. (same_step u wait_ns g).slaves ∙ h) behind (started_segment s) t
      (runs_then segment_step f.first.exchanges f.before (Some (started_segment s)) (Some f.first.state) (Some t) (commissioned_exchanges s f.first f.commissioned) f.led) refl

  pub clock_there : (p : ℕ) (v : Slave) → slice_get t.slaves p ≡ Some v → has_clock (kind_at s p) ≡ true → (m : Timing) × (v.timing ≡ Some m)
  unfolding slave_of
  clock_there p v is clock =
      let within = low_where t.slaves p v is in
      let many = orderly.are.many in
      let row = slice_index_or s.rows (row_at s p) no_row in
      let same : fixed_part v ≡ fixed_part (slave_of s (row_at s p)) =
      some_same (sym (slice_get-map fixed_part t.slaves p ∙ ap (option_map fixed_part) is) ∙ ap (λ (xs : List FixedPart). slice_get xs p) fixed
      ∙ slice_get-map fixed_part (started_segment s).slaves p ∙ ap (option_map fixed_part) (stands_at s p legal (omega (arith, within, many)))) in
      timed_by row.kind s.head.cycles row v.timing (ap (λ (x : FixedPart). x.oscillator) same) clock
