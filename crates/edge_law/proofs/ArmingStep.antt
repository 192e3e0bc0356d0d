-- One frame after commissioning over the segment of a file: the frame of Arm arms the clock that it is for where it comes so far, and a frame that
-- activates nothing at a clock carries its unit on.
use Rattle.std.proofs.Common.{◌≡◌, ◌≢◌, ℕ, ◌+◌, ◌<◌, ◌≤◌, Bool, true, false, List, [], ◌++◌, length, Option, Some, None, nat_lt, refl, sym, ap, subst, ◌∙◌, arith, inl, inr}
use Rattle.std.specs.Prelude.{IfSome, if◌then◌else◌, slice_get}
use Rattle.std.specs.Option.{option_map}
use Rattle.std.proofs.lemmas.Bool.{cases_lt}
use Rattle.std.proofs.lemmas.Bool.Decides.{nat_tests}
use Rattle.std.proofs.lemmas.List.{append-nil, get_or-map}
use Rattle.std.proofs.lemmas.List.Elements.{All-get_or}
use Rattle.cable_tree.specs.FrameOrder.{order}
use Rattle.copy_law.specs.History.{brought_to, clock_of}
use Rattle.copy_law.proofs.Exported.{running}
use Rattle.delay_law.specs.Far.{AreFar}
use Rattle.delay_law.specs.OfFile.{IsFixed, IsOfFile}
use Rattle.delay_law.specs.Resting.{row_there}
use Rattle.delay_law.proofs.Exported.{far_behind, far_left, wide_told}
use Rattle.ecat_frame.specs.FrameGrammar.{DatagramValue}
use Rattle.ecat_link.specs.Exchanges.{Exchange}
use Rattle.edge_law.specs.ArmedUnits.{unit_of}
use Rattle.edge_law.proofs.ArmingDatagrams.{IsPlan}
use Rattle.edge_law.proofs.ArmingVisit.{RunsSince, activation_left, offset_left, own_visit, quiet_visit}
use Rattle.esc_regs.specs.Kinds.{has_clock}
use Rattle.esc_regs.specs.RegisterTable.{is_wide}
use Rattle.esc_regs.specs.declared.clock_kind.ClockKind.{ClockKind}
use Rattle.esc_regs.specs.declared.clock_kind.ClockKind.TheVariants as kind
use Rattle.frame_pass.specs.ClockHistory.{HasHistory, events_passed}
use Rattle.frame_pass.specs.FramePass.{at_arrival, datagrams_behind, end_of, slave_passed}
use Rattle.frame_pass.specs.PlainRegisters.{AreLeft}
use Rattle.frame_pass.specs.Reach.{reach_of}
use Rattle.frame_pass.specs.SegmentState.{SegmentState, leaves_at, segment_step}
use Rattle.frame_pass.specs.SlaveState.{Slave, Timing, width}
use Rattle.frame_pass.proofs.Exported.{sizes_of, sound_at, step_reached, step_stays}
use Rattle.honest_slaves.specs.FileSlaves.{kind_at, status_at}
use Rattle.honest_slaves.specs.Mindful.{AreMindful}
use Rattle.honest_slaves.specs.Standing.{Stands}
use Rattle.honest_slaves.specs.Told.{AreInOrder, words_of}
use Rattle.honest_slaves.proofs.Exported.{had_before, low_where, mindful_step, same_many}
use Rattle.local_clock.specs.Reading.{Clock, Happening}
use Rattle.master_script.specs.Config.{ConfigValue, plan_at}
use Rattle.master_script.specs.Frames.{arm_datagrams, drift_datagrams}
use Rattle.master_script.specs.Steps.{datagrams_of}
use Rattle.master_script.specs.Words.{Words, reference_of, start_at, wide_at}
use Rattle.master_script.specs.declared.plan.SyncPlan.{SyncPlan}
use Rattle.master_script.specs.declared.step.Step.TheVariants.{Arm}
use Rattle.run_of_file.specs.MasterOfFile.{master_of, plan_of}
use Rattle.segment_file.specs.Legal.{IsClock, IsLegal}
use Rattle.segment_file.specs.Segment.{RowValue, SegmentValue, no_row, oscillator, row_at, row_of, tree_rows}
use Rattle.segment_file.proofs.Exported.{order_many, row_within}
use Rattle.segment_start.specs.Start.{slave_of, timing_by}
use Rattle.sync_units.specs.SyncRule.{Armed}

some_same : {X : Type 0} {x y : X} → Some x ≡ Some y → x ≡ y
some_same e = cc

-- what a clock has by its row
pub record HasParts (row : RowValue) (cycles : ℕ) (o : Option Timing) : Type 0 where
  pub timing : Timing
  pub is : o ≡ Some timing
  pub osc : timing.clock.osc ≡ oscillator row
  pub keep : timing.edges.keep ≡ cycles

parts_by : (k : ClockKind) (cycles : ℕ) (row : RowValue) (o : Option Timing) → has_clock k ≡ true → option_map (λ t. t.clock.osc) o ≡ option_map (λ t. t.clock.osc) (timing_by k cycles row)
    → option_map (λ t. t.edges.keep) o ≡ option_map (λ t. t.edges.keep) (timing_by k cycles row) → HasParts row cycles o
parts_by kind.None cycles row o is e f = absurd (let z = is in cc)
parts_by kind.R32 cycles row o is e f = absurd (let z = is in cc)
parts_by kind.C32 cycles row None is e f = absurd (let z = e in cc)
parts_by kind.C32 cycles row (Some m) is e f = record { timing = m; is = refl; osc = some_same e; keep = some_same f }
parts_by kind.C64 cycles row None is e f = absurd (let z = e in cc)
parts_by kind.C64 cycles row (Some m) is e f = record { timing = m; is = refl; osc = some_same e; keep = some_same f }

-- frames of the drift datagram alone write neither activation nor offset
pub drift_far : (r : ℕ) → AreFar 0x0981 1 (drift_datagrams r)
drift_far r own = (inr (inr (inl (omega arith))), tt)

pub drift_offset_far : (r : ℕ) → AreFar 0x0920 8 (drift_datagrams r)
drift_offset_far r own = (inr (inr (inl (omega arith))), tt)

module _ (s : SegmentValue) (legal : IsLegal s) where
  abbrev cfg : ConfigValue
  cfg = master_of s

  -- what the frame of Arm carries is what the row has
  cycle_is : (master_of s).cycle_ns ≡ s.head.cycle_ns
  unfolding master_of
  cycle_is = refl

  plan_is : (p : ℕ) → p < length s.rows → plan_at (master_of s) p ≡ plan_of (row_there s p)
  unfolding master_of
  plan_is p low =
      let many = order_many s legal in
      get_or-map (λ r. plan_of (row_of s r)) (order (tree_rows s.rows)) p 0 (record { shift_ns = 0; sync1_ns = None }) (omega (arith, low, many))

  plan_fits : (p : ℕ) → p < length s.rows → IsPlan s.head.cycle_ns (row_there s p).sync1_ns
  plan_fits p low =
      let row : IsClock s.head.cycle_ns (row_there s p) = All-get_or (IsClock s.head.cycle_ns) s.rows (row_at s p) no_row (row_within s legal p low) legal.clocks in
      row.sync1_ns

  arm_is : (w : Words) (p : ℕ) → p < length s.rows → w.slaves ≡ words_of (kind_at s) (status_at s) (length s.rows)
      → datagrams_of (master_of s) w (Arm p)
      ≡ arm_datagrams (reference_of w) p (is_wide (kind_at s p)) s.head.cycle_ns (row_there s p).sync1_ns (start_at (master_of s) w + (row_there s p).shift_ns)
  arm_is w p low told =
      ap (λ b. arm_datagrams (reference_of w) p b (master_of s).cycle_ns (plan_at (master_of s) p).sync1_ns (start_at (master_of s) w + (plan_at (master_of s) p).shift_ns))
      (wide_told (kind_at s) (status_at s) (length s.rows) w p told low)
      ∙ ap (λ c. arm_datagrams (reference_of w) p (is_wide (kind_at s p)) c (plan_at (master_of s) p).sync1_ns (start_at (master_of s) w + (plan_at (master_of s) p).shift_ns)) cycle_is
      ∙ ap (λ (q : SyncPlan). arm_datagrams (reference_of w) p (is_wide (kind_at s p)) s.head.cycle_ns q.sync1_ns (start_at (master_of s) w + q.shift_ns)) (plan_is p low)

  -- a clock of the file
  module _ (p : ℕ) (low : p < length s.rows) (is : has_clock (kind_at s p) ≡ true) where
    abbrev pub bits : ℕ
    bits = width (kind_at s p)

    abbrev pub clock : Clock
    clock = clock_of (row_there s p)

    pub parts_there : (v : Slave) → IsFixed s p v → HasParts (row_there s p) s.head.cycles v.timing
    unfolding slave_of
    parts_there v fixed = parts_by (kind_at s p) s.head.cycles (row_there s p) v.timing is (ap (λ f. f.oscillator) fixed) (ap (λ f. f.keep) fixed)

    -- and a state of its segment, in which one frame more is sent
    module _ (t : SegmentState) (file : IsOfFile s t) (e : Exchange) (early : t.sent < 1000000) where
      abbrev sent : ℕ
      sent = leaves_at t e.wait_ns

      abbrev next : SegmentState
      next = (segment_step t e.wait_ns e.sent).0

      abbrev come : List DatagramValue
      come = datagrams_behind p sent t.slaves e.sent.datagrams

      abbrev end : Option ℕ
      end = end_of (reach_of t e.sent) t.slaves

      before_arrival : (v : Slave) (m : Timing) → slice_get t.slaves p ≡ Some v → v.timing ≡ Some m → m.clock.instant ≤ sent + v.visits.arrive
      before_arrival v m there has =
          let h = sound_at t.round_trip t.free t.slaves p v file.sound there in
          let by : m.clock.instant ≤ t.free = subst (λ (o : Option Timing). IfSome o (λ k. k.clock.instant ≤ t.free)) has h.time in
          let late : t.free ≤ sent = omega arith in
          omega (arith, by, late)

      passed_is : (v u : Slave) → slice_get t.slaves p ≡ Some v → p < reach_of t e.sent → slice_get next.slaves p ≡ Some u → slave_passed sent end v come ≡ u
      passed_is v u there reached after = some_same (sym (step_reached t e.wait_ns e.sent p v early reached there) ∙ after)

      -- what leaves activation and offset carries the unit on
      abbrev pub IsQuiet : Type 0
      IsQuiet = (v : Slave) → slice_get t.slaves p ≡ Some v → AreLeft 0x0981 1 (at_arrival sent v) come × AreLeft 0x0920 8 (at_arrival sent v) come

      module _ (start : ℕ) (unit : Armed) (events : List Happening) where
        abbrev Runs : List Happening → Slave → Type 0
        Runs hs v = RunsSince bits clock start s.head.cycles unit hs v

        quiet_passed : (v u : Slave) → slice_get t.slaves p ≡ Some v → p < reach_of t e.sent → slice_get next.slaves p ≡ Some u → IsQuiet → HasHistory bits clock events v → Runs events v
            → Runs (events ++ brought_to t e p (slice_get t.slaves p)) u
        quiet_passed v u there reached after quiet history h =
            let parts = parts_there v (file.fixed p v there) in
            let m = parts.timing in
            let sound = sound_at t.round_trip t.free t.slaves p v file.sound there in
            let comes : nat_lt p (reach_of t e.sent) ≡ true = grind (arith, nat_tests, reached) in
            let brings : brought_to t e p (slice_get t.slaves p) ≡ events_passed sent v come =
            ap (brought_to t e p) there ∙ ap (λ (b : Bool). if b then events_passed sent v come else []) comes in
            subst (λ (hs : List Happening). Runs (events ++ hs) u) (sym brings)
            (subst (λ (x : Slave). Runs (events ++ events_passed sent v come) x) (passed_is v u there reached after)
            (quiet_visit bits clock start s.head.cycles unit events sent end v m come (running s legal p low is) parts.is sound.size (before_arrival v m there parts.is) (quiet v there).0 (quiet v there).1 history h))

        quiet_beyond : (v u : Slave) → slice_get t.slaves p ≡ Some v → reach_of t e.sent ≤ p → slice_get next.slaves p ≡ Some u → Runs events v → Runs (events ++ brought_to t e p (slice_get t.slaves p)) u
        quiet_beyond v u there past after h =
            let so : v ≡ u = some_same (sym there ∙ sym (step_stays t e.wait_ns e.sent p early past) ∙ after) in
            let comes : nat_lt p (reach_of t e.sent) ≡ false = grind (arith, nat_tests, past) in
            let brings : brought_to t e p (slice_get t.slaves p) ≡ [] =
            ap (brought_to t e p) there ∙ ap (λ (b : Bool). if b then events_passed sent v come else []) comes in
            subst (λ (hs : List Happening). Runs (events ++ hs) u) (sym brings)
            (subst (λ (hs : List Happening). Runs hs u) (sym (append-nil events)) (subst (λ (x : Slave). Runs events x) so h))

        pub quiet_step : IsQuiet → ((v : Slave) → slice_get t.slaves p ≡ Some v → HasHistory bits clock events v) → ((v : Slave) → slice_get t.slaves p ≡ Some v → Runs events v)
            → (u : Slave) → slice_get next.slaves p ≡ Some u → Runs (events ++ brought_to t e p (slice_get t.slaves p)) u
        quiet_step quiet history h u after =
            let many = same_many t e.wait_ns e.sent in
            let within = low_where next.slaves p u after in
            let v = had_before t.slaves p (omega (arith, many, within)) in
            elim (cases_lt p (reach_of t e.sent)) [
              | inl reached ↦ quiet_passed v.slave u v.is reached after quiet (history v.slave v.is) (h v.slave v.is)
              | inr past ↦ quiet_beyond v.slave u v.is past after (h v.slave v.is)
            ]

      -- such are frames that write them at no slave
      pub far_quiet : AreFar 0x0981 1 e.sent.datagrams → AreFar 0x0920 8 e.sent.datagrams → IsQuiet
      far_quiet activation offset v there =
          let sizes = sizes_of t.round_trip t.free t.slaves file.sound in (
            far_left 0x0981 1 (at_arrival sent v) come (far_behind 0x0981 1 p sent t.slaves e.sent.datagrams sizes activation),
            far_left 0x0920 8 (at_arrival sent v) come (far_behind 0x0920 8 p sent t.slaves e.sent.datagrams sizes offset),
          )

      module _ (named : AreInOrder (kind_at s) (status_at s) (length s.rows) (length s.rows) t.slaves) (w : Words) where
        stands : (v : Slave) → slice_get t.slaves p ≡ Some v → Stands (kind_at s p) (status_at s p) true p v
        stands v there =
            let below : nat_lt p (length s.rows) ≡ true = grind (arith, nat_tests, low) in
            subst (λ b. Stands (kind_at s p) (status_at s p) b p v) below (named.standing p v there)

        -- and the frame of Arm of another clock
        pub other_quiet : (q : ℕ) → e.sent.datagrams ≡ datagrams_of (master_of s) w (Arm q) → p ≢ q → IsQuiet
        other_quiet q sends other v there =
            let sizes = sizes_of t.round_trip t.free t.slaves file.sound in
            let plan = plan_at (master_of s) q in
            let x = start_at (master_of s) w + plan.shift_ns in
            subst (λ ds. AreLeft 0x0981 1 (at_arrival sent v) (datagrams_behind p sent t.slaves ds) × AreLeft 0x0920 8 (at_arrival sent v) (datagrams_behind p sent t.slaves ds)) (sym sends) (
              activation_left (kind_at s p) (status_at s p) p sent t.slaves sizes v (stands v there) (reference_of w) q (master_of s).cycle_ns x (wide_at w q) plan.sync1_ns other,
              offset_left (kind_at s p) (status_at s p) p sent t.slaves sizes v (stands v there) (reference_of w) q (master_of s).cycle_ns x (wide_at w q) plan.sync1_ns,
            )

        -- its own, where it comes so far
        pub own_step : w.slaves ≡ words_of (kind_at s) (status_at s) (length s.rows) → e.sent.datagrams ≡ datagrams_of (master_of s) w (Arm p) → p < reach_of t e.sent → (events : List Happening) (u : Slave)
            → slice_get next.slaves p ≡ Some u → (v : Slave) → slice_get t.slaves p ≡ Some v → RunsSince bits clock (sent + v.visits.arrive) s.head.cycles (unit_of s p (start_at (master_of s) w)) events u
        own_step told sends reached events u after v there =
            let parts = parts_there v (file.fixed p v there) in
            let sizes = sizes_of t.round_trip t.free t.slaves file.sound in
            let x = start_at (master_of s) w + (row_there s p).shift_ns in
            let ds = arm_datagrams (reference_of w) p (is_wide (kind_at s p)) s.head.cycle_ns (row_there s p).sync1_ns x in
            let same : e.sent.datagrams ≡ ds = sends ∙ arm_is w p low told in
            let mindful : AreMindful 0 ds = subst (AreMindful 0) (arm_is w p low told) (mindful_step (master_of s) w (Arm p) tt) in
            let cycles = legal.head.cycle_ns in
            let least = cycles.0 in
            let most = cycles.1 in
            let visit = own_visit (kind_at s) (status_at s) (length s.rows) sent t.slaves sizes named p v there (stands v there) is (reference_of w) s.head.cycle_ns x (row_there s p).sync1_ns mindful
            (omega (arith, least)) (omega (arith, most)) (plan_fits p low) clock s.head.cycles events end parts.timing parts.is (before_arrival v parts.timing there parts.is) parts.osc parts.keep in
            subst (λ (z : Slave). RunsSince bits clock (sent + v.visits.arrive) s.head.cycles (unit_of s p (start_at (master_of s) w)) events z) (passed_is v u there reached after)
            (subst (λ es. RunsSince bits clock (sent + v.visits.arrive) s.head.cycles (unit_of s p (start_at (master_of s) w)) events (slave_passed sent end v (datagrams_behind p sent t.slaves es))) (sym same) visit)
