-- Two edges of one index on two slaves are no further apart than their window.
use Rattle.std.proofs.Common.{◌≡◌, ℕ, ◌+◌, ◌-◌, ◌*◌, ◌/◌, ◌<◌, ◌≤◌, true, List, length, Some, Ok, inl, inr, sym, ap, ap₂, subst, ◌∙◌, arith}
use Rattle.std.specs.Prelude.{slice_get}
use Rattle.std.proofs.Math.Nat.{add-mul, mul-le-mul_right}
use Rattle.std.proofs.lemmas.Bool.{cases_lt}
use Rattle.cable_tree.specs.PathSums.{round_trip}
use Rattle.cable_tree.specs.Positions.{position_of}
use Rattle.copy_law.specs.Drawn.{arrives_at}
use Rattle.copy_law.specs.History.{history_from}
use Rattle.copy_law.specs.Receipts.{IsReference}
use Rattle.copy_law.specs.SinceLatch.{latch_arrival}
use Rattle.copy_law.specs.WholeTimes.{reference_time, whole_copy}
use Rattle.copy_law.proofs.Exported.{latched_within, reference_clock, reference_low, the_reference, ticks_over, whole_copies_near}
use Rattle.dc_bounds.specs.CopyBound.{window}
use Rattle.dc_bounds.specs.LockNumbers.{period_fs}
use Rattle.dc_bounds.specs.TickBounds.{count_gap, tick_fs}
use Rattle.dc_bounds.specs.TickFacts.{IsNear, IsWithin}
use Rattle.dc_bounds.proofs.Exported.{edges_near}
use Rattle.delay_law.specs.Resting.{row_there}
use Rattle.delay_law.proofs.Exported.{keeps_there}
use Rattle.ecat_link.specs.Exchanges.{Exchange}
use Rattle.edge_law.proofs.Ahead.{arrives_inside, clock_measures}
use Rattle.edge_law.proofs.EndOfRun.{IsEdgeOf, IsWholeRun, edge_of_run, is_low, parts}
use Rattle.edge_law.proofs.SettledAt.{settle_frames_are}
use Rattle.edge_report.specs.Edges.{HasSignal, shift_of}
use Rattle.esc_regs.specs.Kinds.{has_clock}
use Rattle.frame_pass.specs.SlaveState.{Slave, Timing}
use Rattle.honest_slaves.specs.FileSlaves.{kind_at}
use Rattle.master_script.specs.Words.{Words}
use Rattle.osc_clock.specs.Ticks.{IsRunning, Oscillator, ticks}
use Rattle.osc_clock.proofs.Exported.{ticks_rise}
use Rattle.run_counts.specs.Transmissions.{settling_sends}
use Rattle.run_counts.proofs.Exported.{honest_replies, settled_sends}
use Rattle.run_of_file.specs.Commissioned.{IsCommissioned, words_after}
use Rattle.run_of_file.specs.MasterOfFile.{master_of}
use Rattle.run_of_file.specs.RunOfFile.{RunEnd, run_of, settled}
use Rattle.segment_bounds.specs.Bounds.{copy_bound_at}
use Rattle.segment_bounds.specs.Window.{apart}
use Rattle.segment_file.specs.Segment.{SegmentValue, oscillator, row_at, tree_rows}
use Rattle.segment_file.proofs.Exported.{legal_reference, legal_round_trip}
use Rattle.segment_start.specs.Start.{started_segment}
use Rattle.sync_units.specs.Edges.{edges_of}
use Rattle.sync_units.specs.declared.edge.Edge.{Edge}
use Rattle.sync_units.specs.declared.edge.Signal.{Signal}

some_same : {X : Type 0} {x y : X} → Some x ≡ Some y → x ≡ y
some_same e = cc

turned_window : (ppm a b x y : ℕ) → window ppm (apart a b) x y ≡ window ppm (apart b a) y x
turned_window ppm a b x y =
    let sum : tick_fs + x + y ≡ tick_fs + y + x = omega arith in
    let shift : apart a b ≡ apart b a = omega arith in
    let whole : 1000000 * apart a b + tick_fs + x + y ≡ 1000000 * apart b a + tick_fs + y + x = omega (arith, shift) in
    ap₂ (λ (m : ℕ) (n : ℕ). m + count_gap ppm (n / tick_fs)) sum whole

module _ (s : SegmentValue) (first before run : RunEnd) (it : IsCommissioned s first) (settled_is : settled s ≡ Some before) (run_is : run_of s ≡ Some run) (ok : run.answer ≡ Ok tt) where
  abbrev whole_run : IsWholeRun s first before run it settled_is run_is ok
  whole_run = parts s first before run it settled_is run_is ok

  abbrev words : Words
  words = words_after s first

  abbrev period : ℕ
  period = period_fs s.head.frame_ns

  abbrev r : ℕ
  r = position_of (tree_rows s.rows) (legal_reference s it.legal).0

  reference : IsReference s r
  reference = the_reference s it.legal

  abbrev o : Oscillator
  o = oscillator (row_there s r)

  keeps : IsRunning o × IsWithin s.head.ppm o
  keeps = keeps_there s it.legal r (reference_low s it.legal r reference) (clock_measures (kind_at s r) (reference_clock s it.legal r reference))

  sent : length before.exchanges ≡ length first.exchanges + settling_sends s
  sent =
      let many = settled_sends s it.legal (honest_replies s it.legal) first before it.is settled_is whole_run.before_ok in
      let same = settle_frames_are s in
      omega (arith, many, same)

  same_exchanges : run.exchanges ≡ whole_run.last.exchanges
  same_exchanges = ap (λ (x : RunEnd). x.exchanges) (sym whole_run.goes)

  -- one edge: its instant is late enough for the copies to be near
  module _ (p : ℕ) (low : p < length s.rows) (is : has_clock (kind_at s p) ≡ true) (frame u : ℕ) (behind : settling_sends s < frame) (after : arrives_at s first frame p < u)
      (by : u ≤ (length run.exchanges + 1) * period_fs s.head.frame_ns) where
    settled_then : length before.exchanges * period + round_trip (tree_rows s.rows) ≤ u
    settled_then =
        let trip = legal_round_trip s it.legal in
        let many = sent in
        let more = mul-le-mul_right period (let le : length before.exchanges + 1 ≤ length first.exchanges + frame = omega (arith, many, behind) in le) in
        let one = add-mul (length before.exchanges) 1 period in
        omega (arith, trip, more, one, after)

    near_then : IsNear (1000000 * whole_copy s words p (history_from (started_segment s) run.exchanges p) u) (1000000 * reference_time s words r u) (copy_bound_at s (row_at s p))
    near_then =
        subst (λ (es : List Exchange). IsNear (1000000 * whole_copy s words p (history_from (started_segment s) es p) u) (1000000 * reference_time s words r u) (copy_bound_at s (row_at s p))) (sym same_exchanges)
        (whole_copies_near s first before whole_run.last it settled_is whole_run.before_ok whole_run.last_is r reference p low is u settled_then
        (subst (λ (es : List Exchange). u ≤ (length es + 1) * period_fs s.head.frame_ns) same_exchanges by))

    latched_then : latch_arrival s words r ≤ u
    latched_then =
        let early = latched_within (master_of s) first.exchanges in
        let inner = arrives_inside s it.legal r (reference_low s it.legal r reference) in
        let many = sent in
        let more = mul-le-mul_right period (let le : words.latched ≤ length before.exchanges = omega (arith, early, many) in le) in
        let late = settled_then in
        omega (arith, inner, more, late)

  -- two edges, the first of them earlier
  apart_by : (a b x y due other copy_a copy_b u v : ℕ) → latch_arrival s words r ≤ u → u ≤ v → IsNear (1000000 * copy_a) (1000000 * reference_time s words r u) x
      → IsNear (1000000 * copy_b) (1000000 * reference_time s words r v) y → due ≤ copy_a → copy_a ≤ due + 10 → other ≤ copy_b → copy_b ≤ other + 10 → other + a ≡ due + b
      → IsNear (v + 1000000 * a) (u + 1000000 * b) (window s.head.ppm (apart a b) x y)
  apart_by a b x y due other copy_a copy_b u v late order near_a near_b least_a most_a least_b most_b same =
      let k = ticks o v - ticks o u in
      let ticked = ticks_over o s.head.ppm u v (v - u) keeps.0 it.legal.head.ppm keeps.1 (omega (arith, order)) in
      let rise = ticked.1 in
      let before_rise = ticks_rise o (latch_arrival s words r) u keeps.0 late in
      let on : reference_time s words r v ≡ reference_time s words r u + 10 * k = omega (arith, rise, before_rise) in
      let above_a = near_a.above in
      let below_a = near_a.below in
      let above_b = near_b.above in
      let below_b = near_b.below in
      let near = edges_near s.head.ppm (apart a b) x y a b due other (reference_time s words r u) (reference_time s words r v) k (v - u) (record { above = omega arith; below = omega arith })
      (omega (arith, above_a, least_a)) (omega (arith, below_a, most_a)) (omega (arith, above_b, least_b)) (omega (arith, below_b, most_b)) same on ticked.0.count in
      let up = near.above in
      let down = near.below in
      record { above = omega (arith, up, order); below = omega (arith, down, order) }

  -- two signals
  module _ (p : ℕ) (is_p : has_clock (kind_at s p) ≡ true) (v : Slave) (at_p : slice_get run.state.slaves p ≡ Some v) (m : Timing) (has_p : v.timing ≡ Some m) (signal : Signal) (signals : HasSignal (row_there s p) signal)
      (q : ℕ) (is_q : has_clock (kind_at s q) ≡ true) (w : Slave) (at_q : slice_get run.state.slaves q ≡ Some w) (n : Timing) (has_q : w.timing ≡ Some n) (other : Signal) (others : HasSignal (row_there s q) other)
      (k : ℕ) (early : k < s.head.cycles) where
    abbrev here : IsEdgeOf s first before run it settled_is run_is ok p is_p v at_p m has_p signal signals k early
    here = edge_of_run s first before run it settled_is run_is ok p is_p v at_p m has_p signal signals k early

    abbrev there : IsEdgeOf s first before run it settled_is run_is ok q is_q w at_q n has_q other others k early
    there = edge_of_run s first before run it settled_is run_is ok q is_q w at_q n has_q other others k early

    abbrev a : ℕ
    a = shift_of (row_there s p) signal

    abbrev b : ℕ
    b = shift_of (row_there s q) other

    abbrev x : ℕ
    x = copy_bound_at s (row_at s p)

    abbrev y : ℕ
    y = copy_bound_at s (row_at s q)

    low_p : p < length s.rows
    low_p = is_low s first before run it settled_is run_is ok p is_p v at_p m has_p signal signals k early

    low_q : q < length s.rows
    low_q = is_low s first before run it settled_is run_is ok q is_q w at_q n has_q other others k early

    instants_near : IsNear (there.instant + 1000000 * a) (here.instant + 1000000 * b) (window s.head.ppm (apart a b) x y)
    instants_near =
        let near_p = near_then p low_p is_p here.frame here.instant here.behind here.raised.after here.raised.by in
        let near_q = near_then q low_q is_q there.frame there.instant there.behind there.raised.after there.raised.by in
        let late_p = latched_then p low_p is_p here.frame here.instant here.behind here.raised.after here.raised.by in
        let late_q = latched_then q low_q is_q there.frame there.instant there.behind there.raised.after there.raised.by in
        elim (cases_lt there.instant here.instant) [
          | inr order ↦
              apart_by a b x y _ _ _ _ here.instant there.instant late_p order near_p near_q here.raised.reached here.raised.near there.raised.reached there.raised.near (omega arith)
          | inl back ↦
              let turned = apart_by b a y x _ _ _ _ there.instant here.instant late_q (omega (arith, back)) near_q near_p there.raised.reached there.raised.near here.raised.reached here.raised.near (omega arith) in
              let same = turned_window s.head.ppm a b x y in
              let up = turned.above in
              let down = turned.below in
              record { above = omega (arith, down, same); below = omega (arith, up, same) }
        ]

    -- so are the edges that are kept
    pub edges_in_window : (e f : Edge) → slice_get (edges_of signal m.edges.edges) k ≡ Some e → slice_get (edges_of other n.edges.edges) k ≡ Some f
        → IsNear (f.time_fs + 1000000 * a) (e.time_fs + 1000000 * b) (window s.head.ppm (apart a b) x y)
    edges_in_window e f kept_e kept_f =
        let time_e = ap (λ (z : Edge). z.time_fs) (some_same (sym kept_e ∙ here.raised.is_kept)) in
        let time_f = ap (λ (z : Edge). z.time_fs) (some_same (sym kept_f ∙ there.raised.is_kept)) in
        let near = instants_near in
        let up = near.above in
        let down = near.below in
        record { above = omega (arith, up, time_e, time_f); below = omega (arith, down, time_e, time_f) }
