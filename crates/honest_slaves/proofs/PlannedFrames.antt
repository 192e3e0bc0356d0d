-- Mindful and planned frames keep the slaves to the signals of their positions.
use Rattle.std.proofs.Common.{◌≡◌, ℕ, ◌+◌, ◌<◌, List, [], ◌∷◌, length, Option, Some, Bool, false, nat_lt, sym, subst, ◌∙◌, arith, inl, inr}
use Rattle.std.specs.Prelude.{slice_get, ◌&&◌}
use Rattle.std.proofs.lemmas.Bool.{cases_lt}
use Rattle.std.proofs.lemmas.Bool.Decides.{nat_tests}
use Rattle.ecat_frame.specs.FrameGrammar.{DatagramValue, FrameValue}
use Rattle.esc_regs.specs.declared.clock_kind.ClockKind.{ClockKind}
use Rattle.esc_regs.specs.Kinds.{has_clock}
use Rattle.sync_units.specs.declared.edge.Signal.{Signal}
use Rattle.sync_units.specs.declared.edge.Signal.TheVariants.{Sync0, Sync1}
use Rattle.frame_pass.specs.SlaveState.{Slave}
use Rattle.frame_pass.specs.DatagramAtSlave.{slave_after}
use Rattle.frame_pass.specs.FramePass.{are_latching, at_arrival, datagrams_behind, end_of, slave_behind, slave_passed}
use Rattle.frame_pass.specs.Invariants.{IsSoundSegment}
use Rattle.frame_pass.specs.Reach.{reach_of}
use Rattle.frame_pass.specs.SegmentState.{SegmentState, leaves_at, segment_step}
use Rattle.frame_pass.proofs.Exported.{step_reached, step_stays, is_not_sent, sizes_of}
use Rattle.honest_slaves.specs.Standing.{Stands}
use Rattle.honest_slaves.specs.Mindful.{AreMindful}
use Rattle.honest_slaves.proofs.Addresses.{stands_after}
use Rattle.honest_slaves.proofs.Frames.{had_before, low_where, mindful_at, same_many, stands_at}
use Rattle.honest_slaves.specs.Told.{AreInOrder}
use Rattle.honest_slaves.specs.OwnSignals.{AllKeepTo, SlaveKeepsTo}
use Rattle.honest_slaves.specs.Planned.{ArePlanned}
use Rattle.honest_slaves.proofs.Activating.{planned_activates}
use Rattle.honest_slaves.proofs.AtSlaves.{advanced_keeps, after_keeps, ports_keep}
use Rattle.honest_slaves.proofs.OnTheWay.{planned_behind}

some_same : {X : Type 0} {x y : X} → Some x ≡ Some y → x ≡ y
some_same e = cc

-- one slave
module _ (k : ClockKind) (status q : ℕ) (low : q < 256) (sync1 : ℕ → Bool) (own : Signal → Bool) (first : own Sync0 ≡ has_clock k) (second : own Sync1 ≡ (has_clock k && sync1 q)) where
  behind_keeps : (s : Slave) (ds : List DatagramValue) → AreMindful q ds → ArePlanned sync1 ds → Stands k status false q s → SlaveKeepsTo own s → SlaveKeepsTo own (slave_behind s ds)
  unfolding slave_behind
  behind_keeps s [] mindful planned stands h = h
  behind_keeps s (d ∷ ds) mindful planned stands h =
      behind_keeps (slave_after s d) ds mindful.1 planned.1 (stands_after k status false q s d low mindful.0 stands)
      (after_keeps own s d (planned_activates k status q sync1 own first second s d stands planned.0) h)

  passed_keeps : (sent : ℕ) (end : Option ℕ) (s : Slave) (ds : List DatagramValue) → AreMindful q ds → ArePlanned sync1 ds → Stands k status false q s → SlaveKeepsTo own s
      → SlaveKeepsTo own (slave_passed sent end s ds)
  unfolding slave_passed
  passed_keeps sent end s ds mindful planned stands h =
      let at = sent + s.visits.arrive in
      ports_keep own (are_latching (at_arrival sent s) ds) sent end (slave_behind (at_arrival sent s) ds)
      (behind_keeps (at_arrival sent s) ds mindful planned (stands_at k status false q at s stands) (advanced_keeps own at s h))

none_named : (q : ℕ) → nat_lt q 0 ≡ false
none_named q = grind (arith, nat_tests)

-- all slaves
module _ (kinds : ℕ → ClockKind) (statuses : ℕ → ℕ) (n : ℕ) (sync1 : ℕ → Bool) (own : ℕ → Signal → Bool) (first : (q : ℕ) → own q Sync0 ≡ has_clock (kinds q)) (second : (q : ℕ) → q < n → own q Sync1 ≡ (has_clock (kinds q) && sync1 q)) where
  step_at : (s : SegmentState) (wait_ns : ℕ) (f : FrameValue) (q : ℕ) (v w : Slave) → s.sent < 1000000 → IsSoundSegment s → AreInOrder kinds statuses n 0 s.slaves → AreMindful 0 f.datagrams
      → ArePlanned sync1 f.datagrams → AllKeepTo own s.slaves → q < length s.slaves → slice_get s.slaves q ≡ Some v → slice_get (segment_step s wait_ns f).0.slaves q ≡ Some w → SlaveKeepsTo (own q) w
  step_at s wait_ns f q v w early sound are mindful planned keep low is after =
      let at = leaves_at s wait_ns in
      let many = are.many in
      let few = are.few in
      elim (cases_lt q (reach_of s f)) [
        | inl reached ↦
            subst (SlaveKeepsTo (own q)) (some_same (sym (step_reached s wait_ns f q v early reached is) ∙ after))
            (passed_keeps (kinds q) (statuses q) q (omega (arith, low, many, few)) sync1 (own q) (first q) (second q (omega (arith, low, many))) at (end_of (reach_of s f) s.slaves) v
            (datagrams_behind q at s.slaves f.datagrams) (mindful_at kinds statuses 0 q at s.slaves f.datagrams are.standing mindful (omega (arith, low)))
            (planned_behind sync1 q at s.slaves f.datagrams (sizes_of s.round_trip s.free s.slaves sound) planned)
            (subst (λ b. Stands (kinds q) (statuses q) b q v) (none_named q) (are.standing q v is)) (keep q v is))
        | inr beyond ↦ subst (SlaveKeepsTo (own q)) (some_same (sym is ∙ sym (step_stays s wait_ns f q early beyond) ∙ after)) (keep q v is)
      ]

  pub step_keeps : (s : SegmentState) (wait_ns : ℕ) (f : FrameValue) → IsSoundSegment s → AreInOrder kinds statuses n 0 s.slaves → AreMindful 0 f.datagrams → ArePlanned sync1 f.datagrams
      → AllKeepTo own s.slaves → AllKeepTo own (segment_step s wait_ns f).0.slaves
  step_keeps s wait_ns f sound are mindful planned keep =
      elim (cases_lt s.sent 1000000) [
        | inl early ↦ λ q w after.
            let many = same_many s wait_ns f in
            let within = low_where (segment_step s wait_ns f).0.slaves q w after in
            let low : q < length s.slaves = omega (arith, many, within) in
            let v = had_before s.slaves q low in
            step_at s wait_ns f q v.slave w early sound are mindful planned keep low v.is after
        | inr late ↦ subst (λ (t : SegmentState). AllKeepTo own t.slaves) (sym ((is_not_sent s wait_ns f late).1)) keep
      ]
