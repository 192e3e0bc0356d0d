-- What a drift frame brings one slave.
use Rattle.std.proofs.Common.{◌≡◌, ◌≢◌, ℕ, ◌+◌, ◌%◌, ◌^◌, ◌<◌, ◌≤◌, ◌==◌, Bool, true, false, List, [], ◌∷◌, length, Some, refl, sym, ap, ap₂, subst, ◌∙◌, eq-eqb, arith}
use Rattle.std.specs.Prelude.{nat_lt, not, slice_get, slice_index_or}
use Rattle.std.proofs.lemmas.Bool.Decides.{nat_tests}
use Rattle.copy_law.proofs.Unwritten.{left_none}
use Rattle.copy_law.proofs.OnTheWay.{IsDrifting, cut_behind, first_like, others_behind, others_none}
use Rattle.ecat_frame.specs.FrameGrammar.{DatagramValue}
use Rattle.esc_regs.specs.RegisterAccess.{is_refused}
use Rattle.esc_regs.specs.RegisterBytes.{number_at}
use Rattle.esc_regs.specs.declared.clock_kind.ClockKind.{ClockKind}
use Rattle.frame_pass.specs.Advancing.{measuring_at}
use Rattle.frame_pass.specs.ClockHistory.{events_passed}
use Rattle.frame_pass.specs.DatagramAtSlave.{is_refused_by, slave_after}
use Rattle.frame_pass.specs.DatagramTable.{writes}
use Rattle.frame_pass.specs.FramePass.{at_arrival, datagrams_behind}
use Rattle.frame_pass.specs.LiveRegisters.{system_time}
use Rattle.frame_pass.specs.SlaveState.{Slave, Timing, station}
use Rattle.frame_pass.specs.WriteEffects.{difference}
use Rattle.honest_slaves.specs.Told.{AreInOrder}
use Rattle.honest_slaves.proofs.Exported.{time_for_clocks, low_where}
use Rattle.local_clock.specs.Reading.{Happening, received}
use Rattle.master_script.specs.Frames.{drift_datagram}
use Rattle.honest_slaves.specs.Standing.{Stands, own_address}
use Rattle.esc_regs.specs.Kinds.{has_clock}
use Rattle.frame_pass.specs.Aside.{HaveSize}
use Rattle.frame_pass.specs.Drift.{Brings, IsDrift, IsOther, first_behind}
use Rattle.frame_pass.proofs.Exported.{behind_others, carried, events_first, frame_addressed, frame_receives, passes_refused, quiet_unwritten, same_refusal}

-- the low half of the system time that a slave has when the frame arrives
abbrev pub word_at : ℕ → Slave → Timing → ℕ
word_at sent v m = system_time (measuring_at (sent + v.visits.arrive) (record { registers = v.registers; timing = m })) % 2 ^ 32

-- then the clock receives the difference of its system time and a word
abbrev pub received_at : ℕ → Slave → Timing → ℕ → Happening
received_at sent v m word = record {
  instant = sent + v.visits.arrive;
  event = received (difference (measuring_at (sent + v.visits.arrive) (record { registers = v.registers; timing = m })) word);
}

-- the first datagram of the frame
is_drift : (r : ℕ) → IsDrift (drift_datagram r)
is_drift r = record { command = refl; ado = refl; size = refl }

own_differs : (p r : ℕ) → p ≢ r → (own_address r == own_address p) ≡ false
own_differs p r other = grind (arith, nat_tests, other)

module _ (kinds : ℕ → ClockKind) (statuses : ℕ → ℕ) (n : ℕ) (sent : ℕ) (ss : List Slave) (are : AreInOrder kinds statuses n n ss) (sizes : HaveSize ss) where
  stands_named : (p : ℕ) (v : Slave) → slice_get ss p ≡ Some v → Stands (kinds p) (statuses p) true p v
  stands_named p v is =
      let low = low_where ss p v is in
      let many = are.many in
      subst (λ (b : Bool). Stands (kinds p) (statuses p) b p v) (let e : nat_lt p n ≡ true = grind (arith, nat_tests, low, many) in e) (are.standing p v is)

  other_stands : (r p : ℕ) (v : Slave) → p ≢ r → slice_get ss p ≡ Some v → IsOther (drift_datagram r).head.adp v
  other_stands r p v other is =
      let h = stands_named p v is in
      record { size = h.slave.size; station = ap (λ (a : ℕ). own_address r == a) h.address ∙ own_differs p r other }

  own_stands : (r : ℕ) (v : Slave) → slice_get ss r ≡ Some v → ((drift_datagram r).head.adp == station v.registers) ≡ true
  own_stands r v is = eq-eqb (own_address r) (station v.registers) (sym (stands_named r v is).address)

  -- a slave refuses it exactly where it is no clock
  refuses : (p : ℕ) (v : Slave) (e : DatagramValue) → slice_get ss p ≡ Some v → e.head.ado ≡ 0x0910 → length e.payload ≡ 4 → is_refused_by v e ≡ not (has_clock (kinds p))
  refuses p v e is ado size =
      ap (λ (k : ClockKind). is_refused k e.head.ado (length e.payload)) (stands_named p v is).slave.kind_is
      ∙ ap₂ (λ (a : ℕ) (b : ℕ). is_refused (kinds p) a b) ado size ∙ time_for_clocks (kinds p)

  module _ (r : ℕ) (ds : List DatagramValue) (drifting : IsDrifting r ds) where
    abbrev first_at : ℕ → DatagramValue
    first_at p = first_behind p sent ss (drift_datagram r)

    abbrev rest_at : ℕ → List DatagramValue
    rest_at p = others_behind p sent ss (drift_datagram r) drifting.others

    there : (p : ℕ) → datagrams_behind p sent ss ds ≡ first_at p ∷ rest_at p
    there p = ap (λ (es : List DatagramValue). datagrams_behind p sent ss es) drifting.are ∙ cut_behind p sent ss (drift_datagram r) drifting.others

    -- behind the reference the first datagram brings what the reference counts
    brings_time : (p : ℕ) (w : Slave) (k : Timing) → r < p → has_clock (kinds r) ≡ true → slice_get ss r ≡ Some w → w.timing ≡ Some k → Brings (word_at sent w k) (drift_datagram r) (first_at p)
    brings_time p w k low own at_r timing_r =
        carried p sent r ss (drift_datagram r) w k low at_r timing_r (stands_named r w at_r).slave.size (is_drift r) (refuses r w (drift_datagram r) at_r refl refl ∙ ap not own)
        (own_stands r w at_r) (λ i u less at other. other_stands r i u other at)

    pub time_told : (p : ℕ) (w : Slave) (k : Timing) (none : DatagramValue) → r < p → has_clock (kinds r) ≡ true → slice_get ss r ≡ Some w → w.timing ≡ Some k
        → number_at 4 0 (slice_index_or (datagrams_behind p sent ss ds) 0 none).payload ≡ word_at sent w k
    time_told p w k none low own at_r timing_r =
        ap (λ (es : List DatagramValue). number_at 4 0 (slice_index_or es 0 none).payload) (there p) ∙ (brings_time p w k low own at_r timing_r).time

    -- a clock behind the reference
    pub clock_receives : (p : ℕ) (v w : Slave) (m k : Timing) → r < p → has_clock (kinds p) ≡ true → has_clock (kinds r) ≡ true → slice_get ss p ≡ Some v → v.timing ≡ Some m
        → m.clock.instant ≤ sent + v.visits.arrive → slice_get ss r ≡ Some w → w.timing ≡ Some k
        → events_passed sent v (datagrams_behind p sent ss ds) ≡ received_at sent v m (word_at sent w k) ∷ []
    clock_receives p v w m k low clock own is timing early at_r timing_r =
        let d = drift_datagram r in
        let e = first_at p in
        let h = stands_named p v is in
        let far : p ≢ r = λ same. omega (arith, same, low) in
        let brings = brings_time p w k low own at_r timing_r in
        ap (λ (es : List DatagramValue). events_passed sent v es) (there p)
        ∙ frame_receives sent v m e (rest_at p) h.slave.size timing early brings.drift (refuses p v e is brings.drift.ado brings.drift.size ∙ ap not clock)
        (ap (λ (a : ℕ). a == station v.registers) brings.adp ∙ (other_stands r p v far is).station)
        (left_none 0x0910 4 (slave_after (at_arrival sent v) e) (rest_at p) (others_none 0x0910 4 p sent ss d drifting.others sizes drifting.time))
        (left_none 0x0930 2 (slave_after (at_arrival sent v) e) (rest_at p) (others_none 0x0930 2 p sent ss d drifting.others sizes drifting.speed))
        ∙ ap (λ (x : ℕ). received_at sent v m x ∷ []) brings.time

    -- the reference itself
    pub reference_rests : (v : Slave) → slice_get ss r ≡ Some v → events_passed sent v (datagrams_behind r sent ss ds) ≡ []
    reference_rests v is =
        let d = drift_datagram r in
        let on = behind_others r sent ss d (is_drift r) (λ i u less at. other_stands r i u (λ same. omega (arith, same, less)) at) in
        ap (λ (es : List DatagramValue). events_passed sent v es) (there r)
        ∙ frame_addressed sent v (first_at r) (rest_at r) (stands_named r v is).slave.size on.drift (ap (λ (a : ℕ). a == station v.registers) on.adp ∙ own_stands r v is)
        (left_none 0x0910 4 (at_arrival sent v) (rest_at r) (others_none 0x0910 4 r sent ss d drifting.others sizes drifting.time))
        (left_none 0x0930 2 (at_arrival sent v) (rest_at r) (others_none 0x0930 2 r sent ss d drifting.others sizes drifting.speed))

    -- a slave that is no clock
    pub other_rests : (p : ℕ) (v : Slave) → has_clock (kinds p) ≡ false → slice_get ss p ≡ Some v → events_passed sent v (datagrams_behind p sent ss ds) ≡ []
    other_rests p v clockless is =
        let d = drift_datagram r in
        let e = first_at p in
        let a = at_arrival sent v in
        let like = first_like p sent ss d sizes in
        let passes = passes_refused a e (same_refusal (sent + v.visits.arrive) v e ∙ refuses p v e is like.ado like.size ∙ ap not clockless) in
        ap (λ (es : List DatagramValue). events_passed sent v es) (there p)
        ∙ events_first a e (rest_at p) (left_none 0x0910 4 (slave_after a e) (rest_at p) (others_none 0x0910 4 p sent ss d drifting.others sizes drifting.time))
        (left_none 0x0930 2 (slave_after a e) (rest_at p) (others_none 0x0930 2 p sent ss d drifting.others sizes drifting.speed))
        ∙ quiet_unwritten a e (ap writes passes)
