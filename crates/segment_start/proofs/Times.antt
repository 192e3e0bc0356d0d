-- When the frames of a legal segment leave, and how its clocks begin.
use Rattle.std.proofs.Common.{◌≡◌, ℕ, ◌+◌, ◌*◌, ◌^◌, ◌<◌, ◌≤◌, List, [], length, Option, Some, None, true, refl, ap, subst, ◌∙◌, arith}
use Rattle.std.specs.Prelude.{IfSome, slice_index_or}
use Rattle.std.proofs.lemmas.List.Elements.{All-get_or}
use Rattle.ecat_frame.specs.FrameGrammar.{FrameValue}
use Rattle.esc_regs.specs.declared.clock_kind.ClockKind.{ClockKind}
use Rattle.esc_regs.specs.declared.clock_kind.ClockKind.TheVariants as kind
use Rattle.osc_clock.specs.Ticks.{IsRunning}
use Rattle.esc_regs.specs.Kinds.{greatest_start, measures}
use Rattle.segment_file.specs.Segment.{RowValue, SegmentValue, oscillator, no_row}
use Rattle.segment_file.specs.Legal.{IsLegal, IsClock, KeepsTime}
use Rattle.segment_file.proofs.Exported.{legal_round_trip, legal_clocks}
use Rattle.frame_pass.specs.SlaveState.{Timing, Slave, width}
use Rattle.frame_pass.specs.SegmentState.{leaves_at}
use Rattle.frame_pass.specs.Invariants.{IsUnsent, after_frames}
use Rattle.frame_pass.specs.ClockHistory.{HasHistory}
use Rattle.frame_pass.proofs.Exported.{sending_times, of_start}
use Rattle.segment_start.specs.Start.{registers_of, slave_of, timing_by, timing_of, started_segment}

pub starts_unsent : (s : SegmentValue) → IsUnsent (started_segment s)
unfolding started_segment
starts_unsent s = record { sent = refl; last = refl; free = refl }

pub legal_times : (s : SegmentValue) (fs : List FrameValue) → IsLegal s → length fs < 1000000
    → leaves_at (after_frames s.head.frame_ns fs (started_segment s)) s.head.frame_ns ≡ (length fs + 1) * (1000000 * s.head.frame_ns)
unfolding started_segment
legal_times s fs legal few =
    let short : s.head.frame_ns ≤ 10000000 = legal.head.frame_ns.1 in
    let back = legal_round_trip s legal in
    sending_times (started_segment s) s.head.frame_ns fs (starts_unsent s) short (omega (arith, back)) few

-- a start that the kind allows is a word of the clock's width
fits : (k : ClockKind) (x : ℕ) → x ≤ greatest_start k → x < 2 ^ width k
unfolding width
fits kind.None x h = omega (arith, h)
fits kind.R32 x h = omega (arith, h)
fits kind.C32 x h = omega (arith, h)
fits kind.C64 x h = omega (arith, h)

some_is : (P : Timing → Type 0) (o : Option Timing) (t : Timing) → o ≡ Some t → P t → IfSome o P
some_is P None t e p = tt
some_is P (Some u) t e p = let same : t ≡ u = cc in subst P same p

none_is : (P : Timing → Type 0) (o : Option Timing) → o ≡ None → IfSome o P
none_is P None e = tt
none_is P (Some u) e = absurd (let x = e in cc)

-- a slave by its kind, where its clock runs if it has one
begins : (k : ClockKind) (cycles : ℕ) (row : RowValue) (s : Slave) → s.timing ≡ timing_by k cycles row → s.registers.kind ≡ k → row.start ≤ greatest_start k
    → (measures k ≡ true → IsRunning (oscillator row))
    → IfSome s.timing (λ m. HasHistory (width s.registers.kind) m.clock [] s × IsRunning m.clock.osc × (m.clock.instant ≡ 0))
begins k cycles row s e is start run = by k refl
  where
    P : Timing → Type 0
    P m = HasHistory (width s.registers.kind) m.clock [] s × IsRunning m.clock.osc × (m.clock.instant ≡ 0)

    with_clock : (t : Timing) → s.timing ≡ Some t → t.clock.reading ≡ row.start → IsRunning t.clock.osc → t.clock.instant ≡ 0 → IfSome s.timing P
    with_clock t is_t reading runs first = some_is P s.timing t is_t (of_start (width s.registers.kind) s t is_t refl (rw (reading, is) (fits k row.start start)), runs, first)

    by : (j : ClockKind) → k ≡ j → IfSome s.timing P
    by kind.None j = none_is P s.timing (e ∙ ap (λ x. timing_by x cycles row) j)
    by kind.R32 j = with_clock (timing_of 0 row) (e ∙ ap (λ x. timing_by x cycles row) j) refl (run (ap measures j)) refl
    by kind.C32 j = with_clock (timing_of cycles row) (e ∙ ap (λ x. timing_by x cycles row) j) refl (run (ap measures j)) refl
    by kind.C64 j = with_clock (timing_of cycles row) (e ∙ ap (λ x. timing_by x cycles row) j) refl (run (ap measures j)) refl

pub clocks_begin : (s : SegmentValue) (r : ℕ) → IsLegal s → r < length s.rows
    → IfSome (slave_of s r).timing (λ m. HasHistory (width (slave_of s r).registers.kind) m.clock [] (slave_of s r) × IsRunning m.clock.osc × (m.clock.instant ≡ 0))
unfolding slave_of registers_of
clocks_begin s r legal low =
    let row = slice_index_or s.rows r no_row in
    let clock : IsClock s.head.cycle_ns row = All-get_or (IsClock s.head.cycle_ns) s.rows r no_row low legal.clocks in
    let keeps : KeepsTime s.head.ppm row = All-get_or (KeepsTime s.head.ppm) s.rows r no_row low (legal_clocks s legal) in
    begins row.kind s.head.cycles row (slave_of s r) refl refl clock.start (λ m. (keeps m).0)
