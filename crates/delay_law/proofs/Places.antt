-- The slave at a position of a legal file, whatever frames have passed it.
use Rattle.std.proofs.Common.{◌≡◌, ℕ, ◌+◌, ◌*◌, ◌%◌, ◌^◌, ◌<◌, ◌≤◌, List, length, Option, Some, None, true, refl, sym, ap, subst, ◌∙◌, arith}
use Rattle.std.specs.Prelude.{IfSome, slice_get}
use Rattle.std.specs.Option.{option_map}
use Rattle.std.proofs.Math.Nat.{mod-eq_of_lt}
use Rattle.std.proofs.lemmas.List.Elements.{All-get_or}
use Rattle.cable_tree.specs.declared.port.Port.{Port}
use Rattle.cable_tree.specs.declared.port.Port.TheVariants.{P1, P2, P3}
use Rattle.cable_tree.specs.Row.{Row}
use Rattle.cable_tree.specs.PathSums.{arrive, port_time}
use Rattle.dc_bounds.specs.TickFacts.{IsWithin}
use Rattle.esc_regs.specs.declared.clock_kind.ClockKind.{ClockKind}
use Rattle.esc_regs.specs.declared.clock_kind.ClockKind.TheVariants as kind
use Rattle.osc_clock.specs.Ticks.{IsRunning}
use Rattle.esc_regs.specs.Kinds.{greatest_start, measures}
use Rattle.segment_file.specs.Legal.{IsClock, IsLegal, KeepsTime}
use Rattle.segment_file.specs.Segment.{RowValue, SegmentValue, no_row, oscillator, row_at, tree_rows}
use Rattle.segment_file.proofs.Exported.{legal_clocks, row_within}
use Rattle.segment_start.specs.Start.{registers_of, slave_of, started_segment, timing_by, visits_of}
use Rattle.segment_start.proofs.Exported.{as_many, stands_at, row_in_turn}
use Rattle.frame_pass.specs.SlaveState.{Slave, Timing, Visits, fixed_part, width}
use Rattle.honest_slaves.proofs.Exported.{low_where}
use Rattle.frame_pass.specs.ReceiveTimes.{AreInTurn}
use Rattle.honest_slaves.specs.FileSlaves.{kind_at}
use Rattle.delay_law.specs.Resting.{AllRest, Rests, row_there, shown_at}
use Rattle.delay_law.specs.HeldTimes.{back_into}
use Rattle.delay_law.specs.OfFile.{IsFixed}
use Rattle.delay_law.proofs.Stepping.{AtEach}

some_same : {X : Type 0} {x y : X} → Some x ≡ Some y → x ≡ y
some_same e = cc

-- a slave with a clock measures, and one that measures has a clock
measures_by : (k : ClockKind) (cycles : ℕ) (row : RowValue) (o : Option Timing) (m : Timing) → option_map (λ t. t.clock.osc) o ≡ option_map (λ t. t.clock.osc) (timing_by k cycles row) → o ≡ Some m → measures k ≡ true
measures_by kind.None cycles row None m e is = absurd (let z = is in cc)
measures_by kind.None cycles row (Some t) m e is = absurd (let z = e in cc)
measures_by kind.R32 cycles row o m e is = refl
measures_by kind.C32 cycles row o m e is = refl
measures_by kind.C64 cycles row o m e is = refl

pub record Has (o : Option Timing) : Type 0 where
  pub timing : Timing
  pub is : o ≡ Some timing

has_by : (k : ClockKind) (cycles : ℕ) (row : RowValue) (o : Option Timing) → option_map (λ t. t.clock.osc) o ≡ option_map (λ t. t.clock.osc) (timing_by k cycles row) → measures k ≡ true → Has o
has_by k cycles row (Some t) e is = record { timing = t; is = refl }
has_by kind.None cycles row None e is = absurd (let z = is in cc)
has_by kind.R32 cycles row None e is = absurd (let z = e in cc)
has_by kind.C32 cycles row None e is = absurd (let z = e in cc)
has_by kind.C64 cycles row None e is = absurd (let z = e in cc)

-- a start that the kind allows is a word of the clock's width
word_fits : (k : ClockKind) (x : ℕ) → x ≤ greatest_start k → x < 2 ^ width k
unfolding width
word_fits kind.None x h = omega (arith, h)
word_fits kind.R32 x h = omega (arith, h)
word_fits kind.C32 x h = omega (arith, h)
word_fits kind.C64 x h = omega (arith, h)

-- a clock rests at the start
first_shown : (row : RowValue) → row.start ≤ greatest_start row.kind → row.start ≡ shown_at row 0
first_shown row most =
    let none : row.start + 10 * 0 ≡ row.start = omega arith in
    sym (ap (λ x. x % 2 ^ width row.kind) none ∙ mod-eq_of_lt (word_fits row.kind row.start most))

rests_by : (k : ClockKind) (cycles : ℕ) (row : RowValue) → row.start ≤ greatest_start row.kind → IfSome (timing_by k cycles row) (Rests row)
rests_by kind.None cycles row most = tt
rests_by kind.R32 cycles row most = record { osc = refl; left = refl; reading = first_shown row most }
rests_by kind.C32 cycles row most = record { osc = refl; left = refl; reading = first_shown row most }
rests_by kind.C64 cycles row most = record { osc = refl; left = refl; reading = first_shown row most }

-- a slave without a clock stays without
none_by : (o p : Option Timing) → option_map (λ t. t.clock.osc) o ≡ option_map (λ t. t.clock.osc) p → p ≡ None → o ≡ None
none_by None p e is = refl
none_by (Some m) p e is = absurd (let z : Some m.clock.osc ≡ None = e ∙ ap (option_map (λ t. t.clock.osc)) is in cc)

pub none_stays : (v w : Slave) → fixed_part w ≡ fixed_part v → v.timing ≡ None → w.timing ≡ None
none_stays v w e is = none_by w.timing v.timing (ap (λ p. p.oscillator) e) is

same_back : (v : Visits) (rows : List Row) (r : ℕ) → v ≡ visits_of rows r → (p : Port) → back_into v p ≡ port_time rows r p
same_back v rows r e P1 = ap (λ (z : Visits). z.back1) e
same_back v rows r e P2 = ap (λ (z : Visits). z.back2) e
same_back v rows r e P3 = ap (λ (z : Visits). z.back3) e

module _ (s : SegmentValue) (legal : IsLegal s) where
  slave_there : (q : ℕ) (v : Slave) → slice_get (started_segment s).slaves q ≡ Some v → v ≡ slave_of s (row_at s q)
  slave_there q v is =
      let within = low_where (started_segment s).slaves q v is in
      let many = as_many s legal in
      some_same (sym is ∙ stands_at s q legal (omega (arith, within, many)))

  pub fixed_first : AtEach (IsFixed s) (started_segment s).slaves
  fixed_first q v is = ap fixed_part (slave_there q v is)

  row_low : (q : ℕ) → q < length s.rows → row_at s q < length s.rows
  row_low q low = row_within s legal q low

  clock_there : (q : ℕ) → q < length s.rows → IsClock s.head.cycle_ns (row_there s q)
  clock_there q low = All-get_or (IsClock s.head.cycle_ns) s.rows (row_at s q) no_row (row_low q low) legal.clocks

  pub rests_first : AllRest s (started_segment s).slaves
  unfolding slave_of
  rests_first q v is =
      let within = low_where (started_segment s).slaves q v is in
      let many = as_many s legal in
      let clock = clock_there q (omega (arith, within, many)) in
      subst (λ (x : Slave). IfSome x.timing (Rests (row_there s q))) (sym (slave_there q v is)) (rests_by (row_there s q).kind s.head.cycles (row_there s q) clock.start)

  pub measures_there : (q : ℕ) (v : Slave) (m : Timing) → IsFixed s q v → v.timing ≡ Some m → measures (kind_at s q) ≡ true
  unfolding slave_of
  measures_there q v m fixed is = measures_by (kind_at s q) s.head.cycles (row_there s q) v.timing m (ap (λ p. p.oscillator) fixed) is

  pub has_there : (q : ℕ) (v : Slave) → IsFixed s q v → measures (kind_at s q) ≡ true → Has v.timing
  unfolding slave_of
  has_there q v fixed is = has_by (kind_at s q) s.head.cycles (row_there s q) v.timing (ap (λ p. p.oscillator) fixed) is

  pub kind_there : (q : ℕ) (v : Slave) → IsFixed s q v → v.registers.kind ≡ (row_there s q).kind
  unfolding slave_of registers_of
  kind_there q v fixed = ap (λ p. p.kind) fixed

  -- the oscillator of a slave that measures runs, within ppm
  pub keeps_there : (q : ℕ) → q < length s.rows → measures (kind_at s q) ≡ true → IsRunning (oscillator (row_there s q)) × IsWithin s.head.ppm (oscillator (row_there s q))
  keeps_there q low is = All-get_or (KeepsTime s.head.ppm) s.rows (row_at s q) no_row (row_low q low) (legal_clocks s legal) is

  pub visits_there : (q : ℕ) (v : Slave) → IsFixed s q v → v.visits ≡ visits_of (tree_rows s.rows) (row_at s q)
  unfolding slave_of
  visits_there q v fixed = ap (λ p. p.visits) fixed

  pub arrives_there : (q : ℕ) (v : Slave) → IsFixed s q v → v.visits.arrive ≡ arrive (tree_rows s.rows) (row_at s q)
  arrives_there q v fixed = ap (λ (z : Visits). z.arrive) (visits_there q v fixed)

  pub back_there : (q : ℕ) (v : Slave) → IsFixed s q v → (p : Port) → back_into v.visits p ≡ port_time (tree_rows s.rows) (row_at s q) p
  back_there q v fixed p = same_back v.visits (tree_rows s.rows) (row_at s q) (visits_there q v fixed) p

  pub turn_there : (q : ℕ) (v : Slave) → q < length s.rows → IsFixed s q v → AreInTurn v.visits
  turn_there q v low fixed = subst AreInTurn (sym (ap (λ p. p.visits) fixed)) (row_in_turn s (row_at s q) legal (row_low q low))
