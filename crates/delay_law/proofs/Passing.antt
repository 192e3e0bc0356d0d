-- What a frame leaves of a slave whose clock rests, and of its receive times.
use Rattle.std.proofs.Common.{◌≡◌, ℕ, ◌+◌, ◌%◌, ◌^◌, ◌<◌, ◌≤◌, List, [], Option, Some, None, true, false, sym, ap, ◌∙◌, arith, subst, inl, inr}
use Rattle.std.specs.Prelude.{IfSome}
use Rattle.std.proofs.Math.Nat.{mod-lt}
use Rattle.std.proofs.lemmas.Nat.{pow_pos}
use Rattle.cable_tree.specs.declared.port.Port.{Port}
use Rattle.cable_tree.specs.declared.port.Port.TheVariants.{P1, P2, P3}
use Rattle.ecat_frame.specs.FrameGrammar.{DatagramValue}
use Rattle.esc_regs.specs.RegisterFile.{Registers}
use Rattle.osc_clock.specs.Ticks.{IsRunning}
use Rattle.local_clock.specs.Reading.{AreInOrder, Clock, Happening, reading_at}
use Rattle.local_clock.proofs.Exported.{stands}
use Rattle.segment_file.specs.Segment.{RowValue, oscillator}
use Rattle.frame_pass.specs.SlaveState.{Slave, Timing, Visits, holds, width}
use Rattle.frame_pass.specs.ClockHistory.{HasHistory, IsOfTiming, events_passed}
use Rattle.frame_pass.specs.FramePass.{are_latching, at_arrival, slave_passed}
use Rattle.frame_pass.specs.PlainRegisters.{AreLeft}
use Rattle.frame_pass.proofs.Exported.{fixed_passed, of_passed, of_start, HasSize, quiet_passed, goes_behind, latched_passed, resets_passed}
use Rattle.frame_pass.specs.ReceiveTimes.{AreInTurn, AreReceiveTimes, IsReceiveTime, port_time, until}
use Rattle.frame_pass.specs.Rest.{AreResets}
use Rattle.delay_law.specs.Resting.{Rests, shown_at}
use Rattle.delay_law.specs.HeldTimes.{HoldsTimes, back_into, port_register}
use Rattle.delay_law.proofs.Resting.{Counts, counts_at}

-- a slave of a row, before a frame that is sent then, whose clock rests
pub record Resting (row : RowValue) (sent : ℕ) (v : Slave) (m : Timing) : Type 0 where
  pub is : v.timing ≡ Some m
  pub size : HasSize v.registers
  pub kind : v.registers.kind ≡ row.kind
  pub early : m.clock.instant ≤ sent + v.visits.arrive
  pub rests : Rests row m

-- the later of two visits is no earlier than the first
until_late : (a b : ℕ) (o : Option ℕ) → a ≤ b → IfSome o (λ at. b ≤ at) → a ≤ until b o
until_late a b None le h = le
until_late a b (Some at) le h = omega (arith, le, h)

there_so : (P : ℕ → Type 0) (o : Option ℕ) (at : ℕ) → o ≡ Some at → IfSome o P → P at
there_so P o at e h = subst (λ (x : Option ℕ). IfSome x P) e h

-- every port is visited after the arrival
pub behind_arrival : (v : Visits) → AreInTurn v → (p : Port) (at : ℕ) → back_into v p ≡ Some at → v.arrive ≤ at
behind_arrival v turn P3 at e = there_so (λ u. v.arrive ≤ u) v.back3 at e turn.port3
behind_arrival v turn P1 at e =
    let first = until_late v.arrive v.arrive v.back3 (omega arith) turn.port3 in
    let second = there_so (λ u. until v.arrive v.back3 ≤ u) v.back1 at e turn.port1 in
    omega (arith, first, second)
behind_arrival v turn P2 at e =
    let first = until_late v.arrive v.arrive v.back3 (omega arith) turn.port3 in
    let second = until_late v.arrive (until v.arrive v.back3) v.back1 first turn.port1 in
    let third = there_so (λ u. until (until v.arrive v.back3) v.back1 ≤ u) v.back2 at e turn.port2 in
    omega (arith, second, third)

port_taken : (reading : ℕ → ℕ) (sent before at : ℕ) (o : Option ℕ) → o ≡ Some at → port_time reading sent None o before ≡ reading (sent + at) % 2 ^ 32
port_taken reading sent before at o e = ap (λ (x : Option ℕ). port_time reading sent None x before) e

pub is_port : (p : Port) → IsReceiveTime (port_register p) 4
is_port P1 = inl (omega arith, omega arith)
is_port P2 = inl (omega arith, omega arith)
is_port P3 = inl (omega arith, omega arith)

module _ (row : RowValue) (running : IsRunning (oscillator row)) where
  abbrev bits : ℕ
  bits = width row.kind

  counting : (m : Timing) → Rests row m → Counts row.start bits (oscillator row) running m.clock
  counting m h = record { osc = h.osc; left = h.left; reading = h.reading }

  resting : (m : Timing) → Counts row.start bits (oscillator row) running m.clock → Rests row m
  resting m h = record { osc = h.osc; left = h.left; reading = h.reading }

  runs : (sent : ℕ) (v : Slave) (m : Timing) → Resting row sent v m → IsRunning m.clock.osc
  runs sent v m h = subst IsRunning (sym h.rests.osc) running

  begins : (sent : ℕ) (v : Slave) (m : Timing) → Resting row sent v m → HasHistory bits m.clock [] v
  begins sent v m h =
      of_start bits v m h.is (ap width h.kind) (subst (λ x. x < 2 ^ bits) (sym h.rests.reading) (mod-lt _ (pow_pos bits)))

  -- a history of resets leaves it at rest
  rests_by : (c : Clock) (es : List Happening) (r : Registers) (o : Option Timing) → Counts row.start bits (oscillator row) running c → AreResets es → IsOfTiming bits c es r o → IfSome o (Rests row)
  rests_by c es r None h resets is = tt
  rests_by c es r (Some m) h resets is =
      resting m (subst (Counts row.start bits (oscillator row) running) (sym is.clock)
      (counts_at row.start bits (oscillator row) running m.clock.instant c es is.began is.order resets h))

  pub rests_passed : (sent : ℕ) (end : Option ℕ) (v : Slave) (m : Timing) (ds : List DatagramValue) → Resting row sent v m → AreLeft 0x0910 4 (at_arrival sent v) ds
      → IfSome (slave_passed sent end v ds).timing (Rests row)
  rests_passed sent end v m ds h far =
      rests_by m.clock (events_passed sent v ds) (slave_passed sent end v ds).registers (slave_passed sent end v ds).timing (counting m h.rests) (resets_passed sent v ds far)
      (of_passed bits m.clock [] sent end v ds (runs sent v m h) (begins sent v m h))

  -- what it shows from the arrival on
  shows : (sent : ℕ) (v : Slave) (m : Timing) (ds : List DatagramValue) → Resting row sent v m → AreLeft 0x0910 4 (at_arrival sent v) ds → (u : ℕ) → sent + v.visits.arrive ≤ u
      → reading_at bits m.clock (events_passed sent v ds) u ≡ shown_at row u
  shows sent v m ds h far u late =
      let early = h.early in
      let es = events_passed sent v ds in
      let order : AreInOrder m.clock.instant es = (goes_behind bits m.clock [] sent v m ds (runs sent v m h) h.is h.size early (begins sent v m h)).goes.history.order in
      let c = counts_at row.start bits (oscillator row) running u m.clock es (omega (arith, early, late)) order (resets_passed sent v ds far) (counting m h.rests) in
      c.reading ∙ ap (shown_at row) (stands bits u m.clock es).0

  same_visits : (sent : ℕ) (end : Option ℕ) (v : Slave) (ds : List DatagramValue) → (slave_passed sent end v ds).visits ≡ v.visits
  same_visits sent end v ds = ap (λ p. p.visits) (fixed_passed sent end v ds)

  -- a frame that makes it latch, and comes back, leaves what it shows at the visits
  pub holds_latched : (sent : ℕ) (v : Slave) (m : Timing) (ds : List DatagramValue) → Resting row sent v m → AreInTurn v.visits → AreLeft 0x0910 4 (at_arrival sent v) ds
      → are_latching (at_arrival sent v) ds ≡ true → HoldsTimes row sent (slave_passed sent None v ds)
  holds_latched sent v m ds h turn far latching =
      let w = slave_passed sent None v ds in
      let time : IfSome v.timing (λ k. k.clock.instant ≤ sent + v.visits.arrive) = subst (λ (o : Option Timing). IfSome o (λ k. k.clock.instant ≤ sent + v.visits.arrive)) (sym h.is) h.early in
      let t = latched_passed bits m.clock [] sent None v m ds (runs sent v m h) h.is (record { size = h.size; time = time; visits = turn }) (begins sent v m h) latching in
      let same = same_visits sent None v ds in
      let at_first = shows sent v m ds h far (sent + v.visits.arrive) (omega arith) in
      let arrives : sent + v.visits.arrive ≡ sent + w.visits.arrive = ap (λ (z : Visits). sent + z.arrive) (sym same) in
      record {
        port0 = t.port0 ∙ ap (λ x. x % 2 ^ 32) at_first ∙ ap (λ u. shown_at row u % 2 ^ 32) arrives;
        ports = λ p at e. by p at (ap (λ (z : Visits). back_into z p) (sym same) ∙ e) t;
        unit = t.unit ∙ at_first ∙ ap (shown_at row) arrives;
      }
    where
      taken : (p : Port) (at : ℕ) → back_into v.visits p ≡ Some at → reading_at bits m.clock (events_passed sent v ds) (sent + at) % 2 ^ 32 ≡ shown_at row (sent + at) % 2 ^ 32
      taken p at e = let late = behind_arrival v.visits turn p at e in ap (λ x. x % 2 ^ 32) (shows sent v m ds h far (sent + at) (omega (arith, late)))

      by : (p : Port) (at : ℕ) → back_into v.visits p ≡ Some at → AreReceiveTimes (reading_at bits m.clock (events_passed sent v ds)) sent None v.visits v.registers (slave_passed sent None v ds).registers
          → holds 4 (port_register p) (slave_passed sent None v ds).registers ≡ shown_at row (sent + at) % 2 ^ 32
      by P1 at e t = t.port1 ∙ port_taken (reading_at bits m.clock (events_passed sent v ds)) sent (holds 4 0x0904 v.registers) at v.visits.back1 e ∙ taken P1 at e
      by P2 at e t = t.port2 ∙ port_taken (reading_at bits m.clock (events_passed sent v ds)) sent (holds 4 0x0908 v.registers) at v.visits.back2 e ∙ taken P2 at e
      by P3 at e t = t.port3 ∙ port_taken (reading_at bits m.clock (events_passed sent v ds)) sent (holds 4 0x090C v.registers) at v.visits.back3 e ∙ taken P3 at e

  -- and one that makes no slave latch leaves it
  pub holds_passed : (before sent : ℕ) (end : Option ℕ) (v : Slave) (ds : List DatagramValue) → HasSize v.registers → are_latching (at_arrival sent v) ds ≡ false → HoldsTimes row before v
      → HoldsTimes row before (slave_passed sent end v ds)
  holds_passed before sent end v ds size quiet h =
      let same = same_visits sent end v ds in
      let arrives : before + v.visits.arrive ≡ before + (slave_passed sent end v ds).visits.arrive = ap (λ (z : Visits). before + z.arrive) (sym same) in
      record {
        port0 = quiet_passed 0x0900 4 sent end v ds (inl (omega arith, omega arith)) size quiet ∙ h.port0 ∙ ap (λ u. shown_at row u % 2 ^ 32) arrives;
        ports = λ p at e. quiet_passed (port_register p) 4 sent end v ds (is_port p) size quiet ∙ h.ports p at (ap (λ (z : Visits). back_into z p) (sym same) ∙ e);
        unit = quiet_passed 0x0918 8 sent end v ds (inr (omega arith, omega arith)) size quiet ∙ h.unit ∙ ap (shown_at row) arrives;
      }
