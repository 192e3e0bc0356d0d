-- The local copies of calls are those of the history.
use Rattle.std.proofs.Common.{◌≡◌, ℕ, ◌+◌, ◌-◌, ◌%◌, ◌^◌, ◌<◌, ◌≤◌, ◌⊎◌, List, [], ◌∷◌, ◌++◌, length, Option, Some, None, Bool, true, false, nat_le, refl, sym, ap, ap₂, subst, ◌∙◌, arith, append_assoc, inl, inr}
use Rattle.std.specs.Prelude.{if◌then◌else◌, ⊤}
use Rattle.std.proofs.lemmas.Bool.{cases_lt}
use Rattle.std.proofs.lemmas.List.{append-nil}
use Rattle.ecat_frame.specs.FrameGrammar.{DatagramValue}
use Rattle.osc_clock.specs.Ticks.{Oscillator, IsRunning, ticks, instant}
use Rattle.osc_clock.proofs.Exported.{reached, not_after, ticks_rise}
use Rattle.local_clock.specs.FirstReaching.{tick_after}
use Rattle.local_clock.specs.Reading.{Clock, Happening, advanced, clock_at, reading_at, reading_after, ticks_to, AreInOrder}
use Rattle.local_clock.proofs.Exported.{in_turn, stands, not_yet, is_until, is_after, ticks_to_tick}
use Rattle.sync_units.specs.ClockCopy.{copy_after}
use Rattle.sync_units.specs.Calls.{Call, AreInTurn, end_of, ticks_of_calls, copy_in}
use Rattle.esc_regs.specs.declared.answers.Written.{Written}
use Rattle.esc_regs.specs.RegisterWrite.{written, told}
use Rattle.frame_pass.specs.SlaveState.{Timing, Measuring, Slave, width, holds, offset, delay, on_measuring}
use Rattle.frame_pass.specs.LiveRegisters.{system_time}
use Rattle.frame_pass.specs.WriteEffects.{latched}
use Rattle.frame_pass.specs.Advancing.{advanced_to, measuring_at}
use Rattle.frame_pass.specs.DatagramTable.{writes}
use Rattle.frame_pass.specs.DatagramAtSlave.{doing, slave_after}
use Rattle.frame_pass.specs.FramePass.{slave_behind, port_latched, port_taken, ports_taken, comes_by, at_arrival, are_latching, slave_passed}
use Rattle.frame_pass.specs.ClockHistory.{IsOf, HasHistory, received_of, reset_of, events_told, events_wrote, events_by, events_in, events_passed}
use Rattle.frame_pass.specs.UnitHistory.{calls_until, calls_to, calls_of_port, calls_of_ports, calls_passed}
use Rattle.frame_pass.specs.PlainRegisters.{IsPlain, AreLeft}
use Rattle.frame_pass.proofs.Fixed.{fixed_advanced, fixed_passed}
use Rattle.frame_pass.proofs.Plain.{plain_datagram}
use Rattle.frame_pass.proofs.Sizes.{HasSize, size_holding}
use Rattle.esc_regs.proofs.Exported.{untouched}
use Rattle.frame_pass.specs.Copies.{copy_at, time_at, HasCopies}
use Rattle.frame_pass.proofs.Effects.{left_holding, left_advanced}
use Rattle.frame_pass.proofs.Latching.{Stands, stands_after, stands_behind, size_after}
use Rattle.frame_pass.proofs.Ports.{Told, Goes, Is, goes_of, is_advanced, goes_behind, passed_behind, same_timing}
use Rattle.frame_pass.proofs.Drifting.{timing_advanced, registers_advanced}

-- calls in turn lead on
turn_end : (o : Oscillator) (t : ℕ) (cs : List Call) → AreInTurn o t cs → t ≤ end_of t cs
turn_end o t [] h = omega arith
turn_end o t (c ∷ cs) h = let rest = turn_end o c.until cs h.3 in let on = h.2 in omega (arith, on, rest)

pub turn_more : (o : Oscillator) (t : ℕ) (cs : List Call) (c : Call) → AreInTurn o t cs → c.clock.osc ≡ o → c.clock.instant ≡ end_of t cs → end_of t cs ≤ c.until
    → AreInTurn o t (cs ++ c ∷ [])
turn_more o t [] c turn osc at late = (osc, at, late, tt)
turn_more o t (d ∷ cs) c turn osc at late = (turn.0, turn.1, turn.2, turn_more o d.until cs c turn.3 osc at late)

pub end_more : (t : ℕ) (cs : List Call) (c : Call) → end_of t (cs ++ c ∷ []) ≡ c.until
end_more t [] c = refl
end_more t (d ∷ cs) c = end_more d.until cs c

ticks_in : (o : Oscillator) (t : ℕ) (c : Call) → c.clock.osc ≡ o → c.clock.instant ≡ t → ticks_to c.clock c.until ≡ ticks o c.until - ticks o t
ticks_in o t c osc at = rw (osc, at) refl

-- the copies of one call more
copies_more : (w : ℕ) (o : Oscillator) (t : ℕ) (cs : List Call) (c : Call) (k : ℕ) → IsRunning o → AreInTurn o t cs → c.clock.osc ≡ o → c.clock.instant ≡ end_of t cs → end_of t cs ≤ c.until
    → 0 < k → k ≤ ticks o c.until - ticks o t
    → ((k ≤ ticks_of_calls o t cs) × (copy_in w (cs ++ c ∷ []) k ≡ copy_in w cs k))
    ⊎ ((ticks_of_calls o t cs < k) × (copy_in w (cs ++ c ∷ []) k ≡ copy_after w c.clock c.offset (k - ticks_of_calls o t cs)))
copies_more w o t [] c k run turn osc at late some few =
    let n = ticks_in o t c osc at in
    let all : nat_le k (ticks_to c.clock c.until) ≡ true = is_until k (ticks_to c.clock c.until) (omega (arith, n, few)) in
    let none : ticks_of_calls o t [] ≡ 0 = omega arith in
    let same : k - 0 ≡ k = omega arith in
    inr (omega (arith, none, some), rw (all, none, same) refl)
copies_more w o t (d ∷ cs) c k run turn osc at late some few =
    let n = ticks_in o t d turn.0 turn.1 in
    let on = turn.2 in
    let later = turn_end o d.until cs turn.3 in
    let a = ticks_rise o t d.until run on in
    let b = ticks_rise o d.until (end_of d.until cs) run later in
    let e = ticks_rise o (end_of d.until cs) c.until run late in
    elim (cases_lt (ticks_to d.clock d.until) k) [
      | inl past ↦
          let not : nat_le k (ticks_to d.clock d.until) ≡ false = is_after k (ticks_to d.clock d.until) past in
          let m = ticks_to d.clock d.until in
          elim (copies_more w o d.until cs c (k - m) run turn.3 osc at late (omega (arith, past)) (omega (arith, n, few, a, b, e, past))) [
            | inl h ↦ let le = h.0 in inl (omega (arith, le, n, a, b, past), rw not h.1)
            | inr h ↦
                let less = h.0 in
                let rest : k - m - ticks_of_calls o d.until cs ≡ k - ticks_of_calls o t (d ∷ cs) = omega (arith, n, a, b, past) in
                inr (omega (arith, less, n, a, b, past), rw not (h.1 ∙ ap (copy_after w c.clock c.offset) rest))
          ]
      | inr within ↦
          let all : nat_le k (ticks_to d.clock d.until) ≡ true = is_until k (ticks_to d.clock d.until) within in
          inl (omega (arith, n, a, b, within), rw all refl)
    ]

-- A measuring slave with 4096 bytes, its history, and the copies of its calls.
pub record Copies (x : Told) (off start : ℕ) (cs : List Call) (s : Slave) : Type 0 where
  pub timing : Timing
  pub is : s.timing ≡ Some timing
  pub size : HasSize s.registers
  pub history : IsOf x.bits x.clock x.events timing.clock.instant (record { registers = s.registers; timing = timing })
  pub offset_is : offset s.registers ≡ off
  pub in_turn : AreInTurn x.clock.osc start cs
  pub end : end_of start cs ≡ timing.clock.instant
  pub copies : (k : ℕ) → 0 < k → k ≤ ticks_of_calls x.clock.osc start cs
      → copy_in x.bits cs k ≡ copy_at x.bits x.clock x.events off (instant x.clock.osc (ticks x.clock.osc start + k))

osc_of : (x : Told) (t : ℕ) (m : Measuring) → IsOf x.bits x.clock x.events t m → m.timing.clock.osc ≡ x.clock.osc
osc_of x t m h = ap (λ c. c.osc) h.clock ∙ (stands x.bits t x.clock x.events).1

-- what the clock shows at a tick from now on
tick_reading : (x : Told) (m : Measuring) (j : ℕ) → IsRunning x.clock.osc → 0 < j → IsOf x.bits x.clock x.events m.timing.clock.instant m
    → reading_after x.bits m.timing.clock j ≡ reading_at x.bits x.clock x.events (instant x.clock.osc (ticks x.clock.osc m.timing.clock.instant + j))
tick_reading x m j run some h =
    let o = x.clock.osc in
    let p = m.timing.clock.instant in
    let t = instant o (ticks o p + j) in
    let osc = osc_of x p m h in
    let late : p ≤ t = elim (cases_lt t p) [
      | inl early ↦ absurd (let few = reached o p (ticks o p + j) run (omega (arith, early)) in omega (arith, few, some))
      | inr le ↦ le
    ] in
    let same : tick_after m.timing.clock j ≡ t = rw osc refl in
    let count : ticks_to m.timing.clock t ≡ j = ap (ticks_to m.timing.clock) (sym same) ∙ ticks_to_tick m.timing.clock j (rw osc run) in
    let on : advanced x.bits t (clock_at x.bits x.clock x.events p) ≡ clock_at x.bits x.clock x.events t =
    in_turn x.bits p t x.clock x.events [] run h.began late h.past tt ∙ ap (λ hs. clock_at x.bits x.clock hs t) (append-nil x.events) in
    ap (reading_after x.bits m.timing.clock) (sym count) ∙ ap (λ c. c.reading) (ap (advanced x.bits t) h.clock ∙ on)

same_offset : (t : ℕ) (s : Slave) → HasSize s.registers → offset (advanced_to t s).registers ≡ offset s.registers
same_offset t s size =
    ap₂ (λ n k. n % 2 ^ width k) (left_advanced 0x0920 8 t s (inr (omega arith)) (inr (omega arith)) size) (ap (λ p. p.kind) (fixed_advanced t s))

goes_in : (x : Told) (off start : ℕ) (cs : List Call) (s : Slave) (t : ℕ) → (h : Copies x off start cs s) → h.timing.clock.instant ≤ t → Goes x t s
goes_in x off start cs s t h early = record { timing = h.timing; is = h.is; size = h.size; early = early; history = h.history }

unmoved : (t : ℕ) (s : Slave) (m : Timing) → s.timing ≡ Some m → t < m.clock.instant → advanced_to t s ≡ s
unfolding advanced_to measuring_at
unmoved t s m e late = rw (e, is_after m.clock.instant t late) refl

calls_at : (t : ℕ) (s : Slave) (m : Timing) → s.timing ≡ Some m → calls_to t s ≡ calls_until t (record { registers = s.registers; timing = m })
calls_at t s m e = rw e refl

pub copies_advanced : (x : Told) (off start : ℕ) (cs : List Call) (t : ℕ) (s : Slave) → IsRunning x.clock.osc → Copies x off start cs s → Copies x off start (cs ++ calls_to t s) (advanced_to t s)
copies_advanced x off start cs t s run h = elim (cases_lt t p) [
  | inl late ↦
      let none : calls_to t s ≡ [] = calls_at t s h.timing h.is ∙ rw (is_after p t late) refl in
      subst (λ v. Copies x off start (cs ++ calls_to t s) v) (sym (unmoved t s h.timing h.is late))
      (subst (λ es. Copies x off start es s) (sym (ap (λ es. cs ++ es) none ∙ append-nil cs)) h)
  | inr early ↦
      let k = is_advanced x t s run (goes_in x off start cs s t h early) in
      let osc = osc_of x p (record { registers = s.registers; timing = h.timing }) h.history in
      let one : calls_to t s ≡ c ∷ [] = calls_at t s h.timing h.is ∙ rw (is_until p t early) refl in
      let at = k.instant in
      subst (λ es. Copies x off start (cs ++ es) (advanced_to t s)) (sym one) (record {
        timing = k.goes.timing;
        is = k.goes.is;
        size = k.goes.size;
        history = k.goes.history;
        offset_is = same_offset t s h.size ∙ h.offset_is;
        in_turn = turn_more x.clock.osc start cs c h.in_turn osc (sym h.end) (omega (arith, h.end, early));
        end = end_more start cs c ∙ sym at;
        copies = λ j some few. of osc early j some few;
      })
]
  where
    p : ℕ
    p = h.timing.clock.instant

    c : Call
    c = record { clock = h.timing.clock; offset = offset s.registers; until = t }

    of : h.timing.clock.osc ≡ x.clock.osc → p ≤ t → (j : ℕ) → 0 < j → j ≤ ticks_of_calls x.clock.osc start (cs ++ c ∷ [])
        → copy_in x.bits (cs ++ c ∷ []) j ≡ copy_at x.bits x.clock x.events off (instant x.clock.osc (ticks x.clock.osc start + j))
    of osc early j some few =
        let o = x.clock.osc in
        let ends = end_more start cs c in
        let before = turn_end o start cs h.in_turn in
        let rise = ticks_rise o start (end_of start cs) run before in
        let few' : j ≤ ticks o t - ticks o start = (rw ends at few) in
        elim (copies_more x.bits o start cs c j run h.in_turn osc (sym h.end) (omega (arith, h.end, early)) some few') [
          | inl k ↦ k.1 ∙ h.copies j some k.0
          | inr k ↦
              let less = k.0 in
              let i = j - ticks_of_calls o start cs in
              let reading = tick_reading x (record { registers = s.registers; timing = h.timing }) i run (omega (arith, less)) h.history in
              let place : ticks o (end_of start cs) + i ≡ ticks o start + j = omega (arith, rise, less) in
              let tick : ticks o p + i ≡ ticks o start + j = ap (λ z. ticks o z + i) (sym h.end) ∙ place in
              k.1 ∙ ap₂ (λ r z. (r + z) % 2 ^ x.bits) (reading ∙ ap (λ z. reading_at x.bits x.clock x.events (instant o z)) tick) h.offset_is
        ]

-- what datagrams bring, they bring at the slave's present time
AreAt : ℕ → List Happening → Type 0
AreAt t [] = ⊤
AreAt t (h ∷ hs) = (h.instant ≡ t) × AreAt t hs

both_at : (t : ℕ) (hs gs : List Happening) → AreAt t hs → AreAt t gs → AreAt t (hs ++ gs)
unfolding AreAt
both_at t [] gs a b = b
both_at t (h ∷ hs) gs a b = (a.0, both_at t hs gs a.1 b)

ordered_at : (u t : ℕ) (hs : List Happening) → u ≤ t → AreAt t hs → AreInOrder u hs
unfolding AreAt
ordered_at u t [] le a = tt
ordered_at u t (h ∷ hs) le a = let e = a.0 in (omega (arith, le, e), ordered_at h.instant t hs (omega (arith, e)) a.1)

latched_at : (b : Bool) (m : Measuring) → (latched b m).timing.clock.instant ≡ m.timing.clock.instant
unfolding latched
latched_at true m = refl
latched_at false m = refl

received_at : (t : ℕ) (o : Option ℕ) (m : Measuring) → m.timing.clock.instant ≡ t → AreAt t (received_of o m)
unfolding AreAt
received_at t None m e = tt
received_at t (Some y) m e = (e, tt)

reset_at : (t : ℕ) (o : Option ℕ) (m : Measuring) → m.timing.clock.instant ≡ t → AreAt t (reset_of o m)
unfolding AreAt
reset_at t None m e = tt
reset_at t (Some y) m e = (e, tt)

told_at : (t : ℕ) (tells : Written) (m : Measuring) → m.timing.clock.instant ≡ t → AreAt t (events_told tells m)
told_at t tells m e =
    both_at t (received_of tells.received (latched tells.latched m)) (reset_of tells.rate m) (received_at t tells.received (latched tells.latched m) (latched_at tells.latched m ∙ e))
    (reset_at t tells.rate m e)

datagram_at : (t x : ℕ) (s : Slave) (d : DatagramValue) → Stands t x s → AreAt t (events_by s d)
unfolding events_by events_wrote AreAt
datagram_at t x s d h = by (writes (doing s d)) refl
  where
    by : (b : Bool) → writes (doing s d) ≡ b → AreAt t (events_by s d)
    by true e = rw (e, h.is) (told_at t (told s.registers.kind d.head.ado d.payload) (record { registers = written s.registers d.head.ado d.payload; timing = h.timing }) h.shows.instant)
    by false e = rw e tt

datagrams_at : (t x : ℕ) (s : Slave) (ds : List DatagramValue) → Stands t x s → AreAt t (events_in s ds)
unfolding events_in AreAt
datagrams_at t x s [] h = tt
datagrams_at t x s (d ∷ ds) h = both_at t (events_by s d) (events_in (slave_after s d) ds) (datagram_at t x s d h) (datagrams_at t x (slave_after s d) ds (stands_after t x s d h))

-- the offset stays where no datagram writes it
is_plain : IsPlain 0x0920 8
is_plain = record { ports = inl (omega arith); unit = inl (omega arith); difference = inr (omega arith); status = inr (omega arith); stamp = inr (omega arith) }

held_after : (s : Slave) (d : DatagramValue) → HasSize s.registers → (writes (doing s d) ≡ true → (d.head.ado + length d.payload ≤ 0x0920) ⊎ (0x0920 + 8 ≤ d.head.ado))
    → holds 8 0x0920 (slave_after s d).registers ≡ holds 8 0x0920 s.registers
held_after s d size far = plain_datagram 0x0920 8 s d is_plain size ∙ by (writes (doing s d)) refl
  where
    by : (b : Bool) → writes (doing s d) ≡ b → holds 8 0x0920 (if writes (doing s d) then written s.registers d.head.ado d.payload else s.registers) ≡ holds 8 0x0920 s.registers
    by true e = rw e (untouched s.registers d.head.ado d.payload 0x0920 8 size (far e))
    by false e = rw e refl

held_behind : (s : Slave) (ds : List DatagramValue) → HasSize s.registers → AreLeft 0x0920 8 s ds → holds 8 0x0920 (slave_behind s ds).registers ≡ holds 8 0x0920 s.registers
unfolding slave_behind AreLeft
held_behind s [] size far = refl
held_behind s (d ∷ ds) size far = held_behind (slave_after s d) ds (size_after s d size) far.1 ∙ held_after s d size far.0

-- the datagrams of a frame
pub copies_behind : (w : ℕ) (c : Clock) (es : List Happening) (off start : ℕ) (cs : List Call) (sent : ℕ) (s : Slave) (m : Timing) (ds : List DatagramValue) → IsRunning c.osc → s.timing ≡ Some m
    → m.clock.instant ≤ sent + s.visits.arrive → AreLeft 0x0920 8 (at_arrival sent s) ds → Copies (record { bits = w; clock = c; events = es }) off start cs s
    → Copies (record { bits = w; clock = c; events = es ++ events_passed sent s ds }) off start (cs ++ calls_to (sent + s.visits.arrive) s) (slave_behind (at_arrival sent s) ds)
copies_behind w c es off start cs sent s m ds run e early far h = record {
  timing = k.goes.timing;
  is = k.goes.is;
  size = k.goes.size;
  history = k.goes.history;
  offset_is = same ∙ first.offset_is;
  in_turn = first.in_turn;
  end = first.end ∙ stood ∙ sym k.instant;
  copies = λ j some few. first.copies j some few ∙ ap (λ r. (r + off) % 2 ^ w) (sym (unchanged j some few));
}
  where
    t : ℕ
    t = sent + s.visits.arrive

    x : Told
    x = record { bits = w; clock = c; events = es }

    a : Slave
    a = at_arrival sent s

    history : HasHistory w c es s
    history = rw h.is h.history

    first : Copies x off start (cs ++ calls_to t s) a
    first = copies_advanced x off start cs t s run h

    k : Is (record { bits = w; clock = c; events = es ++ events_passed sent s ds }) t (slave_behind a ds)
    k = goes_behind w c es sent s m ds run e h.size early history

    i : Is x t a
    i = is_advanced x t s run (goes_of x t s m e h.size early history)

    stand : Stands t i.goes.timing.clock.reading a
    stand = record { timing = i.goes.timing; is = i.goes.is; shows = record { size = i.goes.size; instant = i.instant; reading = refl } }

    behind : Stands t i.goes.timing.clock.reading (slave_behind a ds)
    behind = stands_behind t i.goes.timing.clock.reading a ds stand

    stood : first.timing.clock.instant ≡ t
    stood = ap (λ z. z.clock.instant) (same_timing a.timing first.timing i.goes.timing first.is i.goes.is) ∙ i.instant

    same : offset (slave_behind a ds).registers ≡ offset a.registers
    same = ap₂ (λ n z. n % 2 ^ width z) (held_behind a ds first.size far)
        (ap (λ v. v.registers.kind) (sym (passed_behind sent s ds)) ∙ ap (λ p. p.kind) (fixed_passed sent (Some 0) s ds) ∙ sym (ap (λ p. p.kind) (fixed_advanced t s)))

    unchanged : (j : ℕ) → 0 < j → j ≤ ticks_of_calls c.osc start (cs ++ calls_to t s)
        → reading_at w c (es ++ events_passed sent s ds) (instant c.osc (ticks c.osc start + j)) ≡ reading_at w c es (instant c.osc (ticks c.osc start + j))
    unchanged j some few =
        let o = c.osc in
        let u = instant o (ticks o start + j) in
        let last = end_of start (cs ++ calls_to t s) in
        let rise = ticks_rise o start last run (turn_end o start (cs ++ calls_to t s) first.in_turn) in
        let low : u ≤ last = not_after o last (ticks o start + j) run (omega (arith, few, rise, some)) in
        let ends : last ≡ t = first.end ∙ stood in
        elim (cases_lt u t) [
          | inl before ↦
              ap (λ z. z.reading) (not_yet w u c es (events_passed sent s ds) (ordered_at (u + 1) t (events_passed sent s ds) (omega (arith, before)) (datagrams_at t i.goes.timing.clock.reading a ds stand)))
          | inr late ↦
              let now : u ≡ t = omega (arith, late, low, ends) in
              let shows = ap (λ z. z.clock.reading) (same_timing (slave_behind a ds).timing behind.timing k.goes.timing behind.is k.goes.is) in
              ap (reading_at w c (es ++ events_passed sent s ds)) now ∙ sym k.reading ∙ sym shows ∙ behind.shows.reading ∙ i.reading ∙ sym (ap (reading_at w c es) now)
        ]

-- the ports
copies_latched : (x : Told) (off start addr : ℕ) (cs : List Call) (s : Slave) → addr + 4 ≤ 0x0910 → Copies x off start cs s → Copies x off start cs (on_measuring (port_latched addr) s)
copies_latched x off start addr cs s room h =
    let i = h.history in
    rw h.is (record {
      timing = h.timing;
      is = refl;
      size = size_holding 4 addr (h.timing.clock.reading % 2 ^ 32) s.registers (omega (arith, room)) h.size;
      history = record { width = i.width; began = i.began; order = i.order; past = i.past; possible = i.possible; clock = i.clock };
      offset_is = ap (λ n. n % 2 ^ width s.registers.kind) (left_holding 4 addr (h.timing.clock.reading % 2 ^ 32) 0x0920 8 s.registers (omega (arith, room)) h.size (inl (omega (arith, room))))
          ∙ h.offset_is;
      in_turn = h.in_turn;
      end = h.end;
      copies = h.copies;
    })

copies_port : (x : Told) (off start sent : ℕ) (end : Option ℕ) (addr : ℕ) (o : Option ℕ) (cs : List Call) (s : Slave) → addr + 4 ≤ 0x0910 → IsRunning x.clock.osc → Copies x off start cs s
    → Copies x off start (cs ++ calls_of_port sent end o s) (port_taken sent end addr o s)
unfolding port_taken
copies_port x off start sent end addr None cs s room run h = rw (append-nil cs) h
copies_port x off start sent end addr (Some u) cs s room run h = by (comes_by end u) refl
  where
    by : (b : Bool) → comes_by end u ≡ b → Copies x off start (cs ++ calls_of_port sent end (Some u) s) (port_taken sent end addr (Some u) s)
    by true e = rw e (copies_latched x off start addr (cs ++ calls_to (sent + u) s) (advanced_to (sent + u) s) room (copies_advanced x off start cs (sent + u) s run h))
    by false e = rw (e, append-nil cs) h

copies_ports : (x : Told) (off start sent : ℕ) (end : Option ℕ) (cs : List Call) (s : Slave) → IsRunning x.clock.osc → Copies x off start cs s
    → Copies x off start (cs ++ calls_of_ports sent end s) (ports_taken sent end s)
unfolding calls_of_ports ports_taken
copies_ports x off start sent end cs s run h =
    let s3 = port_taken sent end 0x090C s.visits.back3 s in
    let s1 = port_taken sent end 0x0904 s.visits.back1 s3 in
    let a = calls_of_port sent end s.visits.back3 s in
    let b = calls_of_port sent end s.visits.back1 s3 in
    let c = calls_of_port sent end s.visits.back2 s1 in
    let list : ((cs ++ a) ++ b) ++ c ≡ cs ++ (a ++ (b ++ c)) = append_assoc (cs ++ a) b c ∙ append_assoc cs a (b ++ c) in
    rw (← list) (copies_port x off start sent end 0x0908 s.visits.back2 ((cs ++ a) ++ b) s1 (omega arith) run
    (copies_port x off start sent end 0x0904 s.visits.back1 (cs ++ a) s3 (omega arith) run (copies_port x off start sent end 0x090C s.visits.back3 cs s (omega arith) run h)))

copies_passed : (w : ℕ) (c : Clock) (es : List Happening) (off start : ℕ) (cs : List Call) (sent : ℕ) (end : Option ℕ) (s : Slave) (m : Timing) (ds : List DatagramValue) → IsRunning c.osc → s.timing ≡ Some m
    → m.clock.instant ≤ sent + s.visits.arrive → AreLeft 0x0920 8 (at_arrival sent s) ds → Copies (record { bits = w; clock = c; events = es }) off start cs s
    → Copies (record { bits = w; clock = c; events = es ++ events_passed sent s ds }) off start (cs ++ calls_passed sent end s ds) (slave_passed sent end s ds)
unfolding calls_passed slave_passed
copies_passed w c es off start cs sent end s m ds run e early far h = by (are_latching (at_arrival sent s) ds) refl
  where
    y : Told
    y = record { bits = w; clock = c; events = es ++ events_passed sent s ds }

    first : List Call
    first = calls_to (sent + s.visits.arrive) s

    behind : Copies y off start (cs ++ first) (slave_behind (at_arrival sent s) ds)
    behind = copies_behind w c es off start cs sent s m ds run e early far h

    by : (b : Bool) → are_latching (at_arrival sent s) ds ≡ b → Copies y off start (cs ++ calls_passed sent end s ds) (slave_passed sent end s ds)
    by true f = rw (f, ← append_assoc cs first (calls_of_ports sent end (slave_behind (at_arrival sent s) ds)))
        (copies_ports y off start sent end (cs ++ first) (slave_behind (at_arrival sent s) ds) run behind)
    by false f = rw (f, append-nil first) behind

-- as the law says it
copies_in : (w : ℕ) (c : Clock) (es : List Happening) (start : ℕ) (cs : List Call) (s : Slave) (m : Timing) → s.timing ≡ Some m → HasSize s.registers → HasHistory w c es s → HasCopies w c es start cs s
    → Copies (record { bits = w; clock = c; events = es }) (offset s.registers) start cs s
copies_in w c es start cs s m e size h k =
    record { timing = m; is = e; size = size; history = (rw e at h); offset_is = refl; in_turn = k.in_turn; end = let z = k.end in (rw e at z); copies = k.copies }

copies_out : (x : Told) (off start : ℕ) (cs : List Call) (s : Slave) → Copies x off start cs s → HasCopies x.bits x.clock x.events start cs s
copies_out x off start cs s h = record { in_turn = h.in_turn; end = rw h.is h.end; copies = λ k some few. rw h.offset_is (h.copies k some few) }

pub time_copies : (w : ℕ) (c : Clock) (es : List Happening) (start : ℕ) (cs : List Call) (t : ℕ) (s : Slave) (m : Timing) → IsRunning c.osc → s.timing ≡ Some m → HasSize s.registers
    → HasHistory w c es s → HasCopies w c es start cs s → HasCopies w c es start (cs ++ calls_to t s) (advanced_to t s)
time_copies w c es start cs t s m run e size h k =
    copies_out (record { bits = w; clock = c; events = es }) (offset s.registers) start (cs ++ calls_to t s) (advanced_to t s)
    (copies_advanced (record { bits = w; clock = c; events = es }) (offset s.registers) start cs t s run (copies_in w c es start cs s m e size h k))

pub frame_copies : (w : ℕ) (c : Clock) (es : List Happening) (start : ℕ) (cs : List Call) (sent : ℕ) (end : Option ℕ) (s : Slave) (m : Timing) (ds : List DatagramValue) → IsRunning c.osc → s.timing ≡ Some m
    → HasSize s.registers → m.clock.instant ≤ sent + s.visits.arrive → AreLeft 0x0920 8 (at_arrival sent s) ds → HasHistory w c es s → HasCopies w c es start cs s
    → HasCopies w c (es ++ events_passed sent s ds) start (cs ++ calls_passed sent end s ds) (slave_passed sent end s ds)
frame_copies w c es start cs sent end s m ds run e size early far h k =
    copies_out (record { bits = w; clock = c; events = es ++ events_passed sent s ds }) (offset s.registers) start (cs ++ calls_passed sent end s ds) (slave_passed sent end s ds)
    (copies_passed w c es (offset s.registers) start cs sent end s m ds run e early far (copies_in w c es start cs s m e size h k))

pub start_copies : (w : ℕ) (c : Clock) (es : List Happening) (s : Slave) (m : Timing) → s.timing ≡ Some m → HasCopies w c es m.clock.instant [] s
start_copies w c es s m e = record { in_turn = tt; end = rw e refl; copies = λ k some few. absurd (omega (arith, some, few)) }

-- the system time at an instant
pub time_then : (w : ℕ) (c : Clock) (es : List Happening) (t : ℕ) (s : Slave) (m : Timing) → IsRunning c.osc → s.timing ≡ Some m → HasSize s.registers → m.clock.instant ≤ t → HasHistory w c es s
    → system_time (measuring_at t (record { registers = s.registers; timing = m })) ≡ time_at w c es s t
unfolding system_time
time_then w c es t s m run e size early h =
    let n = measuring_at t (record { registers = s.registers; timing = m }) in
    let k = is_advanced (record { bits = w; clock = c; events = es }) t s run (goes_of (record { bits = w; clock = c; events = es }) t s m e size early h) in
    let is : n.timing.clock.reading ≡ reading_at w c es t =
    ap (λ z. z.clock.reading) (same_timing (advanced_to t s).timing n.timing k.goes.timing (timing_advanced t s m e) k.goes.is) ∙ k.reading in
    let regs = registers_advanced t s m e in
    let kind : width n.registers.kind ≡ w = ap (λ r. width r.kind) (sym regs) ∙ k.goes.history.width in
    let off : offset n.registers ≡ offset s.registers = ap offset (sym regs) ∙ same_offset t s size in
    let less : delay n.registers ≡ delay s.registers = ap delay (sym regs) ∙ left_advanced 0x0928 4 t s (inr (omega arith)) (inr (omega arith)) size in
    rw (off, less, kind, is) refl
