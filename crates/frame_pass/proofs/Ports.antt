-- What the ports take that latch, and the receive times behind a frame.
use Rattle.std.proofs.Common.{◌≡◌, ℕ, ◌+◌, ◌%◌, ◌^◌, ◌<◌, ◌≤◌, List, ◌++◌, Option, Some, None, Bool, true, false, nat_le, refl, sym, ap, subst, ◌∙◌, arith, inl, inr}
use Rattle.std.specs.Prelude.{IfSome}
use Rattle.std.proofs.lemmas.Bool.Decides.{nat_tests}
use Rattle.ecat_frame.specs.FrameGrammar.{DatagramValue}
use Rattle.osc_clock.specs.Ticks.{IsRunning}
use Rattle.local_clock.specs.Reading.{Clock, Happening, clock_at, reading_at}
use Rattle.local_clock.proofs.Exported.{fits}
use Rattle.esc_regs.specs.RegisterBytes.{AreApart}
use Rattle.esc_regs.specs.RegisterTable.{is_wide}
use Rattle.esc_regs.specs.declared.clock_kind.ClockKind.{ClockKind}
use Rattle.frame_pass.specs.SlaveState.{Timing, Measuring, Slave, width, holds, on_measuring}
use Rattle.frame_pass.specs.Advancing.{advanced_to, measuring_at, ticked_to}
use Rattle.frame_pass.specs.FramePass.{slave_behind, port_latched, port_taken, ports_taken, comes_by, at_arrival, when_latching, are_latching, slave_passed}
use Rattle.frame_pass.specs.ClockHistory.{IsOf, HasHistory, events_passed}
use Rattle.frame_pass.proofs.Fixed.{fixed_passed}
use Rattle.frame_pass.proofs.History.{of_advanced, of_passed}
use Rattle.frame_pass.proofs.Sizes.{HasSize, size_holding}
use Rattle.frame_pass.specs.ReceiveTimes.{until, AreInTurn, IsBefore, port_time, AreReceiveTimes}
use Rattle.frame_pass.proofs.Effects.{left_holding, set_holding, left_advanced, size_advanced}
use Rattle.frame_pass.proofs.Latching.{Stands, stands_behind, HasLatched, has_behind, IsBack, back_behind}

-- a history, of which all is past
pub record Told : Type 0 where
  pub bits : ℕ
  pub clock : Clock
  pub events : List Happening

-- A measuring slave with 4096 bytes whose clock is that of a history of which all is past, and stands at t or earlier.
pub record Goes (x : Told) (t : ℕ) (s : Slave) : Type 0 where
  pub timing : Timing
  pub is : s.timing ≡ Some timing
  pub size : HasSize s.registers
  pub early : timing.clock.instant ≤ t
  pub history : IsOf x.bits x.clock x.events timing.clock.instant (record { registers = s.registers; timing = timing })

abbrev pub reading_of : Told → ℕ → ℕ
reading_of x t = reading_at x.bits x.clock x.events t

pub goes_of : (x : Told) (t : ℕ) (s : Slave) (m : Timing) → s.timing ≡ Some m → HasSize s.registers → m.clock.instant ≤ t → HasHistory x.bits x.clock x.events s → Goes x t s
goes_of x t s m e size early h = record { timing = m; is = e; size = size; early = early; history = (rw e at h) }

later : (x : Told) (t u : ℕ) (s : Slave) → t ≤ u → Goes x t s → Goes x u s
later x t u s le h = record { timing = h.timing; is = h.is; size = h.size; early = omega (arith, le, h.early); history = h.history }

-- advanced to t it stands there
pub there : (t : ℕ) (m : Measuring) → m.timing.clock.instant ≤ t → (measuring_at t m).timing.clock.instant ≡ t
unfolding measuring_at ticked_to
there t m early = by (nat_le m.timing.clock.instant t) refl
  where
    by : (b : Bool) → nat_le m.timing.clock.instant t ≡ b → (measuring_at t m).timing.clock.instant ≡ t
    by true e = rw e refl
    by false e = absurd (let late : t < m.timing.clock.instant = grind (arith, nat_tests, e) in omega (arith, late, early))

-- A slave as it stands at t, with the reading of its history.
pub record Is (x : Told) (t : ℕ) (s : Slave) : Type 0 where
  pub goes : Goes x t s
  pub instant : goes.timing.clock.instant ≡ t
  pub reading : goes.timing.clock.reading ≡ reading_of x t

pub is_advanced : (x : Told) (t : ℕ) (s : Slave) → IsRunning x.clock.osc → Goes x t s → Is x t (advanced_to t s)
unfolding advanced_to
is_advanced x t s run h =
    let m : Measuring = record { registers = s.registers; timing = h.timing } in
    let n : Measuring = measuring_at t m in
    let at : n.timing.clock.instant ≡ t = there t m h.early in
    let k : HasHistory x.bits x.clock x.events (advanced_to t s) = of_advanced x.bits x.clock x.events t s run (rw h.is h.history) in
    let size : HasSize (advanced_to t s).registers = size_advanced t s h.size in
    let here : IsOf x.bits x.clock x.events n.timing.clock.instant n = (rw h.is at k) in
    let fit : HasSize n.registers = (rw h.is at size) in
    let clock : n.timing.clock ≡ clock_at x.bits x.clock x.events t = subst (λ u. n.timing.clock ≡ clock_at x.bits x.clock x.events u) at here.clock in
    rw h.is (record {
      goes = record { timing = n.timing; is = refl; size = fit; early = omega (arith, at); history = here };
      instant = at;
      reading = ap (λ c. c.reading) clock;
    })

goes_latched : (x : Told) (t addr : ℕ) (s : Slave) → addr + 4 ≤ 4096 → Goes x t s → Goes x t (on_measuring (port_latched addr) s)
goes_latched x t addr s room h =
    let i = h.history in
    rw h.is (record {
      timing = h.timing;
      is = refl;
      size = size_holding 4 addr (h.timing.clock.reading % 2 ^ 32) s.registers room h.size;
      early = h.early;
      history = record { width = i.width; began = i.began; order = i.order; past = i.past; possible = i.possible; clock = i.clock };
    })

-- what a port leaves apart from its own register and those of the latch input
left_port : (at n sent : ℕ) (end : Option ℕ) (addr : ℕ) (o : Option ℕ) (x : Told) (t : ℕ) (s : Slave) → addr + 4 ≤ 4096 → AreApart addr 4 at n → AreApart 0x09AE 1 at n → AreApart 0x09B0 8 at n
    → IsRunning x.clock.osc → IfSome o (λ u. t ≤ u) → Goes x (sent + t) s → holds n at (port_taken sent end addr o s).registers ≡ holds n at s.registers
unfolding port_taken
left_port at n sent end addr None x t s room far status stamp run turn h = refl
left_port at n sent end addr (Some u) x t s room far status stamp run turn h = by (comes_by end u) refl
  where
    by : (b : Bool) → comes_by end u ≡ b → holds n at (port_taken sent end addr (Some u) s).registers ≡ holds n at s.registers
    by true e =
        let k = is_advanced x (sent + u) s run (later x (sent + t) (sent + u) s (omega (arith, turn)) h) in
        rw (e, k.goes.is) (left_holding 4 addr (k.goes.timing.clock.reading % 2 ^ 32) at n (advanced_to (sent + u) s).registers room k.goes.size far
        ∙ left_advanced at n (sent + u) s status stamp h.size)
    by false e = rw e refl

pub goes_port : (sent : ℕ) (end : Option ℕ) (addr : ℕ) (o : Option ℕ) (x : Told) (t : ℕ) (s : Slave) → addr + 4 ≤ 4096 → IsRunning x.clock.osc → IfSome o (λ u. t ≤ u)
    → Goes x (sent + t) s → Goes x (sent + until t o) (port_taken sent end addr o s)
unfolding port_taken
goes_port sent end addr None x t s room run turn h = h
goes_port sent end addr (Some u) x t s room run turn h = by (comes_by end u) refl
  where
    now : Goes x (sent + u) s
    now = later x (sent + t) (sent + u) s (omega (arith, turn)) h

    by : (b : Bool) → comes_by end u ≡ b → Goes x (sent + u) (port_taken sent end addr (Some u) s)
    by true e = rw e (goes_latched x (sent + u) addr (advanced_to (sent + u) s) room (is_advanced x (sent + u) s run now).goes)
    by false e = rw e now

-- what it takes
port_takes : (sent : ℕ) (end : Option ℕ) (addr : ℕ) (o : Option ℕ) (x : Told) (t : ℕ) (s : Slave) → addr + 4 ≤ 4096 → IsRunning x.clock.osc → IfSome o (λ u. t ≤ u)
    → Goes x (sent + t) s → holds 4 addr (port_taken sent end addr o s).registers ≡ port_time (reading_of x) sent end o (holds 4 addr s.registers)
unfolding port_taken
port_takes sent end addr None x t s room run turn h = refl
port_takes sent end addr (Some u) x t s room run turn h = by (comes_by end u) refl
  where
    by : (b : Bool) → comes_by end u ≡ b → holds 4 addr (port_taken sent end addr (Some u) s).registers ≡ port_time (reading_of x) sent end (Some u) (holds 4 addr s.registers)
    by true e =
        let k = is_advanced x (sent + u) s run (later x (sent + t) (sent + u) s (omega (arith, turn)) h) in
        rw (e, k.goes.is) (set_holding 4 addr (k.goes.timing.clock.reading % 2 ^ 32) (advanced_to (sent + u) s).registers room k.goes.size (omega arith)
        ∙ ap (λ r. r % 2 ^ 32) k.reading)
    by false e = rw e refl

-- all three ports, one after another
taken : (x : Told) (sent : ℕ) (end : Option ℕ) (s : Slave) → IsRunning x.clock.osc → AreInTurn s.visits → Goes x (sent + s.visits.arrive) s
    → HasLatched (reading_of x (sent + s.visits.arrive)) s → AreReceiveTimes (reading_of x) sent end s.visits s.registers (ports_taken sent end s).registers
unfolding ports_taken
taken x sent end s run turn h has =
    let v = s.visits in
    let s3 = port_taken sent end 0x090C v.back3 s in
    let s1 = port_taken sent end 0x0904 v.back1 s3 in
    let t3 = until v.arrive v.back3 in
    let t1 = until t3 v.back1 in
    let h3 = goes_port sent end 0x090C v.back3 x v.arrive s (omega arith) run turn.port3 h in
    let h1 = goes_port sent end 0x0904 v.back1 x t3 s3 (omega arith) run turn.port1 h3 in
    let by3 : (at n : ℕ) → AreApart 0x090C 4 at n → at + n ≤ 0x0920 → holds n at s3.registers ≡ holds n at s.registers =
    λ at n far low. left_port at n sent end 0x090C v.back3 x v.arrive s (omega arith) far (inr (omega (arith, low))) (inr (omega (arith, low))) run turn.port3 h in
    let by1 : (at n : ℕ) → AreApart 0x0904 4 at n → at + n ≤ 0x0920 → holds n at s1.registers ≡ holds n at s3.registers =
    λ at n far low. left_port at n sent end 0x0904 v.back1 x t3 s3 (omega arith) far (inr (omega (arith, low))) (inr (omega (arith, low))) run turn.port1 h3 in
    let by2 : (at n : ℕ) → AreApart 0x0908 4 at n → at + n ≤ 0x0920 → holds n at (ports_taken sent end s).registers ≡ holds n at s1.registers =
    λ at n far low. left_port at n sent end 0x0908 v.back2 x t1 s1 (omega arith) far (inr (omega (arith, low))) (inr (omega (arith, low))) run turn.port2 h1 in
    record {
      port0 = by2 0x0900 4 (inr (omega arith)) (omega arith) ∙ by1 0x0900 4 (inr (omega arith)) (omega arith) ∙ by3 0x0900 4 (inr (omega arith)) (omega arith) ∙ has.port0;
      port1 = by2 0x0904 4 (inr (omega arith)) (omega arith) ∙ port_takes sent end 0x0904 v.back1 x t3 s3 (omega arith) run turn.port1 h3
          ∙ ap (port_time (reading_of x) sent end v.back1) (by3 0x0904 4 (inr (omega arith)) (omega arith));
      port2 = port_takes sent end 0x0908 v.back2 x t1 s1 (omega arith) run turn.port2 h1
          ∙ ap (port_time (reading_of x) sent end v.back2) (by1 0x0908 4 (inl (omega arith)) (omega arith) ∙ by3 0x0908 4 (inr (omega arith)) (omega arith));
      port3 = by2 0x090C 4 (inl (omega arith)) (omega arith) ∙ by1 0x090C 4 (inl (omega arith)) (omega arith)
          ∙ port_takes sent end 0x090C v.back3 x v.arrive s (omega arith) run turn.port3 h;
      unit = by2 0x0918 8 (inl (omega arith)) (omega arith) ∙ by1 0x0918 8 (inl (omega arith)) (omega arith) ∙ by3 0x0918 8 (inl (omega arith)) (omega arith) ∙ has.unit;
    }

-- a frame that ends at once takes no port
none_taken : (sent addr : ℕ) (o : Option ℕ) (s : Slave) → port_taken sent (Some 0) addr o s ≡ s
unfolding port_taken
none_taken sent addr None s = refl
none_taken sent addr (Some u) s = let far : comes_by (Some 0) u ≡ false = grind (arith, nat_tests) in rw far refl

pub passed_behind : (sent : ℕ) (s : Slave) (ds : List DatagramValue) → slave_passed sent (Some 0) s ds ≡ slave_behind (at_arrival sent s) ds
unfolding slave_passed ports_taken
passed_behind sent s ds = by (are_latching (at_arrival sent s) ds) (slave_behind (at_arrival sent s) ds)
  where
    by : (b : Bool) (v : Slave) → when_latching b sent (Some 0) v ≡ v
    by false v = refl
    by true v = rw (none_taken sent 0x090C v.visits.back3 v, none_taken sent 0x0904 v.visits.back1 v) (none_taken sent 0x0908 v.visits.back2 v)

-- so the datagrams of a frame add its events, and leave when it visits
pub history_behind : (w : ℕ) (c : Clock) (es : List Happening) (sent : ℕ) (s : Slave) (ds : List DatagramValue) → IsRunning c.osc → HasHistory w c es s
    → HasHistory w c (es ++ events_passed sent s ds) (slave_behind (at_arrival sent s) ds)
history_behind w c es sent s ds run h =
    subst (λ v. HasHistory w c (es ++ events_passed sent s ds) v) (passed_behind sent s ds) (of_passed w c es sent (Some 0) s ds run h)

pub visits_behind : (sent : ℕ) (s : Slave) (ds : List DatagramValue) → (slave_behind (at_arrival sent s) ds).visits ≡ s.visits
visits_behind sent s ds = ap (λ v. v.visits) (sym (passed_behind sent s ds)) ∙ ap (λ p. p.visits) (fixed_passed sent (Some 0) s ds)

-- a word of a slave's clock
word_fits : (kind : ClockKind) (y : ℕ) → y < 2 ^ width kind → y < 2 ^ 64
unfolding width
word_fits kind y h = by (is_wide kind) refl
  where
    by : (b : Bool) → is_wide kind ≡ b → y < 2 ^ 64
    by true e = (rw e at h)
    by false e = let less : y < 2 ^ 32 = (rw e at h) in omega (arith, less)

-- the slave behind the datagrams of a frame stands at the arrival
pub goes_behind : (w : ℕ) (c : Clock) (es : List Happening) (sent : ℕ) (s : Slave) (m : Timing) (ds : List DatagramValue) → IsRunning c.osc → s.timing ≡ Some m → HasSize s.registers
    → m.clock.instant ≤ sent + s.visits.arrive → HasHistory w c es s
    → Is (record { bits = w; clock = c; events = es ++ events_passed sent s ds }) (sent + s.visits.arrive) (slave_behind (at_arrival sent s) ds)
goes_behind w c es sent s m ds run e size early h =
    let t = sent + s.visits.arrive in
    let x : Told = record { bits = w; clock = c; events = es } in
    let a = is_advanced x t s run (goes_of x t s m e size early h) in
    let k = stands_behind t a.goes.timing.clock.reading (at_arrival sent s) ds
    (record { timing = a.goes.timing; is = a.goes.is; shows = record { size = a.goes.size; instant = a.instant; reading = refl } }) in
    let y : HasHistory w c (es ++ events_passed sent s ds) (slave_behind (at_arrival sent s) ds) = history_behind w c es sent s ds run h in
    let here : IsOf w c (es ++ events_passed sent s ds) k.timing.clock.instant (record { registers = (slave_behind (at_arrival sent s) ds).registers; timing = k.timing }) = (rw k.is at y) in
    let clock : k.timing.clock ≡ clock_at w c (es ++ events_passed sent s ds) t = subst (λ u. k.timing.clock ≡ clock_at w c (es ++ events_passed sent s ds) u) k.shows.instant here.clock in
    record {
      goes = record { timing = k.timing; is = k.is; size = k.shows.size; early = omega (arith, k.shows.instant); history = here };
      instant = k.shows.instant;
      reading = ap (λ c. c.reading) clock;
    }

pub same_timing : (o : Option Timing) (m n : Timing) → o ≡ Some m → o ≡ Some n → m ≡ n
same_timing o m n e f = let z : Some m ≡ Some n = sym e ∙ f in cc

pub latched_passed : (w : ℕ) (c : Clock) (es : List Happening) (sent : ℕ) (end : Option ℕ) (s : Slave) (m : Timing) (ds : List DatagramValue) → IsRunning c.osc
    → s.timing ≡ Some m → IsBefore sent s → HasHistory w c es s → are_latching (at_arrival sent s) ds ≡ true
    → AreReceiveTimes (reading_at w c (es ++ events_passed sent s ds)) sent end s.visits s.registers (slave_passed sent end s ds).registers
unfolding slave_passed
latched_passed w c es sent end s m ds run e before h latching =
    let t = sent + s.visits.arrive in
    let early : m.clock.instant ≤ t = (rw e at before.time) in
    let x : Told = record { bits = w; clock = c; events = es } in
    let y : Told = record { bits = w; clock = c; events = es ++ events_passed sent s ds } in
    let a = is_advanced x t s run (goes_of x t s m e before.size early h) in
    let there : Stands t a.goes.timing.clock.reading (at_arrival sent s) =
    record { timing = a.goes.timing; is = a.goes.is; shows = record { size = a.goes.size; instant = a.instant; reading = refl } } in
    let k = stands_behind t a.goes.timing.clock.reading (at_arrival sent s) ds there in
    let b = slave_behind (at_arrival sent s) ds in
    let g = goes_behind w c es sent s m ds run e before.size early h in
    let one : k.timing ≡ g.goes.timing = same_timing b.timing k.timing g.goes.timing k.is g.goes.is in
    let same : a.goes.timing.clock.reading ≡ reading_of y t = sym k.shows.reading ∙ ap (λ z. z.clock.reading) one ∙ g.reading in
    let word : a.goes.timing.clock.reading < 2 ^ 64 =
    word_fits (at_arrival sent s).registers.kind a.goes.timing.clock.reading (rw (a.reading, a.goes.history.width) (fits w t c es)) in
    let has : HasLatched (reading_of y t) b = subst (λ r. HasLatched r b) same (has_behind t a.goes.timing.clock.reading (at_arrival sent s) ds word there (inl latching)) in
    let v : b.visits ≡ s.visits = visits_behind sent s ds in
    let goes : Goes y (sent + b.visits.arrive) b = subst (λ z. Goes y (sent + z.arrive) b) (sym v) g.goes in
    let has' : HasLatched (reading_of y (sent + b.visits.arrive)) b = subst (λ z. HasLatched (reading_of y (sent + z.arrive)) b) (sym v) has in
    let all = taken y sent end b run (subst AreInTurn (sym v) before.visits) goes has' in
    let kept : (at n : ℕ) → IsBack at n → holds n at b.registers ≡ holds n at s.registers =
    λ at n is. back_behind at n t a.goes.timing.clock.reading (at_arrival sent s) ds is there
    ∙ left_advanced at n t s (inr (let to = is.1 in omega (arith, to))) (inr (let to = is.1 in omega (arith, to))) before.size in
    rw latching (record {
      port0 = all.port0 ∙ ap (λ z. reading_of y (sent + z.arrive) % 2 ^ 32) v;
      port1 = all.port1 ∙ ap (λ z. port_time (reading_of y) sent end z.back1 (holds 4 0x0904 b.registers)) v
          ∙ ap (port_time (reading_of y) sent end s.visits.back1) (kept 0x0904 4 (omega arith, omega arith));
      port2 = all.port2 ∙ ap (λ z. port_time (reading_of y) sent end z.back2 (holds 4 0x0908 b.registers)) v
          ∙ ap (port_time (reading_of y) sent end s.visits.back2) (kept 0x0908 4 (omega arith, omega arith));
      port3 = all.port3 ∙ ap (λ z. port_time (reading_of y) sent end z.back3 (holds 4 0x090C b.registers)) v
          ∙ ap (port_time (reading_of y) sent end s.visits.back3) (kept 0x090C 4 (omega arith, omega arith));
      unit = all.unit ∙ ap (λ z. reading_of y (sent + z.arrive)) v;
    })
