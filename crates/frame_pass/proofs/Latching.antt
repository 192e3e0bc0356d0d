-- What the datagrams of a frame leave in the receive times.
use Rattle.std.proofs.Common.{◌≡◌, ℕ, ◌+◌, ◌%◌, ◌^◌, ◌<◌, ◌≤◌, ◌⊎◌, List, [], ◌∷◌, Option, Some, Bool, true, false, ◌&&◌, ◌||◌, refl, ap, ◌∙◌, arith, inl, inr}
use Rattle.ecat_frame.specs.FrameGrammar.{DatagramValue}
use Rattle.esc_regs.specs.RegisterWrite.{written, told}
use Rattle.frame_pass.specs.SlaveState.{Timing, Measuring, Slave, holds, holding}
use Rattle.frame_pass.specs.WriteEffects.{latched, affected, wrote}
use Rattle.frame_pass.specs.DatagramTable.{writes}
use Rattle.frame_pass.specs.DatagramAtSlave.{doing, slave_after, is_latching}
use Rattle.frame_pass.specs.FramePass.{slave_behind, slave_passed, are_latching, at_arrival}
use Rattle.frame_pass.proofs.AtPositions.{not_latching}
use Rattle.frame_pass.proofs.Sizes.{HasSize, size_written, size_holding}
use Rattle.frame_pass.specs.ReceiveTimes.{IsReceiveTime}
use Rattle.frame_pass.proofs.Effects.{Shows, shows_affected, left_holding, set_holding, times_wrote, times_unlatched, times_left, size_advanced, size_wrote, unwritten}

-- A measuring slave that shows x at t.
pub record Stands (t x : ℕ) (s : Slave) : Type 0 where
  pub timing : Timing
  pub is : s.timing ≡ Some timing
  pub shows : Shows t x (record { registers = s.registers; timing = timing })

stands_wrote : (t x addr : ℕ) (bytes : List ℕ) (s : Slave) → Stands t x s → Stands t x (wrote addr bytes s)
unfolding wrote
stands_wrote t x addr bytes s h =
    let m : Measuring = record { registers = written s.registers addr bytes; timing = h.timing } in
    let k = shows_affected t x (told s.registers.kind addr bytes) m
    (record { size = size_written s.registers addr bytes h.shows.size; instant = h.shows.instant; reading = h.shows.reading }) in
    rw h.is (record {
      timing = (affected (told s.registers.kind addr bytes) m).timing;
      is = refl;
      shows = record { size = k.size; instant = k.instant; reading = k.reading };
    })

pub stands_after : (t x : ℕ) (s : Slave) (d : DatagramValue) → Stands t x s → Stands t x (slave_after s d)
unfolding slave_after
stands_after t x s d h = by (writes (doing s d)) refl
  where
    by : (b : Bool) → writes (doing s d) ≡ b → Stands t x (slave_after s d)
    by true e = rw e (stands_wrote t x d.head.ado d.payload s h)
    by false e = rw e h

pub stands_behind : (t x : ℕ) (s : Slave) (ds : List DatagramValue) → Stands t x s → Stands t x (slave_behind s ds)
unfolding slave_behind
stands_behind t x s [] h = h
stands_behind t x s (d ∷ ds) h = stands_behind t x (slave_after s d) ds (stands_after t x s d h)

-- the slave latched when its clock showed x
pub record HasLatched (x : ℕ) (s : Slave) : Type 0 where
  pub port0 : holds 4 0x0900 s.registers ≡ x % 2 ^ 32
  pub unit : holds 8 0x0918 s.registers ≡ x

is_port0 : IsReceiveTime 0x0900 4
is_port0 = inl (omega arith, omega arith)

is_unit : IsReceiveTime 0x0918 8
is_unit = inr (omega arith, omega arith)

latch_port0 : (x : ℕ) (m : Measuring) → HasSize m.registers → m.timing.clock.reading ≡ x → holds 4 0x0900 (latched true m).registers ≡ x % 2 ^ 32
unfolding latched
latch_port0 x m size e =
    let low = m.timing.clock.reading % 2 ^ 32 in
    left_holding 8 0x0918 m.timing.clock.reading 0x0900 4 (holding 4 0x0900 low m.registers) (omega arith) (size_holding 4 0x0900 low m.registers (omega arith) size) (inr (omega arith))
    ∙ set_holding 4 0x0900 low m.registers (omega arith) size (omega arith) ∙ ap (λ y. y % 2 ^ 32) e

latch_unit : (x : ℕ) (m : Measuring) → HasSize m.registers → x < 2 ^ 64 → m.timing.clock.reading ≡ x → holds 8 0x0918 (latched true m).registers ≡ x
unfolding latched
latch_unit x m size fits e =
    let low = m.timing.clock.reading % 2 ^ 32 in
    set_holding 8 0x0918 m.timing.clock.reading (holding 4 0x0900 low m.registers) (omega arith) (size_holding 4 0x0900 low m.registers (omega arith) size) (omega (arith, fits, e)) ∙ e

has_after : (t x : ℕ) (s : Slave) (d : DatagramValue) → x < 2 ^ 64 → Stands t x s → (is_latching s d ≡ true) ⊎ HasLatched x s → HasLatched x (slave_after s d)
unfolding slave_after is_latching
has_after t x s d fits h k = by (writes (doing s d)) (told s.registers.kind d.head.ado d.payload).latched refl refl
  where
    m : Measuring
    m = record { registers = written s.registers d.head.ado d.payload; timing = h.timing }

    size : HasSize m.registers
    size = size_written s.registers d.head.ado d.payload h.shows.size

    before : (writes (doing s d) && (told s.registers.kind d.head.ado d.payload).latched) ≡ false → HasLatched x s
    before e = elim k [ inl y ↦ absurd (let z = y in let n = e in cc) | inr has ↦ has ]

    by : (b l : Bool) → writes (doing s d) ≡ b → (told s.registers.kind d.head.ado d.payload).latched ≡ l → HasLatched x (slave_after s d)
    by true true e f =
        rw e (record {
          port0 = times_wrote 0x0900 4 d.head.ado d.payload s h.timing is_port0 h.is h.shows.size ∙ rw f (latch_port0 x m size h.shows.reading);
          unit = times_wrote 0x0918 8 d.head.ado d.payload s h.timing is_unit h.is h.shows.size ∙ rw f (latch_unit x m size fits h.shows.reading);
        })
    by true false e f =
        let had = before (rw (e, f) refl) in
        rw e (record {
          port0 = times_unlatched 0x0900 4 d.head.ado d.payload s is_port0 h.shows.size f ∙ had.port0;
          unit = times_unlatched 0x0918 8 d.head.ado d.payload s is_unit h.shows.size f ∙ had.unit;
        })
    by false l e f = rw e (before (rw e refl))

either : (a b : Bool) → (a || b) ≡ true → (a ≡ true) ⊎ (b ≡ true)
either true b e = inl refl
either false b e = inr e

pub has_behind : (t x : ℕ) (s : Slave) (ds : List DatagramValue) → x < 2 ^ 64 → Stands t x s → (are_latching s ds ≡ true) ⊎ HasLatched x s → HasLatched x (slave_behind s ds)
unfolding are_latching slave_behind
has_behind t x s [] fits h (inl e) = absurd (let z = e in cc)
has_behind t x s [] fits h (inr k) = k
has_behind t x s (d ∷ ds) fits h (inl e) =
    elim (either (is_latching s d) (are_latching (slave_after s d) ds) e) [
      | inl here ↦ has_behind t x (slave_after s d) ds fits (stands_after t x s d h) (inr (has_after t x s d fits h (inl here)))
      | inr there ↦ has_behind t x (slave_after s d) ds fits (stands_after t x s d h) (inl there)
    ]
has_behind t x s (d ∷ ds) fits h (inr k) = has_behind t x (slave_after s d) ds fits (stands_after t x s d h) (inr (has_after t x s d fits h (inr k)))

-- the registers of the other ports
abbrev pub IsBack : ℕ → ℕ → Type 0
IsBack at n = (0x0904 ≤ at) × (at + n ≤ 0x0910)

is_time : (at n : ℕ) → IsBack at n → IsReceiveTime at n
is_time at n h = let from = h.0 in inl (omega (arith, from), h.1)

back_latched : (at n : ℕ) (b : Bool) (m : Measuring) → IsBack at n → HasSize m.registers → holds n at (latched b m).registers ≡ holds n at m.registers
unfolding latched
back_latched at n false m h size = refl
back_latched at n true m h size =
    let low = m.timing.clock.reading % 2 ^ 32 in
    let from = h.0 in
    let to = h.1 in
    left_holding 8 0x0918 m.timing.clock.reading at n (holding 4 0x0900 low m.registers) (omega arith) (size_holding 4 0x0900 low m.registers (omega arith) size) (inr (omega (arith, to)))
    ∙ left_holding 4 0x0900 low at n m.registers (omega arith) size (inl (omega (arith, from)))

back_after : (at n t x : ℕ) (s : Slave) (d : DatagramValue) → IsBack at n → Stands t x s → holds n at (slave_after s d).registers ≡ holds n at s.registers
unfolding slave_after
back_after at n t x s d is h = by (writes (doing s d)) (told s.registers.kind d.head.ado d.payload).latched refl refl
  where
    by : (b l : Bool) → writes (doing s d) ≡ b → (told s.registers.kind d.head.ado d.payload).latched ≡ l → holds n at (slave_after s d).registers ≡ holds n at s.registers
    by true true e f =
        let m : Measuring = record { registers = written s.registers d.head.ado d.payload; timing = h.timing } in
        let size = size_written s.registers d.head.ado d.payload h.shows.size in
        rw e (times_wrote at n d.head.ado d.payload s h.timing (is_time at n is) h.is h.shows.size ∙ back_latched at n _ m is size
        ∙ unwritten at n d.head.ado d.payload s.registers (is_time at n is) h.shows.size)
    by true false e f = rw e (times_unlatched at n d.head.ado d.payload s (is_time at n is) h.shows.size f)
    by false l e f = rw e refl

pub back_behind : (at n t x : ℕ) (s : Slave) (ds : List DatagramValue) → IsBack at n → Stands t x s → holds n at (slave_behind s ds).registers ≡ holds n at s.registers
unfolding slave_behind
back_behind at n t x s [] is h = refl
back_behind at n t x s (d ∷ ds) is h = back_behind at n t x (slave_after s d) ds is (stands_after t x s d h) ∙ back_after at n t x s d is h

-- a frame that does not latch
neither : (a b : Bool) → (a || b) ≡ false → (a ≡ false) × (b ≡ false)
neither false b e = (refl, e)
neither true b e = absurd (let z = e in cc)

quiet_after : (at n : ℕ) (s : Slave) (d : DatagramValue) → IsReceiveTime at n → HasSize s.registers → is_latching s d ≡ false → holds n at (slave_after s d).registers ≡ holds n at s.registers
unfolding slave_after is_latching
quiet_after at n s d is size none = by (writes (doing s d)) refl
  where
    by : (b : Bool) → writes (doing s d) ≡ b → holds n at (slave_after s d).registers ≡ holds n at s.registers
    by true e = rw e (times_unlatched at n d.head.ado d.payload s is size (rw e at none))
    by false e = rw e refl

pub size_after : (s : Slave) (d : DatagramValue) → HasSize s.registers → HasSize (slave_after s d).registers
unfolding slave_after
size_after s d size = by (writes (doing s d)) refl
  where
    by : (b : Bool) → writes (doing s d) ≡ b → HasSize (slave_after s d).registers
    by true e = rw e (size_wrote d.head.ado d.payload s size)
    by false e = rw e size

quiet_behind : (at n : ℕ) (s : Slave) (ds : List DatagramValue) → IsReceiveTime at n → HasSize s.registers → are_latching s ds ≡ false
    → holds n at (slave_behind s ds).registers ≡ holds n at s.registers
unfolding are_latching slave_behind
quiet_behind at n s [] is size none = refl
quiet_behind at n s (d ∷ ds) is size none =
    let both = neither (is_latching s d) (are_latching (slave_after s d) ds) none in
    quiet_behind at n (slave_after s d) ds is (size_after s d size) both.1 ∙ quiet_after at n s d is size both.0

pub quiet_passed : (at n sent : ℕ) (end : Option ℕ) (s : Slave) (ds : List DatagramValue) → IsReceiveTime at n → HasSize s.registers
    → are_latching (at_arrival sent s) ds ≡ false → holds n at (slave_passed sent end s ds).registers ≡ holds n at s.registers
quiet_passed at n sent end s ds is size none =
    ap (λ v. holds n at v.registers) (not_latching sent end s ds none) ∙ quiet_behind at n (at_arrival sent s) ds is (size_advanced (sent + s.visits.arrive) s size) none
    ∙ times_left at n (sent + s.visits.arrive) s is size
