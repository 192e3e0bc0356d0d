-- The frame of Arm at the clock that it is for.
use Rattle.std.proofs.Common.{◌≡◌, ℕ, zero, suc, ◌+◌, ◌-◌, ◌*◌, ◌/◌, ◌%◌, ◌^◌, ◌<◌, ◌≤◌, Bool, true, false, List, [], ◌∷◌, ◌++◌, length, Option, Some, None, nat_lt, nat_le, refl, sym, ap, ap₂, subst, ◌∙◌, arith, inl, inr}
use Rattle.std.specs.Prelude.{IfSome, not, slice_get, ◌==◌, ◌&&◌, if◌then◌else◌}
use Rattle.std.proofs.Math.Nat.{mod-lt, mod-eq_of_lt}
use Rattle.std.proofs.lemmas.Bool.Decides.{nat_tests}
use Rattle.std.proofs.lemmas.Nat.{pow_pos}
use Rattle.byteorder.specs.Endian.{little_bytes}
use Rattle.byteorder.specs.Numbers.{little_from-bytes}
use Rattle.copy_law.proofs.Exported.{number_brought, word_is}
use Rattle.ecat_frame.specs.FrameGrammar.{DatagramValue}
use Rattle.ecat_frame.specs.declared.command.Command.TheVariants.{Fpwr}
use Rattle.esc_regs.specs.Kinds.{has_clock}
use Rattle.esc_regs.specs.RegisterAccess.{is_refused}
use Rattle.esc_regs.specs.RegisterBytes.{AreApart, number_at}
use Rattle.esc_regs.specs.RegisterFile.{Registers}
use Rattle.esc_regs.specs.RegisterTable.{held, is_wide}
use Rattle.esc_regs.specs.RegisterWrite.{told, written}
use Rattle.esc_regs.specs.declared.clock_kind.ClockKind.{ClockKind}
use Rattle.esc_regs.specs.declared.clock_kind.ClockKind.TheVariants as kind
use Rattle.esc_regs.proofs.Exported.{untouched}
use Rattle.frame_pass.specs.Arming.{Activates, armed_from}
use Rattle.frame_pass.specs.Counters.{slave_before}
use Rattle.frame_pass.specs.DatagramAtSlave.{datagram_after, doing, slave_after}
use Rattle.frame_pass.specs.DatagramTable.{writes}
use Rattle.frame_pass.specs.FramePass.{at_arrival, datagrams_after, datagrams_behind, datagrams_passed, slave_behind}
use Rattle.frame_pass.specs.PlainRegisters.{IsPlain}
use Rattle.frame_pass.specs.SlaveState.{Slave, cycle_time, holds, start_time, station, sync1_time, width}
use Rattle.frame_pass.specs.Stations.{IsAlone, slave_found}
use Rattle.frame_pass.specs.WriteEffects.{arms, sync1_by}
use Rattle.frame_pass.proofs.Exported.{HasSize, found, plain_datagram, station_written, stores_number}
use Rattle.honest_slaves.specs.Mindful.{AreMindful}
use Rattle.honest_slaves.specs.Standing.{Stands, own_address}
use Rattle.honest_slaves.specs.Told.{AreInOrder}
use Rattle.honest_slaves.proofs.Exported.{IsFor, alone, found_standing, low_where}
use Rattle.master_script.specs.Frames.{activation, arm_datagrams, asks, drift_datagram, station as address_of, sync1_or_0, width as bytes_by}
use Rattle.sync_units.specs.SyncRule.{armed_by}

-- five datagrams stay five
pub record AreFive (ds : List DatagramValue) : Type 0 where
  pub drift : DatagramValue
  pub disarm : DatagramValue
  pub cycle : DatagramValue
  pub start : DatagramValue
  pub arm : DatagramValue
  pub are : ds ≡ drift ∷ disarm ∷ cycle ∷ start ∷ arm ∷ []

five_on : (h sent : ℕ) (ss : List Slave) (a b c d e : DatagramValue) → AreFive (datagrams_behind h sent ss (a ∷ b ∷ c ∷ d ∷ e ∷ []))
unfolding datagrams_behind datagrams_passed datagrams_after
five_on zero sent ss a b c d e = record { drift = a; disarm = b; cycle = c; start = d; arm = e; are = refl }
five_on (suc h) sent [] a b c d e = record { drift = a; disarm = b; cycle = c; start = d; arm = e; are = refl }
five_on (suc h) sent (s ∷ ss) a b c d e =
    let v = at_arrival sent s in
    let v1 = slave_after v a in
    let v2 = slave_after v1 b in
    let v3 = slave_after v2 c in
    let v4 = slave_after v3 d in
    five_on h sent ss (datagram_after v a) (datagram_after v1 b) (datagram_after v2 c) (datagram_after v3 d) (datagram_after v4 e)

-- a written datagram leaves what stands elsewhere
apart_left : (at n : ℕ) (s : Slave) (d : DatagramValue) → IsPlain at n → HasSize s.registers → AreApart d.head.ado (length d.payload) at n → holds n at (slave_after s d).registers ≡ holds n at s.registers
apart_left at n s d plain size far = plain_datagram at n s d plain size ∙ by (writes (doing s d)) refl
  where
    by : (b : Bool) → writes (doing s d) ≡ b → holds n at (if writes (doing s d) then written s.registers d.head.ado d.payload else s.registers) ≡ holds n at s.registers
    by true e = rw e (untouched s.registers d.head.ado d.payload at n size far)
    by false e = rw e refl

same_test : (a b : ℕ) → a ≡ b → (a == b) ≡ true
same_test a b e = grind (arith, nat_tests, e)

is_below : (p n : ℕ) → p < n → nat_lt p n ≡ true
is_below p n low = grind (arith, nat_tests, low)

-- who refuses what
activation_for : IsFor has_clock 0x0981 1
activation_for kind.None = refl
activation_for kind.R32 = refl
activation_for kind.C32 = refl
activation_for kind.C64 = refl

cycles_for : IsFor has_clock 0x09A0 8
cycles_for kind.None = refl
cycles_for kind.R32 = refl
cycles_for kind.C32 = refl
cycles_for kind.C64 = refl

start_for : (wide : Bool) (x : ℕ) → IsFor has_clock 0x0990 (length (little_bytes (bytes_by wide) x))
start_for true x kind.None = refl
start_for true x kind.R32 = refl
start_for true x kind.C32 = refl
start_for true x kind.C64 = refl
start_for false x kind.None = refl
start_for false x kind.R32 = refl
start_for false x kind.C32 = refl
start_for false x kind.C64 = refl

start_long : (wide : Bool) (x : ℕ) → length (little_bytes (bytes_by wide) x) ≡ bytes_by wide
start_long true x = refl
start_long false x = refl

few_bytes : (wide : Bool) → bytes_by wide ≤ 8
few_bytes true = omega arith
few_bytes false = omega arith

-- a slave has these bytes
start_held : (k : ClockKind) → bytes_by (is_wide k) ≤ held k 8
start_held kind.None = omega arith
start_held kind.R32 = omega arith
start_held kind.C32 = omega arith
start_held kind.C64 = omega arith

time_held : (k : ClockKind) → 4 ≤ held k 4
time_held kind.None = omega arith
time_held kind.R32 = omega arith
time_held kind.C32 = omega arith
time_held kind.C64 = omega arith

-- and sets none of them itself
start_plain : (m : ℕ) → m ≤ 8 → IsPlain 0x0990 m
start_plain m few = record { ports = inl (omega arith); unit = inl (omega arith); difference = inl (omega arith); status = inr (omega (arith, few)); stamp = inr (omega (arith, few)) }

time_plain : (at : ℕ) → 0x0990 ≤ at → at + 4 ≤ 0x09AE → IsPlain at 4
time_plain at low high = record { ports = inl (omega (arith, low)); unit = inl (omega (arith, low)); difference = inl (omega (arith, low)); status = inr (omega (arith, high)); stamp = inr (omega (arith, high)) }

-- the numbers that the datagrams bring
first_brought : (c x : ℕ) → number_at 4 0 (little_bytes 4 c ++ little_bytes 4 x) ≡ c % 2 ^ 32
unfolding number_at
first_brought c x =
    let whole : c / 1 ≡ c = omega arith in
    little_from-bytes 4 0 c (little_bytes 4 x) ∙ ap (λ y. y % 256 ^ 4) whole

second_place : (c x : ℕ) → number_at 4 4 (little_bytes 4 c ++ little_bytes 4 x) ≡ number_at 4 0 (little_bytes 4 x)
unfolding number_at
second_place c x = refl

second_brought : (c x : ℕ) → number_at 4 4 (little_bytes 4 c ++ little_bytes 4 x) ≡ x % 2 ^ 32
second_brought c x = second_place c x ∙ number_brought 4 x

start_brought : (wide : Bool) (x : ℕ) → number_at (bytes_by wide) 0 (little_bytes (bytes_by wide) x) ≡ x % 2 ^ (8 * bytes_by wide)
start_brought true x = number_brought 8 x
start_brought false x = number_brought 4 x

wide_bits : (k : ClockKind) → 8 * bytes_by (is_wide k) ≡ width k
unfolding width
wide_bits kind.None = refl
wide_bits kind.R32 = refl
wide_bits kind.C32 = refl
wide_bits kind.C64 = refl

-- a write of the activation brings its byte to a clock
brings : (k : ClockKind) (byte : ℕ) → has_clock k ≡ true → (told k 0x0981 (byte ∷ [])).activation ≡ Some byte
brings kind.None byte is = absurd (let z = is in cc)
brings kind.R32 byte is = absurd (let z = is in cc)
brings kind.C32 byte is = refl
brings kind.C64 byte is = refl

-- what the planned activation arms
abbrev pub IsPlan : ℕ → Option ℕ → Type 0
IsPlan cycle sync1 = IfSome sync1 (λ ns. (1 ≤ ns) × (ns < cycle))

least : (c : ℕ) → 1000 ≤ c → nat_le 1000 c ≡ true
least c low = grind (arith, nat_tests, low)

arms_planned : (sync1 : Option ℕ) (r : Registers) (cycle : ℕ) → cycle_time r ≡ cycle → 1000 ≤ cycle → arms (activation sync1) r ≡ true
unfolding arms
arms_planned None r cycle is low = ap (nat_le 1000) is ∙ least cycle low
arms_planned (Some ns) r cycle is low = ap (nat_le 1000) is ∙ least cycle low

both_tests : (a c : ℕ) → 1 ≤ a → a < c → (nat_lt 0 a && nat_lt a c) ≡ true
both_tests a c low high = grind (arith, nat_tests, low, high)

sync1_planned : (sync1 : Option ℕ) (r : Registers) (cycle : ℕ) → cycle_time r ≡ cycle → sync1_time r ≡ sync1_or_0 sync1 → IsPlan cycle sync1 → sync1_by (activation sync1) r ≡ sync1
unfolding sync1_by
sync1_planned None r cycle is time plan = refl
sync1_planned (Some ns) r cycle is time plan =
    ap₂ (λ x c. if nat_lt 0 x && nat_lt x c then Some x else None) time is ∙ ap (λ (b : Bool). if b then Some ns else None) (both_tests ns cycle plan.0 plan.1)

plan_fits : (cycle : ℕ) (sync1 : Option ℕ) → cycle < 2 ^ 32 → IsPlan cycle sync1 → sync1_or_0 sync1 < 2 ^ 32
plan_fits cycle None few plan = omega arith
plan_fits cycle (Some ns) few plan = let low = plan.1 in omega (arith, few, low)

armed_planned : (k : ClockKind) (sync1 : Option ℕ) (r : Registers) (cycle x : ℕ) → r.kind ≡ k → cycle_time r ≡ cycle → sync1_time r ≡ sync1_or_0 sync1 → start_time r ≡ x % 2 ^ width k → IsPlan cycle sync1
    → armed_from (activation sync1) r ≡ armed_by (width k) (x % 2 ^ width k) cycle sync1
armed_planned k sync1 r cycle x kind cycles time start plan =
    ap (λ o. armed_by (width r.kind) (start_time r) (cycle_time r) o) (sync1_planned sync1 r cycle cycles time plan)
    ∙ ap (λ c. armed_by (width r.kind) (start_time r) c sync1) cycles
    ∙ ap (λ y. armed_by (width r.kind) y cycle sync1) start
    ∙ ap (λ j. armed_by (width j) (x % 2 ^ width k) cycle sync1) kind

-- a datagram comes to a slave as it was sent, and is written there
record Comes (d : DatagramValue) (u : Slave) (g : DatagramValue) : Type 0 where
  writes : writes (doing u g) ≡ true
  ado : g.head.ado ≡ d.head.ado
  payload : g.payload ≡ d.payload

-- n slaves that are all named, the clock at position p among them, and its Arm
module _ (kinds : ℕ → ClockKind) (statuses : ℕ → ℕ) (n sent : ℕ) (ss : List Slave) (are : AreInOrder kinds statuses n n ss) (p : ℕ) (v : Slave) (there : slice_get ss p ≡ Some v)
    (clock : has_clock (kinds p) ≡ true) (r cycle x : ℕ) (sync1 : Option ℕ) (mindful : AreMindful 0 (arm_datagrams r p (is_wide (kinds p)) cycle sync1 x)) where
  abbrev wide : Bool
  wide = is_wide (kinds p)

  abbrev ds : List DatagramValue
  ds = arm_datagrams r p wide cycle sync1 x

  abbrev disarms : DatagramValue
  disarms = asks 1 Fpwr (address_of p) 0x0981 (0 ∷ [])

  abbrev writes_cycles : DatagramValue
  writes_cycles = asks 2 Fpwr (address_of p) 0x09A0 (little_bytes 4 cycle ++ little_bytes 4 (sync1_or_0 sync1))

  abbrev writes_start : DatagramValue
  writes_start = asks 3 Fpwr (address_of p) 0x0990 (little_bytes (bytes_by wide) x)

  abbrev activates : DatagramValue
  activates = asks 4 Fpwr (address_of p) 0x0981 (activation sync1 ∷ [])

  few : length ss ≤ 256
  few = let many = are.many in let f = are.few in omega (arith, many, f)

  within : p < length ss
  within = low_where ss p v there

  low : p < n
  low = let many = are.many in let w = within in omega (arith, many, w)

  standing : (k : ℕ) → Stands (kinds p) (statuses p) true p (slave_found k p sent ss ds v)
  standing k = subst (λ b. Stands (kinds p) (statuses p) b p (slave_found k p sent ss ds v)) (is_below p n low) (found_standing kinds statuses n k p sent ss ds v few are.standing mindful within there)

  -- each datagram that writes comes to it as it was sent, and is written
  comes : (k : ℕ) (d g : DatagramValue) → slice_get ds k ≡ Some d → d.head.command ≡ Fpwr → d.head.adp ≡ own_address p → d.wkc ≡ 0 → IsFor has_clock d.head.ado (length d.payload)
      → slice_get (datagrams_behind p sent ss ds) k ≡ Some g → Comes d (slave_found k p sent ss ds v) g
  comes k d g is command adp fresh for here =
      let h = standing k in
      let e = found k (length ss) sent ss ds d is in
      let single : IsAlone d.head.adp k p (length ss) sent ss ds =
      λ i u less at far. ap (λ a. a == station (slave_found k i sent ss ds u).registers) adp ∙ alone kinds statuses n k p sent ss ds few are.standing mindful i u less at far in
      let w = station_written k p (length ss) sent ss ds d e.datagram g v within there is command (omega (arith, fresh)) single (same_test _ _ (adp ∙ sym h.address))
      (ap (λ y. is_refused y d.head.ado (length d.payload)) h.slave.kind_is ∙ for (kinds p) ∙ ap not clock) here e.is in
      record { writes = ap writes w.writes; ado = w.ado; payload = w.payload }

  pub five : AreFive (datagrams_behind p sent ss ds)
  five = five_on p sent ss (drift_datagram r) disarms writes_cycles writes_start activates

  abbrev pub before_arm : List DatagramValue
  before_arm = five.drift ∷ five.disarm ∷ five.cycle ∷ five.start ∷ []

  abbrev arrived : Slave
  arrived = at_arrival sent v

  abbrev quiet : Slave
  quiet = slave_after (slave_after arrived five.drift) five.disarm

  abbrev timed : Slave
  timed = slave_after quiet five.cycle

  abbrev started : Slave
  started = slave_after timed five.start

  abbrev armed : Slave
  armed = slave_after started five.arm

  quiet_found : slave_found 2 p sent ss ds v ≡ quiet
  unfolding slave_before
  quiet_found = ap (slave_before 2 arrived) five.are

  timed_found : slave_found 3 p sent ss ds v ≡ timed
  unfolding slave_before
  timed_found = ap (slave_before 3 arrived) five.are

  started_found : slave_found 4 p sent ss ds v ≡ started
  unfolding slave_before
  started_found = ap (slave_before 4 arrived) five.are

  armed_found : slave_found 5 p sent ss ds v ≡ armed
  unfolding slave_before
  armed_found = ap (slave_before 5 arrived) five.are

  cycle_comes : Comes writes_cycles quiet five.cycle
  cycle_comes = subst (λ u. Comes writes_cycles u five.cycle) quiet_found (comes 2 writes_cycles five.cycle refl refl refl refl cycles_for (ap (λ es. slice_get es 2) five.are))

  start_comes : Comes writes_start timed five.start
  start_comes = subst (λ u. Comes writes_start u five.start) timed_found (comes 3 writes_start five.start refl refl refl refl (start_for wide x) (ap (λ es. slice_get es 3) five.are))

  arm_comes : Comes activates started five.arm
  arm_comes = subst (λ u. Comes activates u five.arm) started_found (comes 4 activates five.arm refl refl refl refl activation_for (ap (λ es. slice_get es 4) five.are))

  stands_quiet : Stands (kinds p) (statuses p) true p quiet
  stands_quiet = subst (Stands (kinds p) (statuses p) true p) quiet_found (standing 2)

  stands_timed : Stands (kinds p) (statuses p) true p timed
  stands_timed = subst (Stands (kinds p) (statuses p) true p) timed_found (standing 3)

  stands_started : Stands (kinds p) (statuses p) true p started
  stands_started = subst (Stands (kinds p) (statuses p) true p) started_found (standing 4)

  stands_armed : Stands (kinds p) (statuses p) true p armed
  stands_armed = subst (Stands (kinds p) (statuses p) true p) armed_found (standing 5)

  -- the two later datagrams leave what the third one brought
  later_left : (at : ℕ) → 0x09A0 ≤ at → at + 4 ≤ 0x09AE → holds 4 at armed.registers ≡ holds 4 at timed.registers
  later_left at from to =
      let plain = time_plain at (omega (arith, from)) to in
      let start_here : five.start.head.ado ≡ 0x0990 = start_comes.ado in
      let start_size : length five.start.payload ≡ bytes_by wide = ap length start_comes.payload ∙ start_long wide x in
      let arm_here : five.arm.head.ado ≡ 0x0981 = arm_comes.ado in
      let arm_size : length five.arm.payload ≡ 1 = ap length arm_comes.payload in
      let bytes = few_bytes wide in
      apart_left at 4 started five.arm plain stands_started.slave.size (inl (omega (arith, arm_here, arm_size, from)))
      ∙ apart_left at 4 timed five.start plain stands_timed.slave.size (inl (omega (arith, start_here, start_size, bytes, from)))

  cycle_size : length five.cycle.payload ≡ 8
  cycle_size = ap length cycle_comes.payload

  cycle_there : cycle < 2 ^ 32 → cycle_time armed.registers ≡ cycle
  cycle_there fits =
      let here : five.cycle.head.ado ≡ 0x09A0 = cycle_comes.ado in
      let long = cycle_size in
      later_left 0x09A0 (omega arith) (omega arith)
      ∙ stores_number 0x09A0 4 4 quiet five.cycle stands_quiet.slave.size refl (subst (λ k. 4 ≤ held k 4) (sym stands_quiet.slave.kind_is) (time_held (kinds p))) (time_plain 0x09A0 (omega arith) (omega arith))
      cycle_comes.writes (omega (arith, here)) (omega (arith, here, long))
      ∙ ap₂ (λ k bs. number_at 4 (0x09A0 - k) bs) here cycle_comes.payload ∙ first_brought cycle (sync1_or_0 sync1) ∙ mod-eq_of_lt fits

  sync1_there : sync1_or_0 sync1 < 2 ^ 32 → sync1_time armed.registers ≡ sync1_or_0 sync1
  sync1_there fits =
      let here : five.cycle.head.ado ≡ 0x09A0 = cycle_comes.ado in
      let long = cycle_size in
      later_left 0x09A4 (omega arith) (omega arith)
      ∙ stores_number 0x09A4 4 4 quiet five.cycle stands_quiet.slave.size refl (subst (λ k. 4 ≤ held k 4) (sym stands_quiet.slave.kind_is) (time_held (kinds p))) (time_plain 0x09A4 (omega arith) (omega arith))
      cycle_comes.writes (omega (arith, here)) (omega (arith, here, long))
      ∙ ap₂ (λ k bs. number_at 4 (0x09A4 - k) bs) here cycle_comes.payload ∙ second_brought cycle (sync1_or_0 sync1) ∙ mod-eq_of_lt fits

  start_number : holds (bytes_by wide) 0x0990 armed.registers ≡ x % 2 ^ (8 * bytes_by wide)
  start_number =
      let bytes = few_bytes wide in
      let plain = start_plain (bytes_by wide) bytes in
      let here : five.start.head.ado ≡ 0x0990 = start_comes.ado in
      let long : length five.start.payload ≡ bytes_by wide = ap length start_comes.payload ∙ start_long wide x in
      let arm_here : five.arm.head.ado ≡ 0x0981 = arm_comes.ado in
      let arm_size : length five.arm.payload ≡ 1 = ap length arm_comes.payload in
      apart_left 0x0990 (bytes_by wide) started five.arm plain stands_started.slave.size (inl (omega (arith, arm_here, arm_size)))
      ∙ stores_number 0x0990 8 (bytes_by wide) timed five.start stands_timed.slave.size refl (subst (λ k. bytes_by wide ≤ held k 8) (sym stands_timed.slave.kind_is) (start_held (kinds p))) plain
      start_comes.writes (omega (arith, here)) (omega (arith, here, long))
      ∙ ap₂ (λ k bs. number_at (bytes_by wide) (0x0990 - k) bs) here start_comes.payload ∙ start_brought wide x

  start_there : start_time armed.registers ≡ x % 2 ^ width (kinds p)
  start_there =
      ap (λ k. holds 8 0x0990 armed.registers % 2 ^ width k) stands_armed.slave.kind_is
      ∙ word_is (kinds p) 0x0990 (x % 2 ^ (8 * bytes_by wide)) armed.registers.bytes (mod-lt x (pow_pos (8 * bytes_by wide))) start_number
      ∙ ap (λ j. x % 2 ^ j) (wide_bits (kinds p))

  behind_is : slave_behind arrived before_arm ≡ started
  unfolding slave_behind
  behind_is = refl

  -- the last datagram activates, and arms as is planned
  pub activates_there : Activates (activation sync1) (slave_behind arrived before_arm) five.arm
  activates_there =
      subst (λ u. Activates (activation sync1) u five.arm) (sym behind_is) (record {
        writes = arm_comes.writes;
        brings = ap₂ (λ a bs. (told started.registers.kind a bs).activation) arm_comes.ado arm_comes.payload
            ∙ ap (λ k. (told k 0x0981 (activation sync1 ∷ [])).activation) stands_started.slave.kind_is ∙ brings (kinds p) (activation sync1) clock;
      })

  module _ (least_cycle : 1000 ≤ cycle) (fits : cycle < 2 ^ 32) (plan : IsPlan cycle sync1) where
    pub arms_there : arms (activation sync1) (slave_after (slave_behind arrived before_arm) five.arm).registers ≡ true
    arms_there =
        subst (λ u. arms (activation sync1) (slave_after u five.arm).registers ≡ true) (sym behind_is)
        (arms_planned sync1 armed.registers cycle (cycle_there fits) least_cycle)

    pub armed_there : armed_from (activation sync1) (slave_after (slave_behind arrived before_arm) five.arm).registers ≡ armed_by (width (kinds p)) (x % 2 ^ width (kinds p)) cycle sync1
    armed_there =
        ap (λ u. armed_from (activation sync1) (slave_after u five.arm).registers) behind_is
        ∙ armed_planned (kinds p) sync1 armed.registers cycle x stands_armed.slave.kind_is (cycle_there fits) (sync1_there (plan_fits cycle sync1 fits plan)) start_there plan
