-- The frame of Set at the slave that it is for.
use Rattle.std.proofs.Common.{◌≡◌, ℕ, zero, suc, ◌+◌, ◌-◌, ◌*◌, ◌%◌, ◌^◌, ◌<◌, ◌≤◌, Bool, true, false, List, [], ◌∷◌, length, Option, Some, nat_lt, refl, sym, ap, ap₂, subst, ◌∙◌, arith, inr}
use Rattle.std.specs.Prelude.{not, slice_get, ◌==◌, if◌then◌else◌}
use Rattle.std.proofs.lemmas.Bool.Decides.{nat_tests}
use Rattle.byteorder.specs.Endian.{little_bytes}
use Rattle.ecat_frame.specs.FrameGrammar.{DatagramValue}
use Rattle.ecat_frame.specs.declared.command.Command.TheVariants.{Fpwr}
use Rattle.esc_regs.specs.RegisterAccess.{is_refused}
use Rattle.esc_regs.specs.RegisterBytes.{AreApart, number_at}
use Rattle.esc_regs.specs.RegisterTable.{held, is_wide}
use Rattle.esc_regs.specs.RegisterWrite.{written}
use Rattle.esc_regs.specs.declared.clock_kind.ClockKind.{ClockKind}
use Rattle.esc_regs.specs.declared.clock_kind.ClockKind.TheVariants as kind
use Rattle.esc_regs.proofs.Exported.{untouched}
use Rattle.esc_regs.specs.Kinds.{has_clock}
use Rattle.frame_pass.specs.DatagramAtSlave.{datagram_after, doing, slave_after}
use Rattle.frame_pass.specs.DatagramTable.{writes}
use Rattle.frame_pass.specs.FramePass.{at_arrival, datagrams_after, datagrams_behind, datagrams_passed, slave_behind, slave_passed}
use Rattle.frame_pass.specs.Invariants.{IsSound}
use Rattle.frame_pass.specs.PlainRegisters.{IsPlain}
use Rattle.frame_pass.specs.SlaveState.{Slave, delay, holds, offset, station, width}
use Rattle.frame_pass.proofs.Exported.{fixed_passed, plain_datagram, plain_passed, HasSize, found, station_written, stores_number}
use Rattle.frame_pass.specs.Counters.{slave_before}
use Rattle.frame_pass.specs.Stations.{IsAlone, slave_found}
use Rattle.master_script.specs.Frames.{asks, set_datagrams, station as address_of, width as bytes_by}
use Rattle.honest_slaves.specs.Mindful.{AreMindful}
use Rattle.honest_slaves.specs.Standing.{Stands, own_address}
use Rattle.honest_slaves.proofs.Exported.{alone, found_standing, low_where, IsFor, delay_for_clocks, offset_for_clocks}
use Rattle.honest_slaves.specs.Told.{AreInOrder}
use Rattle.copy_law.proofs.Registers.{delay_plain, number_brought, offset_plain, word_brought, word_is}

-- two datagrams stay two
record AreTwo (ds : List DatagramValue) : Type 0 where
  first : DatagramValue
  second : DatagramValue
  are : ds ≡ first ∷ second ∷ []

two_on : (h sent : ℕ) (ss : List Slave) (d e : DatagramValue) → AreTwo (datagrams_behind h sent ss (d ∷ e ∷ []))
unfolding datagrams_behind datagrams_passed datagrams_after
two_on zero sent ss d e = record { first = d; second = e; are = refl }
two_on (suc h) sent [] d e = record { first = d; second = e; are = refl }
two_on (suc h) sent (s ∷ ss) d e = two_on h sent ss (datagram_after (at_arrival sent s) d) (datagram_after (slave_after (at_arrival sent s) d) e)

-- a written datagram leaves what stands elsewhere
apart_left : (at n : ℕ) (s : Slave) (d : DatagramValue) → IsPlain at n → HasSize s.registers → AreApart d.head.ado (length d.payload) at n → holds n at (slave_after s d).registers ≡ holds n at s.registers
apart_left at n s d plain size far = plain_datagram at n s d plain size ∙ by (writes (doing s d)) refl
  where
    by : (b : Bool) → writes (doing s d) ≡ b → holds n at (if writes (doing s d) then written s.registers d.head.ado d.payload else s.registers) ≡ holds n at s.registers
    by true e = rw e (untouched s.registers d.head.ado d.payload at n size far)
    by false e = rw e refl

same_test : (a b : ℕ) → a ≡ b → (a == b) ≡ true
same_test a b e = grind (arith, nat_tests, e)

is_below : (p n : ℕ) → p < n → nat_lt p n ≡ true
is_below p n low = grind (arith, nat_tests, low)

offset_for : (wide : Bool) (x : ℕ) → IsFor has_clock 0x0920 (length (little_bytes (bytes_by wide) x))
offset_for true x = offset_for_clocks true
offset_for false x = offset_for_clocks false

offset_long : (wide : Bool) (x : ℕ) → length (little_bytes (bytes_by wide) x) ≡ bytes_by wide
offset_long true x = refl
offset_long false x = refl

few_bytes : (wide : Bool) → bytes_by wide ≤ 8
few_bytes true = omega arith
few_bytes false = omega arith

-- a slave has the bytes of its width, and those of the delay
offset_held : (k : ClockKind) → bytes_by (is_wide k) ≤ held k 8
offset_held kind.None = omega arith
offset_held kind.R32 = omega arith
offset_held kind.C32 = omega arith
offset_held kind.C64 = omega arith

delay_held : (k : ClockKind) → 4 ≤ held k 4
delay_held kind.None = omega arith
delay_held kind.R32 = omega arith
delay_held kind.C32 = omega arith
delay_held kind.C64 = omega arith

-- a datagram comes to a slave as it was sent, and is written there
record Comes (d : DatagramValue) (u : Slave) (g : DatagramValue) : Type 0 where
  writes : writes (doing u g) ≡ true
  ado : g.head.ado ≡ d.head.ado
  payload : g.payload ≡ d.payload

-- n slaves that are all named, the clock at position p among them, and its Set
module _ (kinds : ℕ → ClockKind) (statuses : ℕ → ℕ) (n sent : ℕ) (ss : List Slave) (are : AreInOrder kinds statuses n n ss) (p : ℕ) (v : Slave) (there : slice_get ss p ≡ Some v)
    (clock : has_clock (kinds p) ≡ true) (x y : ℕ) (mindful : AreMindful 0 (set_datagrams p (is_wide (kinds p)) x y)) where
  abbrev wide : Bool
  wide = is_wide (kinds p)

  abbrev ds : List DatagramValue
  ds = set_datagrams p wide x y

  abbrev writes_offset : DatagramValue
  writes_offset = asks 0 Fpwr (address_of p) 0x0920 (little_bytes (bytes_by wide) x)

  abbrev writes_delay : DatagramValue
  writes_delay = asks 1 Fpwr (address_of p) 0x0928 (little_bytes 4 y)

  few : length ss ≤ 256
  few = let many = are.many in let f = are.few in omega (arith, many, f)

  within : p < length ss
  within = low_where ss p v there

  low : p < n
  low = let many = are.many in let w = within in omega (arith, many, w)

  standing : (k : ℕ) → Stands (kinds p) (statuses p) true p (slave_found k p sent ss ds v)
  standing k = subst (λ b. Stands (kinds p) (statuses p) b p (slave_found k p sent ss ds v)) (is_below p n low) (found_standing kinds statuses n k p sent ss ds v few are.standing mindful within there)

  -- each datagram comes to it as it was sent, and is written
  comes : (k : ℕ) (d g : DatagramValue) → slice_get ds k ≡ Some d → d.head.command ≡ Fpwr → d.head.adp ≡ own_address p → d.wkc ≡ 0 → IsFor has_clock d.head.ado (length d.payload)
      → slice_get (datagrams_behind p sent ss ds) k ≡ Some g → Comes d (slave_found k p sent ss ds v) g
  comes k d g is command adp fresh for here =
      let h = standing k in
      let e = found k (length ss) sent ss ds d is in
      let single : IsAlone d.head.adp k p (length ss) sent ss ds =
      λ i u less at far. ap (λ a. a == station (slave_found k i sent ss ds u).registers) adp ∙ alone kinds statuses n k p sent ss ds few are.standing mindful i u less at far in
      let r = station_written k p (length ss) sent ss ds d e.datagram g v within there is command (omega (arith, fresh)) single (same_test _ _ (adp ∙ sym h.address))
      (ap (λ x. is_refused x d.head.ado (length d.payload)) h.slave.kind_is ∙ for (kinds p) ∙ ap not clock) here e.is in
      record { writes = ap writes r.writes; ado = r.ado; payload = r.payload }

  two : AreTwo (datagrams_behind p sent ss ds)
  two = two_on p sent ss writes_offset writes_delay

  abbrev arrived : Slave
  arrived = at_arrival sent v

  abbrev between : Slave
  between = slave_after arrived two.first

  abbrev behind : Slave
  behind = slave_after between two.second

  first_found : slave_found 0 p sent ss ds v ≡ arrived
  unfolding slave_before
  first_found = refl

  second_found : slave_found 1 p sent ss ds v ≡ between
  unfolding slave_before
  second_found = ap (slave_before 1 arrived) two.are

  first_comes : Comes writes_offset arrived two.first
  first_comes = subst (λ u. Comes writes_offset u two.first) first_found (comes 0 writes_offset two.first refl refl refl refl (offset_for wide x) (ap (λ es. slice_get es 0) two.are))

  second_comes : Comes writes_delay between two.second
  second_comes = subst (λ u. Comes writes_delay u two.second) second_found (comes 1 writes_delay two.second refl refl refl refl delay_for_clocks (ap (λ es. slice_get es 1) two.are))

  stands_arrived : Stands (kinds p) (statuses p) true p arrived
  stands_arrived = subst (Stands (kinds p) (statuses p) true p) first_found (standing 0)

  stands_between : Stands (kinds p) (statuses p) true p between
  stands_between = subst (Stands (kinds p) (statuses p) true p) second_found (standing 1)

  offset_behind : x < 2 ^ (8 * bytes_by wide) → holds (bytes_by wide) 0x0920 behind.registers ≡ x
  offset_behind fits =
      let few = few_bytes wide in
      let plain = offset_plain (bytes_by wide) few in
      let here : two.first.head.ado ≡ 0x0920 = first_comes.ado in
      let later : two.second.head.ado ≡ 0x0928 = second_comes.ado in
      let long : length two.first.payload ≡ bytes_by wide = ap length first_comes.payload ∙ offset_long wide x in
      apart_left 0x0920 (bytes_by wide) between two.second plain stands_between.slave.size (inr (omega (arith, later, few)))
      ∙ stores_number 0x0920 8 (bytes_by wide) arrived two.first stands_arrived.slave.size refl (subst (λ k. bytes_by wide ≤ held k 8) (sym stands_arrived.slave.kind_is) (offset_held (kinds p))) plain
      first_comes.writes (omega (arith, here)) (omega (arith, here, long))
      ∙ ap₂ (λ k bs. number_at (bytes_by wide) (0x0920 - k) bs) here first_comes.payload ∙ word_brought wide x fits

  delay_behind : holds 4 0x0928 behind.registers ≡ y % 2 ^ 32
  delay_behind =
      let here : two.second.head.ado ≡ 0x0928 = second_comes.ado in
      let long : length two.second.payload ≡ 4 = ap length second_comes.payload in
      stores_number 0x0928 4 4 between two.second stands_between.slave.size refl (subst (λ k. 4 ≤ held k 4) (sym stands_between.slave.kind_is) (delay_held (kinds p))) delay_plain second_comes.writes
      (omega (arith, here)) (omega (arith, here, long))
      ∙ ap₂ (λ k bs. number_at 4 (0x0928 - k) bs) here second_comes.payload ∙ number_brought 4 y

  -- so behind the frame it holds what Set brought
  module _ (trip : ℕ) (end : Option ℕ) (sound : IsSound trip (sent + trip) v) where
    abbrev passed : Slave
    passed = slave_passed sent end v (datagrams_behind p sent ss ds)

    behind_is : slave_behind arrived (datagrams_behind p sent ss ds) ≡ behind
    unfolding slave_behind
    behind_is = ap (slave_behind arrived) two.are

    plain_there : (at m : ℕ) → IsPlain at m → holds m at passed.registers ≡ holds m at behind.registers
    plain_there at m plain =
        plain_passed at m sent trip (sent + trip) end v (datagrams_behind p sent ss ds) plain (omega arith) sound ∙ ap (λ (u : Slave). holds m at u.registers) behind_is

    kind_there : passed.registers.kind ≡ kinds p
    kind_there = ap (λ f. f.kind) (fixed_passed sent end v (datagrams_behind p sent ss ds)) ∙ (are.standing p v there).slave.kind_is

    pub offset_set : x < 2 ^ (8 * bytes_by wide) → offset passed.registers ≡ x
    offset_set fits =
        ap (λ k. holds 8 0x0920 passed.registers % 2 ^ width k) kind_there
        ∙ word_is (kinds p) 0x0920 x passed.registers.bytes fits (plain_there 0x0920 (bytes_by wide) (offset_plain (bytes_by wide) (few_bytes wide)) ∙ offset_behind fits)

    pub delay_set : delay passed.registers ≡ y % 2 ^ 32
    delay_set = plain_there 0x0928 4 delay_plain ∙ delay_behind
