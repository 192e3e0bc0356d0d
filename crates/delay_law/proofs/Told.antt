-- What the reply to Times tells of a slave that holds its receive times.
use Rattle.std.proofs.Common.{◌≡◌, ℕ, ◌+◌, ◌<◌, ◌≤◌, List, [], ◌∷◌, length, drop, Some, Bool, true, false, nat_lt, refl, ap, subst, ◌∙◌, arith, inl, inr}
use Rattle.std.specs.Prelude.{not, slice_get, slice_index}
use Rattle.std.proofs.lemmas.Bool.Decides.{nat_tests}
use Rattle.std.proofs.lemmas.Option.{get_or_from_slice_get}
use Rattle.byteorder.specs.Endian.{little_number}
use Rattle.cable_tree.specs.declared.port.Port.{Port}
use Rattle.cable_tree.specs.declared.port.Port.TheVariants.{P1, P2, P3}
use Rattle.dc_topology.specs.Listed.{port_number}
use Rattle.ecat_frame.specs.FrameGrammar.{DatagramValue, FrameValue}
use Rattle.ecat_frame.specs.declared.command.Command.TheVariants.{Fprd}
use Rattle.esc_regs.specs.RegisterBytes.{number_at}
use Rattle.esc_regs.specs.declared.clock_kind.ClockKind.{ClockKind}
use Rattle.frame_pass.specs.SlaveState.{Slave, holds}
use Rattle.frame_pass.specs.DatagramAtSlave.{slave_after}
use Rattle.frame_pass.specs.FramePass.{at_arrival, datagrams_behind}
use Rattle.esc_regs.specs.Kinds.{measures}
use Rattle.frame_pass.specs.Counters.{slave_before}
use Rattle.frame_pass.specs.Stations.{BringsBack, slave_found}
use Rattle.frame_pass.specs.Aside.{never_writes}
use Rattle.frame_pass.proofs.Exported.{idle, is_sent, times_left, Found, found}
use Rattle.master_script.specs.Frames.{asks, blank, station, times_datagrams, width}
use Rattle.master_script.specs.Steps.{data_at, latch_in}
use Rattle.honest_slaves.specs.Addressed.{ByStation}
use Rattle.honest_slaves.specs.Mindful.{AreMindful}
use Rattle.honest_slaves.specs.Standing.{Stands, own_address}
use Rattle.honest_slaves.proofs.Exported.{read_there, found_standing, low_where, IsFor, ports_for_measuring, unit_for_measuring}
use Rattle.honest_slaves.specs.Told.{AreInOrder}
use Rattle.delay_law.specs.HeldTimes.{port_register}

-- the datagram that reads the receive times of the ports, and that of the processing unit
abbrev asked : ℕ → DatagramValue
asked p = asks 0 Fprd (station p) 0x0900 (blank 16)

abbrev asked_unit : ℕ → Bool → DatagramValue
asked_unit p wide = asks 1 Fprd (station p) 0x0918 (blank (width wide))

unit_for : (wide : Bool) → IsFor measures 0x0918 (length (blank (width wide)))
unit_for true = unit_for_measuring true
unit_for false = unit_for_measuring false

unit_long : (wide : Bool) → length (blank (width wide)) ≡ width wide
unit_long true = refl
unit_long false = refl

few_bytes : (wide : Bool) → width wide ≤ 8
few_bytes true = omega arith
few_bytes false = omega arith

-- a first datagram that reads leaves the slave to the second
read_first : (s : Slave) (ds : List DatagramValue) (g : DatagramValue) → slice_get ds 0 ≡ Some g → never_writes g.head.command ≡ true → slave_before 1 s ds ≡ s
unfolding slave_before slave_after
read_first s [] g is never = refl
read_first s (d ∷ ds) g is never = let same : d ≡ g = (let z = is in cc) in rw (idle s d (ap (λ x. never_writes x.head.command) same ∙ never)) refl

is_below : (p n : ℕ) → p < n → nat_lt p n ≡ true
is_below p n low = grind (arith, nat_tests)

found_first : (p sent : ℕ) (ss : List Slave) (ds : List DatagramValue) (v : Slave) → slave_found 0 p sent ss ds v ≡ at_arrival sent v
unfolding slave_before
found_first p sent ss ds v = refl

number_in : (n at : ℕ) (bytes : List ℕ) → little_number n (drop at bytes) ≡ number_at n at bytes
unfolding number_at
number_in n at bytes = refl

-- n slaves that are all named, and the reply to Times of the one at position p
module _ (kinds : ℕ → ClockKind) (statuses : ℕ → ℕ) (n sent : ℕ) (ss : List Slave) (are : AreInOrder kinds statuses n n ss) (p : ℕ) (v : Slave) (there : slice_get ss p ≡ Some v)
    (wide : Bool) (mindful : AreMindful 0 (times_datagrams p wide)) (measuring : measures (kinds p) ≡ true)
    (g : FrameValue) (back : g.datagrams ≡ datagrams_behind (length ss) sent ss (times_datagrams p wide)) where
  few : length ss ≤ 256
  few = let many = are.many in let f = are.few in omega (arith, many, f)

  within : p < length ss
  within = low_where ss p v there

  low : p < n
  low = let many = are.many in let w = within in omega (arith, many, w)

  abbrev here : Slave
  here = slave_found 0 p sent ss (times_datagrams p wide) v

  by_station : (k : ℕ) (d : DatagramValue) → slice_get (times_datagrams p wide) k ≡ Some d → d.head.adp ≡ own_address p → d.wkc ≡ 0 → ByStation kinds statuses n k p sent ss (times_datagrams p wide) d v
  by_station k d is adp fresh = record {
    few = few;
    standing = are.standing;
    mindful = mindful;
    there = there;
    found = subst (λ b. Stands (kinds p) (statuses p) b p (slave_found k p sent ss (times_datagrams p wide) v)) (is_below p n low)
        (found_standing kinds statuses n k p sent ss (times_datagrams p wide) v few are.standing mindful within there);
    is = is;
    adp = adp;
    counter = fresh;
  }

  reply : Found (slice_get (datagrams_behind (length ss) sent ss (times_datagrams p wide)) 0)
  reply = found 0 (length ss) sent ss (times_datagrams p wide) (asked p) refl

  brings : BringsBack (asked p) here reply.datagram
  brings = (read_there kinds statuses n 0 p sent ss (times_datagrams p wide) (asked p) reply.datagram v (by_station 0 (asked p) refl refl refl) refl (ports_for_measuring (kinds p) ∙ ap not measuring) reply.is).1

  data_is : data_at g 0 ≡ reply.datagram.payload
  data_is = ap (λ (d : DatagramValue). d.payload) (get_or_from_slice_get g.datagrams 0 reply.datagram _ (ap (λ (ds : List DatagramValue). slice_get ds 0) back ∙ reply.is))

  -- each word is what the slave holds
  word_is : (j : ℕ) → j + 4 ≤ 16 → length v.registers.bytes ≡ 4096 → little_number 4 (drop j (data_at g 0)) ≡ holds 4 (0x0900 + j) v.registers
  word_is j room size =
      ap (λ bytes. little_number 4 (drop j bytes)) data_is ∙ number_in 4 j reply.datagram.payload
      ∙ brings.numbers j 4 room (inr (omega (arith, room))) (inr (omega (arith, room)))
      ∙ ap (λ (x : Slave). holds 4 (0x0900 + j) x.registers) (found_first p sent ss (times_datagrams p wide) v)
      ∙ times_left (0x0900 + j) 4 (sent + v.visits.arrive) v (inl (omega arith, omega (arith, room))) size

  pub arrival_is : length v.registers.bytes ≡ 4096 → slice_index (latch_in wide g).ports 0 ≡ holds 4 0x0900 v.registers
  arrival_is size = word_is 0 (omega arith) size

  pub port_is : (q : Port) → length v.registers.bytes ≡ 4096 → slice_index (latch_in wide g).ports (port_number q) ≡ holds 4 (port_register q) v.registers
  port_is P1 size = word_is 4 (omega arith) size
  port_is P2 size = word_is 8 (omega arith) size
  port_is P3 size = word_is 12 (omega arith) size

  -- and so is that of the processing unit
  reply_unit : Found (slice_get (datagrams_behind (length ss) sent ss (times_datagrams p wide)) 1)
  reply_unit = found 1 (length ss) sent ss (times_datagrams p wide) (asked_unit p wide) refl

  unit_found : slave_found 1 p sent ss (times_datagrams p wide) v ≡ at_arrival sent v
  unfolding never_writes
  unit_found =
      let first = found 0 p sent ss (times_datagrams p wide) (asked p) refl in
      read_first (at_arrival sent v) (datagrams_behind p sent ss (times_datagrams p wide)) first.datagram first.is
      (ap never_writes (is_sent 0 p sent ss (times_datagrams p wide) (asked p) first.datagram refl first.is).command)

  brings_unit : BringsBack (asked_unit p wide) (slave_found 1 p sent ss (times_datagrams p wide) v) reply_unit.datagram
  brings_unit =
      (read_there kinds statuses n 1 p sent ss (times_datagrams p wide) (asked_unit p wide) reply_unit.datagram v (by_station 1 (asked_unit p wide) refl refl refl) refl
      (unit_for wide (kinds p) ∙ ap not measuring) reply_unit.is).1

  unit_data : data_at g 1 ≡ reply_unit.datagram.payload
  unit_data = ap (λ (d : DatagramValue). d.payload) (get_or_from_slice_get g.datagrams 1 reply_unit.datagram _ (ap (λ (ds : List DatagramValue). slice_get ds 1) back ∙ reply_unit.is))

  pub unit_is : length v.registers.bytes ≡ 4096 → (latch_in wide g).unit ≡ holds (width wide) 0x0918 v.registers
  unit_is size =
      let few = few_bytes wide in
      let long = unit_long wide in
      ap (λ bytes. little_number (width wide) bytes) unit_data ∙ number_in (width wide) 0 reply_unit.datagram.payload
      ∙ brings_unit.numbers 0 (width wide) (omega (arith, long)) (inl (omega arith)) (inr (omega (arith, few)))
      ∙ ap (λ (x : Slave). holds (width wide) 0x0918 x.registers) unit_found
      ∙ times_left 0x0918 (width wide) (sent + v.visits.arrive) v (inr (omega arith, omega (arith, few))) size
