-- A datagram that addresses one slave by its station address.
use Rattle.std.proofs.Common.{◌≡◌, ℕ, zero, suc, ◌+◌, ◌^◌, ◌<◌, ◌≤◌, ◌⊎◌, List, [], ◌∷◌, length, Option, Some, true, false, refl, ap, ap₂, ◌∙◌, arith, inl, inr}
use Rattle.std.specs.Prelude.{◌≢◌, ◌==◌, slice_get}
use Rattle.ecat_frame.specs.FrameGrammar.{DatagramValue}
use Rattle.ecat_frame.specs.declared.command.Command.TheVariants.{Fprd, Fpwr}
use Rattle.esc_regs.specs.RegisterBytes.{number_at}
use Rattle.esc_regs.specs.RegisterAccess.{is_refused}
use Rattle.frame_pass.specs.SlaveState.{Slave, holds, station}
use Rattle.frame_pass.specs.DatagramTable.{Passes, Reads, Writes, reads, gain, raised_by, raises_adp, merges}
use Rattle.frame_pass.specs.DatagramAtSlave.{doing, is_refused_by, datagram_after}
use Rattle.frame_pass.specs.FramePass.{at_arrival, datagrams_passed, datagrams_behind}
use Rattle.frame_pass.proofs.Sizes.{HasSize}
use Rattle.frame_pass.specs.Counters.{slave_before, doing_in, gains}
use Rattle.frame_pass.specs.Stations.{slave_found, IsAlone, BringsBack, IsReceived}
use Rattle.frame_pass.proofs.Counting.{passed_at, does_at, is_sent, address_kept, counts, one_gains, data_kept, other_station, own_read, own_written}
use Rattle.frame_pass.proofs.DataRead.{held_read, size_read}

-- a datagram of a frame has one at its place behind slaves
pub record Found (o : Option DatagramValue) : Type 0 where
  pub datagram : DatagramValue
  pub is : o ≡ Some datagram

pub found : (k h sent : ℕ) (ss : List Slave) (ds : List DatagramValue) (d : DatagramValue) → slice_get ds k ≡ Some d → Found (slice_get (datagrams_behind h sent ss ds) k)
unfolding datagrams_behind
found k zero sent ss ds d is = record { datagram = d; is = is }
found k (suc h) sent [] ds d is = record { datagram = d; is = is }
found k (suc h) sent (s ∷ ss) ds d is = found k h sent ss (datagrams_passed sent s ds) (datagram_after (slave_before k (at_arrival sent s) ds) d) (passed_at k sent s ds d is)

-- behind one slave more
one_more : (q sent : ℕ) (ss : List Slave) (ds : List DatagramValue) (s : Slave) → slice_get ss q ≡ Some s → datagrams_behind (suc q) sent ss ds ≡ datagrams_passed sent s (datagrams_behind q sent ss ds)
unfolding datagrams_behind
one_more q sent [] ds s is = absurd (let z = is in cc)
one_more zero sent (v ∷ ss) ds s is = let same : v ≡ s = (let z = is in cc) in ap (λ x. datagrams_passed sent x ds) same
one_more (suc q) sent (v ∷ ss) ds s is = one_more q sent ss (datagrams_passed sent v ds) s is

-- commands by station address
abbrev pub IsByStation : DatagramValue → Type 0
IsByStation d = (d.head.command ≡ Fprd) ⊎ (d.head.command ≡ Fpwr)

adp_stays : (d : DatagramValue) → IsByStation d → raises_adp d.head.command ≡ false
unfolding raises_adp
adp_stays d (inl e) = rw e refl
adp_stays d (inr e) = rw e refl

by_station : (d e : DatagramValue) → e.head.command ≡ d.head.command → IsByStation d → IsByStation e
by_station d e same (inl c) = inl (same ∙ c)
by_station d e same (inr c) = inr (same ∙ c)

-- every other slave passes it on
pub passed_on : (k q h sent : ℕ) (ss : List Slave) (ds : List DatagramValue) (d : DatagramValue) → slice_get ds k ≡ Some d → IsByStation d → IsAlone d.head.adp k q h sent ss ds
    → (i : ℕ) (v : Slave) → i < h → slice_get ss i ≡ Some v → i ≢ q → doing_in k (at_arrival sent v) (datagrams_behind i sent ss ds) ≡ Passes
passed_on k q h sent ss ds d is c alone i v low there far =
    let f = found k i sent ss ds d is in
    let same = is_sent k i sent ss ds d f.datagram is f.is in
    let adp = address_kept k i sent ss ds d f.datagram is f.is (adp_stays d c) in
    does_at k (at_arrival sent v) (datagrams_behind i sent ss ds) f.datagram f.is
    ∙ other_station (slave_found k i sent ss ds v) f.datagram (by_station d f.datagram same.command c)
    (ap (λ a. a == station (slave_found k i sent ss ds v).registers) adp ∙ alone i v low there far)

-- it comes to its slave as it was sent, but for the counter
pub record Arrives (d e : DatagramValue) : Type 0 where
  pub command : e.head.command ≡ d.head.command
  pub adp : e.head.adp ≡ d.head.adp
  pub ado : e.head.ado ≡ d.head.ado
  pub payload : e.payload ≡ d.payload

pub arrives : (k q h sent : ℕ) (ss : List Slave) (ds : List DatagramValue) (d e : DatagramValue) → q ≤ h → slice_get ds k ≡ Some d → IsByStation d → IsAlone d.head.adp k q h sent ss ds
    → slice_get (datagrams_behind q sent ss ds) k ≡ Some e → Arrives d e
unfolding datagrams_behind
arrives k q h sent ss ds d e low is c alone at =
    let same = is_sent k q sent ss ds d e is at in
    record {
      command = same.command;
      adp = address_kept k q sent ss ds d e is at (adp_stays d c);
      ado = same.ado;
      payload = data_kept k 0 q sent ss ds d e (omega arith) is at
          (λ i v from to there. ap reads (passed_on k q h sent ss ds d is c alone i v (omega (arith, low, to)) there (λ z. absurd (omega (arith, z, to)))));
    }

pub station_read : (k q h sent : ℕ) (ss : List Slave) (ds : List DatagramValue) (d e : DatagramValue) (s : Slave) → q < h → slice_get ss q ≡ Some s → slice_get ds k ≡ Some d → d.head.command ≡ Fprd → d.wkc < 2 ^ 16
    → IsAlone d.head.adp k q h sent ss ds → HasSize (slave_found k q sent ss ds s).registers → (d.head.adp == station (slave_found k q sent ss ds s).registers) ≡ true
    → is_refused (slave_found k q sent ss ds s).registers.kind d.head.ado (length d.payload) ≡ false
    → slice_get (datagrams_behind h sent ss ds) k ≡ Some e → BringsBack d (slave_found k q sent ss ds s) e
unfolding merges
station_read k q h sent ss ds d e s low there is c fits alone size own whole at =
    let v = slave_found k q sent ss ds s in
    let f = found k q sent ss ds d is in
    let g = f.datagram in
    let same = arrives k q h sent ss ds d g (omega (arith, low)) is (inl c) alone f.is in
    let own' : (g.head.adp == station v.registers) ≡ true = ap (λ a. a == station v.registers) same.adp ∙ own in
    let whole' : is_refused_by v g ≡ false = ap₂ (λ a n. is_refused v.registers.kind a n) same.ado (ap length same.payload) ∙ whole in
    let does : doing v g ≡ Reads = own_read v g (same.command ∙ c) whole' own' in
    let plain : merges g.head.command ≡ false = rw (same.command ∙ c) refl in
    let next : slice_get (datagrams_behind (suc q) sent ss ds) k ≡ Some (datagram_after v g) =
    ap (λ xs. slice_get xs k) (one_more q sent ss ds s there) ∙ passed_at k sent s (datagrams_behind q sent ss ds) g f.is in
    let kept : e.payload ≡ (datagram_after v g).payload =
    data_kept k (suc q) h sent ss ds (datagram_after v g) e (omega (arith, low)) next at
    (λ i u from to place. ap reads (passed_on k q h sent ss ds d is (inl c) alone i u to place (λ z. absurd (omega (arith, z, from))))) in
    let gained : gains k h sent ss ds ≡ 1 =
    one_gains k h sent q ss ds s low there (passed_on k q h sent ss ds d is (inl c) alone)
    ∙ ap gain (does_at k (at_arrival sent s) (datagrams_behind q sent ss ds) g f.is ∙ does) in
    record {
      counter = counts k h sent ss ds d e is at fits ∙ ap (λ n. raised_by n d.wkc) gained;
      size = ap length kept ∙ size_read v g size (ap reads does) plain ∙ ap length same.payload;
      numbers = λ j n room far far'. ap (number_at n j) kept
          ∙ held_read v g j n size (ap reads does) plain (rw same.payload room) (rw same.ado far) (rw same.ado far')
          ∙ ap (λ a. holds n (a + j) v.registers) same.ado;
    }

pub station_written : (k q h sent : ℕ) (ss : List Slave) (ds : List DatagramValue) (d e g : DatagramValue) (s : Slave) → q < h → slice_get ss q ≡ Some s → slice_get ds k ≡ Some d → d.head.command ≡ Fpwr → d.wkc < 2 ^ 16
    → IsAlone d.head.adp k q h sent ss ds → (d.head.adp == station (slave_found k q sent ss ds s).registers) ≡ true
    → is_refused (slave_found k q sent ss ds s).registers.kind d.head.ado (length d.payload) ≡ false
    → slice_get (datagrams_behind q sent ss ds) k ≡ Some g → slice_get (datagrams_behind h sent ss ds) k ≡ Some e → IsReceived d (slave_found k q sent ss ds s) g e
station_written k q h sent ss ds d e g s low there is c fits alone own whole here at =
    let v = slave_found k q sent ss ds s in
    let same = arrives k q h sent ss ds d g (omega (arith, low)) is (inr c) alone here in
    let own' : (g.head.adp == station v.registers) ≡ true = ap (λ a. a == station v.registers) same.adp ∙ own in
    let whole' : is_refused_by v g ≡ false = ap₂ (λ a n. is_refused v.registers.kind a n) same.ado (ap length same.payload) ∙ whole in
    let does : doing v g ≡ Writes = own_written v g (same.command ∙ c) whole' own' in
    let gained : gains k h sent ss ds ≡ 1 =
    one_gains k h sent q ss ds s low there (passed_on k q h sent ss ds d is (inr c) alone)
    ∙ ap gain (does_at k (at_arrival sent s) (datagrams_behind q sent ss ds) g here ∙ does) in
    record { counter = counts k h sent ss ds d e is at fits ∙ ap (λ n. raised_by n d.wkc) gained; writes = does; ado = same.ado; payload = same.payload }
