-- Who answers a datagram, and what its counter becomes.
use Rattle.std.proofs.Common.{◌≡◌, ℕ, zero, suc, ◌+◌, ◌≤◌, List, [], ◌∷◌, length, Option, Some, Bool, true, false, nat_lt, refl, sym, ap, ap₂, ◌∙◌, arith, inl, inr}
use Rattle.std.specs.Prelude.{◌==◌, slice_get, take, if◌then◌else◌}
use Rattle.std.specs.List.{sum_by}
use Rattle.std.proofs.lemmas.Bool.Decides.{nat_tests}
use Rattle.ecat_frame.specs.FrameGrammar.{DatagramValue}
use Rattle.ecat_frame.specs.declared.command.Command.{Command}
use Rattle.ecat_frame.specs.declared.command.Command.TheVariants.{Nop, Aprd, Apwr, Aprw, Fprd, Fpwr, Fprw, Brd, Bwr, Brw, Lrd, Lwr, Lrw, Armw, Frmw}
use Rattle.esc_regs.specs.RegisterAccess.{is_refused}
use Rattle.esc_regs.specs.declared.clock_kind.ClockKind.{ClockKind}
use Rattle.frame_pass.specs.SlaveState.{Slave, station}
use Rattle.frame_pass.specs.DatagramTable.{Passes, doing_by, gain, raised_by}
use Rattle.frame_pass.specs.DatagramAtSlave.{is_refused_by, doing, slave_after, datagram_after}
use Rattle.frame_pass.specs.FramePass.{at_arrival, datagrams_passed, datagrams_behind}
use Rattle.frame_pass.proofs.Exported.{fixed_advanced, HasSize, same_size, passed_at, does_at, is_sent, all_gain, one_gains, counts, passes_refused, first_is, size_advanced, size_after, found, IsByStation, arrives, passed_on, station_read, station_written}
use Rattle.frame_pass.specs.Counters.{slave_before, doing_in, gains}
use Rattle.frame_pass.specs.Stations.{slave_found, IsAlone, BringsBack}
use Rattle.frame_pass.specs.Aside.{HaveSize}
use Rattle.frame_pass.specs.Drift.{first_behind}
use Rattle.honest_slaves.specs.Standing.{HasAddress, own_address, AreStanding}
use Rattle.honest_slaves.specs.Mindful.{Names, AreMindful}
use Rattle.honest_slaves.specs.Addressed.{ByStation}
use Rattle.honest_slaves.specs.Broadcasts.{asks_all, accepting}
use Rattle.honest_slaves.proofs.Parts.{kind_after}
use Rattle.honest_slaves.proofs.Addresses.{writes_named, passes_named}
use Rattle.honest_slaves.proofs.Frames.{found_standing, low_where, names_on}

-- the kind and the size of a slave as a datagram of a frame finds it
kind_before : (k : ℕ) (s : Slave) (ds : List DatagramValue) → (slave_before k s ds).registers.kind ≡ s.registers.kind
unfolding slave_before
kind_before zero s ds = refl
kind_before (suc k) s [] = refl
kind_before (suc k) s (d ∷ ds) = kind_before k (slave_after s d) ds ∙ kind_after s d

size_before : (k : ℕ) (s : Slave) (ds : List DatagramValue) → HasSize s.registers → HasSize (slave_before k s ds).registers
unfolding slave_before
size_before zero s ds size = size
size_before (suc k) s [] size = size
size_before (suc k) s (d ∷ ds) size = size_before k (slave_after s d) ds (size_after s d size)

pub kind_found : (k q sent : ℕ) (ss : List Slave) (ds : List DatagramValue) (s : Slave) → (slave_found k q sent ss ds s).registers.kind ≡ s.registers.kind
kind_found k q sent ss ds s = kind_before k (at_arrival sent s) (datagrams_behind q sent ss ds) ∙ ap (λ p. p.kind) (fixed_advanced (sent + s.visits.arrive) s)

same_datagram : (o : Option DatagramValue) (d e : DatagramValue) → o ≡ Some d → o ≡ Some e → d ≡ e
same_datagram o d e p q = let z : Some d ≡ Some e = sym p ∙ q in cc

-- how many bytes a datagram has on its way
pub long_behind : (k h sent : ℕ) (ss : List Slave) (ds : List DatagramValue) (d e : DatagramValue) → HaveSize ss → slice_get ds k ≡ Some d → slice_get (datagrams_behind h sent ss ds) k ≡ Some e
    → length e.payload ≡ length d.payload
unfolding datagrams_behind
long_behind k zero sent ss ds d e sizes is at = ap (λ x. length x.payload) (same_datagram (slice_get ds k) e d at is)
long_behind k (suc h) sent [] ds d e sizes is at = ap (λ x. length x.payload) (same_datagram (slice_get ds k) e d at is)
long_behind k (suc h) sent (s ∷ ss) ds d e sizes is at =
    let v = slave_before k (at_arrival sent s) ds in
    long_behind k h sent ss (datagrams_passed sent s ds) (datagram_after v d) e sizes.1 (passed_at k sent s ds d is) at
    ∙ same_size v d (size_before k (at_arrival sent s) ds (size_advanced (sent + s.visits.arrive) s sizes.0))

-- what all are asked, each does that does not refuse
asked_gain : (c : Command) (is_zero is_own : Bool) → asks_all c ≡ true → gain (doing_by c is_zero is_own) ≡ 1
unfolding asks_all doing_by
asked_gain Nop z o e = absurd (let x = e in cc)
asked_gain Aprd z o e = absurd (let x = e in cc)
asked_gain Apwr z o e = absurd (let x = e in cc)
asked_gain Aprw z o e = absurd (let x = e in cc)
asked_gain Fprd z o e = absurd (let x = e in cc)
asked_gain Fpwr z o e = absurd (let x = e in cc)
asked_gain Fprw z o e = absurd (let x = e in cc)
asked_gain Brd z o e = refl
asked_gain Bwr z o e = refl
asked_gain Brw z o e = absurd (let x = e in cc)
asked_gain Lrd z o e = absurd (let x = e in cc)
asked_gain Lwr z o e = absurd (let x = e in cc)
asked_gain Lrw z o e = absurd (let x = e in cc)
asked_gain Armw z o e = absurd (let x = e in cc)
asked_gain Frmw z true e = refl
asked_gain Frmw z false e = refl

gain_all : (s : Slave) (d : DatagramValue) → asks_all d.head.command ≡ true → gain (doing s d) ≡ (if is_refused_by s d then 0 else 1)
unfolding doing
gain_all s d all = by (is_refused_by s d) refl
  where
    by : (b : Bool) → is_refused_by s d ≡ b → gain (doing s d) ≡ (if is_refused_by s d then 0 else 1)
    by true e = rw e refl
    by false e = rw e (asked_gain d.head.command (d.head.adp == 0) (d.head.adp == station s.registers) all)

if_same : (a b : Bool) → a ≡ b → ◌≡◌ {A = ℕ} (if a then 0 else 1) (if b then 0 else 1)
if_same a b e = rw e refl

pub all_answer : (k h sent : ℕ) (ss : List Slave) (ds : List DatagramValue) (d : DatagramValue) → HaveSize ss → slice_get ds k ≡ Some d → asks_all d.head.command ≡ true
    → gains k h sent ss ds ≡ sum_by (accepting d.head.ado (length d.payload)) (take h ss)
all_answer k h sent ss ds d sizes is all =
    all_gain k h sent (accepting d.head.ado (length d.payload)) ss ds
    (λ i s low there.
    let f = found k i sent ss ds d is in
    let same = is_sent k i sent ss ds d f.datagram is f.is in
    let v = slave_found k i sent ss ds s in
    let refused : is_refused_by v f.datagram ≡ is_refused s.registers.kind d.head.ado (length d.payload) =
    ap (λ x. is_refused x f.datagram.head.ado (length f.datagram.payload)) (kind_found k i sent ss ds s)
    ∙ ap₂ (λ a n. is_refused s.registers.kind a n) same.ado (long_behind k i sent ss ds d f.datagram sizes is f.is) in
    ap gain (does_at k (at_arrival sent s) (datagrams_behind i sent ss ds) f.datagram f.is)
    ∙ gain_all v f.datagram (ap asks_all same.command ∙ all) ∙ if_same _ _ refused)

differ : (a b : ℕ) → (a ≡ b → ⊥) → (a == b) ≡ false
differ a b far = grind (arith, nat_tests, far)

-- another slave has another address
another : (named : Bool) (p q address : ℕ) → (p ≡ q → ⊥) → HasAddress named q address → (own_address p == address) ≡ false
another true p q address far own = differ (own_address p) address (λ e. far (omega (arith, e, own)))
another false p q address far (inl none) = differ (own_address p) address (λ e. absurd (omega (arith, e, none)))
another false p q address far (inr own) = differ (own_address p) address (λ e. far (omega (arith, e, own)))

-- so one slave alone has it, whatever datagram of a mindful frame looks for it
pub alone : (kinds : ℕ → ClockKind) (statuses : ℕ → ℕ) (named k p sent : ℕ) (ss : List Slave) (ds : List DatagramValue) → length ss ≤ 256 → AreStanding kinds statuses named ss → AreMindful 0 ds
    → IsAlone (own_address p) k p (length ss) sent ss ds
alone kinds statuses named k p sent ss ds few a m i s low there far =
    let h = found_standing kinds statuses named k i sent ss ds s few a m low there in
    another (nat_lt i named) p i (station (slave_found k i sent ss ds s).registers) (λ e. far (sym e)) h.address

raised_once : (n x : ℕ) → n ≡ 0 → x ≡ raised_by 1 n → x ≡ 1
raised_once n x e f = omega (arith, e, f)

raised_to : (g n x : ℕ) → n ≡ 0 → g ≡ 1 → x ≡ raised_by g n → x ≡ 1
raised_to g n x e z f = omega (arith, e, z, f)

raised_never : (g n x : ℕ) → n ≡ 0 → g ≡ 0 → x ≡ raised_by g n → x ≡ 0
raised_never g n x e z f = omega (arith, e, z, f)

same_test : (a b : ℕ) → a ≡ b → (a == b) ≡ true
same_test a b e = grind (arith, nat_tests, e)

alone_by : (kinds : ℕ → ClockKind) (statuses : ℕ → ℕ) (named k p sent : ℕ) (ss : List Slave) (ds : List DatagramValue) (d : DatagramValue) (s : Slave) → ByStation kinds statuses named k p sent ss ds d s
    → IsAlone d.head.adp k p (length ss) sent ss ds
alone_by kinds statuses named k p sent ss ds d s b i v low there far =
    ap (λ a. a == station (slave_found k i sent ss ds v).registers) b.adp ∙ alone kinds statuses named k p sent ss ds b.few b.standing b.mindful i v low there far

own_by : (kinds : ℕ → ClockKind) (statuses : ℕ → ℕ) (named k p sent : ℕ) (ss : List Slave) (ds : List DatagramValue) (d : DatagramValue) (s : Slave) → ByStation kinds statuses named k p sent ss ds d s
    → (d.head.adp == station (slave_found k p sent ss ds s).registers) ≡ true
own_by kinds statuses named k p sent ss ds d s b = same_test _ _ (b.adp ∙ sym b.found.address)

refusal_by : (kinds : ℕ → ClockKind) (statuses : ℕ → ℕ) (named k p sent : ℕ) (ss : List Slave) (ds : List DatagramValue) (d : DatagramValue) (s : Slave) → ByStation kinds statuses named k p sent ss ds d s
    → is_refused (slave_found k p sent ss ds s).registers.kind d.head.ado (length d.payload) ≡ is_refused (kinds p) d.head.ado (length d.payload)
refusal_by kinds statuses named k p sent ss ds d s b = ap (λ x. is_refused x d.head.ado (length d.payload)) b.found.slave.kind_is

pub read_there : (kinds : ℕ → ClockKind) (statuses : ℕ → ℕ) (named k p sent : ℕ) (ss : List Slave) (ds : List DatagramValue) (d e : DatagramValue) (s : Slave) → ByStation kinds statuses named k p sent ss ds d s
    → d.head.command ≡ Fprd → is_refused (kinds p) d.head.ado (length d.payload) ≡ false → slice_get (datagrams_behind (length ss) sent ss ds) k ≡ Some e
    → (e.wkc ≡ 1) × BringsBack d (slave_found k p sent ss ds s) e
read_there kinds statuses named k p sent ss ds d e s b c whole at =
    let counter = b.counter in
    let r = station_read k p (length ss) sent ss ds d e s (low_where ss p s b.there) b.there b.is c (omega (arith, counter)) (alone_by kinds statuses named k p sent ss ds d s b) b.found.slave.size
    (own_by kinds statuses named k p sent ss ds d s b) (refusal_by kinds statuses named k p sent ss ds d s b ∙ whole) at in
    (raised_once d.wkc e.wkc counter r.counter, r)

pub written_there : (kinds : ℕ → ClockKind) (statuses : ℕ → ℕ) (named k p sent : ℕ) (ss : List Slave) (ds : List DatagramValue) (d e : DatagramValue) (s : Slave) → ByStation kinds statuses named k p sent ss ds d s
    → d.head.command ≡ Fpwr → is_refused (kinds p) d.head.ado (length d.payload) ≡ false → slice_get (datagrams_behind (length ss) sent ss ds) k ≡ Some e → e.wkc ≡ 1
written_there kinds statuses named k p sent ss ds d e s b c whole at =
    let counter = b.counter in
    let g = found k p sent ss ds d b.is in
    let r = station_written k p (length ss) sent ss ds d e g.datagram s (low_where ss p s b.there) b.there b.is c (omega (arith, counter)) (alone_by kinds statuses named k p sent ss ds d s b)
    (own_by kinds statuses named k p sent ss ds d s b) (refusal_by kinds statuses named k p sent ss ds d s b ∙ whole) g.is at in
    raised_once d.wkc e.wkc counter r.counter

pub refused_there : (kinds : ℕ → ClockKind) (statuses : ℕ → ℕ) (named k p sent : ℕ) (ss : List Slave) (ds : List DatagramValue) (d e : DatagramValue) (s : Slave) → ByStation kinds statuses named k p sent ss ds d s
    → IsByStation d → is_refused (kinds p) d.head.ado (length d.payload) ≡ true → slice_get (datagrams_behind (length ss) sent ss ds) k ≡ Some e → e.wkc ≡ 0
refused_there kinds statuses named k p sent ss ds d e s b c refused at =
    let low = low_where ss p s b.there in
    let single = alone_by kinds statuses named k p sent ss ds d s b in
    let g = found k p sent ss ds d b.is in
    let v = slave_found k p sent ss ds s in
    let same = arrives k p (length ss) sent ss ds d g.datagram (omega (arith, low)) b.is c single g.is in
    let passes : doing v g.datagram ≡ Passes = passes_refused v g.datagram
    (ap₂ (λ a n. is_refused v.registers.kind a n) same.ado (ap length same.payload) ∙ refusal_by kinds statuses named k p sent ss ds d s b ∙ refused) in
    let counter = b.counter in
    raised_never (gains k (length ss) sent ss ds) d.wkc e.wkc counter
    (one_gains k (length ss) sent p ss ds s low b.there (passed_on k p (length ss) sent ss ds d b.is c single)
    ∙ ap gain (does_at k (at_arrival sent s) (datagrams_behind p sent ss ds) g.datagram g.is ∙ passes))
    (counts k (length ss) sent ss ds d e b.is at (omega (arith, counter)))

-- the datagram that names a slave is answered by that slave alone
first_does : (i sent : ℕ) (ss : List Slave) (d : DatagramValue) (ds : List DatagramValue) (v : Slave)
    → doing_in 0 (at_arrival sent v) (datagrams_behind i sent ss (d ∷ ds)) ≡ doing (at_arrival sent v) (first_behind i sent ss d)
unfolding slave_before
first_does i sent ss d ds v = does_at 0 (at_arrival sent v) (datagrams_behind i sent ss (d ∷ ds)) (first_behind i sent ss d) (first_is i sent ss d ds)

pub naming_counts : (p sent : ℕ) (ss : List Slave) (d : DatagramValue) (ds : List DatagramValue) (s : Slave) (e : DatagramValue) → length ss ≤ 256 → slice_get ss p ≡ Some s → Names p 0 d → d.wkc ≡ 0
    → slice_get (datagrams_behind (length ss) sent ss (d ∷ ds)) 0 ≡ Some e → e.wkc ≡ 1
naming_counts p sent ss d ds s e few there n counter at =
    let low = low_where ss p s there in
    raised_to (gains 0 (length ss) sent ss (d ∷ ds)) d.wkc e.wkc counter
    (one_gains 0 (length ss) sent p ss (d ∷ ds) s low there
    (λ i v less is far. first_does i sent ss d ds v
    ∙ passes_named p i (at_arrival sent v) (first_behind i sent ss d) (omega (arith, less, few)) (λ z. far (sym z)) (names_on p i sent ss d n (omega (arith, less))))
    ∙ ap gain (first_does p sent ss d ds s ∙ writes_named p (at_arrival sent s) (first_behind p sent ss d) (names_on p p sent ss d n (omega (arith, low)))))
    (counts 0 (length ss) sent ss (d ∷ ds) d e refl at (omega (arith, counter)))
