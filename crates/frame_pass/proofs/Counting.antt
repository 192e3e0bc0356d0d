-- A datagram on its way through slaves.
use Rattle.std.proofs.Common.{◌≡◌, ℕ, zero, suc, ◌+◌, ◌^◌, ◌<◌, ◌≤◌, ◌⊎◌, List, [], ◌∷◌, length, Option, Some, Bool, true, false, refl, sym, ap, ap₂, ◌∙◌, arith, inl, inr}
use Rattle.std.specs.Prelude.{◌≢◌, ◌==◌, slice_get, option_map, take}
use Rattle.std.specs.List.{sum_by}
use Rattle.std.proofs.lemmas.List.Sums.{sum_by-cons}
use Rattle.ecat_frame.specs.FrameGrammar.{DatagramValue}
use Rattle.ecat_frame.specs.declared.command.Command.TheVariants.{Fprd, Fpwr}
use Rattle.frame_pass.specs.SlaveState.{Slave, station}
use Rattle.frame_pass.specs.DatagramTable.{Passes, Reads, Writes, doing_by, reads, gain, raised_by, raises_adp}
use Rattle.frame_pass.specs.DatagramAtSlave.{doing, is_refused_by, slave_after, datagram_after}
use Rattle.frame_pass.specs.FramePass.{at_arrival, datagrams_after, datagrams_passed, datagrams_behind}
use Rattle.frame_pass.specs.Counters.{slave_before, doing_for, doing_in, gains, AreDoing}
use Rattle.frame_pass.proofs.Drifting.{kept_unread}

-- each datagram behind a slave is that before it, as the slave then stands
pub after_at : (k : ℕ) (s : Slave) (ds : List DatagramValue) → slice_get (datagrams_after s ds) k ≡ option_map (datagram_after (slave_before k s ds)) (slice_get ds k)
unfolding datagrams_after slave_before
after_at zero s [] = refl
after_at (suc k) s [] = refl
after_at zero s (d ∷ ds) = refl
after_at (suc k) s (d ∷ ds) = after_at k (slave_after s d) ds

pub passed_at : (k sent : ℕ) (s : Slave) (ds : List DatagramValue) (d : DatagramValue) → slice_get ds k ≡ Some d
    → slice_get (datagrams_passed sent s ds) k ≡ Some (datagram_after (slave_before k (at_arrival sent s) ds) d)
unfolding datagrams_passed
passed_at k sent s ds d is = after_at k (at_arrival sent s) ds ∙ ap (option_map (datagram_after (slave_before k (at_arrival sent s) ds))) is

pub does_at : (k : ℕ) (s : Slave) (ds : List DatagramValue) (d : DatagramValue) → slice_get ds k ≡ Some d → doing_in k s ds ≡ doing (slave_before k s ds) d
does_at k s ds d is = ap (doing_for (slave_before k s ds)) is

same_datagram : (o : Option DatagramValue) (d e : DatagramValue) → o ≡ Some d → o ≡ Some e → d ≡ e
same_datagram o d e p q = let z : Some d ≡ Some e = sym p ∙ q in cc

-- what of a datagram stays on its way
pub record IsSent (d e : DatagramValue) : Type 0 where
  pub command : e.head.command ≡ d.head.command
  pub index : e.head.index ≡ d.head.index
  pub ado : e.head.ado ≡ d.head.ado

sent_after : (s : Slave) (d : DatagramValue) → IsSent d (datagram_after s d)
unfolding datagram_after
sent_after s d = record { command = refl; index = refl; ado = refl }

pub is_sent : (k h sent : ℕ) (ss : List Slave) (ds : List DatagramValue) (d e : DatagramValue) → slice_get ds k ≡ Some d → slice_get (datagrams_behind h sent ss ds) k ≡ Some e → IsSent d e
unfolding datagrams_behind
is_sent k zero sent ss ds d e is at = rw (same_datagram (slice_get ds k) d e is at) (record { command = refl; index = refl; ado = refl })
is_sent k (suc h) sent [] ds d e is at = rw (same_datagram (slice_get ds k) d e is at) (record { command = refl; index = refl; ado = refl })
is_sent k (suc h) sent (s ∷ ss) ds d e is at =
    let f = datagram_after (slave_before k (at_arrival sent s) ds) d in
    let one = sent_after (slave_before k (at_arrival sent s) ds) d in
    let rest = is_sent k h sent ss (datagrams_passed sent s ds) f e (passed_at k sent s ds d is) at in
    record { command = rest.command ∙ one.command; index = rest.index ∙ one.index; ado = rest.ado ∙ one.ado }

-- the working counter
counts_after : (s : Slave) (d : DatagramValue) → (datagram_after s d).wkc ≡ raised_by (gain (doing s d)) d.wkc
unfolding datagram_after
counts_after s d = refl

raised_twice : (a b n : ℕ) → raised_by b (raised_by a n) ≡ raised_by (a + b) n
raised_twice a b n = omega arith

raised_fits : (a n : ℕ) → raised_by a n < 2 ^ 16
raised_fits a n = omega arith

raised_none : (n : ℕ) → n < 2 ^ 16 → n ≡ raised_by 0 n
raised_none n fits = omega (arith, fits)

pub counts : (k h sent : ℕ) (ss : List Slave) (ds : List DatagramValue) (d e : DatagramValue) → slice_get ds k ≡ Some d → slice_get (datagrams_behind h sent ss ds) k ≡ Some e → d.wkc < 2 ^ 16
    → e.wkc ≡ raised_by (gains k h sent ss ds) d.wkc
unfolding datagrams_behind gains
counts k zero sent ss ds d e is at fits = ap (λ x. x.wkc) (sym (same_datagram (slice_get ds k) d e is at)) ∙ raised_none d.wkc fits
counts k (suc h) sent [] ds d e is at fits = ap (λ x. x.wkc) (sym (same_datagram (slice_get ds k) d e is at)) ∙ raised_none d.wkc fits
counts k (suc h) sent (s ∷ ss) ds d e is at fits =
    let v = slave_before k (at_arrival sent s) ds in
    let f = datagram_after v d in
    let one : f.wkc ≡ raised_by (gain (doing_in k (at_arrival sent s) ds)) d.wkc =
    counts_after v d ∙ ap (λ x. raised_by (gain x) d.wkc) (sym (does_at k (at_arrival sent s) ds d is)) in
    counts k h sent ss (datagrams_passed sent s ds) f e (passed_at k sent s ds d is) at (rw one (raised_fits (gain (doing_in k (at_arrival sent s) ds)) d.wkc))
    ∙ ap (raised_by (gains k h sent ss (datagrams_passed sent s ds))) one
    ∙ raised_twice (gain (doing_in k (at_arrival sent s) ds)) (gains k h sent ss (datagrams_passed sent s ds)) d.wkc

-- the ADP
adp_raised : (s : Slave) (d : DatagramValue) → raises_adp d.head.command ≡ true → (datagram_after s d).head.adp ≡ raised_by 1 d.head.adp
unfolding datagram_after
adp_raised s d c = rw c refl

adp_kept : (s : Slave) (d : DatagramValue) → raises_adp d.head.command ≡ false → (datagram_after s d).head.adp ≡ d.head.adp
unfolding datagram_after
adp_kept s d c = rw c refl

pub address_raised : (k h sent : ℕ) (ss : List Slave) (ds : List DatagramValue) (d e : DatagramValue) → slice_get ds k ≡ Some d → slice_get (datagrams_behind h sent ss ds) k ≡ Some e → h ≤ length ss
    → d.head.adp < 2 ^ 16 → raises_adp d.head.command ≡ true → e.head.adp ≡ raised_by h d.head.adp
unfolding datagrams_behind
address_raised k zero sent ss ds d e is at room fits c = ap (λ x. x.head.adp) (sym (same_datagram (slice_get ds k) d e is at)) ∙ raised_none d.head.adp fits
address_raised k (suc h) sent [] ds d e is at room fits c = absurd (omega (arith, room))
address_raised k (suc h) sent (s ∷ ss) ds d e is at room fits c =
    let v = slave_before k (at_arrival sent s) ds in
    let one = adp_raised v d c in
    address_raised k h sent ss (datagrams_passed sent s ds) (datagram_after v d) e (passed_at k sent s ds d is) at (omega (arith, room)) (rw one (raised_fits 1 d.head.adp))
    (ap raises_adp (sent_after v d).command ∙ c)
    ∙ ap (raised_by h) one ∙ raised_twice 1 h d.head.adp ∙ (let z : 1 + h ≡ suc h = omega arith in ap (λ x. raised_by x d.head.adp) z)

pub address_kept : (k h sent : ℕ) (ss : List Slave) (ds : List DatagramValue) (d e : DatagramValue) → slice_get ds k ≡ Some d → slice_get (datagrams_behind h sent ss ds) k ≡ Some e
    → raises_adp d.head.command ≡ false → e.head.adp ≡ d.head.adp
unfolding datagrams_behind
address_kept k zero sent ss ds d e is at c = ap (λ x. x.head.adp) (sym (same_datagram (slice_get ds k) d e is at))
address_kept k (suc h) sent [] ds d e is at c = ap (λ x. x.head.adp) (sym (same_datagram (slice_get ds k) d e is at))
address_kept k (suc h) sent (s ∷ ss) ds d e is at c =
    let v = slave_before k (at_arrival sent s) ds in
    address_kept k h sent ss (datagrams_passed sent s ds) (datagram_after v d) e (passed_at k sent s ds d is) at (ap raises_adp (sent_after v d).command ∙ c) ∙ adp_kept v d c

-- where no slave reads, the data stay
pub data_kept : (k j h sent : ℕ) (ss : List Slave) (ds : List DatagramValue) (d e : DatagramValue) → j ≤ h → slice_get (datagrams_behind j sent ss ds) k ≡ Some d → slice_get (datagrams_behind h sent ss ds) k ≡ Some e
    → AreDoing (λ x. reads x ≡ false) k j h sent ss ds → e.payload ≡ d.payload
unfolding datagrams_behind
data_kept k zero zero sent ss ds d e le is at none = ap (λ x. x.payload) (sym (same_datagram (slice_get ds k) d e is at))
data_kept k (suc j) zero sent ss ds d e le is at none = absurd (omega (arith, le))
data_kept k zero (suc h) sent [] ds d e le is at none = ap (λ x. x.payload) (sym (same_datagram (slice_get ds k) d e is at))
data_kept k (suc j) (suc h) sent [] ds d e le is at none = ap (λ x. x.payload) (sym (same_datagram (slice_get ds k) d e is at))
data_kept k zero (suc h) sent (s ∷ ss) ds d e le is at none =
    let v = slave_before k (at_arrival sent s) ds in
    let quiet : reads (doing v d) ≡ false = ap reads (sym (does_at k (at_arrival sent s) ds d is)) ∙ none 0 s (omega arith) (omega arith) refl in
    data_kept k 0 h sent ss (datagrams_passed sent s ds) (datagram_after v d) e (omega arith) (passed_at k sent s ds d is) at
    (λ i u from to there. none (suc i) u (omega arith) (omega (arith, to)) there)
    ∙ kept_unread v d quiet
data_kept k (suc j) (suc h) sent (s ∷ ss) ds d e le is at none =
    data_kept k j h sent ss (datagrams_passed sent s ds) d e (omega (arith, le)) is at
    (λ i u from to there. none (suc i) u (omega (arith, from)) (omega (arith, to)) there)

-- where only one slave does anything
none_gain : (k h sent : ℕ) (ss : List Slave) (ds : List DatagramValue) → ((i : ℕ) (s : Slave) → i < h → slice_get ss i ≡ Some s → doing_in k (at_arrival sent s) (datagrams_behind i sent ss ds) ≡ Passes)
    → gains k h sent ss ds ≡ 0
unfolding gains datagrams_behind
none_gain k zero sent ss ds none = refl
none_gain k (suc h) sent [] ds none = refl
none_gain k (suc h) sent (s ∷ ss) ds none =
    ap₂ (λ a b. a + b) (ap gain (none 0 s (omega arith) refl)) (none_gain k h sent ss (datagrams_passed sent s ds) (λ i u to there. none (suc i) u (omega (arith, to)) there))

nothing_more : (n : ℕ) → 0 + n ≡ n
nothing_more n = omega arith

pub one_gains : (k h sent q : ℕ) (ss : List Slave) (ds : List DatagramValue) (s : Slave) → q < h → slice_get ss q ≡ Some s
    → ((i : ℕ) (v : Slave) → i < h → slice_get ss i ≡ Some v → i ≢ q → doing_in k (at_arrival sent v) (datagrams_behind i sent ss ds) ≡ Passes)
    → gains k h sent ss ds ≡ gain (doing_in k (at_arrival sent s) (datagrams_behind q sent ss ds))
unfolding gains datagrams_behind
one_gains k zero sent q ss ds s low is others = absurd (omega arith)
one_gains k (suc h) sent q [] ds s low is others = absurd (let z = is in cc)
one_gains k (suc h) sent zero (v ∷ ss) ds s low is others =
    let same : v ≡ s = (let z = is in cc) in
    let rest = none_gain k h sent ss (datagrams_passed sent v ds) (λ i u to there. others (suc i) u (omega (arith, to)) there (λ e. absurd (omega (arith, e)))) in
    rw (rest, same) (omega arith)
one_gains k (suc h) sent (suc q) (v ∷ ss) ds s low is others =
    let first = ap gain (others 0 v (omega arith) refl (λ e. absurd (omega (arith, e)))) in
    let rest = one_gains k h sent q ss (datagrams_passed sent v ds) s (omega (arith, low)) is
    (λ i u to there far. others (suc i) u (omega (arith, to)) there (λ z. far (omega (arith, z)))) in
    ap₂ (λ a b. a + b) first rest ∙ nothing_more (gain (doing_in k (at_arrival sent s) (datagrams_behind q sent ss (datagrams_passed sent v ds))))

-- where what each gains is told of it alone
pub all_gain : (k h sent : ℕ) (g : Slave → ℕ) (ss : List Slave) (ds : List DatagramValue)
    → ((i : ℕ) (s : Slave) → i < h → slice_get ss i ≡ Some s → gain (doing_in k (at_arrival sent s) (datagrams_behind i sent ss ds)) ≡ g s)
    → gains k h sent ss ds ≡ sum_by g (take h ss)
unfolding gains datagrams_behind
all_gain k zero sent g ss ds each = refl
all_gain k (suc h) sent g [] ds each = refl
all_gain k (suc h) sent g (s ∷ ss) ds each =
    ap₂ (λ a b. a + b) (each 0 s (omega arith) refl) (all_gain k h sent g ss (datagrams_passed sent s ds) (λ i u to there. each (suc i) u (omega (arith, to)) there))
    ∙ sym (sum_by-cons g s (take h ss))

-- what commands by station address ask
pub other_station : (s : Slave) (d : DatagramValue) → (d.head.command ≡ Fprd) ⊎ (d.head.command ≡ Fpwr) → (d.head.adp == station s.registers) ≡ false → doing s d ≡ Passes
unfolding doing doing_by
other_station s d c other = by (is_refused_by s d) refl
  where
    by : (b : Bool) → is_refused_by s d ≡ b → doing s d ≡ Passes
    by true e = rw e refl
    by false e = elim c [ inl r ↦ rw (e, r, other) refl | inr w ↦ rw (e, w, other) refl ]

pub own_read : (s : Slave) (d : DatagramValue) → d.head.command ≡ Fprd → is_refused_by s d ≡ false → (d.head.adp == station s.registers) ≡ true → doing s d ≡ Reads
unfolding doing doing_by
own_read s d c whole own = rw (whole, c, own) refl

pub own_written : (s : Slave) (d : DatagramValue) → d.head.command ≡ Fpwr → is_refused_by s d ≡ false → (d.head.adp == station s.registers) ≡ true → doing s d ≡ Writes
unfolding doing doing_by
own_written s d c whole own = rw (whole, c, own) refl
