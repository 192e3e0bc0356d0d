-- What frames leave of slaves by position.
use Rattle.std.proofs.Common.{◌≡◌, ℕ, zero, suc, ◌+◌, ◌<◌, ◌≤◌, List, [], ◌∷◌, length, Option, Some, None, Bool, true, nat_lt, refl, sym, ap, subst, ◌∙◌, arith, inl, inr}
use Rattle.std.specs.Prelude.{slice_get, IfSome}
use Rattle.std.specs.List.{AllByRecursion}
use Rattle.std.proofs.lemmas.Bool.{cases_lt, cases_eq}
use Rattle.std.proofs.lemmas.List.{length-map}
use Rattle.std.proofs.lemmas.Bool.Decides.{nat_tests}
use Rattle.ecat_frame.specs.FrameGrammar.{DatagramValue, FrameValue}
use Rattle.esc_regs.specs.declared.clock_kind.ClockKind.{ClockKind}
use Rattle.frame_pass.specs.SlaveState.{Timing, Slave, holds, station, fixed_part}
use Rattle.frame_pass.specs.Advancing.{advanced_to}
use Rattle.frame_pass.specs.DatagramAtSlave.{slave_after, datagram_after}
use Rattle.frame_pass.specs.FramePass.{slave_behind, slave_passed, datagrams_after, datagrams_passed, datagrams_behind, at_arrival, end_of}
use Rattle.frame_pass.specs.Invariants.{IsSound, IsSoundSegment}
use Rattle.frame_pass.specs.Reach.{reach_of}
use Rattle.frame_pass.specs.SegmentState.{SegmentState, segment_step, leaves_at}
use Rattle.frame_pass.proofs.Exported.{step_reached, step_stays, fixed_advanced, fixed_passed, same_step, kept_passed, plain_time, plain_passed, HasSize, keeps_sound, visited, first_is, is_plain, size_advanced}
use Rattle.frame_pass.specs.Counters.{slave_before}
use Rattle.frame_pass.specs.Drift.{first_behind}
use Rattle.frame_pass.specs.Stations.{slave_found}
use Rattle.honest_slaves.specs.Standing.{IsSlave, HasAddress, Stands, AreStanding}
use Rattle.honest_slaves.specs.Mindful.{Names, AreMindful}
use Rattle.honest_slaves.proofs.Parts.{slave_stays, features_plain, status_plain}
use Rattle.honest_slaves.proofs.Addresses.{stands_after, mindful_after, named_here, names_next}

-- a slave as two slaves show it alike
record AreAlike (s t : Slave) : Type 0 where
  size : HasSize t.registers
  kind_is : t.registers.kind ≡ s.registers.kind
  features_are : holds 2 0x0008 t.registers ≡ holds 2 0x0008 s.registers
  status_is : holds 2 0x0110 t.registers ≡ holds 2 0x0110 s.registers
  station_is : station t.registers ≡ station s.registers

alike_stands : (kind : ClockKind) (status : ℕ) (named : Bool) (q : ℕ) (s t : Slave) → AreAlike s t → Stands kind status named q s → Stands kind status named q t
alike_stands kind status named q s t a h = record {
  slave = record { size = a.size; kind_is = a.kind_is ∙ h.slave.kind_is; features_are = a.features_are ∙ h.slave.features_are; status_is = a.status_is ∙ h.slave.status_is };
  address = subst (HasAddress named q) (sym a.station_is) h.address;
}

-- time leaves all of it
time_alike : (t : ℕ) (s : Slave) → HasSize s.registers → AreAlike s (advanced_to t s)
time_alike t s size = record {
  size = size_advanced t s size;
  kind_is = ap (λ p. p.kind) (fixed_advanced t s);
  features_are = plain_time 0x0008 2 t s features_plain size;
  status_is = plain_time 0x0110 2 t s status_plain size;
  station_is = plain_time 0x0010 2 t s is_plain size;
}

pub stands_at : (kind : ClockKind) (status : ℕ) (named : Bool) (q t : ℕ) (s : Slave) → Stands kind status named q s → Stands kind status named q (advanced_to t s)
stands_at kind status named q t s h = alike_stands kind status named q s (advanced_to t s) (time_alike t s h.slave.size) h

-- behind some datagrams of a frame, and behind all
pub stands_before : (kind : ClockKind) (status : ℕ) (named : Bool) (k q : ℕ) (s : Slave) (ds : List DatagramValue) → q < 256 → AreMindful q ds → Stands kind status named q s
    → Stands kind status named q (slave_before k s ds)
unfolding slave_before
stands_before kind status named zero q s ds low m h = h
stands_before kind status named (suc k) q s [] low m h = h
stands_before kind status named (suc k) q s (d ∷ ds) low m h =
    stands_before kind status named k q (slave_after s d) ds low m.1 (stands_after kind status named q s d low m.0 h)

pub stands_behind : (kind : ClockKind) (status : ℕ) (named : Bool) (q : ℕ) (s : Slave) (ds : List DatagramValue) → q < 256 → AreMindful q ds → Stands kind status named q s
    → Stands kind status named q (slave_behind s ds)
unfolding slave_behind
stands_behind kind status named q s [] low m h = h
stands_behind kind status named q s (d ∷ ds) low m h = stands_behind kind status named q (slave_after s d) ds low m.1 (stands_after kind status named q s d low m.0 h)

-- a frame stays mindful on its way
mindful_slave : (q : ℕ) (s : Slave) (ds : List DatagramValue) → (kind : ClockKind) (status : ℕ) → IsSlave kind status s → AreMindful q ds → AreMindful (suc q) (datagrams_after s ds)
unfolding datagrams_after
mindful_slave q s [] kind status h m = tt
mindful_slave q s (d ∷ ds) kind status h m =
    (mindful_after q s d h.size m.0, mindful_slave q (slave_after s d) ds kind status (slave_stays kind status s d h) m.1)

place_more : (q h : ℕ) → suc q + h ≡ q + suc h
place_more q h = omega arith

-- slaves of these kinds and statuses, the first at this position
abbrev pub AreSlaves : (ℕ → ClockKind) → (ℕ → ℕ) → ℕ → List Slave → Type 0
AreSlaves kinds statuses q ss = (i : ℕ) (s : Slave) → slice_get ss i ≡ Some s → IsSlave (kinds (q + i)) (statuses (q + i)) s

mindful_from : (kinds : ℕ → ClockKind) (statuses : ℕ → ℕ) (h q sent : ℕ) (ss : List Slave) (ds : List DatagramValue) → AreSlaves kinds statuses q ss → AreMindful q ds → h ≤ length ss
    → AreMindful (q + h) (datagrams_behind h sent ss ds)
unfolding datagrams_behind datagrams_passed
mindful_from kinds statuses zero q sent ss ds a m room = subst (λ k. AreMindful k ds) (let e : q ≡ q + 0 = omega arith in e) m
mindful_from kinds statuses (suc h) q sent [] ds a m room = absurd (omega (arith, room))
mindful_from kinds statuses (suc h) q sent (s ∷ ss) ds a m room =
    let here = a 0 s refl in
    let at = time_alike (sent + s.visits.arrive) s here.size in
    let there : IsSlave (kinds (q + 0)) (statuses (q + 0)) (at_arrival sent s) =
    record { size = at.size; kind_is = at.kind_is ∙ here.kind_is; features_are = at.features_are ∙ here.features_are; status_is = at.status_is ∙ here.status_is } in
    subst (λ k. AreMindful k (datagrams_behind h sent ss (datagrams_after (at_arrival sent s) ds))) (place_more q h)
    (mindful_from kinds statuses h (suc q) sent ss (datagrams_after (at_arrival sent s) ds)
    (λ i v is. subst (λ k. IsSlave (kinds k) (statuses k) v) (sym (place_more q i)) (a (suc i) v is))
    (mindful_slave q (at_arrival sent s) ds (kinds (q + 0)) (statuses (q + 0)) there m) (omega (arith, room)))

pub mindful_at : (kinds : ℕ → ClockKind) (statuses : ℕ → ℕ) (named h sent : ℕ) (ss : List Slave) (ds : List DatagramValue) → AreStanding kinds statuses named ss → AreMindful 0 ds → h ≤ length ss
    → AreMindful h (datagrams_behind h sent ss ds)
mindful_at kinds statuses named h sent ss ds a m room =
    subst (λ k. AreMindful k (datagrams_behind h sent ss ds)) (let e : 0 + h ≡ h = omega arith in e)
    (mindful_from kinds statuses h 0 sent ss ds (λ i s is. subst (λ k. IsSlave (kinds k) (statuses k) s) (let e : i ≡ 0 + i = omega arith in e) (a i s is).slave) m room)

-- the slave at a position as a datagram of a frame finds it
pub found_standing : (kinds : ℕ → ClockKind) (statuses : ℕ → ℕ) (named k q sent : ℕ) (ss : List Slave) (ds : List DatagramValue) (s : Slave) → length ss ≤ 256 → AreStanding kinds statuses named ss → AreMindful 0 ds
    → q < length ss → slice_get ss q ≡ Some s → Stands (kinds q) (statuses q) (nat_lt q named) q (slave_found k q sent ss ds s)
found_standing kinds statuses named k q sent ss ds s few a m low is =
    stands_before (kinds q) (statuses q) (nat_lt q named) k q (at_arrival sent s) (datagrams_behind q sent ss ds) (omega (arith, few, low))
    (mindful_at kinds statuses named q sent ss ds a m (omega (arith, low)))
    (stands_at (kinds q) (statuses q) (nat_lt q named) q (sent + s.visits.arrive) s (a q s is))

-- ports that latch leave what a slave is
passed_alike : (sent trip limit : ℕ) (end : Option ℕ) (s : Slave) (ds : List DatagramValue) → sent + trip ≤ limit → IsSound trip limit s → HasSize (slave_behind (at_arrival sent s) ds).registers
    → (slave_behind (at_arrival sent s) ds).registers.kind ≡ s.registers.kind → AreAlike (slave_behind (at_arrival sent s) ds) (slave_passed sent end s ds)
passed_alike sent trip limit end s ds low sound size kind = record {
  size = (kept_passed (λ t. t ≤ limit) (IsSound trip limit) (keeps_sound trip limit) sent end (visited sent trip limit low) s ds sound).size;
  kind_is = ap (λ p. p.kind) (fixed_passed sent end s ds) ∙ sym kind;
  features_are = plain_passed 0x0008 2 sent trip limit end s ds features_plain low sound;
  status_is = plain_passed 0x0110 2 sent trip limit end s ds status_plain low sound;
  station_is = plain_passed 0x0010 2 sent trip limit end s ds is_plain low sound;
}

stands_out : (kind : ClockKind) (status : ℕ) (named : Bool) (q sent trip limit : ℕ) (end : Option ℕ) (s : Slave) (ds : List DatagramValue) → sent + trip ≤ limit → IsSound trip limit s
    → IsSlave kind status s → Stands kind status named q (slave_behind (at_arrival sent s) ds) → Stands kind status named q (slave_passed sent end s ds)
stands_out kind status named q sent trip limit end s ds room sound h there =
    alike_stands kind status named q (slave_behind (at_arrival sent s) ds) (slave_passed sent end s ds)
    (passed_alike sent trip limit end s ds room sound there.slave.size (there.slave.kind_is ∙ sym h.kind_is)) there

stands_passed : (kind : ClockKind) (status : ℕ) (named : Bool) (q sent trip limit : ℕ) (end : Option ℕ) (s : Slave) (ds : List DatagramValue) → q < 256 → sent + trip ≤ limit → IsSound trip limit s
    → AreMindful q ds → Stands kind status named q s → Stands kind status named q (slave_passed sent end s ds)
stands_passed kind status named q sent trip limit end s ds low room sound m h =
    stands_out kind status named q sent trip limit end s ds room sound h.slave
    (stands_behind kind status named q (at_arrival sent s) ds low m (stands_at kind status named q (sent + s.visits.arrive) s h))

-- a sound slave is sound by a later time
sound_later : (trip free limit : ℕ) (s : Slave) → free ≤ limit → IsSound trip free s → IsSound trip limit s
sound_later trip free limit s le h = record { size = h.size; time = later s.timing h.time; visits = h.visits }
  where
    later : (o : Option Timing) → IfSome o (λ m. m.clock.instant ≤ free) → IfSome o (λ m. m.clock.instant ≤ limit)
    later None t = tt
    later (Some m) t = omega (arith, t, le)

sound_of : (trip free : ℕ) (ss : List Slave) (q : ℕ) (s : Slave) → AllByRecursion (IsSound trip free) ss → slice_get ss q ≡ Some s → IsSound trip free s
sound_of trip free [] q s a is = absurd (let z = is in cc)
sound_of trip free (v ∷ ss) zero s a is = let same : v ≡ s = (let z = is in cc) in subst (IsSound trip free) same a.0
sound_of trip free (v ∷ ss) (suc q) s a is = sound_of trip free ss q s a.1 is

-- it is one by the time that a frame is back
leaves_late : (s : SegmentState) (wait : ℕ) → s.free ≤ leaves_at s wait
leaves_late s wait = omega arith

sound_at : (s : SegmentState) (wait q : ℕ) (v : Slave) → IsSoundSegment s → slice_get s.slaves q ≡ Some v → IsSound s.round_trip (leaves_at s wait + s.round_trip) v
sound_at s wait q v sound is =
    sound_later s.round_trip s.free (leaves_at s wait + s.round_trip) v (let late = leaves_late s wait in omega (arith, late)) (sound_of s.round_trip s.free s.slaves q v sound is)

some_same : {X : Type 0} {x y : X} → Some x ≡ Some y → x ≡ y
some_same e = cc

-- the slave at a position behind a frame that reaches it, and where it does not
step_at : (kinds : ℕ → ClockKind) (statuses : ℕ → ℕ) (named : ℕ) (s : SegmentState) (wait : ℕ) (f : FrameValue) (q : ℕ) (v w : Slave) → s.sent < 1000000 → IsSoundSegment s → length s.slaves ≤ 256
    → AreMindful 0 f.datagrams → AreStanding kinds statuses named s.slaves → q < length s.slaves → slice_get s.slaves q ≡ Some v → slice_get (segment_step s wait f).0.slaves q ≡ Some w
    → Stands (kinds q) (statuses q) (nat_lt q named) q w
step_at kinds statuses named s wait f q v w early sound few m a low is after =
    let at = leaves_at s wait in
    elim (cases_lt q (reach_of s f)) [
      | inl reached ↦
          subst (Stands (kinds q) (statuses q) (nat_lt q named) q) (some_same (sym (step_reached s wait f q v early reached is) ∙ after))
          (stands_passed (kinds q) (statuses q) (nat_lt q named) q at s.round_trip (at + s.round_trip) (end_of (reach_of s f) s.slaves) v (datagrams_behind q at s.slaves f.datagrams)
          (omega (arith, low, few)) (omega arith) (sound_at s wait q v sound is) (mindful_at kinds statuses named q at s.slaves f.datagrams a m (omega (arith, low))) (a q v is))
      | inr beyond ↦ subst (Stands (kinds q) (statuses q) (nat_lt q named) q) (some_same (sym is ∙ sym (step_stays s wait f q early beyond) ∙ after)) (a q v is)
    ]

-- there is a slave at each position that there was one at
pub record Had (o : Option Slave) : Type 0 where
  pub slave : Slave
  pub is : o ≡ Some slave

pub had_before : (ss : List Slave) (q : ℕ) → q < length ss → Had (slice_get ss q)
had_before [] q low = absurd (omega arith)
had_before (s ∷ ss) zero low = record { slave = s; is = refl }
had_before (s ∷ ss) (suc q) low = had_before ss q (omega (arith, low))

pub low_where : (ss : List Slave) (q : ℕ) (s : Slave) → slice_get ss q ≡ Some s → q < length ss
low_where [] q s is = absurd (let z = is in cc)
low_where (v ∷ ss) zero s is = omega arith
low_where (v ∷ ss) (suc q) s is = let low = low_where ss q s is in omega (arith, low)

pub same_many : (s : SegmentState) (wait : ℕ) (f : FrameValue) → length (segment_step s wait f).0.slaves ≡ length s.slaves
same_many s wait f =
    sym (length-map (segment_step s wait f).0.slaves fixed_part) ∙ ap length (same_step s wait f).slaves ∙ length-map s.slaves fixed_part

-- a mindful frame leaves the slaves standing
pub step_standing : (kinds : ℕ → ClockKind) (statuses : ℕ → ℕ) (named : ℕ) (s : SegmentState) (wait : ℕ) (f : FrameValue) → s.sent < 1000000 → IsSoundSegment s → length s.slaves ≤ 256
    → AreMindful 0 f.datagrams → AreStanding kinds statuses named s.slaves → AreStanding kinds statuses named (segment_step s wait f).0.slaves
step_standing kinds statuses named s wait f early sound few m a q w after =
    let many = same_many s wait f in
    let within = low_where (segment_step s wait f).0.slaves q w after in
    let low : q < length s.slaves = omega (arith, many, within) in
    let v = had_before s.slaves q low in
    step_at kinds statuses named s wait f q v.slave w early sound few m a low v.is after

-- the frame that gives the slave at position p its station address
names_first : (p h q sent : ℕ) (ss : List Slave) (d : DatagramValue) → Names p q d → h ≤ length ss → Names p (q + h) (first_behind h sent ss d)
unfolding first_behind
names_first p zero q sent ss d n room = subst (λ k. Names p k d) (let e : q ≡ q + 0 = omega arith in e) n
names_first p (suc h) q sent [] d n room = absurd (omega (arith, room))
names_first p (suc h) q sent (s ∷ ss) d n room =
    subst (λ k. Names p k (first_behind h sent ss (datagram_after (at_arrival sent s) d))) (place_more q h)
    (names_first p h (suc q) sent ss (datagram_after (at_arrival sent s) d) (names_next p q (at_arrival sent s) d n) (omega (arith, room)))

named_by : (kind : ClockKind) (status : ℕ) (named : Bool) (p : ℕ) (s : Slave) (d : DatagramValue) → Names p p d → Stands kind status named p s → Stands kind status true p (slave_after s d)
named_by kind status named p s d n h = record { slave = slave_stays kind status s d h.slave; address = named_here p s d h.slave.size n }

-- behind such a first datagram the slave has its address, for the others of the frame and behind them
named_before : (kind : ClockKind) (status : ℕ) (named : Bool) (k p : ℕ) (s : Slave) (ds : List DatagramValue) (d : DatagramValue) → p < 256 → AreMindful p ds → slice_get ds 0 ≡ Some d → Names p p d
    → Stands kind status named p s → Stands kind status true p (slave_before (suc k) s ds)
unfolding slave_before
named_before kind status named k p s [] d low m is n h = absurd (let z = is in cc)
named_before kind status named k p s (e ∷ ds) d low m is n h =
    stands_before kind status true k p (slave_after s e) ds low m.1 (named_by kind status named p s e (subst (Names p p) (some_same (sym is)) n) h)

named_behind : (kind : ClockKind) (status : ℕ) (named : Bool) (p : ℕ) (s : Slave) (ds : List DatagramValue) (d : DatagramValue) → p < 256 → AreMindful p ds → slice_get ds 0 ≡ Some d → Names p p d
    → Stands kind status named p s → Stands kind status true p (slave_behind s ds)
unfolding slave_behind
named_behind kind status named p s [] d low m is n h = absurd (let z = is in cc)
named_behind kind status named p s (e ∷ ds) d low m is n h =
    stands_behind kind status true p (slave_after s e) ds low m.1 (named_by kind status named p s e (subst (Names p p) (some_same (sym is)) n) h)

pub names_on : (p q sent : ℕ) (ss : List Slave) (d : DatagramValue) → Names p 0 d → q ≤ length ss → Names p q (first_behind q sent ss d)
names_on p q sent ss d n room = subst (λ k. Names p k (first_behind q sent ss d)) (let e : 0 + q ≡ q = omega arith in e) (names_first p q 0 sent ss d n room)

-- the slave at position p as a later datagram of the frame that names it finds it
pub found_named : (kinds : ℕ → ClockKind) (statuses : ℕ → ℕ) (named k p sent : ℕ) (ss : List Slave) (d : DatagramValue) (ds : List DatagramValue) (s : Slave) → length ss ≤ 256
    → AreStanding kinds statuses named ss → AreMindful 0 (d ∷ ds) → Names p 0 d → slice_get ss p ≡ Some s → Stands (kinds p) (statuses p) true p (slave_found (suc k) p sent ss (d ∷ ds) s)
found_named kinds statuses named k p sent ss d ds s few a m n is =
    let low = low_where ss p s is in
    named_before (kinds p) (statuses p) (nat_lt p named) k p (at_arrival sent s) (datagrams_behind p sent ss (d ∷ ds)) (first_behind p sent ss d) (omega (arith, few, low))
    (mindful_at kinds statuses named p sent ss (d ∷ ds) a m (omega (arith, low))) (first_is p sent ss d ds) (names_on p p sent ss d n (omega (arith, low)))
    (stands_at (kinds p) (statuses p) (nat_lt p named) p (sent + s.visits.arrive) s (a p s is))

-- one more is named where the frame reaches it
named_more : (kind : ClockKind) (status named q : ℕ) (s : Slave) → (q ≡ named → Stands kind status true q s) → Stands kind status (nat_lt q named) q s → Stands kind status (nat_lt q (suc named)) q s
named_more kind status named q s here before =
    elim (cases_eq q named) [
      | inl same ↦ subst (λ b. Stands kind status b q s) (let e : true ≡ nat_lt q (suc named) = grind (arith, nat_tests, same) in e) (here same)
      | inr far ↦ subst (λ b. Stands kind status b q s) (let e : nat_lt q named ≡ nat_lt q (suc named) = grind (arith, nat_tests, far) in e) before
    ]

pub step_naming : (kinds : ℕ → ClockKind) (statuses : ℕ → ℕ) (p : ℕ) (s : SegmentState) (wait : ℕ) (f : FrameValue) (d : DatagramValue) (ds : List DatagramValue) → s.sent < 1000000 → IsSoundSegment s
    → length s.slaves ≤ 256 → f.datagrams ≡ d ∷ ds → AreMindful 0 (d ∷ ds) → Names p 0 d → p < reach_of s f → AreStanding kinds statuses p s.slaves
    → AreStanding kinds statuses (suc p) (segment_step s wait f).0.slaves
step_naming kinds statuses p s wait f d ds early sound few are m n reached a q w after =
    let m' : AreMindful 0 f.datagrams = subst (AreMindful 0) (sym are) m in
    let at = leaves_at s wait in
    let many = same_many s wait f in
    let within = low_where (segment_step s wait f).0.slaves q w after in
    let low : q < length s.slaves = omega (arith, many, within) in
    let v = had_before s.slaves q low in
    named_more (kinds q) (statuses q) p q w
    (λ same. subst (λ k. Stands (kinds k) (statuses k) true k w) (sym same)
    (let here : slice_get s.slaves p ≡ Some v.slave = subst (λ k. slice_get s.slaves k ≡ Some v.slave) same v.is in
    let there : slice_get (segment_step s wait f).0.slaves p ≡ Some w = subst (λ k. slice_get (segment_step s wait f).0.slaves k ≡ Some w) same after in
    subst (Stands (kinds p) (statuses p) true p) (some_same (sym (step_reached s wait f p v.slave early reached here) ∙ there))
    (stands_out (kinds p) (statuses p) true p at s.round_trip (at + s.round_trip) (end_of (reach_of s f) s.slaves) v.slave (datagrams_behind p at s.slaves f.datagrams) (omega arith)
    (sound_at s wait p v.slave sound here) (a p v.slave here).slave
    (named_behind (kinds p) (statuses p) (nat_lt p p) p (at_arrival at v.slave) (datagrams_behind p at s.slaves f.datagrams) (first_behind p at s.slaves d) (omega (arith, low, few, same))
    (mindful_at kinds statuses p p at s.slaves f.datagrams a m' (omega (arith, low, same))) (ap (λ es. slice_get (datagrams_behind p at s.slaves es) 0) are ∙ first_is p at s.slaves d ds)
    (names_on p p at s.slaves d n (omega (arith, low, same))) (stands_at (kinds p) (statuses p) (nat_lt p p) p (at + v.slave.visits.arrive) v.slave (a p v.slave here))))))
    (step_at kinds statuses p s wait f q v.slave w early sound few m' a low v.is after)
