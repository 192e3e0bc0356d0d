-- What comes back of Identify.
use Rattle.std.proofs.Common.{◌≡◌, ℕ, zero, suc, ◌+◌, ◌<◌, ◌≤◌, Bool, true, false, List, [], ◌∷◌, length, Some, refl, sym, ap, ap₂, ◌∙◌, arith, inl, inr}
use Rattle.std.specs.Prelude.{slice_get, slice_index_or, not, if◌then◌else◌}
use Rattle.byteorder.specs.Endian.{little_number}
use Rattle.ecat_frame.specs.FrameGrammar.{DatagramValue, FrameValue}
use Rattle.ecat_frame.specs.declared.command.Command.TheVariants.{Nop, Fprd}
use Rattle.esc_regs.specs.RegisterAccess.{is_refused}
use Rattle.esc_regs.specs.RegisterBytes.{number_at}
use Rattle.esc_regs.specs.RegisterTable.{features}
use Rattle.esc_regs.specs.declared.clock_kind.ClockKind.{ClockKind}
use Rattle.esc_regs.specs.declared.clock_kind.ClockKind.TheVariants as kind
use Rattle.frame_pass.specs.SlaveState.{Slave, holds}
use Rattle.frame_pass.specs.FramePass.{datagrams_behind}
use Rattle.esc_regs.specs.Kinds.{has_clock}
use Rattle.frame_pass.specs.Aside.{never_writes}
use Rattle.frame_pass.specs.Stations.{slave_found}
use Rattle.frame_pass.proofs.Exported.{found}
use Rattle.master_script.specs.Frames.{asks, blank, station, identify_datagrams}
use Rattle.master_script.specs.Slaves.{SlaveWords}
use Rattle.master_script.specs.Steps.{expected_fourth, identified, datagram_at}
use Rattle.honest_slaves.specs.Standing.{own_address, Stands}
use Rattle.honest_slaves.specs.Mindful.{AreMindful}
use Rattle.honest_slaves.specs.Addressed.{ByStation}
use Rattle.honest_slaves.proofs.Frames.{Had, had_before, found_named}
use Rattle.honest_slaves.proofs.Answering.{naming_counts, read_there, refused_there}
use Rattle.honest_slaves.specs.Told.{word_of, AreInOrder, counts_of}
use Rattle.honest_slaves.proofs.ByKind.{IsFor, all, features_for_all, status_for_all, time_for_clocks}
use Rattle.honest_slaves.proofs.Mindful.{naming, names}
use Rattle.honest_slaves.proofs.Replies.{come_back, the_number}

-- the reads behind the first datagram
abbrev pub reads_of : ℕ → List DatagramValue
reads_of p = asks 1 Fprd (station p) 0x0008 (blank 2) ∷ asks 2 Fprd (station p) 0x0110 (blank 2) ∷ asks 3 Fprd (station p) 0x0910 (blank 4) ∷ []

mindful : (p : ℕ) → p < 256 → AreMindful 0 (naming p ∷ reads_of p)
unfolding never_writes
mindful p few = (inr (inr (p, names p few)), (inl refl, (inl refl, (inl refl, tt))))

-- a datagram by its index
index_at : (ds : List DatagramValue) (k : ℕ) (d e : DatagramValue) → slice_get ds k ≡ Some e → slice_index_or ds k d ≡ e
index_at [] k d e is = absurd (let z = is in cc)
index_at (x ∷ ds) zero d e is = let z = is in cc
index_at (x ∷ ds) (suc k) d e is = index_at ds k d e is

-- datagram k of a frame
datagram_is : (f : FrameValue) (ds : List DatagramValue) (k : ℕ) (e : DatagramValue) → f.datagrams ≡ ds → slice_get ds k ≡ Some e → datagram_at f k ≡ e
datagram_is f ds k e are is = ap (λ es. slice_index_or es k (asks 0 Nop 0 0 [])) are ∙ index_at ds k (asks 0 Nop 0 0 []) e is

word_path : (a b c x y z : ℕ) → a ≡ x → b ≡ y → c ≡ z → ◌≡◌ {A = SlaveWords} (record { features = a; status = b; fourth = c }) (record { features = x; status = y; fourth = z })
word_path a b c x y z p q r = cc

fourth_of : (k : ClockKind) (status : ℕ) → expected_fourth (word_of k status) ≡ (if has_clock k then 1 else 0)
fourth_of kind.None status = refl
fourth_of kind.R32 status = refl
fourth_of kind.C32 status = refl
fourth_of kind.C64 status = refl

first_number : (bytes : List ℕ) → little_number 2 bytes ≡ number_at 2 0 bytes
unfolding number_at
first_number bytes = refl

-- slaves of which those before position p are named
module _ (kinds : ℕ → ClockKind) (statuses : ℕ → ℕ) (n p sent : ℕ) (ss : List Slave) (are : AreInOrder kinds statuses n p ss) (low : p < n) where
  few : p < 256
  few = let most = are.few in omega (arith, low, most)

  there : Had (slice_get ss p)
  there = had_before ss p (let many = are.many in omega (arith, low, many))

  by_name : (j : ℕ) (d : DatagramValue) → slice_get (naming p ∷ reads_of p) (suc j) ≡ Some d → d.head.adp ≡ own_address p → d.wkc ≡ 0
      → ByStation kinds statuses p (suc j) p sent ss (naming p ∷ reads_of p) d there.slave
  by_name j d is adp fresh =
      let many = are.many in
      let most = are.few in
      record {
        few = omega (arith, many, most);
        standing = are.standing;
        mindful = mindful p few;
        there = there.is;
        found = found_named kinds statuses p j p sent ss (naming p) (reads_of p) there.slave (omega (arith, many, most)) are.standing (mindful p few) (names p few) there.is;
        is = is;
        adp = adp;
        counter = fresh;
      }

  -- what a read of two bytes brings that no kind refuses
  reads_two : (j addr : ℕ) (d e : DatagramValue) → slice_get (naming p ∷ reads_of p) (suc j) ≡ Some d → d.head.adp ≡ own_address p → d.wkc ≡ 0 → d.head.command ≡ Fprd → d.head.ado ≡ addr
      → length d.payload ≡ 2 → IsFor all addr 2 → addr + 2 ≤ 0x0900 → slice_get (datagrams_behind (length ss) sent ss (naming p ∷ reads_of p)) (suc j) ≡ Some e
      → (e.wkc ≡ 1) × (little_number 2 e.payload ≡ holds 2 addr (slave_found (suc j) p sent ss (naming p ∷ reads_of p) there.slave).registers)
  reads_two j addr d e is adp fresh c ado long for below at =
      let r = read_there kinds statuses p (suc j) p sent ss (naming p ∷ reads_of p) d e there.slave (by_name j d is adp fresh) c
      (ap₂ (λ a k. is_refused (kinds p) a k) ado long ∙ for (kinds p)) at in (
        r.0,
        first_number e.payload ∙ r.1.numbers 0 2 (omega (arith, long)) (inr (omega (arith, ado, below))) (inr (omega (arith, ado, below)))
            ∙ ap (λ a. holds 2 a (slave_found (suc j) p sent ss (naming p ∷ reads_of p) there.slave).registers) (let z : d.head.ado + 0 ≡ addr = omega (arith, ado) in z),
      )

  found_at : (j : ℕ) → Stands (kinds p) (statuses p) true p (slave_found (suc j) p sent ss (naming p ∷ reads_of p) there.slave)
  found_at j =
      let many = are.many in
      let most = are.few in
      found_named kinds statuses p j p sent ss (naming p) (reads_of p) there.slave (omega (arith, many, most)) are.standing (mindful p few) (names p few) there.is

  features_read : (e : DatagramValue) → slice_get (datagrams_behind (length ss) sent ss (naming p ∷ reads_of p)) 1 ≡ Some e → (e.wkc ≡ 1) × (little_number 2 e.payload ≡ features (kinds p))
  features_read e at =
      let r = reads_two 0 0x0008 _ e refl refl refl refl refl refl features_for_all (omega arith) at in
      (r.0, r.1 ∙ (found_at 0).slave.features_are)

  status_read : (e : DatagramValue) → slice_get (datagrams_behind (length ss) sent ss (naming p ∷ reads_of p)) 2 ≡ Some e → (e.wkc ≡ 1) × (little_number 2 e.payload ≡ statuses p)
  status_read e at =
      let r = reads_two 1 0x0110 _ e refl refl refl refl refl refl status_for_all (omega arith) at in
      (r.0, r.1 ∙ (found_at 1).slave.status_is)

  time_read : (e : DatagramValue) → slice_get (datagrams_behind (length ss) sent ss (naming p ∷ reads_of p)) 3 ≡ Some e → e.wkc ≡ (if has_clock (kinds p) then 1 else 0)
  time_read e at = by (has_clock (kinds p)) refl
    where
      b : ByStation kinds statuses p 3 p sent ss (naming p ∷ reads_of p) (asks 3 Fprd (station p) 0x0910 (blank 4)) there.slave
      b = by_name 2 _ refl refl refl

      by : (c : Bool) → has_clock (kinds p) ≡ c → e.wkc ≡ (if has_clock (kinds p) then 1 else 0)
      by true h = rw h ((read_there kinds statuses p 3 p sent ss (naming p ∷ reads_of p) _ e there.slave b refl (time_for_clocks (kinds p) ∙ ap not h) at).0)
      by false h = rw h (refused_there kinds statuses p 3 p sent ss (naming p ∷ reads_of p) _ e there.slave b (inl refl) (time_for_clocks (kinds p) ∙ ap not h) at)

  first_counts : (e : DatagramValue) → slice_get (datagrams_behind (length ss) sent ss (naming p ∷ reads_of p)) 0 ≡ Some e → e.wkc ≡ 1
  first_counts e at =
      let many = are.many in
      let most = are.few in
      naming_counts p sent ss (naming p) (reads_of p) there.slave e (omega (arith, many, most)) there.is (names p few) refl at

  -- what the reply tells of the slave
  pub identify_tells : (f : FrameValue) → f.datagrams ≡ datagrams_behind (length ss) sent ss (identify_datagrams p) → identified f ≡ word_of (kinds p) (statuses p)
  identify_tells f is =
      let e1 = found 1 (length ss) sent ss (naming p ∷ reads_of p) _ refl in
      let e2 = found 2 (length ss) sent ss (naming p ∷ reads_of p) _ refl in
      let e3 = found 3 (length ss) sent ss (naming p ∷ reads_of p) _ refl in
      word_path _ _ _ _ _ _
      (ap (λ (d : DatagramValue). little_number 2 d.payload) (datagram_is f (datagrams_behind (length ss) sent ss (naming p ∷ reads_of p)) 1 e1.datagram is e1.is) ∙ (features_read e1.datagram e1.is).1)
      (ap (λ (d : DatagramValue). little_number 2 d.payload) (datagram_is f (datagrams_behind (length ss) sent ss (naming p ∷ reads_of p)) 2 e2.datagram is e2.is) ∙ (status_read e2.datagram e2.is).1)
      (ap (λ (d : DatagramValue). d.wkc) (datagram_is f (datagrams_behind (length ss) sent ss (naming p ∷ reads_of p)) 3 e3.datagram is e3.is) ∙ time_read e3.datagram e3.is)

  -- and its counters are the expected ones
  pub identify_counts : (f : FrameValue) → f.datagrams ≡ datagrams_behind (length ss) sent ss (identify_datagrams p)
      → counts_of (datagrams_behind (length ss) sent ss (identify_datagrams p)) ≡ 1 ∷ 1 ∷ 1 ∷ expected_fourth (identified f) ∷ []
  identify_counts f is = come_back sent ss (identify_datagrams p) (1 ∷ 1 ∷ 1 ∷ expected_fourth (identified f) ∷ []) refl each
    where
      fourth : expected_fourth (identified f) ≡ (if has_clock (kinds p) then 1 else 0)
      fourth = ap expected_fourth (identify_tells f is) ∙ fourth_of (kinds p) (statuses p)

      each : (k x : ℕ) (e : DatagramValue) → slice_get (1 ∷ 1 ∷ 1 ∷ expected_fourth (identified f) ∷ []) k ≡ Some x → slice_get (datagrams_behind (length ss) sent ss (identify_datagrams p)) k ≡ Some e → e.wkc ≡ x
      each zero x e here at = the_number 1 x e.wkc (first_counts e at) here
      each (suc zero) x e here at = the_number 1 x e.wkc (features_read e at).0 here
      each (suc (suc zero)) x e here at = the_number 1 x e.wkc (status_read e at).0 here
      each (suc (suc (suc zero))) x e here at = the_number (expected_fourth (identified f)) x e.wkc (time_read e at ∙ sym fourth) here
      each (suc (suc (suc (suc k)))) x e here at = absurd (let z = here in cc)
