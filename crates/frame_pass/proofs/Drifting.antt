-- What the datagram of a drift frame does at a slave.
use Rattle.std.proofs.Common.{◌≡◌, ℕ, zero, suc, ◌+◌, ◌%◌, ◌^◌, ◌<◌, ◌≤◌, List, [], ◌∷◌, ◌++◌, length, Option, Some, None, Bool, true, false, refl, sym, ap, ap₂, ◌∙◌, arith, inl, inr}
use Rattle.std.specs.Prelude.{◌==◌, slice_get}
use Rattle.std.proofs.lemmas.Bool.Decides.{nat_tests}
use Rattle.std.proofs.lemmas.List.{append-nil}
use Rattle.ecat_frame.specs.FrameGrammar.{DatagramValue}
use Rattle.ecat_frame.specs.declared.command.Command.TheVariants.{Frmw}
use Rattle.local_clock.specs.Reading.{Happening, received}
use Rattle.esc_regs.specs.declared.answers.Access.TheVariants.{Done}
use Rattle.esc_regs.specs.declared.clock_kind.ClockKind.{ClockKind}
use Rattle.esc_regs.specs.RegisterBytes.{number_at, AreApart}
use Rattle.esc_regs.specs.RegisterAccess.{is_refused, covers}
use Rattle.esc_regs.specs.RegisterFile.{Registers}
use Rattle.esc_regs.specs.RegisterWrite.{written, told}
use Rattle.esc_regs.proofs.Exported.{untouched, written_kind}
use Rattle.frame_pass.specs.SlaveState.{Timing, Measuring, Slave, holds, station}
use Rattle.frame_pass.specs.LiveRegisters.{system_time}
use Rattle.frame_pass.specs.WriteEffects.{latched, difference}
use Rattle.frame_pass.specs.Advancing.{advanced_to, measuring_at}
use Rattle.frame_pass.specs.DatagramTable.{Passes, Reads, Writes, doing_by, writes, reads, raises_adp, merges}
use Rattle.frame_pass.specs.DatagramAtSlave.{is_refused_by, doing, slave_after, datagram_after, payload_after}
use Rattle.frame_pass.specs.FramePass.{datagrams_after, datagrams_passed, datagrams_behind, at_arrival}
use Rattle.frame_pass.specs.ClockHistory.{events_on, events_wrote, events_by, events_in, events_passed}
use Rattle.frame_pass.specs.PlainRegisters.{AreLeft}
use Rattle.frame_pass.proofs.Fixed.{fixed_advanced}
use Rattle.frame_pass.proofs.Sizes.{HasSize}
use Rattle.frame_pass.specs.Drift.{IsDrift, time_in, first_behind, Brings, IsOther, AreOthersThan}
use Rattle.frame_pass.proofs.Effects.{size_advanced, left_advanced}
use Rattle.frame_pass.proofs.Ports.{there}
use Rattle.frame_pass.proofs.DataRead.{size_read, time_read}

-- a datagram that a slave refuses changes nothing but the ADP
pub passes_refused : (s : Slave) (d : DatagramValue) → is_refused_by s d ≡ true → doing s d ≡ Passes
unfolding doing
passes_refused s d e = rw e refl

pub left_unwritten : (s : Slave) (d : DatagramValue) → writes (doing s d) ≡ false → slave_after s d ≡ s
unfolding slave_after
left_unwritten s d e = rw e refl

pub quiet_unwritten : (s : Slave) (d : DatagramValue) → writes (doing s d) ≡ false → events_by s d ≡ []
unfolding events_by
quiet_unwritten s d e = rw e refl

pub kept_unread : (s : Slave) (d : DatagramValue) → reads (doing s d) ≡ false → (datagram_after s d).payload ≡ d.payload
unfolding datagram_after payload_after
kept_unread s d e = rw e refl

-- what FRMW asks
does_own : (s : Slave) (d : DatagramValue) → d.head.command ≡ Frmw → (d.head.adp == station s.registers) ≡ true → is_refused_by s d ≡ false → doing s d ≡ Reads
unfolding doing doing_by
does_own s d c own whole = rw (whole, c, own) refl

does_other : (s : Slave) (d : DatagramValue) → d.head.command ≡ Frmw → (d.head.adp == station s.registers) ≡ false → is_refused_by s d ≡ false → doing s d ≡ Writes
unfolding doing doing_by
does_other s d c other whole = rw (whole, c, other) refl

-- what it tells a slave that does not refuse it
told_drift : (kind : ClockKind) (addr : ℕ) (bytes : List ℕ) → addr ≡ 0x0910 → length bytes ≡ 4 → is_refused kind addr (length bytes) ≡ false
    → told kind addr bytes ≡ record { access = Done; latched = false; received = Some (number_at 4 0 bytes); rate = None; activation = None }
told_drift kind addr bytes place size whole = rw whole (rw (place, size) refl)

-- registers apart from the system time keep its numbers
kept_drift : (addr : ℕ) (bytes : List ℕ) (r : Registers) (at n : ℕ) → addr ≡ 0x0910 → length bytes ≡ 4 → HasSize r → 0x0914 ≤ at → holds n at (written r addr bytes) ≡ holds n at r
kept_drift addr bytes r at n place four size far = untouched r addr bytes at n size (inl (omega (arith, place, four, far)))

same_time : (r q : Registers) (m : Timing) → q.kind ≡ r.kind → holds 8 0x0920 q ≡ holds 8 0x0920 r → holds 4 0x0928 q ≡ holds 4 0x0928 r
    → system_time (record { registers = q; timing = m }) ≡ system_time (record { registers = r; timing = m })
unfolding system_time
same_time r q m kind o d = rw (kind, o, d) refl

pub receives : (s : Slave) (m : Timing) (d : DatagramValue) → HasSize s.registers → s.timing ≡ Some m → IsDrift d → is_refused_by s d ≡ false → (d.head.adp == station s.registers) ≡ false
    → events_by s d ≡ record { instant = m.clock.instant; event = received (difference (record { registers = s.registers; timing = m }) (time_in d)) } ∷ []
unfolding events_by events_wrote latched
receives s m d size is drift whole other =
    let q = written s.registers d.head.ado d.payload in
    let same = same_time s.registers q m (written_kind s.registers d.head.ado d.payload)
    (kept_drift d.head.ado d.payload s.registers 0x0920 8 drift.ado drift.size size (omega arith))
    (kept_drift d.head.ado d.payload s.registers 0x0928 4 drift.ado drift.size size (omega arith)) in
    rw (does_other s d drift.command other whole, is, told_drift s.registers.kind d.head.ado d.payload drift.ado drift.size whole, same) refl

pub addressed : (s : Slave) (d : DatagramValue) → IsDrift d → (d.head.adp == station s.registers) ≡ true → writes (doing s d) ≡ false
unfolding doing doing_by
addressed s d drift own = by (is_refused_by s d) refl
  where
    by : (b : Bool) → is_refused_by s d ≡ b → writes (doing s d) ≡ false
    by true e = rw e refl
    by false e = rw (e, drift.command, own) refl

pub unaddressed : (s : Slave) (d : DatagramValue) → IsDrift d → (d.head.adp == station s.registers) ≡ false → reads (doing s d) ≡ false
unfolding doing doing_by
unaddressed s d drift other = by (is_refused_by s d) refl
  where
    by : (b : Bool) → is_refused_by s d ≡ b → reads (doing s d) ≡ false
    by true e = rw e refl
    by false e = rw (e, drift.command, other) refl

pub tells : (s : Slave) (m : Timing) (d : DatagramValue) → HasSize s.registers → s.timing ≡ Some m → IsDrift d → is_refused_by s d ≡ false → (d.head.adp == station s.registers) ≡ true
    → time_in (datagram_after s d) ≡ system_time (record { registers = s.registers; timing = m }) % 2 ^ 32
unfolding merges
tells s m d size is drift whole own =
    time_read s m d size is (ap reads (does_own s d drift.command own whole)) (rw drift.command refl) drift.ado (omega (arith, drift.size))

-- a write apart from the system time and the speed brings no event
pub not_covered : (at m addr n : ℕ) → 0 < m → AreApart addr n at m → covers at m addr n ≡ false
not_covered at m addr n some (inl h) = grind (arith, nat_tests, h, some)
not_covered at m addr n some (inr h) = grind (arith, nat_tests, h, some)

quiet_wrote : (addr : ℕ) (bytes : List ℕ) (s : Slave) → AreApart addr (length bytes) 0x0910 4 → AreApart addr (length bytes) 0x0930 2 → events_wrote addr bytes s ≡ []
unfolding events_wrote
quiet_wrote addr bytes s far far' = by s.timing (is_refused s.registers.kind addr (length bytes)) refl refl
  where
    by : (o : Option Timing) (b : Bool) → s.timing ≡ o → is_refused s.registers.kind addr (length bytes) ≡ b
        → events_on (told s.registers.kind addr bytes) (written s.registers addr bytes) s.timing ≡ []
    by None b e f = rw e refl
    by (Some m) true e f = rw (e, f) refl
    by (Some m) false e f =
        rw (e, f, not_covered 0x0910 4 addr (length bytes) (omega arith) far, not_covered 0x0930 2 addr (length bytes) (omega arith) far') refl

pub quiet_datagram : (s : Slave) (d : DatagramValue) → (writes (doing s d) ≡ true → AreApart d.head.ado (length d.payload) 0x0910 4)
    → (writes (doing s d) ≡ true → AreApart d.head.ado (length d.payload) 0x0930 2) → events_by s d ≡ []
unfolding events_by
quiet_datagram s d far far' = by (writes (doing s d)) refl
  where
    by : (b : Bool) → writes (doing s d) ≡ b → events_by s d ≡ []
    by true e = rw e (quiet_wrote d.head.ado d.payload s (far e) (far' e))
    by false e = rw e refl

pub quiet_datagrams : (s : Slave) (ds : List DatagramValue) → AreLeft 0x0910 4 s ds → AreLeft 0x0930 2 s ds → events_in s ds ≡ []
unfolding events_in AreLeft
quiet_datagrams s [] far far' = refl
quiet_datagrams s (d ∷ ds) far far' =
    rw (quiet_datagram s d far.0 far'.0) (quiet_datagrams (slave_after s d) ds far.1 far'.1)

pub events_first : (s : Slave) (d : DatagramValue) (ds : List DatagramValue) → AreLeft 0x0910 4 (slave_after s d) ds → AreLeft 0x0930 2 (slave_after s d) ds → events_in s (d ∷ ds) ≡ events_by s d
unfolding events_in
events_first s d ds far far' = ap (λ es. events_by s d ++ es) (quiet_datagrams (slave_after s d) ds far far') ∙ append-nil (events_by s d)

-- a slave at the arrival of a frame
same_station : (t : ℕ) (s : Slave) → HasSize s.registers → station (advanced_to t s).registers ≡ station s.registers
same_station t s size = left_advanced 0x0010 2 t s (inr (omega arith)) (inr (omega arith)) size

same_kind : (t : ℕ) (s : Slave) → (advanced_to t s).registers.kind ≡ s.registers.kind
same_kind t s = ap (λ p. p.kind) (fixed_advanced t s)

pub same_refusal : (t : ℕ) (s : Slave) (d : DatagramValue) → is_refused_by (advanced_to t s) d ≡ is_refused_by s d
same_refusal t s d = ap (λ k. is_refused k d.head.ado (length d.payload)) (same_kind t s)

pub same_address : (t : ℕ) (s : Slave) (adp : ℕ) → HasSize s.registers → (adp == station (advanced_to t s).registers) ≡ (adp == station s.registers)
same_address t s adp size = ap (λ a. adp == a) (same_station t s size)

-- a measuring slave at a time
pub timing_advanced : (t : ℕ) (s : Slave) (m : Timing) → s.timing ≡ Some m → (advanced_to t s).timing ≡ Some (measuring_at t (record { registers = s.registers; timing = m })).timing
unfolding advanced_to
timing_advanced t s m e = rw e refl

pub registers_advanced : (t : ℕ) (s : Slave) (m : Timing) → s.timing ≡ Some m → (advanced_to t s).registers ≡ (measuring_at t (record { registers = s.registers; timing = m })).registers
unfolding advanced_to
registers_advanced t s m e = rw e refl

measuring_path : (r q : Registers) (m : Timing) → r ≡ q → ◌≡◌ {A = Measuring} (record { registers = r; timing = m }) (record { registers = q; timing = m })
measuring_path r q m e = rw e refl

happens : (t u x : ℕ) (m n : Measuring) → t ≡ u → m ≡ n
    → ◌≡◌ {A = List Happening} (record { instant = t; event = received (difference m x) } ∷ []) (record { instant = u; event = received (difference n x) } ∷ [])
happens t u x m n e f = rw (e, f) refl

pub frame_receives : (sent : ℕ) (s : Slave) (m : Timing) (d : DatagramValue) (ds : List DatagramValue) → HasSize s.registers → s.timing ≡ Some m → m.clock.instant ≤ sent + s.visits.arrive → IsDrift d
    → is_refused_by s d ≡ false → (d.head.adp == station s.registers) ≡ false
    → AreLeft 0x0910 4 (slave_after (at_arrival sent s) d) ds → AreLeft 0x0930 2 (slave_after (at_arrival sent s) d) ds
    → events_passed sent s (d ∷ ds)
    ≡ record { instant = sent + s.visits.arrive; event = received (difference (measuring_at (sent + s.visits.arrive) (record { registers = s.registers; timing = m })) (time_in d)) } ∷ []
frame_receives sent s m d ds size is early drift whole other far far' =
    let t = sent + s.visits.arrive in
    let a = at_arrival sent s in
    let n = measuring_at t (record { registers = s.registers; timing = m }) in
    events_first a d ds far far'
    ∙ receives a n.timing d (size_advanced t s size) (timing_advanced t s m is) drift (same_refusal t s d ∙ whole) (same_address t s d.head.adp size ∙ other)
    ∙ happens n.timing.clock.instant t (time_in d) (record { registers = a.registers; timing = n.timing }) n (there t (record { registers = s.registers; timing = m }) early)
    (measuring_path a.registers n.registers n.timing (registers_advanced t s m is))

pub frame_quiet : (sent : ℕ) (s : Slave) (ds : List DatagramValue) → AreLeft 0x0910 4 (at_arrival sent s) ds → AreLeft 0x0930 2 (at_arrival sent s) ds → events_passed sent s ds ≡ []
frame_quiet sent s ds far far' = quiet_datagrams (at_arrival sent s) ds far far'

pub frame_addressed : (sent : ℕ) (s : Slave) (d : DatagramValue) (ds : List DatagramValue) → HasSize s.registers → IsDrift d → (d.head.adp == station s.registers) ≡ true
    → AreLeft 0x0910 4 (at_arrival sent s) ds → AreLeft 0x0930 2 (at_arrival sent s) ds → events_passed sent s (d ∷ ds) ≡ []
frame_addressed sent s d ds size drift own far far' =
    let t = sent + s.visits.arrive in
    let a = at_arrival sent s in
    let idle = addressed a d drift (same_address t s d.head.adp size ∙ own) in
    let same : slave_after a d ≡ a = left_unwritten a d idle in
    events_first a d ds (rw same far) (rw same far') ∙ quiet_unwritten a d idle

-- the first datagram of a frame behind slaves
pub first_is : (h sent : ℕ) (ss : List Slave) (d : DatagramValue) (ds : List DatagramValue) → slice_get (datagrams_behind h sent ss (d ∷ ds)) 0 ≡ Some (first_behind h sent ss d)
unfolding datagrams_behind datagrams_passed datagrams_after first_behind
first_is zero sent ss d ds = refl
first_is (suc h) sent [] d ds = refl
first_is (suc h) sent (s ∷ ss) d ds = first_is h sent ss (datagram_after (at_arrival sent s) d) (datagrams_after (slave_after (at_arrival sent s) d) ds)

-- a datagram that went on as it is
pub record GoesOn (d e : DatagramValue) : Type 0 where
  pub drift : IsDrift e
  pub adp : e.head.adp ≡ d.head.adp
  pub payload : e.payload ≡ d.payload

same_adp : (s : Slave) (d : DatagramValue) → IsDrift d → (datagram_after s d).head.adp ≡ d.head.adp
unfolding datagram_after raises_adp
same_adp s d drift = rw drift.command refl

goes_on : (sent : ℕ) (s : Slave) (d : DatagramValue) → IsDrift d → IsOther d.head.adp s → GoesOn d (datagram_after (at_arrival sent s) d)
unfolding datagram_after
goes_on sent s d drift other =
    let a = at_arrival sent s in
    let kept = kept_unread a d (unaddressed a d drift (same_address (sent + s.visits.arrive) s d.head.adp other.size ∙ other.station)) in
    record {
      drift = record { command = drift.command; ado = drift.ado; size = ap length kept ∙ drift.size };
      adp = same_adp a d drift;
      payload = kept;
    }

pub behind_others : (h sent : ℕ) (ss : List Slave) (d : DatagramValue) → IsDrift d → ((i : ℕ) (s : Slave) → i < h → slice_get ss i ≡ Some s → IsOther d.head.adp s) → GoesOn d (first_behind h sent ss d)
unfolding first_behind
behind_others zero sent ss d drift others = record { drift = drift; adp = refl; payload = refl }
behind_others (suc h) sent [] d drift others = record { drift = drift; adp = refl; payload = refl }
behind_others (suc h) sent (s ∷ ss) d drift others =
    let one = goes_on sent s d drift (others 0 s (omega arith) refl) in
    let rest = behind_others h sent ss (datagram_after (at_arrival sent s) d) one.drift
    (λ i v less is. rw one.adp (others (suc i) v (omega (arith, less)) is)) in
    record { drift = rest.drift; adp = rest.adp ∙ one.adp; payload = rest.payload ∙ one.payload }

told_by : (sent : ℕ) (s : Slave) (m : Timing) (d : DatagramValue) → HasSize s.registers → s.timing ≡ Some m → IsDrift d → is_refused_by s d ≡ false → (d.head.adp == station s.registers) ≡ true
    → Brings (system_time (measuring_at (sent + s.visits.arrive) (record { registers = s.registers; timing = m })) % 2 ^ 32) d (datagram_after (at_arrival sent s) d)
unfolding datagram_after merges
told_by sent s m d size is drift whole own =
    let t = sent + s.visits.arrive in
    let a = at_arrival sent s in
    let n = measuring_at t (record { registers = s.registers; timing = m }) in
    let here = size_advanced t s size in
    let whole' = same_refusal t s d ∙ whole in
    let own' = same_address t s d.head.adp size ∙ own in
    record {
      drift = record {
        command = drift.command;
        ado = drift.ado;
        size = size_read a d here (ap reads (does_own a d drift.command own' whole')) (rw drift.command refl) ∙ drift.size;
      };
      adp = same_adp a d drift;
      time = tells a n.timing d here (timing_advanced t s m is) drift whole' own'
          ∙ ap (λ v. system_time v % 2 ^ 32) (measuring_path a.registers n.registers n.timing (registers_advanced t s m is));
    }

pub carried : (h sent q : ℕ) (ss : List Slave) (d : DatagramValue) (s : Slave) (m : Timing) → q < h → slice_get ss q ≡ Some s → s.timing ≡ Some m → HasSize s.registers → IsDrift d
    → is_refused_by s d ≡ false → (d.head.adp == station s.registers) ≡ true → AreOthersThan q d.head.adp h ss
    → Brings (system_time (measuring_at (sent + s.visits.arrive) (record { registers = s.registers; timing = m })) % 2 ^ 32) d (first_behind h sent ss d)
unfolding first_behind
carried zero sent q ss d s m low is timing size drift whole own others = absurd (omega arith)
carried (suc h) sent q [] d s m low is timing size drift whole own others = absurd (let z = is in cc)
carried (suc h) sent zero (v ∷ ss) d s m low is timing size drift whole own others =
    let same : v ≡ s = (let z = is in cc) in
    let one = told_by sent s m d size timing drift whole own in
    let rest = behind_others h sent ss (datagram_after (at_arrival sent s) d) one.drift
    (λ i u less at. rw one.adp (others (suc i) u (omega (arith, less)) at (λ e. absurd (omega (arith, e))))) in
    rw same (record { drift = rest.drift; adp = rest.adp ∙ one.adp; time = ap (number_at 4 0) rest.payload ∙ one.time })
carried (suc h) sent (suc q) (v ∷ ss) d s m low is timing size drift whole own others =
    let one = goes_on sent v d drift (others 0 v (omega arith) refl (λ e. absurd (omega (arith, e)))) in
    let e = datagram_after (at_arrival sent v) d in
    let rest = carried h sent q ss e s m (omega (arith, low)) is timing size one.drift
    (ap₂ (λ a n. is_refused s.registers.kind a n) (one.drift.ado ∙ sym drift.ado) (one.drift.size ∙ sym drift.size) ∙ whole)
    (ap (λ a. a == station s.registers) one.adp ∙ own)
    (λ i u less at far. rw one.adp (others (suc i) u (omega (arith, less)) at (λ z. far (omega (arith, z))))) in
    record { drift = rest.drift; adp = rest.adp ∙ one.adp; time = rest.time }
