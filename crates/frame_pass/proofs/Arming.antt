-- A unit that a datagram arms.
use Rattle.std.proofs.Common.{◌≡◌, ℕ, ◌+◌, ◌≤◌, List, [], ◌∷◌, ◌++◌, Option, Some, None, Bool, true, false, ◌||◌, refl, sym, ap, subst, ◌∙◌}
use Rattle.std.specs.Prelude.{IfSome, option_map}
use Rattle.std.specs.Option.{is_some}
use Rattle.ecat_frame.specs.FrameGrammar.{DatagramValue}
use Rattle.sync_units.specs.SyncRule.{Armed}
use Rattle.sync_units.specs.KeptEdges.{Kept, empty_list}
use Rattle.osc_clock.specs.Ticks.{Oscillator}
use Rattle.esc_regs.specs.declared.answers.Written.{Written}
use Rattle.esc_regs.specs.RegisterWrite.{written, told}
use Rattle.frame_pass.specs.SlaveState.{Timing, Measuring, Slave, FixedPart, fixed_part, width}
use Rattle.frame_pass.specs.Advancing.{measuring_at}
use Rattle.frame_pass.specs.WriteEffects.{latched, compared, reset_by, activated, wrote, arms}
use Rattle.frame_pass.specs.DatagramTable.{writes}
use Rattle.frame_pass.specs.DatagramAtSlave.{doing, slave_after}
use Rattle.frame_pass.specs.FramePass.{slave_behind, slave_passed, are_latching, at_arrival}
use Rattle.frame_pass.specs.UnitHistory.{is_activating, are_activating, HasRun}
use Rattle.frame_pass.proofs.AtPositions.{not_latching}
use Rattle.frame_pass.proofs.Fixed.{fixed_passed}
use Rattle.frame_pass.proofs.Sizes.{HasSize}
use Rattle.frame_pass.specs.Arming.{armed_from, Activates}
use Rattle.frame_pass.proofs.Effects.{size_advanced}
use Rattle.frame_pass.proofs.Latching.{Stands, stands_behind}
use Rattle.frame_pass.proofs.Ports.{passed_behind, there}
use Rattle.frame_pass.proofs.Drifting.{timing_advanced}

-- a measuring slave with this unit and these edges
pub record HasUnit (u : Option Armed) (l : Kept) (m : Timing) : Type 0 where
  pub unit : m.unit ≡ u
  pub edges : m.edges ≡ l

unit_latched : (u : Option Armed) (l : Kept) (b : Bool) (m : Measuring) → HasUnit u l m.timing → HasUnit u l (latched b m).timing
unfolding latched
unit_latched u l true m h = record { unit = h.unit; edges = h.edges }
unit_latched u l false m h = h

unit_compared : (u : Option Armed) (l : Kept) (o : Option ℕ) (m : Measuring) → HasUnit u l m.timing → HasUnit u l (compared o m).timing
unfolding compared
unit_compared u l None m h = h
unit_compared u l (Some y) m h = record { unit = h.unit; edges = h.edges }

unit_reset : (u : Option Armed) (l : Kept) (o : Option ℕ) (m : Measuring) → HasUnit u l m.timing → HasUnit u l (reset_by o m).timing
unfolding reset_by
unit_reset u l None m h = h
unit_reset u l (Some y) m h = record { unit = h.unit; edges = h.edges }

unit_before : (u : Option Armed) (l : Kept) (tells : Written) (m : Measuring) → HasUnit u l m.timing → HasUnit u l (reset_by tells.rate (compared tells.received (latched tells.latched m))).timing
unit_before u l tells m h = unit_reset u l tells.rate _ (unit_compared u l tells.received _ (unit_latched u l tells.latched m h))

-- an activation leaves the registers
same_activated : (o : Option ℕ) (m : Measuring) → (activated o m).registers ≡ m.registers
unfolding activated
same_activated None m = refl
same_activated (Some byte) m = by (arms byte m.registers) refl
  where
    by : (b : Bool) → arms byte m.registers ≡ b → (activated (Some byte) m).registers ≡ m.registers
    by true e = rw e refl
    by false e = rw e refl

arms_activated : (byte : ℕ) (m : Measuring) (l : Kept) → arms byte m.registers ≡ true → m.timing.edges ≡ l
    → HasUnit (Some (armed_from byte (activated (Some byte) m).registers)) (empty_list l.keep) (activated (Some byte) m).timing
unfolding activated
arms_activated byte m l e f = rw e (record { unit = refl; edges = ap (λ x. empty_list x.keep) f })

disarms_activated : (byte : ℕ) (m : Measuring) (l : Kept) → arms byte m.registers ≡ false → m.timing.edges ≡ l → HasUnit None l (activated (Some byte) m).timing
unfolding activated
disarms_activated byte m l e f = rw e (record { unit = refl; edges = f })

-- what a slave has of it
abbrev pub Has : Option Armed → Kept → Slave → Type 0
Has u l s = IfSome s.timing (HasUnit u l)

armed_wrote : (byte addr : ℕ) (bytes : List ℕ) (s : Slave) (m : Timing) → s.timing ≡ Some m → (told s.registers.kind addr bytes).activation ≡ Some byte
    → arms byte (wrote addr bytes s).registers ≡ true → Has (Some (armed_from byte (wrote addr bytes s).registers)) (empty_list m.edges.keep) (wrote addr bytes s)
unfolding wrote
armed_wrote byte addr bytes s m is act on =
    let tells = told s.registers.kind addr bytes in
    let n : Measuring = record { registers = written s.registers addr bytes; timing = m } in
    let q = reset_by tells.rate (compared tells.received (latched tells.latched n)) in
    let k = unit_before m.unit m.edges tells n (record { unit = refl; edges = refl }) in
    let on' : arms byte (activated tells.activation q).registers ≡ true = (rw is at on) in
    let on'' : arms byte q.registers ≡ true = ap (arms byte) (sym (same_activated tells.activation q)) ∙ on' in
    rw (is, act) (arms_activated byte q m.edges on'' k.edges)

disarmed_wrote : (byte addr : ℕ) (bytes : List ℕ) (s : Slave) (m : Timing) → s.timing ≡ Some m → (told s.registers.kind addr bytes).activation ≡ Some byte
    → arms byte (wrote addr bytes s).registers ≡ false → Has None m.edges (wrote addr bytes s)
unfolding wrote
disarmed_wrote byte addr bytes s m is act on =
    let tells = told s.registers.kind addr bytes in
    let n : Measuring = record { registers = written s.registers addr bytes; timing = m } in
    let q = reset_by tells.rate (compared tells.received (latched tells.latched n)) in
    let k = unit_before m.unit m.edges tells n (record { unit = refl; edges = refl }) in
    let on' : arms byte (activated tells.activation q).registers ≡ false = (rw is at on) in
    let on'' : arms byte q.registers ≡ false = ap (arms byte) (sym (same_activated tells.activation q)) ∙ on' in
    rw (is, act) (disarms_activated byte q m.edges on'' k.edges)

pub armed_after : (byte : ℕ) (s : Slave) (m : Timing) (d : DatagramValue) → s.timing ≡ Some m → Activates byte s d → arms byte (slave_after s d).registers ≡ true
    → Has (Some (armed_from byte (slave_after s d).registers)) (empty_list m.edges.keep) (slave_after s d)
unfolding slave_after
armed_after byte s m d is act on =
    let w = act.writes in
    rw w (armed_wrote byte d.head.ado d.payload s m is act.brings (rw w at on))

pub disarmed_after : (byte : ℕ) (s : Slave) (m : Timing) (d : DatagramValue) → s.timing ≡ Some m → Activates byte s d → arms byte (slave_after s d).registers ≡ false
    → Has None m.edges (slave_after s d)
unfolding slave_after
disarmed_after byte s m d is act on =
    let w = act.writes in
    rw w (disarmed_wrote byte d.head.ado d.payload s m is act.brings (rw w at on))

-- a datagram that does not activate leaves the unit
none_told : (o : Option ℕ) → is_some o ≡ false → o ≡ None
none_told None e = refl
none_told (Some n) e = absurd (let z = e in cc)

kept_activated : (u : Option Armed) (l : Kept) (o : Option ℕ) (m : Measuring) → o ≡ None → HasUnit u l m.timing → HasUnit u l (activated o m).timing
unfolding activated
kept_activated u l None m e h = h
kept_activated u l (Some byte) m e h = absurd (let z = e in cc)

kept_wrote : (u : Option Armed) (l : Kept) (addr : ℕ) (bytes : List ℕ) (s : Slave) (o : Option Timing) → s.timing ≡ o → (told s.registers.kind addr bytes).activation ≡ None → Has u l s → Has u l (wrote addr bytes s)
unfolding wrote
kept_wrote u l addr bytes s None is act h = rw is tt
kept_wrote u l addr bytes s (Some m) is act h =
    let tells = told s.registers.kind addr bytes in
    let n : Measuring = record { registers = written s.registers addr bytes; timing = m } in
    let now : HasUnit u l m = (rw is at h) in
    rw is (kept_activated u l tells.activation _ act (unit_before u l tells n now))

kept_after : (u : Option Armed) (l : Kept) (s : Slave) (d : DatagramValue) → is_activating s d ≡ false → Has u l s → Has u l (slave_after s d)
unfolding is_activating slave_after
kept_after u l s d quiet h = by (writes (doing s d)) refl
  where
    by : (b : Bool) → writes (doing s d) ≡ b → Has u l (slave_after s d)
    by true w = rw w (kept_wrote u l d.head.ado d.payload s s.timing refl (none_told _ (rw w at quiet)) h)
    by false w = rw w h

neither : (a b : Bool) → (a || b) ≡ false → (a ≡ false) × (b ≡ false)
neither false b e = (refl, e)
neither true b e = absurd (let z = e in cc)

kept_behind : (u : Option Armed) (l : Kept) (s : Slave) (ds : List DatagramValue) → are_activating s ds ≡ false → Has u l s → Has u l (slave_behind s ds)
unfolding are_activating slave_behind
kept_behind u l s [] quiet h = h
kept_behind u l s (d ∷ ds) quiet h =
    let both = neither (is_activating s d) (are_activating (slave_after s d) ds) quiet in
    kept_behind u l (slave_after s d) ds both.1 (kept_after u l s d both.0 h)

behind_in_turn : (s : Slave) (ds es : List DatagramValue) → slave_behind s (ds ++ es) ≡ slave_behind (slave_behind s ds) es
unfolding slave_behind
behind_in_turn s [] es = refl
behind_in_turn s (d ∷ ds) es = behind_in_turn (slave_after s d) ds es

behind_first : (s : Slave) (d : DatagramValue) (ds : List DatagramValue) → slave_behind s (d ∷ ds) ≡ slave_behind (slave_after s d) ds
unfolding slave_behind
behind_first s d ds = refl

same_oscillator : (p q : FixedPart) (o u : Oscillator) → p ≡ q → p.oscillator ≡ Some o → q.oscillator ≡ Some u → o ≡ u
same_oscillator p q o u e f g = let z : Some o ≡ Some u = sym f ∙ ap (λ x. x.oscillator) e ∙ g in cc

same_keep : (p q : FixedPart) (j k : ℕ) → p ≡ q → p.keep ≡ Some j → q.keep ≡ Some k → j ≡ k
same_keep p q j k e f g = let z : Some j ≡ Some k = sym f ∙ ap (λ x. x.keep) e ∙ g in cc

-- So a frame that does not latch, and activates last by such a datagram, arms the unit at its arrival.
pub armed_passed : (byte sent : ℕ) (end : Option ℕ) (s : Slave) (m : Timing) (before : List DatagramValue) (d : DatagramValue) (later : List DatagramValue) → s.timing ≡ Some m → HasSize s.registers
    → m.clock.instant ≤ sent + s.visits.arrive → are_latching (at_arrival sent s) (before ++ d ∷ later) ≡ false
    → Activates byte (slave_behind (at_arrival sent s) before) d → are_activating (slave_after (slave_behind (at_arrival sent s) before) d) later ≡ false
    → arms byte (slave_after (slave_behind (at_arrival sent s) before) d).registers ≡ true
    → HasRun (width s.registers.kind) m.clock.osc (sent + s.visits.arrive) (Some (armed_from byte (slave_after (slave_behind (at_arrival sent s) before) d).registers)) (empty_list m.edges.keep) []
    (slave_passed sent end s (before ++ d ∷ later))
armed_passed byte sent end s m before d later is size early unlatched act quiet on =
    let t = sent + s.visits.arrive in
    let a = at_arrival sent s in
    let v = slave_behind a before in
    let u = slave_behind a (before ++ d ∷ later) in
    let n = measuring_at t (record { registers = s.registers; timing = m }) in
    let arrived : Stands t n.timing.clock.reading a =
    record {
      timing = n.timing;
      is = timing_advanced t s m is;
      shows = record { size = size_advanced t s size; instant = there t (record { registers = s.registers; timing = m }) early; reading = refl };
    } in
    let k = stands_behind t n.timing.clock.reading a before arrived in
    let j = stands_behind t n.timing.clock.reading a (before ++ d ∷ later) arrived in
    let first = armed_after byte v k.timing d k.is act on in
    let last = kept_behind (Some (armed_from byte (slave_after v d).registers)) (empty_list k.timing.edges.keep) (slave_after v d) later quiet first in
    let turn : u ≡ slave_behind (slave_after v d) later = behind_in_turn a before (d ∷ later) ∙ behind_first v d later in
    let has : Has (Some (armed_from byte (slave_after v d).registers)) (empty_list k.timing.edges.keep) u = subst (λ z. Has (Some (armed_from byte (slave_after v d).registers)) (empty_list k.timing.edges.keep) z) (sym turn) last in
    let here : HasUnit (Some (armed_from byte (slave_after v d).registers)) (empty_list k.timing.edges.keep) j.timing = (rw j.is at has) in
    let fixed : (ds : List DatagramValue) → fixed_part (slave_behind a ds) ≡ fixed_part s = λ ds. ap fixed_part (sym (passed_behind sent s ds)) ∙ fixed_passed sent (Some 0) s ds in
    let keep : k.timing.edges.keep ≡ m.edges.keep =
    same_keep (fixed_part v) (fixed_part s) k.timing.edges.keep m.edges.keep (fixed before) (ap (option_map (λ x. x.edges.keep)) k.is) (ap (option_map (λ x. x.edges.keep)) is) in
    let osc : j.timing.clock.osc ≡ m.clock.osc =
    same_oscillator (fixed_part u) (fixed_part s) j.timing.clock.osc m.clock.osc (fixed (before ++ d ∷ later)) (ap (option_map (λ x. x.clock.osc)) j.is) (ap (option_map (λ x. x.clock.osc)) is) in
    let run : HasRun (width s.registers.kind) m.clock.osc t (Some (armed_from byte (slave_after v d).registers)) (empty_list m.edges.keep) [] u = rw j.is (record {
      width = ap (λ p. width p.kind) (fixed (before ++ d ∷ later));
      oscillator = osc;
      in_turn = tt;
      end = sym j.shows.instant;
      unit_is = here.unit;
      edges_are = here.edges ∙ ap empty_list keep;
    }) in
    subst (λ z. HasRun (width s.registers.kind) m.clock.osc t (Some (armed_from byte (slave_after v d).registers)) (empty_list m.edges.keep) [] z)
    (sym (not_latching sent end s (before ++ d ∷ later) unlatched)) run
