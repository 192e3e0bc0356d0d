-- What a slave makes of a datagram, by what is asked and whether the access is refused.
use Rattle.std.proofs.Common.{◌≡◌, ◌↔◌, ℕ, List, [], length, Bool, true, false, Some, None, Option, ◌||◌, refl, sym, ap, ◌∙◌}
use Rattle.std.specs.Prelude.{slice_get, if◌then◌else◌}
use Rattle.ecat_frame.specs.FrameGrammar.{DatagramValue, FrameValue}
use Rattle.ecat_frame.specs.Changed.{changed}
use Rattle.wire_sim.specs.Seen.{replied}
use Rattle.ecat_frame.proofs.Exported.{changed_agree, changed_twice}
use Rattle.esc_regs.specs.declared.answers.Access.{Access}
use Rattle.esc_regs.specs.declared.answers.Access.TheVariants as access
use Rattle.esc_regs.specs.RegisterAccess.{is_refused}
use Rattle.esc_regs.specs.RegisterWrite.{told, refusal}
use Rattle.frame_pass.specs.SlaveState.{Timing, Measuring, Slave, with_measuring, on_measuring_of}
use Rattle.frame_pass.specs.LiveRegisters.{read_of}
use Rattle.frame_pass.specs.WriteEffects.{wrote, affected, activated, reset_by, compared, latched}
use Rattle.frame_pass.specs.DatagramTable.{Doing, Passes, Reads, Writes, ReadsWrites, reads, writes, gain, merges, raised_by}
use Rattle.frame_pass.specs.DatagramAtSlave.{is_refused_by, asked, doing, merged, payload_after, adp_after, datagram_after, slave_after, is_latching}

doing_is : (s : Slave) (d : DatagramValue) (b : Bool) → is_refused_by s d ≡ b → doing s d ≡ (if b then Passes else asked s d)
unfolding doing
doing_is s d b e = rw e refl

-- a refused access is passed on, another is what is asked
pub doing_refused : (s : Slave) (d : DatagramValue) → is_refused_by s d ≡ true → doing s d ≡ Passes
doing_refused s d e = doing_is s d true e

pub doing_taken : (s : Slave) (d : DatagramValue) (request : Doing) → request ≡ asked s d → is_refused_by s d ≡ false → doing s d ≡ request
doing_taken s d request is e = doing_is s d false e ∙ sym is

either : (s : Slave) (d : DatagramValue) (b : Bool) (request : Doing) (f : Doing → Bool) → is_refused_by s d ≡ b → f Passes ≡ false → request ≡ asked s d
    → f request ≡ false → f (doing s d) ≡ false
either s d true request f e none is off = rw (doing_refused s d e) none
either s d false request f e none is off = rw (doing_taken s d request is e) off

-- what is not asked is not done
pub no_reads : (s : Slave) (d : DatagramValue) (request : Doing) → request ≡ asked s d → reads request ≡ false → reads (doing s d) ≡ false
no_reads s d request is never = either s d (is_refused_by s d) request reads refl refl is never

pub no_writes : (s : Slave) (d : DatagramValue) (request : Doing) → request ≡ asked s d → writes request ≡ false → writes (doing s d) ≡ false
no_writes s d request is never = either s d (is_refused_by s d) request writes refl refl is never

-- the data, where nothing is read
pub payload_stays : (s : Slave) (d : DatagramValue) (does : Doing) → reads does ≡ false → payload_after does s d ≡ d.payload
unfolding payload_after
payload_stays s d does never = rw never refl

-- and where bytes are read
pub payload_read : (s : Slave) (d : DatagramValue) (does : Doing) (bytes : List ℕ) → reads does ≡ true → read_of s d.head.ado (length d.payload) ≡ Some bytes
    → payload_after does s d ≡ (if merges d.head.command then merged d.payload bytes else bytes)
unfolding payload_after
payload_read s d does bytes sure is = rw (sure, is) refl

-- the slave, where nothing is written, and where something is
pub slave_stays : (s : Slave) (d : DatagramValue) → writes (doing s d) ≡ false → slave_after s d ≡ s
unfolding slave_after
slave_stays s d never = rw never refl

pub slave_writes : (s : Slave) (d : DatagramValue) → writes (doing s d) ≡ true → slave_after s d ≡ wrote d.head.ado d.payload s
unfolding slave_after
slave_writes s d sure = rw sure refl

pub latches_not : (s : Slave) (d : DatagramValue) → writes (doing s d) ≡ false → is_latching s d ≡ false
unfolding is_latching
latches_not s d never = rw never refl

pub latches_told : (s : Slave) (d : DatagramValue) → writes (doing s d) ≡ true → is_latching s d ≡ (told s.registers.kind d.head.ado d.payload).latched
unfolding is_latching
latches_told s d sure = rw sure refl

-- a write is refused where the access is
access_of : (s : Slave) (d : DatagramValue) (b : Bool) → is_refused_by s d ≡ b
    → (told s.registers.kind d.head.ado d.payload).access ≡ (if b then access.Refused else access.Done)
access_of s d true e = rw e refl
access_of s d false e = rw e refl

refused_if : (s : Slave) (d : DatagramValue) (b : Bool) → is_refused_by s d ≡ b → (told s.registers.kind d.head.ado d.payload).access ≡ access.Refused → b ≡ true
refused_if s d true e h = refl
refused_if s d false e h = absurd (let g = access_of s d false e in cc)

taken_if : (s : Slave) (d : DatagramValue) (b : Bool) → is_refused_by s d ≡ b → (told s.registers.kind d.head.ado d.payload).access ≡ access.Done → b ≡ false
taken_if s d true e h = absurd (let g = access_of s d true e in cc)
taken_if s d false e h = refl

pub write_refused : (s : Slave) (d : DatagramValue) → (told s.registers.kind d.head.ado d.payload).access ≡ access.Refused → is_refused_by s d ≡ true
write_refused s d h = refused_if s d (is_refused_by s d) refl h

pub write_taken : (s : Slave) (d : DatagramValue) → (told s.registers.kind d.head.ado d.payload).access ≡ access.Done → is_refused_by s d ≡ false
write_taken s d h = taken_if s d (is_refused_by s d) refl h

-- so is a read
pub read_refused : (s : Slave) (d : DatagramValue) (n : ℕ) (a : Access) → n ≡ length d.payload → (a ≡ access.Refused ↔ (is_refused s.registers.kind d.head.ado n ≡ true))
    → a ≡ access.Refused → is_refused_by s d ≡ true
read_refused s d n a size iff h = ap (is_refused s.registers.kind d.head.ado) (sym size) ∙ iff.0 h

false_unless : (b : Bool) → (b ≡ true → ⊥) → b ≡ false
false_unless true h = absurd (h refl)
false_unless false h = refl

pub read_taken : (s : Slave) (d : DatagramValue) (n : ℕ) (a : Access) → n ≡ length d.payload → (a ≡ access.Refused ↔ (is_refused s.registers.kind d.head.ado n ≡ true))
    → a ≡ access.Done → is_refused_by s d ≡ false
read_taken s d n a size iff h =
    false_unless (is_refused_by s d) (λ e. let r : a ≡ access.Refused = iff.1 (ap (is_refused s.registers.kind d.head.ado) size ∙ e) in cc)

-- the data where bytes are read, and merged where the command merges
pub payload_merged : (s : Slave) (d : DatagramValue) (request : Doing) (n : ℕ) (merging : Bool) (bytes room : List ℕ) → n ≡ length d.payload → request ≡ asked s d
    → is_refused_by s d ≡ false → reads request ≡ true → read_of s d.head.ado n ≡ Some bytes → merging ≡ merges d.head.command
    → room ≡ (if merging then merged d.payload bytes else bytes) → room ≡ payload_after (doing s d) s d
payload_merged s d request n merging bytes room size asks e r is m h =
    let same = doing_taken s d request asks e in
    let reading : reads (doing s d) ≡ true = ap reads same ∙ r in
    let found : read_of s d.head.ado (length d.payload) ≡ Some bytes = ap (read_of s d.head.ado) (sym size) ∙ is in
    h ∙ ap (λ b. if b then merged d.payload bytes else bytes) m ∙ sym (payload_read s d (doing s d) bytes reading found)

-- a refused write leaves the slave
nothing : (m : Measuring) → affected refusal m ≡ m
unfolding activated reset_by compared latched
nothing m = refl

same_timing : (s : Slave) (timing : Option Timing) → s.timing ≡ timing → record s { timing = timing } ≡ s
same_timing s timing is = rw (← is) refl

left : (s : Slave) (timing : Option Timing) → s.timing ≡ timing → on_measuring_of (affected refusal) s timing ≡ s
left s None is = refl
left s (Some t) is =
    ap (with_measuring s) (nothing (record { registers = s.registers; timing = t })) ∙ same_timing s (Some t) is

pub refused_write : (s : Slave) (addr : ℕ) (bytes : List ℕ) → is_refused s.registers.kind addr (length bytes) ≡ true → wrote addr bytes s ≡ s
unfolding wrote
refused_write s addr bytes e = rw e (left s s.timing refl)

parts : (s : Slave) (d : DatagramValue) (read : Bool) (adp wkc : ℕ) (payload : List ℕ) → read ≡ reads (doing s d) → adp ≡ adp_after d
    → (read ≡ true → payload ≡ payload_after (doing s d) s d) → wkc ≡ raised_by (gain (doing s d)) d.wkc → replied read adp payload wkc d ≡ datagram_after s d
unfolding datagram_after
parts s d true adp wkc payload r a p c = rw (a, p refl, c) refl
parts s d false adp wkc payload r a p c = let stays = payload_stays s d (doing s d) (sym r) in rw (a, c, stays) refl

-- the datagram behind the slave, by its parts
pub answered_is : (s : Slave) (d : DatagramValue) (k : ℕ) (f : FrameValue) (request does : Doing) (read write : Bool) (adp wkc : ℕ) (payload : List ℕ)
    → slice_get f.datagrams k ≡ Some d → request ≡ asked s d → read ≡ reads (doing s d) → write ≡ writes (doing s d)
    → does ≡ (if read || write then request else Passes) → adp ≡ adp_after d → (read ≡ true → payload ≡ payload_after (doing s d) s d)
    → wkc ≡ raised_by (gain does) d.wkc → changed k (replied read adp payload wkc) f ≡ changed k (datagram_after s) f
answered_is s d k f request does read write adp wkc payload is asks r w does_is a p c =
    let same : does ≡ doing s d = does_is ∙ what_is_done s d (is_refused_by s d) request read write refl asks r w in
    changed_agree k (replied read adp payload wkc) (datagram_after s) f d is (parts s d read adp wkc payload r a p (c ∙ ap (λ x. raised_by (gain x) d.wkc) same))
  where
    pass_on : (read write : Bool) (request : Doing) → read ≡ false → write ≡ false → (if read || write then request else Passes) ≡ Passes
    pass_on read write request r w = rw (r, w) refl

    does_it : (does : Doing) (read write : Bool) → read ≡ reads does → write ≡ writes does → (if read || write then does else Passes) ≡ does
    does_it Passes read write r w = rw (r, w) refl
    does_it Reads read write r w = rw r refl
    does_it Writes read write r w = rw (r, w) refl
    does_it ReadsWrites read write r w = rw r refl

    what_is_done : (s : Slave) (d : DatagramValue) (b : Bool) (request : Doing) (read write : Bool) → is_refused_by s d ≡ b → request ≡ asked s d
        → read ≡ reads (doing s d) → write ≡ writes (doing s d) → (if read || write then request else Passes) ≡ doing s d
    what_is_done s d true request read write e asks r w =
        let same = doing_refused s d e in
        pass_on read write request (r ∙ ap reads same) (w ∙ ap writes same) ∙ sym same
    what_is_done s d false request read write e asks r w =
        let same = doing_taken s d request asks e in
        does_it request read write (r ∙ ap reads same) (w ∙ ap writes same) ∙ sym same

-- the same where nothing is read: ADP and counter are written one after the other
pub left_is : (s : Slave) (d : DatagramValue) (k : ℕ) (f f₁ f₂ : FrameValue) (request does : Doing) (write : Bool) (adp wkc : ℕ) → slice_get f.datagrams k ≡ Some d
    → request ≡ asked s d → reads request ≡ false → write ≡ writes (doing s d) → does ≡ (if write then request else Passes) → adp ≡ adp_after d
    → wkc ≡ raised_by (gain does) d.wkc → f₁ ≡ changed k (λ e. record e { head = record e.head { adp = adp } }) f
    → f₂ ≡ changed k (λ e. record e { wkc = wkc }) f₁ → f₂ ≡ changed k (datagram_after s) f
left_is s d k f f₁ f₂ request does write adp wkc is asks never w does_is a c first second =
    changed_twice k (λ e. record e { head = record e.head { adp = adp } }) (λ e. record e { wkc = wkc }) (replied false adp [] wkc) f f₁ f₂ d is first second refl
    ∙ answered_is s d k f request does false write adp wkc [] is asks (sym (no_reads s d request asks never)) w does_is a nothing c
  where
    nothing : false ≡ true → [] ≡ payload_after (doing s d) s d
    nothing h = absurd cc
