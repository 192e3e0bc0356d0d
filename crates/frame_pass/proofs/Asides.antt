-- Frames that write none of the bytes at a place.
use Rattle.std.proofs.Common.{◌≡◌, ℕ, zero, suc, ◌+◌, List, [], ◌∷◌, length, Option, Some, None, Bool, true, false, refl, sym, ap, ◌∙◌, arith, inl, inr}
use Rattle.std.specs.Prelude.{if◌then◌else◌, ◌==◌}
use Rattle.std.specs.Option.{is_some}
use Rattle.std.proofs.lemmas.Bool.Decides.{nat_tests}
use Rattle.ecat_frame.specs.FrameGrammar.{DatagramValue}
use Rattle.ecat_frame.specs.declared.command.Command.{Command}
use Rattle.ecat_frame.specs.declared.command.Command.TheVariants.{Nop, Aprd, Apwr, Aprw, Fprd, Fpwr, Fprw, Brd, Bwr, Brw, Lrd, Lwr, Lrw, Armw, Frmw}
use Rattle.esc_regs.specs.declared.clock_kind.ClockKind.{ClockKind}
use Rattle.esc_regs.specs.RegisterBytes.{AreApart}
use Rattle.esc_regs.specs.RegisterAccess.{is_refused, touches}
use Rattle.esc_regs.specs.RegisterWrite.{written, told}
use Rattle.esc_regs.proofs.Exported.{untouched}
use Rattle.frame_pass.specs.SlaveState.{Slave, holds, station}
use Rattle.frame_pass.specs.LiveRegisters.{read_of}
use Rattle.frame_pass.specs.DatagramTable.{doing_by, reads, writes, merges, raises_adp}
use Rattle.frame_pass.specs.DatagramAtSlave.{is_refused_by, doing, merged, data_with, slave_after, datagram_after, payload_after, is_latching}
use Rattle.frame_pass.specs.FramePass.{at_arrival, datagrams_after, datagrams_passed, datagrams_behind, are_latching}
use Rattle.frame_pass.specs.UnitHistory.{is_activating, are_activating}
use Rattle.frame_pass.specs.PlainRegisters.{IsPlain, AreLeft}
use Rattle.frame_pass.proofs.Plain.{plain_datagram}
use Rattle.frame_pass.proofs.Sizes.{HasSize}
use Rattle.frame_pass.specs.Counters.{slave_before}
use Rattle.frame_pass.specs.Aside.{never_writes, IsAside, AreAside, HaveSize}
use Rattle.frame_pass.proofs.Counting.{other_station}
use Rattle.frame_pass.proofs.DataRead.{size_read}
use Rattle.frame_pass.proofs.Drifting.{not_covered, kept_unread}
use Rattle.frame_pass.proofs.Effects.{size_advanced}
use Rattle.frame_pass.proofs.Latching.{size_after}

-- commands by which no slave writes
never : (c : Command) (is_zero is_own : Bool) → never_writes c ≡ true → writes (doing_by c is_zero is_own) ≡ false
unfolding never_writes doing_by
never Nop z o e = refl
never Aprd true o e = refl
never Aprd false o e = refl
never Apwr z o e = absurd (let x = e in cc)
never Aprw z o e = absurd (let x = e in cc)
never Fprd z true e = refl
never Fprd z false e = refl
never Fpwr z o e = absurd (let x = e in cc)
never Fprw z o e = absurd (let x = e in cc)
never Brd z o e = refl
never Bwr z o e = absurd (let x = e in cc)
never Brw z o e = absurd (let x = e in cc)
never Lrd z o e = refl
never Lwr z o e = refl
never Lrw z o e = refl
never Armw z o e = absurd (let x = e in cc)
never Frmw z o e = absurd (let x = e in cc)

pub idle : (s : Slave) (d : DatagramValue) → never_writes d.head.command ≡ true → writes (doing s d) ≡ false
unfolding doing
idle s d e = by (is_refused_by s d) refl
  where
    by : (b : Bool) → is_refused_by s d ≡ b → writes (doing s d) ≡ false
    by true f = rw f refl
    by false f = rw f (never d.head.command (d.head.adp == 0) (d.head.adp == station s.registers) e)

unlike : (b : Bool) → b ≡ true → b ≡ false → ⊥
unlike true e f = let z = f in cc
unlike false e f = let z = e in cc

-- what is aside is apart where it is written
pub apart_where_written : (at n own : ℕ) (s : Slave) (d : DatagramValue) → station s.registers ≡ own → IsAside at n own d → writes (doing s d) ≡ true → AreApart d.head.ado (length d.payload) at n
apart_where_written at n own s d is (inl e) w = absurd (unlike (writes (doing s d)) w (idle s d e))
apart_where_written at n own s d is (inr (inl e)) w =
    absurd (unlike (writes (doing s d)) w (ap writes (other_station s d (inr e.0) (ap (λ a. d.head.adp == a) is ∙ e.1))))
apart_where_written at n own s d is (inr (inr far)) w = far

-- the station stays
pub is_plain : IsPlain 0x0010 2
is_plain = record { ports = inr (omega arith); unit = inr (omega arith); difference = inr (omega arith); status = inr (omega arith); stamp = inr (omega arith) }

station_after : (s : Slave) (d : DatagramValue) → HasSize s.registers → (writes (doing s d) ≡ true → AreApart d.head.ado (length d.payload) 0x0010 2) → station (slave_after s d).registers ≡ station s.registers
station_after s d size far = plain_datagram 0x0010 2 s d is_plain size ∙ by (writes (doing s d)) refl
  where
    by : (b : Bool) → writes (doing s d) ≡ b → holds 2 0x0010 (if writes (doing s d) then written s.registers d.head.ado d.payload else s.registers) ≡ holds 2 0x0010 s.registers
    by true e = rw e (untouched s.registers d.head.ado d.payload 0x0010 2 size (far e))
    by false e = rw e refl

pub left_by : (at n own : ℕ) (s : Slave) (ds : List DatagramValue) → HasSize s.registers → station s.registers ≡ own → AreAside at n own ds → AreAside 0x0010 2 own ds → AreLeft at n s ds
unfolding AreLeft
left_by at n own s [] size is a b = tt
left_by at n own s (d ∷ ds) size is a b =
    let same = station_after s d size (apart_where_written 0x0010 2 own s d is b.0) in
    (apart_where_written at n own s d is a.0, left_by at n own (slave_after s d) ds (size_after s d size) (same ∙ is) a.1 b.1)

-- a slave with 4096 bytes and this station address
pub record HasStation (own : ℕ) (s : Slave) : Type 0 where
  pub size : HasSize s.registers
  pub station_is : station s.registers ≡ own

pub station_before : (k own : ℕ) (s : Slave) (ds : List DatagramValue) → HasSize s.registers → station s.registers ≡ own → AreAside 0x0010 2 own ds → HasStation own (slave_before k s ds)
unfolding slave_before
station_before zero own s ds size is a = record { size = size; station_is = is }
station_before (suc k) own s [] size is a = record { size = size; station_is = is }
station_before (suc k) own s (d ∷ ds) size is a =
    station_before k own (slave_after s d) ds (size_after s d size) (station_after s d size (apart_where_written 0x0010 2 own s d is a.0) ∙ is) a.1

-- what is aside stays so on its way
merged_length : (xs ys : List ℕ) → length (merged xs ys) ≡ length xs
unfolding merged
merged_length [] ys = refl
merged_length (x ∷ xs) [] = refl
merged_length (x ∷ xs) (y ∷ ys) = ap suc (merged_length xs ys)

merged_data : (o : Option (List ℕ)) (payload : List ℕ) → length (data_with true payload o) ≡ length payload
merged_data None payload = refl
merged_data (Some bytes) payload = merged_length payload bytes

pub same_size : (s : Slave) (d : DatagramValue) → HasSize s.registers → length (datagram_after s d).payload ≡ length d.payload
unfolding datagram_after payload_after
same_size s d size = by (reads (doing s d)) (merges d.head.command) refl refl
  where
    by : (b c : Bool) → reads (doing s d) ≡ b → merges d.head.command ≡ c → length (datagram_after s d).payload ≡ length d.payload
    by false c e f = ap length (kept_unread s d e)
    by true false e f = size_read s d size e f
    by true true e f = rw (e, f) (merged_data (read_of s d.head.ado (length d.payload)) d.payload)

same_adp : (s : Slave) (d : DatagramValue) → d.head.command ≡ Fpwr → (datagram_after s d).head.adp ≡ d.head.adp
unfolding datagram_after raises_adp
same_adp s d c = rw c refl

aside_datagram : (at n own : ℕ) (s : Slave) (d : DatagramValue) → HasSize s.registers → IsAside at n own d → IsAside at n own (datagram_after s d)
unfolding datagram_after
aside_datagram at n own s d size (inl e) = inl e
aside_datagram at n own s d size (inr (inl e)) = inr (inl (e.0, ap (λ a. a == own) (same_adp s d e.0) ∙ e.1))
aside_datagram at n own s d size (inr (inr far)) = inr (inr (ap_apart (sym (same_size s d size)) far))
  where
    ap_apart : {m k : ℕ} → m ≡ k → AreApart d.head.ado m at n → AreApart d.head.ado k at n
    ap_apart e f = rw (← e) f

aside_after : (at n own : ℕ) (s : Slave) (ds : List DatagramValue) → HasSize s.registers → AreAside at n own ds → AreAside at n own (datagrams_after s ds)
unfolding datagrams_after
aside_after at n own s [] size a = tt
aside_after at n own s (d ∷ ds) size a = (aside_datagram at n own s d size a.0, aside_after at n own (slave_after s d) ds (size_after s d size) a.1)

pub aside_behind : (at n own p sent : ℕ) (ss : List Slave) (ds : List DatagramValue) → HaveSize ss → AreAside at n own ds → AreAside at n own (datagrams_behind p sent ss ds)
unfolding datagrams_behind datagrams_passed
aside_behind at n own zero sent ss ds sizes a = a
aside_behind at n own (suc p) sent [] ds sizes a = a
aside_behind at n own (suc p) sent (s ∷ ss) ds sizes a =
    aside_behind at n own p sent ss (datagrams_after (at_arrival sent s) ds) sizes.1 (aside_after at n own (at_arrival sent s) ds (size_advanced (sent + s.visits.arrive) s sizes.0) a)

-- so a frame does not latch, and does not activate
untouched_ports : (addr n : ℕ) → AreApart addr n 0x0900 4 → touches 0x0900 0x0904 addr n ≡ false
untouched_ports addr n (inl h) = grind (arith, nat_tests, h)
untouched_ports addr n (inr h) = grind (arith, nat_tests, h)

not_latched : (kind : ClockKind) (addr : ℕ) (bytes : List ℕ) → AreApart addr (length bytes) 0x0900 4 → (told kind addr bytes).latched ≡ false
not_latched kind addr bytes far = by (is_refused kind addr (length bytes)) refl
  where
    by : (b : Bool) → is_refused kind addr (length bytes) ≡ b → (told kind addr bytes).latched ≡ false
    by true e = rw e refl
    by false e = rw e (untouched_ports addr (length bytes) far)

not_activated : (kind : ClockKind) (addr : ℕ) (bytes : List ℕ) → AreApart addr (length bytes) 0x0981 1 → is_some (told kind addr bytes).activation ≡ false
not_activated kind addr bytes far = by (is_refused kind addr (length bytes)) refl
  where
    by : (b : Bool) → is_refused kind addr (length bytes) ≡ b → is_some (told kind addr bytes).activation ≡ false
    by true e = rw e refl
    by false e = rw (e, not_covered 0x0981 1 addr (length bytes) (omega arith) far) refl

unlatched_by : (s : Slave) (d : DatagramValue) → (writes (doing s d) ≡ true → AreApart d.head.ado (length d.payload) 0x0900 4) → is_latching s d ≡ false
unfolding is_latching
unlatched_by s d far = by (writes (doing s d)) refl
  where
    by : (b : Bool) → writes (doing s d) ≡ b → is_latching s d ≡ false
    by true e = rw e (not_latched s.registers.kind d.head.ado d.payload (far e))
    by false e = rw e refl

inactive_by : (s : Slave) (d : DatagramValue) → (writes (doing s d) ≡ true → AreApart d.head.ado (length d.payload) 0x0981 1) → is_activating s d ≡ false
unfolding is_activating
inactive_by s d far = by (writes (doing s d)) refl
  where
    by : (b : Bool) → writes (doing s d) ≡ b → is_activating s d ≡ false
    by true e = rw e (not_activated s.registers.kind d.head.ado d.payload (far e))
    by false e = rw e refl

pub never_latching : (s : Slave) (ds : List DatagramValue) → AreLeft 0x0900 4 s ds → are_latching s ds ≡ false
unfolding AreLeft are_latching
never_latching s [] far = refl
never_latching s (d ∷ ds) far = rw (unlatched_by s d far.0) (never_latching (slave_after s d) ds far.1)

pub never_activating : (s : Slave) (ds : List DatagramValue) → AreLeft 0x0981 1 s ds → are_activating s ds ≡ false
unfolding AreLeft are_activating
never_activating s [] far = refl
never_activating s (d ∷ ds) far = rw (inactive_by s d far.0) (never_activating (slave_after s d) ds far.1)
