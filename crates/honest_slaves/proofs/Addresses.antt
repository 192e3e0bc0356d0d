-- What datagrams leave of a station address.
use Rattle.std.proofs.Common.{◌≡◌, ℕ, suc, ◌-◌, ◌^◌, ◌<◌, ◌⊎◌, [], length, Bool, true, false, refl, sym, ap, ap₂, ◌∙◌, arith, inl, inr}
use Rattle.std.specs.Prelude.{if◌then◌else◌, ◌==◌}
use Rattle.std.proofs.lemmas.Bool.{eqb-true}
use Rattle.std.proofs.lemmas.Bool.Decides.{nat_tests}
use Rattle.std.proofs.lemmas.List.{append-nil}
use Rattle.byteorder.specs.Endian.{little_bytes, little_number}
use Rattle.byteorder.specs.Numbers.{little_number-reads_back}
use Rattle.wrap_time.specs.WordLess.{word_less}
use Rattle.ecat_frame.specs.FrameGrammar.{DatagramValue}
use Rattle.ecat_frame.specs.declared.command.Command.{Command}
use Rattle.ecat_frame.specs.declared.command.Command.TheVariants.{Apwr}
use Rattle.esc_regs.specs.RegisterAccess.{is_refused}
use Rattle.esc_regs.specs.RegisterBytes.{number_at, AreApart}
use Rattle.esc_regs.specs.RegisterTable.{held}
use Rattle.esc_regs.specs.RegisterWrite.{written}
use Rattle.esc_regs.specs.declared.clock_kind.ClockKind.{ClockKind}
use Rattle.esc_regs.specs.declared.clock_kind.ClockKind.TheVariants as kind
use Rattle.esc_regs.proofs.Exported.{untouched}
use Rattle.frame_pass.specs.SlaveState.{Slave, holds, station}
use Rattle.frame_pass.specs.DatagramTable.{Passes, Writes, when, doing_by, writes, reads, raises_adp, raised_by}
use Rattle.frame_pass.specs.DatagramAtSlave.{is_refused_by, doing, slave_after, datagram_after}
use Rattle.frame_pass.proofs.Exported.{plain_datagram, HasSize, is_plain, idle, same_size, left_unwritten, kept_unread, stores_number}
use Rattle.honest_slaves.specs.Standing.{HasAddress, own_address, Stands}
use Rattle.honest_slaves.specs.Mindful.{Names, IsMindful}
use Rattle.honest_slaves.proofs.Parts.{slave_stays}

-- the address is left where the datagram writes nothing of it
left_by : (s : Slave) (d : DatagramValue) → HasSize s.registers → AreApart d.head.ado (length d.payload) 0x0010 2 → station (slave_after s d).registers ≡ station s.registers
left_by s d size far = plain_datagram 0x0010 2 s d is_plain size ∙ by (writes (doing s d)) refl
  where
    by : (b : Bool) → writes (doing s d) ≡ b → holds 2 0x0010 (if writes (doing s d) then written s.registers d.head.ado d.payload else s.registers) ≡ holds 2 0x0010 s.registers
    by true e = rw e (untouched s.registers d.head.ado d.payload 0x0010 2 size far)
    by false e = rw e refl

-- no kind refuses its station address
address_whole : (kind : ClockKind) → is_refused kind 0x0010 2 ≡ false
address_whole kind.None = refl
address_whole kind.R32 = refl
address_whole kind.C32 = refl
address_whole kind.C64 = refl

whole_address : (kind : ClockKind) → held kind 2 ≡ 2
whole_address kind.None = refl
whole_address kind.R32 = refl
whole_address kind.C32 = refl
whole_address kind.C64 = refl

-- two bytes of a number are read back
two_bytes : (x : ℕ) → x < 2 ^ 16 → number_at 2 0 (little_bytes 2 x) ≡ x
unfolding number_at
two_bytes x few = ap (λ bs. little_number 2 bs) (sym (append-nil (little_bytes 2 x))) ∙ little_number-reads_back 2 x [] few

two_long : (x : ℕ) → length (little_bytes 2 x) ≡ 2
two_long x = refl

named_size : (p q : ℕ) (d : DatagramValue) → Names p q d → length d.payload ≡ 2
named_size p q d n = ap length n.payload ∙ two_long (own_address p)

named_whole : (p q : ℕ) (s : Slave) (d : DatagramValue) → Names p q d → is_refused_by s d ≡ false
named_whole p q s d n = ap₂ (λ a k. is_refused s.registers.kind a k) n.ado (named_size p q d n) ∙ address_whole s.registers.kind

asked_by_place : (s : Slave) (d : DatagramValue) (b : Bool) → d.head.command ≡ Apwr → is_refused_by s d ≡ false → (d.head.adp == 0) ≡ b → writes (doing s d) ≡ b
unfolding doing doing_by
asked_by_place s d true c whole zero = rw (whole, c, zero) refl
asked_by_place s d false c whole zero = rw (whole, c, zero) refl

-- only the slave at that position is addressed
zero_there : (p q : ℕ) → p < 256 → q < 256 → raised_by q (word_less 16 0 p) ≡ 0 → p ≡ q
zero_there p q few low e = omega (arith, few, low, e)

here_zero : (p : ℕ) → p < 256 → raised_by p (word_less 16 0 p) ≡ 0
here_zero p few = omega (arith, few)

-- what the datagram asks: the slave at that position writes, every other passes it on
asked_place : (s : Slave) (d : DatagramValue) (b : Bool) → d.head.command ≡ Apwr → is_refused_by s d ≡ false → (d.head.adp == 0) ≡ b → doing s d ≡ when b Writes
unfolding doing doing_by
asked_place s d b c whole zero = rw (whole, c, zero) refl

not_zero : (a : ℕ) → (a ≡ 0 → ⊥) → (a == 0) ≡ false
not_zero a far = grind (arith, nat_tests, far)

pub writes_named : (p : ℕ) (s : Slave) (d : DatagramValue) → Names p p d → doing s d ≡ Writes
writes_named p s d n = asked_place s d true n.command (named_whole p p s d n) (ap (λ a. a == 0) (n.adp ∙ here_zero p n.few))

pub passes_named : (p q : ℕ) (s : Slave) (d : DatagramValue) → q < 256 → (p ≡ q → ⊥) → Names p q d → doing s d ≡ Passes
passes_named p q s d low far n =
    asked_place s d false n.command (named_whole p q s d n) (not_zero d.head.adp (λ e. far (zero_there p q n.few low (sym n.adp ∙ e))))

pub written_here : (p q : ℕ) (s : Slave) (d : DatagramValue) → HasSize s.registers → Names p q d → writes (doing s d) ≡ true → station (slave_after s d).registers ≡ own_address p
written_here p q s d size n w =
    let sized = named_size p q d n in
    let ado = n.ado in
    let kept = whole_address s.registers.kind in
    stores_number 0x0010 2 2 s d size refl (omega (arith, kept)) is_plain w (omega (arith, ado)) (omega (arith, ado, sized))
    ∙ ap₂ (λ k bs. number_at 2 (0x0010 - k) bs) ado n.payload ∙ two_bytes (own_address p) (let few = n.few in omega (arith, few))

-- the slave at that position is given its own address
pub named_here : (p : ℕ) (s : Slave) (d : DatagramValue) → HasSize s.registers → Names p p d → station (slave_after s d).registers ≡ own_address p
named_here p s d size n =
    let zero : (d.head.adp == 0) ≡ true = ap (λ a. a == 0) (n.adp ∙ here_zero p n.few) in
    written_here p p s d size n (asked_by_place s d true n.command (named_whole p p s d n) zero)

-- the address is left, or it is the own one
pub left_or_own : (q : ℕ) (s : Slave) (d : DatagramValue) → q < 256 → HasSize s.registers → IsMindful q d
    → (station (slave_after s d).registers ≡ station s.registers) ⊎ (station (slave_after s d).registers ≡ own_address q)
left_or_own q s d low size (inl never) = inl (ap (λ v. station v.registers) (left_unwritten s d (idle s d never)))
left_or_own q s d low size (inr (inl far)) = inl (left_by s d size far)
left_or_own q s d low size (inr (inr h)) = by (d.head.adp == 0) refl
  where
    n : Names h.0 q d
    n = h.1

    by : (b : Bool) → (d.head.adp == 0) ≡ b → (station (slave_after s d).registers ≡ station s.registers) ⊎ (station (slave_after s d).registers ≡ own_address q)
    by true e =
        let same = zero_there h.0 q n.few low (sym n.adp ∙ eqb-true d.head.adp 0 e) in
        inr (written_here h.0 q s d size n (asked_by_place s d true n.command (named_whole h.0 q s d n) e) ∙ ap own_address same)
    by false e = inl (ap (λ v. station v.registers) (left_unwritten s d (asked_by_place s d false n.command (named_whole h.0 q s d n) e)))

-- so an address stays what it may be
address_stays : (named : Bool) (q before after : ℕ) → HasAddress named q before → (after ≡ before) ⊎ (after ≡ own_address q) → HasAddress named q after
address_stays true q before after has (inl e) = e ∙ has
address_stays true q before after has (inr e) = e
address_stays false q before after (inl zero) (inl e) = inl (e ∙ zero)
address_stays false q before after (inr own) (inl e) = inr (e ∙ own)
address_stays false q before after has (inr e) = inr e

pub stands_after : (kind : ClockKind) (status : ℕ) (named : Bool) (q : ℕ) (s : Slave) (d : DatagramValue) → q < 256 → IsMindful q d → Stands kind status named q s → Stands kind status named q (slave_after s d)
stands_after kind status named q s d low mindful h = record {
  slave = slave_stays kind status s d h.slave;
  address = address_stays named q (station s.registers) (station (slave_after s d).registers) h.address (left_or_own q s d low h.slave.size mindful);
}

-- a mindful datagram is one for the next slave
next_place : (q x : ℕ) → raised_by 1 (raised_by q x) ≡ raised_by (suc q) x
next_place q x = omega arith

apwr_raises : (c : Command) → c ≡ Apwr → raises_adp c ≡ true
unfolding raises_adp
apwr_raises c e = rw e refl

apwr_reads_not : (s : Slave) (d : DatagramValue) → d.head.command ≡ Apwr → reads (doing s d) ≡ false
unfolding doing doing_by
apwr_reads_not s d c = by (is_refused_by s d) (d.head.adp == 0) refl refl
  where
    by : (b z : Bool) → is_refused_by s d ≡ b → (d.head.adp == 0) ≡ z → reads (doing s d) ≡ false
    by true z e f = rw e refl
    by false true e f = rw (e, c, f) refl
    by false false e f = rw (e, c, f) refl

next_adp : (s : Slave) (d : DatagramValue) → d.head.command ≡ Apwr → (datagram_after s d).head.adp ≡ raised_by 1 d.head.adp
unfolding datagram_after
next_adp s d c = rw (apwr_raises d.head.command c) refl

same_command : (s : Slave) (d : DatagramValue) → (datagram_after s d).head.command ≡ d.head.command
unfolding datagram_after
same_command s d = refl

same_ado : (s : Slave) (d : DatagramValue) → (datagram_after s d).head.ado ≡ d.head.ado
unfolding datagram_after
same_ado s d = refl

pub names_next : (p q : ℕ) (s : Slave) (d : DatagramValue) → Names p q d → Names p (suc q) (datagram_after s d)
names_next p q s d n = record {
  command = same_command s d ∙ n.command;
  ado = same_ado s d ∙ n.ado;
  adp = next_adp s d n.command ∙ ap (raised_by 1) n.adp ∙ next_place q (word_less 16 0 p);
  payload = kept_unread s d (apwr_reads_not s d n.command) ∙ n.payload;
  few = n.few;
}

pub mindful_after : (q : ℕ) (s : Slave) (d : DatagramValue) → HasSize s.registers → IsMindful q d → IsMindful (suc q) (datagram_after s d)
unfolding datagram_after
mindful_after q s d size (inl never) = inl never
mindful_after q s d size (inr (inl far)) = inr (inl (sized (sym (same_size s d size)) far))
  where
    sized : {m k : ℕ} → m ≡ k → AreApart d.head.ado m 0x0010 2 → AreApart d.head.ado k 0x0010 2
    sized e f = rw (← e) f
mindful_after q s d size (inr (inr h)) = inr (inr (h.0, names_next h.0 q s d h.1))
