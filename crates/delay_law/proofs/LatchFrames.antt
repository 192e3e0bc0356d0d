-- The frame of Latch makes every measuring slave latch.
use Rattle.std.proofs.Common.{◌≡◌, ℕ, zero, suc, ◌+◌, List, [], ◌∷◌, length, true, false, refl, ap, ap₂, ◌∙◌}
use Rattle.ecat_frame.specs.FrameGrammar.{DatagramValue}
use Rattle.ecat_frame.specs.declared.command.Command.TheVariants.{Bwr}
use Rattle.esc_regs.specs.RegisterAccess.{is_refused, touches}
use Rattle.esc_regs.specs.declared.clock_kind.ClockKind.{ClockKind}
use Rattle.frame_pass.specs.SlaveState.{Slave}
use Rattle.frame_pass.specs.DatagramTable.{doing_by}
use Rattle.frame_pass.specs.DatagramAtSlave.{datagram_after, doing, is_latching}
use Rattle.frame_pass.specs.FramePass.{are_latching, at_arrival, datagrams_after, datagrams_behind, datagrams_passed}
use Rattle.frame_pass.proofs.Exported.{fixed_advanced, HasSize, same_size, size_advanced}
use Rattle.frame_pass.specs.Aside.{HaveSize}
use Rattle.master_script.specs.Frames.{latch_datagrams}

-- a broadcast that writes the four bytes at 0x0900
record IsLatch (d : DatagramValue) : Type 0 where
  command : d.head.command ≡ Bwr
  ado : d.head.ado ≡ 0x0900
  size : length d.payload ≡ 4

record IsLatchFrame (ds : List DatagramValue) : Type 0 where
  first : DatagramValue
  are : ds ≡ first ∷ []
  is : IsLatch first

same_command : (v : Slave) (d : DatagramValue) → (datagram_after v d).head.command ≡ d.head.command
unfolding datagram_after
same_command v d = refl

same_ado : (v : Slave) (d : DatagramValue) → (datagram_after v d).head.ado ≡ d.head.ado
unfolding datagram_after
same_ado v d = refl

latch_after : (v : Slave) (d : DatagramValue) → HasSize v.registers → IsLatch d → IsLatch (datagram_after v d)
latch_after v d size h = record { command = same_command v d ∙ h.command; ado = same_ado v d ∙ h.ado; size = same_size v d size ∙ h.size }

latch_on : (h sent : ℕ) (ss : List Slave) (d : DatagramValue) → HaveSize ss → IsLatch d → IsLatchFrame (datagrams_behind h sent ss (d ∷ []))
unfolding datagrams_behind datagrams_passed datagrams_after
latch_on zero sent ss d sizes l = record { first = d; are = refl; is = l }
latch_on (suc h) sent [] d sizes l = record { first = d; are = refl; is = l }
latch_on (suc h) sent (s ∷ ss) d sizes l =
    latch_on h sent ss (datagram_after (at_arrival sent s) d) sizes.1 (latch_after (at_arrival sent s) d (size_advanced (sent + s.visits.arrive) s sizes.0) l)

latches : (v : Slave) (d : DatagramValue) → is_refused v.registers.kind 0x0900 4 ≡ false → IsLatch d → is_latching v d ≡ true
unfolding is_latching doing doing_by
latches v d fits l =
    let whole : is_refused v.registers.kind d.head.ado (length d.payload) ≡ false = ap₂ (is_refused v.registers.kind) l.ado l.size ∙ fits in
    let touched : touches 0x0900 0x0904 d.head.ado (length d.payload) ≡ true = ap₂ (touches 0x0900 0x0904) l.ado l.size in
    rw (whole, l.command, touched) refl

frame_latches : (v : Slave) (ds : List DatagramValue) → is_refused v.registers.kind 0x0900 4 ≡ false → IsLatchFrame ds → are_latching v ds ≡ true
unfolding are_latching
frame_latches v ds fits l = rw (l.are, latches v l.first fits l.is) refl

pub latch_frame : (h sent at : ℕ) (ss : List Slave) (v : Slave) (k : ClockKind) → HaveSize ss → v.registers.kind ≡ k → is_refused k 0x0900 4 ≡ false
    → are_latching (at_arrival at v) (datagrams_behind h sent ss latch_datagrams) ≡ true
latch_frame h sent at ss v k sizes is fits =
    frame_latches (at_arrival at v) (datagrams_behind h sent ss latch_datagrams)
    (ap (λ (x : ClockKind). is_refused x 0x0900 4) (ap (λ p. p.kind) (fixed_advanced (at + v.visits.arrive) v) ∙ is) ∙ fits)
    (latch_on h sent ss _ sizes (record { command = refl; ado = refl; size = refl }))
