-- Planned datagrams stay so on their way.
use Rattle.std.proofs.Common.{◌≡◌, ℕ, zero, suc, ◌+◌, List, [], ◌∷◌, Bool, true, false, refl, sym, ◌∙◌, inl, inr}
use Rattle.std.specs.Prelude.{◌==◌}
use Rattle.ecat_frame.specs.FrameGrammar.{DatagramValue}
use Rattle.ecat_frame.specs.declared.command.Command.TheVariants.{Fpwr}
use Rattle.esc_regs.specs.RegisterBytes.{AreApart}
use Rattle.frame_pass.specs.SlaveState.{Slave, station}
use Rattle.frame_pass.specs.DatagramTable.{doing_by, raises_adp, reads}
use Rattle.frame_pass.specs.DatagramAtSlave.{datagram_after, doing, is_refused_by, slave_after}
use Rattle.frame_pass.specs.FramePass.{at_arrival, datagrams_after, datagrams_behind, datagrams_passed}
use Rattle.frame_pass.proofs.Exported.{HasSize, same_size, kept_unread, size_advanced, size_after}
use Rattle.frame_pass.specs.Aside.{HaveSize}
use Rattle.honest_slaves.specs.Planned.{ArePlanned, IsPlanned}

-- a write by station address: no slave raises its ADP, or reads for it
same_adp : (s : Slave) (d : DatagramValue) → d.head.command ≡ Fpwr → (datagram_after s d).head.adp ≡ d.head.adp
unfolding datagram_after raises_adp
same_adp s d c = rw c refl

unread : (s : Slave) (d : DatagramValue) → d.head.command ≡ Fpwr → reads (doing s d) ≡ false
unfolding doing doing_by
unread s d c = by (is_refused_by s d) (d.head.adp == station s.registers) refl refl
  where
    by : (b own : Bool) → is_refused_by s d ≡ b → (d.head.adp == station s.registers) ≡ own → reads (doing s d) ≡ false
    by true own e f = rw e refl
    by false true e f = rw (e, c, f) refl
    by false false e f = rw (e, c, f) refl

module _ (sync1 : ℕ → Bool) where
  planned_after : (s : Slave) (d : DatagramValue) → HasSize s.registers → IsPlanned sync1 d → IsPlanned sync1 (datagram_after s d)
  unfolding datagram_after
  planned_after s d size (inl never) = inl never
  planned_after s d size (inr (inl far)) = inr (inl (sized (sym (same_size s d size)) far))
    where
      sized : {m n : ℕ} → m ≡ n → AreApart d.head.ado m 0x0981 1 → AreApart d.head.ado n 0x0981 1
      sized e f = rw (← e) f
  planned_after s d size (inr (inr a)) = inr (inr (record {
    position = a.position;
    byte = a.byte;
    command = a.command;
    adp = same_adp s d a.command ∙ a.adp;
    ado = a.ado;
    payload = kept_unread s d (unread s d a.command) ∙ a.payload;
    planned = a.planned;
  }))

  planned_slave : (s : Slave) (ds : List DatagramValue) → HasSize s.registers → ArePlanned sync1 ds → ArePlanned sync1 (datagrams_after s ds)
  unfolding datagrams_after
  planned_slave s [] size a = tt
  planned_slave s (d ∷ ds) size a = (planned_after s d size a.0, planned_slave (slave_after s d) ds (size_after s d size) a.1)

  pub planned_behind : (h sent : ℕ) (ss : List Slave) (ds : List DatagramValue) → HaveSize ss → ArePlanned sync1 ds → ArePlanned sync1 (datagrams_behind h sent ss ds)
  unfolding datagrams_behind datagrams_passed
  planned_behind zero sent ss ds sizes a = a
  planned_behind (suc h) sent [] ds sizes a = a
  planned_behind (suc h) sent (s ∷ ss) ds sizes a =
      planned_behind h sent ss (datagrams_after (at_arrival sent s) ds) sizes.1 (planned_slave (at_arrival sent s) ds (size_advanced (sent + s.visits.arrive) s sizes.0) a)
