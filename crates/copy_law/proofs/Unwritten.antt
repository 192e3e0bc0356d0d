-- Datagrams for which no slave writes a place stay so on their way, and each slave leaves it.
use Rattle.std.proofs.Common.{◌≡◌, ℕ, zero, suc, ◌+◌, List, [], ◌∷◌, inl, inr, sym, refl}
use Rattle.copy_law.specs.Untouched.{WriteNone, WritesNone}
use Rattle.ecat_frame.specs.FrameGrammar.{DatagramValue}
use Rattle.esc_regs.specs.RegisterBytes.{AreApart}
use Rattle.frame_pass.specs.DatagramAtSlave.{datagram_after, slave_after}
use Rattle.frame_pass.specs.FramePass.{at_arrival, datagrams_after, datagrams_behind, datagrams_passed}
use Rattle.frame_pass.specs.PlainRegisters.{AreLeft}
use Rattle.frame_pass.specs.SlaveState.{Slave, station}
use Rattle.frame_pass.proofs.Exported.{HasSize, apart_where_written, same_size, size_advanced, size_after}
use Rattle.frame_pass.specs.Aside.{HaveSize, IsAside}

module _ (at n : ℕ) where
  datagram_none : (s : Slave) (d : DatagramValue) → HasSize s.registers → WritesNone at n d → WritesNone at n (datagram_after s d)
  unfolding datagram_after
  datagram_none s d size (inl never) = inl never
  datagram_none s d size (inr apart) = inr (sized (sym (same_size s d size)) apart)
    where
      sized : {m k : ℕ} → m ≡ k → AreApart d.head.ado m at n → AreApart d.head.ado k at n
      sized e far = rw (← e) far

  pub datagrams_none : (s : Slave) (ds : List DatagramValue) → HasSize s.registers → WriteNone at n ds → WriteNone at n (datagrams_after s ds)
  unfolding datagrams_after
  datagrams_none s [] size h = tt
  datagrams_none s (d ∷ ds) size h = (datagram_none s d size h.0, datagrams_none (slave_after s d) ds (size_after s d size) h.1)

  pub behind_none : (h sent : ℕ) (ss : List Slave) (ds : List DatagramValue) → HaveSize ss → WriteNone at n ds → WriteNone at n (datagrams_behind h sent ss ds)
  unfolding datagrams_behind datagrams_passed
  behind_none zero sent ss ds sizes none = none
  behind_none (suc h) sent [] ds sizes none = none
  behind_none (suc h) sent (s ∷ ss) ds sizes none =
      behind_none h sent ss (datagrams_after (at_arrival sent s) ds) sizes.1 (datagrams_none (at_arrival sent s) ds (size_advanced (sent + s.visits.arrive) s sizes.0) none)

  aside : (own : ℕ) (d : DatagramValue) → WritesNone at n d → IsAside at n own d
  aside own d (inl never) = inl never
  aside own d (inr apart) = inr (inr apart)

  pub left_none : (s : Slave) (ds : List DatagramValue) → WriteNone at n ds → AreLeft at n s ds
  unfolding AreLeft
  left_none s [] none = tt
  left_none s (d ∷ ds) none = (
    λ written. apart_where_written at n (station s.registers) s d refl (aside (station s.registers) d none.0) written,
    left_none (slave_after s d) ds none.1,
  )
