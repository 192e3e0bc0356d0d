-- Datagrams for one slave.
use Rattle.std.specs.Prelude.{◌≡◌, ℕ, ◌≤◌, true, List, length, Some, slice_get}
use Rattle.ecat_frame.specs.FrameGrammar.{DatagramValue}
use Rattle.esc_regs.specs.declared.clock_kind.ClockKind.{ClockKind}
use Rattle.frame_pass.specs.SlaveState.{Slave}
use Rattle.frame_pass.specs.Stations.{slave_found}
use Rattle.honest_slaves.specs.Standing.{own_address, Stands, AreStanding}
use Rattle.honest_slaves.specs.Mindful.{AreMindful}

-- Datagram k of a mindful frame is sent by the station address of the slave at position p, and finds it named.
pub record ByStation (kinds : ℕ → ClockKind) (statuses : ℕ → ℕ) (named k p sent : ℕ) (ss : List Slave) (ds : List DatagramValue)
    (d : DatagramValue) (s : Slave) : Type 0 where
  pub few : length ss ≤ 256
  pub standing : AreStanding kinds statuses named ss
  pub mindful : AreMindful 0 ds
  pub there : slice_get ss p ≡ Some s
  pub found : Stands (kinds p) (statuses p) true p (slave_found k p sent ss ds s)
  pub is : slice_get ds k ≡ Some d
  pub adp : d.head.adp ≡ own_address p
  pub counter : d.wkc ≡ 0
