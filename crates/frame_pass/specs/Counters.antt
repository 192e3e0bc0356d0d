-- A datagram of a frame on its way through slaves: what each slave does for it, and what its counter gains.
use Rattle.std.specs.Prelude.{◌≡◌, ℕ, zero, suc, ◌+◌, ◌<◌, ◌≤◌, List, [], ◌∷◌, Option, Some, None, slice_get}
use Rattle.ecat_frame.specs.FrameGrammar.{DatagramValue}
use Rattle.frame_pass.specs.SlaveState.{Slave}
use Rattle.frame_pass.specs.DatagramTable.{Doing, Passes, gain}
use Rattle.frame_pass.specs.DatagramAtSlave.{doing, slave_after}
use Rattle.frame_pass.specs.FramePass.{at_arrival, datagrams_passed, datagrams_behind}

-- the slave as the datagram with index k of a frame finds it, behind those before
unfoldable pub slave_before : ℕ → Slave → List DatagramValue → Slave
slave_before zero s ds = s
slave_before (suc k) s [] = s
slave_before (suc k) s (d ∷ ds) = slave_before k (slave_after s d) ds

-- what it does for that datagram
abbrev pub doing_for : Slave → Option DatagramValue → Doing
doing_for s None = Passes
doing_for s (Some d) = doing s d

abbrev pub doing_in : ℕ → Slave → List DatagramValue → Doing
doing_in k s ds = doing_for (slave_before k s ds) (slice_get ds k)

-- what the working counter of that datagram gains at the first h slaves
unfoldable pub gains : ℕ → ℕ → ℕ → List Slave → List DatagramValue → ℕ
gains k zero sent ss ds = 0
gains k (suc h) sent [] ds = 0
gains k (suc h) sent (s ∷ ss) ds = gain (doing_in k (at_arrival sent s) ds) + gains k h sent ss (datagrams_passed sent s ds)

-- such it is at each slave from position j on, of the first h
abbrev pub AreDoing : (Doing → Type 0) → ℕ → ℕ → ℕ → ℕ → List Slave → List DatagramValue → Type 0
AreDoing P k j h sent ss ds =
    (i : ℕ) (s : Slave) → j ≤ i → i < h → slice_get ss i ≡ Some s → P (doing_in k (at_arrival sent s) (datagrams_behind i sent ss ds))
