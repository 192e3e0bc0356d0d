-- A datagram at one slave, at the slave's present time: what it brings the slave, and what the slave makes of it.
use Rattle.std.specs.Prelude.{ℕ, ◌==◌, ◌&&◌, Bool, List, [], ◌∷◌, length, Option, Some, None, bit_or, if◌then◌else◌}
use Rattle.ecat_frame.specs.FrameGrammar.{DatagramValue}
use Rattle.esc_regs.specs.RegisterAccess.{is_refused}
use Rattle.esc_regs.specs.RegisterWrite.{told}
use Rattle.frame_pass.specs.SlaveState.{Slave, station}
use Rattle.frame_pass.specs.LiveRegisters.{read_of}
use Rattle.frame_pass.specs.WriteEffects.{wrote}
use Rattle.frame_pass.specs.DatagramTable.{Doing, Passes, doing_by, raises_adp, merges, reads, writes, gain, raised_by}

-- the access touches registers that the slave does not have, or passes them
abbrev pub is_refused_by : Slave → DatagramValue → Bool
is_refused_by s d = is_refused s.registers.kind d.head.ado (length d.payload)

-- what the datagram asks of the slave
abbrev pub asked : Slave → DatagramValue → Doing
asked s d = doing_by d.head.command (d.head.adp == 0) (d.head.adp == station s.registers)

-- what the slave does; a refused access it passes on
unfoldable pub doing : Slave → DatagramValue → Doing
doing s d = if is_refused_by s d then Passes else asked s d

-- each byte ORed with that of the other list
unfoldable pub merged : List ℕ → List ℕ → List ℕ
merged [] ys = []
merged (x ∷ xs) [] = x ∷ xs
merged (x ∷ xs) (y ∷ ys) = bit_or x y ∷ merged xs ys

-- the data, where these bytes are read into them
abbrev pub data_with : Bool → List ℕ → Option (List ℕ) → List ℕ
data_with merging payload None = payload
data_with merging payload (Some bytes) = if merging then merged payload bytes else bytes

-- the data behind the slave
unfoldable pub payload_after : Doing → Slave → DatagramValue → List ℕ
payload_after does s d =
    if reads does then data_with (merges d.head.command) d.payload (read_of s d.head.ado (length d.payload)) else d.payload

abbrev pub adp_after : DatagramValue → ℕ
adp_after d = if raises_adp d.head.command then raised_by 1 d.head.adp else d.head.adp

-- the datagram behind the slave
unfoldable pub datagram_after : Slave → DatagramValue → DatagramValue
datagram_after s d = record d {
  head = record d.head { adp = adp_after d };
  payload = payload_after (doing s d) s d;
  wkc = raised_by (gain (doing s d)) d.wkc;
}

-- the slave behind the datagram: it writes the data as they were received
unfoldable pub slave_after : Slave → DatagramValue → Slave
slave_after s d = if writes (doing s d) then wrote d.head.ado d.payload s else s

-- the datagram makes the slave latch
unfoldable pub is_latching : Slave → DatagramValue → Bool
is_latching s d = writes (doing s d) && (told s.registers.kind d.head.ado d.payload).latched
