-- The DL status that a slave of a tree shows (ESC data sheet, 0x0110).
use Rattle.std.specs.Prelude.{ℕ, ◌+◌, ◌*◌, ◌^◌, Bool, true, false, List, map}
use Rattle.std.specs.Option.{is_some}
use Rattle.cable_tree.specs.declared.port.Port.TheVariants.{P1, P2, P3}
use Rattle.cable_tree.specs.Row.{Row}
use Rattle.cable_tree.specs.FrameOrder.{child, order}

-- the bits of a port: there is a link and communication at one that is connected, and the loop of every other is closed
abbrev pub port_bits : Bool → ℕ → ℕ
port_bits true port = 2 ^ (4 + port) + 2 ^ (9 + 2 * port)
port_bits false port = 2 ^ (8 + 2 * port)

-- port 0 is connected, and each of the ports 1 to 3 where a slave hangs at it
unfoldable pub status_of : List Row → ℕ → ℕ
status_of rows r =
    port_bits true 0
    + port_bits (is_some (child rows r P1)) 1
    + port_bits (is_some (child rows r P2)) 2
    + port_bits (is_some (child rows r P3)) 3

-- what the slaves show, in frame order
abbrev pub statuses : List Row → List ℕ
statuses rows = map (status_of rows) (order rows)
