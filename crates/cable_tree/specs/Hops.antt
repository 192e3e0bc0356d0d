-- The ways between the ports of one slave, by its connected ports in the order 3, 1, 2.
use Rattle.std.specs.Prelude.{ℕ, ◌+◌, ◌*◌, Option, Some, None, List}
use Rattle.cable_tree.specs.declared.port.Port.{Port}
use Rattle.cable_tree.specs.declared.port.Port.TheVariants.{P1, P2, P3}
use Rattle.cable_tree.specs.Row.{Row, tp, tf, cable}
use Rattle.cable_tree.specs.FrameOrder.{child}
use Rattle.cable_tree.specs.PathSums.{span, earlier}

-- port p where it is connected, else the port before
abbrev pub or_before : Port → Option ℕ → Option Port → Option Port
or_before p None before = before
or_before p (Some k) before = Some p

-- the connected port before port p, None at the first one
abbrev pub previous : List Row → ℕ → Port → Option Port
previous rows r P3 = None
previous rows r P1 = or_before P3 (child rows r P3) None
previous rows r P2 = or_before P1 (child rows r P1) (or_before P3 (child rows r P3) None)

-- the last connected port, None at a leaf
abbrev pub last_port : List Row → ℕ → Option Port
last_port rows r = or_before P2 (child rows r P2) (previous rows r P2)

-- from the arrival at a slave until the frame comes back into port p, which is 0 where the port is not connected
abbrev pub lap_to : List Row → ℕ → ℕ → Option ℕ → ℕ
lap_to rows r start None = 0
lap_to rows r start (Some k) = tp rows r + start + 2 * cable rows k + span rows k

abbrev pub lap : List Row → ℕ → Port → ℕ
lap rows r p = lap_to rows r (earlier rows r p) (child rows r p)

-- the lap of the port before, 0 where there is none
abbrev pub lap_before : List Row → ℕ → Option Port → ℕ
lap_before rows r None = 0
lap_before rows r (Some q) = lap rows r q

-- the forwarding that follows it: tP to the first port, tF to every other one
abbrev pub forwarding : List Row → ℕ → Option Port → ℕ
forwarding rows r None = tp rows r
forwarding rows r (Some q) = tf rows r
