-- How long a frame takes, in fs, as sums over subtrees. That a slave keeps it tP and then tF is this project's rule.
use Rattle.std.specs.Prelude.{ℕ, zero, suc, ◌+◌, ◌*◌, Option, Some, None, List, length}
use Rattle.cable_tree.specs.declared.port.Above.{Above}
use Rattle.cable_tree.specs.declared.port.Port.{Port}
use Rattle.cable_tree.specs.declared.port.Port.TheVariants.{P1, P2, P3}
use Rattle.cable_tree.specs.Row.{Row, above, tp, tf, cable}
use Rattle.cable_tree.specs.FrameOrder.{child, root}

-- what a port of slave r adds, given the spans: nothing where it is not connected, else the way to the child and back,
-- the child's subtree, and the forwarding after it
abbrev pub detour_to : List Row → (ℕ → ℕ) → ℕ → Option ℕ → ℕ
detour_to rows span r None = 0
detour_to rows span r (Some k) = 2 * cable rows k + span k + tf rows r

-- from the arrival at a slave until the frame leaves it by port 0, for a subtree of so many levels
unfoldable pub span_within : List Row → ℕ → ℕ → ℕ
span_within rows zero r = 0
span_within rows (suc levels) r =
    tp rows r
    + (detour_to rows (span_within rows levels) r (child rows r P3)
    + detour_to rows (span_within rows levels) r (child rows r P1)
    + detour_to rows (span_within rows levels) r (child rows r P2))

abbrev pub span : List Row → ℕ → ℕ
span rows r = span_within rows (length rows) r

abbrev pub detour : List Row → ℕ → Port → ℕ
detour rows r p = detour_to rows (span rows) r (child rows r p)

-- what the ports before this one add
abbrev pub earlier : List Row → ℕ → Port → ℕ
earlier rows r P3 = 0
earlier rows r P1 = detour rows r P3
earlier rows r P2 = detour rows r P3 + detour rows r P1

-- from the sending instant to the arrival at port 0 of a slave, which is so many steps or fewer below the root
abbrev pub arrive_step : List Row → (ℕ → ℕ) → ℕ → Option Above → ℕ
arrive_step rows arrive r None = cable rows r
arrive_step rows arrive r (Some a) = arrive a.row + tp rows a.row + earlier rows a.row a.port + cable rows r

unfoldable pub arrive_within : List Row → ℕ → ℕ → ℕ
arrive_within rows zero r = 0
arrive_within rows (suc steps) r = arrive_step rows (arrive_within rows steps) r (above rows r)

abbrev pub arrive : List Row → ℕ → ℕ
arrive rows r = arrive_within rows (length rows) r

-- the instant at which the frame comes back from a child
abbrev pub back_from : List Row → Option ℕ → Option ℕ
back_from rows None = None
back_from rows (Some k) = Some (arrive rows k + span rows k + cable rows k)

-- the instant at which it comes back into a port, None where that is not connected
abbrev pub port_time : List Row → ℕ → Port → Option ℕ
port_time rows r p = back_from rows (child rows r p)

-- the round trip
abbrev pub round_trip : List Row → ℕ
round_trip rows = 2 * cable rows (root rows) + span rows (root rows)
