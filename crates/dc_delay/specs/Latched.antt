-- What the latched receive times of the ports tell (ESC data sheet, 0x0900).
use Rattle.std.specs.Prelude.{ℕ, Bool, Option, Some, None, List, slice_index, slice_index_or}
use Rattle.std.specs.Option.{is_some}
use Rattle.cable_tree.specs.declared.port.Port.{Port}
use Rattle.wrap_time.specs.WordLess.{word_less}
use Rattle.dc_topology.specs.Listed.{port_number}
use Rattle.dc_delay.specs.declared.latch.Latch.{Latch}

-- L: the latched time of a port less that of port 0, modulo 2^32
abbrev pub latched : ℕ → ℕ → ℕ
latched back arrival = word_less 32 back arrival

abbrev pub lap_of : Option Latch → Port → ℕ
lap_of None p = 0
lap_of (Some latch) p = latched (slice_index latch.ports (port_number p)) (slice_index latch.ports 0)

-- L of each slave and port
abbrev pub laps : List (Option Latch) → ℕ → Port → ℕ
laps latches r p = lap_of (slice_index_or latches r None) p

-- a slave with a latch measures
abbrev pub measures : List (Option Latch) → ℕ → Bool
measures latches r = is_some (slice_index_or latches r None)
