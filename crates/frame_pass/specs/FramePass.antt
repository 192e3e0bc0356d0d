-- A frame on its way through the slaves. That the delays are fixed, and that ports latch at their own instants, is this
-- project's rule.
--
-- A line of three slaves, B at port 1 of A and C at port 1 of B; time goes down. cA, cB, cC are the cables, one way. Out, a
-- slave keeps the frame for tP, its way through the processing unit; back, for tF at each forwarding.
--
--   master            A                    B                    C
--     |----- cA ----->* arrive             .                    .
--     .               | tP                 .                    .
--     .               |------- cB -------->* arrive             .
--     .               .                    | tP                 .
--     .               .                    |------- cC -------->* arrive
--     .               .                    .                    | tP
--     .               .                    o<------ cC ---------|
--     .               .                    | back1, tF          .
--     .               o<------ cB ---------|                    .
--     .               | back1, tF          .                    .
--     |<---- cA ------|                    .                    .
--
-- * The datagrams act, one after another. Where one of them latches, 0x0900 and 0x0918 take the local time here.
-- o Where one of them has latched, the register of the port (here 0x0904) takes the local time here.
-- A slave with more children forwards the frame to the next connected port, in the order 3, 1, 2, and so on; tF each time.
-- A frame that is lost on its way to a slave ends at the arrival there: no visit at that time or later takes place.
--
-- examples/two-slaves.json, ns: cA = 20, cB = 50, tP = 310, tF = 300, and no C, so that B sends the frame back after its tP.
-- It arrives at A at 20, at B at 20 + 310 + 50 = 380; back1 of A is 380 + 310 + 50 = 740; the round trip 740 + 300 + 20 = 1060.
use Rattle.std.specs.Prelude.{ℕ, suc, zero, ◌+◌, ◌%◌, ◌^◌, ◌||◌, nat_lt, Bool, true, false, List, [], ◌∷◌, Option, Some, None, option_map, slice_get, if◌then◌else◌}
use Rattle.ecat_frame.specs.FrameGrammar.{DatagramValue}
use Rattle.frame_pass.specs.SlaveState.{Measuring, Slave, on_measuring, holding}
use Rattle.frame_pass.specs.Advancing.{advanced_to}
use Rattle.frame_pass.specs.DatagramAtSlave.{datagram_after, slave_after, is_latching}

-- the slave behind the datagrams of a frame, one after another
unfoldable pub slave_behind : Slave → List DatagramValue → Slave
slave_behind s [] = s
slave_behind s (d ∷ ds) = slave_behind (slave_after s d) ds

-- the datagrams behind the slave
unfoldable pub datagrams_after : Slave → List DatagramValue → List DatagramValue
datagrams_after s [] = []
datagrams_after s (d ∷ ds) = datagram_after s d ∷ datagrams_after (slave_after s d) ds

-- one of them makes the slave latch
unfoldable pub are_latching : Slave → List DatagramValue → Bool
are_latching s [] = false
are_latching s (d ∷ ds) = is_latching s d || are_latching (slave_after s d) ds

-- the receive time of a port takes the low half of the local time
abbrev pub port_latched : ℕ → Measuring → Measuring
port_latched addr m = record m { registers = holding 4 addr (m.timing.clock.reading % 2 ^ 32) m.registers }

-- A frame comes so far: all the way (None), or to the slave at which it would arrive at this time; a visit at or
-- after that time does not take place.
abbrev pub comes_by : Option ℕ → ℕ → Bool
comes_by None at = true
comes_by (Some end) at = nat_lt at end

-- a port latches at the instant when the frame comes back into it, where it is connected and the frame comes so far
unfoldable pub port_taken : ℕ → Option ℕ → ℕ → Option ℕ → Slave → Slave
port_taken sent end addr None s = s
port_taken sent end addr (Some at) s =
    if comes_by end at then on_measuring (port_latched addr) (advanced_to (sent + at) s) else s

-- the ports in the order in which the frame comes back into them
unfoldable pub ports_taken : ℕ → Option ℕ → Slave → Slave
ports_taken sent end s =
    port_taken sent end 0x0908 s.visits.back2 (port_taken sent end 0x0904 s.visits.back1 (port_taken sent end 0x090C s.visits.back3 s))

abbrev pub when_latching : Bool → ℕ → Option ℕ → Slave → Slave
when_latching true sent end s = ports_taken sent end s
when_latching false sent end s = s

-- the slave when a frame arrives that was sent then
abbrev pub at_arrival : ℕ → Slave → Slave
at_arrival sent s = advanced_to (sent + s.visits.arrive) s

-- The slave behind a frame: its datagrams act at the arrival, and ports latch later, each at its own instant, so
-- that no datagram of the frame reads what they take.
unfoldable pub slave_passed : ℕ → Option ℕ → Slave → List DatagramValue → Slave
slave_passed sent end s ds =
    when_latching (are_latching (at_arrival sent s) ds) sent end (slave_behind (at_arrival sent s) ds)

-- the datagrams of the frame behind the slave
unfoldable pub datagrams_passed : ℕ → Slave → List DatagramValue → List DatagramValue
datagrams_passed sent s ds = datagrams_after (at_arrival sent s) ds

-- the frame reaches the first h slaves, one after another
unfoldable pub slaves_passed : ℕ → ℕ → Option ℕ → List Slave → List DatagramValue → List Slave
slaves_passed zero sent end ss ds = ss
slaves_passed (suc h) sent end [] ds = []
slaves_passed (suc h) sent end (s ∷ ss) ds = slave_passed sent end s ds ∷ slaves_passed h sent end ss (datagrams_passed sent s ds)

-- the datagrams behind the first h slaves
unfoldable pub datagrams_behind : ℕ → ℕ → List Slave → List DatagramValue → List DatagramValue
datagrams_behind zero sent ss ds = ds
datagrams_behind (suc h) sent [] ds = ds
datagrams_behind (suc h) sent (s ∷ ss) ds = datagrams_behind h sent ss (datagrams_passed sent s ds)

-- where a frame ends that reaches h slaves: at the arrival at slave h, None where it reaches all
abbrev pub end_of : ℕ → List Slave → Option ℕ
end_of h ss = option_map (λ s. s.visits.arrive) (slice_get ss h)
