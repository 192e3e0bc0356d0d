-- The table of the script: the datagrams of each step's frame, in their order. The script is ours; the commands are those
-- of ETG.1000.4, and the registers those of the ESC data sheet.
use Rattle.std.specs.Prelude.{ℕ, ◌+◌, Bool, if◌then◌else◌, List, [], ◌∷◌, ◌++◌, replicate, Option, Some, None}
use Rattle.byteorder.specs.Endian.{little_bytes}
use Rattle.ecat_frame.specs.Built.{fresh}
use Rattle.ecat_frame.specs.FrameGrammar.{DatagramValue}
use Rattle.ecat_frame.specs.declared.command.Command.{Command}
use Rattle.ecat_frame.specs.declared.command.Command.TheVariants.{Apwr, Fprd, Fpwr, Brd, Bwr, Frmw}
use Rattle.wrap_time.specs.WordLess.{word_less}

-- a datagram as it is sent; its index is its place in the frame
abbrev pub asks : ℕ → Command → ℕ → ℕ → List ℕ → DatagramValue
asks index command adp ado payload = fresh (record { command = command; index = index; adp = adp; ado = ado }) payload

-- the data of a datagram that reads
abbrev pub blank : ℕ → List ℕ
blank n = replicate n 0

-- the station address of a position
abbrev pub station : ℕ → ℕ
station position = 0x1001 + position

-- w: how many bytes the times of a clock have, by its bit of 64-bit clocks
abbrev pub width : Bool → ℕ
width wide = if wide then 8 else 4

-- Count: every slave counts itself
abbrev pub count_datagrams : List DatagramValue
count_datagrams = asks 0 Brd 0 0x0000 (blank 1) ∷ []

-- Identify: the slave at a position takes its station address, and then tells its features, its DL status and the low half
-- of its system time
abbrev pub identify_datagrams : ℕ → List DatagramValue
identify_datagrams p =
    asks 0 Apwr (word_less 16 0 p) 0x0010 (little_bytes 2 (station p))
    ∷ asks 1 Fprd (station p) 0x0008 (blank 2)
    ∷ asks 2 Fprd (station p) 0x0110 (blank 2)
    ∷ asks 3 Fprd (station p) 0x0910 (blank 4) ∷ []

-- Rate: the start of every speed counter
abbrev pub rate_datagrams : ℕ → List DatagramValue
rate_datagrams speed = asks 0 Bwr 0 0x0930 (little_bytes 2 speed) ∷ []

-- Latch: every measuring slave latches when this frame passes its ports
abbrev pub latch_datagrams : List DatagramValue
latch_datagrams = asks 0 Bwr 0 0x0900 (blank 4) ∷ []

-- Times: the receive times of the four ports, and that at the processing unit
abbrev pub times_datagrams : ℕ → Bool → List DatagramValue
times_datagrams p wide =
    asks 0 Fprd (station p) 0x0900 (blank 16)
    ∷ asks 1 Fprd (station p) 0x0918 (blank (width wide)) ∷ []

-- Set: the offset, in the clock's width, and the low 32 bits of the delay
abbrev pub set_datagrams : ℕ → Bool → ℕ → ℕ → List DatagramValue
set_datagrams p wide offset delay =
    asks 0 Fpwr (station p) 0x0920 (little_bytes (width wide) offset)
    ∷ asks 1 Fpwr (station p) 0x0928 (little_bytes 4 delay) ∷ []

-- the datagram by which every other clock receives the time of the reference
abbrev pub drift_datagram : ℕ → DatagramValue
drift_datagram reference = asks 0 Frmw (station reference) 0x0910 (blank 4)

-- the frame of Drift has that datagram alone
abbrev pub drift_datagrams : ℕ → List DatagramValue
drift_datagrams reference = drift_datagram reference ∷ []

-- the SYNC1 time as it is written: 0 where there is no SYNC1
abbrev pub sync1_or_0 : Option ℕ → ℕ
sync1_or_0 None = 0
sync1_or_0 (Some ns) = ns

-- the activation: SYNC0 alone, or SYNC1 with it
abbrev pub activation : Option ℕ → ℕ
activation None = 0x03
activation (Some ns) = 0x07

-- Arm: the datagram of Drift, and behind it the unit is disarmed, takes cycle and SYNC1 time and its start, and is armed
abbrev pub arm_datagrams : ℕ → ℕ → Bool → ℕ → Option ℕ → ℕ → List DatagramValue
arm_datagrams reference p wide cycle_ns sync1_ns start =
    drift_datagram reference
    ∷ asks 1 Fpwr (station p) 0x0981 (0 ∷ [])
    ∷ asks 2 Fpwr (station p) 0x09A0 (little_bytes 4 cycle_ns ++ little_bytes 4 (sync1_or_0 sync1_ns))
    ∷ asks 3 Fpwr (station p) 0x0990 (little_bytes (width wide) start)
    ∷ asks 4 Fpwr (station p) 0x0981 (activation sync1_ns ∷ []) ∷ []
