-- What a slave's clock went through: the differences that it received and the resets, each with its true time.
use Rattle.std.specs.Prelude.{◌≡◌, ℕ, ◌≤◌, List, [], ◌∷◌, ◌++◌, Option, Some, None, IfSome, if◌then◌else◌}
use Rattle.std.specs.List.{All}
use Rattle.ecat_frame.specs.FrameGrammar.{DatagramValue}
use Rattle.esc_regs.specs.declared.answers.Written.{Written}
use Rattle.esc_regs.specs.RegisterFile.{Registers}
use Rattle.esc_regs.specs.RegisterWrite.{written, told}
use Rattle.local_clock.specs.Reading.{Clock, Happening, received, reset, clock_at, AreInOrder, AreUntil, IsPossible}
use Rattle.frame_pass.specs.SlaveState.{Timing, Measuring, Slave, width}
use Rattle.frame_pass.specs.WriteEffects.{latched, difference}
use Rattle.frame_pass.specs.DatagramTable.{writes}
use Rattle.frame_pass.specs.DatagramAtSlave.{doing, slave_after}
use Rattle.frame_pass.specs.FramePass.{at_arrival}

-- what a comparison and a reset bring the clock
abbrev pub received_of : Option ℕ → Measuring → List Happening
received_of None m = []
received_of (Some x) m = record { instant = m.timing.clock.instant; event = received (difference m x) } ∷ []

abbrev pub reset_of : Option ℕ → Measuring → List Happening
reset_of None m = []
reset_of (Some rate) m = record { instant = m.timing.clock.instant; event = reset rate } ∷ []

-- what a write brings it that tells this
abbrev pub events_told : Written → Measuring → List Happening
events_told w m = received_of w.received (latched w.latched m) ++ reset_of w.rate m

-- a clockless slave has no clock to bring anything
abbrev pub events_on : Written → Registers → Option Timing → List Happening
events_on w r None = []
events_on w r (Some t) = events_told w (record { registers = r; timing = t })

unfoldable pub events_wrote : ℕ → List ℕ → Slave → List Happening
events_wrote addr bytes s = events_on (told s.registers.kind addr bytes) (written s.registers addr bytes) s.timing

-- what a datagram brings it
unfoldable pub events_by : Slave → DatagramValue → List Happening
events_by s d = if writes (doing s d) then events_wrote d.head.ado d.payload s else []

unfoldable pub events_in : Slave → List DatagramValue → List Happening
events_in s [] = []
events_in s (d ∷ ds) = events_by s d ++ events_in (slave_after s d) ds

-- what a frame brings it
abbrev pub events_passed : ℕ → Slave → List DatagramValue → List Happening
events_passed sent s ds = events_in (at_arrival sent s) ds

-- The slave's clock has w bits, and at t it is a clock c with this history: events in order of time, from the instant of c
-- on and up to t.
pub record IsOf (w : ℕ) (c : Clock) (events : List Happening) (t : ℕ) (m : Measuring) : Type 0 where
  pub width : width m.registers.kind ≡ w
  pub began : c.instant ≤ t
  pub order : AreInOrder c.instant events
  pub past : AreUntil t events
  pub possible : All (λ h. IsPossible h.event) events
  pub clock : m.timing.clock ≡ clock_at w c events t

abbrev pub IsOfTiming : ℕ → Clock → List Happening → Registers → Option Timing → Type 0
IsOfTiming w c events r timing = IfSome timing (λ t. IsOf w c events t.clock.instant (record { registers = r; timing = t }))

-- the same of a slave at its present time, where it is not clockless
abbrev pub HasHistory : ℕ → Clock → List Happening → Slave → Type 0
HasHistory w c events s = IsOfTiming w c events s.registers s.timing
