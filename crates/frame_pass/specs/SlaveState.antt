-- The told state of a slave.
use Rattle.std.specs.Prelude.{ℕ, ◌%◌, ◌^◌, Option, Some, None, option_map, if◌then◌else◌}
use Rattle.esc_regs.specs.declared.clock_kind.ClockKind.{ClockKind}
use Rattle.esc_regs.specs.RegisterBytes.{number_at, with_number}
use Rattle.esc_regs.specs.RegisterFile.{Registers}
use Rattle.esc_regs.specs.RegisterTable.{is_wide}
use Rattle.osc_clock.specs.Ticks.{Oscillator}
use Rattle.local_clock.specs.Reading.{Clock}
use Rattle.sync_units.specs.SyncRule.{Armed}
use Rattle.sync_units.specs.KeptEdges.{Kept}

-- When a frame visits a slave, in fs from its sending on: at the processing unit, and back in each
-- connected port.
pub record Visits : Type 0 where
  pub arrive : ℕ
  pub back3 : Option ℕ
  pub back1 : Option ℕ
  pub back2 : Option ℕ

-- What a measuring slave has beside its registers: its clock, which stands at the slave's present time, its
-- SYNC unit with the edges that are kept, and the true time of the event that is expected at its latch input.
-- A slave that only measures receive times is never armed, and expects nothing.
pub record Timing : Type 0 where
  pub clock : Clock
  pub unit : Option Armed
  pub edges : Kept
  pub event : Option ℕ

-- a slave: when a frame visits it, its registers, and its timing, None where it is clockless
pub record Slave : Type 0 where
  pub visits : Visits
  pub registers : Registers
  pub timing : Option Timing

-- What never changes of a slave: when a frame visits it, its kind, and of its clock the oscillator, and how many edges of
-- each signal are kept.
pub record FixedPart : Type 0 where
  pub visits : Visits
  pub kind : ClockKind
  pub oscillator : Option Oscillator
  pub keep : Option ℕ

abbrev pub fixed_part : Slave → FixedPart
fixed_part s = record {
  visits = s.visits;
  kind = s.registers.kind;
  oscillator = option_map (λ m. m.clock.osc) s.timing;
  keep = option_map (λ m. m.edges.keep) s.timing;
}

-- a measuring slave
pub record Measuring : Type 0 where
  pub registers : Registers
  pub timing : Timing

-- what happens to a measuring slave changes its registers and its timing; a clockless slave is left
abbrev pub with_measuring : Slave → Measuring → Slave
with_measuring s m = record s { registers = m.registers; timing = Some m.timing }

abbrev pub on_measuring_of : (Measuring → Measuring) → Slave → Option Timing → Slave
on_measuring_of f s None = s
on_measuring_of f s (Some t) = with_measuring s (f (record { registers = s.registers; timing = t }))

abbrev pub on_measuring : (Measuring → Measuring) → Slave → Slave
on_measuring f s = on_measuring_of f s s.timing

-- the bits of a slave's clock
unfoldable pub width : ClockKind → ℕ
width kind = if is_wide kind then 64 else 32

abbrev pub width_of : Measuring → ℕ
width_of m = width m.registers.kind

-- the number in a register of n bytes
abbrev pub holds : ℕ → ℕ → Registers → ℕ
holds n addr r = number_at n addr r.bytes

-- the registers with this number in a register of n bytes, set from inside the slave
abbrev pub holding : ℕ → ℕ → ℕ → Registers → Registers
holding n addr x r = record r { bytes = with_number n addr x r.bytes }

-- the number in a register of 8 bytes, as a word of the clock's width
abbrev pub word_held : ℕ → Registers → ℕ
word_held addr r = holds 8 addr r % 2 ^ width r.kind

-- registers by their names
abbrev pub station : Registers → ℕ
station r = holds 2 0x0010 r

abbrev pub offset : Registers → ℕ
offset r = word_held 0x0920 r

abbrev pub delay : Registers → ℕ
delay r = holds 4 0x0928 r

abbrev pub start_time : Registers → ℕ
start_time r = word_held 0x0990 r

abbrev pub cycle_time : Registers → ℕ
cycle_time r = holds 4 0x09A0 r

abbrev pub sync1_time : Registers → ℕ
sync1_time r = holds 4 0x09A4 r
