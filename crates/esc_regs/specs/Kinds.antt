-- What a slave of each kind has of distributed clocks.
use Rattle.std.specs.Prelude.{ℕ, ◌-◌, ◌^◌, Bool, true, false}
use Rattle.esc_regs.specs.declared.clock_kind.ClockKind.{ClockKind}
use Rattle.esc_regs.specs.declared.clock_kind.ClockKind.TheVariants as kind

-- the slave takes receive times
abbrev pub measures : ClockKind → Bool
measures kind.None = false
measures kind.C32 = true
measures kind.C64 = true
measures kind.R32 = true

-- the slave has a clock that can be set
abbrev pub has_clock : ClockKind → Bool
has_clock kind.None = false
has_clock kind.C32 = true
has_clock kind.C64 = true
has_clock kind.R32 = false

-- the greatest number that its time has room for; 2^32 - 1 stands for that of a slave without one, which nothing asks for
abbrev pub greatest_start : ClockKind → ℕ
greatest_start kind.None = 2 ^ 32 - 1
greatest_start kind.C32 = 2 ^ 32 - 1
greatest_start kind.C64 = 2 ^ 64 - 1
greatest_start kind.R32 = 2 ^ 32 - 1
