-- What a slave of a kind refuses.
use Rattle.std.proofs.Common.{◌≡◌, ℕ, Bool, true, false, refl}
use Rattle.std.specs.Prelude.{not}
use Rattle.esc_regs.specs.RegisterAccess.{is_refused}
use Rattle.esc_regs.specs.declared.clock_kind.ClockKind.{ClockKind}
use Rattle.esc_regs.specs.declared.clock_kind.ClockKind.TheVariants as kind
use Rattle.esc_regs.specs.Kinds.{measures, has_clock}
use Rattle.master_script.specs.Frames.{width}
use Rattle.master_script.specs.Slaves.{is_measuring, is_clock}
use Rattle.honest_slaves.specs.Told.{word_of}

-- an access to these n bytes is refused by all slaves but those with P
abbrev pub IsFor : (ClockKind → Bool) → ℕ → ℕ → Type 0
IsFor P addr n = (k : ClockKind) → is_refused k addr n ≡ not (P k)

abbrev pub all : ClockKind → Bool
all k = true

pub count_for_all : IsFor all 0x0000 1
count_for_all kind.None = refl
count_for_all kind.R32 = refl
count_for_all kind.C32 = refl
count_for_all kind.C64 = refl

pub features_for_all : IsFor all 0x0008 2
features_for_all kind.None = refl
features_for_all kind.R32 = refl
features_for_all kind.C32 = refl
features_for_all kind.C64 = refl

pub status_for_all : IsFor all 0x0110 2
status_for_all kind.None = refl
status_for_all kind.R32 = refl
status_for_all kind.C32 = refl
status_for_all kind.C64 = refl

pub time_for_clocks : IsFor has_clock 0x0910 4
time_for_clocks kind.None = refl
time_for_clocks kind.R32 = refl
time_for_clocks kind.C32 = refl
time_for_clocks kind.C64 = refl

pub speed_for_clocks : IsFor has_clock 0x0930 2
speed_for_clocks kind.None = refl
speed_for_clocks kind.R32 = refl
speed_for_clocks kind.C32 = refl
speed_for_clocks kind.C64 = refl

pub latch_for_measuring : IsFor measures 0x0900 4
latch_for_measuring kind.None = refl
latch_for_measuring kind.R32 = refl
latch_for_measuring kind.C32 = refl
latch_for_measuring kind.C64 = refl

pub ports_for_measuring : IsFor measures 0x0900 16
ports_for_measuring kind.None = refl
ports_for_measuring kind.R32 = refl
ports_for_measuring kind.C32 = refl
ports_for_measuring kind.C64 = refl

pub unit_for_measuring : (wide : Bool) → IsFor measures 0x0918 (width wide)
unit_for_measuring true kind.None = refl
unit_for_measuring true kind.R32 = refl
unit_for_measuring true kind.C32 = refl
unit_for_measuring true kind.C64 = refl
unit_for_measuring false kind.None = refl
unit_for_measuring false kind.R32 = refl
unit_for_measuring false kind.C32 = refl
unit_for_measuring false kind.C64 = refl

pub offset_for_clocks : (wide : Bool) → IsFor has_clock 0x0920 (width wide)
offset_for_clocks true kind.None = refl
offset_for_clocks true kind.R32 = refl
offset_for_clocks true kind.C32 = refl
offset_for_clocks true kind.C64 = refl
offset_for_clocks false kind.None = refl
offset_for_clocks false kind.R32 = refl
offset_for_clocks false kind.C32 = refl
offset_for_clocks false kind.C64 = refl

pub delay_for_clocks : IsFor has_clock 0x0928 4
delay_for_clocks kind.None = refl
delay_for_clocks kind.R32 = refl
delay_for_clocks kind.C32 = refl
delay_for_clocks kind.C64 = refl

pub activation_for_clocks : IsFor has_clock 0x0981 1
activation_for_clocks kind.None = refl
activation_for_clocks kind.R32 = refl
activation_for_clocks kind.C32 = refl
activation_for_clocks kind.C64 = refl

pub cycle_for_clocks : IsFor has_clock 0x09A0 8
cycle_for_clocks kind.None = refl
cycle_for_clocks kind.R32 = refl
cycle_for_clocks kind.C32 = refl
cycle_for_clocks kind.C64 = refl

pub start_for_clocks : (wide : Bool) → IsFor has_clock 0x0990 (width wide)
start_for_clocks true kind.None = refl
start_for_clocks true kind.R32 = refl
start_for_clocks true kind.C32 = refl
start_for_clocks true kind.C64 = refl
start_for_clocks false kind.None = refl
start_for_clocks false kind.R32 = refl
start_for_clocks false kind.C32 = refl
start_for_clocks false kind.C64 = refl

-- what a master concludes from the words of a slave
pub clock_word : (k : ClockKind) (status : ℕ) → is_clock (word_of k status) ≡ has_clock k
clock_word kind.None status = refl
clock_word kind.R32 status = refl
clock_word kind.C32 status = refl
clock_word kind.C64 status = refl

pub measuring_word : (k : ClockKind) (status : ℕ) → is_measuring (word_of k status) ≡ measures k
measuring_word kind.None status = refl
measuring_word kind.R32 status = refl
measuring_word kind.C32 status = refl
measuring_word kind.C64 status = refl
