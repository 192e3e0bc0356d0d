-- Places that the frames behind commissioning do not write, and what stays there.
use Rattle.std.specs.Prelude.{◌≡◌, ◌⊎◌, ℕ, true, List, length, Option, Some, option_map, slice_get}
use Rattle.std.specs.List.{AllByRecursion}
use Rattle.ecat_frame.specs.FrameGrammar.{DatagramValue}
use Rattle.esc_regs.specs.RegisterBytes.{AreApart}
use Rattle.frame_pass.specs.PlainRegisters.{IsPlain}
use Rattle.frame_pass.specs.SlaveState.{Slave, holds}
use Rattle.frame_pass.specs.Aside.{never_writes}
use Rattle.frame_pass.specs.ReceiveTimes.{IsReceiveTime}

-- the n bytes at a place are none of the system time, the activation, the start time and the cycle times
pub record IsUntouched (at n : ℕ) : Type 0 where
  pub system_time : AreApart 0x0910 4 at n
  pub activation : AreApart 0x0981 1 at n
  pub start_time : AreApart 0x0990 8 at n
  pub cycle_times : AreApart 0x09A0 8 at n

-- no slave writes one of the n bytes at a place for these datagrams: by its command, or as it is written elsewhere
abbrev pub WritesNone : ℕ → ℕ → DatagramValue → Type 0
WritesNone at n d = (never_writes d.head.command ≡ true) ⊎ AreApart d.head.ado (length d.payload) at n

abbrev pub WriteNone : ℕ → ℕ → List DatagramValue → Type 0
WriteNone at n ds = AllByRecursion (WritesNone at n) ds

-- The n bytes at a place last behind commissioning: they are receive times, or no drift frame writes them and no slave sets them itself.
abbrev pub AreLasting : ℕ → ℕ → Type 0
AreLasting at n = IsReceiveTime at n ⊎ (IsPlain at n × IsUntouched at n)

-- the slaves hold the same number there, one by one
abbrev pub HoldAlike : ℕ → ℕ → List Slave → List Slave → Type 0
HoldAlike at n before after =
    (p : ℕ) (v w : Slave) → slice_get before p ≡ Some v → slice_get after p ≡ Some w → holds n at w.registers ≡ holds n at v.registers

-- how many ticks there are to a correction, where a slave has a clock that counts
abbrev pub ticks_to_correction : Slave → Option ℕ
ticks_to_correction v = option_map (λ m. m.clock.g) v.timing

-- so many are there at each slave, one by one
abbrev pub CorrectAlike : List Slave → List Slave → Type 0
CorrectAlike before after =
    (p : ℕ) (v w : Slave) → slice_get before p ≡ Some v → slice_get after p ≡ Some w → ticks_to_correction w ≡ ticks_to_correction v
