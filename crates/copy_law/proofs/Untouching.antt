-- Which places the frames of a script leave.
use Rattle.std.proofs.Common.{◌≡◌, ℕ, ◌+◌, ◌≤◌, Bool, true, false, length, inl, inr, arith}
use Rattle.byteorder.specs.Endian.{little_bytes}
use Rattle.esc_regs.specs.RegisterBytes.{AreApart}
use Rattle.copy_law.specs.Untouched.{IsUntouched, WriteNone}
use Rattle.frame_pass.specs.SegmentState.{phase_of}
use Rattle.master_script.specs.Config.{ConfigValue, plan_at}
use Rattle.master_script.specs.Frames.{width}
use Rattle.master_script.specs.Steps.{datagrams_of}
use Rattle.master_script.specs.Words.{Words, start_at, wide_at}
use Rattle.master_script.specs.declared.step.Step.{Step}
use Rattle.master_script.specs.declared.step.Step.TheVariants.{Count, Identify, Rate, Latch, Times, Set, Settle, Drift, Arm}
use Rattle.loss_list.specs.declared.loss_row.Phase.TheVariants as phase
use Rattle.frame_pass.specs.ReceiveTimes.{IsReceiveTime}

few_bytes : (wide : Bool) (x : ℕ) → length (little_bytes (width wide) x) ≤ 8
few_bytes true x = omega arith
few_bytes false x = omega arith

-- what is apart of more is apart of less
shorter : (a k m b n : ℕ) → k ≤ m → AreApart a m b n → AreApart a k b n
shorter a k m b n less (inl low) = inl (omega (arith, less, low))
shorter a k m b n less (inr high) = inr high

pub drift_step : (cfg : ConfigValue) (w : Words) (step : Step) (at n : ℕ) → phase_of (datagrams_of cfg w step) ≡ phase.Drift → IsUntouched at n → WriteNone at n (datagrams_of cfg w step)
drift_step cfg w Count at n is h = absurd (let x = is in cc)
drift_step cfg w (Identify p) at n is h = absurd (let x = is in cc)
drift_step cfg w Rate at n is h = absurd (let x = is in cc)
drift_step cfg w Latch at n is h = absurd (let x = is in cc)
drift_step cfg w (Times p) at n is h = absurd (let x = is in cc)
drift_step cfg w (Set p) at n is h = absurd (let x = is in cc)
drift_step cfg w Settle at n is h = (inr h.system_time, tt)
drift_step cfg w (Drift k) at n is h = (inr h.system_time, tt)
drift_step cfg w (Arm p) at n is h =
    let start = shorter 0x0990 _ 8 at n (few_bytes (wide_at w p) (start_at cfg w + (plan_at cfg p).shift_ns)) h.start_time in
    (inr h.system_time, (inr h.activation, (inr h.cycle_times, (inr start, (inr h.activation, tt)))))

pub offset_untouched : IsUntouched 0x0920 8
offset_untouched = record { system_time = inl (omega arith); activation = inr (omega arith); start_time = inr (omega arith); cycle_times = inr (omega arith) }

pub delay_untouched : IsUntouched 0x0928 4
delay_untouched = record { system_time = inl (omega arith); activation = inr (omega arith); start_time = inr (omega arith); cycle_times = inr (omega arith) }

pub speed_untouched : IsUntouched 0x0930 2
speed_untouched = record { system_time = inl (omega arith); activation = inr (omega arith); start_time = inr (omega arith); cycle_times = inr (omega arith) }

pub times_untouched : (at n : ℕ) → IsReceiveTime at n → IsUntouched at n
times_untouched at n (inl h) =
    let high = h.1 in
    record { system_time = inr high; activation = inr (omega (arith, high)); start_time = inr (omega (arith, high)); cycle_times = inr (omega (arith, high)) }
times_untouched at n (inr h) =
    let low = h.0 in
    let high = h.1 in
    record { system_time = inl (omega (arith, low)); activation = inr (omega (arith, high)); start_time = inr (omega (arith, high)); cycle_times = inr (omega (arith, high)) }
