use Rattle.std.proofs.Common.{ℕ, inl, inr, arith}
use Rattle.copy_law.specs.Untouched.{AreLasting, IsUntouched}
use Rattle.frame_pass.specs.PlainRegisters.{IsPlain}
use Rattle.copy_law.proofs.Untouching.{delay_untouched, offset_untouched, speed_untouched, times_untouched}
use Rattle.copy_law.proofs.Slaves.{IsHeldOn, plain_held, times_held}
use Rattle.copy_law.proofs.Held.{armed_holds, ran_holds, settled_holds, whole_holds}
use Rattle.copy_law.proofs.laws.registers_stay.Goals as goal

offset_plain : IsPlain 0x0920 8
offset_plain = record { ports = inl (omega arith); unit = inl (omega arith); difference = inr (omega arith); status = inr (omega arith); stamp = inr (omega arith) }

delay_plain : IsPlain 0x0928 4
delay_plain = record { ports = inl (omega arith); unit = inl (omega arith); difference = inr (omega arith); status = inr (omega arith); stamp = inr (omega arith) }

speed_plain : IsPlain 0x0930 2
speed_plain = record { ports = inl (omega arith); unit = inl (omega arith); difference = inl (omega arith); status = inr (omega arith); stamp = inr (omega arith) }

-- what lasts is held on, and untouched
held : (at n : ℕ) → AreLasting at n → IsHeldOn at n × IsUntouched at n
held at n (inl time) = (times_held at n time, times_untouched at n time)
held at n (inr plain) = (plain_held at n plain.0, plain.1)

pub returns : goal.returns
returns c = record {
  settled = λ s first run at n legal was is lasting. let h = held at n lasting in settled_holds s legal at n h.0 h.1 first run was is;
  armed = λ s first run at n legal was is lasting. let h = held at n lasting in armed_holds s legal at n h.0 h.1 first run was is;
  ran = λ s first run at n legal was is lasting. let h = held at n lasting in ran_holds s legal at n h.0 h.1 first run was is;
  whole = λ s first run at n legal was is lasting. let h = held at n lasting in whole_holds s legal at n h.0 h.1 first run was is;
  offset = inr (offset_plain, offset_untouched);
  delay = inr (delay_plain, delay_untouched);
  speed = inr (speed_plain, speed_untouched);
}
