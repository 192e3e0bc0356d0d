-- Every frame of a script is planned.
use Rattle.std.proofs.Common.{◌≡◌, ℕ, ◌+◌, ◌≤◌, Bool, true, false, [], ◌∷◌, length, Option, Some, None, refl, arith, inl, inr}
use Rattle.std.specs.Prelude.{is_some}
use Rattle.byteorder.specs.Endian.{little_bytes}
use Rattle.ecat_frame.specs.FrameGrammar.{DatagramValue}
use Rattle.ecat_frame.specs.declared.command.Command.TheVariants.{Fpwr}
use Rattle.frame_pass.specs.WriteEffects.{has_bit}
use Rattle.frame_pass.specs.Aside.{never_writes}
use Rattle.master_script.specs.Config.{ConfigValue, plan_at}
use Rattle.master_script.specs.Frames.{activation, asks, station, width}
use Rattle.master_script.specs.Steps.{datagrams_of}
use Rattle.master_script.specs.Words.{Words, offset_at, wide_at}
use Rattle.master_script.specs.declared.step.Step.{Step}
use Rattle.master_script.specs.declared.step.Step.TheVariants.{Count, Identify, Rate, Latch, Times, Set, Settle, Drift, Arm}
use Rattle.honest_slaves.specs.Planned.{ArePlanned, IsPlanned, plans_sync1}

-- an activation has the bit of SYNC1 where there is one
bit_planned : (o : Option ℕ) → has_bit 2 (activation o) ≡ true → is_some o ≡ true
bit_planned None e = absurd (let z = e in cc)
bit_planned (Some ns) e = refl

few_bytes : (wide : Bool) (x : ℕ) → length (little_bytes (width wide) x) ≤ 8
few_bytes true x = omega arith
few_bytes false x = omega arith

-- a datagram below the activation, and one above it
below : (sync1 : ℕ → Bool) (d : DatagramValue) → d.head.ado + length d.payload ≤ 0x0981 → IsPlanned sync1 d
below sync1 d low = inr (inl (inl low))

above : (sync1 : ℕ → Bool) (d : DatagramValue) → 0x0982 ≤ d.head.ado → IsPlanned sync1 d
above sync1 d high = inr (inl (inr (omega (arith, high))))

-- one that brings the slave at a position its activation
brings : (sync1 : ℕ → Bool) (index p byte : ℕ) → (has_bit 2 byte ≡ true → sync1 p ≡ true) → IsPlanned sync1 (asks index Fpwr (station p) 0x0981 (byte ∷ []))
brings sync1 index p byte planned = inr (inr (record { position = p; byte = byte; command = refl; adp = refl; ado = refl; payload = refl; planned = planned }))

none_planned : (sync1 : ℕ → Bool) (p : ℕ) → has_bit 2 0 ≡ true → sync1 p ≡ true
none_planned sync1 p bit = absurd (let z = bit in cc)

pub planned_step : (cfg : ConfigValue) (w : Words) (step : Step) → ArePlanned (plans_sync1 cfg) (datagrams_of cfg w step)
unfolding never_writes
planned_step cfg w Count = (inl refl, tt)
planned_step cfg w (Identify p) = (below _ _ (omega arith), (inl refl, (inl refl, (inl refl, tt))))
planned_step cfg w Rate = (below _ _ (omega arith), tt)
planned_step cfg w Latch = (below _ _ (omega arith), tt)
planned_step cfg w (Times p) = (inl refl, (inl refl, tt))
planned_step cfg w (Set p) =
    let few = few_bytes (wide_at w p) (offset_at cfg w p) in
    (below _ _ (omega (arith, few)), (below _ _ (omega arith), tt))
planned_step cfg w Settle = (below _ _ (omega arith), tt)
planned_step cfg w (Drift k) = (below _ _ (omega arith), tt)
planned_step cfg w (Arm p) =
    let sync1 = plans_sync1 cfg in
    let last = (plan_at cfg p).sync1_ns in
    (below _ _ (omega arith), (brings sync1 1 p 0 (none_planned sync1 p), (above _ _ (omega arith), (above _ _ (omega arith), (brings sync1 4 p (activation last) (bit_planned last), tt)))))
