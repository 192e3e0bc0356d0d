-- Every frame of a master gives no slave a station address but its own.
use Rattle.std.proofs.Common.{◌≡◌, ℕ, ◌<◌, ◌≤◌, refl, arith, inl, inr}
use Rattle.ecat_frame.specs.FrameGrammar.{DatagramValue}
use Rattle.wrap_time.specs.WordLess.{word_less}
use Rattle.frame_pass.specs.DatagramTable.{raised_by}
use Rattle.frame_pass.specs.Aside.{never_writes}
use Rattle.master_script.specs.Config.{ConfigValue}
use Rattle.master_script.specs.Frames.{asks, station}
use Rattle.byteorder.specs.Endian.{little_bytes}
use Rattle.ecat_frame.specs.declared.command.Command.TheVariants.{Apwr}
use Rattle.master_script.specs.Steps.{datagrams_of}
use Rattle.master_script.specs.Words.{Words}
use Rattle.master_script.specs.declared.step.Step.{Step}
use Rattle.master_script.specs.declared.step.Step.TheVariants.{Count, Identify, Rate, Latch, Times, Set, Settle, Drift, Arm}
use Rattle.honest_slaves.specs.Told.{IsNear}
use Rattle.honest_slaves.specs.Mindful.{Names, IsMindful, AreMindful}

-- a datagram above the station address
above : (d : DatagramValue) → 0x0012 ≤ d.head.ado → IsMindful 0 d
above d low = inr (inl (inr (omega (arith, low))))

-- the datagram with which Identify begins
abbrev pub naming : ℕ → DatagramValue
naming p = asks 0 Apwr (word_less 16 0 p) 0x0010 (little_bytes 2 (station p))

raised_zero : (p : ℕ) → word_less 16 0 p ≡ raised_by 0 (word_less 16 0 p)
raised_zero p = omega arith

pub names : (p : ℕ) → p < 256 → Names p 0 (naming p)
names p few = record { command = refl; ado = refl; adp = raised_zero p; payload = refl; few = few }

pub mindful_step : (cfg : ConfigValue) (w : Words) (step : Step) → IsNear step → AreMindful 0 (datagrams_of cfg w step)
unfolding never_writes
mindful_step cfg w Count h = (inl refl, tt)
mindful_step cfg w (Identify p) h = (inr (inr (p, names p h)), (inl refl, (inl refl, (inl refl, tt))))
mindful_step cfg w Rate h = (above _ (omega arith), tt)
mindful_step cfg w Latch h = (above _ (omega arith), tt)
mindful_step cfg w (Times p) h = (inl refl, (inl refl, tt))
mindful_step cfg w (Set p) h = (above _ (omega arith), (above _ (omega arith), tt))
mindful_step cfg w Settle h = (above _ (omega arith), tt)
mindful_step cfg w (Drift k) h = (above _ (omega arith), tt)
mindful_step cfg w (Arm p) h = (above _ (omega arith), (above _ (omega arith), (above _ (omega arith), (above _ (omega arith), (above _ (omega arith), tt)))))
