-- Frames that write nothing at a place of any slave, whatever its station address.
use Rattle.std.proofs.Common.{ℕ, List, [], ◌∷◌, refl, arith, inl, inr}
use Rattle.std.specs.Prelude.{⊤}
use Rattle.ecat_frame.specs.FrameGrammar.{DatagramValue}
use Rattle.frame_pass.specs.SlaveState.{Slave, station}
use Rattle.frame_pass.specs.DatagramAtSlave.{slave_after}
use Rattle.frame_pass.specs.FramePass.{datagrams_behind}
use Rattle.frame_pass.specs.PlainRegisters.{AreLeft}
use Rattle.frame_pass.specs.Aside.{HaveSize, never_writes}
use Rattle.frame_pass.proofs.Exported.{apart_where_written, aside_behind}
use Rattle.master_script.specs.Config.{ConfigValue}
use Rattle.master_script.specs.Frames.{latch_datagrams}
use Rattle.master_script.specs.Steps.{datagrams_of}
use Rattle.master_script.specs.Words.{Words}
use Rattle.master_script.specs.declared.step.Step.{Step}
use Rattle.master_script.specs.declared.step.Step.TheVariants.{Count, Identify, Rate, Latch, Times, Set, Settle, Drift, Arm}
use Rattle.delay_law.specs.Far.{AreFar}

pub far_behind : (at n p sent : ℕ) (ss : List Slave) (ds : List DatagramValue) → HaveSize ss → AreFar at n ds → AreFar at n (datagrams_behind p sent ss ds)
far_behind at n p sent ss ds sizes far own = aside_behind at n own p sent ss ds sizes (far own)

pub far_left : (at n : ℕ) (s : Slave) (ds : List DatagramValue) → AreFar at n ds → AreLeft at n s ds
unfolding AreLeft
far_left at n s [] far = tt
far_left at n s (d ∷ ds) far =
    (apart_where_written at n (station s.registers) s d refl (far (station s.registers)).0, far_left at n (slave_after s d) ds (λ own. (far own).1))

-- the steps of commissioning
abbrev pub IsCommissioning : Step → Type 0
IsCommissioning Count = ⊤
IsCommissioning (Identify p) = ⊤
IsCommissioning Rate = ⊤
IsCommissioning Latch = ⊤
IsCommissioning (Times p) = ⊤
IsCommissioning (Set p) = ⊤
IsCommissioning step = ⊥

-- those behind Latch
abbrev pub IsReading : Step → Type 0
IsReading (Times p) = ⊤
IsReading (Set p) = ⊤
IsReading step = ⊥

-- none of them writes the low half of the system time
pub latch_far : AreFar 0x0910 4 latch_datagrams
latch_far own = (inr (inr (inl (omega arith))), tt)

pub far_time : (cfg : ConfigValue) (w : Words) (step : Step) → IsCommissioning step → AreFar 0x0910 4 (datagrams_of cfg w step)
unfolding never_writes
far_time cfg w Count h own = (inl refl, tt)
far_time cfg w (Identify p) h own = (inr (inr (inl (omega arith))), (inl refl, (inl refl, (inl refl, tt))))
far_time cfg w Rate h own = (inr (inr (inr (omega arith))), tt)
far_time cfg w Latch h own = latch_far own
far_time cfg w (Times p) h own = (inl refl, (inl refl, tt))
far_time cfg w (Set p) h own = (inr (inr (inr (omega arith))), (inr (inr (inr (omega arith))), tt))
far_time cfg w Settle h own = absurd h
far_time cfg w (Drift k) h own = absurd h
far_time cfg w (Arm p) h own = absurd h

-- and none behind Latch makes a slave latch
pub far_latch : (cfg : ConfigValue) (w : Words) (step : Step) → IsReading step → AreFar 0x0900 4 (datagrams_of cfg w step)
unfolding never_writes
far_latch cfg w Count h own = absurd h
far_latch cfg w (Identify p) h own = absurd h
far_latch cfg w Rate h own = absurd h
far_latch cfg w Latch h own = absurd h
far_latch cfg w (Times p) h own = (inl refl, (inl refl, tt))
far_latch cfg w (Set p) h own = (inr (inr (inr (omega arith))), (inr (inr (inr (omega arith))), tt))
far_latch cfg w Settle h own = absurd h
far_latch cfg w (Drift k) h own = absurd h
far_latch cfg w (Arm p) h own = absurd h
