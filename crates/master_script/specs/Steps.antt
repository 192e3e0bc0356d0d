-- The steps of the script: what each sends, which counters it expects, and what it learns.
use Rattle.std.specs.Prelude.{ℕ, ◌+◌, ◌==◌, if◌then◌else◌, Bool, List, [], ◌∷◌, ◌++◌, length, drop, Some, slice_index_or, slice_set}
use Rattle.byteorder.specs.Endian.{little_number}
use Rattle.ecat_frame.specs.Built.{built}
use Rattle.ecat_frame.specs.FrameGrammar.{DatagramValue, FrameValue}
use Rattle.ecat_frame.specs.declared.command.Command.TheVariants.{Nop}
use Rattle.dc_delay.specs.declared.latch.Latch.{Latch}
use Rattle.master_script.specs.Config.{ConfigValue, slaves, plan_at}
use Rattle.master_script.specs.Frames.{asks, width, count_datagrams, identify_datagrams, rate_datagrams, latch_datagrams, times_datagrams, set_datagrams, drift_datagrams, arm_datagrams}
use Rattle.master_script.specs.Slaves.{SlaveWords, is_measuring, measuring, clocks}
use Rattle.master_script.specs.Words.{Words, wide_at, reference_of, offset_at, delay_at, start_at}
use Rattle.master_script.specs.declared.step.Step.{Step}
use Rattle.master_script.specs.declared.step.Step.TheVariants.{Count, Identify, Rate, Latch as LatchStep, Times, Set, Settle, Drift, Arm}

-- the datagrams of a step
abbrev pub datagrams_of : ConfigValue → Words → Step → List DatagramValue
datagrams_of cfg w Count = count_datagrams
datagrams_of cfg w (Identify p) = identify_datagrams p
datagrams_of cfg w Rate = rate_datagrams cfg.speed
datagrams_of cfg w LatchStep = latch_datagrams
datagrams_of cfg w (Times p) = times_datagrams p (wide_at w p)
datagrams_of cfg w (Set p) = set_datagrams p (wide_at w p) (offset_at cfg w p) (delay_at cfg w p)
datagrams_of cfg w Settle = drift_datagrams (reference_of w)
datagrams_of cfg w (Drift k) = drift_datagrams (reference_of w)
datagrams_of cfg w (Arm p) =
    arm_datagrams (reference_of w) p (wide_at w p) cfg.cycle_ns (plan_at cfg p).sync1_ns (start_at cfg w + (plan_at cfg p).shift_ns)

-- the frame of a step
unfoldable pub frame_of : ConfigValue → Words → Step → FrameValue
frame_of cfg w step = built (datagrams_of cfg w step)

-- datagram k of a frame
abbrev pub datagram_at : FrameValue → ℕ → DatagramValue
datagram_at f k = slice_index_or f.datagrams k (asks 0 Nop 0 0 [])

-- its data
abbrev pub data_at : FrameValue → ℕ → List ℕ
data_at f k = (datagram_at f k).payload

-- its working counter
abbrev pub wkc_at : FrameValue → ℕ → ℕ
wkc_at f k = (datagram_at f k).wkc

-- what a reply tells of its slave by three datagrams from this one on: its features, its DL status, and the working counter of the
-- read of its system time
abbrev pub identified_from : ℕ → FrameValue → SlaveWords
identified_from k f = record {
  features = little_number 2 (data_at f k);
  status = little_number 2 (data_at f (k + 1));
  fourth = wkc_at f (k + 2);
}

-- what a reply to Identify tells of its slave
abbrev pub identified : FrameValue → SlaveWords
identified f = identified_from 1 f

-- what a reply to Times tells
abbrev pub latch_in : Bool → FrameValue → Latch
latch_in wide f = record {
  ports = little_number 4 (data_at f 0) ∷ little_number 4 (drop 4 (data_at f 0)) ∷ little_number 4 (drop 8 (data_at f 0))
      ∷ little_number 4 (drop 12 (data_at f 0)) ∷ [];
  unit = little_number (width wide) (data_at f 1);
}

-- the low half of the time of the reference, as a drift frame brings it back
abbrev pub low_in : FrameValue → ℕ
low_in f = little_number 4 (data_at f 0)

-- the expected counter of Identify's fourth datagram, which a measuring slave without a system time refuses
abbrev pub expected_fourth : SlaveWords → ℕ
expected_fourth s = if is_measuring s then (if s.fourth == 0 then 0 else 1) else 0

-- the expected counters of a step; that of Identify's fourth datagram depends on the reply
abbrev pub expected : ConfigValue → Words → Step → FrameValue → List ℕ
expected cfg w Count f = slaves cfg ∷ []
expected cfg w (Identify p) f = 1 ∷ 1 ∷ 1 ∷ expected_fourth (identified f) ∷ []
expected cfg w Rate f = length (clocks w.slaves) ∷ []
expected cfg w LatchStep f = length (measuring w.slaves) ∷ []
expected cfg w (Times p) f = 1 ∷ 1 ∷ []
expected cfg w (Set p) f = 1 ∷ 1 ∷ []
expected cfg w Settle f = length (clocks w.slaves) ∷ []
expected cfg w (Drift k) f = length (clocks w.slaves) ∷ []
expected cfg w (Arm p) f = length (clocks w.slaves) ∷ 1 ∷ 1 ∷ 1 ∷ 1 ∷ []

-- what is known after the reply to a step, whose sending had this number; only Identify, Latch and Times teach something
abbrev pub learned : ℕ → Step → FrameValue → Words → Words
learned sent (Identify p) f w = record w { slaves = w.slaves ++ identified f ∷ [] }
learned sent LatchStep f w = record w { latched = sent }
learned sent (Times p) f w = record w { latches = slice_set w.latches p (Some (latch_in (wide_at w p) f)) }
learned sent step f w = w
