-- Exchanges of worked rows: two clocks in a line, of 64 bits, at a frame period of 1 ms, with at most one drift frame lost in
-- a row.
use Rattle.std.specs.Prelude.{ℕ, ◌+◌, ◌%◌, ◌^◌, true, List, [], ◌∷◌, ◌++◌, replicate, Some, None}
use Rattle.byteorder.specs.Endian.{little_bytes}
use Rattle.ecat_frame.specs.FrameGrammar.{DatagramValue}
use Rattle.ecat_frame.specs.declared.command.Command.{Command}
use Rattle.ecat_link.specs.Exchanges.{Exchange}
use Rattle.dc_delay.specs.declared.kind.Kind.{Kind}
use Rattle.master_script.specs.declared.plan.SyncPlan.{SyncPlan}
use Rattle.master_script.specs.Config.{ConfigValue}
use Rattle.master_script.specs.Frames.{station, count_datagrams, identify_datagrams, rate_datagrams, latch_datagrams, times_datagrams, set_datagrams, drift_datagrams}
use Rattle.ecat_frame.specs.Built.{built}

-- the configuration
abbrev pub base : ConfigValue
base = record {
  kinds = record { tp_ns = 310; tf_ns = 300 } ∷ record { tp_ns = 310; tf_ns = 300 } ∷ [];
  plans = record { shift_ns = 0; sync1_ns = None } ∷ record { shift_ns = 0; sync1_ns = None } ∷ [];
  frame_ns = 1000000;
  speed = 4096;
  loss_run = 1;
  epoch_ns = 800000000000000000;
  lock_in = 0;
  cycle_ns = 1000000;
}

-- a frame that is lost
abbrev pub lost : List DatagramValue → Exchange
lost ds = record { wait_ns = 1000000; sent = built ds; back = None }

-- a frame that comes back as it was sent
abbrev pub echo : List DatagramValue → Exchange
echo ds = record { wait_ns = 1000000; sent = built ds; back = Some (built ds) }

-- datagrams with other data and counters
abbrev pub filled : List DatagramValue → List (List ℕ × ℕ) → List DatagramValue
filled [] xs = []
filled (d ∷ ds) [] = d ∷ ds
filled (d ∷ ds) (x ∷ xs) = record d { payload = x.0; wkc = x.1 } ∷ filled ds xs

-- a frame that comes back with these data and counters
abbrev pub came : List DatagramValue → List (List ℕ × ℕ) → Exchange
came ds xs = record { wait_ns = 1000000; sent = built ds; back = Some (built (filled ds xs)) }

-- Count with so many slaves
abbrev pub counts : ℕ → Exchange
counts n = came count_datagrams ((0 ∷ [], n) ∷ [])

-- Identify with these features, DL status and fourth counter
abbrev pub tells : ℕ → ℕ → ℕ → ℕ → Exchange
tells p features status fourth =
    came (identify_datagrams p)
    ((little_bytes 2 (station p), 1) ∷ (little_bytes 2 features, 1) ∷ (little_bytes 2 status, 1) ∷ (replicate 4 0, fourth) ∷ [])

-- Identify of a clock of 64 bits with this DL status
abbrev pub identifies : ℕ → ℕ → Exchange
identifies p status = tells p 0x000C status 1

-- Identify of a clockless slave with this DL status
abbrev pub identifies_none : ℕ → ℕ → Exchange
identifies_none p status = tells p 0 status 0

-- Times with the times of ports 0 and 1
abbrev pub tells_times : ℕ → ℕ → ℕ → Exchange
tells_times p first second =
    came (times_datagrams p true) ((little_bytes 4 first ++ little_bytes 4 second ++ replicate 8 0, 1) ∷ (replicate 8 0, 1) ∷ [])

-- Set of a clock of 64 bits
abbrev pub sets : ℕ → ℕ → ℕ → Exchange
sets p offset delay = came (set_datagrams p true offset delay) ((replicate 8 0, 1) ∷ (replicate 4 0, 1) ∷ [])

-- Drift, which brings this low half of the time of the reference
abbrev pub drifts : ℕ → Exchange
drifts low = came (drift_datagrams 0) ((little_bytes 4 low, 2) ∷ [])

-- Count returned with another command, index and counter
abbrev pub other : Command → ℕ → ℕ → Exchange
other command index wkc = record {
  wait_ns = 1000000;
  sent = built count_datagrams;
  back = Some (built (record {
    head = record { command = command; index = index; adp = 2; ado = 0 };
    flags = 8;
    irq = 0;
    payload = 0 ∷ [];
    wkc = wkc;
  } ∷ []));
}

-- two slaves that have these statuses
abbrev pub statuses : ℕ → ℕ → List Exchange
statuses first second = counts 2 ∷ identifies 0 first ∷ identifies 1 second ∷ []

-- commissioning up to the last Times, with one latch frame lost, where the first slave's ports read these times
abbrev pub measures : ℕ → ℕ → List Exchange
measures first second =
    counts 2 ∷ identifies 0 0x5A30 ∷ identifies 1 0x5610 ∷ came (rate_datagrams 4096) ((little_bytes 2 4096, 2) ∷ []) ∷ lost latch_datagrams
    ∷ came latch_datagrams ((replicate 4 0, 2) ∷ []) ∷ tells_times 0 first second ∷ tells_times 1 0 0 ∷ []

-- the same for four slaves
abbrev pub four_kinds : ConfigValue
four_kinds =
    let kind : Kind = record { tp_ns = 310; tf_ns = 300 } in
    let plan : SyncPlan = record { shift_ns = 0; sync1_ns = None } in
    record base { kinds = kind ∷ kind ∷ kind ∷ kind ∷ []; plans = plan ∷ plan ∷ plan ∷ plan ∷ [] }

-- commissioning up to the last Identify: two clocks hang at the second slave, which is clockless
abbrev pub branches : List Exchange
branches = counts 4 ∷ identifies 0 0x5A30 ∷ identifies_none 1 0x6A70 ∷ identifies 2 0x5610 ∷ identifies 3 0x5610 ∷ []

-- commissioning of the two slaves
abbrev pub commissions : List Exchange
commissions =
    counts 2 ∷ identifies 0 0x5A30 ∷ identifies 1 0x5610 ∷ came (rate_datagrams 4096) ((little_bytes 2 4096, 2) ∷ [])
    ∷ came latch_datagrams ((replicate 4 0, 2) ∷ [])
    ∷ tells_times 0 5000020 5000740 ∷ tells_times 1 0 0 ∷ sets 0 799999999994999980 0 ∷ sets 1 799999999995000000 360 ∷ []

-- their commissioning and settling, with two settle frames
abbrev pub settles : List Exchange
settles = commissions ++ drifts 0 ∷ drifts ((800000000000000000 + 6000000) % 2 ^ 32) ∷ []

-- the same where three drift frames in a row may be lost: of four settle frames the last three are
abbrev pub losing : ConfigValue
losing = record base { loss_run = 3 }

-- its commissioning and settling
abbrev pub settles_losing : List Exchange
settles_losing =
    commissions ++ drifts ((800000000000000000 + 5000000) % 2 ^ 32) ∷ lost (drift_datagrams 0) ∷ lost (drift_datagrams 0)
    ∷ lost (drift_datagrams 0) ∷ []
