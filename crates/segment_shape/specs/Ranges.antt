-- What holds of a segment file: its numbers lie in their ranges, ids have their form, and what a slave
-- has no use for is absent.
use Rattle.std.specs.Prelude.{◌≡◌, ℕ, ◌<◌, ◌≤◌, true, false, List, [], length, map, None, IfSome}
use Rattle.std.specs.List.{All, AllPairs}
use Rattle.osc_clock.specs.Ticks.{Rate, AreRising}
use Rattle.segment_shape.specs.Head.{HeadValue}
use Rattle.loss_list.specs.Losses.{is_loss_of}
use Rattle.segment_shape.specs.Slaves.{ParentValue, SlaveValue}
use Rattle.esc_regs.specs.Kinds.{measures, has_clock, greatest_start}
use Rattle.segment_shape.specs.Values.{is_id}
use Rattle.segment_shape.specs.ShapeOf.{ShapeValue}
use Rattle.segment_shape.specs.Twice.{first_again}
use Rattle.loss_list.specs.declared.loss_row.LossRow.{LossRow}

-- the head's numbers
pub record IsHead (h : HeadValue) : Type 0 where
  pub version : (1 ≤ h.version) × (h.version ≤ 2)
  pub ppm : h.ppm ≤ 100
  pub frame_ns : (50000 ≤ h.frame_ns) × (h.frame_ns ≤ 10000000)
  pub speed : (128 ≤ h.speed) × (h.speed ≤ 16383)
  pub loss_run : h.loss_run ≤ 15
  pub epoch_ns : h.epoch_ns ≤ 4000000000000000000
  pub cycle_ns : (50000 ≤ h.cycle_ns) × (h.cycle_ns ≤ 500000000)
  pub cycles : (1 ≤ h.cycles) × (h.cycles ≤ 100000)

-- the numbers of a change of a period
pub record IsRate (r : Rate) : Type 0 where
  pub tick : r.tick ≤ 1000000000000
  pub period : r.period ≤ 20000000

-- a slave's parent
pub record IsParent (p : ParentValue) : Type 0 where
  pub id : is_id p.id ≡ true
  pub port : (1 ≤ p.port) × (p.port ≤ 3)

-- a slave, in a file of this version and cycle time
pub record IsSlave (version cycle_ns : ℕ) (s : SlaveValue) : Type 0 where
  pub id : is_id s.id ≡ true
  pub tp_ns : (1 ≤ s.tp_ns) × (s.tp_ns ≤ 10000)
  pub tf_ns : (1 ≤ s.tf_ns) × (s.tf_ns ≤ 10000)
  pub cable_ps : s.cable_ps ≤ 100000000
  pub parent : IfSome s.parent IsParent
  pub start : s.start ≤ greatest_start s.kind
  pub phase_fs : s.phase_fs ≤ 20000000
  pub period_fs : s.period_fs ≤ 20000000
  pub measuring : measures s.kind ≡ true → (1 ≤ s.phase_fs) × (1 ≤ s.period_fs)
  pub few : length s.rates ≤ 64
  pub rates : All IsRate s.rates
  pub rising : AreRising 0 s.rates
  pub shift_ns : s.shift_ns < cycle_ns
  pub sync1_ns : IfSome s.sync1_ns (λ ns. (1 ≤ ns) × (ns < cycle_ns))
  -- a slave that does not measure has no oscillator
  pub silent : measures s.kind ≡ false → (s.start ≡ 0) × (s.phase_fs ≡ 0) × (s.period_fs ≡ 0) × (s.rates ≡ [])
  -- in version 1 no period changes
  pub steady : version ≡ 1 → s.rates ≡ []
  -- a slave that is no clock has no signals
  pub signalless : has_clock s.kind ≡ false → (s.shift_ns ≡ 0) × (s.sync1_ns ≡ None)

-- the numbers of a loss, in a file of so many slaves
pub record IsLoss (slaves : ℕ) (r : LossRow) : Type 0 where
  pub number : (1 ≤ r.number) × (r.number ≤ 100000)
  pub after : r.after ≤ slaves

-- no frame is listed twice as lost
abbrev pub AreOnce : List LossRow → Type 0
AreOnce rows = AllPairs (λ q r. is_loss_of r.phase r.number q ≡ false) rows

-- a file
pub record IsFile (s : ShapeValue) : Type 0 where
  pub head : IsHead s.head
  pub few_slaves : length s.slaves ≤ 256
  pub slaves : All (IsSlave s.head.version s.head.cycle_ns) s.slaves
  pub few_losses : length s.losses ≤ 10000
  pub losses : All (IsLoss (length s.slaves)) s.losses
  pub once : AreOnce s.losses
  pub distinct : first_again [] (map (λ r. r.id) s.slaves) ≡ None
