-- The keys of the objects of a segment file.
use Rattle.std.specs.Prelude.{ℕ, List, codes}
use Rattle.segment_shape.specs.declared.key.Key.{Key}
use Rattle.segment_shape.specs.declared.key.Key.TheVariants as key

-- as it stands in a file
abbrev pub name_of : Key → List ℕ
name_of key.Version = codes "version"
name_of key.Ppm = codes "ppm"
name_of key.FrameNs = codes "frame_ns"
name_of key.Speed = codes "speed"
name_of key.LossRun = codes "loss_run"
name_of key.EpochNs = codes "epoch_ns"
name_of key.CycleNs = codes "cycle_ns"
name_of key.Cycles = codes "cycles"
name_of key.Slaves = codes "slaves"
name_of key.Losses = codes "losses"
name_of key.Id = codes "id"
name_of key.Clock = codes "clock"
name_of key.TpNs = codes "tp_ns"
name_of key.TfNs = codes "tf_ns"
name_of key.CablePs = codes "cable_ps"
name_of key.Parent = codes "parent"
name_of key.Port = codes "port"
name_of key.Start = codes "start"
name_of key.PhaseFs = codes "phase_fs"
name_of key.PeriodFs = codes "period_fs"
name_of key.ShiftNs = codes "shift_ns"
name_of key.Sync1Ns = codes "sync1_ns"
name_of key.Rates = codes "rates"
name_of key.Tick = codes "tick"
name_of key.Phase = codes "phase"
name_of key.Number = codes "number"
name_of key.After = codes "after"
