-- What the stage of a master says of the drift frames.
use Rattle.std.specs.Prelude.{◌≡◌, ℕ, ◌<◌, ◌≤◌, ⊤}
use Rattle.master_script.specs.Config.{ConfigValue, settle_frames}
use Rattle.master_script.specs.declared.step.Stage.{Stage}
use Rattle.master_script.specs.declared.step.Stage.TheVariants.{Fresh, Commissioned, Settled, Armed, Ended, Spent}

-- None was sent while Fresh, the settle phase's own are sent until Settled, and more of them once arming has begun.
abbrev pub HasDrifts : ConfigValue → ℕ → Stage → Type 0
HasDrifts cfg drifts Fresh = drifts ≡ 0
HasDrifts cfg drifts Commissioned = drifts < settle_frames cfg
HasDrifts cfg drifts Settled = settle_frames cfg ≤ drifts
HasDrifts cfg drifts Armed = settle_frames cfg < drifts
HasDrifts cfg drifts Ended = settle_frames cfg < drifts
HasDrifts cfg drifts Spent = ⊤
