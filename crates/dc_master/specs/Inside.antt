-- How a master is kept.
use Rattle.std.specs.Prelude.{◌≡◌, ℕ, ◌<◌, ◌≤◌, nat_lt, if◌then◌else◌, List, Option, Some, None, length}
use Rattle.master_steps.specs.ConfigRange.{IsConfig, value_of}
use Rattle.master_steps.specs.Known.{words_of}
use Rattle.dc_master.specs.Made.{Stands}
use Rattle.dc_master.specs.Places.{IsFresh, IsReady}
use Rattle.master_steps.specs.declared.exchange.Counters.{Counters}
use Rattle.dc_master.specs.declared.master.Master.TheInside.{Inside}
use Rattle.master_script.specs.Config.{ConfigValue, settle_frames}
use Rattle.master_script.specs.Kept.{Kept}
use Rattle.master_script.specs.Slaves.{clocks}
use Rattle.master_script.specs.Words.{Words, start_at}
use Rattle.master_script.specs.declared.step.Refusal.{Refusal}
use Rattle.master_script.specs.declared.step.Stage.{Stage}
use Rattle.master_script.specs.declared.step.Stage.TheVariants.{Fresh, Commissioned, Settled, Armed, Ended, Spent}

-- what is kept, with the start time from the first frame of arming on
abbrev pub kept : ConfigValue → Stage → Option Refusal → Counters → Words → List (Option ℕ) → Kept
kept cfg stage refusal n w ds = record {
  config = cfg;
  stage = stage;
  refusal = refusal;
  sent = n.sent;
  lost = n.lost;
  drifts = n.drifts;
  words = w;
  delays = ds;
  start = if nat_lt (settle_frames cfg) n.drifts then Some (start_at cfg w) else None;
}

abbrev pub kept_of : Inside → Kept
kept_of a = kept (value_of a.config) a.stage a.refusal a.notes.counters (words_of a.notes.learned) a.notes.delays.items

-- what holds in a stage; a master is spent exactly where it has a refusal
abbrev pub HasStage : ConfigValue → Counters → Words → List (Option ℕ) → Stage → Option Refusal → Type 0
HasStage cfg n w ds Fresh None = IsFresh cfg n w ds
HasStage cfg n w ds Commissioned None = (n.sent ≤ 2313) × (n.drifts ≡ 0) × IsReady cfg w ds
HasStage cfg n w ds Settled None = (n.sent ≤ 102329) × (n.drifts ≡ settle_frames cfg) × IsReady cfg w ds
HasStage cfg n w ds Armed None = (n.sent ≤ 103097) × IsReady cfg w ds
HasStage cfg n w ds Ended None = n.sent ≤ 203097
HasStage cfg n w ds Spent (Some r) = n.sent ≤ 203097
HasStage cfg n w ds stage refusal = ⊥

pub record IsKept (a : Inside) : Type 0 where
  pub config : IsConfig (value_of a.config)
  pub lost : a.notes.counters.lost ≤ a.notes.counters.sent
  pub drifts : a.notes.counters.drifts ≤ a.notes.counters.sent
  pub started : settle_frames (value_of a.config) < a.notes.counters.drifts → 1 ≤ length (clocks (words_of a.notes.learned).slaves)
  pub stage : HasStage (value_of a.config) a.notes.counters (words_of a.notes.learned) a.notes.delays.items a.stage a.refusal
  pub stands : Stands (kept_of a)
