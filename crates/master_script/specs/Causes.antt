-- Why a call is refused, whatever link it was made over. A link need not tell what came back, so the causes of Reply and
-- Counter speak of some frame of the grammar; over a link that tells its state the exchanges that were made have it. What the
-- slaves told is kept, and exact over any link.
use Rattle.std.specs.Prelude.{◌≡◌, ℕ, ⊤, List, length, Some, None, Err}
use Rattle.ecat_frame.specs.Difference.{first_difference}
use Rattle.ecat_frame.specs.FrameGrammar.{FrameValue, IsFrame}
use Rattle.master_script.specs.Config.{ConfigValue, slaves}
use Rattle.master_script.specs.Judged.{IsFirstMiscount, counters}
use Rattle.master_script.specs.Script.{Call, Commission, Settle as SettleCall, Arm as ArmCall, Run}
use Rattle.master_script.specs.Slaves.{SlaveWords, judgement}
use Rattle.master_script.specs.Steps.{expected, frame_of}
use Rattle.master_script.specs.Words.{Words}
use Rattle.master_script.specs.declared.step.Refusal.{Refusal}
use Rattle.master_script.specs.declared.step.Refusal.TheVariants.{Lost, Counter, Reply, Topology, NoReference, Unmeasurable}
use Rattle.master_script.specs.declared.step.Step.{Step}
use Rattle.master_script.specs.declared.step.Step.TheVariants.{Settle, Drift, Arm}

-- the step is one of those whose replies a call judges; a drift frame bears its own number, that of the drift frames so far
abbrev pub IsJudgedIn : Call → ℕ → Step → Type 0
IsJudgedIn Commission drifts Settle = ⊥
IsJudgedIn Commission drifts (Drift k) = ⊥
IsJudgedIn Commission drifts (Arm p) = ⊥
IsJudgedIn Commission drifts step = ⊤
IsJudgedIn SettleCall drifts (Drift k) = k ≡ drifts
IsJudgedIn ArmCall drifts (Arm p) = ⊤
IsJudgedIn (Run frames) drifts (Drift k) = k ≡ drifts
IsJudgedIn call drifts step = ⊥

-- the step is one that a call can lose: one that it asks, or all of settling, and none of running
abbrev pub IsLostIn : Call → Step → Type 0
IsLostIn SettleCall Settle = ⊤
IsLostIn SettleCall step = ⊥
IsLostIn (Run frames) step = ⊥
IsLostIn call step = IsJudgedIn call 0 step

-- there is a frame of the grammar in which this is the first byte that differs from the sent one and may not
pub record CameOther (sent : FrameValue) (at : ℕ) : Type 0 where
  pub reply : FrameValue
  pub valid : IsFrame reply
  pub differs : first_difference sent reply ≡ Some at

-- there is a frame of the grammar that differs from that of the step only where it may, and these are the expected number and
-- its own at its first counter that is not the expected one
pub record CameMiscounted (cfg : ConfigValue) (w : Words) (step : Step) (e k : ℕ) : Type 0 where
  pub reply : FrameValue
  pub valid : IsFrame reply
  pub alike : first_difference (frame_of cfg w step) reply ≡ None
  pub miscount : IsFirstMiscount (expected cfg w step reply) (counters reply) e k

-- each slave has told what it is, and the judgement refuses them so
pub record AreRefused (cfg : ConfigValue) (ss : List SlaveWords) (r : Refusal) : Type 0 where
  pub all : length ss ≡ slaves cfg
  pub judged : judgement ss ≡ Err r

-- The cause of a refusal of a call that leaves so many drift frames sent, and these words learned: nothing more was learned from
-- what was refused. How often the link lost a frame is said by its count.
abbrev pub IsCause : ConfigValue → Call → ℕ → Words → Refusal → Type 0
IsCause cfg call drifts w (Lost step) = IsLostIn call step
IsCause cfg call drifts w (Reply step at) = IsJudgedIn call drifts step × CameOther (frame_of cfg w step) at
IsCause cfg call drifts w (Counter step e k) = IsJudgedIn call drifts step × CameMiscounted cfg w step e k
IsCause cfg call drifts w (Topology e) = (call ≡ Commission) × AreRefused cfg w.slaves (Topology e)
IsCause cfg call drifts w NoReference = (call ≡ Commission) × AreRefused cfg w.slaves NoReference
IsCause cfg call drifts w (Unmeasurable k) = (call ≡ Commission) × AreRefused cfg w.slaves (Unmeasurable k)
