-- Exchanges that calls of the script have made.
use Rattle.std.specs.Prelude.{◌≡◌, ℕ, ◌≤◌, ⊤, List, [], ◌∷◌, ◌++◌}
use Rattle.ecat_link.specs.Exchanges.{Exchange}
use Rattle.ecat_link.specs.Serves.{Send}
use Rattle.master_script.specs.Config.{ConfigValue}
use Rattle.master_script.specs.Script.{Call, Run, script}

-- `run` is given at most so many frames
abbrev pub IsLimited : ℕ → Call → Type 0
IsLimited frames (Run k) = k ≤ frames
IsLimited frames call = ⊤

-- each exchange sent, after the wait, the frame that some call wanted next
pub data AreScripted (cfg : ConfigValue) (frames : ℕ) : List Exchange → Type 0 where
  none : AreScripted cfg frames []
  more : (es : List Exchange) (e : Exchange) (call : Call) → AreScripted cfg frames es → IsLimited frames call
      → script cfg call es ≡ Send e.wait_ns e.sent → AreScripted cfg frames (es ++ e ∷ [])
