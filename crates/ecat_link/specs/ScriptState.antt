-- A link that answers from a list of replies.
use Rattle.std.specs.Prelude.{ℕ, List, [], ◌∷◌, ⊤, Option, Some, None}
use Rattle.dc_base.specs.Causes.{raised}
use Rattle.ecat_frame.specs.FrameGrammar.{FrameValue}
use Rattle.ecat_link.specs.declared.script_link.ScriptReply.{ScriptReply}
use Rattle.ecat_link.specs.declared.script_link.ScriptReply.TheVariants.{Lose, Echo, Give}

pub record ScriptState : Type 0 where
  -- the replies that are left
  pub replies : List ScriptReply
  -- how many frames were lost
  pub lost : ℕ

-- the next reply is Lose, or no reply is left
abbrev pub LosesNext : List ScriptReply → Type 0
LosesNext [] = ⊤
LosesNext (Lose ∷ rest) = ⊤
LosesNext (Echo ∷ rest) = ⊥
LosesNext (Give given ∷ rest) = ⊥

-- what is left of the replies, and what comes back, where a frame is answered by the next reply
abbrev pub replied : List ScriptReply → ℕ → FrameValue → ScriptState × Option FrameValue
replied [] lost frame = (record { replies = []; lost = raised lost }, None)
replied (Lose ∷ rest) lost frame = (record { replies = rest; lost = raised lost }, None)
replied (Echo ∷ rest) lost frame = (record { replies = rest; lost = lost }, Some frame)
replied (Give given ∷ rest) lost frame = (record { replies = rest; lost = lost }, Some given)

-- the step of such a link, whatever the wait is
abbrev pub script_step : ScriptState → ℕ → FrameValue → ScriptState × Option FrameValue
script_step s wait_ns frame = replied s.replies s.lost frame
