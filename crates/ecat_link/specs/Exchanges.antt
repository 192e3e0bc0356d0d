-- Exchanges over a link that tells the state of its segment.
use Rattle.std.specs.Prelude.{◌≡◌, ℕ, List, [], ◌∷◌, ⊤, Option, Some, None, Result, Ok, Err, is_none, count_by}
use Rattle.ecat_frame.specs.FrameGrammar.{FrameValue}

-- a frame that was sent after a wait, and what came back
pub record Exchange : Type 0 where
  pub wait_ns : ℕ
  pub sent : FrameValue
  pub back : Option FrameValue

-- what came back: the frame as it stands, or nothing
abbrev pub back_of : {T E : Type 0} → Result T E → FrameValue → Option FrameValue
back_of (Ok _) frame = Some frame
back_of (Err _) frame = None

-- what a segment does with a frame that is sent after a wait: its next state, and what comes back
abbrev pub StepOf : Type 0 → Type 0
StepOf S = S → ℕ → FrameValue → S × Option FrameValue

-- An exchange by the step: where a state was told, the step gives the next one and what came back.
-- Where none was told, nothing is said.
abbrev pub Follows : {S : Type 0} → StepOf S → Option S → Option S → Exchange → Type 0
Follows step None new e = ⊤
Follows step (Some s) new e = (new ≡ Some (step s e.wait_ns e.sent).0) × (e.back ≡ (step s e.wait_ns e.sent).1)

-- exchanges by the step, one after another
abbrev pub Runs : {S : Type 0} → StepOf S → Option S → List Exchange → Option S → Type 0
Runs step None es new = ⊤
Runs step (Some s) [] new = new ≡ Some s
Runs step (Some s) (e ∷ es) new = (e.back ≡ (step s e.wait_ns e.sent).1) × Runs step (Some (step s e.wait_ns e.sent).0) es new

-- how many of the exchanges were lost
abbrev pub lost_among : List Exchange → ℕ
lost_among es = count_by (λ e. is_none e.back) es
