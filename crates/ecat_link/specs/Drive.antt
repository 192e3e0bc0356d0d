-- A script that is run over the state of a segment, by turns.
use Rattle.std.specs.Prelude.{◌≡◌, ℕ, zero, suc, List, [], ◌∷◌, ◌++◌, Option, Some, None}
use Rattle.ecat_frame.specs.FrameGrammar.{FrameValue}
use Rattle.ecat_link.specs.Exchanges.{Exchange, StepOf, Runs}
use Rattle.ecat_link.specs.Serves.{Next, Send, End, Sends}

-- how a run ends: all exchanges up to then, the state of the segment, and the answer
pub record Ending (S A : Type 0) : Type 0 where
  pub exchanges : List Exchange
  pub state : S
  pub answer : A

-- a frame that is sent after a wait from this state, and what comes back
abbrev pub exchange_of : {S : Type 0} → StepOf S → S → ℕ → FrameValue → Exchange
exchange_of step s wait_ns frame = record { wait_ns = wait_ns; sent = frame; back = (step s wait_ns frame).1 }

-- The run of a script from these exchanges and this state on: each turn sends what the script wants
-- next, or ends with its answer. None where the turns do not suffice.
unfoldable pub drive : {S A : Type 0} → StepOf S → (List Exchange → Next A) → ℕ → List Exchange → S → Option (Ending S A)
drive step next zero before s = None
drive step next (suc turns) before s = elim (next before) [
  | End answer ↦ Some (record { exchanges = before; state = s; answer = answer })
  | Send wait_ns frame ↦ drive step next turns (before ++ exchange_of step s wait_ns frame ∷ []) (step s wait_ns frame).0
]

-- A run that went on from these exchanges and this state: more exchanges by the step, each what the script wanted, up to
-- its end.
pub record IsDriven {S A : Type 0} (step : StepOf S) (next : List Exchange → Next A) (before : List Exchange) (s : S)
    (run : Ending S A) : Type 0 where
  pub more : List Exchange
  pub all : run.exchanges ≡ before ++ more
  pub runs : Runs step (Some s) more (Some run.state)
  pub script : Sends next before more
  pub end : next run.exchanges ≡ End run.answer
