-- Exchanges that follow a script.
use Rattle.std.specs.Prelude.{◌≡◌, ℕ, List, [], ◌∷◌, ◌++◌, ⊤, Option}
use Rattle.ecat_frame.specs.FrameGrammar.{FrameValue}
use Rattle.ecat_link.specs.Exchanges.{Exchange, StepOf, Runs}

-- what a script wants after some exchanges: a frame after a wait, or the end of the call with an answer
pub data Next (A : Type 0) : Type 0 where
  Send : (wait_ns : ℕ) (frame : FrameValue) → Next A
  End : (answer : A) → Next A

-- each of the exchanges is what the script wants next, behind those before it
abbrev pub Sends : {A : Type 0} → (List Exchange → Next A) → List Exchange → List Exchange → Type 0
Sends next before [] = ⊤
Sends next before (e ∷ es) = (next before ≡ Send e.wait_ns e.sent) × Sends next (before ++ e ∷ []) es

-- Over a link that went from state s to state t some exchanges were made. Whatever list of exchanges
-- with P stood before them, they are the script's next ones, and the longer list has Q.
pub record Serves {S A : Type 0} (step : StepOf S) (next : List Exchange → Next A) (P : List Exchange → Type 0)
    (s t : Option S) (Q : List Exchange → Type 0) : Type 0 where
  pub exchanges : List Exchange
  pub runs : Runs step s exchanges t
  pub script : (before : List Exchange) → P before → Sends next before exchanges
  pub stands : (before : List Exchange) → P before → Q (before ++ exchanges)
