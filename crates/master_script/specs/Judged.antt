-- How a reply is judged, the same for every step: Reply first, and Counter only where Reply does not come.
use Rattle.std.specs.Prelude.{◌≡◌, ◌≢◌, ℕ, ◌==◌, if◌then◌else◌, List, [], ◌∷◌, map, take, Option, Some, None, slice_get}
use Rattle.ecat_frame.specs.Difference.{first_difference}
use Rattle.ecat_frame.specs.FrameGrammar.{DatagramValue, FrameValue}
use Rattle.master_script.specs.declared.step.Refusal.{Refusal}
use Rattle.master_script.specs.declared.step.Refusal.TheVariants.{Reply, Counter}
use Rattle.master_script.specs.declared.step.Step.{Step}

-- the working counters of a frame
abbrev pub counters : FrameValue → List ℕ
counters f = map (λ (d : DatagramValue). d.wkc) f.datagrams

-- these are the numbers at the first place where the counters are not the expected ones
pub record IsFirstMiscount (expected counters : List ℕ) (e k : ℕ) : Type 0 where
  pub place : ℕ
  pub expects : slice_get expected place ≡ Some e
  pub counts : slice_get counters place ≡ Some k
  pub differ : e ≢ k
  pub before : take place expected ≡ take place counters

-- the first counter that is not the expected one, with both numbers
abbrev pub miscounted : Step → List ℕ → List ℕ → Option Refusal
miscounted step [] counters = None
miscounted step (e ∷ es) [] = None
miscounted step (e ∷ es) (k ∷ ks) = if k == e then miscounted step es ks else Some (Counter step e k)

-- by the first byte that differs and may not, if there is one
abbrev pub judged_by : Step → List ℕ → FrameValue → Option ℕ → Option Refusal
judged_by step expected reply (Some at) = Some (Reply step at)
judged_by step expected reply None = miscounted step expected (counters reply)

-- why the reply to a frame is refused, if it is; `Reply` has the first byte that differs from the sent one and may not
unfoldable pub judged : Step → List ℕ → FrameValue → FrameValue → Option Refusal
judged step expected sent reply = judged_by step expected reply (first_difference sent reply)
