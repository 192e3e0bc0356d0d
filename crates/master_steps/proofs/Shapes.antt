-- The shapes of what is sent, and how a judgement of a reply is told.
use Rattle.std.proofs.Common.{◌<◌, slice_index, arith, ◌≡◌, ◌==◌, cond, ℕ, List, [], ◌∷◌, length, replicate, Bool, true, false, Option, Some, None, refl, ap, sym, ◌∙◌}
use Rattle.std.proofs.lemmas.List.{length-map}
use Rattle.ecat_frame.specs.Difference.{first_difference}
use Rattle.ecat_frame.specs.FrameGrammar.{DatagramValue, FrameValue}
use Rattle.master_frames.specs.Sizes.{sizes}
use Rattle.master_script.specs.Config.{ConfigValue}
use Rattle.master_script.specs.Frames.{width}
use Rattle.master_script.specs.Judged.{counters, judged, judged_by, miscounted}
use Rattle.master_script.specs.Steps.{frame_of}
use Rattle.master_script.specs.Words.{Words, wide_at}
use Rattle.master_script.specs.declared.step.Refusal.{Refusal}
use Rattle.master_script.specs.declared.step.Refusal.TheVariants.{Counter, Lost, Reply}
use Rattle.master_script.specs.declared.step.Step.{Step}
use Rattle.master_script.specs.declared.step.Step.TheVariants.{Identify, Times, Drift}

pub identify_sizes : (cfg : ConfigValue) (w : Words) (p : ℕ) → sizes (frame_of cfg w (Identify p)) ≡ 2 ∷ 2 ∷ 2 ∷ 4 ∷ []
unfolding frame_of
identify_sizes cfg w p = refl

-- a frame of such a shape has the places that Identify's words are read from
pub identify_places : (f : FrameValue) → sizes f ≡ 2 ∷ 2 ∷ 2 ∷ 4 ∷ [] → (3 < length f.datagrams) × (slice_index (sizes f) 1 ≡ 2) × (slice_index (sizes f) 2 ≡ 2)
identify_places f e =
    let many : length (sizes f) ≡ 4 = ap (λ (xs : List ℕ). length xs) e in
    let whole = length-map f.datagrams (λ (d : DatagramValue). length d.payload) in
    (omega (arith, many, whole), rw e refl, rw e refl)

times_of : (wide : Bool) → 16 ∷ length {A = ℕ} (replicate (width wide) 0) ∷ [] ≡ 16 ∷ width wide ∷ []
times_of true = refl
times_of false = refl

pub times_sizes : (cfg : ConfigValue) (w : Words) (p : ℕ) → sizes (frame_of cfg w (Times p)) ≡ 16 ∷ width (wide_at w p) ∷ []
unfolding frame_of
times_sizes cfg w p = times_of (wide_at w p)

pub drift_sizes : (cfg : ConfigValue) (w : Words) (k : ℕ) → sizes (frame_of cfg w (Drift k)) ≡ 4 ∷ []
unfolding frame_of
drift_sizes cfg w k = refl

pub replied : (step : Step) (expected : List ℕ) (sent reply : FrameValue) (at : ℕ) (o : Option ℕ) → o ≡ first_difference sent reply → o ≡ Some at → Some (Reply step at) ≡ judged step expected sent reply
unfolding judged
replied step expected sent reply at o e s = sym (ap (λ d. judged_by step expected reply d) (sym e ∙ s))

pub counted : (step : Step) (expected : List ℕ) (sent reply : FrameValue) (o : Option Refusal) → first_difference sent reply ≡ None → o ≡ miscounted step expected (counters reply) → o ≡ judged step expected sent reply
unfolding judged
counted step expected sent reply o n e = e ∙ sym (ap (λ d. judged_by step expected reply d) n)

-- a reply is never refused as lost
never_by : (step : Step) (q : Step) (expected counters : List ℕ) → miscounted step expected counters ≡ Some (Lost q) → ⊥
never_by step q [] ks e = absurd cc
never_by step q (x ∷ xs) [] e = absurd cc
never_by step q (x ∷ xs) (k ∷ ks) e = never_here (k == x) (miscounted step xs ks) (never_by step q xs ks) e
  where
    never_here : (b : Bool) (o : Option Refusal) → (o ≡ Some (Lost q) → ⊥) → cond b o (Some (Counter step x k)) ≡ Some (Lost q) → ⊥
    never_here true o h e = h e
    never_here false o h e = absurd cc

never_of : (step : Step) (q : Step) (expected : List ℕ) (reply : FrameValue) (o : Option ℕ) → judged_by step expected reply o ≡ Some (Lost q) → ⊥
never_of step q expected reply None e = never_by step q expected (counters reply) e
never_of step q expected reply (Some at) e = absurd cc

pub never_lost : (step : Step) (q : Step) (expected : List ℕ) (sent reply : FrameValue) → judged step expected sent reply ≡ Some (Lost q) → ⊥
unfolding judged
never_lost step q expected sent reply e = never_of step q expected reply (first_difference sent reply) e
