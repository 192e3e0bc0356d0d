-- The counters of a reply, one after another.
use Rattle.std.proofs.Common.{◌≡◌, ◌⊎◌, inl, inr, ℕ, ◌+◌, ◌<◌, ◌≤◌, eqb, min, true, false, List, [], ◌∷◌, length, drop, Some, None, slice_index_or, slice_get, refl, ap, ◌∙◌, arith}
use Rattle.std.proofs.lemmas.Bool.Decides.{nat_tests}
use Rattle.std.proofs.lemmas.List.{drop_more, drop_all, get_or-map, length-map}
use Rattle.std.proofs.lemmas.Option.{get_or_from_slice_get, slice_get_within}
use Rattle.ecat_frame.specs.FrameGrammar.{DatagramValue, FrameValue}
use Rattle.master_script.specs.Judged.{counters, miscounted}
use Rattle.master_script.specs.declared.step.Refusal.TheVariants.{Counter}
use Rattle.master_script.specs.declared.step.Step.{Step}

-- the counter of a datagram
pub wkc_here : (f : FrameValue) (k : ℕ) (d : DatagramValue) → slice_get f.datagrams k ≡ Some d → (k < length (counters f)) × (slice_index_or (counters f) k 0 ≡ d.wkc)
wkc_here f k d e =
    let less = slice_get_within f.datagrams k d e in
    let whole = length-map f.datagrams (λ (d : DatagramValue). d.wkc) in
    (omega (arith, less, whole), get_or-map (λ (d : DatagramValue). d.wkc) f.datagrams k d 0 less ∙ ap (λ (x : DatagramValue). x.wkc) (get_or_from_slice_get f.datagrams k d d e))

module _ (step : Step) (es ks : List ℕ) (p wkc : ℕ) (some : p < length es) (here : p < length ks) (is : slice_index_or ks p 0 ≡ wkc) where
  pub next_same : wkc ≡ slice_index_or es p 0 → miscounted step (drop p es) (drop p ks) ≡ miscounted step (drop (p + 1) es) (drop (p + 1) ks)
  next_same e =
      let b : eqb (slice_index_or ks p 0) (slice_index_or es p 0) ≡ true = rw (is, e) (grind (arith, nat_tests)) in
      rw (drop_more es p 0 some, drop_more ks p 0 here, b) refl

  pub next_apart : (wkc ≡ slice_index_or es p 0 → ⊥) → miscounted step (drop p es) (drop p ks) ≡ Some (Counter step (slice_index_or es p 0) wkc)
  next_apart e =
      let b : eqb wkc (slice_index_or es p 0) ≡ false = grind (arith, nat_tests) in
      rw (drop_more es p 0 some, drop_more ks p 0 here, is, b) refl

none_left : (step : Step) (es : List ℕ) → miscounted step es [] ≡ None
none_left step [] = refl
none_left step (e ∷ es) = refl

ended : (step : Step) (es ks : List ℕ) (p : ℕ) → (length es ≤ p) ⊎ (length ks ≤ p) → miscounted step (drop p es) (drop p ks) ≡ None
ended step es ks p (inl h) = rw (drop_all p es h) refl
ended step es ks p (inr h) = rw (drop_all p ks h) (none_left step (drop p es))

pub at_end : (step : Step) (es : List ℕ) (f : FrameValue) (p : ℕ) → min (length es) (length f.datagrams) ≤ p → miscounted step (drop p es) (drop p (counters f)) ≡ None
at_end step es f p h =
    let whole = length-map f.datagrams (λ (d : DatagramValue). d.wkc) in
    ended step es (counters f) p (grind (arith, whole, h))
