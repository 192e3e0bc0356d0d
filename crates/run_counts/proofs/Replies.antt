-- No reply is refused as a lost step.
use Rattle.std.proofs.Common.{◌≡◌, ℕ, Bool, true, false, cond, ◌==◌, List, [], ◌∷◌, map, Option, Some, None, Result, Ok, Err, subst}
use Rattle.ecat_frame.specs.Difference.{first_difference}
use Rattle.ecat_frame.specs.FrameGrammar.{FrameValue}
use Rattle.dc_bounds.specs.Weight.{flag}
use Rattle.dc_delay.specs.Refusals.{first_timed, first_unmeasurable}
use Rattle.dc_topology.specs.Listed.{Place}
use Rattle.dc_topology.specs.declared.error.TopologyError.{TopologyError}
use Rattle.master_script.specs.Judged.{judged, judged_by, miscounted, counters}
use Rattle.master_script.specs.Slaves.{SlaveWords, is_clock, is_measuring, judgement, judged_tree, judged_clocks, tree_told}
use Rattle.master_script.specs.declared.step.Refusal.{Refusal}
use Rattle.master_script.specs.declared.step.Refusal.TheVariants.{Counter, Topology, NoReference, Unmeasurable}
use Rattle.master_script.specs.declared.step.Step.{Step}
use Rattle.run_counts.specs.IfLost.{IfLost}

some_same : {X : Type 0} {x y : X} → Some x ≡ Some y → x ≡ y
some_same e = cc

abbrev err_of : Refusal → Result ℕ Refusal
err_of r = Err r

err_same : (x y : Refusal) → err_of x ≡ err_of y → x ≡ y
err_same x y e = cc

miscounts : (step : Step) (es ks : List ℕ) (r : Refusal) (P : Step → Type 0) → miscounted step es ks ≡ Some r → IfLost r P
miscounts step [] ks r P h = absurd (let x = h in cc)
miscounts step (e ∷ es) [] r P h = absurd (let x = h in cc)
miscounts step (e ∷ es) (k ∷ ks) r P h = by_test (k == e) h (miscounts step es ks r P)
  where
    by_test : (b : Bool) → cond b (miscounted step es ks) (Some (Counter step e k)) ≡ Some r → (miscounted step es ks ≡ Some r → IfLost r P) → IfLost r P
    by_test true h later = later h
    by_test false h later = subst (λ (x : Refusal). IfLost x P) (some_same h) tt

by_difference : (step : Step) (es : List ℕ) (reply : FrameValue) (o : Option ℕ) (r : Refusal) (P : Step → Type 0) → judged_by step es reply o ≡ Some r → IfLost r P
by_difference step es reply (Some at) r P h = subst (λ (x : Refusal). IfLost x P) (some_same h) tt
by_difference step es reply None r P h = miscounts step es (counters reply) r P h

pub judged_other : (step : Step) (es : List ℕ) (sent reply : FrameValue) (r : Refusal) (P : Step → Type 0) → judged step es sent reply ≡ Some r → IfLost r P
unfolding judged
judged_other step es sent reply r P h = by_difference step es reply (first_difference sent reply) r P h

by_clocks : (o u : Option ℕ) (r : Refusal) (P : Step → Type 0) → judged_clocks o u ≡ Err r → IfLost r P
by_clocks None u r P h = subst (λ (x : Refusal). IfLost x P) (err_same NoReference r h) tt
by_clocks (Some x) (Some k) r P h = subst (λ (x : Refusal). IfLost x P) (err_same (Unmeasurable k) r h) tt
by_clocks (Some x) None r P h = absurd (let x = h in cc)

by_tree : (ss : List SlaveWords) (told : Result (List Place) TopologyError) (r : Refusal) (P : Step → Type 0) → judged_tree ss told ≡ Err r → IfLost r P
by_tree ss (Err e) r P h = subst (λ (x : Refusal). IfLost x P) (err_same (Topology e) r h) tt
by_tree ss (Ok hung) r P h = by_clocks (first_timed hung (flag (map is_clock ss))) (first_unmeasurable hung (flag (map is_measuring ss))) r P h

pub judgement_other : (ss : List SlaveWords) (r : Refusal) (P : Step → Type 0) → judgement ss ≡ Err r → IfLost r P
unfolding judgement
judgement_other ss r P h = by_tree ss (tree_told ss) r P h
