-- The slaves are judged by their tree, their reference and what can be measured.
use Rattle.std.proofs.Common.{◌≡◌, ℕ, ◌≤◌, ◌&&◌, ◌==◌, slice_index_or, true, false, [], ◌∷◌, filter, arith, List, Bool, Option, Some, None, IsSome, Result, Ok, Err, length, map, is_some, IfErr, OnOk, refl, ap, sym, ◌∙◌}
use Rattle.std.proofs.Math.Path.{fun_ext}
use Rattle.std.specs.List.{find}
use Rattle.std.proofs.lemmas.List.{length-append}
use Rattle.dc_bounds.specs.Weight.{flag}
use Rattle.dc_delay.specs.ShapeRows.{positions, rows_of}
use Rattle.dc_topology.specs.Listed.{Hangs, Lists, Place, nothing, slave}
use Rattle.dc_topology.specs.Refusals.{IsRefused}
use Rattle.dc_topology.specs.declared.error.TopologyError.{TopologyError}
use Rattle.dc_delay.specs.Refusals.{IsRefused as IsUnjudged, first_timed, first_unmeasurable}
use Rattle.dc_delay.specs.declared.error.DelayError.{DelayError}
use Rattle.dc_delay.specs.declared.error.DelayError.TheVariants.{NoReference as NoClock, Unmeasurable as NotMeasured}
use Rattle.master_script.specs.ListedTree.{tree_of}
use Rattle.master_script.specs.Slaves.{SlaveWords, clocks, is_clock, is_measuring, judged_clocks, judged_tree, judgement, measuring, tree_told}
use Rattle.dc_delay.specs.declared.kind.Kind.{Kind}
use Rattle.master_script.specs.Words.{Words, delays_by}
use Rattle.dc_delay.specs.Latched.{laps, measures}
use Rattle.dc_delay.specs.MeasuredDelay.{delay_list}
use Rattle.master_script.specs.declared.step.Refusal.{Refusal}
use Rattle.master_script.specs.declared.step.Refusal.TheVariants.{Lost, NoReference, Unmeasurable}
use Rattle.master_script.specs.declared.step.Step.{Step}
use Rattle.master_frames.proofs.Left.{flag_at}
use Rattle.master_script.proofs.Exported.{tree_listed, tree_refused}

module _ (ss : List ℕ) (out : List Place) (result : Result (Unit {0}) TopologyError)
    (only : (hung : List Place) → Lists ss hung → (result ≡ Ok tt) × (out ≡ hung)) (exactly : (e : TopologyError) → IsRefused ss e → result ≡ Err e) where
  by_tree : (t : Result (List Place) TopologyError) → tree_of ss ≡ t → result ≡ Ok tt → tree_of ss ≡ Ok out
  by_tree (Ok hung) e r = e ∙ ap (λ h. Ok h) (sym (only hung (tree_listed ss hung e)).1)
  by_tree (Err x) e r = absurd (let z : Ok tt ≡ Err x = sym r ∙ exactly x (tree_refused ss x e) in cc)

  pub listed : result ≡ Ok tt → tree_of ss ≡ Ok out
  listed r = by_tree (tree_of ss) refl r

  by_refusal : (t : Result (List Place) TopologyError) (x : TopologyError) → tree_of ss ≡ t → result ≡ Err x → tree_of ss ≡ Err x
  by_refusal (Ok hung) x e r = absurd (let z : Ok tt ≡ Err x = sym (only hung (tree_listed ss hung e)).0 ∙ r in cc)
  by_refusal (Err y) x e r =
      let z : Err y ≡ Err x = sym (exactly y (tree_refused ss y e)) ∙ r in
      let s : y ≡ x = cc in
      e ∙ ap (λ w. Err w) s

  pub unlisted : (x : TopologyError) → result ≡ Err x → tree_of ss ≡ Err x
  unlisted x r = by_refusal (tree_of ss) x refl r

module _ (hung : List Place) (measures timed : ℕ → Bool) (result : Result (Unit {0}) DelayError) (exactly : (e : DelayError) → IsUnjudged hung measures timed e → result ≡ Err e) where
  by_both : (t u : Option ℕ) (o : Result ℕ Refusal) → first_timed hung timed ≡ t → first_unmeasurable hung measures ≡ u → result ≡ Ok tt → ((r : ℕ) → t ≡ Some r → o ≡ Ok r) → o ≡ judged_clocks t u
  by_both None u o et eu r h = absurd (let z : Ok tt ≡ Err NoClock = sym r ∙ exactly NoClock et in cc)
  by_both (Some x) None o et eu r h = h x refl
  by_both (Some x) (Some y) o et eu r h = absurd (let z : Ok tt ≡ Err (NotMeasured y) = sym r ∙ exactly (NotMeasured y) (ap (λ (a : Option ℕ). is_some a) et, eu) in cc)

  pub accepted : (o : Result ℕ Refusal) → result ≡ Ok tt → ((r : ℕ) → first_timed hung timed ≡ Some r → o ≡ Ok r) → o ≡ judged_clocks (first_timed hung timed) (first_unmeasurable hung measures)
  accepted o r h = by_both (first_timed hung timed) (first_unmeasurable hung measures) o refl refl r h

pub no_reference : (t u : Option ℕ) → t ≡ None → Err NoReference ≡ judged_clocks t u
no_reference t u e = rw e refl

pub unmeasured : (t u : Option ℕ) (p : ℕ) → IsSome t → u ≡ Some p → Err (Unmeasurable p) ≡ judged_clocks t u
unmeasured None u p s e = absurd cc
unmeasured (Some x) u p s e = rw e refl

-- a tree has a place for each status
pub hangs_length : (free : List Place) (q : ℕ) (ss : List ℕ) (hung : List Place) → Hangs free q ss hung → length hung ≡ length ss
hangs_length free q ss hung (nothing q') = refl
hangs_length free q ss hung (slave place others q' status below inside rest behind formed a b) =
    let x = hangs_length _ _ below inside a in
    let y = hangs_length _ _ rest behind b in
    let e = length-append below rest in
    let f = length-append inside behind in
    omega (arith, x, y, e, f)

pub listed_length : (ss : List ℕ) (hung : List Place) → Lists ss hung → length hung ≡ length ss
listed_length ss hung h = hangs_length _ _ ss hung h

-- where one is found, some pass
found_by : (p q : ℕ → Bool) → ((x : ℕ) → p x ≡ true → q x ≡ true) → (xs : List ℕ) (r : ℕ) → find p xs ≡ Some r → 1 ≤ length (filter q xs)
found_by p q h [] r e = absurd cc
found_by p q h (x ∷ xs) r e = by_test (p x) (q x) refl refl (found_by p q h xs r) e
  where
    by_test : (b c : Bool) → p x ≡ b → q x ≡ c → (find p xs ≡ Some r → 1 ≤ length (filter q xs)) → find p (x ∷ xs) ≡ Some r → 1 ≤ length (filter q (x ∷ xs))
    by_test b true eb ec more e = rw ec (omega arith)
    by_test true false eb ec more e = absurd (let z : true ≡ false = sym (h x eb) ∙ ec in cc)
    by_test false false eb ec more e = rw ec (more (rw eb at e))

clock_measures : (s : SlaveWords) → is_clock s ≡ true → is_measuring s ≡ true
clock_measures s e = both (is_measuring s) (s.fourth == 1) e
  where
    both : (b c : Bool) → (b && c) ≡ true → b ≡ true
    both true c e = refl
    both false c e = absurd cc

module _ (ss : List SlaveWords) (r n : ℕ) (whole : n ≡ length ss) (found : find (flag (map is_clock ss)) (positions n) ≡ Some r) where
  pub some_clock : 1 ≤ length (clocks ss)
  some_clock = found_by (flag (map is_clock ss)) (flag (map is_clock ss)) (λ x e. e) (positions (length ss)) r (rw whole at found)

  pub some_measuring : 1 ≤ length (measuring ss)
  some_measuring =
      found_by (flag (map is_clock ss)) (flag (map is_measuring ss))
      (λ x e. flag_at is_measuring ss x refl ∙ clock_measures (slice_index_or ss x (record { features = 0; status = 0; fourth = 0 })) (sym (flag_at is_clock ss x refl) ∙ e)) (positions (length ss)) r (rw whole at found)

pub on_ok : {E : Type 0} (P : Type 0) (r : Result (Unit {0}) E) → (r ≡ Ok tt → P) → OnOk r P
on_ok P (Ok u) h = h refl
on_ok P (Err e) h = tt

pub if_err : {E : Type 0} (P : E → Type 0) (r : Result (Unit {0}) E) → ((e : E) → r ≡ Err e → P e) → IfErr r P
if_err P (Ok u) h = tt
if_err P (Err e) h = h e refl

pub same_ok : (a b : ℕ) → Some a ≡ Some b → ◌≡◌ {A = Result ℕ Refusal} (Ok a) (Ok b)
same_ok a b e = let s : a ≡ b = cc in ap (λ x. Ok x) s

-- judged slaves have delays
judged_some : (t u : Option ℕ) (r : ℕ) → judged_clocks t u ≡ Ok r → (t ≡ Some r) × (u ≡ None)
judged_some None u r e = absurd cc
judged_some (Some x) (Some y) r e = absurd cc
judged_some (Some x) None r e = (cc, refl)

unrefused_by : (hung : List Place) (measures timed : ℕ → Bool) (r : ℕ) → judged_clocks (first_timed hung timed) (first_unmeasurable hung measures) ≡ Ok r → (e : DelayError) → IsUnjudged hung measures timed e → ⊥
unrefused_by hung measures timed r j NoClock h =
    let z : None ≡ Some r = sym h ∙ (judged_some (first_timed hung timed) (first_unmeasurable hung measures) r j).0 in absurd cc
unrefused_by hung measures timed r j (NotMeasured p) h =
    let z : Some p ≡ None = sym h.1 ∙ (judged_some (first_timed hung timed) (first_unmeasurable hung measures) r j).1 in absurd cc

pub unrefused : (ss : List SlaveWords) (hung : List Place) (measures : ℕ → Bool) (r : ℕ) → tree_told ss ≡ Ok hung → judgement ss ≡ Ok r → ((p : ℕ) → measures p ≡ flag (map is_measuring ss) p)
    → (e : DelayError) → IsUnjudged hung measures (flag (map is_clock ss)) e → ⊥
unfolding judgement
unrefused ss hung measures r t j same e h =
    let f : measures ≡ flag (map is_measuring ss) = fun_ext same in
    unrefused_by hung measures (flag (map is_clock ss)) r (rw f (rw t at j)) e h

pub measured : (P : Type 0) (hung : List Place) (measures timed : ℕ → Bool) (result : Result (Unit {0}) DelayError) → OnOk result P → IfErr result (IsUnjudged hung measures timed) → ((e : DelayError) → IsUnjudged hung measures timed e → ⊥) → P
measured P hung measures timed (Ok u) p h n = p
measured P hung measures timed (Err e) p h n = absurd (n e h)

pub delays_told : (kinds : List Kind) (w : Words) (hung : List Place) → tree_told w.slaves ≡ Ok hung
    → delay_list (rows_of hung kinds) (measures w.latches) (flag (map is_clock w.slaves)) (laps w.latches) (positions (length hung)) ≡ delays_by kinds w
unfolding delays_by
delays_told kinds w hung t = rw t refl

-- judged slaves are never refused as lost
never_clocks : (t u : Option ℕ) (q : Step) → judged_clocks t u ≡ Err (Lost q) → ⊥
never_clocks None u q e = absurd cc
never_clocks (Some x) None q e = absurd cc
never_clocks (Some x) (Some y) q e = absurd cc

never_tree : (ss : List SlaveWords) (t : Result (List Place) TopologyError) (q : Step) → judged_tree ss t ≡ Err (Lost q) → ⊥
never_tree ss (Ok hung) q e = never_clocks (first_timed hung (flag (map is_clock ss))) (first_unmeasurable hung (flag (map is_measuring ss))) q e
never_tree ss (Err x) q e = absurd cc

pub never_judged : (ss : List SlaveWords) (r : Refusal) (q : Step) → Err r ≡ judgement ss → r ≡ Lost q → ⊥
unfolding judgement
never_judged ss r q j e = never_tree ss (tree_told ss) q (sym j ∙ ap (λ x. Err x) e)
