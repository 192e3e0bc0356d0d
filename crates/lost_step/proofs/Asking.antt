-- Exchanges, one after another.
use Rattle.std.proofs.Common.{◌≡◌, ℕ, zero, suc, ◌+◌, ◌*◌, ◌<◌, ◌≤◌, Bool, true, false, List, [], ◌∷◌, ◌++◌, length, Option, Some, None, refl, sym, ap, subst, ◌∙◌, arith}
use Rattle.std.specs.Prelude.{Result, Ok, Err, IfOk, if◌then◌else◌}
use Rattle.std.specs.Option.{ok_or}
use Rattle.master_script.specs.declared.step.Step.{Step}
use Rattle.lost_step.specs.LostStep.{behind_tries, asked_on, asked}

-- the first try comes
pub first_comes : (lost : ℕ → Bool) (a : ℕ) → lost a ≡ false → behind_tries lost a ≡ Some (a + 1)
unfolding behind_tries
first_comes lost a x = rw x refl

pub second_comes : (lost : ℕ → Bool) (a : ℕ) → lost a ≡ true → lost (a + 1) ≡ false → behind_tries lost a ≡ Some (a + 2)
unfolding behind_tries
second_comes lost a x y = rw (x, y) refl

pub third_comes : (lost : ℕ → Bool) (a : ℕ) → lost a ≡ true → lost (a + 1) ≡ true → lost (a + 2) ≡ false → behind_tries lost a ≡ Some (a + 3)
unfolding behind_tries
third_comes lost a x y z = rw (x, y, z) refl

pub none_comes : (lost : ℕ → Bool) (a : ℕ) → lost a ≡ true → lost (a + 1) ≡ true → lost (a + 2) ≡ true → behind_tries lost a ≡ None
unfolding behind_tries
none_comes lost a x y z = rw (x, y, z) refl

-- the tries before this one were lost, and it comes
pub behind_came : (lost : ℕ → Bool) (first number tries : ℕ) → first + tries ≡ number → tries ≤ 2 → ((k : ℕ) → k < tries → lost (first + k) ≡ true) → lost number ≡ false
    → behind_tries lost first ≡ Some (number + 1)
behind_came lost first number zero is few gone now =
    let e : first ≡ number = omega (arith, is) in
    first_comes lost first (subst (λ (n : ℕ). lost n ≡ false) (sym e) now) ∙ ap (λ (n : ℕ). Some (n + 1)) e
behind_came lost first number (suc zero) is few gone now =
    let zeroth : lost first ≡ true = subst (λ (n : ℕ). lost n ≡ true) (omega arith) (gone 0 (omega arith)) in
    let e : first + 1 ≡ number = omega (arith, is) in
    let f : first + 2 ≡ number + 1 = omega (arith, is) in
    second_comes lost first zeroth (subst (λ (n : ℕ). lost n ≡ false) (sym e) now) ∙ ap (λ (n : ℕ). Some n) f
behind_came lost first number (suc (suc zero)) is few gone now =
    let zeroth : lost first ≡ true = subst (λ (n : ℕ). lost n ≡ true) (omega arith) (gone 0 (omega arith)) in
    let e : first + 2 ≡ number = omega (arith, is) in
    let f : first + 3 ≡ number + 1 = omega (arith, is) in
    third_comes lost first zeroth (gone 1 (omega arith)) (subst (λ (n : ℕ). lost n ≡ false) (sym e) now) ∙ ap (λ (n : ℕ). Some n) f
behind_came lost first number (suc (suc (suc n))) is few gone now = absurd (omega (arith, few))

-- all three were lost
pub all_gone : (lost : ℕ → Bool) (first : ℕ) → ((k : ℕ) → k < 3 → lost (first + k) ≡ true) → behind_tries lost first ≡ None
all_gone lost first gone =
    none_comes lost first (subst (λ (n : ℕ). lost n ≡ true) (omega arith) (gone 0 (omega arith))) (gone 1 (omega arith)) (gone 2 (omega arith))

-- an exchange takes one to three numbers
pub few_tries : (lost : ℕ → Bool) (a b : ℕ) → behind_tries lost a ≡ Some b → (a + 1 ≤ b) × (b ≤ a + 3)
unfolding behind_tries
few_tries lost a b e = by_tests (lost a) (lost (a + 1)) (lost (a + 2)) e
  where
    by_tests : (x y z : Bool) → (if x then (if y then (if z then None else Some (a + 3)) else Some (a + 2)) else Some (a + 1)) ≡ Some b → (a + 1 ≤ b) × (b ≤ a + 3)
    by_tests false y z e = let same : a + 1 ≡ b = cc in (omega (arith, same), omega (arith, same))
    by_tests true false z e = let same : a + 2 ≡ b = cc in (omega (arith, same), omega (arith, same))
    by_tests true true false e = let same : a + 3 ≡ b = cc in (omega (arith, same), omega (arith, same))
    by_tests true true true e = absurd cc

-- one exchange
one_on : (o : Option ℕ) (step : Step) → asked_on o step (λ b. Ok b) ≡ ok_or o step
one_on None step = refl
one_on (Some b) step = refl

pub one_asked : (lost : ℕ → Bool) (a : ℕ) (step : Step) → asked lost a (step ∷ []) ≡ ok_or (behind_tries lost a) step
unfolding asked
one_asked lost a step = one_on (behind_tries lost a) step

abbrev ok_of : ℕ → Result ℕ Step
ok_of a = Ok a

ok_same : (a b : ℕ) → ok_of a ≡ ok_of b → a ≡ b
ok_same a b e = cc

-- what stands behind exchanges that all come, and behind a lost one
on_ok : (o : Option ℕ) (step : Step) (f g : ℕ → Result ℕ Step) (b : ℕ) (r : Result ℕ Step) → asked_on o step f ≡ Ok b → ((c : ℕ) → f c ≡ Ok b → g c ≡ r) → asked_on o step g ≡ r
on_ok None step f g b r e h = absurd cc
on_ok (Some c) step f g b r e h = h c e

pub asked_ok : (lost : ℕ → Bool) (a b : ℕ) (xs ys : List Step) → asked lost a xs ≡ Ok b → asked lost a (xs ++ ys) ≡ asked lost b ys
unfolding asked
asked_ok lost a b [] ys e = ap (λ (k : ℕ). asked lost k ys) (ok_same a b e)
asked_ok lost a b (step ∷ rest) ys e =
    on_ok (behind_tries lost a) step (λ c. asked lost c rest) (λ c. asked lost c (rest ++ ys)) b (asked lost b ys) e (λ c h. asked_ok lost c b rest ys h)

on_err : (o : Option ℕ) (step lost : Step) (f g : ℕ → Result ℕ Step) → asked_on o step f ≡ Err lost → ((c : ℕ) → f c ≡ Err lost → g c ≡ Err lost) → asked_on o step g ≡ Err lost
on_err None step lost f g e h = e
on_err (Some c) step lost f g e h = h c e

pub asked_err : (lost : ℕ → Bool) (a : ℕ) (step : Step) (xs ys : List Step) → asked lost a xs ≡ Err step → asked lost a (xs ++ ys) ≡ Err step
unfolding asked
asked_err lost a step [] ys e = absurd cc
asked_err lost a step (first ∷ rest) ys e =
    on_err (behind_tries lost a) first step (λ c. asked lost c rest) (λ c. asked lost c (rest ++ ys)) e (λ c h. asked_err lost c step rest ys h)

-- exchanges take one to three numbers each
on_few : (lost : ℕ → Bool) (a b n : ℕ) (o : Option ℕ) (step : Step) (f : ℕ → Result ℕ Step) → behind_tries lost a ≡ o → asked_on o step f ≡ Ok b
    → ((c : ℕ) → f c ≡ Ok b → (c + n ≤ b) × (b ≤ c + 3 * n)) → (a + (n + 1) ≤ b) × (b ≤ a + 3 * (n + 1))
on_few lost a b n None step f is e h = absurd cc
on_few lost a b n (Some c) step f is e h =
    let few = few_tries lost a c is in
    let more = h c e in
    (omega (arith, few.0, more.0), omega (arith, few.1, more.1))

pub asked_few : (lost : ℕ → Bool) (a b : ℕ) (xs : List Step) → asked lost a xs ≡ Ok b → (a + length xs ≤ b) × (b ≤ a + 3 * length xs)
unfolding asked
asked_few lost a b [] e = let same : a ≡ b = ok_same a b e in (omega (arith, same), omega (arith, same))
asked_few lost a b (step ∷ rest) e =
    let few = on_few lost a b (length rest) (behind_tries lost a) step (λ c. asked lost c rest) refl e (λ c h. asked_few lost c b rest h) in
    (omega (arith, few.0), omega (arith, few.1))

-- the number behind them is near
pub asked_near : (lost : ℕ → Bool) (a n : ℕ) (xs : List Step) (r : Result ℕ Step) → r ≡ asked lost a xs → length xs ≤ n → IfOk r (λ b. b ≤ a + 3 * n)
asked_near lost a n xs (Ok b) is few = let near = (asked_few lost a b xs (sym is)).1 in omega (arith, near, few)
asked_near lost a n xs (Err step) is few = tt

-- the first of them, and then the rest
pub asked_first : (lost : ℕ → Bool) (a b : ℕ) (step : Step) (rest : List Step) → Ok b ≡ asked lost a (step ∷ []) → asked lost a (step ∷ rest) ≡ asked lost b rest
asked_first lost a b step rest is = asked_ok lost a b (step ∷ []) rest (sym is)

pub lost_first : (lost : ℕ → Bool) (a : ℕ) (step other : Step) (rest : List Step) → Err other ≡ asked lost a (step ∷ []) → asked lost a (step ∷ rest) ≡ Err other
lost_first lost a step other rest is = asked_err lost a other (step ∷ []) rest (sym is)

-- of exchanges and then more: behind the first of them, or where one of them is lost
pub then_ok : (lost : ℕ → Bool) (all : Result ℕ Step) (a b : ℕ) (xs ys : List Step) → all ≡ asked lost a (xs ++ ys) → Ok b ≡ asked lost a xs → all ≡ asked lost b ys
then_ok lost all a b xs ys so_far is = so_far ∙ asked_ok lost a b xs ys (sym is)

pub then_err : (lost : ℕ → Bool) (all : Result ℕ Step) (a : ℕ) (step : Step) (xs ys : List Step) → all ≡ asked lost a (xs ++ ys) → Err step ≡ asked lost a xs → Err step ≡ all
then_err lost all a step xs ys so_far is = sym (so_far ∙ asked_err lost a step xs ys (sym is))
