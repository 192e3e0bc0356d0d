-- Exchanges of a phase, try by try, by the numbers of its frames alone.
use Rattle.std.proofs.Common.{◌≡◌, ℕ, ◌+◌, ◌<◌, ◌≤◌, Bool, true, false, eqb, List, [], ◌∷◌, ◌++◌, length-append, Some, None, refl, sym, ap, subst, ◌∙◌, append_assoc, below_more, arith}
use Rattle.std.proofs.lemmas.Bool.Decides.{nat_tests}
use Rattle.std.proofs.lemmas.List.{append-nil}
use Rattle.std.specs.Prelude.{Ok, Err}
use Rattle.master_script.specs.declared.step.Step.{Step}
use Rattle.lost_step.specs.LostStep.{behind_tries, asked}
use Rattle.lost_step.proofs.Exported.{none_comes, behind_came}
use Rattle.run_counts.specs.Reached.{Reached}

-- before the first frame
pub begins : (lost : ℕ → Bool) (begin : ℕ) (all : List Step) → Reached lost begin all all begin 0
begins lost begin all = record {
  first = begin;
  is = omega arith;
  few = omega arith;
  gone = λ k low. absurd (omega (arith, low));
  same = λ more. refl;
  most = omega arith;
  least = omega arith;
}

-- the frame is lost, and is not the third
pub missed_once : (lost : ℕ → Bool) (begin : ℕ) (all todo : List Step) (number tries : ℕ) → Reached lost begin all todo number tries → lost number ≡ true → tries + 1 ≤ 2
    → Reached lost begin all todo (number + 1) (tries + 1)
missed_once lost begin all todo number tries h now low =
    let at : lost (h.first + tries) ≡ true = subst (λ (n : ℕ). lost n ≡ true) (sym h.is) now in
    record {
      first = h.first;
      is = let i = h.is in omega (arith, i);
      few = low;
      gone = below_more _ _ h.gone at;
      same = h.same;
      most = h.most;
      least = h.least;
    }

-- it is the third
lost_here : (lost : ℕ → Bool) (a : ℕ) (step : Step) (rest : List Step) → behind_tries lost a ≡ None → asked lost a (step ∷ rest) ≡ Err step
unfolding asked
lost_here lost a step rest e = rw e refl

gone_all : (lost : ℕ → Bool) (first number tries : ℕ) → first + tries ≡ number → ((k : ℕ) → k < tries → lost (first + k) ≡ true) → lost number ≡ true → tries ≡ 2 → behind_tries lost first ≡ None
gone_all lost first number tries is gone now two =
    none_comes lost first
    (subst (λ (n : ℕ). lost n ≡ true) (omega arith) (gone 0 (omega (arith, two))))
    (gone 1 (omega (arith, two)))
    (subst (λ (n : ℕ). lost n ≡ true) (omega (arith, is, two)) now)

pub missed_thrice : (lost : ℕ → Bool) (begin : ℕ) (all : List Step) (step : Step) (rest : List Step) (number tries : ℕ) → Reached lost begin all (step ∷ rest) number tries → lost number ≡ true → tries ≡ 2
    → (more : List Step) → asked lost begin (all ++ more) ≡ Err step
missed_thrice lost begin all step rest number tries h now two more =
    h.same more ∙ lost_here lost h.first step (rest ++ more) (gone_all lost h.first number tries h.is h.gone now two)

-- it comes
next_here : (lost : ℕ → Bool) (a b : ℕ) (step : Step) (rest : List Step) → behind_tries lost a ≡ Some b → asked lost a (step ∷ rest) ≡ asked lost b rest
unfolding asked
next_here lost a b step rest e = rw e refl

pub came : (lost : ℕ → Bool) (begin : ℕ) (all : List Step) (step : Step) (rest : List Step) (number tries : ℕ) → Reached lost begin all (step ∷ rest) number tries → lost number ≡ false
    → Reached lost begin all rest (number + 1) 0
came lost begin all step rest number tries h now =
    let behind = behind_came lost h.first number tries h.is h.few h.gone now in
    record {
      first = number + 1;
      is = omega arith;
      few = omega arith;
      gone = λ k low. absurd (omega (arith, low));
      same = λ more. h.same more ∙ next_here lost h.first (number + 1) step (rest ++ more) behind;
      most = let i = h.is in let f = h.few in let m = h.most in omega (arith, i, f, m);
      least = let i = h.is in let l = h.least in omega (arith, i, l);
    }

-- more steps are to be asked, where none is left
pub goes_on : (lost : ℕ → Bool) (begin : ℕ) (all later : List Step) (number : ℕ) → Reached lost begin all [] number 0 → Reached lost begin (all ++ later) later number 0
goes_on lost begin all later number h =
    let n = length-append all later in
    record {
      first = h.first;
      is = h.is;
      few = h.few;
      gone = h.gone;
      same = λ more. ap (asked lost begin) (append_assoc all later more) ∙ h.same (later ++ more);
      most = let m = h.most in omega (arith, m, n);
      least = let m = h.least in omega (arith, m, n);
    }

-- all steps came
all_asked : (lost : ℕ → Bool) (a : ℕ) → asked {A = Step} lost a ([] ++ []) ≡ Ok a
unfolding asked
all_asked lost a = refl

pub all_came : (lost : ℕ → Bool) (begin : ℕ) (all : List Step) (number : ℕ) → Reached lost begin all [] number 0 → asked lost begin all ≡ Ok number
all_came lost begin all number h =
    let i = h.is in
    let e : h.first ≡ number = omega (arith, i) in
    ap (asked lost begin) (sym (append-nil all)) ∙ h.same [] ∙ all_asked lost h.first ∙ ap (λ (n : ℕ). Ok n) e

-- a third try, or one before it
pub not_three : (m : ℕ) → eqb (m + 1) 3 ≡ false → m ≤ 2 → m + 1 ≤ 2
not_three m h l = grind (arith, nat_tests)

pub is_three : (m : ℕ) → eqb (m + 1) 3 ≡ true → m ≡ 2
is_three m h = grind (arith, nat_tests)
