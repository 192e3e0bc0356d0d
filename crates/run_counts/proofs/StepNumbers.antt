-- How many numbers exchanges use.
use Rattle.std.proofs.Common.{◌≡◌, ℕ, suc, ◌+◌, ◌-◌, Bool, true, false, cond, List, [], ◌∷◌, length, Option, Some, None, refl, ap, ◌∙◌, arith}
use Rattle.std.specs.Prelude.{Result, Ok, Err, if◌then◌else◌}
use Rattle.std.specs.List.{range_with_len}
use Rattle.std.proofs.lemmas.List.Sums.{sum_by-cons}
use Rattle.lost_step.specs.LostStep.{asked, asked_on, behind_tries}
use Rattle.lost_step.proofs.Exported.{asked_few}
use Rattle.master_script.specs.declared.step.Step.{Step}
use Rattle.run_counts.specs.Numbers.{IsLostAt, lost_numbers}

abbrev ok_of : ℕ → Result ℕ Step
ok_of a = Ok a

ok_same : (a b : ℕ) → ok_of a ≡ ok_of b → a ≡ b
ok_same a b e = cc

err_same : (a b : Step) → asked_on None a (λ c. Ok c) ≡ Err b → a ≡ b
err_same a b e = cc

-- the first number, and then the others
first_number : (lost : ℕ → Bool) (a n m : ℕ) (b : Bool) → lost a ≡ b → m ≡ n + 1 → lost_numbers lost a m ≡ cond b 1 0 + lost_numbers lost (a + 1) n
first_number lost a n m b is more =
    let next : m ≡ suc n = omega (arith, more) in
    ap (lost_numbers lost a) next
    ∙ sum_by-cons (λ k. cond (lost k) 1 0) a (range_with_len (a + 1) n)
    ∙ ap (λ (x : Bool). cond x 1 0 + lost_numbers lost (a + 1) n) is

-- the numbers of one exchange: so many are lost, and then one comes
record Uses (lost : ℕ → Bool) (a c : ℕ) : Type 0 where
  gone : ℕ
  is : c ≡ a + gone + 1
  rest : (n m : ℕ) → m ≡ gone + 1 + n → lost_numbers lost a m ≡ gone + lost_numbers lost c n

uses : (lost : ℕ → Bool) (a c : ℕ) → behind_tries lost a ≡ Some c → Uses lost a c
unfolding behind_tries
uses lost a c e = by_tests (lost a) (lost (a + 1)) (lost (a + 2)) refl refl refl e
  where
    numbers_at : (b d n : ℕ) → b ≡ d → lost_numbers lost b n ≡ lost_numbers lost d n
    numbers_at b d n same = ap (λ (k : ℕ). lost_numbers lost k n) same

    by_tests : (x y z : Bool) → lost a ≡ x → lost (a + 1) ≡ y → lost (a + 2) ≡ z
        → (if x then (if y then (if z then None else Some (a + 3)) else Some (a + 2)) else Some (a + 1)) ≡ Some c → Uses lost a c
    by_tests false y z one two three e =
        let same : a + 1 ≡ c = cc in
        record {
          gone = 0;
          is = omega (arith, same);
          rest = λ n m many.
              let first = first_number lost a n m false one (omega (arith, many)) in
              let there = numbers_at (a + 1) c n same in
              omega (arith, first, there);
        }
    by_tests true false z one two three e =
        let same : a + 2 ≡ c = cc in
        record {
          gone = 1;
          is = omega (arith, same);
          rest = λ n m many.
              let first = first_number lost a (n + 1) m true one (omega (arith, many)) in
              let second = first_number lost (a + 1) n (n + 1) false two (omega arith) in
              let there = numbers_at (a + 1 + 1) c n (omega (arith, same)) in
              omega (arith, first, second, there);
        }
    by_tests true true false one two three e =
        let same : a + 3 ≡ c = cc in
        record {
          gone = 2;
          is = omega (arith, same);
          rest = λ n m many.
              let first = first_number lost a (n + 2) m true one (omega (arith, many)) in
              let second = first_number lost (a + 1) (n + 1) (n + 2) true two (omega arith) in
              let third = first_number lost (a + 1 + 1) n (n + 1) false (ap lost (omega arith) ∙ three) (omega arith) in
              let there = numbers_at (a + 1 + 1 + 1) c n (omega (arith, same)) in
              omega (arith, first, second, third, there);
        }
    by_tests true true true one two three e = absurd cc

-- of all of them one comes for each exchange, and the others are lost
pub numbers_used : (lost : ℕ → Bool) (a used : ℕ) (steps : List Step) → asked lost a steps ≡ Ok (a + used) → used ≡ length steps + lost_numbers lost a used
unfolding asked
numbers_used lost a used [] e =
    let same = ok_same a (a + used) e in
    let none : used ≡ 0 = omega (arith, same) in
    let here : lost_numbers lost a used ≡ 0 = ap (λ (n : ℕ). lost_numbers lost a n) none in
    omega (arith, none, here)
numbers_used lost a used (step ∷ rest) e = by_first (behind_tries lost a) refl e (λ c left h. numbers_used lost c left rest h)
  where
    by_first : (o : Option ℕ) → behind_tries lost a ≡ o → asked_on o step (λ c. asked lost c rest) ≡ Ok (a + used)
        → ((c left : ℕ) → asked lost c rest ≡ Ok (c + left) → left ≡ length rest + lost_numbers lost c left) → used ≡ length (step ∷ rest) + lost_numbers lost a used
    by_first None is h on = absurd (let x = h in cc)
    by_first (Some c) is h on =
        let one = uses lost a c is in
        let here = one.is in
        let least = (asked_few lost c (a + used) rest h).0 in
        let left : ℕ = used - (one.gone + 1) in
        let whole : used ≡ one.gone + 1 + left = omega (arith, here, least) in
        let there : a + used ≡ c + left = omega (arith, here, whole) in
        let others = on c left (h ∙ ap ok_of there) in
        let all = one.rest left used whole in
        omega (arith, others, all, whole)

-- the exchange that is lost
none_tests : (lost : ℕ → Bool) (a : ℕ) → behind_tries lost a ≡ None → (lost a ≡ true) × (lost (a + 1) ≡ true) × (lost (a + 2) ≡ true)
unfolding behind_tries
none_tests lost a e = by_tests (lost a) (lost (a + 1)) (lost (a + 2)) e
  where
    by_tests : (x y z : Bool) → (if x then (if y then (if z then None else Some (a + 3)) else Some (a + 2)) else Some (a + 1)) ≡ None → (x ≡ true) × (y ≡ true) × (z ≡ true)
    by_tests true true true e = (refl, refl, refl)
    by_tests true true false e = absurd (let x = e in cc)
    by_tests true false z e = absurd (let x = e in cc)
    by_tests false y z e = absurd (let x = e in cc)

none_asked : (lost : ℕ → Bool) (a : ℕ) → asked {A = Step} lost a [] ≡ Ok a
unfolding asked
none_asked lost a = refl

one_more : (lost : ℕ → Bool) (a c b : ℕ) (step : Step) (rest : List Step) → behind_tries lost a ≡ Some c → asked lost c rest ≡ Ok b → asked lost a (step ∷ rest) ≡ Ok b
unfolding asked
one_more lost a c b step rest is e = rw is e

pub lost_there : (lost : ℕ → Bool) (a : ℕ) (steps : List Step) (step : Step) → asked lost a steps ≡ Err step → IsLostAt lost a steps step
unfolding asked
lost_there lost a [] step e = absurd (let x = e in cc)
lost_there lost a (first ∷ others) step e = by_first (behind_tries lost a) refl e (λ c h. lost_there lost c others step h)
  where
    by_first : (o : Option ℕ) → behind_tries lost a ≡ o → asked_on o first (λ c. asked lost c others) ≡ Err step → ((c : ℕ) → asked lost c others ≡ Err step → IsLostAt lost c others step)
        → IsLostAt lost a (first ∷ others) step
    by_first None is h on =
        let tests = none_tests lost a is in
        let same : first ≡ step = err_same first step h in
        record {
          before = [];
          rest = others;
          all = ap (λ (x : Step). x ∷ others) same;
          first = a;
          came = none_asked lost a;
          once = tests.0;
          twice = tests.1;
          thrice = tests.2;
        }
    by_first (Some c) is h on =
        let later = on c h in
        record {
          before = first ∷ later.before;
          rest = later.rest;
          all = ap (λ (xs : List Step). first ∷ xs) later.all;
          first = later.first;
          came = one_more lost a c later.first first later.before is later.came;
          once = later.once;
          twice = later.twice;
          thrice = later.thrice;
        }
