-- A frame that is sent again while it is lost.
use Rattle.std.proofs.Common.{◌≡◌, ℕ, zero, suc, ◌+◌, ◌≤◌, List, [], ◌∷◌, ◌++◌, Option, Some, None, refl, sym, ap, subst, ◌∙◌, append_assoc, arith}
use Rattle.std.proofs.lemmas.List.{append-nil}
use Rattle.ecat_frame.specs.FrameGrammar.{FrameValue}
use Rattle.ecat_link.specs.Exchanges.{Exchange, StepOf, Follows, Runs}
use Rattle.ecat_link.specs.Serves.{Next, Send, Sends, Serves}
use Rattle.ecat_link.specs.Tries.{AreTries, tries}
use Rattle.ecat_link.proofs.Serving.{runs_then}

-- tries that were lost, and then others
tries_then : (w : ℕ) (f : FrameValue) (k j : ℕ) (back : Option FrameValue) → tries w f k None ++ tries w f j back ≡ tries w f (k + j) back
tries_then w f zero j back = let e : 0 + j ≡ j = omega arith in rw e refl
tries_then w f (suc k) j back =
    let e : suc k + j ≡ suc (k + j) = omega arith in
    rw e (ap (λ es. record { wait_ns = w; sent = f; back = None } ∷ es) (tries_then w f k j back))

-- nothing was sent
pub runs_none : {S : Type 0} (step : StepOf S) (s : Option S) → Runs step s [] s
runs_none step None = tt
runs_none step (Some x) = refl

runs_one : {S : Type 0} (step : StepOf S) (s t : Option S) (e : Exchange) → Follows step s t e → Runs step s (e ∷ []) t
runs_one step None t e f = tt
runs_one step (Some x) t e f = (f.1, f.0)

module _ {S : Type 0} (step : StepOf S) (w : ℕ) (f : FrameValue) (s t u : Option S) (k : ℕ) where
  -- it is lost once more
  pub try_lost : Runs step s (tries w f k None) t → Follows step t u (record { wait_ns = w; sent = f; back = None }) → Runs step s (tries w f (k + 1) None) u
  try_lost r h = subst (λ es. Runs step s es u) (tries_then w f k 1 None) (runs_then step _ _ s t u r (runs_one step t u _ h))

  -- it comes back
  pub try_came : (reply : FrameValue) → Runs step s (tries w f k None) t → Follows step t u (record { wait_ns = w; sent = f; back = Some reply }) → Runs step s (tries w f k (Some reply)) u
  try_came reply r h =
      let e : k + 0 ≡ k = omega arith in
      subst (λ es. Runs step s es u) (tries_then w f k 0 (Some reply) ∙ ap (λ n. tries w f n (Some reply)) e) (runs_then step _ _ s t u r (runs_one step t u _ h))

-- there is room for one try more
room : (k lost : ℕ) (back : Option FrameValue) → AreTries (k + suc lost) back → k ≤ 2
room k lost None a = omega (arith, a)
room k lost (Some reply) a = omega (arith, a)

module _ {A : Type 0} (next : List Exchange → Next A) (before : List Exchange) (w : ℕ) (f : FrameValue)
    (wants : (k : ℕ) → k ≤ 2 → next (before ++ tries w f k None) ≡ Send w f) where
  sends_from : (k lost : ℕ) (back : Option FrameValue) → AreTries (k + lost) back → Sends next (before ++ tries w f k None) (tries w f lost back)
  sends_from k zero None a = tt
  sends_from k zero (Some reply) a = (wants k (omega (arith, a)), tt)
  sends_from k (suc lost) back a =
      let moved : k + suc lost ≡ (k + 1) + lost = omega arith in
      let longer : before ++ tries w f (k + 1) None ≡ (before ++ tries w f k None) ++ tries w f 1 None =
      ap (λ es. before ++ es) (sym (tries_then w f k 1 None)) ∙ sym (append_assoc before (tries w f k None) (tries w f 1 None)) in
      (wants k (room k lost back a), subst (λ b. Sends next b (tries w f lost back)) longer (sends_from (k + 1) lost back (subst (λ n. AreTries n back) moved a)))

  -- where a script wants the frame, and again after each of the first two losses, the tries are what it sends
  pub sends_tries : (lost : ℕ) (back : Option FrameValue) → AreTries lost back → Sends next before (tries w f lost back)
  sends_tries lost back a =
      let none : lost ≡ 0 + lost = omega arith in
      subst (λ b. Sends next b (tries w f lost back)) (append-nil before) (sends_from 0 lost back (subst (λ n. AreTries n back) none a))

-- The same over a link: the script wants the frame after whatever has P, and again after each of the first two losses; what was
-- sent has Q where the tries follow what has P.
pub serves_tries : {S A : Type 0} (step : StepOf S) (next : List Exchange → Next A) (P Q : List Exchange → Type 0) (s t : Option S) (w : ℕ) (f : FrameValue) (lost : ℕ) (back : Option FrameValue)
    → AreTries lost back → Runs step s (tries w f lost back) t
    → ((before : List Exchange) (k : ℕ) → P before → k ≤ 2 → next (before ++ tries w f k None) ≡ Send w f)
    → ((before : List Exchange) → P before → Q (before ++ tries w f lost back))
    → Serves step next P s t Q
serves_tries step next P Q s t w f lost back a r wants then = record {
  exchanges = tries w f lost back;
  runs = r;
  script = λ before p. sends_tries next before w f (λ k few. wants before k p few) lost back a;
  stands = then;
}
