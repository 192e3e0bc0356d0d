-- What a judgement says of a reply.
use Rattle.std.proofs.Common.{◌≡◌, ◌≢◌, ◌↔◌, ℕ, zero, suc, Bool, true, false, cond, eqb, ◌==◌, List, [], ◌∷◌, length, take, Option, Some, None, slice_get, refl, sym, ap, ◌∙◌, arith}
use Rattle.std.proofs.lemmas.Bool.Decides.{nat_tests}
use Rattle.std.proofs.lemmas.List.{length-map}
use Rattle.ecat_frame.specs.Difference.{first_difference}
use Rattle.ecat_frame.specs.FrameGrammar.{DatagramValue, FrameValue}
use Rattle.master_script.specs.Judged.{IsFirstMiscount, counters, judged, judged_by, miscounted}
use Rattle.master_script.specs.declared.step.Refusal.TheVariants.{Reply, Counter}
use Rattle.master_script.specs.declared.step.Step.{Step}

from_eqb : (m n : ℕ) → eqb m n ≡ true → m ≡ n
from_eqb m n h = grind (arith, nat_tests)

apart : (m n : ℕ) → eqb m n ≡ false → n ≢ m
apart m n h e = grind (arith, nat_tests)

unlike : (m n : ℕ) → m ≢ n → eqb m n ≡ false
unlike m n d = grind (arith, nat_tests)

alike : (n : ℕ) → eqb n n ≡ true
alike n = grind (arith, nat_tests)

-- no counter is a Reply
no_reply : (step named : Step) (es ks : List ℕ) (at : ℕ) → miscounted step es ks ≡ Some (Reply named at) → ⊥
no_reply step named [] ks at h = cc
no_reply step named (e ∷ es) [] at h = cc
no_reply step named (e ∷ es) (k ∷ ks) at h = by_test (k == e) h (no_reply step named es ks at)
  where
    by_test : (b : Bool) → cond b (miscounted step es ks) (Some (Counter step e k)) ≡ Some (Reply named at) → (miscounted step es ks ≡ Some (Reply named at) → ⊥) → ⊥
    by_test true h go = go h
    by_test false h go = cc

reply_by : (step named : Step) (expected : List ℕ) (back : FrameValue) (o : Option ℕ) (at : ℕ) → (judged_by step expected back o ≡ Some (Reply named at)) ↔ ((named ≡ step) × (o ≡ Some at))
reply_by step named expected back (Some n) at = (λ h. (cc, cc), λ h. let p = sym h.0 in let q = h.1 in cc)
reply_by step named expected back None at = (λ h. absurd (no_reply step named expected (counters back) at h), λ h. absurd (let q = h.1 in cc))

pub reply_told : (step named : Step) (expected : List ℕ) (sent back : FrameValue) (at : ℕ)
    → (judged step expected sent back ≡ Some (Reply named at)) ↔ ((named ≡ step) × (first_difference sent back ≡ Some at))
unfolding judged
reply_told step named expected sent back at = reply_by step named expected back (first_difference sent back) at

-- the first miscount, one place on
further : (es ks : List ℕ) (x y e k : ℕ) → y ≡ x → IsFirstMiscount es ks e k → IsFirstMiscount (x ∷ es) (y ∷ ks) e k
further es ks x y e k s m = record {
  place = suc m.place;
  expects = m.expects;
  counts = m.counts;
  differ = m.differ;
  before = let b = m.before in same x y (take m.place es) (take m.place ks) (sym s) b;
}
  where
    same : (x y : ℕ) (xs ys : List ℕ) → x ≡ y → xs ≡ ys → x ∷ xs ≡ y ∷ ys
    same x y xs ys p q = cc

miscount_told : (step named : Step) (es ks : List ℕ) (e k : ℕ) → miscounted step es ks ≡ Some (Counter named e k) → (named ≡ step) × IsFirstMiscount es ks e k
miscount_told step named [] ks e k h = absurd cc
miscount_told step named (x ∷ es) [] e k h = absurd cc
miscount_told step named (x ∷ es) (y ∷ ks) e k h = by_test (y == x) refl h (miscount_told step named es ks e k)
  where
    by_test : (b : Bool) → eqb y x ≡ b → cond b (miscounted step es ks) (Some (Counter step x y)) ≡ Some (Counter named e k)
        → (miscounted step es ks ≡ Some (Counter named e k) → (named ≡ step) × IsFirstMiscount es ks e k) → (named ≡ step) × IsFirstMiscount (x ∷ es) (y ∷ ks) e k
    by_test true t h go = let g = go h in (g.0, further es ks x y e k (from_eqb y x t) g.1)
    by_test false t h go =
        let s : step ≡ named = cc in let p : x ≡ e = cc in let q : y ≡ k = cc in let d = apart y x t in
        (sym s, record { place = 0; expects = ap (λ n. Some n) p; counts = ap (λ n. Some n) q; differ = λ z. d (p ∙ z ∙ sym q); before = refl })

-- and the other way round, by its place
told_miscount : (step : Step) (es ks : List ℕ) (e k place : ℕ) → slice_get es place ≡ Some e → slice_get ks place ≡ Some k → e ≢ k → take place es ≡ take place ks
    → miscounted step es ks ≡ Some (Counter step e k)
told_miscount step [] ks e k place a b d t = absurd cc
told_miscount step (x ∷ es) [] e k place a b d t = absurd cc
told_miscount step (x ∷ es) (y ∷ ks) e k zero a b d t =
    let p : x ≡ e = cc in let q : y ≡ k = cc in
    rw (p, q, unlike k e (λ s. d (sym s))) refl
told_miscount step (x ∷ es) (y ∷ ks) e k (suc n) a b d t =
    let p : x ≡ y = cc in let q : take n es ≡ take n ks = cc in
    rw (p, alike y) (told_miscount step es ks e k n a b d q)

counter_by : (step named : Step) (expected : List ℕ) (back : FrameValue) (o : Option ℕ) (e k : ℕ)
    → (judged_by step expected back o ≡ Some (Counter named e k)) ↔ ((named ≡ step) × (o ≡ None) × IsFirstMiscount expected (counters back) e k)
counter_by step named expected back (Some at) e k = (λ h. absurd cc, λ h. absurd (let z = h.1 in cc))
counter_by step named expected back None e k = (
  λ h. let m = miscount_told step named expected (counters back) e k h in (m.0, refl, m.1),
  λ h. let m = h.2 in rw h.0 (told_miscount step expected (counters back) e k m.place m.expects m.counts m.differ m.before),
)

pub counter_told : (step named : Step) (expected : List ℕ) (sent back : FrameValue) (e k : ℕ)
    → (judged step expected sent back ≡ Some (Counter named e k)) ↔ ((named ≡ step) × (first_difference sent back ≡ None) × IsFirstMiscount expected (counters back) e k)
unfolding judged
counter_told step named expected sent back e k = counter_by step named expected back (first_difference sent back) e k

none_missed : (step : Step) (es ks : List ℕ) → length es ≡ length ks → miscounted step es ks ≡ None → es ≡ ks
none_missed step [] [] l h = refl
none_missed step [] (k ∷ ks) l h = absurd (omega (arith, l))
none_missed step (e ∷ es) [] l h = absurd (omega (arith, l))
none_missed step (e ∷ es) (k ∷ ks) l h = by_test (k == e) refl h (none_missed step es ks (omega (arith, l)))
  where
    same : (x y : ℕ) (xs ys : List ℕ) → x ≡ y → xs ≡ ys → x ∷ xs ≡ y ∷ ys
    same x y xs ys p q = cc

    by_test : (b : Bool) → eqb k e ≡ b → cond b (miscounted step es ks) (Some (Counter step e k)) ≡ None → (miscounted step es ks ≡ None → es ≡ ks) → e ∷ es ≡ k ∷ ks
    by_test true t h go = same e k es ks (sym (from_eqb k e t)) (go h)
    by_test false t h go = absurd cc

missed_none : (step : Step) (es : List ℕ) → miscounted step es es ≡ None
missed_none step [] = refl
missed_none step (e ∷ es) = rw (alike e) (missed_none step es)

accepted_by : (step : Step) (expected : List ℕ) (back : FrameValue) (o : Option ℕ) → length expected ≡ length back.datagrams
    → (judged_by step expected back o ≡ None) ↔ ((o ≡ None) × (counters back ≡ expected))
accepted_by step expected back (Some at) l = (λ h. absurd cc, λ h. absurd (let z = h.0 in cc))
accepted_by step expected back None l = (
  λ h. (refl, sym (none_missed step expected (counters back) (l ∙ sym (length-map back.datagrams (λ (d : DatagramValue). d.wkc))) h)),
  λ h. rw h.1 (missed_none step expected),
)

pub accepted_told : (step : Step) (expected : List ℕ) (sent back : FrameValue) → length expected ≡ length back.datagrams
    → (judged step expected sent back ≡ None) ↔ ((first_difference sent back ≡ None) × (counters back ≡ expected))
unfolding judged
accepted_told step expected sent back l = accepted_by step expected back (first_difference sent back) l
