-- What the pass keeps, from slave to slave.
use Rattle.std.specs.Prelude.{◌≡◌, ℕ, suc, zero, ◌<◌, ◌≤◌, true, false, List, [], ◌∷◌, ◌++◌, length, take, reverse, None, slice_index, ◌==◌}
use Rattle.std.proofs.Common.{arith, rules, refl, sym, ap, ◌∙◌, subst, inl, inr}
use Rattle.std.proofs.lemmas.Bool.{cases_lt}
use Rattle.std.proofs.lemmas.Bool.Decides.{nat_tests}
use Rattle.std.proofs.lemmas.List.{append_assoc, append-nil, length-reverse, reverse-append}
use Rattle.std.proofs.Math.Seq.{take-suc, take-length}
use Rattle.dc_topology.specs.Refusals.{ListsNoFront, ListsFront, AreFormed}
use Rattle.dc_topology.specs.DlStatus.{is_formed}
use Rattle.dc_topology.specs.Listed.{Place, places, Lists}
use Rattle.dc_topology.proofs.Walking.{Walks, ends, takes, taken, walks_of, lists_of}

-- how a walk over the statuses goes on behind the first k of them
pub record GoesOn (free : List Place) (k : ℕ) (rest : List ℕ) (hung : List Place) (hs : List Place) : Type 0 where
  pub behind : List Place
  pub parts : hs ≡ hung ++ behind
  pub walk : Walks free k rest behind

-- k slaves have their places, and these are free
pub record IsPass (ss : List ℕ) (k : ℕ) (free hung : List Place) : Type 0 where
  pub sound : (rest : List ℕ) (behind : List Place) → Walks free k rest behind → Walks (None ∷ []) 0 (take k ss ++ rest) (hung ++ behind)
  pub whole : (rest : List ℕ) (hs : List Place) → Walks (None ∷ []) 0 (take k ss ++ rest) hs → GoesOn free k rest hung hs
  pub formed : AreFormed ss k
  pub open_ : (j : ℕ) → 1 ≤ j → j < k → ¬ ListsFront ss j

pub before_all : (ss : List ℕ) → IsPass ss 0 (None ∷ []) []
before_all ss = record {
  sound = λ rest behind w. w;
  whole = λ rest hs w. record { behind = hs; parts = refl; walk = w };
  formed = λ j low. absurd (omega arith);
  open_ = λ j some low. absurd (omega arith);
}

-- a front that ends where a place is still free lists no tree
not_yet : (ss : List ℕ) (k : ℕ) (place : Place) (free hung : List Place) → IsPass ss k (place ∷ free) hung → ¬ ListsFront ss k
not_yet ss k place free hung pass front =
    let w : Walks (None ∷ []) 0 (take k ss ++ []) front.0 = subst (λ x. Walks (None ∷ []) 0 x front.0) (sym (append-nil (take k ss))) (walks_of (take k ss) front.0 front.1) in
    let on = pass.whole [] front.0 w in
    let t = taken (place ∷ free) k [] on.behind on.walk place free refl in
    absurd (let none = t.begins in cc)

none_up_to : (ss : List ℕ) (k : ℕ) (place : Place) (free hung : List Place) → IsPass ss k (place ∷ free) hung → ListsNoFront ss k
none_up_to ss k place free hung pass j some low = elim (cases_lt j k) [
  | inl less ↦ pass.open_ j some less
  | inr more ↦ let e : k ≡ j = omega arith in subst (λ n. ¬ ListsFront ss n) e (not_yet ss k place free hung pass)
]

pub one_more : (ss : List ℕ) (k : ℕ) (place : Place) (free hung : List Place) → IsPass ss k (place ∷ free) hung → k < length ss → is_formed (slice_index ss k) ≡ true
    → IsPass ss (suc k) (places k (slice_index ss k) ++ free) (hung ++ place ∷ [])
one_more ss k place free hung pass low well =
    let s = slice_index ss k in
    let cut : take (suc k) ss ≡ take k ss ++ (s ∷ []) = take-suc ss k 0 low in
    let join : (rest : List ℕ) → take (suc k) ss ++ rest ≡ take k ss ++ (s ∷ rest) = λ rest. ap (λ x. x ++ rest) cut ∙ append_assoc (take k ss) (s ∷ []) rest in
    record {
      sound = λ rest behind w.
          let step = pass.sound (s ∷ rest) (place ∷ behind) (takes place free k s rest behind well w) in
          subst (λ x. Walks (None ∷ []) 0 x ((hung ++ place ∷ []) ++ behind)) (sym (join rest))
          (subst (λ y. Walks (None ∷ []) 0 (take k ss ++ (s ∷ rest)) y) (sym (append_assoc hung (place ∷ []) behind)) step);
      whole = λ rest hs w. on_behind (pass.whole (s ∷ rest) hs (subst (λ x. Walks (None ∷ []) 0 x hs) (join rest) w));
      formed = λ j less. elim (cases_lt j k) [
        | inl before ↦ pass.formed j before
        | inr here ↦ let e : k ≡ j = omega arith in subst (λ n. is_formed (slice_index ss n) ≡ true) e well
      ];
      open_ = λ j some less. none_up_to ss k place free hung pass j some (omega arith);
    }
  where
    on_behind : {s : ℕ} {rest : List ℕ} {hs : List Place} → GoesOn (place ∷ free) k (s ∷ rest) hung hs → GoesOn (places k s ++ free) (suc k) rest (hung ++ place ∷ []) hs
    on_behind {s} {rest} {hs} on =
        let t = taken (place ∷ free) k (s ∷ rest) on.behind on.walk place free refl in
        let head : s ≡ t.status = let b = t.begins in cc in
        let tail : rest ≡ t.rest = let b = t.begins in cc in
        record {
          behind = t.hung;
          parts = on.parts ∙ ap (λ x. hung ++ x) t.hangs ∙ sym (append_assoc hung (place ∷ []) t.hung);
          walk = subst (λ x. Walks (places k s ++ free) (suc k) x t.hung) (sym tail) (subst (λ y. Walks (places k y ++ free) (suc k) t.rest t.hung) (sym head) t.walk);
        }

-- all places are taken
front_listed : (ss : List ℕ) (k : ℕ) (hung : List Place) → IsPass ss k [] hung → Lists (take k ss) hung
front_listed ss k hung pass =
    let w = pass.sound [] [] (ends k) in
    lists_of (take k ss) hung (subst (λ x. Walks (None ∷ []) 0 x hung) (append-nil (take k ss)) (subst (λ y. Walks (None ∷ []) 0 (take k ss ++ []) y) (append-nil hung) w))

pub all_listed : (ss : List ℕ) (hung : List Place) → IsPass ss (length ss) [] hung → Lists ss hung
all_listed ss hung pass = subst (λ x. Lists x hung) (take-length ss) (front_listed ss (length ss) hung pass)

-- the refusals
pub surplus : (ss : List ℕ) (k : ℕ) (hung : List Place) → IsPass ss k [] hung → k < length ss → (1 ≤ k) × (k < length ss) × ListsFront ss k
surplus ss zero hung pass low =
    let w = pass.sound [] [] (ends 0) in
    let t = taken (None ∷ []) 0 [] (hung ++ []) w None [] refl in
    absurd (let none = t.begins in cc)
surplus ss (suc k) hung pass low = (omega arith, low, (hung, front_listed ss (suc k) hung pass))

pub bad_status : (ss : List ℕ) (k : ℕ) (place : Place) (free hung : List Place) → IsPass ss k (place ∷ free) hung → k < length ss → is_formed (slice_index ss k) ≡ false
    → (k < length ss) × (is_formed (slice_index ss k) ≡ false) × AreFormed ss k × ListsNoFront ss k
bad_status ss k place free hung pass low bad = (low, bad, pass.formed, none_up_to ss k place free hung pass)

pub missing : (ss : List ℕ) (place : Place) (free hung : List Place) → IsPass ss (length ss) (place ∷ free) hung → AreFormed ss (length ss) × ListsNoFront ss (length ss)
missing ss place free hung pass = (pass.formed, none_up_to ss (length ss) place free hung pass)

-- a list of free places, from its end
pub last_first : (free : List Place) (place : Place) (items : List Place) → items ≡ free ++ place ∷ [] → reverse items ≡ place ∷ reverse free
last_first free place items e = ap reverse e ∙ reverse-append free (place ∷ [])

pub some_free : (free : List Place) → ¬ (free ≡ []) → (place : Place) × (others : List Place) × (free ≡ place ∷ others)
some_free [] some = absurd (some refl)
some_free (place ∷ others) some = (place, others, refl)

pub reversed_some : (items : List Place) → ¬ (items ≡ []) → ¬ (reverse items ≡ [])
reversed_some [] some none = some refl
reversed_some (place ∷ items) some none = let long = ap length none in let count = length-reverse (place ∷ items) in absurd (omega (arith, long, count))

pub moved : (ss : List ℕ) (k k' : ℕ) (free free' hung hung' : List Place) → k ≡ k' → free ≡ free' → hung ≡ hung' → IsPass ss k free hung → IsPass ss k' free' hung'
moved ss k k' free free' hung hung' a b c pass = subst (λ n. IsPass ss n free' hung') a (subst (λ f. IsPass ss k f hung') b (subst (λ h. IsPass ss k free h) c pass))

pub no_items : (items : List Place) → (length items == 0) ≡ true → items ≡ []
no_items [] e = refl
no_items (place ∷ items) e = let none : length (place ∷ items) ≡ 0 = search (rules, nat_tests) in absurd (omega (arith, none))

pub some_items : (items : List Place) → (length items == 0) ≡ false → ¬ (items ≡ [])
some_items [] e none = absurd cc
some_items (place ∷ items) e none = let long = ap length none in absurd (omega (arith, long))
