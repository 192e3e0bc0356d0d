-- The same in one pass: the free places are given out one after the other, the ports of each slave before the others.
use Rattle.std.specs.Prelude.{◌≡◌, ℕ, suc, zero, ◌+◌, ◌<◌, ◌≤◌, true, List, [], ◌∷◌, ◌++◌, length, None, slice_index}
use Rattle.std.proofs.Common.{arith, refl, sym, ap, ◌∙◌, subst}
use Rattle.std.proofs.lemmas.List.{append_assoc, length-append, append-nil}
use Rattle.dc_topology.specs.DlStatus.{is_formed}
use Rattle.dc_topology.specs.Listed.{Place, places, Hangs, Lists, nothing, slave}

pub data Walks : List Place → ℕ → List ℕ → List Place → Type 0 where
  ends : (q : ℕ) → Walks [] q [] []
  takes : (place : Place) (free : List Place) (q status : ℕ) (rest : List ℕ) (hung : List Place)
      → is_formed status ≡ true → Walks (places q status ++ free) (suc q) rest hung → Walks (place ∷ free) q (status ∷ rest) (place ∷ hung)

-- what hangs at some places, and then a walk over the others
pub walks_from : (p r : List Place) (q : ℕ) (ss : List ℕ) (hs : List Place) (rest : List ℕ) (behind : List Place)
    → Hangs p q ss hs → Walks r (q + length ss) rest behind → Walks (p ++ r) q (ss ++ rest) (hs ++ behind)
walks_from p r q ss hs rest behind (nothing q') w = let e : q' + 0 ≡ q' = omega arith in subst (λ n. Walks r n rest behind) e w
walks_from p r q ss hs rest behind (slave place others q' s below hung later after formed h g) w =
    let count = length-append below later in
    let on : Walks r ((suc q' + length below) + length later) rest behind = subst (λ n. Walks r n rest behind) (omega (arith, count)) w in
    let others_walk = walks_from others r (suc q' + length below) later after rest behind g on in
    let inside = walks_from (places q' s) (others ++ r) (suc q') below hung (later ++ rest) (after ++ behind) h others_walk in
    takes place (others ++ r) q' s ((below ++ later) ++ rest) ((hung ++ after) ++ behind) formed
    (rw (append_assoc below later rest, append_assoc hung after behind) inside)

-- the first step of a walk that has a free place
pub record Taken (place : Place) (free : List Place) (q : ℕ) (ss : List ℕ) (hs : List Place) : Type 0 where
  pub status : ℕ
  pub rest : List ℕ
  pub hung : List Place
  pub begins : ss ≡ status ∷ rest
  pub hangs : hs ≡ place ∷ hung
  pub formed : is_formed status ≡ true
  pub walk : Walks (places q status ++ free) (suc q) rest hung

pub taken : (f : List Place) (q : ℕ) (ss : List ℕ) (hs : List Place) → Walks f q ss hs → (place : Place) (free : List Place) → f ≡ place ∷ free → Taken place free q ss hs
taken f q ss hs (ends q') place free e = absurd cc
taken f q ss hs (takes place' free' q' s rest hung formed w) place free e =
    let head : place' ≡ place = cc in
    let tail : free' ≡ free = cc in
    record {
      status = s;
      rest = rest;
      hung = hung;
      begins = refl;
      hangs = ap (λ x. x ∷ hung) head;
      formed = formed;
      walk = subst (λ x. Walks (places q' s ++ x) (suc q') rest hung) tail w;
    }

pub stopped : (f : List Place) (q : ℕ) (ss : List ℕ) (hs : List Place) → Walks f q ss hs → f ≡ [] → (ss ≡ []) × (hs ≡ [])
stopped f q ss hs (ends q') e = (refl, refl)
stopped f q ss hs (takes place free q' s rest hung formed w) e = absurd cc

-- one walk after another
record Parts (p r : List Place) (q : ℕ) (ss : List ℕ) (hs : List Place) : Type 0 where
  below : List ℕ
  rest : List ℕ
  hung : List Place
  behind : List Place
  statuses : ss ≡ below ++ rest
  places : hs ≡ hung ++ behind
  hangs : Hangs p q below hung
  walks : Walks r (q + length below) rest behind

parts : (n : ℕ) (p r : List Place) (q : ℕ) (ss : List ℕ) (hs : List Place) → length ss ≤ n → Walks (p ++ r) q ss hs → Parts p r q ss hs
parts n [] r q ss hs few w = record {
  below = [];
  rest = ss;
  hung = [];
  behind = hs;
  statuses = refl;
  places = refl;
  hangs = nothing q;
  walks = let e : q ≡ q + 0 = omega arith in subst (λ m. Walks r m ss hs) e w;
}
parts zero (place ∷ others) r q ss hs few w =
    let t = taken (place ∷ (others ++ r)) q ss hs w place (others ++ r) refl in
    let long = ap length t.begins in
    absurd (omega (arith, long, few))
parts (suc n) (place ∷ others) r q ss hs few w =
    let t = taken (place ∷ (others ++ r)) q ss hs w place (others ++ r) refl in
    let long = ap length t.begins in
    let first = parts n (places q t.status) (others ++ r) (suc q) t.rest t.hung (omega (arith, long, few)) t.walk in
    let count = ap length first.statuses ∙ length-append first.below first.rest in
    let then_on = parts n others r (suc q + length first.below) first.rest first.behind (omega (arith, long, few, count)) first.walks in
    let whole = length-append first.below then_on.below in
    record {
      below = t.status ∷ first.below ++ then_on.below;
      rest = then_on.rest;
      hung = place ∷ first.hung ++ then_on.hung;
      behind = then_on.behind;
      statuses = t.begins ∙ ap (λ x. t.status ∷ x) (first.statuses ∙ ap (λ x. first.below ++ x) then_on.statuses ∙ sym (append_assoc first.below then_on.below then_on.rest));
      places = t.hangs ∙ ap (λ x. place ∷ x) (first.places ∙ ap (λ x. first.hung ++ x) then_on.places ∙ sym (append_assoc first.hung then_on.hung then_on.behind));
      hangs = slave place others q t.status first.below first.hung then_on.below then_on.hung t.formed first.hangs then_on.hangs;
      walks = subst (λ m. Walks r m then_on.rest then_on.behind) (omega (arith, whole)) then_on.walks;
    }

-- a walk over the statuses of a tree is one over what lists it
pub walks_of : (ss : List ℕ) (hs : List Place) → Lists ss hs → Walks (None ∷ []) 0 ss hs
walks_of ss hs lists = rw (sym (append-nil ss), sym (append-nil hs)) (walks_from (None ∷ []) [] 0 ss hs [] [] lists (ends (0 + length ss)))

pub lists_of : (ss : List ℕ) (hs : List Place) → Walks (None ∷ []) 0 ss hs → Lists ss hs
lists_of ss hs walks =
    let p = parts (length ss) (None ∷ []) [] 0 ss hs (omega arith) walks in
    let none = stopped [] (0 + length p.below) p.rest p.behind p.walks refl in
    let s : ss ≡ p.below = p.statuses ∙ ap (λ x. p.below ++ x) none.0 ∙ append-nil p.below in
    let h : hs ≡ p.hung = p.places ∙ ap (λ x. p.hung ++ x) none.1 ∙ append-nil p.hung in
    subst (λ x. Lists x hs) (sym s) (subst (λ y. Lists p.below y) (sym h) p.hangs)

-- no walk goes on where another one has ended, and both give the same places
pub same_walk : (f : List Place) (q : ℕ) (ss : List ℕ) (hs : List Place) → Walks f q ss hs → (more : List ℕ) (hs' : List Place) → Walks f q (ss ++ more) hs' → (more ≡ []) × (hs ≡ hs')
same_walk f q ss hs (ends q') more hs' w = let none = stopped [] q' more hs' w refl in (none.0, sym none.1)
same_walk f q ss hs (takes place free q' s rest hung formed walk) more hs' w =
    let t = taken (place ∷ free) q' (s ∷ (rest ++ more)) hs' w place free refl in
    let head : s ≡ t.status = cc in
    let tail : rest ++ more ≡ t.rest = cc in
    let on : Walks (places q' s ++ free) (suc q') (rest ++ more) t.hung =
    subst (λ x. Walks (places q' s ++ free) (suc q') x t.hung) (sym tail) (subst (λ y. Walks (places q' y ++ free) (suc q') t.rest t.hung) (sym head) t.walk) in
    let same = same_walk (places q' s ++ free) (suc q') rest hung walk more t.hung on in
    (same.0, ap (λ x. place ∷ x) same.1 ∙ sym t.hangs)

-- all statuses of a walk are well formed
pub walk_formed : (f : List Place) (q : ℕ) (ss : List ℕ) (hs : List Place) → Walks f q ss hs → (j : ℕ) → j < length ss → is_formed (slice_index ss j) ≡ true
walk_formed f q ss hs (ends q') j low = absurd (omega arith)
walk_formed f q ss hs (takes place free q' s rest hung formed w) zero low = formed
walk_formed f q ss hs (takes place free q' s rest hung formed w) (suc j) low = walk_formed (places q' s ++ free) (suc q') rest hung w j (omega arith)
