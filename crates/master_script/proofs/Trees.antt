-- The tree as a function is the tree that the statuses list, and its refusal is theirs.
use Rattle.std.proofs.Common.{◌≡◌, ℕ, zero, suc, ◌+◌, ◌<◌, Bool, true, false, cond, List, [], ◌∷◌, ◌++◌, length, drop, None, Result, Ok, Err, refl, sym, subst, arith}
use Rattle.std.specs.Prelude.{slice_index}
use Rattle.std.proofs.lemmas.List.{append_assoc, append-nil, drop_all, drop_more}
use Rattle.dc_topology.specs.DlStatus.{is_formed}
use Rattle.dc_topology.specs.Listed.{Place, places, Lists}
use Rattle.dc_topology.specs.Refusals.{IsRefused}
use Rattle.dc_topology.specs.declared.error.TopologyError.{TopologyError}
use Rattle.dc_topology.specs.declared.error.TopologyError.TheVariants.{BadStatus}
use Rattle.dc_topology.proofs.Exported.{IsPass, before_all, one_more, all_listed, surplus, bad_status, missing, moved}
use Rattle.master_script.specs.ListedTree.{walk, tree_of, behind}

-- what a walk from there says of all statuses
abbrev pub Told : List ℕ → List Place → Result (List Place) TopologyError → Type 0
Told ss hung (Ok rest) = Lists ss (hung ++ rest)
Told ss hung (Err e) = IsRefused ss e

behind_told : (ss : List ℕ) (hung : List Place) (place : Place) (r : Result (List Place) TopologyError) → Told ss (hung ++ place ∷ []) r → Told ss hung (behind place r)
behind_told ss hung place (Ok rest) t = subst (λ x. Lists ss x) (append_assoc hung (place ∷ []) rest) t
behind_told ss hung place (Err e) t = t

ended : (ss : List ℕ) (k : ℕ) (free hung : List Place) → k ≡ length ss → IsPass ss k free hung → Told ss hung (walk free k [])
unfolding walk
ended ss k [] hung e pass = subst (λ x. Lists ss x) (sym (append-nil hung)) (all_listed ss hung (moved ss k (length ss) [] [] hung hung e refl refl pass))
ended ss k (place ∷ free) hung e pass = missing ss place free hung (moved ss k (length ss) (place ∷ free) (place ∷ free) hung hung e refl refl pass)

stepped : (ss : List ℕ) (k : ℕ) (place : Place) (free hung : List Place) (rest : List ℕ) (b : Bool) → is_formed (slice_index ss k) ≡ b → k < length ss → IsPass ss k (place ∷ free) hung
    → (b ≡ true → Told ss (hung ++ place ∷ []) (walk (places k (slice_index ss k) ++ free) (suc k) rest))
    → Told ss hung (cond b (behind place (walk (places k (slice_index ss k) ++ free) (suc k) rest)) (Err (BadStatus k)))
stepped ss k place free hung rest true e l pass t = behind_told ss hung place _ (t refl)
stepped ss k place free hung rest false e l pass t = bad_status ss k place free hung pass l e

walked : (n : ℕ) (ss : List ℕ) (k : ℕ) (free hung : List Place) → k + n ≡ length ss → IsPass ss k free hung → Told ss hung (walk free k (drop k ss))
unfolding walk
walked zero ss k free hung e pass = rw (drop_all k ss (omega (arith, e))) (ended ss k free hung (omega (arith, e)) pass)
walked (suc n) ss k [] hung e pass = rw (drop_more ss k 0 (omega (arith, e))) (surplus ss k hung pass (omega (arith, e)))
walked (suc n) ss k (place ∷ free) hung e pass =
    rw (drop_more ss k 0 (omega (arith, e)))
    (stepped ss k place free hung (drop (k + 1) ss) (is_formed (slice_index ss k)) refl (omega (arith, e)) pass
    (λ b.
    let s : suc k ≡ k + 1 = omega arith in
    subst (λ j. Told ss (hung ++ place ∷ []) (walk (places k (slice_index ss k) ++ free) (suc k) (drop j ss))) s
    (walked n ss (suc k) (places k (slice_index ss k) ++ free) (hung ++ place ∷ []) (omega (arith, e)) (one_more ss k place free hung pass (omega (arith, e)) b))))

tree_walked : (ss : List ℕ) → Told ss [] (tree_of ss)
tree_walked ss = walked (length ss) ss 0 (None ∷ []) [] (omega arith) (before_all ss)

told_ok : (ss : List ℕ) (r : Result (List Place) TopologyError) (hung : List Place) → Told ss [] r → r ≡ Ok hung → Lists ss hung
told_ok ss (Ok found) hung t e = let s : found ≡ hung = cc in subst (λ h. Lists ss h) s t
told_ok ss (Err e) hung t r = absurd cc

told_err : (ss : List ℕ) (r : Result (List Place) TopologyError) (e : TopologyError) → Told ss [] r → r ≡ Err e → IsRefused ss e
told_err ss (Ok found) e t r = absurd cc
told_err ss (Err f) e t r = let s : f ≡ e = cc in subst (λ h. IsRefused ss h) s t

pub tree_listed : (ss : List ℕ) (hung : List Place) → tree_of ss ≡ Ok hung → Lists ss hung
tree_listed ss hung e = told_ok ss (tree_of ss) hung (tree_walked ss) e

pub tree_refused : (ss : List ℕ) (e : TopologyError) → tree_of ss ≡ Err e → IsRefused ss e
tree_refused ss e r = told_err ss (tree_of ss) e (tree_walked ss) r
