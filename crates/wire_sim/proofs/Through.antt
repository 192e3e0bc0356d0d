-- A frame on its way through slaves.
use Rattle.std.proofs.Common.{◌≡◌, ℕ, zero, suc, ◌+◌, ◌-◌, ◌<◌, ◌≤◌, min, List, [], ◌∷◌, ◌++◌, length, map, take, drop, set, get_or, Option, refl, sym, ap, ap₂, ◌∙◌, arith, append_assoc}
use Rattle.std.proofs.lemmas.List.{take_more_set, drop-set-lt, drop_more, take-append-drop}
use Rattle.ecat_frame.specs.FrameGrammar.{DatagramValue, FrameValue}
use Rattle.std.specs.Prelude.{slice_set}
use Rattle.frame_pass.specs.SlaveState.{Slave}
use Rattle.frame_pass.specs.SegmentState.{changed_at}
use Rattle.frame_pass.specs.FramePass.{slave_passed, datagrams_passed, slaves_passed, datagrams_behind}
use Rattle.wire_sim.proofs.InOrder.{with_datagrams}

slaves_step : (n h sent : ℕ) (end : Option ℕ) (s : Slave) (ss : List Slave) (ds : List DatagramValue) → n ≡ suc h
    → slaves_passed n sent end (s ∷ ss) ds ≡ slave_passed sent end s ds ∷ slaves_passed h sent end ss (datagrams_passed sent s ds)
unfolding slaves_passed
slaves_step n h sent end s ss ds e = rw e refl

behind_step : (n h sent : ℕ) (s : Slave) (ss : List Slave) (ds : List DatagramValue) → n ≡ suc h
    → datagrams_behind n sent (s ∷ ss) ds ≡ datagrams_behind h sent ss (datagrams_passed sent s ds)
unfolding datagrams_behind
behind_step n h sent s ss ds e = rw e refl

-- one slave more
pub slaves_more : (ss : List Slave) (r i sent : ℕ) (end : Option ℕ) (d s : Slave) (ds es : List DatagramValue) → i < length ss → i < r
    → s ≡ slave_passed sent end (get_or ss i d) ds → es ≡ datagrams_passed sent (get_or ss i d) ds
    → take (i + 1) (set ss i s) ++ slaves_passed (r - (i + 1)) sent end (drop (i + 1) (set ss i s)) es
    ≡ take i ss ++ slaves_passed (r - i) sent end (drop i ss) ds
slaves_more ss r i sent end d s ds es h g p q =
    rw (take_more_set ss i s h, drop-set-lt (i + 1) ss i s (omega arith), drop_more ss i d h)
    (append_assoc (take i ss) _ _
    ∙ ap (λ ys. take i ss ++ ys) (ap₂ (λ z zs. z ∷ slaves_passed (r - (i + 1)) sent end (drop (i + 1) ss) zs) p q
    ∙ sym (slaves_step (r - i) (r - (i + 1)) sent end (get_or ss i d) (drop (i + 1) ss) ds (omega arith))))

pub frame_more : (ss : List Slave) (r i sent : ℕ) (d s : Slave) (g h : FrameValue) → i < length ss → i < r
    → h ≡ with_datagrams g (datagrams_passed sent (get_or ss i d) g.datagrams)
    → with_datagrams h (datagrams_behind (r - (i + 1)) sent (drop (i + 1) (set ss i s)) h.datagrams)
    ≡ with_datagrams g (datagrams_behind (r - i) sent (drop i ss) g.datagrams)
frame_more ss r i sent d s g h l b e =
    rw (e, drop-set-lt (i + 1) ss i s (omega arith), drop_more ss i d l)
    (ap (with_datagrams g) (sym (behind_step (r - i) (r - (i + 1)) sent (get_or ss i d) (drop (i + 1) ss) g.datagrams (omega arith))))

-- behind the last slave
pub slaves_end : (ss : List Slave) (n i sent : ℕ) (end : Option ℕ) (ds : List DatagramValue) → n ≡ 0
    → take i ss ++ slaves_passed n sent end (drop i ss) ds ≡ ss
unfolding slaves_passed
slaves_end ss n i sent end ds e = rw e (take-append-drop i ss)

pub frame_end : (g : FrameValue) (n sent : ℕ) (ss : List Slave) → n ≡ 0 → with_datagrams g (datagrams_behind n sent ss g.datagrams) ≡ g
unfolding datagrams_behind
frame_end g n sent ss e = rw e refl

-- one slave more of which each is changed
pub each_more : (f : Slave → Slave) (ss : List Slave) (i : ℕ) (d s : Slave) → i < length ss → s ≡ f (get_or ss i d)
    → take (i + 1) (set ss i s) ++ map f (drop (i + 1) (set ss i s)) ≡ take i ss ++ map f (drop i ss)
each_more f ss i d s h p =
    rw (take_more_set ss i s h, drop-set-lt (i + 1) ss i s (omega arith), drop_more ss i d h)
    (append_assoc (take i ss) _ _ ∙ ap (λ z. take i ss ++ (z ∷ map f (drop (i + 1) ss))) p)

drop_all : (ss : List Slave) (i : ℕ) → length ss ≤ i → drop i ss ≡ []
drop_all [] zero h = refl
drop_all [] (suc i) h = refl
drop_all (s ∷ ss) zero h = absurd (omega arith)
drop_all (s ∷ ss) (suc i) h = drop_all ss i (omega arith)

pub each_end : (f : Slave → Slave) (ss : List Slave) (i : ℕ) → length ss ≤ i → take i ss ++ map f (drop i ss) ≡ ss
each_end f ss i h = ap (λ zs. take i ss ++ zs) (ap (map f) (drop_all ss i h) ∙ sym (drop_all ss i h)) ∙ take-append-drop i ss

-- behind the last slave there is none
pub reached_all : (n h sent : ℕ) (end : Option ℕ) (ss : List Slave) (ds : List DatagramValue) → n ≡ min h (length ss)
    → slaves_passed n sent end ss ds ≡ slaves_passed h sent end ss ds
unfolding slaves_passed
reached_all n zero sent end ss ds is = let e : n ≡ 0 = omega (arith, is) in rw e refl
reached_all n (suc h) sent end [] ds is = let e : n ≡ 0 = omega (arith, is) in rw e refl
reached_all n (suc h) sent end (s ∷ ss) ds is =
    let e : n ≡ suc (min h (length ss)) = omega (arith, is) in
    rw e (ap (λ zs. slave_passed sent end s ds ∷ zs) (reached_all (min h (length ss)) h sent end ss (datagrams_passed sent s ds) refl))

pub behind_all : (n h sent : ℕ) (ss : List Slave) (ds : List DatagramValue) → n ≡ min h (length ss)
    → datagrams_behind n sent ss ds ≡ datagrams_behind h sent ss ds
unfolding datagrams_behind
behind_all n zero sent ss ds is = let e : n ≡ 0 = omega (arith, is) in rw e refl
behind_all n (suc h) sent [] ds is = let e : n ≡ 0 = omega (arith, is) in rw e refl
behind_all n (suc h) sent (s ∷ ss) ds is =
    let e : n ≡ suc (min h (length ss)) = omega (arith, is) in
    rw e (behind_all (min h (length ss)) h sent ss (datagrams_passed sent s ds) refl)

-- one slave that is changed
pub one_changed : (f : Slave → Slave) (ss : List Slave) (p : ℕ) (d : Slave) → p < length ss → slice_set ss p (f (get_or ss p d)) ≡ changed_at p f ss
unfolding changed_at
one_changed f [] p d h = absurd (omega (arith, h))
one_changed f (s ∷ ss) zero d h = refl
one_changed f (s ∷ ss) (suc p) d h = ap (λ zs. s ∷ zs) (one_changed f ss p d (omega (arith, h)))
