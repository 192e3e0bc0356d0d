-- Datagrams one of which is changed.
use Rattle.std.proofs.Common.{◌≡◌, ℕ, zero, suc, ◌+◌, ◌≢◌, List, [], ◌∷◌, ◌++◌, length, take, drop, Some, slice_get, refl, ap, ◌∙◌, arith}
use Rattle.std.specs.List.{All}
use Rattle.std.proofs.lemmas.List.Elements.{All-cons, All-head, All-nil, All-tail}
use Rattle.ecat_frame.specs.Changed.{changed, modify}
use Rattle.ecat_frame.specs.FrameGrammar.{DatagramValue, FrameValue, more}

pub more-modify : (k : ℕ) (g : DatagramValue → DatagramValue) (ds : List DatagramValue) → more (modify k g ds) ≡ more ds
more-modify k g [] = refl
more-modify zero g (d ∷ ds) = refl
more-modify (suc k) g (d ∷ ds) = refl

pub length-modify : (k : ℕ) (g : DatagramValue → DatagramValue) (ds : List DatagramValue) → length (modify k g ds) ≡ length ds
length-modify k g [] = refl
length-modify zero g (d ∷ ds) = refl
length-modify (suc k) g (d ∷ ds) = ap suc (length-modify k g ds)

-- what datagram k then is
pub slice_get-modify_same : (k : ℕ) (g : DatagramValue → DatagramValue) (ds : List DatagramValue) (d : DatagramValue) → slice_get ds k ≡ Some d → slice_get (modify k g ds) k ≡ Some (g d)
slice_get-modify_same k g [] d is = cc
slice_get-modify_same zero g (e ∷ ds) d is = let same : e ≡ d = cc in ap (λ x. Some (g x)) same
slice_get-modify_same (suc k) g (e ∷ ds) d is = slice_get-modify_same k g ds d is

-- and what the others are
pub slice_get-modify_other : (k i : ℕ) (g : DatagramValue → DatagramValue) (ds : List DatagramValue) → i ≢ k → slice_get (modify k g ds) i ≡ slice_get ds i
slice_get-modify_other k i g [] h = refl
slice_get-modify_other zero zero g (e ∷ ds) h = absurd (h refl)
slice_get-modify_other zero (suc i) g (e ∷ ds) h = refl
slice_get-modify_other (suc k) zero g (e ∷ ds) h = refl
slice_get-modify_other (suc k) (suc i) g (e ∷ ds) h = slice_get-modify_other k i g ds (λ p. h (ap suc p))

pub modify-modify : (k : ℕ) (h g : DatagramValue → DatagramValue) (ds : List DatagramValue) → modify k h (modify k g ds) ≡ modify k (λ d. h (g d)) ds
modify-modify k h g [] = refl
modify-modify zero h g (d ∷ ds) = refl
modify-modify (suc k) h g (d ∷ ds) = ap (λ es. d ∷ es) (modify-modify k h g ds)

-- two changes that agree on datagram k
pub modify_agree : (k : ℕ) (g h : DatagramValue → DatagramValue) (ds : List DatagramValue) (d : DatagramValue) → slice_get ds k ≡ Some d → g d ≡ h d → modify k g ds ≡ modify k h ds
modify_agree k g h [] d is e = refl
modify_agree zero g h (f ∷ ds) d is e =
    let same : f ≡ d = cc in
    rw same (ap (λ x. x ∷ ds) e)
modify_agree (suc k) g h (f ∷ ds) d is e = ap (λ es. f ∷ es) (modify_agree k g h ds d is e)

-- a change that leaves datagram k as it is
pub modify_none : (k : ℕ) (g : DatagramValue → DatagramValue) (ds : List DatagramValue) (d : DatagramValue) → slice_get ds k ≡ Some d → g d ≡ d → modify k g ds ≡ ds
modify_none k g [] d is e = refl
modify_none zero g (f ∷ ds) d is e =
    let same : f ≡ d = cc in
    rw same (ap (λ x. x ∷ ds) e)
modify_none (suc k) g (f ∷ ds) d is e = ap (λ es. f ∷ es) (modify_none k g ds d is e)

-- the datagrams before it, itself, and those behind it
pub modify_split : (k : ℕ) (g : DatagramValue → DatagramValue) (ds : List DatagramValue) (d : DatagramValue) → slice_get ds k ≡ Some d → modify k g ds ≡ take k ds ++ g d ∷ drop (k + 1) ds
modify_split k g [] d is = cc
modify_split zero g (e ∷ ds) d is = let same : e ≡ d = cc in ap (λ x. g x ∷ ds) same
modify_split (suc k) g (e ∷ ds) d is =
    let far : suc k + 1 ≡ suc (k + 1) = omega arith in
    rw far (ap (λ es. e ∷ es) (modify_split k g ds d is))

pub changed-changed : (k : ℕ) (h g : DatagramValue → DatagramValue) (f : FrameValue) → changed k h (changed k g f) ≡ changed k (λ d. h (g d)) f
changed-changed k h g f = ap (λ ds. record f { datagrams = ds }) (modify-modify k h g f.datagrams)

pub changed_agree : (k : ℕ) (g h : DatagramValue → DatagramValue) (f : FrameValue) (d : DatagramValue) → slice_get f.datagrams k ≡ Some d → g d ≡ h d → changed k g f ≡ changed k h f
changed_agree k g h f d is e = ap (λ ds. record f { datagrams = ds }) (modify_agree k g h f.datagrams d is e)

pub All-modify : (P : DatagramValue → Type 0) (ds : List DatagramValue) (k : ℕ) (g : DatagramValue → DatagramValue) (d : DatagramValue) → slice_get ds k ≡ Some d → P (g d) → All P ds → All P (modify k g ds)
All-modify P [] k g d is h w = All-nil P
All-modify P (e ∷ ds) zero g d is h w =
    let same : e ≡ d = cc in
    All-cons P (g e) ds (rw same h) (All-tail P e ds w)
All-modify P (e ∷ ds) (suc k) g d is h w =
    All-cons P e (modify k g ds) (All-head P e ds w) (All-modify P ds k g d is h (All-tail P e ds w))

pub changed_none : (k : ℕ) (g : DatagramValue → DatagramValue) (f : FrameValue) (d : DatagramValue) → slice_get f.datagrams k ≡ Some d → g d ≡ d → changed k g f ≡ f
changed_none k g f d is e = ap (λ ds. record f { datagrams = ds }) (modify_none k g f.datagrams d is e)

-- two changes of one datagram, one after the other
pub changed_twice : (k : ℕ) (g h e : DatagramValue → DatagramValue) (f f₁ f₂ : FrameValue) (d : DatagramValue) → slice_get f.datagrams k ≡ Some d → f₁ ≡ changed k g f → f₂ ≡ changed k h f₁ → h (g d) ≡ e d → f₂ ≡ changed k e f
changed_twice k g h e f f₁ f₂ d is first second same =
    second ∙ ap (changed k h) first ∙ changed-changed k h g f ∙ changed_agree k (λ x. h (g x)) e f d is same
