-- What a word of each kind looks like, and what clap makes of it.
use Rattle.std.proofs.Common.{◌≡◌, ◌⊎◌, ◌∙◌, sym, ap, ℕ, suc, ◌+◌, Bool, true, false, cond, true≢false, List, [], ◌∷◌, length, take, codes, Option, Some, None, is_some, refl, arith, inl, inr, rules, bytes_eq, chars, IsAscii, IsUtf8, ◌++◌, nat_eq, nat_le, subst}
use Rattle.std.specs.List.{before_first}
use Rattle.std.proofs.lemmas.Bool.{eqb-true, false≢true}
use Rattle.std.proofs.lemmas.Bool.Decides.{nat_tests}
use Rattle.std.proofs.lemmas.Slice.Eq.{bytes_eq-Decides}
use Rattle.std.proofs.lemmas.Str.{chars-append, encodes-chars, encodes-IsAscii, chars-IsAscii, IsUtf8-from_ascii}
use Rattle.std.specs.Str.{encode_utf8_all}
use Rattle.clap.specs.Faults.{flags_fault, long_fault, word_fault}
use Rattle.clap.specs.Kinds.{Kinds}
use Rattle.clap.specs.Lexer.{has_byte, long_of, name_and_value, short_of}
use Rattle.clap.specs.Walk.{Held, Text, arg_by_long, idle, value, word_met}
use Rattle.dc_words.specs.WordKinds.{WordKind, Plain, Dashes, Flag, Refused, kind_of, begins_with_dash}
use Rattle.dc_words.proofs.States.{top, rules as dc_rules}

abbrev pub is_none : Kinds → Bool
is_none kinds = nat_eq (length kinds) 0

-- ---- shapes

abbrev pub Shape : WordKind → Text → Type 0
Shape Plain w = (w ≡ []) ⊎ ((w ≡ 45 ∷ []) ⊎ ((x : ℕ) × (xs : Text) × (w ≡ x ∷ xs) × (nat_eq x 45 ≡ false)))
Shape Dashes w = w ≡ codes "--"
Shape Flag w = w ≡ codes "--edges"
Shape Refused w = (y : ℕ) × (ys : Text) × (w ≡ 45 ∷ y ∷ ys) × (bytes_eq w (codes "--") ≡ false) × (bytes_eq w (codes "--edges") ≡ false)

dash_first : (x y : ℕ) (ys : Text) → begins_with_dash (x ∷ y ∷ ys) ≡ nat_eq x 45
dash_first x y ys = let e : nat_le 2 (length (x ∷ y ∷ ys)) ≡ true = search (rules, nat_tests) in rw e refl

dashed : (w : Text) → bytes_eq w (codes "--") ≡ false → bytes_eq w (codes "--edges") ≡ false → begins_with_dash w ≡ true → Shape Refused w
dashed [] e f g = absurd (false≢true g)
dashed (x ∷ []) e f g = absurd (false≢true g)
dashed (x ∷ y ∷ ys) e f g =
    let is : x ≡ 45 = eqb-true x 45 (sym (dash_first x y ys) ∙ g) in
    (y, ys, ap (λ z. z ∷ y ∷ ys) is, e, f)

undashed : (w : Text) → begins_with_dash w ≡ false → Shape Plain w
undashed [] g = inl refl
undashed (x ∷ []) g = one (nat_eq x 45) refl
  where
    one : (b : Bool) → nat_eq x 45 ≡ b → Shape Plain (x ∷ [])
    one true e = inr (inl (ap (λ z. z ∷ []) (eqb-true x 45 e)))
    one false e = inr (inr (x, [], refl, e))
undashed (x ∷ y ∷ ys) g = inr (inr (x, y ∷ ys, refl, sym (dash_first x y ys) ∙ g))

pub shape_of : (w : Text) → Shape (kind_of false w) w
unfolding kind_of
shape_of w = go (bytes_eq w (codes "--")) (bytes_eq w (codes "--edges")) (begins_with_dash w) refl refl refl
  where
    go : (p q r : Bool) → bytes_eq w (codes "--") ≡ p → bytes_eq w (codes "--edges") ≡ q → begins_with_dash w ≡ r
        → Shape (cond p Dashes (cond q Flag (cond r Refused Plain))) w
    go true q r e f g = (bytes_eq-Decides w (codes "--")).0 e
    go false true r e f g = (bytes_eq-Decides w (codes "--edges")).0 f
    go false false true e f g = dashed w e f g
    go false false false e f g = undashed w g

pub never_behind : (w : Text) → kind_of true w ≡ Plain
unfolding kind_of
never_behind w = refl

-- ---- plain words

-- the word goes to a positional, and is no mistake of itself
abbrev pub IsValue : Bool → Text → Held → ℕ → Type 0
IsValue b w h p = (word_fault top [] b idle w h ≡ []) × (word_met dc_rules [] b idle p w h ≡ (h, value))

not_dashes : (x : ℕ) (xs : Text) → nat_eq x 45 ≡ false → bytes_eq (x ∷ xs) (45 ∷ 45 ∷ []) ≡ false
not_dashes x xs e = rw e refl

not_long : (x : ℕ) (xs : Text) → nat_eq x 45 ≡ false → long_of (x ∷ xs) ≡ None
not_long x xs e = rw e refl

not_short : (x : ℕ) (xs : Text) → nat_eq x 45 ≡ false → short_of (x ∷ xs) ≡ None
not_short x xs e = rw e refl

value_first : (x : ℕ) (xs : Text) (h : Held) (p : ℕ) → nat_eq x 45 ≡ false → IsValue false (x ∷ xs) h p
value_first x xs h p e = rw (not_dashes x xs e, not_long x xs e, not_short x xs e) (refl, refl)

value_shape : (w : Text) (h : Held) (p : ℕ) → Shape Plain w → IsValue false w h p
value_shape w h p s = elim s [
  | inl e ↦ subst (λ v. IsValue false v h p) (sym e) (refl, refl)
  | inr s ↦ elim s [
    | inl e ↦ subst (λ v. IsValue false v h p) (sym e) (refl, refl)
    | inr s ↦ subst (λ v. IsValue false v h p) (sym s.2) (value_first s.0 s.1 h p s.3)
  ]
]

pub plain_is_value : (b : Bool) (w : Text) (h : Held) (p : ℕ) → kind_of b w ≡ Plain → IsValue b w h p
plain_is_value true w h p e = (refl, refl)
plain_is_value false w h p e = value_shape w h p (subst (λ k. Shape k w) e (shape_of w))

-- ---- refused words

-- a text of a byte or more has a character
some_char : (y : ℕ) (ys : Text) → IsUtf8 (45 ∷ y ∷ ys) → (c : ℕ) × (cs : List ℕ) × (chars (y ∷ ys) ≡ c ∷ cs)
some_char y ys u = go (chars (y ∷ ys)) refl
  where
    go : (cs : List ℕ) → chars (y ∷ ys) ≡ cs → (c : ℕ) × (cs : List ℕ) × (chars (y ∷ ys) ≡ c ∷ cs)
    go [] e =
        let dash : IsAscii (45 ∷ []) = search rules in
        let alone : chars (45 ∷ y ∷ ys) ≡ 45 ∷ [] = chars-append (45 ∷ []) (y ∷ ys) (IsUtf8-from_ascii (45 ∷ []) dash) ∙ ap (λ cs. chars (45 ∷ []) ++ cs) e ∙ ap (λ cs. cs ++ []) (chars-IsAscii (45 ∷ []) dash) in
        let all : 45 ∷ [] ≡ 45 ∷ y ∷ ys = sym (encodes-IsAscii (45 ∷ []) dash) ∙ ap encode_utf8_all (sym alone) ∙ encodes-chars (45 ∷ y ∷ ys) u in
        let long : 1 ≡ length (45 ∷ y ∷ ys) = ap length all in
        absurd (omega arith)
    go (c ∷ cs) e = (c, cs, e)

flags_refused : (n : ℕ) (flags : Text) (c : ℕ) (cs : List ℕ) (h : Held) → chars flags ≡ c ∷ cs → is_none (flags_fault dc_rules false (suc n) flags 0 h) ≡ false
unfolding flags_fault
flags_refused n flags c cs h e = rw e refl

short_refused : (y : ℕ) (ys : Text) (h : Held) → h.skip ≡ 0 → IsUtf8 (45 ∷ y ∷ ys) → nat_eq y 45 ≡ false → is_none (word_fault top [] false idle (45 ∷ y ∷ ys) h) ≡ false
short_refused y ys h none u e =
    let c = some_char y ys u in
    let d : bytes_eq (45 ∷ y ∷ ys) (45 ∷ 45 ∷ []) ≡ false = rw e refl in
    let l : long_of (45 ∷ y ∷ ys) ≡ None = rw e refl in
    let s : short_of (45 ∷ y ∷ ys) ≡ Some (y ∷ ys) = rw e refl in
    rw (d, l, s, none) (flags_refused (length ys) (y ∷ ys) c.0 c.1 (record h { skip = 0 }) c.2)

long_refused : (name : Text) (v : Option Text) (h : Held) → (bytes_eq (codes "edges") name ≡ true → is_some v ≡ true)
    → is_none (long_fault dc_rules false (arg_by_long dc_rules name) v h) ≡ false
long_refused name v h given = go (bytes_eq (codes "edges") name) v refl given
  where
    go : (b : Bool) (v : Option Text) → bytes_eq (codes "edges") name ≡ b → (bytes_eq (codes "edges") name ≡ true → is_some v ≡ true)
        → is_none (long_fault dc_rules false (arg_by_long dc_rules name) v h) ≡ false
    go true None e g = absurd (false≢true (g e))
    go true (Some x) e g = rw e refl
    go false None e g = rw e refl
    go false (Some x) e g = rw e refl

one_more : (n x : ℕ) (xs : Text) → take (1 + n) (x ∷ xs) ≡ x ∷ take n xs
one_more n x xs = let e : 1 + n ≡ suc n = omega arith in rw e refl

-- a text without `=` is a name
whole_name : (text : Text) → has_byte 61 text ≡ false → before_first (λ x. nat_eq x 61) text ≡ text
whole_name [] e = refl
whole_name (x ∷ xs) e = go (nat_eq x 61) refl (whole_name xs)
  where
    go : (b : Bool) → nat_eq x 61 ≡ b → (has_byte 61 xs ≡ false → before_first (λ x. nat_eq x 61) xs ≡ xs) → before_first (λ x. nat_eq x 61) (x ∷ xs) ≡ x ∷ xs
    go true f ih = let g : true ≡ false = rw f at e in absurd (true≢false g)
    go false f ih = let g : has_byte 61 xs ≡ false = rw f at e in rw f (one_more _ x xs ∙ ap (λ ys. x ∷ ys) (ih g))

value_there : (text : Text) → bytes_eq (45 ∷ 45 ∷ text) (codes "--edges") ≡ false → bytes_eq (codes "edges") (name_and_value text).0 ≡ true → is_some (name_and_value text).1 ≡ true
value_there text unlike like = go (has_byte 61 text) refl
  where
    go : (b : Bool) → has_byte 61 text ≡ b → is_some (name_and_value text).1 ≡ true
    go true e = rw e refl
    go false e =
        let is : codes "edges" ≡ text = (bytes_eq-Decides (codes "edges") (name_and_value text).0).0 like ∙ whole_name text e in
        let bad : bytes_eq (codes "--edges") (codes "--edges") ≡ false = ap (λ t. bytes_eq (45 ∷ 45 ∷ t) (codes "--edges")) is ∙ unlike in
        absurd (true≢false bad)

long_word_refused : (ys : Text) (h : Held) → bytes_eq (45 ∷ 45 ∷ ys) (codes "--") ≡ false → bytes_eq (45 ∷ 45 ∷ ys) (codes "--edges") ≡ false
    → is_none (word_fault top [] false idle (45 ∷ 45 ∷ ys) h) ≡ false
long_word_refused [] h e f = absurd (true≢false e)
long_word_refused (z ∷ zs) h e f = long_refused (name_and_value (z ∷ zs)).0 (name_and_value (z ∷ zs)).1 h (value_there (z ∷ zs) f)

refused_shape : (y : ℕ) (ys : Text) (h : Held) → h.skip ≡ 0 → IsUtf8 (45 ∷ y ∷ ys) → bytes_eq (45 ∷ y ∷ ys) (codes "--") ≡ false → bytes_eq (45 ∷ y ∷ ys) (codes "--edges") ≡ false
    → is_none (word_fault top [] false idle (45 ∷ y ∷ ys) h) ≡ false
refused_shape y ys h none u e f = go (nat_eq y 45) refl
  where
    go : (b : Bool) → nat_eq y 45 ≡ b → is_none (word_fault top [] false idle (45 ∷ y ∷ ys) h) ≡ false
    go false g = short_refused y ys h none u g
    go true g =
        let is : y ≡ 45 = eqb-true y 45 g in
        subst (λ z. is_none (word_fault top [] false idle (45 ∷ z ∷ ys) h) ≡ false) (sym is)
        (long_word_refused ys h (subst (λ z. bytes_eq (45 ∷ z ∷ ys) (codes "--") ≡ false) is e) (subst (λ z. bytes_eq (45 ∷ z ∷ ys) (codes "--edges") ≡ false) is f))

pub refused_fails : (w : Text) (h : Held) → h.skip ≡ 0 → IsUtf8 w → kind_of false w ≡ Refused → is_none (word_fault top [] false idle w h) ≡ false
refused_fails w h none u e =
    let s : Shape Refused w = subst (λ k. Shape k w) e (shape_of w) in
    subst (λ v. is_none (word_fault top [] false idle v h) ≡ false) (sym s.2)
    (refused_shape s.0 s.1 h none (subst IsUtf8 s.2 u) (subst (λ v. bytes_eq v (codes "--") ≡ false) s.2 s.3) (subst (λ v. bytes_eq v (codes "--edges") ≡ false) s.2 s.4))
