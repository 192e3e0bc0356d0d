-- The walk of clap over all the words.
use Rattle.std.proofs.Common.{◌≡◌, ◌⊎◌, ◌∙◌, sym, ap, ap₂, subst, Bool, true, false, true≢false, cond, List, [], ◌∷◌, ◌++◌, codes, Option, Some, None, is_some, option_map, refl, arith, inl, inr, IsUtf8, All}
use Rattle.std.specs.List.{fold}
use Rattle.std.proofs.lemmas.List.{length-append}
use Rattle.std.proofs.lemmas.List.Elements.{All-head, All-tail}
use Rattle.clap.specs.Faults.{fault_of, step_fault, turn_fault, walk_fault, word_fault}
use Rattle.clap.specs.Kinds.{Kinds, or_else}
use Rattle.clap.specs.Simple.{matches_of}
use Rattle.clap.specs.Walk.{Held, Row, Step, Text, Walk, after_step, finished, idle, one_of, value, walked}
use Rattle.dc_words.specs.CommandLine.{dc_app}
use Rattle.dc_words.specs.CommandOfWords.{Given, given}
use Rattle.dc_words.specs.WordKinds.{WordKind, Plain, Dashes, Flag, Refused, kind_of, sorted, given_of_sorted}
use Rattle.dc_words.proofs.States.{top, rules, State, p0, plain_at, flags_at, held_at, position_at, walk_at, end_fault, told_from, told_if, Told, told, told_of, at_end, with_word, Goes, word_goes, with_flag_met, FlagGoes, flag_goes, dashes_go}
use Rattle.dc_words.proofs.WordShapes.{is_none, shape_of, Shape, never_behind, plain_is_value, refused_fails}
use Rattle.dc_words.proofs.Sorting.{completed, completed_end, plain, dashes, flag, refused, too_many_plain, too_many_flags, from_start}

-- ---- one turn

-- what is told of a word's own kinds and of the walk behind it
abbrev turned : List Text → Kinds → Walk → Option Told
turned ws kinds w = told_if (or_else (or_else kinds (walk_fault top [] w ws)) (end_fault (fold (walked rules []) w ws))) (finished rules (fold (walked rules []) w ws).held)

passes : (w : Walk) (x : Text) (ws : List Text) (w' : Walk) → turn_fault top [] w x ≡ [] → walked rules [] w x ≡ w' → told_from w (x ∷ ws) ≡ told_from w' ws
unfolding walk_fault
passes w x ws w' e f = ap₂ (turned ws) e f

none_told : (k m n : Kinds) (rows : List Row) → is_none k ≡ false → told_if (or_else (or_else k m) n) rows ≡ None
none_told [] m n rows e = absurd (true≢false e)
none_told (k ∷ ks) m n rows e = rw e refl

none_turned : (ws : List Text) (k : Kinds) (w : Walk) → is_none k ≡ false → turned ws k w ≡ None
none_turned ws k w e = none_told k (walk_fault top [] w ws) (end_fault (fold (walked rules []) w ws)) (finished rules (fold (walked rules []) w ws).held) e

fails : (w : Walk) (x : Text) (ws : List Text) → is_none (turn_fault top [] w x) ≡ false → told_from w (x ∷ ws) ≡ None
unfolding walk_fault
fails w x ws e = none_turned ws (turn_fault top [] w x) (walked rules [] w x) e

either : (k m : Kinds) → is_none k ≡ false → is_none (or_else k m) ≡ false
either [] m e = absurd (true≢false e)
either (k ∷ ks) m e = e

-- ---- the turns

abbrev Follows : List Text → Type 0
Follows ws = (b : Bool) (s : State) → told_from (walk_at b s) ws ≡ completed b (plain_at s) (flags_at s) ws

value_fault : (b : Bool) (s : State) (w : Text) → kind_of b w ≡ Plain → turn_fault top [] (walk_at b s) w ≡ step_fault top (position_at s) (held_at s) value
value_fault b s w e =
    let v = plain_is_value b w (held_at s) (position_at s) e in
    ap₂ (λ (k : Kinds) (m : Held × Step). or_else k (step_fault top (position_at s) m.0 m.1)) v.0 v.1

value_walked : (b : Bool) (s : State) (w : Text) → kind_of b w ≡ Plain → walked rules [] (walk_at b s) w ≡ after_step rules w (walk_at b s) (held_at s) value
unfolding walked
value_walked b s w e =
    let v = plain_is_value b w (held_at s) (position_at s) e in
    ap (λ (m : Held × Step). after_step rules w (walk_at b s) m.0 m.1) v.1

plain_turn : (b : Bool) (s : State) (w : Text) (ws : List Text) → Follows ws → kind_of b w ≡ Plain → (o : Option State) → Goes b s w o
    → told_from (walk_at b s) (w ∷ ws) ≡ completed b (plain_at s) (flags_at s) (w ∷ ws)
plain_turn b s w ws ih e (Some t) g =
    passes (walk_at b s) w ws (walk_at b t) (value_fault b s w e ∙ g.0) (value_walked b s w e ∙ g.1)
    ∙ ih b t ∙ ap₂ (λ ps k. completed b ps k ws) g.2 g.3 ∙ sym (plain b w ws (plain_at s) (flags_at s) e)
plain_turn b s w ws ih e None g =
    fails (walk_at b s) w ws (ap is_none (value_fault b s w e) ∙ g.0)
    ∙ sym (too_many_plain (plain_at s ++ w ∷ []) ws b (flags_at s) (let l = g.1 in omega (arith, length-append (plain_at s) (w ∷ []))))
    ∙ sym (plain b w ws (plain_at s) (flags_at s) e)

abbrev is_plain : WordKind → Bool
is_plain Plain = true
is_plain Dashes = false
is_plain Flag = false
is_plain Refused = false

flag_turn : (s : State) (w : Text) (ws : List Text) → Follows ws → w ≡ codes "--edges" → kind_of false w ≡ Flag → (o : Option State) → FlagGoes s o
    → told_from (walk_at false s) (w ∷ ws) ≡ completed false (plain_at s) (flags_at s) (w ∷ ws)
flag_turn s w ws ih is e (Some t) g =
    passes (walk_at false s) w ws (walk_at false t) (ap (turn_fault top [] (walk_at false s)) is ∙ g.0) (ap (walked rules [] (walk_at false s)) is ∙ g.1)
    ∙ ih false t ∙ ap₂ (λ ps k. completed false ps k ws) g.2 g.3 ∙ sym (flag false w ws (plain_at s) (flags_at s) e)
flag_turn s w ws ih is e None g =
    fails (walk_at false s) w ws (ap (λ v. is_none (turn_fault top [] (walk_at false s) v)) is ∙ g.0)
    ∙ sym (too_many_flags (plain_at s) ws false)
    ∙ ap (λ k. completed false (plain_at s) k ws) (let l = g.1 in omega arith) ∙ sym (flag false w ws (plain_at s) (flags_at s) e)

dashes_turn : (s : State) (w : Text) (ws : List Text) → Follows ws → w ≡ codes "--" → kind_of false w ≡ Dashes
    → told_from (walk_at false s) (w ∷ ws) ≡ completed false (plain_at s) (flags_at s) (w ∷ ws)
dashes_turn s w ws ih is e =
    let g = dashes_go s in
    passes (walk_at false s) w ws (walk_at true s) (ap (turn_fault top [] (walk_at false s)) is ∙ g.0) (ap (walked rules [] (walk_at false s)) is ∙ g.1)
    ∙ ih true s ∙ sym (dashes false w ws (plain_at s) (flags_at s) e)

refused_turn : (s : State) (w : Text) (ws : List Text) → IsUtf8 w → kind_of false w ≡ Refused
    → told_from (walk_at false s) (w ∷ ws) ≡ completed false (plain_at s) (flags_at s) (w ∷ ws)
refused_turn s w ws u e =
    fails (walk_at false s) w ws (either (word_fault top [] false idle w (held_at s)) _ (refused_fails w (held_at s) refl u e))
    ∙ sym (refused false w ws (plain_at s) (flags_at s) e)

turn : (b : Bool) (s : State) (w : Text) (ws : List Text) → IsUtf8 w → Follows ws → (k : WordKind) → kind_of b w ≡ k
    → told_from (walk_at b s) (w ∷ ws) ≡ completed b (plain_at s) (flags_at s) (w ∷ ws)
turn b s w ws u ih Plain e = plain_turn b s w ws ih e (with_word s w) (word_goes b s w)
turn true s w ws u ih Dashes e = absurd (true≢false (ap is_plain (sym (never_behind w) ∙ e)))
turn true s w ws u ih Flag e = absurd (true≢false (ap is_plain (sym (never_behind w) ∙ e)))
turn true s w ws u ih Refused e = absurd (true≢false (ap is_plain (sym (never_behind w) ∙ e)))
turn false s w ws u ih Dashes e = dashes_turn s w ws ih (subst (λ k. Shape k w) e (shape_of w)) e
turn false s w ws u ih Flag e = flag_turn s w ws ih (subst (λ k. Shape k w) e (shape_of w)) e (with_flag_met s) (flag_goes s)
turn false s w ws u ih Refused e = refused_turn s w ws u e

-- ---- all the words

pub follows : (ws : List Text) → All IsUtf8 ws → Follows ws
follows [] u b s = at_end b s ∙ sym (completed_end b (plain_at s) (flags_at s))
follows (w ∷ ws) u b s = turn b s w ws (All-head IsUtf8 w ws u) (λ b s. follows ws (All-tail IsUtf8 w ws u) b s) (kind_of b w) refl

-- what is told of the words
pub told_of_words : (ws : List Text) → All IsUtf8 ws → told_if (fault_of dc_app ws) (matches_of dc_app ws) ≡ option_map told (given_of_sorted (sorted false ws))
told_of_words ws u = follows ws u false p0 ∙ from_start (sorted false ws)

pub given_is : (ws : List Text) → All IsUtf8 ws → given ws ≡ given_of_sorted (sorted false ws)
unfolding given
given_is ws u = kept (is_none (fault_of dc_app ws)) ∙ ap (option_map (λ t. t.given)) (told_of_words ws u) ∙ back (given_of_sorted (sorted false ws))
  where
    kept : (b : Bool) → cond b (Some (told_of (matches_of dc_app ws)).given) None ≡ option_map (λ t. t.given) (cond b (Some (told_of (matches_of dc_app ws))) None)
    kept true = refl
    kept false = refl

    back : (o : Option Given) → option_map (λ t. t.given) (option_map told o) ≡ o
    back None = refl
    back (Some g) = refl

-- the flag of words that clap takes is on or off
abbrev inner : Option (Option Text) → Option Text
inner None = None
inner (Some o) = o

pub flag_is_told : (ws : List Text) → All IsUtf8 ws → fault_of dc_app ws ≡ []
    → (one_of (codes "edges") (matches_of dc_app ws) ≡ Some (codes "true")) ⊎ (one_of (codes "edges") (matches_of dc_app ws) ≡ Some (codes "false"))
flag_is_told ws u e = go (given_of_sorted (sorted false ws)) (ap (λ k. told_if k (matches_of dc_app ws)) (sym e) ∙ told_of_words ws u)
  where
    go : (o : Option Given) → Some (told_of (matches_of dc_app ws)) ≡ option_map told o
        → (one_of (codes "edges") (matches_of dc_app ws) ≡ Some (codes "true")) ⊎ (one_of (codes "edges") (matches_of dc_app ws) ≡ Some (codes "false"))
    go None f = absurd (true≢false (ap is_some f))
    go (Some g) f = on (g.edges) (ap (λ o. option_map (λ t. t.flag) o) f)
      where
        on : (b : Bool) → Some (told_of (matches_of dc_app ws)).flag ≡ Some (Some (cond b (codes "true") (codes "false")))
            → (one_of (codes "edges") (matches_of dc_app ws) ≡ Some (codes "true")) ⊎ (one_of (codes "edges") (matches_of dc_app ws) ≡ Some (codes "false"))
        on true h = inl (ap inner h)
        on false h = inr (ap inner h)
