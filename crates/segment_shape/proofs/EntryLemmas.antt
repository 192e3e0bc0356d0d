-- What is read at the keys of written entries.
use Rattle.std.proofs.Common.{Ordering, Less, Equal, Greater, ◌≡◌, ◌∙◌, sym, ap, ℕ, suc, ◌≤◌, Bool, true, false, ◌&&◌, ◌||◌, List, [], ◌∷◌, ◌++◌, length, Option, Some, None, Ok, Err, option_and_then, refl, arith, rules, append-nil}
use Rattle.std.specs.Prelude.{nat_le, is_none, IfSome, option_map, unwrap_or, if◌then◌else◌}
use Rattle.std.specs.List.{list_any}
use Rattle.std.specs.Str.{bytes_eq}
use Rattle.std.specs.Ordering.{nat_cmp, match_ordering}
use Rattle.std.specs.Cmp.Lexicographic.{slice_cmp}
use Rattle.std.proofs.lemmas.Bool.Decides.{nat_tests}
use Rattle.std.proofs.lemmas.List.{append_assoc}
use Rattle.std.specs.Option.{option_or}
use Rattle.serde_json.specs.Data.{Data, string, array, Items, Members}
use Rattle.serde_json.specs.Events.{items_len}
use Rattle.serde_json.specs.Find.{get_member, get, as_object}
use Rattle.segment_shape.specs.Paths.{Reading, ◌>>=◌}
use Rattle.segment_shape.specs.Values.{or_fault, must_lack, id_text, id_of, items_of, or_empty, members_at, within, number_of, number_at, may_be, number_where, option_where, is_id, id_at, items_at, items_if_any}
use Rattle.segment_shape.specs.Keys.{are_among, only}
use Rattle.segment_shape.specs.Rows.{rows_after}
use Rattle.segment_shape.specs.Written.{Entry, held, members_of, items_for, whole}

-- no entry has this key
abbrev pub lacks : List ℕ → List Entry → Bool
lacks k [] = true
lacks k (e ∷ es) = match_ordering (slice_cmp nat_cmp k e.key) (lacks k es) false (lacks k es)

-- at most one entry has this key
abbrev pub has_once : List ℕ → List Entry → Bool
has_once k [] = true
has_once k (e ∷ es) = match_ordering (slice_cmp nat_cmp k e.key) (has_once k es) (lacks k es) (has_once k es)

-- what stands at the first entry with this key
abbrev pub entry_at : List ℕ → List Entry → Option Data
entry_at k [] = None
entry_at k (e ∷ es) = match_ordering (slice_cmp nat_cmp k e.key) (entry_at k es) e.value (entry_at k es)

held_at : (k l : List ℕ) (v : Option Data) (ms : Members)
    → get_member k (held l v ms) ≡ match_ordering (slice_cmp nat_cmp k l) (get_member k ms) (option_or v (get_member k ms)) (get_member k ms)
held_at k l (Some d) ms = refl
held_at k l None ms = by_order (slice_cmp nat_cmp k l)
  where
    by_order : (o : Ordering) → get_member k ms ≡ match_ordering o (get_member k ms) (get_member k ms) (get_member k ms)
    by_order Less = refl
    by_order Equal = refl
    by_order Greater = refl

lacking_member : (k : List ℕ) (es : List Entry) → lacks k es ≡ true → get_member k (members_of es) ≡ None
lacking_member k [] h = refl
lacking_member k (e ∷ es) h = held_at k e.key e.value (members_of es) ∙ by_order (slice_cmp nat_cmp k e.key) h (lacking_member k es)
  where
    by_order : (o : Ordering) → match_ordering o (lacks k es) false (lacks k es) ≡ true → (lacks k es ≡ true → get_member k (members_of es) ≡ None)
        → match_ordering o (get_member k (members_of es)) (option_or e.value (get_member k (members_of es))) (get_member k (members_of es)) ≡ None
    by_order Less g later = later g
    by_order Equal g later = absurd (cc g)
    by_order Greater g later = later g

or_none : (v m : Option Data) → m ≡ None → option_or v m ≡ v
or_none None m e = e
or_none (Some d) m e = refl

-- what is found at a key is what stands at its entry
pub get_entry : (k : List ℕ) (es : List Entry) → has_once k es ≡ true → get_member k (members_of es) ≡ entry_at k es
get_entry k [] h = refl
get_entry k (e ∷ es) h = held_at k e.key e.value (members_of es) ∙ by_order (slice_cmp nat_cmp k e.key) h (get_entry k es)
  where
    by_order : (o : Ordering) → match_ordering o (has_once k es) (lacks k es) (has_once k es) ≡ true → (has_once k es ≡ true → get_member k (members_of es) ≡ entry_at k es)
        → match_ordering o (get_member k (members_of es)) (option_or e.value (get_member k (members_of es))) (get_member k (members_of es))
        ≡ match_ordering o (entry_at k es) e.value (entry_at k es)
    by_order Less g later = later g
    by_order Equal g later = or_none e.value (get_member k (members_of es)) (lacking_member k es g)
    by_order Greater g later = later g

-- each entry with a value has one of these keys
abbrev pub known : List (List ℕ) → List Entry → Bool
known keys [] = true
known keys (e ∷ es) = (list_any (bytes_eq e.key) keys || is_none e.value) && known keys es

two : (a b : Bool) → (a && b) ≡ true → (a ≡ true) × (b ≡ true)
two true b e = (refl, e)
two false b e = absurd (cc e)

both_true : (a b : Bool) → (a || false) ≡ true → b ≡ true → (a && b) ≡ true
both_true true b h k = k
both_true false b h k = absurd (cc h)

one_known : (keys : List (List ℕ)) (key : List ℕ) (v : Option Data) (ms : Members) → (list_any (bytes_eq key) keys || is_none v) ≡ true → are_among keys ms ≡ true
    → are_among keys (held key v ms) ≡ true
unfolding are_among
one_known keys key None ms one rest = rest
one_known keys key (Some d) ms one rest = both_true (list_any (bytes_eq key) keys) (are_among keys ms) one rest

pub known_keys : (keys : List (List ℕ)) (es : List Entry) → known keys es ≡ true → are_among keys (members_of es) ≡ true
unfolding are_among
known_keys keys [] h = refl
known_keys keys (e ∷ es) h =
    let both = two (list_any (bytes_eq e.key) keys || is_none e.value) (known keys es) h in
    one_known keys e.key e.value (members_of es) both.0 (known_keys keys es both.1)

pub if_true : {A : Type 0} (b : Bool) (x y : A) → b ≡ true → (if b then x else y) ≡ x
if_true true x y h = refl
if_true false x y h = absurd (cc h)

pub if_false : {A : Type 0} (b : Bool) (x y : A) → b ≡ false → (if b then x else y) ≡ y
if_false true x y h = absurd (cc h)
if_false false x y h = refl

pub only_known : {A : Type 0} (path : List ℕ) (keys : List (List ℕ)) (ms : Members) (x : A) → are_among keys ms ≡ true → only path keys ms x ≡ Ok x
only_known path keys ms x h = if_true (are_among keys ms) (Ok x) (Err path) h

-- ---- readings without fault

pub then_ok : {A B : Type 0} (r : Reading A) (f : A → Reading B) (y : A) (x : Reading B) → r ≡ Ok y → f y ≡ x → (r >>= f) ≡ x
then_ok r f y x e h = rw e h

pub object_read : (d : Data) (ms : Members) (path : List ℕ) → as_object d ≡ Some ms → members_at path d ≡ Ok ms
object_read d ms path e = ap (or_fault path) e

and_true : (a b : Bool) → a ≡ true → b ≡ true → (a && b) ≡ true
and_true true b h k = k
and_true false b h k = absurd (cc h)

within_is : (low high n : ℕ) → low ≤ n → n ≤ high → within low high n ≡ Some n
within_is low high n l h =
    let a : nat_le low n ≡ true = search (rules, nat_tests) in
    let b : nat_le n high ≡ true = search (rules, nat_tests) in
    if_true (nat_le low n && nat_le n high) (Some n) None (and_true (nat_le low n) (nat_le n high) a b)

pub number_read : (key : List ℕ) (low high n : ℕ) (d : Data) → get key d ≡ Some (whole n) → (low ≤ n) × (n ≤ high) → number_at key low high d ≡ Ok n
number_read key low high n d e is = ap (λ o. or_fault key (option_and_then (number_of low high) o)) e ∙ ap (or_fault key) (within_is low high n is.0 is.1)

-- a number where it belongs
pub where_read : (b : Bool) (key : List ℕ) (low high n : ℕ) (d : Data) → get key d ≡ (if b then Some (whole n) else None) → (b ≡ true → low ≤ n) → n ≤ high
    → (b ≡ false → n ≡ 0) → number_where b key low high d ≡ Ok n
where_read true key low high n d e least most none = number_read key low high n d e (least refl, most)
where_read false key low high n d e least most none = ap (must_lack key 0) e ∙ ap Ok (sym (none refl))

-- a number that may stand where it belongs
pub shift_read : (b : Bool) (key : List ℕ) (high n : ℕ) (d : Data) → get key d ≡ (if b then Some (whole n) else None) → n ≤ high → (b ≡ false → n ≡ 0)
    → (o : Option ℕ) × (option_where b key 0 high d ≡ Ok o) × (unwrap_or o 0 ≡ n)
shift_read true key high n d e most none =
    (Some n, ap (may_be key (number_of 0 high)) e ∙ ap (λ o. or_fault key (option_map Some o)) (within_is 0 high n (omega arith) most), refl)
shift_read false key high n d e most none = (None, ap (must_lack key None) e, sym (none refl))

pub option_read : (b : Bool) (key : List ℕ) (low high : ℕ) (o : Option ℕ) (d : Data) → get key d ≡ option_map whole o → IfSome o (λ n. (low ≤ n) × (n ≤ high))
    → (b ≡ false → o ≡ None) → option_where b key low high d ≡ Ok o
option_read true key low high None d e is none = ap (may_be key (number_of low high)) e
option_read true key low high (Some n) d e is none = ap (may_be key (number_of low high)) e ∙ ap (λ o. or_fault key (option_map Some o)) (within_is low high n is.0 is.1)
option_read false key low high o d e is none = ap (must_lack key None) (e ∙ ap (option_map whole) (none refl)) ∙ ap Ok (sym (none refl))

pub id_is : (id : List ℕ) → is_id id ≡ true → id_text id ≡ Some id
id_is id is = if_true (is_id id) (Some id) None is

pub id_read : (key id : List ℕ) (d : Data) → get key d ≡ Some (string id) → is_id id ≡ true → id_at key d ≡ Ok id
id_read key id d e is = ap (λ o. or_fault key (option_and_then id_of o)) e ∙ ap (or_fault key) (id_is id is)

pub items_many : {A : Type 0} (says : A → Data) (xs : List A) → items_len (items_for says xs) ≡ length xs
items_many says [] = refl
items_many says (x ∷ xs) = ap suc (items_many says xs)

pub items_read : (key : List ℕ) (most : ℕ) (ds : Items) (d : Data) → get key d ≡ Some (array ds) → items_len ds ≤ most → items_at key most d ≡ Ok ds
items_read key most ds d e few =
    let t : nat_le (items_len ds) most ≡ true = search (rules, nat_tests) in
    ap (λ o. or_fault key (option_and_then (items_of most) o)) e ∙ ap (or_fault key) (if_true (nat_le (items_len ds) most) (Some ds) None t)

pub items_read_if_any : (key : List ℕ) (most : ℕ) (ds : Items) (d : Data) → get key d ≡ Some (array ds) → items_len ds ≤ most → items_if_any key most d ≡ Ok ds
items_read_if_any key most ds d e few =
    let t : nat_le (items_len ds) most ≡ true = search (rules, nat_tests) in
    ap (λ o. or_fault key (or_empty o most)) e ∙ ap (or_fault key) (if_true (nat_le (items_len ds) most) (Some ds) None t)

-- each of the rest is read behind those before it
abbrev pub AreRead : {A : Type 0} → (List A → Data → Reading A) → (A → Data) → List A → List A → Type 0
AreRead read says done [] = Unit {0}
AreRead read says done (x ∷ xs) = (read done (says x) ≡ Ok x) × AreRead read says (done ++ x ∷ []) xs

pub rows_read : {A : Type 0} (name : List ℕ) (read : List A → Data → Reading A) (says : A → Data) (done xs : List A) → AreRead read says done xs
    → rows_after name read done (items_for says xs) ≡ Ok (done ++ xs)
unfolding rows_after
rows_read name read says done [] all = ap Ok (sym (append-nil done))
rows_read name read says done (x ∷ xs) all =
    rw all.0 (rows_read name read says (done ++ x ∷ []) xs all.1 ∙ ap Ok (append_assoc done (x ∷ []) xs))
