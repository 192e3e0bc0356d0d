-- What stands behind a reading that found no fault.
use Rattle.std.proofs.Common.{◌≡◌, ap, ℕ, ◌+◌, ◌≤◌, Bool, true, false, List, [], ◌∷◌, ◌++◌, length, Option, Some, None, Ok, Err, refl, sym, option_and_then, arith, subst}
use Rattle.std.specs.Prelude.{option_map, IfSome, if◌then◌else◌}
use Rattle.std.proofs.lemmas.Bool.{false≢true}
use Rattle.std.proofs.lemmas.Bool.Decides.{nat_tests}
use Rattle.std.proofs.lemmas.List.{length-append}
use Rattle.serde_json.specs.Data.{Data, Items, no_items, item, Members}
use Rattle.serde_json.specs.Events.{items_len}
use Rattle.serde_json.specs.Find.{get, as_array, as_number, as_str, as_u64}
use Rattle.segment_shape.specs.Paths.{Reading, ◌>>=◌, within_element}
use Rattle.segment_shape.specs.Values.{or_fault, within, number_of, number_at, may_be, number_if_any, must_lack, lacking, number_where, option_where, is_id, id_text, id_of, id_at, few_items, items_of, items_at, or_empty, items_if_any}
use Rattle.segment_shape.specs.Keys.{only, are_among}
use Rattle.segment_shape.specs.Rows.{rows_after}

-- both of two readings found none
pub bind_ok : {A B : Type 0} (r : Reading A) (f : A → Reading B) (x : B) → (r >>= f) ≡ Ok x → (y : A) × (r ≡ Ok y) × (f y ≡ Ok x)
bind_ok (Ok y) f x e = (y, refl, e)
bind_ok (Err path) f x e = absurd (cc e)

pub ok_same : {A : Type 0} (x y : A) → ◌≡◌ {A = Reading A} (Ok x) (Ok y) → x ≡ y
ok_same x y e = cc e

some_same : {A : Type 0} (x y : A) → Some x ≡ Some y → x ≡ y
some_same x y e = cc e

pub or_fault_ok : {A : Type 0} (path : List ℕ) (o : Option A) (x : A) → or_fault path o ≡ Ok x → o ≡ Some x
or_fault_ok path None x e = absurd (cc e)
or_fault_ok path (Some y) x e = cc e

then_some : {A B : Type 0} (f : A → Option B) (o : Option A) (y : B) → option_and_then f o ≡ Some y → (x : A) × (o ≡ Some x) × (f x ≡ Some y)
then_some f None y e = absurd (cc e)
then_some f (Some x) y e = (x, refl, e)

pub only_ok : {A : Type 0} (path : List ℕ) (keys : List (List ℕ)) (ms : Members) (x y : A) → only path keys ms x ≡ Ok y → x ≡ y
only_ok path keys ms x y e = by_test (are_among keys ms) e
  where
    by_test : (b : Bool) → (if b then Ok x else Err path) ≡ Ok y → x ≡ y
    by_test true h = cc h
    by_test false h = absurd (cc h)

within_ok : (low high n m : ℕ) → within low high n ≡ Some m → (low ≤ m) × (m ≤ high)
within_ok low high n m e = grind (arith, nat_tests)

number_of_ok : (low high : ℕ) (d : Data) (n : ℕ) → number_of low high d ≡ Some n → (low ≤ n) × (n ≤ high)
number_of_ok low high d n e =
    let p = then_some (within low high) (option_and_then as_u64 (as_number d)) n e in
    within_ok low high p.0 n p.2

pub number_at_ok : (key : List ℕ) (low high : ℕ) (d : Data) (n : ℕ) → number_at key low high d ≡ Ok n → (low ≤ n) × (n ≤ high)
number_at_ok key low high d n e =
    let p = then_some (number_of low high) (get key d) n (or_fault_ok key (option_and_then (number_of low high) (get key d)) n e) in
    number_of_ok low high p.0 n p.2

must_lack_ok : {A : Type 0} (key : List ℕ) (x y : A) (o : Option Data) → must_lack key x o ≡ Ok y → x ≡ y
must_lack_ok key x y None e = cc e
must_lack_ok key x y (Some d) e = absurd (cc e)

pub lacking_ok : {A : Type 0} (key : List ℕ) (x y : A) (d : Data) → lacking key x d ≡ Ok y → x ≡ y
lacking_ok key x y d e = must_lack_ok key x y (get key d) e

-- a number was read, and what followed found no fault
pub number_then : {B : Type 0} (key : List ℕ) (low high : ℕ) (d : Data) (f : ℕ → Reading B) (x : B) → (number_at key low high d >>= f) ≡ Ok x
    → (n : ℕ) × (((low ≤ n) × (n ≤ high)) × (f n ≡ Ok x))
number_then key low high d f x e =
    let p = bind_ok (number_at key low high d) f x e in
    (p.0, (number_at_ok key low high d p.0 p.1, p.2))

-- a number of at most this, and at least that where it belongs; 0 where it does not
pub record IsWhere (belongs : Bool) (low high n : ℕ) : Type 0 where
  pub most : n ≤ high
  pub least : belongs ≡ true → low ≤ n
  pub none : belongs ≡ false → n ≡ 0

-- a number that belongs at a key only in some rows
pub where_then : {B : Type 0} (belongs : Bool) (key : List ℕ) (low high : ℕ) (d : Data) (f : ℕ → Reading B) (x : B) → (number_where belongs key low high d >>= f) ≡ Ok x
    → (n : ℕ) × IsWhere belongs low high n × (f n ≡ Ok x)
where_then true key low high d f x e =
    let p = number_then key low high d f x e in
    (p.0, record { most = p.1.0.1; least = λ _. p.1.0.0; none = λ h. absurd (false≢true (sym h)) }, p.1.1)
where_then false key low high d f x e =
    let p = bind_ok (lacking key 0 d) f x e in
    let zero = lacking_ok key 0 p.0 d p.1 in
    (p.0, record { most = omega (arith, zero); least = λ h. absurd (false≢true h); none = λ _. sym zero }, p.2)

may_be_ok : (key : List ℕ) (low high : ℕ) (o : Option Data) (y : Option ℕ) → may_be key (number_of low high) o ≡ Ok y → IfSome y (λ n. (low ≤ n) × (n ≤ high))
may_be_ok key low high None y e = subst (λ y. IfSome y (λ n. (low ≤ n) × (n ≤ high))) (ok_same None y e) tt
may_be_ok key low high (Some d) y e = found (number_of low high d) (number_of_ok low high d) (or_fault_ok key (option_map Some (number_of low high d)) y e)
  where
    found : (o : Option ℕ) → ((n : ℕ) → o ≡ Some n → (low ≤ n) × (n ≤ high)) → option_map Some o ≡ Some y → IfSome y (λ n. (low ≤ n) × (n ≤ high))
    found None h f = absurd (cc f)
    found (Some n) h f = subst (λ y. IfSome y (λ n. (low ≤ n) × (n ≤ high))) (some_same (Some n) y f) (h n refl)

-- a number that may stand at a key in some rows
pub option_then : {B : Type 0} (belongs : Bool) (key : List ℕ) (low high : ℕ) (d : Data) (f : Option ℕ → Reading B) (x : B) → (option_where belongs key low high d >>= f) ≡ Ok x
    → (o : Option ℕ) × (IfSome o (λ n. (low ≤ n) × (n ≤ high)) × (belongs ≡ false → o ≡ None)) × (f o ≡ Ok x)
option_then true key low high d f x e =
    let p = bind_ok (number_if_any key low high d) f x e in
    (p.0, (may_be_ok key low high (get key d) p.0 p.1, λ h. absurd (false≢true (sym h))), p.2)
option_then false key low high d f x e =
    let p = bind_ok (lacking key None d) f x e in
    let none = lacking_ok key None p.0 d p.1 in
    (p.0, (subst (λ o. IfSome o (λ n. (low ≤ n) × (n ≤ high))) none tt, λ _. sym none), p.2)

-- what was read is an id
id_text_ok : (text id : List ℕ) → id_text text ≡ Some id → is_id id ≡ true
id_text_ok text id e = by_test (is_id text) refl e
  where
    by_test : (b : Bool) → is_id text ≡ b → (if b then Some text else None) ≡ Some id → is_id id ≡ true
    by_test true is h = subst (λ t. is_id t ≡ true) (some_same text id h) is
    by_test false is h = absurd (cc h)

pub id_of_ok : (d : Data) (id : List ℕ) → id_of d ≡ Some id → is_id id ≡ true
id_of_ok d id e = let p = then_some id_text (as_str d) id e in id_text_ok p.0 id p.2

pub id_at_ok : (key : List ℕ) (d : Data) (id : List ℕ) → id_at key d ≡ Ok id → is_id id ≡ true
id_at_ok key d id e =
    let p = then_some id_of (get key d) id (or_fault_ok key (option_and_then id_of (get key d)) id e) in
    id_of_ok p.0 id p.2

few_items_ok : (most : ℕ) (ds es : Items) → few_items most ds ≡ Some es → items_len es ≤ most
few_items_ok most ds es e = grind (arith, nat_tests)

items_of_ok : (most : ℕ) (d : Data) (ds : Items) → items_of most d ≡ Some ds → items_len ds ≤ most
items_of_ok most d ds e = let p = then_some (few_items most) (as_array d) ds e in few_items_ok most p.0 ds p.2

pub items_at_ok : (key : List ℕ) (most : ℕ) (d : Data) (ds : Items) → items_at key most d ≡ Ok ds → items_len ds ≤ most
items_at_ok key most d ds e =
    let p = then_some (items_of most) (get key d) ds (or_fault_ok key (option_and_then (items_of most) (get key d)) ds e) in
    items_of_ok most p.0 ds p.2

or_empty_ok : (o : Option Data) (most : ℕ) (ds : Items) → or_empty o most ≡ Some ds → items_len ds ≤ most
or_empty_ok None most ds e = subst (λ ds. items_len ds ≤ most) (some_same no_items ds e) (omega arith)
or_empty_ok (Some d) most ds e = items_of_ok most d ds e

pub items_if_any_ok : (key : List ℕ) (most : ℕ) (d : Data) (ds : Items) → items_if_any key most d ≡ Ok ds → items_len ds ≤ most
items_if_any_ok key most d ds e = or_empty_ok (get key d) most ds (or_fault_ok key (or_empty (get key d) most) ds e)

within_element_ok : {A : Type 0} (name : List ℕ) (i : ℕ) (r : Reading A) (x : A) → within_element name i r ≡ Ok x → r ≡ Ok x
within_element_ok name i (Ok y) x e = e
within_element_ok name i (Err path) x e = absurd (cc e)

-- what each row keeps, all rows keep
pub rows_keep : {A : Type 0} (name : List ℕ) (read : List A → Data → Reading A) (P : List A → Type 0)
    → ((rows : List A) (d : Data) (r : A) → P rows → read rows d ≡ Ok r → P (rows ++ r ∷ []))
    → (rows : List A) (ds : Items) (all : List A) → P rows → rows_after name read rows ds ≡ Ok all → P all
unfolding rows_after
rows_keep name read P step rows no_items all h e = subst P (ok_same rows all e) h
rows_keep name read P step rows (item d ds) all h e =
    let p = bind_ok (within_element name (length rows) (read rows d)) (λ r. rows_after name read (rows ++ r ∷ []) ds) all e in
    let here = within_element_ok name (length rows) (read rows d) p.0 p.1 in
    rows_keep name read P step (rows ++ p.0 ∷ []) ds all (step rows d p.0 h here) p.2

-- a row for each element
pub rows_many : {A : Type 0} (name : List ℕ) (read : List A → Data → Reading A) (rows : List A) (ds : Items) (all : List A)
    → rows_after name read rows ds ≡ Ok all → length all ≡ length rows + items_len ds
unfolding rows_after
rows_many name read rows no_items all e = omega (arith, ap length (ok_same rows all e))
rows_many name read rows (item d ds) all e =
    let p = bind_ok (within_element name (length rows) (read rows d)) (λ r. rows_after name read (rows ++ r ∷ []) ds) all e in
    let more = rows_many name read (rows ++ p.0 ∷ []) ds all p.2 in
    omega (arith, more, length-append rows (p.0 ∷ []))
