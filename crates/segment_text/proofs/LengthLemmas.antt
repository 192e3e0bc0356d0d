-- How long the text of a written file can be: its keys and ids have at most 16 bytes, and its numbers at most 20 digits.
use Rattle.std.specs.Prelude.{◌≡◌, ℕ, ◌+◌, ◌*◌, ◌^◌, ◌<◌, ◌≤◌, Bool, true, false, List, [], ◌∷◌, ◌++◌, length, Option, Some, None, IfSome}
use Rattle.std.specs.List.{All}
use Rattle.std.proofs.Common.{◌∙◌, ap, arith}
use Rattle.std.proofs.Math.Nat.{suc-mul}
use Rattle.std.proofs.lemmas.Bool.Decides.{nat_tests}
use Rattle.std.proofs.lemmas.Fmt.{length-decimal-le}
use Rattle.std.proofs.lemmas.List.{length-append}
use Rattle.std.proofs.lemmas.List.Elements.{All-head, All-tail}
use Rattle.json.specs.Print.{quoted}
use Rattle.serde_json.specs.Data.{Data, array, object, string}
use Rattle.serde_json.specs.Written.{comma_if, compact_text, items_text, members_text}
use Rattle.segment_shape.specs.Values.{is_id}
use Rattle.segment_shape.specs.Written.{Entry, held, members_of, items_for, at_key, at_key_if, at_key_of, whole}
use Rattle.segment_text.specs.Text.{member_text, value_text, entry_text, entries_text}
use Rattle.segment_text.proofs.PlainLemmas.{quoted_plain, id_plain}

id_short : (id : List ℕ) → is_id id ≡ true → length id ≤ 16
id_short id h = grind (arith, nat_tests, h)

quoted_length : (id : List ℕ) → is_id id ≡ true → length (quoted id) ≡ length id + 2
quoted_length id h = ap length (quoted_plain id (id_plain id h)) ∙ omega (arith, length-append id (34 ∷ []))

-- ---- values

pub number_short : (n : ℕ) → n < 2 ^ 64 → length (compact_text (whole n)) ≤ 20
number_short n h = length-decimal-le 20 n (omega arith) (omega (arith, h)) h

pub id_text_short : (id : List ℕ) → is_id id ≡ true → length (compact_text (string id)) ≤ 20
id_text_short id h = omega (arith, quoted_length id h, id_short id h)

-- ---- members of an object

member_short : (key : List ℕ) (d : Data) (n : ℕ) → is_id key ≡ true → length (compact_text d) ≤ n → length (member_text key d) ≤ n + 19
member_short key d n k h = omega (arith, length-append (quoted key) (58 ∷ compact_text d), quoted_length key k, id_short key k, h)

pub entry_short : (key : List ℕ) (d : Data) (n : ℕ) → is_id key ≡ true → length (compact_text d) ≤ n → length (entry_text (at_key key d)) ≤ n + 20
unfolding entry_text
entry_short key d n k h = omega (arith, member_short key d n k h)

pub entry_short_if : (belongs : Bool) (key : List ℕ) (d : Data) (n : ℕ) → is_id key ≡ true → length (compact_text d) ≤ n
    → length (entry_text (at_key_if belongs key d)) ≤ n + 20
unfolding entry_text
entry_short_if true key d n k h = omega (arith, member_short key d n k h)
entry_short_if false key d n k h = omega arith

pub entry_short_of : {A : Type 0} (says : A → Data) (key : List ℕ) (o : Option A) (n : ℕ) → is_id key ≡ true → IfSome o (λ x. length (compact_text (says x)) ≤ n)
    → length (entry_text (at_key_of says key o)) ≤ n + 20
unfolding entry_text
entry_short_of says key None n k h = omega arith
entry_short_of says key (Some x) n k h = omega (arith, member_short key (says x) n k h)

-- a number takes at most 40 bytes at its key
pub number_at_short : (key : List ℕ) (n : ℕ) → is_id key ≡ true → n < 2 ^ 64 → length (entry_text (at_key key (whole n))) ≤ 40
number_at_short key n k h = entry_short key (whole n) 20 k (number_short n h)

pub number_if_short : (belongs : Bool) (key : List ℕ) (n : ℕ) → is_id key ≡ true → n < 2 ^ 64 → length (entry_text (at_key_if belongs key (whole n))) ≤ 40
number_if_short belongs key n k h = entry_short_if belongs key (whole n) 20 k (number_short n h)

-- and so does an id
pub id_at_short : (key id : List ℕ) → is_id key ≡ true → is_id id ≡ true → length (entry_text (at_key key (string id))) ≤ 40
id_at_short key id k h = entry_short key (string id) 20 k (id_text_short id h)

comma_short : (later : Bool) → length (comma_if later) ≤ 1
comma_short true = omega arith
comma_short false = omega arith

members_short : (es : List Entry) (later : Bool) → length (members_text later (members_of es)) ≤ length (entries_text es) + 1
unfolding entry_text
members_short [] later = omega arith
members_short (e ∷ es) later = by_value e.value (members_short es)
  where
    by_value : (v : Option Data) → ((later : Bool) → length (members_text later (members_of es)) ≤ length (entries_text es) + 1)
        → length (members_text later (held e.key v (members_of es))) ≤ length (value_text e.key v ++ entries_text es) + 1
    by_value None rest = rest later
    by_value (Some d) rest = simp length-append (omega (arith, comma_short later, rest true))

-- an object is as long as its entries, but for its brackets
pub object_short : (es : List Entry) (n : ℕ) → length (entries_text es) ≤ n → length (compact_text (object (members_of es))) ≤ n + 2
object_short es n h = omega (arith, members_short es false, h)

-- ---- elements of an array

items_short : {A : Type 0} (says : A → Data) (n : ℕ) (xs : List A) (later : Bool) → All (λ x. length (compact_text (says x)) ≤ n) xs
    → length (items_text later (items_for says xs)) ≤ length xs * (n + 1) + 1
items_short says n [] later h = omega arith
items_short says n (x ∷ xs) later h =
    let here = All-head (λ x. length (compact_text (says x)) ≤ n) x xs h in
    let rest = items_short says n xs true (All-tail (λ x. length (compact_text (says x)) ≤ n) x xs h) in
    simp length-append (omega (arith, comma_short later, here, rest, suc-mul (length xs) (n + 1)))

pub array_short : {A : Type 0} (says : A → Data) (n : ℕ) (xs : List A) → All (λ x. length (compact_text (says x)) ≤ n) xs
    → length (compact_text (array (items_for says xs))) ≤ length xs * (n + 1) + 2
array_short says n xs h = omega (arith, items_short says n xs false h)
