-- The compact text of a written value is read as that value.
use Rattle.std.proofs.Common.{Ordering, Less, Equal, Greater, ◌≡◌, ◌∙◌, sym, ap, ℕ, suc, ◌<◌, ◌≤◌, ◌^◌, Bool, true, false, ◌&&◌, List, [], ◌∷◌, ◌++◌, Option, Some, None, option_and_then, refl, arith, append-nil, IsUtf8}
use Rattle.std.specs.Prelude.{decimal}
use Rattle.std.specs.List.{All}
use Rattle.std.specs.Ordering.{nat_cmp, match_ordering}
use Rattle.std.specs.Cmp.Lexicographic.{slice_cmp}
use Rattle.std.proofs.lemmas.Fmt.{IsAscii-decimal}
use Rattle.std.proofs.lemmas.Str.{IsUtf8-append, IsUtf8-nil, IsUtf8-from_ascii}
use Rattle.std.proofs.lemmas.List.Elements.{All-head, All-tail}
use Rattle.json.specs.Print.{quoted}
use Rattle.json.specs.Json as json
use Rattle.json.specs.Lex.{tokens}
use Rattle.json.specs.Tree as tree
use Rattle.json.proofs.Printed.Decimals.{IsNumber-decimal}
use Rattle.json.proofs.Printed.Trees.{ArePrintable-json_tokens, value-json_tokens}
use Rattle.json.proofs.Printed.Utf8.{IsUtf8-are_ascii, IsUtf8-quoted}
use Rattle.serde_json.specs.Data.{Data, string, array, object, Items, Members, no_members, member, put}
use Rattle.serde_json.specs.Read.{read, max_depth, of_json, of_items, of_members}
use Rattle.serde_json.specs.Written.{outline, items_outline, members_outline, comma_if, compact_text, items_text, members_text}
use Rattle.serde_json.proofs.Numbers.{number_of-decimal}
use Rattle.serde_json.proofs.Texts.{print-outline}
use Rattle.segment_shape.specs.Written.{Entry, held, members_of, items_for, whole, line_feed}
use Rattle.segment_shape.proofs.LineFeedLemmas.{tokens_before_line_feed}

-- a value that is read back from its text, and nests at most so deep
pub record IsPlain (most : ℕ) (d : Data) : Type 0 where
  pub back : of_json (outline d) ≡ Some d
  pub numbers : tree.HasNumbers (outline d)
  pub shallow : tree.depth (outline d) ≤ most
  pub text : IsUtf8 (compact_text d)

-- its text with a line feed is a text of it
pub plain_read : (d : Data) → IsPlain 127 d → read (compact_text d ++ line_feed) ≡ Some d
plain_read d plain =
    let ts = tree.json_tokens (outline d) in
    let text : tokens (compact_text d ++ line_feed) ≡ ts = ap (λ bytes. tokens (bytes ++ line_feed)) (sym (print-outline d)) ∙ tokens_before_line_feed ts (ArePrintable-json_tokens (outline d) plain.numbers) in
    ap (λ r. option_and_then of_json (option_and_then (λ p. json.if_last p.0 p.1) r)) (ap (json.value max_depth) (text ∙ sym (append-nil ts)) ∙ value-json_tokens (outline d) max_depth [] plain.shallow)
    ∙ plain.back

pub plain_utf8 : (d : Data) → IsPlain 127 d → IsUtf8 (compact_text d ++ line_feed)
plain_utf8 d plain = IsUtf8-append (compact_text d) line_feed plain.text (IsUtf8-are_ascii line_feed refl)

pub whole_plain : (n : ℕ) → n < 2 ^ 64 → IsPlain 0 (whole n)
whole_plain n low = record {
  back = rw (number_of-decimal n low) refl;
  numbers = IsNumber-decimal n low;
  shallow = omega arith;
  text = IsUtf8-from_ascii (decimal n) (IsAscii-decimal n low);
}

pub string_plain : (s : List ℕ) → IsUtf8 s → IsPlain 0 (string s)
string_plain s utf8 = record { back = refl; numbers = tt; shallow = omega arith; text = IsUtf8-quoted s utf8 }

pub plainer : (few most : ℕ) (d : Data) → few ≤ most → IsPlain few d → IsPlain most d
plainer few most d h plain = record { back = plain.back; numbers = plain.numbers; shallow = omega (arith, h, plain.shallow); text = plain.text }

-- ---- arrays

pub record ArePlain (most : ℕ) (ds : Items) : Type 0 where
  pub back : of_items (items_outline ds) ≡ Some ds
  pub numbers : tree.ItemsHaveNumbers (items_outline ds)
  pub shallow : tree.items_depth (items_outline ds) ≤ most
  pub text : (later : Bool) → IsUtf8 (items_text later ds)

comma_text : (later : Bool) → IsUtf8 (comma_if later)
comma_text true = IsUtf8-are_ascii (44 ∷ []) refl
comma_text false = IsUtf8-nil

pub items_plain : {A : Type 0} (says : A → Data) (most : ℕ) (xs : List A) → All (λ x. IsPlain most (says x)) xs → ArePlain most (items_for says xs)
items_plain says most [] all = record { back = refl; numbers = tt; shallow = omega arith; text = λ later. IsUtf8-are_ascii (93 ∷ []) refl }
items_plain says most (x ∷ xs) all =
    let one : IsPlain most (says x) = All-head (λ x. IsPlain most (says x)) x xs all in
    let more = items_plain says most xs (All-tail (λ x. IsPlain most (says x)) x xs all) in
    record {
      back = rw (one.back, more.back) refl;
      numbers = (one.numbers, more.numbers);
      shallow = omega (arith, one.shallow, more.shallow);
      text = λ later. IsUtf8-append (comma_if later) _ (comma_text later) (IsUtf8-append (compact_text (says x)) _ one.text (more.text true));
    }

pub array_plain : (most : ℕ) (ds : Items) → ArePlain most ds → IsPlain (suc most) (array ds)
array_plain most ds plain = record {
  back = rw plain.back refl;
  numbers = plain.numbers;
  shallow = omega (arith, plain.shallow);
  text = IsUtf8-append (91 ∷ []) (items_text false ds) (IsUtf8-are_ascii (91 ∷ []) refl) (plain.text false);
}

-- ---- objects

-- the first of two keys comes after the second
abbrev pub is_after : Ordering → Bool
is_after o = match_ordering o false false true

-- a key is above all of these
abbrev pub is_above : List ℕ → List (List ℕ) → Bool
is_above k [] = true
is_above k (l ∷ ls) = is_after (slice_cmp nat_cmp k l) && is_above k ls

-- the entries' keys rise, the first above these
abbrev pub rise : List (List ℕ) → List Entry → Bool
rise earlier [] = true
rise earlier (e ∷ es) = is_above e.key earlier && rise (e.key ∷ earlier) es

abbrev is_over : List ℕ → Members → Bool
is_over k no_members = true
is_over k (member l d ms) = is_after (slice_cmp nat_cmp k l) && is_over k ms

abbrev appended : Members → Members → Members
appended no_members ns = ns
appended (member k d ms) ns = member k d (appended ms ns)

two : (a b : Bool) → (a && b) ≡ true → (a ≡ true) × (b ≡ true)
two true b e = (refl, e)
two false b e = absurd (cc e)

put_last : (k : List ℕ) (d : Data) (ms : Members) → is_over k ms ≡ true → put k d ms ≡ appended ms (member k d no_members)
put_last k d no_members h = refl
put_last k d (member l e ms) h =
    let both = two (is_after (slice_cmp nat_cmp k l)) (is_over k ms) h in
    by_order (slice_cmp nat_cmp k l) both.0 (put_last k d ms both.1)
  where
    by_order : (o : Ordering) → is_after o ≡ true → put k d ms ≡ appended ms (member k d no_members)
        → match_ordering o (member k d (member l e ms)) (member l d ms) (member l e (put k d ms)) ≡ member l e (appended ms (member k d no_members))
    by_order Less g rest = absurd (cc g)
    by_order Equal g rest = absurd (cc g)
    by_order Greater g rest = ap (member l e) rest

appended_none : (ms : Members) → appended ms no_members ≡ ms
appended_none no_members = refl
appended_none (member k d ms) = ap (member k d) (appended_none ms)

appended_more : (ms : Members) (k : List ℕ) (d : Data) (ns : Members) → appended (appended ms (member k d no_members)) ns ≡ appended ms (member k d ns)
appended_more no_members k d ns = refl
appended_more (member l e ms) k d ns = ap (member l e) (appended_more ms k d ns)

over_one_more : (j k : List ℕ) (d : Data) (ms : Members) → is_after (slice_cmp nat_cmp j k) ≡ true → is_over j ms ≡ true → is_over j (appended ms (member k d no_members)) ≡ true
over_one_more j k d no_members h over = rw h refl
over_one_more j k d (member l e ms) h over =
    let both = two (is_after (slice_cmp nat_cmp j l)) (is_over j ms) over in
    rw both.0 (over_one_more j k d ms h both.1)

pub record IsPlainEntry (most : ℕ) (e : Entry) : Type 0 where
  pub key : IsUtf8 e.key
  pub value : (d : Data) → e.value ≡ Some d → IsPlain most d

abbrev pub ArePlainEntries : ℕ → List Entry → Type 0
ArePlainEntries most [] = Unit {0}
ArePlainEntries most (e ∷ es) = IsPlainEntry most e × ArePlainEntries most es

entries_back : (most : ℕ) (es : List Entry) (earlier : List (List ℕ)) (done : Members) → ArePlainEntries most es → rise earlier es ≡ true
    → ((k : List ℕ) → is_above k earlier ≡ true → is_over k done ≡ true) → of_members (members_outline (members_of es)) done ≡ Some (appended done (members_of es))
entries_back most [] earlier done all up over = ap Some (sym (appended_none done))
entries_back most (e ∷ es) earlier done all up over =
    let both = two (is_above e.key earlier) (rise (e.key ∷ earlier) es) up in
    let one = all.0 in
    by_value e.value one.value (over e.key both.0)
    (entries_back most es (e.key ∷ earlier) done all.1 both.1 (λ k h. over k (two (is_after (slice_cmp nat_cmp k e.key)) (is_above k earlier) h).1))
    (λ d here. entries_back most es (e.key ∷ earlier) (appended done (member e.key d no_members)) all.1 both.1
    (λ k h.
    let parts = two (is_after (slice_cmp nat_cmp k e.key)) (is_above k earlier) h in
    over_one_more k e.key d done parts.0 (over k parts.1)))
  where
    by_value : (v : Option Data) → ((d : Data) → v ≡ Some d → IsPlain most d) → is_over e.key done ≡ true
        → of_members (members_outline (members_of es)) done ≡ Some (appended done (members_of es))
        → ((d : Data) → v ≡ Some d → of_members (members_outline (members_of es)) (appended done (member e.key d no_members)) ≡ Some (appended (appended done (member e.key d no_members)) (members_of es)))
        → of_members (members_outline (held e.key v (members_of es))) done ≡ Some (appended done (held e.key v (members_of es)))
    by_value None plain last without with_it = without
    by_value (Some d) plain last without with_it =
        ap (option_and_then (λ x. of_members (members_outline (members_of es)) (put e.key x done))) (plain d refl).back
        ∙ ap (of_members (members_outline (members_of es))) (put_last e.key d done last)
        ∙ with_it d refl
        ∙ ap Some (appended_more done e.key d (members_of es))

entries_numbers : (most : ℕ) (es : List Entry) → ArePlainEntries most es → tree.MembersHaveNumbers (members_outline (members_of es))
entries_numbers most [] all = tt
entries_numbers most (e ∷ es) all = by_value e.value all.0.value (entries_numbers most es all.1)
  where
    by_value : (v : Option Data) → ((d : Data) → v ≡ Some d → IsPlain most d) → tree.MembersHaveNumbers (members_outline (members_of es))
        → tree.MembersHaveNumbers (members_outline (held e.key v (members_of es)))
    by_value None plain rest = rest
    by_value (Some d) plain rest = ((plain d refl).numbers, rest)

entries_shallow : (most : ℕ) (es : List Entry) → ArePlainEntries most es → tree.members_depth (members_outline (members_of es)) ≤ most
entries_shallow most [] all = omega arith
entries_shallow most (e ∷ es) all = by_value e.value all.0.value (entries_shallow most es all.1)
  where
    by_value : (v : Option Data) → ((d : Data) → v ≡ Some d → IsPlain most d) → tree.members_depth (members_outline (members_of es)) ≤ most
        → tree.members_depth (members_outline (held e.key v (members_of es))) ≤ most
    by_value None plain rest = rest
    by_value (Some d) plain rest = omega (arith, (plain d refl).shallow, rest)

entries_text : (most : ℕ) (es : List Entry) → ArePlainEntries most es → (later : Bool) → IsUtf8 (members_text later (members_of es))
entries_text most [] all later = IsUtf8-are_ascii (125 ∷ []) refl
entries_text most (e ∷ es) all later = by_value e.value all.0.value (entries_text most es all.1)
  where
    by_value : (v : Option Data) → ((d : Data) → v ≡ Some d → IsPlain most d) → ((later : Bool) → IsUtf8 (members_text later (members_of es)))
        → IsUtf8 (members_text later (held e.key v (members_of es)))
    by_value None plain rest = rest later
    by_value (Some d) plain rest =
        IsUtf8-append (comma_if later) _ (comma_text later)
        (IsUtf8-append (quoted e.key) _ (IsUtf8-quoted e.key all.0.key)
        (IsUtf8-append (58 ∷ []) _ (IsUtf8-are_ascii (58 ∷ []) refl) (IsUtf8-append (compact_text d) _ (plain d refl).text (rest true))))

pub object_plain : (most : ℕ) (es : List Entry) → ArePlainEntries most es → rise [] es ≡ true → IsPlain (suc most) (object (members_of es))
object_plain most es all up = record {
  back = rw (entries_back most es [] no_members all up (λ k h. refl)) refl;
  numbers = entries_numbers most es all;
  shallow = omega (arith, entries_shallow most es all);
  text = IsUtf8-append (123 ∷ []) (members_text false (members_of es)) (IsUtf8-are_ascii (123 ∷ []) refl) (entries_text most es all false);
}
