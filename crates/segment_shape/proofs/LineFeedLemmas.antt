-- A line feed behind a written text says nothing: it is read as the same value.
use Rattle.std.proofs.Common.{◌≡◌, ◌∙◌, sym, ap, ap₂, ℕ, Bool, true, false, cond, ◌&&◌, List, [], ◌∷◌, ◌++◌, refl, append_assoc, append-nil}
use Rattle.json.specs.Token.{Token, begin_object, end_object, begin_array, end_array, key, string, number, boolean, null, bad}
use Rattle.json.specs.Word.{ends_word, word}
use Rattle.json.specs.Lex.{token, comma, colon, string_token, lex, between, fresh, punctuate, tokens}
use Rattle.json.specs.Print.{escape, quoted, token_text, begins, ends, separator, print_from, print, IsPrintable, ArePrintable}
use Rattle.json.proofs.Printed.Strings.{content-escape, lex-escape}
use Rattle.json.proofs.Printed.Numbers.{lex-number, in_word-ended}
use Rattle.json.proofs.Printed.Tokens.{tokens-print}

-- two ends of a text have the same lexemes
abbrev AreAlike : List ℕ → List ℕ → Type 0
AreAlike r s = lex between r ≡ lex between s

-- each of them ends a word before it
abbrev EndWords : List ℕ → List ℕ → Type 0
EndWords r s = (ends_word r ≡ true) × (ends_word s ≡ true)

quoted_lexed : (text r : List ℕ) → lex between (quoted text ++ r) ≡ token (string text) ∷ lex between r
unfolding lex
quoted_lexed text r =
    ap (λ l. lex between (34 ∷ l)) (append_assoc (escape text) (34 ∷ []) r)
    ∙ ap₂ (λ o l. token (string_token o) ∷ l) (content-escape text r) (lex-escape text r)

quoted_alike : (text r s : List ℕ) → AreAlike r s → AreAlike (quoted text ++ r) (quoted text ++ s)
quoted_alike text r s e = quoted_lexed text r ∙ ap (λ l. token (string text) ∷ l) e ∙ sym (quoted_lexed text s)

colon_alike : (r s : List ℕ) → AreAlike r s → AreAlike (58 ∷ r) (58 ∷ s)
unfolding lex
colon_alike r s e = ap (λ l. colon ∷ l) e

token_alike : (t : Token) (r s : List ℕ) → IsPrintable t → AreAlike r s → (ends t ≡ true → EndWords r s) → AreAlike (token_text t ++ r) (token_text t ++ s)
unfolding lex word
token_alike begin_object r s h e ended = ap (λ l. token begin_object ∷ l) e
token_alike end_object r s h e ended = ap (λ l. token end_object ∷ l) e
token_alike begin_array r s h e ended = ap (λ l. token begin_array ∷ l) e
token_alike end_array r s h e ended = ap (λ l. token end_array ∷ l) e
token_alike (key k) r s h e ended =
    ap (lex between) (append_assoc (quoted k) (58 ∷ []) r) ∙ quoted_alike k (58 ∷ r) (58 ∷ s) (colon_alike r s e) ∙ ap (lex between) (sym (append_assoc (quoted k) (58 ∷ []) s))
token_alike (string k) r s h e ended = quoted_alike k r s e
token_alike (number n) r s h e ended = lex-number n r h (ended refl).0 ∙ ap (λ l. token (number n) ∷ l) e ∙ sym (lex-number n s h (ended refl).1)
token_alike (boolean true) r s h e ended = rw ((ended refl).0, (ended refl).1) (ap (λ l. token (boolean true) ∷ l) (in_word-ended r (ended refl).0 ∙ e ∙ sym (in_word-ended s (ended refl).1)))
token_alike (boolean false) r s h e ended = rw ((ended refl).0, (ended refl).1) (ap (λ l. token (boolean false) ∷ l) (in_word-ended r (ended refl).0 ∙ e ∙ sym (in_word-ended s (ended refl).1)))
token_alike null r s h e ended = rw ((ended refl).0, (ended refl).1) (ap (λ l. token null ∷ l) (in_word-ended r (ended refl).0 ∙ e ∙ sym (in_word-ended s (ended refl).1)))
token_alike bad r s h e ended = absurd h

separator_alike : (b : Bool) (r s : List ℕ) → AreAlike r s → AreAlike (cond b (44 ∷ []) [] ++ r) (cond b (44 ∷ []) [] ++ s)
unfolding lex
separator_alike true r s e = ap (λ l. comma ∷ l) e
separator_alike false r s e = e

-- what stands behind a value ends it
value_ends : (ts : List Token) (r : List ℕ) → ends_word r ≡ true → ends_word (print_from true ts ++ r) ≡ true
unfolding print_from
value_ends [] r h = h
value_ends (begin_object ∷ ts) r h = refl
value_ends (end_object ∷ ts) r h = refl
value_ends (begin_array ∷ ts) r h = refl
value_ends (end_array ∷ ts) r h = refl
value_ends (key k ∷ ts) r h = refl
value_ends (string k ∷ ts) r h = refl
value_ends (number n ∷ ts) r h = refl
value_ends (boolean b ∷ ts) r h = refl
value_ends (null ∷ ts) r h = refl
value_ends (bad ∷ ts) r h = refl

after : (b : Bool) (ts : List Token) (r s : List ℕ) → EndWords r s → b ≡ true → EndWords (print_from b ts ++ r) (print_from b ts ++ s)
after true ts r s ended e = (value_ends ts r ended.0, value_ends ts s ended.1)
after false ts r s ended e = absurd (cc e)

printed_alike : (c : Bool) (ts : List Token) (r s : List ℕ) → ArePrintable ts → AreAlike r s → EndWords r s → AreAlike (print_from c ts ++ r) (print_from c ts ++ s)
unfolding print_from ArePrintable
printed_alike c [] r s h e ended = e
printed_alike c (t ∷ ts) r s h e ended =
    let rest = printed_alike (ends t) ts r s h.1 e ended in
    let parts = λ (x : List ℕ). append_assoc (separator c t) (token_text t ++ print_from (ends t) ts) x ∙ ap (λ l. separator c t ++ l) (append_assoc (token_text t) (print_from (ends t) ts) x) in
    ap (lex between) (parts r)
    ∙ separator_alike (c && begins t) _ _ (token_alike t _ _ h.0 rest (after (ends t) ts r s ended))
    ∙ ap (lex between) (sym (parts s))

line_feed_alike : AreAlike (10 ∷ []) []
unfolding lex
line_feed_alike = refl

-- printed tokens with a line feed behind them
pub tokens_before_line_feed : (ts : List Token) → ArePrintable ts → tokens (print ts ++ 10 ∷ []) ≡ ts
tokens_before_line_feed ts h =
    ap (punctuate fresh) (printed_alike false ts (10 ∷ []) [] h line_feed_alike (refl, refl) ∙ ap (lex between) (append-nil (print ts)))
    ∙ tokens-print ts h
