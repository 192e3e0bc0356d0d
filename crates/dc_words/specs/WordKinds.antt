-- The words without clap: what each one is, and which lists of words clap takes.
use Rattle.std.specs.Prelude.{ℕ, zero, suc, ◌+◌, ◌&&◌, ◌==◌, nat_le, Bool, true, false, List, [], ◌∷◌, length, codes, Option, Some, None, option_map, option_and_then, slice_index, if◌then◌else◌}
use Rattle.std.specs.Str.{bytes_eq}
use Rattle.dc_words.specs.CommandOfWords.{Given}

-- what a word is: plain, the first `--`, the flag, or one that clap refuses
pub data WordKind : Type 0 where
  Plain : WordKind
  Dashes : WordKind
  Flag : WordKind
  Refused : WordKind

-- the plain words, and how many times the flag stands among them
pub record Sorted : Type 0 where
  pub plain : List (List ℕ)
  pub flags : ℕ

abbrev pub with_plain : List ℕ → Sorted → Sorted
with_plain word s = record s { plain = word ∷ s.plain }

abbrev pub with_flag : Sorted → Sorted
with_flag s = record s { flags = s.flags + 1 }

-- two bytes or more, of which the first is `-` (45)
abbrev pub begins_with_dash : List ℕ → Bool
begins_with_dash word = nat_le 2 (length word) && slice_index word 0 == 45

-- What a word is: behind the first `--` every word is plain, and so are the empty word and the dash; `--edges` is the flag, and other words
-- that begin with a dash are refused.
unfoldable pub kind_of : Bool → List ℕ → WordKind
kind_of true word = Plain
kind_of false word =
    if bytes_eq word (codes "--") then Dashes
    else if bytes_eq word (codes "--edges") then Flag
    else if begins_with_dash word then Refused
    else Plain

-- a word of a kind, before those that follow it, which are sorted as behind `--` or as before
abbrev pub taken : WordKind → List ℕ → Option Sorted → Option Sorted → Option Sorted
taken Plain w behind next = option_map (with_plain w) next
taken Dashes w behind next = behind
taken Flag w behind next = option_map with_flag next
taken Refused w behind next = None

-- the words in their order, where none is refused
unfoldable pub sorted : Bool → List (List ℕ) → Option Sorted
sorted behind [] = Some (record { plain = []; flags = 0 })
sorted behind (w ∷ ws) = taken (kind_of behind w) w (sorted true ws) (sorted behind ws)

-- one to three plain words, with the flag or without
abbrev pub in_places : List (List ℕ) → Bool → Option Given
in_places (w ∷ []) edges = Some (record { command = Some w; first = None; second = None; edges = edges })
in_places (w ∷ a ∷ []) edges = Some (record { command = Some w; first = Some a; second = None; edges = edges })
in_places (w ∷ a ∷ b ∷ []) edges = Some (record { command = Some w; first = Some a; second = Some b; edges = edges })
in_places _ edges = None

-- whether a flag that may stand once is given
abbrev pub at_most_once : ℕ → Option Bool
at_most_once zero = Some false
at_most_once (suc zero) = Some true
at_most_once (suc (suc n)) = None

-- what so many plain words and flags give
abbrev pub placed : List (List ℕ) → ℕ → Option Given
placed plain flags = option_and_then (in_places plain) (at_most_once flags)

-- what sorted words give
abbrev pub given_of_sorted : Option Sorted → Option Given
given_of_sorted s = option_and_then (λ s. placed s.plain s.flags) s
