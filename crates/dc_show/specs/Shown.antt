-- What `show` writes of an input, and which lines it refuses.
use Rattle.std.specs.Prelude.{◌≡◌, ◌⊎◌, ℕ, ◌+◌, ◌-◌, ◌%◌, ◌<◌, ◌==◌, List, [], ◌∷◌, ◌++◌, length, take, slice_index, not, if◌then◌else◌, Option, Some, None, Ok, ⊤}
use Rattle.std.specs.Char.{is_ascii_hexdigit}
use Rattle.std.specs.List.{position}
use Rattle.hex.specs.Hex.{decode_of}
use Rattle.ecat_frame.specs.Faults.{IsFault}
use Rattle.ecat_frame.specs.FrameGrammar.{FrameValue, IsFrame, spelling}
use Rattle.ecat_frame.specs.declared.error.FrameError.{FrameError}
use Rattle.dc_show.specs.FrameText.{frame_text}
use Rattle.dc_show.specs.declared.error.ShowError.{ShowError}
use Rattle.dc_show.specs.declared.error.ShowError.TheVariants.{BadFrame, NoMemory}
use Rattle.dc_show.specs.declared.error.FrameFault.{FrameFault}
use Rattle.dc_show.specs.declared.error.FrameFault.TheVariants.{Hex, Frame}

-- a line without its carriage return at the end
abbrev pub without_return : List ℕ → List ℕ
without_return line = if slice_index line (length line - 1) == 13 then take (length line - 1) line else line

-- the digits are the bytes of a frame
pub record IsFrameIn (line : List ℕ) (frame : FrameValue) : Type 0 where
  pub valid : IsFrame frame
  pub digits : decode_of line ≡ Ok (spelling frame)

-- the text of a line: nothing of an empty one, else that of its frame
abbrev pub ShowsLine : ℕ → List ℕ → List ℕ → Type 0
ShowsLine number [] text = text ≡ []
ShowsLine number (b ∷ line) text = (frame : FrameValue) × (IsFrameIn (b ∷ line) frame × (text ≡ frame_text number frame))

-- the place of the first character that is no hexadecimal digit
abbrev pub first_other : List ℕ → Option ℕ
first_other line = position (λ b. not (is_ascii_hexdigit b)) line

-- all are digits, and their number is odd
pub record IsOdd (n : ℕ) (line : List ℕ) : Type 0 where
  pub digits : first_other line ≡ None
  pub odd : length line % 2 ≡ 1
  pub all : n ≡ length line

-- the digits are bytes, and an error says of them why they are no frame
pub record IsNoFrame (e : FrameError) (line : List ℕ) : Type 0 where
  pub bytes : List ℕ
  pub digits : decode_of line ≡ Ok bytes
  pub fault : IsFault bytes e

-- what a fault says of a line
abbrev pub IsLineFault : List ℕ → FrameFault → Type 0
IsLineFault line (Hex n) = (first_other line ≡ Some n) ⊎ IsOdd n line
IsLineFault line (Frame e) = IsNoFrame e line

-- a line is refused for its fault where it is not empty
pub record RefusesLine (line : List ℕ) (fault : FrameFault) : Type 0 where
  pub some : 0 < length line
  pub why : IsLineFault line fault

-- there is no line feed among them
abbrev pub IsOneLine : List ℕ → Type 0
IsOneLine line = position (λ b. b == 10) line ≡ None

-- a line feed ends the first line, and the rest stands behind it
pub record IsFirstLine (bytes line rest : List ℕ) : Type 0 where
  pub one : IsOneLine line
  pub parts : bytes ≡ line ++ 10 ∷ rest

-- A line ends at a line feed or at the end of the input; a carriage return before the line feed is dropped. The text of an input is that of
-- its lines, which are counted from the given number on.
pub data Shows : ℕ → List ℕ → List ℕ → Type 0 where
  ends : (number : ℕ) (line text : List ℕ) → IsOneLine line → ShowsLine number line text → Shows number line text
  goes_on : (number : ℕ) (bytes line rest text behind : List ℕ) → IsFirstLine bytes line rest → ShowsLine number (without_return line) text
      → Shows (number + 1) rest behind
      → Shows number bytes (text ++ behind)

-- the first line that is refused, and why
pub data Refuses : ℕ → List ℕ → ℕ → FrameFault → Type 0 where
  at_the_end : (number : ℕ) (line : List ℕ) (fault : FrameFault) → IsOneLine line → RefusesLine line fault
      → Refuses number line number fault
  here : (number : ℕ) (bytes line rest : List ℕ) (fault : FrameFault) → IsFirstLine bytes line rest
      → RefusesLine (without_return line) fault → Refuses number bytes number fault
  later : (number : ℕ) (bytes line rest text : List ℕ) (n : ℕ) (fault : FrameFault) → IsFirstLine bytes line rest
      → ShowsLine number (without_return line) text → Refuses (number + 1) rest n fault
      → Refuses number bytes n fault

-- what an error says of a line with this number; want of memory says nothing
abbrev pub IsLineError : ℕ → List ℕ → ShowError → Type 0
IsLineError number line (BadFrame n fault) = (n ≡ number) × RefusesLine line fault
IsLineError number line NoMemory = ⊤

-- what an error says of an input
abbrev pub IsShowError : List ℕ → ShowError → Type 0
IsShowError bytes (BadFrame n fault) = Refuses 1 bytes n fault
IsShowError bytes NoMemory = ⊤
