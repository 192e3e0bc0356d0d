-- Which words are a command: what clap makes of them, and which of what it takes asks for something.
use Rattle.std.specs.Prelude.{ℕ, ⊤, ◌≤◌, ◌-◌, ◌^◌, ◌&&◌, ◌||◌, ◌==◌, nat_le, not, Bool, true, false, List, length, codes, Option, Some, None, option_and_then, slice_index, if◌then◌else◌}
use Rattle.std.specs.Option.{option_map_or}
use Rattle.std.specs.Str.{bytes_eq, all_ascii_digits}
use Rattle.std.specs.Str.Parse.{digits_value}
use Rattle.clap.specs.Words.{Row, fault_of, first_of, matches_of, one_of}
use Rattle.dc_words.specs.CommandLine.{dc_app}
use Rattle.dc_words.specs.declared.command.Command.{Command}
use Rattle.dc_words.specs.declared.command.Command.TheVariants.{Run, Delays, Check, Show, Gen, Drill, Migrate, Trace, Audit, Again, Latch, Rate}

-- What clap finds: the plain words in their order, and whether the flag was given.
pub record Given : Type 0 where
  pub command : Option (List ℕ)
  pub first : Option (List ℕ)
  pub second : Option (List ℕ)
  pub edges : Bool

-- the text of the flag says that it was given
abbrev pub is_on : Option (List ℕ) → Bool
is_on text = option_map_or (λ t. bytes_eq t (codes "true")) text false

-- what the matches of clap tell of these
abbrev pub given_of : List Row → Given
given_of rows = record {
  command = first_of (codes "command") rows;
  first = first_of (codes "first") rows;
  second = first_of (codes "second") rows;
  edges = is_on (one_of (codes "edges") rows);
}

-- what clap finds of words that it does not refuse
unfoldable pub given : List (List ℕ) → Option Given
given words = if length (fault_of dc_app words) == 0 then Some (given_of (matches_of dc_app words)) else None

abbrev pub has_no_leading_zero : List ℕ → Bool
has_no_leading_zero text = nat_le 1 (length text) && (length text == 1 || not (slice_index text 0 == 48))

-- decimal digits without a sign, and without a leading zero other than `0` itself
abbrev pub is_numeral : List ℕ → Bool
is_numeral text = all_ascii_digits text && has_no_leading_zero text

-- a number within bounds
abbrev pub number_in : ℕ → ℕ → List ℕ → Option ℕ
number_in low high text =
    if is_numeral text && nat_le low (digits_value 10 text) && nat_le (digits_value 10 text) high then Some (digits_value 10 text) else None

-- a command of two numbers
abbrev pub both : (ℕ → ℕ → Command) → Option ℕ → Option ℕ → Option Command
both make (Some a) (Some b) = Some (make a b)
both make (Some a) None = None
both make None b = None

-- a command of one word; `--edges` stands with `run` alone
unfoldable pub alone : List ℕ → Bool → Option Command
alone w true = if bytes_eq w (codes "run") then Some (Run true) else None
alone w false =
    if bytes_eq w (codes "run") then Some (Run false)
    else if bytes_eq w (codes "delays") then Some Delays
    else if bytes_eq w (codes "check") then Some Check
    else if bytes_eq w (codes "show") then Some Show
    else if bytes_eq w (codes "migrate") then Some Migrate
    else if bytes_eq w (codes "trace") then Some Trace
    else if bytes_eq w (codes "audit") then Some Audit
    else if bytes_eq w (codes "again") then Some Again
    else if bytes_eq w (codes "rate") then Some Rate
    else None

-- a command of a word and two numbers
unfoldable pub with_numbers : List ℕ → List ℕ → List ℕ → Option Command
with_numbers w a b =
    if bytes_eq w (codes "gen") then both Gen (number_in 1 256 a) (number_in 0 (2 ^ 64 - 1) b)
    else if bytes_eq w (codes "drill") then both Drill (number_in 1 256 a) (number_in 0 (2 ^ 64 - 1) b)
    else if bytes_eq w (codes "latch") then both Latch (number_in 0 255 a) (number_in 0 (2 ^ 64 - 1) b)
    else None

-- the command of a first word and of those behind it
abbrev pub asked : List ℕ → Option (List ℕ) → Option (List ℕ) → Bool → Option Command
asked w None None edges = alone w edges
asked w (Some a) (Some b) false = with_numbers w a b
asked w _ _ _ = None

-- the command of what clap finds
abbrev pub made : Given → Option Command
made g = option_and_then (λ w. asked w g.first g.second g.edges) g.command

-- the command of the words, where they have one
abbrev pub command_of : List (List ℕ) → Option Command
command_of words = option_and_then made (given words)

-- the ranges of a command's numbers
abbrev pub HasRanges : Command → Type 0
HasRanges (Gen slaves seed) = (1 ≤ slaves) × (slaves ≤ 256)
HasRanges (Drill slaves seed) = (1 ≤ slaves) × (slaves ≤ 256)
HasRanges (Latch position time_fs) = position ≤ 255
HasRanges command = ⊤
