-- Where clap's walk over the words stands after some plain words and the flag.
use Rattle.std.proofs.Common.{◌≡◌, ℕ, ◌+◌, Bool, true, false, ◌||◌, List, [], ◌∷◌, length, codes, Option, Some, None, refl, ap, option_map, cond, is_some, nat_eq, ◌++◌}
use Rattle.std.specs.List.{fold}
use Rattle.clap.specs.Simple.{Shape, built, entered}
use Rattle.clap.specs.Faults.{check_fault, defaults_fault, entered_fault, settle_fault, step_fault, turn_fault, walk_fault}
use Rattle.clap.specs.Kinds.{Kinds, or_else}
use Rattle.clap.specs.Values.{reading_of}
use Rattle.clap.specs.Walk.{Held, Row, Rule, Text, Walk, after_step, finished, idle, one_of, settled, value, walked}
use Rattle.clap.specs.declared.parser.matches.ValueSource.TheVariants.{CommandLine}
use Rattle.clap.specs.declared.builder.value_parser.ValueParser.TheVariants as vp
use Rattle.clap.proofs.OnLiterals.{clap_on_literals}
use Rattle.dc_words.specs.CommandLine.{dc_app}
use Rattle.dc_words.specs.CommandOfWords.{Given, given_of}
use Rattle.dc_words.specs.WordKinds.{placed}

abbrev pub top : Shape
top = (built dc_app).top

abbrev pub rules : List Rule
rules = top.rules

-- The plain words so far, and whether the flag was met: `p2` two words without it, `e2` two words and then it, `e0-2` it and then two words,
-- `e1-2` a word, it and a word.
pub data State : Type 0 where
  p0 : State
  p1 : Text → State
  p2 : Text → Text → State
  p3 : Text → Text → Text → State
  e0 : State
  e0-1 : Text → State
  e0-2 : Text → Text → State
  e0-3 : Text → Text → Text → State
  e1 : Text → State
  e1-2 : Text → Text → State
  e1-3 : Text → Text → Text → State
  e2 : Text → Text → State
  e2-3 : Text → Text → Text → State
  e3 : Text → Text → Text → State

abbrev pub plain_at : State → List Text
plain_at p0 = []
plain_at (p1 a) = a ∷ []
plain_at (p2 a b) = a ∷ b ∷ []
plain_at (p3 a b c) = a ∷ b ∷ c ∷ []
plain_at e0 = []
plain_at (e0-1 a) = a ∷ []
plain_at (e0-2 a b) = a ∷ b ∷ []
plain_at (e0-3 a b c) = a ∷ b ∷ c ∷ []
plain_at (e1 a) = a ∷ []
plain_at (e1-2 a b) = a ∷ b ∷ []
plain_at (e1-3 a b c) = a ∷ b ∷ c ∷ []
plain_at (e2 a b) = a ∷ b ∷ []
plain_at (e2-3 a b c) = a ∷ b ∷ c ∷ []
plain_at (e3 a b c) = a ∷ b ∷ c ∷ []

abbrev pub flags_at : State → ℕ
flags_at p0 = 0
flags_at (p1 a) = 0
flags_at (p2 a b) = 0
flags_at (p3 a b c) = 0
flags_at _ = 1

abbrev word : Text → Text → Row
word id w = record { id = id; values = w ∷ []; count = None; source = Some CommandLine; reading = reading_of vp.String }

abbrev command : Text → Row
command = word (codes "command")

abbrev first : Text → Row
first = word (codes "first")

abbrev second : Text → Row
second = word (codes "second")

abbrev edges : Row
edges = record { id = codes "edges"; values = codes "true" ∷ []; count = None; source = Some CommandLine; reading = reading_of vp.Bool }

abbrev rows_at : State → List Row
rows_at p0 = []
rows_at (p1 a) = []
rows_at (p2 a b) = command a ∷ []
rows_at (p3 a b c) = command a ∷ first b ∷ []
rows_at e0 = edges ∷ []
rows_at (e0-1 a) = edges ∷ []
rows_at (e0-2 a b) = edges ∷ command a ∷ []
rows_at (e0-3 a b c) = edges ∷ command a ∷ first b ∷ []
rows_at (e1 a) = command a ∷ edges ∷ []
rows_at (e1-2 a b) = command a ∷ edges ∷ []
rows_at (e1-3 a b c) = command a ∷ edges ∷ first b ∷ []
rows_at (e2 a b) = command a ∷ first b ∷ edges ∷ []
rows_at (e2-3 a b c) = command a ∷ first b ∷ edges ∷ []
rows_at (e3 a b c) = command a ∷ first b ∷ second c ∷ edges ∷ []

abbrev pending_at : State → Option (Text × List Text)
pending_at (p1 a) = Some (codes "command", a ∷ [])
pending_at (p2 a b) = Some (codes "first", b ∷ [])
pending_at (p3 a b c) = Some (codes "second", c ∷ [])
pending_at (e0-1 a) = Some (codes "command", a ∷ [])
pending_at (e0-2 a b) = Some (codes "first", b ∷ [])
pending_at (e0-3 a b c) = Some (codes "second", c ∷ [])
pending_at (e1-2 a b) = Some (codes "first", b ∷ [])
pending_at (e1-3 a b c) = Some (codes "second", c ∷ [])
pending_at (e2-3 a b c) = Some (codes "second", c ∷ [])
pending_at p0 = None
pending_at e0 = None
pending_at (e1 a) = None
pending_at (e2 a b) = None
pending_at (e3 a b c) = None

abbrev pub held_at : State → Held
held_at s = record { rows = rows_at s; pending = pending_at s; skip = 0 }

abbrev pub position_at : State → ℕ
position_at s = length (plain_at s) + 1

-- the walk in such a state, behind `--` or before
abbrev pub walk_at : Bool → State → Walk
walk_at b s = record { held = held_at s; waiting = idle; position = position_at s; is_trailing = b; stopped = None }

-- ---- what is read of the rest of the words

-- the kinds of a walk that ended there
abbrev pub end_fault : Walk → Kinds
end_fault w =
    or_else (entered_fault (built dc_app) w.stopped) (or_else (settle_fault rules false w.held)
    (or_else (defaults_fault (settled rules w.held).rows rules)
    (check_fault top (finished rules w.held) (is_some (entered (built dc_app) w.stopped)))))

abbrev pub fault_from : Walk → List Text → Kinds
fault_from w ws = or_else (walk_fault top [] w ws) (end_fault (fold (walked rules []) w ws))

-- what was found, and the text of the flag
pub record Told : Type 0 where
  pub given : Given
  pub flag : Option Text

abbrev pub told_of : List Row → Told
told_of rows = record { given = given_of rows; flag = one_of (codes "edges") rows }

abbrev pub told_if : Kinds → List Row → Option Told
told_if kinds rows = cond (nat_eq (length kinds) 0) (Some (told_of rows)) None

abbrev pub told_from : Walk → List Text → Option Told
told_from w ws = told_if (fault_from w ws) (finished rules (fold (walked rules []) w ws).held)

-- what is found of so many plain words and flags
abbrev pub told : Given → Told
told g = record { given = g; flag = Some (cond g.edges (codes "true") (codes "false")) }

abbrev pub told_for : List Text → ℕ → Option Told
told_for ps k = option_map told (placed ps k)

pub at_end : (b : Bool) (s : State) → told_from (walk_at b s) [] ≡ told_for (plain_at s) (flags_at s)
unfolding clap_on_literals
at_end b p0 = refl
at_end b (p1 x) = refl
at_end b (p2 x y) = refl
at_end b (p3 x y z) = refl
at_end b e0 = refl
at_end b (e0-1 x) = refl
at_end b (e0-2 x y) = refl
at_end b (e0-3 x y z) = refl
at_end b (e1 x) = refl
at_end b (e1-2 x y) = refl
at_end b (e1-3 x y z) = refl
at_end b (e2 x y) = refl
at_end b (e2-3 x y z) = refl
at_end b (e3 x y z) = refl

-- ---- a plain word

-- what a plain word leaves, where fewer than three were met
abbrev pub with_word : State → Text → Option State
with_word p0 w = Some (p1 w)
with_word (p1 a) w = Some (p2 a w)
with_word (p2 a b) w = Some (p3 a b w)
with_word e0 w = Some (e0-1 w)
with_word (e0-1 a) w = Some (e0-2 a w)
with_word (e0-2 a b) w = Some (e0-3 a b w)
with_word (e1 a) w = Some (e1-2 a w)
with_word (e1-2 a b) w = Some (e1-3 a b w)
with_word (e2 a b) w = Some (e2-3 a b w)
with_word _ w = None

or_false : (b : Bool) → (b || false) ≡ b
or_false true = refl
or_false false = refl

abbrev behind : State → Bool → Walk
behind s b = walk_at b s

-- a word that goes to a positional is refused, or the walk goes on
abbrev pub Goes : Bool → State → Text → Option State → Type 0
Goes b s w (Some t) =
    (step_fault top (position_at s) (held_at s) value ≡ []) × (after_step rules w (walk_at b s) (held_at s) value ≡ walk_at b t)
    × (plain_at t ≡ plain_at s ++ w ∷ []) × (flags_at t ≡ flags_at s)
Goes b s w None = (nat_eq (length (step_fault top (position_at s) (held_at s) value)) 0 ≡ false) × (length (plain_at s) ≡ 3)

pub word_goes : (b : Bool) (s : State) (w : Text) → Goes b s w (with_word s w)
word_goes b p0 w = (refl, ap (behind (p1 w)) (or_false b), refl, refl)
word_goes b (p1 x) w = (refl, ap (behind (p2 x w)) (or_false b), refl, refl)
word_goes b (p2 x y) w = (refl, ap (behind (p3 x y w)) (or_false b), refl, refl)
word_goes b (p3 x y z) w = (refl, refl)
word_goes b e0 w = (refl, ap (behind (e0-1 w)) (or_false b), refl, refl)
word_goes b (e0-1 x) w = (refl, ap (behind (e0-2 x w)) (or_false b), refl, refl)
word_goes b (e0-2 x y) w = (refl, ap (behind (e0-3 x y w)) (or_false b), refl, refl)
word_goes b (e0-3 x y z) w = (refl, refl)
word_goes b (e1 x) w = (refl, ap (behind (e1-2 x w)) (or_false b), refl, refl)
word_goes b (e1-2 x y) w = (refl, ap (behind (e1-3 x y w)) (or_false b), refl, refl)
word_goes b (e1-3 x y z) w = (refl, refl)
word_goes b (e2 x y) w = (refl, ap (behind (e2-3 x y w)) (or_false b), refl, refl)
word_goes b (e2-3 x y z) w = (refl, refl)
word_goes b (e3 x y z) w = (refl, refl)

-- ---- the flag

-- what the flag leaves, where it was not met
abbrev pub with_flag_met : State → Option State
with_flag_met p0 = Some e0
with_flag_met (p1 a) = Some (e1 a)
with_flag_met (p2 a b) = Some (e2 a b)
with_flag_met (p3 a b c) = Some (e3 a b c)
with_flag_met _ = None

-- the flag is refused, or the walk goes on
abbrev pub FlagGoes : State → Option State → Type 0
FlagGoes s (Some t) =
    (turn_fault top [] (walk_at false s) (codes "--edges") ≡ []) × (walked rules [] (walk_at false s) (codes "--edges") ≡ walk_at false t)
    × (plain_at t ≡ plain_at s) × (flags_at t ≡ flags_at s + 1)
FlagGoes s None = (nat_eq (length (turn_fault top [] (walk_at false s) (codes "--edges"))) 0 ≡ false) × (flags_at s ≡ 1)

pub flag_goes : (s : State) → FlagGoes s (with_flag_met s)
unfolding clap_on_literals
flag_goes p0 = (refl, refl, refl, refl)
flag_goes (p1 x) = (refl, refl, refl, refl)
flag_goes (p2 x y) = (refl, refl, refl, refl)
flag_goes (p3 x y z) = (refl, refl, refl, refl)
flag_goes e0 = (refl, refl)
flag_goes (e0-1 x) = (refl, refl)
flag_goes (e0-2 x y) = (refl, refl)
flag_goes (e0-3 x y z) = (refl, refl)
flag_goes (e1 x) = (refl, refl)
flag_goes (e1-2 x y) = (refl, refl)
flag_goes (e1-3 x y z) = (refl, refl)
flag_goes (e2 x y) = (refl, refl)
flag_goes (e2-3 x y z) = (refl, refl)
flag_goes (e3 x y z) = (refl, refl)

-- ---- the first `--`

pub dashes_go : (s : State) → (turn_fault top [] (walk_at false s) (codes "--") ≡ []) × (walked rules [] (walk_at false s) (codes "--") ≡ walk_at true s)
unfolding walked
dashes_go s = (refl, refl)
