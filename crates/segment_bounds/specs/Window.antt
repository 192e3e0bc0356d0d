-- How far apart the edges of one index can be, shifts taken off.
use Rattle.std.specs.Prelude.{ℕ, suc, ◌+◌, ◌-◌, nat_eq, max, if◌then◌else◌, List, [], ◌∷◌, ◌++◌, Option, Some, None}
use Rattle.dc_bounds.specs.CopyBound.{window}
use Rattle.segment_file.specs.Segment.{RowValue, SegmentValue, is_clock}
use Rattle.segment_bounds.specs.Bounds.{copy_bound_at}
use Rattle.segment_bounds.specs.declared.signal.Signal.{Signal}

-- the difference of two numbers, in size
abbrev pub apart : ℕ → ℕ → ℕ
apart a b = (a - b) + (b - a)

-- W of two signals whose clocks have the copy bounds x and y; two signals of one slave are not compared, and have 0
abbrev pub window_within : ℕ → Signal → ℕ → Signal → ℕ → ℕ
window_within ppm a x b y = if nat_eq a.row b.row then 0 else window ppm (apart a.shift_ns b.shift_ns) x y

-- W of two signals of a segment, in fs
abbrev pub window_between : SegmentValue → Signal → Signal → ℕ
window_between s a b = window_within s.head.ppm a (copy_bound_at s a.row) b (copy_bound_at s b.row)

-- a signal, by the row of its clock and its shift against the cycle
abbrev pub signal : ℕ → ℕ → Signal
signal r shift = record { row = r; shift_ns = shift }

abbrev pub sync1_at : ℕ → ℕ → Option ℕ → List Signal
sync1_at r shift None = []
sync1_at r shift (Some ns) = signal r (shift + ns) ∷ []

-- SYNC0 of a clock, and SYNC1 its time later where it is asked for
abbrev pub signals_at : ℕ → RowValue → List Signal
signals_at r row = if is_clock row then signal r row.shift_ns ∷ sync1_at r row.shift_ns row.sync1_ns else []

-- the signals of these rows, the first of which has this number
unfoldable pub signals_from : ℕ → List RowValue → List Signal
signals_from r [] = []
signals_from r (row ∷ rows) = signals_at r row ++ signals_from (suc r) rows

-- the greatest number of a signal with one of some others
unfoldable pub greatest_with : {X : Type 0} → (X → X → ℕ) → X → List X → ℕ
greatest_with number a [] = 0
greatest_with number a (b ∷ bs) = max (number a b) (greatest_with number a bs)

-- the greatest of all pairs
unfoldable pub greatest : {X : Type 0} → (X → X → ℕ) → List X → ℕ
greatest number [] = 0
greatest number (a ∷ as') = max (greatest_with number a as') (greatest number as')

-- the greatest window of a segment, in fs
unfoldable pub window_of : SegmentValue → ℕ
window_of s = greatest (window_between s) (signals_from 0 s.rows)
