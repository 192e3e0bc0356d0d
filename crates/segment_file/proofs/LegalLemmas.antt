-- What a legal segment has.
use Rattle.std.specs.Prelude.{◌≡◌, ℕ, zero, suc, is_none, ◌+◌, ◌*◌, ◌^◌, ◌<◌, length, nat_le, ◌≤◌, ℤ, pos, ◌≤ℤ◌, int_lt, nat_lt, Bool, true, false, cond, if◌then◌else◌, ◌||◌, List, [], ◌∷◌, map, count_by, Option, Some, None, option_map, slice_index_or}
use Rattle.std.specs.List.{find}
use Rattle.std.proofs.Common.{arith, refl, subst, ◌∙◌}
use Rattle.std.proofs.lemmas.Bool.Decides.{nat_tests}
use Rattle.std.proofs.lemmas.Int.{ints}
use Rattle.cable_tree.specs.Row.{Row}
use Rattle.cable_tree.specs.FrameOrder.{order}
use Rattle.cable_tree.specs.PathSums.{round_trip}
use Rattle.dc_bounds.specs.LockNumbers.{period_fs}
use Rattle.dc_bounds.specs.Measurable.{unmeasurable}
use Rattle.dc_bounds.specs.RunNumbers.{lead_ns, start_ns}
use Rattle.dc_bounds.specs.TickFacts.{AreTicksOf}
use Rattle.dc_bounds.proofs.Exported.{start_fits}
use Rattle.cable_tree.proofs.Exported.{order_within, order_whole}
use Rattle.segment_shape.specs.Head.{HeadValue}
use Rattle.loss_list.specs.declared.loss_row.LossRow.{LossRow}
use Rattle.std.proofs.lemmas.List.{length-map}
use Rattle.segment_file.specs.Segment.{RowValue, SegmentValue, CountsValue, is_clock, clocks, signals, measures_at, clock_at, counts_of, tree_row, tree_rows, reference_row, row_at}
use Rattle.segment_file.specs.Runs.{first_run}
use Rattle.segment_file.specs.Counted.{IsCounted}
use Rattle.segment_file.specs.Legal.{IsLegal}
use Rattle.segment_file.proofs.CountLemmas.{count_by-cons, counted}
use Rattle.segment_file.specs.Faults.{Fault, too_slow, no_lock, lead, no_reference, ahead_ns, too_much, loss_run, first_of, fault_if, clock_fault, time_fault, fault_of, frame_fault, step_of, lock_in, frames_of_run, most_frames}

-- none of two faults
pub neither : (f g : Option Fault) → first_of f g ≡ None → (f ≡ None) × (g ≡ None)
neither None g e = (refl, e)
neither (Some fault) g e = absurd cc

pub mapped_none : {A B : Type 0} (f : A → B) (o : Option A) → option_map f o ≡ None → o ≡ None
mapped_none f None e = refl
mapped_none f (Some x) e = absurd cc

unfound : (fault : Fault) (b : Bool) → fault_if fault b ≡ None → b ≡ false
unfound fault true e = absurd cc
unfound fault false e = refl

-- a flag that is set is that of an element that passes
counted_one : {X : Type 0} (p : X → Bool) (xs : List X) (r : ℕ) → slice_index_or (map p xs) r false ≡ true → 1 ≤ count_by p xs
counted_one p [] r e = absurd cc
counted_one p (x ∷ xs) zero e =
    let one : ℕ = 1 in
    let here : (if p x then one else 0) ≡ one = rw e refl in
    omega (arith, here, count_by-cons p x xs)
counted_one p (x ∷ xs) (suc r) e = omega (arith, counted_one p xs r e, count_by-cons p x xs)

found_case : (p : ℕ → Bool) (x r : ℕ) (rest : Option ℕ) (b : Bool) → p x ≡ b → cond b (Some x) rest ≡ Some r → (rest ≡ Some r → p r ≡ true) → p r ≡ true
found_case p x r rest true is e on = let same : x ≡ r = cc in subst (λ y. p y ≡ true) same is
found_case p x r rest false is e on = on e

found_passes : (p : ℕ → Bool) (xs : List ℕ) (r : ℕ) → find p xs ≡ Some r → p r ≡ true
found_passes p [] r e = absurd cc
found_passes p (x ∷ xs) r e = found_case p x r (find p xs) (p x) refl e (λ h. found_passes p xs r h)

-- the reference is one of the clocks
pub some_clock : (rows : List RowValue) (r : ℕ) → reference_row rows ≡ Some r → 1 ≤ clocks rows
some_clock rows r e = counted_one is_clock rows r (found_passes (clock_at rows) (order (tree_rows rows)) r e)

flag_within : {X : Type 0} (p : X → Bool) (xs : List X) (r : ℕ) → slice_index_or (map p xs) r false ≡ true → r < length xs
flag_within p [] r e = absurd cc
flag_within p (x ∷ xs) zero e = omega arith
flag_within p (x ∷ xs) (suc r) e = omega (arith, flag_within p xs r e)

pub reference_within : (rows : List RowValue) (r : ℕ) → reference_row rows ≡ Some r → r < length rows
reference_within rows r e = flag_within is_clock rows r (found_passes (clock_at rows) (order (tree_rows rows)) r e)

not_below : (z : ℤ) → int_lt z (pos 1) ≡ false → pos 1 ≤ℤ z
not_below z e = grind (arith, ints)

-- the clocks come together
pub some_step : (h : HeadValue) (c : CountsValue) (rows : List Row) → time_fault h c rows ≡ None → pos 1 ≤ℤ step_of h
unfolding time_fault
some_step h c rows e = not_below (step_of h) (unfound no_lock (int_lt (step_of h) (pos 1)) (neither _ _ (neither _ _ e).1).0)

neither_test : (a b : Bool) → (a || b) ≡ false → (a ≡ false) × (b ≡ false)
neither_test true b e = absurd cc
neither_test false b e = (refl, e)

few_by : (x y : ℕ) (run : Option Fault) → first_of run (fault_if too_much (nat_lt 100000 x || nat_lt 200000 y)) ≡ None → (x ≤ 100000) × (y ≤ 200000)
few_by x y run e =
    let both = neither run (fault_if too_much (nat_lt 100000 x || nat_lt 200000 y)) e in
    let test = neither_test (nat_lt 100000 x) (nat_lt 200000 y) (unfound too_much (nat_lt 100000 x || nat_lt 200000 y) both.1) in
    (grind (arith, nat_tests, test.0), grind (arith, nat_tests, test.1))

-- the frames and edges of a run are few
few_frames : (h : HeadValue) (c : CountsValue) (losses : List LossRow) → frame_fault h c losses ≡ None → (most_frames h c ≤ 100000) × (h.cycles * c.signals ≤ 200000)
unfolding frame_fault
few_frames h c losses e = few_by (most_frames h c) (h.cycles * c.signals) (option_map loss_run (first_run losses (h.loss_run + 1))) e

-- the three kinds of fault
pub faultless : (s : SegmentValue) → fault_of s ≡ None
    → (clock_fault s.head.ppm s.rows ≡ None) × (time_fault s.head (counts_of s.rows) (tree_rows s.rows) ≡ None) × (frame_fault s.head (counts_of s.rows) s.losses ≡ None)
faultless s e = let clocks = neither _ _ e in let times = neither _ _ clocks.1 in (clocks.0, times.0, times.1)

pub legal_step : (s : SegmentValue) → IsLegal s → pos 1 ≤ℤ step_of s.head
legal_step s legal = some_step s.head (counts_of s.rows) (tree_rows s.rows) (faultless s legal.faultless).1

pub legal_counts : (s : SegmentValue) → IsLegal s → IsCounted (counts_of s.rows)
legal_counts s legal = counted s.rows (omega (arith, legal.tree.few, length-map s.rows tree_row))

pub legal_frames : (s : SegmentValue) → IsLegal s → most_frames s.head (counts_of s.rows) ≤ 100000
legal_frames s legal = (few_frames s.head (counts_of s.rows) s.losses (faultless s legal.faultless).2).0

pub legal_edges : (s : SegmentValue) → IsLegal s → s.head.cycles * signals s.rows ≤ 200000
legal_edges s legal = (few_frames s.head (counts_of s.rows) s.losses (faultless s legal.faultless).2).1

pub few_to_lock : (s : SegmentValue) → IsLegal s → lock_in s.head (counts_of s.rows) ≤ 100000
few_to_lock s legal = omega (arith, legal_frames s legal)

pub few_in_run : (s : SegmentValue) → IsLegal s → frames_of_run s.head (counts_of s.rows) ≤ 100000
few_in_run s legal = omega (arith, legal_frames s legal)

short_trip : (trip period : ℕ) (later : Option Fault) → first_of (fault_if too_slow (nat_le period trip)) later ≡ None → trip < period
short_trip trip period later e =
    let test = unfound too_slow (nat_le period trip) (neither (fault_if too_slow (nat_le period trip)) later e).0 in
    grind (arith, nat_tests, test)

-- a frame comes back within a period
pub legal_round_trip : (s : SegmentValue) → IsLegal s → round_trip (tree_rows s.rows) < period_fs s.head.frame_ns
unfolding time_fault
legal_round_trip s legal = short_trip _ _ _ (faultless s legal.faultless).1

near_start : (ahead : ℕ) (trip step : Option Fault) → first_of trip (first_of step (fault_if lead (nat_le 2000000000 ahead))) ≡ None → ahead < 2000000000
near_start ahead trip step e =
    let test = unfound lead (nat_le 2000000000 ahead) (neither step _ (neither trip _ e).1).1 in
    grind (arith, nat_tests, test)

-- no start lies too far ahead
pub legal_start : (s : SegmentValue) → IsLegal s → ahead_ns s.head (counts_of s.rows) < 2000000000
unfolding time_fault
legal_start s legal = near_start _ _ _ (faultless s legal.faultless).1

some_found : {A : Type 0} (o : Option A) → is_none o ≡ false → (x : A) × (o ≡ Some x)
some_found None e = absurd cc
some_found (Some x) e = (x, refl)

-- there is a reference
pub legal_reference : (s : SegmentValue) → IsLegal s → (r : ℕ) × (reference_row s.rows ≡ Some r)
unfolding clock_fault
legal_reference s legal = some_found (reference_row s.rows) (unfound no_reference (is_none (reference_row s.rows)) (neither _ _ (neither _ _ (faultless s legal.faultless).0).1).0)

-- every slave that measures can be measured
pub legal_measurable : (s : SegmentValue) → IsLegal s → unmeasurable (tree_rows s.rows) (measures_at s.rows) (order (tree_rows s.rows)) ≡ None
unfolding clock_fault
legal_measurable s legal = mapped_none _ _ (neither _ _ (neither _ _ (faultless s legal.faultless).0).1).1

-- the tree has a row for each row of the file, and as many places in frame order
pub rows_many : (s : SegmentValue) → length (tree_rows s.rows) ≡ length s.rows
rows_many s = length-map s.rows tree_row

pub order_many : (s : SegmentValue) → IsLegal s → length (order (tree_rows s.rows)) ≡ length s.rows
order_many s legal = order_whole (tree_rows s.rows) legal.tree.tree legal.tree.slaves ∙ rows_many s

-- a place in frame order is that of a row
pub row_within : (s : SegmentValue) → IsLegal s → (position : ℕ) → position < length s.rows → row_at s position < length s.rows
row_within s legal position low =
    omega (arith, order_within (tree_rows s.rows) legal.tree.tree legal.tree.slaves position (omega (arith, low, order_many s legal)), rows_many s)

-- the start of the units fits 63 bits
pub legal_fits : (s : SegmentValue) (l k : ℕ) → IsLegal s → AreTicksOf s.head.ppm l k → l ≤ 100000 * period_fs s.head.frame_ns
    → start_ns (s.head.epoch_ns + 10 * k) (lead_ns (clocks s.rows) s.head.loss_run s.head.frame_ns) s.head.cycle_ns < 2 ^ 63
legal_fits s l k legal ticks early =
    let counts = legal_counts s legal in
    start_fits s.head.ppm (clocks s.rows) s.head.loss_run s.head.frame_ns s.head.cycle_ns s.head.epoch_ns l k legal.head.ppm (omega (arith, counts.clocks, counts.measuring))
    legal.head.loss_run legal.head.frame_ns.1 legal.head.cycle_ns.1 legal.head.epoch_ns ticks early
