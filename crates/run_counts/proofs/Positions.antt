-- The positions of a kind are as many as its rows.
use Rattle.std.proofs.Common.{◌≡◌, ℕ, ◌+◌, ◌<◌, Bool, false, List, [], ◌∷◌, ◌++◌, length, length-append, map, filter, count_by, eqb, refl, sym, ap, ◌∙◌, Contains, arith}
use Rattle.std.specs.List.{IsDistinct}
use Rattle.std.proofs.lemmas.List.{get_or_default, get_or-map, length-map}
use Rattle.std.proofs.lemmas.List.FromFn.{length-range_with_len}
use Rattle.std.proofs.lemmas.List.Sums.{length-filter}
use Rattle.std.proofs.lemmas.Map.Keys.{IsDistinct-from_apart}
use Rattle.cable_tree.specs.FrameOrder.{order}
use Rattle.cable_tree.proofs.Exported.{every_row, order_once}
use Rattle.dc_bounds.specs.Weight.{flag}
use Rattle.dc_delay.specs.ShapeRows.{positions}
use Rattle.lost_step.specs.LostStep.{arm_steps, clock_positions, commission_steps, measuring_positions}
use Rattle.master_script.specs.declared.step.Step.{Step}
use Rattle.master_script.specs.declared.step.Step.TheVariants.{Identify, Rate, Latch, Times, Set, Arm}
use Rattle.segment_file.specs.Legal.{IsLegal}
use Rattle.segment_file.specs.Segment.{RowValue, SegmentValue, clocks, is_clock, is_measuring, measuring, row_at, tree_row, tree_rows}
use Rattle.segment_file.proofs.Exported.{order_many, row_within}
use Rattle.run_counts.proofs.Places.{apart_test, as_many_pass, places_pass}

as_many_rows : (test : RowValue → Bool) (rows : List RowValue) → length (filter (flag (map test rows)) (positions (length rows))) ≡ count_by test rows
as_many_rows test [] = refl
as_many_rows test (x ∷ xs) =
    places_pass test x (x ∷ xs) (flag (map test (x ∷ xs))) 0
    (λ k low. ap (flag (map test (x ∷ xs))) (omega arith) ∙ get_or-map test (x ∷ xs) k x false low)

module _ (s : SegmentValue) (legal : IsLegal s) where
  order_distinct : IsDistinct eqb (order (tree_rows s.rows))
  order_distinct =
      IsDistinct-from_apart eqb (order (tree_rows s.rows))
      (λ i j d below within.
      let at_i = get_or_default (order (tree_rows s.rows)) i d 0 (omega (arith, below, within)) in
      let at_j = get_or_default (order (tree_rows s.rows)) j d 0 within in
      apart_test _ _ (λ e. order_once (tree_rows s.rows) legal.tree.tree legal.tree.slaves i j below within (sym at_i ∙ e ∙ at_j)))

  every_listed : (r : ℕ) → r < length s.rows → Contains (order (tree_rows s.rows)) r
  every_listed r low = every_row (tree_rows s.rows) legal.tree.tree r (let many = length-map s.rows tree_row in omega (arith, low, many))

  listed_within : (r : ℕ) → Contains (order (tree_rows s.rows)) r → r < length s.rows
  listed_within r h =
      let many = order_many s legal in
      let l = h.1 in
      let low = row_within s legal h.0 (omega (arith, l, many)) in
      let same = get_or_default (order (tree_rows s.rows)) h.0 r 0 l in
      let is = h.2 in
      omega (arith, low, same, is)

  pub as_many_positions : (test : RowValue → Bool) → length (filter (λ p. flag (map test s.rows) (row_at s p)) (positions (length s.rows))) ≡ count_by test s.rows
  as_many_positions test =
      let rows = order (tree_rows s.rows) in
      let at = flag (map test s.rows) in
      let many = order_many s legal in
      ap (λ (n : ℕ). length (filter (λ p. at (row_at s p)) (positions n))) (sym many)
      ∙ places_pass at 0 rows (λ p. at (row_at s p)) 0 (λ k low. ap (λ (p : ℕ). at (row_at s p)) (omega arith))
      ∙ sym (length-filter at rows)
      ∙ as_many_pass rows (length s.rows) every_listed listed_within order_distinct at
      ∙ as_many_rows test s.rows

pub measuring_counted : (s : SegmentValue) → IsLegal s → length (measuring_positions s) ≡ measuring s.rows
unfolding measuring_positions
measuring_counted s legal = as_many_positions s legal is_measuring

pub clocks_counted : (s : SegmentValue) → IsLegal s → length (clock_positions s) ≡ clocks s.rows
unfolding clock_positions
clocks_counted s legal = as_many_positions s legal is_clock

pub commissioning_counted : (s : SegmentValue) → IsLegal s → length (commission_steps s) ≡ length s.rows + measuring s.rows + clocks s.rows + 3
commissioning_counted s legal =
    let later : List Step = map Times (measuring_positions s) ++ map Set (clock_positions s) in
    let first = length-append (map Identify (positions (length s.rows))) (Rate ∷ Latch ∷ later) in
    let identified = length-map (positions (length s.rows)) Identify in
    let many = length-range_with_len 0 (length s.rows) in
    let both = length-append (map Times (measuring_positions s)) (map Set (clock_positions s)) in
    let timed = length-map (measuring_positions s) Times in
    let set = length-map (clock_positions s) Set in
    let measure = measuring_counted s legal in
    let clock = clocks_counted s legal in
    omega (arith, first, identified, many, both, timed, set, measure, clock)

pub arming_counted : (s : SegmentValue) → IsLegal s → length (arm_steps s) ≡ clocks s.rows
arming_counted s legal = length-map (clock_positions s) Arm ∙ clocks_counted s legal
