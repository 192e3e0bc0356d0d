-- A drawn segment is legal, whatever is drawn.
use Rattle.std.proofs.Common.{◌≡◌, ◌∙◌, ap, refl, sym, subst, ℕ, ◌<◌, ◌≤◌, true, false, ◌∷◌, List, [], length, map, take, None, arith, rules}
use Rattle.std.specs.List.{All, find}
use Rattle.std.proofs.lemmas.List.{length-map, get_or-map, length-take-le}
use Rattle.std.proofs.lemmas.List.Elements.{All-nil, All-head, All-tail}
use Rattle.segment_shape.specs.Head.{HeadValue}
use Rattle.loss_list.specs.declared.loss_row.LossRow.{LossRow}
use Rattle.segment_shape.specs.Ranges.{IsLoss}
use Rattle.segment_shape.specs.Twice.{first_again}
use Rattle.segment_shape.specs.Values.{is_id}
use Rattle.segment_file.specs.Faults.{clock_fault, is_off}
use Rattle.segment_file.specs.Legal.{IsClock, IsLegal}
use Rattle.segment_file.specs.Segment.{RowValue, counts_of, tree_rows}
use Rattle.segment_file.proofs.Exported.{counted}
use Rattle.segment_draw.specs.Draws.{Draws, AreLow, draws_from, seeded}
use Rattle.segment_draw.specs.Generated.{drawn_head, drawn_segment, generated, name, rows_from}
use Rattle.segment_draw.proofs.ClockLemmas.{clock_ok, clock_on}
use Rattle.segment_draw.proofs.MadeLemmas.{made_all, made_none, length_from, all_low, length_drawn}
use Rattle.segment_draw.proofs.MeasureLemmas.{are_segment, first_is_reference, all_measurable}
use Rattle.segment_draw.proofs.NameLemmas.{name_is_id, names_once}
use Rattle.segment_draw.proofs.NumberLemmas.{times_hold, frames_hold}
use Rattle.segment_draw.proofs.TreeLemmas.{AreDrawn, no_value}
use Rattle.segment_draw.proofs.TripLemmas.{trip_short}

none_off : (rows : List RowValue) → All (λ r. is_off 50 r ≡ false) rows → find (is_off 50) rows ≡ None
none_off [] all = refl
none_off (r ∷ rows) all = rw (All-head (λ r. is_off 50 r ≡ false) r rows all) (none_off rows (All-tail (λ r. is_off 50 r ≡ false) r rows all))

module _ (rows : List RowValue) (drawn : AreDrawn rows) where
  ids_ok : All (λ r. is_id r.id ≡ true) rows
  ids_ok = λ k d low.
      let one = drawn.made k d low in
      let many = length-take-le k rows (omega arith) in
      subst (λ r. is_id r.id ≡ true) (sym one.is) (name_is_id (length (take k rows)) (omega (arith, many, low, drawn.few)))

  clocks_ok : All (IsClock 1000000) rows
  clocks_ok = λ k d low. let one = drawn.made k d low in subst (IsClock 1000000) (sym one.is) (clock_ok (take k rows) one.draws one.low)

  ids_once : first_again [] (map (λ r. r.id) rows) ≡ None
  ids_once =
      names_once [] (map (λ r. r.id) rows) (omega (arith, drawn.few, length-map rows (λ r. r.id)))
      (λ k low.
      let within : k < length rows = omega (arith, low, length-map rows (λ r. r.id)) in
      get_or-map (λ r. r.id) rows k no_value [] within ∙ ap (λ (r : RowValue). r.id) (drawn.made k no_value within).is ∙ ap name (length-take-le k rows (omega arith)))

  clocks_hold : clock_fault 50 rows ≡ None
  unfolding clock_fault
  clocks_hold =
      let on = none_off rows (λ k d low. let one = drawn.made k d low in ap (is_off 50) one.is ∙ clock_on (take k rows) one.draws) in
      rw (on, first_is_reference rows drawn, all_measurable rows drawn) refl

pub drawn_legal : (ds : List Draws) → All AreLow ds → 1 ≤ length ds → length ds ≤ 256 → IsLegal (drawn_segment ds)
drawn_legal ds low some few =
    let rows = rows_from [] ds in
    let many : length rows ≡ length ds = length_from ds [] ∙ omega arith in
    let drawn : AreDrawn rows = record { made = made_all ds [] made_none low; some = omega (arith, some, many); few = omega (arith, few, many) } in
    let counts = counted rows drawn.few in
    record {
      head = record {
        version = (omega arith, omega arith);
        ppm = omega arith;
        frame_ns = (omega arith, omega arith);
        speed = (omega arith, omega arith);
        loss_run = omega arith;
        epoch_ns = omega arith;
        cycle_ns = (omega arith, omega arith);
        cycles = (omega arith, omega arith);
      };
      ids = ids_ok rows drawn;
      clocks = clocks_ok rows drawn;
      steady = λ k d low is. ap (λ (r : RowValue). r.rates) (drawn.made k d low).is;
      few_losses = omega arith;
      losses = All-nil (IsLoss (length rows));
      once = search rules;
      distinct = ids_once rows drawn;
      tree = are_segment rows drawn;
      faultless = rw (clocks_hold rows drawn, times_hold (counts_of rows) (tree_rows rows) (omega (arith, counts.clocks, counts.measuring)) (trip_short rows drawn), frames_hold (counts_of rows) counts) refl;
    }

pub generated_legal : (n seed : ℕ) → 1 ≤ n → n ≤ 256 → IsLegal (generated n seed)
generated_legal n seed some few =
    let many = length_drawn n (seeded seed) in
    drawn_legal (draws_from n (seeded seed)) (all_low n (seeded seed)) (omega (arith, many, some)) (omega (arith, many, few))

-- what has the parts of a generated segment
pub parts_legal : (n seed : ℕ) (head : HeadValue) (rows : List RowValue) (losses : List LossRow) → 1 ≤ n → n ≤ 256 → head ≡ drawn_head → rows ≡ rows_from [] (draws_from n (seeded seed)) → losses ≡ []
    → IsLegal (record { head = head; rows = rows; losses = losses })
parts_legal n seed head rows losses some few h r l = rw (h, r, l) (generated_legal n seed some few)
