-- The rows of a segment and of its file.
use Rattle.std.specs.Prelude.{◌≡◌, ℕ, true, List, [], ◌∷◌, length, map, None, Ok}
use Rattle.std.specs.List.{All}
use Rattle.std.proofs.Common.{ap, refl, sym, subst, ◌∙◌, arith}
use Rattle.std.proofs.lemmas.List.{length-map}
use Rattle.std.proofs.lemmas.List.Elements.{All-map, All-weaker, All-nil, All-cons, All-head, All-tail}
use Rattle.cable_tree.specs.Row.{IsRow}
use Rattle.segment_shape.specs.Slaves.{SlaveValue}
use Rattle.segment_shape.specs.Values.{is_id}
use Rattle.serde_json.specs.Data.{Data}
use Rattle.segment_shape.specs.ShapeOf.{ShapeValue, file_of}
use Rattle.segment_shape.proofs.Exported.{file_ranges}
use Rattle.segment_shape.specs.Twice.{first_again}
use Rattle.segment_shape.specs.Ranges.{IsSlave, IsLoss}
use Rattle.cable_tree.specs.Segment.{IsTree}
use Rattle.segment_file.specs.declared.slave_row.SlaveRow.{SlaveRow}
use Rattle.segment_file.specs.Seen.{row_seen}
use Rattle.segment_file.specs.Faults.{fault_of}
use Rattle.segment_file.specs.Segment.{RowValue, tree_row, tree_rows}
use Rattle.segment_file.specs.Placed.{placed_row, placed_rows}
use Rattle.segment_file.specs.Legal.{IsClock, IsLegal}

pub all_before_map : {X Y : Type 0} (P : X → Type 0) (f : Y → X) (ys : List Y) → All P (map f ys) → All (λ y. P (f y)) ys
all_before_map P f [] all = All-nil (λ y. P (f y))
all_before_map P f (y ∷ ys) all = All-cons (λ y. P (f y)) y ys (All-head P (f y) (map f ys) all) (all_before_map P f ys (All-tail P (f y) (map f ys) all))

slave_row : (version cycle_ns : ℕ) (ids : List (List ℕ)) (s : SlaveValue) → IsSlave version cycle_ns s → IsRow (tree_row (placed_row ids s))
slave_row version cycle_ns ids s is = record { tp_some = is.tp_ns.0; tp_most = is.tp_ns.1; tf_some = is.tf_ns.0; tf_most = is.tf_ns.1; cable_most = is.cable_ps }

slave_clock : (version cycle_ns : ℕ) (ids : List (List ℕ)) (s : SlaveValue) → IsSlave version cycle_ns s → IsClock cycle_ns (placed_row ids s)
slave_clock version cycle_ns ids s is = record {
  start = is.start;
  phase_fs = is.phase_fs;
  period_fs = is.period_fs;
  measuring = is.measuring;
  few = is.few;
  rates = is.rates;
  rising = is.rising;
  shift_ns = is.shift_ns;
  sync1_ns = is.sync1_ns;
  silent = is.silent;
  signalless = is.signalless;
}

pub rows_of_slaves : (version cycle_ns : ℕ) (slaves : List SlaveValue) → All (IsSlave version cycle_ns) slaves → All IsRow (tree_rows (placed_rows slaves))
rows_of_slaves version cycle_ns slaves all =
    let ids = map (λ s. s.id) slaves in
    All-map IsRow tree_row (placed_rows slaves)
    (All-map (λ r. IsRow (tree_row r)) (placed_row ids) slaves
    (All-weaker (IsSlave version cycle_ns) (λ s. IsRow (tree_row (placed_row ids s))) (slave_row version cycle_ns ids) slaves all))

-- what holds of each slave, each row has
of_slaves : (version cycle_ns : ℕ) (P : RowValue → Type 0) (slaves : List SlaveValue)
    → ((s : SlaveValue) → IsSlave version cycle_ns s → P (placed_row (map (λ s. s.id) slaves) s)) → All (IsSlave version cycle_ns) slaves → All P (placed_rows slaves)
of_slaves version cycle_ns P slaves has all =
    let ids = map (λ s. s.id) slaves in
    All-map P (placed_row ids) slaves (All-weaker (IsSlave version cycle_ns) (λ s. P (placed_row ids s)) has slaves all)

pub clocks_of_slaves : (version cycle_ns : ℕ) (slaves : List SlaveValue) → All (IsSlave version cycle_ns) slaves → All (IsClock cycle_ns) (placed_rows slaves)
clocks_of_slaves version cycle_ns slaves all =
    of_slaves version cycle_ns (IsClock cycle_ns) slaves (slave_clock version cycle_ns (map (λ s. s.id) slaves)) all

-- placing a slave leaves its id
pub ids_stay : (ids : List (List ℕ)) (slaves : List SlaveValue) → map (λ r. r.id) (map (placed_row ids) slaves) ≡ map (λ s. s.id) slaves
ids_stay ids [] = refl
ids_stay ids (s ∷ slaves) = ap (λ x. s.id ∷ x) (ids_stay ids slaves)

-- as many rows as slaves
pub as_many : (rows : List SlaveRow) (slaves : List SlaveValue) → map row_seen rows ≡ placed_rows slaves → length rows ≡ length slaves
as_many rows slaves e = sym (length-map rows row_seen) ∙ ap length e ∙ length-map slaves (placed_row (map (λ s. s.id) slaves))

pub legal_rows : (shape : ShapeValue) (d : Data) → file_of d ≡ Ok shape → (rows : List RowValue) → rows ≡ placed_rows shape.slaves → IsTree (tree_rows rows)
    → fault_of (record { head = shape.head; rows = rows; losses = shape.losses }) ≡ None → IsLegal (record { head = shape.head; rows = rows; losses = shape.losses })
legal_rows shape d is rows e tree faultless =
    let file = file_ranges d shape is in
    let many : length rows ≡ length shape.slaves = ap length e ∙ length-map shape.slaves (placed_row (map (λ s. s.id) shape.slaves)) in
    record {
      head = file.head;
      ids = subst (All (λ r. is_id r.id ≡ true)) (sym e) (of_slaves shape.head.version shape.head.cycle_ns (λ r. is_id r.id ≡ true) shape.slaves (λ s is. is.id) file.slaves);
      clocks = subst (All (IsClock shape.head.cycle_ns)) (sym e) (clocks_of_slaves shape.head.version shape.head.cycle_ns shape.slaves file.slaves);
      steady = subst (All (λ r. shape.head.version ≡ 1 → r.rates ≡ [])) (sym e)
          (of_slaves shape.head.version shape.head.cycle_ns (λ r. shape.head.version ≡ 1 → r.rates ≡ []) shape.slaves (λ s is. is.steady) file.slaves);
      once = file.once;
      few_losses = file.few_losses;
      losses = subst (λ n. All (IsLoss n) shape.losses) (sym many) file.losses;
      distinct = ap (λ rs. first_again [] (map (λ r. r.id) rs)) e ∙ ap (first_again []) (ids_stay (map (λ s. s.id) shape.slaves) shape.slaves) ∙ file.distinct;
      tree = record {
        tree = tree;
        slaves = subst (λ rs. All IsRow (tree_rows rs)) (sym e) (rows_of_slaves shape.head.version shape.head.cycle_ns shape.slaves file.slaves);
        few = omega (arith, file.few_slaves, many, length-map rows tree_row);
      };
      faultless = faultless;
    }
