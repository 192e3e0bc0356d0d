-- A segment is what its written file says.
use Rattle.std.specs.Prelude.{◌≡◌, ℕ, zero, suc, ◌+◌, ◌<◌, ◌≤◌, Bool, true, false, ◌||◌, List, [], ◌∷◌, ◌++◌, length, map, Option, Some, None, option_map, IfSome, if◌then◌else◌}
use Rattle.std.specs.List.{All, list_any, position_or_len}
use Rattle.std.specs.Str.{bytes_eq}
use Rattle.std.proofs.Common.{ap, ap₂, refl, sym, subst, ◌∙◌, arith, rules, get_or, nat_eq}
use Rattle.std.proofs.lemmas.List.{append_assoc, length-append, length-map, get_or-map}
use Rattle.std.proofs.lemmas.List.Elements.{All-map, All-head, All-tail, All-get_or}
use Rattle.std.proofs.lemmas.Bool.Decides.{nat_tests}
use Rattle.serde_json.specs.Data.{Data}
use Rattle.cable_tree.specs.Row.{IsRow, no_row}
use Rattle.cable_tree.specs.Segment.{IsTree}
use Rattle.cable_tree.specs.declared.port.Above.{Above}
use Rattle.cable_tree.specs.declared.port.Port.{Port}
use Rattle.cable_tree.specs.declared.port.Port.TheVariants.{P1, P2, P3}
use Rattle.segment_shape.specs.Values.{is_id}
use Rattle.segment_shape.specs.Twice.{first_again}
use Rattle.segment_shape.specs.Ranges.{IsParent, IsSlave, IsLoss, IsFile}
use Rattle.segment_shape.proofs.Exported.{file_read, file_text_read}
use Rattle.segment_file.specs.Segment.{RowValue, SegmentValue, tree_row, tree_rows}
use Rattle.segment_file.specs.Faults.{id_at, fault_of}
use Rattle.segment_file.specs.Placed.{port_numbered, row_with, above_in, placed_row, placed_rows, placed}
use Rattle.segment_file.specs.Legal.{IsClock, IsLegal}
use Rattle.segment_file.specs.Told.{IsFileOf, IsSegmentText}
use Rattle.segment_file.specs.Written.{port_number, parent_of, written_row, written, segment_data, segment_text}
use Rattle.segment_file.proofs.RowLemmas.{legal_rows}

-- ---- a row is found by its id

bytes_same : (xs : List ℕ) → bytes_eq xs xs ≡ true
bytes_same [] = refl
bytes_same (x ∷ xs) = let here : nat_eq x x ≡ true = search (rules, nat_tests) in rw (here, bytes_same xs) refl

first_here : (p : List ℕ → Bool) (xs : List (List ℕ)) (y : List ℕ) (ys : List (List ℕ)) → list_any p xs ≡ false → p y ≡ true → position_or_len p (xs ++ y ∷ ys) ≡ length xs
first_here p [] y ys none here = rw here refl
first_here p (x ∷ xs) y ys none here = by_test (p x) refl none (λ rest. first_here p xs y ys rest here)
  where
    by_test : (b : Bool) → p x ≡ b → (b || list_any p xs) ≡ false → (list_any p xs ≡ false → position_or_len p (xs ++ y ∷ ys) ≡ length xs)
        → position_or_len p (x ∷ (xs ++ y ∷ ys)) ≡ suc (length xs)
    by_test true is h later = absurd cc
    by_test false is h later = let rest = later h in rw is (omega (arith, rest))

found_after : (earlier ids : List (List ℕ)) (k : ℕ) → first_again earlier ids ≡ None → k < length ids
    → position_or_len (bytes_eq (get_or ids k [])) (earlier ++ ids) ≡ length earlier + k
unfolding first_again
found_after earlier [] k e low = absurd (omega (arith, low))
found_after earlier (x ∷ xs) k e low = by_test (list_any (bytes_eq x) earlier) refl e (λ h j less. found_after (earlier ++ x ∷ []) xs j h less)
  where
    by_place : (j : ℕ) → j < suc (length xs) → list_any (bytes_eq x) earlier ≡ false → first_again (earlier ++ x ∷ []) xs ≡ None
        → ((i : ℕ) → i < length xs → position_or_len (bytes_eq (get_or xs i [])) ((earlier ++ x ∷ []) ++ xs) ≡ length (earlier ++ x ∷ []) + i)
        → position_or_len (bytes_eq (get_or (x ∷ xs) j [])) (earlier ++ x ∷ xs) ≡ length earlier + j
    by_place zero less new h later = first_here (bytes_eq x) earlier x xs new (bytes_same x) ∙ omega arith
    by_place (suc j) less new h later =
        ap (position_or_len (bytes_eq (get_or xs j []))) (sym (append_assoc earlier (x ∷ []) xs)) ∙ later j (omega (arith, less)) ∙ omega (arith, length-append earlier (x ∷ []))

    by_test : (b : Bool) → list_any (bytes_eq x) earlier ≡ b → (if b then Some x else first_again (earlier ++ x ∷ []) xs) ≡ None
        → ((h : first_again (earlier ++ x ∷ []) xs ≡ None) (i : ℕ) → i < length xs
        → position_or_len (bytes_eq (get_or xs i [])) ((earlier ++ x ∷ []) ++ xs) ≡ length (earlier ++ x ∷ []) + i)
        → position_or_len (bytes_eq (get_or (x ∷ xs) k [])) (earlier ++ x ∷ xs) ≡ length earlier + k
    by_test true is h later = absurd cc
    by_test false is h later = by_place k low is h (later h)

ports_back : (p : Port) → port_numbered (port_number p) ≡ p
ports_back P1 = refl
ports_back P2 = refl
ports_back P3 = refl

-- a parent that is a row hangs at that row again
above_back : (rows : List RowValue) → first_again [] (map (λ r. r.id) rows) ≡ None → (o : Option Above) → IfSome o (λ a. a.row < length rows)
    → option_map (above_in (map (λ r. r.id) rows)) (option_map (parent_of rows) o) ≡ o
above_back rows distinct None low = refl
above_back rows distinct (Some a) low =
    let ids = map (λ r. r.id) rows in
    let row : row_with ids (id_at rows a.row) ≡ a.row = found_after [] ids a.row distinct (omega (arith, low, length-map rows (λ r. r.id))) ∙ omega arith in
    ap₂ (λ (n : ℕ) (p : Port). Some (record { row = n; port = p })) row (ports_back a.port)

-- ---- the rows of a segment

ids_written : (all rows : List RowValue) → map (λ s. s.id) (map (written_row all) rows) ≡ map (λ r. r.id) rows
ids_written all [] = refl
ids_written all (r ∷ rows) = ap (λ ids. r.id ∷ ids) (ids_written all rows)

row_back : (all : List RowValue) (r : RowValue) → option_map (above_in (map (λ r. r.id) all)) (option_map (parent_of all) r.above) ≡ r.above
    → placed_row (map (λ r. r.id) all) (written_row all r) ≡ r
row_back all r e =
    ap (λ a. record {
      id = r.id;
      kind = r.kind;
      tp_ns = r.tp_ns;
      tf_ns = r.tf_ns;
      cable_ps = r.cable_ps;
      above = a;
      start = r.start;
      phase_fs = r.phase_fs;
      period_fs = r.period_fs;
      rates = r.rates;
      shift_ns = r.shift_ns;
      sync1_ns = r.sync1_ns;
    }) e

rows_back : (all rows : List RowValue) → first_again [] (map (λ r. r.id) all) ≡ None → All (λ r. IfSome r.above (λ a. a.row < length all)) rows
    → map (placed_row (map (λ r. r.id) all)) (map (written_row all) rows) ≡ rows
rows_back all [] distinct low = refl
rows_back all (r ∷ rows) distinct low =
    ap₂ (λ (x : RowValue) (xs : List RowValue). x ∷ xs) (row_back all r (above_back all distinct r.above (All-head (λ r. IfSome r.above (λ a. a.row < length all)) r rows low)))
    (rows_back all rows distinct (All-tail (λ r. IfSome r.above (λ a. a.row < length all)) r rows low))

some_within : (o : Option Above) (n : ℕ) → ((a : Above) → o ≡ Some a → a.row < n) → IfSome o (λ a. a.row < n)
some_within None n h = tt
some_within (Some a) n h = h a refl

-- the parents of a tree are rows
pub parents_within : (rows : List RowValue) → IsTree (tree_rows rows) → All (λ r. IfSome r.above (λ a. a.row < length rows)) rows
parents_within rows tree = λ k d low.
    let there = get_or-map tree_row rows k d no_row low in
    some_within (get_or rows k d).above (length rows)
    (λ a e. omega (arith, tree.parents k a (omega (arith, low, length-map rows tree_row)) (ap (λ r. r.above) there ∙ e), length-map rows tree_row))

-- what a legal segment says is placed as that segment
pub placed_back : (s : SegmentValue) → IsLegal s → s ≡ placed (written s)
placed_back s legal =
    let ids = ids_written s.rows s.rows in
    let rows = rows_back s.rows s.rows legal.distinct (parents_within s.rows legal.tree.tree) in
    ap (λ rs. record { head = s.head; rows = rs; losses = s.losses }) (sym (ap (λ names. map (placed_row names) (map (written_row s.rows) s.rows)) ids ∙ rows))

-- ---- the written file

ports_some : (p : Port) → (1 ≤ port_number p) × (port_number p ≤ 3)
ports_some P1 = (omega arith, omega arith)
ports_some P2 = (omega arith, omega arith)
ports_some P3 = (omega arith, omega arith)

parent_written : (rows : List RowValue) → All (λ r. is_id r.id ≡ true) rows → (o : Option Above) → IfSome o (λ a. a.row < length rows) → IfSome (option_map (parent_of rows) o) IsParent
parent_written rows ids None low = tt
parent_written rows ids (Some a) low = record {
  id = All-get_or (λ id. is_id id ≡ true) (map (λ r. r.id) rows) a.row [] (omega (arith, low, length-map rows (λ r. r.id))) (All-map (λ id. is_id id ≡ true) (λ r. r.id) rows ids);
  port = ports_some a.port;
}

row_written : (version cycle_ns : ℕ) (rows : List RowValue) (r : RowValue) → All (λ r. is_id r.id ≡ true) rows → IsRow (tree_row r) → is_id r.id ≡ true → IsClock cycle_ns r
    → (version ≡ 1 → r.rates ≡ []) → IfSome r.above (λ a. a.row < length rows) → IsSlave version cycle_ns (written_row rows r)
row_written version cycle_ns rows r ids row id clock steady low = record {
  id = id;
  tp_ns = (row.tp_some, row.tp_most);
  tf_ns = (row.tf_some, row.tf_most);
  cable_ps = row.cable_most;
  parent = parent_written rows ids r.above low;
  start = clock.start;
  phase_fs = clock.phase_fs;
  period_fs = clock.period_fs;
  measuring = clock.measuring;
  few = clock.few;
  rates = clock.rates;
  rising = clock.rising;
  shift_ns = clock.shift_ns;
  sync1_ns = clock.sync1_ns;
  silent = clock.silent;
  steady = steady;
  signalless = clock.signalless;
}

-- the written file of a legal segment has the facts of a file
pub written_file : (s : SegmentValue) → IsLegal s → IsFile (written s)
written_file s legal =
    let version = s.head.version in
    let cycle = s.head.cycle_ns in
    let many : length (map (written_row s.rows) s.rows) ≡ length s.rows = length-map s.rows (written_row s.rows) in
    let low = parents_within s.rows legal.tree.tree in
    let slaves : All IsRow (tree_rows s.rows) = legal.tree.slaves in
    record {
      head = legal.head;
      few_slaves = omega (arith, many, legal.tree.few, length-map s.rows tree_row);
      slaves = All-map (IsSlave version cycle) (written_row s.rows) s.rows
          (λ k d h. row_written version cycle s.rows (get_or s.rows k d) legal.ids
          (subst IsRow (get_or-map tree_row s.rows k d (tree_row d) h) (slaves k (tree_row d) (omega (arith, h, length-map s.rows tree_row))))
          (legal.ids k d h) (legal.clocks k d h) (legal.steady k d h) (low k d h));
      few_losses = legal.few_losses;
      losses = subst (λ n. All (IsLoss n) s.losses) (sym many) legal.losses;
      once = legal.once;
      distinct = ap (first_again []) (ids_written s.rows s.rows) ∙ legal.distinct;
    }

-- a legal segment is said by its written file
pub written_says : (s : SegmentValue) → IsLegal s → IsFileOf (segment_data s) s
written_says s legal = record {
  says = record { shape = written s; file = file_read (written s) (written_file s legal); is = placed_back s legal };
  tree = legal.tree.tree;
  faultless = legal.faultless;
}

-- and what a file says without fault is legal
pub said_legal : (d : Data) (s : SegmentValue) → IsFileOf d s → IsLegal s
said_legal d s file =
    subst IsLegal (sym file.says.is)
    (legal_rows file.says.shape d file.says.file (placed_rows file.says.shape.slaves) refl (subst (λ t. IsTree (tree_rows t.rows)) file.says.is file.tree) (ap fault_of (sym file.says.is) ∙ file.faultless))

pub text_legal : (bytes : List ℕ) (s : SegmentValue) → IsSegmentText bytes s → IsLegal s
text_legal bytes s (d, text, file) = said_legal d s file

pub written_text : (s : SegmentValue) → IsLegal s → IsSegmentText (segment_text s) s
written_text s legal = (segment_data s, file_text_read (written s) (written_file s legal), written_says s legal)
