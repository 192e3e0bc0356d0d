-- The judgement of the slaves of a legal file.
use Rattle.std.proofs.Common.{◌≡◌, ℕ, Bool, false, List, length, map, Some, None, Result, Ok, Err, refl, sym, ap, ap₂, ◌∙◌, arith}
use Rattle.std.specs.Prelude.{slice_index_or}
use Rattle.std.specs.Option.{option_map}
use Rattle.std.proofs.lemmas.List.{length-map, get_or-map}
use Rattle.std.proofs.lemmas.List.FromFn.{fill_by_all}
use Rattle.std.proofs.lemmas.Simd.{map-map}
use Rattle.cable_tree.specs.FrameOrder.{order}
use Rattle.cable_tree.specs.Positions.{IsByPosition, places, position_of}
use Rattle.cable_tree.proofs.Exported.{row_within, order_at}
use Rattle.dc_bounds.specs.Weight.{flag}
use Rattle.dc_delay.specs.Refusals.{first_timed, first_unmeasurable}
use Rattle.dc_delay.specs.ShapeRows.{positions}
use Rattle.dc_delay.proofs.Exported.{reference_at, unmeasurable_at}
use Rattle.dc_topology.specs.Listed.{Place, Lists}
use Rattle.dc_topology.specs.declared.error.TopologyError.{TopologyError}
use Rattle.dc_topology.proofs.Exported.{same_tree, not_both, listed}
use Rattle.esc_regs.specs.declared.clock_kind.ClockKind.{ClockKind}
use Rattle.master_script.specs.ListedTree.{tree_of}
use Rattle.master_script.specs.Slaves.{SlaveWords, is_clock, is_measuring, judgement, judged_tree, judged_clocks, tree_told}
use Rattle.master_script.proofs.Exported.{tree_listed, tree_refused}
use Rattle.segment_file.specs.Legal.{IsLegal}
use Rattle.segment_file.specs.Segment.{RowValue, SegmentValue, tree_rows, clock_at, measures_at, no_row}
use Rattle.segment_file.proofs.Exported.{order_many, rows_many, legal_reference, legal_measurable}
use Rattle.esc_regs.specs.Kinds.{measures, has_clock}
use Rattle.dc_topology.specs.Status.{status_of, statuses}
use Rattle.honest_slaves.specs.Told.{word_of, words_of}
use Rattle.honest_slaves.proofs.ByKind.{clock_word, measuring_word}
use Rattle.honest_slaves.proofs.Numbers.{flagged}
use Rattle.honest_slaves.specs.FileSlaves.{kind_at, status_at}

module _ (s : SegmentValue) (legal : IsLegal s) where
  abbrev pub told : List SlaveWords
  told = words_of (kind_at s) (status_at s) (length s.rows)

  -- the statuses are those of the tree
  in_order : statuses (tree_rows s.rows) ≡ map (status_at s) (positions (length s.rows))
  in_order =
      let many = order_many s legal in
      fill_by_all (status_at s) (statuses (tree_rows s.rows)) (length s.rows) 0 (length-map (order (tree_rows s.rows)) (status_of (tree_rows s.rows)) ∙ many)
      (λ k low. get_or-map (status_of (tree_rows s.rows)) (order (tree_rows s.rows)) k 0 0 (omega (arith, low, many)))

  told_statuses : map (λ (w : SlaveWords). w.status) told ≡ statuses (tree_rows s.rows)
  told_statuses = map-map (λ (w : SlaveWords). w.status) (λ q. word_of (kind_at s q) (status_at s q)) (positions (length s.rows)) ∙ sym in_order

  tree_by : (ss : List ℕ) (hung : List Place) → Lists ss hung → (r : Result (List Place) TopologyError) → tree_of ss ≡ r → r ≡ Ok hung
  tree_by ss hung lists (Ok other) e = ap (λ (h : List Place). Ok h) (same_tree ss other hung (tree_listed ss other e) lists)
  tree_by ss hung lists (Err x) e = absurd (not_both ss hung x lists (tree_refused ss x e))

  tree_is : tree_told told ≡ Ok (places (tree_rows s.rows))
  tree_is = ap tree_of told_statuses ∙ tree_by (statuses (tree_rows s.rows)) (places (tree_rows s.rows)) (listed (tree_rows s.rows) legal.tree.tree legal.tree.slaves) (tree_of (statuses (tree_rows s.rows))) refl

  -- what is told of a position is what the file says of its row
  by_position : (f : SlaveWords → Bool) (P : ClockKind → Bool) → ((k : ClockKind) (status : ℕ) → f (word_of k status) ≡ P k)
      → IsByPosition (tree_rows s.rows) (flag (map (λ (row : RowValue). P row.kind) s.rows)) (flag (map f told))
  by_position f P same r low =
      let rows = tree_rows s.rows in
      let many = rows_many s in
      let there = row_within rows legal.tree.tree legal.tree.slaves r low in
      flagged f P (kind_at s) (status_at s) (length s.rows) (position_of rows r) same (omega (arith, there, many))
      ∙ ap (λ k. P (slice_index_or s.rows k no_row).kind) (order_at rows legal.tree.tree legal.tree.slaves r low)
      ∙ sym (get_or-map (λ (row : RowValue). P row.kind) s.rows r no_row false (omega (arith, low, many)))

  first_clock : first_timed (places (tree_rows s.rows)) (flag (map is_clock told)) ≡ Some (position_of (tree_rows s.rows) (legal_reference s legal).0)
  first_clock =
      reference_at (tree_rows s.rows) legal.tree.tree legal.tree.slaves (clock_at s.rows) (flag (map is_clock told)) (by_position is_clock has_clock clock_word)
      ∙ ap (option_map (position_of (tree_rows s.rows))) (legal_reference s legal).1

  all_measurable : first_unmeasurable (places (tree_rows s.rows)) (flag (map is_measuring told)) ≡ None
  all_measurable =
      unmeasurable_at (tree_rows s.rows) legal.tree.tree legal.tree.slaves (measures_at s.rows) (flag (map is_measuring told)) (by_position is_measuring measures measuring_word)
      ∙ ap (option_map (position_of (tree_rows s.rows))) (legal_measurable s legal)

  -- so the slaves are judged, and the reference is the first clock of the file
  pub judged_ok : judgement told ≡ Ok (position_of (tree_rows s.rows) (legal_reference s legal).0)
  unfolding judgement
  judged_ok = ap (judged_tree told) tree_is ∙ ap₂ judged_clocks first_clock all_measurable
