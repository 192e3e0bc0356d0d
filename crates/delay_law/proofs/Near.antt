-- The delays of a commissioning that ended with Ok lie within the delay bound.
use Rattle.std.proofs.Common.{◌≡◌, ℕ, zero, suc, ◌-◌, ◌*◌, ◌<◌, Bool, true, false, List, [], ◌∷◌, length, map, Option, Some, None, Result, Ok, Err, refl, sym, ap, ap₂, ◌∙◌, arith}
use Rattle.std.specs.Prelude.{if◌then◌else◌, is_some, slice_index_or, unwrap_or}
use Rattle.std.proofs.lemmas.List.{get_or-map, length-map}
use Rattle.std.proofs.lemmas.List.FromFn.{fill_by_all}
use Rattle.std.proofs.lemmas.Simd.{map-map}
use Rattle.cable_tree.specs.FrameOrder.{order}
use Rattle.cable_tree.specs.PathSums.{arrive, round_trip}
use Rattle.cable_tree.specs.Positions.{IsByPosition, places, position_of, renumbered, renumbered_row}
use Rattle.cable_tree.specs.Row.{Row, row_at as tree_row_at}
use Rattle.cable_tree.proofs.Exported.{order_at, position_at}
use Rattle.dc_bounds.specs.DelayBound.{delay_bound}
use Rattle.dc_bounds.specs.TickFacts.{IsNear}
use Rattle.dc_bounds.specs.Weight.{flag, weight}
use Rattle.dc_delay.specs.declared.latch.Latch.{Latch}
use Rattle.dc_delay.specs.Latched.{laps, measures as latches_at}
use Rattle.dc_delay.specs.MeasuredDelay.{delay_list}
use Rattle.dc_delay.specs.ShapeRows.{kind_of as kind_of_tree_row, kinds_of, positions, rows_of}
use Rattle.dc_delay.proofs.Exported.{near_at}
use Rattle.dc_topology.specs.Listed.{Lists, Place}
use Rattle.dc_topology.specs.declared.error.TopologyError.{TopologyError}
use Rattle.dc_topology.proofs.Exported.{not_both, same_tree, listed}
use Rattle.esc_regs.specs.declared.clock_kind.ClockKind.{ClockKind}
use Rattle.esc_regs.specs.declared.clock_kind.ClockKind.TheVariants as kind
use Rattle.segment_bounds.specs.Bounds.{wire_delay_at, delay_bound_at}
use Rattle.segment_file.specs.Legal.{IsLegal}
use Rattle.segment_file.specs.Segment.{RowValue, SegmentValue, clock_at, is_clock as is_clock_row, is_measuring as is_measuring_row, measures_at, no_row, reference_row, row_at, row_of, tree_row, tree_rows}
use Rattle.segment_file.proofs.Exported.{legal_measurable, legal_reference, legal_round_trip, order_many, row_within, rows_many}
use Rattle.esc_regs.specs.Kinds.{has_clock, measures}
use Rattle.dc_topology.specs.Status.{status_of, statuses}
use Rattle.master_script.specs.Kept.{has_delays, kept_after}
use Rattle.master_script.specs.ListedTree.{tree_of}
use Rattle.master_script.specs.Progress.{Progress, progress}
use Rattle.master_script.specs.Slaves.{SlaveWords, is_clock, tree_told}
use Rattle.master_script.specs.Words.{Words, delays_of, hung_of, hung_or_none}
use Rattle.master_script.proofs.Exported.{tree_listed, tree_refused}
use Rattle.honest_slaves.specs.Told.{word_of, words_of}
use Rattle.honest_slaves.proofs.Exported.{clock_word, flagged, delays_there, row_has}
use Rattle.honest_slaves.specs.FileSlaves.{kind_at, status_at}
use Rattle.run_of_file.specs.MasterOfFile.{kind_of, master_of}
use Rattle.run_of_file.specs.RunOfFile.{RunEnd, commissioned, master_after}
use Rattle.delay_law.specs.NearDelays.{AreNear}
use Rattle.delay_law.specs.ToldTimes.{AreTold}
use Rattle.delay_law.proofs.Ended.{at_end, late, sent_at, told}
use Rattle.delay_law.proofs.Readings.{of_clock, place_low}

some_same : {X : Type 0} {x y : X} → Some x ≡ Some y → x ≡ y
some_same e = cc

-- the master is told the forwarding delays of the rows in frame order
row_alike : (rows : List RowValue) (r : ℕ) → tree_row_at (tree_rows rows) r ≡ tree_row (slice_index_or rows r no_row)
row_alike [] r = refl
row_alike (row ∷ rows) zero = refl
row_alike (row ∷ rows) (suc r) = row_alike rows r

map_alike : {X Y : Type 0} (f g : X → Y) (xs : List X) → ((x : X) → f x ≡ g x) → map f xs ≡ map g xs
map_alike f g [] each = refl
map_alike f g (x ∷ xs) each = ap₂ (λ y ys. y ∷ ys) (each x) (map_alike f g xs each)

kinds_are : (s : SegmentValue) → (master_of s).kinds ≡ kinds_of (renumbered (tree_rows s.rows))
unfolding master_of
kinds_are s =
    map_alike (λ r. kind_of (row_of s r)) (λ r. kind_of_tree_row (renumbered_row (tree_rows s.rows) r)) (order (tree_rows s.rows))
    (λ r. ap (λ (x : Row). record { tp_ns = x.tp_ns; tf_ns = x.tf_ns }) (sym (row_alike s.rows r)))
    ∙ sym (map-map kind_of_tree_row (renumbered_row (tree_rows s.rows)) (order (tree_rows s.rows)))

clock_measures : (k : ClockKind) → has_clock k ≡ true → measures k ≡ true
clock_measures kind.None e = absurd (let z = e in cc)
clock_measures kind.R32 e = refl
clock_measures kind.C32 e = refl
clock_measures kind.C64 e = refl

-- near the same numbers, told otherwise
moved : (a a' b b' v v' : ℕ) → a ≡ a' → b ≡ b' → v ≡ v' → IsNear (1000000 * a) b v → IsNear (1000000 * a') b' v'
moved a a' b b' v v' p q r n = record { above = omega (arith, n.above, p, q, r); below = omega (arith, n.below, p, q, r) }

module _ (s : SegmentValue) (legal : IsLegal s) where
  abbrev rows : List Row
  rows = tree_rows s.rows

  abbrev words : List SlaveWords
  words = words_of (kind_at s) (status_at s) (length s.rows)

  -- the statuses that slaves tell list the tree of the file
  in_order : statuses rows ≡ map (status_at s) (positions (length s.rows))
  in_order =
      let many = order_many s legal in
      fill_by_all (status_at s) (statuses rows) (length s.rows) 0 (length-map (order rows) (status_of rows) ∙ many)
      (λ k low. get_or-map (status_of rows) (order rows) k 0 0 (omega (arith, low, many)))

  told_statuses : map (λ (w : SlaveWords). w.status) words ≡ statuses rows
  told_statuses = map-map (λ (w : SlaveWords). w.status) (λ q. word_of (kind_at s q) (status_at s q)) (positions (length s.rows)) ∙ sym in_order

  tree_by : (ss : List ℕ) (hung : List Place) → Lists ss hung → (r : Result (List Place) TopologyError) → tree_of ss ≡ r → r ≡ Ok hung
  tree_by ss hung lists (Ok other) e = ap (λ (h : List Place). Ok h) (same_tree ss other hung (tree_listed ss other e) lists)
  tree_by ss hung lists (Err x) e = absurd (not_both ss hung x lists (tree_refused ss x e))

  hung_is : (w : Words) → w.slaves ≡ words → hung_of w ≡ places rows
  hung_is w are =
      ap (λ ss. hung_or_none (tree_told ss)) are
      ∙ ap hung_or_none (ap tree_of told_statuses ∙ tree_by (statuses rows) (places rows) (listed rows legal.tree.tree legal.tree.slaves) (tree_of (statuses rows)) refl)

  low_row : (r : ℕ) → r < length rows → r < length s.rows
  low_row r low = let many = rows_many s in omega (arith, low, many)

  clocks_measure : (r : ℕ) → r < length rows → clock_at s.rows r ≡ true → measures_at s.rows r ≡ true
  clocks_measure r low is =
      get_or-map is_measuring_row s.rows r no_row false (low_row r low)
      ∙ clock_measures (slice_index_or s.rows r no_row).kind (sym (get_or-map is_clock_row s.rows r no_row false (low_row r low)) ∙ is)

  clocks_alike : (w : Words) → w.slaves ≡ words → IsByPosition rows (clock_at s.rows) (flag (map is_clock w.slaves))
  clocks_alike w are r low =
      let q = position_of rows r in
      let there = place_low s legal r low in
      ap (λ (ss : List SlaveWords). flag (map is_clock ss) q) are
      ∙ flagged is_clock has_clock (kind_at s) (status_at s) (length s.rows) q clock_word there
      ∙ row_has has_clock s legal q there
      ∙ ap (clock_at s.rows) (order_at rows legal.tree.tree legal.tree.slaves r low)

  latches_alike : (sent : ℕ) (latches : List (Option Latch)) → AreTold s sent latches → IsByPosition rows (measures_at s.rows) (latches_at latches)
  latches_alike sent latches told r low =
      let q = position_of rows r in
      let there = place_low s legal r low in
      by q there (measures_at s.rows (row_at s q)) refl ∙ ap (measures_at s.rows) (order_at rows legal.tree.tree legal.tree.slaves r low)
    where
      by : (q : ℕ) → q < length s.rows → (b : Bool) → measures_at s.rows (row_at s q) ≡ b → is_some (slice_index_or latches q None) ≡ b
      by q less true e = ap is_some (told.measuring q less e).1
      by q less false e = ap is_some (told.others q less e)

  delays_are : (w : Words) → w.slaves ≡ words
      → delays_of (master_of s) w ≡ delay_list (rows_of (places rows) (kinds_of (renumbered rows))) (latches_at w.latches) (flag (map is_clock w.slaves)) (laps w.latches) (positions (length (places rows)))
  unfolding delays_of
  delays_are w are =
      ap₂ (λ hung kinds. delay_list (rows_of hung kinds) (latches_at w.latches) (flag (map is_clock w.slaves)) (laps w.latches) (positions (length hung))) (hung_is w are) (kinds_are s)

  -- told times give near delays
  near_of : (sent : ℕ) (w : Words) → w.slaves ≡ words → AreTold s sent w.latches → (p d : ℕ) → p < length s.rows → clock_at s.rows (row_at s p) ≡ true
      → slice_index_or (delays_of (master_of s) w) p None ≡ Some d → IsNear (1000000 * d) (wire_delay_at s (row_at s p)) (delay_bound_at s (row_at s p))
  unfolding wire_delay_at delay_bound_at
  near_of sent w are told p d low clock is =
      let many = rows_many s in
      let r = row_at s p in
      let within : r < length rows = (let less = row_within s legal p low in omega (arith, less, many)) in
      let ordered = order_many s legal in
      let here : position_of rows r ≡ p = position_at rows legal.tree.tree legal.tree.slaves p (omega (arith, low, ordered)) in
      let first = legal_reference s legal in
      let trip = legal_round_trip s legal in
      let period = legal.head.frame_ns.1 in
      let n = near_at rows legal.tree.tree legal.tree.slaves (measures_at s.rows) (latches_at w.latches) (latches_alike sent w.latches told) (clock_at s.rows) (flag (map is_clock w.slaves)) (clocks_alike w are)
      (legal_measurable s legal) clocks_measure first.0 first.1 (laps w.latches) s.head.ppm legal.head.ppm (omega (arith, trip, period))
      (λ k less does. of_clock s legal sent w.latches told k less does) r within clock in
      let same : n.0 ≡ d = some_same (sym n.1 ∙ ap (λ ds. slice_index_or ds (position_of rows r) None) (sym (delays_are w are)) ∙ ap (λ k. slice_index_or (delays_of (master_of s) w) k None) here ∙ is) in
      moved n.0 d (arrive rows r - arrive rows first.0) (arrive rows r - arrive rows (unwrap_or (reference_row s.rows) 0))
      (delay_bound s.head.ppm (weight rows (measures_at s.rows) (clock_at s.rows) r) (round_trip rows)) (delay_bound s.head.ppm (weight rows (measures_at s.rows) (clock_at s.rows) r) (round_trip rows))
      same (ap (λ o. arrive rows r - arrive rows (unwrap_or o 0)) (sym first.1)) refl n.2

  module _ (run : RunEnd) (is : commissioned s ≡ Some run) (ok : run.answer ≡ Ok tt) where
    are_there : (p : Progress) → is_some p.words.reference ≡ true → p.todo ≡ [] → has_delays p ≡ true
    are_there p e t = rw (e, t) refl

    pub kept_delays : (master_after s None run.exchanges).delays ≡ delays_of (master_of s) (progress (master_of s) run.exchanges).words
    unfolding kept_after
    kept_delays =
        let p = progress (master_of s) run.exchanges in
        ap (λ b. if b then delays_of (master_of s) p.words else []) (are_there p (ap is_some (late s legal run is ok).knows.reference) (at_end s legal run is ok))

    pub commissioned_near : AreNear s (master_after s None run.exchanges).delays
    commissioned_near p d low entry =
        let clock : clock_at s.rows (row_at s p) ≡ true = sym (delays_there s legal run is ok p low) ∙ ap is_some entry in
        near_of (sent_at s legal run is ok) (progress (master_of s) run.exchanges).words (late s legal run is ok).knows.slaves (told s legal run is ok) p d low clock
        (ap (λ ds. slice_index_or ds p None) (sym kept_delays) ∙ entry)
