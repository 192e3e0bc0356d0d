-- The table that is gathered from a shape, the kinds and the latches.
use Rattle.std.specs.Prelude.{◌≡◌, ℕ, suc, zero, ◌<◌, ◌≤◌, Bool, false, Option, None, List, [], ◌∷◌, length, map, slice_index_or}
use Rattle.std.specs.List.{range_with_len, list_any}
use Rattle.std.specs.Option.{is_some}
use Rattle.std.proofs.Common.{arith, refl, sym, ap, ◌∙◌, inl, inr}
use Rattle.std.proofs.Math.Path.{fun_ext}
use Rattle.std.proofs.lemmas.Bool.{cases_lt}
use Rattle.std.proofs.lemmas.List.{ext_get_or, get_or_past}
use Rattle.std.proofs.lemmas.List.FromFn.{length-map-range_with_len, get_or-map-range_with_len}
use Rattle.cable_tree.specs.declared.port.Port.{Port}
use Rattle.cable_tree.specs.declared.port.Port.TheVariants.{P1, P2, P3}
use Rattle.cable_tree.specs.Row.{row_at, no_row}
use Rattle.cable_tree.specs.FrameOrder.{is_at}
use Rattle.dc_bounds.specs.Weight.{flag, is_connected}
use Rattle.dc_topology.specs.Listed.{Place}
use Rattle.dc_delay.specs.declared.kind.Kind.{Kind}
use Rattle.dc_delay.specs.declared.latch.Latch.{Latch}
use Rattle.dc_delay.specs.declared.slave.Slave.{Slave}
use Rattle.dc_delay.specs.ShapeRows.{row_of, rows_of}
use Rattle.dc_delay.specs.Latched.{lap_of, laps, measures}
use Rattle.dc_delay.specs.MeasuredDelay.{delays_from}
use Rattle.dc_delay.specs.Table.{IsOf, IsTable, no_slave, slave_at, row_of_slave, table_rows, table_measures, table_laps, connected_at, told}
use Rattle.dc_delay.proofs.Hung.{connected, places_told}
use Rattle.dc_delay.proofs.Tables.{table_length, table_row}

rows_length : (places : List Place) (kinds : List Kind) → length kinds ≡ length places → length (rows_of places kinds) ≡ length places
rows_length [] kinds e = refl
rows_length (place ∷ places) [] e = absurd (omega arith)
rows_length (place ∷ places) (kind ∷ kinds) e = ap suc (rows_length places kinds (omega arith))

abbrev no_kind : Kind
no_kind = record { tp_ns = 0; tf_ns = 0 }

rows_at : (places : List Place) (kinds : List Kind) (r : ℕ) → length kinds ≡ length places
    → row_at (rows_of places kinds) r ≡ row_of (slice_index_or places r None) (slice_index_or kinds r no_kind)
rows_at [] [] r e = refl
rows_at [] (kind ∷ kinds) r e = absurd (omega arith)
rows_at (place ∷ places) [] r e = absurd (omega arith)
rows_at (place ∷ places) (kind ∷ kinds) zero e = refl
rows_at (place ∷ places) (kind ∷ kinds) (suc r) e = rows_at places kinds r (omega arith)

module _ (places : List Place) (kinds : List Kind) (latches : List (Option Latch)) (same_kinds : length kinds ≡ length places) (same_latches : length latches ≡ length places) where
  abbrev table : List Slave
  table = map (told places kinds latches) (range_with_len 0 (length places))

  whole : length table ≡ length places
  whole = length-map-range_with_len (told places kinds latches) 0 (length places)

  slave_told : (r : ℕ) → r < length places → slave_at table r ≡ told places kinds latches r
  slave_told r within = get_or-map-range_with_len (told places kinds latches) 0 (length places) r r no_slave within (omega arith)

  slave_past : (r : ℕ) → length places ≤ r → slave_at table r ≡ no_slave
  slave_past r past = get_or_past table r no_slave (omega (arith, whole))

  rows_same : table_rows table ≡ rows_of places kinds
  rows_same =
      ext_get_or no_row (table_rows table) (rows_of places kinds)
      (table_length table ∙ whole ∙ sym (rows_length places kinds same_kinds))
      (λ r within. table_row table r
      ∙ ap row_of_slave (slave_told r (omega (arith, within, table_length table, whole)))
      ∙ sym (rows_at places kinds r same_kinds))

  latch_same : (r : ℕ) → (slave_at table r).latch ≡ slice_index_or latches r None
  latch_same r =
      elim (cases_lt r (length places)) [
        | inl lt ↦ ap (λ (s : Slave). s.latch) (slave_told r lt)
        | inr le ↦ ap (λ (s : Slave). s.latch) (slave_past r le) ∙ sym (get_or_past latches r None (omega arith))
      ]

  gathered_is : IsOf places kinds latches table
  gathered_is = record {
    rows = rows_same;
    measures = fun_ext (λ r. ap is_some (latch_same r));
    laps = fun_ext (λ r. fun_ext (λ p. ap (λ o. lap_of o p) (latch_same r)));
  }

  ports_told : (r : ℕ) (p : Port) → connected_at (told places kinds latches r).connected p ≡ list_any (is_at r p) places
  ports_told r P1 = refl
  ports_told r P2 = refl
  ports_told r P3 = refl

  gathered_table : length places ≤ 256 → IsTable table
  gathered_table few = record {
    few = omega (arith, whole);
    each = λ r p within.
        ap (λ (s : Slave). connected_at s.connected p) (slave_told r (omega (arith, within, whole)))
        ∙ ports_told r p
        ∙ sym (connected (rows_of places kinds) r p ∙ ap (list_any (is_at r p)) (places_told places kinds same_kinds))
        ∙ ap (λ rows. is_connected rows r p) (sym rows_same);
  }

-- what a loop has gathered, at its end
pub gathered : (places : List Place) (kinds : List Kind) (latches : List (Option Latch)) (slaves : List Slave) (k : ℕ) → length kinds ≡ length places → length latches ≡ length places
    → length places ≤ 256 → k ≡ length places → slaves ≡ map (told places kinds latches) (range_with_len 0 k) → IsOf places kinds latches slaves × IsTable slaves × (length slaves ≡ length places)
gathered places kinds latches slaves k same_kinds same_latches few all is =
    let end : slaves ≡ map (told places kinds latches) (range_with_len 0 (length places)) = is ∙ ap (λ n. map (told places kinds latches) (range_with_len 0 n)) all in
    rw end (gathered_is places kinds latches same_kinds same_latches, gathered_table places kinds latches same_kinds same_latches few, whole places kinds latches same_kinds same_latches)

-- so the delays by a table are those by the shape
pub delays_same : (places : List Place) (kinds : List Kind) (latches : List (Option Latch)) (slaves : List Slave) (timed : ℕ → Bool) (reference : Option ℕ) (order : List ℕ)
    → IsOf places kinds latches slaves
    → delays_from (table_rows slaves) (table_measures slaves) timed (table_laps slaves) reference order
    ≡ delays_from (rows_of places kinds) (measures latches) timed (laps latches) reference order
delays_same places kinds latches slaves timed reference order is =
    ap (λ rows. delays_from rows (table_measures slaves) timed (table_laps slaves) reference order) is.rows
    ∙ ap (λ (m : ℕ → Bool). delays_from (rows_of places kinds) m timed (table_laps slaves) reference order) is.measures
    ∙ ap (λ (l : ℕ → Port → ℕ). delays_from (rows_of places kinds) (measures latches) timed l reference order) is.laps

-- the flags of the slaves that measure
module _ (latches : List (Option Latch)) (flags : List Bool) (k : ℕ) (last : length latches ≤ k) (within : k ≤ length latches) (is : flags ≡ map (measures latches) (range_with_len 0 k)) where
  all : flags ≡ map (measures latches) (range_with_len 0 (length latches))
  all = is ∙ ap (λ n. map (measures latches) (range_with_len 0 n)) (let e : k ≡ length latches = omega arith in e)

  pub flags_whole : length flags ≡ length latches
  flags_whole = ap length all ∙ length-map-range_with_len (measures latches) 0 (length latches)

  pub flags_gathered : flag flags ≡ measures latches
  flags_gathered = fun_ext (λ r.
      elim (cases_lt r (length latches)) [
        | inl lt ↦ ap (λ xs. flag xs r) all ∙ get_or-map-range_with_len (measures latches) 0 (length latches) r r false lt (omega arith)
        | inr le ↦ get_or_past flags r false (omega (arith, flags_whole)) ∙ sym (ap is_some (get_or_past latches r None le))
      ])
