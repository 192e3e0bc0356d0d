-- Where the slaves of a shape hang, and which of their ports are connected.
use Rattle.std.specs.Prelude.{◌≡◌, ℕ, suc, ◌+◌, Bool, true, false, ◌||◌, nat_lt, Some, None, List, [], ◌∷◌, length, slice_index_or}
use Rattle.std.specs.List.{list_any, position, position_or_len}
use Rattle.std.specs.Option.{is_some}
use Rattle.std.proofs.Common.{arith, refl, sym, ap, ◌∙◌, cond}
use Rattle.std.proofs.Math.ListN.{get_or-map}
use Rattle.std.proofs.lemmas.Bool.Decides.{nat_tests}
use Rattle.std.proofs.lemmas.List.{length-map}
use Rattle.cable_tree.specs.declared.port.Port.{Port}
use Rattle.cable_tree.specs.Row.{Row, above}
use Rattle.cable_tree.specs.FrameOrder.{child, is_at}
use Rattle.dc_bounds.specs.Weight.{is_connected}
use Rattle.dc_topology.specs.Listed.{Place}
use Rattle.dc_delay.specs.declared.kind.Kind.{Kind}
use Rattle.dc_delay.specs.ShapeRows.{hanging, places_of, row_of, rows_of}

nat_lt_suc : (a b : ℕ) → nat_lt (1 + a) (suc b) ≡ nat_lt a b
nat_lt_suc a b = grind (arith, nat_tests)

-- a test finds a place exactly where it passes at some element
prefix_cons : (test : Row → Bool) (x : Row) (xs : List Row) (b : Bool) → test x ≡ b → nat_lt (position_or_len test xs) (length xs) ≡ list_any test xs
    → nat_lt (position_or_len test (x ∷ xs)) (length (x ∷ xs)) ≡ list_any test (x ∷ xs)
prefix_cons test x xs true e more = rw e (let less : nat_lt 0 (suc (length xs)) ≡ true = grind (arith, nat_tests) in less)
prefix_cons test x xs false e more = rw e (nat_lt_suc (position_or_len test xs) (length xs) ∙ more)

prefix_found : (test : Row → Bool) (rows : List Row) → nat_lt (position_or_len test rows) (length rows) ≡ list_any test rows
prefix_found test [] = refl
prefix_found test (x ∷ xs) = prefix_cons test x xs (test x) refl (prefix_found test xs)

is_some_cond : (b : Bool) (k : ℕ) → is_some (cond b (Some k) None) ≡ b
is_some_cond true k = refl
is_some_cond false k = refl

found : (test : Row → Bool) (rows : List Row) → is_some (position test rows) ≡ list_any test rows
found test rows = is_some_cond (nat_lt (position_or_len test rows) (length rows)) (position_or_len test rows) ∙ prefix_found test rows

hangs : (r : ℕ) (p : Port) (rows : List Row) → list_any (λ row. is_at r p row.above) rows ≡ list_any (is_at r p) (places_of rows)
hangs r p [] = refl
hangs r p (row ∷ rows) = ap (λ b. is_at r p row.above || b) (hangs r p rows)

-- a port is connected exactly where some slave hangs at it
pub connected : (rows : List Row) (r : ℕ) (p : Port) → is_connected rows r p ≡ list_any (is_at r p) (places_of rows)
unfolding child
connected rows r p = found (λ row. is_at r p row.above) rows ∙ hangs r p rows

pub places_told : (places : List Place) (kinds : List Kind) → length kinds ≡ length places → places_of (rows_of places kinds) ≡ places
places_told [] kinds e = refl
places_told (place ∷ places) [] e = absurd (omega arith)
places_told (place ∷ places) (kind ∷ kinds) e = ap (λ xs. place ∷ xs) (places_told places kinds (omega arith))

-- a shape alone
places_hang : (places : List Place) → places_of (hanging places) ≡ places
places_hang [] = refl
places_hang (place ∷ places) = ap (λ xs. place ∷ xs) (places_hang places)

pub hanging_length : (places : List Place) → length (hanging places) ≡ length places
hanging_length places = length-map places (λ place. row_of place (record { tp_ns = 0; tf_ns = 0 }))

pub hanging_above : (places : List Place) (r : ℕ) → above (hanging places) r ≡ slice_index_or places r None
hanging_above places r = ap (λ (row : Row). row.above) (get_or-map (λ place. row_of place (record { tp_ns = 0; tf_ns = 0 })) places r None)

pub hanging_port : (places : List Place) (r : ℕ) (p : Port) → list_any (is_at r p) places ≡ is_connected (hanging places) r p
hanging_port places r p = sym (connected (hanging places) r p ∙ ap (list_any (is_at r p)) (places_hang places))
