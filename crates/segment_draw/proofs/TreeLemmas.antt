-- Drawn slaves are a tree.
use Rattle.std.proofs.Common.{◌≡◌, ◌∙◌, ap, refl, sym, subst, ℕ, zero, suc, ◌<◌, ◌≤◌, ◌⊎◌, inl, inr, true, ◌==◌, List, [], length, take, get_or, Option, Some, None, arith, if◌then◌else◌}
use Rattle.std.specs.Option.{MatchOption}
use Rattle.std.proofs.lemmas.Bool.{cases_lt, ne_eqb}
use Rattle.std.proofs.lemmas.List.{length-map, get_or-map, get_or-take, length-take-le}
use Rattle.std.proofs.lemmas.List.Folds.{list_any_at}
use Rattle.esc_regs.specs.declared.clock_kind.ClockKind.TheVariants as kind
use Rattle.cable_tree.specs.declared.port.Above.{Above}
use Rattle.cable_tree.specs.FrameOrder.{is_at}
use Rattle.cable_tree.specs.Row.{Row, no_row, above}
use Rattle.cable_tree.specs.Segment.{IsRoot, LeadsToRoot, IsTree}
use Rattle.cable_tree.proofs.Exported.{at_same}
use Rattle.segment_file.specs.Segment.{RowValue, tree_row, tree_rows}
use Rattle.segment_draw.specs.Generated.{is_taken, above_of}
use Rattle.segment_draw.proofs.MadeLemmas.{AreMade}
use Rattle.segment_draw.proofs.PlaceLemmas.{IsPlace, placed}

pub record AreDrawn (rows : List RowValue) : Type 0 where
  pub made : AreMade rows
  pub some : 1 ≤ length rows
  pub few : length rows ≤ 256

-- what stands at a place past the end
abbrev pub no_value : RowValue
no_value = record {
  id = [];
  kind = kind.None;
  tp_ns = 0;
  tf_ns = 0;
  cable_ps = 0;
  above = None;
  start = 0;
  phase_fs = 0;
  period_fs = 0;
  rates = [];
  shift_ns = 0;
  sync1_ns = None;
}

some_same : {A : Type 0} (a b : A) → Some a ≡ Some b → a ≡ b
some_same a b e = cc

not_first : (n k : ℕ) (a : Above) → n ≡ k → 1 ≤ k → (if n == 0 then None else Some a) ≡ Some a
not_first n k a e some = rw (ne_eqb n 0 (λ (z : n ≡ 0). absurd (omega (arith, z, e, some)))) refl

module _ (rows : List RowValue) (drawn : AreDrawn rows) where
  pub many : length (tree_rows rows) ≡ length rows
  many = length-map rows tree_row

  pub here : (k : ℕ) → k < length rows → above (tree_rows rows) k ≡ (get_or rows k no_value).above
  here k low = ap (λ (r : Row). r.above) (get_or-map tree_row rows k no_value no_row low)

  pub front : (k : ℕ) → k < length rows → length (take k rows) ≡ k
  front k low = length-take-le k rows (omega arith)

  pub root_here : above (tree_rows rows) 0 ≡ None
  root_here = here 0 drawn.some ∙ ap (λ (r : RowValue). r.above) (drawn.made 0 no_value drawn.some).is

  pub spot : (k : ℕ) → 1 ≤ k → k < length rows → (a : Above) × (above (tree_rows rows) k ≡ Some a) × IsPlace (take k rows) a
  spot k some low =
      let one = drawn.made k no_value low in
      let a = above_of (take k rows) one.draws in (
        a,
        here k low ∙ ap (λ (r : RowValue). r.above) one.is ∙ not_first (length (take k rows)) k a (front k low) some,
        placed (take k rows) one.draws (omega (arith, front k low, some)),
      )

  place_low : (k : ℕ) (a : Above) → 1 ≤ k → k < length rows → IsPlace (take k rows) a → a.row < k
  place_low k a some low (inl is) = let row = ap (λ (b : Above). b.row) is in omega (arith, row, front k low, some)
  place_low k a some low (inr free) = omega (arith, free.row, front k low)

  -- a row that has a parent is not the first, and its parent comes before it
  pub parent_before : (k : ℕ) (a : Above) → k < length rows → above (tree_rows rows) k ≡ Some a → (1 ≤ k) × (a.row < k) × IsPlace (take k rows) a
  parent_before zero a low e = let none = root_here in absurd (cc (none, e))
  parent_before (suc j) a low e =
      let is = spot (suc j) (omega arith) low in
      let same : is.0 ≡ a = some_same is.0 a (sym is.1 ∙ e) in
      let place : IsPlace (take (suc j) rows) a = subst (IsPlace (take (suc j) rows)) same is.2 in
      (omega arith, place_low (suc j) a (omega arith) low place, place)

  taken_at : (k j : ℕ) (a : Above) → j < k → k < length rows → above (tree_rows rows) j ≡ Some a → is_taken (take k rows) a.row a.port ≡ true
  taken_at k j a less low e =
      let before : j < length (take k rows) = omega (arith, less, front k low) in
      let there = ap (λ (r : RowValue). r.above) (get_or-take k rows j no_value less) ∙ sym (here j (omega arith)) ∙ e in
      list_any_at (λ r. is_at a.row a.port r.above) (take k rows) j no_value before (ap (is_at a.row a.port) there ∙ at_same a.row a.port)

  -- no two cables end at one port
  pub fresh : (j k : ℕ) (a : Above) → j < k → k < length rows → above (tree_rows rows) j ≡ Some a → above (tree_rows rows) k ≡ Some a → ⊥
  fresh j k a less low ej ek = by_place (parent_before k a low ek).2
    where
      by_place : IsPlace (take k rows) a → ⊥
      by_place (inl is) =
          let row = ap (λ (b : Above). b.row) is in
          let early = (parent_before j a (omega arith) ej).1 in
          absurd (omega (arith, row, early, front k low, less))
      by_place (inr free) =
          let taken = taken_at k j a less low ej in
          let no = free.free in
          absurd (cc (taken, no))

  leads : (steps r : ℕ) → r < steps → r < length rows → LeadsToRoot (tree_rows rows) steps r
  unfolding LeadsToRoot
  leads zero r less low = absurd (omega arith)
  leads (suc steps) r less low = by_parent (above (tree_rows rows) r) (λ a e. let before = (parent_before r a low e).1 in leads steps a.row (omega (arith, before)) (omega (arith, before)))
    where
      by_parent : (o : Option Above) → ((a : Above) → o ≡ Some a → LeadsToRoot (tree_rows rows) steps a.row) → MatchOption o (Unit {0}) (λ a. LeadsToRoot (tree_rows rows) steps a.row)
      by_parent None up = tt
      by_parent (Some a) up = up a refl

  pub root_first : (r : ℕ) → r < length rows → IsRoot (tree_rows rows) r → r ≡ 0
  root_first zero low is = refl
  root_first (suc r) low is = let spot = spot (suc r) (omega arith) low in let some = spot.1 in absurd (cc (is, some))

  order_of : (q r : ℕ) → (q < r) ⊎ ((r < q) ⊎ (q ≡ r))
  order_of q r = by_less (cases_lt q r) (cases_lt r q)
    where
      by_less : (q < r) ⊎ (r ≤ q) → (r < q) ⊎ (q ≤ r) → (q < r) ⊎ ((r < q) ⊎ (q ≡ r))
      by_less (inl a) b = inl a
      by_less (inr a) (inl b) = inr (inl b)
      by_less (inr a) (inr b) = inr (inr (omega arith))

  ports_once : (q r : ℕ) (a : Above) → q < length rows → r < length rows → above (tree_rows rows) q ≡ Some a → above (tree_rows rows) r ≡ Some a → q ≡ r
  ports_once q r a ql rl eq er = by_order (order_of q r)
    where
      by_order : (q < r) ⊎ ((r < q) ⊎ (q ≡ r)) → q ≡ r
      by_order (inl less) = absurd (fresh q r a less rl eq er)
      by_order (inr (inl more)) = absurd (fresh r q a more ql er eq)
      by_order (inr (inr same)) = same

  pub are_tree : IsTree (tree_rows rows)
  are_tree = record {
    some = omega (arith, many, drawn.some);
    parents = λ r a low e. let before = (parent_before r a (omega (arith, low, many)) e).1 in omega (arith, before, low);
    root = (0, omega (arith, many, drawn.some), root_here);
    one_root = λ q r ql rl qr rr. root_first q (omega (arith, ql, many)) qr ∙ sym (root_first r (omega (arith, rl, many)) rr);
    ports = λ q r a ql rl eq er. ports_once q r a (omega (arith, ql, many)) (omega (arith, rl, many)) eq er;
    leads = λ r low. leads (length (tree_rows rows)) r low (omega (arith, low, many));
  }
