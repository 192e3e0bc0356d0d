-- Where the cables of drawn slaves end: at an earlier row, at a port that is free, and at a clockless slave only from the row behind it.
use Rattle.std.proofs.Common.{◌≡◌, ◌∙◌, ap, refl, sym, ℕ, ◌%◌, ◌<◌, ◌≤◌, ◌⊎◌, inl, inr, Bool, true, false, ◌&&◌, ◌==◌, not, List, length, Option, Some, None, arith, if◌then◌else◌, max}
use Rattle.cable_tree.specs.declared.port.Above.{Above}
use Rattle.cable_tree.specs.declared.port.Port.{Port}
use Rattle.cable_tree.specs.declared.port.Port.TheVariants.{P1, P2, P3}
use Rattle.segment_file.specs.Segment.{RowValue, clock_at}
use Rattle.segment_draw.specs.Draws.{Draws}
use Rattle.segment_draw.specs.Generated.{is_taken, free_port, behind, at_port, drawn_parent, above_of}

-- a free port of an earlier clock
pub record IsFree (earlier : List RowValue) (a : Above) : Type 0 where
  pub row : a.row < length earlier
  pub clock : clock_at earlier a.row ≡ true
  pub free : is_taken earlier a.row a.port ≡ false

abbrev pub IsPlace : List RowValue → Above → Type 0
IsPlace earlier a = (a ≡ behind (length earlier)) ⊎ IsFree earlier a

first_free : (a b c : Bool) (P : Port → Bool) (p : Port) → P P1 ≡ a → P P2 ≡ b → P P3 ≡ c
    → (if not a then Some P1 else (if not b then Some P2 else (if not c then Some P3 else None))) ≡ Some p → P p ≡ false
first_free false b c P p x y z e = let same : P1 ≡ p = cc in ap P (sym same) ∙ x
first_free true false c P p x y z e = let same : P2 ≡ p = cc in ap P (sym same) ∙ y
first_free true true false P p x y z e = let same : P3 ≡ p = cc in ap P (sym same) ∙ z
first_free true true true P p x y z e = absurd (cc e)

free_is_free : (rows : List RowValue) (row : ℕ) (p : Port) → free_port rows row ≡ Some p → is_taken rows row p ≡ false
unfolding free_port
free_is_free rows row p e = first_free (is_taken rows row P1) (is_taken rows row P2) (is_taken rows row P3) (is_taken rows row) p refl refl refl e

both : (a b : Bool) → (a && b) ≡ true → b ≡ true
both true b e = e
both false b e = absurd (cc e)

by_port : (rows : List RowValue) (q : ℕ) (o : Option Port) → q < length rows → clock_at rows q ≡ true → ((p : Port) → o ≡ Some p → is_taken rows q p ≡ false) → IsPlace rows (at_port (length rows) q o)
by_port rows q None low clock free = inl refl
by_port rows q (Some p) low clock free = inr (record { row = low; clock = clock; free = free p refl })

by_test : (rows : List RowValue) (q : ℕ) (b : Bool) → q < length rows → (b ≡ true → clock_at rows q ≡ true) → IsPlace rows (if b then at_port (length rows) q (free_port rows q) else behind (length rows))
by_test rows q true low clock = by_port rows q (free_port rows q) low (clock refl) (λ p e. free_is_free rows q p e)
by_test rows q false low clock = inl refl

some_rows : (n : ℕ) → 1 ≤ n → max n 1 ≡ n
some_rows n some = omega arith

parent_low : (n : ℕ) (d : Draws) → 1 ≤ n → drawn_parent n d < n
parent_low n d some = rw (some_rows n some) (omega arith)

pub placed : (rows : List RowValue) (d : Draws) → 1 ≤ length rows → IsPlace rows (above_of rows d)
unfolding above_of
placed rows d some =
    let q = drawn_parent (length rows) d in
    by_test rows q (d.branch % 4 == 0 && clock_at rows q) (parent_low (length rows) d some) (λ e. both (d.branch % 4 == 0) (clock_at rows q) e)
