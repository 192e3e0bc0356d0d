-- The positions of the slaves that measure, and of the clocks, as a master is told them and as the file has them.
use Rattle.std.proofs.Common.{◌≡◌, ℕ, zero, suc, ◌+◌, ◌<◌, Bool, false, cond, List, ◌∷◌, length, map, filter, refl, sym, ap, ap₂, ◌∙◌, arith}
use Rattle.std.specs.List.{range_with_len}
use Rattle.std.proofs.lemmas.List.{get_or-map}
use Rattle.dc_bounds.specs.Weight.{flag}
use Rattle.dc_delay.specs.ShapeRows.{positions}
use Rattle.esc_regs.specs.declared.clock_kind.ClockKind.{ClockKind}
use Rattle.master_script.specs.Slaves.{SlaveWords, is_clock, is_measuring, clocks, measuring}
use Rattle.segment_file.specs.Legal.{IsLegal}
use Rattle.segment_file.specs.Segment.{RowValue, SegmentValue, clock_at, measures_at, no_row, row_at}
use Rattle.segment_file.proofs.Exported.{row_within}
use Rattle.esc_regs.specs.Kinds.{measures, has_clock}
use Rattle.honest_slaves.specs.Told.{word_of, words_of}
use Rattle.honest_slaves.proofs.ByKind.{clock_word, measuring_word}
use Rattle.honest_slaves.proofs.Numbers.{flagged, words_many}
use Rattle.honest_slaves.specs.FileSlaves.{kind_at, status_at}

picked_same : (f g : ℕ → Bool) (a m : ℕ) → ((p : ℕ) → p < a + m → f p ≡ g p) → filter f (range_with_len a m) ≡ filter g (range_with_len a m)
picked_same f g a zero each = refl
picked_same f g a (suc m) each =
    ap₂ (λ (b : Bool) (xs : List ℕ). cond b (a ∷ xs) xs) (each a (omega arith)) (picked_same f g (a + 1) m (λ p low. each p (omega (arith, low))))

-- a kind at a position is that of the row there
pub row_has : (P : ClockKind → Bool) (s : SegmentValue) → IsLegal s → (p : ℕ) → p < length s.rows → P (kind_at s p) ≡ flag (map (λ (row : RowValue). P row.kind) s.rows) (row_at s p)
row_has P s legal p low = sym (get_or-map (λ (row : RowValue). P row.kind) s.rows (row_at s p) no_row false (row_within s legal p low))

told_positions : (f : SlaveWords → Bool) (P : ClockKind → Bool) (s : SegmentValue) → IsLegal s → ((k : ClockKind) (status : ℕ) → f (word_of k status) ≡ P k)
    → filter (flag (map f (words_of (kind_at s) (status_at s) (length s.rows)))) (positions (length (words_of (kind_at s) (status_at s) (length s.rows))))
    ≡ filter (λ p. flag (map (λ (row : RowValue). P row.kind) s.rows) (row_at s p)) (positions (length s.rows))
told_positions f P s legal same =
    ap (λ m. filter (flag (map f (words_of (kind_at s) (status_at s) (length s.rows)))) (positions m)) (words_many (kind_at s) (status_at s) (length s.rows))
    ∙ picked_same _ _ 0 (length s.rows)
    (λ p less. let low : p < length s.rows = omega (arith, less) in flagged f P (kind_at s) (status_at s) (length s.rows) p same low ∙ row_has P s legal p low)

pub told_measuring : (s : SegmentValue) → IsLegal s → measuring (words_of (kind_at s) (status_at s) (length s.rows)) ≡ filter (λ p. measures_at s.rows (row_at s p)) (positions (length s.rows))
told_measuring s legal = told_positions is_measuring measures s legal measuring_word

pub told_clocks : (s : SegmentValue) → IsLegal s → clocks (words_of (kind_at s) (status_at s) (length s.rows)) ≡ filter (λ p. clock_at s.rows (row_at s p)) (positions (length s.rows))
told_clocks s legal = told_positions is_clock has_clock s legal clock_word
