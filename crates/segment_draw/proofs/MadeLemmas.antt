-- Each row of a drawn segment is made of some draws and of the rows before it.
use Rattle.std.proofs.Common.{◌≡◌, ◌∙◌, ap, refl, sym, ℕ, zero, suc, ◌+◌, ◌<◌, ◌≤◌, ◌⊎◌, inl, inr, List, [], ◌∷◌, ◌++◌, length, take, get_or, arith}
use Rattle.std.specs.List.{All}
use Rattle.std.proofs.lemmas.Bool.{cases_lt}
use Rattle.std.proofs.lemmas.List.{length-append, get_or_append_left, take-append-le}
use Rattle.std.proofs.lemmas.List.Elements.{All-nil, All-cons, All-head, All-tail}
use Rattle.std.proofs.Math.Seq.{get_or-append_seam, take-append_seam}
use Rattle.segment_file.specs.Segment.{RowValue}
use Rattle.segment_draw.specs.Draws.{Draws, AreLow, next, after, draws_at, draws_from}
use Rattle.segment_draw.specs.Generated.{row_of, rows_from}

pub record IsMade (earlier : List RowValue) (r : RowValue) : Type 0 where
  pub draws : Draws
  pub low : AreLow draws
  pub is : r ≡ row_of earlier draws

abbrev pub AreMade : List RowValue → Type 0
AreMade rows = (k : ℕ) (d : RowValue) → k < length rows → IsMade (take k rows) (get_or rows k d)

made_more : (rows : List RowValue) (d : Draws) → AreMade rows → AreLow d → AreMade (rows ++ row_of rows d ∷ [])
made_more rows d made low = λ k e within. by_place k e within (cases_lt k (length rows))
  where
    by_place : (k : ℕ) (e : RowValue) → k < length (rows ++ row_of rows d ∷ []) → (k < length rows) ⊎ (length rows ≤ k)
        → IsMade (take k (rows ++ row_of rows d ∷ [])) (get_or (rows ++ row_of rows d ∷ []) k e)
    by_place k e within (inl less) =
        let one = made k e less in
        record {
          draws = one.draws;
          low = one.low;
          is = get_or_append_left rows (row_of rows d ∷ []) e k less ∙ one.is ∙ ap (λ (rs : List RowValue). row_of rs one.draws) (sym (take-append-le k rows (row_of rows d ∷ []) (omega arith)));
        }
    by_place k e within (inr more) =
        let last : k ≡ length rows = omega (arith, within, more, length-append rows (row_of rows d ∷ [])) in
        record {
          draws = d;
          low = low;
          is = ap (λ (j : ℕ). get_or (rows ++ row_of rows d ∷ []) j e) last ∙ get_or-append_seam rows (row_of rows d) [] e
              ∙ ap (λ (rs : List RowValue). row_of rs d) (sym (ap (λ (j : ℕ). take j (rows ++ row_of rows d ∷ [])) last ∙ take-append_seam rows (row_of rows d ∷ [])));
        }

pub made_all : (ds : List Draws) (rows : List RowValue) → AreMade rows → All AreLow ds → AreMade (rows_from rows ds)
unfolding rows_from
made_all [] rows made low = made
made_all (d ∷ ds) rows made low = made_all ds (rows ++ row_of rows d ∷ []) (made_more rows d made (All-head AreLow d ds low)) (All-tail AreLow d ds low)

pub made_none : AreMade []
made_none k d within = absurd (omega (arith, within))

pub length_from : (ds : List Draws) (rows : List RowValue) → length (rows_from rows ds) ≡ length rows + length ds
unfolding rows_from
length_from [] rows = omega arith
length_from (d ∷ ds) rows = omega (arith, length_from ds (rows ++ row_of rows d ∷ []), length-append rows (row_of rows d ∷ []))

-- ---- draws

next_low : (x : ℕ) → next x < 2147483647
unfolding next
next_low x = omega arith

after_low : (k x : ℕ) → after (suc k) x < 2147483647
unfolding after
after_low zero x = next_low x
after_low (suc k) x = after_low k (next x)

draws_low : (x : ℕ) → AreLow (draws_at x)
draws_low x = record {
  clockless = after_low 0 x;
  narrow = after_low 1 x;
  tp = after_low 2 x;
  tf = after_low 3 x;
  cable = after_low 4 x;
  branch = after_low 5 x;
  parent = after_low 6 x;
  start_high = after_low 7 x;
  start_low = after_low 8 x;
  period = after_low 9 x;
  phase = after_low 10 x;
  shift = after_low 11 x;
  sync1 = after_low 12 x;
}

pub all_low : (n x : ℕ) → All AreLow (draws_from n x)
unfolding draws_from
all_low zero x = All-nil AreLow
all_low (suc n) x = All-cons AreLow (draws_at x) (draws_from n (after 13 x)) (draws_low x) (all_low n (after 13 x))

pub length_drawn : (n x : ℕ) → length (draws_from n x) ≡ n
unfolding draws_from
length_drawn zero x = refl
length_drawn (suc n) x = omega (arith, length_drawn n (after 13 x))
