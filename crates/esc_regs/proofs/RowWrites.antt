-- A write by the rows of the table, one after the other.
use Rattle.std.proofs.Common.{◌≡◌, ℕ, ◌+◌, ◌-◌, ◌<◌, ◌≤◌, ◌&&◌, ◌||◌, Bool, true, false, List, [], ◌∷◌, length, take, get_or, slice_index, map, refl, sym, ap, ◌∙◌}
use Rattle.std.specs.Prelude.{if◌then◌else◌}
use Rattle.std.specs.List.{list_any}
use Rattle.std.proofs.lemmas.List.{take_all}
use Rattle.std.proofs.lemmas.List.Folds.{list_any_more}
use Rattle.esc_regs.specs.declared.clock_kind.ClockKind.{ClockKind}
use Rattle.esc_regs.specs.declared.table.Writing.{Writing}
use Rattle.esc_regs.specs.RegisterTable.{registers, row_of, held, is_within}
use Rattle.esc_regs.specs.RegisterAccess.{stores, is_writable, Stores}

-- whether a row of the code's table stores the byte at a
abbrev pub row_stores : ClockKind → Bool → ℕ → ℕ × ℕ × Writing → Bool
row_stores kind in_range a r = stores in_range r.2 && is_within a r.0 (held kind r.1)

-- the byte at a after a write, where it is stored or not
abbrev pub byte_by : Bool → ℕ → List ℕ → List ℕ → ℕ → ℕ
byte_by writable addr bytes before a =
    if is_within a addr (length bytes) && writable then slice_index bytes (a - addr) else slice_index before a

-- these rows have stored what they store
pub record StoresBy (rows : List (ℕ × ℕ × Writing)) (kind : ClockKind) (in_range : Bool) (addr : ℕ) (bytes before after : List ℕ) : Type 0 where
  pub size : length after ≡ length before
  pub each : (a : ℕ) → slice_index after a ≡ byte_by (list_any (row_stores kind in_range a) rows) addr bytes before a

any_map : {X Y : Type 0} (p : Y → Bool) (f : X → Y) (xs : List X) → list_any p (map f xs) ≡ list_any (λ x. p (f x)) xs
any_map p f [] = refl
any_map p f (x ∷ xs) = ap (λ b. p (f x) || b) (any_map p f xs)

all_rows : (kind : ClockKind) (in_range : Bool) (a : ℕ) → list_any (row_stores kind in_range a) (map row_of registers) ≡ is_writable kind in_range a
unfolding is_writable
all_rows kind in_range a = any_map (row_stores kind in_range a) row_of registers

pub none_yet : (rows : List (ℕ × ℕ × Writing)) (kind : ClockKind) (in_range : Bool) (addr : ℕ) (bytes before : List ℕ) → StoresBy (take 0 rows) kind in_range addr bytes before before
none_yet rows kind in_range addr bytes before =
    record { size = refl; each = λ a. kept (is_within a addr (length bytes)) (slice_index bytes (a - addr)) (slice_index before a) }
  where
    kept : (b : Bool) (x y : ℕ) → y ≡ (if b && false then x else y)
    kept true x y = refl
    kept false x y = refl

-- one more row
joined : (w s i : Bool) (x y old : ℕ) → y ≡ (if w && s then x else old) → (if w && i then x else y) ≡ (if w && (s || i) then x else old)
joined true true true x y old e = refl
joined true true false x y old e = e
joined true false i x y old e = rw e refl
joined false s i x y old e = e

pub one_more : (rows : List (ℕ × ℕ × Writing)) (i : ℕ) (row : ℕ × ℕ × Writing) (kind : ClockKind) (in_range : Bool) (addr : ℕ) (bytes before mid after : List ℕ)
    → i < length rows → get_or rows i row ≡ row → length after ≡ length mid
    → ((a : ℕ) → slice_index after a ≡ byte_by (row_stores kind in_range a row) addr bytes mid a)
    → StoresBy (take i rows) kind in_range addr bytes before mid → StoresBy (take (i + 1) rows) kind in_range addr bytes before after
one_more rows i row kind in_range addr bytes before mid after inside is size each sofar =
    record {
      size = size ∙ sofar.size;
      each = λ a.
          let p = row_stores kind in_range a in
          let more : list_any p (take (i + 1) rows) ≡ (list_any p (take i rows) || p row) = list_any_more p rows i row inside ∙ ap (λ r. list_any p (take i rows) || p r) is in
          each a
          ∙ joined (is_within a addr (length bytes)) (list_any p (take i rows)) (p row) (slice_index bytes (a - addr)) (slice_index mid a) (slice_index before a) (sofar.each a)
          ∙ ap (λ w. byte_by w addr bytes before a) (sym more);
    }

-- one more row, which stores
pub one_on : (rows : List (ℕ × ℕ × Writing)) (i : ℕ) (row : ℕ × ℕ × Writing) (on : Bool) (m : ℕ) (kind : ClockKind) (in_range : Bool) (addr : ℕ) (bytes before mid after : List ℕ)
    → on ≡ stores in_range row.2 → i < length rows → get_or rows i row ≡ row → on ≡ true → m ≡ held kind row.1 → length after ≡ length mid
    → ((a : ℕ) → slice_index after a ≡ byte_by (is_within a row.0 m) addr bytes mid a)
    → StoresBy (take i rows) kind in_range addr bytes before mid → StoresBy (take (i + 1) rows) kind in_range addr bytes before after
one_on rows i row on m kind in_range addr bytes before mid after by inside is there wide size each sofar =
    one_more rows i row kind in_range addr bytes before mid after inside is size
    (λ a.
    each a ∙ ap (λ w. byte_by (is_within a row.0 w) addr bytes mid a) wide
    ∙ ap (λ s. byte_by (s && is_within a row.0 (held kind row.1)) addr bytes mid a) (sym there ∙ by))
    sofar

-- one more row, which does not
pub one_off : (rows : List (ℕ × ℕ × Writing)) (i : ℕ) (row : ℕ × ℕ × Writing) (on : Bool) (kind : ClockKind) (in_range : Bool) (addr : ℕ) (bytes before mid : List ℕ)
    → on ≡ stores in_range row.2 → i < length rows → get_or rows i row ≡ row → on ≡ false
    → StoresBy (take i rows) kind in_range addr bytes before mid → StoresBy (take (i + 1) rows) kind in_range addr bytes before mid
one_off rows i row on kind in_range addr bytes before mid by inside is off sofar =
    one_more rows i row kind in_range addr bytes before mid mid inside is refl
    (λ a.
    kept (is_within a addr (length bytes)) (slice_index bytes (a - addr)) (slice_index mid a)
    ∙ ap (λ s. byte_by (s && is_within a row.0 (held kind row.1)) addr bytes mid a) (sym off ∙ by))
    sofar
  where
    kept : (b : Bool) (x y : ℕ) → y ≡ (if b && false then x else y)
    kept true x y = refl
    kept false x y = refl

-- all rows of the table
pub by_table : (rows : List (ℕ × ℕ × Writing)) (kind : ClockKind) (in_range : Bool) (addr : ℕ) (bytes before after : List ℕ) (i : ℕ) → rows ≡ map row_of registers → length rows ≤ i
    → StoresBy (take i rows) kind in_range addr bytes before after → Stores kind in_range addr bytes before after
by_table rows kind in_range addr bytes before after i is past stored =
    record {
      size = stored.size;
      each = λ a.
          stored.each a
          ∙ ap (λ w. byte_by w addr bytes before a) (ap (list_any (row_stores kind in_range a)) (take_all i rows past ∙ is) ∙ all_rows kind in_range a);
    }
