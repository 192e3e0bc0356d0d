-- The edges line: how many edges there are, how far two of one index on two different slaves are apart at
-- most, their shifts taken off, and how far they may be.
use Rattle.std.specs.Prelude.{ℕ, List, [], ◌∷◌, ◌++◌, codes, decimal}

-- `edges E spread_fs S window_fs W`
unfoldable pub edges_line : ℕ → ℕ → ℕ → List ℕ
edges_line edges spread window =
    codes "edges " ++ (decimal edges ++ (codes " spread_fs " ++ (decimal spread ++ (codes " window_fs " ++ (decimal window ++ 10 ∷ [])))))
