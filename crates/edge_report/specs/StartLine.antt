-- The start line: when cycle 0 begins, before shifts, in ns of system time.
use Rattle.std.specs.Prelude.{ℕ, List, [], ◌∷◌, ◌++◌, codes, decimal}

-- `start S`
unfoldable pub start_line : ℕ → List ℕ
start_line start = codes "start " ++ (decimal start ++ 10 ∷ [])
