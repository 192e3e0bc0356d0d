-- The frames line: how many frames were sent, and how many of them were lost.
use Rattle.std.specs.Prelude.{ℕ, List, [], ◌∷◌, ◌++◌, codes, decimal}

-- `frames T lost L`
unfoldable pub frames_line : ℕ → ℕ → List ℕ
frames_line sent lost = codes "frames " ++ (decimal sent ++ (codes " lost " ++ (decimal lost ++ 10 ∷ [])))
