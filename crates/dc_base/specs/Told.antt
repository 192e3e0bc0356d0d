-- What whole reads and writes do to the bytes that an object tells.
use Rattle.std.specs.Prelude.{◌≡◌, ℕ, ◌<◌, List, [], length, take, ⊤, Option, Some, None}
use Rattle.std.specs.Io.KnownBytes.{Appends, Consumes}

-- the bytes taken grow by a front of bs
abbrev pub AppendsFront : Option (List ℕ) → Option (List ℕ) → List ℕ → Type 0
AppendsFront old new bs = (n : ℕ) × Appends old new (take n bs)

-- all that was left has been given, and it is bs
abbrev pub Drained : Option (List ℕ) → Option (List ℕ) → List ℕ → Type 0
Drained None new bs = ⊤
Drained (Some xs) new bs = (xs ≡ bs) × (new ≡ Some [])

-- more than limit bytes were left
abbrev pub HasMore : Option (List ℕ) → ℕ → Type 0
HasMore None limit = ⊤
HasMore (Some xs) limit = limit < length xs

-- bytes were given, the first of those left, and P holds of them
abbrev pub Gave : Option (List ℕ) → Option (List ℕ) → (List ℕ → Type 0) → Type 0
Gave old new P = (bs : List ℕ) × Consumes old new bs × P bs
