-- Ids that stand twice.
use Rattle.std.specs.Prelude.{ℕ, List, [], ◌∷◌, ◌++◌, Option, Some, None, if◌then◌else◌}
use Rattle.std.specs.List.{list_any}
use Rattle.std.specs.Str.{bytes_eq}

-- the first of the ids that one before it, or one of the earlier ones, equals
unfoldable pub first_again : List (List ℕ) → List (List ℕ) → Option (List ℕ)
first_again earlier [] = None
first_again earlier (id ∷ ids) = if list_any (bytes_eq id) earlier then Some id else first_again (earlier ++ id ∷ []) ids
