-- Readings that stop at the first fault, and the path that a fault has.
use Rattle.std.specs.Prelude.{ℕ, List, [], ◌∷◌, ◌++◌, codes, decimal, Result, Ok, Err}

-- What is read of a value, or the path from that value to its first fault.
abbrev pub Reading : Type 0 → Type 0
Reading A = Result A (List ℕ)

-- one reading after another, up to the first fault
infixl 10 ◌>>=◌
abbrev pub ◌>>=◌ : {A B : Type 0} → Reading A → (A → Reading B) → Reading B
(Ok x) >>= f = f x
(Err path) >>= f = Err path

-- an element of the array at a key, as `slaves[3]`
unfoldable pub element : List ℕ → ℕ → List ℕ
element name i = name ++ codes "[" ++ decimal i ++ codes "]"

-- a path of a value inside, put behind a dot; the value itself has the empty path
unfoldable pub dotted : List ℕ → List ℕ
dotted [] = []
dotted (b ∷ path) = codes "." ++ b ∷ path

-- the reading of an element, its fault seen from outside the array
abbrev pub within_element : {A : Type 0} → List ℕ → ℕ → Reading A → Reading A
within_element name i (Ok x) = Ok x
within_element name i (Err path) = Err (element name i ++ dotted path)

-- the path of the whole file
abbrev pub root : List ℕ
root = codes "$"
