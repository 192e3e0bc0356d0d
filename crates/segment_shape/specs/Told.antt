-- What each refusal says of the bytes of a file.
use Rattle.std.specs.Prelude.{◌≡◌, ℕ, List, Some, None, Result, Ok, Err, IsUtf8}
use Rattle.serde_json.specs.Data.{Data}
use Rattle.serde_json.specs.Read.{read}
use Rattle.segment_shape.specs.Paths.{Reading}
use Rattle.segment_shape.specs.ShapeOf.{ShapeValue, Refusal, bad_shape, id_twice, file_of}
use Rattle.segment_shape.specs.declared.shape_error.ShapeError.{ShapeError}
use Rattle.segment_shape.specs.declared.shape_error.ShapeError.TheVariants.{BadText, Shape, Twice, NoMemory}

-- the error is a fault of the shape at this path
abbrev pub IsAt : List ℕ → ShapeError → Type 0
IsAt path BadText = ⊥
IsAt path (Shape found) = found.bytes ≡ path
IsAt path (Twice id) = ⊥
IsAt path NoMemory = ⊥

-- the error is the fault that a reading found, or memory was refused
abbrev pub IsFault : {A : Type 0} → Reading A → ShapeError → Type 0
IsFault reading BadText = ⊥
IsFault reading (Shape path) = reading ≡ Err path.bytes
IsFault reading (Twice id) = ⊥
IsFault reading NoMemory = Unit {0}

-- the error is the refusal of a file, or memory was refused
abbrev pub IsRefusal : Result ShapeValue Refusal → ShapeError → Type 0
IsRefusal file BadText = ⊥
IsRefusal file (Shape path) = file ≡ Err (bad_shape path.bytes)
IsRefusal file (Twice id) = file ≡ Err (id_twice id.bytes)
IsRefusal file NoMemory = Unit {0}

-- the bytes are the text of a JSON value
abbrev pub IsText : List ℕ → Data → Type 0
IsText bytes d = IsUtf8 bytes × (read bytes ≡ Some d)

-- the bytes are the text of a file with this shape
abbrev pub IsShape : List ℕ → ShapeValue → Type 0
IsShape bytes s = (d : Data) × IsText bytes d × (file_of d ≡ Ok s)

-- what an error says of the bytes
abbrev pub IsTold : List ℕ → ShapeError → Type 0
IsTold bytes BadText = IsUtf8 bytes → read bytes ≡ None
IsTold bytes (Shape path) = (d : Data) × IsText bytes d × (file_of d ≡ Err (bad_shape path.bytes))
IsTold bytes (Twice id) = (d : Data) × IsText bytes d × (file_of d ≡ Err (id_twice id.bytes))
IsTold bytes NoMemory = Unit {0}
