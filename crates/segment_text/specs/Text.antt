-- The compact text of a JSON object, entry by entry. Keys, ids and names of kinds need no escapes.
use Rattle.std.specs.Prelude.{ℕ, Bool, List, [], ◌∷◌, ◌++◌, Option, Some, None, flat_map}
use Rattle.std.specs.List.{list_all}
use Rattle.json.specs.Print.{quoted}
use Rattle.serde_json.specs.Data.{Data}
use Rattle.serde_json.specs.Written.{compact_text}
use Rattle.segment_shape.specs.Values.{is_id_byte}
use Rattle.segment_shape.specs.Written.{Entry}

-- letters, digits, `_` and `-` alone
abbrev pub is_plain : List ℕ → Bool
is_plain text = list_all is_id_byte text

-- a key and its value
abbrev pub member_text : List ℕ → Data → List ℕ
member_text key d = quoted key ++ 58 ∷ compact_text d

-- an object up to its first value
unfoldable pub opened : List ℕ → Data → List ℕ
opened key d = 123 ∷ member_text key d

abbrev pub value_text : List ℕ → Option Data → List ℕ
value_text key None = []
value_text key (Some d) = 44 ∷ member_text key d

-- an entry behind another one; nothing where its key is absent
unfoldable pub entry_text : Entry → List ℕ
entry_text e = value_text e.key e.value

abbrev pub entries_text : List Entry → List ℕ
entries_text es = flat_map entry_text es
