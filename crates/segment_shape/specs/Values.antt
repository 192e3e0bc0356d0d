-- What a JSON value has at a key. A null is there, and of a wrong type.
use Rattle.std.specs.Prelude.{ℕ, ◌&&◌, ◌||◌, ◌==◌, nat_le, Bool, true, false, List, length, Option, Some, None, Ok, Err, option_and_then, option_map, if◌then◌else◌}
use Rattle.std.specs.List.{list_all}
use Rattle.std.specs.Char.{is_ascii_alphanumeric}
use Rattle.serde_json.specs.Data.{Data, Items, no_items, Members}
use Rattle.serde_json.specs.Events.{items_len}
use Rattle.serde_json.specs.Find.{get, as_number, as_u64, as_str, as_array, as_object}
use Rattle.segment_shape.specs.Paths.{Reading}

-- what there is, or a fault at this path
abbrev pub or_fault : {A : Type 0} → List ℕ → Option A → Reading A
or_fault path None = Err path
or_fault path (Some x) = Ok x

-- a number within bounds
abbrev pub within : ℕ → ℕ → ℕ → Option ℕ
within low high n = if nat_le low n && nat_le n high then Some n else None

-- the unsigned whole number that a value is, where it lies within bounds
abbrev pub number_of : ℕ → ℕ → Data → Option ℕ
number_of low high d = option_and_then (within low high) (option_and_then as_u64 (as_number d))

-- a number that has to stand at a key
abbrev pub number_at : List ℕ → ℕ → ℕ → Data → Reading ℕ
number_at key low high d = or_fault key (option_and_then (number_of low high) (get key d))

abbrev pub may_be : {A : Type 0} → List ℕ → (Data → Option A) → Option Data → Reading (Option A)
may_be key read None = Ok None
may_be key read (Some d) = or_fault key (option_map Some (read d))

-- a number that may stand at a key
abbrev pub number_if_any : List ℕ → ℕ → ℕ → Data → Reading (Option ℕ)
number_if_any key low high d = may_be key (number_of low high) (get key d)

abbrev pub must_lack : {A : Type 0} → List ℕ → A → Option Data → Reading A
must_lack key x None = Ok x
must_lack key x (Some d) = Err key

-- x, where nothing stands at a key
abbrev pub lacking : {A : Type 0} → List ℕ → A → Data → Reading A
lacking key x d = must_lack key x (get key d)

-- a number that stands at a key exactly where it belongs there; else it is 0
abbrev pub number_where : Bool → List ℕ → ℕ → ℕ → Data → Reading ℕ
number_where true key low high d = number_at key low high d
number_where false key low high d = lacking key 0 d

-- a number that may stand at a key where it belongs there
abbrev pub option_where : Bool → List ℕ → ℕ → ℕ → Data → Reading (Option ℕ)
option_where true key low high d = number_if_any key low high d
option_where false key low high d = lacking key None d

-- letters, digits, `_` and `-`
abbrev pub is_id_byte : ℕ → Bool
is_id_byte b = is_ascii_alphanumeric b || b == 95 || b == 45

-- a text of 1 to 16 such bytes
abbrev pub is_id : List ℕ → Bool
is_id text = nat_le 1 (length text) && nat_le (length text) 16 && list_all is_id_byte text

abbrev pub id_text : List ℕ → Option (List ℕ)
id_text text = if is_id text then Some text else None

-- the id that a value is
abbrev pub id_of : Data → Option (List ℕ)
id_of d = option_and_then id_text (as_str d)

-- an id that has to stand at a key
abbrev pub id_at : List ℕ → Data → Reading (List ℕ)
id_at key d = or_fault key (option_and_then id_of (get key d))

abbrev pub few_items : ℕ → Items → Option Items
few_items most ds = if nat_le (items_len ds) most then Some ds else None

-- the elements of the array that a value is, where they are not too many
abbrev pub items_of : ℕ → Data → Option Items
items_of most d = option_and_then (few_items most) (as_array d)

-- an array that has to stand at a key
abbrev pub items_at : List ℕ → ℕ → Data → Reading Items
items_at key most d = or_fault key (option_and_then (items_of most) (get key d))

abbrev pub or_empty : Option Data → ℕ → Option Items
or_empty None most = Some no_items
or_empty (Some d) most = items_of most d

-- an array that may stand at a key, and is empty where nothing does
abbrev pub items_if_any : List ℕ → ℕ → Data → Reading Items
items_if_any key most d = or_fault key (or_empty (get key d) most)

-- the members of the object that a value is
abbrev pub members_at : List ℕ → Data → Reading Members
members_at path d = or_fault path (as_object d)
