-- The keys that an object may have.
use Rattle.std.specs.Prelude.{ℕ, ◌&&◌, Bool, true, List, [], ◌∷◌, codes, Ok, Err, if◌then◌else◌}
use Rattle.std.specs.List.{list_any}
use Rattle.std.specs.Str.{bytes_eq}
use Rattle.serde_json.specs.Data.{Members, no_members, member}
use Rattle.segment_shape.specs.Paths.{Reading}

-- each key of the members is one of these
unfoldable pub are_among : List (List ℕ) → Members → Bool
are_among keys no_members = true
are_among keys (member k d ms) = list_any (bytes_eq k) keys && are_among keys ms

-- x, where no other key stands; else a fault of the object as a whole
abbrev pub only : {A : Type 0} → List ℕ → List (List ℕ) → Members → A → Reading A
only path keys ms x = if are_among keys ms then Ok x else Err path

unfoldable pub head_keys : List (List ℕ)
head_keys =
    codes "version" ∷ codes "ppm" ∷ codes "frame_ns" ∷ codes "speed" ∷ codes "loss_run"
    ∷ codes "epoch_ns" ∷ codes "cycle_ns" ∷ codes "cycles" ∷ codes "slaves" ∷ codes "losses" ∷ []

-- the keys of a slave row, the last where its period may change
unfoldable pub slave_keys : Bool → List (List ℕ)
slave_keys changes =
    codes "id" ∷ codes "clock" ∷ codes "tp_ns" ∷ codes "tf_ns" ∷ codes "cable_ps" ∷ codes "parent"
    ∷ codes "port" ∷ codes "start" ∷ codes "phase_fs" ∷ codes "period_fs" ∷ codes "shift_ns"
    ∷ codes "sync1_ns" ∷ (if changes then codes "rates" ∷ [] else [])

unfoldable pub rate_keys : List (List ℕ)
rate_keys = codes "tick" ∷ codes "period_fs" ∷ []

unfoldable pub loss_keys : List (List ℕ)
loss_keys = codes "phase" ∷ codes "number" ∷ codes "after" ∷ []
