use Rattle.std.proofs.Common.{◌≡◌, map, drop}
use Rattle.std.specs.List.{list_any}
use Rattle.std.specs.Str.{bytes_eq}
use Rattle.segment_shape.specs.KeyNames.{name_of}
use Rattle.segment_shape.proofs.known_keys.is_one_of.Given as goal

abbrev pub invariant-loop-known : goal.invariant-loop-known
invariant-loop-known l =
    list_any (bytes_eq l.key) (map name_of (drop l.known-index l.keys)) ≡ list_any (bytes_eq l.key) (map name_of l.keys)
