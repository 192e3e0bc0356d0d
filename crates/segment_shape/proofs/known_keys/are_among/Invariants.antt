use Rattle.std.proofs.Common.{◌≡◌, map}
use Rattle.serde_json.specs.View.{members_view}
use Rattle.segment_shape.specs.KeyNames.{name_of}
use Rattle.segment_shape.specs.Keys.{are_among}
use Rattle.segment_shape.proofs.known_keys.are_among.Given as goal

abbrev pub invariant-loop-key : goal.invariant-loop-key
invariant-loop-key l =
    are_among (map name_of l.keys) (members_view l.key-iterator) ≡ are_among (map name_of l.keys) (members_view l.members.entries)
