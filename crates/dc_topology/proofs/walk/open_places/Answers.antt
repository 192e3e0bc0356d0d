use Rattle.std.proofs.Common.{◌++◌, sym, ap, ◌∙◌}
use Rattle.std.specs.Prelude.{reverse}
use Rattle.std.proofs.lemmas.List.{append_assoc}
use Rattle.cable_tree.specs.declared.port.Port.TheVariants.{P1, P2, P3}
use Rattle.dc_topology.specs.Listed.{place_at, places}
use Rattle.dc_topology.proofs.walk.open_places.Goals as goal

pub returns-clause-is : goal.returns-clause-is
unfolding places
returns-clause-is c =
    let third = place_at c.args.position c.args.status P3 in
    let first = place_at c.args.position c.args.status P1 in
    let second = place_at c.args.position c.args.status P2 in
    let old = reverse c.args.free.now.items in
    c.open_place-3.ensures.is ∙ ap (λ x. third ++ x) (c.open_place-2.ensures.is ∙ ap (λ x. first ++ x) c.open_place.ensures.is)
    ∙ sym (append_assoc (third ++ first) second old ∙ append_assoc third first (second ++ old))
