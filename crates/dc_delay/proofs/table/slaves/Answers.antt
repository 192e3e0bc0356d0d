use Rattle.std.proofs.Common.{length, arith, sym, ap, ◌∙◌, ◌++◌, [], ◌∷◌}
use Rattle.std.proofs.lemmas.List.FromFn.{length-map-range_with_len, map-range_with_len_more}
use Rattle.dc_delay.specs.Table.{told}
use Rattle.dc_delay.proofs.Gathered.{gathered}
use Rattle.dc_delay.proofs.table.slaves.Goals as goal

pub push-requires : goal.push-requires
push-requires c =
    let many = ap length c.loop-position.invariant ∙ length-map-range_with_len (told c.args.shape.now c.args.kinds.now c.args.latches.now) 0 c.loop-position.position in
    omega (arith, many, c.len-position-end.ensures.few)

pub loop-position-preserved : goal.loop-position-preserved
loop-position-preserved c =
    let f = told c.args.shape.now c.args.kinds.now c.args.latches.now in
    let k = c.loop-position.position in
    c.push.ensures.items ∙ ap (λ s. c.loop-position.slaves.items ++ (s ∷ [])) c.told.ensures ∙ ap (λ xs. xs ++ (f k ∷ [])) c.loop-position.invariant ∙ sym (map-range_with_len_more f 0 k k (omega arith))

pub returns-clause-whole : goal.returns-clause-whole
returns-clause-whole c =
    (gathered c.args.shape.now c.args.kinds.now c.args.latches.now c.loop-position.slaves.items c.loop-position.position c.requires.kinds c.requires.latches (omega (arith, c.len-position-end.ensures)) (omega (arith, c.len-position-end.ensures)) c.loop-position.invariant).2

pub returns-clause-table : goal.returns-clause-table
returns-clause-table c =
    (gathered c.args.shape.now c.args.kinds.now c.args.latches.now c.loop-position.slaves.items c.loop-position.position c.requires.kinds c.requires.latches (omega (arith, c.len-position-end.ensures)) (omega (arith, c.len-position-end.ensures)) c.loop-position.invariant).1

pub returns-clause-is : goal.returns-clause-is
returns-clause-is c =
    (gathered c.args.shape.now c.args.kinds.now c.args.latches.now c.loop-position.slaves.items c.loop-position.position c.requires.kinds c.requires.latches (omega (arith, c.len-position-end.ensures)) (omega (arith, c.len-position-end.ensures)) c.loop-position.invariant).0
