use Rattle.std.proofs.Common.{length, arith, sym, ap, ◌∙◌, ◌++◌, [], ◌∷◌}
use Rattle.std.proofs.lemmas.List.FromFn.{length-map-range_with_len, map-range_with_len_more}
use Rattle.dc_delay.specs.Latched.{measures}
use Rattle.dc_delay.proofs.Gathered.{flags_gathered, flags_whole}
use Rattle.dc_delay.proofs.table.measuring.Goals as goal

pub push-requires : goal.push-requires
push-requires c =
    let many = ap length c.loop-position.invariant ∙ length-map-range_with_len (measures c.args.latches.now) 0 c.loop-position.position in
    omega (arith, many, c.loop-position-test.true, c.requires)

pub loop-position-preserved : goal.loop-position-preserved
loop-position-preserved c =
    let f = measures c.args.latches.now in
    let k = c.loop-position.position in
    c.push.ensures.items ∙ ap (λ b. c.loop-position.measuring.items ++ (b ∷ [])) c.measures.ensures ∙ ap (λ xs. xs ++ (f k ∷ [])) c.loop-position.invariant ∙ sym (map-range_with_len_more f 0 k k (omega arith))

pub returns-clause-whole : goal.returns-clause-whole
returns-clause-whole c =
    flags_whole c.args.latches.now c.loop-position.measuring.items c.loop-position.position (omega (arith, c.loop-position-test.false)) (omega (arith, c.loop-position-test.false)) c.loop-position.invariant

pub returns-clause-is : goal.returns-clause-is
returns-clause-is c =
    flags_gathered c.args.latches.now c.loop-position.measuring.items c.loop-position.position (omega (arith, c.loop-position-test.false)) (omega (arith, c.loop-position-test.false)) c.loop-position.invariant
