use Rattle.std.proofs.Common.{rules, ◌≡◌, suc, ◌+◌, [], length, arith, sym, ap, ◌∙◌, refl}
use Rattle.std.specs.Prelude.{reverse}
use Rattle.dc_topology.proofs.Steps.{no_items, some_items, surplus, bad_status, missing, one_more, all_listed, last_first, some_free, reversed_some, moved}
use Rattle.dc_topology.proofs.walk.walk.Goals as goal

pub returns-in_default-clause-refused : goal.returns-in_default-clause-refused
returns-in_default-clause-refused c =
    let empty : c.loop-position.free.items ≡ [] = search rules in
    let hung = c.loop-position.out-inside.places.items in
    surplus c.args.statuses.now c.loop-position.position hung
    (moved c.args.statuses.now _ _ _ _ hung hung refl (ap reverse empty) refl c.loop-position.invariant.pass) c.loop-position-test.true

pub returns-then-not-is_formed-clause-refused : goal.returns-then-not-is_formed-clause-refused
returns-then-not-is_formed-clause-refused c =
    let hung = c.loop-position.out-inside.places.items in
    let turned = last_first c.pop.new.self.items c.in-Some.place c.loop-position.free.items c.in-Some.ensures.items in
    bad_status c.args.statuses.now c.loop-position.position c.in-Some.place (reverse c.pop.new.self.items) hung
    (moved c.args.statuses.now _ _ _ _ hung hung refl turned refl c.loop-position.invariant.pass) c.loop-position-test.true (sym c.is_formed.ensures ∙ c.if-not-is_formed.true)

pub loop-position-preserved : goal.loop-position-preserved
loop-position-preserved c =
    let ss = c.args.statuses.now in
    let k = c.loop-position.position in
    let hung = c.loop-position.out-inside.places.items in
    let turned = last_first c.pop.new.self.items c.in-Some.place c.loop-position.free.items c.in-Some.ensures.items in
    let pass = moved ss _ _ _ _ hung hung refl turned refl c.loop-position.invariant.pass in
    let next = one_more ss k c.in-Some.place (reverse c.pop.new.self.items) hung pass c.loop-position-test.true (sym c.is_formed.ensures ∙ c.if-not-is_formed.false) in
    record {
      pass = moved ss (suc k) (k + 1) _ _ _ _ (omega arith) (sym c.open_places.ensures.is) (sym c.push-in-loop-position.ensures.items) next;
      placed = search rules;
      few = search rules;
    }

pub returns-then-is_empty-clause-ok : goal.returns-then-is_empty-clause-ok
returns-then-is_empty-clause-ok c =
    let empty : c.loop-position.free.items ≡ [] = no_items c.loop-position.free.items (sym c.is_empty.ensures ∙ c.if-is_empty.true) in
    let hung = c.loop-position.out-inside.places.items in
    let end : c.loop-position.position ≡ length c.args.statuses.now = omega arith in
    all_listed c.args.statuses.now hung (moved c.args.statuses.now _ _ _ _ hung hung end (ap reverse empty) refl c.loop-position.invariant.pass)

pub returns-else-is_empty-clause-refused : goal.returns-else-is_empty-clause-refused
returns-else-is_empty-clause-refused c =
    let some : ¬ (c.loop-position.free.items ≡ []) = some_items c.loop-position.free.items (sym c.is_empty.ensures ∙ c.if-is_empty.false) in
    let hung = c.loop-position.out-inside.places.items in
    let end : c.loop-position.position ≡ length c.args.statuses.now = omega arith in
    let f = some_free (reverse c.loop-position.free.items) (reversed_some c.loop-position.free.items some) in
    missing c.args.statuses.now f.0 f.1 hung (moved c.args.statuses.now _ _ _ _ hung hung end f.2 refl c.loop-position.invariant.pass)
