use Rattle.std.proofs.Common.{◌≡◌, ◌∙◌, List, ℕ, Ok, Err, length, ap}
use Rattle.std.proofs.lemmas.List.{length-map}
use Rattle.master_frames.proofs.Judging.{if_err, listed, listed_length, on_ok, unlisted}
use Rattle.master_frames.proofs.judgement.tree.Goals as goal
use Rattle.master_script.specs.Slaves.{SlaveWords, tree_told}
use Rattle.master_script.proofs.Exported.{tree_listed}

pub returns-clause-ok : goal.returns-clause-ok
returns-clause-ok c =
    let e = c.deref.ensures.0 ∙ c.statuses.ensures in
    let t = c.topology.ensures in
    on_ok (tree_told c.args.slaves.now ≡ Ok c.topology.new.out) c.topology.result
    (λ r. rw e at (listed c.deref.result.now c.topology.new.out c.topology.result t.only t.exactly r))

pub returns-clause-whole : goal.returns-clause-whole
returns-clause-whole c =
    let e = c.deref.ensures.0 ∙ c.statuses.ensures in
    let t = c.topology.ensures in
    let ss = c.args.slaves.now in
    on_ok (length c.topology.new.out ≡ length ss) c.topology.result
    (λ r. listed_length c.deref.result.now c.topology.new.out (tree_listed c.deref.result.now c.topology.new.out (listed c.deref.result.now c.topology.new.out c.topology.result t.only t.exactly r))
    ∙ ap (λ (xs : List ℕ). length xs) e ∙ length-map ss (λ (s : SlaveWords). s.status))

pub returns-clause-refused : goal.returns-clause-refused
returns-clause-refused c =
    let e = c.deref.ensures.0 ∙ c.statuses.ensures in
    let t = c.topology.ensures in
    if_err (λ x. tree_told c.args.slaves.now ≡ Err x) c.topology.result
    (λ x r. rw e at (unlisted c.deref.result.now c.topology.new.out c.topology.result t.only t.exactly x r))
