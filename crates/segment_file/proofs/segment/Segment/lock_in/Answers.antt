use Rattle.std.proofs.Common.{◌≤◌, arith, sym, subst, ap, ◌∙◌}
use Rattle.segment_file.specs.Counted.{IsCounted}
use Rattle.segment_file.specs.Faults.{lock_in}
use Rattle.segment_file.specs.InsideSegment.{value_of}
use Rattle.segment_file.proofs.LegalLemmas.{legal_counts, legal_step, some_clock, few_to_lock}
use Rattle.segment_file.proofs.segment.Segment.lock_in.Goals as goal

pub lock_in-requires-clause-counts : goal.lock_in-requires-clause-counts
lock_in-requires-clause-counts c = subst IsCounted (sym c.self.invariant.counts) (legal_counts (value_of c.self.inside) c.self.invariant.legal)

pub lock_in-requires-clause-some : goal.lock_in-requires-clause-some
lock_in-requires-clause-some c = subst (λ n. 1 ≤ n.clocks) (sym c.self.invariant.counts) (some_clock _ _ c.self.invariant.reference)

pub lock_in-requires-clause-step : goal.lock_in-requires-clause-step
lock_in-requires-clause-step c = legal_step (value_of c.self.inside) c.self.invariant.legal

pub overflow_cast-result : goal.overflow_cast-result
overflow_cast-result c =
    let is = c.lock_in.ensures ∙ ap (lock_in (value_of c.self.inside).head) c.self.invariant.counts in
    let few : c.lock_in.result ≤ 100000 = subst (λ n. n ≤ 100000) (sym is) (few_to_lock (value_of c.self.inside) c.self.invariant.legal) in
    omega arith

pub returns-clause-is : goal.returns-clause-is
returns-clause-is c = rw (← c.self.view_is) (c.lock_in.ensures ∙ ap (lock_in (value_of c.self.inside).head) c.self.invariant.counts)

pub returns-clause-few : goal.returns-clause-few
returns-clause-few c =
    let is = c.lock_in.ensures ∙ ap (lock_in (value_of c.self.inside).head) c.self.invariant.counts in
    subst (λ n. n ≤ 100000) (sym is) (few_to_lock (value_of c.self.inside) c.self.invariant.legal)
