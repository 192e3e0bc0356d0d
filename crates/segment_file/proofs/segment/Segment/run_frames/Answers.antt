use Rattle.std.proofs.Common.{◌≤◌, arith, sym, subst, ap, ◌∙◌}
use Rattle.segment_file.specs.Counted.{IsCounted}
use Rattle.segment_file.specs.Faults.{frames_of_run}
use Rattle.segment_file.specs.InsideSegment.{value_of}
use Rattle.segment_file.proofs.LegalLemmas.{legal_counts, some_clock, few_in_run}
use Rattle.segment_file.proofs.segment.Segment.run_frames.Goals as goal

pub frames_of_run-requires-clause-counts : goal.frames_of_run-requires-clause-counts
frames_of_run-requires-clause-counts c = subst IsCounted (sym c.self.invariant.counts) (legal_counts (value_of c.self.inside) c.self.invariant.legal)

pub frames_of_run-requires-clause-some : goal.frames_of_run-requires-clause-some
frames_of_run-requires-clause-some c = subst (λ n. 1 ≤ n.clocks) (sym c.self.invariant.counts) (some_clock _ _ c.self.invariant.reference)

pub overflow_cast-result : goal.overflow_cast-result
overflow_cast-result c =
    let is = c.frames_of_run.ensures ∙ ap (frames_of_run (value_of c.self.inside).head) c.self.invariant.counts in
    let few : c.frames_of_run.result ≤ 100000 = subst (λ n. n ≤ 100000) (sym is) (few_in_run (value_of c.self.inside) c.self.invariant.legal) in
    omega arith

pub returns-clause-is : goal.returns-clause-is
returns-clause-is c = rw (← c.self.view_is) (c.frames_of_run.ensures ∙ ap (frames_of_run (value_of c.self.inside).head) c.self.invariant.counts)

pub returns-clause-few : goal.returns-clause-few
returns-clause-few c =
    let is = c.frames_of_run.ensures ∙ ap (frames_of_run (value_of c.self.inside).head) c.self.invariant.counts in
    subst (λ n. n ≤ 100000) (sym is) (few_in_run (value_of c.self.inside) c.self.invariant.legal)
