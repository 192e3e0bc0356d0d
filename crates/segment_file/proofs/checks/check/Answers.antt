use Rattle.std.proofs.Common.{◌≤◌, sym, subst}
use Rattle.segment_file.proofs.LegalLemmas.{some_clock}
use Rattle.segment_file.proofs.checks.check.Goals as goal

pub check_frames-requires-clause-some : goal.check_frames-requires-clause-some
check_frames-requires-clause-some c = subst (λ n. 1 ≤ n.clocks) (sym c.counts_of-counts.ensures.is) (some_clock _ _ c.in_ok-reference.ensures.reference)
