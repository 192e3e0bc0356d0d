use Rattle.edge_law.proofs.EndOfRun.{edge_of_run}
use Rattle.edge_law.proofs.laws.edges_are_raised.Goals as goal

pub returns : goal.returns
returns c = λ s first before run p k v m signal it settled_is run_is ok there has is signals early.
    let h = edge_of_run s first before run it settled_is run_is ok p is v there m has signal signals k early in
    (h.frame, h.instant, h.behind, h.raised)
