use Rattle.master_steps.specs.ConfigRange.{value_of}
use Rattle.master_steps.specs.Known.{words_of}
use Rattle.dc_master.proofs.Calls.{fresh_stands}
use Rattle.dc_master.proofs.master.Master.stage.Goals as goal

pub returns-clause-fresh : goal.returns-clause-fresh
returns-clause-fresh c =
    let a = c.self.inside in
    rw (← c.self.view_is)
    (fresh_stands (value_of a.config) a.stage a.refusal a.notes.counters (words_of a.notes.learned) a.notes.delays.items c.self.invariant.stage)
