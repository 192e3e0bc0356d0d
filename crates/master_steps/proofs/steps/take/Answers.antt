use Rattle.ecat_link.proofs.Exported.{serves_weaker}
use Rattle.master_steps.proofs.Causes.{received_causes}
use Rattle.master_steps.specs.ConfigRange.{value_of}
use Rattle.master_steps.specs.Known.{words_of}
use Rattle.master_steps.specs.Asking.{phase_of}
use Rattle.master_steps.proofs.Received.{received, refused_otherwise}
use Rattle.master_steps.proofs.steps.take.Goals as goal

pub returns-in-Some-clause-serves : goal.returns-in-Some-clause-serves
returns-in-Some-clause-serves g c rest =
    let cfg = value_of c.args.config.now in
    let w = words_of c.args.notes.now.learned in
    rw c.receive.ensures.counters
    (serves_weaker g.L.Link.step _ _ _ _ _ _ _ (λ es b. b)
    (λ es b. received cfg (phase_of c.args.step) c.ask.new.counters w (words_of c.receive.new.notes.learned) c.args.step rest c.frame-sent.result c.in-Some.reply c.receive.result es c.receive.ensures.is b)
    (c.in-Some.ensures.serves w rest c.frame-sent.ensures))

pub returns-in-Some-clause-lost : goal.returns-in-Some-clause-lost
returns-in-Some-clause-lost g c q e =
    absurd (refused_otherwise (value_of c.args.config.now) c.ask.new.counters.sent c.args.step q c.frame-sent.result c.in-Some.reply (words_of c.args.notes.now.learned) (words_of c.receive.new.notes.learned) c.receive.result c.receive.ensures.is e)

pub returns-in-None-clause-serves : goal.returns-in-None-clause-serves
returns-in-None-clause-serves g c rest = c.in-None.ensures.serves (words_of c.args.notes.now.learned) rest c.frame-sent.ensures

pub returns-in-Some-clause-caused : goal.returns-in-Some-clause-caused
returns-in-Some-clause-caused g c =
    received_causes (value_of c.args.config.now) c.ask.new.counters.sent c.args.step c.frame-sent.result c.in-Some.reply (words_of c.args.notes.now.learned) (words_of c.receive.new.notes.learned) c.receive.result c.frame-sent.ensures c.receive.ensures.valid c.receive.ensures.is
