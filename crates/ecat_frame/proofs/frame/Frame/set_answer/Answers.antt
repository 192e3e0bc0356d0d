use Rattle.std.proofs.Common.{ap, ◌∙◌}
use Rattle.ecat_frame.specs.Changed.{changed}
use Rattle.ecat_frame.specs.FrameGrammar.{DatagramValue}
use Rattle.ecat_frame.proofs.Changes.{changed-changed}
use Rattle.ecat_frame.proofs.frame.Frame.set_answer.Goals as goal

pub returns-clause-changed : goal.returns-clause-changed
returns-clause-changed c =
    let k = c.args.k in
    let payload : DatagramValue → DatagramValue = λ d. record d { payload = c.args.payload.now } in
    let adp : DatagramValue → DatagramValue = λ d. record d { head = record d.head { adp = c.args.adp } } in
    let wkc : DatagramValue → DatagramValue = λ d. record d { wkc = c.args.wkc } in
    c.set_wkc.ensures.changed
    ∙ ap (changed k wkc) (c.set_adp.ensures.changed ∙ ap (changed k adp) c.set_payload.ensures.changed ∙ changed-changed k adp payload c.args.self.now)
    ∙ changed-changed k wkc (λ d. adp (payload d)) c.args.self.now
