use Rattle.std.proofs.Common.{◌+◌, length, ◌∙◌, arith, ap}
use Rattle.ecat_frame.specs.Changed.{changed}
use Rattle.ecat_frame.specs.FrameGrammar.{FrameValue}
use Rattle.ecat_frame.proofs.Changes.{length-modify}
use Rattle.ecat_frame.proofs.Kept.{Keeps, keeps_value, keeps_changed, kept_from, value_of-kept, data_length-there}
use Rattle.ecat_frame.proofs.Writes.{writes_wkc}
use Rattle.ecat_frame.proofs.frame.Frame.set_wkc.Goals as goal
use Rattle.ecat_frame.proofs.frame.Frame.set_wkc.Goals.{After-write_word}

pub write_word-requires : goal.write_word-requires
write_word-requires c =
    let w = keeps_value c.self.inside c.args.self.now c.self.invariant c.self.view_is in
    omega (arith, data_length-there c.self.inside c.args.self.now c.args.k c.place-at.result w c.place-at.ensures, c.place-at.ensures.within, c.self.told)

keeps : (c : After-write_word) → Keeps (record { bytes = c.write_word.new.bytes; len = c.self.inside.len; count = c.self.inside.count }) (changed c.args.k (λ d. record d { wkc = c.args.wkc }) c.args.self.now)
keeps c =
    let b = c.place-at.ensures in
    let w = keeps_value c.self.inside c.args.self.now c.self.invariant c.self.view_is in
    keeps_changed c.self.inside c.args.self.now c.args.k c.place-at.result (10 + length b.datagram.payload) _ _ _ _ w b (writes_wkc c.args.wkc b.datagram (omega arith) b.valid)
    (omega (arith, data_length-there c.self.inside c.args.self.now c.args.k c.place-at.result w b)) c.write_word.ensures

pub invariant_of-self : goal.invariant_of-self
invariant_of-self c = kept_from _ _ (keeps c)

pub returns-clause-changed : goal.returns-clause-changed
returns-clause-changed c = value_of-kept _ _ (keeps c)

pub returns-clause-count : goal.returns-clause-count
returns-clause-count c = ap (λ (f : FrameValue). length f.datagrams) (value_of-kept _ _ (keeps c)) ∙ length-modify c.args.k _ c.args.self.now.datagrams
