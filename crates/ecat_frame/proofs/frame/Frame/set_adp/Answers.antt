use Rattle.std.proofs.Common.{refl, arith, length, ap, ◌∙◌}
use Rattle.ecat_frame.specs.Changed.{changed}
use Rattle.ecat_frame.specs.FrameGrammar.{FrameValue}
use Rattle.ecat_frame.proofs.Changes.{length-modify}
use Rattle.ecat_frame.proofs.Kept.{Keeps, keeps_value, keeps_changed, kept_from, value_of-kept}
use Rattle.ecat_frame.proofs.Writes.{writes_adp}
use Rattle.ecat_frame.proofs.frame.Frame.set_adp.Goals as goal
use Rattle.ecat_frame.proofs.frame.Frame.set_adp.Goals.{After-write_word}

keeps : (c : After-write_word) → Keeps (record { bytes = c.write_word.new.bytes; len = c.self.inside.len; count = c.self.inside.count }) (changed c.args.k (λ d. record d { head = record d.head { adp = c.args.adp } }) c.args.self.now)
keeps c =
    let b = c.place-at.ensures in
    keeps_changed c.self.inside c.args.self.now c.args.k c.place-at.result 2 _ _ _ _ (keeps_value c.self.inside c.args.self.now c.self.invariant c.self.view_is) b (writes_adp c.args.adp b.datagram (omega arith) b.valid) refl c.write_word.ensures

pub invariant_of-self : goal.invariant_of-self
invariant_of-self c = kept_from _ _ (keeps c)

pub returns-clause-changed : goal.returns-clause-changed
returns-clause-changed c = value_of-kept _ _ (keeps c)

pub returns-clause-count : goal.returns-clause-count
returns-clause-count c = ap (λ (f : FrameValue). length f.datagrams) (value_of-kept _ _ (keeps c)) ∙ length-modify c.args.k _ c.args.self.now.datagrams
