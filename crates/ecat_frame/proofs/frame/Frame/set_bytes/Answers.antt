use Rattle.std.proofs.Common.{◌+◌, length, arith, ap, ◌∙◌}
use Rattle.ecat_frame.specs.Changed.{changed, put}
use Rattle.ecat_frame.specs.FrameGrammar.{FrameValue}
use Rattle.ecat_frame.proofs.Changes.{length-modify}
use Rattle.ecat_frame.proofs.Kept.{Keeps, keeps_value, keeps_changed, kept_from, value_of-kept}
use Rattle.ecat_frame.proofs.Writes.{bytes_known, writes_bytes}
use Rattle.ecat_frame.proofs.frame.Frame.set_bytes.Goals as goal
use Rattle.ecat_frame.proofs.frame.Frame.set_bytes.Goals.{After-write_part}

pub write_part-requires : goal.write_part-requires
write_part-requires c =
    let inside = rw c.place-start.ensures.is at c.requires.inside in
    omega (arith, c.place-start.ensures.within, c.self.told)

keeps : (c : After-write_part) → Keeps (record { bytes = c.write_part.new.bytes; len = c.self.inside.len; count = c.self.inside.count }) (changed c.args.k (λ d. record d { payload = put c.args.at c.args.bytes.now d.payload }) c.args.self.now)
keeps c =
    let b = c.place-start.ensures in
    let w = keeps_value c.self.inside c.args.self.now c.self.invariant c.self.view_is in
    keeps_changed c.self.inside c.args.self.now c.args.k c.place-start.result (10 + c.args.at) _ _ _ _ w b
    (writes_bytes c.args.at c.args.bytes.now b.datagram (bytes_known c.args.bytes.now c.type_inv.bytes) (rw b.is at c.requires.inside) b.valid) (omega arith) c.write_part.ensures

pub invariant_of-self : goal.invariant_of-self
invariant_of-self c = kept_from _ _ (keeps c)

pub returns-clause-changed : goal.returns-clause-changed
returns-clause-changed c = value_of-kept _ _ (keeps c)

pub returns-clause-count : goal.returns-clause-count
returns-clause-count c = ap (λ (f : FrameValue). length f.datagrams) (value_of-kept _ _ (keeps c)) ∙ length-modify c.args.k _ c.args.self.now.datagrams
