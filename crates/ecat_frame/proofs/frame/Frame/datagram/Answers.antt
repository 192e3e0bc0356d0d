use Rattle.std.proofs.Common.{◌≡◌, ℕ, ◌+◌, ◌-◌, length, take, drop, Some, sym, ap, ◌∙◌, arith}
use Rattle.std.proofs.lemmas.List.{length-drop}
use Rattle.ecat_frame.specs.FrameGrammar.{FrameValue, length_word_of, more}
use Rattle.ecat_frame.specs.InsideFrame.{BeginsAt, IsKept, value_of}
use Rattle.ecat_frame.specs.declared.frame.Frame.TheInside.{Inside}
use Rattle.ecat_frame.proofs.Kept.{keeps_value, reads_there}
use Rattle.ecat_frame.proofs.Spelled.{Reads}
use Rattle.ecat_frame.proofs.frame.Frame.datagram.Goals as goal

reads : (a : Inside) (f : FrameValue) (k at : ℕ) → IsKept a → value_of a ≡ f → length a.bytes ≡ 1514 → (b : BeginsAt f k at) → Reads (take (1514 - at) (drop at a.bytes)) (more (drop (k + 1) f.datagrams)) b.datagram
reads a f k at w e size b =
    reads_there a f k at (1514 - at) (keeps_value a f w e) b (omega (arith, length-drop at a.bytes))

pub read-requires-clause-whole : goal.read-requires-clause-whole
read-requires-clause-whole c =
    (reads c.self.inside c.args.self.now c.args.k c.place-at.result c.self.invariant c.self.view_is c.self.told c.place-at.ensures).whole

pub read-requires-clause-command : goal.read-requires-clause-command
read-requires-clause-command c =
    (reads c.self.inside c.args.self.now c.args.k c.place-at.result c.self.invariant c.self.view_is c.self.told c.place-at.ensures).command

pub returns-clause-is : goal.returns-clause-is
returns-clause-is c =
    let r = reads c.self.inside c.args.self.now c.args.k c.place-at.result c.self.invariant c.self.view_is c.self.told c.place-at.ensures in
    c.place-at.ensures.is ∙ ap Some (sym (c.read.ensures.is ∙ r.is))

pub returns-clause-length_word : goal.returns-clause-length_word
returns-clause-length_word c =
    let r = reads c.self.inside c.args.self.now c.args.k c.place-at.result c.self.invariant c.self.view_is c.self.told c.place-at.ensures in
    c.read.ensures.length_word ∙ r.length_word ∙ ap (length_word_of (more (drop (c.args.k + 1) c.args.self.now.datagrams))) (sym (c.read.ensures.is ∙ r.is))

pub returns-clause-valid : goal.returns-clause-valid
returns-clause-valid c = rw c.self.view_is at c.self.invariant.valid
