use Rattle.std.proofs.Common.{◌≡◌, ◌+◌, ◌%◌, ap, ◌∙◌, arith}
use Rattle.std.proofs.lemmas.Nat.{and_mask}
use Rattle.ecat_frame.specs.InsideFrame.{header_in}
use Rattle.ecat_frame.proofs.Counted.{counted_all, counted_next, counted_none, least_length, within_frame}
use Rattle.ecat_frame.proofs.bytes.datagrams_in.Goals as goal

pub read_word-requires : goal.read_word-requires
read_word-requires c = least_length c.args.bytes.now c.requires

pub loop-at-init : goal.loop-at-init
loop-at-init c =
    let size : c.from-end.result ≡ header_in c.args.bytes.now % 2048 = c.from-end.ensures ∙ and_mask _ 11 ∙ ap (λ n. n % 2048) c.read_word.ensures in
    counted_none c.args.bytes.now (16 + c.from-end.result) (ap (λ n. 16 + n) size)

pub data_length-requires : goal.data_length-requires
data_length-requires c =
    let h = within_frame c.args.bytes.now c.requires _ c.loop-at.at c.loop-at.count c.loop-at.invariant c.loop-at-test.true in
    omega (arith, h.0)

pub overflow_add-count : goal.overflow_add-count
overflow_add-count c =
    let h = within_frame c.args.bytes.now c.requires _ c.loop-at.at c.loop-at.count c.loop-at.invariant c.loop-at-test.true in
    omega (arith, h.1)

pub loop-at-preserved : goal.loop-at-preserved
loop-at-preserved c =
    counted_next c.args.bytes.now (16 + c.from-end.result) c.loop-at.at c.loop-at.count c.data_length.result c.data_length.ensures c.loop-at-test.true c.loop-at.invariant

pub returns : goal.returns
returns c f w is =
    counted_all f c.args.bytes.now (16 + c.from-end.result) c.loop-at.at c.loop-at.count c.loop-at-test.false (c.loop-at.invariant f w is)
