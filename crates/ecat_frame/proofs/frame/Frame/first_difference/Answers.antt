use Rattle.std.proofs.Common.{◌∙◌, length, sym, arith, refl}
use Rattle.ecat_frame.proofs.Alike.{Read, header_apart, header_alike, heads_apart, heads_alike, all_alike, one_of_both}
use Rattle.ecat_frame.proofs.frame.Frame.first_difference.Goals as goal

pub returns-in-Some : goal.returns-in-Some
returns-in-Some c =
    sym (header_apart c.args.self.now c.args.reply.now c.in-Some.at (rw (← c.header_word.ensures.is, ← c.header_word-2.ensures.is) (sym c.in-Some.ensures.is)))

pub loop-k-init : goal.loop-k-init
loop-k-init c = record {
  alike = header_alike c.args.self.now c.args.reply.now c.header_word.ensures.valid c.header_word-2.ensures.valid (rw (← c.header_word.ensures.is, ← c.header_word-2.ensures.is) (sym c.in_default.ensures.is));
  end = c.min-k-end.ensures ∙ rw (c.count.ensures.count, c.count-2.ensures.count) refl;
}

pub returns-in-Some-head_difference : goal.returns-in-Some-head_difference
returns-in-Some-head_difference c =
    let sent : Read c.args.self.now c.loop-k.k c.datagram-sent.result = record { is = c.datagram-sent.ensures.is; length_word = c.datagram-sent.ensures.length_word; valid = c.datagram-sent.ensures.valid } in
    let reply : Read c.args.reply.now c.loop-k.k c.datagram.result = record { is = c.datagram.ensures.is; length_word = c.datagram.ensures.length_word; valid = c.datagram.ensures.valid } in
    sym (heads_apart c.args.self.now c.args.reply.now c.loop-k.k c.loop-k.start c.in-Some-head_difference.at c.datagram-sent.result c.datagram.result c.loop-k.invariant.alike sent reply (sym c.in-Some-head_difference.ensures.is))

pub loop-k-preserved : goal.loop-k-preserved
loop-k-preserved c =
    let sent : Read c.args.self.now c.loop-k.k c.datagram-sent.result = record { is = c.datagram-sent.ensures.is; length_word = c.datagram-sent.ensures.length_word; valid = c.datagram-sent.ensures.valid } in
    let reply : Read c.args.reply.now c.loop-k.k c.datagram.result = record { is = c.datagram.ensures.is; length_word = c.datagram.ensures.length_word; valid = c.datagram.ensures.valid } in
    record {
      alike = heads_alike c.args.self.now c.args.reply.now c.loop-k.k c.loop-k.start c.datagram-sent.result c.datagram.result c.loop-k.invariant.alike sent reply (sym c.in_default-head_difference.ensures.is);
      end = c.loop-k.invariant.end;
    }

pub returns : goal.returns
returns c =
    sym (all_alike c.args.self.now c.args.reply.now c.loop-k.k c.loop-k.start c.min-k-end.result c.loop-k.invariant.alike (omega arith) (one_of_both (length c.args.self.now.datagrams) (length c.args.reply.now.datagrams) c.min-k-end.result c.loop-k.invariant.end))
