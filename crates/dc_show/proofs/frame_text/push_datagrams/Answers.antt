use Rattle.dc_show.specs.FrameText.{datagram_text}
use Rattle.dc_show.proofs.Texts.{text_more}
use Rattle.dc_show.proofs.frame_text.push_datagrams.Goals as goal

pub loop-k-preserved : goal.loop-k-preserved
loop-k-preserved c = record {
  text = text_more datagram_text c.args.frame.now.datagrams c.loop-k.k _ c.args.text.now.items _ _ c.datagram.ensures.is c.loop-k.invariant.text c.in_ok-push_datagram.ensures;
  all = c.loop-k.invariant.all;
}
