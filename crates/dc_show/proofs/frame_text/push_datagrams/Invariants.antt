use Rattle.std.proofs.Common.{◌≡◌, ◌++◌, take, length}
use Rattle.std.specs.List.{flat_map}
use Rattle.dc_show.specs.FrameText.{datagram_text}
use Rattle.dc_show.proofs.frame_text.push_datagrams.Given as goal

abbrev pub invariant-loop-k : goal.invariant-loop-k
invariant-loop-k l = record {
  text : l.text.items ≡ l.fn.text.items ++ flat_map datagram_text (take l.k l.frame.datagrams);
  all : l.k-end ≡ length l.frame.datagrams;
}
