-- What a drift frame that comes back tells of the time of the reference.
use Rattle.std.proofs.Common.{◌≡◌, ℕ, ◌+◌, ◌%◌, ◌^◌, List, [], length, Option, Some, sym, ap, refl, ◌∙◌, arith}
use Rattle.std.specs.Prelude.{slice_index_or}
use Rattle.copy_law.specs.Drawn.{arrives_at}
use Rattle.copy_law.specs.DriftFrames.{IsDriftFrame, sent_at}
use Rattle.copy_law.specs.Receipts.{IsReference, time_of}
use Rattle.copy_law.specs.WholeTimes.{reference_time}
use Rattle.copy_law.proofs.AtSlaves.{time_told, word_at}
use Rattle.copy_law.proofs.First.{reference_clock, reference_low}
use Rattle.copy_law.proofs.LockSizes.{wide}
use Rattle.copy_law.proofs.Receiving.{reference_whole, time_there}
use Rattle.copy_law.proofs.States.{clock_there, drifting, leaves, orderly}
use Rattle.ecat_frame.specs.FrameGrammar.{DatagramValue, FrameValue}
use Rattle.ecat_frame.specs.declared.command.Command.TheVariants.{Nop}
use Rattle.ecat_link.specs.Exchanges.{Exchange}
use Rattle.esc_regs.specs.RegisterBytes.{number_at}
use Rattle.frame_pass.specs.SegmentState.{SegmentState, leaves_at, segment_step}
use Rattle.frame_pass.specs.SlaveState.{Timing, width}
use Rattle.frame_pass.proofs.Exported.{sizes_of}
use Rattle.honest_slaves.specs.FileSlaves.{kind_at, status_at}
use Rattle.honest_slaves.proofs.Exported.{CameBack, came_back, had_before}
use Rattle.master_script.specs.Frames.{asks}
use Rattle.master_script.specs.Steps.{low_in}
use Rattle.run_of_file.specs.Commissioned.{words_after}
use Rattle.segment_file.specs.Legal.{IsLegal}
use Rattle.segment_file.specs.Segment.{SegmentValue}
use Rattle.wrap_time.proofs.Exported.{cut_of_cut}

-- a datagram where there is none
abbrev no_datagram : DatagramValue
no_datagram = asks 0 Nop 0 0 []

low_is : (g : FrameValue) → low_in g ≡ number_at 4 0 (slice_index_or g.datagrams 0 (asks 0 Nop 0 0 [])).payload
unfolding number_at
low_is g = refl

module _ (s : SegmentValue) (legal : IsLegal s) (k : ℕ) (t : SegmentState) (e : Exchange) (f : IsDriftFrame s (k + 1) t e) (r : ℕ) (reference : IsReference s r) where
  -- the low half of what the reference counted when the frame arrived there
  pub low_told : (g : FrameValue) → (segment_step t e.wait_ns e.sent).1 ≡ Some g
      → low_in g ≡ reference_time s (words_after s f.first) r (arrives_at s f.first (k + 1) r) % 2 ^ 32
  low_told g came =
      let o = orderly s legal (k + 1) t e f in
      let low = reference_low s legal r reference in
      let own = reference_clock s legal r reference in
      let many = o.are.many in
      let w = had_before t.slaves r (omega (arith, many, low)) in
      let m = clock_there s legal (k + 1) t e f r w.slave w.is own in
      let sent = leaves_at t e.wait_ns in
      let back : CameBack t e.wait_ns e.sent g = came_back t e.wait_ns e.sent g came in
      let told = time_told (kind_at s) (status_at s) (length s.rows) sent t.slaves o.are (sizes_of t.round_trip t.free t.slaves o.sound) r e.sent.datagrams (drifting s legal (k + 1) t e f r reference)
      (length t.slaves) w.slave m.0 no_datagram (omega (arith, many, low)) own w.is m.1 in
      let at = arrives_at s f.first (k + 1) r in
      low_is g
      ∙ ap (λ (ds : List DatagramValue). number_at 4 0 (slice_index_or ds 0 (asks 0 Nop 0 0 [])).payload) back.datagrams
      ∙ told
      ∙ ap (λ (x : ℕ). word_at x w.slave m.0) (leaves s legal (k + 1) t e f)
      ∙ ap (λ (x : Option Timing). time_of w.slave.registers (sent_at s f.first (k + 1) + w.slave.visits.arrive) x % 2 ^ 32) (sym m.1)
      ∙ time_there s legal k t e f r low own w.slave w.is
      ∙ ap (λ (x : ℕ). x % 2 ^ width (kind_at s r) % 2 ^ 32) (reference_whole s legal k t e f r reference at)
      ∙ cut_of_cut 32 (width (kind_at s r)) (reference_time s (words_after s f.first) r at) (wide (kind_at s r))
