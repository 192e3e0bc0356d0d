use Rattle.std.proofs.Common.{ap, ◌∙◌, List, ℕ}
use Rattle.byteorder.specs.Endian.{little_number}
use Rattle.ecat_frame.specs.Reading.{seen}
use Rattle.master_frames.proofs.Told.{told}
use Rattle.master_frames.proofs.replies.identified_from.Goals as goal

pub returns : goal.returns
returns c =
    told c.args.reply.now c.args.first c.read_u16.result c.read_u16-2.result (seen c.datagram.result)
    (c.read_u16.ensures ∙ ap (λ (xs : List ℕ). little_number 2 xs) c.data.ensures.is)
    (c.read_u16-2.ensures ∙ ap (λ (xs : List ℕ). little_number 2 xs) c.data-2.ensures.is) c.datagram.ensures.is
