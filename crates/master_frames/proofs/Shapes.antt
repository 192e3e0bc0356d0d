-- A reply with no difference has the shape of what was sent.
use Rattle.std.proofs.Common.{◌≡◌, ℕ, List, [], ◌∷◌, length, map, None, refl, ap, sym, ◌∙◌}
use Rattle.std.proofs.lemmas.List.{length-replicate}
use Rattle.ecat_frame.specs.Difference.{first_difference, wiped_datagram}
use Rattle.ecat_frame.specs.FrameGrammar.{DatagramValue, FrameValue, IsFrame}
use Rattle.ecat_frame.proofs.Exported.{none_is_same}
use Rattle.master_frames.specs.Sizes.{sizes}

wiped_sizes : (ds : List DatagramValue) → map (λ (d : DatagramValue). length d.payload) (map wiped_datagram ds) ≡ map (λ (d : DatagramValue). length d.payload) ds
wiped_sizes [] = refl
wiped_sizes (d ∷ ds) = rw (length-replicate {A = ℕ} (length d.payload) 0, wiped_sizes ds) refl

pub alike : (sent reply : FrameValue) → IsFrame sent → IsFrame reply → first_difference sent reply ≡ None → sizes reply ≡ sizes sent
alike sent reply v w none =
    let same = ap (λ (f : FrameValue). sizes f) (none_is_same sent reply v w none) in
    sym (wiped_sizes reply.datagrams) ∙ sym same ∙ wiped_sizes sent.datagrams
