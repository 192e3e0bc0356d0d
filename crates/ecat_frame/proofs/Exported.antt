-- What the crates above may cite of these proofs.

-- Datagrams one of which is changed.
pub use Rattle.ecat_frame.proofs.Changes.{length-modify, slice_get-modify_same, changed_agree, changed_none, changed_twice}
-- The bytes of datagrams in front of others: where each stands, and what a write to one leaves.
pub use Rattle.ecat_frame.proofs.Datagrams.{length-all_spelled}
-- Equal bytes are those of equal frames.
pub use Rattle.ecat_frame.proofs.Injective.{spelling-injective}
-- What a builder hands out is a frame of its datagrams.
pub use Rattle.ecat_frame.proofs.Build.{IsFrame-built}
-- What an error says of the bytes.
pub use Rattle.ecat_frame.proofs.FaultFacts.{fault_no_frame, fault_unique}
-- Frames without what may change on their way.
pub use Rattle.ecat_frame.proofs.Wiped.{none_is_same}
