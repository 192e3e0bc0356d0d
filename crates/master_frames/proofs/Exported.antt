-- What the crates above may cite of these proofs.

-- A reply with no difference has the shape of what was sent.
pub use Rattle.master_frames.proofs.Shapes.{alike}
-- The positions that are left of those that a flag marks.
pub use Rattle.master_frames.proofs.Left.{left, left_yes, left_no, left_end, flag_at}
-- Slaves that are judged are never refused as lost.
pub use Rattle.master_frames.proofs.Judging.{never_judged}
