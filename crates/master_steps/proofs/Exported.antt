-- What the crates above may cite of these proofs.

-- A step that is sent up to three times.
pub use Rattle.master_steps.proofs.Trying.{sent_of}
-- A reply is never refused as lost.
pub use Rattle.master_steps.proofs.Shapes.{never_lost}
-- The causes of refusals of a step.
pub use Rattle.master_steps.proofs.Causes.{OfStep, names, reply_causes}
-- The losses that are counted, and those of the link.
pub use Rattle.master_steps.proofs.Counting.{counted_none, counted_then}
