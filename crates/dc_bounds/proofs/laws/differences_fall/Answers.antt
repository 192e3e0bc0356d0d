use Rattle.dc_bounds.proofs.Locking.{falls, after_receipts, locked}
use Rattle.dc_bounds.proofs.laws.differences_fall.Goals as goal

pub returns : goal.returns
returns c = record { next = falls; after = after_receipts; locked = locked }
