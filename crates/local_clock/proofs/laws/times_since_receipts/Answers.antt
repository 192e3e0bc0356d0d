use Rattle.local_clock.proofs.Since.{since_receipt}
use Rattle.local_clock.proofs.laws.times_since_receipts.Goals as goal

pub returns : goal.returns
returns c = since_receipt
