use Rattle.ecat_link.proofs.Losses.{rose_once, rose_then}
use Rattle.ecat_link.proofs.laws.rose_in_turn.Goals as goal

pub returns : goal.returns
returns c = record { one = rose_once; more = rose_then }
