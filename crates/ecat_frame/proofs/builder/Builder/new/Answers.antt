use Rattle.std.proofs.Common.{refl}
use Rattle.ecat_frame.proofs.Filled.{datagrams_of-filled, filled_from, holds_none}
use Rattle.ecat_frame.proofs.builder.Builder.new.Goals as goal

pub invariant_of-result : goal.invariant_of-result
invariant_of-result c = filled_from _ _ (holds_none 1514 _ refl refl)

pub returns : goal.returns
returns c = datagrams_of-filled _ _ (holds_none 1514 _ refl refl)
