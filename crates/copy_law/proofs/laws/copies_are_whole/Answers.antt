use Rattle.copy_law.proofs.Copies.{copy_then, reference_then}
use Rattle.copy_law.proofs.laws.copies_are_whole.Goals as goal

pub returns : goal.returns
returns c = record {
  copy = λ s first run p t it is low clock after. copy_then s first run it is p t low clock after;
  reference = λ s first run r t it is reference. reference_then s first run it is r t reference;
}
