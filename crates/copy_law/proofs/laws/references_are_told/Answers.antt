use Rattle.copy_law.proofs.First.{reference_clock, reference_low}
use Rattle.copy_law.proofs.References.{counts, has_no_delay, in_bounds, is_told, keeps_time}
use Rattle.copy_law.proofs.laws.references_are_told.Goals as goal

pub returns : goal.returns
returns c = record {
  told = λ s run r it reference. is_told s it.legal r reference run it.is it.ok;
  bounds = λ s r legal reference. in_bounds s legal r reference;
  low = λ s r legal reference. reference_low s legal r reference;
  clock = λ s r legal reference. reference_clock s legal r reference;
  delay = λ s run r it reference. has_no_delay s it.legal r reference run it.is it.ok;
  time = λ s r legal reference. keeps_time s legal r reference;
  counts = λ s run r v it reference there. counts s it.legal r reference run it.is v there;
}
