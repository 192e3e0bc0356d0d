use Rattle.honest_slaves.proofs.Answering.{all_answer}
use Rattle.honest_slaves.proofs.laws.broadcasts_count.Goals as goal

pub returns : goal.returns
returns c = all_answer
