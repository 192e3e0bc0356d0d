use Rattle.frame_pass.proofs.Counting.{after_at, is_sent, address_raised, address_kept, counts, data_kept}
use Rattle.frame_pass.proofs.laws.datagrams_on_their_way.Goals as goal

pub returns-clause-at : goal.returns-clause-at
returns-clause-at c = after_at

pub returns-clause-same : goal.returns-clause-same
returns-clause-same c = λ k h sent ss ds d e is at. let x = is_sent k h sent ss ds d e is at in (x.command, x.index, x.ado)

pub returns-clause-raised : goal.returns-clause-raised
returns-clause-raised c = address_raised

pub returns-clause-kept : goal.returns-clause-kept
returns-clause-kept c = address_kept

pub returns-clause-counter : goal.returns-clause-counter
returns-clause-counter c = counts

pub returns-clause-data : goal.returns-clause-data
returns-clause-data c = data_kept
