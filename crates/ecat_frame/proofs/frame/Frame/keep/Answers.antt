use Rattle.std.proofs.Common.{length, sym, ap, ◌∙◌}
use Rattle.ecat_frame.specs.FrameGrammar.{spelling}
use Rattle.ecat_frame.proofs.Counted.{keeps_grammar, most_length}
use Rattle.ecat_frame.proofs.Kept.{Keeps, kept_from, value_of-kept}
use Rattle.ecat_frame.proofs.frame.Frame.keep.Goals as goal
use Rattle.ecat_frame.proofs.frame.Frame.keep.Goals.{After-datagrams_in}

pub write_part-requires : goal.write_part-requires
write_part-requires c = most_length c.args.bytes.now c.requires

keeps : (c : After-datagrams_in) → Keeps (record { bytes = c.write_part.new.bytes; len = length c.args.bytes.now; count = c.datagrams_in.result }) c.requires.0
keeps c = keeps_grammar c.args.bytes.now c.write_part.new.bytes c.datagrams_in.result c.requires c.write_part.ensures c.datagrams_in.ensures

pub invariant_of-result : goal.invariant_of-result
invariant_of-result c = kept_from _ _ (keeps c)

pub returns-clause-spelling : goal.returns-clause-spelling
returns-clause-spelling c = ap spelling (value_of-kept _ _ (keeps c)) ∙ sym c.requires.1.1

pub returns-clause-valid : goal.returns-clause-valid
returns-clause-valid c = rw (value_of-kept _ _ (keeps c)) c.requires.1.0
