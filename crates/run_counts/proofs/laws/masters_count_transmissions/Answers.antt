use Rattle.run_counts.proofs.AtEnd.{commissioning_few, delays_at_end, ran_at_end, whole_at_end, whole_few}
use Rattle.run_counts.proofs.laws.masters_count_transmissions.Goals as goal

pub returns : goal.returns
returns c = record {
  delays = delays_at_end;
  ran = ran_at_end;
  whole = whole_at_end;
  few_in_commissioning = commissioning_few;
  few_in_all = whole_few;
}
