use Rattle.osc_clock.proofs.TickLaws.{reached, not_after, ticks_at, counted, ticks_rise, instants_rise, one_at_a_time}
use Rattle.osc_clock.proofs.laws.ticks_and_instants.Goals as goal

pub returns : goal.returns
returns c = record {
  reached = reached;
  not_after = not_after;
  ticks_at = ticks_at;
  counted = counted;
  ticks_rise = ticks_rise;
  instants_rise = instants_rise;
  one_at_a_time = one_at_a_time;
}
