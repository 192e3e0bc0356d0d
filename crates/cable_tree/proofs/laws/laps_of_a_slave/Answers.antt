use Rattle.cable_tree.proofs.Laps.{lap_is, arrive_of, port_time_of, span_of_laps, laps_rise}
use Rattle.cable_tree.proofs.laws.laps_of_a_slave.Goals as goal

pub returns : goal.returns
returns c = record { lap = lap_is; arrival = arrive_of; back = port_time_of; end = span_of_laps; rise = laps_rise }
