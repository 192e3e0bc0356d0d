use Rattle.frame_pass.proofs.Stations.{station_read, station_written}
use Rattle.frame_pass.proofs.laws.by_station.Goals as goal

pub returns-clause-read : goal.returns-clause-read
returns-clause-read c = station_read

pub returns-clause-written : goal.returns-clause-written
returns-clause-written c = station_written
