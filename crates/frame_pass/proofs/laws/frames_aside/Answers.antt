use Rattle.frame_pass.proofs.Asides.{aside_behind, left_by, station_before, never_latching, never_activating}
use Rattle.frame_pass.proofs.laws.frames_aside.Goals as goal

pub returns-clause-behind : goal.returns-clause-behind
returns-clause-behind c = aside_behind

pub returns-clause-left : goal.returns-clause-left
returns-clause-left c = left_by

pub returns-clause-found : goal.returns-clause-found
returns-clause-found c = λ k own s ds size is a. let h = station_before k own s ds size is a in (h.station_is, h.size)

pub returns-clause-unlatched : goal.returns-clause-unlatched
returns-clause-unlatched c = never_latching

pub returns-clause-inactive : goal.returns-clause-inactive
returns-clause-inactive c = never_activating
