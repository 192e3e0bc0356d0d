use Rattle.run_counts.proofs.Drifted.{armed_drifted, commission_numbered, ran_drifted, settled_drifted}
use Rattle.run_counts.proofs.laws.frames_are_numbered.Goals as goal

pub returns : goal.returns
returns c = record {
  commission = λ s run legal is. commission_numbered s legal run is;
  settled = λ s first run legal was is. let d = settled_drifted s legal first run was is in (d.more, d.all, d.numbered);
  armed = λ s first run legal was is. let d = armed_drifted s legal first run was is in (d.more, d.all, d.numbered);
  ran = λ s first run legal was is. let d = ran_drifted s legal first run was is in (d.more, d.all, d.numbered);
}
