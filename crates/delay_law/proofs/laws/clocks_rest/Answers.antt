use Rattle.delay_law.proofs.Ended.{way_of}
use Rattle.delay_law.proofs.laws.clocks_rest.Goals as goal

pub returns : goal.returns
returns c = λ s run legal is. (way_of s legal run is).rests
