use Rattle.ecat_frame.proofs.Wiped.{wiped-answered}
use Rattle.ecat_frame.proofs.laws.answer_is_wiped.Goals as goal

pub returns : goal.returns
returns c = wiped-answered
