use Rattle.master_script.proofs.Worked.{begins, echoed, lost_twice, lost_thrice}
use Rattle.master_script.proofs.rows.scripted_replies.Goals as goal

pub returns : goal.returns
returns c = record { begins = begins; echoed = echoed; lost_twice = lost_twice; lost_thrice = lost_thrice }
