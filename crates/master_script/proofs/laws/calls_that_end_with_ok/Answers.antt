use Rattle.master_script.proofs.Calls.{fresh_begins, commission_done, settle_sends, arm_sends, run_sends}
use Rattle.master_script.proofs.laws.calls_that_end_with_ok.Goals as goal

pub returns : goal.returns
returns c = record { fresh = fresh_begins; commission = commission_done; settle = settle_sends; arm = arm_sends; run = run_sends }
