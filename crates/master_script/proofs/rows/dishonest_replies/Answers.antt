use Rattle.master_script.proofs.Worked.{as_bwr, with_index_1, as_bwr_with_counter_9, with_counter_3, surplus, missing, bad_status, no_clock, behind_a_branch, wrapped, first_set}
use Rattle.master_script.proofs.rows.dishonest_replies.Goals as goal

pub returns : goal.returns
returns c = record { as_bwr = as_bwr; with_index_1 = with_index_1; as_bwr_with_counter_9 = as_bwr_with_counter_9; with_counter_3 = with_counter_3; surplus = surplus; missing = missing; bad_status = bad_status; no_clock = no_clock; behind_a_branch = behind_a_branch; wrapped = wrapped; first_set = first_set }
