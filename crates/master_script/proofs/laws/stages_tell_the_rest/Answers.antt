use Rattle.master_script.proofs.Stages.{spent_told, kept_reference, kept_delays, entries_told, drifts_told, start_told}
use Rattle.master_script.proofs.laws.stages_tell_the_rest.Goals as goal

pub returns : goal.returns
returns c = record { spent = spent_told; reference = kept_reference; delays = kept_delays; entries = entries_told; drifts = drifts_told; start = start_told }
