-- Worked rows, by computation.
use Rattle.std.proofs.Common.{◌≡◌, true, [], ◌∷◌, Some, None, Ok, Err, refl}
use Rattle.byteorder.specs.Endian.{little_bytes}
use Rattle.cable_tree.specs.FrameOrder.{child}
use Rattle.dc_bounds.specs.Measurable.{is_measured_within}
use Rattle.dc_bounds.specs.Weight.{measuring_within}
use Rattle.dc_delay.specs.MeasuredDelay.{passed_within, summed_within}
use Rattle.dc_topology.specs.DlStatus.{is_formed}
use Rattle.dc_topology.specs.Listed.{places}
use Rattle.dc_topology.specs.declared.error.TopologyError.TheVariants.{BadStatus, Surplus, Missing}
use Rattle.ecat_frame.specs.Built.{built}
use Rattle.ecat_frame.specs.Difference.{first_difference}
use Rattle.ecat_frame.specs.FrameGrammar.{spelled, all_spelled, spelling}
use Rattle.ecat_frame.specs.declared.command.Command.TheVariants.{Brd, Bwr}
use Rattle.ecat_link.specs.Serves.{Send, End}
use Rattle.master_script.specs.Config.{start_of}
use Rattle.master_script.specs.Frames.{count_datagrams, set_datagrams, arm_datagrams}
use Rattle.master_script.specs.Judged.{judged}
use Rattle.master_script.specs.Kept.{kept_after}
use Rattle.master_script.specs.ListedTree.{walk}
use Rattle.master_script.specs.Progress.{progress, after}
use Rattle.master_script.specs.Rows.{base, lost, echo, other, counts, identifies_none, statuses, measures, four_kinds, branches, commissions, settles, losing, settles_losing}
use Rattle.master_script.specs.Script.{script, Commission, Arm as CallArm}
use Rattle.master_script.specs.Slaves.{judgement}
use Rattle.master_script.specs.Steps.{frame_of}
use Rattle.master_script.specs.Words.{delays_of}
use Rattle.master_script.specs.declared.step.MasterError.TheVariants.{Refused}
use Rattle.master_script.specs.declared.step.Refusal.TheVariants.{Lost, Reply, Counter, Topology, NoReference, Unmeasurable}
use Rattle.master_script.specs.declared.step.Step.TheVariants.{Count}

pub begins : script base Commission [] ≡ Send 1000000 (built count_datagrams)
unfolding script kept_after progress after judged first_difference spelling all_spelled spelled frame_of is_formed places walk judgement delays_of start_of is_measured_within measuring_within passed_within summed_within child
begins = refl

pub echoed : script base Commission (echo count_datagrams ∷ []) ≡ End (Err (Refused (Counter Count 2 0)))
unfolding script kept_after progress after judged first_difference spelling all_spelled spelled frame_of is_formed places walk judgement delays_of start_of is_measured_within measuring_within passed_within summed_within child
echoed = refl

pub lost_twice : script base Commission (lost count_datagrams ∷ lost count_datagrams ∷ []) ≡ Send 1000000 (built count_datagrams)
unfolding script kept_after progress after judged first_difference spelling all_spelled spelled frame_of is_formed places walk judgement delays_of start_of is_measured_within measuring_within passed_within summed_within child
lost_twice = refl

pub lost_thrice : script base Commission (lost count_datagrams ∷ lost count_datagrams ∷ lost count_datagrams ∷ []) ≡ End (Err (Refused (Lost Count)))
unfolding script kept_after progress after judged first_difference spelling all_spelled spelled frame_of is_formed places walk judgement delays_of start_of is_measured_within measuring_within passed_within summed_within child
lost_thrice = refl

pub as_bwr : (kept_after base None (other Bwr 0 2 ∷ [])).refusal ≡ Some (Reply Count 16)
unfolding script kept_after progress after judged first_difference spelling all_spelled spelled frame_of is_formed places walk judgement delays_of start_of is_measured_within measuring_within passed_within summed_within child
as_bwr = refl

pub with_index_1 : (kept_after base None (other Brd 1 2 ∷ [])).refusal ≡ Some (Reply Count 17)
unfolding script kept_after progress after judged first_difference spelling all_spelled spelled frame_of is_formed places walk judgement delays_of start_of is_measured_within measuring_within passed_within summed_within child
with_index_1 = refl

pub as_bwr_with_counter_9 : (kept_after base None (other Bwr 0 9 ∷ [])).refusal ≡ Some (Reply Count 16)
unfolding script kept_after progress after judged first_difference spelling all_spelled spelled frame_of is_formed places walk judgement delays_of start_of is_measured_within measuring_within passed_within summed_within child
as_bwr_with_counter_9 = refl

pub with_counter_3 : (kept_after base None (other Brd 0 3 ∷ [])).refusal ≡ Some (Counter Count 2 3)
unfolding script kept_after progress after judged first_difference spelling all_spelled spelled frame_of is_formed places walk judgement delays_of start_of is_measured_within measuring_within passed_within summed_within child
with_counter_3 = refl

pub surplus : (kept_after base None (statuses 0x5610 0x5610)).refusal ≡ Some (Topology (Surplus 1))
unfolding script kept_after progress after judged first_difference spelling all_spelled spelled frame_of is_formed places walk judgement delays_of start_of is_measured_within measuring_within passed_within summed_within child
surplus = refl

pub missing : (kept_after base None (statuses 0x5A30 0x5A30)).refusal ≡ Some (Topology Missing)
unfolding script kept_after progress after judged first_difference spelling all_spelled spelled frame_of is_formed places walk judgement delays_of start_of is_measured_within measuring_within passed_within summed_within child
missing = refl

pub bad_status : (kept_after base None (statuses 0x5A30 0x0000)).refusal ≡ Some (Topology (BadStatus 1))
unfolding script kept_after progress after judged first_difference spelling all_spelled spelled frame_of is_formed places walk judgement delays_of start_of is_measured_within measuring_within passed_within summed_within child
bad_status = refl

pub first_set : script base Commission (measures 0xFFFFFFFF 0xFFFFFFFE) ≡ Send 1000000 (built (set_datagrams 0 true 800000000000000000 0))
unfolding script kept_after progress after judged first_difference spelling all_spelled spelled frame_of is_formed places walk judgement delays_of start_of is_measured_within measuring_within passed_within summed_within child
first_set = refl

pub wrapped : (kept_after base None (measures 0xFFFFFFFF 0xFFFFFFFE)).delays ≡ Some 0 ∷ Some 2147483647 ∷ []
unfolding script kept_after progress after judged first_difference spelling all_spelled spelled frame_of is_formed places walk judgement delays_of start_of is_measured_within measuring_within passed_within summed_within child
wrapped = refl

pub measured : (kept_after base None settles).delays ≡ Some 0 ∷ Some 360 ∷ []
unfolding script kept_after progress after judged first_difference spelling all_spelled spelled frame_of is_formed places walk judgement delays_of start_of is_measured_within measuring_within passed_within summed_within child
measured = refl

pub starts : script base CallArm settles ≡ Send 1000000 (built (arm_datagrams 0 0 true 1000000 None 800000000016000000))
unfolding script kept_after progress after judged first_difference spelling all_spelled spelled frame_of is_formed places walk judgement delays_of start_of is_measured_within measuring_within passed_within summed_within child
starts = refl

pub start_bytes : little_bytes 8 800000000016000000 ≡ 0x00 ∷ 0x24 ∷ 0x44 ∷ 0xed ∷ 0xc2 ∷ 0x2b ∷ 0x1a ∷ 0x0b ∷ []
start_bytes = refl

pub no_clock : (kept_after base None (counts 2 ∷ identifies_none 0 0x5A30 ∷ identifies_none 1 0x5610 ∷ [])).refusal ≡ Some NoReference
unfolding script kept_after progress after judged first_difference spelling all_spelled spelled frame_of is_formed places walk judgement delays_of start_of is_measured_within measuring_within passed_within summed_within child
no_clock = refl

pub behind_a_branch : (kept_after four_kinds None branches).refusal ≡ Some (Unmeasurable 2)
unfolding script kept_after progress after judged first_difference spelling all_spelled spelled frame_of is_formed places walk judgement delays_of start_of is_measured_within measuring_within passed_within summed_within child
behind_a_branch = refl

pub start_losing : script losing CallArm settles_losing ≡ Send 1000000 (built (arm_datagrams 0 0 true 1000000 None 800000000017000000))
unfolding script kept_after progress after judged first_difference spelling all_spelled spelled frame_of is_formed places walk judgement delays_of start_of is_measured_within measuring_within passed_within summed_within child
start_losing = refl

pub ends : script base Commission commissions ≡ End (Ok tt)
unfolding script kept_after progress after judged first_difference spelling all_spelled spelled frame_of is_formed places walk judgement delays_of start_of is_measured_within measuring_within passed_within summed_within child
ends = refl
