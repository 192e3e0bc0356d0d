-- How many frames a run has sent behind each phase that ended with Ok.
use Rattle.std.proofs.Common.{◌≡◌, ℕ, ◌+◌, ◌*◌, ◌≤◌, List, ◌++◌, length, length-append, Some, Ok, Err, sym, ap, ◌∙◌, arith}
use Rattle.std.proofs.lemmas.List.{length-map}
use Rattle.ecat_link.specs.Exchanges.{Exchange}
use Rattle.master_script.specs.Config.{settle_frames}
use Rattle.master_script.specs.Progress.{progress, arm_steps}
use Rattle.master_script.specs.Script.{script, Settle, Arm, Run}
use Rattle.master_script.specs.Slaves.{clocks}
use Rattle.master_script.specs.declared.step.Step.TheVariants as step
use Rattle.master_script.proofs.Exported.{settle_sends, run_sends, progress_sent}
use Rattle.loss_list.specs.declared.loss_row.Phase.TheVariants as frames
use Rattle.segment_file.specs.Segment.{SegmentValue}
use Rattle.segment_file.specs.Legal.{IsLegal}
use Rattle.lost_step.specs.LostStep.{loses, clock_positions, commission_steps, first_arming}
use Rattle.lost_step.proofs.Exported.{asked_few}
use Rattle.run_of_file.specs.MasterOfFile.{master_of}
use Rattle.run_of_file.specs.RunOfFile.{RunEnd, frames_given, commissioned, settled, armed, ran}
use Rattle.run_counts.proofs.Honest.{HasHonestReplies}
use Rattle.run_counts.proofs.ArmingRun.{arm_done, master_first}
use Rattle.run_counts.proofs.Commissioned.{commission_came}
use Rattle.run_counts.proofs.Ends.{ended}
use Rattle.run_counts.proofs.Led.{HasGone, Followed, on, off, followed}
use Rattle.run_counts.proofs.Lengths.{IsBehind, stays_behind}
use Rattle.run_counts.proofs.Numbers.{in_step}
use Rattle.run_counts.proofs.Joined.{is_commissioned, is_settled, is_armed}

some_same : {X : Type 0} {x y : X} → Some x ≡ Some y → x ≡ y
some_same e = cc

module _ (s : SegmentValue) (legal : IsLegal s) (honest : HasHonestReplies s) where
  -- each exchange of commissioning sent one to three frames
  pub commissioned_sends : (run : RunEnd) → commissioned s ≡ Some run → run.answer ≡ Ok tt
      → (length (commission_steps s) ≤ length run.exchanges) × (length run.exchanges ≤ 3 * length (commission_steps s))
  commissioned_sends run is ok =
      let came = commission_came s legal run is (honest.commissioned run is).1 ok in
      let few = asked_few (loses s frames.Commission) 1 ((progress (master_of s) run.exchanges).sent + 1) (commission_steps s) came in
      let sent = progress_sent (master_of s) run.exchanges in
      let least = few.0 in
      let most = few.1 in
      (omega (arith, least, sent), omega (arith, most, sent))

  -- settling sends K + m + 1
  settle_sent : (first run : RunEnd) → commissioned s ≡ Some first → first.answer ≡ Ok tt → HasGone s Settle first run → run.answer ≡ Ok tt → length run.exchanges ≡ length first.exchanges + settle_frames (master_of s)
  settle_sent first run is done gone ok =
      let c = is_commissioned s legal honest first is done in
      let end : script (master_of s) Settle (first.exchanges ++ gone.more) ≡ ended (Ok tt) = ap (script (master_of s) Settle) (sym gone.all) ∙ gone.end ∙ ap ended ok in
      let many = (settle_sends (master_of s) first.exchanges gone.more c.begins gone.sends end).1 in
      let whole = ap (λ (es : List Exchange). length es) gone.all in
      let parts = length-append first.exchanges gone.more in
      omega (arith, many, whole, parts)

  pub settled_sends : (first run : RunEnd) → commissioned s ≡ Some first → settled s ≡ Some run → run.answer ≡ Ok tt → length run.exchanges ≡ length first.exchanges + settle_frames (master_of s)
  unfolding settled
  settled_sends first run was is ok = let f = followed s Settle (commissioned s) run is in by_follow f.0 f.1 f.2
    where
      by_follow : (one : RunEnd) → commissioned s ≡ Some one → Followed s Settle one run → length run.exchanges ≡ length first.exchanges + settle_frames (master_of s)
      by_follow one is_one (off e told same) = absurd (let x : Ok tt ≡ Err e = sym ok ∙ ap (λ (r : RunEnd). r.answer) (sym same) ∙ told in cc)
      by_follow one is_one (on done gone) =
          settle_sent one run is_one done gone ok ∙ ap (λ (r : RunEnd). length r.exchanges + settle_frames (master_of s)) (some_same (sym is_one ∙ was))

  -- running sends as many as it is given
  pub ran_sends : (first run : RunEnd) → armed s ≡ Some first → ran s ≡ Some run → run.answer ≡ Ok tt → length run.exchanges ≡ length first.exchanges + frames_given s
  unfolding ran
  ran_sends first run was is ok = let f = followed s (Run (frames_given s)) (armed s) run is in by_follow f.0 f.1 f.2
    where
      by_follow : (one : RunEnd) → armed s ≡ Some one → Followed s (Run (frames_given s)) one run → length run.exchanges ≡ length first.exchanges + frames_given s
      by_follow one is_one (off e told same) = absurd (let x : Ok tt ≡ Err e = sym ok ∙ ap (λ (r : RunEnd). r.answer) (sym same) ∙ told in cc)
      by_follow one is_one (on done gone) =
          let c = is_armed s legal honest one is_one done in
          let end : script (master_of s) (Run (frames_given s)) (one.exchanges ++ gone.more) ≡ ended (Ok tt) = ap (script (master_of s) (Run (frames_given s))) (sym gone.all) ∙ gone.end ∙ ap ended ok in
          let many = run_sends (master_of s) (frames_given s) one.exchanges gone.more c.begins gone.sends end in
          let whole = ap (λ (es : List Exchange). length es) gone.all in
          let parts = length-append one.exchanges gone.more in
          let here : length run.exchanges ≡ length one.exchanges + frames_given s = omega (arith, many, whole, parts) in
          here ∙ ap (λ (r : RunEnd). length r.exchanges + frames_given s) (some_same (sym is_one ∙ was))

  -- each exchange of arming sent one to three frames
  armed_by : (second run : RunEnd) → settled s ≡ Some second → second.answer ≡ Ok tt → HasGone s Arm second run → run.answer ≡ Ok tt
      → (length second.exchanges + length (clock_positions s) ≤ length run.exchanges) × (length run.exchanges ≤ length second.exchanges + 3 * length (clock_positions s))
  armed_by second run is done gone ok =
      let c = is_settled s legal honest second is done in
      let p = progress (master_of s) second.exchanges in
      let q = progress (master_of s) run.exchanges in
      let came = (arm_done s legal c.slaves second run c.led c.begins gone ok).1 in
      let few = asked_few (loses s frames.Drift) (first_arming s) (q.drifts + 1) (arm_steps c.slaves) came in
      let least = few.0 in
      let most = few.1 in
      let first = master_first s in
      let told = ap (λ (ps : List ℕ). length ps) c.clocks_told in
      let steps = length-map (clocks c.slaves) step.Arm in
      let sent_before = progress_sent (master_of s) second.exchanges in
      let sent = progress_sent (master_of s) run.exchanges in
      let drifts = c.begins.drifts in
      let both = in_step s legal second.exchanges second.state c.led.scripted c.led.runs in
      let both_sent = both.sent in
      let both_drift = both.drift in
      let both_all = both.commission in
      let before : IsBehind second.state.commission p = omega (arith, both_sent, both_drift, both_all) in
      let after = stays_behind s legal second.state.commission Arm tt tt second run c.led gone before in (
        omega (arith, least, first, told, steps, sent_before, sent, drifts, before, after),
        omega (arith, most, first, told, steps, sent_before, sent, drifts, before, after),
      )

  pub armed_sends : (second run : RunEnd) → settled s ≡ Some second → armed s ≡ Some run → run.answer ≡ Ok tt
      → (length second.exchanges + length (clock_positions s) ≤ length run.exchanges) × (length run.exchanges ≤ length second.exchanges + 3 * length (clock_positions s))
  unfolding armed
  armed_sends second run was is ok = let f = followed s Arm (settled s) run is in by_follow f.0 f.1 f.2
    where
      by_follow : (one : RunEnd) → settled s ≡ Some one → Followed s Arm one run
          → (length second.exchanges + length (clock_positions s) ≤ length run.exchanges) × (length run.exchanges ≤ length second.exchanges + 3 * length (clock_positions s))
      by_follow one is_one (off e told same) = absurd (let x : Ok tt ≡ Err e = sym ok ∙ ap (λ (r : RunEnd). r.answer) (sym same) ∙ told in cc)
      by_follow one is_one (on done gone) =
          let b = armed_by one run is_one done gone ok in
          let same = ap (λ (r : RunEnd). length r.exchanges) (some_same (sym is_one ∙ was)) in
          let least = b.0 in
          let most = b.1 in
          (omega (arith, least, same), omega (arith, most, same))
