-- No run sends more frames than three for each exchange of commissioning and arming, and those of settling and of the run phase.
use Rattle.std.proofs.Common.{◌≡◌, ℕ, ◌+◌, ◌*◌, ◌≤◌, List, length, length-append, map, Option, Some, None, Ok, Err, refl, sym, ap, subst, ◌∙◌, arith}
use Rattle.std.proofs.lemmas.List.{length-map}
use Rattle.std.proofs.lemmas.List.FromFn.{length-range_with_len}
use Rattle.dc_delay.specs.ShapeRows.{positions}
use Rattle.ecat_link.specs.Exchanges.{Exchange}
use Rattle.lost_step.specs.LostStep.{first_arming, loses}
use Rattle.master_script.specs.Progress.{Progress, arm_steps, first_steps, later_steps, progress}
use Rattle.master_script.specs.Script.{Answer, Arm, Commission, Run, Settle}
use Rattle.master_script.specs.Slaves.{SlaveWords, clocks as clocks_told, measuring as measuring_told}
use Rattle.master_script.specs.declared.step.MasterError.TheVariants.{Refused, Spent}
use Rattle.master_script.specs.declared.step.Refusal.{Refusal}
use Rattle.master_script.specs.declared.step.Step.TheVariants as step
use Rattle.master_script.proofs.Exported.{progress_sent}
use Rattle.run_counts.proofs.Premise.{honest_replies}
use Rattle.run_counts.proofs.Whole.{whole_follows}
use Rattle.run_counts.specs.Transmissions.{commissioning_sends, settling_sends}
use Rattle.run_counts.proofs.Counting.{settling_frames}
use Rattle.run_counts.proofs.Drifted.{went_of}
use Rattle.run_of_file.specs.MasterOfFile.{master_of}
use Rattle.run_of_file.specs.RunOfFile.{RunEnd, armed, commissioned, frames_given, ran, run_of, settled}
use Rattle.run_of_file.proofs.Exported.{as_many_kinds}
use Rattle.run_counts.proofs.Honest.{TellsKinds}
use Rattle.run_counts.specs.Arming.{ArmsBy, StopsArming}
use Rattle.run_counts.proofs.ArmingRun.{arm_stands, master_first}
use Rattle.run_counts.proofs.Commissioned.{has_commissioned}
use Rattle.run_counts.proofs.Joined.{armed_answers, commissioned_answers, is_settled, ran_answers, settled_answers}
use Rattle.run_counts.proofs.Shape.{armed_sends, commissioned_sends, ran_sends, settled_sends}
use Rattle.run_counts.specs.Commissioning.{StandsBy, Stops, steps_known}
use Rattle.run_counts.proofs.Ends.{ended, never_spent, refused_at_end}
use Rattle.run_counts.proofs.Led.{Followed, HasGone, followed, led_on, off, on}
use Rattle.run_counts.proofs.Numbers.{in_step}
use Rattle.segment_file.specs.Legal.{IsLegal}
use Rattle.segment_file.specs.Segment.{SegmentValue, clocks}
use Rattle.segment_file.proofs.Exported.{legal_frames}
use Rattle.loss_list.specs.declared.loss_row.Phase.TheVariants as phase
use Rattle.run_counts.proofs.Positions.{clocks_counted, commissioning_counted, measuring_counted}

module _ (s : SegmentValue) (legal : IsLegal s) where
  -- the steps that are known are at most those of the file
  first_many : length (first_steps (master_of s)) ≡ length s.rows + 1
  first_many =
      let kinds = as_many_kinds s legal in
      let identified = length-map (positions (length (master_of s).kinds)) step.Identify in
      let many = length-range_with_len 0 (length (master_of s).kinds) in
      omega (arith, kinds, identified, many)

  later_many : (ss : List SlaveWords) → length (later_steps ss) ≡ length (measuring_told ss) + length (clocks_told ss) + 2
  later_many ss =
      let both = length-append (map step.Times (measuring_told ss)) (map step.Set (clocks_told ss)) in
      let timed = length-map (measuring_told ss) step.Times in
      let set = length-map (clocks_told ss) step.Set in
      omega (arith, both, timed, set)

  known_few : (p : Progress) → TellsKinds s p.words → (o : Option ℕ) → p.words.reference ≡ o → length (steps_known (master_of s) p.words.slaves o) ≤ commissioning_sends s
  known_few p tells None is = let first = first_many in omega (arith, first)
  known_few p tells (Some r) is =
      let first = first_many in
      let later = later_many p.words.slaves in
      let whole = length-append (first_steps (master_of s)) (later_steps p.words.slaves) in
      let timed = ap (λ (ps : List ℕ). length ps) (tells.measuring r is) in
      let set = ap (λ (ps : List ℕ). length ps) (tells.clocks r is) in
      let measure = measuring_counted s legal in
      let clock = clocks_counted s legal in
      omega (arith, first, later, whole, timed, set, measure, clock)

  commissioned_few : (run : RunEnd) → commissioned s ≡ Some run → length run.exchanges ≤ 3 * commissioning_sends s
  commissioned_few run is = by_answer run.answer refl
    where
      by_answer : (answer : Answer) → run.answer ≡ answer → length run.exchanges ≤ 3 * commissioning_sends s
      by_answer (Ok tt) e =
          let most = (commissioned_sends s legal (honest_replies s legal) run is e).1 in
          let steps = commissioning_counted s legal in
          omega (arith, most, steps)
      by_answer (Err (Refused r)) e =
          let p = progress (master_of s) run.exchanges in
          let h = has_commissioned s legal run is in
          let refused = refused_at_end (master_of s) Commission run.exchanges r (h.1 ∙ ap ended e) in
          let stops : Stops (loses s phase.Commission) (master_of s) p r = subst (λ (o : Option Refusal). StandsBy (loses s phase.Commission) (master_of s) p o p.phase) refused h.0.stands in
          let few = stops.few in
          let known = known_few p ((honest_replies s legal).commissioned run is).1 p.words.reference refl in
          let sent = progress_sent (master_of s) run.exchanges in
          omega (arith, few, known, sent)
      by_answer (Err (Spent r)) e = absurd (never_spent (master_of s) Commission run.exchanges r ((has_commissioned s legal run is).1 ∙ ap ended e))

  settled_few : (run : RunEnd) → settled s ≡ Some run → length run.exchanges ≤ 3 * commissioning_sends s + settling_sends s
  unfolding settled
  settled_few run is = let f = followed s Settle (commissioned s) run is in by_follow f.0 f.1 f.2
    where
      by_follow : (first : RunEnd) → commissioned s ≡ Some first → Followed s Settle first run → length run.exchanges ≤ 3 * commissioning_sends s + settling_sends s
      by_follow first was (off e told same) =
          let few = commissioned_few first was in
          let here = ap (λ (r : RunEnd). length r.exchanges) same in
          omega (arith, few, here)
      by_follow first was (on ok gone) =
          let honest = honest_replies s legal in
          let few = commissioned_few first was in
          let done = settled_answers s legal honest run is ∙ sym (commissioned_answers s legal honest first was) ∙ ok in
          let sends = settled_sends s legal honest first run was is done in
          let frames = settling_frames s in
          omega (arith, few, sends, frames)

  -- arming that is refused
  refused_few : (second run : RunEnd) (r : Refusal) → settled s ≡ Some second → second.answer ≡ Ok tt → HasGone s Arm second run → run.answer ≡ Err (Refused r)
      → length run.exchanges ≤ length second.exchanges + 3 * clocks s.rows
  refused_few second run r is done gone e =
      let c = is_settled s legal (honest_replies s legal) second is done in
      let p = progress (master_of s) run.exchanges in
      let all = arm_steps c.slaves in
      let lost = loses s phase.Drift in
      let refused = refused_at_end (master_of s) Arm run.exchanges r (gone.end ∙ ap ended e) in
      let stops : StopsArming lost (first_arming s) all p r =
      subst (λ (o : Option Refusal). ArmsBy lost (first_arming s) all p o p.phase) refused (arm_stands s legal c.slaves second run c.led c.begins gone) in
      let few = stops.few in
      let led = led_on s Arm second run tt c.led gone in
      let last : run.state.drift ≡ second.state.drift + length gone.more = (went_of s legal Arm tt second run c.led gone).last in
      let at_first = (in_step s legal second.exchanges second.state c.led.scripted c.led.runs).drift in
      let at_last = (in_step s legal run.exchanges run.state led.scripted led.runs).drift in
      let begins = c.begins.drifts in
      let first = master_first s in
      let whole = ap (λ (es : List Exchange). length es) gone.all in
      let parts = length-append second.exchanges gone.more in
      let steps = length-map (clocks_told c.slaves) step.Arm in
      let told = ap (λ (ps : List ℕ). length ps) c.clocks_told in
      let many = clocks_counted s legal in
      omega (arith, few, last, at_first, at_last, begins, first, whole, parts, steps, told, many)

  armed_few : (run : RunEnd) → armed s ≡ Some run → length run.exchanges ≤ 3 * commissioning_sends s + settling_sends s + 3 * clocks s.rows
  unfolding armed
  armed_few run is = let f = followed s Arm (settled s) run is in by_follow f.0 f.1 f.2
    where
      by_answer : (second : RunEnd) (answer : Answer) → settled s ≡ Some second → second.answer ≡ Ok tt → HasGone s Arm second run → run.answer ≡ answer
          → length run.exchanges ≤ length second.exchanges + 3 * clocks s.rows
      by_answer second (Ok tt) was ok gone e =
          let most = (armed_sends s legal (honest_replies s legal) second run was is e).1 in
          let many = clocks_counted s legal in
          omega (arith, most, many)
      by_answer second (Err (Refused r)) was ok gone e = refused_few second run r was ok gone e
      by_answer second (Err (Spent r)) was ok gone e = absurd (never_spent (master_of s) Arm run.exchanges r (gone.end ∙ ap ended e))

      by_follow : (second : RunEnd) → settled s ≡ Some second → Followed s Arm second run → length run.exchanges ≤ 3 * commissioning_sends s + settling_sends s + 3 * clocks s.rows
      by_follow second was (off e told same) =
          let few = settled_few second was in
          let here = ap (λ (r : RunEnd). length r.exchanges) same in
          omega (arith, few, here)
      by_follow second was (on ok gone) =
          let few = settled_few second was in
          let more = by_answer second run.answer was ok gone refl in
          omega (arith, few, more)

  ran_few : (run : RunEnd) → ran s ≡ Some run → length run.exchanges ≤ 3 * commissioning_sends s + settling_sends s + 3 * clocks s.rows + frames_given s
  unfolding ran
  ran_few run is = let f = followed s (Run (frames_given s)) (armed s) run is in by_follow f.0 f.1 f.2
    where
      by_follow : (third : RunEnd) → armed s ≡ Some third → Followed s (Run (frames_given s)) third run
          → length run.exchanges ≤ 3 * commissioning_sends s + settling_sends s + 3 * clocks s.rows + frames_given s
      by_follow third was (off e told same) =
          let few = armed_few third was in
          let here = ap (λ (r : RunEnd). length r.exchanges) same in
          omega (arith, few, here)
      by_follow third was (on ok gone) =
          let honest = honest_replies s legal in
          let few = armed_few third was in
          let done = ran_answers s legal honest run is ∙ sym (armed_answers s legal honest third was) ∙ ok in
          let sends = ran_sends s legal honest third run was is done in
          omega (arith, few, sends)

  -- and these are few
  pub few_in_commissioning : (run : RunEnd) → commissioned s ≡ Some run → length run.exchanges ≤ 100000
  few_in_commissioning run is = let few = commissioned_few run is in let most = legal_frames s legal in omega (arith, few, most)

  pub few_in_settling : (run : RunEnd) → settled s ≡ Some run → length run.exchanges ≤ 100000
  few_in_settling run is = let few = settled_few run is in let most = legal_frames s legal in omega (arith, few, most)

  pub few_in_arming : (run : RunEnd) → armed s ≡ Some run → length run.exchanges ≤ 100000
  few_in_arming run is = let few = armed_few run is in let most = legal_frames s legal in omega (arith, few, most)

  pub few_in_running : (run : RunEnd) → ran s ≡ Some run → length run.exchanges ≤ 100000
  few_in_running run is = let few = ran_few run is in let most = legal_frames s legal in omega (arith, few, most)

  pub few_in_all : (run : RunEnd) → run_of s ≡ Some run → length run.exchanges ≤ 100000
  few_in_all run is =
      let f = whole_follows s run is in
      let few = few_in_running f.last f.is in
      let same = ap (λ (es : List Exchange). length es) f.exchanges in
      omega (arith, few, same)
