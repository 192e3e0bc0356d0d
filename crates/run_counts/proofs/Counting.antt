-- The frames of a run that is not refused, phase by phase.
use Rattle.std.proofs.Common.{◌≡◌, ℕ, ◌+◌, List, ◌++◌, length, length-append, Option, Some, Ok, Err, refl, sym, ap, subst, ◌∙◌, arith}
use Rattle.std.proofs.lemmas.List.{length-map}
use Rattle.ecat_link.specs.Exchanges.{Exchange, lost_among}
use Rattle.lost_step.specs.LostStep.{commission_steps, first_arming, loses}
use Rattle.master_script.specs.Config.{settle_frames}
use Rattle.master_script.specs.Progress.{arm_steps, progress}
use Rattle.master_script.specs.Script.{Arm, Call, Run, Settle}
use Rattle.master_script.specs.Slaves.{clocks as clocks_told}
use Rattle.master_script.specs.declared.step.Step.TheVariants as step
use Rattle.master_script.proofs.Exported.{progress_sent}
use Rattle.run_counts.proofs.Premise.{honest_replies}
use Rattle.run_counts.proofs.Whole.{whole_follows}
use Rattle.run_counts.specs.Numbered.{AreNumbered}
use Rattle.run_counts.specs.Phases.{Phases}
use Rattle.run_counts.specs.Transmissions.{AreCounted, commissioning_sends, settling_sends}
use Rattle.run_counts.proofs.Drifted.{commission_numbered, went_of}
use Rattle.run_counts.proofs.Numbering.{lost_listed}
use Rattle.run_of_file.specs.MasterOfFile.{master_of}
use Rattle.run_of_file.specs.RunOfFile.{RunEnd, armed, commissioned, followed_by, frames_given, ran, run_of, settled}
use Rattle.run_counts.proofs.ArmingRun.{arm_done, master_first}
use Rattle.run_counts.proofs.Commissioned.{commission_came}
use Rattle.run_counts.proofs.Joined.{is_settled}
use Rattle.run_counts.proofs.Shape.{ran_sends, settled_sends}
use Rattle.run_counts.proofs.Led.{Followed, HasGone, followed, led_on, off, on}
use Rattle.run_counts.proofs.Numbers.{in_step}
use Rattle.segment_file.specs.Legal.{IsLegal}
use Rattle.segment_file.specs.Segment.{SegmentValue, clocks}
use Rattle.loss_list.specs.declared.loss_row.Phase.TheVariants as phase
use Rattle.run_counts.proofs.StepNumbers.{numbers_used}
use Rattle.run_counts.proofs.Positions.{clocks_counted, commissioning_counted}

-- a call behind one that ended with Ok
pub record Came (s : SegmentValue) (call : Call) (o : Option RunEnd) (run : RunEnd) : Type 0 where
  pub before : RunEnd
  pub is : o ≡ Some before
  pub ok : before.answer ≡ Ok tt
  pub gone : HasGone s call before run

came_by : (s : SegmentValue) (call : Call) (o : Option RunEnd) (before run : RunEnd) → o ≡ Some before → Followed s call before run → run.answer ≡ Ok tt → Came s call o run
came_by s call o before run is (off e told same) ok = absurd (let x : Ok tt ≡ Err e = sym ok ∙ ap (λ (r : RunEnd). r.answer) (sym same) ∙ told in cc)
came_by s call o before run is (on done gone) ok = record { before = before; is = is; ok = done; gone = gone }

came : (s : SegmentValue) (call : Call) (o : Option RunEnd) (run : RunEnd) → followed_by call s o ≡ Some run → run.answer ≡ Ok tt → Came s call o run
came s call o run is ok = let f = followed s call o run is in came_by s call o f.0 run f.1 f.2 ok

pub settled_came : (s : SegmentValue) (run : RunEnd) → settled s ≡ Some run → run.answer ≡ Ok tt → Came s Settle (commissioned s) run
unfolding settled
settled_came s run is ok = came s Settle (commissioned s) run is ok

pub armed_came : (s : SegmentValue) (run : RunEnd) → armed s ≡ Some run → run.answer ≡ Ok tt → Came s Arm (settled s) run
unfolding armed
armed_came s run is ok = came s Arm (settled s) run is ok

pub ran_came : (s : SegmentValue) (run : RunEnd) → ran s ≡ Some run → run.answer ≡ Ok tt → Came s (Run (frames_given s)) (armed s) run
unfolding ran
ran_came s run is ok = came s (Run (frames_given s)) (armed s) run is ok

pub settling_frames : (s : SegmentValue) → settle_frames (master_of s) ≡ settling_sends s
unfolding master_of
settling_frames s = refl

module _ (s : SegmentValue) (legal : IsLegal s) where
  pub commission_counted : (run : RunEnd) → commissioned s ≡ Some run → run.answer ≡ Ok tt → length run.exchanges ≡ commissioning_sends s + lost_among run.exchanges
  commission_counted run is ok =
      let honest = honest_replies s legal in
      let lost = loses s phase.Commission in
      let all = commission_came s legal run is (honest.commissioned run is).1 ok in
      let sent = progress_sent (master_of s) run.exchanges in
      let same : (progress (master_of s) run.exchanges).sent + 1 ≡ 1 + length run.exchanges = omega (arith, sent) in
      let used = numbers_used lost 1 (length run.exchanges) (commission_steps s) (all ∙ ap (λ (n : ℕ). Ok n) same) in
      let listed = lost_listed s phase.Commission 1 run.exchanges (commission_numbered s legal run is) in
      let steps = commissioning_counted s legal in
      omega (arith, used, listed, steps)

  -- the frames of arming are numbered from its first number on
  arming_counted : (second third : RunEnd) → settled s ≡ Some second → second.answer ≡ Ok tt → (gone : HasGone s Arm second third) → third.answer ≡ Ok tt
      → length gone.more ≡ clocks s.rows + lost_among gone.more
  arming_counted second third is done gone ok =
      let honest = honest_replies s legal in
      let lost = loses s phase.Drift in
      let c = is_settled s legal honest second is done in
      let all = (arm_done s legal c.slaves second third c.led c.begins gone ok).1 in
      let went = went_of s legal Arm tt second third c.led gone in
      let led = led_on s Arm second third tt c.led gone in
      let at_first = (in_step s legal second.exchanges second.state c.led.scripted c.led.runs).drift in
      let at_last = (in_step s legal third.exchanges third.state led.scripted led.runs).drift in
      let begins = c.begins.drifts in
      let first = master_first s in
      let last : third.state.drift ≡ second.state.drift + length gone.more = went.last in
      let number : second.state.drift + 1 ≡ first_arming s = omega (arith, at_first, begins, first) in
      let end : (progress (master_of s) third.exchanges).drifts + 1 ≡ first_arming s + length gone.more = omega (arith, at_last, last, number) in
      let used = numbers_used lost (first_arming s) (length gone.more) (arm_steps c.slaves) (all ∙ ap (λ (n : ℕ). Ok n) end) in
      let listed = lost_listed s phase.Drift (first_arming s) gone.more (subst (λ (n : ℕ). AreNumbered s phase.Drift n gone.more) number went.numbered) in
      let steps = length-map (clocks_told c.slaves) step.Arm in
      let told = ap (λ (ps : List ℕ). length ps) c.clocks_told in
      let many = clocks_counted s legal in
      omega (arith, used, listed, steps, told, many)

  -- all phases
  pub phases_counted : (run : RunEnd) → ran s ≡ Some run → run.answer ≡ Ok tt → (phases : Phases s run) × AreCounted s run phases
  phases_counted run is ok =
      let honest = honest_replies s legal in
      let c = ran_came s run is ok in
      let b = armed_came s c.before c.is c.ok in
      let a = settled_came s b.before b.is b.ok in
      let phases : Phases s run = record {
        commissioning = a.before.exchanges;
        settling = a.gone.more;
        arming = b.gone.more;
        running = c.gone.more;
        commissioned = record { run = a.before; is = a.is; ok = a.ok; all = refl };
        settled = record { run = b.before; is = b.is; ok = b.ok; all = a.gone.all };
        armed = record { run = c.before; is = c.is; ok = c.ok; all = b.gone.all ∙ ap (λ (es : List Exchange). es ++ b.gone.more) a.gone.all };
        all = c.gone.all ∙ ap (λ (es : List Exchange). es ++ c.gone.more) (b.gone.all ∙ ap (λ (es : List Exchange). es ++ b.gone.more) a.gone.all);
      } in
      let whole_settled = ap (λ (es : List Exchange). length es) a.gone.all in
      let parts_settled = length-append a.before.exchanges a.gone.more in
      let whole_armed = ap (λ (es : List Exchange). length es) b.gone.all in
      let parts_armed = length-append b.before.exchanges b.gone.more in
      let whole_ran = ap (λ (es : List Exchange). length es) c.gone.all in
      let parts_ran = length-append c.before.exchanges c.gone.more in
      let commissioning = commission_counted a.before a.is a.ok in
      let settle = settled_sends s legal honest a.before b.before a.is b.is b.ok in
      let frames = settling_frames s in
      let arming = arming_counted b.before c.before b.is b.ok b.gone c.ok in
      let run_sends = ran_sends s legal honest c.before run c.is is ok in
      let settling : length a.gone.more ≡ settling_sends s = omega (arith, whole_settled, parts_settled, settle, frames) in
      let running : length c.gone.more ≡ frames_given s = omega (arith, whole_ran, parts_ran, run_sends) in (
        phases,
        record {
          commissioning = commissioning;
          settling = settling;
          arming = arming;
          running = running;
          whole = omega (arith, commissioning, settling, arming, running, whole_settled, parts_settled, whole_armed, parts_armed, whole_ran, parts_ran);
        },
      )

  -- the whole run has the exchanges of its last phase
  pub whole_counted : (run : RunEnd) → run_of s ≡ Some run → run.answer ≡ Ok tt → (phases : Phases s run) × AreCounted s run phases
  whole_counted run is ok =
      let f = whole_follows s run is in
      let last = phases_counted f.last f.is (sym f.answer ∙ ok) in
      let ps = last.0 in
      let counted = last.1 in (
        record {
          commissioning = ps.commissioning;
          settling = ps.settling;
          arming = ps.arming;
          running = ps.running;
          commissioned = ps.commissioned;
          settled = ps.settled;
          armed = ps.armed;
          all = f.exchanges ∙ ps.all;
        },
        record {
          commissioning = counted.commissioning;
          settling = counted.settling;
          arming = counted.arming;
          running = counted.running;
          whole = ap (λ (es : List Exchange). length es) f.exchanges ∙ counted.whole;
        },
      )
