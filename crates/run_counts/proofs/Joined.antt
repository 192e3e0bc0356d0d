-- The answers of all phases, by the list of losses.
use Rattle.std.proofs.Common.{◌≡◌, true, false, List, Option, Some, None, Ok, Err, refl, sym, ap, ◌∙◌}
use Rattle.std.specs.Option.{option_or}
use Rattle.master_script.specs.Begins.{Begins}
use Rattle.master_script.specs.Progress.{Settling, Running, progress}
use Rattle.master_script.specs.Script.{Settle, Arm, Run}
use Rattle.master_script.specs.Slaves.{SlaveWords, clocks}
use Rattle.master_script.specs.declared.step.MasterError.{MasterError}
use Rattle.master_script.specs.declared.step.Step.{Step}
use Rattle.master_script.proofs.Exported.{commission_done}
use Rattle.segment_file.specs.Segment.{SegmentValue}
use Rattle.segment_file.specs.Legal.{IsLegal}
use Rattle.lost_step.specs.LostStep.{clock_positions, lost_in_commissioning, lost_in_arming, lost_step_of}
use Rattle.run_of_file.specs.MasterOfFile.{master_of}
use Rattle.run_of_file.specs.RunOfFile.{RunEnd, frames_given, commissioned, settled, armed, ran}
use Rattle.run_counts.specs.Answers.{answer_for}
use Rattle.run_counts.proofs.Honest.{HasHonestReplies}
use Rattle.run_counts.proofs.ArmingRun.{arm_answers, arm_done}
use Rattle.run_counts.proofs.Commissioned.{has_commissioned, commission_answers, known_clocks}
use Rattle.run_counts.proofs.Ends.{ended}
use Rattle.run_counts.proofs.Led.{IsLed, Followed, on, off, followed, led_on}
use Rattle.run_counts.proofs.Running.{run_answers}
use Rattle.run_counts.proofs.Settled.{BeginsArming, settle_answers, settle_done}

-- the lost step, without arming and with it
or_none : (o : Option Step) → option_or o None ≡ o
or_none None = refl
or_none (Some x) = refl

early : (s : SegmentValue) → lost_step_of s false ≡ lost_in_commissioning s
unfolding lost_step_of
early s = or_none (lost_in_commissioning s)

-- where a step of commissioning is lost, arming does not matter
late_refused : (s : SegmentValue) (e : MasterError) → answer_for (lost_step_of s false) ≡ Err e → answer_for (lost_step_of s false) ≡ answer_for (lost_step_of s true)
unfolding lost_step_of
late_refused s e h = by_step (lost_in_commissioning s) h
  where
    by_step : (o : Option Step) → answer_for (option_or o None) ≡ Err e → answer_for (option_or o None) ≡ answer_for (option_or o (lost_in_arming s))
    by_step None h = absurd (let x = h in cc)
    by_step (Some step) h = refl

late_came : (s : SegmentValue) → answer_for (lost_step_of s false) ≡ Ok tt → lost_in_arming s ≡ lost_step_of s true
unfolding lost_step_of
late_came s h = by_step (lost_in_commissioning s) h
  where
    by_step : (o : Option Step) → answer_for (option_or o None) ≡ Ok tt → lost_in_arming s ≡ option_or o (lost_in_arming s)
    by_step None h = refl
    by_step (Some step) h = absurd (let x = h in cc)

-- where a phase ended with Ok and the next begins
pub record IsCommissioned (s : SegmentValue) (run : RunEnd) : Type 0 where
  pub led : IsLed s run
  pub begins : Begins (master_of s) Settling (progress (master_of s) run.exchanges)
  pub clocks_told : clocks (progress (master_of s) run.exchanges).words.slaves ≡ clock_positions s

pub record IsSettled (s : SegmentValue) (run : RunEnd) : Type 0 where
  pub slaves : List SlaveWords
  pub clocks_told : clocks slaves ≡ clock_positions s
  pub led : IsLed s run
  pub begins : BeginsArming s slaves run.exchanges

pub record IsArmed (s : SegmentValue) (run : RunEnd) : Type 0 where
  pub led : IsLed s run
  pub begins : Begins (master_of s) Running (progress (master_of s) run.exchanges)

module _ (s : SegmentValue) (legal : IsLegal s) (honest : HasHonestReplies s) where
  pub commissioned_answers : (run : RunEnd) → commissioned s ≡ Some run → run.answer ≡ answer_for (lost_step_of s false)
  commissioned_answers run is =
      let h = honest.commissioned run is in
      commission_answers s legal run is h.1 h.0 ∙ ap answer_for (sym (early s))

  pub is_commissioned : (run : RunEnd) → commissioned s ≡ Some run → run.answer ≡ Ok tt → IsCommissioned s run
  is_commissioned run is ok =
      let h = has_commissioned s legal run is in
      record {
        led = record { scripted = h.0.scripted; runs = h.0.runs };
        begins = (commission_done (master_of s) run.exchanges h.0.sends (h.1 ∙ ap ended ok)).0;
        clocks_told = known_clocks s legal run is (honest.commissioned run is).1 ok;
      }

  pub settled_answers : (run : RunEnd) → settled s ≡ Some run → run.answer ≡ answer_for (lost_step_of s false)
  unfolding settled
  settled_answers run is = let f = followed s Settle (commissioned s) run is in by_follow f.0 f.1 f.2
    where
      by_follow : (first : RunEnd) → commissioned s ≡ Some first → Followed s Settle first run → run.answer ≡ answer_for (lost_step_of s false)
      by_follow first was (off e told same) = ap (λ (r : RunEnd). r.answer) (sym same) ∙ commissioned_answers first was
      by_follow first was (on ok gone) =
          let c = is_commissioned first was ok in
          settle_answers s legal first run c.led c.begins gone (honest.settled run is) ∙ sym ok ∙ commissioned_answers first was

  pub is_settled : (run : RunEnd) → settled s ≡ Some run → run.answer ≡ Ok tt → IsSettled s run
  unfolding settled
  is_settled run is ok = let f = followed s Settle (commissioned s) run is in by_follow f.0 f.1 f.2
    where
      by_follow : (first : RunEnd) → commissioned s ≡ Some first → Followed s Settle first run → IsSettled s run
      by_follow first was (off e told same) = absurd (let x : Ok tt ≡ Err e = sym ok ∙ ap (λ (r : RunEnd). r.answer) (sym same) ∙ told in cc)
      by_follow first was (on done gone) =
          let c = is_commissioned first was done in
          record {
            slaves = (progress (master_of s) first.exchanges).words.slaves;
            clocks_told = c.clocks_told;
            led = led_on s Settle first run tt c.led gone;
            begins = settle_done s legal first run c.led c.begins gone ok;
          }

  pub armed_answers : (run : RunEnd) → armed s ≡ Some run → run.answer ≡ answer_for (lost_step_of s true)
  unfolding armed
  armed_answers run is = let f = followed s Arm (settled s) run is in by_follow f.0 f.1 f.2
    where
      by_follow : (first : RunEnd) → settled s ≡ Some first → Followed s Arm first run → run.answer ≡ answer_for (lost_step_of s true)
      by_follow first was (off e told same) =
          let a = settled_answers first was in
          ap (λ (r : RunEnd). r.answer) (sym same) ∙ a ∙ late_refused s e (sym a ∙ told)
      by_follow first was (on ok gone) =
          let c = is_settled first was ok in
          arm_answers s legal c.slaves first run c.clocks_told c.led c.begins gone (honest.armed run is) ∙ ap answer_for (late_came s (sym (settled_answers first was) ∙ ok))

  pub is_armed : (run : RunEnd) → armed s ≡ Some run → run.answer ≡ Ok tt → IsArmed s run
  unfolding armed
  is_armed run is ok = let f = followed s Arm (settled s) run is in by_follow f.0 f.1 f.2
    where
      by_follow : (first : RunEnd) → settled s ≡ Some first → Followed s Arm first run → IsArmed s run
      by_follow first was (off e told same) = absurd (let x : Ok tt ≡ Err e = sym ok ∙ ap (λ (r : RunEnd). r.answer) (sym same) ∙ told in cc)
      by_follow first was (on done gone) =
          let c = is_settled first was done in
          record { led = led_on s Arm first run tt c.led gone; begins = (arm_done s legal c.slaves first run c.led c.begins gone ok).0 }

  pub ran_answers : (run : RunEnd) → ran s ≡ Some run → run.answer ≡ answer_for (lost_step_of s true)
  unfolding ran
  ran_answers run is = let f = followed s (Run (frames_given s)) (armed s) run is in by_follow f.0 f.1 f.2
    where
      by_follow : (first : RunEnd) → armed s ≡ Some first → Followed s (Run (frames_given s)) first run → run.answer ≡ answer_for (lost_step_of s true)
      by_follow first was (off e told same) = ap (λ (r : RunEnd). r.answer) (sym same) ∙ armed_answers first was
      by_follow first was (on ok gone) =
          let c = is_armed first was ok in
          run_answers s legal first run c.led c.begins gone (honest.ran run is) ∙ sym ok ∙ armed_answers first was
