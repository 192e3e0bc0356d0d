-- Behind commissioning the slaves hold what they held.
use Rattle.std.proofs.Common.{◌≡◌, ℕ, ◌+◌, ◌<◌, List, [], ◌∷◌, ◌++◌, length, map, Option, Some, None, inl, refl, sym, ap, subst, ◌∙◌, arith}
use Rattle.std.specs.Prelude.{Ok, Err, option_map, slice_get}
use Rattle.std.specs.List.{AllByRecursion}
use Rattle.std.proofs.lemmas.Option.{slice_get-map}
use Rattle.copy_law.specs.Untouched.{HoldAlike, IsUntouched}
use Rattle.copy_law.proofs.Untouching.{drift_step, times_untouched}
use Rattle.copy_law.proofs.Slaves.{IsHeldOn, IsKept, IsQuiet, finished_alike, frames_alike}
use Rattle.ecat_frame.specs.FrameGrammar.{DatagramValue, FrameValue}
use Rattle.ecat_link.specs.Exchanges.{Exchange}
use Rattle.ecat_link.specs.Serves.{Send}
use Rattle.frame_pass.specs.Invariants.{IsSoundSegment}
use Rattle.frame_pass.specs.SegmentState.{phase_of}
use Rattle.frame_pass.specs.SlaveState.{Slave, holds}
use Rattle.honest_slaves.proofs.Exported.{sent_by}
use Rattle.master_script.specs.Config.{ConfigValue}
use Rattle.master_script.specs.Progress.{progress}
use Rattle.master_script.specs.Script.{Answer, Call, script}
use Rattle.master_script.specs.Scripted.{AreScripted, more, none}
use Rattle.master_script.specs.Steps.{datagrams_of}
use Rattle.master_script.specs.Words.{Words}
use Rattle.master_script.specs.declared.step.Step.{Step}
use Rattle.master_script.proofs.Exported.{wants}
use Rattle.run_counts.specs.Numbered.{AreNumbered}
use Rattle.run_counts.proofs.Exported.{Drifted, armed_drifted, ran_drifted, settled_drifted, some_kinds}
use Rattle.run_of_file.specs.MasterOfFile.{master_of}
use Rattle.run_of_file.specs.RunOfFile.{RunEnd, armed, commissioned, end_of_run, frames_given, ran, rounded_off, run_of, settled}
use Rattle.run_of_file.proofs.Exported.{commissioned_on, ran_on}
use Rattle.segment_file.specs.Legal.{IsLegal}
use Rattle.segment_file.specs.Segment.{SegmentValue}
use Rattle.loss_list.specs.declared.loss_row.Phase.TheVariants as phase

some_same : {X : Type 0} {x y : X} → Some x ≡ Some y → x ≡ y
some_same e = cc

-- an exchange sends the frame of a step
record IsOfStep (cfg : ConfigValue) (e : Exchange) : Type 0 where
  words : Words
  step : Step
  is : e.sent.datagrams ≡ datagrams_of cfg words step

module _ (cfg : ConfigValue) (frames : ℕ) (some : 0 < length cfg.kinds) where
  step_of : (call : Call) (es : List Exchange) (e : Exchange) → script cfg call es ≡ Send e.wait_ns e.sent → IsOfStep cfg e
  step_of call es e next =
      let w = wants cfg call es e.wait_ns e.sent some next in
      record { words = (progress cfg es).words; step = w.step; is = ap (λ (f : FrameValue). f.datagrams) w.is ∙ sent_by cfg _ w.step }

  all_push : (es : List Exchange) (e : Exchange) → AllByRecursion (IsOfStep cfg) es → IsOfStep cfg e → AllByRecursion (IsOfStep cfg) (es ++ e ∷ [])
  all_push [] e all here = (here, tt)
  all_push (x ∷ es) e all here = (all.0, all_push es e all.1 here)

  scripted_steps : (es : List Exchange) → AreScripted cfg frames es → AllByRecursion (IsOfStep cfg) es
  scripted_steps _ none = tt
  scripted_steps _ (more es e call before limited next) = all_push es e (scripted_steps es before) (step_of call es e next)

  all_behind : (xs ys : List Exchange) → AllByRecursion (IsOfStep cfg) (xs ++ ys) → AllByRecursion (IsOfStep cfg) ys
  all_behind [] ys all = all
  all_behind (x ∷ xs) ys all = all_behind xs ys all.1

-- the drift frames among them are quiet
quiet_frames : (s : SegmentValue) (cfg : ConfigValue) (at n : ℕ) → IsUntouched at n → (number : ℕ) (es : List Exchange) → AllByRecursion (IsOfStep cfg) es → AreNumbered s phase.Drift number es
    → AllByRecursion (λ (e : Exchange). IsQuiet at n e.sent.datagrams) es
quiet_frames s cfg at n far number [] steps numbered = tt
quiet_frames s cfg at n far number (e ∷ es) steps numbered =
    let one = steps.0 in
    let drifts : phase_of (datagrams_of cfg one.words one.step) ≡ phase.Drift = ap (λ (ds : List DatagramValue). phase_of ds) (sym one.is) ∙ numbered.0 in
    let quiet : IsQuiet at n (datagrams_of cfg one.words one.step) = record {
      place = drift_step cfg one.words one.step at n drifts far;
      latch = drift_step cfg one.words one.step 0x0900 4 drifts (times_untouched 0x0900 4 (inl (omega arith, omega arith)));
    } in
    (subst (IsQuiet at n) (sym one.is) quiet, quiet_frames s cfg at n far (number + 1) es steps.1 numbered.2)

module _ {X : Type 0} (see : Slave → X) (at n : ℕ) (kept : IsKept see at n) (far : IsUntouched at n) (s : SegmentValue) (legal : IsLegal s) where
  pub drifted_alike : (first run : RunEnd) → commissioned s ≡ Some first → Drifted s first run → map see run.state.slaves ≡ map see first.state.slaves
  drifted_alike first run was d =
      let cfg = master_of s in
      let some = some_kinds s legal in
      let steps = all_behind cfg (frames_given s) some first.exchanges d.more
      (subst (AllByRecursion (IsOfStep cfg)) d.all (scripted_steps cfg (frames_given s) some run.exchanges d.led.scripted)) in
      frames_alike see at n kept d.more first.state run.state ((commissioned_on s legal).on first was).timely (quiet_frames s cfg at n far 1 d.more steps d.numbered) d.runs

  pub settled_alike : (first run : RunEnd) → commissioned s ≡ Some first → settled s ≡ Some run → map see run.state.slaves ≡ map see first.state.slaves
  settled_alike first run was is = drifted_alike first run was (settled_drifted s legal first run was is)

  pub armed_alike : (first run : RunEnd) → commissioned s ≡ Some first → armed s ≡ Some run → map see run.state.slaves ≡ map see first.state.slaves
  armed_alike first run was is = drifted_alike first run was (armed_drifted s legal first run was is)

  pub ran_alike : (first run : RunEnd) → commissioned s ≡ Some first → ran s ≡ Some run → map see run.state.slaves ≡ map see first.state.slaves
  ran_alike first run was is = drifted_alike first run was (ran_drifted s legal first run was is)

  -- behind the last phase the clocks go on
  rounded_alike : (run : RunEnd) (answer : Answer) → IsSoundSegment run.state → map see (rounded_off s run answer).state.slaves ≡ map see run.state.slaves
  rounded_alike run (Ok tt) sound = finished_alike see at n kept (end_of_run s run.state) run.state sound
  rounded_alike run (Err e) sound = refl

  pub whole_alike : (first run : RunEnd) → commissioned s ≡ Some first → run_of s ≡ Some run → map see run.state.slaves ≡ map see first.state.slaves
  unfolding run_of
  whole_alike first run was is = by (ran s) refl is
    where
      by : (o : Option RunEnd) → ran s ≡ o → option_map (λ r. rounded_off s r r.answer) o ≡ Some run → map see run.state.slaves ≡ map see first.state.slaves
      by None e whole = absurd (let x = whole in cc)
      by (Some last) e whole =
          let same : rounded_off s last last.answer ≡ run = cc in
          ap (λ (r : RunEnd). map see r.state.slaves) (sym same) ∙ rounded_alike last last.answer ((ran_on s legal).on last e).timely ∙ ran_alike first last was e

-- of the slave at a position
pub alike_at : {X : Type 0} (see : Slave → X) (before after : List Slave) → map see after ≡ map see before → (p : ℕ) (v w : Slave) → slice_get before p ≡ Some v → slice_get after p ≡ Some w → see w ≡ see v
alike_at see before after alike p v w is behind =
    some_same
    (sym (slice_get-map see after p ∙ ap (option_map see) behind) ∙ ap (λ xs. slice_get xs p) alike ∙ slice_get-map see before p ∙ ap (option_map see) is)

module _ (s : SegmentValue) (legal : IsLegal s) (at n : ℕ) (held : IsHeldOn at n) (far : IsUntouched at n) where
  pub settled_holds : (first run : RunEnd) → commissioned s ≡ Some first → settled s ≡ Some run → HoldAlike at n first.state.slaves run.state.slaves
  settled_holds first run was is = alike_at (λ v. holds n at v.registers) first.state.slaves run.state.slaves (settled_alike (λ v. holds n at v.registers) at n held far s legal first run was is)

  pub armed_holds : (first run : RunEnd) → commissioned s ≡ Some first → armed s ≡ Some run → HoldAlike at n first.state.slaves run.state.slaves
  armed_holds first run was is = alike_at (λ v. holds n at v.registers) first.state.slaves run.state.slaves (armed_alike (λ v. holds n at v.registers) at n held far s legal first run was is)

  pub ran_holds : (first run : RunEnd) → commissioned s ≡ Some first → ran s ≡ Some run → HoldAlike at n first.state.slaves run.state.slaves
  ran_holds first run was is = alike_at (λ v. holds n at v.registers) first.state.slaves run.state.slaves (ran_alike (λ v. holds n at v.registers) at n held far s legal first run was is)

  pub whole_holds : (first run : RunEnd) → commissioned s ≡ Some first → run_of s ≡ Some run → HoldAlike at n first.state.slaves run.state.slaves
  whole_holds first run was is = alike_at (λ v. holds n at v.registers) first.state.slaves run.state.slaves (whole_alike (λ v. holds n at v.registers) at n held far s legal first run was is)
