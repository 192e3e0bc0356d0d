-- Settling ends with Ok, and arming begins behind K + m + 1 drift frames.
use Rattle.std.proofs.Common.{◌≡◌, ℕ, ◌+◌, ◌≤◌, true, false, List, ◌++◌, Option, Some, None, is_none, Ok, Err, refl, sym, ap, subst, ◌∙◌, arith}
use Rattle.ecat_link.specs.Exchanges.{Exchange}
use Rattle.ecat_link.specs.Serves.{Send}
use Rattle.master_script.specs.Begins.{Begins}
use Rattle.master_script.specs.Config.{ConfigValue, settle_frames}
use Rattle.master_script.specs.Progress.{Settling, Arming, Progress, progress, after, arm_steps}
use Rattle.master_script.specs.Script.{Answer, script, Settle}
use Rattle.master_script.specs.Slaves.{SlaveWords}
use Rattle.master_script.specs.declared.step.MasterError.TheVariants.{Refused, Spent}
use Rattle.master_script.specs.declared.step.Refusal.{Refusal}
use Rattle.master_script.specs.declared.step.Refusal.TheVariants.{Lost}
use Rattle.master_script.specs.declared.step.Step.{Step}
use Rattle.master_script.proofs.Exported.{settle_sends, SoundBy, progress_sound}
use Rattle.loss_list.specs.declared.loss_row.Phase.TheVariants as frames
use Rattle.loss_list.proofs.Exported.{listed_by_loss}
use Rattle.segment_file.specs.Segment.{SegmentValue}
use Rattle.segment_file.specs.Legal.{IsLegal}
use Rattle.segment_file.proofs.Exported.{one_comes}
use Rattle.lost_step.specs.LostStep.{loses}
use Rattle.run_of_file.specs.MasterOfFile.{master_of}
use Rattle.run_of_file.specs.RunOfFile.{RunEnd}
use Rattle.run_counts.proofs.Honest.{IsRefusedForLoss}
use Rattle.run_counts.specs.Settling.{AllLost, Settles, SettlesBy, StandsSettling}
use Rattle.run_counts.proofs.Settling.{after_settles}
use Rattle.run_counts.proofs.Ends.{ended, refused_at_end, never_spent}
use Rattle.run_counts.proofs.Led.{IsLed, HasGone}
use Rattle.run_counts.proofs.Numbers.{in_step, in_phase}
use Rattle.run_counts.proofs.Walking.{IsNext, walk}

settles_of : (lost : ℕ → _) (cfg : ConfigValue) (ss : List SlaveWords) (p : Progress) (o : Option Refusal) → o ≡ None → SettlesBy lost cfg ss p o → Settles lost cfg ss p
settles_of lost cfg ss p (Some r) x h = absurd cc
settles_of lost cfg ss p None x h = h

one_settles : (s : SegmentValue) (ss : List SlaveWords) (es : List Exchange) (e : Exchange) → script (master_of s) Settle es ≡ Send e.wait_ns e.sent
    → ((number : ℕ) → IsNext Settle (progress (master_of s) es) number → loses s frames.Drift number ≡ is_none e.back)
    → StandsSettling (loses s frames.Drift) (master_of s) ss (progress (master_of s) es) → StandsSettling (loses s frames.Drift) (master_of s) ss (after (master_of s) (progress (master_of s) es) e)
one_settles s ss es e wanted now stands =
    let cfg = master_of s in
    let p = progress cfg es in
    let lost = loses s frames.Drift in
    let phase = in_phase cfg Settle es e.wait_ns e.sent wanted in
    after_settles lost cfg ss p e phase.0 phase.1 (settles_of lost cfg ss p p.refused phase.0 stands) (now (p.drifts + 1) refl)

pub settle_stands : (s : SegmentValue) → IsLegal s → (before run : RunEnd) → IsLed s before → Begins (master_of s) Settling (progress (master_of s) before.exchanges) → HasGone s Settle before run
    → StandsSettling (loses s frames.Drift) (master_of s) (progress (master_of s) before.exchanges).words.slaves (progress (master_of s) run.exchanges)
settle_stands s legal before run led begins gone =
    let cfg = master_of s in
    let lost = loses s frames.Drift in
    let p = progress cfg before.exchanges in
    let ss = p.words.slaves in
    let none_sent : p.drifts ≡ 0 = begins.drifts in
    let first : Settles lost cfg ss p = record { slaves = refl; silent = λ t k some few. absurd (omega (arith, some, few, none_sent)) } in
    subst (λ (es : List Exchange). StandsSettling lost cfg ss (progress cfg es)) (sym gone.all)
    (walk s legal Settle tt (StandsSettling lost cfg ss) (one_settles s ss) before.exchanges gone.more before.state run.state led.scripted (in_step s legal before.exchanges before.state led.scripted led.runs)
    (subst (λ (o : Option Refusal). SettlesBy lost cfg ss p o) (sym begins.unrefused) first) gone.sends gone.runs)

pub master_loss_run : (s : SegmentValue) → (master_of s).loss_run ≡ s.head.loss_run
unfolding master_of
master_loss_run s = refl

-- not all settle frames are lost
pub some_settle : (s : SegmentValue) → IsLegal s → AllLost (loses s frames.Drift) (settle_frames (master_of s)) → ⊥
some_settle s legal h =
    let one = one_comes s legal 1 in
    let run = master_loss_run s in
    let low = one.1 in
    let high = one.2 in
    let gone : loses s frames.Drift one.0 ≡ true = h one.0 (omega (arith, low)) (omega (arith, high, run)) in
    let there : true ≡ false = sym gone ∙ listed_by_loss s.losses frames.Drift one.0 ∙ one.3 in
    absurd cc

pub settle_answers : (s : SegmentValue) → IsLegal s → (before run : RunEnd) → IsLed s before → Begins (master_of s) Settling (progress (master_of s) before.exchanges) → HasGone s Settle before run → IsRefusedForLoss run
    → run.answer ≡ Ok tt
settle_answers s legal before run led begins gone honest = by_answer run.answer refl
  where
    by_loss : (step : Step) → run.answer ≡ Err (Refused (Lost step)) → ⊥
    by_loss step e =
        let refused = refused_at_end (master_of s) Settle run.exchanges (Lost step) (gone.end ∙ ap ended e) in
        some_settle s legal
        (subst (λ (o : Option Refusal). SettlesBy (loses s frames.Drift) (master_of s) (progress (master_of s) before.exchanges).words.slaves (progress (master_of s) run.exchanges) o) refused
        (settle_stands s legal before run led begins gone))

    by_answer : (answer : Answer) → run.answer ≡ answer → answer ≡ Ok tt
    by_answer (Ok tt) e = refl
    by_answer (Err (Refused r)) e = let l = honest r e in absurd (by_loss l.0 (e ∙ ap (λ (x : Refusal). Err (Refused x)) l.1))
    by_answer (Err (Spent r)) e = absurd (never_spent (master_of s) Settle run.exchanges r (gone.end ∙ ap ended e))

-- where arming begins
pub record BeginsArming (s : SegmentValue) (ss : List SlaveWords) (es : List Exchange) : Type 0 where
  pub begins : Begins (master_of s) Arming (progress (master_of s) es)
  pub slaves : (progress (master_of s) es).words.slaves ≡ ss
  pub todo : (progress (master_of s) es).todo ≡ arm_steps ss
  pub tries : (progress (master_of s) es).tries ≡ 0
  pub drifts : (progress (master_of s) es).drifts ≡ settle_frames (master_of s)

pub settle_done : (s : SegmentValue) → IsLegal s → (before run : RunEnd) → IsLed s before → Begins (master_of s) Settling (progress (master_of s) before.exchanges) → HasGone s Settle before run → run.answer ≡ Ok tt
    → BeginsArming s (progress (master_of s) before.exchanges).words.slaves run.exchanges
settle_done s legal before run led begins gone ok =
    let cfg = master_of s in
    let p = progress cfg run.exchanges in
    let ss = (progress cfg before.exchanges).words.slaves in
    let end : script cfg Settle (before.exchanges ++ gone.more) ≡ ended (Ok tt) = ap (script cfg Settle) (sym gone.all) ∙ gone.end ∙ ap ended ok in
    let b : Begins cfg Arming p = subst (λ (es : List Exchange). Begins cfg Arming (progress cfg es)) (sym gone.all) (settle_sends cfg before.exchanges gone.more begins gone.sends end).0 in
    let now : Settles (loses s frames.Drift) cfg ss p = settles_of (loses s frames.Drift) cfg ss p p.refused b.unrefused (settle_stands s legal before run led begins gone) in
    let sound : SoundBy cfg p None Arming = rw (b.unrefused, b.phase_is) at (progress_sound cfg run.exchanges) in
    record { begins = b; slaves = now.slaves; todo = b.todo ∙ ap arm_steps now.slaves; tries = (sound.2 b.drifts).1; drifts = b.drifts }

-- of m + 1 drift numbers in a row one comes
pub one_drift_comes : (s : SegmentValue) → IsLegal s → (first : ℕ) → (number : ℕ) × (first ≤ number) × (number ≤ first + s.head.loss_run) × (loses s frames.Drift number ≡ false)
one_drift_comes s legal first =
    let one = one_comes s legal first in
    (one.0, one.1, one.2, listed_by_loss s.losses frames.Drift one.0 ∙ one.3)
