-- The exchange that a script wants next, over slaves that answer as they are.
use Rattle.std.proofs.Common.{◌≡◌, ℕ, zero, suc, ◌+◌, ◌<◌, ◌⊎◌, Bool, true, false, cond, ltb, List, [], ◌∷◌, Option, Some, None, Ok, refl, sym, ap, ap₂, subst, ◌∙◌, arith, inl, inr}
use Rattle.ecat_frame.specs.FrameGrammar.{FrameValue}
use Rattle.ecat_link.specs.Drive.{exchange_of}
use Rattle.ecat_link.specs.Exchanges.{Exchange}
use Rattle.ecat_link.specs.Serves.{Send, End}
use Rattle.esc_regs.specs.declared.clock_kind.ClockKind.{ClockKind}
use Rattle.frame_pass.specs.Invariants.{IsSoundSegment}
use Rattle.frame_pass.specs.SegmentState.{SegmentState, segment_step}
use Rattle.master_script.specs.Config.{ConfigValue, slaves}
use Rattle.master_script.specs.Progress.{Phase, Commissioning, Settling, Arming, Running, Progress, after, asked, counted, moved}
use Rattle.master_script.specs.Script.{Call, Commission, Settle as CallSettle, Arm as CallArm, Run, next_by, next_in, asks_next, drifts_next, sends}
use Rattle.master_script.specs.Slaves.{judgement}
use Rattle.master_script.specs.Steps.{frame_of}
use Rattle.master_script.specs.declared.step.Refusal.{Refusal}
use Rattle.master_script.specs.declared.step.Step.{Step}
use Rattle.master_script.specs.declared.step.Step.TheVariants.{Count, Identify, Drift}
use Rattle.honest_slaves.specs.Told.{words_of, AreInOrder}
use Rattle.honest_slaves.proofs.Progressing.{identifying, IsLate, IsHonest}
use Rattle.honest_slaves.proofs.Turning.{same_drift, asked_late, settling_late, running_late, count_early}
use Rattle.honest_slaves.proofs.Identified.{identify_early}

-- the first of some steps is asked
record IsFirst (cfg : ConfigValue) (p : Progress) (frame : FrameValue) (todo : List Step) : Type 0 where
  step : Step
  rest : List Step
  are : todo ≡ step ∷ rest
  is : frame ≡ frame_of cfg p.words step

-- what is sent in a phase
abbrev IsSentIn : ConfigValue → Progress → FrameValue → Phase → Type 0
IsSentIn cfg p frame Commissioning = IsFirst cfg p frame p.todo
IsSentIn cfg p frame Settling = frame ≡ frame_of cfg p.words (Drift (p.drifts + 1))
IsSentIn cfg p frame Arming = IsFirst cfg p frame p.todo
IsSentIn cfg p frame Running = frame ≡ frame_of cfg p.words (Drift (p.drifts + 1))

module _ (cfg : ConfigValue) (p : Progress) (wait_ns : ℕ) (frame : FrameValue) where
  sent_of : (step : Step) → sends cfg p step ≡ Send wait_ns frame → frame ≡ frame_of cfg p.words step
  sent_of step h = let z = h in cc

  first_of : (todo : List Step) → asks_next cfg p todo ≡ Send wait_ns frame → IsFirst cfg p frame todo
  first_of [] h = absurd (let z = h in cc)
  first_of (step ∷ rest) h = record { step = step; rest = rest; are = refl; is = sent_of step h }

  run_sent : (b : Bool) → cond b (drifts_next cfg p) (End (Ok tt)) ≡ Send wait_ns frame → frame ≡ frame_of cfg p.words (Drift (p.drifts + 1))
  run_sent true h = sent_of (Drift (p.drifts + 1)) h
  run_sent false h = absurd (let z = h in cc)

  sent_in : (call : Call) (phase : Phase) → next_in cfg p call phase ≡ Send wait_ns frame → IsSentIn cfg p frame phase
  sent_in Commission Commissioning h = first_of p.todo h
  sent_in CallSettle Settling h = sent_of (Drift (p.drifts + 1)) h
  sent_in CallArm Arming h = first_of p.todo h
  sent_in (Run k) Running h = run_sent (ltb p.ran k) h
  sent_in call phase h = absurd (let z = h in cc)

  -- nothing is sent behind a refusal
  unrefused_by : (call : Call) (o : Option Refusal) → next_by cfg p call o ≡ Send wait_ns frame → o ≡ None
  unrefused_by call None h = refl
  unrefused_by call (Some x) h = absurd (let z = h in cc)

-- the exchange by phase
moved_by : (cfg : ConfigValue) (p : Progress) (e : Exchange) (phase : Phase) → p.refused ≡ None → p.phase ≡ phase → after cfg p e ≡ moved cfg (counted p e.back) e.sent e.back None phase
unfolding after
moved_by cfg p e phase unrefused is = ap₂ (moved cfg (counted p e.back) e.sent e.back) unrefused is

module _ (kinds : ℕ → ClockKind) (statuses : ℕ → ℕ) (n r : ℕ) (cfg : ConfigValue) (many : slaves cfg ≡ n) (judges : judgement (words_of kinds statuses n) ≡ Ok r) where
  -- behind the judgement
  late_asked : (p : Progress) (s : SegmentState) (wait_ns : ℕ) (f : FrameValue) (back : Option FrameValue) → IsSoundSegment s → IsLate kinds statuses n r p s.slaves → IsFirst cfg p f p.todo → (segment_step s wait_ns f).1 ≡ back
      → IsHonest kinds statuses n r (asked cfg (counted p back) f back p.todo) (segment_step s wait_ns f).0.slaves
  late_asked p s wait_ns f back sound h first came =
      subst (λ todo. IsHonest kinds statuses n r (asked cfg (counted p back) f back todo) (segment_step s wait_ns f).0.slaves) (sym first.are)
      (inr (asked_late kinds statuses n r cfg many judges (counted p back) s wait_ns first.step first.rest f sound
      (record { unrefused = h.unrefused; knows = h.knows; are = h.are; todo = h.todo }) first.are first.is back came))

  late_turn : (p : Progress) (s : SegmentState) (wait_ns : ℕ) (f : FrameValue) (phase : Phase) → IsSoundSegment s → IsLate kinds statuses n r p s.slaves → p.phase ≡ phase → IsSentIn cfg p f phase
      → (back : Option FrameValue) → (segment_step s wait_ns f).1 ≡ back → IsHonest kinds statuses n r (moved cfg (counted p back) f back None phase) (segment_step s wait_ns f).0.slaves
  late_turn p s wait_ns f Commissioning sound h at sent back came = late_asked p s wait_ns f back sound h sent came
  late_turn p s wait_ns f Arming sound h at sent back came = late_asked p s wait_ns f back sound h sent came
  late_turn p s wait_ns f Settling sound h at sent back came =
      inr (settling_late kinds statuses n r cfg many judges (counted p back) s wait_ns f sound (record { unrefused = h.unrefused; knows = h.knows; are = h.are; todo = h.todo })
      (sent ∙ same_drift cfg p.words (p.drifts + 1) (counted p back).drifts) back came)
  late_turn p s wait_ns f Running sound h at sent back came =
      inr (inl (running_late kinds statuses n r cfg many judges (counted p back) s wait_ns f sound (record { unrefused = h.unrefused; knows = h.knows; are = h.are; todo = h.todo })
      (sent ∙ same_drift cfg p.words (p.drifts + 1) (counted p back).drifts) back came))

  -- up to the judgement
  first_is : (p : Progress) (f : FrameValue) (todo : List Step) (step : Step) (rest : List Step) → IsFirst cfg p f todo → todo ≡ step ∷ rest → f ≡ frame_of cfg p.words step
  first_is p f todo step rest first are = first.is ∙ ap (frame_of cfg p.words) (let z : first.step ∷ first.rest ≡ step ∷ rest = sym first.are ∙ are in cc)

  early_turn : (p : Progress) (s : SegmentState) (wait_ns told more : ℕ) (f : FrameValue) → IsSoundSegment s → told + more ≡ n → 0 < more → p.phase ≡ Commissioning → p.refused ≡ None → p.words.reference ≡ None
      → p.words.slaves ≡ words_of kinds statuses told → AreInOrder kinds statuses n told s.slaves → (p.todo ≡ identifying told more) ⊎ ((p.todo ≡ Count ∷ identifying told more) × (told ≡ 0)) → IsFirst cfg p f p.todo
      → (back : Option FrameValue) → (segment_step s wait_ns f).1 ≡ back → IsHonest kinds statuses n r (asked cfg (counted p back) f back p.todo) (segment_step s wait_ns f).0.slaves
  early_turn p s wait_ns told zero f sound all some phase unrefused unjudged told_are are todo first back came = absurd (omega (arith, some))
  early_turn p s wait_ns told (suc more) f sound all some phase unrefused unjudged told_are are (inl todo) first back came =
      subst (λ steps. IsHonest kinds statuses n r (asked cfg (counted p back) f back steps) (segment_step s wait_ns f).0.slaves) (sym todo)
      (identify_early kinds statuses n r cfg judges (counted p back) s wait_ns told more f sound all phase unrefused unjudged told_are are todo
      (first_is p f p.todo (Identify told) (identifying (told + 1) more) first todo) back came)
  early_turn p s wait_ns told (suc more) f sound all some phase unrefused unjudged told_are are (inr h) first back came =
      let none = h.1 in
      let todo : p.todo ≡ Count ∷ identifying 0 (suc more) = h.0 ∙ ap (λ k. Count ∷ identifying k (suc more)) none in
      subst (λ steps. IsHonest kinds statuses n r (asked cfg (counted p back) f back steps) (segment_step s wait_ns f).0.slaves) (sym todo)
      (elim (count_early kinds statuses n r cfg many judges (counted p back) s wait_ns (suc more) f sound phase unrefused unjudged (omega (arith, all, none)) some
      (told_are ∙ ap (words_of kinds statuses) none) (subst (λ k. AreInOrder kinds statuses n k s.slaves) none are) todo
      (first_is p f p.todo Count (identifying 0 (suc more)) first todo) back came) [
        | inl early ↦ inl early
        | inr over ↦ inr (inr over)
      ])

  -- whatever comes back, the script stays on
  pub honest_turn : (p : Progress) (s : SegmentState) (call : Call) (wait_ns : ℕ) (f : FrameValue) → IsSoundSegment s → IsHonest kinds statuses n r p s.slaves → next_by cfg p call p.refused ≡ Send wait_ns f
      → IsHonest kinds statuses n r (after cfg p (exchange_of segment_step s wait_ns f)) (segment_step s wait_ns f).0.slaves
  honest_turn p s call wait_ns f sound (inl h) next =
      let here : next_in cfg p call Commissioning ≡ Send wait_ns f = sym (ap (next_by cfg p call) h.unrefused ∙ ap (next_in cfg p call) h.phase) ∙ next in
      subst (λ q. IsHonest kinds statuses n r q (segment_step s wait_ns f).0.slaves) (sym (moved_by cfg p (exchange_of segment_step s wait_ns f) Commissioning h.unrefused h.phase))
      (early_turn p s wait_ns h.told h.more f sound h.all h.some h.phase h.unrefused h.unjudged h.slaves h.are h.todo (sent_in cfg p wait_ns f call Commissioning here) (segment_step s wait_ns f).1 refl)
  honest_turn p s call wait_ns f sound (inr (inl h)) next =
      let here : next_in cfg p call p.phase ≡ Send wait_ns f = sym (ap (next_by cfg p call) h.unrefused) ∙ next in
      subst (λ q. IsHonest kinds statuses n r q (segment_step s wait_ns f).0.slaves) (sym (moved_by cfg p (exchange_of segment_step s wait_ns f) p.phase h.unrefused refl))
      (late_turn p s wait_ns f p.phase sound h refl (sent_in cfg p wait_ns f call p.phase here) (segment_step s wait_ns f).1 refl)
  honest_turn p s call wait_ns f sound (inr (inr over)) next = absurd (over.refused (unrefused_by cfg p wait_ns f call p.refused next))
