-- The script while it arms: what one exchange makes of the steps that are still to be asked.
use Rattle.std.proofs.Common.{◌≡◌, ◌⊎◌, ℕ, zero, suc, ◌+◌, ◌<◌, ◌≤◌, Bool, true, false, cond, List, [], ◌∷◌, length, map, filter, Option, Some, None, refl, sym, ap, ap₂, subst, ◌∙◌, arith, inl, inr}
use Rattle.std.specs.Prelude.{⊤}
use Rattle.std.specs.List.{AllByRecursion, range_with_len}
use Rattle.std.proofs.lemmas.Bool.{cases_lt}
use Rattle.dc_bounds.specs.Weight.{flag}
use Rattle.ecat_frame.specs.FrameGrammar.{FrameValue}
use Rattle.ecat_link.specs.Exchanges.{Exchange}
use Rattle.ecat_link.specs.Serves.{Send}
use Rattle.esc_regs.specs.Kinds.{has_clock}
use Rattle.esc_regs.specs.declared.clock_kind.ClockKind.{ClockKind}
use Rattle.honest_slaves.specs.Told.{words_of}
use Rattle.honest_slaves.proofs.Exported.{clock_word, flagged, sent_by, words_many}
use Rattle.master_script.specs.Config.{ConfigValue}
use Rattle.master_script.specs.Judged.{judged}
use Rattle.master_script.specs.Progress.{Arming, Phase, Progress, after, answered, arm_steps, asked, asked_by, counted, done, moved, noted, progress, turned}
use Rattle.master_script.specs.Script.{Arm as ArmCall, asks_next, next_by, next_in, script, sends}
use Rattle.master_script.specs.Slaves.{SlaveWords, clocks, is_clock}
use Rattle.master_script.specs.Steps.{datagrams_of, expected, frame_of}
use Rattle.master_script.specs.declared.step.Refusal.{Refusal}
use Rattle.master_script.specs.declared.step.Step.{Step}
use Rattle.master_script.specs.declared.step.Step.TheVariants.{Arm}
use Rattle.run_counts.proofs.Exported.{in_phase}

-- the steps of arming
abbrev pub IsArm : Step → Type 0
IsArm (Arm p) = ⊤
IsArm step = ⊥

-- Arm of a position is still to be asked
abbrev pub Awaits : ℕ → List Step → Type 0
Awaits q [] = ⊥
Awaits q (step ∷ rest) = (step ≡ Arm q) ⊎ Awaits q rest

-- arming begins with Arm of every clock
awaited_from : (f : ℕ → Bool) (q a m : ℕ) → f q ≡ true → q < a + m → a ≤ q → Awaits q (map Arm (filter f (range_with_len a m)))
awaited_from f q a zero is low high = absurd (omega (arith, low, high))
awaited_from f q a (suc m) is low high =
    elim (cases_lt a q) [
      | inl past ↦ by (f a) (awaited_from f q (a + 1) m is (omega (arith, low)) (omega (arith, past)))
      | inr most ↦ let same : a ≡ q = omega (arith, most, high) in
          subst (λ b. Awaits q (map Arm (cond b (a ∷ filter f (range_with_len (a + 1) m)) (filter f (range_with_len (a + 1) m))))) (sym (ap f same ∙ is)) (inl (ap Arm same))
    ]
  where
    by : (b : Bool) → Awaits q (map Arm (filter f (range_with_len (a + 1) m))) → Awaits q (map Arm (cond b (a ∷ filter f (range_with_len (a + 1) m)) (filter f (range_with_len (a + 1) m))))
    by true h = inr h
    by false h = h

pub all_arm : (ps : List ℕ) → AllByRecursion IsArm (map Arm ps)
all_arm [] = tt
all_arm (p ∷ ps) = (tt, all_arm ps)

pub all_awaited : (kinds : ℕ → ClockKind) (statuses : ℕ → ℕ) (n : ℕ) (ss : List SlaveWords) → ss ≡ words_of kinds statuses n → (q : ℕ) → q < n → has_clock (kinds q) ≡ true → Awaits q (arm_steps ss)
all_awaited kinds statuses n ss are q low is =
    subst (λ xs. Awaits q (map Arm (clocks xs))) (sym are)
    (let told = words_of kinds statuses n in
    let many = words_many kinds statuses n in
    awaited_from (flag (map is_clock told)) q 0 (length told) (flagged is_clock has_clock kinds statuses n q clock_word low ∙ is) (omega (arith, low, many)) (omega arith))

-- what came back
abbrev pub Came : Option FrameValue → Type 0
Came back = (g : FrameValue) × (back ≡ Some g)

-- an exchange of a step leaves it to be asked, or it came back and the others are left; nothing is learned
pub record Turns (p : Progress) (step : Step) (rest : List Step) (back : Option FrameValue) (q : Progress) : Type 0 where
  pub words : q.words ≡ p.words
  pub todo : (q.todo ≡ step ∷ rest) ⊎ ((q.todo ≡ rest) × Came back)

record IsTurned (p : Progress) (rest : List Step) (q : Progress) : Type 0 where
  words : q.words ≡ p.words
  todo : q.todo ≡ rest

turned_arming : (q : Progress) (rest : List Step) → q.phase ≡ Arming → q.todo ≡ rest → IsTurned q rest (turned q rest)
turned_arming q [] is are = subst (λ (x : Phase). IsTurned q [] (done q x q.words.reference)) (sym is) (record { words = refl; todo = are })
turned_arming q (step ∷ rest) is are = record { words = refl; todo = are }

asked_turns : (cfg : ConfigValue) (p : Progress) (r : ℕ) (rest : List Step) (sent : FrameValue) (back : Option FrameValue) → p.phase ≡ Arming → p.todo ≡ Arm r ∷ rest
    → Turns p (Arm r) rest back (asked_by cfg p (Arm r) rest sent back)
asked_turns cfg p r rest sent None phase are = record { words = refl; todo = inl are }
asked_turns cfg p r rest sent (Some g) phase are = by (judged (Arm r) (expected cfg p.words (Arm r) g) sent g)
  where
    by : (o : Option Refusal) → Turns p (Arm r) rest (Some g) (answered p (Arm r) rest g o)
    by (Some x) = record { words = refl; todo = inl are }
    by None =
        let t = turned_arming (noted p (Arm r) rest g) rest phase refl in
        record { words = t.words; todo = inr (t.todo, (g, refl)) }

-- the first of the steps is asked
record IsAsked (cfg : ConfigValue) (p : Progress) (frame : FrameValue) (todo : List Step) : Type 0 where
  step : Step
  rest : List Step
  are : todo ≡ step ∷ rest
  is : frame ≡ frame_of cfg p.words step

module _ (cfg : ConfigValue) (p : Progress) (wait_ns : ℕ) (frame : FrameValue) where
  sent_of : (step : Step) → sends cfg p step ≡ Send wait_ns frame → frame ≡ frame_of cfg p.words step
  sent_of step h = let z = h in cc

  asked_of : (todo : List Step) → asks_next cfg p todo ≡ Send wait_ns frame → IsAsked cfg p frame todo
  asked_of [] h = absurd (let z = h in cc)
  asked_of (step ∷ rest) h = record { step = step; rest = rest; are = refl; is = sent_of step h }

wanted : (cfg : ConfigValue) (es : List Exchange) → script cfg ArmCall es ≡ next_by cfg (progress cfg es) ArmCall (progress cfg es).refused
unfolding script
wanted cfg es = refl

moved_by : (cfg : ConfigValue) (p : Progress) (e : Exchange) → p.refused ≡ None → p.phase ≡ Arming → after cfg p e ≡ asked cfg (counted p e.back) e.sent e.back p.todo
unfolding after
moved_by cfg p e unrefused is = ap₂ (moved cfg (counted p e.back) e.sent e.back) unrefused is

-- an exchange of arming asks Arm of some position
pub record Arms (cfg : ConfigValue) (p : Progress) (e : Exchange) : Type 0 where
  pub position : ℕ
  pub rest : List Step
  pub are : p.todo ≡ Arm position ∷ rest
  pub sends : e.sent.datagrams ≡ datagrams_of cfg p.words (Arm position)
  pub turns : Turns p (Arm position) rest e.back (after cfg p e)

pub arms_by : (cfg : ConfigValue) (es : List Exchange) (e : Exchange) → script cfg ArmCall es ≡ Send e.wait_ns e.sent → AllByRecursion IsArm (progress cfg es).todo → Arms cfg (progress cfg es) e
arms_by cfg es e next all = by a.step a.are a.is (subst (AllByRecursion IsArm) a.are all).0
  where
    p : Progress
    p = progress cfg es

    here : ((progress cfg es).refused ≡ None) × ((progress cfg es).phase ≡ Arming)
    here = in_phase cfg ArmCall es e.wait_ns e.sent next

    a : IsAsked cfg (progress cfg es) e.sent (progress cfg es).todo
    a = asked_of cfg (progress cfg es) e.wait_ns e.sent (progress cfg es).todo
        (sym (wanted cfg es ∙ ap (next_by cfg (progress cfg es) ArmCall) here.0 ∙ ap (next_in cfg (progress cfg es) ArmCall) here.1) ∙ next)

    by : (step : Step) → (progress cfg es).todo ≡ step ∷ a.rest → e.sent ≡ frame_of cfg (progress cfg es).words step → IsArm step → Arms cfg (progress cfg es) e
    by (Arm r) are sent arm = record {
      position = r;
      rest = a.rest;
      are = are;
      sends = ap (λ (f : FrameValue). f.datagrams) sent ∙ sent_by cfg (progress cfg es).words (Arm r);
      turns = let h = asked_turns cfg (counted (progress cfg es) e.back) r a.rest e.sent e.back here.1 are in
          subst (Turns (progress cfg es) (Arm r) a.rest e.back)
          (sym (moved_by cfg (progress cfg es) e here.0 here.1 ∙ ap (asked cfg (counted (progress cfg es) e.back) e.sent e.back) are)) (record { words = h.words; todo = h.todo });
    }
    by step are sent arm = absurd arm
