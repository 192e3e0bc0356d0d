-- Where a drift frame of a run stands: behind a commissioning that ended with Ok, wanted by a call, at its number.
use Rattle.std.proofs.Common.{◌≡◌, ◌⊎◌, ℕ, ◌+◌, ◌<◌, ◌≤◌, List, [], ◌∷◌, ◌++◌, length, length-append, Some, Ok, inl, inr, refl, sym, ap, ap₂, subst, ◌∙◌, append_assoc, arith}
use Rattle.std.proofs.lemmas.List.{append_cancel_left}
use Rattle.copy_law.specs.DriftFrames.{IsDriftFrame}
use Rattle.ecat_link.specs.Exchanges.{Exchange, Runs}
use Rattle.ecat_link.specs.Serves.{Send}
use Rattle.frame_pass.specs.SegmentState.{SegmentState, phase_of, segment_step}
use Rattle.frame_pass.proofs.Exported.{step_sent}
use Rattle.master_script.specs.Config.{ConfigValue}
use Rattle.master_script.specs.Script.{Arm, Call, Run, Settle, script}
use Rattle.master_script.specs.Scripted.{AreScripted, more, none}
use Rattle.master_script.proofs.Exported.{progress_sent}
use Rattle.run_counts.specs.Numbered.{AreNumbered}
use Rattle.run_counts.proofs.Exported.{Drifted, commission_drifted, commission_none, ran_drifted, Followed, followed, off, on, few_sent, in_step, NumbersOn, step_numbers}
use Rattle.run_of_file.specs.MasterOfFile.{master_of}
use Rattle.run_of_file.specs.RunOfFile.{RunEnd, armed, commissioned, frames_given, ran, settled}
use Rattle.segment_file.specs.Legal.{IsLegal}
use Rattle.segment_file.specs.Segment.{SegmentValue}
use Rattle.loss_list.specs.declared.loss_row.Phase.{Phase}
use Rattle.loss_list.specs.declared.loss_row.Phase.TheVariants as phase

some_same : {X : Type 0} {x y : X} → Some x ≡ Some y → x ≡ y
some_same e = cc

-- a phase behind commissioning, where that ended with Ok; else nothing was sent behind it
abbrev WentOn : RunEnd → RunEnd → Type 0
WentOn first run = (first.answer ≡ Ok tt) ⊎ (first ≡ run)

goes_on : (s : SegmentValue) (call : Call) (first before run : RunEnd) → WentOn first before → Followed s call before run → WentOn first run
goes_on s call first before run (inl ok) f = inl ok
goes_on s call first before run (inr same) (on ok gone) = inl (ap (λ (r : RunEnd). r.answer) same ∙ ok)
goes_on s call first before run (inr same) (off e told is) = inr (same ∙ is)

settled_on : (s : SegmentValue) (first run : RunEnd) → commissioned s ≡ Some first → settled s ≡ Some run → WentOn first run
unfolding settled
settled_on s first run was is = let f = followed s Settle (commissioned s) run is in goes_on s Settle first f.0 run (inr (some_same (sym was ∙ f.1))) f.2

armed_on : (s : SegmentValue) (first run : RunEnd) → commissioned s ≡ Some first → armed s ≡ Some run → WentOn first run
unfolding armed
armed_on s first run was is = let f = followed s Arm (settled s) run is in goes_on s Arm first f.0 run (settled_on s first f.0 was f.1) f.2

ran_on : (s : SegmentValue) (first run : RunEnd) → commissioned s ≡ Some first → ran s ≡ Some run → WentOn first run
unfolding ran
ran_on s first run was is =
    let f = followed s (Run (frames_given s)) (armed s) run is in goes_on s (Run (frames_given s)) first f.0 run (armed_on s first f.0 was f.1) f.2

head_same : {X : Type 0} {x y : X} {xs ys : List X} → x ∷ xs ≡ y ∷ ys → x ≡ y
head_same e = cc

tail_same : {X : Type 0} {x y : X} {xs ys : List X} → x ∷ xs ≡ y ∷ ys → xs ≡ ys
tail_same e = cc

-- where exchanges end that are cut before one of them
abbrev Cut : List Exchange → Exchange → List Exchange → Exchange → Type 0
Cut xs x es e = ((es ≡ xs) × (e ≡ x)) ⊎ ((front : List Exchange) × (xs ≡ es ++ e ∷ front))

cut_last : (xs es : List Exchange) (x e : Exchange) (rest : List Exchange) → xs ++ x ∷ [] ≡ es ++ e ∷ rest → Cut xs x es e
cut_last [] [] x e rest is = inl (refl, sym (head_same is))
cut_last [] (y ∷ es) x e rest is =
    absurd (let whole = ap (λ (zs : List Exchange). length zs) is in let parts = length-append es (e ∷ rest) in omega (arith, whole, parts))
cut_last (z ∷ xs) [] x e rest is = inr (xs, ap (λ (y : Exchange). y ∷ xs) (head_same is))
cut_last (z ∷ xs) (y ∷ es) x e rest is =
    elim (cut_last xs es x e rest (tail_same is)) [
      | inl h ↦ inl (ap₂ (λ (a : Exchange) (b : List Exchange). a ∷ b) (sym (head_same is)) h.0, h.1)
      | inr h ↦ inr (h.0, ap₂ (λ (a : Exchange) (b : List Exchange). a ∷ b) (head_same is) h.1)
    ]

-- a call sent this exchange behind those
pub record IsWanted (cfg : ConfigValue) (frames : ℕ) (es : List Exchange) (e : Exchange) : Type 0 where
  pub scripted : AreScripted cfg frames es
  pub call : Call
  pub wanted : script cfg call es ≡ Send e.wait_ns e.sent

pub wanted_there : (cfg : ConfigValue) (frames : ℕ) (all : List Exchange) → AreScripted cfg frames all → (es : List Exchange) (e : Exchange) (rest : List Exchange) → all ≡ es ++ e ∷ rest
    → IsWanted cfg frames es e
wanted_there cfg frames _ none es e rest is =
    absurd (let whole = ap (λ (zs : List Exchange). length zs) is in let parts = length-append es (e ∷ rest) in omega (arith, whole, parts))
wanted_there cfg frames _ (more xs x call made limited next) es e rest is =
    elim (cut_last xs es x e rest is) [
      | inl h ↦
          record {
            scripted = subst (AreScripted cfg frames) (sym h.0) made;
            call = call;
            wanted = subst (λ (y : Exchange). script cfg call es ≡ Send y.wait_ns y.sent) (sym h.1) (subst (λ (zs : List Exchange). script cfg call zs ≡ Send x.wait_ns x.sent) (sym h.0) next);
          }
      | inr h ↦ wanted_there cfg frames xs made es e h.0 h.1
    ]

-- drift frames are numbered one by one
numbered_there : (s : SegmentValue) (number : ℕ) (es : List Exchange) (e : Exchange) (rest : List Exchange) → AreNumbered s phase.Drift number (es ++ e ∷ rest)
    → AreNumbered s phase.Drift number es × (phase_of e.sent.datagrams ≡ phase.Drift)
numbered_there s number [] e rest h = (tt, h.0)
numbered_there s number (x ∷ es) e rest h = let r = numbered_there s (number + 1) es e rest h.2 in ((h.0, h.1, r.0), r.1)

pub drifts_led : (s : SegmentValue) (number : ℕ) (es : List Exchange) (w t : SegmentState) → w.sent + length es ≤ 1000000 → AreNumbered s phase.Drift number es → Runs segment_step (Some w) es (Some t)
    → t.drift ≡ w.drift + length es
drifts_led s number [] w t few numbered runs = let same = ap (λ (u : SegmentState). u.drift) (some_same runs) in omega (arith, same)
drifts_led s number (e ∷ es) w t few numbered runs =
    let low : w.sent < 1000000 = omega (arith, few) in
    let u = (segment_step w e.wait_ns e.sent).0 in
    let sent = (step_sent w e.wait_ns e.sent low).sent in
    let here : u.drift ≡ w.drift + 1 = (subst (λ (x : Phase). NumbersOn x w u) numbered.0 (step_numbers w e.wait_ns e.sent low)).1 in
    let rest = drifts_led s (number + 1) es u t (omega (arith, few, sent)) numbered.2 runs.1 in
    omega (arith, here, rest)

module _ (s : SegmentValue) (legal : IsLegal s) (k : ℕ) (t : SegmentState) (e : Exchange) (f : IsDriftFrame s k t e) where
  drifted : Drifted s f.first f.run
  drifted = ran_drifted s legal f.first f.run f.commissioned f.ran

  more_are : drifted.more ≡ f.before ++ e ∷ f.rest
  more_are = append_cancel_left f.first.exchanges drifted.more (f.before ++ e ∷ f.rest) (sym drifted.all ∙ f.all)

  pub phase_is : AreNumbered s phase.Drift 1 f.before × (phase_of e.sent.datagrams ≡ phase.Drift)
  phase_is = numbered_there s 1 f.before e f.rest (subst (AreNumbered s phase.Drift 1) more_are drifted.numbered)

  pub commissioned_ok : f.first.answer ≡ Ok tt
  commissioned_ok =
      elim (ran_on s f.first f.run f.commissioned f.ran) [
        | inl ok ↦ ok
        | inr same ↦
            let short = ap (λ (r : RunEnd). length r.exchanges) same in
            let whole = ap (λ (es : List Exchange). length es) f.all in
            let parts = length-append f.first.exchanges (f.before ++ e ∷ f.rest) in
            let more = length-append f.before (e ∷ f.rest) in
            absurd (omega (arith, short, whole, parts, more))
      ]

  pub is_wanted : IsWanted (master_of s) (frames_given s) (f.first.exchanges ++ f.before) e
  is_wanted =
      wanted_there (master_of s) (frames_given s) f.run.exchanges drifted.led.scripted (f.first.exchanges ++ f.before) e f.rest
      (f.all ∙ sym (append_assoc f.first.exchanges f.before (e ∷ f.rest)))

  pub sent_first : f.first.state.sent ≡ length f.first.exchanges
  sent_first =
      let led = (commission_drifted s legal f.first f.commissioned).led in
      (in_step s legal f.first.exchanges f.first.state led.scripted led.runs).sent ∙ progress_sent (master_of s) f.first.exchanges

  pub drift_number : t.drift + 1 ≡ k
  drift_number =
      let none = commission_none s legal f.first f.commissioned in
      let few = few_sent s legal (f.first.exchanges ++ f.before) is_wanted.scripted in
      let parts = length-append f.first.exchanges f.before in
      let sent = sent_first in
      let led = drifts_led s 1 f.before f.first.state t (omega (arith, few, parts, sent)) phase_is.0 f.led in
      let number = f.number in
      omega (arith, none, led, number)
