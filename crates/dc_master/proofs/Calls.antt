-- How the calls of a master begin and end, by what is kept.
use Rattle.std.proofs.Common.{◌≡◌, ◌⊎◌, inl, inr, ℕ, ◌≤◌, nat_lt, ltb, if◌then◌else◌, false, List, [], ◌∷◌, length, map, Option, Some, None, Ok, Err, refl, ap, subst, ◌∙◌, arith}
use Rattle.std.proofs.lemmas.Bool.Decides.{nat_tests}
use Rattle.ecat_link.specs.Exchanges.{Exchange}
use Rattle.dc_master.specs.Inside.{HasStage, kept}
use Rattle.dc_master.specs.Places.{AtRest, HasRefused, IsFresh, IsReady}
use Rattle.master_steps.specs.Asking.{Asks, stood}
use Rattle.master_steps.specs.declared.exchange.Counters.{Counters}
use Rattle.dc_master.proofs.Times.{arm_any}
use Rattle.master_script.specs.Config.{ConfigValue, settle_frames}
use Rattle.master_script.specs.Kept.{Ends, Kept, StandsFor, given, has_delays, kept_after, kept_at, stage_by}
use Rattle.master_script.specs.Progress.{Progress, Commissioning, Settling, Arming, Running, progress, beginning, first_steps, arm_steps}
use Rattle.master_script.specs.Script.{Answer, Call, Commission, Settle, Arm, Run, next_by}
use Rattle.master_script.specs.Slaves.{clocks}
use Rattle.master_script.specs.Words.{Words, delays_of, start_at}
use Rattle.master_script.specs.declared.step.MasterError.TheVariants.{Refused}
use Rattle.master_script.specs.declared.step.Refusal.{Refusal}
use Rattle.master_script.specs.declared.step.Stage.{Stage}
use Rattle.master_script.specs.declared.step.Stage.TheVariants as stage
use Rattle.master_script.specs.declared.step.Step.TheVariants.{Arm as ArmStep}
use Rattle.master_script.proofs.Exported.{fresh_pins, ends_at, armed_pins, commissioned_pins, settled_pins}

-- a refusal ends any call
kept_path : (cfg : ConfigValue) (s s' : Stage) (o o' : Option Refusal) (a a' b b' c c' : ℕ) (w w' : Words) (ds ds' : List (Option ℕ)) (t t' : Option ℕ)
    → s ≡ s' → o ≡ o' → a ≡ a' → b ≡ b' → c ≡ c' → w ≡ w' → ds ≡ ds' → t ≡ t'
    → ◌≡◌ {A = Kept} (record { config = cfg; stage = s; refusal = o; sent = a; lost = b; drifts = c; words = w; delays = ds; start = t })
    (record { config = cfg; stage = s'; refusal = o'; sent = a'; lost = b'; drifts = c'; words = w'; delays = ds'; start = t' })
kept_path cfg s s' o o' a a' b b' c c' w w' ds ds' t t' e1 e2 e3 e4 e5 e6 e7 e8 = cc

abbrev started : ConfigValue → ℕ → Words → Option ℕ
started cfg drifts w = if nat_lt (settle_frames cfg) drifts then Some (start_at cfg w) else None

refused_kept : (cfg : ConfigValue) (frames : Option ℕ) (p : Progress) (n : Counters) (w : Words) (ds : List (Option ℕ)) (r : Refusal)
    → p.refused ≡ Some r → p.sent ≡ n.sent → p.lost ≡ n.lost → p.drifts ≡ n.drifts → p.words ≡ w → (if has_delays p then delays_of cfg w else []) ≡ ds
    → kept_at cfg frames p ≡ kept cfg stage.Spent (Some r) n w ds
refused_kept cfg frames p n w ds r a b c d e f =
    kept_path cfg (stage_by frames p p.refused) stage.Spent p.refused (Some r) p.sent n.sent p.lost n.lost p.drifts n.drifts p.words w
    (if has_delays p then delays_of cfg p.words else []) ds (started cfg p.drifts p.words) (started cfg n.drifts w)
    (ap (λ o. stage_by frames p o) a) a b c d e (ap (λ (x : Words). if has_delays p then delays_of cfg x else []) e ∙ f)
    (ap (λ k. started cfg k p.words) d ∙ ap (λ (x : Words). started cfg n.drifts x) e)

pub refused_ends : (cfg : ConfigValue) (call : Call) (n : Counters) (w : Words) (ds : List (Option ℕ)) (r : Refusal) (es : List Exchange) → HasRefused cfg n w ds r es
    → Ends cfg call (kept cfg stage.Spent (Some r) n w ds) (Err (Refused r)) es
refused_ends cfg call n w ds r es h =
    let p = progress cfg es in
    subst (λ m. Ends cfg call m (Err (Refused r)) es) (refused_kept cfg (given call) p n w ds r h.refused h.sent h.lost h.drifts h.words h.delays)
    (ends_at cfg call es p (Err (Refused r)) refl (ap (λ o. next_by cfg p call o) h.refused))

-- commissioning
pub commissioned_ends : (cfg : ConfigValue) (n : Counters) (w : Words) (ds : List (Option ℕ)) (es : List Exchange) → IsReady cfg w ds → Asks cfg Commissioning n w [] es
    → Ends cfg Commission (kept cfg stage.Commissioned None n w ds) (Ok tt) es
unfolding delays_of
commissioned_ends cfg n w ds es ready b =
    let p : Progress = stood Settling n w [] in
    let e : progress cfg es ≡ p = rw ready.reference.1 at b in
    subst (λ m. Ends cfg Commission m (Ok tt) es) (rw (ready.reference.1, ready.delays) refl) (ends_at cfg Commission es p (Ok tt) e refl)

pub settled_ends : (cfg : ConfigValue) (n : Counters) (w : Words) (ds : List (Option ℕ)) (es : List Exchange) → IsReady cfg w ds → AtRest cfg Arming n w (arm_steps w.slaves) es
    → Ends cfg Settle (kept cfg stage.Settled None n w ds) (Ok tt) es
unfolding delays_of
settled_ends cfg n w ds es ready b =
    let p : Progress = stood Arming n w (arm_steps w.slaves) in
    subst (λ m. Ends cfg Settle m (Ok tt) es) (rw (ready.reference.1, arm_any (clocks w.slaves), ready.delays) refl) (ends_at cfg Settle es p (Ok tt) b refl)

pub armed_ends : (cfg : ConfigValue) (n : Counters) (w : Words) (ds : List (Option ℕ)) (es : List Exchange) → IsReady cfg w ds → Asks cfg Arming n w [] es
    → Ends cfg Arm (kept cfg stage.Armed None n w ds) (Ok tt) es
unfolding delays_of
armed_ends cfg n w ds es ready b =
    let p : Progress = stood Running n w [] in
    subst (λ m. Ends cfg Arm m (Ok tt) es) (rw (ready.reference.1, ready.delays) refl) (ends_at cfg Arm es p (Ok tt) b refl)

pub ran_ends : (cfg : ConfigValue) (n : Counters) (w : Words) (ds : List (Option ℕ)) (frames : ℕ) (es : List Exchange) → IsReady cfg w ds → progress cfg es ≡ record (stood Running n w []) { ran = frames }
    → Ends cfg (Run frames) (kept cfg stage.Ended None n w ds) (Ok tt) es
unfolding delays_of
ran_ends cfg n w ds frames es ready b =
    let p : Progress = record (stood Running n w []) { ran = frames } in
    let t : ltb frames frames ≡ false = grind (arith, nat_tests) in
    subst (λ m. Ends cfg (Run frames) m (Ok tt) es) (rw (ready.reference.1, ready.delays, t) refl) (ends_at cfg (Run frames) es p (Ok tt) b (rw t refl))

-- how they begin
progress_none : (cfg : ConfigValue) → progress cfg [] ≡ beginning cfg
unfolding progress
progress_none cfg = refl

module _ (cfg : ConfigValue) (n : Counters) (w : Words) (ds : List (Option ℕ)) (es : List Exchange) where
  pub begins_fresh : IsFresh cfg n w ds → StandsFor None (kept cfg stage.Fresh None n w ds) es → Asks cfg Commissioning n w (first_steps cfg) es
  begins_fresh fresh h =
      let none : es ≡ [] = fresh_pins (kept cfg stage.Fresh None n w ds) None es h fresh.sent in
      rw (none, fresh.sent, fresh.lost, fresh.drifts, fresh.words) (progress_none cfg)

  pub begins_commissioned : StandsFor None (kept cfg stage.Commissioned None n w ds) es → AtRest cfg Settling n w [] es
  begins_commissioned h = commissioned_pins (kept cfg stage.Commissioned None n w ds) es h refl

  arms : (ps : List ℕ) → 1 ≤ length ps → AtRest cfg Arming n w (map ArmStep ps) es → Asks cfg Arming n w (map ArmStep ps) es
  arms [] some b = absurd (omega (arith, some))
  arms (p ∷ ps) some b = b

  pub begins_settled : IsReady cfg w ds → n.drifts ≡ settle_frames cfg → StandsFor None (kept cfg stage.Settled None n w ds) es → Asks cfg Arming n w (arm_steps w.slaves) es
  begins_settled ready d h = arms (clocks w.slaves) ready.clocks (settled_pins (kept cfg stage.Settled None n w ds) es h refl d)

  pub begins_armed : StandsFor None (kept cfg stage.Armed None n w ds) es → AtRest cfg Running n w [] es
  begins_armed h = armed_pins (kept cfg stage.Armed None n w ds) es h refl

-- by the invariant
module _ (cfg : ConfigValue) (n : Counters) (w : Words) (ds : List (Option ℕ)) where
  pub is_fresh : (s : Stage) (o : Option Refusal) → (s ≡ stage.Fresh) ⊎ (s ≡ stage.Spent) → o ≡ None → HasStage cfg n w ds s o → (s ≡ stage.Fresh) × IsFresh cfg n w ds
  is_fresh s o (inl e) none h = (e, rw (e, none) at h)
  is_fresh s o (inr e) none h = absurd (let z : HasStage cfg n w ds stage.Spent None = rw (e, none) at h in z)

  pub is_commissioned : (s : Stage) (o : Option Refusal) → (s ≡ stage.Commissioned) ⊎ (s ≡ stage.Spent) → o ≡ None → HasStage cfg n w ds s o → s ≡ stage.Commissioned
  is_commissioned s o (inl e) none h = e
  is_commissioned s o (inr e) none h = absurd (let z : HasStage cfg n w ds stage.Spent None = rw (e, none) at h in z)

  pub is_settled : (s : Stage) (o : Option Refusal) → (s ≡ stage.Settled) ⊎ (s ≡ stage.Spent) → o ≡ None → HasStage cfg n w ds s o → (s ≡ stage.Settled) × (n.drifts ≡ settle_frames cfg) × IsReady cfg w ds
  is_settled s o (inl e) none h = let z : HasStage cfg n w ds stage.Settled None = rw (e, none) at h in (e, z.1, z.2)
  is_settled s o (inr e) none h = absurd (let z : HasStage cfg n w ds stage.Spent None = rw (e, none) at h in z)

  pub is_armed : (s : Stage) (o : Option Refusal) → (s ≡ stage.Armed) ⊎ (s ≡ stage.Spent) → o ≡ None → HasStage cfg n w ds s o → (s ≡ stage.Armed) × IsReady cfg w ds
  is_armed s o (inl e) none h = let z : HasStage cfg n w ds stage.Armed None = rw (e, none) at h in (e, z.1)
  is_armed s o (inr e) none h = absurd (let z : HasStage cfg n w ds stage.Spent None = rw (e, none) at h in z)

pub stands_as : (cfg : ConfigValue) (s t : Stage) (o : Option Refusal) (n : Counters) (w : Words) (ds : List (Option ℕ)) (es : List Exchange) → s ≡ t → o ≡ None → StandsFor None (kept cfg s o n w ds) es → StandsFor None (kept cfg t None n w ds) es
stands_as cfg s t o n w ds es e none h = rw (e, none) at h

pub ends_as : (cfg : ConfigValue) (call : Call) (s : Stage) (o : Option Refusal) (n : Counters) (w : Words) (ds : List (Option ℕ)) (answer : Answer) (es : List Exchange) → o ≡ None
    → Ends cfg call (kept cfg s None n w ds) answer es → Ends cfg call (kept cfg s o n w ds) answer es
ends_as cfg call s o n w ds answer es none h = rw none h

pub ready_as : (cfg : ConfigValue) (w v : Words) (ds es : List (Option ℕ)) → v ≡ w → es ≡ ds → IsReady cfg w ds → IsReady cfg v es
ready_as cfg w v ds es e f h = rw (e, f) h

pub fresh_is : (cfg : ConfigValue) (w : Words) (ds : List (Option ℕ)) → w ≡ (beginning cfg).words → ds ≡ [] → StandsFor None (kept cfg stage.Fresh None (record { sent = 0; lost = 0; drifts = 0 }) w ds) []
unfolding kept_after
fresh_is cfg w ds e d = rw (e, d, progress_none cfg) refl

pub fresh_at : (cfg : ConfigValue) (n : Counters) (w : Words) (ds : List (Option ℕ)) → IsFresh cfg n w ds → StandsFor None (kept cfg stage.Fresh None n w ds) []
unfolding kept_after
fresh_at cfg n w ds h = rw (h.sent, h.lost, h.drifts, h.words, h.delays, progress_none cfg) refl

pub fresh_stands : (cfg : ConfigValue) (s : Stage) (o : Option Refusal) (n : Counters) (w : Words) (ds : List (Option ℕ)) → HasStage cfg n w ds s o → s ≡ stage.Fresh → StandsFor None (kept cfg s o n w ds) []
fresh_stands cfg s None n w ds h e = let z : HasStage cfg n w ds stage.Fresh None = rw e at h in rw e (fresh_at cfg n w ds z)
fresh_stands cfg s (Some r) n w ds h e = absurd (let z : HasStage cfg n w ds stage.Fresh (Some r) = rw e at h in z)
