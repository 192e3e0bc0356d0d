-- How much a script sends at most: 9 (n + 1) in commissioning, K + m + 1 in settling, 3 n in arming, and the run frames.
use Rattle.std.proofs.Common.{◌≡◌, ℕ, zero, suc, ◌+◌, ◌*◌, ◌<◌, ◌≤◌, Bool, true, false, cond, eqb, ltb, ◌==◌, List, [], ◌∷◌, ◌++◌, length, append_assoc, IsSome, Option, Some, None, Result, Ok, Err, refl, sym, ap, subst, arith}
use Rattle.std.proofs.lemmas.Bool.Decides.{nat_tests}
use Rattle.std.proofs.lemmas.List.{append-nil, length-map, length-append}
use Rattle.std.proofs.lemmas.List.FromFn.{length-range_with_len}
use Rattle.ecat_frame.specs.FrameGrammar.{FrameValue}
use Rattle.ecat_link.specs.Exchanges.{Exchange, StepOf}
use Rattle.dc_delay.specs.ShapeRows.{positions}
use Rattle.master_script.specs.Config.{ConfigValue, settle_frames}
use Rattle.master_script.specs.Judged.{judged}
use Rattle.master_script.specs.Slaves.{judgement}
use Rattle.master_script.specs.Scripted.{AreScripted, none, more, IsLimited}
use Rattle.master_script.specs.Steps.{expected}
use Rattle.ecat_link.specs.Drive.{drive, exchange_of}
use Rattle.ecat_link.specs.Serves.{Next, Send, End, Sends}
use Rattle.master_script.specs.Script.{Answer, script, Call, Commission, Settle as CallSettle, Arm as CallArm, Run, asks_next, drifts_next, next_in, next_by}
use Rattle.master_script.proofs.Todo.{identifies, all_identify, later_few, later_none, arm_few, learned_slaves, learned_reference}
use Rattle.master_script.proofs.Folds.{progress_push}
use Rattle.master_script.proofs.Counts.{after_ran, progress_sent}
use Rattle.master_script.specs.Progress.{Phase, Commissioning, Settling, Arming, Running, Progress, progress, beginning, run_one, after, asked, answered, noted, done, planned, missed, lost_at, counted, moved, settling, settled_by, timed, brought, running}
use Rattle.master_script.specs.declared.step.Refusal.{Refusal}
use Rattle.master_script.specs.declared.step.Refusal.TheVariants.{Lost}
use Rattle.master_script.specs.declared.step.Step.{Step}
use Rattle.master_script.specs.declared.step.Step.TheVariants.{Identify, Drift}

-- what the slaves' judgement still adds
abbrev pub ahead : ℕ → Option ℕ → ℕ
ahead n None = 6 + 6 * n
ahead n (Some r) = 0

-- a step is asked, and each one that is left is sent three times at most
pub record FreshBound (n : ℕ) (p : Progress) (reference : Option ℕ) : Type 0 where
  pub tries : p.tries ≤ 2
  pub kinds : length p.words.slaves + identifies p.todo ≡ n
  pub sent : p.sent + 3 * length p.todo + ahead n reference ≤ 9 + 9 * n + p.tries
  pub drifts : p.drifts ≡ 0

pub record SettleBound (n settles : ℕ) (p : Progress) : Type 0 where
  pub kinds : length p.words.slaves ≡ n
  pub sent : p.sent ≤ 9 + 9 * n + p.drifts
  pub tries : p.tries ≡ 0
  pub drifts : p.drifts < settles

pub record ArmBound (n settles : ℕ) (p : Progress) : Type 0 where
  pub tries : p.tries ≤ 2
  pub sent : p.sent + 3 * length p.todo ≤ 9 + 12 * n + settles + p.tries
  pub least : p.tries ≤ 3 * length p.todo

abbrev pub BoundBy : ℕ → ℕ → Progress → Option Refusal → Phase → Type 0
BoundBy n settles p (Some r) s = p.sent ≤ 9 + 12 * n + settles + p.ran
BoundBy n settles p None Commissioning = FreshBound n p p.words.reference
BoundBy n settles p None Settling = SettleBound n settles p
BoundBy n settles p None Arming = ArmBound n settles p
BoundBy n settles p None Running = p.sent ≤ 9 + 12 * n + settles + p.ran

planned_bound : (cfg : ConfigValue) (n settles : ℕ) (p : Progress) (j : Result ℕ Refusal) → p.refused ≡ None → p.phase ≡ Commissioning → p.tries ≡ 0 → p.drifts ≡ 0 → length p.words.slaves ≡ n → p.sent + (6 + 6 * n) ≤ 9 + 9 * n
    → BoundBy n settles (planned p j) (planned p j).refused (planned p j).phase
planned_bound cfg n settles p (Err r) e s z d k b = omega (arith, b)
planned_bound cfg n settles p (Ok x) e s z d k b =
    let a = later_few p.words.slaves in let c = later_none p.words.slaves in
    rw (e, s) (record { tries = omega (arith, z); kinds = omega (arith, k, c); sent = omega (arith, a, b, k, z); drifts = d })

done_bound : (cfg : ConfigValue) (n settles : ℕ) (p : Progress) (reference : Option ℕ) → 0 < settles → p.refused ≡ None → p.phase ≡ Commissioning → p.tries ≡ 0 → p.drifts ≡ 0 → length p.words.slaves ≡ n → p.sent + ahead n reference ≤ 9 + 9 * n
    → BoundBy n settles (done p Commissioning reference) (done p Commissioning reference).refused (done p Commissioning reference).phase
done_bound cfg n settles p None some e s z d k b = planned_bound cfg n settles p (judgement p.words.slaves) e s z d k b
done_bound cfg n settles p (Some r) some e s z d k b = rw e (record { kinds = k; sent = omega (arith, b); tries = z; drifts = omega (arith, d, some) })

-- one was sent more, and is not judged yet
record FreshSent (n : ℕ) (q : Progress) (reference : Option ℕ) : Type 0 where
  tries : q.tries ≤ 2
  drifts : q.drifts ≡ 0
  kinds : length q.words.slaves + identifies q.todo ≡ n
  sent : q.sent + 3 * length q.todo + ahead n reference ≤ 10 + 9 * n + q.tries

record ArmSent (n settles : ℕ) (q : Progress) : Type 0 where
  tries : q.tries ≤ 2
  sent : q.sent + 3 * length q.todo ≤ 10 + 12 * n + settles + q.tries

not_three : (m : ℕ) → eqb (m + 1) 3 ≡ false → m ≤ 2 → m + 1 ≤ 2
not_three m h l = grind (arith, nat_tests)

IsBound : ℕ → ℕ → Progress → Type 0
IsBound n settles p = BoundBy n settles p p.refused p.phase

lost_fresh : (n settles : ℕ) (q : Progress) (step : Step) (rest : List Step) (b : Bool) → eqb (q.tries + 1) 3 ≡ b → q.todo ≡ step ∷ rest → FreshSent n q q.words.reference
    → BoundBy n settles (missed q step) (cond b (Some (Lost step)) None) Commissioning
lost_fresh n settles q step rest true h t w = let a = ap (λ x. length x) t in let s = w.sent in let l = w.tries in omega (arith, a, s, l)
lost_fresh n settles q step rest false h t w = let s = w.sent in record { tries = not_three q.tries h w.tries; kinds = w.kinds; sent = omega (arith, s); drifts = w.drifts }

lost_arm : (n settles : ℕ) (q : Progress) (step : Step) (rest : List Step) (b : Bool) → eqb (q.tries + 1) 3 ≡ b → q.todo ≡ step ∷ rest → ArmSent n settles q
    → BoundBy n settles (missed q step) (cond b (Some (Lost step)) None) Arming
lost_arm n settles q step rest true h t w = let a = ap (λ x. length x) t in let s = w.sent in let l = w.tries in omega (arith, a, s, l)
lost_arm n settles q step rest false h t w =
    let s = w.sent in let a = ap (λ x. length x) t in let b = not_three q.tries h w.tries in
    record { tries = b; sent = omega (arith, s); least = omega (arith, a, b) }

answered_fresh : (cfg : ConfigValue) (n settles : ℕ) (q : Progress) (step : Step) (rest : List Step) (f : FrameValue) (o : Option Refusal) → 0 < settles → q.refused ≡ None → q.phase ≡ Commissioning → q.todo ≡ step ∷ rest → FreshSent n q q.words.reference
    → BoundBy n settles (answered q step rest f o) (answered q step rest f o).refused (answered q step rest f o).phase
answered_fresh cfg n settles q step rest f (Some r) some e s t w = let a = ap (λ x. length x) t in let b = w.sent in let l = w.tries in omega (arith, a, b, l)
answered_fresh cfg n settles q step [] f None some e s t w =
    let p = noted q step [] f in
    let a = ap (λ x. length x) t in let i = ap (λ x. identifies x) t in let b = w.sent in let l = w.tries in let k = w.kinds in
    let g = learned_slaves q.sent step f q.words in
    let r = ap (λ x. ahead n x) (learned_reference q.sent step f q.words) in
    subst (λ x. BoundBy n settles (done p x p.words.reference) (done p x p.words.reference).refused (done p x p.words.reference).phase) (sym s)
    (done_bound cfg n settles p p.words.reference some e s refl w.drifts (omega (arith, g, k, i)) (omega (arith, a, b, l, r)))
answered_fresh cfg n settles q step (next ∷ others) f None some e s t w =
    let p = noted q step (next ∷ others) f in
    let a = ap (λ x. length x) t in let i = ap (λ x. identifies x) t in let b = w.sent in let l = w.tries in let k = w.kinds in
    let g = learned_slaves q.sent step f q.words in
    let r = ap (λ x. ahead n x) (learned_reference q.sent step f q.words) in
    subst (λ x. BoundBy n settles p x p.phase) (sym e) (subst (λ x. BoundBy n settles p None x) (sym s)
    (record { tries = omega arith; kinds = omega (arith, g, k, i); sent = omega (arith, a, b, l, r); drifts = w.drifts }))

answered_arm : (cfg : ConfigValue) (n settles : ℕ) (q : Progress) (step : Step) (rest : List Step) (f : FrameValue) (o : Option Refusal) → q.refused ≡ None → q.phase ≡ Arming → q.todo ≡ step ∷ rest → ArmSent n settles q
    → BoundBy n settles (answered q step rest f o) (answered q step rest f o).refused (answered q step rest f o).phase
answered_arm cfg n settles q step rest f (Some r) e s t w = let a = ap (λ x. length x) t in let b = w.sent in let l = w.tries in omega (arith, a, b, l)
answered_arm cfg n settles q step [] f None e s t w =
    let p = noted q step [] f in
    let a = ap (λ x. length x) t in let b = w.sent in let l = w.tries in
    subst (λ x. BoundBy n settles (done p x p.words.reference) (done p x p.words.reference).refused (done p x p.words.reference).phase) (sym s)
    (subst (λ x. BoundBy n settles (done p Arming p.words.reference) x Running) (sym e) (omega (arith, a, b, l)))
answered_arm cfg n settles q step (next ∷ others) f None e s t w =
    let p = noted q step (next ∷ others) f in
    let a = ap (λ x. length x) t in let b = w.sent in let l = w.tries in
    subst (λ x. BoundBy n settles p x p.phase) (sym e) (subst (λ x. BoundBy n settles p None x) (sym s)
    (record { tries = omega arith; sent = omega (arith, a, b, l); least = omega arith }))

-- settling
record SettleSent (n settles : ℕ) (q : Progress) : Type 0 where
  kinds : length q.words.slaves ≡ n
  sent : q.sent ≤ 9 + 9 * n + q.drifts
  tries : q.tries ≡ 0
  drifts : q.drifts ≤ settles

from_eqb : (m k : ℕ) → eqb m k ≡ true → m ≡ k
from_eqb m k h = grind (arith, nat_tests)

less : (m k : ℕ) → eqb m k ≡ false → m ≤ k → m < k
less m k h l = grind (arith, nat_tests)

settled_by_bound : (n settles : ℕ) (q : Progress) (time : Option ℕ) → q.refused ≡ None → SettleSent n settles q → BoundBy n settles (settled_by q time) (settled_by q time).refused (settled_by q time).phase
settled_by_bound n settles q None e w = let s = w.sent in let d = w.drifts in omega (arith, s, d)
settled_by_bound n settles q (Some r) e w =
    let s = w.sent in let d = w.drifts in let k = w.kinds in let z = w.tries in let a = arm_few q.words.slaves in
    subst (λ x. BoundBy n settles (settled_by q (Some r)) x Arming) (sym e) (record { tries = omega (arith, z); sent = omega (arith, s, d, k, a, z); least = omega (arith, z) })

settled_bound : (n settles : ℕ) (q : Progress) (b : Bool) → eqb q.drifts settles ≡ b → q.refused ≡ None → q.phase ≡ Settling → SettleSent n settles q
    → BoundBy n settles (cond b (settled_by q q.words.time) q) (cond b (settled_by q q.words.time) q).refused (cond b (settled_by q q.words.time) q).phase
settled_bound n settles q true h e s w = settled_by_bound n settles q q.words.time e w
settled_bound n settles q false h e s w =
    subst (λ x. BoundBy n settles q x q.phase) (sym e) (subst (λ x. BoundBy n settles q None x) (sym s)
    (record { kinds = w.kinds; sent = w.sent; tries = w.tries; drifts = less q.drifts settles h w.drifts }))

timed_bound : (cfg : ConfigValue) (n : ℕ) (q : Progress) (f : FrameValue) (o : Option Refusal) → q.refused ≡ None → q.phase ≡ Settling → SettleSent n (settle_frames cfg) q
    → BoundBy n (settle_frames cfg) (timed cfg q f o) (timed cfg q f o).refused (timed cfg q f o).phase
timed_bound cfg n q f (Some r) e s w = let a = w.sent in let d = w.drifts in omega (arith, a, d)
timed_bound cfg n q f None e s w =
    settled_bound n (settle_frames cfg) (brought cfg q f) (q.drifts == settle_frames cfg) refl e s (record { kinds = w.kinds; sent = w.sent; tries = w.tries; drifts = w.drifts })

run_bound : (n settles : ℕ) (q : Progress) (o : Option Refusal) → q.sent ≤ 9 + 12 * n + settles + q.ran → BoundBy n settles q o Running
run_bound n settles q None h = h
run_bound n settles q (Some r) h = h

-- what a call that wants a frame says of the place
abbrev pub Wanted : ℕ → Progress → Option Refusal → Phase → Type 0
Wanted frames p (Some r) s = ⊥
Wanted frames p None Commissioning = (step : Step) × (rest : List Step) × (p.todo ≡ step ∷ rest)
Wanted frames p None Settling = Unit {0}
Wanted frames p None Arming = (step : Step) × (rest : List Step) × (p.todo ≡ step ∷ rest)
Wanted frames p None Running = p.ran < frames

asked_fresh : (cfg : ConfigValue) (n settles : ℕ) (q : Progress) (sent : FrameValue) (back : Option FrameValue) (step : Step) (rest : List Step) → 0 < settles → q.refused ≡ None → q.phase ≡ Commissioning → q.todo ≡ step ∷ rest → FreshSent n q q.words.reference
    → BoundBy n settles (asked cfg q sent back (step ∷ rest)) (asked cfg q sent back (step ∷ rest)).refused (asked cfg q sent back (step ∷ rest)).phase
asked_fresh cfg n settles q sent None step rest some e s t w =
    subst (λ x. BoundBy n settles (missed q step) (lost_at step (q.tries + 1)) x) (sym s) (lost_fresh n settles q step rest (q.tries + 1 == 3) refl t w)
asked_fresh cfg n settles q sent (Some f) step rest some e s t w = answered_fresh cfg n settles q step rest f (judged step (expected cfg q.words step f) sent f) some e s t w

asked_arm : (cfg : ConfigValue) (n settles : ℕ) (q : Progress) (sent : FrameValue) (back : Option FrameValue) (step : Step) (rest : List Step) → q.refused ≡ None → q.phase ≡ Arming → q.todo ≡ step ∷ rest → ArmSent n settles q
    → BoundBy n settles (asked cfg q sent back (step ∷ rest)) (asked cfg q sent back (step ∷ rest)).refused (asked cfg q sent back (step ∷ rest)).phase
asked_arm cfg n settles q sent None step rest e s t w =
    subst (λ x. BoundBy n settles (missed q step) (lost_at step (q.tries + 1)) x) (sym s) (lost_arm n settles q step rest (q.tries + 1 == 3) refl t w)
asked_arm cfg n settles q sent (Some f) step rest e s t w = answered_arm cfg n settles q step rest f (judged step (expected cfg q.words step f) sent f) e s t w

settling_bound : (cfg : ConfigValue) (n : ℕ) (q : Progress) (sent : FrameValue) (back : Option FrameValue) → q.refused ≡ None → q.phase ≡ Settling → SettleSent n (settle_frames cfg) q
    → BoundBy n (settle_frames cfg) (settling cfg q sent back) (settling cfg q sent back).refused (settling cfg q sent back).phase
settling_bound cfg n q sent None e s w = settled_bound n (settle_frames cfg) q (q.drifts == settle_frames cfg) refl e s w
settling_bound cfg n q sent (Some f) e s w = timed_bound cfg n q f (judged (Drift q.drifts) (expected cfg q.words (Drift q.drifts) f) sent f) e s w

running_bound : (cfg : ConfigValue) (n settles : ℕ) (q : Progress) (sent : FrameValue) (back : Option FrameValue) → q.refused ≡ None → q.phase ≡ Running → q.sent ≤ 9 + 12 * n + settles + q.ran
    → BoundBy n settles (running cfg q sent back) (running cfg q sent back).refused (running cfg q sent back).phase
running_bound cfg n settles q sent None e s h = subst (λ x. BoundBy n settles q x q.phase) (sym e) (subst (λ x. BoundBy n settles q None x) (sym s) h)
running_bound cfg n settles q sent (Some f) e s h =
    subst (λ x. BoundBy n settles (running cfg q sent (Some f)) (judged (Drift q.drifts) (expected cfg q.words (Drift q.drifts) f) sent f) x) (sym s) (run_bound n settles (running cfg q sent (Some f)) _ h)

moved_bound : (cfg : ConfigValue) (n frames : ℕ) (p : Progress) (sent : FrameValue) (back : Option FrameValue) (o : Option Refusal) (s : Phase) → p.refused ≡ o → p.phase ≡ s
    → Wanted frames p o s → BoundBy n (settle_frames cfg) p o s
    → BoundBy n (settle_frames cfg) (moved cfg (counted p back) sent back o s) (moved cfg (counted p back) sent back o s).refused (moved cfg (counted p back) sent back o s).phase
moved_bound cfg n frames p sent back (Some r) s e g w h = absurd w
moved_bound cfg n frames p sent back None Commissioning e g w h =
    let a = h.sent in let d : (counted p back).drifts ≡ 0 = rw g (omega (arith, h.drifts)) in
    subst (λ x. BoundBy n (settle_frames cfg) (asked cfg (counted p back) sent back x) (asked cfg (counted p back) sent back x).refused (asked cfg (counted p back) sent back x).phase) (sym w.2)
    (asked_fresh cfg n (settle_frames cfg) (counted p back) sent back w.0 w.1 (omega arith) e g w.2 (record { tries = h.tries; drifts = d; kinds = h.kinds; sent = omega (arith, a) }))
moved_bound cfg n frames p sent back None Settling e g w h =
    let a = h.sent in let b = h.drifts in
    let d : (counted p back).drifts ≡ p.drifts + 1 = rw g refl in
    settling_bound cfg n (counted p back) sent back e g (record { kinds = h.kinds; sent = omega (arith, a, d); tries = h.tries; drifts = omega (arith, b, d) })
moved_bound cfg n frames p sent back None Arming e g w h =
    let a = h.sent in
    subst (λ x. BoundBy n (settle_frames cfg) (asked cfg (counted p back) sent back x) (asked cfg (counted p back) sent back x).refused (asked cfg (counted p back) sent back x).phase) (sym w.2)
    (asked_arm cfg n (settle_frames cfg) (counted p back) sent back w.0 w.1 e g w.2 (record { tries = h.tries; sent = omega (arith, a) }))
moved_bound cfg n frames p sent back None Running e g w h =
    let r : (counted p back).ran ≡ p.ran + 1 = rw g refl in
    running_bound cfg n (settle_frames cfg) (counted p back) sent back e g (omega (arith, h, r))

pub after_bound : (cfg : ConfigValue) (n frames : ℕ) (p : Progress) (e : Exchange) → Wanted frames p p.refused p.phase → BoundBy n (settle_frames cfg) p p.refused p.phase
    → BoundBy n (settle_frames cfg) (after cfg p e) (after cfg p e).refused (after cfg p e).phase
unfolding after
after_bound cfg n frames p e w h = moved_bound cfg n frames p e.sent e.back p.refused p.phase refl refl w h

module _ (cfg : ConfigValue) (frames : ℕ) (p : Progress) (wait_ns : ℕ) (sent : FrameValue) where
  asks_some : (todo : List Step) → asks_next cfg p todo ≡ Send wait_ns sent → (step : Step) × (rest : List Step) × (todo ≡ step ∷ rest)
  asks_some [] h = absurd cc
  asks_some (step ∷ rest) h = (step, rest, refl)

  runs_some : (k : ℕ) (b : Bool) → ltb p.ran k ≡ b → k ≤ frames → cond b (drifts_next cfg p) (End (Ok tt)) ≡ Send wait_ns sent → p.ran < frames
  runs_some k true h l e = let a = from_ltb p.ran k h in omega (arith, a, l)
    where
      from_ltb : (m j : ℕ) → ltb m j ≡ true → m < j
      from_ltb m j h = grind (arith, nat_tests)
  runs_some k false h l e = absurd cc

  wanted_in : (call : Call) (s : Phase) → IsLimited frames call → next_in cfg p call s ≡ Send wait_ns sent → Wanted frames p None s
  wanted_in Commission Commissioning l h = asks_some p.todo h
  wanted_in CallSettle Settling l h = tt
  wanted_in CallArm Arming l h = asks_some p.todo h
  wanted_in (Run k) Running l h = runs_some k (ltb p.ran k) refl l h
  wanted_in call s l h = absurd cc

  wanted : (call : Call) (o : Option Refusal) → IsLimited frames call → next_by cfg p call o ≡ Send wait_ns sent → Wanted frames p o p.phase
  wanted call (Some r) l h = absurd cc
  wanted call None l h = wanted_in call p.phase l h

ran_less : (frames : ℕ) (p : Progress) (o : Option Refusal) (s : Phase) → p.phase ≡ s → Wanted frames p o s → p.ran ≤ frames → p.ran + run_one p.phase ≤ frames
ran_less frames p (Some r) s g w l = absurd w
ran_less frames p None Commissioning g w l = rw g (omega (arith, l))
ran_less frames p None Settling g w l = rw g (omega (arith, l))
ran_less frames p None Arming g w l = rw g (omega (arith, l))
ran_less frames p None Running g w l = rw g (omega (arith, w))

-- the bound of each place on the way
record Bounded (cfg : ConfigValue) (frames : ℕ) (p : Progress) : Type 0 where
  bound : BoundBy (length cfg.kinds) (settle_frames cfg) p p.refused p.phase
  ran : p.ran ≤ frames

beginning_bounded : (cfg : ConfigValue) (frames : ℕ) → Bounded cfg frames (beginning cfg)
beginning_bounded cfg frames =
    let a = all_identify (positions (length cfg.kinds)) in
    let b = length-map (positions (length cfg.kinds)) Identify in
    let c = length-range_with_len 0 (length cfg.kinds) in
    record { bound = record { tries = omega arith; kinds = omega (arith, a, c); sent = omega (arith, b, c); drifts = refl }; ran = omega arith }

scripted_bounded : (cfg : ConfigValue) (frames : ℕ) (es : List Exchange) → AreScripted cfg frames es → Bounded cfg frames (progress cfg es)
unfolding progress script
scripted_bounded cfg frames es none = beginning_bounded cfg frames
scripted_bounded cfg frames es (more before e call rest l h) =
    let p = progress cfg before in
    let now = scripted_bounded cfg frames before rest in
    let w = wanted cfg frames p e.wait_ns e.sent call p.refused l h in
    let r = after_ran cfg p e in
    let q : Bounded cfg frames (after cfg p e) = record { bound = after_bound cfg (length cfg.kinds) frames p e w now.bound; ran = let a = ran_less frames p p.refused p.phase refl w now.ran in omega (arith, a, r) } in
    subst (λ x. Bounded cfg frames x) (sym (progress_push cfg before e)) q

sent_few : (n settles frames : ℕ) (p : Progress) (o : Option Refusal) (s : Phase) → 0 < n → 0 < settles → p.ran ≤ frames → BoundBy n settles p o s → p.sent ≤ 9 + 12 * n + settles + frames
sent_few n settles frames p (Some r) s a b l h = omega (arith, l, h)
sent_few n settles frames p None Commissioning a b l h = let c = h.sent in let d = h.tries in omega (arith, a, b, c, d)
sent_few n settles frames p None Settling a b l h = let c = h.sent in let d = h.drifts in omega (arith, a, b, c, d)
sent_few n settles frames p None Arming a b l h = let c = h.sent in let d = h.least in omega (arith, c, d)
sent_few n settles frames p None Running a b l h = omega (arith, l, h)

-- a script sends at most 9 (n + 1) + K + m + 1 + 3 n frames, and the run frames
pub sends_few : (cfg : ConfigValue) (frames : ℕ) (es : List Exchange) → 0 < length cfg.kinds → AreScripted cfg frames es → length es ≤ 9 + 12 * length cfg.kinds + settle_frames cfg + frames
sends_few cfg frames es some made =
    let b = scripted_bounded cfg frames es made in
    let s = progress_sent cfg es in
    let f = sent_few (length cfg.kinds) (settle_frames cfg) frames (progress cfg es) (progress cfg es).refused (progress cfg es).phase some (omega arith) b.ran b.bound in
    omega (arith, s, f)

-- with the greatest configuration
pub sends_most : (cfg : ConfigValue) (frames : ℕ) (es : List Exchange) → 0 < length cfg.kinds → length cfg.kinds ≤ 256 → cfg.lock_in ≤ 100000 → cfg.loss_run ≤ 15 → AreScripted cfg frames es → length es ≤ 103097 + frames
sends_most cfg frames es some n k m made = let f = sends_few cfg frames es some made in omega (arith, n, k, m, f)

-- the exchanges of one call behind others
pub calls_scripted : (cfg : ConfigValue) (frames : ℕ) (call : Call) (before es : List Exchange) → IsLimited frames call → AreScripted cfg frames before → Sends (script cfg call) before es → AreScripted cfg frames (before ++ es)
calls_scripted cfg frames call before [] l a s = subst (λ x. AreScripted cfg frames x) (sym (append-nil before)) a
calls_scripted cfg frames call before (e ∷ es) l a s =
    subst (λ x. AreScripted cfg frames x) (append_assoc before (e ∷ []) es)
    (calls_scripted cfg frames call (before ++ e ∷ []) es l (more before e call a l s.0) s.1)

module _ {S : Type 0} (step : StepOf S) (cfg : ConfigValue) (frames : ℕ) (call : Call) where
  -- with a turn more than can be sent, the run of a call ends
  pub call_ends : (turns : ℕ) (before : List Exchange) (s : S) → 0 < length cfg.kinds → IsLimited frames call → AreScripted cfg frames before
      → 9 + 12 * length cfg.kinds + settle_frames cfg + frames < length before + turns → IsSome (drive step (script cfg call) turns before s)
  unfolding drive
  call_ends zero before s some l a h = let f = sends_few cfg frames before some a in absurd (omega (arith, f, h))
  call_ends (suc turns) before s some l a h =
      by_next (script cfg call before) refl
      (λ wait_ns frame w.
      let e = exchange_of step s wait_ns frame in
      let longer = length-append before (e ∷ []) in
      call_ends turns (before ++ e ∷ []) (step s wait_ns frame).0 some l (more before e call a l w) (omega (arith, h, longer)))
    where
      by_next : (n : Next Answer) → script cfg call before ≡ n
          → ((wait_ns : ℕ) (frame : FrameValue) → script cfg call before ≡ Send wait_ns frame → IsSome (drive step (script cfg call) turns (before ++ exchange_of step s wait_ns frame ∷ []) (step s wait_ns frame).0))
          → IsSome (elim n [
            | End answer ↦ Some (record { exchanges = before; state = s; answer = answer })
            | Send wait_ns frame ↦ drive step (script cfg call) turns (before ++ exchange_of step s wait_ns frame ∷ []) (step s wait_ns frame).0
          ])
      by_next (End answer) e go = refl
      by_next (Send wait_ns frame) e go = go wait_ns frame e
