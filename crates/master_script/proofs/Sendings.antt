-- How many frames a call sends that ends with Ok.
use Rattle.std.proofs.Common.{◌≡◌, ℕ, ◌+◌, ◌<◌, Bool, true, false, cond, ◌==◌, List, [], ◌∷◌, length, map, Option, Some, None, Result, Ok, Err, fold, refl, sym, ap, subst, ◌∙◌, arith}
use Rattle.std.proofs.lemmas.List.{length-map, length-append}
use Rattle.std.proofs.lemmas.List.FromFn.{length-range_with_len}
use Rattle.ecat_frame.specs.FrameGrammar.{FrameValue}
use Rattle.ecat_link.specs.Exchanges.{Exchange}
use Rattle.dc_delay.specs.ShapeRows.{positions}
use Rattle.master_script.specs.Config.{ConfigValue}
use Rattle.master_script.specs.Judged.{judged}
use Rattle.master_script.specs.Progress.{Phase, Commissioning, Settling, Arming, Running, Progress, progress, beginning, later_steps, arm_steps, after, asked, answered, noted, done, planned, missed, lost_at, counted, moved, settling, settled_by, timed, brought, running}
use Rattle.master_script.specs.Slaves.{SlaveWords, measuring, clocks, judgement}
use Rattle.master_script.specs.Steps.{learned, expected}
use Rattle.master_script.specs.Words.{Words}
use Rattle.master_script.specs.declared.step.Refusal.{Refusal}
use Rattle.master_script.specs.declared.step.Refusal.TheVariants.{Lost}
use Rattle.master_script.specs.declared.step.Step.{Step}
use Rattle.master_script.specs.declared.step.Step.TheVariants.{Identify, Latch, Times, Set, Arm}
use Rattle.master_script.proofs.Judging.{reference_judged}
use Rattle.master_script.proofs.Known.{Known, KnownBy, beginning_known, after_moves}
use Rattle.master_script.proofs.Todo.{identifies, one_identify}

-- steps to be asked, by the slaves
later_length : (ss : List SlaveWords) → length (later_steps ss) ≡ 2 + length (measuring ss) + length (clocks ss)
later_length ss =
    let c = length-append (map Times (measuring ss)) (map Set (clocks ss)) in
    let d = length-map (measuring ss) Times in
    let e = length-map (clocks ss) Set in
    omega (arith, c, d, e)

some_arm : (ss : List SlaveWords) (x : ℕ) → judgement ss ≡ Ok x → 0 < length (arm_steps ss)
some_arm ss x j =
    let g = (reference_judged ss x).0 j in
    let e = length-map (clocks ss) Arm in
    let l : length (clocks ss) ≡ length (x ∷ g.1) = ap (λ (cs : List ℕ). length cs) g.3 in
    omega (arith, e, l)

same_slaves : (n : ℕ) (step : Step) (f : FrameValue) (w : Words) → one_identify step ≡ 0 → (learned n step f w).slaves ≡ w.slaves
same_slaves n (Identify p) f w e = absurd (omega (arith, e))
same_slaves n Latch f w e = refl
same_slaves n (Times p) f w e = refl
same_slaves n step f w e = refl

same_reference : (n : ℕ) (step : Step) (f : FrameValue) (w : Words) → (learned n step f w).reference ≡ w.reference
same_reference n (Identify p) f w = refl
same_reference n Latch f w = refl
same_reference n (Times p) f w = refl
same_reference n step f w = refl

-- what was sent, and what is still ahead, but for losses
abbrev pub Steps : ℕ → Progress → Option ℕ → Type 0
Steps n p None = p.sent + length p.todo ≡ 1 + n + p.lost
Steps n p (Some r) = p.sent + length p.todo ≡ 3 + n + length (measuring p.words.slaves) + length (clocks p.words.slaves) + p.lost

abbrev pub CountedBy : ℕ → Progress → Option Refusal → Phase → Type 0
CountedBy n p (Some r) s = Unit {0}
CountedBy n p None Commissioning = (0 < length p.todo) × Steps n p p.words.reference
CountedBy n p None Settling = p.drifts ≡ 0 → p.sent ≡ 3 + n + length (measuring p.words.slaves) + length (clocks p.words.slaves) + p.lost
CountedBy n p None Arming = 0 < length p.todo
CountedBy n p None Running = Unit {0}

abbrev pub IsCounted : ℕ → Progress → Type 0
IsCounted n p = CountedBy n p p.refused p.phase

planned_counted : (n : ℕ) (p : Progress) (j : Result ℕ Refusal) → p.refused ≡ None → p.phase ≡ Commissioning → p.sent ≡ 1 + n + p.lost → IsCounted n (planned p j)
planned_counted n p (Err r) e s b = tt
planned_counted n p (Ok x) e s b =
    let l = later_length p.words.slaves in
    subst (λ o. CountedBy n (planned p (Ok x)) o p.phase) (sym e) (subst (λ k. CountedBy n (planned p (Ok x)) None k) (sym s) (omega (arith, l), omega (arith, b, l)))

done_counted : (n : ℕ) (p : Progress) (o : Option ℕ) → p.refused ≡ None → p.phase ≡ Commissioning → p.todo ≡ [] → p.words.reference ≡ o → Steps n p o → IsCounted n (done p Commissioning o)
done_counted n p None e s t r b = let l = ap (λ x. length x) t in planned_counted n p (judgement p.words.slaves) e s (omega (arith, b, l))
done_counted n p (Some x) e s t r b =
    let l = ap (λ y. length y) t in
    subst (λ o. CountedBy n (done p Commissioning (Some x)) o Settling) (sym e) (λ d. omega (arith, b, l))

-- one was sent more, which came back
abbrev pub Over : ℕ → Progress → Option ℕ → Type 0
Over n p None = p.sent + length p.todo ≡ 2 + n + p.lost
Over n p (Some r) = p.sent + length p.todo ≡ 4 + n + length (measuring p.words.slaves) + length (clocks p.words.slaves) + p.lost

noted_steps : (n k : ℕ) (p : Progress) (step : Step) (rest : List Step) (f : FrameValue) (o : Option ℕ) → p.words.reference ≡ o → p.todo ≡ step ∷ rest → KnownBy k p o → Over n p o → Steps n (noted p step rest f) (noted p step rest f).words.reference
noted_steps n k p step rest f None r t w b =
    let l = ap (λ x. length x) t in
    subst (λ o. Steps n (noted p step rest f) o) (sym (same_reference p.sent step f p.words ∙ r)) (omega (arith, b, l))
noted_steps n k p step rest f (Some x) r t w b =
    let l = ap (λ y. length y) t in
    let i = ap (λ y. identifies y) t in
    let z = w.steps in
    let s = same_slaves p.sent step f p.words (omega (arith, i, z)) in
    let m = ap (λ (ss : List SlaveWords). length (measuring ss)) s in
    let c = ap (λ (ss : List SlaveWords). length (clocks ss)) s in
    subst (λ o. Steps n (noted p step rest f) o) (sym (same_reference p.sent step f p.words ∙ r)) (omega (arith, b, l, m, c))

answered_counted : (n k : ℕ) (p : Progress) (step : Step) (rest : List Step) (f : FrameValue) (o : Option Refusal) → p.refused ≡ None → p.phase ≡ Commissioning → p.todo ≡ step ∷ rest → Known k p → Over n p p.words.reference → IsCounted n (answered p step rest f o)
answered_counted n k p step rest f (Some r) e s t w b = tt
answered_counted n k p step [] f None e s t w b =
    let q = noted p step [] f in
    subst (λ x. IsCounted n (done q x q.words.reference)) (sym s) (done_counted n q q.words.reference e s refl refl (noted_steps n k p step [] f p.words.reference refl t w b))
answered_counted n k p step (next ∷ others) f None e s t w b =
    let q = noted p step (next ∷ others) f in
    subst (λ o. CountedBy n q o q.phase) (sym e) (subst (λ x. CountedBy n q None x) (sym s) (omega arith, noted_steps n k p step (next ∷ others) f p.words.reference refl t w b))

lost_counted : (n : ℕ) (q : Progress) (step : Step) (b : Bool) → 0 < length q.todo → Steps n q q.words.reference → CountedBy n (missed q step) (cond b (Some (Lost step)) None) Commissioning
lost_counted n q step true l s = tt
lost_counted n q step false l s = (l, by_reference q.words.reference s)
  where
    by_reference : (o : Option ℕ) → Steps n q o → Steps n (missed q step) o
    by_reference None s = s
    by_reference (Some x) s = s

steps_lost : (n : ℕ) (p : Progress) (o : Option ℕ) → Steps n p o → Steps n (counted p None) o
steps_lost n p None s = omega (arith, s)
steps_lost n p (Some x) s = omega (arith, s)

steps_over : (n : ℕ) (p : Progress) (f : FrameValue) (o : Option ℕ) → Steps n p o → Over n (counted p (Some f)) o
steps_over n p f None s = omega (arith, s)
steps_over n p f (Some x) s = omega (arith, s)

asked_counted : (n k : ℕ) (cfg : ConfigValue) (p : Progress) (sent : FrameValue) (back : Option FrameValue) (todo : List Step) → p.refused ≡ None → p.phase ≡ Commissioning → p.todo ≡ todo → Known k p → 0 < length todo → Steps n p p.words.reference
    → IsCounted n (asked cfg (counted p back) sent back todo)
asked_counted n k cfg p sent back [] e s t w l b = absurd (omega (arith, l))
asked_counted n k cfg p sent None (step ∷ rest) e s t w l b =
    let q = counted p None in
    let some : 0 < length q.todo = let g = ap (λ x. length x) t in omega (arith, g) in
    subst (λ x. CountedBy n (missed q step) (lost_at step (q.tries + 1)) x) (sym s) (lost_counted n q step (q.tries + 1 == 3) some (steps_lost n p p.words.reference b))
asked_counted n k cfg p sent (Some f) (step ∷ rest) e s t w l b =
    let q = counted p (Some f) in
    answered_counted n k q step rest f (judged step (expected cfg q.words step f) sent f) e s t w (steps_over n p f p.words.reference b)

-- arming
answered_arms : (n : ℕ) (p : Progress) (step : Step) (rest : List Step) (f : FrameValue) (o : Option Refusal) → p.refused ≡ None → p.phase ≡ Arming → IsCounted n (answered p step rest f o)
answered_arms n p step rest f (Some r) e s = tt
answered_arms n p step [] f None e s =
    let q = noted p step [] f in
    subst (λ x. IsCounted n (done q x q.words.reference)) (sym s) (subst (λ o. CountedBy n (done q Arming q.words.reference) o Running) (sym e) tt)
answered_arms n p step (next ∷ others) f None e s =
    let q = noted p step (next ∷ others) f in
    subst (λ o. CountedBy n q o q.phase) (sym e) (subst (λ x. CountedBy n q None x) (sym s) (omega arith))

missed_arms : (n : ℕ) (q : Progress) (step : Step) (b : Bool) → 0 < length q.todo → CountedBy n (missed q step) (cond b (Some (Lost step)) None) Arming
missed_arms n q step true l = tt
missed_arms n q step false l = l

asked_arms : (n : ℕ) (cfg : ConfigValue) (p : Progress) (sent : FrameValue) (back : Option FrameValue) (todo : List Step) → p.refused ≡ None → p.phase ≡ Arming → p.todo ≡ todo → 0 < length todo → IsCounted n (asked cfg p sent back todo)
asked_arms n cfg p sent back [] e s t l = absurd (omega (arith, l))
asked_arms n cfg p sent None (step ∷ rest) e s t l =
    let some : 0 < length p.todo = let g = ap (λ x. length x) t in omega (arith, g) in
    subst (λ x. CountedBy n (missed p step) (lost_at step (p.tries + 1)) x) (sym s) (missed_arms n p step (p.tries + 1 == 3) some)
asked_arms n cfg p sent (Some f) (step ∷ rest) e s t l = answered_arms n p step rest f (judged step (expected cfg p.words step f) sent f) e s

-- settling
settled_by_counted : (n k : ℕ) (p : Progress) (time o : Option ℕ) → p.refused ≡ None → p.phase ≡ Settling → KnownBy k p o → IsCounted n (settled_by p time)
settled_by_counted n k p None o e s w = tt
settled_by_counted n k p (Some y) None e s w = absurd (let z : Settling ≡ Commissioning = sym s ∙ w.phase_is in cc)
settled_by_counted n k p (Some y) (Some x) e s w = subst (λ o. CountedBy n (settled_by p (Some y)) o Arming) (sym e) (some_arm p.words.slaves x w.is)

settled_counted : (n k : ℕ) (p : Progress) (last : Bool) → p.refused ≡ None → p.phase ≡ Settling → Known k p → 0 < p.drifts → IsCounted n (cond last (settled_by p p.words.time) p)
settled_counted n k p true e s w d = settled_by_counted n k p p.words.time p.words.reference e s w
settled_counted n k p false e s w d = subst (λ o. CountedBy n p o p.phase) (sym e) (subst (λ x. CountedBy n p None x) (sym s) (λ z. absurd (omega (arith, d, z))))

timed_counted : (n k : ℕ) (cfg : ConfigValue) (p : Progress) (f : FrameValue) (o : Option Refusal) → p.refused ≡ None → p.phase ≡ Settling → Known k p → 0 < p.drifts → IsCounted n (timed cfg p f o)
timed_counted n k cfg p f (Some r) e s w d = tt
timed_counted n k cfg p f None e s w d = settled_counted n k (brought cfg p f) _ e s w d

settling_counted : (n k : ℕ) (cfg : ConfigValue) (p : Progress) (sent : FrameValue) (back : Option FrameValue) → p.refused ≡ None → p.phase ≡ Settling → Known k p → 0 < p.drifts → IsCounted n (settling cfg p sent back)
settling_counted n k cfg p sent None e s w d = settled_counted n k p _ e s w d
settling_counted n k cfg p sent (Some f) e s w d = timed_counted n k cfg p f _ e s w d

running_counted : (n : ℕ) (cfg : ConfigValue) (p : Progress) (sent : FrameValue) (back : Option FrameValue) → p.phase ≡ Running → IsCounted n (running cfg p sent back)
running_counted n cfg p sent None s = subst (λ x. CountedBy n p p.refused x) (sym s) (any p.refused)
  where
    any : (o : Option Refusal) → CountedBy n p o Running
    any None = tt
    any (Some r) = tt
running_counted n cfg p sent (Some f) s = subst (λ x. CountedBy n (running cfg p sent (Some f)) (running cfg p sent (Some f)).refused x) (sym s) (any (running cfg p sent (Some f)).refused)
  where
    any : (o : Option Refusal) → CountedBy n (running cfg p sent (Some f)) o Running
    any None = tt
    any (Some r) = tt

moved_counted : (n k : ℕ) (cfg : ConfigValue) (p : Progress) (sent : FrameValue) (back : Option FrameValue) (o : Option Refusal) (s : Phase) → p.refused ≡ o → p.phase ≡ s → Known k p → CountedBy n p o s → IsCounted n (moved cfg (counted p back) sent back o s)
moved_counted n k cfg p sent back (Some r) s e g w h = subst (λ o. CountedBy n (counted p back) o p.phase) (sym e) tt
moved_counted n k cfg p sent back None Commissioning e g w h = asked_counted n k cfg p sent back p.todo e g refl w h.0 h.1
moved_counted n k cfg p sent back None Settling e g w h = settling_counted n k cfg (counted p back) sent back e g w (rw g (omega arith))
moved_counted n k cfg p sent back None Arming e g w h = asked_arms n cfg (counted p back) sent back p.todo e g refl h
moved_counted n k cfg p sent back None Running e g w h = running_counted n cfg (counted p back) sent back g

after_counted : (n k : ℕ) (cfg : ConfigValue) (p : Progress) (e : Exchange) → Known k p → IsCounted n p → IsCounted n (after cfg p e)
unfolding after
after_counted n k cfg p e w h = moved_counted n k cfg p e.sent e.back p.refused p.phase refl refl w h

fold_counted : (n k : ℕ) (cfg : ConfigValue) (p : Progress) (es : List Exchange) → Known k p → IsCounted n p → IsCounted n (fold (after cfg) p es)
fold_counted n k cfg p [] w h = h
fold_counted n k cfg p (e ∷ es) w h = fold_counted n k cfg (after cfg p e) es (after_moves k cfg p e w).known (after_counted n k cfg p e w h)

pub progress_counted : (cfg : ConfigValue) (es : List Exchange) → IsCounted (length cfg.kinds) (progress cfg es)
unfolding progress
progress_counted cfg es =
    let b = length-map (positions (length cfg.kinds)) Identify in
    let c = length-range_with_len 0 (length cfg.kinds) in
    fold_counted (length cfg.kinds) (length cfg.kinds) cfg (beginning cfg) es (beginning_known cfg) (omega arith, omega (arith, b, c))
