-- The numbers of sendings and of losses are those of the list.
use Rattle.std.proofs.Common.{◌≡◌, ℕ, ◌+◌, Bool, true, false, cond, ◌==◌, List, [], ◌∷◌, length, Option, Some, None, is_none, Result, Ok, Err, fold, add-zero, refl, sym, ap, ◌∙◌, arith}
use Rattle.std.proofs.lemmas.List.{nil_from_length}
use Rattle.std.proofs.lemmas.List.Sums.{sum_by-cons}
use Rattle.ecat_frame.specs.FrameGrammar.{FrameValue}
use Rattle.ecat_link.specs.Exchanges.{Exchange, lost_among}
use Rattle.master_script.specs.Config.{ConfigValue, settle_frames}
use Rattle.master_script.specs.Judged.{judged}
use Rattle.master_script.specs.Kept.{Kept, kept_after, StandsFor}
use Rattle.master_script.specs.Progress.{Phase, Commissioning, Settling, Arming, Running, Progress, progress, after, beginning, asked, answered, turned, done, planned, noted, brought, counted, moved, settling, settled_by, timed, running, lost_one, drift_one, run_one}
use Rattle.master_script.specs.Slaves.{judgement}
use Rattle.master_script.specs.Steps.{expected}
use Rattle.master_script.specs.declared.step.Refusal.{Refusal}
use Rattle.master_script.specs.declared.step.Step.{Step}

-- the same numbers
record Same (p q : Progress) : Type 0 where
  sent : q.sent ≡ p.sent
  lost : q.lost ≡ p.lost
  ran : q.ran ≡ p.ran
  drifts : q.drifts ≡ p.drifts

same : (p : Progress) → Same p p
same p = record { sent = refl; lost = refl; ran = refl; drifts = refl }

planned_same : (p : Progress) (j : Result ℕ Refusal) → Same p (planned p j)
planned_same p (Err r) = record { sent = refl; lost = refl; ran = refl; drifts = refl }
planned_same p (Ok x) = record { sent = refl; lost = refl; ran = refl; drifts = refl }

done_same : (cfg : ConfigValue) (p : Progress) (s : Phase) (reference : Option ℕ) → Same p (done p s reference)
done_same cfg p Commissioning None = planned_same p (judgement p.words.slaves)
done_same cfg p Commissioning (Some r) = record { sent = refl; lost = refl; ran = refl; drifts = refl }
done_same cfg p Settling r = same p
done_same cfg p Arming r = record { sent = refl; lost = refl; ran = refl; drifts = refl }
done_same cfg p Running r = same p

turned_same : (cfg : ConfigValue) (p q : Progress) (rest : List Step) → Same p q → Same p (turned q rest)
turned_same cfg p q [] s = let d = done_same cfg q q.phase q.words.reference in record { sent = d.sent ∙ s.sent; lost = d.lost ∙ s.lost; ran = d.ran ∙ s.ran; drifts = d.drifts ∙ s.drifts }
turned_same cfg p q (next ∷ rest) s = s

answered_same : (cfg : ConfigValue) (p : Progress) (step : Step) (rest : List Step) (f : FrameValue) (o : Option Refusal) → Same p (answered p step rest f o)
answered_same cfg p step rest f (Some r) = record { sent = refl; lost = refl; ran = refl; drifts = refl }
answered_same cfg p step rest f None = turned_same cfg p (noted p step rest f) rest (record { sent = refl; lost = refl; ran = refl; drifts = refl })

asked_same : (cfg : ConfigValue) (p : Progress) (sent : FrameValue) (back : Option FrameValue) (todo : List Step) → Same p (asked cfg p sent back todo)
asked_same cfg p sent back [] = same p
asked_same cfg p sent None (step ∷ rest) = record { sent = refl; lost = refl; ran = refl; drifts = refl }
asked_same cfg p sent (Some f) (step ∷ rest) = answered_same cfg p step rest f (judged step (expected cfg p.words step f) sent f)

settled_by_same : (p : Progress) (time : Option ℕ) → Same p (settled_by p time)
settled_by_same p None = record { sent = refl; lost = refl; ran = refl; drifts = refl }
settled_by_same p (Some r) = record { sent = refl; lost = refl; ran = refl; drifts = refl }

settled_same : (p q : Progress) (last : Bool) → Same p q → Same p (cond last (settled_by q q.words.time) q)
settled_same p q true s = let d = settled_by_same q q.words.time in record { sent = d.sent ∙ s.sent; lost = d.lost ∙ s.lost; ran = d.ran ∙ s.ran; drifts = d.drifts ∙ s.drifts }
settled_same p q false s = s

timed_same : (cfg : ConfigValue) (p : Progress) (f : FrameValue) (o : Option Refusal) → Same p (timed cfg p f o)
timed_same cfg p f (Some r) = record { sent = refl; lost = refl; ran = refl; drifts = refl }
timed_same cfg p f None = settled_same p (brought cfg p f) (p.drifts == settle_frames cfg) (record { sent = refl; lost = refl; ran = refl; drifts = refl })

settling_same : (cfg : ConfigValue) (p : Progress) (sent : FrameValue) (back : Option FrameValue) → Same p (settling cfg p sent back)
settling_same cfg p sent None = settled_same p p (p.drifts == settle_frames cfg) (same p)
settling_same cfg p sent (Some f) = timed_same cfg p f _

running_same : (cfg : ConfigValue) (p : Progress) (sent : FrameValue) (back : Option FrameValue) → Same p (running cfg p sent back)
running_same cfg p sent None = same p
running_same cfg p sent (Some f) = record { sent = refl; lost = refl; ran = refl; drifts = refl }

moved_same : (cfg : ConfigValue) (p : Progress) (sent : FrameValue) (back : Option FrameValue) (o : Option Refusal) (s : Phase) → Same p (moved cfg p sent back o s)
moved_same cfg p sent back (Some r) s = same p
moved_same cfg p sent back None Commissioning = asked_same cfg p sent back p.todo
moved_same cfg p sent back None Settling = settling_same cfg p sent back
moved_same cfg p sent back None Arming = asked_same cfg p sent back p.todo
moved_same cfg p sent back None Running = running_same cfg p sent back

-- one exchange more is one sending more, and one loss more where nothing came back
pub after_counts : (cfg : ConfigValue) (p : Progress) (e : Exchange) → ((after cfg p e).sent ≡ p.sent + 1) × ((after cfg p e).lost ≡ p.lost + lost_one e.back)
unfolding after
after_counts cfg p e = let s = moved_same cfg (counted p e.back) e.sent e.back p.refused p.phase in (s.sent, s.lost)

pub after_ran : (cfg : ConfigValue) (p : Progress) (e : Exchange) → (after cfg p e).ran ≡ p.ran + run_one p.phase
unfolding after
after_ran cfg p e = (moved_same cfg (counted p e.back) e.sent e.back p.refused p.phase).ran

pub after_drifts : (cfg : ConfigValue) (p : Progress) (e : Exchange) → (after cfg p e).drifts ≡ p.drifts + drift_one p.phase
unfolding after
after_drifts cfg p e = (moved_same cfg (counted p e.back) e.sent e.back p.refused p.phase).drifts

fold_sent : (cfg : ConfigValue) (p : Progress) (es : List Exchange) → (fold (after cfg) p es).sent ≡ p.sent + length es
fold_sent cfg p [] = sym (add-zero p.sent)
fold_sent cfg p (e ∷ es) = let a = (after_counts cfg p e).0 in let b = fold_sent cfg (after cfg p e) es in omega (arith, a, b)

pub progress_sent : (cfg : ConfigValue) (es : List Exchange) → (progress cfg es).sent ≡ length es
unfolding progress
progress_sent cfg es = let h = fold_sent cfg (beginning cfg) es in omega (arith, h)

lost_counted : (back : Option FrameValue) → lost_one back ≡ cond (is_none back) 1 0
lost_counted None = refl
lost_counted (Some f) = refl

fold_lost : (cfg : ConfigValue) (p : Progress) (es : List Exchange) → (fold (after cfg) p es).lost ≡ p.lost + lost_among es
fold_lost cfg p [] = sym (add-zero p.lost)
fold_lost cfg p (e ∷ es) =
    let a = (after_counts cfg p e).1 in
    let b = fold_lost cfg (after cfg p e) es in
    let c = lost_counted e.back in
    let d = sum_by-cons (λ (x : Exchange). cond (is_none x.back) 1 0) e es in
    omega (arith, a, b, c, d)

pub progress_lost : (cfg : ConfigValue) (es : List Exchange) → (progress cfg es).lost ≡ lost_among es
unfolding progress
progress_lost cfg es = let h = fold_lost cfg (beginning cfg) es in omega (arith, h)

-- what is kept of it
pub kept_counts : (cfg : ConfigValue) (frames : Option ℕ) (es : List Exchange) → ((kept_after cfg frames es).sent ≡ length es) × ((kept_after cfg frames es).lost ≡ lost_among es)
unfolding kept_after
kept_counts cfg frames es = (progress_sent cfg es, progress_lost cfg es)

-- a fresh master has sent nothing, and so stands for the empty list alone
pub fresh_pins : (m : Kept) (frames : Option ℕ) (es : List Exchange) → StandsFor frames m es → m.sent ≡ 0 → es ≡ []
unfolding kept_after
fresh_pins m frames es h z = nil_from_length es (sym (progress_sent m.config es) ∙ sym (ap (λ x. x.sent) h) ∙ z)
