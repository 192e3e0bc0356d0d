-- The Latch that came back is one of the frames that were sent.
use Rattle.std.proofs.Common.{ℕ, ◌≤◌, ◌==◌, Bool, true, false, List, [], ◌∷◌, length, fold, Option, Some, None, Result, Ok, Err, subst, arith}
use Rattle.std.specs.Prelude.{if◌then◌else◌}
use Rattle.ecat_frame.specs.FrameGrammar.{FrameValue}
use Rattle.ecat_link.specs.Exchanges.{Exchange}
use Rattle.master_script.specs.Config.{ConfigValue, settle_frames}
use Rattle.master_script.specs.Judged.{judged}
use Rattle.master_script.specs.Progress.{Arming, Commissioning, Phase, Progress, Running, Settling, after, answered, asked, beginning, brought, counted, done, moved, noted, planned, progress, running, settled, settled_by, settling, timed, turned}
use Rattle.master_script.specs.Slaves.{judgement}
use Rattle.master_script.specs.Steps.{expected, learned}
use Rattle.master_script.specs.Words.{Words}
use Rattle.master_script.specs.declared.step.Refusal.{Refusal}
use Rattle.master_script.specs.declared.step.Step.{Step}
use Rattle.master_script.specs.declared.step.Step.TheVariants.{Count, Identify, Rate, Latch, Times, Set, Settle, Drift, Arm}
use Rattle.master_script.proofs.Exported.{progress_sent}

abbrev IsEarly : Progress → Type 0
IsEarly p = p.words.latched ≤ p.sent

learned_early : (sent : ℕ) (step : Step) (g : FrameValue) (w : Words) → w.latched ≤ sent → (learned sent step g w).latched ≤ sent
learned_early sent Count g w h = h
learned_early sent (Identify p) g w h = h
learned_early sent Rate g w h = h
learned_early sent Latch g w h = omega arith
learned_early sent (Times p) g w h = h
learned_early sent (Set p) g w h = h
learned_early sent Settle g w h = h
learned_early sent (Drift k) g w h = h
learned_early sent (Arm p) g w h = h

planned_early : (p : Progress) (o : Result ℕ Refusal) → IsEarly p → IsEarly (planned p o)
planned_early p (Ok r) h = h
planned_early p (Err e) h = h

done_early : (p : Progress) (phase : Phase) (reference : Option ℕ) → IsEarly p → IsEarly (done p phase reference)
done_early p Commissioning None h = planned_early p (judgement p.words.slaves) h
done_early p Commissioning (Some r) h = h
done_early p Settling reference h = h
done_early p Arming reference h = h
done_early p Running reference h = h

turned_early : (p : Progress) (rest : List Step) → IsEarly p → IsEarly (turned p rest)
turned_early p [] h = done_early p p.phase p.words.reference h
turned_early p (step ∷ rest) h = h

answered_early : (p : Progress) (step : Step) (rest : List Step) (g : FrameValue) (o : Option Refusal) → IsEarly p → IsEarly (answered p step rest g o)
answered_early p step rest g None h = turned_early (noted p step rest g) rest (learned_early p.sent step g p.words h)
answered_early p step rest g (Some r) h = h

asked_early : (cfg : ConfigValue) (p : Progress) (sent : FrameValue) (back : Option FrameValue) (todo : List Step) → IsEarly p → IsEarly (asked cfg p sent back todo)
asked_early cfg p sent back [] h = h
asked_early cfg p sent None (step ∷ rest) h = h
asked_early cfg p sent (Some g) (step ∷ rest) h = answered_early p step rest g (judged step (expected cfg p.words step g) sent g) h

settled_by_early : (p : Progress) (o : Option ℕ) → IsEarly p → IsEarly (settled_by p o)
settled_by_early p None h = h
settled_by_early p (Some time) h = h

settled_early : (cfg : ConfigValue) (p : Progress) → IsEarly p → IsEarly (settled cfg p)
settled_early cfg p h = by (p.drifts == settle_frames cfg)
  where
    by : (b : Bool) → IsEarly (if b then settled_by p p.words.time else p)
    by true = settled_by_early p p.words.time h
    by false = h

timed_early : (cfg : ConfigValue) (p : Progress) (g : FrameValue) (o : Option Refusal) → IsEarly p → IsEarly (timed cfg p g o)
timed_early cfg p g None h = settled_early cfg (brought cfg p g) h
timed_early cfg p g (Some r) h = h

settling_early : (cfg : ConfigValue) (p : Progress) (sent : FrameValue) (back : Option FrameValue) → IsEarly p → IsEarly (settling cfg p sent back)
settling_early cfg p sent None h = settled_early cfg p h
settling_early cfg p sent (Some g) h = timed_early cfg p g _ h

running_early : (cfg : ConfigValue) (p : Progress) (sent : FrameValue) (back : Option FrameValue) → IsEarly p → IsEarly (running cfg p sent back)
running_early cfg p sent None h = h
running_early cfg p sent (Some g) h = h

moved_early : (cfg : ConfigValue) (p : Progress) (sent : FrameValue) (back : Option FrameValue) (o : Option Refusal) (phase : Phase) → IsEarly p → IsEarly (moved cfg p sent back o phase)
moved_early cfg p sent back (Some r) phase h = h
moved_early cfg p sent back None Commissioning h = asked_early cfg p sent back p.todo h
moved_early cfg p sent back None Settling h = settling_early cfg p sent back h
moved_early cfg p sent back None Arming h = asked_early cfg p sent back p.todo h
moved_early cfg p sent back None Running h = running_early cfg p sent back h

after_early : (cfg : ConfigValue) (p : Progress) (e : Exchange) → IsEarly p → IsEarly (after cfg p e)
unfolding after
after_early cfg p e h = moved_early cfg (counted p e.back) e.sent e.back p.refused p.phase (omega (arith, h))

fold_early : (cfg : ConfigValue) (p : Progress) (es : List Exchange) → IsEarly p → IsEarly (fold (after cfg) p es)
fold_early cfg p [] h = h
fold_early cfg p (e ∷ es) h = fold_early cfg (after cfg p e) es (after_early cfg p e h)

pub latched_within : (cfg : ConfigValue) (es : List Exchange) → (progress cfg es).words.latched ≤ length es
unfolding progress
latched_within cfg es = let early = fold_early cfg (beginning cfg) es (omega arith) in subst (λ (n : ℕ). (progress cfg es).words.latched ≤ n) (progress_sent cfg es) early
