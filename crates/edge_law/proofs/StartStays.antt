-- After settling a master learns nothing more, so the start stays.
use Rattle.std.proofs.Common.{◌≡◌, List, [], ◌∷◌, ◌++◌, map, fold, Option, Some, None, Ok, refl, sym, ap, subst}
use Rattle.std.specs.Prelude.{ℕ, ⊤}
use Rattle.std.specs.List.{AllByRecursion}
use Rattle.ecat_frame.specs.FrameGrammar.{FrameValue}
use Rattle.ecat_link.specs.Exchanges.{Exchange}
use Rattle.master_script.specs.Config.{ConfigValue}
use Rattle.master_script.specs.Judged.{judged}
use Rattle.master_script.specs.Progress.{Arming, Commissioning, Phase, Progress, Running, Settling, after, answered, asked, asked_by, beginning, counted, done, moved, noted, progress, turned}
use Rattle.master_script.specs.Slaves.{clocks}
use Rattle.master_script.specs.Steps.{expected}
use Rattle.master_script.specs.Words.{Words, start_at}
use Rattle.master_script.specs.declared.step.Refusal.{Refusal}
use Rattle.master_script.specs.declared.step.Step.{Step}
use Rattle.master_script.specs.declared.step.Step.TheVariants.{Arm, Count, Drift, Identify, Latch, Rate, Set, Settle, Times}
use Rattle.run_counts.proofs.Exported.{honest_replies, is_settled}
use Rattle.run_of_file.specs.Commissioned.{words_after}
use Rattle.run_of_file.specs.MasterOfFile.{master_of}
use Rattle.run_of_file.specs.RunOfFile.{RunEnd, settled}
use Rattle.segment_file.specs.Legal.{IsLegal}
use Rattle.segment_file.specs.Segment.{SegmentValue}

fold_append : {X Y : Type 0} (f : Y → X → Y) (a : Y) (xs ys : List X) → fold f a (xs ++ ys) ≡ fold f (fold f a xs) ys
fold_append f a [] ys = refl
fold_append f a (x ∷ xs) ys = fold_append f (f a x) xs ys

abbrev IsArm : Step → Type 0
IsArm (Arm p) = ⊤
IsArm step = ⊥

all_arm : (ps : List ℕ) → AllByRecursion IsArm (map Arm ps)
all_arm [] = tt
all_arm (p ∷ ps) = (tt, all_arm ps)

-- the phase is one after settling
abbrev IsLater : Phase → Type 0
IsLater Commissioning = ⊥
IsLater Settling = ⊥
IsLater Arming = ⊤
IsLater Running = ⊤

-- only Arm is asked, and these words are known
record Knows (w : Words) (p : Progress) : Type 0 where
  words : p.words ≡ w
  phase : IsLater p.phase
  todo : AllByRecursion IsArm p.todo

module _ (cfg : ConfigValue) (w : Words) where
  done_knows : (p : Progress) (phase : Phase) (reference : Option ℕ) → IsLater phase → Knows w p → Knows w (done p phase reference)
  done_knows p Commissioning reference later h = absurd later
  done_knows p Settling reference later h = absurd later
  done_knows p Arming reference later h = record { words = h.words; phase = tt; todo = h.todo }
  done_knows p Running reference later h = h

  turned_knows : (p : Progress) (rest : List Step) → Knows w p → Knows w (turned p rest)
  turned_knows p [] h = done_knows p p.phase p.words.reference h.phase h
  turned_knows p (next ∷ rest) h = h

  noted_knows : (p : Progress) (step : Step) (rest : List Step) (g : FrameValue) → IsArm step → AllByRecursion IsArm rest → Knows w p → Knows w (noted p step rest g)
  noted_knows p Count rest g is all h = absurd is
  noted_knows p (Identify q) rest g is all h = absurd is
  noted_knows p Rate rest g is all h = absurd is
  noted_knows p Latch rest g is all h = absurd is
  noted_knows p (Times q) rest g is all h = absurd is
  noted_knows p (Set q) rest g is all h = absurd is
  noted_knows p Settle rest g is all h = absurd is
  noted_knows p (Drift k) rest g is all h = absurd is
  noted_knows p (Arm q) rest g is all h = record { words = h.words; phase = h.phase; todo = all }

  answered_knows : (p : Progress) (step : Step) (rest : List Step) (g : FrameValue) (o : Option Refusal) → IsArm step → AllByRecursion IsArm rest → Knows w p → Knows w (answered p step rest g o)
  answered_knows p step rest g (Some r) is all h = record { words = h.words; phase = h.phase; todo = h.todo }
  answered_knows p step rest g None is all h = turned_knows (noted p step rest g) rest (noted_knows p step rest g is all h)

  asked_by_knows : (p : Progress) (step : Step) (rest : List Step) (f : FrameValue) (back : Option FrameValue) → IsArm step → AllByRecursion IsArm rest → Knows w p → Knows w (asked_by cfg p step rest f back)
  asked_by_knows p step rest f None is all h = record { words = h.words; phase = h.phase; todo = h.todo }
  asked_by_knows p step rest f (Some g) is all h = answered_knows p step rest g (judged step (expected cfg p.words step g) f g) is all h

  asked_knows : (p : Progress) (f : FrameValue) (back : Option FrameValue) (todo : List Step) → AllByRecursion IsArm todo → Knows w p → Knows w (asked cfg p f back todo)
  asked_knows p f back [] all h = h
  asked_knows p f back (step ∷ rest) all h = asked_by_knows p step rest f back all.0 all.1 h

  moved_knows : (p : Progress) (f : FrameValue) (back : Option FrameValue) (o : Option Refusal) (phase : Phase) → IsLater phase → Knows w p → Knows w (moved cfg p f back o phase)
  moved_knows p f back (Some r) phase later h = h
  moved_knows p f back None Commissioning later h = absurd later
  moved_knows p f back None Settling later h = absurd later
  moved_knows p f back None Arming later h = asked_knows p f back p.todo h.todo h
  moved_knows p f None None Running later h = h
  moved_knows p f (Some g) None Running later h = record { words = h.words; phase = h.phase; todo = h.todo }

  after_knows : (p : Progress) (e : Exchange) → Knows w p → Knows w (after cfg p e)
  unfolding after
  after_knows p e h = moved_knows (counted p e.back) e.sent e.back p.refused p.phase h.phase (record { words = h.words; phase = h.phase; todo = h.todo })

  fold_knows : (es : List Exchange) (p : Progress) → Knows w p → Knows w (fold (after cfg) p es)
  fold_knows [] p h = h
  fold_knows (e ∷ es) p h = fold_knows es (after cfg p e) (after_knows p e h)

  more_knows : (es fs : List Exchange) → Knows w (progress cfg es) → Knows w (progress cfg (es ++ fs))
  unfolding progress
  more_knows es fs h = subst (Knows w) (sym (fold_append (after cfg) (beginning cfg) es fs)) (fold_knows fs (fold (after cfg) (beginning cfg) es) h)

-- whatever is sent after settling
module _ (s : SegmentValue) (legal : IsLegal s) (run : RunEnd) (is : settled s ≡ Some run) (ok : run.answer ≡ Ok tt) where
  pub words_stay : (more : List Exchange) → (progress (master_of s) (run.exchanges ++ more)).words ≡ words_after s run
  words_stay more =
      let at = (is_settled s legal (honest_replies s legal) run is ok).begins in
      (more_knows (master_of s) (words_after s run) run.exchanges more
      (record {
        words = refl;
        phase = subst IsLater (sym at.begins.phase_is) tt;
        todo = subst (AllByRecursion IsArm) (sym at.begins.todo) (all_arm (clocks (words_after s run).slaves));
      })).words

  pub start_stays : (more : List Exchange) → start_at (master_of s) (progress (master_of s) (run.exchanges ++ more)).words ≡ start_at (master_of s) (words_after s run)
  start_stays more = ap (start_at (master_of s)) (words_stay more)
