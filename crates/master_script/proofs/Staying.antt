-- What a master keeps stays kept.
use Rattle.std.proofs.Common.{◌≡◌, ◌≢◌, ℕ, ◌<◌, ◌≤◌, Bool, true, false, cond, ltb, not, ◌&&◌, List, [], ◌∷◌, ◌++◌, length, is_some, Option, Some, None, fold, refl, sym, subst, ◌∙◌, arith}
use Rattle.std.specs.List.{list_any}
use Rattle.std.proofs.lemmas.Bool.Decides.{nat_tests}
use Rattle.ecat_frame.specs.FrameGrammar.{FrameValue}
use Rattle.ecat_link.specs.Exchanges.{Exchange}
use Rattle.master_script.specs.Config.{ConfigValue, settle_frames}
use Rattle.master_script.specs.Judged.{judged}
use Rattle.master_script.specs.Kept.{kept_after, kept_at, is_times, start_shown}
use Rattle.master_script.specs.Progress.{Phase, Commissioning, Settling, Arming, Running, Progress, progress, beginning, after, asked, answered, noted, done, turned, counted, moved, running}
use Rattle.master_script.specs.StaysKept.{StaysKept}
use Rattle.master_script.specs.Steps.{expected}
use Rattle.master_script.specs.Words.{Words, delays_of, start_at}
use Rattle.master_script.specs.declared.step.Refusal.{Refusal}
use Rattle.master_script.specs.declared.step.Step.{Step}
use Rattle.master_script.specs.declared.step.Step.TheVariants.{Arm}
use Rattle.master_script.proofs.Counts.{after_counts, after_drifts}
use Rattle.master_script.proofs.Known.{Known, Adds, after_moves, moves_then, same_moves, progress_known}
use Rattle.master_script.proofs.Pins.{SoundBy, IsSound, after_sound, progress_sound}
use Rattle.master_script.proofs.Within.{IsOf, AreOf, Within, after_within, progress_within}

-- a refusal stays
refused_stays : (cfg : ConfigValue) (p : Progress) (e : Exchange) (r : Refusal) → p.refused ≡ Some r → (after cfg p e).refused ≡ Some r
unfolding after
refused_stays cfg p e r h = subst (λ o. (moved cfg (counted p e.back) e.sent e.back o p.phase).refused ≡ Some r) (sym h) h

-- from the first arming frame on the words stay
module _ (cfg : ConfigValue) where
  done_words : (p : Progress) (s : Phase) (o : Option ℕ) → s ≡ Arming → (done p s o).words ≡ p.words
  done_words p Commissioning o e = absurd cc
  done_words p Settling o e = absurd cc
  done_words p Arming o e = refl
  done_words p Running o e = absurd cc

  turned_words : (p : Progress) (rest : List Step) → p.phase ≡ Arming → (turned p rest).words ≡ p.words
  turned_words p [] e = done_words p p.phase p.words.reference e
  turned_words p (next ∷ rest) e = refl

  arm_words : (p : Progress) (step : Step) (rest : List Step) (f : FrameValue) → IsOf Arming step → (noted p step rest f).words ≡ p.words
  arm_words p (Arm q) rest f h = refl
  arm_words p step rest f h = absurd h

  answered_words : (p : Progress) (step : Step) (rest : List Step) (f : FrameValue) (o : Option Refusal) → p.phase ≡ Arming → IsOf Arming step → (answered p step rest f o).words ≡ p.words
  answered_words p step rest f (Some r) e h = refl
  answered_words p step rest f None e h = turned_words (noted p step rest f) rest e ∙ arm_words p step rest f h

  asked_words : (p : Progress) (sent : FrameValue) (back : Option FrameValue) (todo : List Step) → p.phase ≡ Arming → AreOf Arming todo → (asked cfg p sent back todo).words ≡ p.words
  asked_words p sent back [] e h = refl
  asked_words p sent None (step ∷ rest) e h = refl
  asked_words p sent (Some f) (step ∷ rest) e h = answered_words p step rest f (judged step (expected cfg p.words step f) sent f) e h.0

  running_words : (p : Progress) (sent : FrameValue) (back : Option FrameValue) → (running cfg p sent back).words ≡ p.words
  running_words p sent None = refl
  running_words p sent (Some f) = refl

  moved_words : (p : Progress) (sent : FrameValue) (back : Option FrameValue) (o : Option Refusal) (s : Phase) → p.phase ≡ s → AreOf s p.todo → SoundBy cfg p o s → settle_frames cfg < p.drifts → (moved cfg (counted p back) sent back o s).words ≡ p.words
  moved_words p sent back (Some r) s e a h l = refl
  moved_words p sent back None Commissioning e a h l = let d = h.1 in absurd (omega (arith, d, l))
  moved_words p sent back None Settling e a h l = let d = h.3 in absurd (omega (arith, d, l))
  moved_words p sent back None Arming e a h l = asked_words (counted p back) sent back p.todo e a
  moved_words p sent back None Running e a h l = running_words (counted p back) sent back

  after_words : (p : Progress) (e : Exchange) → AreOf p.phase p.todo → IsSound cfg p → settle_frames cfg < p.drifts → (after cfg p e).words ≡ p.words
  unfolding after
  after_words p e a h l = moved_words p e.sent e.back p.refused p.phase refl a h l

-- what holds of every progress
pub record Holds (cfg : ConfigValue) (p : Progress) : Type 0 where
  pub known : Known (length cfg.kinds) p
  pub sound : IsSound cfg p
  pub within : Within (length cfg.kinds) p

after_holds : (cfg : ConfigValue) (p : Progress) (e : Exchange) → Holds cfg p → Holds cfg (after cfg p e)
after_holds cfg p e h = record {
  known = (after_moves (length cfg.kinds) cfg p e h.known).known;
  sound = after_sound cfg p e h.sound;
  within = after_within (length cfg.kinds) cfg p e h.within;
}

record Goes (cfg : ConfigValue) (p q : Progress) : Type 0 where
  holds : Holds cfg q
  adds : Adds p q
  refusal : (r : Refusal) → p.refused ≡ Some r → q.refused ≡ Some r
  sent : p.sent ≤ q.sent
  lost : p.lost ≤ q.lost
  drifts : p.drifts ≤ q.drifts
  started : settle_frames cfg < p.drifts → q.words ≡ p.words

stands : (cfg : ConfigValue) (p : Progress) → Holds cfg p → Goes cfg p p
stands cfg p h = record {
  holds = h;
  adds = (same_moves (length cfg.kinds) p p h.known refl refl).adds;
  refusal = λ r e. e;
  sent = omega arith;
  lost = omega arith;
  drifts = omega arith;
  started = λ l. refl;
}

goes_then : (cfg : ConfigValue) (p q r : Progress) → Goes cfg p q → Goes cfg q r → Goes cfg p r
goes_then cfg p q r a b =
    let s = a.sent in let t = b.sent in
    let l = a.lost in let m = b.lost in
    let d = a.drifts in let e = b.drifts in
    record {
      holds = b.holds;
      adds = (moves_then (length cfg.kinds) p q r (record { known = a.holds.known; adds = a.adds }) (record { known = b.holds.known; adds = b.adds })).adds;
      refusal = λ x h. b.refusal x (a.refusal x h);
      sent = omega (arith, s, t);
      lost = omega (arith, l, m);
      drifts = omega (arith, d, e);
      started = λ h. b.started (omega (arith, h, d)) ∙ a.started h;
    }

after_goes : (cfg : ConfigValue) (p : Progress) (e : Exchange) → Holds cfg p → Goes cfg p (after cfg p e)
after_goes cfg p e h =
    let c = after_counts cfg p e in
    let s = c.0 in let l = c.1 in
    let d = after_drifts cfg p e in
    record {
      holds = after_holds cfg p e h;
      adds = (after_moves (length cfg.kinds) cfg p e h.known).adds;
      refusal = refused_stays cfg p e;
      sent = omega (arith, s);
      lost = omega (arith, l);
      drifts = omega (arith, d);
      started = after_words cfg p e h.within.steps h.sound;
    }

fold_goes : (cfg : ConfigValue) (p : Progress) (es : List Exchange) → Holds cfg p → Goes cfg p (fold (after cfg) p es)
fold_goes cfg p [] h = stands cfg p h
fold_goes cfg p (e ∷ es) h =
    let a = after_goes cfg p e h in
    goes_then cfg p (after cfg p e) (fold (after cfg) (after cfg p e) es) a (fold_goes cfg (after cfg p e) es a.holds)

-- the delays and the start, once there
delays_stay : (cfg : ConfigValue) (v w : Words) → w.latches ≡ v.latches → w.slaves ≡ v.slaves → delays_of cfg w ≡ delays_of cfg v
unfolding delays_of
delays_stay cfg v w l s = rw (l, s) refl

delays_kept : (cfg : ConfigValue) (p q : Progress) (o o' : Option ℕ) (b b' : Bool) → p.words.reference ≡ o → q.words.reference ≡ o' → list_any is_times p.todo ≡ b → list_any is_times q.todo ≡ b' → Adds p q
    → cond (is_some o && not b) (delays_of cfg p.words) [] ≢ [] → cond (is_some o' && not b') (delays_of cfg q.words) [] ≡ cond (is_some o && not b) (delays_of cfg p.words) []
delays_kept cfg p q None o' b b' r r' t t' a n = absurd (n refl)
delays_kept cfg p q (Some x) o' true b' r r' t t' a n = absurd (n refl)
delays_kept cfg p q (Some x) o' false b' r r' t t' a n =
    let m = a.measured (rw r refl) t in
    let s : o' ≡ Some x = sym r' ∙ a.reference x r in
    let c : b' ≡ false = sym t' ∙ m.2 in
    rw (s, c) (delays_stay cfg p.words q.words m.0 m.1)

from_ltb : (m k : ℕ) → ltb m k ≡ true → m < k
from_ltb m k h = grind (arith, nat_tests)

pub to_ltb : (m k : ℕ) → m < k → ltb m k ≡ true
to_ltb m k h = grind (arith, nat_tests)

start_kept : (cfg : ConfigValue) (p q : Progress) (b : Bool) → ltb (settle_frames cfg) p.drifts ≡ b → Goes cfg p q → (s : ℕ) → cond b (Some (start_at cfg p.words)) None ≡ Some s → start_shown cfg q ≡ Some s
start_kept cfg p q true l g s h =
    let a = from_ltb (settle_frames cfg) p.drifts l in
    let d = g.drifts in
    rw (to_ltb (settle_frames cfg) q.drifts (omega (arith, a, d)), g.started a) h
start_kept cfg p q false l g s h = absurd cc

goes_kept : (cfg : ConfigValue) (frames : Option ℕ) (p q : Progress) → Goes cfg p q → StaysKept (kept_at cfg frames p) (kept_at cfg frames q)
goes_kept cfg frames p q g = record {
  refusal = g.refusal;
  sent = g.sent;
  lost = g.lost;
  drifts = g.drifts;
  slaves = g.adds.slaves;
  reference = g.adds.reference;
  latched = g.adds.latched;
  latches = g.adds.latches;
  delays = delays_kept cfg p q p.words.reference q.words.reference (list_any is_times p.todo) (list_any is_times q.todo) refl refl refl refl g.adds;
  start = start_kept cfg p q (ltb (settle_frames cfg) p.drifts) refl g;
}

fold_append : {X Y : Type 0} (f : Y → X → Y) (a : Y) (xs ys : List X) → fold f a (xs ++ ys) ≡ fold f (fold f a xs) ys
fold_append f a [] ys = refl
fold_append f a (x ∷ xs) ys = fold_append f (f a x) xs ys

pub progress_holds : (cfg : ConfigValue) (es : List Exchange) → 0 < length cfg.kinds → Holds cfg (progress cfg es)
progress_holds cfg es some = record { known = progress_known cfg es; sound = progress_sound cfg es; within = progress_within cfg es some }

-- what is kept stays kept
pub stays_kept : (cfg : ConfigValue) (frames : Option ℕ) (es fs : List Exchange) → 0 < length cfg.kinds → StaysKept (kept_after cfg frames es) (kept_after cfg frames (es ++ fs))
unfolding kept_after progress
stays_kept cfg frames es fs some =
    let p = progress cfg es in
    let g = fold_goes cfg p fs (progress_holds cfg es some) in
    subst (λ q. StaysKept (kept_at cfg frames p) (kept_at cfg frames q)) (sym (fold_append (after cfg) (beginning cfg) es fs)) (goes_kept cfg frames p (fold (after cfg) p fs) g)
