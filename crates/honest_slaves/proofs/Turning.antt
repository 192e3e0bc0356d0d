-- One exchange more.
use Rattle.std.proofs.Common.{◌≡◌, ℕ, zero, suc, ◌+◌, ◌<◌, ◌⊎◌, Bool, true, false, cond, eqb, List, [], ◌∷◌, length, Option, Some, None, Ok, refl, sym, ap, subst, ◌∙◌, arith, inl, inr}
use Rattle.std.specs.List.{AllByRecursion}
use Rattle.ecat_frame.specs.FrameGrammar.{FrameValue}
use Rattle.esc_regs.specs.declared.clock_kind.ClockKind.{ClockKind}
use Rattle.frame_pass.specs.SlaveState.{Slave}
use Rattle.frame_pass.specs.FramePass.{datagrams_behind}
use Rattle.frame_pass.specs.Invariants.{IsSoundSegment}
use Rattle.frame_pass.specs.SegmentState.{SegmentState, segment_step, leaves_at}
use Rattle.master_script.specs.Config.{ConfigValue, slaves, settle_frames}
use Rattle.master_script.specs.Judged.{judged}
use Rattle.master_script.specs.Progress.{Phase, Commissioning, Settling, Arming, Running, Progress, asked_by, answered, turned, noted, done, missed, settling, settled, settled_by, timed, brought, running}
use Rattle.master_script.specs.Slaves.{judgement}
use Rattle.master_script.specs.Steps.{datagrams_of, expected, frame_of, learned}
use Rattle.master_script.specs.Words.{Words}
use Rattle.master_script.specs.declared.step.Refusal.TheVariants.{Lost}
use Rattle.master_script.specs.declared.step.Step.{Step}
use Rattle.master_script.specs.declared.step.Step.TheVariants.{Count, Identify, Rate, Latch, Times, Set, Settle, Drift, Arm}
use Rattle.honest_slaves.specs.Mindful.{AreMindful}
use Rattle.honest_slaves.specs.Told.{words_of, AreInOrder, Knows, IsMeant, IsNear, counts_of}
use Rattle.honest_slaves.proofs.Mindful.{mindful_step}
use Rattle.honest_slaves.proofs.Replies.{count_counts, later_counts, judged_none}
use Rattle.honest_slaves.proofs.Progressing.{identifying, IsEarly, IsLate, IsOver}
use Rattle.honest_slaves.proofs.Meant.{arming_meant}
use Rattle.honest_slaves.proofs.Returning.{came_back, undisturbed, order_stays}

-- the datagrams of a step's frame
pub sent_by : (cfg : ConfigValue) (w : Words) (step : Step) → (frame_of cfg w step).datagrams ≡ datagrams_of cfg w step
unfolding frame_of
sent_by cfg w step = refl

-- a drift frame does not tell its number
pub same_drift : (cfg : ConfigValue) (w : Words) (j k : ℕ) → frame_of cfg w (Drift j) ≡ frame_of cfg w (Drift k)
unfolding frame_of
same_drift cfg w j k = refl

-- a meant step names a position near enough
near_meant : (kinds : ℕ → ClockKind) (n : ℕ) (step : Step) → IsMeant kinds n step → IsNear step
near_meant kinds n Count h = absurd h
near_meant kinds n (Identify p) h = absurd h
near_meant kinds n Rate h = tt
near_meant kinds n Latch h = tt
near_meant kinds n (Times p) h = tt
near_meant kinds n (Set p) h = tt
near_meant kinds n Settle h = tt
near_meant kinds n (Drift k) h = tt
near_meant kinds n (Arm p) h = tt

-- no reply behind Identify changes what is known of the slaves
still_knows : (kinds : ℕ → ClockKind) (statuses : ℕ → ℕ) (n r k : ℕ) (step : Step) (f : FrameValue) (w : Words) → IsMeant kinds n step → Knows kinds statuses n r w → Knows kinds statuses n r (learned k step f w)
still_knows kinds statuses n r k Count f w h knows = absurd h
still_knows kinds statuses n r k (Identify p) f w h knows = absurd h
still_knows kinds statuses n r k Rate f w h knows = knows
still_knows kinds statuses n r k Latch f w h knows = record { slaves = knows.slaves; reference = knows.reference; below = knows.below }
still_knows kinds statuses n r k (Times p) f w h knows = record { slaves = knows.slaves; reference = knows.reference; below = knows.below }
still_knows kinds statuses n r k (Set p) f w h knows = knows
still_knows kinds statuses n r k Settle f w h knows = knows
still_knows kinds statuses n r k (Drift j) f w h knows = knows
still_knows kinds statuses n r k (Arm p) f w h knows = knows

-- a step that is lost once more is asked again, or the call is over
pub lost_once : (kinds : ℕ → ClockKind) (statuses : ℕ → ℕ) (n : ℕ) (X : Progress → Type 0) (q : Progress) (step : Step) → ((x : ℕ) → q.words.reference ≡ Some x → q.words.slaves ≡ words_of kinds statuses n)
    → ((t : ℕ) → X (record q { tries = t; refused = None })) → (X (missed q step)) ⊎ IsOver kinds statuses n (missed q step)
lost_once kinds statuses n X q step told again = by (eqb (q.tries + 1) 3)
  where
    by : (b : Bool) → (X (record q { tries = q.tries + 1; refused = cond b (Some (Lost step)) None })) ⊎ IsOver kinds statuses n (record q { tries = q.tries + 1; refused = cond b (Some (Lost step)) None })
    by true = inr (record { over = (step, refl); refused = λ e. let z = e in cc; told = told })
    by false = inl (again (q.tries + 1))

module _ (kinds : ℕ → ClockKind) (statuses : ℕ → ℕ) (n r : ℕ) (cfg : ConfigValue) (many : slaves cfg ≡ n) (judges : judgement (words_of kinds statuses n) ≡ Ok r) where
  -- a reply to a step behind the judgement is accepted
  accepted : (s : SegmentState) (wait_ns : ℕ) (w : Words) (step : Step) (f g : FrameValue) → IsSoundSegment s → AreInOrder kinds statuses n n s.slaves → Knows kinds statuses n r w → IsMeant kinds n step
      → f ≡ frame_of cfg w step → (segment_step s wait_ns f).1 ≡ Some g → judged step (expected cfg w step g) f g ≡ None
  accepted s wait_ns w step f g sound are knows meant is came =
      let back = came_back s wait_ns f g came in
      let ds : f.datagrams ≡ datagrams_of cfg w step = ap (λ (x : FrameValue). x.datagrams) is ∙ sent_by cfg w step in
      judged_none step (expected cfg w step g) f g (undisturbed s wait_ns f g sound came)
      (ap counts_of (back.datagrams ∙ ap (datagrams_behind (length s.slaves) (leaves_at s wait_ns) s.slaves) ds)
      ∙ later_counts kinds statuses n r (leaves_at s wait_ns) s.slaves are cfg w knows step meant g)

  late_order : (s : SegmentState) (wait_ns : ℕ) (w : Words) (step : Step) (f : FrameValue) → IsSoundSegment s → AreInOrder kinds statuses n n s.slaves → IsMeant kinds n step → f ≡ frame_of cfg w step
      → AreInOrder kinds statuses n n (segment_step s wait_ns f).0.slaves
  late_order s wait_ns w step f sound are meant is =
      order_stays kinds statuses n n s wait_ns f sound
      (subst (AreMindful 0) (sym (ap (λ (x : FrameValue). x.datagrams) is ∙ sent_by cfg w step)) (mindful_step cfg w step (near_meant kinds n step meant))) are

  -- behind the last of some steps
  done_late : (q : Progress) (ss : List Slave) (phase : Phase) (reference : Option ℕ) → reference ≡ Some r → q.todo ≡ [] → IsLate kinds statuses n r q ss → IsLate kinds statuses n r (done q phase reference) ss
  done_late q ss Commissioning None e t h = absurd (let z = e in cc)
  done_late q ss Commissioning (Some x) e t h = record { unrefused = h.unrefused; knows = h.knows; are = h.are; todo = h.todo }
  done_late q ss Settling x e t h = h
  done_late q ss Arming x e t h = record { unrefused = h.unrefused; knows = h.knows; are = h.are; todo = h.todo }
  done_late q ss Running x e t h = h

  turned_late : (q : Progress) (ss : List Slave) (rest : List Step) → q.todo ≡ rest → IsLate kinds statuses n r q ss → IsLate kinds statuses n r (turned q rest) ss
  turned_late q ss [] t h = done_late q ss q.phase q.words.reference h.knows.reference t h
  turned_late q ss (step ∷ rest) t h = h

  -- an exchange of a step that is asked behind the judgement
  pub asked_late : (q : Progress) (s : SegmentState) (wait_ns : ℕ) (step : Step) (rest : List Step) (f : FrameValue) → IsSoundSegment s → IsLate kinds statuses n r q s.slaves → q.todo ≡ step ∷ rest → f ≡ frame_of cfg q.words step
      → (back : Option FrameValue) → (segment_step s wait_ns f).1 ≡ back
      → (IsLate kinds statuses n r (asked_by cfg q step rest f back) (segment_step s wait_ns f).0.slaves) ⊎ IsOver kinds statuses n (asked_by cfg q step rest f back)
  asked_late q s wait_ns step rest f sound h todo is back came = by back came
    where
      meant : AllByRecursion (IsMeant kinds n) (step ∷ rest)
      meant = subst (AllByRecursion (IsMeant kinds n)) todo h.todo

      are : AreInOrder kinds statuses n n (segment_step s wait_ns f).0.slaves
      are = late_order s wait_ns q.words step f sound h.are meant.0 is

      by : (o : Option FrameValue) → (segment_step s wait_ns f).1 ≡ o
          → (IsLate kinds statuses n r (asked_by cfg q step rest f o) (segment_step s wait_ns f).0.slaves) ⊎ IsOver kinds statuses n (asked_by cfg q step rest f o)
      by None e =
          lost_once kinds statuses n (λ p. IsLate kinds statuses n r p (segment_step s wait_ns f).0.slaves) q step (λ x k. h.knows.slaves)
          (λ t. record { unrefused = refl; knows = h.knows; are = are; todo = h.todo })
      by (Some g) e =
          let fine = accepted s wait_ns q.words step f g sound h.are h.knows meant.0 is e in
          inl (subst (λ o. IsLate kinds statuses n r (answered q step rest g o) (segment_step s wait_ns f).0.slaves) (sym fine)
          (turned_late (noted q step rest g) (segment_step s wait_ns f).0.slaves rest refl
          (record { unrefused = h.unrefused; knows = still_knows kinds statuses n r q.sent step g q.words meant.0 h.knows; are = are; todo = meant.1 })))

  -- settling
  settled_late : (q : Progress) (ss : List Slave) → IsLate kinds statuses n r q ss → (IsLate kinds statuses n r (settled cfg q) ss) ⊎ IsOver kinds statuses n (settled cfg q)
  settled_late q ss h = by (eqb q.drifts (settle_frames cfg)) q.words.time
    where
      by : (b : Bool) (o : Option ℕ) → (IsLate kinds statuses n r (cond b (settled_by q o) q) ss) ⊎ IsOver kinds statuses n (cond b (settled_by q o) q)
      by true None = inr (record { over = (Settle, refl); refused = λ e. let z = e in cc; told = λ x k. h.knows.slaves })
      by true (Some time) = inl (record { unrefused = h.unrefused; knows = h.knows; are = h.are; todo = arming_meant kinds statuses n q.words.slaves h.knows.slaves })
      by false o = inl h

  pub settling_late : (q : Progress) (s : SegmentState) (wait_ns : ℕ) (f : FrameValue) → IsSoundSegment s → IsLate kinds statuses n r q s.slaves → f ≡ frame_of cfg q.words (Drift q.drifts)
      → (back : Option FrameValue) → (segment_step s wait_ns f).1 ≡ back
      → (IsLate kinds statuses n r (settling cfg q f back) (segment_step s wait_ns f).0.slaves) ⊎ IsOver kinds statuses n (settling cfg q f back)
  settling_late q s wait_ns f sound h is None came =
      settled_late q (segment_step s wait_ns f).0.slaves (record { unrefused = h.unrefused; knows = h.knows; are = late_order s wait_ns q.words (Drift q.drifts) f sound h.are tt is; todo = h.todo })
  settling_late q s wait_ns f sound h is (Some g) came =
      subst (λ o. (IsLate kinds statuses n r (timed cfg q g o) (segment_step s wait_ns f).0.slaves) ⊎ IsOver kinds statuses n (timed cfg q g o)) (sym (accepted s wait_ns q.words (Drift q.drifts) f g sound h.are h.knows tt is came))
      (settled_late (brought cfg q g) (segment_step s wait_ns f).0.slaves
      (record { unrefused = h.unrefused; knows = record { slaves = h.knows.slaves; reference = h.knows.reference; below = h.knows.below }; are = late_order s wait_ns q.words (Drift q.drifts) f sound h.are tt is; todo = h.todo }))

  -- running
  pub running_late : (q : Progress) (s : SegmentState) (wait_ns : ℕ) (f : FrameValue) → IsSoundSegment s → IsLate kinds statuses n r q s.slaves → f ≡ frame_of cfg q.words (Drift q.drifts)
      → (back : Option FrameValue) → (segment_step s wait_ns f).1 ≡ back → IsLate kinds statuses n r (running cfg q f back) (segment_step s wait_ns f).0.slaves
  running_late q s wait_ns f sound h is None came =
      record { unrefused = h.unrefused; knows = h.knows; are = late_order s wait_ns q.words (Drift q.drifts) f sound h.are tt is; todo = h.todo }
  running_late q s wait_ns f sound h is (Some g) came = record {
    unrefused = accepted s wait_ns q.words (Drift q.drifts) f g sound h.are h.knows tt is came;
    knows = h.knows;
    are = late_order s wait_ns q.words (Drift q.drifts) f sound h.are tt is;
    todo = h.todo;
  }

  -- Count
  pub count_early : (q : Progress) (s : SegmentState) (wait_ns more : ℕ) (f : FrameValue) → IsSoundSegment s → q.phase ≡ Commissioning → q.refused ≡ None → q.words.reference ≡ None → more ≡ n → 0 < more
      → q.words.slaves ≡ words_of kinds statuses 0 → AreInOrder kinds statuses n 0 s.slaves → q.todo ≡ Count ∷ identifying 0 more → f ≡ frame_of cfg q.words Count
      → (back : Option FrameValue) → (segment_step s wait_ns f).1 ≡ back
      → (IsEarly kinds statuses n (asked_by cfg q Count (identifying 0 more) f back) (segment_step s wait_ns f).0.slaves) ⊎ IsOver kinds statuses n (asked_by cfg q Count (identifying 0 more) f back)
  count_early q s wait_ns zero f sound phase unrefused unjudged all some told are todo is back came = absurd (omega (arith, some))
  count_early q s wait_ns (suc more) f sound phase unrefused unjudged all some told are todo is back came = by back came
    where
      stays : AreInOrder kinds statuses n 0 (segment_step s wait_ns f).0.slaves
      stays = order_stays kinds statuses n 0 s wait_ns f sound (subst (AreMindful 0) (sym (ap (λ (x : FrameValue). x.datagrams) is ∙ sent_by cfg q.words Count)) (mindful_step cfg q.words Count tt)) are

      by : (o : Option FrameValue) → (segment_step s wait_ns f).1 ≡ o
          → (IsEarly kinds statuses n (asked_by cfg q Count (identifying 0 (suc more)) f o) (segment_step s wait_ns f).0.slaves) ⊎ IsOver kinds statuses n (asked_by cfg q Count (identifying 0 (suc more)) f o)
      by None e =
          lost_once kinds statuses n (λ p. IsEarly kinds statuses n p (segment_step s wait_ns f).0.slaves) q Count (λ x k. absurd (let z : None ≡ Some x = sym unjudged ∙ k in cc))
          (λ t. record { phase = phase; unrefused = refl; unjudged = unjudged; told = 0; more = suc more; all = (let z = all in omega (arith, z)); some = some; slaves = told; are = stays; todo = inr (todo, refl) })
      by (Some g) e =
          let back = came_back s wait_ns f g e in
          let ds : f.datagrams ≡ datagrams_of cfg q.words Count = ap (λ (x : FrameValue). x.datagrams) is ∙ sent_by cfg q.words Count in
          let fine : judged Count (expected cfg q.words Count g) f g ≡ None =
          judged_none Count (slaves cfg ∷ []) f g (undisturbed s wait_ns f g sound e)
          (ap counts_of (back.datagrams ∙ ap (datagrams_behind (length s.slaves) (leaves_at s wait_ns) s.slaves) ds)
          ∙ count_counts kinds statuses n 0 (leaves_at s wait_ns) s.slaves are ∙ ap (λ (k : ℕ). k ∷ []) (sym many)) in
          inl (subst (λ o. IsEarly kinds statuses n (answered q Count (identifying 0 (suc more)) g o) (segment_step s wait_ns f).0.slaves) (sym fine)
          (record { phase = phase; unrefused = unrefused; unjudged = unjudged; told = 0; more = suc more; all = (let z = all in omega (arith, z)); some = some; slaves = told; are = stays; todo = inl refl }))
