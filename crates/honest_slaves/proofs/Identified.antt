-- An exchange of Identify.
use Rattle.std.proofs.Common.{◌≡◌, ℕ, zero, suc, ◌+◌, ◌<◌, List, [], ◌∷◌, ◌++◌, length, Option, Some, None, Result, Ok, Err, refl, sym, ap, ap₂, subst, ◌∙◌, arith, inl, inr}
use Rattle.std.proofs.lemmas.List.FromFn.{map-range_with_len_more}
use Rattle.ecat_frame.specs.FrameGrammar.{FrameValue}
use Rattle.esc_regs.specs.declared.clock_kind.ClockKind.{ClockKind}
use Rattle.frame_pass.specs.SlaveState.{Slave}
use Rattle.frame_pass.specs.FramePass.{datagrams_behind}
use Rattle.frame_pass.specs.Invariants.{IsSoundSegment}
use Rattle.frame_pass.specs.SegmentState.{SegmentState, segment_step, leaves_at}
use Rattle.master_script.specs.Config.{ConfigValue}
use Rattle.master_script.specs.Frames.{identify_datagrams}
use Rattle.master_script.specs.Judged.{judged}
use Rattle.master_script.specs.Progress.{Phase, Commissioning, Progress, asked_by, answered, turned, noted, done, planned}
use Rattle.master_script.specs.Slaves.{SlaveWords, judgement}
use Rattle.master_script.specs.Steps.{expected, frame_of, identified}
use Rattle.master_script.specs.declared.step.Refusal.{Refusal}
use Rattle.master_script.specs.declared.step.Step.TheVariants.{Identify}
use Rattle.master_script.proofs.Exported.{judged_below}
use Rattle.honest_slaves.specs.Mindful.{AreMindful}
use Rattle.honest_slaves.specs.Told.{word_of, words_of, AreInOrder, counts_of}
use Rattle.honest_slaves.proofs.Mindful.{mindful_step, naming, names}
use Rattle.honest_slaves.proofs.Numbers.{words_many}
use Rattle.honest_slaves.proofs.Replies.{judged_none}
use Rattle.honest_slaves.proofs.Identifying.{reads_of, identify_tells, identify_counts}
use Rattle.honest_slaves.proofs.Progressing.{identifying, IsEarly, IsLate, IsHonest}
use Rattle.honest_slaves.proofs.Meant.{later_meant}
use Rattle.honest_slaves.proofs.Returning.{came_back, undisturbed, order_stays, order_grows}
use Rattle.honest_slaves.proofs.Turning.{sent_by, lost_once}

-- one slave more is told
told_more : (kinds : ℕ → ClockKind) (statuses : ℕ → ℕ) (told : ℕ) (ss : List SlaveWords) (w : SlaveWords) → ss ≡ words_of kinds statuses told → w ≡ word_of (kinds told) (statuses told)
    → ss ++ w ∷ [] ≡ words_of kinds statuses (told + 1)
told_more kinds statuses told ss w are is =
    ap₂ (λ (xs : List SlaveWords) (x : SlaveWords). xs ++ x ∷ []) are is
    ∙ sym (map-range_with_len_more (λ q. word_of (kinds q) (statuses q)) 0 told told (omega arith))

is_planned : (q : Progress) (phase : Phase) (reference : Option ℕ) → phase ≡ Commissioning → reference ≡ None → done q phase reference ≡ planned q (judgement q.words.slaves)
is_planned q phase reference p e = ap₂ (done q) p e

module _ (kinds : ℕ → ClockKind) (statuses : ℕ → ℕ) (n r : ℕ) (cfg : ConfigValue) (judges : judgement (words_of kinds statuses n) ≡ Ok r) where
  -- the slaves are judged behind the last Identify
  planned_late : (q : Progress) (ss : List Slave) (o : Result ℕ Refusal) → o ≡ Ok r → q.refused ≡ None → q.words.slaves ≡ words_of kinds statuses n → AreInOrder kinds statuses n n ss
      → IsLate kinds statuses n r (planned q o) ss
  planned_late q ss (Err x) e unrefused slaves are = absurd (let z = e in cc)
  planned_late q ss (Ok x) e unrefused slaves are =
      let same : x ≡ r = (let z = e in cc) in
      let below = judged_below (words_of kinds statuses n) r judges in
      let many = words_many kinds statuses n in
      record {
        unrefused = unrefused;
        knows = record { slaves = slaves; reference = ap (λ k. Some k) same; below = omega (arith, below, many) };
        are = are;
        todo = later_meant kinds statuses n q.words.slaves slaves;
      }

  turned_early : (q : Progress) (ss : List Slave) (told more : ℕ) → told + more ≡ n → q.phase ≡ Commissioning → q.refused ≡ None → q.words.reference ≡ None → q.words.slaves ≡ words_of kinds statuses told
      → AreInOrder kinds statuses n told ss → q.todo ≡ identifying told more → IsHonest kinds statuses n r (turned q (identifying told more)) ss
  turned_early q ss told zero all phase unrefused unjudged slaves are todo =
      let end : told ≡ n = omega (arith, all) in
      let whole : q.words.slaves ≡ words_of kinds statuses n = slaves ∙ ap (words_of kinds statuses) end in
      inr (inl (subst (λ p. IsLate kinds statuses n r p ss) (sym (is_planned q q.phase q.words.reference phase unjudged))
      (planned_late q ss (judgement q.words.slaves) (ap judgement whole ∙ judges) unrefused whole (subst (λ k. AreInOrder kinds statuses n k ss) end are))))
  turned_early q ss told (suc more) all phase unrefused unjudged slaves are todo =
      inl (record { phase = phase; unrefused = unrefused; unjudged = unjudged; told = told; more = suc more; all = all; some = omega arith; slaves = slaves; are = are; todo = inl todo })

  pub identify_early : (q : Progress) (s : SegmentState) (wait_ns told more : ℕ) (f : FrameValue) → IsSoundSegment s → told + suc more ≡ n → q.phase ≡ Commissioning → q.refused ≡ None → q.words.reference ≡ None
      → q.words.slaves ≡ words_of kinds statuses told → AreInOrder kinds statuses n told s.slaves → q.todo ≡ identifying told (suc more) → f ≡ frame_of cfg q.words (Identify told)
      → (back : Option FrameValue) → (segment_step s wait_ns f).1 ≡ back
      → IsHonest kinds statuses n r (asked_by cfg q (Identify told) (identifying (told + 1) more) f back) (segment_step s wait_ns f).0.slaves
  identify_early q s wait_ns told more f sound all phase unrefused unjudged slaves are todo is back came = by back came
    where
      low : told < n
      low = omega (arith, all)

      near : told < 256
      near = let few = are.few in omega (arith, low, few)

      ds : f.datagrams ≡ identify_datagrams told
      ds = ap (λ (x : FrameValue). x.datagrams) is ∙ sent_by cfg q.words (Identify told)

      by : (o : Option FrameValue) → (segment_step s wait_ns f).1 ≡ o
          → IsHonest kinds statuses n r (asked_by cfg q (Identify told) (identifying (told + 1) more) f o) (segment_step s wait_ns f).0.slaves
      by None e =
          let stays = order_stays kinds statuses n told s wait_ns f sound (subst (AreMindful 0) (sym ds) (mindful_step cfg q.words (Identify told) near)) are in
          elim (lost_once kinds statuses n (λ p. IsEarly kinds statuses n p (segment_step s wait_ns f).0.slaves) q (Identify told) (λ x k. absurd (let z : None ≡ Some x = sym unjudged ∙ k in cc))
          (λ t. record { phase = phase; unrefused = refl; unjudged = unjudged; told = told; more = suc more; all = all; some = omega arith; slaves = slaves; are = stays; todo = inl todo })) [
            | inl early ↦ inl early
            | inr over ↦ inr (inr over)
          ]
      by (Some g) e =
          let back = came_back s wait_ns f g e in
          let here : g.datagrams ≡ datagrams_behind (length s.slaves) (leaves_at s wait_ns) s.slaves (identify_datagrams told) =
          back.datagrams ∙ ap (datagrams_behind (length s.slaves) (leaves_at s wait_ns) s.slaves) ds in
          let tells = identify_tells kinds statuses n told (leaves_at s wait_ns) s.slaves are low g here in
          let fine : judged (Identify told) (expected cfg q.words (Identify told) g) f g ≡ None =
          judged_none (Identify told) (expected cfg q.words (Identify told) g) f g (undisturbed s wait_ns f g sound e)
          (ap counts_of here ∙ identify_counts kinds statuses n told (leaves_at s wait_ns) s.slaves are low g here) in
          let grows = order_grows kinds statuses n told s wait_ns f g (naming told) (reads_of told) sound low ds (mindful_step cfg q.words (Identify told) near) (names told near) e are in
          subst (λ o. IsHonest kinds statuses n r (answered q (Identify told) (identifying (told + 1) more) g o) (segment_step s wait_ns f).0.slaves) (sym fine)
          (turned_early (noted q (Identify told) (identifying (told + 1) more) g) (segment_step s wait_ns f).0.slaves (told + 1) more (omega (arith, all)) phase unrefused unjudged
          (told_more kinds statuses told q.words.slaves (identified g) slaves tells)
          (subst (λ k. AreInOrder kinds statuses n k (segment_step s wait_ns f).0.slaves) (let z : suc told ≡ told + 1 = omega arith in z) grows) refl)
