-- How many frames of a commissioning follow the Latch that came back: at most three for each step behind it.
use Rattle.std.proofs.Common.{◌≡◌, ◌≢◌, ℕ, ◌+◌, ◌*◌, ◌<◌, ◌≤◌, ◌==◌, ◌⊎◌, Bool, true, false, List, [], ◌∷◌, ◌++◌, length, length-append, map, replicate, Option, Some, None, Ok, refl, sym, ap, subst, ◌∙◌, append_assoc, arith, inl, inr}
use Rattle.std.specs.Prelude.{if◌then◌else◌}
use Rattle.std.specs.List.{AllByRecursion}
use Rattle.std.proofs.lemmas.Bool.Decides.{nat_tests}
use Rattle.std.proofs.lemmas.List.{append-nil, length-map}
use Rattle.ecat_frame.specs.FrameGrammar.{FrameValue}
use Rattle.ecat_link.specs.Exchanges.{Exchange, Runs}
use Rattle.ecat_link.specs.Serves.{Send, Sends}
use Rattle.ecat_link.proofs.Exported.{driven}
use Rattle.segment_file.specs.Legal.{IsLegal}
use Rattle.segment_file.specs.Segment.{SegmentValue, clocks as clock_rows, measuring as measuring_rows}
use Rattle.segment_start.specs.Start.{started_segment}
use Rattle.frame_pass.specs.SegmentState.{SegmentState, segment_step}
use Rattle.lost_step.specs.LostStep.{clock_positions, measuring_positions}
use Rattle.master_script.specs.Config.{ConfigValue}
use Rattle.master_script.specs.Judged.{judged}
use Rattle.master_script.specs.Progress.{Commissioning, Progress, Settling, after, answered, asked_by, counted, later_steps, lost_at, noted, progress}
use Rattle.master_script.specs.Script.{Commission, script}
use Rattle.master_script.specs.Slaves.{SlaveWords, clocks, measuring}
use Rattle.master_script.specs.Steps.{expected, learned}
use Rattle.master_script.specs.Words.{Words}
use Rattle.master_script.specs.declared.step.Refusal.{Refusal}
use Rattle.master_script.specs.declared.step.Refusal.TheVariants.{Lost}
use Rattle.master_script.specs.declared.step.Step.{Step}
use Rattle.master_script.specs.declared.step.Step.TheVariants.{Count, Identify, Rate, Latch as LatchStep, Times, Set, Settle, Drift, Arm}
use Rattle.master_script.proofs.Exported.{progress_push, progress_sent}
use Rattle.honest_slaves.specs.FileSlaves.{kind_at, status_at}
use Rattle.honest_slaves.specs.Told.{words_of}
use Rattle.honest_slaves.proofs.Exported.{told_clocks, told_measuring}
use Rattle.run_counts.proofs.Exported.{clocks_counted, measuring_counted}
use Rattle.run_of_file.specs.Commissioned.{words_after}
use Rattle.run_of_file.specs.MasterOfFile.{master_of}
use Rattle.run_of_file.specs.RunOfFile.{RunEnd, commissioned, turns}
use Rattle.delay_law.proofs.Exported.{IsAsked, IsJudged, IsLatched, IsMeasuring, IsOnWay, IsOpen, IsReading, IsUnjudged, after_is, asks, at_end, first_asked, late as late_at_end, latched, phase, rate_asked, reading_steps, starts, turned_keeps, unrefused, walk}

some_same : {X : Type 0} {x y : X} → Some x ≡ Some y → x ≡ y
some_same e = cc

none_some : {X : Type 0} (x : X) (A : Type 0) → Some x ≡ None → A
none_some x A e = absurd (let z = e in cc)

-- the steps behind Latch read and set
reads_from : (ps rs : List ℕ) → AllByRecursion IsReading (map Times ps ++ map Set rs)
reads_from [] [] = tt
reads_from [] (r ∷ rs) = (tt, reads_from [] rs)
reads_from (p ∷ ps) rs = (tt, reads_from ps rs)

-- what they teach leaves the number of that Latch, and the slaves
reading_latched : (sent : ℕ) (step : Step) (g : FrameValue) (w : Words) → IsReading step
    → ((learned sent step g w).latched ≡ w.latched) × ((learned sent step g w).slaves ≡ w.slaves) × ((learned sent step g w).reference ≡ w.reference)
reading_latched sent Count g w h = absurd h
reading_latched sent (Identify p) g w h = absurd h
reading_latched sent Rate g w h = absurd h
reading_latched sent LatchStep g w h = absurd h
reading_latched sent (Times p) g w h = (refl, refl, refl)
reading_latched sent (Set p) g w h = (refl, refl, refl)
reading_latched sent Settle g w h = absurd h
reading_latched sent (Drift k) g w h = absurd h
reading_latched sent (Arm p) g w h = absurd h

abbrev lost_if : Step → Bool → Option Refusal
lost_if step third = if third then Some (Lost step) else None

-- a step that was lost and is not refused was lost fewer than three times
not_third : (step : Step) (tries : ℕ) → tries ≤ 3 → lost_at step tries ≡ None → tries ≤ 2
not_third step tries most none = by (tries == 3) refl
  where
    by : (b : Bool) → (tries == 3) ≡ b → tries ≤ 2
    by true e = absurd (let z : Some (Lost step) ≡ None = sym (ap (lost_if step) e) ∙ none in cc)
    by false e = let other : tries ≢ 3 = grind (arith, nat_tests, e) in omega (arith, most, other)

-- the count, where nothing is refused
record Counts (q : Progress) : Type 0 where
  few : q.sent + 3 * length q.todo ≤ q.words.latched + 3 * length (reading_steps q.words.slaves) + q.tries
  tries : q.tries ≤ 2
  ended : q.todo ≡ [] → q.tries ≡ 0

-- a Latch came back, and steps behind it were asked
record IsCounting (q : Progress) : Type 0 where
  reference : ℕ
  is : q.words.reference ≡ Some reference
  todo : AllByRecursion IsReading q.todo
  some : 0 < q.words.latched
  within : q.words.latched ≤ q.sent
  counts : q.refused ≡ None → Counts q

settles : (q : Progress) → IsCounting q → IsCounting (record q { phase = Settling })
settles q h = record {
  reference = h.reference;
  is = h.is;
  todo = h.todo;
  some = h.some;
  within = h.within;
  counts = λ none. let c = h.counts none in record { few = c.few; tries = c.tries; ended = c.ended };
}

module _ (cfg : ConfigValue) where
  -- Latch
  latch_counts : (n : ℕ) (q : Progress) (x : ℕ) (f : FrameValue) (back : Option FrameValue) → 0 < q.sent → q.phase ≡ Commissioning → q.words.latches ≡ replicate n None → q.words.reference ≡ Some x
      → q.todo ≡ LatchStep ∷ reading_steps q.words.slaves
      → IsOpen n (asked_by cfg q LatchStep (reading_steps q.words.slaves) f back) ⊎ IsCounting (asked_by cfg q LatchStep (reading_steps q.words.slaves) f back)
  latch_counts n q x f None sent phase blank is are = inl (record { latches = blank; stage = inr (record { reference = x; is = is; todo = inr are }) })
  latch_counts n q x f (Some g) sent phase blank is are = by (judged LatchStep (expected cfg q.words LatchStep g) f g)
    where
      by : (o : Option Refusal) → IsOpen n (answered q LatchStep (reading_steps q.words.slaves) g o) ⊎ IsCounting (answered q LatchStep (reading_steps q.words.slaves) g o)
      by (Some r) = inl (record { latches = blank; stage = inr (record { reference = x; is = is; todo = inr are }) })
      by None =
          let rest = reading_steps q.words.slaves in
          inr (turned_keeps IsCounting (noted q LatchStep rest g) rest x phase is (settles (noted q LatchStep rest g))
          (record {
            reference = x;
            is = is;
            todo = reads_from (measuring q.words.slaves) (clocks q.words.slaves);
            some = sent;
            within = omega arith;
            counts = λ none. record { few = omega arith; tries = omega arith; ended = λ e. refl };
          }))

  -- a step behind it; before this exchange the count stood so
  step_counts : (q : Progress) (step : Step) (rest : List Step) (f : FrameValue) (back : Option FrameValue) (x : ℕ) → q.phase ≡ Commissioning → q.words.reference ≡ Some x → q.todo ≡ step ∷ rest
      → IsReading step → AllByRecursion IsReading rest → 0 < q.words.latched → q.words.latched ≤ q.sent → q.tries ≤ 2
      → q.sent + 3 * length q.todo ≤ q.words.latched + 3 * length (reading_steps q.words.slaves) + q.tries + 1 → IsCounting (asked_by cfg q step rest f back)
  step_counts q step rest f None x phase is are reads later some within tries few = record {
    reference = x;
    is = is;
    todo = subst (AllByRecursion IsReading) (sym are) (reads, later);
    some = some;
    within = within;
    counts = λ none. record {
      few = omega (arith, few);
      tries = not_third step (q.tries + 1) (omega (arith, tries)) none;
      ended = λ end. absurd (let z = sym are ∙ end in cc);
    };
  }
  step_counts q step rest f (Some g) x phase is are reads later some within tries few = by (judged step (expected cfg q.words step g) f g)
    where
      by : (o : Option Refusal) → IsCounting (answered q step rest g o)
      by (Some r) = record {
        reference = x;
        is = is;
        todo = subst (AllByRecursion IsReading) (sym are) (reads, later);
        some = some;
        within = within;
        counts = λ none. none_some r _ none;
      }
      by None =
          let same = reading_latched q.sent step g q.words reads in
          let latched = same.0 in
          let slaves = ap (λ ss. length (reading_steps ss)) same.1 in
          let long = ap (λ (xs : List Step). length xs) are in
          turned_keeps IsCounting (noted q step rest g) rest x phase (same.2 ∙ is) (settles (noted q step rest g))
          (record {
            reference = x;
            is = same.2 ∙ is;
            todo = later;
            some = omega (arith, latched, some);
            within = omega (arith, latched, within);
            counts = λ none. record { few = omega (arith, few, tries, latched, slaves, long); tries = omega arith; ended = λ e. refl };
          })

module _ (s : SegmentValue) (legal : IsLegal s) where
  abbrev cfg : ConfigValue
  cfg = master_of s

  abbrev n : ℕ
  n = length s.rows

  abbrev Stage : Progress → Type 0
  Stage q = IsOpen n q ⊎ IsCounting q

  record IsOn (es : List Exchange) (t : SegmentState) : Type 0 where
    way : IsOnWay s legal es t
    stage : Stage (progress cfg es)

  -- one exchange
  module _ (es : List Exchange) (t : SegmentState) (e : Exchange) (way : IsOnWay s legal es t) (next : script cfg Commission es ≡ Send e.wait_ns e.sent) (back : e.back ≡ (segment_step t e.wait_ns e.sent).1) where
    abbrev p : Progress
    p = progress cfg es

    after_step : (step : Step) (rest : List Step) → p.todo ≡ step ∷ rest → after cfg p e ≡ asked_by cfg (counted p e.back) step rest e.sent e.back
    after_step = after_is s legal es t e way next back

    phase_here : p.phase ≡ Commissioning
    phase_here = phase s legal es t e way next back

    asked_here : IsAsked cfg p e.sent p.todo
    asked_here = asks s legal es t e way next back

    judged_on : IsOpen n p → (j : IsJudged p) → (p.todo ≡ later_steps p.words.slaves) ⊎ (p.todo ≡ LatchStep ∷ reading_steps p.words.slaves) → Stage (after cfg p e)
    judged_on opened j (inl are) =
        subst Stage (sym (after_step Rate (LatchStep ∷ reading_steps p.words.slaves) are))
        (inl (rate_asked n cfg (counted p e.back) j.reference e.sent e.back opened.latches j.is are))
    judged_on opened j (inr are) =
        subst Stage (sym (after_step LatchStep (reading_steps p.words.slaves) are))
        (latch_counts cfg n (counted p e.back) j.reference e.sent e.back (omega arith) phase_here opened.latches j.is are)

    open_on : IsOpen n p → IsUnjudged p ⊎ IsJudged p → Stage (after cfg p e)
    open_on opened (inl first) =
        subst Stage (sym (after_step asked_here.step asked_here.rest asked_here.are))
        (inl (first_asked n cfg (counted p e.back) asked_here.step asked_here.rest e.sent e.back phase_here opened.latches (record { reference = first.reference; todo = first.todo }) asked_here.are))
    open_on opened (inr j) = judged_on opened j j.todo

    next_by : Stage p → Stage (after cfg p e)
    next_by (inl opened) = open_on opened opened.stage
    next_by (inr h) =
        let step = asked_here.step in
        let rest = asked_here.rest in
        let reads : AllByRecursion IsReading (step ∷ rest) = subst (AllByRecursion IsReading) asked_here.are h.todo in
        let c = h.counts (unrefused s legal es t e way next back) in
        let few = c.few in
        let within = h.within in
        subst Stage (sym (after_step step rest asked_here.are))
        (inr (step_counts cfg (counted p e.back) step rest e.sent e.back h.reference phase_here h.is asked_here.are reads.0 reads.1 h.some (omega (arith, within)) c.tries (omega (arith, few))))

    on_more : Stage p → IsOn (es ++ e ∷ []) (segment_step t e.wait_ns e.sent).0
    on_more h = record {
      way = walk s legal (e ∷ []) es t (segment_step t e.wait_ns e.sent).0 way (next, tt) (back, refl);
      stage = subst Stage (sym (progress_push cfg es e)) (next_by h);
    }

  -- all exchanges of a commissioning
  walk_on : (es before : List Exchange) (t u : SegmentState) → IsOn before t → Sends (script cfg Commission) before es → Runs segment_step (Some t) es (Some u) → IsOn (before ++ es) u
  walk_on [] before t u h sends runs = subst (λ es. IsOn es u) (sym (append-nil before)) (subst (IsOn before) (some_same (sym runs)) h)
  walk_on (e ∷ es) before t u h sends runs =
      subst (λ xs. IsOn xs u) (append_assoc before (e ∷ []) es)
      (walk_on es (before ++ e ∷ []) (segment_step t e.wait_ns e.sent).0 u (on_more before t e h.way sends.0 runs.0 h.stage) sends.1 runs.1)

  open_first : IsMeasuring s (progress cfg []) (started_segment s).slaves → IsOpen n (progress cfg [])
  unfolding progress
  open_first (inl opened) = opened
  open_first (inr latched) = absurd (let z : None ≡ Some latched.reference = latched.is in cc)

  starts_on : IsOn [] (started_segment s)
  starts_on = record { way = starts s legal; stage = inl (open_first (starts s legal).measuring) }

  -- the steps behind Latch are those of the file
  steps_counted : (ss : List SlaveWords) → ss ≡ words_of (kind_at s) (status_at s) n → length (reading_steps ss) ≡ measuring_rows s.rows + clock_rows s.rows
  unfolding measuring_positions clock_positions
  steps_counted ss are =
      let parts = length-append (map Times (measuring ss)) (map Set (clocks ss)) in
      let times = length-map (measuring ss) Times in
      let sets = length-map (clocks ss) Set in
      let measure : length (measuring ss) ≡ measuring_rows s.rows = ap (λ x. length (measuring x)) are ∙ ap length (told_measuring s legal) ∙ measuring_counted s legal in
      let clock : length (clocks ss) ≡ clock_rows s.rows = ap (λ x. length (clocks x)) are ∙ ap length (told_clocks s legal) ∙ clocks_counted s legal in
      omega (arith, parts, times, sets, measure, clock)

  -- at the end of a commissioning that ended with Ok
  module _ (run : RunEnd) (is : commissioned s ≡ Some run) (ok : run.answer ≡ Ok tt) where
    abbrev last : Progress
    last = progress cfg run.exchanges

    on_at_end : IsOn run.exchanges run.state
    unfolding commissioned
    on_at_end =
        let d = driven segment_step (script cfg Commission) turns [] (started_segment s) run is in
        subst (λ es. IsOn es run.state) (sym d.all) (walk_on d.more [] (started_segment s) run.state starts_on d.script d.runs)

    is_latched : IsLatched s last run.state.slaves
    is_latched = latched s legal run is ok

    none_left : last.todo ≡ []
    none_left = at_end s legal run is ok

    open_never : IsOpen n last → ⊥
    open_never opened = by opened.stage
      where
        by : IsUnjudged last ⊎ IsJudged last → ⊥
        by (inl first) = let z : None ≡ Some is_latched.reference = sym first.reference ∙ is_latched.is in cc
        by (inr j) =
            elim (j.todo) [
              | inl are ↦ absurd (let z = sym none_left ∙ are in cc)
              | inr are ↦ absurd (let z = sym none_left ∙ are in cc)
            ]

    counting_by : Stage last → IsCounting last
    counting_by (inl opened) = absurd (open_never opened)
    counting_by (inr h) = h

    counting : IsCounting last
    counting = counting_by on_at_end.stage

    pub some_latched : 0 < (words_after s run).latched
    some_latched = counting.some

    pub few_behind : length run.exchanges ≤ (words_after s run).latched + 3 * measuring_rows s.rows + 3 * clock_rows s.rows
    few_behind =
        let late = late_at_end s legal run is ok in
        let c = counting.counts late.unrefused in
        let few = c.few in
        let none = c.ended none_left in
        let todo : length last.todo ≡ 0 = ap length none_left in
        let sent = progress_sent cfg run.exchanges in
        let many = steps_counted last.words.slaves late.knows.slaves in
        omega (arith, few, none, todo, sent, many)
