-- Behind the Rate that came back each clock corrects as the file's speed says.
use Rattle.std.proofs.Common.{◌≡◌, ℕ, ◌+◌, ◌⊎◌, Bool, true, false, List, [], ◌∷◌, ◌++◌, length, map, Option, Some, None, Result, Ok, Err, refl, sym, ap, ap₂, subst, ◌∙◌, append_assoc, arith, inl, inr}
use Rattle.std.specs.Prelude.{⊤, slice_get}
use Rattle.std.specs.List.{AllByRecursion}
use Rattle.std.proofs.lemmas.List.{append-nil, length-map}
use Rattle.dc_bounds.specs.LockNumbers.{ticks_to_correction as ticks_by_speed}
use Rattle.ecat_frame.specs.FrameGrammar.{FrameValue}
use Rattle.ecat_link.specs.Exchanges.{Exchange, Runs}
use Rattle.ecat_link.specs.Serves.{Send, Sends}
use Rattle.ecat_link.proofs.Exported.{driven}
use Rattle.esc_regs.specs.Kinds.{has_clock}
use Rattle.segment_file.specs.Legal.{IsLegal}
use Rattle.segment_file.specs.Segment.{SegmentValue}
use Rattle.segment_start.specs.Start.{started_segment}
use Rattle.frame_pass.specs.FramePass.{at_arrival, datagrams_behind, end_of, slave_passed}
use Rattle.frame_pass.specs.Reach.{reach_of}
use Rattle.frame_pass.specs.SegmentState.{SegmentState, leaves_at, segment_step}
use Rattle.frame_pass.specs.SlaveState.{Slave}
use Rattle.frame_pass.proofs.Exported.{fixed_advanced, sizes_of}
use Rattle.frame_pass.specs.Aside.{never_writes}
use Rattle.master_script.specs.Config.{ConfigValue}
use Rattle.master_script.specs.Frames.{rate_datagrams, set_datagrams}
use Rattle.master_script.specs.Judged.{judged}
use Rattle.master_script.specs.Progress.{Commissioning, Progress, Settling, after, answered, asked_by, counted, done, later_steps, noted, planned, progress, turned}
use Rattle.master_script.specs.Script.{Commission, script}
use Rattle.master_script.specs.Slaves.{SlaveWords, clocks, judgement, measuring}
use Rattle.master_script.specs.Steps.{datagrams_of, expected}
use Rattle.master_script.specs.Words.{Words, delay_at, offset_at, wide_at}
use Rattle.master_script.specs.declared.step.Refusal.{Refusal}
use Rattle.master_script.specs.declared.step.Step.{Step}
use Rattle.master_script.specs.declared.step.Step.TheVariants.{Count, Identify, Rate, Latch as LatchStep, Times, Set, Settle, Drift, Arm}
use Rattle.master_script.proofs.Exported.{learned_reference, progress_push}
use Rattle.honest_slaves.specs.FileSlaves.{kind_at}
use Rattle.honest_slaves.proofs.Exported.{CameBack, came_back, had_before, low_where}
use Rattle.run_of_file.specs.MasterOfFile.{master_of}
use Rattle.run_of_file.specs.RunOfFile.{RunEnd, armed, commissioned, ran, run_of, settled, turns}
use Rattle.delay_law.specs.Far.{AreFar}
use Rattle.delay_law.proofs.Exported.{IsAsked, IsLatched, IsOnWay, after_is, asks, at_end, each_after, far_behind, far_left, has_there, kind_there, latched, phase, reading_steps, sends_step, starts, turned_keeps, walk}
use Rattle.copy_law.specs.Speeds.{AllCorrect}
use Rattle.copy_law.specs.Untouched.{ticks_to_correction}
use Rattle.copy_law.proofs.Corrections.{same_passed}
use Rattle.copy_law.proofs.Held.{alike_at, armed_alike, ran_alike, settled_alike, whole_alike}
use Rattle.copy_law.proofs.RateFrames.{rate_frame, rated_passed}
use Rattle.copy_law.proofs.Readings.{clock_measures}
use Rattle.copy_law.proofs.Slaves.{corrections_kept}
use Rattle.copy_law.proofs.Untouching.{speed_untouched}

some_same : {X : Type 0} {x y : X} → Some x ≡ Some y → x ≡ y
some_same e = cc

-- the steps behind Rate
abbrev IsBehindRate : Step → Type 0
IsBehindRate LatchStep = ⊤
IsBehindRate (Times p) = ⊤
IsBehindRate (Set p) = ⊤
IsBehindRate step = ⊥

behind_from : (ps rs : List ℕ) → AllByRecursion IsBehindRate (map Times ps ++ map Set rs)
behind_from [] [] = tt
behind_from [] (r ∷ rs) = (tt, behind_from [] rs)
behind_from (p ∷ ps) rs = (tt, behind_from ps rs)

all_behind_rate : (ss : List SlaveWords) → AllByRecursion IsBehindRate (LatchStep ∷ reading_steps ss)
all_behind_rate ss = (tt, behind_from (measuring ss) (clocks ss))

-- none of them writes the speed
far_set : (p : ℕ) (wide : Bool) (x y : ℕ) → AreFar 0x0930 2 (set_datagrams p wide x y)
far_set p true x y own = (inr (inr (inl (omega arith))), (inr (inr (inl (omega arith))), tt))
far_set p false x y own = (inr (inr (inl (omega arith))), (inr (inr (inl (omega arith))), tt))

far_speed : (cfg : ConfigValue) (w : Words) (step : Step) → IsBehindRate step → AreFar 0x0930 2 (datagrams_of cfg w step)
unfolding never_writes
far_speed cfg w Count h own = absurd h
far_speed cfg w (Identify p) h own = absurd h
far_speed cfg w Rate h own = absurd h
far_speed cfg w LatchStep h own = (inr (inr (inl (omega arith))), tt)
far_speed cfg w (Times p) h own = (inl refl, (inl refl, tt))
far_speed cfg w (Set p) h own = far_set p (wide_at w p) (offset_at cfg w p) (delay_at cfg w p) own
far_speed cfg w Settle h own = absurd h
far_speed cfg w (Drift k) h own = absurd h
far_speed cfg w (Arm p) h own = absurd h

-- Rate is still to be asked
record IsWaiting (q : Progress) : Type 0 where
  reference : ℕ
  is : q.words.reference ≡ Some reference
  todo : q.todo ≡ later_steps q.words.slaves

-- it came back
record IsRated (s : SegmentValue) (q : Progress) (ss : List Slave) : Type 0 where
  reference : ℕ
  is : q.words.reference ≡ Some reference
  todo : AllByRecursion IsBehindRate q.todo
  each : AllCorrect s ss

-- the slaves are not judged yet, or one of these
abbrev Stage : SegmentValue → Progress → List Slave → Type 0
Stage s q ss = (q.words.reference ≡ None) ⊎ (IsWaiting q ⊎ IsRated s q ss)

module _ (s : SegmentValue) (ss : List Slave) (cfg : ConfigValue) where
  -- up to the judgement
  planned_stage : (q : Progress) (o : Result ℕ Refusal) → q.words.reference ≡ None → Stage s (planned q o) ss
  planned_stage q (Err r) unjudged = inl unjudged
  planned_stage q (Ok x) unjudged = inr (inl (record { reference = x; is = refl; todo = refl }))

  turned_stage : (q : Progress) (rest : List Step) → q.phase ≡ Commissioning → q.words.reference ≡ None → Stage s (turned q rest) ss
  turned_stage q [] at unjudged = subst (λ (z : Progress). Stage s z ss) (ap₂ (done q) (sym at) (sym unjudged)) (planned_stage q (judgement q.words.slaves) unjudged)
  turned_stage q (step ∷ rest) at unjudged = inl unjudged

  first_stage : (q : Progress) (step : Step) (rest : List Step) (f : FrameValue) (back : Option FrameValue) → q.phase ≡ Commissioning → q.words.reference ≡ None → Stage s (asked_by cfg q step rest f back) ss
  first_stage q step rest f None at unjudged = inl unjudged
  first_stage q step rest f (Some g) at unjudged = by (judged step (expected cfg q.words step g) f g)
    where
      by : (o : Option Refusal) → Stage s (answered q step rest g o) ss
      by (Some r) = inl unjudged
      by None = turned_stage (noted q step rest g) rest at (learned_reference q.sent step g q.words ∙ unjudged)

  -- Rate
  rate_stage : (q : Progress) (x : ℕ) (f : FrameValue) (back : Option FrameValue) → q.words.reference ≡ Some x → q.todo ≡ later_steps q.words.slaves
      → ((g : FrameValue) → back ≡ Some g → AllCorrect s ss) → Stage s (asked_by cfg q Rate (LatchStep ∷ reading_steps q.words.slaves) f back) ss
  rate_stage q x f None is are each = inr (inl (record { reference = x; is = is; todo = are }))
  rate_stage q x f (Some g) is are each = by (judged Rate (expected cfg q.words Rate g) f g)
    where
      by : (o : Option Refusal) → Stage s (answered q Rate (LatchStep ∷ reading_steps q.words.slaves) g o) ss
      by (Some r) = inr (inl (record { reference = x; is = is; todo = are }))
      by None = inr (inr (record { reference = x; is = is; todo = all_behind_rate q.words.slaves; each = each g refl }))

  -- a step behind it
  settles : (q : Progress) → IsRated s q ss → IsRated s (record q { phase = Settling }) ss
  settles q h = record { reference = h.reference; is = h.is; todo = h.todo; each = h.each }

  later_stage : (q : Progress) (step : Step) (rest : List Step) (x : ℕ) (f : FrameValue) (back : Option FrameValue) → q.phase ≡ Commissioning → q.words.reference ≡ Some x → q.todo ≡ step ∷ rest
      → AllByRecursion IsBehindRate (step ∷ rest) → AllCorrect s ss → Stage s (asked_by cfg q step rest f back) ss
  later_stage q step rest x f None at is are all each = inr (inr (record { reference = x; is = is; todo = subst (AllByRecursion IsBehindRate) (sym are) all; each = each }))
  later_stage q step rest x f (Some g) at is are all each = by (judged step (expected cfg q.words step g) f g)
    where
      by : (o : Option Refusal) → Stage s (answered q step rest g o) ss
      by (Some r) = inr (inr (record { reference = x; is = is; todo = subst (AllByRecursion IsBehindRate) (sym are) all; each = each }))
      by None =
          let same = learned_reference q.sent step g q.words ∙ is in
          inr (inr (turned_keeps (λ z. IsRated s z ss) (noted q step rest g) rest x at same (settles (noted q step rest g))
          (record { reference = x; is = same; todo = all.1; each = each })))

speed_is : (s : SegmentValue) → (master_of s).speed ≡ s.head.speed
unfolding master_of
speed_is s = refl

module _ (s : SegmentValue) (legal : IsLegal s) where
  abbrev cfg : ConfigValue
  cfg = master_of s

  record IsOn (es : List Exchange) (t : SegmentState) : Type 0 where
    way : IsOnWay s legal es t
    stage : Stage s (progress cfg es) t.slaves

  abbrev HasSpeed : ℕ → Slave → Type 0
  HasSpeed q v = has_clock (kind_at s q) ≡ true → ticks_to_correction v ≡ Some (ticks_by_speed s.head.speed)

  -- one exchange
  module _ (es : List Exchange) (t : SegmentState) (e : Exchange) (way : IsOnWay s legal es t) (next : script cfg Commission es ≡ Send e.wait_ns e.sent) (back : e.back ≡ (segment_step t e.wait_ns e.sent).1) where
    abbrev p : Progress
    p = progress cfg es

    abbrev u : SegmentState
    u = (segment_step t e.wait_ns e.sent).0

    after_step : (step : Step) (rest : List Step) → p.todo ≡ step ∷ rest → after cfg p e ≡ asked_by cfg (counted p e.back) step rest e.sent e.back
    after_step = after_is s legal es t e way next back

    phase_here : p.phase ≡ Commissioning
    phase_here = phase s legal es t e way next back

    asked_here : IsAsked cfg p e.sent p.todo
    asked_here = asks s legal es t e way next back

    -- a frame that writes no speed leaves how the clocks correct
    far_keeps : AreFar 0x0930 2 e.sent.datagrams → AllCorrect s t.slaves → AllCorrect s u.slaves
    far_keeps far each =
        let at = leaves_at t e.wait_ns in
        each_after HasSpeed HasSpeed t e.wait_ns e.sent (record {
          passed = λ q v early reached is h clock.
              let ds = datagrams_behind q at t.slaves e.sent.datagrams in
              same_passed at (end_of (reach_of t e.sent) t.slaves) v ds
              (far_left 0x0930 2 (at_arrival at v) ds (far_behind 0x0930 2 q at t.slaves e.sent.datagrams (sizes_of t.round_trip t.free t.slaves way.sound) far))
              ∙ h clock;
          beyond = λ q v early past low h. h;
          unsent = λ q v late h. h;
        }) each

    -- a Rate that came back
    rate_sets : p.todo ≡ later_steps p.words.slaves → (g : FrameValue) → e.back ≡ Some g → AllCorrect s u.slaves
    rate_sets are g came =
        let at = leaves_at t e.wait_ns in
        let back_here : CameBack t e.wait_ns e.sent g = came_back t e.wait_ns e.sent g (sym back ∙ came) in
        let sent : e.sent.datagrams ≡ rate_datagrams s.head.speed = sends_step s legal es t e way next back Rate (LatchStep ∷ reading_steps p.words.slaves) are ∙ ap rate_datagrams (speed_is s) in
        each_after (λ q v. slice_get t.slaves q ≡ Some v) HasSpeed t e.wait_ns e.sent (record {
          passed = λ q v early reached is h clock.
              let a = at_arrival at v in
              let fixed = fixed_advanced (at + v.visits.arrive) v ∙ way.fixed q v is in
              let has = has_there s legal q a fixed (clock_measures (kind_at s q) clock) in
              subst (λ ds. ticks_to_correction (slave_passed at (end_of (reach_of t e.sent) t.slaves) v (datagrams_behind q at t.slaves ds)) ≡ Some (ticks_by_speed s.head.speed)) (sym sent)
              (rated_passed s.head.speed legal.head.speed.0 legal.head.speed.1 at (end_of (reach_of t e.sent) t.slaves) v has.timing has.is
              (ap has_clock (kind_there s legal q a fixed) ∙ clock) (datagrams_behind q at t.slaves (rate_datagrams s.head.speed)) (rate_frame s.head.speed q at t.slaves));
          beyond = λ q v early past less is. absurd (let all = back_here.reach in omega (arith, all, past, less));
          unsent = λ q v late is. absurd (let early = back_here.early in omega (arith, early, late));
        }) (λ q v is. is)

    next_by : Stage s p t.slaves → Stage s (after cfg p e) u.slaves
    next_by (inl unjudged) =
        subst (λ (z : Progress). Stage s z u.slaves) (sym (after_step asked_here.step asked_here.rest asked_here.are))
        (first_stage s u.slaves cfg (counted p e.back) asked_here.step asked_here.rest e.sent e.back phase_here unjudged)
    next_by (inr (inl h)) =
        subst (λ (z : Progress). Stage s z u.slaves) (sym (after_step Rate (LatchStep ∷ reading_steps p.words.slaves) h.todo))
        (rate_stage s u.slaves cfg (counted p e.back) h.reference e.sent e.back h.is h.todo (rate_sets h.todo))
    next_by (inr (inr h)) =
        let step = asked_here.step in
        let rest = asked_here.rest in
        let all : AllByRecursion IsBehindRate (step ∷ rest) = subst (AllByRecursion IsBehindRate) asked_here.are h.todo in
        let far = subst (AreFar 0x0930 2) (sym (sends_step s legal es t e way next back step rest asked_here.are)) (far_speed cfg p.words step all.0) in
        subst (λ (z : Progress). Stage s z u.slaves) (sym (after_step step rest asked_here.are))
        (later_stage s u.slaves cfg (counted p e.back) step rest h.reference e.sent e.back phase_here h.is asked_here.are all (far_keeps far h.each))

    on_more : Stage s p t.slaves → IsOn (es ++ e ∷ []) u
    on_more h = record {
      way = walk s legal (e ∷ []) es t u way (next, tt) (back, refl);
      stage = subst (λ (z : Progress). Stage s z u.slaves) (sym (progress_push cfg es e)) (next_by h);
    }

  -- all exchanges of a commissioning
  walk_on : (es before : List Exchange) (t u : SegmentState) → IsOn before t → Sends (script cfg Commission) before es → Runs segment_step (Some t) es (Some u) → IsOn (before ++ es) u
  walk_on [] before t u h sends runs = subst (λ es. IsOn es u) (sym (append-nil before)) (subst (IsOn before) (some_same (sym runs)) h)
  walk_on (e ∷ es) before t u h sends runs =
      subst (λ xs. IsOn xs u) (append_assoc before (e ∷ []) es)
      (walk_on es (before ++ e ∷ []) (segment_step t e.wait_ns e.sent).0 u (on_more before t e h.way sends.0 runs.0 h.stage) sends.1 runs.1)

  unjudged_first : (progress cfg []).words.reference ≡ None
  unfolding progress
  unjudged_first = refl

  -- at the end of a commissioning that ended with Ok
  module _ (run : RunEnd) (is : commissioned s ≡ Some run) (ok : run.answer ≡ Ok tt) where
    abbrev last : Progress
    last = progress cfg run.exchanges

    on_at_end : IsOn run.exchanges run.state
    unfolding commissioned
    on_at_end =
        let d = driven segment_step (script cfg Commission) turns [] (started_segment s) run is in
        subst (λ es. IsOn es run.state) (sym d.all)
        (walk_on d.more [] (started_segment s) run.state (record { way = starts s legal; stage = inl unjudged_first }) d.script d.runs)

    is_latched : IsLatched s last run.state.slaves
    is_latched = latched s legal run is ok

    rated_by : Stage s last run.state.slaves → AllCorrect s run.state.slaves
    rated_by (inl unjudged) = absurd (let z : None ≡ Some is_latched.reference = sym unjudged ∙ is_latched.is in cc)
    rated_by (inr (inl h)) = absurd (let z = sym (at_end s legal run is ok) ∙ h.todo in cc)
    rated_by (inr (inr h)) = h.each

    pub commissioned_correct : AllCorrect s run.state.slaves
    commissioned_correct = rated_by on_at_end.stage

    -- and behind it
    pub still_correct : (last : RunEnd) → map ticks_to_correction last.state.slaves ≡ map ticks_to_correction run.state.slaves → AllCorrect s last.state.slaves
    still_correct last alike q w there clock =
        let within = low_where last.state.slaves q w there in
        let many : length last.state.slaves ≡ length run.state.slaves =
        sym (length-map last.state.slaves ticks_to_correction) ∙ ap length alike ∙ length-map run.state.slaves ticks_to_correction in
        let v = had_before run.state.slaves q (omega (arith, within, many)) in
        alike_at ticks_to_correction run.state.slaves last.state.slaves alike q v.slave w v.is there ∙ commissioned_correct q v.slave v.is clock

    pub settled_correct : (last : RunEnd) → settled s ≡ Some last → AllCorrect s last.state.slaves
    settled_correct last then = still_correct last (settled_alike ticks_to_correction 0x0930 2 corrections_kept speed_untouched s legal run last is then)

    pub armed_correct : (last : RunEnd) → armed s ≡ Some last → AllCorrect s last.state.slaves
    armed_correct last then = still_correct last (armed_alike ticks_to_correction 0x0930 2 corrections_kept speed_untouched s legal run last is then)

    pub ran_correct : (last : RunEnd) → ran s ≡ Some last → AllCorrect s last.state.slaves
    ran_correct last then = still_correct last (ran_alike ticks_to_correction 0x0930 2 corrections_kept speed_untouched s legal run last is then)

    pub whole_correct : (last : RunEnd) → run_of s ≡ Some last → AllCorrect s last.state.slaves
    whole_correct last then = still_correct last (whole_alike ticks_to_correction 0x0930 2 corrections_kept speed_untouched s legal run last is then)
