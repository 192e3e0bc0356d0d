-- The commissioning of a legal file, exchange by exchange.
use Rattle.std.proofs.Common.{◌≡◌, ℕ, zero, suc, ◌+◌, ◌*◌, ◌<◌, ◌⊎◌, List, [], ◌∷◌, ◌++◌, ◌%◌, ◌^◌, length, map, replicate, Option, Some, None, true, refl, sym, ap, ap₂, subst, ◌∙◌, append_assoc, arith, inl, inr}
use Rattle.std.specs.Prelude.{IfSome}
use Rattle.std.specs.List.{AllByRecursion, range_with_len}
use Rattle.std.proofs.Math.Nat.{mod-lt}
use Rattle.std.proofs.lemmas.List.{append-nil}
use Rattle.std.proofs.lemmas.Nat.{pow_pos}
use Rattle.cable_tree.specs.Positions.{position_of}
use Rattle.dc_bounds.specs.LockNumbers.{period_fs}
use Rattle.dc_delay.specs.ShapeRows.{positions}
use Rattle.ecat_frame.specs.FrameGrammar.{FrameValue}
use Rattle.esc_regs.specs.RegisterBytes.{number_at}
use Rattle.ecat_link.specs.Exchanges.{Exchange, Runs}
use Rattle.ecat_link.specs.Serves.{Send, Sends}
use Rattle.segment_file.specs.Legal.{IsLegal}
use Rattle.segment_file.specs.Segment.{SegmentValue, tree_rows}
use Rattle.segment_file.proofs.Exported.{legal_reference}
use Rattle.esc_regs.specs.Kinds.{measures}
use Rattle.segment_start.specs.Start.{started_segment}
use Rattle.segment_start.proofs.Exported.{as_many, starts_timely}
use Rattle.frame_pass.specs.FramePass.{datagrams_behind}
use Rattle.frame_pass.specs.SlaveState.{Slave, Timing, width as clock_width}
use Rattle.frame_pass.specs.Invariants.{IsSoundSegment}
use Rattle.frame_pass.specs.SegmentState.{SegmentState, leaves_at, segment_step}
use Rattle.frame_pass.proofs.Exported.{next_leaves, timely_step, sound_at}
use Rattle.master_script.specs.Config.{ConfigValue}
use Rattle.master_script.specs.Frames.{times_datagrams, width as bytes_by}
use Rattle.master_script.specs.Progress.{Commissioning, Progress, after, asked, asked_by, counted, later_steps, moved, progress}
use Rattle.master_script.specs.Script.{Commission, asks_next, next_by, next_in, script, sends}
use Rattle.master_script.specs.Scripted.{AreScripted, more, none}
use Rattle.master_script.specs.Steps.{datagrams_of, frame_of, latch_in}
use Rattle.master_script.specs.Words.{wide_at}
use Rattle.master_script.specs.declared.step.Step.{Step}
use Rattle.master_script.specs.declared.step.Step.TheVariants.{Count, Identify, Rate, Latch as LatchStep, Times, Set}
use Rattle.master_script.proofs.Exported.{progress_push, wants, IsOf}
use Rattle.honest_slaves.proofs.Exported.{had_before, same_many, mindful_step, IsHonest, IsLate, begins, judged_ok, came_back, sent_by, honest_turn}
use Rattle.honest_slaves.specs.Told.{IsMeant}
use Rattle.honest_slaves.specs.FileSlaves.{kind_at, status_at}
use Rattle.run_of_file.specs.MasterOfFile.{master_of}
use Rattle.run_of_file.specs.RunOfFile.{frames_given}
use Rattle.run_of_file.proofs.Exported.{as_many_kinds, some_rows}
use Rattle.run_counts.proofs.Exported.{InStep, in_phase, master_frame_ns, some_kinds, starts_in_step, step_in_step}
use Rattle.delay_law.specs.Resting.{AllRest, row_there, shown_at}
use Rattle.delay_law.specs.HeldTimes.{AllHold, HoldsTimes}
use Rattle.delay_law.specs.ToldTimes.{TellsTimes}
use Rattle.delay_law.specs.Far.{AreFar}
use Rattle.delay_law.specs.OfFile.{IsFixed}
use Rattle.delay_law.proofs.Stepping.{AtEach}
use Rattle.delay_law.proofs.Far.{IsCommissioning, IsReading, far_latch, far_time}
use Rattle.delay_law.proofs.Frames.{fixed_step, holds_step, latch_step, rests_step}
use Rattle.delay_law.proofs.Places.{fixed_first, has_there, rests_first, arrives_there, back_there}
use Rattle.delay_law.proofs.Measuring.{IsFirst, IsJudged, IsLatched, IsMeasuring, IsOpen, IsUnjudged, first_asked, latch_asked, rate_asked, reading_asked, reading_steps}
use Rattle.delay_law.proofs.Told.{arrival_is, port_is, unit_is}
use Rattle.delay_law.proofs.Widths.{wide_told, word_told}

some_same : {X : Type 0} {x y : X} → Some x ≡ Some y → x ≡ y
some_same e = cc

none_some : {X : Type 0} (x : X) (A : Type 0) → None ≡ Some x → A
none_some x A e = absurd (let z = e in cc)

-- the first of the steps is asked
pub record IsAsked (cfg : ConfigValue) (p : Progress) (frame : FrameValue) (todo : List Step) : Type 0 where
  pub step : Step
  pub rest : List Step
  pub are : todo ≡ step ∷ rest
  pub is : frame ≡ frame_of cfg p.words step

module _ (cfg : ConfigValue) (p : Progress) (wait_ns : ℕ) (frame : FrameValue) where
  sent_of : (step : Step) → sends cfg p step ≡ Send wait_ns frame → frame ≡ frame_of cfg p.words step
  sent_of step h = let z = h in cc

  asked_of : (todo : List Step) → asks_next cfg p todo ≡ Send wait_ns frame → IsAsked cfg p frame todo
  asked_of [] h = absurd (let z = h in cc)
  asked_of (step ∷ rest) h = record { step = step; rest = rest; are = refl; is = sent_of step h }

wanted : (cfg : ConfigValue) (es : List Exchange) → script cfg Commission es ≡ next_by cfg (progress cfg es) Commission (progress cfg es).refused
unfolding script
wanted cfg es = refl

moved_by : (cfg : ConfigValue) (p : Progress) (e : Exchange) → p.refused ≡ None → p.phase ≡ Commissioning → after cfg p e ≡ asked cfg (counted p e.back) e.sent e.back p.todo
unfolding after
moved_by cfg p e unrefused is = ap₂ (moved cfg (counted p e.back) e.sent e.back) unrefused is

exchange_is : (e : Exchange) (back : Option FrameValue) → e.back ≡ back → e ≡ record { wait_ns = e.wait_ns; sent = e.sent; back = back }
exchange_is e back is = rw (← is) refl

is_commissioning : (step : Step) → IsOf Commissioning step → IsCommissioning step
is_commissioning Count h = tt
is_commissioning (Identify p) h = tt
is_commissioning Rate h = tt
is_commissioning LatchStep h = tt
is_commissioning (Times p) h = tt
is_commissioning (Set p) h = tt
is_commissioning step h = absurd h

firsts : (a m : ℕ) → AllByRecursion IsFirst (map Identify (range_with_len a m))
firsts a zero = tt
firsts a (suc m) = (tt, firsts (a + 1) m)

module _ (s : SegmentValue) (legal : IsLegal s) where
  abbrev cfg : ConfigValue
  cfg = master_of s

  abbrev pub first_clock : ℕ
  first_clock = position_of (tree_rows s.rows) (legal_reference s legal).0

  abbrev pub IsHonestHere : Progress → List Slave → Type 0
  IsHonestHere p ss = IsHonest (kind_at s) (status_at s) (length s.rows) first_clock p ss

  -- what holds of the exchanges so far and the state in which they leave the segment
  pub record IsOnWay (es : List Exchange) (t : SegmentState) : Type 0 where
    pub made : AreScripted cfg (frames_given s) es
    pub steps : InStep s (progress cfg es) t
    pub sound : IsSoundSegment t
    pub many : length t.slaves ≡ length s.rows
    pub honest : IsHonestHere (progress cfg es) t.slaves
    pub fixed : AtEach (IsFixed s) t.slaves
    pub rests : AllRest s t.slaves
    pub measuring : IsMeasuring s (progress cfg es) t.slaves

  pub late_of : (p : Progress) (ss : List Slave) (x : ℕ) → IsHonestHere p ss → p.refused ≡ None → p.words.reference ≡ Some x → IsLate (kind_at s) (status_at s) (length s.rows) first_clock p ss
  late_of p ss x (inl h) unrefused is = none_some x _ (sym h.unjudged ∙ is)
  late_of p ss x (inr (inl h)) unrefused is = h
  late_of p ss x (inr (inr h)) unrefused is = absurd (h.refused unrefused)

  -- one exchange
  module _ (es : List Exchange) (t : SegmentState) (e : Exchange) (h : IsOnWay es t) (next : script cfg Commission es ≡ Send e.wait_ns e.sent) (back : e.back ≡ (segment_step t e.wait_ns e.sent).1) where
    abbrev p : Progress
    p = progress cfg es

    abbrev u : SegmentState
    u = (segment_step t e.wait_ns e.sent).0

    pub unrefused : p.refused ≡ None
    unrefused = (in_phase cfg Commission es e.wait_ns e.sent next).0

    pub phase : p.phase ≡ Commissioning
    phase = (in_phase cfg Commission es e.wait_ns e.sent next).1

    pub asks : IsAsked cfg p e.sent p.todo
    asks = asked_of cfg p e.wait_ns e.sent p.todo
        (sym (wanted cfg es ∙ ap (next_by cfg p Commission) unrefused ∙ ap (next_in cfg p Commission) phase) ∙ next)

    pub after_is : (step : Step) (rest : List Step) → p.todo ≡ step ∷ rest → after cfg p e ≡ asked_by cfg (counted p e.back) step rest e.sent e.back
    after_is step rest are = moved_by cfg p e unrefused phase ∙ ap (asked cfg (counted p e.back) e.sent e.back) are

    pub sends_step : (step : Step) (rest : List Step) → p.todo ≡ step ∷ rest → e.sent.datagrams ≡ datagrams_of cfg p.words step
    sends_step step rest are =
        ap (λ (f : FrameValue). f.datagrams) (asks.is ∙ ap (frame_of cfg p.words) (let z : asks.step ∷ asks.rest ≡ step ∷ rest = sym asks.are ∙ are in cc)) ∙ sent_by cfg p.words step

    far : AreFar 0x0910 4 e.sent.datagrams
    far =
        let w = wants cfg Commission es e.wait_ns e.sent (some_kinds s legal) next in
        subst (AreFar 0x0910 4) (sym (ap (λ (f : FrameValue). f.datagrams) w.is ∙ sent_by cfg p.words w.step)) (far_time cfg p.words w.step (is_commissioning w.step w.kind))

    -- when it was sent
    leaves : leaves_at t e.wait_ns ≡ (p.sent + 1) * period_fs s.head.frame_ns
    leaves =
        let w = wants cfg Commission es e.wait_ns e.sent (some_kinds s legal) next in
        let wait : e.wait_ns ≡ s.head.frame_ns = w.wait ∙ master_frame_ns s in
        let steps = h.steps in
        subst (λ n. leaves_at t n ≡ (p.sent + 1) * period_fs s.head.frame_ns) (sym wait)
        (next_leaves t s.head.frame_ns legal.head.frame_ns.1 steps.on_time ∙ ap (λ n. (n + 1) * period_fs s.head.frame_ns) steps.sent)

    -- a Latch that came back
    latch_holds : p.todo ≡ LatchStep ∷ reading_steps p.words.slaves → (g : FrameValue) → e.back ≡ Some g → AllHold s ((p.sent + 1) * period_fs s.head.frame_ns) u.slaves
    latch_holds are g came =
        subst (λ at. AllHold s at u.slaves) leaves
        (latch_step s legal t h.many h.sound h.fixed e.wait_ns e.sent g (came_back t e.wait_ns e.sent g (sym back ∙ came)) (sends_step LatchStep (reading_steps p.words.slaves) are) far h.rests)

    -- a Times that came back
    times_tell : IsLatched s p t.slaves → (q : ℕ) (rest : List Step) (g : FrameValue) → p.todo ≡ Times q ∷ rest → e.back ≡ Some g
        → (q < length s.rows) × ((measures (kind_at s q) ≡ true) × TellsTimes s q (p.words.latched * period_fs s.head.frame_ns) (latch_in (wide_at p.words q) g))
    times_tell latched q rest g are came =
        let late = late_of p t.slaves latched.reference h.honest unrefused latched.is in
        let meant : AllByRecursion (IsMeant (kind_at s) (length s.rows)) (Times q ∷ rest) = subst (AllByRecursion (IsMeant (kind_at s) (length s.rows))) are late.todo in
        let low = meant.0.0 in
        let does = meant.0.1 in
        let many = h.many in
        let v = had_before t.slaves q (omega (arith, low, many)) in
        let b = came_back t e.wait_ns e.sent g (sym back ∙ came) in
        let wide = wide_at p.words q in
        let ds : g.datagrams ≡ datagrams_behind (length t.slaves) (leaves_at t e.wait_ns) t.slaves (times_datagrams q wide) =
        b.datagrams ∙ ap (datagrams_behind (length t.slaves) (leaves_at t e.wait_ns) t.slaves) (sends_step (Times q) rest are) in
        let size = (sound_at t.round_trip t.free t.slaves q v.slave h.sound v.is).size in
        let fixed = h.fixed q v.slave v.is in
        let has = has_there s legal q v.slave fixed does in
        let held : HoldsTimes (row_there s q) (p.words.latched * period_fs s.head.frame_ns) v.slave =
        subst (λ (o : Option Timing). IfSome o (λ m. HoldsTimes (row_there s q) (p.words.latched * period_fs s.head.frame_ns) v.slave)) has.is (latched.holds q v.slave v.is) in
        let mindful = mindful_step cfg p.words (Times q) tt in (
          low,
          (
            does,
            record {
              port0 = arrival_is (kind_at s) (status_at s) (length s.rows) (leaves_at t e.wait_ns) t.slaves late.are q v.slave v.is wide mindful does g ds size
                  ∙ held.port0 ∙ ap (λ a. shown_at (row_there s q) (p.words.latched * period_fs s.head.frame_ns + a) % 2 ^ 32) (arrives_there s legal q v.slave fixed);
              ports = λ port at is. port_is (kind_at s) (status_at s) (length s.rows) (leaves_at t e.wait_ns) t.slaves late.are q v.slave v.is wide mindful does g ds port size
                  ∙ held.ports port at (back_there s legal q v.slave fixed port ∙ is);
              unit = unit_is (kind_at s) (status_at s) (length s.rows) (leaves_at t e.wait_ns) t.slaves late.are q v.slave v.is wide mindful does g ds size
                  ∙ ap (λ b. number_at (bytes_by b) 0x0918 v.slave.registers.bytes) (wide_told (kind_at s) (status_at s) (length s.rows) p.words q late.knows.slaves low)
                  ∙ word_told (kind_at s q) 0x0918 (shown_at (row_there s q) (p.words.latched * period_fs s.head.frame_ns + v.slave.visits.arrive)) v.slave.registers.bytes held.unit
                  (mod-lt _ (pow_pos (clock_width (kind_at s q))))
                  ∙ ap (λ a. shown_at (row_there s q) (p.words.latched * period_fs s.head.frame_ns + a)) (arrives_there s legal q v.slave fixed);
            },
          ),
        )

    judged_by : IsOpen (length s.rows) p → (j : IsJudged p) → (p.todo ≡ later_steps p.words.slaves) ⊎ (p.todo ≡ LatchStep ∷ reading_steps p.words.slaves) → IsMeasuring s (after cfg p e) u.slaves
    judged_by opened judged (inl are) =
        subst (λ x. IsMeasuring s x u.slaves) (sym (after_is Rate (LatchStep ∷ reading_steps p.words.slaves) are))
        (inl (rate_asked (length s.rows) cfg (counted p e.back) judged.reference e.sent e.back opened.latches judged.is are))
    judged_by opened judged (inr are) =
        subst (λ x. IsMeasuring s x u.slaves) (sym (after_is LatchStep (reading_steps p.words.slaves) are))
        (latch_asked s cfg u.slaves (counted p e.back) judged.reference e.sent e.back phase opened.latches judged.is
        (late_of p t.slaves judged.reference h.honest unrefused judged.is).knows.slaves are (latch_holds are))

    open_by : IsOpen (length s.rows) p → IsUnjudged p ⊎ IsJudged p → IsMeasuring s (after cfg p e) u.slaves
    open_by opened (inl first) =
        subst (λ x. IsMeasuring s x u.slaves) (sym (after_is asks.step asks.rest asks.are))
        (inl (first_asked (length s.rows) cfg (counted p e.back) asks.step asks.rest e.sent e.back phase opened.latches (record { reference = first.reference; todo = first.todo }) asks.are))
    open_by opened (inr judged) = judged_by opened judged judged.todo

    measuring_by : IsMeasuring s p t.slaves → IsMeasuring s (after cfg p e) u.slaves
    measuring_by (inl opened) = open_by opened opened.stage
    measuring_by (inr latched) =
        let reads : AllByRecursion IsReading (asks.step ∷ asks.rest) = subst (AllByRecursion IsReading) asks.are latched.todo in
        let quiet = subst (AreFar 0x0900 4) (sym (sends_step asks.step asks.rest asks.are)) (far_latch cfg p.words asks.step reads.0) in
        subst (λ x. IsMeasuring s x u.slaves) (sym (after_is asks.step asks.rest asks.are))
        (inr (reading_asked s cfg u.slaves (counted p e.back) asks.step asks.rest e.sent e.back phase
        (record {
          reference = latched.reference;
          is = latched.is;
          todo = latched.todo;
          many = latched.many;
          holds = holds_step s legal t h.many h.sound h.fixed e.wait_ns e.sent (p.words.latched * period_fs s.head.frame_ns) quiet latched.holds;
          told = latched.told;
        })
        asks.are (λ q g is came. times_tell latched q asks.rest g (asks.are ∙ ap (λ x. x ∷ asks.rest) is) came)))

    on_way : IsOnWay (es ++ e ∷ []) u
    on_way =
        let push = sym (progress_push cfg es e) in
        let wanted_by : next_by cfg p Commission p.refused ≡ Send e.wait_ns e.sent = sym (wanted cfg es) ∙ next in
        record {
          made = more es e Commission h.made tt next;
          steps = subst (λ (x : Progress). InStep s x u) push (step_in_step s legal Commission es e t h.made next h.steps);
          sound = timely_step t e.wait_ns e.sent h.sound;
          many = same_many t e.wait_ns e.sent ∙ h.many;
          honest = subst (λ x. IsHonestHere x u.slaves) (ap (after cfg p) (sym (exchange_is e (segment_step t e.wait_ns e.sent).1 back)) ∙ push)
              (honest_turn (kind_at s) (status_at s) (length s.rows) first_clock cfg (as_many_kinds s legal) (judged_ok s legal) p t Commission e.wait_ns e.sent h.sound h.honest wanted_by);
          fixed = fixed_step s legal t h.many h.sound h.fixed e.wait_ns e.sent;
          rests = rests_step s legal t h.many h.sound h.fixed e.wait_ns e.sent far h.rests;
          measuring = subst (λ x. IsMeasuring s x u.slaves) push (measuring_by h.measuring);
        }

  -- all exchanges of a commissioning
  pub walk : (es before : List Exchange) (t u : SegmentState) → IsOnWay before t → Sends (script cfg Commission) before es → Runs segment_step (Some t) es (Some u) → IsOnWay (before ++ es) u
  walk [] before t u h sends runs = subst (λ es. IsOnWay es u) (sym (append-nil before)) (subst (IsOnWay before) (some_same (sym runs)) h)
  walk (e ∷ es) before t u h sends runs =
      subst (λ xs. IsOnWay xs u) (append_assoc before (e ∷ []) es)
      (walk es (before ++ e ∷ []) (segment_step t e.wait_ns e.sent).0 u (on_way before t e h sends.0 runs.0) sends.1 runs.1)

  pub starts : IsOnWay [] (started_segment s)
  unfolding progress
  starts =
      let many = as_many_kinds s legal in
      let some = some_rows s legal in
      record {
        made = none;
        steps = starts_in_step s;
        sound = starts_timely s legal;
        many = as_many s legal;
        honest = inl (record {
          phase = refl;
          unrefused = refl;
          unjudged = refl;
          told = 0;
          more = length s.rows;
          all = omega arith;
          some = some;
          slaves = refl;
          are = begins s legal;
          todo = inr (ap (λ k. Count ∷ map Identify (positions k)) many, refl);
        });
        fixed = fixed_first s legal;
        rests = rests_first s legal;
        measuring = inl (record { latches = ap (λ k. replicate k None) many; stage = inl (record { reference = refl; todo = (tt, firsts 0 (length cfg.kinds)) }) });
      }
