-- Arming and running, exchange by exchange: a clock still waits for its Arm, or was armed by the try of it that came back.
use Rattle.std.proofs.Common.{◌≡◌, ◌≢◌, ◌⊎◌, ℕ, ◌+◌, ◌-◌, ◌*◌, ◌<◌, ◌≤◌, true, List, [], ◌∷◌, ◌++◌, length, length-append, Some, refl, sym, ap, subst, ◌∙◌, append_assoc, arith, inl, inr}
use Rattle.std.specs.Prelude.{slice_get}
use Rattle.std.specs.List.{AllByRecursion}
use Rattle.std.proofs.lemmas.Bool.{cases_eq}
use Rattle.std.proofs.lemmas.List.{append-nil}
use Rattle.copy_law.specs.Drawn.{arrives_at}
use Rattle.copy_law.specs.History.{brought_to, clock_of, history_from}
use Rattle.copy_law.proofs.Exported.{file_first, file_step, has_there, history_one, history_then}
use Rattle.dc_bounds.specs.LockNumbers.{period_fs}
use Rattle.delay_law.specs.Far.{AreFar}
use Rattle.delay_law.specs.OfFile.{IsOfFile}
use Rattle.delay_law.specs.Resting.{row_there}
use Rattle.delay_law.proofs.Exported.{arrives_there}
use Rattle.ecat_frame.specs.FrameGrammar.{FrameValue}
use Rattle.ecat_link.specs.Exchanges.{Exchange, Runs}
use Rattle.ecat_link.specs.Serves.{Send, Sends}
use Rattle.ecat_link.proofs.Exported.{runs_then}
use Rattle.edge_law.specs.ArmedUnits.{unit_of}
use Rattle.edge_law.proofs.ArmingProgress.{Arms, Awaits, Came, IsArm, arms_by}
use Rattle.edge_law.proofs.ArmingStep.{IsQuiet, drift_far, drift_offset_far, far_quiet, other_quiet, own_step, quiet_step}
use Rattle.edge_law.proofs.ArmingVisit.{RunsSince}
use Rattle.esc_regs.specs.Kinds.{has_clock}
use Rattle.frame_pass.specs.ClockHistory.{HasHistory}
use Rattle.frame_pass.specs.Reach.{reach_of}
use Rattle.frame_pass.specs.SegmentState.{SegmentState, leaves_at, segment_step}
use Rattle.frame_pass.specs.SlaveState.{Slave, width}
use Rattle.honest_slaves.specs.FileSlaves.{kind_at, status_at}
use Rattle.honest_slaves.specs.Mindful.{AreMindful}
use Rattle.honest_slaves.specs.Told.{AreInOrder, words_of}
use Rattle.honest_slaves.proofs.Exported.{came_back, had_before, low_where, mindful_step, order_stays, same_many, sent_by}
use Rattle.local_clock.specs.Reading.{Happening}
use Rattle.master_script.specs.Config.{ConfigValue}
use Rattle.master_script.specs.Progress.{Progress, Running, after, progress}
use Rattle.master_script.specs.Script.{Arm as ArmCall, Call, Run, script}
use Rattle.master_script.specs.Scripted.{AreScripted, IsLimited, more}
use Rattle.master_script.specs.Steps.{datagrams_of}
use Rattle.master_script.specs.Words.{Words, reference_of, start_at}
use Rattle.master_script.specs.declared.step.Step.{Step}
use Rattle.master_script.specs.declared.step.Step.TheVariants.{Arm, Drift}
use Rattle.master_script.proofs.Exported.{IsOf, progress_push, progress_sent, wants}
use Rattle.run_counts.specs.Transmissions.{settling_sends}
use Rattle.run_counts.proofs.Exported.{few_sent, master_frame_ns, some_kinds, stands_after}
use Rattle.run_of_file.specs.MasterOfFile.{master_of}
use Rattle.run_of_file.specs.RunOfFile.{RunEnd, frames_given}
use Rattle.run_of_file.proofs.Exported.{kept_by_runs}
use Rattle.segment_file.specs.Legal.{IsLegal}
use Rattle.segment_file.specs.Segment.{SegmentValue}
use Rattle.segment_start.specs.Start.{started_segment}

some_same : {X : Type 0} {x y : X} → Some x ≡ Some y → x ≡ y
some_same e = cc

arm_same : (p q : ℕ) → Arm p ≡ Arm q → p ≡ q
arm_same p q e = cc

less_awaits : (p q : ℕ) (rest : List Step) → p ≢ q → Awaits p (Arm q ∷ rest) → Awaits p rest
less_awaits p q rest other (inl same) = absurd (other (sym (arm_same q p same)))
less_awaits p q rest other (inr waits) = waits

module _ (s : SegmentValue) (legal : IsLegal s) (p : ℕ) (low : p < length s.rows) (is : has_clock (kind_at s p) ≡ true) (first : RunEnd) (w : Words) where
  abbrev cfg : ConfigValue
  cfg = master_of s

  abbrev n : ℕ
  n = length s.rows

  -- what the exchanges brought the clock
  abbrev pub events : List Exchange → List Happening
  events es = history_from (started_segment s) es p

  -- drift frame j, which is one of the first so many frames, has armed it
  pub record ArmedAt (most : ℕ) (hs : List Happening) (v : Slave) : Type 0 where
    pub frame : ℕ
    pub behind : settling_sends s < frame
    pub within : length first.exchanges + frame ≤ most
    pub runs : RunsSince (width (kind_at s p)) (clock_of (row_there s p)) (arrives_at s first frame p) s.head.cycles (unit_of s p (start_at (master_of s) w)) hs v

  more_most : (most later : ℕ) (hs : List Happening) (v : Slave) → most ≤ later → ArmedAt most hs v → ArmedAt later hs v
  more_most most later hs v less a = record { frame = a.frame; behind = a.behind; within = let h = a.within in omega (arith, h, less); runs = a.runs }

  -- exchanges of a run behind settling, and where they lead
  pub record IsOn (es : List Exchange) (t : SegmentState) : Type 0 where
    pub scripted : AreScripted (master_of s) (frames_given s) es
    pub runs : Runs segment_step (Some (started_segment s)) es (Some t)
    pub named : AreInOrder (kind_at s) (status_at s) (length s.rows) (length s.rows) t.slaves
    pub many : length first.exchanges + settling_sends s ≤ length es

  -- one exchange more
  module _ (es : List Exchange) (t : SegmentState) (on : IsOn es t) where
    file : IsOfFile s t
    file = kept_by_runs (IsOfFile s) (file_step s legal) es (started_segment s) t on.runs (file_first s legal)

    few : length es < 1000000
    few = few_sent s legal es on.scripted

    early : t.sent < 1000000
    early =
        let stands = stands_after s legal es t on.scripted on.runs in
        let sent = stands.sent in
        let same = progress_sent (master_of s) es in
        let less = few in
        omega (arith, sent, same, less)

    history : (v : Slave) → slice_get t.slaves p ≡ Some v → HasHistory (width (kind_at s p)) (clock_of (row_there s p)) (events es) v
    history v there = let less = few in has_there s legal p low is es t (omega (arith, less)) on.runs v there

    module _ (e : Exchange) (call : Call) (next : script (master_of s) call es ≡ Send e.wait_ns e.sent) (back : e.back ≡ (segment_step t e.wait_ns e.sent).1) where
      abbrev u : SegmentState
      u = (segment_step t e.wait_ns e.sent).0

      leaves : leaves_at t e.wait_ns ≡ (length es + 1) * period_fs s.head.frame_ns
      leaves =
          let wanted = wants (master_of s) call es e.wait_ns e.sent (some_kinds s legal) next in
          let wait : e.wait_ns ≡ s.head.frame_ns = wanted.wait ∙ master_frame_ns s in
          ap (leaves_at t) wait ∙ (stands_after s legal es t on.scripted on.runs).next ∙ ap (λ (k : ℕ). (k + 1) * period_fs s.head.frame_ns) (progress_sent (master_of s) es)

      events_more : events (es ++ e ∷ []) ≡ events es ++ brought_to t e p (slice_get t.slaves p)
      events_more = history_then es (e ∷ []) (started_segment s) t p on.runs ∙ ap (λ (hs : List Happening). events es ++ hs) (history_one t e p)

      longer : length (es ++ e ∷ []) ≡ length es + 1
      longer = length-append es (e ∷ [])

      on_more : IsLimited (frames_given s) call → AreMindful 0 e.sent.datagrams → IsOn (es ++ e ∷ []) u
      on_more limited mindful = record {
        scripted = more es e call on.scripted limited next;
        runs = runs_then segment_step es (e ∷ []) (Some (started_segment s)) (Some t) (Some u) on.runs (back, refl);
        named = order_stays (kind_at s) (status_at s) (length s.rows) (length s.rows) t e.wait_ns e.sent file.sound mindful on.named;
        many = let m = on.many in let l = longer in omega (arith, m, l);
      }

      -- a frame that is quiet there leaves it armed
      kept_armed : (most : ℕ) → IsQuiet s legal p low is t file e early → ((v : Slave) → slice_get t.slaves p ≡ Some v → ArmedAt most (events es) v) → (z : Slave) → slice_get u.slaves p ≡ Some z
          → ArmedAt most (events (es ++ e ∷ [])) z
      kept_armed most quiet h z after =
          let same = same_many t e.wait_ns e.sent in
          let within = low_where u.slaves p z after in
          let v = had_before t.slaves p (omega (arith, same, within)) in
          let a = h v.slave v.is in
          let start = arrives_at s first a.frame p in
          let unit = unit_of s p (start_at (master_of s) w) in
          record {
            frame = a.frame;
            behind = a.behind;
            within = a.within;
            runs = subst (λ (hs : List Happening). RunsSince (width (kind_at s p)) (clock_of (row_there s p)) start s.head.cycles unit hs z) (sym events_more)
                (quiet_step s legal p low is t file e early start unit (events es) quiet history
                (λ x there. subst (λ (y : Slave). RunsSince (width (kind_at s p)) (clock_of (row_there s p)) start s.head.cycles unit (events es) y) (some_same (sym v.is ∙ there)) a.runs) z after);
          }

      -- its own Arm that came back arms it
      now_armed : w.slaves ≡ words_of (kind_at s) (status_at s) (length s.rows) → e.sent.datagrams ≡ datagrams_of (master_of s) w (Arm p) → Came e.back → (z : Slave) → slice_get u.slaves p ≡ Some z
          → ArmedAt (length (es ++ e ∷ [])) (events (es ++ e ∷ [])) z
      now_armed told sends came z after =
          let b = came_back t e.wait_ns e.sent came.0 (sym back ∙ came.1) in
          let reach = b.reach in
          let rows = file.many in
          let row = low in
          let reached : p < reach_of t e.sent = omega (arith, reach, rows, row) in
          let v = had_before t.slaves p (omega (arith, rows, row)) in
          let unit = unit_of s p (start_at (master_of s) w) in
          let frame = length es + 1 - length first.exchanges in
          let m = on.many in
          let whole : length es + 1 ≡ length first.exchanges + frame = omega (arith, m) in
          let at : leaves_at t e.wait_ns + v.slave.visits.arrive ≡ arrives_at s first frame p =
          ap (λ k. k + v.slave.visits.arrive) (leaves ∙ ap (λ (k : ℕ). k * period_fs s.head.frame_ns) whole)
          ∙ ap (λ k. (length first.exchanges + frame) * period_fs s.head.frame_ns + k) (arrives_there s legal p v.slave (file.fixed p v.slave v.is)) in
          let l = longer in
          record {
            frame = frame;
            behind = omega (arith, m);
            within = omega (arith, m, l);
            runs = subst (λ k. RunsSince (width (kind_at s p)) (clock_of (row_there s p)) k s.head.cycles unit (events (es ++ e ∷ [])) z) at
                (own_step s legal p low is t file e early on.named w told sends reached (events (es ++ e ∷ [])) z after v.slave v.is);
          }

  -- how far arming has come
  pub record IsArming (es : List Exchange) (t : SegmentState) : Type 0 where
    pub on : IsOn es t
    pub words : (progress (master_of s) es).words ≡ w
    pub steps : AllByRecursion IsArm (progress (master_of s) es).todo
    pub stage : (v : Slave) → slice_get t.slaves p ≡ Some v → Awaits p (progress (master_of s) es).todo ⊎ ArmedAt (length es) (events es) v

  module _ (told : w.slaves ≡ words_of (kind_at s) (status_at s) (length s.rows)) where
    module _ (es : List Exchange) (t : SegmentState) (h : IsArming es t) (e : Exchange) (next : script (master_of s) ArmCall es ≡ Send e.wait_ns e.sent) (back : e.back ≡ (segment_step t e.wait_ns e.sent).1) where
      abbrev next_state : SegmentState
      next_state = (segment_step t e.wait_ns e.sent).0

      arms : Arms (master_of s) (progress (master_of s) es) e
      arms = arms_by (master_of s) es e next h.steps

      sends : e.sent.datagrams ≡ datagrams_of (master_of s) w (Arm arms.position)
      sends = arms.sends ∙ ap (λ (x : Words). datagrams_of (master_of s) x (Arm arms.position)) h.words

      mindful : AreMindful 0 e.sent.datagrams
      mindful = subst (AreMindful 0) (sym sends) (mindful_step (master_of s) w (Arm arms.position) tt)

      abbrev Stage : List Step → Slave → Type 0
      Stage todo z = Awaits p todo ⊎ ArmedAt (length (es ++ e ∷ [])) (events (es ++ e ∷ [])) z

      own_stage : p ≡ arms.position → (todo : List Step) → (todo ≡ Arm arms.position ∷ arms.rest) ⊎ ((todo ≡ arms.rest) × Came e.back) → (z : Slave) → slice_get next_state.slaves p ≡ Some z → Stage todo z
      own_stage same todo (inl still) z after = inl (subst (Awaits p) (sym still) (inl (ap Arm (sym same))))
      own_stage same todo (inr came) z after =
          inr (now_armed es t h.on e ArmCall next back told (sends ∙ ap (λ (k : ℕ). datagrams_of (master_of s) w (Arm k)) (sym same)) came.1 z after)

      waits_on : p ≢ arms.position → (todo : List Step) → (todo ≡ Arm arms.position ∷ arms.rest) ⊎ ((todo ≡ arms.rest) × Came e.back) → Awaits p (Arm arms.position ∷ arms.rest) → Awaits p todo
      waits_on other todo (inl still) waits = subst (Awaits p) (sym still) waits
      waits_on other todo (inr came) waits = subst (Awaits p) (sym came.0) (less_awaits p arms.position arms.rest other waits)

      other_stage : p ≢ arms.position → (todo : List Step) → (todo ≡ Arm arms.position ∷ arms.rest) ⊎ ((todo ≡ arms.rest) × Came e.back) → (z : Slave) → slice_get next_state.slaves p ≡ Some z → Stage todo z
      other_stage other todo turned z after =
          let same = same_many t e.wait_ns e.sent in
          let within = low_where next_state.slaves p z after in
          let v = had_before t.slaves p (omega (arith, same, within)) in
          elim (h.stage v.slave v.is) [
            | inl waits ↦ inl (waits_on other todo turned (subst (Awaits p) arms.are waits))
            | inr armed ↦
                inr (more_most (length es) (length (es ++ e ∷ [])) (events (es ++ e ∷ [])) z (let l = length-append es (e ∷ []) in omega (arith, l))
                (kept_armed es t h.on e ArmCall next back (length es) (other_quiet s legal p low is t (file es t h.on) e (early es t h.on) h.on.named w arms.position sends other)
                (λ x there. subst (λ (y : Slave). ArmedAt (length es) (events es) y) (some_same (sym v.is ∙ there)) armed) z after))
          ]

      stage_more : (todo : List Step) → (todo ≡ Arm arms.position ∷ arms.rest) ⊎ ((todo ≡ arms.rest) × Came e.back) → (z : Slave) → slice_get next_state.slaves p ≡ Some z → Stage todo z
      stage_more todo turned z after =
          elim (cases_eq p arms.position) [
            | inl same ↦ own_stage same todo turned z after
            | inr other ↦ other_stage other todo turned z after
          ]

      steps_more : (todo : List Step) → (todo ≡ Arm arms.position ∷ arms.rest) ⊎ ((todo ≡ arms.rest) × Came e.back) → AllByRecursion IsArm todo
      steps_more todo (inl still) = subst (AllByRecursion IsArm) (sym still) (subst (AllByRecursion IsArm) arms.are h.steps)
      steps_more todo (inr came) = subst (AllByRecursion IsArm) (sym came.0) (subst (AllByRecursion IsArm) arms.are h.steps).1

      arming_more : IsArming (es ++ e ∷ []) next_state
      arming_more =
          let push = progress_push (master_of s) es e in
          let todo = (after (master_of s) (progress (master_of s) es) e).todo in
          let now : (progress (master_of s) (es ++ e ∷ [])).todo ≡ todo = ap (λ (x : Progress). x.todo) push in
          record {
            on = on_more es t h.on e ArmCall next back tt mindful;
            words = ap (λ (x : Progress). x.words) push ∙ arms.turns.words ∙ h.words;
            steps = subst (AllByRecursion IsArm) (sym now) (steps_more todo arms.turns.todo);
            stage = λ z after. subst (λ (x : List Step). Stage x z) (sym now) (stage_more todo arms.turns.todo z after);
          }

    -- all of its exchanges
    pub walk_arming : (es before : List Exchange) (t u : SegmentState) → IsArming before t → Sends (script (master_of s) ArmCall) before es → Runs segment_step (Some t) es (Some u) → IsArming (before ++ es) u
    walk_arming [] before t u h made runs = subst (λ es. IsArming es u) (sym (append-nil before)) (subst (IsArming before) (some_same (sym runs)) h)
    walk_arming (e ∷ es) before t u h made runs =
        subst (λ xs. IsArming xs u) (append_assoc before (e ∷ []) es)
        (walk_arming es (before ++ e ∷ []) (segment_step t e.wait_ns e.sent).0 u (arming_more before t h e made.0 runs.0) made.1 runs.1)

  -- behind arming it stays armed, by one of the first so many frames
  pub record IsArmedOn (most : ℕ) (es : List Exchange) (t : SegmentState) : Type 0 where
    pub on : IsOn es t
    pub stage : (v : Slave) → slice_get t.slaves p ≡ Some v → ArmedAt most (events es) v

  module _ (most frames : ℕ) (few_frames : frames ≤ frames_given s) where
    armed_more : (es : List Exchange) (t : SegmentState) → IsArmedOn most es t → (e : Exchange) → script (master_of s) (Run frames) es ≡ Send e.wait_ns e.sent → e.back ≡ (segment_step t e.wait_ns e.sent).1
        → IsArmedOn most (es ++ e ∷ []) (segment_step t e.wait_ns e.sent).0
    armed_more es t h e next back =
        let wanted = wants (master_of s) (Run frames) es e.wait_ns e.sent (some_kinds s legal) next in
        let words = (progress (master_of s) es).words in
        by wanted.step wanted.kind (ap (λ (f : FrameValue). f.datagrams) wanted.is ∙ sent_by (master_of s) words wanted.step)
      where
        by : (step : Step) → IsOf Running step → e.sent.datagrams ≡ datagrams_of (master_of s) (progress (master_of s) es).words step → IsArmedOn most (es ++ e ∷ []) (segment_step t e.wait_ns e.sent).0
        by (Drift k) kind sent =
            let r = reference_of (progress (master_of s) es).words in
            record {
              on = on_more es t h.on e (Run frames) next back few_frames (subst (AreMindful 0) (sym sent) (mindful_step (master_of s) (progress (master_of s) es).words (Drift k) tt));
              stage = kept_armed es t h.on e (Run frames) next back most
                  (far_quiet s legal p low is t (file es t h.on) e (early es t h.on) (subst (AreFar 0x0981 1) (sym sent) (drift_far r)) (subst (AreFar 0x0920 8) (sym sent) (drift_offset_far r))) h.stage;
            }
        by step kind sent = absurd kind

    pub walk_running : (es before : List Exchange) (t u : SegmentState) → IsArmedOn most before t → Sends (script (master_of s) (Run frames)) before es → Runs segment_step (Some t) es (Some u)
        → IsArmedOn most (before ++ es) u
    walk_running [] before t u h made runs = subst (λ es. IsArmedOn most es u) (sym (append-nil before)) (subst (IsArmedOn most before) (some_same (sym runs)) h)
    walk_running (e ∷ es) before t u h made runs =
        subst (λ xs. IsArmedOn most xs u) (append_assoc before (e ∷ []) es)
        (walk_running es (before ++ e ∷ []) (segment_step t e.wait_ns e.sent).0 u (armed_more before t h e made.0 runs.0) made.1 runs.1)
