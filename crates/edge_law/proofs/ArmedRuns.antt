-- The unit of each clock at the end of a run that was not refused.
use Rattle.std.proofs.Common.{◌≡◌, ℕ, ◌+◌, ◌*◌, ◌<◌, ◌≤◌, true, List, [], ◌++◌, length, Option, Some, None, Ok, Err, refl, sym, ap, subst, ◌∙◌, arith, inl, inr}
use Rattle.std.specs.Prelude.{option_map, slice_get}
use Rattle.std.specs.List.{AllByRecursion}
use Rattle.std.proofs.lemmas.List.{length-map}
use Rattle.copy_law.specs.Drawn.{arrives_at}
use Rattle.copy_law.specs.History.{clock_of, history_from}
use Rattle.copy_law.proofs.Exported.{file_first, file_step, has_there, running}
use Rattle.delay_law.specs.OfFile.{IsOfFile}
use Rattle.delay_law.specs.Resting.{row_there}
use Rattle.ecat_link.specs.Exchanges.{Exchange}
use Rattle.edge_law.specs.ArmedUnits.{IsArmedSince, unit_of}
use Rattle.edge_law.proofs.ArmingProgress.{Awaits, IsArm, all_arm, all_awaited}
use Rattle.edge_law.proofs.ArmingStep.{parts_there}
use Rattle.edge_law.proofs.ArmingVisit.{later_visit}
use Rattle.edge_law.proofs.ArmingWalk.{IsArmedOn, IsArming, walk_arming, walk_running}
use Rattle.esc_regs.specs.Kinds.{has_clock}
use Rattle.frame_pass.specs.Advancing.{advanced_to}
use Rattle.frame_pass.specs.SegmentState.{SegmentState, finished}
use Rattle.frame_pass.specs.SlaveState.{Slave, width}
use Rattle.frame_pass.proofs.Exported.{finished_at, sound_at}
use Rattle.honest_slaves.specs.FileSlaves.{kind_at, status_at}
use Rattle.honest_slaves.specs.Told.{AreInOrder, words_of}
use Rattle.honest_slaves.proofs.Exported.{IsHonest, had_before, low_where, settled_honest}
use Rattle.master_script.specs.Begins.{Begins}
use Rattle.master_script.specs.Config.{settle_frames}
use Rattle.master_script.specs.Progress.{Arming, Commissioning, Progress, progress}
use Rattle.master_script.specs.Script.{Answer, Arm as ArmCall, Run, script}
use Rattle.master_script.specs.Slaves.{clocks}
use Rattle.master_script.specs.Words.{Words, start_at}
use Rattle.master_script.specs.declared.step.Step.{Step}
use Rattle.master_script.proofs.Exported.{arm_sends}
use Rattle.run_counts.specs.Transmissions.{settling_sends}
use Rattle.run_counts.proofs.Exported.{Followed, HasGone, armed_sends, clocks_counted, ended, few_sent, followed, honest_replies, is_settled, off, on, settled_sends}
use Rattle.run_of_file.specs.Commissioned.{IsCommissioned, words_after}
use Rattle.run_of_file.specs.MasterOfFile.{master_of}
use Rattle.run_of_file.specs.RunOfFile.{RunEnd, armed, end_of_run, frames_given, ran, rounded_off, run_of, settled}
use Rattle.run_of_file.proofs.Exported.{kept_by_runs, ran_exchanges}
use Rattle.segment_file.specs.Segment.{SegmentValue, clocks as clocks_of}
use Rattle.segment_start.specs.Start.{started_segment}

some_same : {X : Type 0} {x y : X} → Some x ≡ Some y → x ≡ y
some_same e = cc

pub finished_many : (t : ℕ) (u : SegmentState) → length (finished t u).slaves ≡ length u.slaves
unfolding finished
finished_many t u = length-map u.slaves (advanced_to t)

settling_is : (s : SegmentValue) → settling_sends s ≡ settle_frames (master_of s)
unfolding master_of
settling_is s = refl

-- where arming begins all slaves are named, and the master was told of all
record KnowsAll (s : SegmentValue) (w : Words) (ss : List Slave) : Type 0 where
  told : w.slaves ≡ words_of (kind_at s) (status_at s) (length s.rows)
  named : AreInOrder (kind_at s) (status_at s) (length s.rows) (length s.rows) ss

knows_by : (s : SegmentValue) (r : ℕ) (p : Progress) (ss : List Slave) → IsHonest (kind_at s) (status_at s) (length s.rows) r p ss → p.refused ≡ None → p.phase ≡ Arming → KnowsAll s p.words ss
knows_by s r p ss (inl early) unrefused phase = absurd (let z : Commissioning ≡ Arming = sym early.phase ∙ phase in cc)
knows_by s r p ss (inr (inl late)) unrefused phase = record { told = late.knows.slaves; named = late.are }
knows_by s r p ss (inr (inr over)) unrefused phase = absurd (over.refused unrefused)

module _ (s : SegmentValue) (first before : RunEnd) (it : IsCommissioned s first) (was : settled s ≡ Some before) (p : ℕ) (is : has_clock (kind_at s p) ≡ true) (low : p < length s.rows) where
  abbrev w : Words
  w = words_after s before

  -- where arming begins, every clock waits for its Arm
  module _ (ok : before.answer ≡ Ok tt) where
    begins : Begins (master_of s) Arming (progress (master_of s) before.exchanges)
    begins = (is_settled s it.legal (honest_replies s it.legal) before was ok).begins.begins

    knows : KnowsAll s w before.state.slaves
    knows = knows_by s _ (progress (master_of s) before.exchanges) before.state.slaves (settled_honest s it.legal before was).honest begins.unrefused begins.phase_is

    first_arming : IsArming s it.legal p low is first w before.exchanges before.state
    first_arming =
        let c = is_settled s it.legal (honest_replies s it.legal) before was ok in
        let sends = settled_sends s it.legal (honest_replies s it.legal) first before it.is was ok in
        let same = settling_is s in
        record {
          on = record { scripted = c.led.scripted; runs = c.led.runs; named = knows.named; many = omega (arith, sends, same) };
          words = refl;
          steps = subst (AllByRecursion IsArm) (sym begins.todo) (all_arm (clocks w.slaves));
          stage = λ v there. inl (subst (Awaits p) (sym begins.todo) (all_awaited (kind_at s) (status_at s) (length s.rows) w.slaves knows.told p low is));
        }

    -- behind arming it was armed
    module _ (mid : RunEnd) (gone : HasGone s ArmCall before mid) (done : mid.answer ≡ Ok tt) where
      last_arming : IsArming s it.legal p low is first w mid.exchanges mid.state
      last_arming =
          subst (λ es. IsArming s it.legal p low is first w es mid.state) (sym gone.all)
          (walk_arming s it.legal p low is first w knows.told gone.more before.exchanges before.state mid.state first_arming gone.sends gone.runs)

      none_left : (progress (master_of s) mid.exchanges).todo ≡ []
      none_left =
          let end : script (master_of s) ArmCall (before.exchanges ++ gone.more) ≡ ended (Ok tt) = ap (script (master_of s) ArmCall) (sym gone.all) ∙ gone.end ∙ ap ended done in
          ap (λ (es : List Exchange). (progress (master_of s) es).todo) gone.all ∙ (arm_sends (master_of s) before.exchanges gone.more begins gone.sends end).0.todo

      awaits_none : (todo : List Step) → todo ≡ [] → Awaits p todo → ⊥
      awaits_none todo e h = subst (Awaits p) e h

      armed_then : IsArmedOn s it.legal p low is first w (length mid.exchanges) mid.exchanges mid.state
      armed_then = record {
        on = last_arming.on;
        stage = λ v there. elim (last_arming.stage v there) [
          | inl waits ↦ absurd (awaits_none (progress (master_of s) mid.exchanges).todo none_left waits)
          | inr now ↦ now
        ];
      }

      -- and so it stays while the master runs
      module _ (run : RunEnd) (goes : HasGone s (Run (frames_given s)) mid run) where
        pub armed_last : IsArmedOn s it.legal p low is first w (length mid.exchanges) run.exchanges run.state
        armed_last =
            subst (λ es. IsArmedOn s it.legal p low is first w (length mid.exchanges) es run.state) (sym goes.all)
            (walk_running s it.legal p low is first w (length mid.exchanges) (frames_given s) (omega arith) goes.more mid.exchanges mid.state run.state armed_then goes.sends goes.runs)

-- a phase behind those before it, where it ended with Ok
pub ran_parts : (s : SegmentValue) (run : RunEnd) → ran s ≡ Some run → run.answer ≡ Ok tt → (mid : RunEnd) × (armed s ≡ Some mid) × (mid.answer ≡ Ok tt) × HasGone s (Run (frames_given s)) mid run
unfolding ran
ran_parts s run is ok = let f = followed s (Run (frames_given s)) (armed s) run is in by f.0 f.1 f.2
  where
    by : (one : RunEnd) → armed s ≡ Some one → Followed s (Run (frames_given s)) one run → (mid : RunEnd) × (armed s ≡ Some mid) × (mid.answer ≡ Ok tt) × HasGone s (Run (frames_given s)) mid run
    by one is_one (off e told same) = absurd (let x : Ok tt ≡ Err e = sym ok ∙ ap (λ (r : RunEnd). r.answer) (sym same) ∙ told in cc)
    by one is_one (on done gone) = (one, is_one, done, gone)

pub armed_parts : (s : SegmentValue) (run : RunEnd) → armed s ≡ Some run → run.answer ≡ Ok tt → (before : RunEnd) × (settled s ≡ Some before) × (before.answer ≡ Ok tt) × HasGone s ArmCall before run
unfolding armed
armed_parts s run is ok = let f = followed s ArmCall (settled s) run is in by f.0 f.1 f.2
  where
    by : (one : RunEnd) → settled s ≡ Some one → Followed s ArmCall one run → (before : RunEnd) × (settled s ≡ Some before) × (before.answer ≡ Ok tt) × HasGone s ArmCall before run
    by one is_one (off e told same) = absurd (let x : Ok tt ≡ Err e = sym ok ∙ ap (λ (r : RunEnd). r.answer) (sym same) ∙ told in cc)
    by one is_one (on done gone) = (one, is_one, done, gone)

-- the whole run is that of its phases, and every slave has gone on to its end
pub whole_parts : (s : SegmentValue) (run : RunEnd) → run_of s ≡ Some run → run.answer ≡ Ok tt
    → (last : RunEnd) × (ran s ≡ Some last) × (last.answer ≡ Ok tt) × (record last { state = finished (end_of_run s last.state) last.state } ≡ run)
unfolding run_of
whole_parts s run is ok = by (ran s) refl is
  where
    by_answer : (last : RunEnd) → ran s ≡ Some last → (answer : Answer) → last.answer ≡ answer → rounded_off s last answer ≡ run
        → (one : RunEnd) × (ran s ≡ Some one) × (one.answer ≡ Ok tt) × (record one { state = finished (end_of_run s one.state) one.state } ≡ run)
    by_answer last e (Ok tt) told same = (last, e, told, same)
    by_answer last e (Err x) told same = absurd (let z : Ok tt ≡ Err x = sym ok ∙ ap (λ (r : RunEnd). r.answer) (sym same) ∙ told in cc)

    by : (o : Option RunEnd) → ran s ≡ o → option_map (λ (r : RunEnd). rounded_off s r r.answer) o ≡ Some run
        → (one : RunEnd) × (ran s ≡ Some one) × (one.answer ≡ Ok tt) × (record one { state = finished (end_of_run s one.state) one.state } ≡ run)
    by None e h = absurd (let z = h in cc)
    by (Some last) e h = by_answer last e last.answer refl (some_same h)

module _ (s : SegmentValue) (first before : RunEnd) (it : IsCommissioned s first) (was : settled s ≡ Some before) (p : ℕ) (is : has_clock (kind_at s p) ≡ true) where
  abbrev start : ℕ
  start = start_at (master_of s) (words_after s before)

  -- a clock that was armed so, in time
  record IsArmedThen (low : p < length s.rows) (run : RunEnd) : Type 0 where
    most : ℕ
    soon : most ≤ length first.exchanges + (settling_sends s + 3 * clocks_of s.rows)
    armed : IsArmedOn s it.legal p low is first (words_after s before) most run.exchanges run.state

  then_by : (low : p < length s.rows) (one mid run : RunEnd) → settled s ≡ Some one → one.answer ≡ Ok tt → HasGone s ArmCall one mid → armed s ≡ Some mid → mid.answer ≡ Ok tt → HasGone s (Run (frames_given s)) mid run
      → one ≡ before → IsArmedThen low run
  then_by low one mid run one_is ok gone mid_is done goes same =
      let most = (armed_sends s it.legal (honest_replies s it.legal) one mid one_is mid_is done).1 in
      let sends = settled_sends s it.legal (honest_replies s it.legal) first one it.is one_is ok in
      let settling = settling_is s in
      let counted = clocks_counted s it.legal in
      record {
        most = length mid.exchanges;
        soon = omega (arith, most, sends, settling, counted);
        armed = subst (λ (r : RunEnd). IsArmedOn s it.legal p low is first (words_after s r) (length mid.exchanges) run.exchanges run.state) same
            (armed_last s first one it one_is p is low ok mid gone done run goes);
      }

  armed_then_by : (low : p < length s.rows) (run : RunEnd) → ran s ≡ Some run → run.answer ≡ Ok tt → IsArmedThen low run
  armed_then_by low run run_is ok =
      let r = ran_parts s run run_is ok in
      let a = armed_parts s r.0 r.1 r.2 in
      then_by low a.0 r.0 run a.1 a.2 a.3 r.1 r.2 r.3 (some_same (sym a.1 ∙ was))

  low_there : (run : RunEnd) → ran s ≡ Some run → (v : Slave) → slice_get run.state.slaves p ≡ Some v → p < length s.rows
  low_there run run_is v there =
      let file = kept_by_runs (IsOfFile s) (file_step s it.legal) run.exchanges (started_segment s) run.state (ran_exchanges s run run_is) (file_first s it.legal) in
      let many = file.many in
      let within = low_where run.state.slaves p v there in
      omega (arith, many, within)

  pub ran_armed : (run : RunEnd) (v : Slave) → ran s ≡ Some run → run.answer ≡ Ok tt → slice_get run.state.slaves p ≡ Some v → IsArmedSince s first p start (history_from (started_segment s) run.exchanges p) v
  ran_armed run v run_is ok there =
      let low = low_there run run_is v there in
      let a = armed_then_by low run run_is ok in
      let at = a.armed.stage v there in
      let within = at.within in
      let soon = a.soon in
      record { frame = at.frame; behind = at.behind; soon = omega (arith, within, soon); calls = at.runs.calls; unit = at.runs.unit; copies = at.runs.copies }

  -- and at the end, to which every clock has gone on
  whole_by : (last : RunEnd) (v : Slave) → ran s ≡ Some last → last.answer ≡ Ok tt → slice_get (finished (end_of_run s last.state) last.state).slaves p ≡ Some v
      → IsArmedSince s first p start (history_from (started_segment s) last.exchanges p) v
  whole_by last v last_is ok there =
      let t = end_of_run s last.state in
      let within = low_where (finished t last.state).slaves p v there in
      let many = ap (λ (k : ℕ). k) (finished_many t last.state) in
      let v0 = had_before last.state.slaves p (omega (arith, within, many)) in
      let low = low_there last last_is v0.slave v0.is in
      let a = armed_then_by low last last_is ok in
      let on = a.armed.on in
      let file = kept_by_runs (IsOfFile s) (file_step s it.legal) last.exchanges (started_segment s) last.state on.runs (file_first s it.legal) in
      let parts = parts_there s it.legal p low is v0.slave (file.fixed p v0.slave v0.is) in
      let sound = sound_at last.state.round_trip last.state.free last.state.slaves p v0.slave file.sound v0.is in
      let few = few_sent s it.legal last.exchanges on.scripted in
      let history = has_there s it.legal p low is last.exchanges last.state (omega (arith, few)) on.runs v0.slave v0.is in
      let same : advanced_to t v0.slave ≡ v = some_same (sym (finished_at last.state t p ∙ ap (option_map (advanced_to t)) v0.is) ∙ there) in
      let at = a.armed.stage v0.slave v0.is in
      let most = at.within in
      let soon = a.soon in
      let r = later_visit (width (kind_at s p)) (clock_of (row_there s p)) (arrives_at s first at.frame p) s.head.cycles (unit_of s p start) (history_from (started_segment s) last.exchanges p) t v0.slave parts.timing
      (running s it.legal p low is) parts.is sound.size history at.runs in
      subst (λ (u : Slave). IsArmedSince s first p start (history_from (started_segment s) last.exchanges p) u) same
      (record { frame = at.frame; behind = at.behind; soon = omega (arith, most, soon); calls = r.calls; unit = r.unit; copies = r.copies })

  pub whole_armed : (run : RunEnd) (v : Slave) → run_of s ≡ Some run → run.answer ≡ Ok tt → slice_get run.state.slaves p ≡ Some v → IsArmedSince s first p start (history_from (started_segment s) run.exchanges p) v
  whole_armed run v run_is ok there =
      let l = whole_parts s run run_is ok in
      let there_before : slice_get (finished (end_of_run s l.0.state) l.0.state).slaves p ≡ Some v = ap (λ (r : RunEnd). slice_get r.state.slaves p) l.3 ∙ there in
      subst (λ (r : RunEnd). IsArmedSince s first p start (history_from (started_segment s) r.exchanges p) v) l.3 (whole_by l.0 v l.1 l.2 there_before)
