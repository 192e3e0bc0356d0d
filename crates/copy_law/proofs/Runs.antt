-- The commissioning of a legal file, exchange by exchange.
use Rattle.std.proofs.Common.{◌≡◌, ◌≢◌, ℕ, ◌≤◌, ◌+◌, ◌*◌, ◌^◌, ◌<◌, ◌⊎◌, Bool, true, false, List, [], ◌∷◌, ◌++◌, length, map, Some, None, Ok, refl, sym, subst, ◌∙◌, append_assoc, arith, inl, inr}
use Rattle.std.specs.Prelude.{slice_get}
use Rattle.std.specs.List.{AllByRecursion}
use Rattle.std.proofs.Math.Nat.{mod-eq_of_lt, mod-lt}
use Rattle.std.proofs.lemmas.List.{append-nil}
use Rattle.std.proofs.lemmas.Nat.{pow_pos}
use Rattle.ecat_frame.specs.FrameGrammar.{FrameValue}
use Rattle.ecat_link.specs.Exchanges.{Exchange, Runs}
use Rattle.ecat_link.specs.Serves.{Send, Sends}
use Rattle.ecat_link.proofs.Exported.{driven}
use Rattle.esc_regs.specs.RegisterTable.{is_wide}
use Rattle.segment_file.specs.Legal.{IsLegal}
use Rattle.segment_file.specs.Segment.{SegmentValue, clock_at, row_at}
use Rattle.esc_regs.specs.Kinds.{has_clock}
use Rattle.segment_start.specs.Start.{slave_of, started_segment}
use Rattle.segment_start.proofs.Exported.{as_many, stands_at}
use Rattle.frame_pass.specs.Reach.{reach_of}
use Rattle.frame_pass.specs.SegmentState.{SegmentState, segment_step}
use Rattle.frame_pass.specs.SlaveState.{Slave}
use Rattle.master_script.specs.Config.{ConfigValue}
use Rattle.master_script.specs.Frames.{set_datagrams, width as bytes_by}
use Rattle.master_script.specs.Progress.{Commissioning, Progress, after, asked_by, counted, later_steps, progress}
use Rattle.master_script.specs.Script.{Commission, script}
use Rattle.master_script.specs.Slaves.{clocks}
use Rattle.master_script.specs.Steps.{datagrams_of}
use Rattle.master_script.specs.Words.{Words, delay_at, offset_at, wide_at}
use Rattle.master_script.specs.declared.step.Step.{Step}
use Rattle.master_script.specs.declared.step.Step.TheVariants.{Count, Identify, Rate, Latch as LatchStep, Times, Set}
use Rattle.master_script.proofs.Exported.{progress_push}
use Rattle.honest_slaves.proofs.Exported.{had_before, low_where, same_many, mindful_step, IsLate, row_has, came_back}
use Rattle.honest_slaves.specs.Told.{IsMeant}
use Rattle.honest_slaves.specs.FileSlaves.{kind_at, status_at}
use Rattle.run_of_file.specs.MasterOfFile.{master_of}
use Rattle.run_of_file.specs.RunOfFile.{RunEnd, commissioned, turns}
use Rattle.delay_law.specs.Far.{AreFar}
use Rattle.delay_law.proofs.Exported.{at_end, late as late_at_end, latched, IsFirst, IsJudged, IsLatched, IsMeasuring, IsOpen, IsUnjudged, first_asked, rate_asked, reading_steps, wide_told, IsAsked, IsOnWay, after_is, asks, first_clock, late_of, phase, sends_step, starts, unrefused, walk}
use Rattle.copy_law.specs.HeldOffsets.{AreSet, HoldsSet}
use Rattle.copy_law.proofs.Delays.{delay_few}
use Rattle.copy_law.proofs.Frames.{AreHeldOn, IsBefore, before_held, far_before, others_held, own_delay, own_offset}
use Rattle.copy_law.proofs.Registers.{none_first, set_on}
use Rattle.copy_law.proofs.Setting.{HoldsWritten, IsSet, IsSetBy, IsSetting, IsUnset, begins_setting, gone, latch_asked, set_asked, still, times_asked}

some_same : {X : Type 0} {x y : X} → Some x ≡ Some y → x ≡ y
some_same e = cc

-- an offset is a word of its clock
offset_fits : (cfg : ConfigValue) (w : Words) (q : ℕ) → offset_at cfg w q < 2 ^ (8 * bytes_by (wide_at w q))
offset_fits cfg w q = mod-lt _ (pow_pos (8 * bytes_by (wide_at w q)))

first_before : (step : Step) → IsFirst step → IsBefore step
first_before Count h = tt
first_before (Identify p) h = tt
first_before step h = absurd h

module _ (s : SegmentValue) (legal : IsLegal s) where
  abbrev cfg : ConfigValue
  cfg = master_of s

  abbrev n : ℕ
  n = length s.rows

  -- what holds of the exchanges so far and the state in which they leave the segment
  record IsOn (es : List Exchange) (t : SegmentState) : Type 0 where
    way : IsOnWay s legal es t
    setting : IsUnset n (progress cfg es) t.slaves ⊎ IsSetting (kind_at s) cfg (progress cfg es) t.slaves

  -- one exchange
  module _ (es : List Exchange) (t : SegmentState) (e : Exchange) (way : IsOnWay s legal es t) (next : script cfg Commission es ≡ Send e.wait_ns e.sent) (back : e.back ≡ (segment_step t e.wait_ns e.sent).1) where
    abbrev p : Progress
    p = progress cfg es

    abbrev u : SegmentState
    u = (segment_step t e.wait_ns e.sent).0

    unrefused_here : p.refused ≡ None
    unrefused_here = unrefused s legal es t e way next back

    phase_here : p.phase ≡ Commissioning
    phase_here = phase s legal es t e way next back

    after_step : (step : Step) (rest : List Step) → p.todo ≡ step ∷ rest → after cfg p e ≡ asked_by cfg (counted p e.back) step rest e.sent e.back
    after_step = after_is s legal es t e way next back

    sends : (step : Step) (rest : List Step) → p.todo ≡ step ∷ rest → e.sent.datagrams ≡ datagrams_of cfg p.words step
    sends = sends_step s legal es t e way next back

    many : length u.slaves ≡ length t.slaves
    many = same_many t e.wait_ns e.sent

    late : (x : ℕ) → p.words.reference ≡ Some x → IsLate (kind_at s) (status_at s) n (first_clock s legal) p t.slaves
    late x is = late_of s legal p t.slaves x way.honest unrefused_here is

    -- before Set nothing is written
    none_after : (step : Step) (rest : List Step) → p.todo ≡ step ∷ rest → IsBefore step → ((q : ℕ) (v : Slave) → slice_get t.slaves q ≡ Some v → HoldsSet 0 0 v.registers)
        → (q : ℕ) (v : Slave) → slice_get u.slaves q ≡ Some v → HoldsSet 0 0 v.registers
    none_after step rest are before none q w there =
        let far : (at n : ℕ) → 0x0920 ≤ at → at + n ≤ 0x092C → AreFar at n e.sent.datagrams = λ at n low high. subst (AreFar at n) (sym (sends step rest are)) (far_before at n low high cfg p.words step before) in
        let within = low_where u.slaves q w there in
        let same = many in
        let v = had_before t.slaves q (omega (arith, same, within)) in
        set_on 0 0 v.slave w (before_held t way.sound e.wait_ns e.sent (far 0x0920 8 (omega arith) (omega arith)) (far 0x0928 4 (omega arith) (omega arith)) q v.slave w tt v.is there) (none q v.slave v.is)

    -- the frame of Set, of a step that is asked
    module _ (x r : ℕ) (is : p.words.reference ≡ Some x) (rest : List Step) (are : p.todo ≡ Set r ∷ rest) where
      meant : AllByRecursion (IsMeant (kind_at s) n) (Set r ∷ rest)
      meant = subst (AllByRecursion (IsMeant (kind_at s) n)) are (late x is).todo

      low : r < n
      low = meant.0.0

      clock : has_clock (kind_at s r) ≡ true
      clock = meant.0.1

      sets : e.sent.datagrams ≡ set_datagrams r (wide_at p.words r) (offset_at cfg p.words r) (delay_at cfg p.words r)
      sets = sends (Set r) rest are

      wide_is : wide_at p.words r ≡ is_wide (kind_at s r)
      wide_is = wide_told (kind_at s) (status_at s) n p.words r (late x is).knows.slaves low

      held : AreHeldOn (λ q. q ≢ r) t.slaves u.slaves
      held = others_held t way.sound e.wait_ns e.sent (kind_at s) (status_at s) n (late x is).are r (wide_at p.words r) (offset_at cfg p.words r) (delay_at cfg p.words r) sets

      own : (g : FrameValue) → e.back ≡ Some g → (w : Slave) → slice_get u.slaves r ≡ Some w → HoldsWritten cfg p.words r w.registers
      own g came w there =
          let b = came_back t e.wait_ns e.sent g (sym back ∙ came) in
          let reach = b.reach in
          let as_many = way.many in
          let reached : r < reach_of t e.sent = (let l = low in omega (arith, reach, as_many, l)) in
          record {
            offset_is = own_offset t way.sound e.wait_ns e.sent (kind_at s) (status_at s) n (late x is).are r (wide_at p.words r) (offset_at cfg p.words r) (delay_at cfg p.words r) sets clock wide_is
                (offset_fits cfg p.words r) (mindful_step cfg p.words (Set r) tt) b.early reached w there;
            delay_is = own_delay t way.sound e.wait_ns e.sent (kind_at s) (status_at s) n (late x is).are r (wide_at p.words r) (offset_at cfg p.words r) (delay_at cfg p.words r) sets clock wide_is
                (offset_fits cfg p.words r) (mindful_step cfg p.words (Set r) tt) b.early reached w there;
          }

    asked_here : IsAsked cfg p e.sent p.todo
    asked_here = asks s legal es t e way next back

    abbrev Next : Progress → Type 0
    Next q = IsUnset n q u.slaves ⊎ IsSetting (kind_at s) cfg q u.slaves

    set_step : (h : IsSetting (kind_at s) cfg p t.slaves) → (r : ℕ) (rest : List Step) → p.todo ≡ Set r ∷ rest → IsSetting (kind_at s) cfg (after cfg p e) u.slaves
    set_step h r rest are =
        let x = h.reference in
        let is = h.is in
        let each : (q : ℕ) (v : Slave) → slice_get t.slaves q ≡ Some v → IsSetBy cfg p.words q (Set r ∷ rest) v.registers (has_clock (kind_at s q)) =
        λ q v there. subst (λ todo. IsSetBy cfg p.words q todo v.registers (has_clock (kind_at s q))) are (h.each q v there) in
        let all : AllByRecursion IsSet (Set r ∷ rest) = subst (AllByRecursion IsSet) are h.todo in
        subst (λ z. IsSetting (kind_at s) cfg z u.slaves) (sym (after_step (Set r) rest are))
        (set_asked cfg (kind_at s) u.slaves (counted p e.back) x r rest e.sent e.back phase_here is are all.1
        (still cfg (kind_at s) u.slaves t.slaves many p.words r rest (clock x r is rest are) (held x r is rest are) each)
        (λ g came. gone cfg (kind_at s) u.slaves t.slaves many p.words r rest (clock x r is rest are) (held x r is rest are) each (own x r is rest are g came)))

    setting_on : IsSetting (kind_at s) cfg p t.slaves → IsSetting (kind_at s) cfg (after cfg p e) u.slaves
    setting_on h = by asked_here.step asked_here.are (let all : AllByRecursion IsSet (asked_here.step ∷ asked_here.rest) = subst (AllByRecursion IsSet) asked_here.are h.todo in all.0)
      where
        by : (step : Step) → p.todo ≡ step ∷ asked_here.rest → IsSet step → IsSetting (kind_at s) cfg (after cfg p e) u.slaves
        by (Set r) are is = set_step h r asked_here.rest are
        by step are is = absurd is

    low_there : (q : ℕ) (v : Slave) → slice_get t.slaves q ≡ Some v → q < n
    low_there q v there = let within = low_where t.slaves q v there in let as_many = way.many in omega (arith, within, as_many)

    reading_on : ((q : ℕ) (v : Slave) → slice_get t.slaves q ≡ Some v → HoldsSet 0 0 v.registers) → (x : ℕ) → p.words.reference ≡ Some x → (left : List ℕ) → p.todo ≡ map Times left ++ map Set (clocks p.words.slaves)
        → Next (after cfg p e)
    reading_on none x is [] are = inr (setting_on (begins_setting (kind_at s) (status_at s) n p.words.slaves (late x is).knows.slaves cfg p t.slaves x is are low_there none))
    reading_on none x is (r ∷ left) are =
        let rest = map Times left ++ map Set (clocks p.words.slaves) in
        subst Next (sym (after_step (Times r) rest are))
        (inl (record { none = none_after (Times r) rest are tt none; stage = inr (times_asked cfg (counted p e.back) x r left e.sent e.back phase_here is are) }))

    judged_on : ((q : ℕ) (v : Slave) → slice_get t.slaves q ≡ Some v → HoldsSet 0 0 v.registers) → IsOpen n p → (j : IsJudged p) → (p.todo ≡ later_steps p.words.slaves) ⊎ (p.todo ≡ LatchStep ∷ reading_steps p.words.slaves)
        → Next (after cfg p e)
    judged_on none opened j (inl are) =
        let rest = LatchStep ∷ reading_steps p.words.slaves in
        subst Next (sym (after_step Rate rest are))
        (inl (record { none = none_after Rate rest are tt none; stage = inl (rate_asked n cfg (counted p e.back) j.reference e.sent e.back opened.latches j.is are) }))
    judged_on none opened j (inr are) =
        let rest = reading_steps p.words.slaves in
        subst Next (sym (after_step LatchStep rest are))
        (inl (record { none = none_after LatchStep rest are tt none; stage = latch_asked cfg n (counted p e.back) j.reference e.sent e.back phase_here opened.latches j.is are }))

    open_on : ((q : ℕ) (v : Slave) → slice_get t.slaves q ≡ Some v → HoldsSet 0 0 v.registers) → IsOpen n p → IsUnjudged p ⊎ IsJudged p → Next (after cfg p e)
    open_on none opened (inl first) =
        let step = asked_here.step in
        let rest = asked_here.rest in
        let are = asked_here.are in
        let firsts : AllByRecursion IsFirst (step ∷ rest) = subst (AllByRecursion IsFirst) are first.todo in
        subst Next (sym (after_step step rest are))
        (inl (record {
          none = none_after step rest are (first_before step firsts.0) none;
          stage = inl (first_asked n cfg (counted p e.back) step rest e.sent e.back phase_here opened.latches (record { reference = first.reference; todo = first.todo }) are);
        }))
    open_on none opened (inr judged) = judged_on none opened judged judged.todo

    next_by : IsUnset n p t.slaves ⊎ IsSetting (kind_at s) cfg p t.slaves → Next (after cfg p e)
    next_by (inl unset) =
        elim (unset.stage) [
          | inl opened ↦ open_on unset.none opened opened.stage
          | inr reading ↦ reading_on unset.none reading.reference reading.is reading.left reading.todo
        ]
    next_by (inr setting) = inr (setting_on setting)

    on_more : IsUnset n p t.slaves ⊎ IsSetting (kind_at s) cfg p t.slaves → IsOn (es ++ e ∷ []) u
    on_more h = record { way = walk s legal (e ∷ []) es t u way (next, tt) (back, refl); setting = subst Next (sym (progress_push cfg es e)) (next_by h) }

  -- all exchanges of a commissioning
  walk_on : (es before : List Exchange) (t u : SegmentState) → IsOn before t → Sends (script cfg Commission) before es → Runs segment_step (Some t) es (Some u) → IsOn (before ++ es) u
  walk_on [] before t u h sends runs = subst (λ es. IsOn es u) (sym (append-nil before)) (subst (IsOn before) (some_same (sym runs)) h)
  walk_on (e ∷ es) before t u h sends runs =
      subst (λ xs. IsOn xs u) (append_assoc before (e ∷ []) es)
      (walk_on es (before ++ e ∷ []) (segment_step t e.wait_ns e.sent).0 u (on_more before t e h.way sends.0 runs.0 h.setting) sends.1 runs.1)

  -- at the start
  pub all_none_first : (q : ℕ) (v : Slave) → slice_get (started_segment s).slaves q ≡ Some v → HoldsSet 0 0 v.registers
  unfolding slave_of
  all_none_first q v is =
      let within = low_where (started_segment s).slaves q v is in
      let many = as_many s legal in
      let same : slave_of s (row_at s q) ≡ v = some_same (sym (stands_at s q legal (omega (arith, within, many))) ∙ is) in
      subst (λ (x : Slave). HoldsSet 0 0 x.registers) same (none_first (kind_at s q) (status_at s q))

  open_first : IsMeasuring s (progress cfg []) (started_segment s).slaves → IsOpen n (progress cfg [])
  unfolding progress
  open_first (inl opened) = opened
  open_first (inr latched) = absurd (let z : None ≡ Some latched.reference = latched.is in cc)

  starts_on : IsOn [] (started_segment s)
  starts_on = record { way = starts s legal; setting = inl (record { none = all_none_first; stage = inl (open_first (starts s legal).measuring) }) }

  -- at the end of a commissioning that ended with Ok
  module _ (run : RunEnd) (is : commissioned s ≡ Some run) (ok : run.answer ≡ Ok tt) where
    abbrev last : Progress
    last = progress cfg run.exchanges

    on_at_end : IsOn run.exchanges run.state
    unfolding commissioned
    on_at_end =
        let d = driven segment_step (script cfg Commission) turns [] (started_segment s) run is in
        subst (λ es. IsOn es run.state) (sym d.all) (walk_on d.more [] (started_segment s) run.state starts_on d.script d.runs)

    is_latched : IsLatched s last run.state.slaves
    is_latched = latched s legal run is ok

    none_left : last.todo ≡ []
    none_left = at_end s legal run is ok

    late_then : IsLate (kind_at s) (status_at s) n (first_clock s legal) last run.state.slaves
    late_then = late_at_end s legal run is ok

    low_then : (q : ℕ) (v : Slave) → slice_get run.state.slaves q ≡ Some v → q < n
    low_then q v there = let within = low_where run.state.slaves q v there in let many = on_at_end.way.many in omega (arith, within, many)

    open_never : IsOpen n last → ⊥
    open_never opened = by opened.stage
      where
        by : IsUnjudged last ⊎ IsJudged last → ⊥
        by (inl first) = let z : None ≡ Some is_latched.reference = sym first.reference ∙ is_latched.is in cc
        by (inr judged) =
            elim (judged.todo) [
              | inl are ↦ absurd (let z = sym none_left ∙ are in cc)
              | inr are ↦ absurd (let z = sym none_left ∙ are in cc)
            ]

    read_then : ((q : ℕ) (v : Slave) → slice_get run.state.slaves q ≡ Some v → HoldsSet 0 0 v.registers) → (x : ℕ) → last.words.reference ≡ Some x → (left : List ℕ) → last.todo ≡ map Times left ++ map Set (clocks last.words.slaves)
        → IsSetting (kind_at s) cfg last run.state.slaves
    read_then none x at [] are = begins_setting (kind_at s) (status_at s) n last.words.slaves late_then.knows.slaves cfg last run.state.slaves x at are low_then none
    read_then none x at (r ∷ left) are = absurd (let z = sym none_left ∙ are in cc)

    set_then : IsUnset n last run.state.slaves ⊎ IsSetting (kind_at s) cfg last run.state.slaves → IsSetting (kind_at s) cfg last run.state.slaves
    set_then (inl unset) =
        elim (unset.stage) [
          | inl opened ↦ absurd (open_never opened)
          | inr reading ↦ read_then unset.none reading.reference reading.is reading.left reading.todo
        ]
    set_then (inr setting) = setting

    set_at_end : IsSetting (kind_at s) cfg last run.state.slaves
    set_at_end = set_then on_at_end.setting

    each_at_end : (q : ℕ) (v : Slave) → slice_get run.state.slaves q ≡ Some v → IsSetBy cfg last.words q [] v.registers (clock_at s.rows (row_at s q))
    each_at_end q v there =
        subst (λ b. IsSetBy cfg last.words q [] v.registers b) (row_has has_clock s legal q (low_then q v there))
        (subst (λ todo. IsSetBy cfg last.words q todo v.registers (has_clock (kind_at s q))) none_left (set_at_end.each q v there))

    clock_by : (q : ℕ) (v : Slave) (b : Bool) → b ≡ true → IsSetBy cfg last.words q [] v.registers b → HoldsWritten cfg last.words q v.registers
    clock_by q v true e (inr own) = own
    clock_by q v true e (inl waits) = absurd waits
    clock_by q v false e h = absurd (let z = e in cc)

    other_by : (q : ℕ) (v : Slave) (b : Bool) → b ≡ false → IsSetBy cfg last.words q [] v.registers b → HoldsSet 0 0 v.registers
    other_by q v true e h = absurd (let z = e in cc)
    other_by q v false e none = none

    pub commissioned_set : AreSet s last.words run.state.slaves
    commissioned_set = record {
      clocks = λ q v there clock.
          let written = clock_by q v (clock_at s.rows (row_at s q)) clock (each_at_end q v there) in
          record { offset_is = written.offset_is; delay_is = written.delay_is ∙ mod-eq_of_lt (delay_few s legal run is ok q (low_then q v there)) };
      others = λ q v there not. other_by q v (clock_at s.rows (row_at s q)) not (each_at_end q v there);
    }
