-- The edges of a whole run, and how far apart those of one index are.
use Rattle.std.proofs.Common.{◌≡◌, ℕ, ◌+◌, ◌*◌, ◌<◌, ◌≤◌, Bool, true, false, List, length, length-append, Option, Some, Ok, refl, sym, ap, subst, ◌∙◌, arith}
use Rattle.std.specs.Prelude.{IfSome, nat_le, option_map, slice_get}
use Rattle.std.proofs.lemmas.Bool.Decides.{nat_tests}
use Rattle.cable_tree.specs.Positions.{position_of}
use Rattle.copy_law.specs.Drawn.{arrives_at}
use Rattle.copy_law.specs.History.{history_from}
use Rattle.copy_law.proofs.Exported.{stands_behind, the_reference}
use Rattle.dc_bounds.specs.LockNumbers.{period_fs}
use Rattle.delay_law.specs.Resting.{row_there}
use Rattle.delay_law.proofs.Exported.{has_there}
use Rattle.ecat_link.specs.Exchanges.{Exchange}
use Rattle.edge_law.specs.ArmedUnits.{IsArmedSince}
use Rattle.edge_law.specs.RunEdges.{IsRaised}
use Rattle.edge_law.proofs.Ahead.{clock_measures}
use Rattle.edge_law.proofs.ArmedRuns.{armed_parts, finished_many, ran_parts, whole_armed, whole_parts}
use Rattle.edge_law.proofs.Edges.{edge_raised}
use Rattle.edge_law.proofs.Raised.{whole_behind}
use Rattle.edge_law.proofs.ToldStart.{knows_time, start_told}
use Rattle.edge_report.specs.Edges.{HasSignal}
use Rattle.esc_regs.specs.Kinds.{has_clock}
use Rattle.frame_pass.specs.Advancing.{advanced_to, measuring_at, ticked_to}
use Rattle.frame_pass.specs.SegmentState.{finished, leaves_at}
use Rattle.frame_pass.specs.SlaveState.{Measuring, Slave, Timing, on_measuring_of}
use Rattle.frame_pass.proofs.Exported.{finished_at, sound_at}
use Rattle.honest_slaves.specs.FileSlaves.{kind_at}
use Rattle.honest_slaves.proofs.Exported.{had_before, low_where}
use Rattle.master_script.specs.Words.{start_at}
use Rattle.run_counts.specs.Transmissions.{settling_sends}
use Rattle.run_counts.proofs.Exported.{armed_sends, clocks_counted, honest_replies, ran_drifted, ran_sends}
use Rattle.run_of_file.specs.Commissioned.{IsCommissioned, words_after}
use Rattle.run_of_file.specs.MasterOfFile.{master_of}
use Rattle.run_of_file.specs.RunOfFile.{RunEnd, end_of_run, frames_given, ran, run_of, settled}
use Rattle.segment_file.specs.Segment.{SegmentValue, clocks, tree_rows}
use Rattle.segment_file.proofs.Exported.{legal_reference}
use Rattle.segment_start.specs.Start.{started_segment}
use Rattle.sync_units.specs.declared.edge.Signal.{Signal}

some_same : {X : Type 0} {x y : X} → Some x ≡ Some y → x ≡ y
some_same e = cc

said : (P : Timing → Type 0) (o : Option Timing) (m : Timing) → o ≡ Some m → IfSome o P → P m
said P o m e h = subst (λ (x : Option Timing). IfSome x P) e h

-- a clock that has gone on to t stands there
stands_there : (t : ℕ) (m : Measuring) → m.timing.clock.instant ≤ t → (measuring_at t m).timing.clock.instant ≡ t
unfolding measuring_at ticked_to
stands_there t m early = by (nat_le m.timing.clock.instant t) refl
  where
    by : (b : Bool) → nat_le m.timing.clock.instant t ≡ b → (measuring_at t m).timing.clock.instant ≡ t
    by true e = rw e refl
    by false e = absurd (let late : t < m.timing.clock.instant = grind (arith, nat_tests, e) in omega (arith, late, early))

goes_on : (t : ℕ) (u v : Slave) (n m : Timing) → u.timing ≡ Some n → n.clock.instant ≤ t → advanced_to t u ≡ v → v.timing ≡ Some m → m.clock.instant ≡ t
unfolding advanced_to
goes_on t u v n m has early same reads =
    let there : v.timing ≡ Some (measuring_at t (record { registers = u.registers; timing = n })).timing =
    ap (λ (x : Slave). x.timing) (sym same) ∙ ap (λ (o : Option Timing). (on_measuring_of (measuring_at t) u o).timing) has in
    ap (λ (x : Timing). x.clock.instant) (some_same (sym reads ∙ there)) ∙ stands_there t (record { registers = u.registers; timing = n }) early

-- and goes on counting
advanced_counts : (t : ℕ) (u v : Slave) (n : Timing) → u.timing ≡ Some n → advanced_to t u ≡ v → (m : Timing) × (v.timing ≡ Some m)
unfolding advanced_to
advanced_counts t u v n has same = (
  (measuring_at t (record { registers = u.registers; timing = n })).timing,
  ap (λ (x : Slave). x.timing) (sym same) ∙ ap (λ (o : Option Timing). (on_measuring_of (measuring_at t) u o).timing) has,
)

-- the clock of a slave at the end of a whole run
pub timing_there : (s : SegmentValue) (first run : RunEnd) (it : IsCommissioned s first) → run_of s ≡ Some run → run.answer ≡ Ok tt → (p : ℕ) → has_clock (kind_at s p) ≡ true → (v : Slave)
    → slice_get run.state.slaves p ≡ Some v → (m : Timing) × (v.timing ≡ Some m)
timing_there s first run it run_is ok p is v there =
    let l = whole_parts s run run_is ok in
    let d = ran_drifted s it.legal first l.0 it.is l.1 in
    let stands = stands_behind s it.legal (length d.more) l.0.state (whole_behind s first l.0 it l.1) in
    let t = end_of_run s l.0.state in
    let many = finished_many t l.0.state in
    let whole = ap (λ (x : RunEnd). length x.state.slaves) l.3 in
    let within = low_where run.state.slaves p v there in
    let u = had_before l.0.state.slaves p (omega (arith, many, whole, within)) in
    let n = has_there s it.legal p u.slave (stands.file.fixed p u.slave u.is) (clock_measures (kind_at s p) is) in
    advanced_counts t u.slave v n.timing n.is (some_same (sym (finished_at l.0.state t p ∙ ap (option_map (advanced_to t)) u.is) ∙ ap (λ (x : RunEnd). slice_get x.state.slaves p) l.3 ∙ there))

module _ (s : SegmentValue) (first last run : RunEnd) (it : IsCommissioned s first) (last_is : ran s ≡ Some last) (goes : record last { state = finished (end_of_run s last.state) last.state } ≡ run)
    (p : ℕ) (low : p < length s.rows) (is : has_clock (kind_at s p) ≡ true) (v : Slave) (there : slice_get run.state.slaves p ≡ Some v) (m : Timing) (has : v.timing ≡ Some m) where
  pub ends_now : m.clock.instant ≡ (length last.exchanges + 1) * period_fs s.head.frame_ns
  ends_now =
      let d = ran_drifted s it.legal first last it.is last_is in
      let stands = stands_behind s it.legal (length d.more) last.state (whole_behind s first last it last_is) in
      let t = end_of_run s last.state in
      let many = stands.file.many in
      let u = had_before last.state.slaves p (omega (arith, many, low)) in
      let n = has_there s it.legal p u.slave (stands.file.fixed p u.slave u.is) (clock_measures (kind_at s p) is) in
      let time = said (λ (x : Timing). x.clock.instant ≤ last.state.free) u.slave.timing n.timing n.is (sound_at last.state.round_trip last.state.free last.state.slaves p u.slave stands.file.sound u.is).time in
      let free : last.state.free ≤ leaves_at last.state s.head.frame_ns = omega arith in
      let next = stands.next in
      let sent = stands.sent in
      let parts = length-append first.exchanges d.more in
      let whole = ap (λ (es : List Exchange). length es) d.all in
      let count : last.state.sent + 1 ≡ length first.exchanges + (length d.more + 1) = omega (arith, sent) in
      let at = ap (λ (x : ℕ). x * period_fs s.head.frame_ns) count in
      let same : advanced_to t u.slave ≡ v =
      some_same (sym (finished_at last.state t p ∙ ap (option_map (advanced_to t)) u.is) ∙ ap (λ (x : RunEnd). slice_get x.state.slaves p) goes ∙ there) in
      let all : last.state.sent + 1 ≡ length last.exchanges + 1 = omega (arith, sent, parts, whole) in
      goes_on t u.slave v n.timing m n.is (omega (arith, time, free, next, at)) same has ∙ ap (λ (x : ℕ). x * period_fs s.head.frame_ns) all

-- A whole run that was not refused.
module _ (s : SegmentValue) (first before run : RunEnd) (it : IsCommissioned s first) (settled_is : settled s ≡ Some before) (run_is : run_of s ≡ Some run) (ok : run.answer ≡ Ok tt) where
  pub record IsWholeRun : Type 0 where
    pub last : RunEnd
    pub last_is : ran s ≡ Some last
    pub goes : record last { state = finished (end_of_run s last.state) last.state } ≡ run
    pub before_ok : before.answer ≡ Ok tt
    pub longer : clocks s.rows + (length before.exchanges + frames_given s) ≤ length last.exchanges

  pub parts : IsWholeRun
  parts =
      let l = whole_parts s run run_is ok in
      let r = ran_parts s l.0 l.1 l.2 in
      let a = armed_parts s r.0 r.1 r.2 in
      let same : a.0 ≡ before = some_same (sym a.1 ∙ settled_is) in
      let honest = honest_replies s it.legal in
      let least = (armed_sends s it.legal honest a.0 r.0 a.1 r.1 r.2).0 in
      let more = ran_sends s it.legal honest r.0 l.0 r.1 l.1 l.2 in
      let counted = clocks_counted s it.legal in
      let sent = ap (λ (x : RunEnd). length x.exchanges) same in
      record {
        last = l.0;
        last_is = l.1;
        goes = l.3;
        before_ok = subst (λ (x : RunEnd). x.answer ≡ Ok tt) same a.2;
        longer = omega (arith, least, more, counted, sent);
      }

  abbrev pub start : ℕ
  start = start_at (master_of s) (words_after s before)

  abbrev pub end : ℕ
  end = (length run.exchanges + 1) * period_fs s.head.frame_ns

  all : run.exchanges ≡ parts.last.exchanges
  all = ap (λ (x : RunEnd). x.exchanges) (sym parts.goes)

  -- where and when an edge is raised
  module _ (p : ℕ) (is : has_clock (kind_at s p) ≡ true) (v : Slave) (there : slice_get run.state.slaves p ≡ Some v) (m : Timing) (has : v.timing ≡ Some m) (signal : Signal) (signals : HasSignal (row_there s p) signal)
      (k : ℕ) (early : k < s.head.cycles) where
    pub record IsEdgeOf : Type 0 where
      pub frame : ℕ
      pub behind : settling_sends s < frame
      pub instant : ℕ
      pub raised : IsRaised s (words_after s first) p signal start k (arrives_at s first frame p) end instant (history_from (started_segment s) run.exchanges p) m.edges.edges

    pub is_low : p < length s.rows
    is_low =
        let d = ran_drifted s it.legal first parts.last it.is parts.last_is in
        let stands = stands_behind s it.legal (length d.more) parts.last.state (whole_behind s first parts.last it parts.last_is) in
        let many = stands.file.many in
        let state = finished_many (end_of_run s parts.last.state) parts.last.state in
        let same = ap (λ (x : RunEnd). length x.state.slaves) parts.goes in
        let within = low_where run.state.slaves p v there in
        omega (arith, many, state, same, within)

    pub edge_of_run : IsEdgeOf
    edge_of_run =
        let r = position_of (tree_rows s.rows) (legal_reference s it.legal).0 in
        let reference = the_reference s it.legal in
        let w = parts in
        let knows = knows_time s first it r reference before settled_is w.before_ok in
        let told = start_told s first it r reference before settled_is w.before_ok knows in
        let armed = whole_armed s first before it settled_is p is run v run_is ok there in
        let behind = armed.behind in
        let soon = armed.soon in
        let longer = w.longer in
        let enough : length before.exchanges + 1 + frames_given s ≤ length w.last.exchanges = omega (arith, behind, soon, longer) in
        by armed.frame armed.behind
        (edge_raised s first before w.last run it settled_is w.before_ok w.last_is run_is all enough r reference p is_low is v there m has (ends_now s first w.last run it w.last_is w.goes p is_low is v there m has) knows
        (subst (λ (x : ℕ). IsArmedSince s first p x (history_from (started_segment s) run.exchanges p) v) told armed) signal signals k early)
        told
      where
        by : {x : ℕ} → (frame : ℕ) → settling_sends s < frame
            → (u : ℕ) × IsRaised s (words_after s first) p signal x k (arrives_at s first frame p) ((length parts.last.exchanges + 1) * period_fs s.head.frame_ns) u (history_from (started_segment s) run.exchanges p) m.edges.edges
            → start ≡ x → IsEdgeOf
        by {x} frame behind raised told = record {
          frame = frame;
          behind = behind;
          instant = raised.0;
          raised = subst (λ (es : List Exchange). IsRaised s (words_after s first) p signal start k (arrives_at s first frame p) ((length es + 1) * period_fs s.head.frame_ns) raised.0
              (history_from (started_segment s) run.exchanges p) m.edges.edges) (sym all)
              (subst (λ (y : ℕ). IsRaised s (words_after s first) p signal y k (arrives_at s first frame p) ((length parts.last.exchanges + 1) * period_fs s.head.frame_ns) raised.0
              (history_from (started_segment s) run.exchanges p) m.edges.edges) (sym told) raised.1);
        }
