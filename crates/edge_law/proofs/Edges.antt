-- The edges of a run: each is kept, and was raised where the copy of its clock had come to what was due.
use Rattle.std.proofs.Common.{◌≡◌, ℕ, zero, suc, ◌+◌, ◌*◌, ◌%◌, ◌^◌, ◌<◌, ◌≤◌, true, List, [], ◌∷◌, length, Option, Some, None, Ok, refl, ap, subst, ◌∙◌, arith}
use Rattle.std.specs.Prelude.{IfSome, IsSome, slice_get, take, unwrap_or}
use Rattle.std.proofs.lemmas.List.Elements.{All-get_or}
use Rattle.std.proofs.Math.Nat.{mod-lt, mul-le-mul_right}
use Rattle.std.proofs.lemmas.Nat.{pow_pos}
use Rattle.copy_law.specs.Drawn.{arrives_at}
use Rattle.copy_law.specs.History.{clock_of, history_from}
use Rattle.copy_law.specs.Receipts.{IsReference}
use Rattle.copy_law.specs.SinceLatch.{latch_arrival}
use Rattle.copy_law.specs.WholeTimes.{reference_time, whole_copy}
use Rattle.copy_law.proofs.Exported.{latched_within}
use Rattle.dc_bounds.specs.LockNumbers.{period_fs}
use Rattle.dc_bounds.specs.RunNumbers.{lead_ns}
use Rattle.dc_bounds.proofs.Exported.{last_edge, not_far, start_after}
use Rattle.delay_law.specs.Resting.{row_there}
use Rattle.edge_law.specs.ArmedUnits.{IsArmedSince, unit_of}
use Rattle.edge_law.specs.RunEdges.{IsRaised}
use Rattle.edge_law.specs.ToldStart.{KnowsTime, start_from}
use Rattle.edge_law.proofs.Ahead.{armed_ahead, armed_late, ended, quarter_there, starts_soon}
use Rattle.edge_law.proofs.Raised.{in_order, rising_all, runs, ticks_then, time, time_after, time_by, whole, words_of}
use Rattle.ecat_link.specs.Exchanges.{Exchange}
use Rattle.edge_report.specs.Edges.{HasSignal, shift_of}
use Rattle.esc_regs.specs.Kinds.{has_clock}
use Rattle.esc_regs.specs.declared.clock_kind.ClockKind.{ClockKind}
use Rattle.esc_regs.specs.declared.clock_kind.ClockKind.TheVariants as kind
use Rattle.frame_pass.specs.SlaveState.{Slave, Timing, width}
use Rattle.frame_pass.specs.UnitHistory.{IsRun}
use Rattle.honest_slaves.specs.FileSlaves.{kind_at}
use Rattle.local_clock.specs.Reading.{Happening}
use Rattle.local_clock.proofs.Exported.{rises}
use Rattle.master_script.specs.Words.{Words}
use Rattle.osc_clock.specs.Ticks.{Oscillator, instant, ticks}
use Rattle.osc_clock.proofs.Exported.{ticks_rise}
use Rattle.run_of_file.specs.Commissioned.{IsCommissioned, words_after}
use Rattle.run_of_file.specs.MasterOfFile.{master_of}
use Rattle.run_of_file.specs.RunOfFile.{RunEnd, frames_given, ran, run_of, settled}
use Rattle.segment_file.specs.Legal.{IsClock}
use Rattle.segment_file.specs.Segment.{RowValue, SegmentValue, clocks, no_row, oscillator, row_at}
use Rattle.segment_file.proofs.Exported.{row_within}
use Rattle.segment_bounds.specs.Bounds.{copy_bound_at}
use Rattle.segment_start.specs.Start.{started_segment}
use Rattle.sync_units.specs.Calls.{AreInTurn, Call, copy_in, end_of, ticks_of_calls}
use Rattle.sync_units.specs.Edges.{edge_of, edges_of, start_of}
use Rattle.sync_units.specs.KeptEdges.{Kept, empty_list}
use Rattle.sync_units.specs.SyncRule.{ticks_edges}
use Rattle.sync_units.specs.declared.edge.Edge.{Edge}
use Rattle.sync_units.specs.declared.edge.Signal.{Signal}
use Rattle.sync_units.specs.declared.edge.Signal.TheVariants.{Sync0, Sync1}
use Rattle.sync_units.specs.Rising.{RaisesAt}
use Rattle.sync_units.proofs.Exported.{exact, kept_of_signal, list_in_turn, rising_edge}
use Rattle.wrap_time.proofs.Exported.{sum_of_cut}

said : (P : Timing → Type 0) (o : Option Timing) (m : Timing) → o ≡ Some m → IfSome o P → P m
said P o m e h = subst (λ (x : Option Timing). IfSome x P) e h

-- each clock has at least 32 bits
wide : (k : ClockKind) → 32 ≤ width k
unfolding width
wide kind.None = omega arith
wide kind.R32 = omega arith
wide kind.C32 = omega arith
wide kind.C64 = omega arith

-- calls in turn end no earlier than they begin
ends_late : (o : Oscillator) (t : ℕ) (cs : List Call) → AreInTurn o t cs → t ≤ end_of t cs
ends_late o t [] h = omega arith
ends_late o t (c ∷ cs) h = let here = h.2 in let rest = ends_late o c.until cs h.3 in omega (arith, here, rest)

-- the shift of a signal, and the word at which its edge 0 is due
short_shift : (cycle : ℕ) (row : RowValue) (signal : Signal) → IsClock cycle row → 50000 ≤ cycle → shift_of row signal + 2 ≤ 2 * cycle
short_shift cycle row Sync0 h long = let shift = h.shift_ns in omega (arith, shift, long)
short_shift cycle row Sync1 h long = by row.sync1_ns h.sync1_ns
  where
    by : (o : Option ℕ) → IfSome o (λ ns. (1 ≤ ns) × (ns < cycle)) → row.shift_ns + unwrap_or o 0 + 2 ≤ 2 * cycle
    by None i = let shift = h.shift_ns in omega (arith, shift, long)
    by (Some ns) i = let shift = h.shift_ns in let less = i.1 in omega (arith, shift, less)

due_word : (w start : ℕ) (row : RowValue) (signal : Signal) → HasSignal row signal
    → start_of w ((start + row.shift_ns) % 2 ^ w) row.sync1_ns signal ≡ Some ((start + shift_of row signal) % 2 ^ w)
due_word w start row Sync0 has = refl
due_word w start row Sync1 has = by row.sync1_ns has.1
  where
    by : (o : Option ℕ) → IsSome o → start_of w ((start + row.shift_ns) % 2 ^ w) o Sync1 ≡ Some ((start + (row.shift_ns + unwrap_or o 0)) % 2 ^ w)
    by None some = absurd (let x = some in cc)
    by (Some ns) some =
        let same : start + row.shift_ns + ns ≡ start + (row.shift_ns + ns) = omega arith in
        ap (λ (x : ℕ). Some x) (sum_of_cut w (start + row.shift_ns) ns ∙ ap (λ (x : ℕ). x % 2 ^ w) same)

taken : (keep k : ℕ) (xs : List Edge) → k < keep → slice_get (take keep xs) k ≡ slice_get xs k
taken zero k xs less = absurd (omega (arith, less))
taken (suc keep) k [] less = refl
taken (suc keep) zero (x ∷ xs) less = refl
taken (suc keep) (suc k) (x ∷ xs) less = taken keep k xs (omega (arith, less))

module _ (s : SegmentValue) (first before last run : RunEnd) (it : IsCommissioned s first) (settled_is : settled s ≡ Some before) (before_ok : before.answer ≡ Ok tt) (last_is : ran s ≡ Some last)
    (run_is : run_of s ≡ Some run) (all : run.exchanges ≡ last.exchanges) (enough : length before.exchanges + 1 + frames_given s ≤ length last.exchanges) (r : ℕ) (reference : IsReference s r)
    (p : ℕ) (low : p < length s.rows) (is : has_clock (kind_at s p) ≡ true) (v : Slave) (there : slice_get run.state.slaves p ≡ Some v) (m : Timing) (has : v.timing ≡ Some m)
    (now : m.clock.instant ≡ (length last.exchanges + 1) * period_fs s.head.frame_ns) (knows : KnowsTime s first r (words_after s before)) where
  abbrev words : Words
  words = words_after s first

  abbrev row : RowValue
  row = row_there s p

  abbrev bits : ℕ
  bits = width (kind_at s p)

  abbrev o : Oscillator
  o = oscillator (row_there s p)

  abbrev events : List Happening
  events = history_from (started_segment s) run.exchanges p

  abbrev cycle : ℕ
  cycle = s.head.cycle_ns

  abbrev told : ℕ
  told = reference_time s words r (arrives_at s first knows.frame r)

  abbrev start : ℕ
  start = start_from s told

  abbrev end : ℕ
  end = (length last.exchanges + 1) * period_fs s.head.frame_ns

  of_row : IsClock s.head.cycle_ns (row_there s p)
  of_row = All-get_or (IsClock s.head.cycle_ns) s.rows (row_at s p) no_row (row_within s it.legal p low) it.legal.clocks

  module _ (armed : IsArmedSince s first p start events v) (signal : Signal) (signals : HasSignal (row_there s p) signal) (k : ℕ) (early : k < s.head.cycles) where
    abbrev ta : ℕ
    ta = arrives_at s first armed.frame p

    abbrev calls : List Call
    calls = armed.calls

    abbrev n : ℕ
    n = ticks_of_calls o ta calls

    abbrev due : ℕ
    due = start + shift_of (row_there s p) signal

    unit : IsRun bits o ta (Some (unit_of s p start)) (empty_list s.head.cycles) calls (record { registers = v.registers; timing = m })
    unit = said (λ (x : Timing). IsRun bits o ta (Some (unit_of s p start)) (empty_list s.head.cycles) calls (record { registers = v.registers; timing = x })) v.timing m has armed.unit

    ends_at : end_of ta calls ≡ end
    ends_at = unit.end ∙ now

    ends : ta ≤ end
    ends = let late = ends_late o ta calls unit.in_turn in let same = ends_at in omega (arith, late, same)

    late : latch_arrival s words p ≤ ta
    late =
        let first_sent = latched_within (master_of s) first.exchanges in
        let more = mul-le-mul_right (period_fs s.head.frame_ns) (let le : words.latched ≤ length first.exchanges + armed.frame = omega (arith, first_sent) in le) in
        omega (arith, more)

    abbrev count : ℕ → ℕ
    count = whole s first last run it last_is run_is all p low is v there ta late

    -- the clock's copies by the history of its phases
    copy_same : (t : ℕ) → whole_copy s words p events t ≡ whole_copy s words p (history_from (started_segment s) last.exchanges p) t
    copy_same t = ap (λ (es : List Exchange). whole_copy s words p (history_from (started_segment s) es p) t) all

    ahead_is : count 0 < due
    ahead_is =
        let less = armed_ahead s first before last it settled_is before_ok last_is r reference p low is knows.frame armed.frame knows.recent knows.within armed.behind armed.soon enough ends in
        let same = copy_same ta in
        let long = it.legal.head.cycle_ns.0 in
        let after = start_after told (lead_ns (clocks s.rows) s.head.loss_run s.head.frame_ns) cycle (omega (arith, long)) in
        omega (arith, less, same, after)

    soon_is : due < count 0 + 2 ^ 31
    soon_is =
        let below = armed_late s first before last it settled_is before_ok last_is r reference p low is knows.frame armed.frame knows.recent knows.within armed.behind armed.soon enough ends in
        let same = copy_same ta in
        let quarter = quarter_there s it.legal p low 0 (omega arith) in
        let long = it.legal.head.cycle_ns.0 in
        let near = not_far told (clocks s.rows) s.head.loss_run s.head.frame_ns cycle (shift_of (row_there s p) signal) (count 0) (copy_bound_at s (row_at s p)) (short_shift cycle row signal of_row long)
        (omega (arith, below, same)) (omega (arith, quarter)) (starts_soon s it.legal) in
        omega (arith, near)

    -- the last tick shows what the end shows
    last_tick : whole_copy s words p events end ≤ count n
    last_tick =
        let running = runs s first last run it last_is run_is all p low is v there in
        let at_n = ticks_then o running ta n in
        let same = ends_at in
        let until = ap (ticks o) same in
        let up = ticks_rise o ta end running ends in
        let by = time_by o running ta end n ends (omega (arith, until)) in
        let r = rises (time o running ta n) end 0 (clock_of (row_there s p)) events running (omega arith) by (in_order s first last run it last_is run_is all p low is v there) (omega (arith, at_n, until, up)) in
        let most = r.1 in
        omega (arith, most)

    reaches : due + k * cycle ≤ count n
    reaches =
        let long = it.legal.head.cycle_ns.0 in
        let past = ended s first before last it settled_is before_ok last_is r reference p low is knows.frame armed.frame knows.recent knows.within armed.behind armed.soon enough ends in
        let edges = last_edge told (clocks s.rows) s.head.loss_run s.head.frame_ns cycle s.head.cycles (shift_of (row_there s p) signal) k (short_shift cycle row signal of_row long) early in
        let same = copy_same end in
        let shown = last_tick in
        omega (arith, past, edges, same, shown)

    raised : (j : ℕ) × (j ≤ n) × RaisesAt bits count (copy_in bits calls) cycle due k j
    raised =
        let long = it.legal.head.cycle_ns.0 in
        let short = it.legal.head.cycle_ns.1 in
        rising_edge bits count (copy_in bits calls) n cycle due k (wide (kind_at s p)) (rising_all s first last run it last_is run_is all p low is v there ta late n)
        (words_of s first last run it last_is run_is all p low is v there ta late calls armed.copies) ahead_is soon_is (omega (arith, long)) (omega (arith, short)) reaches

    -- the list keeps it
    abbrev tick_time : ℕ → ℕ
    tick_time i = instant o (ticks o ta + i)

    listed : edges_of signal m.edges.edges
        ≡ take s.head.cycles (edges_of signal (ticks_edges bits (copy_in bits calls) tick_time n (unit_of s p start)))
    listed =
        let running = runs s first last run it last_is run_is all p low is v there in
        let few = it.legal.head.cycles.1 in
        ap (λ (l : Kept). edges_of signal l.edges)
        (unit.edges_are ∙ list_in_turn bits o ta calls (Some (unit_of s p start)) (empty_list s.head.cycles) running unit.in_turn)
        ∙ kept_of_signal bits (copy_in bits calls) tick_time n ((start + row.shift_ns) % 2 ^ bits) cycle row.sync1_ns s.head.cycles signal (mod-lt _ (pow_pos bits)) (omega (arith, few))

    kept_there : (j : ℕ) → j ≤ n → RaisesAt bits count (copy_in bits calls) cycle due k j → slice_get (edges_of signal m.edges.edges) k ≡ Some (edge_of signal k (tick_time j))
    kept_there j few h =
        let e = exact bits (copy_in bits calls) tick_time n ((start + row.shift_ns) % 2 ^ bits) cycle (due % 2 ^ bits) row.sync1_ns signal (due_word bits start row signal signals) (mod-lt _ (pow_pos bits)) in
        ap (λ (es : List Edge). slice_get es k) listed
        ∙ taken s.head.cycles k (edges_of signal (ticks_edges bits (copy_in bits calls) tick_time n (unit_of s p start))) early
        ∙ e.all k j h.edge few

    raised_by : (j : ℕ) → j ≤ n → RaisesAt bits count (copy_in bits calls) cycle due k j → (u : ℕ) × IsRaised s words p signal start k ta end u events m.edges.edges
    raised_by zero few h = absurd (let some = h.some in omega (arith, some))
    raised_by (suc i) few h =
        let running = runs s first last run it last_is run_is all p low is v there in
        let same = ends_at in
        let until = ap (ticks o) same in (
          time o running ta (suc i),
          record {
            is_kept = kept_there (suc i) few h;
            after = time_after o running ta (suc i) (omega arith);
            by = time_by o running ta end (suc i) ends (omega (arith, few, until));
            reached = h.reached;
            near = h.near;
          },
        )

    pub edge_raised : (u : ℕ) × IsRaised s words p signal start k ta end u events m.edges.edges
    edge_raised = let x = raised in raised_by x.0 x.1 x.2
