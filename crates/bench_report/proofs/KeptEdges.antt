-- The edges that the slaves of a segment's wire have kept.
use Rattle.std.proofs.Common.{◌≡◌, ℕ, zero, suc, ◌-◌, ◌≤◌, List, [], ◌∷◌, length, map, Option, Some, None, refl, sym, ap, subst, ◌∙◌, arith}
use Rattle.std.specs.Prelude.{IfSome, option_map, slice_get}
use Rattle.std.specs.List.{AllByRecursion, range_with_len}
use Rattle.std.specs.Option.{option_map_or}
use Rattle.std.proofs.lemmas.List.{length-map}
use Rattle.cable_tree.specs.FrameOrder.{order}
use Rattle.segment_start.specs.Numbered.{AreNumberedSlaves, HasNumbers}
use Rattle.esc_regs.specs.declared.clock_kind.ClockKind.{ClockKind}
use Rattle.esc_regs.specs.declared.clock_kind.ClockKind.TheVariants as kind
use Rattle.frame_pass.specs.SegmentState.{SegmentState}
use Rattle.frame_pass.specs.SlaveState.{FixedPart, Slave, Timing, fixed_part}
use Rattle.segment_bench.proofs.Exported.{IsWireOf}
use Rattle.segment_file.specs.Legal.{IsLegal}
use Rattle.segment_file.specs.Segment.{RowValue, SegmentValue, tree_rows}
use Rattle.segment_file.proofs.Exported.{order_many}
use Rattle.segment_start.specs.Start.{slave_of, started_segment, timing_by}
use Rattle.sync_units.specs.Edges.{edges_of}
use Rattle.sync_units.specs.declared.edge.Edge.{Edge}
use Rattle.sync_units.specs.declared.edge.Signal.{Signal}
use Rattle.sync_units.specs.declared.edge.Signal.TheVariants.{Sync0, Sync1}
use Rattle.wire_sim.specs.Seen.{edges_kept}
use Rattle.bench_report.specs.Edges.{kept_at}

-- the edges of each signal are numbered, at most so many
pub record AreFew (cycles : ℕ) (es : List Edge) : Type 0 where
  pub many : Signal → ℕ
  pub indices : (signal : Signal) → map (λ e. e.index) (edges_of signal es) ≡ range_with_len 0 (many signal)
  pub few : (signal : Signal) → many signal ≤ cycles

none_few : (cycles : ℕ) → AreFew cycles []
none_few cycles = record { many = λ signal. 0; indices = λ signal. refl; few = λ signal. omega arith }

-- a slave keeps at most so many
abbrev pub KeepsFew : ℕ → FixedPart → Type 0
KeepsFew cycles f = IfSome f.keep (λ keep. keep ≤ cycles)

abbrev many_of : Timing → Signal → ℕ
many_of t Sync0 = t.edges.keep - t.edges.room0
many_of t Sync1 = t.edges.keep - t.edges.room1

indices_of : (t : Timing) → HasNumbers t → (signal : Signal) → map (λ e. e.index) (edges_of signal t.edges.edges) ≡ range_with_len 0 (many_of t signal)
indices_of t h Sync0 = h.edges.sync0.indices_are
indices_of t h Sync1 = h.edges.sync1.indices_are

few_at : (cycles : ℕ) (t : Timing) → t.edges.keep ≤ cycles → (signal : Signal) → many_of t signal ≤ cycles
few_at cycles t low Sync0 = omega (arith, low)
few_at cycles t low Sync1 = omega (arith, low)

few_by : (cycles : ℕ) (t : Timing) → HasNumbers t → t.edges.keep ≤ cycles → AreFew cycles t.edges.edges
few_by cycles t h low = record { many = many_of t; indices = indices_of t h; few = few_at cycles t low }

few_of : (cycles : ℕ) (o : Option Timing) → IfSome o HasNumbers → IfSome (option_map (λ t. t.edges.keep) o) (λ keep. keep ≤ cycles) → AreFew cycles (option_map_or (λ t. t.edges.edges) o [])
few_of cycles None h low = none_few cycles
few_of cycles (Some t) h low = few_by cycles t h low

few_among : (cycles : ℕ) (ss : List Slave) → AreNumberedSlaves ss → AllByRecursion (KeepsFew cycles) (map fixed_part ss) → (p : ℕ)
    → AreFew cycles (option_map_or edges_kept (slice_get ss p) [])
few_among cycles [] h low p = none_few cycles
few_among cycles (s ∷ ss) h low zero = few_of cycles s.timing h.0 low.0
few_among cycles (s ∷ ss) h low (suc p) = few_among cycles ss h.1 low.1 p

-- a slave that begins keeps at most as many as there are cycles
begins_by : (k : ClockKind) (cycles : ℕ) (row : RowValue) → IfSome (option_map (λ t. t.edges.keep) (timing_by k cycles row)) (λ keep. keep ≤ cycles)
begins_by kind.None cycles row = tt
begins_by kind.R32 cycles row = omega arith
begins_by kind.C32 cycles row = omega arith
begins_by kind.C64 cycles row = omega arith

each_begins : (s : SegmentValue) (r : ℕ) → KeepsFew s.head.cycles (fixed_part (slave_of s r))
unfolding slave_of
each_begins s r = begins_by _ s.head.cycles _

all_begin : (s : SegmentValue) (rs : List ℕ) → AllByRecursion (KeepsFew s.head.cycles) (map fixed_part (map (slave_of s) rs))
all_begin s [] = tt
all_begin s (r ∷ rs) = (each_begins s r, all_begin s rs)

few_begin : (s : SegmentValue) → AllByRecursion (KeepsFew s.head.cycles) (map fixed_part (started_segment s).slaves)
unfolding started_segment
few_begin s = all_begin s (order (tree_rows s.rows))

pub few_kept : (s : SegmentValue) (w : SegmentState) → IsWireOf s w → (p : ℕ) → AreFew s.head.cycles (kept_at w p)
few_kept s w is p = few_among s.head.cycles w.slaves is.numbered (subst (AllByRecursion (KeepsFew s.head.cycles)) (sym is.slaves) (few_begin s)) p

starts_many : (s : SegmentValue) → IsLegal s → length (started_segment s).slaves ≡ length s.rows
unfolding started_segment
starts_many s legal = length-map (order (tree_rows s.rows)) (slave_of s) ∙ order_many s legal

-- the wire has a slave for each row
pub slaves_many : (s : SegmentValue) (w : SegmentState) → IsLegal s → IsWireOf s w → length w.slaves ≡ length s.rows
slaves_many s w legal is =
    sym (length-map w.slaves fixed_part) ∙ ap length is.slaves ∙ length-map (started_segment s).slaves fixed_part ∙ starts_many s legal
