-- The edges that a slave keeps are of signals that it has by the file.
use Rattle.std.proofs.Common.{◌≡◌, ℕ, ◌<◌, Bool, true, false, ◌&&◌, nat_eq, List, [], ◌∷◌, length, map, is_some, Option, Some, None, refl, sym, ap, subst, arith}
use Rattle.std.specs.Prelude.{IfSome, Ok, slice_get}
use Rattle.std.specs.List.{All}
use Rattle.std.specs.Option.{option_map_or}
use Rattle.std.proofs.lemmas.Bool.Decides.{nat_tests}
use Rattle.std.proofs.lemmas.List.Elements.{All-cons, All-nil}
use Rattle.honest_slaves.specs.OwnSignals.{AllKeepTo, AreOf, KeepsTo, SlaveKeepsTo, has_signal, signals_at}
use Rattle.honest_slaves.proofs.Exported.{whole_keeps}
use Rattle.dc_bench.specs.BenchState.{BenchState}
use Rattle.edge_report.specs.Edges.{HasSignal, IsEdge, edges_of, is_of, rank}
use Rattle.edge_report.specs.Slaves.{slave_at}
use Rattle.edge_report.specs.declared.slave_edge.SlaveEdge.{SlaveEdge}
use Rattle.frame_pass.specs.SegmentState.{SegmentState}
use Rattle.frame_pass.specs.SlaveState.{Slave, Timing}
use Rattle.segment_bench.specs.BenchRun.{HasRun}
use Rattle.segment_file.specs.Legal.{IsLegal}
use Rattle.segment_file.specs.Segment.{RowValue, SegmentValue, is_clock}
use Rattle.sync_units.specs.declared.edge.Edge.{Edge}
use Rattle.sync_units.specs.declared.edge.Signal.{Signal}
use Rattle.sync_units.specs.declared.edge.Signal.TheVariants.{Sync0, Sync1}
use Rattle.sync_units.specs.Edges.{edges_of as edges_among, is_same}
use Rattle.wire_sim.specs.Seen.{edges_kept}
use Rattle.bench_report.specs.Edges.{at_slave, kept_at, own_edges}

-- the wire of a bench that has made the whole run
pub run_own : (s : SegmentValue) (b : BenchState) → IsLegal s → HasRun s b (Ok tt) → AllKeepTo (signals_at s) b.wire.slaves
run_own s b legal run = subst (λ (w : SegmentState). AllKeepTo (signals_at s) w.slaves) (sym run.0.segment_is) (whole_keeps s legal run.0.end run.0.run_is)

of_timing : (own : Signal → Bool) (o : Option Timing) → IfSome o (KeepsTo own) → AreOf own (option_map_or (λ t. t.edges.edges) o [])
of_timing own None h = tt
of_timing own (Some t) h = h.edges

of_slave : (own : Signal → Bool) (o : Option Slave) → ((v : Slave) → o ≡ Some v → SlaveKeepsTo own v) → AreOf own (option_map_or edges_kept o [])
of_slave own None each = tt
of_slave own (Some v) each = of_timing own v.timing (each v refl)

pub kept_own : (s : SegmentValue) (w : SegmentState) → AllKeepTo (signals_at s) w.slaves → (p : ℕ) → AreOf (signals_at s p) (kept_at w p)
kept_own s w keep p = of_slave (signals_at s p) (slice_get w.slaves p) (keep p)

both : (a b : Bool) → (a && b) ≡ true → (a ≡ true) × (b ≡ true)
both true b e = (refl, e)
both false b e = absurd cc

has : (r : RowValue) (signal : Signal) → has_signal r signal ≡ true → HasSignal r signal
has r Sync0 h = h
has r Sync1 h = both (is_clock r) (is_some r.sync1_ns) h

has_at : (s : SegmentValue) (p : ℕ) (signal : Signal) → signals_at s p signal ≡ true → HasSignal (slave_at s p) signal
unfolding slave_at
has_at s p signal h = has (slave_at s p) signal h

pub own_each : (s : SegmentValue) (p : ℕ) → p < length s.rows → (es : List Edge) → AreOf (signals_at s p) es → All (IsEdge s) (own_edges p es)
own_each s p low [] are = All-nil (IsEdge s)
own_each s p low (e ∷ es) are =
    All-cons (IsEdge s) (at_slave p e) (own_edges p es) (record { position = low; signal = has_at s p e.signal are.0 }) (own_each s p low es are.1)

pub own_at : (p : ℕ) (es : List Edge) → All (λ x. x.position ≡ p) (own_edges p es)
own_at p [] = All-nil (λ (x : SlaveEdge). x.position ≡ p)
own_at p (e ∷ es) = All-cons (λ (x : SlaveEdge). x.position ≡ p) (at_slave p e) (own_edges p es) refl (own_at p es)

ranks : (a b : Signal) → nat_eq (rank a) (rank b) ≡ is_same a b
ranks Sync0 Sync0 = refl
ranks Sync0 Sync1 = refl
ranks Sync1 Sync0 = refl
ranks Sync1 Sync1 = refl

itself : (p : ℕ) → nat_eq p p ≡ true
itself p = grind (arith, nat_tests)

is_own : (p : ℕ) (signal : Signal) (e : Edge) (b : Bool) → is_same e.signal signal ≡ b → is_of p signal (at_slave p e) ≡ b
is_own p signal e b h = let r = ranks e.signal signal in rw (itself p, r) h

-- they have the indices that were kept
pub own_indices : (p : ℕ) (signal : Signal) (es : List Edge) → map (λ x. x.edge.index) (edges_of p signal (own_edges p es)) ≡ map (λ e. e.index) (edges_among signal es)
own_indices p signal [] = refl
own_indices p signal (e ∷ es) = by (is_same e.signal signal) refl (own_indices p signal es)
  where
    by : (same : Bool) → is_same e.signal signal ≡ same → map (λ x. x.edge.index) (edges_of p signal (own_edges p es)) ≡ map (λ x. x.index) (edges_among signal es)
        → map (λ x. x.edge.index) (edges_of p signal (own_edges p (e ∷ es))) ≡ map (λ x. x.index) (edges_among signal (e ∷ es))
    by true h rest = let o = is_own p signal e true h in rw (o, h) (ap (λ xs. e.index ∷ xs) rest)
    by false h rest = let o = is_own p signal e false h in rw (o, h) rest
