-- A segment's slaves stay so from its start on.
use Rattle.std.proofs.Common.{◌≡◌, ℕ, ◌^◌, ◌≤◌, List, [], ◌∷◌, length, map, Option, Some, None, Bool, true, false, nat_lt, refl, arith}
use Rattle.std.specs.Prelude.{IfSome, ⊤}
use Rattle.ecat_frame.specs.FrameGrammar.{DatagramValue, FrameValue}
use Rattle.cable_tree.specs.FrameOrder.{order}
use Rattle.esc_regs.specs.declared.clock_kind.ClockKind.{ClockKind}
use Rattle.esc_regs.specs.declared.clock_kind.ClockKind.TheVariants as kind
use Rattle.loss_list.specs.Losses.{loss_at}
use Rattle.loss_list.specs.declared.loss_row.Phase.{Phase}
use Rattle.loss_list.specs.declared.loss_row.Phase.TheVariants.{Commission, Drift}
use Rattle.segment_file.specs.Segment.{RowValue, SegmentValue, tree_rows}
use Rattle.segment_file.specs.Legal.{IsLegal}
use Rattle.frame_pass.specs.SlaveState.{Slave}
use Rattle.frame_pass.specs.Advancing.{advanced_to}
use Rattle.frame_pass.specs.FramePass.{slaves_passed, end_of}
use Rattle.frame_pass.specs.SegmentState.{SegmentState, segment_step, leaves_at, carried, numbered, leaving, number_of, phase_of, finished}
use Rattle.frame_pass.proofs.Exported.{IsVisited, kept_by_all}
use Rattle.segment_start.specs.Start.{slave_of, timing_by, started_segment}
use Rattle.segment_start.specs.Numbered.{HasNumbers, IsNumberedSlave, AreNumberedSlaves}
use Rattle.segment_start.proofs.AtSlaves.{none_kept, numbered_at, keeps_numbers}

-- any time will do
any_back : (sent : ℕ) (o : Option ℕ) → IfSome o (λ at. ⊤)
any_back sent None = tt
any_back sent (Some at) = tt

any_visit : (sent : ℕ) (s : Slave) → IsNumberedSlave s → IsVisited (λ t. ⊤) sent s.visits
any_visit sent s h = record { arrive = tt; back3 = any_back sent s.visits.back3; back1 = any_back sent s.visits.back1; back2 = any_back sent s.visits.back2 }

numbers_passed : (sent : ℕ) (end : Option ℕ) (h : ℕ) (ss : List Slave) (ds : List DatagramValue) → AreNumberedSlaves ss → AreNumberedSlaves (slaves_passed h sent end ss ds)
numbers_passed sent end h ss ds a = kept_by_all (λ t. ⊤) IsNumberedSlave keeps_numbers sent end (any_visit sent) h ss ds a

numbers_carried : (o : Option ℕ) (s : SegmentState) (f : FrameValue) → AreNumberedSlaves s.slaves → AreNumberedSlaves (carried o s f).0.slaves
numbers_carried None s f h = numbers_passed s.last (end_of (length s.slaves) s.slaves) (length s.slaves) s.slaves f.datagrams h
numbers_carried (Some n) s f h = numbers_passed s.last (end_of n s.slaves) n s.slaves f.datagrams h

numbers_numbered : (phase : Phase) (s : SegmentState) → AreNumberedSlaves s.slaves → AreNumberedSlaves (numbered phase s).slaves
numbers_numbered Commission s h = h
numbers_numbered Drift s h = h

pub numbers_step : (s : SegmentState) (wait_ns : ℕ) (f : FrameValue) → AreNumberedSlaves s.slaves → AreNumberedSlaves (segment_step s wait_ns f).0.slaves
unfolding segment_step
numbers_step s wait_ns f h = by (nat_lt s.sent 1000000) refl
  where
    by : (b : Bool) → nat_lt s.sent 1000000 ≡ b → AreNumberedSlaves (segment_step s wait_ns f).0.slaves
    by true e =
        let phase = phase_of f.datagrams in
        let t = numbered phase (leaving (leaves_at s wait_ns) s) in
        rw e (numbers_carried (loss_at t.losses phase (number_of phase t)) t f (numbers_numbered phase (leaving (leaves_at s wait_ns) s) h))
    by false e = rw e h

numbers_at : (t : ℕ) (ss : List Slave) → AreNumberedSlaves ss → AreNumberedSlaves (map (advanced_to t) ss)
numbers_at t [] a = a
numbers_at t (s ∷ ss) a = (numbered_at t s a.0, numbers_at t ss a.1)

pub numbers_finished : (t : ℕ) (s : SegmentState) → AreNumberedSlaves s.slaves → AreNumberedSlaves (finished t s).slaves
unfolding finished
numbers_finished t s h = numbers_at t s.slaves h

-- a slave that begins keeps nothing yet
begins_by : (k : ClockKind) (cycles : ℕ) (row : RowValue) → cycles ≤ 2 ^ 32 → IfSome (timing_by k cycles row) HasNumbers
begins_by kind.None cycles row few = tt
begins_by kind.R32 cycles row few = record { edges = none_kept 0 (omega arith); unit = tt }
begins_by kind.C32 cycles row few = record { edges = none_kept cycles few; unit = tt }
begins_by kind.C64 cycles row few = record { edges = none_kept cycles few; unit = tt }

each_begins : (s : SegmentValue) → s.head.cycles ≤ 2 ^ 32 → (r : ℕ) → IsNumberedSlave (slave_of s r)
unfolding slave_of
each_begins s few r = begins_by _ s.head.cycles _ few

all_begin : (s : SegmentValue) → s.head.cycles ≤ 2 ^ 32 → (rs : List ℕ) → AreNumberedSlaves (map (slave_of s) rs)
all_begin s few [] = tt
all_begin s few (r ∷ rs) = (each_begins s few r, all_begin s few rs)

pub numbers_begin : (s : SegmentValue) → IsLegal s → AreNumberedSlaves (started_segment s).slaves
unfolding started_segment
numbers_begin s legal = all_begin s (let h = legal.head.cycles in omega (arith, h)) (order (tree_rows s.rows))
