-- Migration changes the version alone, and no check looks at it but for changes of periods in version 1.
use Rattle.std.proofs.Common.{◌≡◌, ◌∙◌, ap, refl, sym, ℕ, List, arith}
use Rattle.segment_shape.specs.Head.{HeadValue}
use Rattle.loss_list.specs.declared.loss_row.LossRow.{LossRow}
use Rattle.cable_tree.specs.Row.{Row}
use Rattle.segment_file.specs.Faults.{time_fault, frame_fault, fault_of}
use Rattle.segment_file.specs.Legal.{IsLegal}
use Rattle.segment_file.specs.Segment.{RowValue, SegmentValue, CountsValue}
use Rattle.segment_file.specs.Told.{IsSegmentText}
use Rattle.segment_file.specs.Written.{segment_text}
use Rattle.segment_file.proofs.Exported.{one_segment, written_text}
use Rattle.segment_text.specs.Migrated.{migrated}

pub newest : (s : SegmentValue) → s.head.version ≡ 2 → migrated s ≡ s
newest s is =
    ap (λ (n : ℕ). record {
      head = record {
        version = n;
        ppm = s.head.ppm;
        frame_ns = s.head.frame_ns;
        speed = s.head.speed;
        loss_run = s.head.loss_run;
        epoch_ns = s.head.epoch_ns;
        cycle_ns = s.head.cycle_ns;
        cycles = s.head.cycles;
      };
      rows = s.rows;
      losses = s.losses;
    }) (sym is)

same_times : (s : SegmentValue) (c : CountsValue) (tree : List Row) → time_fault (migrated s).head c tree ≡ time_fault s.head c tree
unfolding time_fault
same_times s c tree = refl

same_frames : (s : SegmentValue) (c : CountsValue) → frame_fault (migrated s).head c s.losses ≡ frame_fault s.head c s.losses
unfolding frame_fault
same_frames s c = refl

same_fault : (s : SegmentValue) → fault_of (migrated s) ≡ fault_of s
same_fault s = rw (same_times, same_frames) refl

pub migrated_legal : (s : SegmentValue) → IsLegal s → IsLegal (migrated s)
migrated_legal s legal = record {
  head = record {
    version = (omega arith, omega arith);
    ppm = legal.head.ppm;
    frame_ns = legal.head.frame_ns;
    speed = legal.head.speed;
    loss_run = legal.head.loss_run;
    epoch_ns = legal.head.epoch_ns;
    cycle_ns = legal.head.cycle_ns;
    cycles = legal.head.cycles;
  };
  ids = legal.ids;
  clocks = legal.clocks;
  steady = λ k d low is. absurd (omega (arith, is));
  few_losses = legal.few_losses;
  losses = legal.losses;
  once = legal.once;
  distinct = legal.distinct;
  tree = legal.tree;
  faultless = same_fault s ∙ legal.faultless;
}

pub text_again : (s t : SegmentValue) → IsLegal s → IsSegmentText (segment_text (migrated s)) t → segment_text (migrated t) ≡ segment_text (migrated s)
text_again s t legal says =
    ap (λ u. segment_text (migrated u)) (one_segment (segment_text (migrated s)) t (migrated s) says (written_text (migrated s) (migrated_legal s legal)))

-- what has these parts is the migrated segment
pub parts_legal : (s : SegmentValue) (head : HeadValue) (rows : List RowValue) (losses : List LossRow) → head ≡ (migrated s).head → rows ≡ s.rows → losses ≡ s.losses → IsLegal s
    → IsLegal (record { head = head; rows = rows; losses = losses })
parts_legal s head rows losses h r l legal = rw (h, r, l) (migrated_legal s legal)
