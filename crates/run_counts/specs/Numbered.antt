-- The frames of a run by their numbers.
use Rattle.std.specs.Prelude.{◌≡◌, ℕ, ◌+◌, List, [], ◌∷◌, ⊤, is_none}
use Rattle.ecat_link.specs.Exchanges.{Exchange}
use Rattle.frame_pass.specs.SegmentState.{phase_of}
use Rattle.lost_step.specs.LostStep.{loses}
use Rattle.segment_file.specs.Segment.{SegmentValue}
use Rattle.loss_list.specs.declared.loss_row.Phase.{Phase}

-- They are frames of this phase, numbered from this number on, and those are lost that the file lists.
abbrev pub AreNumbered : SegmentValue → Phase → ℕ → List Exchange → Type 0
AreNumbered s phase number [] = ⊤
AreNumbered s phase number (e ∷ es) =
    (phase_of e.sent.datagrams ≡ phase) × (is_none e.back ≡ loses s phase number) × AreNumbered s phase (number + 1) es
