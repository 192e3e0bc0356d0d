-- What one sending makes of the numbers of a segment, and whether its frame comes back.
use Rattle.std.proofs.Common.{◌≡◌, ◌≢◌, ℕ, ◌+◌, ◌<◌, List, [], ◌∷◌, Option, Some, None, is_none, slice_get, refl, ap, ◌∙◌}
use Rattle.std.specs.Prelude.{is_some}
use Rattle.ecat_frame.specs.FrameGrammar.{DatagramValue, FrameValue}
use Rattle.ecat_frame.specs.declared.command.Command.{Command}
use Rattle.ecat_frame.specs.declared.command.Command.TheVariants.{Frmw}
use Rattle.loss_list.specs.Losses.{loss_at}
use Rattle.loss_list.specs.declared.loss_row.Phase.{Phase}
use Rattle.loss_list.specs.declared.loss_row.Phase.TheVariants.{Commission, Drift}
use Rattle.frame_pass.specs.SegmentState.{SegmentState, segment_step, leaves_at, carried, numbered, leaving, number_of, phase_of, phase_by}
use Rattle.frame_pass.proofs.Exported.{is_below}

-- one frame more of a phase, and the same losses
abbrev pub NumbersOn : Phase → SegmentState → SegmentState → Type 0
NumbersOn Commission t u = (u.commission ≡ t.commission + 1) × (u.drift ≡ t.drift) × (u.losses ≡ t.losses)
NumbersOn Drift t u = (u.commission ≡ t.commission) × (u.drift ≡ t.drift + 1) × (u.losses ≡ t.losses)

numbers_by : (phase : Phase) (t : SegmentState) (at : ℕ) (o : Option ℕ) (f : FrameValue) → NumbersOn phase t (carried o (numbered phase (leaving at t)) f).0
numbers_by Commission t at None f = (refl, refl, refl)
numbers_by Commission t at (Some h) f = (refl, refl, refl)
numbers_by Drift t at None f = (refl, refl, refl)
numbers_by Drift t at (Some h) f = (refl, refl, refl)

pub step_numbers : (t : SegmentState) (wait_ns : ℕ) (f : FrameValue) → t.sent < 1000000 → NumbersOn (phase_of f.datagrams) t (segment_step t wait_ns f).0
unfolding segment_step
step_numbers t wait_ns f few =
    let phase = phase_of f.datagrams in
    let u = numbered phase (leaving (leaves_at t wait_ns) t) in
    rw (is_below t.sent 1000000 few) (numbers_by phase t (leaves_at t wait_ns) (loss_at u.losses phase (number_of phase u)) f)

-- a frame does not come back exactly where it is listed
back_by : (o : Option ℕ) (t : SegmentState) (f : FrameValue) → is_none (carried o t f).1 ≡ is_some o
back_by None t f = refl
back_by (Some h) t f = refl

next_number : (phase : Phase) (t : SegmentState) (at : ℕ) → loss_at (numbered phase (leaving at t)).losses phase (number_of phase (numbered phase (leaving at t))) ≡ loss_at t.losses phase (number_of phase t + 1)
next_number Commission t at = refl
next_number Drift t at = refl

pub step_back : (t : SegmentState) (wait_ns : ℕ) (f : FrameValue) → t.sent < 1000000
    → is_none (segment_step t wait_ns f).1 ≡ is_some (loss_at t.losses (phase_of f.datagrams) (number_of (phase_of f.datagrams) t + 1))
unfolding segment_step
step_back t wait_ns f few =
    let phase = phase_of f.datagrams in
    let at = leaves_at t wait_ns in
    let u = numbered phase (leaving at t) in
    rw (is_below t.sent 1000000 few) (back_by (loss_at u.losses phase (number_of phase u)) u f ∙ ap (λ (o : Option ℕ). is_some o) (next_number phase t at))

-- the phase of a frame, by its first datagram
drifting : (ds : List DatagramValue) (d : DatagramValue) → slice_get ds 0 ≡ Some d → phase_of ds ≡ phase_by d.head.command
drifting [] d is = absurd (let x = is in cc)
drifting (e ∷ ds) d is = let same : e ≡ d = cc in ap (λ (x : DatagramValue). phase_by x.head.command) same

pub drift_frame : (ds : List DatagramValue) (d : DatagramValue) → slice_get ds 0 ≡ Some d → d.head.command ≡ Frmw → phase_of ds ≡ Drift
drift_frame ds d is frmw = drifting ds d is ∙ ap phase_by frmw

not_frmw : (c : Command) → c ≢ Frmw → phase_by c ≡ Commission
not_frmw Frmw other = absurd (other refl)
not_frmw c other = refl

pub commission_frame : (ds : List DatagramValue) (d : DatagramValue) → slice_get ds 0 ≡ Some d → d.head.command ≢ Frmw → phase_of ds ≡ Commission
commission_frame ds d is other = drifting ds d is ∙ not_frmw d.head.command other
