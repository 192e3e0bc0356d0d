-- What a step does to the slave at a position.
use Rattle.std.proofs.Common.{◌≡◌, ℕ, zero, suc, ◌+◌, ◌<◌, ◌≤◌, List, [], ◌∷◌, Option, Some, None, false, refl, ap, ◌∙◌}
use Rattle.std.specs.Prelude.{slice_get, option_map}
use Rattle.std.specs.List.{AllByRecursion}
use Rattle.std.proofs.lemmas.Option.{slice_get-map}
use Rattle.ecat_frame.specs.FrameGrammar.{DatagramValue, FrameValue}
use Rattle.loss_list.specs.Losses.{loss_at}
use Rattle.loss_list.specs.declared.loss_row.Phase.{Phase}
use Rattle.loss_list.specs.declared.loss_row.Phase.TheVariants.{Commission, Drift}
use Rattle.frame_pass.specs.SlaveState.{Timing, Slave}
use Rattle.frame_pass.specs.Advancing.{advanced_to}
use Rattle.frame_pass.specs.FramePass.{slave_behind, slave_passed, slaves_passed, datagrams_behind, are_latching, at_arrival, end_of}
use Rattle.frame_pass.specs.SegmentState.{SegmentState, segment_step, leaves_at, carried, numbered, leaving, number_of, phase_of, finished, expected_at, expecting, changed_at}
use Rattle.frame_pass.specs.Reach.{reach_of, reached_by}
use Rattle.frame_pass.specs.Invariants.{IsSound, IsSoundSegment}
use Rattle.frame_pass.proofs.Schedule.{is_below}
use Rattle.frame_pass.proofs.Unreached.{reached, stays}

same_slaves : (phase : Phase) (s : SegmentState) (at : ℕ) → (numbered phase (leaving at s)).slaves ≡ s.slaves
same_slaves Commission s at = refl
same_slaves Drift s at = refl

same_last : (phase : Phase) (s : SegmentState) (at : ℕ) → (numbered phase (leaving at s)).last ≡ at
same_last Commission s at = refl
same_last Drift s at = refl

carried_slaves : (o : Option ℕ) (s : SegmentState) (f : FrameValue)
    → (carried o s f).0.slaves ≡ slaves_passed (reached_by o s.slaves) s.last (end_of (reached_by o s.slaves) s.slaves) s.slaves f.datagrams
carried_slaves None s f = refl
carried_slaves (Some h) s f = refl

pub step_slaves : (s : SegmentState) (wait : ℕ) (f : FrameValue) → s.sent < 1000000
    → (segment_step s wait f).0.slaves ≡ slaves_passed (reach_of s f) (leaves_at s wait) (end_of (reach_of s f) s.slaves) s.slaves f.datagrams
unfolding segment_step reach_of
step_slaves s wait f few =
    let phase = phase_of f.datagrams in
    rw (is_below s.sent 1000000 few)
    (carried_slaves (loss_at (numbered phase (leaving (leaves_at s wait) s)).losses phase (number_of phase (numbered phase (leaving (leaves_at s wait) s))))
    (numbered phase (leaving (leaves_at s wait) s)) f
    ∙ same phase)
  where
    same : (phase : Phase) → slaves_passed (reached_by (loss_at (numbered phase (leaving (leaves_at s wait) s)).losses phase (number_of phase (numbered phase (leaving (leaves_at s wait) s)))) (numbered phase (leaving (leaves_at s wait) s)).slaves)
        (numbered phase (leaving (leaves_at s wait) s)).last
        (end_of (reached_by (loss_at (numbered phase (leaving (leaves_at s wait) s)).losses phase (number_of phase (numbered phase (leaving (leaves_at s wait) s)))) (numbered phase (leaving (leaves_at s wait) s)).slaves) (numbered phase (leaving (leaves_at s wait) s)).slaves)
        (numbered phase (leaving (leaves_at s wait) s)).slaves f.datagrams
        ≡ slaves_passed (reached_by (loss_at s.losses phase (number_of phase s + 1)) s.slaves) (leaves_at s wait)
        (end_of (reached_by (loss_at s.losses phase (number_of phase s + 1)) s.slaves) s.slaves) s.slaves f.datagrams
    same Commission = refl
    same Drift = refl

pub step_reached : (s : SegmentState) (wait : ℕ) (f : FrameValue) (p : ℕ) (v : Slave) → s.sent < 1000000 → p < reach_of s f → slice_get s.slaves p ≡ Some v
    → slice_get (segment_step s wait f).0.slaves p
    ≡ Some (slave_passed (leaves_at s wait) (end_of (reach_of s f) s.slaves) v (datagrams_behind p (leaves_at s wait) s.slaves f.datagrams))
step_reached s wait f p v few low is =
    ap (λ ss. slice_get ss p) (step_slaves s wait f few) ∙ reached (reach_of s f) (leaves_at s wait) (end_of (reach_of s f) s.slaves) s.slaves f.datagrams p v low is

pub step_stays : (s : SegmentState) (wait : ℕ) (f : FrameValue) (p : ℕ) → s.sent < 1000000 → reach_of s f ≤ p
    → slice_get (segment_step s wait f).0.slaves p ≡ slice_get s.slaves p
step_stays s wait f p few low =
    ap (λ ss. slice_get ss p) (step_slaves s wait f few) ∙ stays (reach_of s f) (leaves_at s wait) (end_of (reach_of s f) s.slaves) s.slaves f.datagrams p low

pub finished_at : (s : SegmentState) (t p : ℕ) → slice_get (finished t s).slaves p ≡ option_map (advanced_to t) (slice_get s.slaves p)
unfolding finished
finished_at s t p = slice_get-map (advanced_to t) s.slaves p

pub not_latching : (sent : ℕ) (end : Option ℕ) (s : Slave) (ds : List DatagramValue) → are_latching (at_arrival sent s) ds ≡ false
    → slave_passed sent end s ds ≡ slave_behind (at_arrival sent s) ds
unfolding slave_passed
not_latching sent end s ds none = rw none refl

sound_expecting : (trip limit t : ℕ) (s : Slave) → IsSound trip limit s → IsSound trip limit (expecting t s)
sound_expecting trip limit t s h = by s.timing refl
  where
    by : (o : Option Timing) → s.timing ≡ o → IsSound trip limit (expecting t s)
    by None e = record { size = h.size; time = rw e tt; visits = h.visits }
    by (Some m) e = record { size = h.size; time = let low : m.clock.instant ≤ limit = (rw e at h.time) in rw e low; visits = h.visits }

sound_changed : (trip limit t position : ℕ) (ss : List Slave) → AllByRecursion (IsSound trip limit) ss → AllByRecursion (IsSound trip limit) (changed_at position (expecting t) ss)
unfolding changed_at
sound_changed trip limit t position [] a = a
sound_changed trip limit t zero (s ∷ ss) a = (sound_expecting trip limit t s a.0, a.1)
sound_changed trip limit t (suc position) (s ∷ ss) a = (a.0, sound_changed trip limit t position ss a.1)

pub sound_expected : (s : SegmentState) (position t : ℕ) → IsSoundSegment s → IsSoundSegment (expected_at position t s)
unfolding expected_at
sound_expected s position t h = sound_changed s.round_trip s.free t position s.slaves h
