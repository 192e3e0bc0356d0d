-- What a commissioning that ended with Ok leaves: the receive times of the Latch that came back, in the slaves and with the master.
use Rattle.std.proofs.Common.{◌≡◌, ℕ, ◌*◌, ◌<◌, ◌⊎◌, Bool, true, false, [], ◌∷◌, length, Option, Some, None, Ok, refl, sym, ap, subst, ◌∙◌, inl, inr}
use Rattle.std.specs.Prelude.{slice_index_or}
use Rattle.dc_bounds.specs.LockNumbers.{period_fs}
use Rattle.dc_delay.specs.declared.latch.Latch.{Latch}
use Rattle.ecat_link.specs.Serves.{End, Sends}
use Rattle.ecat_link.proofs.Exported.{driven}
use Rattle.segment_file.specs.Legal.{IsLegal}
use Rattle.segment_file.specs.Segment.{SegmentValue, measures_at, row_at}
use Rattle.esc_regs.specs.Kinds.{measures}
use Rattle.segment_start.specs.Start.{started_segment}
use Rattle.frame_pass.specs.SegmentState.{segment_step}
use Rattle.master_script.specs.Begins.{Begins}
use Rattle.master_script.specs.Progress.{Commissioning, Settling, Progress, later_steps, progress}
use Rattle.master_script.specs.Script.{Answer, Commission, script}
use Rattle.master_script.specs.declared.step.Step.TheVariants.{Latch as LatchStep}
use Rattle.master_script.proofs.Exported.{commission_done}
use Rattle.honest_slaves.specs.FileSlaves.{kind_at, status_at}
use Rattle.honest_slaves.proofs.Exported.{IsLate, row_has}
use Rattle.run_of_file.specs.MasterOfFile.{master_of}
use Rattle.run_of_file.specs.RunOfFile.{RunEnd, commissioned, turns}
use Rattle.delay_law.specs.HeldTimes.{AllHold}
use Rattle.delay_law.specs.ToldTimes.{AreTold, TellsTimes}
use Rattle.delay_law.proofs.Measuring.{IsLatched, IsMeasuring, IsToldBy, IsUnjudged, reading_steps}
use Rattle.delay_law.proofs.Runs.{IsHonestHere, IsOnWay, first_clock, late_of, starts, walk}

-- a commissioning, whether it ended with Ok or was refused
pub way_of : (s : SegmentValue) (legal : IsLegal s) (run : RunEnd) → commissioned s ≡ Some run → IsOnWay s legal run.exchanges run.state
unfolding commissioned
way_of s legal run is =
    let d = driven segment_step (script (master_of s) Commission) turns [] (started_segment s) run is in
    subst (λ es. IsOnWay s legal es run.state) (sym d.all) (walk s legal d.more [] (started_segment s) run.state (starts s legal) d.script d.runs)

-- the settle phase begins behind it
settling_begins : (s : SegmentValue) (run : RunEnd) → commissioned s ≡ Some run → run.answer ≡ Ok tt → Begins (master_of s) Settling (progress (master_of s) run.exchanges)
unfolding commissioned
settling_begins s run is ok =
    let cfg = master_of s in
    let d = driven segment_step (script cfg Commission) turns [] (started_segment s) run is in
    let sends : Sends (script cfg Commission) [] run.exchanges = subst (Sends (script cfg Commission) []) (sym d.all) d.script in
    (commission_done cfg run.exchanges sends (d.end ∙ ap (λ (a : Answer). End a) ok)).0

unlike : (b : Bool) → b ≡ true → b ≡ false → ⊥
unlike true e f = let z = f in cc
unlike false e f = let z = e in cc

module _ (s : SegmentValue) (legal : IsLegal s) (run : RunEnd) (is : commissioned s ≡ Some run) (ok : run.answer ≡ Ok tt) where
  abbrev p : Progress
  p = progress (master_of s) run.exchanges

  way : IsOnWay s legal run.exchanges run.state
  way = way_of s legal run is

  begins : Begins (master_of s) Settling p
  begins = settling_begins s run is ok

  -- so a Latch came back
  pub latched : IsLatched s p run.state.slaves
  latched = by way.measuring
    where
      unjudged : IsUnjudged p → (h : IsHonestHere s legal p run.state.slaves) → IsLatched s p run.state.slaves
      unjudged first (inl h) = absurd (let z : Settling ≡ Commissioning = sym begins.phase_is ∙ h.phase in cc)
      unjudged first (inr (inl h)) = absurd (let z : None ≡ Some (first_clock s legal) = sym first.reference ∙ h.knows.reference in cc)
      unjudged first (inr (inr h)) = absurd (h.refused begins.unrefused)

      judged : (p.todo ≡ later_steps p.words.slaves) ⊎ (p.todo ≡ LatchStep ∷ reading_steps p.words.slaves) → IsLatched s p run.state.slaves
      judged (inl are) = absurd (let z = sym begins.todo ∙ are in cc)
      judged (inr are) = absurd (let z = sym begins.todo ∙ are in cc)

      by : IsMeasuring s p run.state.slaves → IsLatched s p run.state.slaves
      by (inl opened) = elim (opened.stage) [
        | inl first ↦ unjudged first way.honest
        | inr j ↦ judged j.todo
      ]
      by (inr h) = h

  pub late : IsLate (kind_at s) (status_at s) (length s.rows) (first_clock s legal) p run.state.slaves
  late = late_of s legal p run.state.slaves latched.reference way.honest begins.unrefused latched.is

  pub at_end : p.todo ≡ []
  at_end = begins.todo

  abbrev pub sent_at : ℕ
  sent_at = p.words.latched * period_fs s.head.frame_ns

  pub holds : AllHold s sent_at run.state.slaves
  holds = latched.holds

  kind_is : (q : ℕ) → q < length s.rows → measures (kind_at s q) ≡ measures_at s.rows (row_at s q)
  kind_is q low = row_has measures s legal q low

  told_at : (q : ℕ) → q < length s.rows → IsToldBy s sent_at q [] (slice_index_or p.words.latches q None)
  told_at q low = subst (λ todo. IsToldBy s sent_at q todo (slice_index_or p.words.latches q None)) at_end (latched.told q low)

  pub told : AreTold s sent_at p.words.latches
  told = record {
    measuring = λ q low does. there q (kind_is q low ∙ does) (slice_index_or p.words.latches q None) refl (told_at q low);
    others = λ q low not. none q (kind_is q low ∙ not) (slice_index_or p.words.latches q None) refl (told_at q low);
  }
    where
      there : (q : ℕ) → measures (kind_at s q) ≡ true → (o : Option Latch) → slice_index_or p.words.latches q None ≡ o → IsToldBy s sent_at q [] o
          → (latch : Latch) × (slice_index_or p.words.latches q None ≡ Some latch) × TellsTimes s q sent_at latch
      there q does None e (inl h) = absurd (unlike (measures (kind_at s q)) does h)
      there q does None e (inr h) = absurd h
      there q does (Some latch) e h = (latch, e, h.1)

      none : (q : ℕ) → measures (kind_at s q) ≡ false → (o : Option Latch) → slice_index_or p.words.latches q None ≡ o → IsToldBy s sent_at q [] o → slice_index_or p.words.latches q None ≡ None
      none q not None e h = e
      none q not (Some latch) e h = absurd (unlike (measures (kind_at s q)) h.0 not)
