-- What Set left stays behind commissioning.
use Rattle.std.proofs.Common.{◌≡◌, ℕ, List, length, map, Option, Some, None, sym, ap, subst, ◌∙◌, arith, refl}
use Rattle.std.specs.Prelude.{Ok, Err, option_map, slice_get}
use Rattle.std.proofs.lemmas.List.{length-map}
use Rattle.std.proofs.lemmas.Option.{slice_get-map}
use Rattle.copy_law.specs.Untouched.{HoldAlike}
use Rattle.copy_law.proofs.Untouching.{delay_untouched, offset_untouched}
use Rattle.copy_law.proofs.Held.{armed_holds, ran_holds, settled_holds}
use Rattle.copy_law.proofs.Slaves.{plain_held}
use Rattle.frame_pass.specs.Advancing.{advanced_to}
use Rattle.frame_pass.specs.Invariants.{IsSoundSegment}
use Rattle.frame_pass.specs.PlainRegisters.{IsPlain}
use Rattle.frame_pass.specs.SegmentState.{SegmentState, finished}
use Rattle.frame_pass.specs.SlaveState.{FixedPart, Slave, fixed_part, holds}
use Rattle.frame_pass.proofs.Exported.{finished_at, same_finished, same_step, plain_time, sound_at}
use Rattle.master_script.specs.Progress.{progress}
use Rattle.master_script.specs.Script.{Answer}
use Rattle.master_script.specs.Words.{Words, delay_at, offset_at}
use Rattle.honest_slaves.proofs.Exported.{had_before, low_where}
use Rattle.run_of_file.specs.MasterOfFile.{master_of}
use Rattle.run_of_file.specs.RunOfFile.{RunEnd, armed, commissioned, end_of_run, ran, rounded_off, run_of, settled}
use Rattle.run_of_file.proofs.Exported.{ran_on, IsFromStart, armed_exchanges, commissioned_exchanges, kept_by_runs, ran_exchanges, settled_exchanges}
use Rattle.segment_file.specs.Legal.{IsLegal}
use Rattle.segment_file.specs.Segment.{SegmentValue}
use Rattle.segment_start.specs.Start.{started_segment}
use Rattle.copy_law.specs.HeldOffsets.{AreSet}
use Rattle.copy_law.proofs.Registers.{HoldsOn, delay_plain, offset_plain, set_on}
use Rattle.copy_law.proofs.Runs.{commissioned_set}

some_same : {X : Type 0} {x y : X} → Some x ≡ Some y → x ≡ y
some_same e = cc

-- slaves that are the same but for time, and hold the same offsets and delays
record AreAlike (ss us : List Slave) : Type 0 where
  fixed : map fixed_part us ≡ map fixed_part ss
  offset : HoldAlike 0x0920 8 ss us
  delay : HoldAlike 0x0928 4 ss us

fixed_there : (ss us : List Slave) (p : ℕ) (v w : Slave) → map fixed_part us ≡ map fixed_part ss → slice_get ss p ≡ Some v → slice_get us p ≡ Some w → fixed_part w ≡ fixed_part v
fixed_there ss us p v w same is after =
    some_same (
    ap (option_map fixed_part) (sym after) ∙ sym (slice_get-map fixed_part us p) ∙ ap (λ (fs : List FixedPart). slice_get fs p) same ∙ slice_get-map fixed_part ss p ∙ ap (option_map fixed_part) is
    )

module _ (s : SegmentValue) (w : Words) (ss us : List Slave) (alike : AreAlike ss us) (set : AreSet s w ss) where
  many : length us ≡ length ss
  many = sym (length-map us fixed_part) ∙ ap length alike.fixed ∙ length-map ss fixed_part

  holds_on : (p : ℕ) (v u : Slave) → slice_get ss p ≡ Some v → slice_get us p ≡ Some u → HoldsOn v u
  holds_on p v u is after = record { kind_is = ap (λ f. f.kind) (fixed_there ss us p v u alike.fixed is after); offset_is = alike.offset p v u is after; delay_is = alike.delay p v u is after }

  are_set_on : AreSet s w us
  are_set_on = record {
    clocks = λ p u after clock.
        let within = low_where us p u after in
        let same = many in
        let v = had_before ss p (omega (arith, within, same)) in
        set_on (offset_at (master_of s) w p) (delay_at (master_of s) w p) v.slave u (holds_on p v.slave u v.is after) (set.clocks p v.slave v.is clock);
    others = λ p u after not.
        let within = low_where us p u after in
        let same = many in
        let v = had_before ss p (omega (arith, within, same)) in
        set_on 0 0 v.slave u (holds_on p v.slave u v.is after) (set.others p v.slave v.is not);
  }

-- the same slaves from the start on
fixed_run : (s : SegmentValue) (run : RunEnd) → IsFromStart s run → map fixed_part run.state.slaves ≡ map fixed_part (started_segment s).slaves
fixed_run s run from =
    kept_by_runs (λ (t : SegmentState). map fixed_part t.slaves ≡ map fixed_part (started_segment s).slaves) (λ t wait_ns f h. (same_step t wait_ns f).slaves ∙ h) run.exchanges (started_segment s) run.state from refl

module _ (s : SegmentValue) (legal : IsLegal s) (first : RunEnd) (was : commissioned s ≡ Some first) (ok : first.answer ≡ Ok tt) where
  abbrev words : Words
  words = (progress (master_of s) first.exchanges).words

  pub set_from : (run : RunEnd) → IsFromStart s run → HoldAlike 0x0920 8 first.state.slaves run.state.slaves → HoldAlike 0x0928 4 first.state.slaves run.state.slaves → AreSet s words run.state.slaves
  set_from run from offset delay =
      are_set_on s words first.state.slaves run.state.slaves (record { fixed = fixed_run s run from ∙ sym (fixed_run s first (commissioned_exchanges s first was)); offset = offset; delay = delay })
      (commissioned_set s legal first was ok)

  pub settled_set : (run : RunEnd) → settled s ≡ Some run → AreSet s words run.state.slaves
  settled_set run is =
      set_from run (settled_exchanges s run is) (settled_holds s legal 0x0920 8 (plain_held 0x0920 8 (offset_plain 8 (omega arith))) offset_untouched first run was is)
      (settled_holds s legal 0x0928 4 (plain_held 0x0928 4 delay_plain) delay_untouched first run was is)

  pub armed_set : (run : RunEnd) → armed s ≡ Some run → AreSet s words run.state.slaves
  armed_set run is =
      set_from run (armed_exchanges s run is) (armed_holds s legal 0x0920 8 (plain_held 0x0920 8 (offset_plain 8 (omega arith))) offset_untouched first run was is)
      (armed_holds s legal 0x0928 4 (plain_held 0x0928 4 delay_plain) delay_untouched first run was is)

  pub ran_set : (run : RunEnd) → ran s ≡ Some run → AreSet s words run.state.slaves
  ran_set run is =
      set_from run (ran_exchanges s run is) (ran_holds s legal 0x0920 8 (plain_held 0x0920 8 (offset_plain 8 (omega arith))) offset_untouched first run was is)
      (ran_holds s legal 0x0928 4 (plain_held 0x0928 4 delay_plain) delay_untouched first run was is)

  -- clocks that go on to the end of the run
  advanced_there : (at n t : ℕ) (v w : Slave) (o : Option Slave) → IsPlain at n → o ≡ Some v → length v.registers.bytes ≡ 4096 → option_map (advanced_to t) o ≡ Some w → holds n at w.registers ≡ holds n at v.registers
  advanced_there at n t v w o plain is size after =
      ap (λ (x : Slave). holds n at x.registers) (some_same (sym after ∙ ap (option_map (advanced_to t)) is)) ∙ plain_time at n t v plain size

  finished_alike : (at n t : ℕ) (x : SegmentState) → IsPlain at n → IsSoundSegment x → HoldAlike at n x.slaves (finished t x).slaves
  finished_alike at n t x plain sound p v w is after =
      advanced_there at n t v w (slice_get x.slaves p) plain is (sound_at x.round_trip x.free x.slaves p v sound is).size (sym (finished_at x t p) ∙ after)

  finished_set : (t : ℕ) (x : SegmentState) → IsSoundSegment x → AreSet s words x.slaves → AreSet s words (finished t x).slaves
  finished_set t x sound set =
      are_set_on s words x.slaves (finished t x).slaves
      (record { fixed = (same_finished t x).slaves; offset = finished_alike 0x0920 8 t x (offset_plain 8 (omega arith)) sound; delay = finished_alike 0x0928 4 t x delay_plain sound }) set

  rounded_set : (run : RunEnd) (answer : Answer) → IsSoundSegment run.state → AreSet s words run.state.slaves → AreSet s words (rounded_off s run answer).state.slaves
  rounded_set run (Ok tt) sound set = finished_set (end_of_run s run.state) run.state sound set
  rounded_set run (Err e) sound set = set

  whole_of : (o : Option RunEnd) → ((r : RunEnd) → o ≡ Some r → IsSoundSegment r.state) → ((r : RunEnd) → o ≡ Some r → AreSet s words r.state.slaves) → (end : RunEnd) → option_map (λ r. rounded_off s r r.answer) o ≡ Some end
      → AreSet s words end.state.slaves
  whole_of None sound set end is = absurd (let z = is in cc)
  whole_of (Some r) sound set end is = subst (λ (x : RunEnd). AreSet s words x.state.slaves) (some_same is) (rounded_set r r.answer (sound r refl) (set r refl))

  pub whole_set : (run : RunEnd) → run_of s ≡ Some run → AreSet s words run.state.slaves
  unfolding run_of
  whole_set run is = whole_of (ran s) (λ r e. ((ran_on s legal).on r e).timely) ran_set run is
