-- What holds of the segment behind drift frames.
use Rattle.std.proofs.Common.{◌≡◌, ℕ, ◌+◌, ◌*◌, List, [], ◌∷◌, ◌++◌, length, length-append, map, Some, Ok, refl, sym, ap, subst, ◌∙◌, append_assoc, arith}
use Rattle.std.proofs.lemmas.List.{append-nil, append_cancel_left}
use Rattle.copy_law.specs.Drifting.{IsBehind, StandsBehind}
use Rattle.copy_law.specs.HeldOffsets.{AreSet}
use Rattle.copy_law.specs.Speeds.{AllCorrect}
use Rattle.copy_law.specs.Untouched.{CorrectAlike, IsUntouched, ticks_to_correction}
use Rattle.copy_law.proofs.Behind.{drifts_led, wanted_there}
use Rattle.copy_law.proofs.BehindLatch.{set_from}
use Rattle.copy_law.proofs.Held.{alike_at, drifted_alike}
use Rattle.copy_law.proofs.Rated.{still_correct}
use Rattle.copy_law.proofs.Registers.{delay_plain, offset_plain}
use Rattle.copy_law.proofs.Slaves.{IsKept, corrections_kept, plain_held}
use Rattle.copy_law.proofs.States.{all_behind, mindful_all, orderly_led}
use Rattle.copy_law.proofs.Untouching.{delay_untouched, offset_untouched, speed_untouched}
use Rattle.dc_bounds.specs.LockNumbers.{period_fs}
use Rattle.delay_law.specs.OfFile.{IsOfFile}
use Rattle.delay_law.proofs.Exported.{fixed_first, fixed_step}
use Rattle.ecat_frame.specs.FrameGrammar.{FrameValue}
use Rattle.ecat_link.specs.Exchanges.{Exchange}
use Rattle.ecat_link.proofs.Exported.{runs_then}
use Rattle.frame_pass.specs.SegmentState.{SegmentState, segment_step}
use Rattle.frame_pass.specs.SlaveState.{Slave, holds}
use Rattle.frame_pass.proofs.Exported.{timely_step}
use Rattle.honest_slaves.specs.FileSlaves.{kind_at, status_at}
use Rattle.honest_slaves.specs.Told.{AreInOrder}
use Rattle.honest_slaves.proofs.Exported.{commissioned_late, same_many}
use Rattle.loss_list.specs.declared.loss_row.Phase.TheVariants as phase
use Rattle.master_script.specs.Config.{ConfigValue}
use Rattle.master_script.specs.Progress.{progress}
use Rattle.master_script.specs.Scripted.{AreScripted}
use Rattle.master_script.proofs.Exported.{progress_sent}
use Rattle.run_counts.specs.Numbered.{AreNumbered}
use Rattle.run_counts.specs.OnTheWay.{StandsAfter}
use Rattle.run_counts.proofs.Exported.{Drifted, commission_drifted, commission_none, few_sent, in_step, ran_drifted, some_kinds, stands_after}
use Rattle.run_of_file.specs.Commissioned.{words_after}
use Rattle.run_of_file.specs.MasterOfFile.{master_of}
use Rattle.run_of_file.specs.RunOfFile.{RunEnd, frames_given}
use Rattle.run_of_file.proofs.Exported.{IsFromStart, as_many_kinds, commissioned_exchanges, commissioned_on, few_rows, kept_by_runs}
use Rattle.segment_file.specs.Legal.{IsLegal}
use Rattle.segment_file.specs.Segment.{SegmentValue}
use Rattle.segment_start.specs.Start.{started_segment}
use Rattle.segment_start.proofs.Exported.{as_many, starts_timely}

-- what is scripted is so up to any exchange
scripted_before : (cfg : ConfigValue) (frames : ℕ) (all : List Exchange) → AreScripted cfg frames all → (es rest : List Exchange) → all ≡ es ++ rest → AreScripted cfg frames es
scripted_before cfg frames all made es [] is = subst (AreScripted cfg frames) (is ∙ append-nil es) made
scripted_before cfg frames all made es (e ∷ rest) is = (wanted_there cfg frames all made es e rest is).scripted

numbered_before : (s : SegmentValue) (number : ℕ) (es rest : List Exchange) → AreNumbered s phase.Drift number (es ++ rest) → AreNumbered s phase.Drift number es
numbered_before s number [] rest h = tt
numbered_before s number (e ∷ es) rest h = (h.0, h.1, numbered_before s (number + 1) es rest h.2)

-- the states of a file on the way
pub file_first : (s : SegmentValue) → IsLegal s → IsOfFile s (started_segment s)
file_first s legal = record { many = as_many s legal; sound = starts_timely s legal; fixed = fixed_first s legal }

pub file_step : (s : SegmentValue) → IsLegal s → (t : SegmentState) (wait_ns : ℕ) (f : FrameValue) → IsOfFile s t → IsOfFile s (segment_step t wait_ns f).0
file_step s legal t wait_ns f h = record {
  many = same_many t wait_ns f ∙ h.many;
  sound = timely_step t wait_ns f h.sound;
  fixed = fixed_step s legal t h.many h.sound h.fixed wait_ns f;
}

module _ (s : SegmentValue) (legal : IsLegal s) (k : ℕ) (t : SegmentState) (b : IsBehind s k t) where
  abbrev sofar : List Exchange
  sofar = b.first.exchanges ++ b.before

  -- the run, as if it ended there
  abbrev pub cut : RunEnd
  cut = record { exchanges = b.first.exchanges ++ b.before; state = t; answer = Ok tt }

  pub from_start : IsFromStart s cut
  from_start =
      runs_then segment_step b.first.exchanges b.before (Some (started_segment s)) (Some b.first.state) (Some t) (commissioned_exchanges s b.first b.commissioned) b.led

  whole : Drifted s b.first b.run
  whole = ran_drifted s legal b.first b.run b.commissioned b.ran

  pub scripted : AreScripted (master_of s) (frames_given s) sofar
  scripted =
      scripted_before (master_of s) (frames_given s) b.run.exchanges whole.led.scripted sofar b.rest
      (b.all ∙ sym (append_assoc b.first.exchanges b.before b.rest))

  numbered : AreNumbered s phase.Drift 1 b.before
  numbered =
      numbered_before s 1 b.before b.rest
      (subst (AreNumbered s phase.Drift 1) (append_cancel_left b.first.exchanges whole.more (b.before ++ b.rest) (sym whole.all ∙ b.all)) whole.numbered)

  sent_first : b.first.state.sent ≡ length b.first.exchanges
  sent_first =
      let led = (commission_drifted s legal b.first b.commissioned).led in
      (in_step s legal b.first.exchanges b.first.state led.scripted led.runs).sent ∙ progress_sent (master_of s) b.first.exchanges

  drifts : t.drift ≡ length b.before
  drifts =
      let none = commission_none s legal b.first b.commissioned in
      let few = few_sent s legal sofar scripted in
      let parts = length-append b.first.exchanges b.before in
      let sent = sent_first in
      let led = drifts_led s 1 b.before b.first.state t (omega (arith, few, parts, sent)) numbered b.led in
      omega (arith, none, led)

  pub drifted : Drifted s b.first cut
  drifted = record { led = record { scripted = scripted; runs = from_start }; more = b.before; all = refl; runs = b.led; numbered = numbered; many = drifts }

  -- what drift frames keep of slaves is as commissioning left it
  pub behind_alike : {X : Type 0} (see : Slave → X) (at n : ℕ) → IsKept see at n → IsUntouched at n → map see t.slaves ≡ map see b.first.state.slaves
  behind_alike see at n kept far = drifted_alike see at n kept far s legal b.first cut b.commissioned drifted

  pub corrections_behind : CorrectAlike b.first.state.slaves t.slaves
  corrections_behind = alike_at ticks_to_correction b.first.state.slaves t.slaves (behind_alike ticks_to_correction 0x0930 2 corrections_kept speed_untouched)

  of_file : IsOfFile s t
  of_file = kept_by_runs (IsOfFile s) (file_step s legal) sofar (started_segment s) t from_start (file_first s legal)

  in_order : AreInOrder (kind_at s) (status_at s) (length s.rows) (length s.rows) t.slaves
  in_order =
      let many = as_many_kinds s legal in
      let few = few_rows s legal in
      let all = mindful_all (master_of s) (frames_given s) (some_kinds s legal) (omega (arith, many, few)) sofar scripted in
      (orderly_led s b.before b.first.state t b.led (all_behind b.first.exchanges b.before all)
      (record { sound = ((commissioned_on s legal).on b.first b.commissioned).timely; are = (commissioned_late s legal b.first b.commissioned b.ok).late.are })).are

  stands : StandsAfter s (progress (master_of s) sofar).sent (progress (master_of s) sofar).drifts t
  stands = stands_after s legal sofar t scripted from_start

  sendings : (progress (master_of s) sofar).sent ≡ length b.first.exchanges + k
  sendings =
      let sent = progress_sent (master_of s) sofar in
      let parts = length-append b.first.exchanges b.before in
      let number = b.number in
      omega (arith, sent, parts, number)

  offsets : AreSet s (words_after s b.first) t.slaves
  offsets =
      set_from s legal b.first b.commissioned b.ok cut from_start
      (alike_at (λ (v : Slave). holds 8 0x0920 v.registers) b.first.state.slaves t.slaves
      (behind_alike (λ (v : Slave). holds 8 0x0920 v.registers) 0x0920 8 (plain_held 0x0920 8 (offset_plain 8 (omega arith))) offset_untouched))
      (alike_at (λ (v : Slave). holds 4 0x0928 v.registers) b.first.state.slaves t.slaves
      (behind_alike (λ (v : Slave). holds 4 0x0928 v.registers) 0x0928 4 (plain_held 0x0928 4 delay_plain) delay_untouched))

  corrections : AllCorrect s t.slaves
  corrections =
      still_correct s legal b.first b.commissioned b.ok cut (behind_alike ticks_to_correction 0x0930 2 corrections_kept speed_untouched)

  pub stands_behind : StandsBehind s b.first k t
  stands_behind =
      let more : (progress (master_of s) sofar).sent + 1 ≡ length b.first.exchanges + (k + 1) = let same = sendings in omega (arith, same) in
      record {
        file = of_file;
        named = in_order;
        sent = stands.sent ∙ sendings;
        drift = drifts ∙ sym b.number;
        last = stands.last ∙ ap (λ (n : ℕ). n * period_fs s.head.frame_ns) sendings;
        next = stands.next ∙ ap (λ (n : ℕ). n * period_fs s.head.frame_ns) more;
        set = offsets;
        speeds = corrections;
      }
