-- The phases of a run, one behind another, by the numbers of their frames.
use Rattle.std.proofs.Common.{◌≡◌, ℕ, ◌+◌, List, [], ◌++◌, length, length-append, Some, refl, sym, ap, subst, ◌∙◌, append_assoc, arith}
use Rattle.std.proofs.lemmas.List.{append-nil}
use Rattle.ecat_link.specs.Exchanges.{Exchange, Runs}
use Rattle.ecat_link.proofs.Exported.{runs_then}
use Rattle.frame_pass.specs.SegmentState.{segment_step}
use Rattle.master_script.specs.Script.{Arm, Call, Commission, Run, Settle}
use Rattle.master_script.specs.Scripted.{IsLimited, none}
use Rattle.master_script.proofs.Exported.{progress_sent}
use Rattle.run_counts.specs.Numbered.{AreNumbered}
use Rattle.run_counts.proofs.Numbering.{Went, call_went, numbered_then}
use Rattle.run_of_file.specs.MasterOfFile.{master_of}
use Rattle.run_of_file.specs.RunOfFile.{RunEnd, armed, commissioned, frames_given, ran, settled}
use Rattle.run_counts.proofs.Commissioned.{has_commissioned}
use Rattle.run_counts.proofs.Led.{Followed, HasGone, IsLed, followed, led_on, off, on}
use Rattle.run_counts.proofs.Numbers.{frames_of, in_step, starts_in_step}
use Rattle.segment_file.specs.Legal.{IsLegal}
use Rattle.segment_file.specs.Segment.{SegmentValue}
use Rattle.loss_list.specs.declared.loss_row.Phase.{Phase}
use Rattle.loss_list.specs.declared.loss_row.Phase.TheVariants as phase
use Rattle.segment_start.specs.Start.{started_segment}

some_same : {X : Type 0} {x y : X} → Some x ≡ Some y → x ≡ y
some_same e = cc

-- the exchanges of commissioning
pub commission_numbered : (s : SegmentValue) → IsLegal s → (run : RunEnd) → commissioned s ≡ Some run → AreNumbered s phase.Commission 1 run.exchanges
commission_numbered s legal run is =
    let h = (has_commissioned s legal run is).0 in
    let start = starts_in_step s in
    let went = call_went s legal Commission tt [] run.exchanges (started_segment s) run.state none start h.sends h.runs in
    let sent = start.sent in
    let both = start.commission in
    let drift = start.drift in
    let count = progress_sent (master_of s) [] in
    let begin : (started_segment s).commission + 1 ≡ 1 = omega (arith, sent, both, count) in
    subst (λ (n : ℕ). AreNumbered s phase.Commission n run.exchanges) begin went.numbered

-- So many drift frames were made behind commissioning.
pub record Drifted (s : SegmentValue) (first run : RunEnd) : Type 0 where
  pub led : IsLed s run
  pub more : List Exchange
  pub all : run.exchanges ≡ first.exchanges ++ more
  pub runs : Runs segment_step (Some first.state) more (Some run.state)
  pub numbered : AreNumbered s phase.Drift 1 more
  pub many : run.state.drift ≡ length more

-- a call behind them
pub drifted_on : (s : SegmentValue) → IsLegal s → (call : Call) → IsLimited (frames_given s) call → (first before run : RunEnd) → Drifted s first before → (gone : HasGone s call before run)
    → Went s phase.Drift before.state run.state gone.more → Drifted s first run
drifted_on s legal call limited first before run d gone went =
    let many = d.many in
    let last : run.state.drift ≡ before.state.drift + length gone.more = went.last in
    let parts = length-append d.more gone.more in
    record {
      led = led_on s call before run limited d.led gone;
      more = d.more ++ gone.more;
      all = gone.all ∙ ap (λ (es : List Exchange). es ++ gone.more) d.all ∙ append_assoc first.exchanges d.more gone.more;
      runs = runs_then segment_step d.more gone.more (Some first.state) (Some before.state) (Some run.state) d.runs gone.runs;
      numbered = numbered_then s phase.Drift 1 (before.state.drift + 1) d.more gone.more (omega (arith, many)) d.numbered went.numbered;
      many = omega (arith, many, last, parts);
    }

-- what a call makes behind a run
pub went_of : (s : SegmentValue) → IsLegal s → (call : Call) → IsLimited (frames_given s) call → (before run : RunEnd) → IsLed s before → (gone : HasGone s call before run)
    → Went s (frames_of call) before.state run.state gone.more
went_of s legal call limited before run led gone =
    call_went s legal call limited before.exchanges gone.more before.state run.state led.scripted (in_step s legal before.exchanges before.state led.scripted led.runs) gone.sends gone.runs

module _ (s : SegmentValue) (legal : IsLegal s) where
  -- none yet
  pub commission_none : (run : RunEnd) → commissioned s ≡ Some run → run.state.drift ≡ 0
  commission_none run is =
      let h = (has_commissioned s legal run is).0 in
      let start = starts_in_step s in
      let went = call_went s legal Commission tt [] run.exchanges (started_segment s) run.state none start h.sends h.runs in
      let end = in_step s legal run.exchanges run.state h.scripted h.runs in
      let first_sent = start.sent in
      let first_both = start.commission in
      let first_count = progress_sent (master_of s) [] in
      let last : run.state.commission ≡ (started_segment s).commission + length run.exchanges = went.last in
      let sent = end.sent in
      let both = end.commission in
      let count = progress_sent (master_of s) run.exchanges in
      omega (arith, first_sent, first_both, first_count, last, sent, both, count)

  pub commission_drifted : (run : RunEnd) → commissioned s ≡ Some run → Drifted s run run
  commission_drifted run is =
      let h = (has_commissioned s legal run is).0 in
      record {
        led = record { scripted = h.scripted; runs = h.runs };
        more = [];
        all = sym (append-nil run.exchanges);
        runs = refl;
        numbered = tt;
        many = commission_none run is;
      }

  behind_call : (call : Call) → IsLimited (frames_given s) call → frames_of call ≡ phase.Drift → (first before run : RunEnd) → Drifted s first before → Followed s call before run → Drifted s first run
  behind_call call limited is first before run d (off e told same) = subst (λ (r : RunEnd). Drifted s first r) same d
  behind_call call limited is first before run d (on ok gone) =
      drifted_on s legal call limited first before run d gone
      (subst (λ (x : Phase). Went s x before.state run.state gone.more) is (went_of s legal call limited before run d.led gone))

  pub settled_drifted : (first run : RunEnd) → commissioned s ≡ Some first → settled s ≡ Some run → Drifted s first run
  unfolding settled
  settled_drifted first run was is =
      let f = followed s Settle (commissioned s) run is in
      behind_call Settle tt refl first f.0 run (subst (λ (r : RunEnd). Drifted s first r) (some_same (sym was ∙ f.1)) (commission_drifted first was)) f.2

  pub armed_drifted : (first run : RunEnd) → commissioned s ≡ Some first → armed s ≡ Some run → Drifted s first run
  unfolding armed
  armed_drifted first run was is = let f = followed s Arm (settled s) run is in behind_call Arm tt refl first f.0 run (settled_drifted first f.0 was f.1) f.2

  pub ran_drifted : (first run : RunEnd) → commissioned s ≡ Some first → ran s ≡ Some run → Drifted s first run
  unfolding ran
  ran_drifted first run was is =
      let f = followed s (Run (frames_given s)) (armed s) run is in
      behind_call (Run (frames_given s)) (omega arith) refl first f.0 run (armed_drifted first f.0 was f.1) f.2
