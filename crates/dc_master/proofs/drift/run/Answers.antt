use Rattle.std.proofs.Common.{◌≡◌, ◌∙◌, ◌+◌, Some, None, refl, sym, ap, arith}
use Rattle.dc_master.proofs.Causes.{drift_causes}
use Rattle.std.proofs.Common.{length}
use Rattle.master_script.specs.Words.{Words, reference_of}
use Rattle.master_script.specs.Slaves.{clocks}
use Rattle.master_script.specs.Script.{Run}
use Rattle.ecat_frame.specs.Built.{built}
use Rattle.ecat_link.proofs.Exported.{serves_none, serves_weaker}
use Rattle.master_steps.proofs.Exported.{counted_none, counted_then, never_lost}
use Rattle.master_steps.specs.ConfigRange.{value_of}
use Rattle.master_steps.specs.Known.{words_of}
use Rattle.dc_master.proofs.Driving.{ran_as, refused_as, run_back, run_missed, run_refused}
use Rattle.dc_master.proofs.drift.run.Goals as goal
use Rattle.dc_master.proofs.drift.run.Goals.{in-Some+in_default-judge_drift, in_default}
use Rattle.master_script.specs.Frames.{drift_datagrams}
use Rattle.master_script.specs.declared.step.Refusal.TheVariants.{Lost}
use Rattle.master_script.specs.declared.step.Step.TheVariants.{Drift}

pub loop-number-init : goal.loop-number-init
loop-number-init g c = record {
  serves = serves_none g.L.Link.step _ _ _ _ (λ es b. b);
  words = refl;
  delays = refl;
  sent = record { more = omega arith; few = omega arith; lost = c.requires.room.lost; drifts = c.requires.room.drifts };
  later = omega arith;
  counted = counted_none c.args.notes.now.counters _;
}

pub returns-in-Some-judge_drift-clause-serves : goal.returns-in-Some-judge_drift-clause-serves
returns-in-Some-judge_drift-clause-serves g c =
    let cfg = value_of c.args.config.now in
    let l = c.loop-number in
    let w = words_of c.args.notes.now.learned in
    let m = c.send.new.counters in
    let reference = c.drift_frame-sent.ensures ∙ ap (λ k. built (drift_datagrams k)) c.reference_or_0.ensures in
    serves_weaker g.L.Link.step _ _ _ _ _ _ _ (λ es b. b)
    (λ es b. refused_as cfg m w (words_of l.notes.learned) c.args.notes.now.delays.items l.notes.delays.items c.in-Some-judge_drift.refusal es l.invariant.words l.invariant.delays
    (run_refused cfg m w c.args.notes.now.delays.items (l._number + 1) c.in-Some-judge_drift.refusal es c.requires.ready b))
    (run_back g.L.Link.step cfg _ l.notes.counters m w _ _ _ _ _ refl reference c.in-Some.reply c.clocks-clocks.result (Some c.in-Some-judge_drift.refusal) l._number c.args.frames c.loop-number-test.true c.in-Some.ensures.counters
    c.clocks-clocks.ensures.is c.in-Some-judge_drift.ensures.is l.invariant.serves c.in-Some.ensures.told)

pub returns-in-Some-judge_drift-clause-lost : goal.returns-in-Some-judge_drift-clause-lost
returns-in-Some-judge_drift-clause-lost g c q e =
    let s : c.in-Some-judge_drift.refusal ≡ Lost q = cc in
    never_lost (Drift c.send.new.counters.drifts) q _ c.drift_frame-sent.result c.in-Some.reply (sym c.in-Some-judge_drift.ensures.is ∙ ap (λ x. Some x) s)

pub loop-number-preserved : goal.loop-number-preserved
loop-number-preserved g c =
    let cfg = value_of c.args.config.now in
    let l = c.loop-number in
    let i = l.invariant in
    let w = words_of c.args.notes.now.learned in
    let m = c.send.new.counters in
    let reference = c.drift_frame-sent.ensures ∙ ap (λ k. built (drift_datagrams k)) c.reference_or_0.ensures in
    elim c.match-send.branch [
      | in-Some+in_default-judge_drift b ↦
          let s = b.in-Some.ensures in
          let n = s.counters in
          record {
            serves = run_back g.L.Link.step cfg _ l.notes.counters m w _ _ _ _ _ refl reference b.in-Some.reply c.clocks-clocks.result None l._number c.args.frames c.loop-number-test.true n
                c.clocks-clocks.ensures.is b.in_default-judge_drift.ensures.is i.serves s.told;
            words = i.words;
            delays = i.delays;
            sent = rw n (record { more = omega (arith, i.sent.more); few = omega (arith, i.sent.few); lost = omega (arith, i.sent.lost); drifts = omega (arith, i.sent.drifts) });
            later = omega (arith, i.later, s.later);
            counted = counted_then c.args.notes.now.counters l.notes.counters m _ _ _ i.counted s.counted;
          }
      | in_default b ↦
          let s = b.in_default.ensures in
          let n = s.counters in
          record {
            serves = run_missed g.L.Link.step cfg _ l.notes.counters m w _ _ _ _ _ refl reference l._number c.args.frames c.loop-number-test.true n i.serves s.told;
            words = i.words;
            delays = i.delays;
            sent = rw n (record { more = omega (arith, i.sent.more); few = omega (arith, i.sent.few); lost = omega (arith, i.sent.lost); drifts = omega (arith, i.sent.drifts) });
            later = omega (arith, i.later, s.later);
            counted = counted_then c.args.notes.now.counters l.notes.counters m _ _ _ i.counted s.counted;
          }
    ]

pub returns-clause-serves : goal.returns-clause-serves
returns-clause-serves g c =
    let cfg = value_of c.args.config.now in
    let l = c.loop-number in
    let w = words_of c.args.notes.now.learned in
    serves_weaker g.L.Link.step _ _ _ _ _ _ _ (λ es b. b)
    (λ es b. ran_as cfg l.notes.counters w (words_of l.notes.learned) l._number c.args.frames es l.invariant.words (omega (arith, c.loop-number-test.false, l.auto._number-end)) b) l.invariant.serves

pub returns-in-Some-judge_drift-clause-caused : goal.returns-in-Some-judge_drift-clause-caused
returns-in-Some-judge_drift-clause-caused g c =
    let l = c.loop-number in
    let same = sym l.invariant.words in
    let reference = c.drift_frame-sent.ensures ∙ ap (λ k. built (drift_datagrams k)) (c.reference_or_0.ensures ∙ ap (λ (x : Words). reference_of x) same) in
    let many = c.clocks-clocks.ensures.is ∙ ap (λ (x : Words). length (clocks x.slaves)) same in
    drift_causes (value_of c.args.config.now) (Run c.args.frames) c.send.new.counters.drifts c.clocks-clocks.result (words_of l.notes.learned) c.drift_frame-sent.result c.in-Some.reply c.in-Some-judge_drift.refusal refl reference many
    c.judge_drift.ensures.valid (sym c.in-Some-judge_drift.ensures.is)
