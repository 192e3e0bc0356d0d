use Rattle.std.proofs.Common.{◌≡◌, ◌∙◌, ◌<◌, Ok, Err, refl, sym, ap, arith, length}
use Rattle.dc_master.proofs.Causes.{cause_as, drift_causes}
use Rattle.master_script.specs.Script.{Settle as SettleCall}
use Rattle.ecat_frame.specs.Built.{built}
use Rattle.ecat_link.proofs.Exported.{serves_none, serves_weaker}
use Rattle.master_steps.proofs.Exported.{counted_none, counted_then}
use Rattle.master_steps.specs.ConfigRange.{value_of}
use Rattle.master_steps.specs.Known.{words_of}
use Rattle.dc_master.proofs.Driving.{ready_timed, refused_behind, refused_same, settle_back, settle_first, settle_missed, settle_none, time_none, timed_never, words_timed}
use Rattle.dc_master.proofs.drift.settle.Goals as goal
use Rattle.dc_master.proofs.drift.settle.Goals.{in-Some+in_default-receive_time, in_default}
use Rattle.master_script.specs.Config.{settle_frames}
use Rattle.master_script.specs.Frames.{drift_datagrams}
use Rattle.master_script.specs.Slaves.{clocks}
use Rattle.master_script.specs.Words.{Words, reference_of}
use Rattle.master_script.specs.declared.step.Refusal.TheVariants.{Lost}

pub loop-number-init : goal.loop-number-init
loop-number-init g c =
    let w = words_of c.args.notes.now.learned in
    record {
      serves = serves_none g.L.Link.step _ _ _ _ (λ es b. settle_first (value_of c.args.config.now) c.args.notes.now.counters w es c.requires.first b);
      words = refl;
      delays = refl;
      sent = record { more = omega arith; few = omega arith; lost = c.requires.room.lost; drifts = c.requires.room.drifts };
      drifts = c.requires.first;
      later = omega arith;
      counted = counted_none c.args.notes.now.counters _;
      rose = λ z. omega arith;
    }

pub returns-in-Err-clause-serves : goal.returns-in-Err-clause-serves
returns-in-Err-clause-serves g c =
    let cfg = value_of c.args.config.now in
    let l = c.loop-number in
    let i = l.invariant in
    let w = words_of l.notes.learned in
    let m = c.send.new.counters in
    let t = c.receive_time.new.notes in
    let v = words_of t.learned in
    let e = c.in-Err.ensures in
    let less : l.notes.counters.drifts < settle_frames cfg = omega (arith, i.drifts, c.loop-number-test.true, c.settle_frames-number-end.ensures) in
    let reference = c.drift_frame-sent.ensures ∙ ap (λ k. built (drift_datagrams k)) (c.reference_or_0.ensures ∙ ap (λ (x : Words). reference_of x) (sym i.words)) in
    let many = c.clocks-clocks.ensures.is ∙ ap (λ (x : Words). length (clocks x.slaves)) (sym i.words) in
    let ready = ready_timed cfg (words_of c.args.notes.now.learned) w l.notes.learned.time c.args.notes.now.delays.items t.delays.items i.words (e.delays ∙ i.delays) c.requires.ready in
    serves_weaker g.L.Link.step _ _ _ _ _ _ _ (λ es b. b)
    (λ es b. refused_same cfg m t.counters w v t.delays.items c.in-Err.refusal es e.counters e.is.1 (refused_behind cfg m w t.delays.items c.in-Err.refusal es ready b))
    (settle_back g.L.Link.step cfg _ l.notes.counters m w _ _ _ _ _ refl reference c.in-Some.reply v c.clocks-clocks.result (Err c.in-Err.refusal) less c.in-Some.ensures.counters many e.is i.serves c.in-Some.ensures.told)

pub returns-in-Err-clause-lost : goal.returns-in-Err-clause-lost
returns-in-Err-clause-lost g c q e =
    let s : c.in-Err.refusal ≡ Lost q = cc in
    absurd (timed_never (value_of c.args.config.now) c.send.new.counters c.clocks-clocks.result c.drift_frame-sent.result c.in-Some.reply (words_of c.loop-number.notes.learned) (words_of c.receive_time.new.notes.learned) c.in-Err.refusal q c.in-Err.ensures.is s)

pub loop-number-preserved : goal.loop-number-preserved
loop-number-preserved g c =
    let cfg = value_of c.args.config.now in
    let l = c.loop-number in
    let i = l.invariant in
    let w = words_of l.notes.learned in
    let less : l.notes.counters.drifts < settle_frames cfg = omega (arith, i.drifts, c.loop-number-test.true, c.settle_frames-number-end.ensures) in
    let reference = c.drift_frame-sent.ensures ∙ ap (λ k. built (drift_datagrams k)) (c.reference_or_0.ensures ∙ ap (λ (x : Words). reference_of x) (sym i.words)) in
    let many = c.clocks-clocks.ensures.is ∙ ap (λ (x : Words). length (clocks x.slaves)) (sym i.words) in
    elim c.match-send.branch [
      | in-Some+in_default-receive_time b ↦
          let s = b.in-Some.ensures in
          let n = s.counters in
          let e = b.in_default-receive_time.ensures in
          let t = b.receive_time.new.notes in
          let v = words_of t.learned in
          let m = e.counters ∙ n in
          rw b.notes-is (record {
            serves = rw e.counters (settle_back g.L.Link.step cfg _ l.notes.counters c.send.new.counters w _ _ _ _ _ refl reference b.in-Some.reply v c.clocks-clocks.result (Ok b.in_default-receive_time.field-0) less n many e.is i.serves s.told);
            words = words_timed (words_of c.args.notes.now.learned) w v l.notes.learned.time _ i.words e.is.1;
            delays = e.delays ∙ i.delays;
            sent = rw m (record { more = omega (arith, i.sent.more); few = omega (arith, i.sent.few); lost = omega (arith, i.sent.lost); drifts = omega (arith, i.sent.drifts) });
            drifts = rw m (omega (arith, i.drifts));
            later = omega (arith, i.later, s.later);
            counted = rw e.counters (counted_then c.args.notes.now.counters l.notes.counters c.send.new.counters _ _ _ i.counted s.counted);
            rose = λ z. absurd (let y = sym z ∙ ap (λ (x : Words). x.time) e.is.1 in cc);
          })
      | in_default b ↦
          let s = b.in_default.ensures in
          let n = s.counters in
          rw b.notes-is (record {
            serves = settle_missed g.L.Link.step cfg _ l.notes.counters c.send.new.counters w _ _ _ _ _ refl reference less n i.serves s.told;
            words = i.words;
            delays = i.delays;
            sent = rw n (record { more = omega (arith, i.sent.more); few = omega (arith, i.sent.few); lost = omega (arith, i.sent.lost); drifts = omega (arith, i.sent.drifts) });
            drifts = rw n (omega (arith, i.drifts));
            later = omega (arith, i.later, s.later);
            counted = counted_then c.args.notes.now.counters l.notes.counters c.send.new.counters _ _ _ i.counted s.counted;
            rose = λ z. let r = i.rose z in let x = s.lost refl in omega (arith, r, x, s.later);
          })
    ]

pub returns-then-is_none-clause-serves : goal.returns-then-is_none-clause-serves
returns-then-is_none-clause-serves g c =
    let cfg = value_of c.args.config.now in
    let l = c.loop-number in
    let i = l.invariant in
    let w = words_of l.notes.learned in
    let ready = ready_timed cfg (words_of c.args.notes.now.learned) w l.notes.learned.time c.args.notes.now.delays.items l.notes.delays.items i.words i.delays c.requires.ready in
    let z = time_none l.notes.learned.time c.is_none.result c.is_none.ensures c.if-is_none.true in
    let d : l.notes.counters.drifts ≡ settle_frames cfg = omega (arith, i.drifts, c.loop-number-test.false, l.auto._number-end, c.settle_frames-number-end.ensures) in
    serves_weaker g.L.Link.step _ _ _ _ _ _ _ (λ es b. b) (λ es b. settle_none cfg l.notes.counters w l.notes.delays.items es ready d z b) i.serves

pub returns-clause-ready : goal.returns-clause-ready
returns-clause-ready g c =
    let l = c.loop-number in
    ready_timed (value_of c.args.config.now) (words_of c.args.notes.now.learned) (words_of l.notes.learned) l.notes.learned.time c.args.notes.now.delays.items l.notes.delays.items l.invariant.words l.invariant.delays c.requires.ready

pub returns-in-Err-clause-caused : goal.returns-in-Err-clause-caused
returns-in-Err-clause-caused g c =
    let cfg = value_of c.args.config.now in
    let l = c.loop-number in
    let e = c.in-Err.ensures in
    let w = words_of l.notes.learned in
    let same = sym l.invariant.words in
    let reference = c.drift_frame-sent.ensures ∙ ap (λ k. built (drift_datagrams k)) (c.reference_or_0.ensures ∙ ap (λ (x : Words). reference_of x) same) in
    let many = c.clocks-clocks.ensures.is ∙ ap (λ (x : Words). length (clocks x.slaves)) same in
    cause_as cfg SettleCall c.send.new.counters c.receive_time.new.notes.counters w (words_of c.receive_time.new.notes.learned) c.in-Err.refusal e.counters e.is.1
    (drift_causes cfg SettleCall c.send.new.counters.drifts c.clocks-clocks.result w c.drift_frame-sent.result c.in-Some.reply c.in-Err.refusal refl reference many c.receive_time.ensures.valid e.is.0)
