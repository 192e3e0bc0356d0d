use Rattle.std.proofs.Common.{◌≡◌, ◌+◌, ◌-◌, ◌<◌, [], ℕ, List, true, false, filter, length, map, refl, ap, sym, ◌∙◌, arith}
use Rattle.dc_master.proofs.Causes.{step_causes}
use Rattle.master_script.specs.Script.{Arm as ArmCall}
use Rattle.std.specs.List.{range_with_len}
use Rattle.ecat_link.proofs.Exported.{serves_none, serves_weaker}
use Rattle.dc_bounds.specs.Weight.{flag}
use Rattle.master_frames.proofs.Exported.{left, left_end, left_no, left_yes}
use Rattle.master_steps.proofs.Exported.{counted_none, counted_then}
use Rattle.master_steps.specs.ConfigRange.{value_of}
use Rattle.master_steps.specs.Known.{words_of}
use Rattle.dc_master.proofs.Parts.{at_todo, then_err, then_ok}
use Rattle.dc_master.proofs.Times.{shown_arm}
use Rattle.dc_master.proofs.commission.arm.Goals as goal
use Rattle.dc_master.proofs.commission.arm.Goals.{then-is_clock+in_default, else-is_clock}
use Rattle.master_script.specs.Progress.{Arming}
use Rattle.master_script.specs.Slaves.{clocks, is_clock}
use Rattle.master_script.specs.Words.{Words, delays_of}
use Rattle.master_script.specs.declared.step.Step.TheVariants.{Arm}

pub loop-position-init : goal.loop-position-init
loop-position-init g c =
    let cfg = value_of c.args.config.now in
    let w = words_of c.args.notes.now.learned in
    let n = length w.slaves in
    let flags = flag (map is_clock w.slaves) in
    let whole : n ≡ n - 0 = omega arith in
    record {
      serves = serves_none g.L.Link.step _ _ _ _
          (λ es b. at_todo cfg Arming c.args.notes.now.counters w (map Arm (clocks w.slaves)) (map Arm (left flags n 0)) es (ap (λ k. map Arm (filter flags (range_with_len 0 k))) whole) b);
      words = refl;
      delays = refl;
      sent = record { more = omega arith; few = omega arith; lost = c.requires.room.lost; drifts = c.requires.room.drifts };
      later = omega arith;
      counted = counted_none c.args.notes.now.counters _;
    }

pub returns-in-Err-clause-serves : goal.returns-in-Err-clause-serves
returns-in-Err-clause-serves g c =
    let cfg = value_of c.args.config.now in
    let l = c.loop-position in
    let ss = (words_of c.args.notes.now.learned).slaves in
    let n = length ss in
    let flags = flag (map is_clock ss) in
    let w = words_of l.notes.learned in
    let v = words_of c.take.new.notes.learned in
    let same = c.in-Err.ensures.stays ∙ l.invariant.words in
    let ready = c.requires.ready in
    let reference = ap (λ (x : Words). x.reference) same ∙ ready.reference.1 in
    let less : l.position < n = omega (arith, c.loop-position-test.true, c.len-position-end.ensures.value, ready.slaves) in
    let marked : flags l.position ≡ true = ap (λ (x : Words). flag (map is_clock x.slaves) l.position) (sym l.invariant.words) ∙ sym c.is_clock.ensures ∙ c.if-is_clock.true in
    let others = left flags n (l.position + 1) in
    let kept = shown_arm cfg v ready.reference.0 l.position others reference ∙ ap (λ (x : Words). delays_of cfg x) same ∙ sym ready.delays ∙ sym (c.in-Err.ensures.delays ∙ l.invariant.delays) in
    (then_err g.L.Link.step cfg (Arm l.position) _ l.notes.counters c.take.new.notes.counters w v (map Arm (left flags n l.position)) (map Arm others) _ _ _ c.take.new.notes.delays.items c.in-Err.refusal
    (ap (λ (ps : List ℕ). map Arm ps) (left_yes flags n l.position less marked)) kept l.invariant.serves (c.in-Err.ensures.serves (map Arm others)))

pub loop-position-preserved : goal.loop-position-preserved
loop-position-preserved g c =
    let cfg = value_of c.args.config.now in
    let l = c.loop-position in
    let ss = (words_of c.args.notes.now.learned).slaves in
    let n = length ss in
    let flags = flag (map is_clock ss) in
    let w = words_of l.notes.learned in
    let i = l.invariant in
    let others = left flags n (l.position + 1) in
    let less : l.position < n = omega (arith, c.loop-position-test.true, c.len-position-end.ensures.value, c.requires.ready.slaves) in
    let told = ap (λ (x : Words). flag (map is_clock x.slaves) l.position) (sym i.words) ∙ sym c.is_clock.ensures in
    elim c.if-is_clock.branch [
      | then-is_clock+in_default b ↦
          let marked : flags l.position ≡ true = told ∙ b.if-is_clock.true in
          let e = b.in_default.ensures in
          let v = words_of b.take.new.notes.learned in
          rw (b.notes-is, b.link-is) (record {
            serves = then_ok g.L.Link.step cfg (Arm l.position) _ l.notes.counters b.take.new.notes.counters w v (map Arm (left flags n l.position)) (map Arm others) _ _ _
                (ap (λ (ps : List ℕ). map Arm ps) (left_yes flags n l.position less marked)) i.serves (e.serves (map Arm others));
            words = e.learned.1 ∙ i.words;
            delays = e.delays ∙ i.delays;
            sent = record { more = omega (arith, e.sent.0, i.sent.more); few = omega (arith, e.sent.1, i.sent.few); lost = e.fewer; drifts = e.drifts };
            later = omega (arith, e.later, i.later);
            counted = counted_then c.args.notes.now.counters l.notes.counters b.take.new.notes.counters _ _ _ i.counted e.counted;
          })
      | else-is_clock b ↦
          let unmarked : flags l.position ≡ false = told ∙ b.if-is_clock.false in
          rw (b.notes-is, b.link-is) (record {
            serves = serves_weaker g.L.Link.step _ _ _ _ _ _ _ (λ es p. p)
                (λ es p. at_todo cfg Arming l.notes.counters w (map Arm (left flags n l.position)) (map Arm others) es (ap (λ (ps : List ℕ). map Arm ps) (left_no flags n l.position less unmarked)) p) i.serves;
            words = i.words;
            delays = i.delays;
            sent = record { more = i.sent.more; few = omega (arith, i.sent.few); lost = i.sent.lost; drifts = i.sent.drifts };
            later = i.later;
            counted = i.counted;
          })
    ]

pub returns-clause-serves : goal.returns-clause-serves
returns-clause-serves g c =
    let cfg = value_of c.args.config.now in
    let l = c.loop-position in
    let ss = (words_of c.args.notes.now.learned).slaves in
    let n = length ss in
    let flags = flag (map is_clock ss) in
    (serves_weaker g.L.Link.step _ _ _ _ _ _ _ (λ es p. p)
    (λ es p. at_todo cfg Arming l.notes.counters (words_of l.notes.learned) (map Arm (left flags n l.position)) [] es
    (ap (λ (ps : List ℕ). map Arm ps) (left_end flags n l.position (omega (arith, c.loop-position-test.false, c.len-position-end.ensures.value, c.requires.ready.slaves)))) p)
    l.invariant.serves)

pub returns-in-Err-clause-caused : goal.returns-in-Err-clause-caused
returns-in-Err-clause-caused g c =
    step_causes (value_of c.args.config.now) ArmCall c.take.new.notes.counters.drifts (words_of c.take.new.notes.learned) (Arm c.loop-position.position) c.in-Err.refusal tt tt c.in-Err.ensures.caused
