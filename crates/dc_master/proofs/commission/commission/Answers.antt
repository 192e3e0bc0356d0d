use Rattle.std.proofs.Common.{◌≡◌, ◌∙◌, map, sym, ap}
use Rattle.dc_master.proofs.Causes.{slaves_cause}
use Rattle.std.proofs.Common.{Ok, Err, arith}
use Rattle.ecat_link.proofs.Exported.{serves_then, serves_weaker}
use Rattle.master_steps.specs.ConfigRange.{value_of}
use Rattle.master_steps.specs.Known.{words_of}
use Rattle.master_frames.proofs.Exported.{never_judged}
use Rattle.dc_master.proofs.Parts.{at_todo}
use Rattle.dc_master.proofs.Planned.{planned_ok, ready, ready_still}
use Rattle.dc_master.proofs.commission.commission.Goals as goal
use Rattle.master_script.specs.Progress.{Commissioning}
use Rattle.master_script.specs.Slaves.{clocks, judgement}
use Rattle.master_script.specs.Words.{Words}
use Rattle.master_script.specs.declared.step.Refusal.TheVariants.{Lost}
use Rattle.master_script.specs.declared.step.Step.TheVariants.{Set}

pub returns-in-Err-judge_slaves-clause-lost : goal.returns-in-Err-judge_slaves-clause-lost
returns-in-Err-judge_slaves-clause-lost g c q e =
    let s : c.in-Err-judge_slaves.refusal ≡ Lost q = cc in
    absurd (never_judged c.deref.result.now c.in-Err-judge_slaves.refusal q c.in-Err-judge_slaves.ensures.is s)

pub returns-in-Err-measure-clause-serves : goal.returns-in-Err-measure-clause-serves
returns-in-Err-measure-clause-serves g c =
    let cfg = value_of c.args.config.now in
    let i = c.identify_slaves.new.notes in
    let w = words_of i.learned in
    let j = c.in-Ok.ensures.is ∙ ap (λ ss. judgement ss) c.deref.ensures.0 in
    serves_then g.L.Link.step _ _ _ _ _ _ _
    (serves_weaker g.L.Link.step _ _ _ _ _ _ _ (λ es b. b) (λ es b. planned_ok cfg i.counters w c.in-Ok.reference es c.identify_slaves.ensures.reference j b) c.in_default.ensures.serves)
    (serves_weaker g.L.Link.step _ _ _ _ _ _ _ (λ es b. b) (λ es b. rw (sym c.measure.ensures.delays) at b) c.in-Err-measure.ensures.serves)

pub returns-clause-serves : goal.returns-clause-serves
returns-clause-serves g c =
    let cfg = value_of c.args.config.now in
    let i = c.identify_slaves.new.notes in
    let w = words_of i.learned in
    let m = c.measure.new.notes in
    let v = words_of m.learned in
    let j = c.in-Ok.ensures.is ∙ ap (λ ss. judgement ss) c.deref.ensures.0 in
    serves_then g.L.Link.step _ _ _ _ _ _ _
    (serves_then g.L.Link.step _ _ _ _ _ _ _
    (serves_weaker g.L.Link.step _ _ _ _ _ _ _ (λ es b. b) (λ es b. planned_ok cfg i.counters w c.in-Ok.reference es c.identify_slaves.ensures.reference j b) c.in_default.ensures.serves)
    c.in_default-measure.ensures.serves)
    (serves_weaker g.L.Link.step _ _ _ _ _ _ _ (λ es b. at_todo cfg Commissioning m.counters v (map Set (clocks w.slaves)) (map Set (clocks v.slaves)) es (ap (λ ss. map Set (clocks ss)) (sym c.measure.ensures.slaves)) b)
    (λ es b. b) c.set_clocks.ensures.serves)

pub set_clocks-requires-clause-ready : goal.set_clocks-requires-clause-ready
set_clocks-requires-clause-ready g c =
    let slaves = c.deref.ensures.0 in
    ready (value_of c.args.config.now) (words_of c.measure.new.notes.learned) (words_of c.identify_slaves.new.notes.learned).slaves c.in-Ok.reference c.measure_delays.new.out.items
    c.requires.config.few c.in_default.ensures.slaves c.measure.ensures.slaves c.measure.ensures.reference
    (rw slaves at c.in-Ok.ensures.within) (rw slaves at c.in-Ok.ensures.clocks) (rw c.deref-2.ensures.value at c.measure_delays.ensures)

pub returns-clause-ready : goal.returns-clause-ready
returns-clause-ready g c =
    let slaves = c.deref.ensures.0 in
    ready_still (value_of c.args.config.now) (words_of c.measure.new.notes.learned) (words_of c.set_clocks.new.notes.learned) c.measure_delays.new.out.items c.set_clocks.new.notes.delays.items c.set_clocks.result
    c.set_clocks.ensures.words c.set_clocks.ensures.delays
    (ready (value_of c.args.config.now) (words_of c.measure.new.notes.learned) (words_of c.identify_slaves.new.notes.learned).slaves c.in-Ok.reference c.measure_delays.new.out.items
    c.requires.config.few c.in_default.ensures.slaves c.measure.ensures.slaves c.measure.ensures.reference
    (rw slaves at c.in-Ok.ensures.within) (rw slaves at c.in-Ok.ensures.clocks) (rw c.deref-2.ensures.value at c.measure_delays.ensures))

pub returns-in-Err-clause-judged : goal.returns-in-Err-clause-judged
returns-in-Err-clause-judged g c r a = absurd (let all = a.all in omega (arith, all, c.in-Err.ensures.fewer))

pub returns-in-Err-judge_slaves-clause-caused : goal.returns-in-Err-judge_slaves-clause-caused
returns-in-Err-judge_slaves-clause-caused g c =
    let i = c.identify_slaves.new.notes in
    slaves_cause (value_of c.args.config.now) i.counters.drifts (words_of i.learned) c.in-Err-judge_slaves.refusal c.in_default.ensures.slaves
    (sym (c.in-Err-judge_slaves.ensures.is ∙ ap (λ ss. judgement ss) c.deref.ensures.0))

pub returns-in-Err-judge_slaves-clause-judged : goal.returns-in-Err-judge_slaves-clause-judged
returns-in-Err-judge_slaves-clause-judged g c r a =
    let s = c.in-Err-judge_slaves.ensures.is ∙ ap (λ ss. judgement ss) c.deref.ensures.0 ∙ a.judged in
    let e : c.in-Err-judge_slaves.refusal ≡ r = cc in
    ap (λ x. Err x) e

pub returns-in-Err-measure-clause-judged : goal.returns-in-Err-measure-clause-judged
returns-in-Err-measure-clause-judged g c r a =
    let same = ap (λ ss. judgement ss) (sym c.measure.ensures.slaves) in
    absurd (let z : Ok c.in-Ok.reference ≡ Err r = c.in-Ok.ensures.is ∙ ap (λ ss. judgement ss) c.deref.ensures.0 ∙ same ∙ a.judged in cc)

pub returns-clause-judged : goal.returns-clause-judged
returns-clause-judged g c r a =
    let same = ap (λ ss. judgement ss) (sym (ap (λ (x : Words). x.slaves) c.set_clocks.ensures.words ∙ c.measure.ensures.slaves)) in
    absurd (let z : Ok c.in-Ok.reference ≡ Err r = c.in-Ok.ensures.is ∙ ap (λ ss. judgement ss) c.deref.ensures.0 ∙ same ∙ a.judged in cc)
