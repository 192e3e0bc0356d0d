use Rattle.std.proofs.Common.{◌≡◌, ◌+◌, ◌-◌, ◌∷◌, [], length, map, refl, ap, ◌∙◌, arith}
use Rattle.dc_master.proofs.Causes.{step_causes}
use Rattle.master_script.specs.Script.{Commission}
use Rattle.master_script.specs.Slaves.{SlaveWords}
use Rattle.std.proofs.Common.{List}
use Rattle.std.specs.List.{range_with_len}
use Rattle.std.proofs.lemmas.List.{length_push}
use Rattle.ecat_link.proofs.Exported.{serves_weaker}
use Rattle.dc_delay.specs.ShapeRows.{positions}
use Rattle.master_steps.proofs.Exported.{counted_then}
use Rattle.master_steps.specs.ConfigRange.{value_of}
use Rattle.master_steps.specs.Known.{words_of}
use Rattle.dc_master.proofs.Parts.{at_todo, range_more, refused_part, shown_none, then_err, then_ok}
use Rattle.dc_master.proofs.commission.identify_slaves.Goals as goal
use Rattle.master_script.specs.Progress.{Commissioning}
use Rattle.master_script.specs.Words.{Words}
use Rattle.master_script.specs.declared.step.Step.TheVariants.{Count, Identify}

pub returns-in-Err-clause-serves : goal.returns-in-Err-clause-serves
returns-in-Err-clause-serves g c =
    let cfg = value_of c.args.config.now in
    let v = words_of c.take.new.notes.learned in
    let rest = map Identify (positions (length c.args.config.now.kinds.items)) in
    let none = ap (λ (x : Words). x.reference) c.in-Err.ensures.stays ∙ c.requires.reference in
    serves_weaker g.L.Link.step _ _ _ _ _ _ _ (λ es b. b)
    (λ es b. refused_part cfg Commissioning c.take.new.notes.counters v (Count ∷ rest) [] c.in-Err.refusal es (shown_none cfg v (Count ∷ rest) none) b)
    (c.in-Err.ensures.serves rest)

pub loop-position-init : goal.loop-position-init
loop-position-init g c =
    let cfg = value_of c.args.config.now in
    let n = length c.args.config.now.kinds.items in
    let v = words_of c.take.new.notes.learned in
    let e = c.in_default.ensures in
    let same = e.learned.1 in
    let whole : n ≡ n - 0 = omega arith in
    record {
      serves = serves_weaker g.L.Link.step _ _ _ _ _ _ _ (λ es b. b)
          (λ es b. at_todo cfg Commissioning c.take.new.notes.counters v (map Identify (positions n)) (map Identify (range_with_len 0 (n - 0))) es (ap (λ k. map Identify (range_with_len 0 k)) whole) b)
          (e.serves (map Identify (positions n)));
      slaves = ap (λ (x : Words). length x.slaves) same ∙ ap (λ ss. length ss) c.requires.slaves;
      reference = ap (λ (x : Words). x.reference) same ∙ c.requires.reference;
      latches = ap (λ (x : Words). x.latches) same;
      delays = e.delays ∙ c.requires.delays;
      sent = record { more = omega (arith, e.sent.0); few = omega (arith, e.sent.1); lost = e.fewer; drifts = e.drifts };
      drifts = e.still refl;
      later = e.later;
      counted = e.counted;
    }

pub returns-in-Err-take-clause-serves : goal.returns-in-Err-take-clause-serves
returns-in-Err-take-clause-serves g c =
    let cfg = value_of c.args.config.now in
    let l = c.loop-position in
    let n = length c.args.config.now.kinds.items in
    let w = words_of l.notes.learned in
    let v = words_of c.take-in-loop-position.new.notes.learned in
    let rest = map Identify (range_with_len (l.position + 1) (n - (l.position + 1))) in
    let e = c.in-Err-take.ensures in
    let none = ap (λ (x : Words). x.reference) e.stays ∙ l.invariant.reference in
    then_err g.L.Link.step cfg (Identify l.position) _ l.notes.counters c.take-in-loop-position.new.notes.counters w v (map Identify (range_with_len l.position (n - l.position))) rest _ _ _ [] c.in-Err-take.refusal
    (range_more Identify n l.position (omega (arith, c.loop-position-test.true, c.len-position-end.ensures, c.requires.config.few))) (shown_none cfg v (Identify l.position ∷ rest) none) l.invariant.serves (e.serves rest)

pub loop-position-preserved : goal.loop-position-preserved
loop-position-preserved g c =
    let cfg = value_of c.args.config.now in
    let l = c.loop-position in
    let n = length c.args.config.now.kinds.items in
    let w = words_of l.notes.learned in
    let v = words_of c.take-in-loop-position.new.notes.learned in
    let rest = map Identify (range_with_len (l.position + 1) (n - (l.position + 1))) in
    let e = c.in_default-take.ensures in
    let same = e.learned.1 in
    let s = l.invariant.sent in
    record {
      serves = then_ok g.L.Link.step cfg (Identify l.position) _ l.notes.counters c.take-in-loop-position.new.notes.counters w v (map Identify (range_with_len l.position (n - l.position))) rest _ _ _
          (range_more Identify n l.position (omega (arith, c.loop-position-test.true, c.len-position-end.ensures, c.requires.config.few))) l.invariant.serves (e.serves rest);
      slaves = ap (λ (x : Words). length x.slaves) same ∙ length_push w.slaves _ ∙ ap (λ k. k + 1) l.invariant.slaves;
      reference = ap (λ (x : Words). x.reference) same ∙ l.invariant.reference;
      latches = ap (λ (x : Words). x.latches) same ∙ l.invariant.latches;
      delays = e.delays ∙ l.invariant.delays;
      sent = record { more = omega (arith, e.sent.0, s.more); few = omega (arith, e.sent.1, s.few); lost = e.fewer; drifts = e.drifts };
      drifts = e.still refl ∙ l.invariant.drifts;
      later = omega (arith, e.later, l.invariant.later);
      counted = counted_then c.args.notes.now.counters l.notes.counters c.take-in-loop-position.new.notes.counters _ _ _ l.invariant.counted e.counted;
    }

pub returns-in-Err-clause-caused : goal.returns-in-Err-clause-caused
returns-in-Err-clause-caused g c =
    step_causes (value_of c.args.config.now) Commission c.take.new.notes.counters.drifts (words_of c.take.new.notes.learned) Count c.in-Err.refusal tt tt c.in-Err.ensures.caused

pub returns-in-Err-clause-fewer : goal.returns-in-Err-clause-fewer
returns-in-Err-clause-fewer g c =
    let none = ap (λ (x : Words). length x.slaves) c.in-Err.ensures.stays ∙ ap (λ (x : List SlaveWords). length x) c.requires.slaves in
    omega (arith, none, c.requires.config.some)

pub returns-in-Err-take-clause-caused : goal.returns-in-Err-take-clause-caused
returns-in-Err-take-clause-caused g c =
    step_causes (value_of c.args.config.now) Commission c.take-in-loop-position.new.notes.counters.drifts (words_of c.take-in-loop-position.new.notes.learned) (Identify c.loop-position.position) c.in-Err-take.refusal tt tt c.in-Err-take.ensures.caused

pub returns-in-Err-take-clause-fewer : goal.returns-in-Err-take-clause-fewer
returns-in-Err-take-clause-fewer g c =
    let told = ap (λ (x : Words). length x.slaves) c.in-Err-take.ensures.stays ∙ c.loop-position.invariant.slaves in
    omega (arith, told, c.loop-position-test.true, c.len-position-end.ensures, c.requires.config.few)
