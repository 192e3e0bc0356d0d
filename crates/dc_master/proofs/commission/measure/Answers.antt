use Rattle.std.proofs.Common.{◌∷◌, ◌++◌, [], map, refl, ap, sym, ◌∙◌}
use Rattle.dc_master.proofs.Causes.{step_causes}
use Rattle.master_script.specs.Script.{Commission}
use Rattle.ecat_link.proofs.Exported.{serves_then, serves_weaker}
use Rattle.master_steps.specs.ConfigRange.{value_of}
use Rattle.master_steps.specs.Known.{words_of}
use Rattle.dc_master.proofs.Parts.{at_todo, refused_part, then_err, then_ok}
use Rattle.dc_master.proofs.Times.{shown_ahead, times_ahead}
use Rattle.dc_master.proofs.commission.measure.Goals as goal
use Rattle.master_script.specs.Progress.{Commissioning}
use Rattle.master_script.specs.Slaves.{clocks, measuring}
use Rattle.master_script.specs.Words.{Words}
use Rattle.master_script.specs.declared.step.Step.TheVariants.{Latch, Rate, Set, Times}

pub returns-in-Err-clause-serves : goal.returns-in-Err-clause-serves
returns-in-Err-clause-serves g c =
    let cfg = value_of c.args.config.now in
    let w = words_of c.args.notes.now.learned in
    let v = words_of c.take.new.notes.learned in
    let rest = Latch ∷ map Times (measuring w.slaves) ++ map Set (clocks w.slaves) in
    serves_weaker g.L.Link.step _ _ _ _ _ _ _ (λ es b. b)
    (λ es b. refused_part cfg Commissioning c.take.new.notes.counters v (Rate ∷ rest) [] c.in-Err.refusal es
    (shown_ahead cfg v (Rate ∷ rest) (times_ahead (measuring w.slaves) (map Set (clocks w.slaves)) c.requires.some)) b)
    (c.in-Err.ensures.serves rest)

pub returns-in-Err-take-clause-serves : goal.returns-in-Err-take-clause-serves
returns-in-Err-take-clause-serves g c =
    let cfg = value_of c.args.config.now in
    let w = words_of c.args.notes.now.learned in
    let v = words_of c.take.new.notes.learned in
    let u = words_of c.take-2.new.notes.learned in
    let rest = map Times (measuring w.slaves) ++ map Set (clocks w.slaves) in
    then_err g.L.Link.step cfg Latch _ c.take.new.notes.counters c.take-2.new.notes.counters v u (Latch ∷ rest) rest _ _ _ [] c.in-Err-take.refusal refl
    (shown_ahead cfg u (Latch ∷ rest) (times_ahead (measuring w.slaves) (map Set (clocks w.slaves)) c.requires.some))
    (c.in_default.ensures.serves (Latch ∷ rest)) (c.in-Err-take.ensures.serves rest)

pub returns-clause-serves : goal.returns-clause-serves
returns-clause-serves g c =
    let cfg = value_of c.args.config.now in
    let w = words_of c.args.notes.now.learned in
    let v = words_of c.take.new.notes.learned in
    let u = words_of c.take-2.new.notes.learned in
    let rest = map Times (measuring w.slaves) ++ map Set (clocks w.slaves) in
    let same = ap (λ (x : Words). x.slaves) c.in_default-take.ensures.learned.1 ∙ ap (λ (x : Words). x.slaves) c.in_default.ensures.learned.1 in
    serves_then g.L.Link.step _ _ _ _ _ _ _
    (then_ok g.L.Link.step cfg Latch _ c.take.new.notes.counters c.take-2.new.notes.counters v u (Latch ∷ rest) rest _ _ _ refl
    (c.in_default.ensures.serves (Latch ∷ rest)) (c.in_default-take.ensures.serves rest))
    (serves_weaker g.L.Link.step _ _ _ _ _ _ _ (λ es b. at_todo cfg Commissioning c.take-2.new.notes.counters u rest (map Times (measuring u.slaves) ++ map Set (clocks w.slaves)) es
    (ap (λ ss. map Times (measuring ss) ++ map Set (clocks w.slaves)) (sym same)) b) (λ es b. b)
    (c.read_times.ensures.serves (map Set (clocks w.slaves))))

pub returns-in-Err-clause-caused : goal.returns-in-Err-clause-caused
returns-in-Err-clause-caused g c =
    step_causes (value_of c.args.config.now) Commission c.take.new.notes.counters.drifts (words_of c.take.new.notes.learned) Rate c.in-Err.refusal tt tt c.in-Err.ensures.caused

pub returns-in-Err-take-clause-caused : goal.returns-in-Err-take-clause-caused
returns-in-Err-take-clause-caused g c =
    step_causes (value_of c.args.config.now) Commission c.take-2.new.notes.counters.drifts (words_of c.take-2.new.notes.learned) Latch c.in-Err-take.refusal tt tt c.in-Err-take.ensures.caused
