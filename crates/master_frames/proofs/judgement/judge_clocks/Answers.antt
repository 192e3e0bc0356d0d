use Rattle.std.proofs.Common.{◌≡◌, ◌∙◌, Some, Ok, length, map, sym}
use Rattle.std.specs.List.{find}
use Rattle.std.proofs.lemmas.List.{length-map}
use Rattle.dc_bounds.specs.Weight.{flag}
use Rattle.dc_delay.specs.ShapeRows.{positions}
use Rattle.master_frames.proofs.Judging.{accepted, same_ok, some_clock, some_measuring}
use Rattle.master_frames.proofs.judgement.judge_clocks.Goals as goal
use Rattle.master_script.specs.Slaves.{is_clock}

pub returns-in-Some-clause-is : goal.returns-in-Some-clause-is
returns-in-Some-clause-is c =
    let ss = c.args.slaves.now in
    let shape = c.args.shape.now in
    let em = c.deref.ensures.0 ∙ c.measuring.ensures in
    let ec = c.deref-2.ensures.0 ∙ c.clocks-clocks.ensures in
    let e = c.deref-in-Ok.ensures.0 ∙ c.clocks-clocks.ensures in
    let flags = flag (map is_clock ss) in
    let whole : length (map is_clock ss) ≡ length shape = length-map ss is_clock ∙ sym c.requires.whole in
    let found : find flags (positions (length shape)) ≡ Some c.in-Some.reference = rw (← whole) (rw e at (sym c.in-Some.ensures.is)) in
    rw (em, ec) at
    (accepted shape (flag c.deref.result.now) (flag c.deref-2.result.now) c.judge.result c.judge.ensures.exactly (Ok c.in-Some.reference) c.in-Ok.is
    (λ r f. same_ok c.in-Some.reference r (sym found ∙ (rw ec at f))))

pub returns-in-Some-clause-clocks : goal.returns-in-Some-clause-clocks
returns-in-Some-clause-clocks c =
    let ss = c.args.slaves.now in
    let e = c.deref-in-Ok.ensures.0 ∙ c.clocks-clocks.ensures in
    let found = rw e at (sym c.in-Some.ensures.is) in
    some_clock ss c.in-Some.reference (length (map is_clock ss)) (length-map ss is_clock) found

pub returns-in-Some-clause-measuring : goal.returns-in-Some-clause-measuring
returns-in-Some-clause-measuring c =
    let ss = c.args.slaves.now in
    let e = c.deref-in-Ok.ensures.0 ∙ c.clocks-clocks.ensures in
    let found = rw e at (sym c.in-Some.ensures.is) in
    some_measuring ss c.in-Some.reference (length (map is_clock ss)) (length-map ss is_clock) found
