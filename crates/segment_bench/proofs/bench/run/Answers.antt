use Rattle.std.proofs.Common.{ap, ◌∙◌, ◌+◌, ◌*◌}
use Rattle.dc_bounds.specs.LockNumbers.{period_fs}
use Rattle.frame_pass.specs.SegmentState.{SegmentState}
use Rattle.segment_bench.proofs.Phases.{commissions, settles, arms, runs, stops_commissioned, stops_settled, stops_armed, stops_ran, sends_few, ends}
use Rattle.segment_bench.proofs.bench.run.Goals as goal

pub returns-in-Err : goal.returns-in-Err
returns-in-Err c =
    let s = c.args.segment.now in
    let new = c.requires.new in
    let at = commissions s c.args.bench.now c.commission.new.self c.commission.result new c.commission.ensures.answered.config (c.commission.ensures.serves c.requires.refusal) in
    stops_commissioned s c.commission.new.self c.commission.result c.in-Err.error at c.in-Err.is

pub returns-in-Err-settle : goal.returns-in-Err-settle
returns-in-Err-settle c =
    let s = c.args.segment.now in
    let new = c.requires.new in
    let at = commissions s c.args.bench.now c.commission.new.self c.commission.result new c.commission.ensures.answered.config (c.commission.ensures.serves c.requires.refusal) in
    let at2 = settles s c.commission.new.self c.settle.new.self c.commission.result c.settle.result new.legal at c.in_default.is c.settle.ensures.answered.config
    (c.settle.ensures.serves c.in_default.ensures.answered.refusal) in
    stops_settled s c.settle.new.self c.settle.result c.in-Err-settle.error at2 c.in-Err-settle.is

pub returns-in-Err-arm : goal.returns-in-Err-arm
returns-in-Err-arm c =
    let s = c.args.segment.now in
    let new = c.requires.new in
    let at = commissions s c.args.bench.now c.commission.new.self c.commission.result new c.commission.ensures.answered.config (c.commission.ensures.serves c.requires.refusal) in
    let at2 = settles s c.commission.new.self c.settle.new.self c.commission.result c.settle.result new.legal at c.in_default.is c.settle.ensures.answered.config
    (c.settle.ensures.serves c.in_default.ensures.answered.refusal) in
    let at3 = arms s c.settle.new.self c.arm.new.self c.settle.result c.arm.result new.legal at2 c.in_default-settle.is c.arm.ensures.answered.config
    (c.arm.ensures.serves c.in_default-settle.ensures.answered.refusal) in
    stops_armed s c.arm.new.self c.arm.result c.in-Err-arm.error at3 c.in-Err-arm.is

pub returns-in-Err-run : goal.returns-in-Err-run
returns-in-Err-run c =
    let s = c.args.segment.now in
    let new = c.requires.new in
    let at = commissions s c.args.bench.now c.commission.new.self c.commission.result new c.commission.ensures.answered.config (c.commission.ensures.serves c.requires.refusal) in
    let at2 = settles s c.commission.new.self c.settle.new.self c.commission.result c.settle.result new.legal at c.in_default.is c.settle.ensures.answered.config
    (c.settle.ensures.serves c.in_default.ensures.answered.refusal) in
    let at3 = arms s c.settle.new.self c.arm.new.self c.settle.result c.arm.result new.legal at2 c.in_default-settle.is c.arm.ensures.answered.config
    (c.arm.ensures.serves c.in_default-settle.ensures.answered.refusal) in
    let at4 = runs s c.arm.new.self c.run.new.self c.arm.result c.run.result c.run_frames.result new.legal at3 c.in_default-arm.is c.run_frames.ensures.is c.run.ensures.answered.config
    (c.run.ensures.serves c.in_default-arm.ensures.answered.refusal) in
    stops_ran s c.run.new.self c.run.result c.in-Err-run.error at4 c.in-Err-run.is

pub end_fs-requires-clause-few : goal.end_fs-requires-clause-few
end_fs-requires-clause-few c =
    let s = c.args.segment.now in
    let new = c.requires.new in
    let at = commissions s c.args.bench.now c.commission.new.self c.commission.result new c.commission.ensures.answered.config (c.commission.ensures.serves c.requires.refusal) in
    let at2 = settles s c.commission.new.self c.settle.new.self c.commission.result c.settle.result new.legal at c.in_default.is c.settle.ensures.answered.config
    (c.settle.ensures.serves c.in_default.ensures.answered.refusal) in
    let at3 = arms s c.settle.new.self c.arm.new.self c.settle.result c.arm.result new.legal at2 c.in_default-settle.is c.arm.ensures.answered.config
    (c.arm.ensures.serves c.in_default-settle.ensures.answered.refusal) in
    let at4 = runs s c.arm.new.self c.run.new.self c.arm.result c.run.result c.run_frames.result new.legal at3 c.in_default-arm.is c.run_frames.ensures.is c.run.ensures.answered.config
    (c.run.ensures.serves c.in_default-arm.ensures.answered.refusal) in
    let few = sends_few s c.run.new.self c.run.result new.legal at4 in
    rw (c.sent.ensures, c.wire.ensures) few

pub returns : goal.returns
returns c =
    let s = c.args.segment.now in
    let new = c.requires.new in
    let at = commissions s c.args.bench.now c.commission.new.self c.commission.result new c.commission.ensures.answered.config (c.commission.ensures.serves c.requires.refusal) in
    let at2 = settles s c.commission.new.self c.settle.new.self c.commission.result c.settle.result new.legal at c.in_default.is c.settle.ensures.answered.config
    (c.settle.ensures.serves c.in_default.ensures.answered.refusal) in
    let at3 = arms s c.settle.new.self c.arm.new.self c.settle.result c.arm.result new.legal at2 c.in_default-settle.is c.arm.ensures.answered.config
    (c.arm.ensures.serves c.in_default-settle.ensures.answered.refusal) in
    let at4 = runs s c.arm.new.self c.run.new.self c.arm.result c.run.result c.run_frames.result new.legal at3 c.in_default-arm.is c.run_frames.ensures.is c.run.ensures.answered.config
    (c.run.ensures.serves c.in_default-arm.ensures.answered.refusal) in
    let sent = c.sent.ensures ∙ ap (λ (w : SegmentState). w.sent) c.wire.ensures in
    ends s c.run.new.self c.finish.new.self c.run.result c.end_fs.result new.legal at4 c.in_default-run.is c.in_default-run.ensures.answered.stage
    (c.end_fs.ensures.is ∙ ap (λ n. (n + 1) * period_fs s.head.frame_ns) sent) c.finish.ensures
