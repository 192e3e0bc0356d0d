use Rattle.std.proofs.Common.{◌≡◌, ◌∙◌, length, map, ap}
use Rattle.dc_bounds.specs.Weight.{flag}
use Rattle.dc_delay.specs.Latched.{laps, measures}
use Rattle.dc_delay.specs.MeasuredDelay.{delay_list}
use Rattle.dc_delay.specs.ShapeRows.{positions, rows_of}
use Rattle.master_frames.proofs.Judging.{delays_told, measured, unrefused}
use Rattle.master_frames.specs.Known.{words_of}
use Rattle.master_frames.proofs.measured.measure_delays.Goals as goal
use Rattle.master_script.specs.Slaves.{is_clock}

pub returns : goal.returns
returns c =
    let kinds = c.args.kinds.now in
    let w = words_of c.args.learned.now in
    let hung = c.args.shape.now in
    let timed : c.deref-3.result.now ≡ map is_clock w.slaves = c.deref-3.ensures.0 ∙ c.clocks.ensures ∙ ap (λ ss. map is_clock ss) c.deref-2.ensures.0 in
    let latches = c.deref.ensures.0 in
    let flags = flag (map is_clock w.slaves) in
    let list = delay_list (rows_of hung kinds) (measures w.latches) flags (laps w.latches) (positions (length hung)) in
    measured (c.delays.new.out.items ≡ list) hung (measures w.latches) flags c.delays.result (rw (latches, timed) at c.delays.ensures.ok) (rw (latches, timed) at c.delays.ensures.refused)
    (unrefused w.slaves hung (measures w.latches) c.requires.judged.0 c.requires.tree c.requires.judged.1 c.requires.latched)
    ∙ delays_told kinds w hung c.requires.tree
