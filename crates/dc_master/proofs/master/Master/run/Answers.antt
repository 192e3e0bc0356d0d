use Rattle.std.proofs.Common.{Some, refl, sym, ap, arith}
use Rattle.master_steps.specs.ConfigRange.{value_of}
use Rattle.dc_master.specs.Inside.{kept_of}
use Rattle.master_steps.specs.Known.{words_of}
use Rattle.dc_master.proofs.Calling.{call_refused, run_begins, run_done, run_ends, run_stood}
use Rattle.dc_master.proofs.Calls.{is_armed, ready_as}
use Rattle.dc_master.proofs.Exactly.{held, holds}
use Rattle.dc_master.proofs.Making.{before_run, makes, stands_then}
use Rattle.dc_master.proofs.master.Master.run.Goals as goal
use Rattle.master_script.specs.Progress.{Progress}
use Rattle.master_script.specs.Script.{Run}
use Rattle.master_script.specs.declared.step.Stage.TheVariants as stage

pub returns-in-Ok-clause-serves : goal.returns-in-Ok-clause-serves
returns-in-Ok-clause-serves g c _ =
    let a = c.self.inside in
    let cfg = value_of a.config in
    let n = a.notes.counters in
    let w = words_of a.notes.learned in
    let ds = a.notes.delays.items in
    let m = c.run.new.notes in
    let none = c.in_default.is in
    let s = is_armed cfg n w ds a.stage a.refusal (rw (← c.self.view_is) at c.requires.stage) none c.self.invariant.stage in
    let ready = ready_as cfg w (words_of m.learned) ds m.delays.items c.run.ensures.words c.run.ensures.delays s.1 in
    rw (← c.self.view_is)
    (run_done g.L.Link.step cfg a.stage a.refusal n m.counters w (words_of m.learned) ds m.delays.items _ _ none s c.args.frames ready c.in-Ok.ensures.serves)

pub returns-in-Err-clause-serves : goal.returns-in-Err-clause-serves
returns-in-Err-clause-serves g c _ =
    let a = c.self.inside in
    let cfg = value_of a.config in
    let n = a.notes.counters in
    let w = words_of a.notes.learned in
    let ds = a.notes.delays.items in
    let m = c.run.new.notes in
    let none = c.in_default.is in
    let s = is_armed cfg n w ds a.stage a.refusal (rw (← c.self.view_is) at c.requires.stage) none c.self.invariant.stage in
    rw (← c.self.view_is)
    (call_refused g.L.Link.step cfg a.stage a.refusal n m.counters w (words_of m.learned) ds m.delays.items _ _ none (Run c.args.frames) c.in-Err.refusal _ (run_begins cfg a.stage a.refusal n w ds none s) c.in-Err.ensures.serves)

pub returns-in-Ok-clause-made : goal.returns-in-Ok-clause-made
returns-in-Ok-clause-made g c _ =
    let a = c.self.inside in
    let cfg = value_of a.config in
    let n = a.notes.counters in
    let w = words_of a.notes.learned in
    let ds = a.notes.delays.items in
    let m = c.run.new.notes in
    let none = c.in_default.is in
    let s = is_armed cfg n w ds a.stage a.refusal (rw (← c.self.view_is) at c.requires.stage) none c.self.invariant.stage in
    let ready = ready_as cfg w (words_of m.learned) ds m.delays.items c.run.ensures.words c.run.ensures.delays s.1 in
    rw (← c.self.view_is)
    (makes g.L.Link.step (Run c.args.frames) _ _ _ _ _ c.self.invariant.stands (before_run a.stage stage.Armed s.0 (λ ran frames h. h))
    (run_done g.L.Link.step cfg a.stage a.refusal n m.counters w (words_of m.learned) ds m.delays.items _ _ none s c.args.frames ready c.in-Ok.ensures.serves))

pub returns-in-Err-clause-made : goal.returns-in-Err-clause-made
returns-in-Err-clause-made g c _ =
    let a = c.self.inside in
    let cfg = value_of a.config in
    let n = a.notes.counters in
    let w = words_of a.notes.learned in
    let ds = a.notes.delays.items in
    let m = c.run.new.notes in
    let none = c.in_default.is in
    let s = is_armed cfg n w ds a.stage a.refusal (rw (← c.self.view_is) at c.requires.stage) none c.self.invariant.stage in
    rw (← c.self.view_is)
    (makes g.L.Link.step (Run c.args.frames) _ _ _ _ _ c.self.invariant.stands (before_run a.stage stage.Armed s.0 (λ ran frames h. h))
    (call_refused g.L.Link.step cfg a.stage a.refusal n m.counters w (words_of m.learned) ds m.delays.items _ _ none (Run c.args.frames) c.in-Err.refusal _ (run_begins cfg a.stage a.refusal n w ds none s) c.in-Err.ensures.serves))

pub invariant_of-self : goal.invariant_of-self
invariant_of-self g c =
    let a = c.self.inside in
    let cfg = value_of a.config in
    let n = a.notes.counters in
    let w = words_of a.notes.learned in
    let ds = a.notes.delays.items in
    let m = c.run.new.notes in
    let none = c.in_default.is in
    let s = is_armed cfg n w ds a.stage a.refusal (rw (← c.self.view_is) at c.requires.stage) none c.self.invariant.stage in
    let ready = ready_as cfg w (words_of m.learned) ds m.delays.items c.run.ensures.words c.run.ensures.delays s.1 in
    let z = held cfg n w ds a.stage stage.Armed a.refusal s.0 none c.self.invariant.stage in
    record {
      config = c.self.invariant.config;
      lost = c.run.ensures.sent.lost;
      drifts = c.run.ensures.sent.drifts;
      started = λ h. ready.clocks;
      stage = holds cfg m.counters (words_of m.learned) m.delays.items stage.Ended a.refusal none omega (arith, z.0, c.run.ensures.sent.few, c.requires.few);
      stands = stands_then g.L.Link.step (Run c.args.frames) (kept_of a) _ _ _ _ c.self.invariant.stands (before_run a.stage stage.Armed s.0 (λ ran frames h. h)) _
          (run_stood g.L.Link.step cfg a.stage a.refusal n m.counters w (words_of m.learned) ds m.delays.items _ _ none s c.args.frames c.in-Ok.ensures.serves)
          (run_ends cfg a.refusal m.counters (words_of m.learned) m.delays.items none c.args.frames ready)
          (λ xs q. ap (λ (p : Progress). Some p.ran) (sym q)) refl c.requires.few;
    }

pub invariant_of-self-in-Err : goal.invariant_of-self-in-Err
invariant_of-self-in-Err g c =
    let a = c.self.inside in
    let cfg = value_of a.config in
    let n = a.notes.counters in
    let w = words_of a.notes.learned in
    let ds = a.notes.delays.items in
    let m = c.run.new.notes in
    let none = c.in_default.is in
    let s = is_armed cfg n w ds a.stage a.refusal (rw (← c.self.view_is) at c.requires.stage) none c.self.invariant.stage in
    let ready = ready_as cfg w (words_of m.learned) ds m.delays.items c.run.ensures.words c.run.ensures.delays s.1 in
    let z = held cfg n w ds a.stage stage.Armed a.refusal s.0 none c.self.invariant.stage in
    record {
      config = c.self.invariant.config;
      lost = c.run.ensures.sent.lost;
      drifts = c.run.ensures.sent.drifts;
      started = λ h. ready.clocks;
      stage = omega (arith, z.0, c.run.ensures.sent.few, c.requires.few);
      stands = stands_then g.L.Link.step (Run c.args.frames) (kept_of a) _ _ _ _ c.self.invariant.stands (before_run a.stage stage.Armed s.0 (λ ran frames h. h)) _
          (call_refused g.L.Link.step cfg a.stage a.refusal n m.counters w (words_of m.learned) ds m.delays.items _ _ none (Run c.args.frames) c.in-Err.refusal _ (run_begins cfg a.stage a.refusal n w ds none s) c.in-Err.ensures.serves) (λ xs q. q) (λ xs q. tt) refl c.requires.few;
    }
