use Rattle.std.proofs.Common.{refl, arith}
use Rattle.master_steps.specs.ConfigRange.{value_of}
use Rattle.dc_master.specs.Inside.{kept_of}
use Rattle.master_steps.specs.Known.{words_of}
use Rattle.dc_master.proofs.Calling.{call_refused, arm_begins, arm_done}
use Rattle.dc_master.proofs.Calls.{is_settled, ready_as}
use Rattle.dc_master.proofs.Exactly.{held, holds}
use Rattle.dc_master.proofs.Making.{before_run, makes, stands_then}
use Rattle.dc_master.proofs.master.Master.arm.Goals as goal
use Rattle.master_script.specs.Script.{Arm}
use Rattle.master_script.specs.declared.step.Stage.TheVariants as stage

pub returns-in-Ok-clause-serves : goal.returns-in-Ok-clause-serves
returns-in-Ok-clause-serves g c _ =
    let a = c.self.inside in
    let cfg = value_of a.config in
    let n = a.notes.counters in
    let w = words_of a.notes.learned in
    let ds = a.notes.delays.items in
    let m = c.arm.new.notes in
    let none = c.in_default.is in
    let s = is_settled cfg n w ds a.stage a.refusal (rw (← c.self.view_is) at c.requires) none c.self.invariant.stage in
    let ready = ready_as cfg w (words_of m.learned) ds m.delays.items c.arm.ensures.words c.arm.ensures.delays s.2 in
    rw (← c.self.view_is)
    (arm_done g.L.Link.step cfg a.stage a.refusal n m.counters w (words_of m.learned) ds m.delays.items _ _ none s ready c.in-Ok.ensures.serves)

pub returns-in-Err-clause-serves : goal.returns-in-Err-clause-serves
returns-in-Err-clause-serves g c _ =
    let a = c.self.inside in
    let cfg = value_of a.config in
    let n = a.notes.counters in
    let w = words_of a.notes.learned in
    let ds = a.notes.delays.items in
    let m = c.arm.new.notes in
    let none = c.in_default.is in
    let s = is_settled cfg n w ds a.stage a.refusal (rw (← c.self.view_is) at c.requires) none c.self.invariant.stage in
    rw (← c.self.view_is)
    (call_refused g.L.Link.step cfg a.stage a.refusal n m.counters w (words_of m.learned) ds m.delays.items _ _ none Arm c.in-Err.refusal _ (arm_begins cfg a.stage a.refusal n w ds none s) c.in-Err.ensures.serves)

pub returns-in-Ok-clause-made : goal.returns-in-Ok-clause-made
returns-in-Ok-clause-made g c _ =
    let a = c.self.inside in
    let cfg = value_of a.config in
    let n = a.notes.counters in
    let w = words_of a.notes.learned in
    let ds = a.notes.delays.items in
    let m = c.arm.new.notes in
    let none = c.in_default.is in
    let s = is_settled cfg n w ds a.stage a.refusal (rw (← c.self.view_is) at c.requires) none c.self.invariant.stage in
    let ready = ready_as cfg w (words_of m.learned) ds m.delays.items c.arm.ensures.words c.arm.ensures.delays s.2 in
    rw (← c.self.view_is)
    (makes g.L.Link.step Arm _ _ _ _ _ c.self.invariant.stands (before_run a.stage stage.Settled s.0 (λ ran frames h. h))
    (arm_done g.L.Link.step cfg a.stage a.refusal n m.counters w (words_of m.learned) ds m.delays.items _ _ none s ready c.in-Ok.ensures.serves))

pub returns-in-Err-clause-made : goal.returns-in-Err-clause-made
returns-in-Err-clause-made g c _ =
    let a = c.self.inside in
    let cfg = value_of a.config in
    let n = a.notes.counters in
    let w = words_of a.notes.learned in
    let ds = a.notes.delays.items in
    let m = c.arm.new.notes in
    let none = c.in_default.is in
    let s = is_settled cfg n w ds a.stage a.refusal (rw (← c.self.view_is) at c.requires) none c.self.invariant.stage in
    rw (← c.self.view_is)
    (makes g.L.Link.step Arm _ _ _ _ _ c.self.invariant.stands (before_run a.stage stage.Settled s.0 (λ ran frames h. h))
    (call_refused g.L.Link.step cfg a.stage a.refusal n m.counters w (words_of m.learned) ds m.delays.items _ _ none Arm c.in-Err.refusal _ (arm_begins cfg a.stage a.refusal n w ds none s) c.in-Err.ensures.serves))

pub invariant_of-self : goal.invariant_of-self
invariant_of-self g c =
    let a = c.self.inside in
    let cfg = value_of a.config in
    let n = a.notes.counters in
    let w = words_of a.notes.learned in
    let ds = a.notes.delays.items in
    let m = c.arm.new.notes in
    let none = c.in_default.is in
    let s = is_settled cfg n w ds a.stage a.refusal (rw (← c.self.view_is) at c.requires) none c.self.invariant.stage in
    let ready = ready_as cfg w (words_of m.learned) ds m.delays.items c.arm.ensures.words c.arm.ensures.delays s.2 in
    let z = held cfg n w ds a.stage stage.Settled a.refusal s.0 none c.self.invariant.stage in
    record {
      config = c.self.invariant.config;
      lost = c.arm.ensures.sent.lost;
      drifts = c.arm.ensures.sent.drifts;
      started = λ h. ready.clocks;
      stage = holds cfg m.counters (words_of m.learned) m.delays.items stage.Armed a.refusal none (omega (arith, z.0, c.arm.ensures.sent.few), ready);
      stands = stands_then g.L.Link.step Arm (kept_of a) _ _ _ _ c.self.invariant.stands (before_run a.stage stage.Settled s.0 (λ ran frames h. h)) _
          (arm_done g.L.Link.step cfg a.stage a.refusal n m.counters w (words_of m.learned) ds m.delays.items _ _ none s ready c.in-Ok.ensures.serves) (λ xs q. q) (λ xs q. refl) refl tt;
    }

pub invariant_of-self-in-Err : goal.invariant_of-self-in-Err
invariant_of-self-in-Err g c =
    let a = c.self.inside in
    let cfg = value_of a.config in
    let n = a.notes.counters in
    let w = words_of a.notes.learned in
    let ds = a.notes.delays.items in
    let m = c.arm.new.notes in
    let none = c.in_default.is in
    let s = is_settled cfg n w ds a.stage a.refusal (rw (← c.self.view_is) at c.requires) none c.self.invariant.stage in
    let ready = ready_as cfg w (words_of m.learned) ds m.delays.items c.arm.ensures.words c.arm.ensures.delays s.2 in
    let z = held cfg n w ds a.stage stage.Settled a.refusal s.0 none c.self.invariant.stage in
    record {
      config = c.self.invariant.config;
      lost = c.arm.ensures.sent.lost;
      drifts = c.arm.ensures.sent.drifts;
      started = λ h. ready.clocks;
      stage = omega (arith, z.0, c.arm.ensures.sent.few);
      stands = stands_then g.L.Link.step Arm (kept_of a) _ _ _ _ c.self.invariant.stands (before_run a.stage stage.Settled s.0 (λ ran frames h. h)) _
          (call_refused g.L.Link.step cfg a.stage a.refusal n m.counters w (words_of m.learned) ds m.delays.items _ _ none Arm c.in-Err.refusal _ (arm_begins cfg a.stage a.refusal n w ds none s) c.in-Err.ensures.serves) (λ xs q. q) (λ xs q. tt) refl tt;
    }
