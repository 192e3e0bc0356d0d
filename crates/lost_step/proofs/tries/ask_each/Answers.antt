use Rattle.std.proofs.Common.{rules, ◌≡◌, ◌+◌, ◌<◌, ◌∷◌, [], length, Ok, Err, sym, ap, ◌∙◌, arith}
use Rattle.lost_step.specs.LostStep.{asked, loses}
use Rattle.lost_step.specs.Rounds.{phase_of, step_of, steps_of, takes_part}
use Rattle.lost_step.proofs.Turns.{steps_from, round_taken, round_lost, round_skipped, round_over}
use Rattle.lost_step.proofs.tries.ask_each.Goals as goal
use Rattle.lost_step.proofs.tries.ask_each.Goals.{then-takes_part+in_ok-number, else-takes_part}

pub ask-requires : goal.ask-requires
ask-requires c =
    let few = c.loop-position.invariant.1 in
    let low = c.loop-position-test.true in
    let first = c.requires in
    let end = c.slaves-position-end.ensures in
    omega (arith, few, first, low)

pub returns-in_err-number-clause-is : goal.returns-in_err-number-clause-is
returns-in_err-number-clause-is c =
    let s = c.args.segment.now in
    let round = c.args.round in
    let p = c.loop-position.position in
    let low = c.loop-position-test.true in
    let end = c.slaves-position-end.ensures in
    let h : c.from_residual.result ≡ Err c.in_err-number.field-0.0 = search rules in
    h
    ∙ round_lost (loses s (phase_of round)) (takes_part s round) (step_of round) (length s.rows) p c.loop-position.number (asked (loses s (phase_of round)) c.args.first (steps_of s round)) c.loop-position.invariant.0
    c.in_err-number.field-0.0 (omega (arith, low, end)) (sym c.takes_part.ensures ∙ c.if-takes_part.true)
    (c.in_err-number.ensures.is
    ∙ ap (λ x. asked (loses s x) c.loop-position.number (c.step_of.result ∷ [])) c.phase_of.ensures
    ∙ ap (λ x. asked (loses s (phase_of round)) c.loop-position.number (x ∷ [])) c.step_of.ensures)

pub loop-position-preserved : goal.loop-position-preserved
loop-position-preserved c =
    let s = c.args.segment.now in
    let round = c.args.round in
    let p = c.loop-position.position in
    let n = length s.rows in
    let low : p < n = let test = c.loop-position-test.true in let end = c.slaves-position-end.ensures in omega (arith, test, end) in
    let few = c.loop-position.invariant.1 in
    let all = asked (loses s (phase_of round)) c.args.first (steps_of s round) in
    elim c.if-takes_part.branch [
      | then-takes_part+in_ok-number w ↦
          let b = w.in_ok-number.number in
          let came : Ok b ≡ asked (loses s (phase_of round)) c.loop-position.number (step_of round p ∷ []) =
          w.in_ok-number.ensures.is
          ∙ ap (λ x. asked (loses s x) c.loop-position.number (w.step_of.result ∷ [])) w.phase_of.ensures
          ∙ ap (λ x. asked (loses s (phase_of round)) c.loop-position.number (x ∷ [])) w.step_of.ensures in
          let near = w.in_ok-number.ensures.few in
          let is = w.number-is in (
            round_taken (loses s (phase_of round)) (takes_part s round) (step_of round) n p c.loop-position.number all c.loop-position.invariant.0 b low (sym c.takes_part.ensures ∙ w.if-takes_part.true) came
                ∙ ap (λ k. asked (loses s (phase_of round)) k (steps_from (takes_part s round) (step_of round) n (p + 1))) (sym is),
            omega (arith, near, is, few),
          )
      | else-takes_part w ↦
          let is = w.number-is in (
            round_skipped (loses s (phase_of round)) (takes_part s round) (step_of round) n p c.loop-position.number all c.loop-position.invariant.0 low (sym c.takes_part.ensures ∙ w.if-takes_part.false)
                ∙ ap (λ k. asked (loses s (phase_of round)) k (steps_from (takes_part s round) (step_of round) n (p + 1))) (sym is),
            omega (arith, is, few),
          )
    ]

pub returns-clause-is : goal.returns-clause-is
returns-clause-is c =
    let s = c.args.segment.now in
    let round = c.args.round in
    let over = c.loop-position-test.false in
    let end = c.slaves-position-end.ensures in
    round_over (loses s (phase_of round)) (takes_part s round) (step_of round) (length s.rows) c.loop-position.position c.loop-position.number
    (asked (loses s (phase_of round)) c.args.first (steps_of s round)) c.loop-position.invariant.0 (omega (arith, over, end))

pub returns-clause-few : goal.returns-clause-few
returns-clause-few c =
    let few = c.loop-position.invariant.1 in
    let over = c.loop-position-test.false in
    let past = c.loop-position.auto in
    omega (arith, few, over, past)
