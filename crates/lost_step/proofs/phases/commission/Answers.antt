use Rattle.std.proofs.Common.{rules, ◌≡◌, Err, ◌∙◌}
use Rattle.lost_step.proofs.Commission.{count_ok, count_err, identify_ok, identify_err, rate_ok, rate_err, latch_ok, latch_err, times_ok, times_err, set_last}
use Rattle.lost_step.proofs.phases.commission.Goals as goal

pub returns-in_err-number : goal.returns-in_err-number
returns-in_err-number c =
    let h : c.from_residual.result ≡ Err c.in_err-number.field-0.0 = search rules in
    h ∙ count_err c.args.segment.now c.in_err-number.field-0.0 c.in_err-number.ensures.is

pub returns-in_err-number-2 : goal.returns-in_err-number-2
returns-in_err-number-2 c =
    let s = c.args.segment.now in
    let counted = count_ok s c.in_ok-number.number c.in_ok-number.ensures.is in
    let h : c.from_residual-in_err-number-2.result ≡ Err c.in_err-number-2.field-0.0 = search rules in
    h ∙ identify_err s c.in_ok-number.number counted c.in_err-number-2.field-0.0 c.in_err-number-2.ensures.is

pub returns-in_err-number-3 : goal.returns-in_err-number-3
returns-in_err-number-3 c =
    let s = c.args.segment.now in
    let counted = count_ok s c.in_ok-number.number c.in_ok-number.ensures.is in
    let identified = identify_ok s c.in_ok-number.number counted c.in_ok-number-2.number c.in_ok-number-2.ensures.is in
    let h : c.from_residual-in_err-number-3.result ≡ Err c.in_err-number-3.field-0.0 = search rules in
    h ∙ rate_err s c.in_ok-number-2.number identified c.in_err-number-3.field-0.0 c.in_err-number-3.ensures.is

pub returns-in_err-number-4 : goal.returns-in_err-number-4
returns-in_err-number-4 c =
    let s = c.args.segment.now in
    let counted = count_ok s c.in_ok-number.number c.in_ok-number.ensures.is in
    let identified = identify_ok s c.in_ok-number.number counted c.in_ok-number-2.number c.in_ok-number-2.ensures.is in
    let rated = rate_ok s c.in_ok-number-2.number identified c.in_ok-number-3.number c.in_ok-number-3.ensures.is in
    let h : c.from_residual-in_err-number-4.result ≡ Err c.in_err-number-4.field-0.0 = search rules in
    h ∙ latch_err s c.in_ok-number-3.number rated c.in_err-number-4.field-0.0 c.in_err-number-4.ensures.is

pub returns-in_err-number-5 : goal.returns-in_err-number-5
returns-in_err-number-5 c =
    let s = c.args.segment.now in
    let counted = count_ok s c.in_ok-number.number c.in_ok-number.ensures.is in
    let identified = identify_ok s c.in_ok-number.number counted c.in_ok-number-2.number c.in_ok-number-2.ensures.is in
    let rated = rate_ok s c.in_ok-number-2.number identified c.in_ok-number-3.number c.in_ok-number-3.ensures.is in
    let latched = latch_ok s c.in_ok-number-3.number rated c.in_ok-number-4.number c.in_ok-number-4.ensures.is in
    let h : c.from_residual-in_err-number-5.result ≡ Err c.in_err-number-5.field-0.0 = search rules in
    h ∙ times_err s c.in_ok-number-4.number latched c.in_err-number-5.field-0.0 c.in_err-number-5.ensures.is

pub returns : goal.returns
returns c =
    let s = c.args.segment.now in
    let counted = count_ok s c.in_ok-number.number c.in_ok-number.ensures.is in
    let identified = identify_ok s c.in_ok-number.number counted c.in_ok-number-2.number c.in_ok-number-2.ensures.is in
    let rated = rate_ok s c.in_ok-number-2.number identified c.in_ok-number-3.number c.in_ok-number-3.ensures.is in
    let latched = latch_ok s c.in_ok-number-3.number rated c.in_ok-number-4.number c.in_ok-number-4.ensures.is in
    let timed = times_ok s c.in_ok-number-4.number latched c.in_ok-number-5.number c.in_ok-number-5.ensures.is in
    set_last s c.in_ok-number-5.number timed c.ask_each-3.result c.ask_each-3.ensures.is
