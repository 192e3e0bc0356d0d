use Rattle.std.proofs.Common.{◌≡◌, ◌<◌, ◌≤◌, ◌+◌, ◌-◌, ◌∙◌, sym, arith}
use Rattle.std.specs.Prelude.{true, false}
use Rattle.std.specs.List.{All}
use Rattle.segment_file.specs.Runs.{is_run, greatest_number}
use Rattle.segment_file.proofs.RunLemmas.{greatest_number_is, find_here, find_on, find_none, find_end, no_later_run, whole_range}
use Rattle.segment_file.proofs.drift_runs.first_run.Goals as goal

pub loop-number-init : goal.loop-number-init
loop-number-init c = whole_range (is_run c.args.losses.now c.args.count) greatest_number

pub returns-then-is_run : goal.returns-then-is_run
returns-then-is_run c =
    let low : c.loop-number.number < greatest_number + 1 = omega (arith, greatest_number_is) in
    let found : is_run c.args.losses.now c.args.count c.loop-number.number ≡ true = sym c.if-is_run.ensures in
    sym (c.loop-number.invariant ∙ find_here (is_run c.args.losses.now c.args.count) c.loop-number.number (greatest_number + 1) low found)

pub returns-then-number-last : goal.returns-then-number-last
returns-then-number-last c =
    let losses = c.args.losses.now in
    let n = c.loop-number.number in
    let listed : All (λ row. row.number ≤ c.last_listed-last.result) losses = rw c.rows.ensures at c.last_listed-last.ensures in
    let other : is_run losses c.args.count n ≡ false = sym c.if-is_run.ensures in
    let none = no_later_run losses c.args.count c.last_listed-last.result n in
    sym (c.loop-number.invariant ∙ find_none (is_run losses c.args.count) n (greatest_number + 1 - n) (λ x from. none x listed c.if-number-last.true other from))

pub loop-number-preserved : goal.loop-number-preserved
loop-number-preserved c =
    let low : c.loop-number.number < greatest_number + 1 = omega (arith, greatest_number_is) in
    let other : is_run c.args.losses.now c.args.count c.loop-number.number ≡ false = sym c.if-is_run.ensures in
    c.loop-number.invariant ∙ find_on (is_run c.args.losses.now c.args.count) c.loop-number.number (greatest_number + 1) low other

pub returns : goal.returns
returns c =
    let over : greatest_number + 1 ≤ c.loop-number.number = omega (arith, greatest_number_is) in
    sym (c.loop-number.invariant ∙ find_end (is_run c.args.losses.now c.args.count) c.loop-number.number (greatest_number + 1) over)
