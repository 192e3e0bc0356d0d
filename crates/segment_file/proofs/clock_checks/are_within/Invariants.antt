use Rattle.std.proofs.Common.{◌≡◌, drop}
use Rattle.std.specs.List.{list_all}
use Rattle.segment_file.specs.Faults.{is_within}
use Rattle.segment_file.proofs.clock_checks.are_within.Given as goal

abbrev pub invariant-loop-rate : goal.invariant-loop-rate
invariant-loop-rate l =
    list_all (λ change. is_within l.ppm change.period) (drop l.rate-index l.rates) ≡ list_all (λ change. is_within l.ppm change.period) l.rates
