use Rattle.std.proofs.Common.{◌≡◌, take}
use Rattle.segment_text.proofs.migrate.copied_rates.Given as goal

abbrev pub invariant-loop-rate : goal.invariant-loop-rate
invariant-loop-rate l = l.copy.items ≡ take l.rate-index l.rates
