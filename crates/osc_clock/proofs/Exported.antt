-- What the crates above may cite of these proofs.

-- What holds of the ticks of every oscillator that runs.
pub use Rattle.osc_clock.proofs.TickLaws.{instants_rise, number_first, among_few, reached, not_after, ticks_rise, ticks_at, next_after}
pub use Rattle.osc_clock.proofs.TickLaws.{gaps_within, not_too_many, not_too_few}
