-- The last tick of rate rows.
use Rattle.std.proofs.Common.{◌≡◌, ℕ, List, [], ◌∷◌, ◌++◌, refl}
use Rattle.osc_clock.specs.Ticks.{Rate}
use Rattle.segment_shape.specs.Rates.{last_tick}

pub last_tick-push : (tick : ℕ) (rows : List Rate) (r : Rate) → last_tick tick (rows ++ r ∷ []) ≡ r.tick
last_tick-push tick [] r = refl
last_tick-push tick (q ∷ rows) r = last_tick-push q.tick rows r
