-- Gaps: they are never 0, and they stay as they are up to the next row.
use Rattle.std.proofs.Common.{◌≡◌, ℕ, suc, zero, ◌<◌, ◌≤◌, List, [], ◌∷◌, refl, arith, ap, ◌∙◌}
use Rattle.std.specs.Prelude.{nat_le, if◌then◌else◌}
use Rattle.std.proofs.lemmas.Bool.Decides.{nat_tests}
use Rattle.std.specs.List.{All}
use Rattle.std.proofs.lemmas.List.Elements.{All-head, All-tail}
use Rattle.osc_clock.specs.Ticks.{Rate, Oscillator, period_at, gap, AreRising, IsRunning}

pub period_some : (rates : List Rate) (tick period k : ℕ) → AreRising tick rates → 0 < period → 0 < period_at rates period k
period_some [] tick period k rising some = some
period_some (rate ∷ rates) tick period k rising some =
    period_some rates rate.tick (if nat_le rate.tick k then rate.period else period) k rising.2
    (let each : 0 < rate.period = rising.1 in grind (arith, nat_tests))

pub gap_some : (o : Oscillator) (k : ℕ) → IsRunning o → 0 < gap o k
gap_some o zero running = running.some
gap_some o (suc k) running = period_some o.rates 0 o.period (suc k) running.rising (omega (arith, running.some, running.within))

-- a period between two bounds, as those of all rows are
pub period_within : (rates : List Rate) (low high period k : ℕ) → low ≤ period → period ≤ high
    → All (λ rate. (low ≤ rate.period) × (rate.period ≤ high)) rates → (low ≤ period_at rates period k) × (period_at rates period k ≤ high)
period_within [] low high period k least most each = (least, most)
period_within (rate ∷ rates) low high period k least most each =
    let within = λ (r : Rate). (low ≤ r.period) × (r.period ≤ high) in
    let here = All-head within rate rates each in
    period_within rates low high (if nat_le rate.tick k then rate.period else period) k
    (chosen_least here.0) (chosen_most here.1) (All-tail within rate rates each)
  where
    chosen_least : low ≤ rate.period → low ≤ (if nat_le rate.tick k then rate.period else period)
    chosen_least own = grind (arith, nat_tests)

    chosen_most : rate.period ≤ high → (if nat_le rate.tick k then rate.period else period) ≤ high
    chosen_most own = grind (arith, nat_tests)

-- rows after a tick are after an earlier one too
pub rising_from : (rates : List Rate) (low tick : ℕ) → low ≤ tick → AreRising tick rates → AreRising low rates
rising_from [] low tick le rising = tt
rising_from (rate ∷ rates) low tick le rising = (omega (arith, rising.0, le), rising.1, rising.2)

-- before the first row the given period holds
pub period_before : (rates : List Rate) (period k : ℕ) → AreRising k rates → period_at rates period k ≡ period
period_before [] period k rising = refl
period_before (rate ∷ rates) period k rising =
    let before : k < rate.tick = rising.0 in
    let given : (if nat_le rate.tick k then rate.period else period) ≡ period = grind (arith, nat_tests) in
    ap (λ p. period_at rates p k) given ∙ period_before rates period k (rising_from rates k rate.tick (omega (arith, before)) rising.2)

-- from a row on its own period does
pub period_after : (rate : Rate) (rates : List Rate) (period k : ℕ) → rate.tick ≤ k → period_at (rate ∷ rates) period k ≡ period_at rates rate.period k
period_after rate rates period k le =
    let own : (if nat_le rate.tick k then rate.period else period) ≡ rate.period = grind (arith, nat_tests) in
    ap (λ p. period_at rates p k) own
