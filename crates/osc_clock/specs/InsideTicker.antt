-- How an oscillator that stands at a true time is kept.
use Rattle.std.specs.Prelude.{◌≡◌, ℕ, ◌-◌}
use Rattle.std.proofs.Common.{sym, ap, ◌∙◌}
use Rattle.osc_clock.specs.Ticks.{Oscillator, IsRunning, gap, instant, ticks}
use Rattle.osc_clock.specs.Standing.{Standing, steady_until, share_of}
use Rattle.osc_clock.specs.declared.ticker.Ticker.TheInside.{Inside}

abbrev pub value_of : Inside → Standing
value_of a = record { osc = a.osc; instant = a.instant }

-- tick k is the last one until its instant: all else follows from the oscillator
abbrev pub inside_at : Standing → ℕ → Inside
inside_at s k = record {
  osc = s.osc;
  instant = s.instant;
  tick = k;
  since = s.instant - instant s.osc k;
  period = gap s.osc k;
  steady = steady_until s.osc k - k;
  share = share_of (gap s.osc k);
}

abbrev pub inside_of : Standing → Inside
inside_of s = inside_at s (ticks s.osc s.instant)

-- it runs, and what is kept beside its instant is as there
pub record IsKept (a : Inside) : Type 0 where
  pub running : IsRunning a.osc
  pub tick : a.tick ≡ ticks a.osc a.instant
  pub since : a.since ≡ a.instant - instant a.osc a.tick
  pub period : a.period ≡ gap a.osc a.tick
  pub steady : a.steady ≡ steady_until a.osc a.tick - a.tick
  pub share : a.share ≡ share_of a.period

inside_path : (o : Oscillator) (t k since since' period period' steady steady' share share' : ℕ)
    → since ≡ since' → period ≡ period' → steady ≡ steady' → share ≡ share'
    → ◌≡◌ {A = Inside} (record { osc = o; instant = t; tick = k; since = since; period = period; steady = steady; share = share })
    (record { osc = o; instant = t; tick = k; since = since'; period = period'; steady = steady'; share = share' })
inside_path o t k since since' period period' steady steady' share share' a b c d = cc

pub inside_of-value_of : (a : Inside) → IsKept a → inside_of (value_of a) ≡ a
inside_of-value_of a kept =
    ap (inside_at (value_of a)) (sym kept.tick)
    ∙ inside_path a.osc a.instant a.tick _ a.since _ a.period _ a.steady _ a.share
    (sym kept.since) (sym kept.period) (sym kept.steady) (sym (kept.share ∙ ap share_of kept.period))
