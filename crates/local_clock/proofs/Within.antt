-- Instants past the end of time.
use Rattle.std.specs.Prelude.{◌≡◌, ℕ, suc, zero, ◌+◌, ◌^◌, ◌<◌, ◌≤◌, None, IfSome, nat_lt, true, false}
use Rattle.std.proofs.Common.{arith, rules, refl, inl, inr}
use Rattle.std.proofs.lemmas.Bool.{cases_lt}
use Rattle.std.proofs.lemmas.Bool.Decides.{nat_tests}
use Rattle.osc_clock.specs.Ticks.{Oscillator, IsRunning, ticks, instant}
use Rattle.osc_clock.proofs.Exported.{instants_rise, reached}
use Rattle.local_clock.specs.Reading.{Clock}
use Rattle.local_clock.specs.FirstReaching.{tick_after, within_time}

-- ticks come at least 1 fs apart
pub tick_by_instant : (o : Oscillator) (k : ℕ) → IsRunning o → k ≤ instant o k
tick_by_instant o zero run = omega arith
tick_by_instant o (suc k) run =
    let low = tick_by_instant o k run in
    let rise = instants_rise o k (suc k) run (omega arith) in
    omega (arith, low, rise)

pub none_within : (t : ℕ) → 2 ^ 64 ≤ t → within_time t ≡ None
none_within t late = let e : nat_lt t (2 ^ 64) ≡ false = search (rules, nat_tests) in rw e refl

pub no_tick_within : (c : Clock) (n k : ℕ) → IsRunning c.osc → n ≡ ticks c.osc c.instant → 2 ^ 64 ≤ n + k → within_time (tick_after c k) ≡ None
no_tick_within c n k run is over =
    let late = tick_by_instant c.osc (ticks c.osc c.instant + k) run in
    none_within (tick_after c k) (omega (arith, late, is, over))

-- a tick from now on is after now
pub tick_later : (c : Clock) (k : ℕ) → IsRunning c.osc → 0 < k → c.instant < tick_after c k
tick_later c k run some = elim (cases_lt c.instant (tick_after c k)) [
  | inl later ↦ later
  | inr early ↦ let counted = reached c.osc c.instant (ticks c.osc c.instant + k) run early in absurd (omega (arith, counted, some))
]

pub later_within : (c : Clock) (k : ℕ) → IsRunning c.osc → 0 < k → IfSome (within_time (tick_after c k)) (λ t. c.instant < t)
later_within c k run some = elim (cases_lt (tick_after c k) (2 ^ 64)) [
  | inl fits ↦ let e : nat_lt (tick_after c k) (2 ^ 64) ≡ true = search (rules, nat_tests) in rw e (tick_later c k run some)
  | inr late ↦ rw (none_within (tick_after c k) late) tt
]
