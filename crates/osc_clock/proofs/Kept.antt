-- What is kept of an oscillator that stands at a time, and how it goes on.
use Rattle.std.proofs.Common.{◌≡◌, ℕ, ◌+◌, ◌-◌, ◌*◌, ◌/◌, ◌<◌, ◌≤◌, arith, ap, sym, ◌∙◌, inl, inr}
use Rattle.std.proofs.lemmas.Bool.{cases_lt}
use Rattle.osc_clock.specs.Ticks.{Oscillator, gap, instant, ticks, IsRunning}
use Rattle.osc_clock.specs.Standing.{Standing, ticks_to, steady_until, share_of}
use Rattle.osc_clock.specs.InsideTicker.{value_of, IsKept}
use Rattle.osc_clock.specs.declared.ticker.Ticker.TheInside.{Inside}
use Rattle.osc_clock.proofs.TickLaws.{among_few, ticks_rise, not_after}
use Rattle.osc_clock.proofs.Steady.{stays, apart, steady_ticks}

pub tick_before : (a : Inside) → IsKept a → instant a.osc a.tick ≤ a.instant
tick_before a kept = not_after a.osc a.instant a.tick kept.running (omega (arith, kept.tick))

-- the time since the last tick goes on
pub time_since : (a : Inside) (t : ℕ) → IsKept a → a.instant ≤ t → instant a.osc a.tick + (a.since + (t - a.instant)) ≡ t
time_since a t kept le = let before = tick_before a kept in let since = kept.since in omega (arith, before, since, le)

-- so many ticks come in it, where they stay as far apart
pub ticks_here : (a : Inside) (t n : ℕ) → IsKept a → a.instant ≤ t → n ≡ (a.since + (t - a.instant)) / a.period → n < a.steady → n ≡ ticks_to (value_of a) t
ticks_here a t n kept le count few =
    let time = time_since a t kept le in
    let is : n ≡ (a.since + (t - a.instant)) / gap a.osc a.tick = count ∙ ap (λ p. (a.since + (t - a.instant)) / p) kept.period in
    let steady = kept.steady in
    let all = steady_ticks a.osc a.tick (a.since + (t - a.instant)) t n kept.running time is (omega (arith, few, steady)) in
    let tick = kept.tick in
    omega (arith, all, tick)

pub ticks_after : (a : Inside) (t n : ℕ) → IsKept a → a.instant ≤ t → n ≡ ticks_to (value_of a) t → a.tick + n ≡ ticks a.osc t
ticks_after a t n kept le count =
    let rise = ticks_rise a.osc a.instant t kept.running le in
    let tick = kept.tick in
    omega (arith, rise, tick, count)

-- the same by what contracts see
pub later : (a : Inside) (now : Standing) (t : ℕ) → value_of a ≡ now → now.instant ≤ t → a.instant ≤ t
later a now t view le = let same = ap (λ (s : Standing). s.instant) view in omega (arith, same, le)

pub last_tick : (a : Inside) (now : Standing) (t n : ℕ) → IsKept a → value_of a ≡ now → now.instant ≤ t → n ≡ ticks_to now t → a.tick + n ≡ ticks now.osc t
last_tick a now t n kept view le count =
    ticks_after a t n kept (later a now t view le) (count ∙ ap (λ s. ticks_to s t) (sym view)) ∙ ap (λ (s : Standing). ticks s.osc t) view

-- no number of ticks is above the time
pub ticks_fit : (o : Oscillator) (t : ℕ) → ticks o t ≤ t
ticks_fit o t = among_few o t t

-- where the steady ticks are used up, there is one
pub some_tick : (a : Inside) (n : ℕ) → IsKept a → a.steady ≤ n → 1 ≤ a.tick + n
some_tick a n kept many = elim (cases_lt 0 a.tick) [
  | inl some ↦ omega (arith, some)
  | inr none ↦
      let zero : a.tick ≡ 0 = omega (arith, none) in
      let one : a.steady ≡ 1 = kept.steady ∙ ap (λ k. steady_until a.osc k - k) zero in
      omega (arith, one, many)
]

-- so many ticks later, where they are steady
pub record IsPassed (a : Inside) (t n : ℕ) : Type 0 where
  pub fits : n * a.period ≤ a.since + (t - a.instant)
  pub time : a.since + (t - a.instant) ≤ t
  pub tick : a.tick + n ≤ t
  pub kept : IsKept (record {
    osc = a.osc;
    instant = t;
    tick = a.tick + n;
    since = a.since + (t - a.instant) - n * a.period;
    period = a.period;
    steady = a.steady - n;
    share = a.share;
  })

pub passed : (a : Inside) (t n : ℕ) → IsKept a → a.instant ≤ t → n ≡ ticks_to (value_of a) t → n < a.steady → IsPassed a t n
passed a t n kept le count few =
    let time = time_since a t kept le in
    let all = ticks_after a t n kept le count in
    let steady = kept.steady in
    let inside : a.tick + n < steady_until a.osc a.tick = omega (arith, few, steady) in
    let same = stays a.osc a.tick (a.tick + n) kept.running (omega arith) inside in
    let at = apart a.osc a.tick n kept.running inside in
    let product : n * a.period ≡ n * gap a.osc a.tick = ap (λ p. n * p) kept.period in
    let before : instant a.osc (a.tick + n) ≤ t = not_after a.osc t (a.tick + n) kept.running (omega (arith, all)) in
    let until = same.until in
    record {
      fits = omega (arith, time, at, product, before);
      time = omega (arith, time);
      tick = let few = ticks_fit a.osc t in omega (arith, all, few);
      kept = record {
        running = kept.running;
        tick = all;
        since = omega (arith, time, at, product, before);
        period = kept.period ∙ sym same.gap;
        steady = omega (arith, steady, until);
        share = kept.share;
      };
    }

pub passed_to : (a : Inside) (now : Standing) (t n : ℕ) → IsKept a → value_of a ≡ now → now.instant ≤ t → n ≡ ticks_to now t → n < a.steady → IsPassed a t n
passed_to a now t n kept view le count few = passed a t n kept (later a now t view le) (count ∙ ap (λ s. ticks_to s t) (sym view)) few

-- at its last tick until then
pub stood : (o : Oscillator) (t tick since period until steady share : ℕ) → IsRunning o → tick ≡ ticks o t → instant o tick + since ≡ t → period ≡ gap o tick
    → until ≡ steady_until o tick → steady ≡ until - tick → share ≡ share_of period
    → IsKept (record { osc = o; instant = t; tick = tick; since = since; period = period; steady = steady; share = share })
stood o t tick since period until steady share running last time gap_is until_is is share_is = record {
  running = running;
  tick = last;
  since = omega (arith, time);
  period = gap_is;
  steady = omega (arith, is, until_is);
  share = share_is;
}
