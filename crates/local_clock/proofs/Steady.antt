-- A steering stays steady, through ticks and through a history.
use Rattle.std.specs.Prelude.{◌≡◌, ℕ, suc, zero, ◌+◌, ◌*◌, ◌<◌, ℤ, pos, negsuc, Bool, true, false, nat_le, List, [], ◌∷◌}
use Rattle.std.specs.List.{All}
use Rattle.std.proofs.Common.{arith, refl, inl, inr}
use Rattle.std.proofs.lemmas.Int.{ints}
use Rattle.std.proofs.lemmas.Bool.{cases_lt}
use Rattle.std.proofs.lemmas.Bool.Decides.{nat_tests}
use Rattle.std.proofs.lemmas.List.Elements.{All-head, All-tail}
use Rattle.local_clock.specs.StepRule.{Steering, next, step, steered, elapsed}
use Rattle.local_clock.specs.WorkedOff.{IsSteady}
use Rattle.local_clock.specs.Reading.{Clock, Event, Happening, received, reset, IsPossible, after_event, advanced, clock_at, steering_of, ticks_to}
use Rattle.local_clock.proofs.History.{is_until, is_after}

-- a tick keeps it steady
kept : (g : ℕ) (z : ℤ) (c : ℕ) (full : Bool) → nat_le g (c + 1) ≡ full → c < g → (z ≡ pos 0 → c ≡ 0) → 0 < g
    → IsSteady g (next g (record { left = z; count = c }))
kept g (pos zero) c full e below rests some = record { below = below; rests = rests }
kept g (pos (suc n)) c true e below rests some = rw e (record { below = some; rests = λ _. refl })
kept g (pos (suc n)) c false e below rests some =
    let room : c + 1 < g = grind (arith, nat_tests) in
    rw e (record { below = room; rests = λ none. absurd (omega (arith, ints, none)) })
kept g (negsuc zero) c true e below rests some = rw e (record { below = some; rests = λ _. refl })
kept g (negsuc (suc n)) c true e below rests some = rw e (record { below = some; rests = λ _. refl })
kept g (negsuc n) c false e below rests some =
    let room : c + 1 < g = grind (arith, nat_tests) in
    rw e (record { below = room; rests = λ none. absurd (omega (arith, ints, none)) })

pub steady_kept : (g k : ℕ) (s : Steering) → IsSteady g s → IsSteady g (steered g k s)
steady_kept g zero s h = h
steady_kept g (suc k) s h =
    let before = steady_kept g k s h in
    let at = steered g k s in
    kept g at.left at.count (nat_le g (at.count + 1)) refl before.below before.rests (let b = before.below in omega (arith, b))

-- an event does too
steady_event : (e : Event) (c : Clock) → IsPossible e → IsSteady c.g (steering_of c)
    → IsSteady (after_event e c).g (steering_of (after_event e c))
steady_event (received d) c possible h = let b = h.below in record { below = omega (arith, b); rests = λ _. refl }
steady_event (reset g) c possible h = record { below = omega (arith, possible); rests = λ _. refl }

pub steady_at : (w t : ℕ) (c : Clock) (events : List Happening) → IsSteady c.g (steering_of c) → All (λ h. IsPossible h.event) events
    → IsSteady (clock_at w c events t).g (steering_of (clock_at w c events t))
steady_at w t c [] steady possible = steady_kept c.g (ticks_to c t) (steering_of c) steady
steady_at w t c (h ∷ rest) steady possible =
    let a = advanced w h.instant c in
    let there = steady_kept c.g (ticks_to c h.instant) (steering_of c) steady in
    let each = λ (e : Happening). IsPossible e.event in
    elim (cases_lt t h.instant) [
      | inr until ↦
          let e = is_until h.instant t until in
          rw e (steady_at w t (after_event h.event a) rest (steady_event h.event a (All-head each h rest possible) there) (All-tail each h rest possible))
      | inl after ↦ let e = is_after h.instant t after in rw e (steady_kept c.g (ticks_to c t) (steering_of c) steady)
    ]

-- with nothing left every tick is 10 ns, whatever the count
rests_step : (g c : ℕ) → step g (record { left = pos 0; count = c }) ≡ 10
rests_step g c = grind (arith, nat_tests)

pub rests : (g k c : ℕ) → (steered g k (record { left = pos 0; count = c }) ≡ record { left = pos 0; count = c })
    × (elapsed g k (record { left = pos 0; count = c }) ≡ 10 * k)
rests g zero c = (refl, refl)
rests g (suc k) c =
    let before = rests g k c in
    let here : step g (steered g k (record { left = pos 0; count = c })) ≡ 10 = rw before.0 (rests_step g c) in
    (rw before.0 refl, omega (arith, before.1, here))
