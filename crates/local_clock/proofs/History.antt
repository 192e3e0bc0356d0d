-- A clock by its history.
use Rattle.std.specs.Prelude.{◌≡◌, ℕ, ◌+◌, ◌^◌, ◌<◌, ◌≤◌, List, [], ◌∷◌, ◌++◌, true, false, nat_le}
use Rattle.std.proofs.Common.{arith, rules, refl, sym, ap, ◌∙◌, inl, inr}
use Rattle.std.proofs.lemmas.Bool.{cases_lt}
use Rattle.std.proofs.lemmas.Bool.Decides.{nat_tests}
use Rattle.std.proofs.lemmas.Nat.{pow_pos}
use Rattle.std.proofs.lemmas.List.Elements.{All-head, All-tail}
use Rattle.std.proofs.Math.Nat.{mod-lt}
use Rattle.osc_clock.specs.Ticks.{IsRunning}
use Rattle.local_clock.specs.Reading.{Clock, Event, Happening, received, reset, after_event, advanced, clock_at, AreUntil, AreInOrder}
use Rattle.local_clock.proofs.ManyTicks.{advanced_twice, advanced_here}

pub is_until : (s t : ℕ) → s ≤ t → nat_le s t ≡ true
is_until s t le = search (rules, nat_tests)

pub is_after : (s t : ℕ) → t < s → nat_le s t ≡ false
is_after s t lt = search (rules, nat_tests)

-- what an event leaves as it is
pub event_instant : (e : Event) (c : Clock) → (after_event e c).instant ≡ c.instant
event_instant (received d) c = refl
event_instant (reset g) c = refl

pub event_osc : (e : Event) (c : Clock) → (after_event e c).osc ≡ c.osc
event_osc (received d) c = refl
event_osc (reset g) c = refl

pub event_reading : (e : Event) (c : Clock) → (after_event e c).reading ≡ c.reading
event_reading (received d) c = refl
event_reading (reset g) c = refl

-- an advance on the way changes nothing
on_the_way : (w s t : ℕ) (c : Clock) (events : List Happening) → IsRunning c.osc → c.instant ≤ s → s ≤ t → AreInOrder s events
    → clock_at w (advanced w s c) events t ≡ clock_at w c events t
on_the_way w s t c [] run early late from = advanced_twice w s t c run early late
on_the_way w s t c (h ∷ rest) run early late from = elim (cases_lt t h.instant) [
  | inr until ↦
      let e = is_until h.instant t until in
      rw e (ap (λ a. clock_at w (after_event h.event a) rest t) (advanced_twice w s h.instant c run early from.0))
  | inl later ↦ let e = is_after h.instant t later in rw e (advanced_twice w s t c run early late)
]

-- events up to s, and then those from s on
pub in_turn : (w s t : ℕ) (c : Clock) (before later : List Happening) → IsRunning c.osc → c.instant ≤ s → s ≤ t
    → AreUntil s before → AreInOrder s later → clock_at w (clock_at w c before s) later t ≡ clock_at w c (before ++ later) t
in_turn w s t c [] later run early late until from = on_the_way w s t c later run early late from
in_turn w s t c (h ∷ rest) later run early late until from =
    let here : h.instant ≤ s = All-head (λ (e : Happening). e.instant ≤ s) h rest until in
    let a = after_event h.event (advanced w h.instant c) in
    let first = is_until h.instant s here in
    let second = is_until h.instant t (omega (arith, here, late)) in
    let at = event_instant h.event (advanced w h.instant c) in
    let osc = event_osc h.event (advanced w h.instant c) in
    rw (first, second)
    (in_turn w s t a rest later (rw osc run) (omega (arith, at, here)) late (All-tail (λ (e : Happening). e.instant ≤ s) h rest until) from)

-- events after t are none yet
pub not_yet : (w t : ℕ) (c : Clock) (before later : List Happening) → AreInOrder (t + 1) later
    → clock_at w c (before ++ later) t ≡ clock_at w c before t
not_yet w t c [] [] from = refl
not_yet w t c [] (h ∷ rest) from = let e = is_after h.instant t (omega (arith, from.0)) in rw e refl
not_yet w t c (h ∷ rest) later from = elim (cases_lt t h.instant) [
  | inr until ↦
      let e = is_until h.instant t until in
      rw e (not_yet w t (after_event h.event (advanced w h.instant c)) rest later from)
  | inl after ↦ let e = is_after h.instant t after in rw e refl
]

-- one event more
pub one_more : (w t : ℕ) (c : Clock) (events : List Happening) (h : Happening) → AreUntil h.instant events → h.instant ≤ t
    → clock_at w c (events ++ h ∷ []) t ≡ advanced w t (after_event h.event (clock_at w c events h.instant))
one_more w t c [] h until le = let e = is_until h.instant t le in rw e refl
one_more w t c (g ∷ rest) h until le =
    let here : g.instant ≤ h.instant = All-head (λ (e : Happening). e.instant ≤ h.instant) g rest until in
    let first = is_until g.instant t (omega (arith, here, le)) in
    let second = is_until g.instant h.instant here in
    rw (first, second)
    (one_more w t (after_event g.event (advanced w g.instant c)) rest h (All-tail (λ (e : Happening). e.instant ≤ h.instant) g rest until) le)

-- it stands at t, and its oscillator stays
pub stands : (w t : ℕ) (c : Clock) (events : List Happening) → ((clock_at w c events t).instant ≡ t) × ((clock_at w c events t).osc ≡ c.osc)
stands w t c [] = (refl, refl)
stands w t c (h ∷ rest) =
    let a = advanced w h.instant c in
    elim (cases_lt t h.instant) [
      | inr until ↦
          let e = is_until h.instant t until in
          let there = stands w t (after_event h.event a) rest in
          rw e (there.0, there.1 ∙ event_osc h.event a)
      | inl after ↦ let e = is_after h.instant t after in rw e (refl, refl)
    ]

-- its reading is a word
pub fits : (w t : ℕ) (c : Clock) (events : List Happening) → (clock_at w c events t).reading < 2 ^ w
fits w t c [] = mod-lt _ (pow_pos w)
fits w t c (h ∷ rest) = elim (cases_lt t h.instant) [
  | inr until ↦
      let e = is_until h.instant t until in
      rw e (fits w t (after_event h.event (advanced w h.instant c)) rest)
  | inl after ↦ let e = is_after h.instant t after in rw e (mod-lt _ (pow_pos w))
]

-- what an event does at its own instant
pub at_once : (w : ℕ) (c : Clock) (events : List Happening) (h : Happening) → AreUntil h.instant events
    → clock_at w c (events ++ h ∷ []) h.instant ≡ after_event h.event (clock_at w c events h.instant)
at_once w c events h until =
    let before = clock_at w c events h.instant in
    let after = after_event h.event before in
    let at : after.instant ≡ h.instant = event_instant h.event before ∙ (stands w h.instant c events).0 in
    let word : after.reading < 2 ^ w = rw (event_reading h.event before) (fits w h.instant c events) in
    one_more w h.instant c events h until (omega arith) ∙ ap (λ t. advanced w t after) (sym at) ∙ advanced_here w after word
