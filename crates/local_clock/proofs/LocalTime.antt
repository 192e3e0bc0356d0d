-- The local time without wrap.
use Rattle.std.specs.Prelude.{◌≡◌, ℕ, ◌+◌, ◌-◌, ◌*◌, ◌%◌, ◌^◌, ◌<◌, ◌≤◌, List, [], ◌∷◌, ◌++◌}
use Rattle.std.proofs.Common.{arith, refl, sym, ap, ◌∙◌, inl, inr}
use Rattle.std.proofs.lemmas.Bool.{cases_lt}
use Rattle.std.proofs.lemmas.List.Elements.{All-head, All-tail}
use Rattle.std.proofs.Math.Nat.{mod-add-mod}
use Rattle.wrap_time.specs.WordLess.{word_less}
use Rattle.wrap_time.proofs.Exported.{latched_difference, offset_sum}
use Rattle.osc_clock.specs.Ticks.{IsRunning, ticks}
use Rattle.osc_clock.proofs.Exported.{ticks_rise}
use Rattle.local_clock.specs.StepRule.{steered, elapsed}
use Rattle.local_clock.specs.Reading.{Clock, Event, Happening, received, reset, after_event, advanced, clock_at, reading_at, steering_of, ticks_to, AreUntil, AreInOrder}
use Rattle.local_clock.specs.LocalTime.{whole_advanced, whole_clock_at, local_time, cut_to}
use Rattle.local_clock.proofs.ManyTicks.{steered_splits, elapsed_splits, ticks_on, speed_least, speed_most}
use Rattle.local_clock.proofs.History.{is_until, is_after, event_instant, event_osc, event_reading}

event_cut : (w : ℕ) (e : Event) (c : Clock) → after_event e (cut_to w c) ≡ cut_to w (after_event e c)
event_cut w (received d) c = refl
event_cut w (reset g) c = refl

advanced_cut : (w t : ℕ) (c : Clock) → advanced w t (cut_to w c) ≡ cut_to w (whole_advanced t c)
advanced_cut w t c =
    let n = mod-add-mod c.reading (2 ^ w) (elapsed c.g (ticks_to c t) (steering_of c)) in
    ap (λ r. cut_to w (record (whole_advanced t c) { reading = r })) refl ∙ rw n refl

-- what a clock of w bits shows by its history is the cut of the whole clock
pub shown_cut : (w t : ℕ) (c : Clock) (events : List Happening) → clock_at w (cut_to w c) events t ≡ cut_to w (whole_clock_at c events t)
shown_cut w t c [] = advanced_cut w t c
shown_cut w t c (h ∷ rest) =
    let a = whole_advanced h.instant c in
    let on : after_event h.event (advanced w h.instant (cut_to w c)) ≡ cut_to w (after_event h.event a) =
    ap (after_event h.event) (advanced_cut w h.instant c) ∙ event_cut w h.event a in
    elim (cases_lt t h.instant) [
      | inr until ↦
          let e = is_until h.instant t until in
          rw e (ap (λ b. clock_at w b rest t) on ∙ shown_cut w t (after_event h.event a) rest)
      | inl after ↦ let e = is_after h.instant t after in rw e (advanced_cut w t c)
    ]

pub shown : (w t : ℕ) (c : Clock) (events : List Happening) → clock_at w c events t ≡ cut_to w (whole_clock_at c events t)
shown w t c [] = refl
shown w t c (h ∷ rest) =
    let a = whole_advanced h.instant c in
    elim (cases_lt t h.instant) [
      | inr until ↦
          let e = is_until h.instant t until in
          rw e (ap (λ b. clock_at w b rest t) (event_cut w h.event a) ∙ shown_cut w t (after_event h.event a) rest)
      | inl after ↦ let e = is_after h.instant t after in rw e refl
    ]

pub reading_is : (w t : ℕ) (c : Clock) (events : List Happening) → reading_at w c events t ≡ local_time c events t % 2 ^ w
reading_is w t c events = ap (λ a. a.reading) (shown w t c events)

whole_twice : (s t : ℕ) (c : Clock) → IsRunning c.osc → c.instant ≤ s → s ≤ t → whole_advanced t (whole_advanced s c) ≡ whole_advanced t c
whole_twice s t c run early late =
    let on = ticks_on c s t run early late in
    let j = ticks_to c s in
    let k = ticks c.osc t - ticks c.osc s in
    let takes : c.reading + elapsed c.g j (steering_of c) + elapsed c.g k (steered c.g j (steering_of c)) ≡ c.reading + elapsed c.g (ticks_to c t) (steering_of c) =
    (let e = elapsed_splits c.g j k (steering_of c) in let f = ap (λ n. elapsed c.g n (steering_of c)) on in omega (arith, e, f)) in
    let steers : steered c.g k (steered c.g j (steering_of c)) ≡ steered c.g (ticks_to c t) (steering_of c) =
    sym (ap (λ n. steered c.g n (steering_of c)) on ∙ steered_splits c.g j k (steering_of c)) in
    rw (takes, steers) refl

whole_on_the_way : (s t : ℕ) (c : Clock) (events : List Happening) → IsRunning c.osc → c.instant ≤ s → s ≤ t → AreInOrder s events
    → whole_clock_at (whole_advanced s c) events t ≡ whole_clock_at c events t
whole_on_the_way s t c [] run early late from = whole_twice s t c run early late
whole_on_the_way s t c (h ∷ rest) run early late from = elim (cases_lt t h.instant) [
  | inr until ↦
      let e = is_until h.instant t until in
      rw e (ap (λ a. whole_clock_at (after_event h.event a) rest t) (whole_twice s h.instant c run early from.0))
  | inl after ↦ let e = is_after h.instant t after in rw e (whole_twice s t c run early late)
]

pub whole_in_turn : (s t : ℕ) (c : Clock) (before later : List Happening) → IsRunning c.osc → c.instant ≤ s → s ≤ t
    → AreUntil s before → AreInOrder s later → whole_clock_at (whole_clock_at c before s) later t ≡ whole_clock_at c (before ++ later) t
whole_in_turn s t c [] later run early late until from = whole_on_the_way s t c later run early late from
whole_in_turn s t c (h ∷ rest) later run early late until from =
    let here : h.instant ≤ s = All-head (λ (e : Happening). e.instant ≤ s) h rest until in
    let a = after_event h.event (whole_advanced h.instant c) in
    let first = is_until h.instant s here in
    let second = is_until h.instant t (omega (arith, here, late)) in
    let at = event_instant h.event (whole_advanced h.instant c) in
    let osc = event_osc h.event (whole_advanced h.instant c) in
    rw (first, second)
    (whole_in_turn s t a rest later (rw osc run) (omega (arith, at, here)) late (All-tail (λ (e : Happening). e.instant ≤ s) h rest until) from)

-- the clock at t has t as its instant, and the oscillator that it had
pub whole_stands : (t : ℕ) (c : Clock) (events : List Happening) → ((whole_clock_at c events t).instant ≡ t) × ((whole_clock_at c events t).osc ≡ c.osc)
whole_stands t c [] = (refl, refl)
whole_stands t c (h ∷ rest) =
    let a = whole_advanced h.instant c in
    elim (cases_lt t h.instant) [
      | inr until ↦
          let e = is_until h.instant t until in
          let there = whole_stands t (after_event h.event a) rest in
          rw e (there.0, there.1 ∙ event_osc h.event a)
      | inl after ↦ let e = is_after h.instant t after in rw e (refl, refl)
    ]

-- an advance to its own instant changes nothing
pub whole_here : (c : Clock) → whole_advanced c.instant c ≡ c
whole_here c =
    let none : ticks_to c c.instant ≡ 0 = omega arith in
    let same : c.reading + 0 ≡ c.reading = omega arith in
    rw (none, same) refl

-- an event that has come by t, and one that has not
come : (t : ℕ) (c : Clock) (h : Happening) (rest : List Happening) → h.instant ≤ t
    → whole_clock_at c (h ∷ rest) t ≡ whole_clock_at (after_event h.event (whole_advanced h.instant c)) rest t
come t c h rest until = let e = is_until h.instant t until in rw e refl

to_come : (t : ℕ) (c : Clock) (h : Happening) (rest : List Happening) → t < h.instant → whole_clock_at c (h ∷ rest) t ≡ whole_advanced t c
to_come t c h rest after = let e = is_after h.instant t after in rw e refl

-- k ticks from s to t are 9 to 11 ns each
abbrev pub Rises : ℕ → ℕ → ℕ → Type 0
Rises a b k = (a + 9 * k ≤ b) × (b ≤ a + 11 * k)

rises_here : (s t k : ℕ) (c : Clock) → IsRunning c.osc → c.instant ≤ s → s ≤ t → ticks c.osc s + k ≡ ticks c.osc t
    → Rises (whole_advanced s c).reading (whole_advanced t c).reading k
rises_here s t k c run early late is =
    let on = ticks_on c s t run early late in
    let n : ticks_to c t ≡ ticks_to c s + k = omega (arith, on, is) in
    let e = ap (λ i. elapsed c.g i (steering_of c)) n in
    let least = speed_least c.g (ticks_to c s) k (steering_of c) in
    let most = speed_most c.g (ticks_to c s) k (steering_of c) in
    (omega (arith, e, least), omega (arith, e, most))

-- at its own instant it stands where it was
stays : (c : Clock) (events : List Happening) → IsRunning c.osc → AreInOrder c.instant events → local_time c events c.instant ≡ c.reading
stays c [] run order = let none : ticks_to c c.instant ≡ 0 = omega arith in rw none (omega arith)
stays c (h ∷ rest) run order =
    let none : ticks_to c c.instant ≡ 0 = omega arith in
    let a = after_event h.event (whole_advanced h.instant c) in
    let at : a.instant ≡ h.instant = event_instant h.event (whole_advanced h.instant c) in
    let osc : a.osc ≡ c.osc = event_osc h.event (whole_advanced h.instant c) in
    let still : (n : ℕ) → n ≡ 0 → c.reading + elapsed c.g n (steering_of c) ≡ c.reading = λ n e. rw e (omega arith) in
    elim (cases_lt c.instant h.instant) [
      | inr until ↦
          let same : h.instant ≡ c.instant = omega (arith, until, order.0) in
          let start : a.reading ≡ c.reading =
          event_reading h.event (whole_advanced h.instant c) ∙ still (ticks_to c h.instant) (ap (ticks_to c) same ∙ none) in
          ap (λ b. b.reading) (come c.instant c h rest until) ∙ ap (local_time a rest) (sym (at ∙ same))
          ∙ stays a rest (rw osc run) (rw at order.1) ∙ start
      | inl after ↦ ap (λ b. b.reading) (to_come c.instant c h rest after) ∙ still (ticks_to c c.instant) none
    ]

-- k ticks by its history
pub rises : (s t k : ℕ) (c : Clock) (events : List Happening) → IsRunning c.osc → c.instant ≤ s → s ≤ t → AreInOrder c.instant events
    → ticks c.osc s + k ≡ ticks c.osc t → Rises (local_time c events s) (local_time c events t) k
rises s t k c [] run early late order is = rises_here s t k c run early late is
rises s t k c (h ∷ rest) run early late order is =
    let a = after_event h.event (whole_advanced h.instant c) in
    let at : a.instant ≡ h.instant = event_instant h.event (whole_advanced h.instant c) in
    let osc : a.osc ≡ c.osc = event_osc h.event (whole_advanced h.instant c) in
    let shows : a.reading ≡ (whole_advanced h.instant c).reading = event_reading h.event (whole_advanced h.instant c) in
    elim (cases_lt s h.instant) [
      | inr until ↦
          let there = rises s t k a rest (rw osc run) (omega (arith, at, until)) late (rw at order.1) (rw osc is) in
          let first = ap (λ b. b.reading) (come s c h rest until) in
          let second = ap (λ b. b.reading) (come t c h rest (omega (arith, until, late))) in
          (omega (arith, first, second, there.0), omega (arith, first, second, there.1))
      | inl after ↦
          let first = ap (λ b. b.reading) (to_come s c h rest after) in
          elim (cases_lt t h.instant) [
            | inl later ↦
                let second = ap (λ b. b.reading) (to_come t c h rest later) in
                let there = rises_here s t k c run early late is in
                (omega (arith, first, second, there.0), omega (arith, first, second, there.1))
            | inr until ↦
                let second = ap (λ b. b.reading) (come t c h rest until) in
                let rise = ticks_rise c.osc s h.instant run (omega (arith, after)) in
                let more = ticks_rise c.osc h.instant t run until in
                let j = ticks c.osc h.instant - ticks c.osc s in
                let before = rises_here s h.instant j c run early (omega (arith, after)) (omega (arith, rise)) in
                let from : local_time a rest h.instant ≡ a.reading = ap (local_time a rest) (sym at) ∙ stays a rest (rw osc run) (rw at order.1) in
                let behind = rises h.instant t (k - j) a rest (rw osc run) (omega (arith, at)) until (rw at order.1) (rw osc (omega (arith, rise, more, is))) in
                let parts : j + (k - j) ≡ k = omega (arith, rise, more, is) in (
                  omega (arith, first, second, before.0, behind.0, from, shows, parts),
                  omega (arith, first, second, before.1, behind.1, from, shows, parts),
                )
          ]
    ]

-- the words of two times less than the range apart
pub apart : (w s t : ℕ) (c : Clock) (events : List Happening) → local_time c events s ≤ local_time c events t
    → local_time c events t < local_time c events s + 2 ^ w
    → word_less w (reading_at w c events t) (reading_at w c events s) ≡ local_time c events t - local_time c events s
apart w s t c events le near =
    let now = reading_is w t c events in
    let then = reading_is w s c events in
    rw (now, then) (latched_difference w (local_time c events s) (local_time c events t) le near)

-- an offset that brings a word to n
pub with_offset : (w n s t : ℕ) (c : Clock) (events : List Happening) → local_time c events s ≤ local_time c events t
    → (reading_at w c events t + word_less w n (reading_at w c events s)) % 2 ^ w
    ≡ (n + (local_time c events t - local_time c events s)) % 2 ^ w
with_offset w n s t c events le =
    let now = reading_is w t c events in
    let then = reading_is w s c events in
    rw (now, then) (offset_sum w n (local_time c events s % 2 ^ w) (local_time c events t) (local_time c events s) le refl)
