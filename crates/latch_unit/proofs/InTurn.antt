-- Two samples one after the other.
use Rattle.std.proofs.Common.{◌≡◌, ℕ, ◌+◌, ◌%◌, ◌^◌, ◌<◌, ◌≤◌, true, false, Option, Some, None, rules, arith, refl, ap, inl, inr}
use Rattle.std.specs.Option.{option_or}
use Rattle.std.proofs.lemmas.Bool.{cases_lt}
use Rattle.std.proofs.lemmas.Bool.Decides.{nat_tests}
use Rattle.osc_clock.specs.Ticks.{IsRunning}
use Rattle.local_clock.specs.Reading.{Clock, advanced}
use Rattle.local_clock.proofs.Exported.{advanced_twice}
use Rattle.latch_unit.specs.Stamp.{taken_at, is_taken, stamp_by, expected_after}

pub taken : (c : Clock) (t event : ℕ) → c.instant < taken_at c.osc event → taken_at c.osc event ≤ t → is_taken c t event ≡ true
taken c t event after until = search (rules, nat_tests)

pub passed : (c : Clock) (t event : ℕ) → taken_at c.osc event ≤ c.instant → is_taken c t event ≡ false
passed c t event le = search (rules, nat_tests)

pub later : (c : Clock) (t event : ℕ) → t < taken_at c.osc event → is_taken c t event ≡ false
later c t event lt = search (rules, nat_tests)

pub stamps_in_turn : (w offset s t : ℕ) (c : Clock) (expected : Option ℕ) → IsRunning c.osc → c.instant ≤ s → s ≤ t
    → option_or (stamp_by w c offset s expected) (stamp_by w (advanced w s c) offset t (expected_after c s expected))
    ≡ stamp_by w c offset t expected
stamps_in_turn w offset s t c None running first second = refl
stamps_in_turn w offset s t c (Some event) running first second =
    let at = taken_at c.osc event in
    elim (cases_lt s at) [
      | inl after ↦
          let none = later c s event after in
          elim (cases_lt t at) [
            | inl beyond ↦
                let here = later (advanced w s c) t event beyond in
                let whole = later c t event beyond in
                rw (none, here, whole) refl
            | inr until ↦
                let here = taken (advanced w s c) t event after until in
                let whole = taken c t event (omega (arith, first, after)) until in
                rw (none, here, whole)
                (ap (λ d. Some ((d.reading + offset) % 2 ^ w)) (advanced_twice w s at c running first (omega (arith, after))))
          ]
      | inr until ↦
          elim (cases_lt c.instant at) [
            | inl after ↦
                let here = taken c s event after until in
                let whole = taken c t event after (omega (arith, until, second)) in
                rw (here, whole) refl
            | inr before ↦
                let here = passed c s event before in
                let then = passed (advanced w s c) t event (omega (arith, before, first)) in
                let whole = passed c t event before in
                rw (here, then, whole) refl
          ]
    ]
