-- The oscillators of a legal segment.
use Rattle.std.specs.Prelude.{◌≡◌, ℕ, ◌+◌, ◌-◌, ◌≤◌, Bool, true, false, not, ◌&&◌, nat_le, if◌then◌else◌, List, [], ◌∷◌, None, Some, Option}
use Rattle.std.specs.List.{All, find, list_all}
use Rattle.std.proofs.Common.{arith, refl}
use Rattle.std.proofs.lemmas.Bool.Decides.{nat_tests}
use Rattle.std.proofs.lemmas.List.Elements.{All-nil, All-cons, All-head, All-tail}
use Rattle.osc_clock.specs.Ticks.{Rate}
use Rattle.osc_clock.proofs.Exported.{gaps_within}
use Rattle.dc_bounds.specs.TickBounds.{tick_fs, tolerance}
use Rattle.segment_file.specs.Segment.{RowValue, SegmentValue, is_measuring, oscillator}
use Rattle.segment_file.specs.Faults.{clock_fault, is_off, is_within}
use Rattle.segment_file.specs.Legal.{IsClock, IsLegal, KeepsTime}
use Rattle.segment_file.proofs.LegalLemmas.{neither, mapped_none, faultless}

none_off : (ppm : ℕ) (rows : List RowValue) → clock_fault ppm rows ≡ None → find (is_off ppm) rows ≡ None
unfolding clock_fault
none_off ppm rows e = mapped_none _ _ (neither _ _ e).0

both : (a b : Bool) → (a && b) ≡ true → (a ≡ true) × (b ≡ true)
both true b e = (refl, e)
both false b e = absurd cc

holds : (m b : Bool) → m ≡ true → (m && not b) ≡ false → b ≡ true
holds true true m e = refl
holds true false m e = absurd cc
holds false b m e = absurd cc

period_within : (ppm period : ℕ) → is_within ppm period ≡ true → (tick_fs - tolerance ppm ≤ period) × (period ≤ tick_fs + tolerance ppm)
period_within ppm period e =
    let two = both (nat_le (tick_fs - tolerance ppm) period) (nat_le period (tick_fs + tolerance ppm)) e in
    (grind (arith, nat_tests, two.0), grind (arith, nat_tests, two.1))

rates_within : (ppm : ℕ) (rates : List Rate) → list_all (λ change. is_within ppm change.period) rates ≡ true
    → All (λ rate. (tick_fs - tolerance ppm ≤ rate.period) × (rate.period ≤ tick_fs + tolerance ppm)) rates
rates_within ppm [] e = All-nil (λ rate. (tick_fs - tolerance ppm ≤ rate.period) × (rate.period ≤ tick_fs + tolerance ppm))
rates_within ppm (r ∷ rs) e =
    let two = both (is_within ppm r.period) (list_all (λ change. is_within ppm change.period) rs) e in
    All-cons (λ rate. (tick_fs - tolerance ppm ≤ rate.period) × (rate.period ≤ tick_fs + tolerance ppm)) r rs (period_within ppm r.period two.0) (rates_within ppm rs two.1)

keeps : (ppm cycle_ns : ℕ) (r : RowValue) → IsClock cycle_ns r → is_off ppm r ≡ false → KeepsTime ppm r
keeps ppm cycle_ns r clock off m =
    let steps = list_all (λ change. is_within ppm change.period) r.rates in
    let all = holds (is_measuring r) (nat_le r.phase_fs r.period_fs && is_within ppm r.period_fs && steps) m off in
    let first = both (nat_le r.phase_fs r.period_fs && is_within ppm r.period_fs) steps all in
    let second = both (nat_le r.phase_fs r.period_fs) (is_within ppm r.period_fs) first.0 in
    let phase : r.phase_fs ≤ r.period_fs = grind (arith, nat_tests, second.0) in
    let period = period_within ppm r.period_fs second.1 in
    let rates = rates_within ppm r.rates first.1 in (
      record { some = omega (arith, (clock.measuring m).0); within = phase; few = clock.few; rising = clock.rising },
      gaps_within (oscillator r) (tick_fs - tolerance ppm) (tick_fs + tolerance ppm) (omega (arith, phase, period.1)) period.0 period.1 rates,
    )

unfound : (b : Bool) (x : RowValue) (rest : Option RowValue) → (if b then Some x else rest) ≡ None → (b ≡ false) × (rest ≡ None)
unfound true x rest e = absurd cc
unfound false x rest e = (refl, e)

all_keep : (ppm cycle_ns : ℕ) (rows : List RowValue) → All (IsClock cycle_ns) rows → find (is_off ppm) rows ≡ None → All (KeepsTime ppm) rows
all_keep ppm cycle_ns [] clocks off = All-nil (KeepsTime ppm)
all_keep ppm cycle_ns (r ∷ rs) clocks off =
    let on = unfound (is_off ppm r) r (find (is_off ppm) rs) off in
    All-cons (KeepsTime ppm) r rs (keeps ppm cycle_ns r (All-head (IsClock cycle_ns) r rs clocks) on.0)
    (all_keep ppm cycle_ns rs (All-tail (IsClock cycle_ns) r rs clocks) on.1)

-- each clock of a legal segment runs, and keeps within the ppm
pub legal_clocks : (s : SegmentValue) → IsLegal s → All (KeepsTime s.head.ppm) s.rows
legal_clocks s legal = all_keep s.head.ppm s.head.cycle_ns s.rows legal.clocks (none_off s.head.ppm s.rows (faultless s legal.faultless).0)
