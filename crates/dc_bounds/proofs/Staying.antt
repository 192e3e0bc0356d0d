-- How near two copies stay to each other, and the edges that they raise.
use Rattle.std.specs.Prelude.{◌≡◌, ℕ, ◌+◌, ◌*◌, ◌/◌, ◌≤◌}
use Rattle.std.proofs.Common.{arith}
use Rattle.std.proofs.lemmas.Nat.{le-div}
use Rattle.dc_bounds.specs.TickBounds.{tick_fs, tick_gap, count_gap, jump}
use Rattle.dc_bounds.specs.TickFacts.{IsNear, AreTicksOf}
use Rattle.dc_bounds.specs.LockNumbers.{silence_fs}
use Rattle.dc_bounds.specs.CopyBound.{copy_bound, window}
use Rattle.dc_bounds.proofs.Growth.{tick_gap_rises, count_gap_rises}

pub copies_near : (ppm frame_ns m bound d l ticks_here ticks_there received ahead behind delay here there : ℕ) → ppm ≤ 100 → l ≤ silence_fs m frame_ns
    → AreTicksOf ppm l ticks_here → AreTicksOf ppm (l + d) ticks_there → IsNear (1000000 * delay) d bound
    → ahead ≤ jump ppm (silence_fs m frame_ns) → behind ≤ jump ppm (silence_fs m frame_ns)
    → here + behind ≡ received + 10 * ticks_here + ahead + delay → there ≡ received + 10 * ticks_there
    → IsNear (1000000 * here) (1000000 * there) (copy_bound ppm frame_ns m bound d)
copies_near ppm frame_ns m bound d l ticks_here ticks_there received ahead behind delay here there small short ki kr measured ahead_few behind_few is other =
    let silence = silence_fs m frame_ns in
    let gi = tick_gap_rises ppm l (silence + d) small (omega (arith, short)) in
    let gr = tick_gap_rises ppm (l + d) (silence + d) small (omega (arith, short)) in
    let sums = sum ticks_here ticks_there l d (tick_gap ppm l) (tick_gap ppm (l + d)) (tick_gap ppm (silence + d)) bound (jump ppm silence) received ahead behind delay here there
    ki.gap.above ki.gap.below kr.gap.above kr.gap.below gi gr measured.above measured.below ahead_few behind_few is other in
    record { above = sums.0; below = sums.1 }
  where
    sum : (ki kr l d gi gr g b q y p n delay cpi cpr : ℕ) → tick_fs * ki ≤ l + gi → l ≤ tick_fs * ki + gi → tick_fs * kr ≤ l + d + gr → l + d ≤ tick_fs * kr + gr → gi ≤ g → gr ≤ g
        → 1000000 * delay ≤ d + b → d ≤ 1000000 * delay + b → p ≤ q → n ≤ q → cpi + n ≡ y + 10 * ki + p + delay → cpr ≡ y + 10 * kr
        → (1000000 * cpi ≤ 1000000 * cpr + (1000000 * q + b + 2 * g)) × (1000000 * cpr ≤ 1000000 * cpi + (1000000 * q + b + 2 * g))
    sum ki kr l d gi gr g b q y p n delay cpi cpr h1 h2 h3 h4 h5 h6 h7 h8 h9 h10 h11 h12 =
        (omega (arith, h1, h2, h3, h4, h5, h6, h7, h8, h9, h10, h11, h12), omega (arith, h1, h2, h3, h4, h5, h6, h7, h8, h9, h10, h11, h12))

pub edges_near : (ppm shift x y first second due other copy later k l : ℕ) → IsNear first second shift
    → 1000000 * due ≤ 1000000 * copy + x → 1000000 * copy ≤ 1000000 * due + tick_fs + x
    → 1000000 * other ≤ 1000000 * later + y → 1000000 * later ≤ 1000000 * other + tick_fs + y
    → other + first ≡ due + second → later ≡ copy + 10 * k → IsNear (tick_fs * k) l (count_gap ppm k)
    → IsNear (l + 1000000 * first) (1000000 * second) (window ppm shift x y)
edges_near ppm shift x y first second due other copy later k l shifts at_least at_most other_least other_most same ticks near =
    let few : k ≤ (1000000 * shift + tick_fs + x + y) / tick_fs =
    le-div k (1000000 * shift + tick_fs + x + y) tick_fs (omega arith) (between shift x y first second due other copy later k shifts.below at_least other_most same ticks) in
    let more = count_gap_rises ppm k ((1000000 * shift + tick_fs + x + y) / tick_fs) few in
    let sums = sum x y first second due other copy later k l (count_gap ppm k) (count_gap ppm ((1000000 * shift + tick_fs + x + y) / tick_fs)) at_least at_most other_least other_most same ticks near.above
    near.below more in
    record { above = sums.0; below = sums.1 }
  where
    between : (shift x y first second due other copy later k : ℕ) → second ≤ first + shift → 1000000 * due ≤ 1000000 * copy + x → 1000000 * later ≤ 1000000 * other + tick_fs + y
        → other + first ≡ due + second → later ≡ copy + 10 * k → k * tick_fs ≤ 1000000 * shift + tick_fs + x + y
    between shift x y first second due other copy later k a b c e f = omega (arith, a, b, c, e, f)

    sum : (x y first second due other copy later k l hk h : ℕ) → 1000000 * due ≤ 1000000 * copy + x → 1000000 * copy ≤ 1000000 * due + tick_fs + x
        → 1000000 * other ≤ 1000000 * later + y → 1000000 * later ≤ 1000000 * other + tick_fs + y → other + first ≡ due + second → later ≡ copy + 10 * k
        → tick_fs * k ≤ l + hk → l ≤ tick_fs * k + hk → hk ≤ h
        → (l + 1000000 * first ≤ 1000000 * second + (tick_fs + x + y + h)) × (1000000 * second ≤ l + 1000000 * first + (tick_fs + x + y + h))
    sum x y first second due other copy later k l hk h a b c d e f g i j = (omega (arith, a, b, c, d, e, f, g, i, j), omega (arith, a, b, c, d, e, f, g, i, j))
