-- How many ticks a unit can spare.
use Rattle.std.specs.Prelude.{◌≡◌, ℕ, ◌+◌, ◌-◌, ◌*◌, ◌/◌, ◌%◌, ◌^◌, ◌<◌, ◌≤◌, ℤ, pos, negsuc, ◌+ℤ◌, ◌<ℤ◌, ◌≤ℤ◌, true, Option, Some, None, [], min, unsigned_abs, if◌then◌else◌}
use Rattle.std.proofs.Common.{arith, refl, ap, ◌∙◌, inl, inr}
use Rattle.std.proofs.lemmas.Int.{ints}
use Rattle.std.proofs.lemmas.Bool.{cases_lt}
use Rattle.std.proofs.lemmas.Option.{same_Some}
use Rattle.std.proofs.Math.Nat.{mod-add-mod, mod-eq_of_lt}
use Rattle.wrap_time.specs.WordDifference.{word_difference}
use Rattle.local_clock.specs.StepRule.{elapsed}
use Rattle.local_clock.specs.Reading.{Clock, steering_of, ticks_to, advanced}
use Rattle.local_clock.specs.FirstReaching.{is_behind, is_negative, tick_after}
use Rattle.local_clock.proofs.Exported.{elapsed_most, ahead, ahead_later, behind_by, still_behind}
use Rattle.sync_units.specs.ClockCopy.{copy_of, copy_after}
use Rattle.sync_units.specs.Interval.{unit_at, edges_to}
use Rattle.sync_units.specs.declared.edge.Signal.{Signal}
use Rattle.sync_units.specs.declared.edge.Signal.TheVariants.{Sync0, Sync1}
use Rattle.sync_units.specs.SyncRule.{Due, Armed, due_of}
use Rattle.sync_units.specs.Quiet.{AreQuiet, spare_to, spare_of}
use Rattle.sync_units.proofs.Ticks.{quiet_after, quiet_none}

-- the copy x is behind v by more than k ticks take, which are 11 ns at most
abbrev IsBeyond : ℕ → ℕ → ℕ → ℕ → Type 0
IsBeyond w x v k = (word_difference w x v +ℤ pos (11 * k)) <ℤ pos 0

size_of : (z : ℤ) → z <ℤ pos 0 → pos (unsigned_abs z) +ℤ z ≡ pos 0
size_of (pos n) negative = absurd (omega (arith, ints, negative))
size_of (negsuc n) negative = omega (arith, ints)

beyond : (w offset v k j : ℕ) (c : Clock) → IsBeyond w (copy_of w c offset) v k → j ≤ k
    → is_behind w (copy_after w c offset j) v ≡ true
beyond w offset v k j c far le =
    let negative : word_difference w (copy_of w c offset) v <ℤ pos 0 = omega (arith, ints, far) in
    let b = behind_by w (copy_of w c offset) v negative in
    let size = size_of (word_difference w (copy_of w c offset) v) negative in
    let most = elapsed_most c.g j (steering_of c) in
    let same : c.reading + elapsed c.g j (steering_of c) + offset ≡ c.reading + (offset + elapsed c.g j (steering_of c)) = omega arith in
    ap (λ n. is_behind w n v) (mod-add-mod (c.reading + elapsed c.g j (steering_of c)) (2 ^ w) offset ∙ ap (λ n. n % 2 ^ w) same)
    ∙ still_behind w c.reading offset (elapsed c.g j (steering_of c)) v b.0 (omega (arith, ints, far, size, most, le, b.1, b.2))

-- a difference by its sign
beyond_by : (z : ℤ) (k : ℕ) → 0 < k → k ≤ (if is_negative z then (unsigned_abs z - 1) / 11 else 0) → (z +ℤ pos (11 * k)) <ℤ pos 0
beyond_by (pos n) k some le = absurd (omega (arith, some, le))
beyond_by (negsuc n) k some le = let few : 11 * k ≤ n = omega (arith, le) in omega (arith, ints, few)

negative_by : (z : ℤ) → is_negative z ≡ true → z <ℤ pos 0
negative_by (pos n) e = absurd (let is = e in cc)
negative_by (negsuc n) e = omega (arith, ints)

pub quiet_at : (w offset v k j : ℕ) (c : Clock) → k ≤ spare_to w (copy_of w c offset) v → 0 < j → j ≤ k → is_behind w (copy_after w c offset j) v ≡ true
quiet_at w offset v k j c spare some le =
    beyond w offset v k j c (beyond_by (word_difference w (copy_of w c offset) v) k (omega (arith, some, le)) spare) le

-- what a unit can spare, each of its signals can
spared_of : (w x k : ℕ) (a : Armed) → k ≤ spare_of w x (Some a) → (s : Signal) (d : Due) → due_of s a ≡ Some d → k ≤ spare_to w x d.value
spared_of w x k a spare s d due = by a.sync1 refl s due
  where
    by : (o : Option Due) → a.sync1 ≡ o → (s : Signal) → due_of s a ≡ Some d → k ≤ spare_to w x d.value
    by None e Sync0 is = let same = same_Some a.sync0 d is in rw (← same) (rw e at spare)
    by None e Sync1 is = absurd (cc (e, is))
    by (Some due) e Sync0 is =
        let both : k ≤ min (spare_to w x a.sync0.value) (spare_to w x due.value) = rw e at spare in
        let same = same_Some a.sync0 d is in
        rw (← same) (omega (arith, both))
    by (Some due) e Sync1 is =
        let both : k ≤ min (spare_to w x a.sync0.value) (spare_to w x due.value) = rw e at spare in
        let same : due ≡ d = cc (e, is) in
        rw (← same) (omega (arith, both))

-- at these ticks nothing is due
pub quiet_spared : (w offset k : ℕ) (c : Clock) (a : Armed) → k ≤ spare_of w (copy_of w c offset) (Some a) → AreQuiet w (copy_after w c offset) k a
quiet_spared w offset k c a spare =
    λ i some le s d due. quiet_at w offset d.value k i c (spared_of w (copy_of w c offset) k a spare s d due) some le

pub unit_spared : (w offset t : ℕ) (c : Clock) (unit : Option Armed) → ticks_to c t ≤ spare_of w (copy_of w c offset) unit → unit_at w c offset t unit ≡ unit
unit_spared w offset t c None spare = refl
unit_spared w offset t c (Some a) spare = ap Some (quiet_after w (copy_after w c offset) (ticks_to c t) a (quiet_spared w offset (ticks_to c t) c a spare))

pub edges_spared : (w offset t : ℕ) (c : Clock) (unit : Option Armed) → ticks_to c t ≤ spare_of w (copy_of w c offset) unit → edges_to w c offset t unit ≡ []
edges_spared w offset t c None spare = refl
edges_spared w offset t c (Some a) spare = quiet_none w (copy_after w c offset) (tick_after c) (ticks_to c t) a (quiet_spared w offset (ticks_to c t) c a spare)

-- what is spared e ns later, where k ticks take as long
later_spare : (w v k r offset e : ℕ) → e ≤ 11 * k → spare_to w ((r + offset) % 2 ^ w) v ≤ k + spare_to w (((r + e) % 2 ^ w + offset) % 2 ^ w) v
later_spare w v k r offset e most = elim (cases_lt k (spare_to w ((r + offset) % 2 ^ w) v)) [
  | inr all ↦ omega (arith, all)
  | inl left ↦
      let x = (r + offset) % 2 ^ w in
      let y = (r + (offset + e)) % 2 ^ w in
      let far = beyond_by (word_difference w x v) (spare_to w x v) (omega (arith, left)) (omega arith) in
      let negative : word_difference w x v <ℤ pos 0 = omega (arith, ints, far) in
      let size = size_of (word_difference w x v) negative in
      let b = behind_by w x v negative in
      let short : ahead w x v + e < 2 ^ w = omega (arith, ints, far, size, most, left, b.1, b.2) in
      let behind = still_behind w r offset e v b.0 short in
      let c = behind_by w y v (negative_by (word_difference w y v) behind) in
      let on : ahead w y v ≡ ahead w x v + e = ahead_later w r offset e v ∙ mod-eq_of_lt short in
      let is : spare_to w y v ≡ (unsigned_abs (word_difference w y v) - 1) / 11 = rw behind refl in
      let enough : 11 * spare_to w x v < unsigned_abs (word_difference w x v) = omega (arith, ints, far, size) in
      let same : ((r + e) % 2 ^ w + offset) % 2 ^ w ≡ y = mod-add-mod (r + e) (2 ^ w) offset ∙ ap (λ n. n % 2 ^ w) (omega arith) in
      rw same (omega (arith, is, enough, most, left, on, short, b.1, b.2, c.1, c.2))
]

pub left_spare : (w offset t : ℕ) (c : Clock) (unit : Option Armed) → spare_of w (copy_of w c offset) unit ≤ ticks_to c t + spare_of w (copy_of w (advanced w t c) offset) unit
left_spare w offset t c None = omega arith
left_spare w offset t c (Some a) = by a.sync1 refl
  where
    k : ℕ
    k = ticks_to c t

    one : (v : ℕ) → spare_to w (copy_of w c offset) v ≤ k + spare_to w (copy_of w (advanced w t c) offset) v
    one v = later_spare w v k c.reading offset (elapsed c.g k (steering_of c)) (elapsed_most c.g k (steering_of c))

    by : (o : Option Due) → a.sync1 ≡ o → spare_of w (copy_of w c offset) (Some a) ≤ k + spare_of w (copy_of w (advanced w t c) offset) (Some a)
    by None e = rw e (one a.sync0.value)
    by (Some due) e = let first = one a.sync0.value in let second = one due.value in rw e (omega (arith, first, second))

-- what the code computes, by the sign of a difference
pub spare_behind : (z : ℤ) (a : ℕ) → z <ℤ pos 0 → a ≡ unsigned_abs z → (a - 1) / 11 ≡ (if is_negative z then (unsigned_abs z - 1) / 11 else 0)
spare_behind (pos n) a negative is = absurd (omega (arith, ints, negative))
spare_behind (negsuc n) a negative is = ap (λ m. (m - 1) / 11) is

pub spare_reached : (z : ℤ) → pos 0 ≤ℤ z → 0 ≡ (if is_negative z then (unsigned_abs z - 1) / 11 else 0)
spare_reached (pos n) high = refl
spare_reached (negsuc n) high = absurd (omega (arith, ints, high))
