-- Ticks one after the other, and ticks at which nothing is reached.
use Rattle.std.proofs.Common.{◌≡◌, ℕ, suc, zero, ◌+◌, ◌-◌, ◌<◌, true, List, [], ◌++◌, Option, Some, None, arith, refl, sym, ap, ap₂, ◌∙◌, add-zero, add-suc, append_assoc}
use Rattle.std.specs.Option.{option_map, option_map_or}
use Rattle.std.proofs.lemmas.List.{append-nil}
use Rattle.local_clock.specs.FirstReaching.{is_behind}
use Rattle.sync_units.specs.declared.edge.Edge.{Edge}
use Rattle.sync_units.specs.declared.edge.Signal.{Signal}
use Rattle.sync_units.specs.declared.edge.Signal.TheVariants.{Sync0, Sync1}
use Rattle.sync_units.specs.SyncRule.{Due, Armed, due_after_tick, raised, after_tick, tick_edges, after_ticks, ticks_edges}
use Rattle.sync_units.specs.Quiet.{IsQuiet, AreQuiet}

pub after_ticks-add : (w : ℕ) (copy : ℕ → ℕ) (j k : ℕ) (a : Armed)
    → after_ticks w copy (j + k) a ≡ after_ticks w (λ i. copy (j + i)) k (after_ticks w copy j a)
after_ticks-add w copy j zero a = rw add-zero refl
after_ticks-add w copy j (suc k) a =
    rw add-suc (ap (after_tick w (copy (suc (j + k)))) (after_ticks-add w copy j k a))

pub ticks_edges-add : (w : ℕ) (copy time : ℕ → ℕ) (j k : ℕ) (a : Armed)
    → ticks_edges w copy time (j + k) a
    ≡ ticks_edges w copy time j a
    ++ ticks_edges w (λ i. copy (j + i)) (λ i. time (j + i)) k (after_ticks w copy j a)
ticks_edges-add w copy time j zero a = rw add-zero (sym (append-nil _))
ticks_edges-add w copy time j (suc k) a =
    let before = ticks_edges-add w copy time j k a in
    let unit = after_ticks-add w copy j k a in
    rw add-suc (rw (before, unit) (simp append_assoc))

quiet_due : (w cycle x : ℕ) (d : Due) → is_behind w x d.value ≡ true → due_after_tick w cycle x d ≡ d
quiet_due w cycle x d behind = rw behind refl

quiet_raised : (w x at : ℕ) (s : Signal) (d : Due) → is_behind w x d.value ≡ true → raised w s x at d ≡ []
quiet_raised w x at s d behind = rw behind refl

quiet_tick : (w x : ℕ) (a : Armed) → IsQuiet w x a → after_tick w x a ≡ a
quiet_tick w x a h = ap₂ (λ d e. record a { sync0 = d; sync1 = e }) (quiet_due w a.cycle x a.sync0 (h Sync0 a.sync0 refl)) (of_option a.sync1 (h Sync1))
  where
    of_option : (o : Option Due) → ((d : Due) → o ≡ Some d → is_behind w x d.value ≡ true) → option_map (due_after_tick w a.cycle x) o ≡ o
    of_option None h = refl
    of_option (Some d) h = ap Some (quiet_due w a.cycle x d (h d refl))

quiet_edges : (w x at : ℕ) (a : Armed) → IsQuiet w x a → tick_edges w x at a ≡ []
quiet_edges w x at a h =
    ap₂ (λ (es fs : List Edge). es ++ fs) (quiet_raised w x at Sync0 a.sync0 (h Sync0 a.sync0 refl)) (of_option a.sync1 (h Sync1))
  where
    of_option : (o : Option Due) → ((d : Due) → o ≡ Some d → is_behind w x d.value ≡ true) → option_map_or (raised w Sync1 x at) o [] ≡ []
    of_option None h = refl
    of_option (Some d) h = quiet_raised w x at Sync1 d (h d refl)

less_quiet : (w : ℕ) (copy : ℕ → ℕ) (n : ℕ) (a : Armed) → AreQuiet w copy (suc n) a → AreQuiet w copy n a
less_quiet w copy n a h = λ i some le. h i some (omega arith)

pub quiet_after : (w : ℕ) (copy : ℕ → ℕ) (n : ℕ) (a : Armed) → AreQuiet w copy n a → after_ticks w copy n a ≡ a
quiet_after w copy zero a h = refl
quiet_after w copy (suc n) a h =
    let here = h (suc n) (omega arith) (omega arith) in
    ap (after_tick w (copy (suc n))) (quiet_after w copy n a (less_quiet w copy n a h))
    ∙ quiet_tick w (copy (suc n)) a here

pub quiet_none : (w : ℕ) (copy time : ℕ → ℕ) (n : ℕ) (a : Armed) → AreQuiet w copy n a → ticks_edges w copy time n a ≡ []
quiet_none w copy time zero a h = refl
quiet_none w copy time (suc n) a h =
    let less = less_quiet w copy n a h in
    let here = h (suc n) (omega arith) (omega arith) in
    ap₂ (λ (es : List Edge) (b : Armed). es ++ tick_edges w (copy (suc n)) (time (suc n)) b)
    (quiet_none w copy time n a less) (quiet_after w copy n a less)
    ∙ quiet_edges w (copy (suc n)) (time (suc n)) a here

-- where something may first be reached at tick n: m ticks are that one and the ticks after it
pub first_after : (w : ℕ) (copy later : ℕ → ℕ) (n k m : ℕ) (a : Armed) → 0 < n → AreQuiet w copy (n - 1) a
    → m ≡ n + k → later ≡ (λ i. copy (n + i))
    → after_ticks w copy m a ≡ after_ticks w later k (after_tick w (copy n) a)
first_after w copy later zero k m a some h is goes_on = absurd (omega arith)
first_after w copy later (suc j) k m a some h is goes_on =
    let e : suc j - 1 ≡ j = omega arith in
    rw (is, goes_on)
    (after_ticks-add w copy (suc j) k a
    ∙ ap (λ b. after_ticks w (λ i. copy (suc j + i)) k (after_tick w (copy (suc j)) b)) (quiet_after w copy j a (rw e at h)))

pub first_edges : (w : ℕ) (copy later time times : ℕ → ℕ) (n k m at : ℕ) (a : Armed) → 0 < n → AreQuiet w copy (n - 1) a
    → m ≡ n + k → later ≡ (λ i. copy (n + i)) → times ≡ (λ i. time (n + i)) → at ≡ time n
    → ticks_edges w copy time m a
    ≡ tick_edges w (copy n) at a ++ ticks_edges w later times k (after_tick w (copy n) a)
first_edges w copy later time times zero k m at a some h is goes_on times_on here = absurd (omega arith)
first_edges w copy later time times (suc j) k m at a some h is goes_on times_on here =
    let e : suc j - 1 ≡ j = omega arith in
    let quiet : AreQuiet w copy j a = rw e at h in
    rw (is, goes_on, times_on, here)
    (ticks_edges-add w copy time (suc j) k a
    ∙ ap₂ (λ (es : List Edge) (b : Armed). es ++ tick_edges w (copy (suc j)) (time (suc j)) b
    ++ ticks_edges w (λ i. copy (suc j + i)) (λ i. time (suc j + i)) k (after_tick w (copy (suc j)) b))
    (quiet_none w copy time j a quiet) (quiet_after w copy j a quiet))
