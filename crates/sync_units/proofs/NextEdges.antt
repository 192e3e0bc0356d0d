-- The loop from edge to edge: what one turn does, and what is left of the ticks after it.
use Rattle.std.proofs.Common.{◌≡◌, ℕ, ◌+◌, ◌-◌, ◌<◌, ◌≤◌, ◌^◌, ◌%◌, min, Bool, true, false, ◌++◌, Option, Some, None, arith, rules, sym, ap, ap₂, ◌∙◌, subst, inl, inr}
use Rattle.std.specs.Prelude.{nat_lt, if◌then◌else◌}
use Rattle.std.proofs.Math.Path.{fun_ext}
use Rattle.std.proofs.lemmas.Bool.{cases_lt}
use Rattle.std.proofs.lemmas.Bool.Decides.{nat_tests}
use Rattle.std.proofs.lemmas.Option.{same_Some}
use Rattle.osc_clock.specs.Ticks.{IsRunning, ticks}
use Rattle.osc_clock.proofs.Exported.{not_after, instants_rise, ticks_rise}
use Rattle.local_clock.specs.Reading.{Clock, ticks_to, advanced}
use Rattle.local_clock.specs.FirstReaching.{is_behind, tick_after, within_time}
use Rattle.local_clock.proofs.Exported.{ticks_to_tick, ticks_on, advanced_reading, advanced_tick, advanced_twice}
use Rattle.sync_units.specs.ClockCopy.{copy_of, copy_after}
use Rattle.sync_units.specs.declared.armed_unit.NextEdges.{NextEdges}
use Rattle.sync_units.specs.declared.edge.Signal.{Signal}
use Rattle.sync_units.specs.declared.edge.Signal.TheVariants.{Sync0, Sync1}
use Rattle.sync_units.specs.KeptEdges.{Kept, put_all}
use Rattle.sync_units.specs.SyncRule.{Due, Armed, due_of, after_tick, tick_edges, after_ticks, ticks_edges}
use Rattle.sync_units.specs.Quiet.{AreQuiet, spare_to}
use Rattle.sync_units.specs.Edges.{IsNextReached}
use Rattle.sync_units.specs.NextEdge.{next_of, IsNextEdge, IsNextUnlessNow, AreNextEdges, IsFrom, AreFrom, IsFirst}
use Rattle.sync_units.proofs.Kept.{put_all-append}
use Rattle.sync_units.proofs.Spare.{quiet_at}
use Rattle.sync_units.proofs.Ticks.{quiet_after, quiet_none, first_after, first_edges}

within_is : (x n : ℕ) → within_time x ≡ Some n → x ≡ n
within_is x n is = at (nat_lt x (2 ^ 64)) is
  where
    at : (b : Bool) → (if b then Some x else None) ≡ Some n → x ≡ n
    at true e = cc
    at false e = cc

-- an instant of one signal that is from the other's on is the first
is_first : (t n : ℕ) (next : NextEdges) (s : Signal) → n ≤ t → next_of s next ≡ Some n → AreFrom n next → IsFirst t n next
is_first t n next s le is from = record { within = le; from = from; signal = s; one = is }

pub first_of_two : (t n a b : ℕ) (next : NextEdges) → next.sync0 ≡ Some a → next.sync1 ≡ Some b → n ≡ min a b → n ≤ t → IsFirst t n next
first_of_two t n a b next is0 is1 least le = elim (cases_lt a b) [
  | inl lt ↦ is_first t n next Sync0 le (is0 ∙ ap Some (omega (arith, least))) from
  | inr ge ↦ is_first t n next Sync1 le (is1 ∙ ap Some (omega (arith, least))) from
]
  where
    from : AreFrom n next
    from Sync0 = rw is0 (omega (arith, least))
    from Sync1 = rw is1 (omega (arith, least))

pub first_of_sync0 : (t n a : ℕ) (next : NextEdges) → next.sync0 ≡ Some a → next.sync1 ≡ None → n ≡ a → n ≤ t → IsFirst t n next
first_of_sync0 t n a next is0 is1 same le = is_first t n next Sync0 le (is0 ∙ ap Some (sym same)) from
  where
    from : AreFrom n next
    from Sync0 = rw is0 (omega (arith, same))
    from Sync1 = rw is1 _

pub first_of_sync1 : (t n b : ℕ) (next : NextEdges) → next.sync0 ≡ None → next.sync1 ≡ Some b → n ≡ b → n ≤ t → IsFirst t n next
first_of_sync1 t n b next is0 is1 same le = is_first t n next Sync1 le (is1 ∙ ap Some (sym same)) from
  where
    from : AreFrom n next
    from Sync0 = rw is0 _
    from Sync1 = rw is1 (omega (arith, same))

ticks_apart : (c : Clock) (j k : ℕ) → IsRunning c.osc → j ≤ k → tick_after c j ≤ tick_after c k
ticks_apart c j k run le = elim (cases_lt j k) [
  | inl lt ↦ let rise = instants_rise c.osc (ticks c.osc c.instant + j) (ticks c.osc c.instant + k) run (omega arith) in omega (arith, rise)
  | inr ge ↦ let e : j ≡ k = omega arith in rw e (omega arith)
]

-- the instant that was found, where it is one of 64 bits
pub found : (w n offset k : ℕ) (c : Clock) (d : Due) (at : Option ℕ) → IsRunning c.osc → IsNextReached w (copy_after w c offset) d.value 0 k
    → at ≡ within_time (tick_after c k) → IsNextEdge w n c offset (Some d) at
found w n offset k c d None run next is = λ i some le early. elim (cases_lt i k) [
  | inl lt ↦ next.before i some lt
  | inr ge ↦
      let rise = ticks_apart c k i run ge in
      let fits : nat_lt (tick_after c k) (2 ^ 64) ≡ true = search (rules, nat_tests) in
      absurd (let none = rw fits at is in cc none)
]
found w n offset k c d (Some at) run next is = (k, next, sym (within_is (tick_after c k) at (sym is)))

-- no edge is looked for at ticks that can be spared
pub spared : (w n offset : ℕ) (c : Clock) (d : Due) → n ≤ spare_to w (copy_of w c offset) d.value → IsNextEdge w n c offset (Some d) None
spared w n offset c d spare = λ i some le early. quiet_at w offset d.value n i c spare some le

-- before the instant of its next edge a signal is not reached
quiet_until : (w n m offset : ℕ) (c : Clock) (d : Due) (at : Option ℕ) → IsRunning c.osc → IsNextEdge w m c offset (Some d) at
    → IsFrom n at → n ≤ 2 ^ 64 → (i : ℕ) → 0 < i → i ≤ m → tick_after c i < n → is_behind w (copy_after w c offset i) d.value ≡ true
quiet_until w n m offset c d None run none from few i some le early = none i some le (omega (arith, early, few))
quiet_until w n m offset c d (Some at) run (k, next, is) from few i some le early = elim (cases_lt i k) [
  | inl lt ↦ next.before i some lt
  | inr ge ↦
      let rise = ticks_apart c k i run ge in
      absurd (omega (arith, from, is, rise, early))
]

all_quiet : (w n m offset j : ℕ) (c : Clock) (a : Armed) (next : NextEdges) → IsRunning c.osc
    → AreNextEdges w m c offset a next → AreFrom n next → n ≤ 2 ^ 64 → j ≤ m
    → ((i : ℕ) → i ≤ j → 0 < i → tick_after c i < n) → AreQuiet w (copy_after w c offset) j a
all_quiet w n m offset j c a next run are from few within early = λ i some le s d is.
    quiet_until w n m offset c d (next_of s next) run (subst (λ o. IsNextEdge w m c offset o (next_of s next)) is (are s)) (from s) few i some (omega (arith, le, within)) (early i le some)

-- with no next edge up to t, the ticks up to t change nothing
none_left : (w t offset : ℕ) (c : Clock) (a : Armed) (next : NextEdges) → IsRunning c.osc → c.instant ≤ t → t < 2 ^ 64
    → AreNextEdges w (ticks_to c t) c offset a next → AreFrom (t + 1) next → AreQuiet w (copy_after w c offset) (ticks_to c t) a
none_left w t offset c a next run late fits are from =
    all_quiet w (t + 1) (ticks_to c t) offset (ticks_to c t) c a next run are from (omega arith) (omega arith)
    (λ i le some.
    let before = not_after c.osc t (ticks c.osc c.instant + i) run (omega arith) in
    omega (arith, before))

-- the ticks up to t, from the tick at n on: the clock that was advanced to n goes on with them
pub record IsTurn (w offset t n : ℕ) (c : Clock) (a : Armed) : Type 0 where
  pub some : 0 < ticks_to c n
  pub quiet : (o : Option Due) (at : Option ℕ) → IsNextEdge w (ticks_to c t) c offset o at → IsFrom n at
      → IsNextUnlessNow w (ticks_to (advanced w n c) t) (advanced w n c) offset o at
  pub at : tick_after c (ticks_to c n) ≡ n
  pub fewer : ticks_to (advanced w n c) t < ticks_to c t
  pub unit : after_ticks w (copy_after w c offset) (ticks_to c t) a
      ≡ after_ticks w (copy_after w (advanced w n c) offset) (ticks_to (advanced w n c) t)
      (after_tick w (copy_after w c offset (ticks_to c n)) a)
  pub edges : ticks_edges w (copy_after w c offset) (tick_after c) (ticks_to c t) a
      ≡ tick_edges w (copy_after w c offset (ticks_to c n)) n a
      ++ ticks_edges w (copy_after w (advanced w n c) offset) (tick_after (advanced w n c)) (ticks_to (advanced w n c) t)
      (after_tick w (copy_after w c offset (ticks_to c n)) a)

copies_on : (w n offset : ℕ) (c : Clock)
    → copy_after w (advanced w n c) offset ≡ (λ i. copy_after w c offset (ticks_to c n + i))
copies_on w n offset c = fun_ext (λ i. ap (λ r. (r + offset) % 2 ^ w) (advanced_reading w n i c))

times_on : (w n : ℕ) (c : Clock) → IsRunning c.osc → c.instant ≤ n
    → tick_after (advanced w n c) ≡ (λ i. tick_after c (ticks_to c n + i))
times_on w n c run late = fun_ext (λ i. advanced_tick w n i c run late)

-- a next edge that is not at the tick at n stays the next one
next_on : (w n m offset : ℕ) (c : Clock) (o : Option Due) (at : Option ℕ) → IsRunning c.osc → c.instant ≤ n → 0 < ticks_to c n
    → tick_after c (ticks_to c n) ≡ n → IsNextEdge w (ticks_to c n + m) c offset o at → IsFrom n at
    → IsNextUnlessNow w m (advanced w n c) offset o at
next_on w n m offset c None at run late some is next from = next
next_on w n m offset c (Some d) None run late some is none from = λ behind i first le early.
    let j = ticks_to c n in
    let time : tick_after (advanced w n c) i ≡ tick_after c (j + i) = advanced_tick w n i c run late in
    ap (λ (f : ℕ → ℕ). is_behind w (f i) d.value) (copies_on w n offset c)
    ∙ none (j + i) (omega (arith, first)) (omega (arith, le)) (omega (arith, time, early))
next_on w n m offset c (Some d) (Some at) run late some is (k, next, at_is) from = λ behind.
    let j = ticks_to c n in
    let beyond : j < k = elim (cases_lt j k) [
      | inl lt ↦ lt
      | inr ge ↦ elim (cases_lt k j) [
        | inl lt ↦
            let rise = instants_rise c.osc (ticks c.osc c.instant + k) (ticks c.osc c.instant + j) run (omega arith) in
            absurd (omega (arith, from, at_is, rise, is))
        | inr le ↦
            let e : j ≡ k = omega arith in
            let reached = next.reached in
            absurd (cc (reached, rw e at behind))
      ]
    ] in
    let e : j + (k - j) ≡ k = omega arith in
    let copies = copies_on w n offset c in
    let times = times_on w n c run late in (
      k - j,
      record {
        after = omega (arith, beyond);
        reached = ap (λ (f : ℕ → ℕ). is_behind w (f (k - j)) d.value) copies ∙ ap (λ i. is_behind w (copy_after w c offset i) d.value) e ∙ next.reached;
        before = λ i first last. ap (λ (f : ℕ → ℕ). is_behind w (f i) d.value) copies ∙ next.before (j + i) (omega arith) (omega arith);
      },
      at_is ∙ ap (tick_after c) (sym e) ∙ ap (λ (f : ℕ → ℕ). f (k - j)) (sym times),
    )

-- nothing is reached before the tick at n
pub one_turn : (w offset t n : ℕ) (c : Clock) (a : Armed) → IsRunning c.osc → c.instant ≤ n → n ≤ t → t < 2 ^ 64
    → 0 < ticks_to c n → tick_after c (ticks_to c n) ≡ n → AreQuiet w (copy_after w c offset) (ticks_to c n - 1) a
    → IsTurn w offset t n c a
one_turn w offset t n c a run rises early fits some is quiet =
    let on : ticks_to c t ≡ ticks_to c n + (ticks c.osc t - ticks c.osc n) = ticks_on c n t run rises early in
    let copies = copies_on w n offset c in
    record {
      some = some;
      quiet = λ o at next from. next_on w n (ticks c.osc t - ticks c.osc n) offset c o at run rises some is (subst (λ m. IsNextEdge w m c offset o at) on next) from;
      at = is;
      fewer = omega (arith, on);
      unit = first_after w (copy_after w c offset) (copy_after w (advanced w n c) offset) (ticks_to c n)
          (ticks c.osc t - ticks c.osc n) (ticks_to c t) a some quiet on copies;
      edges = first_edges w (copy_after w c offset) (copy_after w (advanced w n c) offset) (tick_after c) (tick_after (advanced w n c))
          (ticks_to c n) (ticks c.osc t - ticks c.osc n) (ticks_to c t) n a some quiet on copies (times_on w n c run rises) (sym is);
    }

quiet_before : (w offset t n : ℕ) (c : Clock) (a : Armed) (next : NextEdges) → IsRunning c.osc → n ≤ t → t < 2 ^ 64
    → AreNextEdges w (ticks_to c t) c offset a next → AreFrom n next → 0 < ticks_to c n → tick_after c (ticks_to c n) ≡ n
    → AreQuiet w (copy_after w c offset) (ticks_to c n - 1) a
quiet_before w offset t n c a next run early fits are from some is =
    let fewer = ticks_rise c.osc n t run early in
    all_quiet w n (ticks_to c t) offset (ticks_to c n - 1) c a next run are from (omega (arith, early)) (omega (arith, fewer))
    (λ i le first.
    let rise = instants_rise c.osc (ticks c.osc c.instant + i) (ticks c.osc c.instant + ticks_to c n) run (omega arith) in
    omega (arith, rise, is))

-- the instant that was found is that of a tick
tick_found : (w n m offset : ℕ) (c : Clock) (o : Option Due) (at : Option ℕ) → IsRunning c.osc → IsNextEdge w m c offset o at → at ≡ Some n
    → (0 < ticks_to c n) × (tick_after c (ticks_to c n) ≡ n)
tick_found w n m offset c None at run none found = absurd (cc (none, found))
tick_found w n m offset c (Some d) None run none found = absurd (cc found)
tick_found w n m offset c (Some d) (Some at) run (k, next, is) found =
    let e : tick_after c k ≡ n = sym is ∙ same_Some at n found in
    let j : ticks_to c n ≡ k = sym (ap (ticks_to c) e) ∙ ticks_to_tick c k run in
    (let s = next.after in omega (arith, s, j), ap (tick_after c) j ∙ e)

-- between two turns of the loop: the ticks that are left give the unit, the list and the clock that all ticks would
pub record GoesOn (w offset t : ℕ) (c₀ : Clock) (a₀ : Armed) (l₀ : Kept) (c : Clock) (a : Armed) (l : Kept) (left : ℕ) (next : NextEdges) : Type 0 where
  pub unit : after_ticks w (copy_after w c offset) (ticks_to c t) a ≡ after_ticks w (copy_after w c₀ offset) (ticks_to c₀ t) a₀
  pub list : put_all (ticks_edges w (copy_after w c offset) (tick_after c) (ticks_to c t) a) l
      ≡ put_all (ticks_edges w (copy_after w c₀ offset) (tick_after c₀) (ticks_to c₀ t) a₀) l₀
  pub clock : advanced w t c ≡ advanced w t c₀
  pub count : left ≡ ticks_to c t
  pub are : AreNextEdges w left c offset a next
  pub within : c.instant ≤ t
  pub run : IsRunning c.osc

turn_of : (w offset t n : ℕ) (c : Clock) (a : Armed) (next : NextEdges) → t < 2 ^ 64 → IsRunning c.osc → c.instant ≤ t
    → AreNextEdges w (ticks_to c t) c offset a next → IsFirst t n next → (c.instant ≤ n) × IsTurn w offset t n c a
turn_of w offset t n c a next fits run within are first =
    let tick = tick_found w n (ticks_to c t) offset c (due_of first.signal a) (next_of first.signal next) run (are first.signal) first.one in
    let rises : c.instant ≤ n = elim (cases_lt n c.instant) [
      | inl early ↦ let rise = ticks_rise c.osc n c.instant run (omega arith) in absurd (omega (arith, rise, tick.0))
      | inr late ↦ late
    ] in
    let early = first.within in
    let quiet = quiet_before w offset t n c a next run early fits are first.from tick.0 tick.1 in
    (rises, one_turn w offset t n c a run rises early fits tick.0 tick.1 quiet)

are_to : (w offset t : ℕ) (c₀ : Clock) (a₀ : Armed) (l₀ : Kept) (c : Clock) (a : Armed) (l : Kept) (left : ℕ) (next : NextEdges)
    → GoesOn w offset t c₀ a₀ l₀ c a l left next → AreNextEdges w (ticks_to c t) c offset a next
are_to w offset t c₀ a₀ l₀ c a l left next on = subst (λ m. AreNextEdges w m c offset a next) on.count on.are

-- what `advance` of the clock asks for, and that fewer ticks are left
pub later : (w offset t n : ℕ) (c₀ : Clock) (a₀ : Armed) (l₀ : Kept) (c : Clock) (a : Armed) (l : Kept) (left : ℕ) (next : NextEdges) → t < 2 ^ 64
    → GoesOn w offset t c₀ a₀ l₀ c a l left next → IsFirst t n next → (c.instant ≤ n) × (ticks_to (advanced w n c) t < ticks_to c t)
later w offset t n c₀ a₀ l₀ c a l left next fits on first =
    let turn = turn_of w offset t n c a next fits on.run on.within (are_to w offset t c₀ a₀ l₀ c a l left next on) first in
    (turn.0, turn.1.fewer)

pub goes_on : (w offset t n : ℕ) (c₀ : Clock) (a₀ : Armed) (l₀ : Kept) (c : Clock) (a : Armed) (l : Kept) (left : ℕ) (next : NextEdges)
    (b : Armed) (m : Kept) (fewer : ℕ) (to : NextEdges) → t < 2 ^ 64
    → GoesOn w offset t c₀ a₀ l₀ c a l left next → IsFirst t n next
    → fewer ≡ ticks_to (advanced w n c) t
    → b ≡ after_tick w (copy_after w c offset (ticks_to c n)) a
    → m ≡ put_all (tick_edges w (copy_after w c offset (ticks_to c n)) n a) l
    → ((s : Signal) → IsNextUnlessNow w fewer (advanced w n c) offset (due_of s a) (next_of s next)
    → IsNextEdge w fewer (advanced w n c) offset (due_of s b) (next_of s to))
    → GoesOn w offset t c₀ a₀ l₀ (advanced w n c) b m fewer to
goes_on w offset t n c₀ a₀ l₀ c a l left next b m fewer to fits on first count b_is m_is look =
    let are = are_to w offset t c₀ a₀ l₀ c a l left next on in
    let found = turn_of w offset t n c a next fits on.run on.within are first in
    let turn = found.1 in
    record {
      unit = ap (after_ticks w (copy_after w (advanced w n c) offset) (ticks_to (advanced w n c) t)) b_is ∙ sym turn.unit ∙ on.unit;
      list =
          ap₂ (λ (u : Armed) (k : Kept). put_all (ticks_edges w (copy_after w (advanced w n c) offset) (tick_after (advanced w n c)) (ticks_to (advanced w n c) t) u) k) b_is m_is
          ∙ sym (put_all-append (tick_edges w (copy_after w c offset (ticks_to c n)) n a) _ l)
          ∙ ap (λ es. put_all es l) (sym turn.edges) ∙ on.list;
      clock = advanced_twice w n t c on.run found.0 first.within ∙ on.clock;
      count = count;
      are = λ s. look s (subst (λ k. IsNextUnlessNow w k (advanced w n c) offset (due_of s a) (next_of s next)) (sym count)
          (turn.quiet (due_of s a) (next_of s next) (are s) (first.from s)));
      within = first.within;
      run = on.run;
    }

pub ends : (w offset t : ℕ) (c₀ : Clock) (a₀ : Armed) (l₀ : Kept) (c : Clock) (a : Armed) (l : Kept) (left : ℕ) (next : NextEdges) → t < 2 ^ 64
    → GoesOn w offset t c₀ a₀ l₀ c a l left next → AreFrom (t + 1) next
    → (a ≡ after_ticks w (copy_after w c₀ offset) (ticks_to c₀ t) a₀)
    × (l ≡ put_all (ticks_edges w (copy_after w c₀ offset) (tick_after c₀) (ticks_to c₀ t) a₀) l₀)
ends w offset t c₀ a₀ l₀ c a l left next fits on from =
    let quiet = none_left w t offset c a next on.run on.within fits (are_to w offset t c₀ a₀ l₀ c a l left next on) from in (
      sym (quiet_after w (copy_after w c offset) (ticks_to c t) a quiet) ∙ on.unit,
      sym (ap (λ es. put_all es l) (quiet_none w (copy_after w c offset) (tick_after c) (ticks_to c t) a quiet)) ∙ on.list,
    )
