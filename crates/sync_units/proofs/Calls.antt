-- What calls one after the other give is what one call over all of their ticks would.
use Rattle.std.proofs.Common.{◌≡◌, ℕ, suc, zero, ◌+◌, ◌-◌, ◌<◌, ◌≤◌, true, false, List, [], ◌∷◌, ◌++◌, Option, Some, None, arith, rules, refl, sym, ap, ap₂, ◌∙◌}
use Rattle.std.specs.Prelude.{nat_le}
use Rattle.std.proofs.lemmas.Bool.Decides.{nat_tests}
use Rattle.osc_clock.specs.Ticks.{Oscillator, IsRunning, instant, ticks}
use Rattle.osc_clock.proofs.Exported.{ticks_rise}
use Rattle.local_clock.specs.Reading.{Clock, ticks_to}
use Rattle.local_clock.specs.FirstReaching.{tick_after}
use Rattle.sync_units.specs.declared.edge.Edge.{Edge}
use Rattle.sync_units.specs.ClockCopy.{copy_after}
use Rattle.sync_units.specs.SyncRule.{Armed, after_tick, tick_edges, after_ticks, ticks_edges, unit_after, unit_edges}
use Rattle.sync_units.specs.KeptEdges.{Kept, put_all}
use Rattle.sync_units.specs.Calls.{Call, AreInTurn, end_of, ticks_of_calls, copy_in, unit_after_calls, list_after_calls}
use Rattle.sync_units.proofs.Kept.{put_all-append}
use Rattle.sync_units.proofs.Ticks.{after_ticks-add, ticks_edges-add}

pub unit_after-add : (w : ℕ) (copy : ℕ → ℕ) (j k : ℕ) (unit : Option Armed)
    → unit_after w copy (j + k) unit ≡ unit_after w (λ i. copy (j + i)) k (unit_after w copy j unit)
unit_after-add w copy j k None = refl
unit_after-add w copy j k (Some a) = ap Some (after_ticks-add w copy j k a)

pub unit_edges-add : (w : ℕ) (copy time : ℕ → ℕ) (j k : ℕ) (unit : Option Armed)
    → unit_edges w copy time (j + k) unit
    ≡ unit_edges w copy time j unit
    ++ unit_edges w (λ i. copy (j + i)) (λ i. time (j + i)) k (unit_after w copy j unit)
unit_edges-add w copy time j k None = refl
unit_edges-add w copy time j k (Some a) = ticks_edges-add w copy time j k a

-- only the copies and the instants of the ticks that are taken matter
pub AreAlike : ℕ → (ℕ → ℕ) → (ℕ → ℕ) → Type 0
AreAlike k f g = (i : ℕ) → 0 < i → i ≤ k → f i ≡ g i

after_ticks_alike : (w : ℕ) (f g : ℕ → ℕ) (k : ℕ) (a : Armed) → AreAlike k f g → after_ticks w f k a ≡ after_ticks w g k a
unfolding AreAlike
after_ticks_alike w f g zero a h = refl
after_ticks_alike w f g (suc k) a h =
    ap₂ (λ x b. after_tick w x b) (h (suc k) (omega arith) (omega arith))
    (after_ticks_alike w f g k a (λ i some le. h i some (omega arith)))

ticks_edges_alike : (w : ℕ) (f g s t : ℕ → ℕ) (k : ℕ) (a : Armed) → AreAlike k f g → AreAlike k s t
    → ticks_edges w f s k a ≡ ticks_edges w g t k a
unfolding AreAlike
ticks_edges_alike w f g s t zero a h e = refl
ticks_edges_alike w f g s t (suc k) a h e =
    let less : AreAlike k f g = λ i some le. h i some (omega arith) in
    let more : AreAlike k s t = λ i some le. e i some (omega arith) in
    ap₂ (λ (es fs : List Edge). es ++ fs) (ticks_edges_alike w f g s t k a less more)
    (ap₂ (λ x at. tick_edges w x at (after_ticks w f k a)) (h (suc k) (omega arith) (omega arith)) (e (suc k) (omega arith) (omega arith))
    ∙ ap (tick_edges w (g (suc k)) (t (suc k))) (after_ticks_alike w f g k a less))

unit_after_alike : (w : ℕ) (f g : ℕ → ℕ) (k : ℕ) (unit : Option Armed) → AreAlike k f g → unit_after w f k unit ≡ unit_after w g k unit
unit_after_alike w f g k None h = refl
unit_after_alike w f g k (Some a) h = ap Some (after_ticks_alike w f g k a h)

unit_edges_alike : (w : ℕ) (f g s t : ℕ → ℕ) (k : ℕ) (unit : Option Armed) → AreAlike k f g → AreAlike k s t
    → unit_edges w f s k unit ≡ unit_edges w g t k unit
unit_edges_alike w f g s t k None h e = refl
unit_edges_alike w f g s t k (Some a) h e = ticks_edges_alike w f g s t k a h e

-- the first call, and then the others
copies_first : (w : ℕ) (c : Call) (cs : List Call) → AreAlike (ticks_to c.clock c.until) (copy_in w (c ∷ cs)) (copy_after w c.clock c.offset)
unfolding AreAlike
copies_first w c cs i some le =
    let e : nat_le i (ticks_to c.clock c.until) ≡ true = search (rules, nat_tests) in
    rw e refl

copies_then : (w n : ℕ) (c : Call) (cs : List Call) → AreAlike n (λ i. copy_in w (c ∷ cs) (ticks_to c.clock c.until + i)) (copy_in w cs)
unfolding AreAlike
copies_then w n c cs i some le =
    let e : nat_le (ticks_to c.clock c.until + i) (ticks_to c.clock c.until) ≡ false = search (rules, nat_tests) in
    let k : ticks_to c.clock c.until + i - ticks_to c.clock c.until ≡ i = omega arith in
    rw e (ap (copy_in w cs) k)

times_first : (n : ℕ) (o : Oscillator) (t : ℕ) (c : Clock) → c.osc ≡ o → c.instant ≡ t → AreAlike n (λ k. instant o (ticks o t + k)) (tick_after c)
unfolding AreAlike
times_first n o t c osc at i some le = ap₂ (λ p s. instant p (ticks p s + i)) (sym osc) (sym at)

times_then : (n : ℕ) (o : Oscillator) (s t j : ℕ) → ticks o s + j ≡ ticks o t
    → AreAlike n (λ k. instant o (ticks o s + (j + k))) (λ k. instant o (ticks o t + k))
unfolding AreAlike
times_then n o s t j is i some le = ap (instant o) (omega (arith, is))

ends_later : (o : Oscillator) (t : ℕ) (cs : List Call) → AreInTurn o t cs → t ≤ end_of t cs
ends_later o t [] h = omega arith
ends_later o t (c ∷ cs) h = let late = ends_later o c.until cs h.3 in omega (arith, h.2, late)

-- the ticks of the calls are those of the first and those of the others
record Parts (o : Oscillator) (t : ℕ) (c : Call) (cs : List Call) : Type 0 where
  pub all : ticks_of_calls o t (c ∷ cs) ≡ ticks_to c.clock c.until + ticks_of_calls o c.until cs
  pub first : ticks o t + ticks_to c.clock c.until ≡ ticks o c.until

parts : (o : Oscillator) (t : ℕ) (c : Call) (cs : List Call) → IsRunning o → AreInTurn o t (c ∷ cs) → Parts o t c cs
parts o t c cs run h =
    let one : ticks_to c.clock c.until ≡ ticks o c.until - ticks o t = ap₂ (λ p s. ticks p c.until - ticks p s) h.0 h.1 in
    let rise = ticks_rise o t c.until run h.2 in
    let more = ticks_rise o c.until (end_of c.until cs) run (ends_later o c.until cs h.3) in
    record { all = omega (arith, one, rise, more); first = omega (arith, one, rise) }

pub unit_in_turn : (w : ℕ) (o : Oscillator) (t : ℕ) (cs : List Call) (unit : Option Armed) → IsRunning o → AreInTurn o t cs
    → unit_after_calls w cs unit ≡ unit_after w (copy_in w cs) (ticks_of_calls o t cs) unit
unit_in_turn w o t [] unit run h =
    let none : ticks o t - ticks o t ≡ 0 = omega arith in
    rw none (at_zero unit)
  where
    at_zero : (unit : Option Armed) → unit ≡ unit_after w (copy_in w []) 0 unit
    at_zero None = refl
    at_zero (Some a) = refl
unit_in_turn w o t (c ∷ cs) unit run h =
    let n = ticks_to c.clock c.until in
    let k = ticks_of_calls o c.until cs in
    let p = parts o t c cs run h in
    unit_in_turn w o c.until cs (unit_after w (copy_after w c.clock c.offset) n unit) run h.3
    ∙ ap (unit_after w (copy_in w cs) k) (sym (unit_after_alike w (copy_in w (c ∷ cs)) (copy_after w c.clock c.offset) n unit (copies_first w c cs)))
    ∙ sym (unit_after_alike w (λ i. copy_in w (c ∷ cs) (n + i)) (copy_in w cs) k (unit_after w (copy_in w (c ∷ cs)) n unit) (copies_then w k c cs))
    ∙ sym (unit_after-add w (copy_in w (c ∷ cs)) n k unit)
    ∙ ap (λ m. unit_after w (copy_in w (c ∷ cs)) m unit) (sym p.all)

pub list_in_turn : (w : ℕ) (o : Oscillator) (t : ℕ) (cs : List Call) (unit : Option Armed) (l : Kept) → IsRunning o → AreInTurn o t cs
    → list_after_calls w cs unit l
    ≡ put_all (unit_edges w (copy_in w cs) (λ k. instant o (ticks o t + k)) (ticks_of_calls o t cs) unit) l
list_in_turn w o t [] unit l run h =
    let none : ticks o t - ticks o t ≡ 0 = omega arith in
    rw none (at_zero unit)
  where
    at_zero : (unit : Option Armed) → l ≡ put_all (unit_edges w (copy_in w []) (λ k. instant o (ticks o t + k)) 0 unit) l
    at_zero None = refl
    at_zero (Some a) = refl
list_in_turn w o t (c ∷ cs) unit l run h =
    let n = ticks_to c.clock c.until in
    let k = ticks_of_calls o c.until cs in
    let p = parts o t c cs run h in
    let here = copy_after w c.clock c.offset in
    let all = copy_in w (c ∷ cs) in
    let time = λ (i : ℕ). instant o (ticks o t + i) in
    let first : unit_edges w here (tick_after c.clock) n unit ≡ unit_edges w all time n unit =
    sym (unit_edges_alike w all here time (tick_after c.clock) n unit (copies_first w c cs) (times_first n o t c.clock h.0 h.1)) in
    let after : unit_after w here n unit ≡ unit_after w all n unit =
    sym (unit_after_alike w all here n unit (copies_first w c cs)) in
    let rest : unit_edges w (copy_in w cs) (λ i. instant o (ticks o c.until + i)) k (unit_after w all n unit)
    ≡ unit_edges w (λ i. all (n + i)) (λ i. time (n + i)) k (unit_after w all n unit) =
    sym (unit_edges_alike w (λ i. all (n + i)) (copy_in w cs) (λ i. time (n + i)) (λ i. instant o (ticks o c.until + i)) k
    (unit_after w all n unit) (copies_then w k c cs) (times_then k o t c.until n p.first)) in
    list_in_turn w o c.until cs (unit_after w here n unit) (put_all (unit_edges w here (tick_after c.clock) n unit) l) run h.3
    ∙ ap₂ (λ u (es : List Edge). put_all (unit_edges w (copy_in w cs) (λ i. instant o (ticks o c.until + i)) k u) (put_all es l)) after first
    ∙ ap (λ es. put_all es (put_all (unit_edges w all time n unit) l)) rest
    ∙ sym (put_all-append (unit_edges w all time n unit) (unit_edges w (λ i. all (n + i)) (λ i. time (n + i)) k (unit_after w all n unit)) l)
    ∙ ap (λ es. put_all es l) (sym (unit_edges-add w all time n k unit))
    ∙ ap (λ m. put_all (unit_edges w all time m unit) l) (sym p.all)
