-- When frames are sent.
use Rattle.std.proofs.Common.{◌≡◌, ℕ, suc, ◌+◌, ◌*◌, ◌<◌, ◌≤◌, List, [], ◌∷◌, length, Option, Some, None, Bool, true, false, nat_lt, refl, ap, arith, ◌∙◌}
use Rattle.std.specs.Prelude.{IsSome}
use Rattle.std.specs.List.{AllByRecursion}
use Rattle.dc_base.specs.Causes.{raised}
use Rattle.ecat_link.specs.Exchanges.{Exchange, Runs}
use Rattle.loss_list.specs.declared.loss_row.Phase.{Phase}
use Rattle.loss_list.specs.declared.loss_row.Phase.TheVariants.{Commission, Drift}
use Rattle.std.proofs.lemmas.Bool.Decides.{nat_tests}
use Rattle.ecat_frame.specs.FrameGrammar.{FrameValue}
use Rattle.loss_list.specs.Losses.{loss_at}
use Rattle.frame_pass.specs.SegmentState.{SegmentState, segment_step, leaves_at, carried, numbered, leaving, number_of, phase_of}
use Rattle.frame_pass.specs.Invariants.{after_frames, IsOnTime, IsNumbered, IsUnsent}
use Rattle.frame_pass.proofs.Sound.{IsLeft, left_by}

pub is_below : (m n : ℕ) → m < n → nat_lt m n ≡ true
is_below m n h = grind (arith, nat_tests)

-- t is s after a sending at this time
pub record IsSent (s : SegmentState) (at : ℕ) (t : SegmentState) : Type 0 where
  pub sent : t.sent ≡ s.sent + 1
  pub last : t.last ≡ at
  pub free : t.free ≡ at + s.round_trip
  pub round_trip : t.round_trip ≡ s.round_trip

carried_sent : (o : Option ℕ) (s t : SegmentState) (at : ℕ) (f : FrameValue) → IsLeft s at t → IsSent s at (carried o t f).0
carried_sent None s t at f h = record { sent = h.sent; last = h.last; free = h.free; round_trip = h.round_trip }
carried_sent (Some n) s t at f h = record { sent = h.sent; last = h.last; free = h.free; round_trip = h.round_trip }

pub step_sent : (s : SegmentState) (wait : ℕ) (f : FrameValue) → s.sent < 1000000 → IsSent s (leaves_at s wait) (segment_step s wait f).0
unfolding segment_step
step_sent s wait f h =
    let phase = phase_of f.datagrams in
    let t = numbered phase (leaving (leaves_at s wait) s) in
    rw (is_below s.sent 1000000 h) (carried_sent (loss_at t.losses phase (number_of phase t)) s t (leaves_at s wait) f (left_by phase s (leaves_at s wait)))

pub next_leaves : (s : SegmentState) (wait : ℕ) → wait ≤ 10000000 → IsOnTime (1000000 * wait) s → leaves_at s wait ≡ (s.sent + 1) * (1000000 * wait)
next_leaves s wait short h = omega (arith, short, h.last, h.free)

pub on_time_step : (s : SegmentState) (wait : ℕ) (f : FrameValue) → wait ≤ 10000000 → s.round_trip ≤ 1000000 * wait → s.sent < 1000000
    → IsOnTime (1000000 * wait) s → IsOnTime (1000000 * wait) (segment_step s wait f).0
on_time_step s wait f short back few h =
    let i = step_sent s wait f few in
    let at = next_leaves s wait short h in
    record { last = last_of (s.sent) _ _ _ _ i.sent i.last at; free = free_of _ _ _ _ _ i.last i.free back }
  where
    last_of : (n m last at period : ℕ) → m ≡ n + 1 → last ≡ at → at ≡ (n + 1) * period → last ≡ m * period
    last_of n m last at period a b c = rw (a, b, c) refl

    free_of : (last free at trip period : ℕ) → last ≡ at → free ≡ at + trip → trip ≤ period → free ≤ last + period
    free_of last free at trip period a b c = omega (arith, a, b, c)

-- after frames with that wait
pub on_time : (fs : List FrameValue) (s : SegmentState) (wait : ℕ) → wait ≤ 10000000 → s.round_trip ≤ 1000000 * wait → s.sent + length fs ≤ 1000000
    → IsOnTime (1000000 * wait) s → IsOnTime (1000000 * wait) (after_frames wait fs s) × ((after_frames wait fs s).sent ≡ s.sent + length fs)
unfolding after_frames
on_time [] s wait short back few h = (h, omega arith)
on_time (f ∷ fs) s wait short back few h =
    let i = step_sent s wait f (omega (arith, few)) in
    let t = (segment_step s wait f).0 in
    let within : t.round_trip ≤ 1000000 * wait = omega (arith, i.round_trip, back) in
    let rest = on_time fs t wait short within (omega (arith, few, i.sent)) (on_time_step s wait f short back (omega (arith, few)) h) in
    (rest.0, count_of _ _ _ _ rest.1 i.sent)
  where
    count_of : (n m k e : ℕ) → e ≡ m + k → m ≡ n + 1 → e ≡ n + suc k
    count_of n m k e a b = omega (arith, a, b)

-- sending s leaves at s periods
pub sending_times : (s : SegmentState) (wait : ℕ) (fs : List FrameValue) → IsUnsent s → wait ≤ 10000000 → s.round_trip ≤ 1000000 * wait → length fs < 1000000
    → leaves_at (after_frames wait fs s) wait ≡ (length fs + 1) * (1000000 * wait)
sending_times s wait fs new short back few =
    let start : IsOnTime (1000000 * wait) s = record { last = last_of _ _ _ new.sent new.last; free = omega (arith, new.free) } in
    let e = on_time fs s wait short back (omega (arith, new.sent, few)) start in
    finish_of _ _ _ _ (next_leaves (after_frames wait fs s) wait short e.0) e.1 new.sent
  where
    last_of : (n last period : ℕ) → n ≡ 0 → last ≡ 0 → last ≡ n * period
    last_of n last period a b = rw (a, b) (omega arith)

    finish_of : (at n k period : ℕ) {m : ℕ} → at ≡ (n + 1) * period → n ≡ m + k → m ≡ 0 → at ≡ (k + 1) * period
    finish_of at n k period a b c = let e : n ≡ k = omega (arith, b, c) in a ∙ rw e refl

-- the same over exchanges by the step, each after that wait
pub on_time_runs : (es : List Exchange) (s t : SegmentState) (wait : ℕ) → Runs segment_step (Some s) es (Some t) → AllByRecursion (λ (e : Exchange). e.wait_ns ≡ wait) es
    → wait ≤ 10000000 → s.round_trip ≤ 1000000 * wait → s.sent + length es ≤ 1000000 → IsOnTime (1000000 * wait) s
    → IsOnTime (1000000 * wait) t × (t.sent ≡ s.sent + length es) × (t.round_trip ≡ s.round_trip)
on_time_runs [] s t wait r w short back few h = let same : t ≡ s = cc in rw same (h, omega arith, refl)
on_time_runs (e ∷ es) s t wait r w short back few h =
    let is : e.wait_ns ≡ wait = w.0 in
    let runs : Runs segment_step (Some (segment_step s wait e.sent).0) es (Some t) = (rw is at r.1) in
    let i = step_sent s wait e.sent (omega (arith, few)) in
    let trip = i.round_trip in
    let rest = on_time_runs es (segment_step s wait e.sent).0 t wait runs w.1 short (omega (arith, trip, back)) (let n = i.sent in omega (arith, few, n))
    (on_time_step s wait e.sent short back (omega (arith, few)) h) in
    let n = i.sent in
    let m = rest.1 in
    (rest.0, omega (arith, n, m), rest.2 ∙ trip)

-- how a frame is numbered
numbered_left : (phase : Phase) (s : SegmentState) (at : ℕ) → IsNumbered s → IsNumbered (numbered phase (leaving at s))
numbered_left Commission s at h = omega (arith, h)
numbered_left Drift s at h = omega (arith, h)

numbered_carried : (o : Option ℕ) (s : SegmentState) (f : FrameValue) → IsNumbered s → IsNumbered (carried o s f).0
numbered_carried None s f h = h
numbered_carried (Some n) s f h = h

pub numbered_step : (s : SegmentState) (wait : ℕ) (f : FrameValue) → IsNumbered s → IsNumbered (segment_step s wait f).0
unfolding segment_step
numbered_step s wait f h = by (nat_lt s.sent 1000000) refl
  where
    left : SegmentState
    left = numbered (phase_of f.datagrams) (leaving (leaves_at s wait) s)

    by : (b : Bool) → nat_lt s.sent 1000000 ≡ b → IsNumbered (segment_step s wait f).0
    by true e = rw e (numbered_carried (loss_at left.losses (phase_of f.datagrams) (number_of (phase_of f.datagrams) left)) left f (numbered_left (phase_of f.datagrams) s (leaves_at s wait) h))
    by false e = rw e h

-- how many frames of its phase were sent behind it
pub next_number : (phase : Phase) (s : SegmentState) (at : ℕ) → number_of phase (numbered phase (leaving at s)) ≡ number_of phase s + 1
next_number Commission s at = refl
next_number Drift s at = refl

pub same_losses : (phase : Phase) (s : SegmentState) (at : ℕ) → (numbered phase (leaving at s)).losses ≡ s.losses
same_losses Commission s at = refl
same_losses Drift s at = refl

same_lost : (phase : Phase) (s : SegmentState) (at : ℕ) → (numbered phase (leaving at s)).lost ≡ s.lost
same_lost Commission s at = refl
same_lost Drift s at = refl

-- which sendings come back
pub comes_back : (s : SegmentState) (wait : ℕ) (f : FrameValue) → s.sent < 1000000 → loss_at s.losses (phase_of f.datagrams) (number_of (phase_of f.datagrams) s + 1) ≡ None
    → IsSome (segment_step s wait f).1 × ((segment_step s wait f).0.lost ≡ s.lost)
unfolding segment_step
comes_back s wait f few none =
    let phase = phase_of f.datagrams in
    rw (is_below s.sent 1000000 few, same_losses phase s (leaves_at s wait), next_number phase s (leaves_at s wait), none) (refl, same_lost phase s (leaves_at s wait))

pub is_lost : (s : SegmentState) (wait : ℕ) (f : FrameValue) (h : ℕ) → s.sent < 1000000 → loss_at s.losses (phase_of f.datagrams) (number_of (phase_of f.datagrams) s + 1) ≡ Some h
    → ((segment_step s wait f).1 ≡ None) × ((segment_step s wait f).0.lost ≡ raised s.lost)
unfolding segment_step
is_lost s wait f h few some =
    let phase = phase_of f.datagrams in
    rw (is_below s.sent 1000000 few, same_losses phase s (leaves_at s wait), next_number phase s (leaves_at s wait), some)
    (refl, ap raised (same_lost phase s (leaves_at s wait)))

pub is_not_sent : (s : SegmentState) (wait : ℕ) (f : FrameValue) → 1000000 ≤ s.sent
    → ((segment_step s wait f).1 ≡ None) × ((segment_step s wait f).0 ≡ record s { lost = raised s.lost })
unfolding segment_step
is_not_sent s wait f many =
    let late : nat_lt s.sent 1000000 ≡ false = grind (arith, nat_tests) in
    rw late (refl, refl)
