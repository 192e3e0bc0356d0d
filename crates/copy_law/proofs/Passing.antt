-- The history of a clock in a run, cut at an instant: the drift frames that have arrived by then, and what later ones bring.
use Rattle.std.proofs.Common.{◌≡◌, ◌≢◌, ◌⊎◌, ℕ, ◌+◌, ◌<◌, ◌≤◌, true, List, [], ◌∷◌, ◌++◌, length, Some, inl, inr, refl, sym, ap, subst, ◌∙◌, append_assoc, arith}
use Rattle.std.specs.Prelude.{slice_get}
use Rattle.std.specs.List.{AllByRecursion}
use Rattle.std.proofs.lemmas.Bool.{cases_lt}
use Rattle.std.proofs.Math.Nat.{mul-le-mul_right}
use Rattle.std.proofs.lemmas.List.{append-nil}
use Rattle.copy_law.specs.Drawn.{IsDrawing, arrives_at}
use Rattle.copy_law.specs.Drifting.{IsBehind}
use Rattle.copy_law.specs.History.{brought_to, history_from}
use Rattle.copy_law.specs.DriftFrames.{IsDriftFrame}
use Rattle.copy_law.specs.Receipts.{IsReference}
use Rattle.copy_law.proofs.Behind.{commissioned_ok}
use Rattle.copy_law.proofs.Copies.{brings_then}
use Rattle.copy_law.proofs.Drawing.{drawn_on}
use Rattle.copy_law.proofs.Histories.{first_resets, frame_induction}
use Rattle.dc_bounds.specs.LockNumbers.{period_fs}
use Rattle.ecat_link.specs.Exchanges.{Exchange}
use Rattle.esc_regs.specs.Kinds.{has_clock}
use Rattle.frame_pass.specs.SegmentState.{SegmentState}
use Rattle.honest_slaves.specs.FileSlaves.{kind_at}
use Rattle.local_clock.specs.Reading.{Happening}
use Rattle.run_of_file.specs.RunOfFile.{RunEnd, commissioned}
use Rattle.segment_file.specs.Legal.{IsLegal}
use Rattle.segment_file.specs.Segment.{SegmentValue}
use Rattle.segment_start.specs.Start.{started_segment}

some_same : {X : Type 0} {x y : X} → Some x ≡ Some y → x ≡ y
some_same e = cc

all_joined : (P : Happening → Type 0) (es fs : List Happening) → AllByRecursion P es → AllByRecursion P fs → AllByRecursion P (es ++ fs)
all_joined P [] fs a b = b
all_joined P (e ∷ es) fs a b = (a.0, all_joined P es fs a.1 b)

module _ (s : SegmentValue) (legal : IsLegal s) (first : RunEnd) (was : commissioned s ≡ Some first) (r : ℕ) (reference : IsReference s r) (p : ℕ) (low : p < length s.rows)
    (is : has_clock (kind_at s p) ≡ true) (other : p ≢ r) (t : ℕ) where
  -- this number of drift frames has arrived by t, and more may follow
  abbrev HaveArrived : ℕ → Type 0
  HaveArrived k = (k ≡ 0) ⊎ (arrives_at s first k p ≤ t)

  -- all so far have arrived
  record AllArrived (k : ℕ) (events : List Happening) : Type 0 where
    drawing : IsDrawing s first k r p events
    arrived : HaveArrived k

  -- some came later
  record SomeCame (k : ℕ) (events : List Happening) : Type 0 where
    number : ℕ
    within : number ≤ k
    before : List Happening
    later : List Happening
    are : events ≡ before ++ later
    drawing : IsDrawing s first number r p before
    arrived : HaveArrived number
    next : t < arrives_at s first (number + 1) p
    late : AllByRecursion (λ (h : Happening). t + 1 ≤ h.instant) later

  -- What holds of the history behind k drift frames: so many have arrived by t, and what came later was brought after t.
  pub record IsCut (k : ℕ) (events : List Happening) : Type 0 where
    pub number : ℕ
    pub before : List Happening
    pub later : List Happening
    pub are : events ≡ before ++ later
    pub drawing : IsDrawing s first number r p before
    pub arrived : (number ≡ 0) ⊎ (arrives_at s first number p ≤ t)
    pub next : (number ≡ k) ⊎ (t < arrives_at s first (number + 1) p)
    pub late : AllByRecursion (λ (h : Happening). t + 1 ≤ h.instant) later

  abbrev IsPassing : ℕ → List Happening → Type 0
  IsPassing k events = AllArrived k events ⊎ SomeCame k events

  rise : (a b : ℕ) → a ≤ b → arrives_at s first a p ≤ arrives_at s first b p
  rise a b le =
      let more = mul-le-mul_right (period_fs s.head.frame_ns) (let h : length first.exchanges + a ≤ length first.exchanges + b = omega (arith, le) in h) in
      omega (arith, more)

  module _ (k : ℕ) (u : SegmentState) (e : Exchange) (f : IsDriftFrame s (k + 1) u e) (same : f.first ≡ first) where
    abbrev events : List Happening
    events = history_from (started_segment s) (f.first.exchanges ++ f.before) p

    abbrev more : List Happening
    more = brought_to u e p (slice_get u.slaves p)

    here : arrives_at s f.first (k + 1) p ≡ arrives_at s first (k + 1) p
    here = ap (λ (x : RunEnd). arrives_at s x (k + 1) p) same

    -- what comes after t is brought after t
    more_late : t < arrives_at s first (k + 1) p → AllByRecursion (λ (h : Happening). t + 1 ≤ h.instant) more
    more_late late =
        let at = here in
        brings_then s legal f.first f.commissioned (commissioned_ok s legal (k + 1) u e f) p low is k u e f (λ (n : ℕ). t + 1 ≤ n) (omega (arith, late, at))

    on_all : AllArrived k events → IsPassing (k + 1) (events ++ more)
    on_all h =
        elim (cases_lt t (arrives_at s first (k + 1) p)) [
          | inr now ↦
              inl (record {
                drawing = subst (λ (x : RunEnd). IsDrawing s x (k + 1) r p (events ++ more)) same
                    (drawn_on s legal r reference p low is other k u e f (subst (λ (x : RunEnd). IsDrawing s x k r p events) (sym same) h.drawing));
                arrived = inr now;
              })
          | inl late ↦ inr (record { number = k; within = omega arith; before = events; later = more; are = refl; drawing = h.drawing; arrived = h.arrived; next = late; late = more_late late })
        ]

    on_some : SomeCame k events → IsPassing (k + 1) (events ++ more)
    on_some h =
        let less = h.within in
        let up = rise (h.number + 1) (k + 1) (omega (arith, less)) in
        let next = h.next in
        inr (record {
          number = h.number;
          within = omega (arith, less);
          before = h.before;
          later = h.later ++ more;
          are = ap (λ (hs : List Happening). hs ++ more) h.are ∙ append_assoc h.before h.later more;
          drawing = h.drawing;
          arrived = h.arrived;
          next = next;
          late = all_joined (λ (x : Happening). t + 1 ≤ x.instant) h.later more h.late (more_late (omega (arith, up, next)));
        })

    goes_on : IsPassing k events → IsPassing (k + 1) (events ++ more)
    goes_on (inl h) = on_all h
    goes_on (inr h) = on_some h

  passing : (k : ℕ) (u : SegmentState) (b : IsBehind s k u) → IsPassing k (history_from (started_segment s) (b.first.exchanges ++ b.before) p)
  passing k u b =
      frame_induction s legal p first was IsPassing
      (inl (record {
        drawing = inl (record { missed = λ i after within. absurd (omega (arith, after, within)); rests = first_resets s legal p first was });
        arrived = inl refl;
      }))
      (λ k u e f h. goes_on k u e f (some_same (sym f.commissioned ∙ was)) h) k u b

  cut_by : (k : ℕ) (hs : List Happening) → IsPassing k hs → IsCut k hs
  cut_by k hs (inl h) = record {
    number = k;
    before = hs;
    later = [];
    are = sym (append-nil hs);
    drawing = h.drawing;
    arrived = h.arrived;
    next = inl refl;
    late = tt;
  }
  cut_by k hs (inr h) = record {
    number = h.number;
    before = h.before;
    later = h.later;
    are = h.are;
    drawing = h.drawing;
    arrived = h.arrived;
    next = inr h.next;
    late = h.late;
  }

  pub cut_at : (k : ℕ) (u : SegmentState) (b : IsBehind s k u) → IsCut k (history_from (started_segment s) (b.first.exchanges ++ b.before) p)
  cut_at k u b = cut_by k (history_from (started_segment s) (b.first.exchanges ++ b.before) p) (passing k u b)
