-- The states behind drift frames, one behind another.
use Rattle.std.proofs.Common.{◌≡◌, ℕ, zero, suc, ◌+◌, ◌<◌, List, [], ◌∷◌, ◌++◌, length, length-append, Option, Some, None, refl, sym, ap, ap₂, subst, ◌∙◌, append_assoc, arith}
use Rattle.std.specs.Prelude.{IsSome}
use Rattle.std.proofs.lemmas.List.{append-nil, append_cancel_left}
use Rattle.copy_law.specs.Drifting.{IsBehind}
use Rattle.copy_law.specs.DriftFrames.{IsDriftFrame}
use Rattle.copy_law.proofs.Behind.{commissioned_ok}
use Rattle.ecat_link.specs.Exchanges.{Exchange, Runs, StepOf}
use Rattle.ecat_link.proofs.Exported.{runs_then}
use Rattle.frame_pass.specs.SegmentState.{SegmentState, segment_step}
use Rattle.run_counts.proofs.Exported.{Drifted, ran_drifted}
use Rattle.run_of_file.specs.Commissioned.{IsCommissioned}
use Rattle.run_of_file.specs.RunOfFile.{RunEnd, commissioned, ran}
use Rattle.run_of_file.proofs.Exported.{ran_on}
use Rattle.segment_file.specs.Legal.{IsLegal}
use Rattle.segment_file.specs.Segment.{SegmentValue}

some_same : {X : Type 0} {x y : X} → Some x ≡ Some y → x ≡ y
some_same e = cc

head_same : {X : Type 0} {x y : X} {xs ys : List X} → x ∷ xs ≡ y ∷ ys → x ≡ y
head_same e = cc

tail_same : {X : Type 0} {x y : X} {xs ys : List X} → x ∷ xs ≡ y ∷ ys → xs ≡ ys
tail_same e = cc

-- exchanges by the step, cut somewhere
pub runs_cut : {S : Type 0} (step : StepOf S) (es fs : List Exchange) (s u : S) → Runs step (Some s) (es ++ fs) (Some u) → (t : S) × Runs step (Some s) es (Some t) × Runs step (Some t) fs (Some u)
runs_cut step [] fs s u r = (s, refl, r)
runs_cut step (e ∷ es) fs s u r = let q = runs_cut step es fs (step s e.wait_ns e.sent).0 u r.1 in (q.0, (r.0, q.1), q.2)

-- they lead to one state
pub runs_once : {S : Type 0} (step : StepOf S) (es : List Exchange) (s t u : S) → Runs step (Some s) es (Some t) → Runs step (Some s) es (Some u) → t ≡ u
runs_once step [] s t u p q = some_same (p ∙ sym q)
runs_once step (e ∷ es) s t u p q = runs_once step es (step s e.wait_ns e.sent).0 t u p.1 q.1

-- equally many exchanges at the begin of a list are the same
same_front : (es fs more rest : List Exchange) → length es ≡ length fs → es ++ more ≡ fs ++ rest → es ≡ fs
same_front [] [] more rest many is = refl
same_front [] (y ∷ fs) more rest many is = absurd (omega (arith, many))
same_front (x ∷ es) [] more rest many is = absurd (omega (arith, many))
same_front (x ∷ es) (y ∷ fs) more rest many is =
    ap₂ (λ (z : Exchange) (zs : List Exchange). z ∷ zs) (head_same is) (same_front es fs more rest (omega (arith, many)) (tail_same is))

-- exchanges and the last of them
record IsEnded (es : List Exchange) : Type 0 where
  front : List Exchange
  last : Exchange
  are : es ≡ front ++ last ∷ []

ended : (es : List Exchange) → 0 < length es → IsEnded es
ended [] some = absurd (omega (arith, some))
ended (x ∷ []) some = record { front = []; last = x; are = refl }
ended (x ∷ y ∷ es) some =
    let r = ended (y ∷ es) (omega arith) in
    record { front = x ∷ r.front; last = r.last; are = ap (λ (zs : List Exchange). x ∷ zs) r.are }

-- exchanges, k of them, the next one, and the rest
record IsCutAt (es : List Exchange) (k : ℕ) : Type 0 where
  before : List Exchange
  here : Exchange
  rest : List Exchange
  are : es ≡ before ++ here ∷ rest
  number : k ≡ length before

cut_at : (es : List Exchange) (k : ℕ) → k < length es → IsCutAt es k
cut_at [] k low = absurd (omega (arith, low))
cut_at (x ∷ es) zero low = record { before = []; here = x; rest = es; are = refl; number = refl }
cut_at (x ∷ es) (suc k) low =
    let r = cut_at es k (omega (arith, low)) in
    let n = r.number in
    record { before = x ∷ r.before; here = r.here; rest = r.rest; are = ap (λ (zs : List Exchange). x ∷ zs) r.are; number = omega (arith, n) }

module _ (s : SegmentValue) (first : RunEnd) (it : IsCommissioned s first) where
  -- behind none of them
  pub begins_behind : IsBehind s 0 first.state
  begins_behind = by (ran s) refl (ran_on s it.legal).some
    where
      by : (o : Option RunEnd) → ran s ≡ o → IsSome o → IsBehind s 0 first.state
      by None e h = absurd (let x = h in cc)
      by (Some run) e h =
          let d = ran_drifted s it.legal first run it.is e in
          record { first = first; run = run; commissioned = it.is; ok = it.ok; ran = e; before = []; rest = d.more; all = d.all; number = refl; led = refl }

  module _ (run : RunEnd) (is : ran s ≡ Some run) (k : ℕ) where
    abbrev drifted : Drifted s first run
    drifted = ran_drifted s it.legal first run it.is is

    many : length run.exchanges ≡ length first.exchanges + length drifted.more
    many = ap (λ (es : List Exchange). length es) drifted.all ∙ length-append first.exchanges drifted.more

    -- behind those before each that the run sends
    pub frame_there : length first.exchanges + k < length run.exchanges → (t : SegmentState) × (e : Exchange) × IsBehind s k t × IsDriftFrame s (k + 1) t e
    frame_there low =
        let total = many in
        let c = cut_at drifted.more k (omega (arith, low, total)) in
        let runs = subst (λ (es : List Exchange). Runs segment_step (Some first.state) es (Some run.state)) c.are drifted.runs in
        let r = runs_cut segment_step c.before (c.here ∷ c.rest) first.state run.state runs in
        let all = drifted.all ∙ ap (λ (es : List Exchange). first.exchanges ++ es) c.are in
        let n = c.number in (
          r.0,
          c.here,
          record { first = first; run = run; commissioned = it.is; ok = it.ok; ran = is; before = c.before; rest = c.here ∷ c.rest; all = all; number = n; led = r.1 },
          record { first = first; run = run; commissioned = it.is; ran = is; before = c.before; rest = c.rest; all = all; number = omega (arith, n); led = r.1 },
        )

    -- behind all of them
    pub last_behind : length first.exchanges + k ≡ length run.exchanges → IsBehind s k run.state
    last_behind same =
        let total = many in
        record {
          first = first;
          run = run;
          commissioned = it.is;
          ok = it.ok;
          ran = is;
          before = drifted.more;
          rest = [];
          all = drifted.all ∙ ap (λ (es : List Exchange). first.exchanges ++ es) (sym (append-nil drifted.more));
          number = omega (arith, same, total);
          led = drifted.runs;
        }

-- behind those before a drift frame, and behind it
module _ (s : SegmentValue) (legal : IsLegal s) (k : ℕ) (t : SegmentState) (e : Exchange) (f : IsDriftFrame s (k + 1) t e) where
  abbrev pub found_behind : IsBehind s k t
  found_behind =
      let n = f.number in
      record {
        first = f.first;
        run = f.run;
        commissioned = f.commissioned;
        ok = commissioned_ok s legal (k + 1) t e f;
        ran = f.ran;
        before = f.before;
        rest = e ∷ f.rest;
        all = f.all;
        number = omega (arith, n);
        led = f.led;
      }

  led_on : Runs segment_step (Some t) (e ∷ f.rest) (Some f.run.state)
  led_on =
      let d = ran_drifted s legal f.first f.run f.commissioned f.ran in
      let are : d.more ≡ f.before ++ e ∷ f.rest = append_cancel_left f.first.exchanges d.more (f.before ++ e ∷ f.rest) (sym d.all ∙ f.all) in
      let runs = subst (λ (es : List Exchange). Runs segment_step (Some f.first.state) es (Some f.run.state)) are d.runs in
      let r = runs_cut segment_step f.before (e ∷ f.rest) f.first.state f.run.state runs in
      subst (λ (u : SegmentState). Runs segment_step (Some u) (e ∷ f.rest) (Some f.run.state)) (runs_once segment_step f.before f.first.state r.0 t r.1 f.led) r.2

  -- what it brings back
  pub comes_back : e.back ≡ (segment_step t e.wait_ns e.sent).1
  comes_back = led_on.0

  pub left_behind : IsBehind s (k + 1) (segment_step t e.wait_ns e.sent).0
  left_behind =
      let n = f.number in
      let parts = length-append f.before (e ∷ []) in
      let u = (segment_step t e.wait_ns e.sent).0 in
      record {
        first = f.first;
        run = f.run;
        commissioned = f.commissioned;
        ok = commissioned_ok s legal (k + 1) t e f;
        ran = f.ran;
        before = f.before ++ e ∷ [];
        rest = f.rest;
        all = f.all ∙ ap (λ (es : List Exchange). f.first.exchanges ++ es) (sym (append_assoc f.before (e ∷ []) f.rest));
        number = omega (arith, n, parts);
        led = runs_then segment_step f.before (e ∷ []) (Some f.first.state) (Some t) (Some u) f.led (led_on.0, refl);
      }

-- there is one way behind k of them
module _ (s : SegmentValue) (k : ℕ) (t u : SegmentState) (b : IsBehind s k t) (c : IsBehind s k u) where
  pub same_first : b.first ≡ c.first
  same_first = some_same (sym b.commissioned ∙ c.commissioned)

  pub same_before : b.before ≡ c.before
  same_before =
      let run : b.run ≡ c.run = some_same (sym b.ran ∙ c.ran) in
      let all : b.first.exchanges ++ (b.before ++ b.rest) ≡ b.first.exchanges ++ (c.before ++ c.rest) =
      sym b.all ∙ ap (λ (r : RunEnd). r.exchanges) run ∙ c.all ∙ ap (λ (r : RunEnd). r.exchanges ++ (c.before ++ c.rest)) (sym same_first) in
      same_front b.before c.before b.rest c.rest (sym b.number ∙ c.number) (append_cancel_left b.first.exchanges (b.before ++ b.rest) (c.before ++ c.rest) all)

  pub one_behind : t ≡ u
  one_behind =
      runs_once segment_step c.before c.first.state t u
      (subst (λ (es : List Exchange). Runs segment_step (Some c.first.state) es (Some t)) same_before
      (subst (λ (r : RunEnd). Runs segment_step (Some r.state) b.before (Some t)) same_first b.led))
      c.led

-- a drift frame is one exchange more
module _ (s : SegmentValue) (legal : IsLegal s) (k : ℕ) (t : SegmentState) (e : Exchange) (f : IsDriftFrame s (k + 1) t e) where
  left_is : (left_behind s legal k t e f).before ≡ f.before ++ e ∷ []
  unfolding left_behind
  left_is = refl

  pub one_before : (b : IsBehind s k t) (c : IsBehind s (k + 1) (segment_step t e.wait_ns e.sent).0) → c.before ≡ b.before ++ e ∷ []
  one_before b c =
      let u = (segment_step t e.wait_ns e.sent).0 in
      same_before s (k + 1) u u c (left_behind s legal k t e f) ∙ left_is
      ∙ ap (λ (es : List Exchange). es ++ e ∷ []) (same_before s k t t (found_behind s legal k t e f) b)

-- the last of them, and the state that it found
pub last_frame : (s : SegmentValue) (k : ℕ) (u : SegmentState) → IsBehind s (k + 1) u
    → (t : SegmentState) × (e : Exchange) × IsBehind s k t × IsDriftFrame s (k + 1) t e × (u ≡ (segment_step t e.wait_ns e.sent).0)
last_frame s k u b =
    let many = b.number in
    let l = ended b.before (omega (arith, many)) in
    let led = subst (λ (es : List Exchange). Runs segment_step (Some b.first.state) es (Some u)) l.are b.led in
    let r = runs_cut segment_step l.front (l.last ∷ []) b.first.state u led in
    let all = b.all ∙ ap (λ (es : List Exchange). b.first.exchanges ++ es) (ap (λ (es : List Exchange). es ++ b.rest) l.are ∙ append_assoc l.front (l.last ∷ []) b.rest) in
    let whole = ap (λ (es : List Exchange). length es) l.are in
    let parts = length-append l.front (l.last ∷ []) in (
      r.0,
      l.last,
      record {
        first = b.first;
        run = b.run;
        commissioned = b.commissioned;
        ok = b.ok;
        ran = b.ran;
        before = l.front;
        rest = l.last ∷ b.rest;
        all = all;
        number = omega (arith, many, whole, parts);
        led = r.1;
      },
      record {
        first = b.first;
        run = b.run;
        commissioned = b.commissioned;
        ran = b.ran;
        before = l.front;
        rest = b.rest;
        all = all;
        number = omega (arith, many, whole, parts);
        led = r.1;
      },
      some_same r.2.1,
    )

pub none_before : (es : List Exchange) → 0 ≡ length es → es ≡ []
none_before [] none = refl
none_before (x ∷ es) none = absurd (omega (arith, none))

-- What holds where commissioning ended, and is kept by each drift frame, holds behind k of them.
pub behind_induction : (s : SegmentValue) (first : RunEnd) → commissioned s ≡ Some first → (P : ℕ → SegmentState → Type 0) → P 0 first.state
    → ((k : ℕ) (t : SegmentState) (e : Exchange) → IsBehind s k t → IsDriftFrame s (k + 1) t e → P k t → P (k + 1) (segment_step t e.wait_ns e.sent).0)
    → (k : ℕ) (t : SegmentState) → IsBehind s k t → P k t
behind_induction s first was P begins goes zero t b =
    let none = none_before b.before b.number in
    let here : t ≡ b.first.state = some_same (subst (λ (es : List Exchange). Runs segment_step (Some b.first.state) es (Some t)) none b.led) in
    let same : b.first ≡ first = some_same (sym b.commissioned ∙ was) in
    subst (P 0) (sym (here ∙ ap (λ (r : RunEnd). r.state) same)) begins
behind_induction s first was P begins goes (suc k) t b =
    let more : suc k ≡ k + 1 = omega arith in
    let l = last_frame s k t (subst (λ (n : ℕ). IsBehind s n t) more b) in
    subst (λ (n : ℕ). P n t) (sym more) (subst (P (k + 1)) (sym l.4) (goes k l.0 l.1 l.2 l.3 (behind_induction s first was P begins goes k l.0 l.2)))
