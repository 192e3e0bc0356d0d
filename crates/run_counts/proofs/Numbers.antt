-- The segment and the script count alike.
use Rattle.std.proofs.Common.{◌≡◌, ℕ, ◌+◌, ◌*◌, ◌<◌, List, [], ◌∷◌, ◌++◌, length, Option, Some, None, refl, sym, ap, subst, ◌∙◌, arith}
use Rattle.cable_tree.specs.PathSums.{round_trip}
use Rattle.ecat_frame.specs.FrameGrammar.{FrameValue}
use Rattle.ecat_link.specs.Exchanges.{Exchange, StepOf, Runs}
use Rattle.ecat_link.specs.Serves.{Send}
use Rattle.master_script.specs.Config.{ConfigValue}
use Rattle.master_script.specs.Progress.{Phase as ScriptPhase, Commissioning, Settling, Arming, Running, Progress, progress, after, drift_one}
use Rattle.master_script.specs.Script.{script, Call, Commission, Settle, Arm, Run, next_in, next_by}
use Rattle.master_script.specs.Scripted.{AreScripted, none, more}
use Rattle.master_script.specs.declared.step.Refusal.{Refusal}
use Rattle.master_script.proofs.Exported.{after_counts, after_drifts, progress_sent, progress_push, sends_most, phase_of as phase_of_call, wants, wanted_drift, wanted_other}
use Rattle.loss_list.specs.declared.loss_row.Phase.{Phase}
use Rattle.loss_list.specs.declared.loss_row.Phase.TheVariants as frames
use Rattle.frame_pass.specs.SegmentState.{SegmentState, segment_step, phase_of}
use Rattle.frame_pass.specs.Invariants.{IsOnTime}
use Rattle.frame_pass.proofs.Exported.{step_sent, on_time_step, next_leaves}
use Rattle.segment_file.specs.Segment.{SegmentValue, tree_rows}
use Rattle.segment_file.specs.Legal.{IsLegal}
use Rattle.segment_file.proofs.Exported.{legal_round_trip}
use Rattle.segment_start.specs.Start.{started_segment}
use Rattle.run_of_file.specs.MasterOfFile.{master_of}
use Rattle.run_of_file.specs.RunOfFile.{frames_given}
use Rattle.run_of_file.proofs.Exported.{as_many_kinds, some_rows, few_rows, lock_in_few, loss_run_few, frames_few}
use Rattle.run_counts.specs.OnTheWay.{StandsAfter}
use Rattle.run_counts.proofs.Stepping.{NumbersOn, step_numbers, drift_frame, commission_frame}

-- exchanges, cut in two
pub runs_split : {S : Type 0} (step : StepOf S) (es fs : List Exchange) (s u : S) → Runs step (Some s) (es ++ fs) (Some u) → (t : S) × Runs step (Some s) es (Some t) × Runs step (Some t) fs (Some u)
runs_split step [] fs s u r = (s, refl, r)
runs_split step (e ∷ es) fs s u r = let q = runs_split step es fs (step s e.wait_ns e.sent).0 u r.1 in (q.0, (r.0, q.1), q.2)

-- the exchanges of a run are fewer than the sendings of a segment
pub few_sent : (s : SegmentValue) → IsLegal s → (es : List Exchange) → AreScripted (master_of s) (frames_given s) es → length es < 1000000
few_sent s legal es made =
    let many = as_many_kinds s legal in
    let some = some_rows s legal in
    let few = few_rows s legal in
    let most = sends_most (master_of s) (frames_given s) es (omega (arith, many, some)) (omega (arith, many, few)) (lock_in_few s legal) (loss_run_few s legal) made in
    let frames = frames_few s legal in
    omega (arith, most, frames)

pub some_kinds : (s : SegmentValue) → IsLegal s → 0 < length (master_of s).kinds
some_kinds s legal = let many = as_many_kinds s legal in let some = some_rows s legal in omega (arith, many, some)

-- a call that wants a frame is in its phase, and nothing is refused
module _ (cfg : ConfigValue) (p : Progress) (wait_ns : ℕ) (frame : FrameValue) where
  phase_in : (call : Call) (s : ScriptPhase) → next_in cfg p call s ≡ Send wait_ns frame → s ≡ phase_of_call call
  phase_in Commission Commissioning h = refl
  phase_in Settle Settling h = refl
  phase_in Arm Arming h = refl
  phase_in (Run k) Running h = refl
  phase_in call s h = absurd cc

  phase_by : (call : Call) (o : Option Refusal) → p.refused ≡ o → next_by cfg p call o ≡ Send wait_ns frame → (p.refused ≡ None) × (p.phase ≡ phase_of_call call)
  phase_by call (Some r) e h = absurd cc
  phase_by call None e h = (e, phase_in call p.phase h)

pub in_phase : (cfg : ConfigValue) (call : Call) (es : List Exchange) (wait_ns : ℕ) (frame : FrameValue) → script cfg call es ≡ Send wait_ns frame
    → ((progress cfg es).refused ≡ None) × ((progress cfg es).phase ≡ phase_of_call call)
unfolding script
in_phase cfg call es wait_ns frame h = phase_by cfg (progress cfg es) wait_ns frame call (progress cfg es).refused refl h

-- the frames of a call
abbrev pub frames_of : Call → Phase
frames_of Commission = frames.Commission
frames_of Settle = frames.Drift
frames_of Arm = frames.Drift
frames_of (Run k) = frames.Drift

pub frame_phase : (cfg : ConfigValue) (call : Call) (es : List Exchange) (wait_ns : ℕ) (frame : FrameValue) → 0 < length cfg.kinds → script cfg call es ≡ Send wait_ns frame → phase_of frame.datagrams ≡ frames_of call
frame_phase cfg Commission es wait_ns frame some h = let w = wanted_other cfg es wait_ns frame some h in commission_frame frame.datagrams w.first w.is w.other
frame_phase cfg Settle es wait_ns frame some h = drift_frame frame.datagrams _ (wanted_drift cfg Settle es wait_ns frame some (λ e. absurd cc) h) refl
frame_phase cfg Arm es wait_ns frame some h = drift_frame frame.datagrams _ (wanted_drift cfg Arm es wait_ns frame some (λ e. absurd cc) h) refl
frame_phase cfg (Run k) es wait_ns frame some h = drift_frame frame.datagrams _ (wanted_drift cfg (Run k) es wait_ns frame some (λ e. absurd cc) h) refl

-- both stand at the same numbers
pub record InStep (s : SegmentValue) (p : Progress) (t : SegmentState) : Type 0 where
  pub sent : t.sent ≡ p.sent
  pub drift : t.drift ≡ p.drifts
  pub commission : t.commission + t.drift ≡ t.sent
  pub losses : t.losses ≡ s.losses
  pub trip : t.round_trip ≡ round_trip (tree_rows s.rows)
  pub on_time : IsOnTime (1000000 * s.head.frame_ns) t

numbers_of : (call : Call) (phase : Phase) (t u : SegmentState) → phase ≡ frames_of call → NumbersOn phase t u → NumbersOn (frames_of call) t u
numbers_of call phase t u is h = subst (λ (x : Phase). NumbersOn x t u) is h

-- the numbers after a sending of a call
record Counts (call : Call) (t u : SegmentState) : Type 0 where
  drift : u.drift ≡ t.drift + drift_one (phase_of_call call)
  both : u.commission + u.drift ≡ t.commission + t.drift + 1
  losses : u.losses ≡ t.losses

counts_of : (call : Call) (t u : SegmentState) → NumbersOn (frames_of call) t u → Counts call t u
counts_of Commission t u h = let a = h.0 in let b = h.1 in record { drift = omega (arith, b); both = omega (arith, a, b); losses = h.2 }
counts_of Settle t u h = let a = h.0 in let b = h.1 in record { drift = omega (arith, b); both = omega (arith, a, b); losses = h.2 }
counts_of Arm t u h = let a = h.0 in let b = h.1 in record { drift = omega (arith, b); both = omega (arith, a, b); losses = h.2 }
counts_of (Run k) t u h = let a = h.0 in let b = h.1 in record { drift = omega (arith, b); both = omega (arith, a, b); losses = h.2 }

pub master_frame_ns : (s : SegmentValue) → (master_of s).frame_ns ≡ s.head.frame_ns
unfolding master_of
master_frame_ns s = refl

pub step_in_step : (s : SegmentValue) → IsLegal s → (call : Call) (es : List Exchange) (e : Exchange) (t : SegmentState) → AreScripted (master_of s) (frames_given s) es
    → script (master_of s) call es ≡ Send e.wait_ns e.sent → InStep s (progress (master_of s) es) t
    → InStep s (after (master_of s) (progress (master_of s) es) e) (segment_step t e.wait_ns e.sent).0
step_in_step s legal call es e t made wanted h =
    let cfg = master_of s in
    let p = progress cfg es in
    let some = some_kinds s legal in
    let count = progress_sent cfg es in
    let few = few_sent s legal es made in
    let hs = h.sent in
    let low : t.sent < 1000000 = omega (arith, hs, count, few) in
    let u = (segment_step t e.wait_ns e.sent).0 in
    let sent = step_sent t e.wait_ns e.sent low in
    let sent_is = sent.sent in
    let counts = counts_of call t u (numbers_of call (phase_of e.sent.datagrams) t u (frame_phase cfg call es e.wait_ns e.sent some wanted) (step_numbers t e.wait_ns e.sent low)) in
    let phase = (in_phase cfg call es e.wait_ns e.sent wanted).1 in
    let a = (after_counts cfg p e).0 in
    let d : (after cfg p e).drifts ≡ p.drifts + drift_one (phase_of_call call) = after_drifts cfg p e ∙ ap (λ (x : ScriptPhase). p.drifts + drift_one x) phase in
    let wait : e.wait_ns ≡ s.head.frame_ns = (wants cfg call es e.wait_ns e.sent some wanted).wait ∙ master_frame_ns s in
    let hd = h.drift in let hc = h.commission in let cd = counts.drift in let cb = counts.both in let ht = h.trip in let trip = legal_round_trip s legal in
    record {
      sent = omega (arith, hs, sent_is, a);
      drift = omega (arith, hd, cd, d);
      commission = omega (arith, hc, cb, sent_is);
      losses = counts.losses ∙ h.losses;
      trip = sent.round_trip ∙ h.trip;
      on_time = subst (λ (w : ℕ). IsOnTime (1000000 * s.head.frame_ns) (segment_step t w e.sent).0) (sym wait)
          (on_time_step t s.head.frame_ns e.sent legal.head.frame_ns.1 (omega (arith, ht, trip)) low h.on_time);
    }

some_same : {X : Type 0} {x y : X} → Some x ≡ Some y → x ≡ y
some_same e = cc

pub starts_in_step : (s : SegmentValue) → InStep s (progress (master_of s) []) (started_segment s)
unfolding progress started_segment
starts_in_step s = record { sent = refl; drift = refl; commission = omega arith; losses = refl; trip = refl; on_time = record { last = omega arith; free = omega arith } }

-- wherever exchanges of a run have led
pub in_step : (s : SegmentValue) → IsLegal s → (es : List Exchange) (t : SegmentState) → AreScripted (master_of s) (frames_given s) es
    → Runs segment_step (Some (started_segment s)) es (Some t) → InStep s (progress (master_of s) es) t
in_step s legal es t none runs = let same : started_segment s ≡ t = some_same (sym runs) in subst (λ (x : SegmentState). InStep s (progress (master_of s) []) x) same (starts_in_step s)
in_step s legal es t (more before e call made limited wanted) runs =
    let cut = runs_split segment_step before (e ∷ []) (started_segment s) t runs in
    let now = step_in_step s legal call before e cut.0 made wanted (in_step s legal before cut.0 made cut.1) in
    let there : (segment_step cut.0 e.wait_ns e.sent).0 ≡ t = some_same (sym cut.2.1) in
    subst (λ (x : SegmentState). InStep s (progress (master_of s) (before ++ e ∷ [])) x) there
    (subst (λ (q : Progress). InStep s q (segment_step cut.0 e.wait_ns e.sent).0) (sym (progress_push (master_of s) before e)) now)

pub stands_after : (s : SegmentValue) → IsLegal s → (es : List Exchange) (t : SegmentState) → AreScripted (master_of s) (frames_given s) es
    → Runs segment_step (Some (started_segment s)) es (Some t) → StandsAfter s (progress (master_of s) es).sent (progress (master_of s) es).drifts t
stands_after s legal es t made runs =
    let p = progress (master_of s) es in
    let h = in_step s legal es t made runs in
    let hs = h.sent in
    let hd = h.drift in
    let hc = h.commission in
    record {
      sent = h.sent;
      drift = h.drift;
      commission = omega (arith, hs, hd, hc);
      last = h.on_time.last ∙ ap (λ (n : ℕ). n * (1000000 * s.head.frame_ns)) h.sent;
      next = next_leaves t s.head.frame_ns legal.head.frame_ns.1 h.on_time ∙ ap (λ (n : ℕ). (n + 1) * (1000000 * s.head.frame_ns)) h.sent;
      losses = h.losses;
    }
