-- How many frames each phase sends.
use Rattle.std.proofs.Common.{◌≡◌, ℕ, ◌+◌, List, sym, ap, subst, ◌∙◌, arith}
use Rattle.ecat_link.specs.Exchanges.{Exchange}
use Rattle.ecat_link.specs.Serves.{Send}
use Rattle.master_script.specs.Progress.{Phase, Progress, progress, after, drift_one}
use Rattle.master_script.specs.Script.{script, Call, Commission, Settle, Arm, Run}
use Rattle.master_script.specs.Scripted.{IsLimited}
use Rattle.master_script.proofs.Exported.{after_counts, after_drifts}
use Rattle.segment_file.specs.Segment.{SegmentValue}
use Rattle.segment_file.specs.Legal.{IsLegal}
use Rattle.run_of_file.specs.MasterOfFile.{master_of}
use Rattle.run_of_file.specs.RunOfFile.{RunEnd, frames_given}
use Rattle.run_counts.proofs.Led.{IsLed, HasGone}
use Rattle.run_counts.proofs.Numbers.{in_step, in_phase}
use Rattle.run_counts.proofs.Walking.{walk}

-- a call that sends drift frames
abbrev pub IsDrifting : Call → Type 0
IsDrifting Commission = ⊥
IsDrifting Settle = Unit {0}
IsDrifting Arm = Unit {0}
IsDrifting (Run k) = Unit {0}

-- so many other frames were sent
abbrev pub IsBehind : ℕ → Progress → Type 0
IsBehind c p = p.sent ≡ c + p.drifts

one_drift : (s : SegmentValue) (c : ℕ) (call : Call) → IsDrifting call → (es : List Exchange) (e : Exchange) → script (master_of s) call es ≡ Send e.wait_ns e.sent
    → IsBehind c (progress (master_of s) es) → IsBehind c (after (master_of s) (progress (master_of s) es) e)
one_drift s c Commission d es e wanted h = absurd d
one_drift s c Settle d es e wanted h =
    let p = progress (master_of s) es in
    let phase = (in_phase (master_of s) Settle es e.wait_ns e.sent wanted).1 in
    let a = (after_counts (master_of s) p e).0 in
    let b : (after (master_of s) p e).drifts ≡ p.drifts + 1 = after_drifts (master_of s) p e ∙ ap (λ (x : Phase). p.drifts + drift_one x) phase in
    omega (arith, a, b, h)
one_drift s c Arm d es e wanted h =
    let p = progress (master_of s) es in
    let phase = (in_phase (master_of s) Arm es e.wait_ns e.sent wanted).1 in
    let a = (after_counts (master_of s) p e).0 in
    let b : (after (master_of s) p e).drifts ≡ p.drifts + 1 = after_drifts (master_of s) p e ∙ ap (λ (x : Phase). p.drifts + drift_one x) phase in
    omega (arith, a, b, h)
one_drift s c (Run k) d es e wanted h =
    let p = progress (master_of s) es in
    let phase = (in_phase (master_of s) (Run k) es e.wait_ns e.sent wanted).1 in
    let a = (after_counts (master_of s) p e).0 in
    let b : (after (master_of s) p e).drifts ≡ p.drifts + 1 = after_drifts (master_of s) p e ∙ ap (λ (x : Phase). p.drifts + drift_one x) phase in
    omega (arith, a, b, h)

pub stays_behind : (s : SegmentValue) → IsLegal s → (c : ℕ) (call : Call) → IsDrifting call → IsLimited (frames_given s) call → (before run : RunEnd) → IsLed s before → HasGone s call before run
    → IsBehind c (progress (master_of s) before.exchanges) → IsBehind c (progress (master_of s) run.exchanges)
stays_behind s legal c call d limited before run led gone h =
    subst (λ (es : List Exchange). IsBehind c (progress (master_of s) es)) (sym gone.all)
    (walk s legal call limited (IsBehind c) (λ es e wanted now q. one_drift s c call d es e wanted q) before.exchanges gone.more before.state run.state led.scripted
    (in_step s legal before.exchanges before.state led.scripted led.runs) h gone.sends gone.runs)
