-- A step that is asked: the arms of a loop of three tries, for commissioning and arming at once.
use Rattle.std.proofs.Common.{◌≡◌, ℕ, ◌+◌, ◌<◌, false, eqb, List, [], ◌∷◌, ◌++◌, Option, Some, None, refl, sym, ap, ◌∙◌, arith}
use Rattle.std.proofs.lemmas.Bool.Decides.{nat_tests}
use Rattle.ecat_frame.specs.FrameGrammar.{FrameValue}
use Rattle.ecat_link.specs.Exchanges.{Exchange, StepOf, Follows}
use Rattle.ecat_link.specs.Serves.{Send, Serves}
use Rattle.ecat_link.proofs.Exported.{serves_one, serves_then}
use Rattle.master_script.specs.Config.{ConfigValue}
use Rattle.master_script.specs.Judged.{judged}
use Rattle.master_script.specs.Progress.{Phase, Commissioning, Arming, Progress, progress, after, asked_by, lost_at, lost_one, drift_one, answered}
use Rattle.master_script.specs.Script.{script, Call, Commission, Arm as CallArm}
use Rattle.master_script.specs.Steps.{frame_of, expected}
use Rattle.master_script.specs.Words.{Words}
use Rattle.master_script.specs.declared.step.Refusal.{Refusal}
use Rattle.master_script.specs.declared.step.Step.{Step}
use Rattle.master_script.proofs.Folds.{progress_push}

not_same : (m n : ℕ) → m < n → eqb m n ≡ false
not_same m n h = grind (arith, nat_tests)

-- a phase in which steps are asked, with its call
abbrev pub AsksIn : Call → Phase → Type 0
AsksIn Commission Commissioning = Unit {0}
AsksIn CallArm Arming = Unit {0}
AsksIn call s = ⊥

-- what was sent before: sendings, losses, drift frames
pub record Sent : Type 0 where
  pub sent : ℕ
  pub lost : ℕ
  pub drifts : ℕ

-- one more in a phase, which came back or not
abbrev pub one_more : Phase → Option FrameValue → Sent → Sent
one_more s back n = record { sent = n.sent + 1; lost = n.lost + lost_one back; drifts = n.drifts + drift_one s }

-- the first of these steps was lost so often
abbrev pub asking : Phase → Sent → Words → Step → List Step → ℕ → Progress
asking s n w step rest k = record {
  phase = s;
  todo = step ∷ rest;
  tries = k;
  sent = n.sent;
  lost = n.lost;
  drifts = n.drifts;
  ran = 0;
  words = w;
  refused = lost_at step k;
}

-- the step came back and was judged
abbrev pub past : Phase → Sent → Words → Step → List Step → ℕ → FrameValue → Option Refusal → Progress
past s n w step rest k f o = answered (record (asking s n w step rest k) { refused = None }) step rest f o

sends_step : (cfg : ConfigValue) (call : Call) (s : Phase) (es : List Exchange) (n : Sent) (w : Words) (step : Step) (rest : List Step) (k : ℕ) → AsksIn call s → k < 3
    → progress cfg es ≡ asking s n w step rest k → script cfg call es ≡ Send cfg.frame_ns (frame_of cfg w step)
unfolding script
sends_step cfg Commission Commissioning es n w step rest k a h p = rw (p, not_same k 3 h) refl
sends_step cfg CallArm Arming es n w step rest k a h p = rw (p, not_same k 3 h) refl
sends_step cfg call s es n w step rest k a h p = absurd a

-- one exchange more: the same by `asked_by`, whatever comes back
step_more : (cfg : ConfigValue) (call : Call) (s : Phase) (es : List Exchange) (e : Exchange) (n : Sent) (w : Words) (step : Step) (rest : List Step) (k : ℕ) → AsksIn call s → k < 3
    → progress cfg es ≡ asking s n w step rest k
    → progress cfg (es ++ e ∷ []) ≡ asked_by cfg (record (asking s (one_more s e.back n) w step rest k) { refused = None }) step rest e.sent e.back
unfolding after
step_more cfg Commission Commissioning es e n w step rest k a h p = progress_push cfg es e ∙ rw (p, not_same k 3 h) refl
step_more cfg CallArm Arming es e n w step rest k a h p = progress_push cfg es e ∙ rw (p, not_same k 3 h) refl
step_more cfg call s es e n w step rest k a h p = absurd a

module _ {S : Type 0} (step_of : StepOf S) (cfg : ConfigValue) (call : Call) (s : Phase) (P : List Exchange → Type 0) (n : Sent) (w : Words) (step : Step) (rest : List Step) where
  abbrev pub At : ℕ → Sent → List Exchange → Type 0
  At k m es = progress cfg es ≡ asking s m w step rest k

  -- the step is lost once more
  pub ask_lost : (a t u : Option S) (wait_ns : ℕ) (sent : FrameValue) (k : ℕ) → AsksIn call s → k < 3 → wait_ns ≡ cfg.frame_ns → sent ≡ frame_of cfg w step
      → Serves step_of (script cfg call) P a t (At k n)
      → Follows step_of t u (record { wait_ns = wait_ns; sent = sent; back = None })
      → Serves step_of (script cfg call) P a u (At (k + 1) (one_more s None n))
  ask_lost a t u wait_ns sent k asks h v x p f =
      serves_then step_of (script cfg call) P (At k n) (At (k + 1) (one_more s None n)) a t u p
      (serves_one step_of (script cfg call) (At k n) (At (k + 1) (one_more s None n)) t u (record { wait_ns = wait_ns; sent = sent; back = None }) f
      (λ es at. (sends_step cfg call s es n w step rest k asks h at ∙ rw (v, x) refl, step_more cfg call s es (record { wait_ns = wait_ns; sent = sent; back = None }) n w step rest k asks h at)))

  -- it comes back, and is judged by the value that the code's judge answers
  pub ask_came : (a t u : Option S) (wait_ns : ℕ) (sent f : FrameValue) (k : ℕ) (o : Option Refusal) → AsksIn call s → k < 3 → wait_ns ≡ cfg.frame_ns → sent ≡ frame_of cfg w step
      → o ≡ judged step (expected cfg w step f) sent f
      → Serves step_of (script cfg call) P a t (At k n)
      → Follows step_of t u (record { wait_ns = wait_ns; sent = sent; back = Some f })
      → Serves step_of (script cfg call) P a u (λ es. progress cfg es ≡ past s (one_more s (Some f) n) w step rest k f o)
  ask_came a t u wait_ns sent f k o asks h v x j p g =
      let Q : List Exchange → Type 0 = λ es. progress cfg es ≡ past s (one_more s (Some f) n) w step rest k f o in
      serves_then step_of (script cfg call) P (At k n) Q a t u p
      (serves_one step_of (script cfg call) (At k n) Q t u (record { wait_ns = wait_ns; sent = sent; back = Some f }) g
      (λ es at. (
        sends_step cfg call s es n w step rest k asks h at ∙ rw (v, x) refl,
        step_more cfg call s es (record { wait_ns = wait_ns; sent = sent; back = Some f }) n w step rest k asks h at
            ∙ ap (λ r. past s (one_more s (Some f) n) w step rest k f r) (sym j),
      )))
