-- Drift frames of settling and of running: the arms of the two loops of so many frames.
use Rattle.std.proofs.Common.{◌≡◌, ℕ, ◌+◌, ◌<◌, true, false, eqb, ltb, List, [], ◌∷◌, ◌++◌, Option, Some, None, refl, sym, ap, ◌∙◌, arith}
use Rattle.std.proofs.lemmas.Bool.Decides.{nat_tests}
use Rattle.ecat_frame.specs.FrameGrammar.{FrameValue}
use Rattle.ecat_link.specs.Exchanges.{Exchange, StepOf, Follows}
use Rattle.ecat_link.specs.Serves.{Send, Serves}
use Rattle.ecat_link.proofs.Exported.{serves_one, serves_then}
use Rattle.master_script.specs.Config.{ConfigValue, settle_frames}
use Rattle.master_script.specs.Judged.{judged}
use Rattle.master_script.specs.Progress.{Settling, Running, Progress, progress, after, settled, settling, timed, running}
use Rattle.master_script.specs.Script.{script, Settle as CallSettle, Run}
use Rattle.master_script.specs.Steps.{expected, frame_of}
use Rattle.master_script.specs.Words.{Words}
use Rattle.master_script.specs.declared.step.Refusal.{Refusal}
use Rattle.master_script.specs.declared.step.Step.TheVariants.{Drift}
use Rattle.master_script.proofs.Folds.{progress_push}
use Rattle.master_script.proofs.Asks.{Sent, one_more}

not_same : (m n : ℕ) → m < n → eqb m n ≡ false
not_same m n h = grind (arith, nat_tests)

below : (m n : ℕ) → m < n → ltb m n ≡ true
below m n h = grind (arith, nat_tests)

abbrev pub settle_at : Sent → Words → Progress
settle_at n w = record { phase = Settling; todo = []; tries = 0; sent = n.sent; lost = n.lost; drifts = n.drifts; ran = 0; words = w; refused = None }

-- so many settle frames were sent; behind the last one the call has ended
abbrev pub AtSettle : ConfigValue → Sent → Words → List Exchange → Type 0
AtSettle cfg n w es = progress cfg es ≡ settled cfg (settle_at n w)

sends_settle : (cfg : ConfigValue) (es : List Exchange) (n : Sent) (w : Words) → n.drifts < settle_frames cfg → AtSettle cfg n w es
    → script cfg CallSettle es ≡ Send cfg.frame_ns (frame_of cfg w (Drift (n.drifts + 1)))
unfolding script
sends_settle cfg es n w h p = rw (p, not_same n.drifts (settle_frames cfg) h) refl

settle_more : (cfg : ConfigValue) (es : List Exchange) (e : Exchange) (n : Sent) (w : Words) → n.drifts < settle_frames cfg → AtSettle cfg n w es
    → progress cfg (es ++ e ∷ []) ≡ settling cfg (settle_at (one_more Settling e.back n) w) e.sent e.back
unfolding after
settle_more cfg es e n w h p = progress_push cfg es e ∙ rw (p, not_same n.drifts (settle_frames cfg) h) refl

-- so many run frames were sent
abbrev pub run_at : Sent → ℕ → Words → Option Refusal → Progress
run_at n ran w o = record { phase = Running; todo = []; tries = 0; sent = n.sent; lost = n.lost; drifts = n.drifts; ran = ran; words = w; refused = o }

sends_run : (cfg : ConfigValue) (es : List Exchange) (n : Sent) (ran frames : ℕ) (w : Words) → ran < frames → progress cfg es ≡ run_at n ran w None
    → script cfg (Run frames) es ≡ Send cfg.frame_ns (frame_of cfg w (Drift (n.drifts + 1)))
unfolding script
sends_run cfg es n ran frames w h p = rw (p, below ran frames h) refl

run_more : (cfg : ConfigValue) (es : List Exchange) (e : Exchange) (n : Sent) (ran : ℕ) (w : Words) → progress cfg es ≡ run_at n ran w None
    → progress cfg (es ++ e ∷ []) ≡ running cfg (run_at (one_more Running e.back n) (ran + 1) w None) e.sent e.back
unfolding after
run_more cfg es e n ran w p = progress_push cfg es e ∙ rw p refl

module _ {S : Type 0} (step_of : StepOf S) (cfg : ConfigValue) (P : List Exchange → Type 0) (n : Sent) (w : Words) where
  -- a settle frame is lost
  pub settle_lost : (a t u : Option S) (wait_ns : ℕ) (sent : FrameValue) → n.drifts < settle_frames cfg → wait_ns ≡ cfg.frame_ns → sent ≡ frame_of cfg w (Drift (n.drifts + 1))
      → Serves step_of (script cfg CallSettle) P a t (AtSettle cfg n w)
      → Follows step_of t u (record { wait_ns = wait_ns; sent = sent; back = None })
      → Serves step_of (script cfg CallSettle) P a u (AtSettle cfg (one_more Settling None n) w)
  settle_lost a t u wait_ns sent h v x p f =
      let e : Exchange = record { wait_ns = wait_ns; sent = sent; back = None } in
      serves_then step_of (script cfg CallSettle) P (AtSettle cfg n w) (AtSettle cfg (one_more Settling None n) w) a t u p
      (serves_one step_of (script cfg CallSettle) (AtSettle cfg n w) (AtSettle cfg (one_more Settling None n) w) t u e f
      (λ es at. (sends_settle cfg es n w h at ∙ rw (v, x) refl, settle_more cfg es e n w h at)))

  -- it comes back, and is judged: a refusal, or the reference's time
  pub settle_came : (a t u : Option S) (wait_ns : ℕ) (sent f : FrameValue) (o : Option Refusal) → n.drifts < settle_frames cfg → wait_ns ≡ cfg.frame_ns → sent ≡ frame_of cfg w (Drift (n.drifts + 1))
      → o ≡ judged (Drift (n.drifts + 1)) (expected cfg w (Drift (n.drifts + 1)) f) sent f
      → Serves step_of (script cfg CallSettle) P a t (AtSettle cfg n w)
      → Follows step_of t u (record { wait_ns = wait_ns; sent = sent; back = Some f })
      → Serves step_of (script cfg CallSettle) P a u (λ es. progress cfg es ≡ timed cfg (settle_at (one_more Settling (Some f) n) w) f o)
  settle_came a t u wait_ns sent f o h v x j p g =
      let e : Exchange = record { wait_ns = wait_ns; sent = sent; back = Some f } in
      let Q : List Exchange → Type 0 = λ es. progress cfg es ≡ timed cfg (settle_at (one_more Settling (Some f) n) w) f o in
      serves_then step_of (script cfg CallSettle) P (AtSettle cfg n w) Q a t u p
      (serves_one step_of (script cfg CallSettle) (AtSettle cfg n w) Q t u e g
      (λ es at. (
        sends_settle cfg es n w h at ∙ rw (v, x) refl,
        settle_more cfg es e n w h at ∙ ap (λ r. timed cfg (settle_at (one_more Settling (Some f) n) w) f r) (sym j),
      )))

  -- a run frame is lost, or comes back
  pub run_one_more : (a t u : Option S) (wait_ns ran frames : ℕ) (sent : FrameValue) (back : Option FrameValue) → ran < frames → wait_ns ≡ cfg.frame_ns → sent ≡ frame_of cfg w (Drift (n.drifts + 1))
      → Serves step_of (script cfg (Run frames)) P a t (λ es. progress cfg es ≡ run_at n ran w None)
      → Follows step_of t u (record { wait_ns = wait_ns; sent = sent; back = back })
      → Serves step_of (script cfg (Run frames)) P a u (λ es. progress cfg es ≡ running cfg (run_at (one_more Running back n) (ran + 1) w None) sent back)
  run_one_more a t u wait_ns ran frames sent back h v x p g =
      let e : Exchange = record { wait_ns = wait_ns; sent = sent; back = back } in
      let R : List Exchange → Type 0 = λ es. progress cfg es ≡ run_at n ran w None in
      let Q : List Exchange → Type 0 = λ es. progress cfg es ≡ running cfg (run_at (one_more Running back n) (ran + 1) w None) sent back in
      serves_then step_of (script cfg (Run frames)) P R Q a t u p
      (serves_one step_of (script cfg (Run frames)) R Q t u e g
      (λ es at. (sends_run cfg es n ran frames w h at ∙ rw (v, x) refl, run_more cfg es e n ran w at)))
