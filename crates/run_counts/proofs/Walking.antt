-- What holds from exchange to exchange of a call.
use Rattle.std.proofs.Common.{◌≡◌, ℕ, ◌+◌, ◌<◌, List, [], ◌∷◌, ◌++◌, Option, Some, is_none, sym, ap, subst, ◌∙◌, append_assoc, arith}
use Rattle.std.proofs.lemmas.List.{append-nil}
use Rattle.std.specs.Prelude.{is_some}
use Rattle.ecat_link.specs.Exchanges.{Exchange, Runs}
use Rattle.ecat_link.specs.Serves.{Send, Sends}
use Rattle.master_script.specs.Progress.{Progress, progress, after}
use Rattle.master_script.specs.Script.{script, Call, Commission, Settle, Arm, Run}
use Rattle.master_script.specs.Scripted.{AreScripted, IsLimited, more}
use Rattle.master_script.proofs.Exported.{progress_sent, progress_push}
use Rattle.loss_list.specs.Losses.{loss_at}
use Rattle.loss_list.specs.declared.loss_row.LossRow.{LossRow}
use Rattle.loss_list.specs.declared.loss_row.Phase.{Phase}
use Rattle.frame_pass.specs.SegmentState.{SegmentState, segment_step, number_of}
use Rattle.segment_file.specs.Segment.{SegmentValue}
use Rattle.segment_file.specs.Legal.{IsLegal}
use Rattle.run_of_file.specs.MasterOfFile.{master_of}
use Rattle.run_of_file.specs.RunOfFile.{frames_given}
use Rattle.lost_step.specs.LostStep.{loses}
use Rattle.run_counts.proofs.Numbers.{InStep, step_in_step, few_sent, some_kinds, frame_phase, frames_of}
use Rattle.run_counts.proofs.Stepping.{step_back}

-- the number of the next frame of a call among those of its kind
abbrev pub IsNext : Call → Progress → ℕ → Type 0
IsNext Commission p number = number + p.drifts ≡ p.sent + 1
IsNext Settle p number = number ≡ p.drifts + 1
IsNext Arm p number = number ≡ p.drifts + 1
IsNext (Run k) p number = number ≡ p.drifts + 1

next_is : (s : SegmentValue) (call : Call) (p : Progress) (t : SegmentState) (number : ℕ) → InStep s p t → IsNext call p number → number_of (frames_of call) t + 1 ≡ number
next_is s Commission p t number h n = let a = h.sent in let b = h.drift in let c = h.commission in omega (arith, a, b, c, n)
next_is s Settle p t number h n = let b = h.drift in omega (arith, b, n)
next_is s Arm p t number h n = let b = h.drift in omega (arith, b, n)
next_is s (Run k) p t number h n = let b = h.drift in omega (arith, b, n)

-- it is listed exactly where it does not come back
lost_now : (s : SegmentValue) → IsLegal s → (call : Call) (es : List Exchange) (e : Exchange) (t : SegmentState) → AreScripted (master_of s) (frames_given s) es
    → script (master_of s) call es ≡ Send e.wait_ns e.sent → InStep s (progress (master_of s) es) t → e.back ≡ (segment_step t e.wait_ns e.sent).1
    → (number : ℕ) → IsNext call (progress (master_of s) es) number → loses s (frames_of call) number ≡ is_none e.back
lost_now s legal call es e t made wanted h back number next =
    let cfg = master_of s in
    let count = progress_sent cfg es in
    let few = few_sent s legal es made in
    let hs = h.sent in
    let low : t.sent < 1000000 = omega (arith, hs, count, few) in
    let phase = frame_phase cfg call es e.wait_ns e.sent (some_kinds s legal) wanted in
    let is = next_is s call (progress cfg es) t number h next in
    sym
    (ap (λ (b : Option _). is_none b) back
    ∙ step_back t e.wait_ns e.sent low
    ∙ ap (λ (x : Phase). is_some (loss_at t.losses x (number_of x t + 1))) phase
    ∙ ap (λ (n : ℕ). is_some (loss_at t.losses (frames_of call) n)) is
    ∙ ap (λ (ls : List LossRow). is_some (loss_at ls (frames_of call) number)) h.losses)

module _ (s : SegmentValue) (legal : IsLegal s) (call : Call) (limited : IsLimited (frames_given s) call) (P : Progress → Type 0)
    (stepped : (es : List Exchange) (e : Exchange) → script (master_of s) call es ≡ Send e.wait_ns e.sent
    → ((number : ℕ) → IsNext call (progress (master_of s) es) number → loses s (frames_of call) number ≡ is_none e.back)
    → P (progress (master_of s) es) → P (after (master_of s) (progress (master_of s) es) e)) where
  pub walk : (before es : List Exchange) (t u : SegmentState) → AreScripted (master_of s) (frames_given s) before → InStep s (progress (master_of s) before) t
      → P (progress (master_of s) before) → Sends (script (master_of s) call) before es → Runs segment_step (Some t) es (Some u) → P (progress (master_of s) (before ++ es))
  walk before [] t u made both now sends runs = subst (λ (b : List Exchange). P (progress (master_of s) b)) (sym (append-nil before)) now
  walk before (e ∷ es) t u made both now sends runs =
      let push = sym (progress_push (master_of s) before e) in
      subst (λ (b : List Exchange). P (progress (master_of s) b)) (append_assoc before (e ∷ []) es)
      (walk (before ++ e ∷ []) es (segment_step t e.wait_ns e.sent).0 u
      (more before e call made limited sends.0)
      (subst (λ (q : Progress). InStep s q (segment_step t e.wait_ns e.sent).0) push (step_in_step s legal call before e t made sends.0 both))
      (subst P push (stepped before e sends.0 (lost_now s legal call before e t made sends.0 both runs.0) now))
      sends.1 runs.1)
