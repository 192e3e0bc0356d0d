-- The frames of a call by their numbers.
use Rattle.std.proofs.Common.{◌≡◌, ℕ, ◌+◌, ◌<◌, Bool, cond, List, [], ◌∷◌, ◌++◌, length, Option, Some, is_none, refl, sym, ap, ap₂, subst, ◌∙◌, arith}
use Rattle.std.specs.Prelude.{is_some}
use Rattle.std.specs.List.{range_with_len}
use Rattle.std.proofs.lemmas.List.Sums.{sum_by-cons}
use Rattle.ecat_frame.specs.FrameGrammar.{FrameValue}
use Rattle.ecat_link.specs.Exchanges.{Exchange, Runs, lost_among}
use Rattle.ecat_link.specs.Serves.{Send, Sends}
use Rattle.frame_pass.specs.SegmentState.{SegmentState, number_of, phase_of, segment_step}
use Rattle.lost_step.specs.LostStep.{loses}
use Rattle.master_script.specs.Progress.{Progress, progress}
use Rattle.master_script.specs.Script.{Call, script}
use Rattle.master_script.specs.Scripted.{AreScripted, IsLimited, more}
use Rattle.master_script.proofs.Exported.{progress_sent, progress_push}
use Rattle.run_counts.specs.Numbered.{AreNumbered}
use Rattle.run_of_file.specs.MasterOfFile.{master_of}
use Rattle.run_of_file.specs.RunOfFile.{frames_given}
use Rattle.run_counts.proofs.Numbers.{InStep, few_sent, frame_phase, frames_of, some_kinds, step_in_step}
use Rattle.run_counts.proofs.Stepping.{NumbersOn, step_back, step_numbers}
use Rattle.segment_file.specs.Legal.{IsLegal}
use Rattle.segment_file.specs.Segment.{SegmentValue}
use Rattle.loss_list.specs.Losses.{loss_at}
use Rattle.loss_list.specs.declared.loss_row.LossRow.{LossRow}
use Rattle.loss_list.specs.declared.loss_row.Phase.{Phase}
use Rattle.loss_list.specs.declared.loss_row.Phase.TheVariants.{Commission, Drift}
use Rattle.run_counts.specs.Numbers.{lost_numbers}

some_same : {X : Type 0} {x y : X} → Some x ≡ Some y → x ≡ y
some_same e = cc

-- numbered frames, and then more
pub numbered_then : (s : SegmentValue) (phase : Phase) (number next : ℕ) (xs ys : List Exchange) → next ≡ number + length xs → AreNumbered s phase number xs → AreNumbered s phase next ys
    → AreNumbered s phase number (xs ++ ys)
numbered_then s phase number next [] ys is h k = let same : next ≡ number = omega (arith, is) in subst (λ (n : ℕ). AreNumbered s phase n ys) same k
numbered_then s phase number next (e ∷ xs) ys is h k = (h.0, h.1, numbered_then s phase (number + 1) next xs ys (omega (arith, is)) h.2 k)

-- as many of them are lost as numbers are listed
pub lost_listed : (s : SegmentValue) (phase : Phase) (number : ℕ) (es : List Exchange) → AreNumbered s phase number es → lost_among es ≡ lost_numbers (loses s phase) number (length es)
lost_listed s phase number [] h = refl
lost_listed s phase number (e ∷ es) h =
    sum_by-cons (λ (x : Exchange). cond (is_none x.back) 1 0) e es
    ∙ ap₂ (λ (b : Bool) (n : ℕ). cond b 1 0 + n) h.1 (lost_listed s phase (number + 1) es h.2)
    ∙ sym (sum_by-cons (λ k. cond (loses s phase k) 1 0) number (range_with_len (number + 1) (length es)))

number_on : (phase : Phase) (t u : SegmentState) → NumbersOn phase t u → number_of phase u ≡ number_of phase t + 1
number_on Commission t u h = h.0
number_on Drift t u h = h.1

-- Exchanges of a call are its frames, numbered from the next number of its phase on.
pub record Went (s : SegmentValue) (phase : Phase) (t u : SegmentState) (es : List Exchange) : Type 0 where
  pub numbered : AreNumbered s phase (number_of phase t + 1) es
  pub last : number_of phase u ≡ number_of phase t + length es

module _ (s : SegmentValue) (legal : IsLegal s) (call : Call) (limited : IsLimited (frames_given s) call) where
  low : (before : List Exchange) (t : SegmentState) → AreScripted (master_of s) (frames_given s) before → InStep s (progress (master_of s) before) t → t.sent < 1000000
  low before t made both =
      let sent = both.sent in
      let count = progress_sent (master_of s) before in
      let few = few_sent s legal before made in
      omega (arith, sent, count, few)

  phase_here : (before : List Exchange) (e : Exchange) → script (master_of s) call before ≡ Send e.wait_ns e.sent → phase_of e.sent.datagrams ≡ frames_of call
  phase_here before e wanted = frame_phase (master_of s) call before e.wait_ns e.sent (some_kinds s legal) wanted

  lost_here : (before : List Exchange) (e : Exchange) (t : SegmentState) → AreScripted (master_of s) (frames_given s) before → InStep s (progress (master_of s) before) t
      → script (master_of s) call before ≡ Send e.wait_ns e.sent → e.back ≡ (segment_step t e.wait_ns e.sent).1 → is_none e.back ≡ loses s (frames_of call) (number_of (frames_of call) t + 1)
  lost_here before e t made both wanted back =
      ap (λ (b : Option FrameValue). is_none b) back
      ∙ step_back t e.wait_ns e.sent (low before t made both)
      ∙ ap (λ (x : Phase). is_some (loss_at t.losses x (number_of x t + 1))) (phase_here before e wanted)
      ∙ ap (λ (ls : List LossRow). is_some (loss_at ls (frames_of call) (number_of (frames_of call) t + 1))) both.losses

  next_here : (before : List Exchange) (e : Exchange) (t : SegmentState) → AreScripted (master_of s) (frames_given s) before → InStep s (progress (master_of s) before) t
      → script (master_of s) call before ≡ Send e.wait_ns e.sent → number_of (frames_of call) (segment_step t e.wait_ns e.sent).0 ≡ number_of (frames_of call) t + 1
  next_here before e t made both wanted =
      let u = (segment_step t e.wait_ns e.sent).0 in
      number_on (frames_of call) t u (subst (λ (x : Phase). NumbersOn x t u) (phase_here before e wanted) (step_numbers t e.wait_ns e.sent (low before t made both)))

  pub call_went : (before es : List Exchange) (t u : SegmentState) → AreScripted (master_of s) (frames_given s) before → InStep s (progress (master_of s) before) t
      → Sends (script (master_of s) call) before es → Runs segment_step (Some t) es (Some u) → Went s (frames_of call) t u es
  call_went before [] t u made both sends runs =
      let same = ap (number_of (frames_of call)) (some_same runs) in
      record { numbered = tt; last = omega (arith, same) }
  call_went before (e ∷ es) t u made both sends runs =
      let v = (segment_step t e.wait_ns e.sent).0 in
      let next = next_here before e t made both sends.0 in
      let rest =
      call_went (before ++ e ∷ []) es v u (more before e call made limited sends.0)
      (subst (λ (q : Progress). InStep s q v) (sym (progress_push (master_of s) before e)) (step_in_step s legal call before e t made sends.0 both)) sends.1 runs.1 in
      let last = rest.last in
      record {
        numbered =
            (phase_here before e sends.0, lost_here before e t made both sends.0 runs.0, subst (λ (n : ℕ). AreNumbered s (frames_of call) n es) (ap (λ (n : ℕ). n + 1) next) rest.numbered);
        last = omega (arith, last, next);
      }
