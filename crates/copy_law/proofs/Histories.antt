-- What commissioning brings the clocks of a run, and what each drift frame after it adds to their histories.
use Rattle.std.proofs.Common.{◌≡◌, ℕ, ◌+◌, Bool, true, false, List, [], ◌∷◌, ◌++◌, Option, Some, None, sym, ap, subst, ◌∙◌, append_assoc}
use Rattle.std.specs.Prelude.{if◌then◌else◌, nat_lt, slice_get}
use Rattle.std.specs.List.{AllByRecursion}
use Rattle.std.proofs.lemmas.List.{append-nil}
use Rattle.copy_law.specs.Drifting.{IsBehind}
use Rattle.copy_law.specs.History.{brought_to, history_from}
use Rattle.copy_law.specs.DriftFrames.{IsDriftFrame}
use Rattle.copy_law.proofs.Drifting.{behind_induction, found_behind, none_before, one_before}
use Rattle.copy_law.proofs.History.{history_one, history_then}
use Rattle.copy_law.proofs.Standing.{file_first, file_step}
use Rattle.delay_law.specs.Far.{AreFar}
use Rattle.delay_law.specs.OfFile.{IsOfFile}
use Rattle.delay_law.proofs.Exported.{IsCommissioning, far_behind, far_left, far_time}
use Rattle.ecat_frame.specs.FrameGrammar.{FrameValue}
use Rattle.ecat_link.specs.Exchanges.{Exchange, Runs}
use Rattle.ecat_link.specs.Serves.{Sends}
use Rattle.ecat_link.proofs.Exported.{driven, runs_then}
use Rattle.frame_pass.specs.ClockHistory.{events_passed}
use Rattle.frame_pass.specs.FramePass.{at_arrival, datagrams_behind}
use Rattle.frame_pass.specs.Reach.{reach_of}
use Rattle.frame_pass.specs.Rest.{AreResets}
use Rattle.frame_pass.specs.SegmentState.{SegmentState, leaves_at, segment_step}
use Rattle.frame_pass.specs.SlaveState.{Slave}
use Rattle.frame_pass.proofs.Exported.{resets_passed, sizes_of}
use Rattle.honest_slaves.proofs.Exported.{sent_by}
use Rattle.local_clock.specs.Reading.{Happening}
use Rattle.master_script.specs.Progress.{Commissioning, progress}
use Rattle.master_script.specs.Script.{Commission, script}
use Rattle.master_script.specs.declared.step.Step.{Step}
use Rattle.master_script.specs.declared.step.Step.TheVariants.{Count, Identify, Rate, Latch, Times, Set}
use Rattle.master_script.proofs.Exported.{IsOf, wants}
use Rattle.run_counts.proofs.Exported.{some_kinds}
use Rattle.run_of_file.specs.MasterOfFile.{master_of}
use Rattle.run_of_file.specs.RunOfFile.{RunEnd, commissioned, turns}
use Rattle.run_of_file.proofs.Exported.{commissioned_exchanges}
use Rattle.segment_file.specs.Legal.{IsLegal}
use Rattle.segment_file.specs.Segment.{SegmentValue}
use Rattle.segment_start.specs.Start.{started_segment}

some_same : {X : Type 0} {x y : X} → Some x ≡ Some y → x ≡ y
some_same e = cc

joined : (es fs : List Happening) → AreResets es → AreResets fs → AreResets (es ++ fs)
joined [] fs a b = b
joined (e ∷ es) fs a b = (a.0, joined es fs a.1 b)

is_commissioning : (step : Step) → IsOf Commissioning step → IsCommissioning step
is_commissioning Count h = tt
is_commissioning (Identify p) h = tt
is_commissioning Rate h = tt
is_commissioning Latch h = tt
is_commissioning (Times p) h = tt
is_commissioning (Set p) h = tt
is_commissioning step h = absurd h

module _ (s : SegmentValue) (legal : IsLegal s) where
  -- no frame of commissioning writes the system time
  far_sends : (es before : List Exchange) → Sends (script (master_of s) Commission) before es → AllByRecursion (λ (e : Exchange). AreFar 0x0910 4 e.sent.datagrams) es
  far_sends [] before sends = tt
  far_sends (e ∷ es) before sends =
      let w = wants (master_of s) Commission before e.wait_ns e.sent (some_kinds s legal) sends.0 in
      let words = (progress (master_of s) before).words in (
        subst (AreFar 0x0910 4) (sym (ap (λ (f : FrameValue). f.datagrams) w.is ∙ sent_by (master_of s) words w.step)) (far_time (master_of s) words w.step (is_commissioning w.step w.kind)),
        far_sends es (before ++ e ∷ []) sends.1,
      )

  -- so it brings each clock resets alone
  module _ (p : ℕ) where
    far_brings : (t : SegmentState) (e : Exchange) (o : Option Slave) → IsOfFile s t → AreFar 0x0910 4 e.sent.datagrams → AreResets (brought_to t e p o)
    far_brings t e None file far = tt
    far_brings t e (Some v) file far = by (nat_lt p (reach_of t e.sent))
      where
        by : (b : Bool) → AreResets (if b then events_passed (leaves_at t e.wait_ns) v (datagrams_behind p (leaves_at t e.wait_ns) t.slaves e.sent.datagrams) else [])
        by false = tt
        by true =
            let ds = datagrams_behind p (leaves_at t e.wait_ns) t.slaves e.sent.datagrams in
            resets_passed (leaves_at t e.wait_ns) v ds
            (far_left 0x0910 4 (at_arrival (leaves_at t e.wait_ns) v) ds (far_behind 0x0910 4 p (leaves_at t e.wait_ns) t.slaves e.sent.datagrams (sizes_of t.round_trip t.free t.slaves file.sound) far))

    far_history : (es : List Exchange) (t : SegmentState) → IsOfFile s t → AllByRecursion (λ (e : Exchange). AreFar 0x0910 4 e.sent.datagrams) es → AreResets (history_from t es p)
    unfolding history_from
    far_history [] t file far = tt
    far_history (e ∷ es) t file far =
        let next = (segment_step t e.wait_ns e.sent).0 in
        joined (brought_to t e p (slice_get t.slaves p)) (history_from next es p) (far_brings t e (slice_get t.slaves p) file far.0) (far_history es next (file_step s legal t e.wait_ns e.sent file) far.1)

    pub first_resets : (first : RunEnd) → commissioned s ≡ Some first → AreResets (history_from (started_segment s) first.exchanges p)
    unfolding commissioned
    first_resets first was =
        let d = driven segment_step (script (master_of s) Commission) turns [] (started_segment s) first was in
        far_history first.exchanges (started_segment s) (file_first s legal)
        (subst (AllByRecursion (λ (e : Exchange). AreFar 0x0910 4 e.sent.datagrams)) (sym d.all) (far_sends d.more [] d.script))

  -- behind some exchanges that lead to a state, one more adds to the history what it brings
  history_on : (p : ℕ) (es : List Exchange) (t : SegmentState) (e : Exchange) → Runs segment_step (Some (started_segment s)) es (Some t)
      → history_from (started_segment s) (es ++ e ∷ []) p ≡ history_from (started_segment s) es p ++ brought_to t e p (slice_get t.slaves p)
  history_on p es t e runs = history_then es (e ∷ []) (started_segment s) t p runs ∙ ap (λ (hs : List Happening). history_from (started_segment s) es p ++ hs) (history_one t e p)

  -- The history behind no drift frame, and behind one more.
  module _ (p : ℕ) where
    abbrev behind : (k : ℕ) (t : SegmentState) → IsBehind s k t → List Happening
    behind k t b = history_from (started_segment s) (b.first.exchanges ++ b.before) p

    none_yet : (first : RunEnd) → commissioned s ≡ Some first → (b : IsBehind s 0 first.state) → behind 0 first.state b ≡ history_from (started_segment s) first.exchanges p
    none_yet first was b =
        let same : b.first ≡ first = some_same (sym b.commissioned ∙ was) in
        ap (λ (es : List Exchange). history_from (started_segment s) es p)
        (ap (λ (es : List Exchange). b.first.exchanges ++ es) (none_before b.before b.number) ∙ append-nil b.first.exchanges ∙ ap (λ (r : RunEnd). r.exchanges) same)

    one_longer : (k : ℕ) (t : SegmentState) (e : Exchange) (b : IsBehind s k t) → IsDriftFrame s (k + 1) t e → (c : IsBehind s (k + 1) (segment_step t e.wait_ns e.sent).0)
        → behind (k + 1) (segment_step t e.wait_ns e.sent).0 c ≡ behind k t b ++ brought_to t e p (slice_get t.slaves p)
    one_longer k t e b f c =
        let same : c.first ≡ b.first = some_same (sym c.commissioned ∙ b.commissioned) in
        let here : c.first.exchanges ++ c.before ≡ (b.first.exchanges ++ b.before) ++ e ∷ [] =
        ap (λ (r : RunEnd). r.exchanges ++ c.before) same ∙ ap (λ (es : List Exchange). b.first.exchanges ++ es) (one_before s legal k t e f b c) ∙ sym (append_assoc b.first.exchanges b.before (e ∷ [])) in
        let led = runs_then segment_step b.first.exchanges b.before (Some (started_segment s)) (Some b.first.state) (Some t) (commissioned_exchanges s b.first b.commissioned) b.led in
        ap (λ (es : List Exchange). history_from (started_segment s) es p) here ∙ history_on p (b.first.exchanges ++ b.before) t e led

  -- What holds of the history that commissioning leaves, and is kept as each drift frame adds to it, holds of the history behind k of them.
  module _ (p : ℕ) (first : RunEnd) (was : commissioned s ≡ Some first) (P : ℕ → SegmentState → List Happening → Type 0) (begins : P 0 first.state (history_from (started_segment s) first.exchanges p))
      (goes : (k : ℕ) (t : SegmentState) (e : Exchange) (events : List Happening) → IsBehind s k t → IsDriftFrame s (k + 1) t e → P k t events
      → P (k + 1) (segment_step t e.wait_ns e.sent).0 (events ++ brought_to t e p (slice_get t.slaves p))) where
    pub history_induction : (k : ℕ) (t : SegmentState) (b : IsBehind s k t) → P k t (history_from (started_segment s) (b.first.exchanges ++ b.before) p)
    history_induction k t b =
        behind_induction s first was (λ (k : ℕ) (t : SegmentState). (b : IsBehind s k t) → P k t (behind p k t b))
        (λ b. subst (P 0 first.state) (sym (none_yet p first was b)) begins)
        (λ k t e b f h c. subst (P (k + 1) (segment_step t e.wait_ns e.sent).0) (sym (one_longer p k t e b f c)) (goes k t e (behind p k t b) b f (h b))) k t b b

  -- The same where each drift frame is looked at with the history that it finds.
  module _ (p : ℕ) (first : RunEnd) (was : commissioned s ≡ Some first) (P : ℕ → List Happening → Type 0) (begins : P 0 (history_from (started_segment s) first.exchanges p))
      (goes : (k : ℕ) (t : SegmentState) (e : Exchange) (f : IsDriftFrame s (k + 1) t e) → P k (behind p k t (found_behind s legal k t e f))
      → P (k + 1) (behind p k t (found_behind s legal k t e f) ++ brought_to t e p (slice_get t.slaves p))) where
    pub frame_induction : (k : ℕ) (t : SegmentState) (b : IsBehind s k t) → P k (history_from (started_segment s) (b.first.exchanges ++ b.before) p)
    frame_induction k t b =
        behind_induction s first was (λ (k : ℕ) (t : SegmentState). (b : IsBehind s k t) → P k (behind p k t b))
        (λ b. subst (P 0) (sym (none_yet p first was b)) begins)
        (λ k t e b f h c. subst (P (k + 1)) (sym (one_longer p k t e (found_behind s legal k t e f) f c)) (goes k t e f (h (found_behind s legal k t e f)))) k t b b
