-- Drift frames of settling and of running, by what the master notes.
use Rattle.std.proofs.Common.{◌≡◌, ℕ, ◌+◌, ◌<◌, if◌then◌else◌, is_some, not, Bool, eqb, true, false, List, [], ◌∷◌, length, Option, Some, None, Result, Ok, Err, refl, ap, sym, ◌∙◌, arith}
use Rattle.std.proofs.lemmas.Bool.Decides.{nat_tests}
use Rattle.ecat_frame.specs.Built.{built}
use Rattle.ecat_frame.specs.FrameGrammar.{FrameValue}
use Rattle.ecat_link.specs.Exchanges.{Exchange, StepOf, Follows}
use Rattle.ecat_link.specs.Serves.{Serves}
use Rattle.ecat_link.proofs.Exported.{serves_weaker}
use Rattle.dc_master.specs.Places.{AtRest, HasRefused, IsReady, IsTimed}
use Rattle.master_steps.specs.Asking.{one_sent, stood}
use Rattle.master_steps.specs.declared.exchange.Counters.{Counters}
use Rattle.dc_master.proofs.Parts.{refused_part}
use Rattle.master_steps.proofs.Exported.{never_lost, sent_of}
use Rattle.dc_master.proofs.Times.{shown_behind}
use Rattle.master_script.specs.Config.{ConfigValue, settle_frames}
use Rattle.master_script.specs.Frames.{drift_datagrams}
use Rattle.master_script.specs.Judged.{judged}
use Rattle.master_script.specs.Kept.{has_delays}
use Rattle.master_script.specs.Progress.{Progress, Running, Settling, progress, settled, timed}
use Rattle.master_script.specs.Script.{Run, Settle as CallSettle, script}
use Rattle.master_script.specs.Slaves.{clocks}
use Rattle.master_script.specs.Steps.{expected, frame_of}
use Rattle.master_script.specs.Words.{Words, delays_of, reference_of}
use Rattle.master_script.specs.declared.step.Refusal.{Refusal}
use Rattle.master_script.specs.declared.step.Refusal.TheVariants.{Lost}
use Rattle.master_script.specs.declared.step.Step.{Step}
use Rattle.master_script.specs.declared.step.Step.TheVariants.{Drift, Settle}
use Rattle.master_script.proofs.Exported.{AtSettle, run_at, run_one_more, settle_at, settle_came, settle_lost}

pub drift_is : (cfg : ConfigValue) (w : Words) (k : ℕ) (sent : FrameValue) → sent ≡ built (drift_datagrams (reference_of w)) → sent ≡ frame_of cfg w (Drift k)
unfolding frame_of
drift_is cfg w k sent e = e

-- a refusal behind commissioning keeps the delays
pub refused_behind : (cfg : ConfigValue) (n : Counters) (w : Words) (ds : List (Option ℕ)) (r : Refusal) (es : List Exchange) → IsReady cfg w ds
    → progress cfg es ≡ record (stood Settling n w []) { refused = Some r } → HasRefused cfg n w ds r es
refused_behind cfg n w ds r es ready b =
    refused_part cfg Settling n w [] ds r es (shown_behind cfg w [] ready.reference.0 ready.reference.1 refl ∙ sym ready.delays) (record { tries = 0; place = b })

delays_timed : (cfg : ConfigValue) (w : Words) (t : Option ℕ) → delays_of cfg (record w { time = t }) ≡ delays_of cfg w
unfolding delays_of
delays_timed cfg w t = refl

-- the time of the reference changes nothing of the rest
pub ready_timed : (cfg : ConfigValue) (w v : Words) (t : Option ℕ) (ds es : List (Option ℕ)) → v ≡ record w { time = t } → es ≡ ds → IsReady cfg w ds → IsReady cfg v es
ready_timed cfg w v t ds es e d h = rw (e, d) (record { reference = h.reference; slaves = h.slaves; clocks = h.clocks; delays = h.delays ∙ sym (delays_timed cfg w t) })

-- settling
pub settle_first : (cfg : ConfigValue) (n : Counters) (w : Words) (es : List Exchange) → n.drifts ≡ 0 → AtRest cfg Settling n w [] es → AtSettle cfg (sent_of n) w es
settle_first cfg n w es z b =
    let t : eqb n.drifts (settle_frames cfg) ≡ false = grind (arith, nat_tests) in
    rw t b

pub settle_none : (cfg : ConfigValue) (n : Counters) (w : Words) (ds : List (Option ℕ)) (es : List Exchange) → IsReady cfg w ds → n.drifts ≡ settle_frames cfg → w.time ≡ None → AtSettle cfg (sent_of n) w es
    → HasRefused cfg n w ds (Lost Settle) es
settle_none cfg n w ds es ready d z b =
    let t : eqb n.drifts (settle_frames cfg) ≡ true = grind (arith, nat_tests) in
    refused_behind cfg n w ds (Lost Settle) es ready (rw (t, z) at b)

pub refused_same : (cfg : ConfigValue) (n m : Counters) (w v : Words) (ds : List (Option ℕ)) (r : Refusal) (es : List Exchange) → m ≡ n → v ≡ w → HasRefused cfg n w ds r es → HasRefused cfg m v ds r es
refused_same cfg n m w v ds r es e f h = rw (e, f) h

pub words_timed : (u w v : Words) (t s : Option ℕ) → w ≡ record u { time = t } → v ≡ record w { time = s } → v ≡ record u { time = v.time }
words_timed u w v t s e f = rw (f, e) refl

pub time_none : (o : Option ℕ) (b : Bool) → is_some o ≡ not b → b ≡ true → o ≡ None
time_none None b n e = refl
time_none (Some x) b n e = absurd (let z : true ≡ false = rw e at n in cc)

-- what is known after the reply to a settle frame
abbrev pub AfterTime : ConfigValue → Counters → Words → Words → Result (Unit {0}) Refusal → List Exchange → Type 0
AfterTime cfg n w later (Ok _) es = AtSettle cfg (sent_of n) later es
AfterTime cfg n w later (Err r) es = progress cfg es ≡ record (stood Settling n w []) { refused = Some r }

after_time : (cfg : ConfigValue) (n : Counters) (w later : Words) (many : ℕ) (sent reply : FrameValue) (r : Result (Unit {0}) Refusal) (es : List Exchange)
    → many ≡ length (clocks w.slaves) → IsTimed cfg n many sent reply w later r
    → progress cfg es ≡ timed cfg (settle_at (sent_of n) w) reply (judged (Drift n.drifts) (expected cfg w (Drift n.drifts) reply) sent reply) → AfterTime cfg n w later r es
after_time cfg n w later many sent reply (Ok u) es m h b =
    let j : judged (Drift n.drifts) (expected cfg w (Drift n.drifts) reply) sent reply ≡ None = rw m at h.0 in
    b ∙ ap (λ o. timed cfg (settle_at (sent_of n) w) reply o) j ∙ ap (λ (x : Words). settled cfg (settle_at (sent_of n) x)) (sym h.1)
after_time cfg n w later many sent reply (Err r) es m h b =
    let j : judged (Drift n.drifts) (expected cfg w (Drift n.drifts) reply) sent reply ≡ Some r = rw m at h.0 in
    b ∙ ap (λ o. timed cfg (settle_at (sent_of n) w) reply o) j

pub timed_never : (cfg : ConfigValue) (n : Counters) (many : ℕ) (sent reply : FrameValue) (w later : Words) (r : Refusal) (q : Step) → IsTimed cfg n many sent reply w later (Err r) → r ≡ Lost q → ⊥
timed_never cfg n many sent reply w later r q h e = never_lost (Drift n.drifts) q (many ∷ []) sent reply (h.0 ∙ ap (λ x. Some x) e)

module _ {S : Type 0} (step_of : StepOf S) (cfg : ConfigValue) (P : List Exchange → Type 0) (n m : Counters) (w : Words) (a t u : Option S) (wait_ns : ℕ) (sent : FrameValue)
    (v : wait_ns ≡ cfg.frame_ns) (x : sent ≡ built (drift_datagrams (reference_of w))) where
  pub settle_missed : n.drifts < settle_frames cfg → m ≡ one_sent 1 None n
      → Serves step_of (script cfg CallSettle) P a t (AtSettle cfg (sent_of n) w)
      → Follows step_of t u (record { wait_ns = wait_ns; sent = sent; back = None })
      → Serves step_of (script cfg CallSettle) P a u (AtSettle cfg (sent_of m) w)
  settle_missed h e p f = rw e (settle_lost step_of cfg P (sent_of n) w a t u wait_ns sent h v (drift_is cfg w (n.drifts + 1) sent x) p f)

  pub settle_back : (reply : FrameValue) (later : Words) (many : ℕ) (r : Result (Unit {0}) Refusal) → n.drifts < settle_frames cfg → m ≡ one_sent 1 (Some reply) n → many ≡ length (clocks w.slaves)
      → IsTimed cfg m many sent reply w later r
      → Serves step_of (script cfg CallSettle) P a t (AtSettle cfg (sent_of n) w)
      → Follows step_of t u (record { wait_ns = wait_ns; sent = sent; back = Some reply })
      → Serves step_of (script cfg CallSettle) P a u (AfterTime cfg m w later r)
  settle_back reply later many r h e c i p f =
      let k = n.drifts + 1 in
      serves_weaker step_of _ P P _ _ a u (λ es b. b)
      (λ es b. after_time cfg m w later many sent reply r es c i (rw e b))
      (settle_came step_of cfg P (sent_of n) w a t u wait_ns sent reply (judged (Drift k) (expected cfg w (Drift k) reply) sent reply) h v (drift_is cfg w k sent x) refl p f)

  -- running
  pub run_missed : (ran frames : ℕ) → ran < frames → m ≡ one_sent 1 None n
      → Serves step_of (script cfg (Run frames)) P a t (λ es. progress cfg es ≡ run_at (sent_of n) ran w None)
      → Follows step_of t u (record { wait_ns = wait_ns; sent = sent; back = None })
      → Serves step_of (script cfg (Run frames)) P a u (λ es. progress cfg es ≡ run_at (sent_of m) (ran + 1) w None)
  run_missed ran frames h e p f = rw e (run_one_more step_of cfg P (sent_of n) w a t u wait_ns ran frames sent None h v (drift_is cfg w (n.drifts + 1) sent x) p f)

  pub run_back : (reply : FrameValue) (many : ℕ) (o : Option Refusal) (ran frames : ℕ) → ran < frames → m ≡ one_sent 1 (Some reply) n → many ≡ length (clocks w.slaves)
      → o ≡ judged (Drift m.drifts) (many ∷ []) sent reply
      → Serves step_of (script cfg (Run frames)) P a t (λ es. progress cfg es ≡ run_at (sent_of n) ran w None)
      → Follows step_of t u (record { wait_ns = wait_ns; sent = sent; back = Some reply })
      → Serves step_of (script cfg (Run frames)) P a u (λ es. progress cfg es ≡ run_at (sent_of m) (ran + 1) w o)
  run_back reply many o ran frames h e c j p f =
      rw (j, c, e) (run_one_more step_of cfg P (sent_of n) w a t u wait_ns ran frames sent (Some reply) h v (drift_is cfg w (n.drifts + 1) sent x) p f)

pub run_refused : (cfg : ConfigValue) (n : Counters) (w : Words) (ds : List (Option ℕ)) (ran : ℕ) (r : Refusal) (es : List Exchange) → IsReady cfg w ds → progress cfg es ≡ run_at (sent_of n) ran w (Some r) → HasRefused cfg n w ds r es
run_refused cfg n w ds ran r es ready b = record {
  refused = ap (λ (p : Progress). p.refused) b;
  sent = ap (λ (p : Progress). p.sent) b;
  lost = ap (λ (p : Progress). p.lost) b;
  drifts = ap (λ (p : Progress). p.drifts) b;
  words = ap (λ (p : Progress). p.words) b;
  delays = ap (λ (p : Progress). if has_delays p then delays_of cfg w else []) b ∙ shown_behind cfg w [] ready.reference.0 ready.reference.1 refl ∙ sym ready.delays;
}

pub refused_as : (cfg : ConfigValue) (n : Counters) (w v : Words) (ds es : List (Option ℕ)) (r : Refusal) (xs : List Exchange) → v ≡ w → es ≡ ds → HasRefused cfg n w ds r xs → HasRefused cfg n v es r xs
refused_as cfg n w v ds es r xs e f h = rw (e, f) h

pub ran_as : (cfg : ConfigValue) (n : Counters) (w v : Words) (ran frames : ℕ) (es : List Exchange) → v ≡ w → ran ≡ frames → progress cfg es ≡ run_at (sent_of n) ran w None → progress cfg es ≡ record (stood Running n v []) { ran = frames }
ran_as cfg n w v ran frames es e f b = rw (e, ← f) b
