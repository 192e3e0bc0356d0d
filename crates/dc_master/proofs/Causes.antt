-- The causes of refusals of a call.
use Rattle.std.proofs.Common.{◌≡◌, ℕ, List, [], ◌∷◌, length, map, Option, Some, None, Result, Ok, Err, refl, sym, ap, subst, ◌∙◌}
use Rattle.std.specs.Prelude.{⊤}
use Rattle.dc_bounds.specs.Weight.{flag}
use Rattle.dc_delay.specs.Refusals.{first_timed, first_unmeasurable}
use Rattle.dc_topology.specs.Listed.{Place}
use Rattle.dc_topology.specs.declared.error.TopologyError.{TopologyError}
use Rattle.ecat_frame.specs.Built.{built}
use Rattle.ecat_frame.specs.FrameGrammar.{FrameValue, IsFrame}
use Rattle.master_script.specs.Causes.{AreRefused, IsCause, IsJudgedIn, IsLostIn}
use Rattle.master_script.specs.Config.{ConfigValue, slaves}
use Rattle.master_script.specs.Frames.{drift_datagrams}
use Rattle.master_script.specs.Judged.{judged}
use Rattle.master_script.specs.Script.{Call, Commission}
use Rattle.master_script.specs.Slaves.{SlaveWords, clocks, is_clock, is_measuring, judged_clocks, judged_tree, judgement, tree_told}
use Rattle.master_script.specs.Steps.{expected}
use Rattle.master_script.specs.Words.{Words, reference_of}
use Rattle.master_script.specs.declared.step.Refusal.{Refusal}
use Rattle.master_script.specs.declared.step.Refusal.TheVariants.{Lost, Counter, Reply, Topology, NoReference, Unmeasurable}
use Rattle.master_script.specs.declared.step.Step.{Step}
use Rattle.master_script.specs.declared.step.Step.TheVariants.{Drift}
use Rattle.master_steps.specs.Asking.{IsCauseAt}
use Rattle.master_steps.specs.declared.exchange.Counters.{Counters}
use Rattle.dc_master.proofs.Driving.{drift_is}
use Rattle.master_steps.proofs.Exported.{OfStep, names, reply_causes}

-- the cause of a refused drift frame
drift_by : (cfg : ConfigValue) (call : Call) (k : ℕ) (w : Words) (r : Refusal) → IsJudgedIn call k (Drift k) → OfStep (Drift k) r → IsCauseAt cfg w (Drift k) r → IsCause cfg call k w r
drift_by cfg call k w (Lost q) i n c = absurd n
drift_by cfg call k w (Reply q at) i n c = rw c.0 (i, c.1)
drift_by cfg call k w (Counter q e j) i n c = rw c.0 (i, c.1)
drift_by cfg call k w (Topology e) i n c = absurd n
drift_by cfg call k w NoReference i n c = absurd n
drift_by cfg call k w (Unmeasurable j) i n c = absurd n

pub drift_causes : (cfg : ConfigValue) (call : Call) (k many : ℕ) (w : Words) (sent reply : FrameValue) (r : Refusal) → IsJudgedIn call k (Drift k) → sent ≡ built (drift_datagrams (reference_of w))
    → many ≡ length (clocks w.slaves) → IsFrame reply → judged (Drift k) (many ∷ []) sent reply ≡ Some r → IsCause cfg call k w r
drift_causes cfg call k many w sent reply r i s m v j =
    let j' : judged (Drift k) (expected cfg w (Drift k) reply) sent reply ≡ Some r = ap (λ (n : ℕ). judged (Drift k) (n ∷ []) sent reply) (sym m) ∙ j in
    drift_by cfg call k w r i (names (Drift k) (expected cfg w (Drift k) reply) sent reply r j') (reply_causes cfg w (Drift k) sent reply r (drift_is cfg w k sent s) v j')

-- the cause of refused slaves
abbrev OfSlaves : Refusal → Type 0
OfSlaves (Lost q) = ⊥
OfSlaves (Reply q at) = ⊥
OfSlaves (Counter q e k) = ⊥
OfSlaves r = ⊤

of_clocks : (t u : Option ℕ) (r : Refusal) → judged_clocks t u ≡ Err r → OfSlaves r
of_clocks None u r e = let s : NoReference ≡ r = cc in subst (λ x. OfSlaves x) s tt
of_clocks (Some x) None r e = absurd cc
of_clocks (Some x) (Some y) r e = let s : Unmeasurable y ≡ r = cc in subst (λ x. OfSlaves x) s tt

of_tree : (ss : List SlaveWords) (t : Result (List Place) TopologyError) (r : Refusal) → judged_tree ss t ≡ Err r → OfSlaves r
of_tree ss (Ok hung) r e = of_clocks (first_timed hung (flag (map is_clock ss))) (first_unmeasurable hung (flag (map is_measuring ss))) r e
of_tree ss (Err x) r e = let s : Topology x ≡ r = cc in subst (λ y. OfSlaves y) s tt

of_slaves : (ss : List SlaveWords) (r : Refusal) → judgement ss ≡ Err r → OfSlaves r
unfolding judgement
of_slaves ss r e = of_tree ss (tree_told ss) r e

slaves_by : (cfg : ConfigValue) (drifts : ℕ) (w : Words) (r : Refusal) → OfSlaves r → AreRefused cfg w.slaves r → IsCause cfg Commission drifts w r
slaves_by cfg drifts w (Lost q) o a = absurd o
slaves_by cfg drifts w (Reply q at) o a = absurd o
slaves_by cfg drifts w (Counter q e k) o a = absurd o
slaves_by cfg drifts w (Topology e) o a = (refl, a)
slaves_by cfg drifts w NoReference o a = (refl, a)
slaves_by cfg drifts w (Unmeasurable k) o a = (refl, a)

pub slaves_cause : (cfg : ConfigValue) (drifts : ℕ) (w : Words) (r : Refusal) → length w.slaves ≡ slaves cfg → judgement w.slaves ≡ Err r → IsCause cfg Commission drifts w r
slaves_cause cfg drifts w r l j = slaves_by cfg drifts w r (of_slaves w.slaves r j) (record { all = l; judged = j })

-- the cause of a refused step is one of the call that asks it
pub step_causes : (cfg : ConfigValue) (call : Call) (drifts : ℕ) (w : Words) (step : Step) (r : Refusal) → IsJudgedIn call drifts step → IsLostIn call step → IsCauseAt cfg w step r → IsCause cfg call drifts w r
step_causes cfg call drifts w step (Lost q) i l c = subst (λ x. IsLostIn call x) (sym c) l
step_causes cfg call drifts w step (Reply q at) i l c = rw c.0 (i, c.1)
step_causes cfg call drifts w step (Counter q e k) i l c = rw c.0 (i, c.1)
step_causes cfg call drifts w step (Topology e) i l c = absurd c
step_causes cfg call drifts w step NoReference i l c = absurd c
step_causes cfg call drifts w step (Unmeasurable k) i l c = absurd c

pub cause_as : (cfg : ConfigValue) (call : Call) (n m : Counters) (w v : Words) (r : Refusal) → m ≡ n → v ≡ w → IsCause cfg call n.drifts w r → IsCause cfg call m.drifts v r
cause_as cfg call n m w v r e f c = rw (e, f) c
