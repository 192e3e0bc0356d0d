-- The calls of a master serve the script, by what their parts have served.
use Rattle.std.proofs.Common.{◌≡◌, ℕ, List, [], Option, Some, None, Ok, Err}
use Rattle.ecat_link.specs.Exchanges.{Exchange, StepOf}
use Rattle.ecat_link.specs.Serves.{Serves}
use Rattle.ecat_link.proofs.Exported.{serves_weaker}
use Rattle.dc_master.specs.Inside.{kept}
use Rattle.dc_master.specs.Places.{AtRest, HasRefused, IsFresh, IsReady}
use Rattle.master_steps.specs.Asking.{Asks, stood}
use Rattle.master_steps.specs.declared.exchange.Counters.{Counters}
use Rattle.dc_master.proofs.Calls.{armed_ends, begins_armed, begins_commissioned, begins_fresh, begins_settled, commissioned_ends, ends_as, ran_ends, refused_ends, settled_ends, stands_as}
use Rattle.master_script.specs.Config.{ConfigValue, settle_frames}
use Rattle.master_script.specs.Kept.{Ends, StandsFor}
use Rattle.master_script.specs.Progress.{Commissioning, Settling, Arming, Running, arm_steps, first_steps, progress}
use Rattle.master_script.specs.Script.{Call, Commission, Settle, Arm, Run, script}
use Rattle.master_script.specs.Words.{Words}
use Rattle.master_script.specs.declared.step.MasterError.TheVariants.{Refused}
use Rattle.master_script.specs.declared.step.Refusal.{Refusal}
use Rattle.master_script.specs.declared.step.Stage.{Stage}
use Rattle.master_script.specs.declared.step.Stage.TheVariants as stage

-- from where a call begins, with no refusal before
module _ (cfg : ConfigValue) (before : Stage) (o : Option Refusal) (n : Counters) (w : Words) (ds : List (Option ℕ)) (none : o ≡ None) where
  abbrev Stood : List Exchange → Type 0
  Stood xs = StandsFor None (kept cfg before o n w ds) xs

  pub commission_begins : (before ≡ stage.Fresh) × IsFresh cfg n w ds → (xs : List Exchange) → Stood xs → Asks cfg Commissioning n w (first_steps cfg) xs
  commission_begins h xs p = begins_fresh cfg n w ds xs h.1 (stands_as cfg before stage.Fresh o n w ds xs h.0 none p)

  pub settle_begins : before ≡ stage.Commissioned → (xs : List Exchange) → Stood xs → AtRest cfg Settling n w [] xs
  settle_begins h xs p = begins_commissioned cfg n w ds xs (stands_as cfg before stage.Commissioned o n w ds xs h none p)

  pub arm_begins : (before ≡ stage.Settled) × (n.drifts ≡ settle_frames cfg) × IsReady cfg w ds → (xs : List Exchange) → Stood xs → Asks cfg Arming n w (arm_steps w.slaves) xs
  arm_begins h xs p = begins_settled cfg n w ds xs h.2 h.1 (stands_as cfg before stage.Settled o n w ds xs h.0 none p)

  pub run_begins : (before ≡ stage.Armed) × IsReady cfg w ds → (xs : List Exchange) → Stood xs → AtRest cfg Running n w [] xs
  run_begins h xs p = begins_armed cfg n w ds xs (stands_as cfg before stage.Armed o n w ds xs h.0 none p)

-- running sends as many frames as it is given
abbrev pub HasRun : ConfigValue → Counters → Words → ℕ → List Exchange → Type 0
HasRun cfg k v frames xs = progress cfg xs ≡ record (stood Running k v []) { ran = frames }

pub run_ends : (cfg : ConfigValue) (o : Option Refusal) (k : Counters) (v : Words) (es : List (Option ℕ)) → o ≡ None → (frames : ℕ) → IsReady cfg v es
    → (xs : List Exchange) → HasRun cfg k v frames xs → Ends cfg (Run frames) (kept cfg stage.Ended o k v es) (Ok tt) xs
run_ends cfg o k v es none frames ready xs b = ends_as cfg (Run frames) stage.Ended o k v es (Ok tt) xs none (ran_ends cfg k v es frames xs ready b)

-- to where it ends
module _ {S : Type 0} (step : StepOf S) (cfg : ConfigValue) (before : Stage) (o : Option Refusal) (n k : Counters) (w v : Words) (ds es : List (Option ℕ)) (s t : Option S) (none : o ≡ None) where
  -- refused, from where a call begins
  pub call_refused : (call : Call) (r : Refusal) (P : List Exchange → Type 0) → ((xs : List Exchange) → StandsFor None (kept cfg before o n w ds) xs → P xs)
      → Serves step (script cfg call) P s t (HasRefused cfg k v es r)
      → Serves step (script cfg call) (StandsFor None (kept cfg before o n w ds)) s t (Ends cfg call (kept cfg stage.Spent (Some r) k v es) (Err (Refused r)))
  call_refused call r P begins h =
      serves_weaker step (script cfg call) P (StandsFor None (kept cfg before o n w ds)) (HasRefused cfg k v es r) (Ends cfg call (kept cfg stage.Spent (Some r) k v es) (Err (Refused r))) s t begins
      (λ xs b. refused_ends cfg call k v es r xs b) h

  pub commission_done : (before ≡ stage.Fresh) × IsFresh cfg n w ds → IsReady cfg v es
      → Serves step (script cfg Commission) (Asks cfg Commissioning n w (first_steps cfg)) s t (Asks cfg Commissioning k v [])
      → Serves step (script cfg Commission) (StandsFor None (kept cfg before o n w ds)) s t (Ends cfg Commission (kept cfg stage.Commissioned o k v es) (Ok tt))
  commission_done h ready p =
      serves_weaker step (script cfg Commission) (Asks cfg Commissioning n w (first_steps cfg)) (StandsFor None (kept cfg before o n w ds)) (Asks cfg Commissioning k v []) (Ends cfg Commission (kept cfg stage.Commissioned o k v es) (Ok tt)) s t
      (commission_begins cfg before o n w ds none h)
      (λ xs b. ends_as cfg Commission stage.Commissioned o k v es (Ok tt) xs none (commissioned_ends cfg k v es xs ready b)) p

  pub settle_done : before ≡ stage.Commissioned → IsReady cfg v es
      → Serves step (script cfg Settle) (AtRest cfg Settling n w []) s t (AtRest cfg Arming k v (arm_steps v.slaves))
      → Serves step (script cfg Settle) (StandsFor None (kept cfg before o n w ds)) s t (Ends cfg Settle (kept cfg stage.Settled o k v es) (Ok tt))
  settle_done h ready p =
      serves_weaker step (script cfg Settle) (AtRest cfg Settling n w []) (StandsFor None (kept cfg before o n w ds)) (AtRest cfg Arming k v (arm_steps v.slaves)) (Ends cfg Settle (kept cfg stage.Settled o k v es) (Ok tt)) s t
      (settle_begins cfg before o n w ds none h)
      (λ xs b. ends_as cfg Settle stage.Settled o k v es (Ok tt) xs none (settled_ends cfg k v es xs ready b)) p

  pub arm_done : (before ≡ stage.Settled) × (n.drifts ≡ settle_frames cfg) × IsReady cfg w ds → IsReady cfg v es
      → Serves step (script cfg Arm) (Asks cfg Arming n w (arm_steps w.slaves)) s t (Asks cfg Arming k v [])
      → Serves step (script cfg Arm) (StandsFor None (kept cfg before o n w ds)) s t (Ends cfg Arm (kept cfg stage.Armed o k v es) (Ok tt))
  arm_done h ready p =
      serves_weaker step (script cfg Arm) (Asks cfg Arming n w (arm_steps w.slaves)) (StandsFor None (kept cfg before o n w ds)) (Asks cfg Arming k v []) (Ends cfg Arm (kept cfg stage.Armed o k v es) (Ok tt)) s t
      (arm_begins cfg before o n w ds none h)
      (λ xs b. ends_as cfg Arm stage.Armed o k v es (Ok tt) xs none (armed_ends cfg k v es xs ready b)) p

  pub run_stood : (before ≡ stage.Armed) × IsReady cfg w ds → (frames : ℕ) → Serves step (script cfg (Run frames)) (AtRest cfg Running n w []) s t (HasRun cfg k v frames)
      → Serves step (script cfg (Run frames)) (StandsFor None (kept cfg before o n w ds)) s t (HasRun cfg k v frames)
  run_stood h frames p =
      serves_weaker step (script cfg (Run frames)) (AtRest cfg Running n w []) (StandsFor None (kept cfg before o n w ds)) (HasRun cfg k v frames) (HasRun cfg k v frames) s t
      (run_begins cfg before o n w ds none h) (λ xs b. b) p

  pub run_done : (before ≡ stage.Armed) × IsReady cfg w ds → (frames : ℕ) → IsReady cfg v es → Serves step (script cfg (Run frames)) (AtRest cfg Running n w []) s t (HasRun cfg k v frames)
      → Serves step (script cfg (Run frames)) (StandsFor None (kept cfg before o n w ds)) s t (Ends cfg (Run frames) (kept cfg stage.Ended o k v es) (Ok tt))
  run_done h frames ready p =
      serves_weaker step (script cfg (Run frames)) (AtRest cfg Running n w []) (StandsFor None (kept cfg before o n w ds)) (HasRun cfg k v frames) (Ends cfg (Run frames) (kept cfg stage.Ended o k v es) (Ok tt)) s t
      (run_begins cfg before o n w ds none h) (run_ends cfg o k v es none frames ready) p
