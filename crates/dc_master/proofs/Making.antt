-- That a master stands for some exchanges, and makes more.
use Rattle.std.proofs.Common.{◌≡◌, ℕ, List, [], ◌++◌, Option, None, refl, sym, subst}
use Rattle.ecat_link.specs.Exchanges.{Exchange, StepOf}
use Rattle.ecat_link.specs.Serves.{Serves}
use Rattle.dc_master.specs.Made.{HasMade, IsGiven, Makes, Stands}
use Rattle.master_script.specs.Config.{ConfigValue}
use Rattle.master_script.specs.Kept.{Ends, Kept, StandsFor, given}
use Rattle.master_script.specs.Progress.{progress}
use Rattle.master_script.specs.Script.{Answer, Call, script}
use Rattle.master_script.specs.Scripted.{AreScripted, IsLimited, none}
use Rattle.master_script.specs.declared.step.Stage.{Stage}
use Rattle.master_script.specs.declared.step.Stage.TheVariants as stage
use Rattle.master_script.proofs.Exported.{calls_scripted}

-- one that has made nothing
pub stands_fresh : (m : Kept) → m.stage ≡ stage.Fresh → StandsFor None m [] → Stands m
stands_fresh m s h = record {
  exchanges = [];
  made = record { frames = None; given = subst (λ x. IsGiven x (progress m.config []).ran None) (sym s) refl; scripted = none; stands = h };
}

-- in these stages `run` was given no number
abbrev pub IsBefore : Stage → Type 0
IsBefore s = (ran : ℕ) (frames : Option ℕ) → IsGiven s ran frames → frames ≡ None

pub before_run : (s t : Stage) → s ≡ t → IsBefore t → IsBefore s
before_run s t e h = subst (λ x. IsBefore x) (sym e) h

ungiven : (m : Kept) (es : List Exchange) → HasMade m es → IsBefore m.stage → StandsFor None m es
ungiven m es h unrun = subst (λ o. StandsFor o m es) (unrun (progress m.config es).ran h.frames h.given) h.stands

module _ {S : Type 0} (step : StepOf S) (call : Call) (m later : Kept) (s t : Option S) (answer : Answer)
    (h : Stands m) (unrun : IsBefore m.stage) where
  pub makes : Serves step (script m.config call) (StandsFor None m) s t (Ends m.config call later answer) → Makes step call m later s t answer
  makes serves =
      let stood = ungiven m h.exchanges h.made unrun in
      record {
        before = h.exchanges;
        made = h.made;
        exchanges = serves.exchanges;
        runs = serves.runs;
        sends = serves.script h.exchanges stood;
        ends = serves.stands h.exchanges stood;
      }

  -- behind the exchanges that it made
  pub stands_then : (Q : List Exchange → Type 0) → Serves step (script m.config call) (StandsFor None m) s t Q
      → ((xs : List Exchange) → Q xs → Ends m.config call later answer xs) → ((xs : List Exchange) → Q xs → IsGiven later.stage (progress m.config xs).ran (given call))
      → later.config ≡ m.config → IsLimited 100000 call → Stands later
  stands_then Q serves ends gives e few =
      let stood = ungiven m h.exchanges h.made unrun in
      let xs = h.exchanges ++ serves.exchanges in
      let q = serves.stands h.exchanges stood in
      record {
        exchanges = xs;
        made = record {
          frames = given call;
          given = subst (λ (c : ConfigValue). IsGiven later.stage (progress c xs).ran (given call)) (sym e) (gives xs q);
          scripted = subst (λ (c : ConfigValue). AreScripted c 100000 xs) (sym e)
              (calls_scripted m.config 100000 call h.exchanges serves.exchanges few h.made.scripted (serves.script h.exchanges stood));
          stands = (ends xs q).stands;
        };
      }
