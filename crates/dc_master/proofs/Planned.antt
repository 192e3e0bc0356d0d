-- The slaves are judged after the last Identify.
use Rattle.std.proofs.Common.{◌≡◌, ◌∙◌, ◌<◌, ◌≤◌, ℕ, List, [], length, Option, Some, None, Result, Ok, Err, OnOk, sym, arith}
use Rattle.ecat_link.specs.Exchanges.{Exchange}
use Rattle.master_steps.specs.Asking.{Asks}
use Rattle.master_steps.specs.declared.exchange.Counters.{Counters}
use Rattle.dc_master.specs.Places.{IsReady}
use Rattle.master_script.specs.Config.{ConfigValue, slaves}
use Rattle.master_script.specs.Progress.{Commissioning, later_steps}
use Rattle.master_script.specs.Slaves.{SlaveWords, clocks, judgement}
use Rattle.master_script.specs.Words.{Words, delays_by}
use Rattle.master_script.proofs.Exported.{delays_by_kinds}

pub planned_ok : (cfg : ConfigValue) (n : Counters) (w : Words) (r : ℕ) (es : List Exchange) → w.reference ≡ None → Ok r ≡ judgement w.slaves
    → Asks cfg Commissioning n w [] es → Asks cfg Commissioning n (record w { reference = Some r }) (later_steps w.slaves) es
planned_ok cfg n w r es none j b = rw (none, ← j) at b

-- with the delays slaves are ready that were judged and read
pub ready : (cfg : ConfigValue) (w : Words) (ss : List SlaveWords) (r : ℕ) (ds : List (Option ℕ)) → slaves cfg ≤ 256 → length ss ≡ slaves cfg → w.slaves ≡ ss → w.reference ≡ Some r
    → r < length ss → 1 ≤ length (clocks ss) → ds ≡ delays_by cfg.kinds w → IsReady cfg w ds
ready cfg w ss r ds few whole e reference within some delays = record {
  reference = (r, reference, omega (arith, few, whole, within));
  slaves = rw e (omega (arith, few, whole));
  clocks = rw e some;
  delays = delays ∙ sym (delays_by_kinds cfg w);
}

-- they stay so
pub ready_still : {E : Type 0} (cfg : ConfigValue) (w v : Words) (ds es : List (Option ℕ)) (result : Result (Unit {0}) E) → v ≡ w → es ≡ ds → IsReady cfg w ds → OnOk result (IsReady cfg v es)
ready_still cfg w v ds es (Ok u) e d h = rw (e, d) h
ready_still cfg w v ds es (Err x) e d h = tt
