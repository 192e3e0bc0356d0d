-- Where the script stands while a call runs, by what the master notes.
use Rattle.std.specs.Prelude.{◌≡◌, ℕ, ◌+◌, ◌-◌, ◌*◌, ◌%◌, ◌<◌, ◌≤◌, ◌^◌, if◌then◌else◌, List, [], ◌∷◌, length, Option, Some, None, Result, Ok, Err}
use Rattle.ecat_frame.specs.FrameGrammar.{FrameValue}
use Rattle.ecat_link.specs.Exchanges.{Exchange}
use Rattle.master_script.specs.Config.{ConfigValue}
use Rattle.master_script.specs.Judged.{judged}
use Rattle.master_script.specs.Kept.{has_delays}
use Rattle.master_script.specs.Progress.{Phase, Arming, Running, arm_steps, progress, beginning}
use Rattle.master_script.specs.Slaves.{clocks}
use Rattle.master_script.specs.Steps.{low_in}
use Rattle.master_script.specs.Words.{Words, delays_of}
use Rattle.master_script.specs.declared.step.Refusal.{Refusal}
use Rattle.master_script.specs.declared.step.Step.{Step}
use Rattle.master_script.specs.declared.step.Step.TheVariants.{Drift}
use Rattle.master_steps.specs.Asking.{Asks, stood}
use Rattle.master_steps.specs.declared.exchange.Counters.{Counters}
use Rattle.wrap_time.specs.Extended.{extended}

-- a part of a call was refused, and this is kept
pub record HasRefused (cfg : ConfigValue) (n : Counters) (w : Words) (ds : List (Option ℕ)) (r : Refusal)
    (es : List Exchange) : Type 0 where
  pub refused : (progress cfg es).refused ≡ Some r
  pub sent : (progress cfg es).sent ≡ n.sent
  pub lost : (progress cfg es).lost ≡ n.lost
  pub drifts : (progress cfg es).drifts ≡ n.drifts
  pub words : (progress cfg es).words ≡ w
  pub delays : (if has_delays (progress cfg es) then delays_of cfg w else []) ≡ ds

-- a part of a call has ended, with these steps still to be asked
abbrev pub AfterPart : ConfigValue → Phase → Counters → Words → List Step → List (Option ℕ) → Result (Unit {0}) Refusal → List Exchange
    → Type 0
AfterPart cfg s n w todo delays (Ok _) es = Asks cfg s n w todo es
AfterPart cfg s n w todo delays (Err r) es = HasRefused cfg n w delays r es

-- there is room to send so many frames
pub record HasRoom (n : Counters) (most : ℕ) : Type 0 where
  pub sent : n.sent + most < 2 ^ 32
  pub lost : n.lost ≤ n.sent
  pub drifts : n.drifts ≤ n.sent

-- so many frames at most were sent
pub record HasSent (n m : Counters) (most : ℕ) : Type 0 where
  pub more : n.sent ≤ m.sent
  pub few : m.sent ≤ n.sent + most
  pub lost : m.lost ≤ m.sent
  pub drifts : m.drifts ≤ m.sent

-- nothing was sent
pub record IsFresh (cfg : ConfigValue) (n : Counters) (w : Words) (ds : List (Option ℕ)) : Type 0 where
  pub sent : n.sent ≡ 0
  pub lost : n.lost ≡ 0
  pub drifts : n.drifts ≡ 0
  pub words : w ≡ (beginning cfg).words
  pub delays : ds ≡ []

-- what is known of commissioned slaves
pub record IsReady (cfg : ConfigValue) (w : Words) (ds : List (Option ℕ)) : Type 0 where
  pub reference : (r : ℕ) × (w.reference ≡ Some r) × (r < 256)
  pub slaves : length w.slaves ≤ 256
  pub clocks : 1 ≤ length (clocks w.slaves)
  pub delays : ds ≡ delays_of cfg w

-- in a phase, with these steps ahead
abbrev pub AtRest : ConfigValue → Phase → Counters → Words → List Step → List Exchange → Type 0
AtRest cfg s n w todo es = progress cfg es ≡ stood s n w todo

-- a settle frame came back, and was judged; it brought the time of the reference where it is accepted
abbrev pub IsTimed : ConfigValue → Counters → ℕ → FrameValue → FrameValue → Words → Words → Result (Unit {0}) Refusal → Type 0
IsTimed cfg n clocks sent reply w later (Ok _) =
    (judged (Drift n.drifts) (clocks ∷ []) sent reply ≡ None)
    × (later ≡ record w { time = Some (extended (low_in reply) ((cfg.epoch_ns + cfg.frame_ns * (n.sent - w.latched)) % 2 ^ 64)) })
IsTimed cfg n clocks sent reply w later (Err r) =
    (judged (Drift n.drifts) (clocks ∷ []) sent reply ≡ Some r) × (later ≡ w)

-- settling has ended
abbrev pub AfterSettle : ConfigValue → Counters → Words → List (Option ℕ) → Result (Unit {0}) Refusal → List Exchange → Type 0
AfterSettle cfg n w ds (Ok _) es = AtRest cfg Arming n w (arm_steps w.slaves) es
AfterSettle cfg n w ds (Err r) es = HasRefused cfg n w ds r es

-- running has ended
abbrev pub AfterRun : ConfigValue → Counters → Words → ℕ → List (Option ℕ) → Result (Unit {0}) Refusal → List Exchange → Type 0
AfterRun cfg n w frames ds (Ok _) es = progress cfg es ≡ record (stood Running n w []) { ran = frames }
AfterRun cfg n w frames ds (Err r) es = HasRefused cfg n w ds r es
