-- Where the script stands while a step is asked, by what the master notes.
use Rattle.std.specs.Prelude.{◌≡◌, ℕ, ◌+◌, ◌-◌, ◌<◌, ◌≤◌, ⊤, List, ◌∷◌, length, Option, Some, None, Result, Ok, Err}
use Rattle.ecat_frame.specs.FrameGrammar.{FrameValue}
use Rattle.ecat_link.specs.Exchanges.{Exchange}
use Rattle.ecat_link.specs.RoseBy.{RoseBy}
use Rattle.master_script.specs.Causes.{CameMiscounted, CameOther}
use Rattle.master_script.specs.Config.{ConfigValue}
use Rattle.master_script.specs.Judged.{judged}
use Rattle.master_script.specs.Progress.{Phase, Commissioning, Arming, Progress, progress, turned, answered, lost_one}
use Rattle.master_script.specs.Script.{Call, Commission, Arm as CallArm}
use Rattle.master_script.specs.Slaves.{clocks}
use Rattle.master_script.specs.Steps.{expected, frame_of, learned}
use Rattle.master_script.specs.Words.{Words, delays_of, reference_of}
use Rattle.master_script.specs.declared.step.Refusal.{Refusal}
use Rattle.master_script.specs.declared.step.Refusal.TheVariants.{Lost, Counter, Reply}
use Rattle.master_script.specs.declared.step.Step.{Step}
use Rattle.master_script.specs.declared.step.Step.TheVariants.{Identify, Times, Set, Settle, Drift, Arm}
use Rattle.master_steps.specs.declared.exchange.Counters.{Counters}

-- what is known by the time that a step is asked
abbrev pub CanAsk : ConfigValue → Words → List (Option ℕ) → Step → Type 0
CanAsk cfg w delays (Identify p) = p < 256
CanAsk cfg w delays (Times p) = p < 256
CanAsk cfg w delays (Set p) = (p < 256) × (delays ≡ delays_of cfg w)
CanAsk cfg w delays (Arm p) = (p < 256) × (reference_of w < 256) × (1 ≤ length (clocks w.slaves))
CanAsk cfg w delays Settle = reference_of w < 256
CanAsk cfg w delays (Drift k) = reference_of w < 256
CanAsk cfg w delays step = ⊤

-- there is room for what a step teaches
abbrev pub CanLearn : Words → Step → Type 0
CanLearn w (Identify p) = length w.slaves < 256
CanLearn w (Times p) = p < length w.latches
CanLearn w step = ⊤

-- one frame more was sent, this many of them drift frames, and came back or not
abbrev pub one_sent : ℕ → Option FrameValue → Counters → Counters
one_sent drifts back n = record { sent = n.sent + 1; lost = n.lost + lost_one back; drifts = n.drifts + drifts }

-- the call in which a step is asked, and its phase
abbrev pub call_of : Step → Call
call_of (Arm p) = CallArm
call_of step = Commission

abbrev pub phase_of : Step → Phase
phase_of (Arm p) = Arming
phase_of step = Commissioning

-- with these steps ahead, the first of which was not sent yet
abbrev pub stood : Phase → Counters → Words → List Step → Progress
stood s n w todo = record {
  phase = s;
  todo = todo;
  tries = 0;
  sent = n.sent;
  lost = n.lost;
  drifts = n.drifts;
  ran = 0;
  words = w;
  refused = None;
}

-- these steps are still to be asked in a phase; where there is none, the phase is over
abbrev pub Asks : ConfigValue → Phase → Counters → Words → List Step → List Exchange → Type 0
Asks cfg s n w todo es = progress cfg es ≡ turned (stood s n w todo) todo

-- the first of these steps was refused
pub record IsRefused (cfg : ConfigValue) (s : Phase) (n : Counters) (w : Words) (todo : List Step) (r : Refusal)
    (es : List Exchange) : Type 0 where
  pub tries : ℕ
  pub place : progress cfg es ≡ record (stood s n w todo) { tries = tries; refused = Some r }

-- the reply to a step came back and is to be judged
pub record IsBack (cfg : ConfigValue) (s : Phase) (n : Counters) (w : Words) (step : Step) (rest : List Step) (sent reply : FrameValue)
    (es : List Exchange) : Type 0 where
  pub tries : ℕ
  pub place : progress cfg es ≡ answered (record (stood s n w (step ∷ rest)) { tries = tries }) step rest reply
      (judged step (expected cfg w step reply) sent reply)

-- a step was sent up to three times
abbrev pub AfterTries : ConfigValue → Phase → Counters → Words → Step → List Step → FrameValue → Option FrameValue → List Exchange → Type 0
AfterTries cfg s n w step rest sent None es = IsRefused cfg s n w (step ∷ rest) (Lost step) es
AfterTries cfg s n w step rest sent (Some reply) es = IsBack cfg s n w step rest sent reply es

-- a step was asked
abbrev pub AfterStep : ConfigValue → Phase → Counters → Words → Step → List Step → Result (Unit {0}) Refusal → List Exchange → Type 0
AfterStep cfg s n w step rest (Ok _) es = Asks cfg s n w rest es
AfterStep cfg s n w step rest (Err r) es = IsRefused cfg s n w (step ∷ rest) r es

-- a reply was judged, and taught what it does where it is accepted
abbrev pub IsReceived : ConfigValue → ℕ → Step → FrameValue → FrameValue → Words → Words → Result (Unit {0}) Refusal → Type 0
IsReceived cfg number step sent reply w later (Ok _) =
    (judged step (expected cfg w step reply) sent reply ≡ None) × (later ≡ learned number step reply w)
IsReceived cfg number step sent reply w later (Err r) =
    (judged step (expected cfg w step reply) sent reply ≡ Some r) × (later ≡ w)

-- the cause of a refusal of a step that was asked
abbrev pub IsCauseAt : ConfigValue → Words → Step → Refusal → Type 0
IsCauseAt cfg w step (Lost q) = q ≡ step
IsCauseAt cfg w step (Reply q at) = (q ≡ step) × CameOther (frame_of cfg w step) at
IsCauseAt cfg w step (Counter q e k) = (q ≡ step) × CameMiscounted cfg w step e k
IsCauseAt cfg w step r = ⊥

-- the losses that were counted meanwhile are losses of the link: its count has risen by as many, or stands at its last value
abbrev pub IsCounted : Counters → Counters → ℕ → ℕ → Type 0
IsCounted n m before now = RoseBy (m.lost - n.lost) before now
