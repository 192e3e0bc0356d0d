-- What a stage says of the rest that is kept.
use Rattle.std.proofs.Common.{◌≡◌, ◌≢◌, ◌↔◌, ℕ, ◌<◌, ◌≤◌, Bool, true, false, cond, not, ◌&&◌, is_some, ltb, ◌==◌, List, [], ◌∷◌, length, map, slice_index_or, IsSome, Option, Some, None, refl, sym, ap, subst, ◌∙◌, arith}
use Rattle.std.specs.List.{list_any}
use Rattle.std.proofs.lemmas.Bool.Decides.{nat_tests}
use Rattle.std.proofs.lemmas.List.{get_or_past, length-map}
use Rattle.ecat_link.specs.Exchanges.{Exchange}
use Rattle.cable_tree.specs.Row.{Row}
use Rattle.cable_tree.specs.declared.port.Port.{Port}
use Rattle.dc_bounds.specs.Weight.{flag}
use Rattle.dc_delay.specs.Latched.{laps, measures}
use Rattle.dc_delay.specs.MeasuredDelay.{delay_list}
use Rattle.dc_delay.specs.ShapeRows.{positions, rows_of}
use Rattle.dc_delay.proofs.Exported.{listed, other_entry, timed_entry}
use Rattle.master_script.specs.Config.{ConfigValue, settle_frames}
use Rattle.master_script.specs.Kept.{kept_after, is_times, has_delays, stage_by, stage_in, run_stage}
use Rattle.master_script.specs.Progress.{Phase, Commissioning, Settling, Arming, Running, Progress, progress}
use Rattle.master_script.specs.Slaves.{is_clock}
use Rattle.master_script.specs.Stages.{HasDrifts}
use Rattle.master_script.specs.Words.{Words, delays_of, start_at, hung_of}
use Rattle.master_script.specs.declared.step.Refusal.{Refusal}
use Rattle.master_script.specs.declared.step.Stage.TheVariants.{Fresh, Armed, Ended, Spent}
use Rattle.master_script.specs.declared.step.Step.{Step}
use Rattle.master_script.specs.declared.step.Step.TheVariants.{Arm}
use Rattle.master_script.proofs.Known.{KnownBy}
use Rattle.master_script.proofs.Pins.{SoundBy}
use Rattle.master_script.proofs.Staying.{Holds, progress_holds, to_ltb}
use Rattle.master_script.proofs.Within.{AreOf, hung_length}

-- spent exactly where it was refused
run_unspent : (frames : Option ℕ) (ran : ℕ) → run_stage frames ran ≢ Spent
run_unspent None ran = by_test (ran == 0)
  where
    by_test : (b : Bool) → cond b Armed Ended ≢ Spent
    by_test true e = absurd cc
    by_test false e = absurd cc
run_unspent (Some k) ran = by_test (ltb ran k)
  where
    by_test : (b : Bool) → cond b Armed Ended ≢ Spent
    by_test true e = absurd cc
    by_test false e = absurd cc

unspent : (frames : Option ℕ) (ran : ℕ) (s : Phase) → stage_in frames ran s ≢ Spent
unspent frames ran Commissioning e = absurd cc
unspent frames ran Settling e = absurd cc
unspent frames ran Arming e = absurd cc
unspent frames ran Running e = run_unspent frames ran e

spent_by : (frames : Option ℕ) (p : Progress) (o : Option Refusal) → (stage_by frames p o ≡ Spent) ↔ IsSome o
spent_by frames p None = (λ e. absurd (unspent frames p.ran p.phase e), λ i. absurd cc)
spent_by frames p (Some r) = (λ e. refl, λ i. refl)

pub spent_told : (cfg : ConfigValue) (frames : Option ℕ) (es : List Exchange) → ((kept_after cfg frames es).stage ≡ Spent) ↔ IsSome (kept_after cfg frames es).refusal
unfolding kept_after
spent_told cfg frames es = spent_by frames (progress cfg es) (progress cfg es).refused

-- behind commissioning
arm_times : (todo : List Step) → AreOf Arming todo → list_any is_times todo ≡ false
arm_times [] h = refl
arm_times (Arm q ∷ rest) h = arm_times rest h.1
arm_times (step ∷ rest) h = absurd h.0

no_times : (cfg : ConfigValue) (p : Progress) (s : Phase) → s ≢ Commissioning → SoundBy cfg p None s → AreOf s p.todo → list_any is_times p.todo ≡ false
no_times cfg p Commissioning c h a = absurd (c refl)
no_times cfg p Settling c h a = ap (λ x. list_any is_times x) h.1
no_times cfg p Arming c h a = arm_times p.todo a
no_times cfg p Running c h a = ap (λ x. list_any is_times x) h.0

reference_by : (n : ℕ) (p : Progress) (o : Option ℕ) → p.phase ≢ Commissioning → KnownBy n p o → IsSome o
reference_by n p None c k = absurd (c k.phase_is)
reference_by n p (Some x) c k = refl

delays_length : (cfg : ConfigValue) (p : Progress) (o : Option ℕ) → IsSome o → KnownBy (length cfg.kinds) p o → length (delays_of cfg p.words) ≡ length cfg.kinds
unfolding delays_of
delays_length cfg p None i k = absurd cc
delays_length cfg p (Some x) i k =
    let w = p.words in
    let h = hung_length w.slaves x k.is in
    listed (rows_of (hung_of w) cfg.kinds) (measures w.latches) (flag (map is_clock w.slaves)) (laps w.latches) (length (hung_of w)) ∙ h ∙ k.kinds

pub record Behind (cfg : ConfigValue) (p : Progress) : Type 0 where
  pub reference : IsSome p.words.reference
  pub delays : length (cond (has_delays p) (delays_of cfg p.words) []) ≡ length cfg.kinds

behind_at : (cfg : ConfigValue) (p : Progress) → p.refused ≡ None → p.phase ≢ Commissioning → Holds cfg p → Behind cfg p
behind_at cfg p n c h =
    let r = reference_by (length cfg.kinds) p p.words.reference c h.known in
    let t = no_times cfg p p.phase c (subst (λ o. SoundBy cfg p o p.phase) n h.sound) h.within.steps in
    record { reference = r; delays = rw (r, t) (delays_length cfg p p.words.reference r h.known) }

fresh_phase : (frames : Option ℕ) (p : Progress) (o : Option Refusal) → stage_by frames p o ≢ Fresh → stage_by frames p o ≢ Spent → (o ≡ None) × (p.phase ≢ Commissioning)
fresh_phase frames p (Some r) a b = absurd (b refl)
fresh_phase frames p None a b = (refl, λ e. a (ap (λ s. stage_in frames p.ran s) e))

pub behind_commissioning : (cfg : ConfigValue) (frames : Option ℕ) (es : List Exchange) → 0 < length cfg.kinds → (kept_after cfg frames es).stage ≢ Fresh → (kept_after cfg frames es).stage ≢ Spent → Behind cfg (progress cfg es)
unfolding kept_after
behind_commissioning cfg frames es some a b =
    let p = progress cfg es in
    let f = fresh_phase frames p p.refused a b in
    behind_at cfg p f.0 f.1 (progress_holds cfg es some)

run_drifts : (cfg : ConfigValue) (drifts : ℕ) (frames : Option ℕ) (ran : ℕ) → settle_frames cfg < drifts → HasDrifts cfg drifts (run_stage frames ran)
run_drifts cfg drifts None ran h = by_test (ran == 0)
  where
    by_test : (b : Bool) → HasDrifts cfg drifts (cond b Armed Ended)
    by_test true = h
    by_test false = h
run_drifts cfg drifts (Some k) ran h = by_test (ltb ran k)
  where
    by_test : (b : Bool) → HasDrifts cfg drifts (cond b Armed Ended)
    by_test true = h
    by_test false = h

drifts_in : (cfg : ConfigValue) (frames : Option ℕ) (p : Progress) (o : Option Refusal) (s : Phase) → p.phase ≡ s → SoundBy cfg p o s → HasDrifts cfg p.drifts (stage_by frames p o)
drifts_in cfg frames p (Some r) s e h = tt
drifts_in cfg frames p None Commissioning e h = rw e h.1
drifts_in cfg frames p None Settling e h = rw e h.3
drifts_in cfg frames p None Arming e h = rw e h.1
drifts_in cfg frames p None Running e h = rw e (run_drifts cfg p.drifts frames p.ran h.2)

pub drifts_told : (cfg : ConfigValue) (frames : Option ℕ) (es : List Exchange) → 0 < length cfg.kinds → HasDrifts cfg (kept_after cfg frames es).drifts (kept_after cfg frames es).stage
unfolding kept_after
drifts_told cfg frames es some =
    let p = progress cfg es in
    drifts_in cfg frames p p.refused p.phase refl (progress_holds cfg es some).sound

-- the start
start_by : (cfg : ConfigValue) (w : Words) (b : Bool) (drifts : ℕ) → ltb (settle_frames cfg) drifts ≡ b → IsSome (cond b (Some (start_at cfg w)) None) ↔ (settle_frames cfg < drifts)
start_by cfg w true drifts l = (λ i. from_ltb (settle_frames cfg) drifts l, λ h. refl)
  where
    from_ltb : (m k : ℕ) → ltb m k ≡ true → m < k
    from_ltb m k h = grind (arith, nat_tests)
start_by cfg w false drifts l = (λ i. absurd cc, λ h. absurd (let z : false ≡ true = sym l ∙ to_ltb (settle_frames cfg) drifts h in cc))

pub start_told : (cfg : ConfigValue) (frames : Option ℕ) (es : List Exchange) → IsSome (kept_after cfg frames es).start ↔ (settle_frames cfg < (kept_after cfg frames es).drifts)
unfolding kept_after
start_told cfg frames es = let p = progress cfg es in start_by cfg p.words (ltb (settle_frames cfg) p.drifts) p.drifts refl

pub kept_reference : (cfg : ConfigValue) (frames : Option ℕ) (es : List Exchange) → 0 < length cfg.kinds → (kept_after cfg frames es).stage ≢ Fresh → (kept_after cfg frames es).stage ≢ Spent → IsSome (kept_after cfg frames es).words.reference
unfolding kept_after
kept_reference cfg frames es some a b = (behind_commissioning cfg frames es some a b).reference

pub kept_delays : (cfg : ConfigValue) (frames : Option ℕ) (es : List Exchange) → 0 < length cfg.kinds → (kept_after cfg frames es).stage ≢ Fresh → (kept_after cfg frames es).stage ≢ Spent → length (kept_after cfg frames es).delays ≡ length cfg.kinds
unfolding kept_after
kept_delays cfg frames es some a b = (behind_commissioning cfg frames es some a b).delays

-- which entries of the delays there are
below : (m k : ℕ) → ltb m k ≡ true → m < k
below m k h = grind (arith, nat_tests)

beyond : (m k : ℕ) → ltb m k ≡ false → k ≤ m
beyond m k h = grind (arith, nat_tests)

not_some : (o : Option ℕ) → o ≡ None → IsSome o → ⊥
not_some None e i = cc
not_some (Some x) e i = cc

marked : (rows : List Row) (measures timed : ℕ → Bool) (laps : ℕ → Port → ℕ) (n i : ℕ) (b : Bool) → i < n → timed i ≡ b
    → IsSome (slice_index_or (delay_list rows measures timed laps (positions n)) i None) ↔ (timed i ≡ true)
marked rows measures timed laps n i true low e = (λ h. e, λ h. rw (timed_entry rows measures timed laps n i low e) refl)
marked rows measures timed laps n i false low e =
    (λ h. absurd (not_some _ (other_entry rows measures timed laps n i low e) h), λ h. absurd (let z : false ≡ true = sym e ∙ h in cc))

entries : (cfg : ConfigValue) (w : Words) (i : ℕ) (b : Bool) → length (hung_of w) ≡ length w.slaves → ltb i (length w.slaves) ≡ b
    → IsSome (slice_index_or (delays_of cfg w) i None) ↔ (flag (map is_clock w.slaves) i ≡ true)
unfolding delays_of
entries cfg w i true l t =
    let timed = flag (map is_clock w.slaves) in
    let low = below i (length w.slaves) t in
    marked (rows_of (hung_of w) cfg.kinds) (measures w.latches) timed (laps w.latches) (length (hung_of w)) i (timed i) (omega (arith, low, l)) refl
entries cfg w i false l t =
    let ds = delays_of cfg w in
    let many = listed (rows_of (hung_of w) cfg.kinds) (measures w.latches) (flag (map is_clock w.slaves)) (laps w.latches) (length (hung_of w)) in
    let past = beyond i (length w.slaves) t in
    let same = length-map w.slaves is_clock in
    let none : slice_index_or ds i None ≡ None = get_or_past ds i None (omega (arith, many, l, past)) in
    let unmarked : flag (map is_clock w.slaves) i ≡ false = get_or_past (map is_clock w.slaves) i false (omega (arith, same, past)) in
    (λ h. absurd (not_some (slice_index_or ds i None) none h), λ h. absurd (let z : false ≡ true = sym unmarked ∙ h in cc))

entries_by : (cfg : ConfigValue) (p : Progress) (o : Option ℕ) (b : Bool) (i : ℕ) → KnownBy (length cfg.kinds) p o → cond (is_some o && b) (delays_of cfg p.words) [] ≢ []
    → IsSome (slice_index_or (cond (is_some o && b) (delays_of cfg p.words) []) i None) ↔ (flag (map is_clock p.words.slaves) i ≡ true)
entries_by cfg p None b i k d = absurd (d refl)
entries_by cfg p (Some r) false i k d = absurd (d refl)
entries_by cfg p (Some r) true i k d = entries cfg p.words i (ltb i (length p.words.slaves)) (hung_length p.words.slaves r k.is) refl

pub entries_told : (cfg : ConfigValue) (frames : Option ℕ) (es : List Exchange) (i : ℕ) → 0 < length cfg.kinds → (kept_after cfg frames es).delays ≢ []
    → IsSome (slice_index_or (kept_after cfg frames es).delays i None) ↔ (flag (map is_clock (kept_after cfg frames es).words.slaves) i ≡ true)
unfolding kept_after
entries_told cfg frames es i some d =
    let p = progress cfg es in
    entries_by cfg p p.words.reference (not (list_any is_times p.todo)) i (progress_holds cfg es some).known d
