-- What comes back of each step's frame.
use Rattle.std.proofs.Common.{◌≡◌, ℕ, zero, suc, ◌<◌, Bool, true, false, List, [], ◌∷◌, length, Option, Some, None, nat_lt, refl, sym, ap, subst, ◌∙◌, arith, inl, inr}
use Rattle.std.specs.Prelude.{slice_get, not, ◌==◌}
use Rattle.std.proofs.lemmas.Bool.Decides.{nat_tests}
use Rattle.byteorder.specs.Endian.{little_bytes}
use Rattle.ecat_frame.specs.Difference.{first_difference}
use Rattle.ecat_frame.specs.FrameGrammar.{DatagramValue, FrameValue}
use Rattle.esc_regs.specs.RegisterAccess.{is_refused}
use Rattle.esc_regs.specs.declared.clock_kind.ClockKind.{ClockKind}
use Rattle.frame_pass.specs.SlaveState.{Slave}
use Rattle.frame_pass.specs.DatagramAtSlave.{slave_after}
use Rattle.frame_pass.specs.FramePass.{at_arrival, datagrams_after, datagrams_passed, datagrams_behind}
use Rattle.esc_regs.specs.Kinds.{measures, has_clock}
use Rattle.frame_pass.specs.Stations.{slave_found}
use Rattle.frame_pass.proofs.Exported.{IsByStation}
use Rattle.master_script.specs.Config.{ConfigValue}
use Rattle.master_script.specs.Frames.{blank, width, count_datagrams, rate_datagrams, latch_datagrams, times_datagrams, set_datagrams, drift_datagrams, arm_datagrams}
use Rattle.master_script.specs.Judged.{judged, judged_by, miscounted, counters}
use Rattle.master_script.specs.Slaves.{measuring, clocks}
use Rattle.master_script.specs.Steps.{datagrams_of, expected}
use Rattle.master_script.specs.Words.{Words}
use Rattle.master_script.specs.declared.step.Step.{Step}
use Rattle.master_script.specs.declared.step.Step.TheVariants.{Count, Identify, Rate, Latch, Times, Set, Settle, Drift, Arm}
use Rattle.honest_slaves.specs.Standing.{own_address, Stands}
use Rattle.honest_slaves.specs.Mindful.{AreMindful}
use Rattle.honest_slaves.specs.Addressed.{ByStation}
use Rattle.honest_slaves.specs.Broadcasts.{asks_all}
use Rattle.honest_slaves.proofs.Frames.{Had, had_before, found_standing}
use Rattle.honest_slaves.proofs.Answering.{read_there, written_there}
use Rattle.honest_slaves.specs.Told.{AreInOrder, Knows, IsMeant, counts_of}
use Rattle.honest_slaves.proofs.ByKind.{IsFor, all, count_for_all, time_for_clocks, speed_for_clocks, latch_for_measuring, ports_for_measuring, unit_for_measuring, offset_for_clocks, delay_for_clocks, activation_for_clocks, cycle_for_clocks, start_for_clocks}
use Rattle.honest_slaves.proofs.Numbers.{number, clocks_many, measuring_many, all_many, broadcast}
use Rattle.honest_slaves.proofs.Mindful.{mindful_step}

-- so many datagrams come back as were sent
after_many : (s : Slave) (ds : List DatagramValue) → length (datagrams_after s ds) ≡ length ds
unfolding datagrams_after
after_many s [] = refl
after_many s (d ∷ ds) = let rest = after_many (slave_after s d) ds in omega (arith, rest)

behind_many : (h sent : ℕ) (ss : List Slave) (ds : List DatagramValue) → length (datagrams_behind h sent ss ds) ≡ length ds
unfolding datagrams_behind datagrams_passed
behind_many zero sent ss ds = refl
behind_many (suc h) sent [] ds = refl
behind_many (suc h) sent (s ∷ ss) ds = behind_many h sent ss (datagrams_after (at_arrival sent s) ds) ∙ after_many (at_arrival sent s) ds

same_lists : (x y : ℕ) (xs ys : List ℕ) → x ≡ y → xs ≡ ys → x ∷ xs ≡ y ∷ ys
same_lists x y xs ys p q = cc

counted : (es : List DatagramValue) (xs : List ℕ) → length es ≡ length xs → ((k x : ℕ) (e : DatagramValue) → slice_get xs k ≡ Some x → slice_get es k ≡ Some e → e.wkc ≡ x) → counts_of es ≡ xs
counted [] [] many each = refl
counted [] (x ∷ xs) many each = absurd (omega (arith, many))
counted (e ∷ es) [] many each = absurd (omega (arith, many))
counted (e ∷ es) (x ∷ xs) many each = same_lists e.wkc x (counts_of es) xs (each 0 x e refl refl) (counted es xs (omega (arith, many)) (λ k y f is at. each (suc k) y f is at))

abbrev pub IsCounted : ℕ → List Slave → List DatagramValue → List ℕ → Type 0
IsCounted sent ss ds xs = (k x : ℕ) (e : DatagramValue) → slice_get xs k ≡ Some x → slice_get (datagrams_behind (length ss) sent ss ds) k ≡ Some e → e.wkc ≡ x

pub come_back : (sent : ℕ) (ss : List Slave) (ds : List DatagramValue) (xs : List ℕ) → length ds ≡ length xs → IsCounted sent ss ds xs → counts_of (datagrams_behind (length ss) sent ss ds) ≡ xs
come_back sent ss ds xs many each = counted (datagrams_behind (length ss) sent ss ds) xs (behind_many (length ss) sent ss ds ∙ many) each

pub the_number : (x y n : ℕ) → n ≡ x → Some x ≡ Some y → n ≡ y
the_number x y n e f = cc

is_below : (p n : ℕ) → p < n → nat_lt p n ≡ true
is_below p n low = grind (arith, nat_tests, low)

-- a datagram for one slave of a kind with P counts 1
whole : (P : ClockKind → Bool) (k : ClockKind) (addr n : ℕ) → IsFor P addr n → P k ≡ true → is_refused k addr n ≡ false
whole P k addr n for has = for k ∙ ap not has

one : (P : ClockKind → Bool) (kinds : ℕ → ClockKind) (statuses : ℕ → ℕ) (named k p sent : ℕ) (ss : List Slave) (ds : List DatagramValue) (d e : DatagramValue) (s : Slave)
    → ByStation kinds statuses named k p sent ss ds d s → IsByStation d → P (kinds p) ≡ true → IsFor P d.head.ado (length d.payload) → slice_get (datagrams_behind (length ss) sent ss ds) k ≡ Some e → e.wkc ≡ 1
one P kinds statuses named k p sent ss ds d e s b (inl c) has for at = (read_there kinds statuses named k p sent ss ds d e s b c (whole P (kinds p) d.head.ado (length d.payload) for has) at).0
one P kinds statuses named k p sent ss ds d e s b (inr c) has for at = written_there kinds statuses named k p sent ss ds d e s b c (whole P (kinds p) d.head.ado (length d.payload) for has) at

unit_for : (wide : Bool) → IsFor measures 0x0918 (length (blank (width wide)))
unit_for true = unit_for_measuring true
unit_for false = unit_for_measuring false

offset_for : (wide : Bool) (x : ℕ) → IsFor has_clock 0x0920 (length (little_bytes (width wide) x))
offset_for true x = offset_for_clocks true
offset_for false x = offset_for_clocks false

start_for : (wide : Bool) (x : ℕ) → IsFor has_clock 0x0990 (length (little_bytes (width wide) x))
start_for true x = start_for_clocks true
start_for false x = start_for_clocks false

-- n slaves that are all named, and a master that was told of them
module _ (kinds : ℕ → ClockKind) (statuses : ℕ → ℕ) (n r sent : ℕ) (ss : List Slave) (are : AreInOrder kinds statuses n n ss) (cfg : ConfigValue) (w : Words) (knows : Knows kinds statuses n r w) where
  there : (p : ℕ) → p < n → Had (slice_get ss p)
  there p low = had_before ss p (let many = are.many in omega (arith, low, many))

  by_place : (k p : ℕ) (low : p < n) (ds : List DatagramValue) (d : DatagramValue) → AreMindful 0 ds → slice_get ds k ≡ Some d → d.head.adp ≡ own_address p → d.wkc ≡ 0
      → ByStation kinds statuses n k p sent ss ds d (there p low).slave
  by_place k p low ds d m is adp fresh =
      let many = are.many in
      let few = are.few in
      let h = there p low in
      record {
        few = omega (arith, many, few);
        standing = are.standing;
        mindful = m;
        there = h.is;
        found = subst (λ b. Stands (kinds p) (statuses p) b p (slave_found k p sent ss ds h.slave)) (is_below p n low)
            (found_standing kinds statuses n k p sent ss ds h.slave (omega (arith, many, few)) are.standing m (omega (arith, low, many)) h.is);
        is = is;
        adp = adp;
        counter = fresh;
      }

  one_at : (P : ClockKind → Bool) (k p : ℕ) (low : p < n) (ds : List DatagramValue) (d e : DatagramValue) → P (kinds p) ≡ true → AreMindful 0 ds → IsByStation d → slice_get ds k ≡ Some d → d.head.adp ≡ own_address p
      → d.wkc ≡ 0 → IsFor P d.head.ado (length d.payload) → slice_get (datagrams_behind (length ss) sent ss ds) k ≡ Some e → e.wkc ≡ 1
  one_at P k p low ds d e has m c is adp fresh for at =
      one P kinds statuses n k p sent ss ds d e (there p low).slave (by_place k p low ds d m is adp fresh) c has for at

  n_clocks : number has_clock kinds n ≡ length (clocks w.slaves)
  n_clocks = sym (ap (λ ss. length (clocks ss)) knows.slaves ∙ clocks_many kinds statuses n)

  n_measuring : number measures kinds n ≡ length (measuring w.slaves)
  n_measuring = sym (ap (λ ss. length (measuring ss)) knows.slaves ∙ measuring_many kinds statuses n)

  rate : IsCounted sent ss (rate_datagrams cfg.speed) (length (clocks w.slaves) ∷ [])
  unfolding asks_all
  rate zero x e is at = the_number _ x e.wkc (broadcast has_clock kinds statuses n n 0 sent ss (rate_datagrams cfg.speed) _ e are speed_for_clocks refl refl refl at ∙ n_clocks) is
  rate (suc k) x e is at = absurd (let z = is in cc)

  latch : IsCounted sent ss latch_datagrams (length (measuring w.slaves) ∷ [])
  unfolding asks_all
  latch zero x e is at = the_number _ x e.wkc (broadcast measures kinds statuses n n 0 sent ss latch_datagrams _ e are latch_for_measuring refl refl refl at ∙ n_measuring) is
  latch (suc k) x e is at = absurd (let z = is in cc)

  drift : (q : ℕ) → IsCounted sent ss (drift_datagrams q) (length (clocks w.slaves) ∷ [])
  unfolding asks_all
  drift q zero x e is at = the_number _ x e.wkc (broadcast has_clock kinds statuses n n 0 sent ss (drift_datagrams q) _ e are time_for_clocks refl refl refl at ∙ n_clocks) is
  drift q (suc k) x e is at = absurd (let z = is in cc)

  times : (p : ℕ) (wide : Bool) → p < n → measures (kinds p) ≡ true → AreMindful 0 (times_datagrams p wide) → IsCounted sent ss (times_datagrams p wide) (1 ∷ 1 ∷ [])
  times p wide low has m zero x e is at = the_number _ x e.wkc (one_at measures 0 p low (times_datagrams p wide) _ e has m (inl refl) refl refl refl ports_for_measuring at) is
  times p wide low has m (suc zero) x e is at = the_number _ x e.wkc (one_at measures 1 p low (times_datagrams p wide) _ e has m (inl refl) refl refl refl (unit_for wide) at) is
  times p wide low has m (suc (suc k)) x e is at = absurd (let z = is in cc)

  set : (p : ℕ) (wide : Bool) (offset delay : ℕ) → p < n → has_clock (kinds p) ≡ true → AreMindful 0 (set_datagrams p wide offset delay) → IsCounted sent ss (set_datagrams p wide offset delay) (1 ∷ 1 ∷ [])
  set p wide offset delay low has m zero x e is at =
      the_number _ x e.wkc (one_at has_clock 0 p low (set_datagrams p wide offset delay) _ e has m (inr refl) refl refl refl (offset_for wide offset) at) is
  set p wide offset delay low has m (suc zero) x e is at =
      the_number _ x e.wkc (one_at has_clock 1 p low (set_datagrams p wide offset delay) _ e has m (inr refl) refl refl refl delay_for_clocks at) is
  set p wide offset delay low has m (suc (suc k)) x e is at = absurd (let z = is in cc)

  arm : (q p : ℕ) (wide : Bool) (cycle : ℕ) (sync1 : Option ℕ) (start : ℕ) → p < n → has_clock (kinds p) ≡ true → AreMindful 0 (arm_datagrams q p wide cycle sync1 start)
      → IsCounted sent ss (arm_datagrams q p wide cycle sync1 start) (length (clocks w.slaves) ∷ 1 ∷ 1 ∷ 1 ∷ 1 ∷ [])
  unfolding asks_all
  arm q p wide cycle sync1 start low has m zero x e is at =
      the_number _ x e.wkc (broadcast has_clock kinds statuses n n 0 sent ss (arm_datagrams q p wide cycle sync1 start) _ e are time_for_clocks refl refl refl at ∙ n_clocks) is
  arm q p wide cycle sync1 start low has m (suc zero) x e is at =
      the_number _ x e.wkc (one_at has_clock 1 p low (arm_datagrams q p wide cycle sync1 start) _ e has m (inr refl) refl refl refl activation_for_clocks at) is
  arm q p wide cycle sync1 start low has m (suc (suc zero)) x e is at =
      the_number _ x e.wkc (one_at has_clock 2 p low (arm_datagrams q p wide cycle sync1 start) _ e has m (inr refl) refl refl refl cycle_for_clocks at) is
  arm q p wide cycle sync1 start low has m (suc (suc (suc zero))) x e is at =
      the_number _ x e.wkc (one_at has_clock 3 p low (arm_datagrams q p wide cycle sync1 start) _ e has m (inr refl) refl refl refl (start_for wide start) at) is
  arm q p wide cycle sync1 start low has m (suc (suc (suc (suc zero)))) x e is at =
      the_number _ x e.wkc (one_at has_clock 4 p low (arm_datagrams q p wide cycle sync1 start) _ e has m (inr refl) refl refl refl activation_for_clocks at) is
  arm q p wide cycle sync1 start low has m (suc (suc (suc (suc (suc k))))) x e is at = absurd (let z = is in cc)

  near : (p : ℕ) → p < n → p < 256
  near p low = let few = are.few in omega (arith, low, few)

  -- each step behind the judgement counts what is expected
  pub later_counts : (step : Step) → IsMeant kinds n step → (f : FrameValue) → counts_of (datagrams_behind (length ss) sent ss (datagrams_of cfg w step)) ≡ expected cfg w step f
  later_counts Count h f = absurd h
  later_counts (Identify p) h f = absurd h
  later_counts Rate h f = come_back sent ss (datagrams_of cfg w Rate) _ refl rate
  later_counts Latch h f = come_back sent ss (datagrams_of cfg w Latch) _ refl latch
  later_counts (Times p) h f = come_back sent ss (datagrams_of cfg w (Times p)) _ refl (times p _ h.0 h.1 (mindful_step cfg w (Times p) tt))
  later_counts (Set p) h f = come_back sent ss (datagrams_of cfg w (Set p)) _ refl (set p _ _ _ h.0 h.1 (mindful_step cfg w (Set p) tt))
  later_counts Settle h f = come_back sent ss (datagrams_of cfg w Settle) _ refl (drift _)
  later_counts (Drift k) h f = come_back sent ss (datagrams_of cfg w (Drift k)) _ refl (drift _)
  later_counts (Arm p) h f = come_back sent ss (datagrams_of cfg w (Arm p)) _ refl (arm _ p _ _ _ _ h.0 h.1 (mindful_step cfg w (Arm p) tt))

-- Count, whoever is named
pub count_counts : (kinds : ℕ → ClockKind) (statuses : ℕ → ℕ) (n named sent : ℕ) (ss : List Slave) → AreInOrder kinds statuses n named ss → counts_of (datagrams_behind (length ss) sent ss count_datagrams) ≡ n ∷ []
unfolding asks_all
count_counts kinds statuses n named sent ss are = come_back sent ss count_datagrams (n ∷ []) refl each
  where
    each : IsCounted sent ss count_datagrams (n ∷ [])
    each zero x e is at = the_number _ x e.wkc (broadcast all kinds statuses n named 0 sent ss count_datagrams _ e are count_for_all refl refl refl at ∙ all_many n kinds) is
    each (suc k) x e is at = absurd (let z = is in cc)

-- a reply with the expected counters, which differs in nothing that it may not, is not refused
none_missed : (step : Step) (xs : List ℕ) → miscounted step xs xs ≡ None
none_missed step [] = refl
none_missed step (x ∷ xs) = let same : (x == x) ≡ true = grind (arith, nat_tests) in rw same (none_missed step xs)

pub judged_none : (step : Step) (xs : List ℕ) (sent reply : FrameValue) → first_difference sent reply ≡ None → counters reply ≡ xs → judged step xs sent reply ≡ None
unfolding judged
judged_none step xs sent reply same are = ap (judged_by step xs reply) same ∙ ap (miscounted step xs) are ∙ none_missed step xs
