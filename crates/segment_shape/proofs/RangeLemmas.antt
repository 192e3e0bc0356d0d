-- The numbers of a file lie in their ranges.
use Rattle.std.proofs.Common.{◌≡◌, ◌∙◌, Ok, Err, ℕ, ◌+◌, ◌-◌, ◌<◌, ◌≤◌, Bool, true, false, List, [], ◌∷◌, ◌++◌, ◌&&◌, ◌==◌, length, map, Option, Some, None, subst, sym, ap, refl, arith}
use Rattle.std.specs.Prelude.{codes, IfSome, unwrap_or, if◌then◌else◌}
use Rattle.std.specs.List.{All}
use Rattle.std.proofs.lemmas.Bool.{false≢true}
use Rattle.std.proofs.lemmas.List.Elements.{All-nil, All-push}
use Rattle.std.proofs.lemmas.List.Quantifiers.{all_pairs_push}
use Rattle.serde_json.specs.Data.{Data}
use Rattle.serde_json.specs.Find.{get}
use Rattle.osc_clock.specs.Ticks.{Rate, AreRising}
use Rattle.esc_regs.specs.declared.clock_kind.ClockKind.{ClockKind}
use Rattle.segment_shape.specs.Paths.{Reading, root}
use Rattle.segment_shape.specs.Values.{or_fault, is_id, id_of, id_at, members_at, items_at, items_if_any}
use Rattle.segment_shape.specs.Keys.{only, head_keys, slave_keys, rate_keys, loss_keys}
use Rattle.segment_shape.specs.Rows.{rows_after}
use Rattle.segment_shape.specs.Head.{HeadValue, head_of}
use Rattle.segment_shape.specs.Rates.{last_tick, rate_behind, rate_in, rates_of}
use Rattle.segment_shape.specs.Slaves.{ParentValue, PlaceValue, TimesValue, SlaveValue, kind_at, port_of, parent_of, place_of, changes, rates_where, times_of, slave, slave_of, slave_in}
use Rattle.esc_regs.specs.Kinds.{measures, has_clock, greatest_start}
use Rattle.segment_shape.specs.Losses.{phase_at, unlisted, loss_in}
use Rattle.loss_list.specs.Losses.{is_loss_of, is_listed}
use Rattle.segment_shape.specs.Twice.{first_again}
use Rattle.segment_shape.specs.ShapeOf.{ShapeValue, shape_of, with_distinct_ids, unless_again, file_of}
use Rattle.segment_shape.specs.Ranges.{IsHead, IsRate, IsParent, IsSlave, IsLoss, AreOnce, IsFile}
use Rattle.loss_list.specs.declared.loss_row.LossRow.{LossRow}
use Rattle.loss_list.specs.declared.loss_row.Phase.{Phase}
use Rattle.loss_list.proofs.Exported.{unlisted_at}
use Rattle.segment_shape.proofs.ReadingLemmas.{IsWhere, id_of_ok, id_at_ok, or_fault_ok, bind_ok, only_ok, ok_same, lacking_ok, number_then, where_then, option_then, items_at_ok, items_if_any_ok, rows_keep, rows_many}

pub head_ranges : (d : Data) (h : HeadValue) → head_of d ≡ Ok h → IsHead h
unfolding head_of
head_ranges d h e =
    let version = number_then (codes "version") 1 2 d _ h e in
    let ppm = number_then (codes "ppm") 0 100 d _ h version.1.1 in
    let frame = number_then (codes "frame_ns") 50000 10000000 d _ h ppm.1.1 in
    let speed = number_then (codes "speed") 128 16383 d _ h frame.1.1 in
    let run = number_then (codes "loss_run") 0 15 d _ h speed.1.1 in
    let epoch = number_then (codes "epoch_ns") 0 4000000000000000000 d _ h run.1.1 in
    let cycle = number_then (codes "cycle_ns") 50000 500000000 d _ h epoch.1.1 in
    let cycles = number_then (codes "cycles") 1 100000 d _ h cycle.1.1 in
    subst IsHead (ok_same _ h cycles.1.1) (record {
      version = version.1.0;
      ppm = ppm.1.0.1;
      frame_ns = frame.1.0;
      speed = speed.1.0;
      loss_run = run.1.0.1;
      epoch_ns = epoch.1.0.1;
      cycle_ns = cycle.1.0;
      cycles = cycles.1.0;
    })

-- ---- the changes of a period

rate_ranges : (before : ℕ) (d : Data) (r : Rate) → rate_behind before d ≡ Ok r → (before < r.tick) × (0 < r.period) × IsRate r
unfolding rate_behind
rate_ranges before d r e =
    let ms = bind_ok (members_at [] d) _ r e in
    let tick = number_then (codes "tick") (before + 1) 1000000000000 d _ r ms.2 in
    let period = number_then (codes "period_fs") 1 20000000 d _ r tick.1.1 in
    let low : before < tick.0 = omega (arith, tick.1.0.0) in
    let some : 0 < period.0 = omega (arith, period.1.0.0) in
    subst (λ r. (before < r.tick) × (0 < r.period) × IsRate r) (only_ok [] rate_keys ms.0 _ r period.1.1)
    (low, some, record { tick = tick.1.0.1; period = period.1.0.1 })

rising-push : (tick : ℕ) (rows : List Rate) (r : Rate) → AreRising tick rows → last_tick tick rows < r.tick → 0 < r.period → AreRising tick (rows ++ r ∷ [])
rising-push tick [] r h low some = (low, some, tt)
rising-push tick (q ∷ rows) r h low some = (h.0, h.1, rising-push q.tick rows r h.2 low some)

-- what holds of the rows of a period's changes
pub record AreRates (rows : List Rate) : Type 0 where
  pub rising : AreRising 0 rows
  pub each : All IsRate rows

rates_ranges : (d : Data) (rows : List Rate) → rates_of d ≡ Ok rows → (length rows ≤ 64) × AreRates rows
unfolding rates_of
rates_ranges d rows e =
    let items = bind_ok (items_if_any (codes "rates") 64 d) _ rows e in
    let few = items_if_any_ok (codes "rates") 64 d items.0 items.1 in
    let many = rows_many (codes "rates") rate_in [] items.0 rows items.2 in
    let all = rows_keep (codes "rates") rate_in AreRates
    (λ rs d r h is.
    let p = rate_ranges (last_tick 0 rs) d r is in
    record { rising = rising-push 0 rs r h.rising p.0 p.1; each = All-push IsRate rs r h.each p.2 })
    [] items.0 rows (record { rising = tt; each = All-nil IsRate }) items.2 in
    (omega (arith, few, many), all)

-- ---- a slave

port_ranges : (o : Option Data) (d : Data) (p : Option ParentValue) → port_of o d ≡ Ok p → IfSome p IsParent
port_ranges None d p e = subst (λ p. IfSome p IsParent) (lacking_ok (codes "port") None p d e) tt
port_ranges (Some parent) d p e =
    let id = bind_ok (or_fault (codes "parent") (id_of parent)) _ p e in
    let port = number_then (codes "port") 1 3 d _ p id.2 in
    let is = id_of_ok parent id.0 (or_fault_ok (codes "parent") (id_of parent) id.0 id.1) in
    subst (λ p. IfSome p IsParent) (ok_same _ p port.1.1) (record { id = is; port = port.1.0 })

-- what holds of every slave
pub record IsPlace (p : PlaceValue) : Type 0 where
  pub id : is_id p.id ≡ true
  pub tp_ns : (1 ≤ p.tp_ns) × (p.tp_ns ≤ 10000)
  pub tf_ns : (1 ≤ p.tf_ns) × (p.tf_ns ≤ 10000)
  pub cable_ps : p.cable_ps ≤ 100000000
  pub parent : IfSome p.parent IsParent

place_ranges : (d : Data) (p : PlaceValue) → place_of d ≡ Ok p → IsPlace p
unfolding place_of parent_of
place_ranges d p e =
    let id = bind_ok (id_at (codes "id") d) _ p e in
    let kind = bind_ok (kind_at d) _ p id.2 in
    let tp = number_then (codes "tp_ns") 1 10000 d _ p kind.2 in
    let tf = number_then (codes "tf_ns") 1 10000 d _ p tp.1.1 in
    let cable = number_then (codes "cable_ps") 0 100000000 d _ p tf.1.1 in
    let parent = bind_ok (parent_of d) _ p cable.1.1 in
    subst IsPlace (ok_same _ p parent.2) (record {
      id = id_at_ok (codes "id") d id.0 id.1;
      tp_ns = tp.1.0;
      tf_ns = tf.1.0;
      cable_ps = cable.1.0.1;
      parent = port_ranges (get (codes "parent") d) d parent.0 parent.1;
    })

-- what holds of a slave's clock
pub record AreTimes (version cycle_ns : ℕ) (kind : ClockKind) (t : TimesValue) : Type 0 where
  pub start : IsWhere (measures kind) 0 (greatest_start kind) t.start
  pub phase_fs : IsWhere (measures kind) 1 20000000 t.phase_fs
  pub period_fs : IsWhere (measures kind) 1 20000000 t.period_fs
  pub rates : (length t.rates ≤ 64) × AreRates t.rates
  pub unchanged : changes version kind ≡ false → t.rates ≡ []
  pub shift_ns : t.shift_ns < cycle_ns
  pub sync1_ns : IfSome t.sync1_ns (λ ns. (1 ≤ ns) × (ns < cycle_ns))
  pub signalless : has_clock kind ≡ false → (t.shift_ns ≡ 0) × (t.sync1_ns ≡ None)

where_ranges : (b : Bool) (d : Data) (rows : List Rate) → rates_where b d ≡ Ok rows → ((length rows ≤ 64) × AreRates rows) × (b ≡ false → rows ≡ [])
where_ranges true d rows e = (rates_ranges d rows e, λ h. absurd (false≢true (sym h)))
where_ranges false d rows e =
    let none = ok_same [] rows e in
    (subst (λ rows. (length rows ≤ 64) × AreRates rows) none (omega arith, record { rising = tt; each = All-nil IsRate }), λ _. sym none)

shift_below : (cycle_ns : ℕ) (o : Option ℕ) → 1 ≤ cycle_ns → IfSome o (λ n. (0 ≤ n) × (n ≤ cycle_ns - 1)) → unwrap_or o 0 < cycle_ns
shift_below cycle_ns None some h = omega arith
shift_below cycle_ns (Some n) some h = omega (arith, h.1)

sync1_below : (cycle_ns : ℕ) (o : Option ℕ) → 1 ≤ cycle_ns → IfSome o (λ n. (1 ≤ n) × (n ≤ cycle_ns - 1)) → IfSome o (λ n. (1 ≤ n) × (n < cycle_ns))
sync1_below cycle_ns None some h = tt
sync1_below cycle_ns (Some n) some h = (h.0, omega (arith, h.1))

times_ranges : (version cycle_ns : ℕ) (kind : ClockKind) (d : Data) (t : TimesValue) → 1 ≤ cycle_ns → times_of version cycle_ns kind d ≡ Ok t
    → AreTimes version cycle_ns kind t
unfolding times_of
times_ranges version cycle_ns kind d t some e =
    let start = where_then (measures kind) (codes "start") 0 (greatest_start kind) d _ t e in
    let phase = where_then (measures kind) (codes "phase_fs") 1 20000000 d _ t start.2 in
    let period = where_then (measures kind) (codes "period_fs") 1 20000000 d _ t phase.2 in
    let rates = bind_ok (rates_where (changes version kind) d) _ t period.2 in
    let shift = option_then (has_clock kind) (codes "shift_ns") 0 (cycle_ns - 1) d _ t rates.2 in
    let sync1 = option_then (has_clock kind) (codes "sync1_ns") 1 (cycle_ns - 1) d _ t shift.2 in
    let listed = where_ranges (changes version kind) d rates.0 rates.1 in
    subst (AreTimes version cycle_ns kind) (ok_same _ t sync1.2) (record {
      start = start.1;
      phase_fs = phase.1;
      period_fs = period.1;
      rates = listed.0;
      unchanged = listed.1;
      shift_ns = shift_below cycle_ns shift.0 some shift.1.0;
      sync1_ns = sync1_below cycle_ns sync1.0 some sync1.1.0;
      signalless = λ h. (ap (λ o. unwrap_or o 0) (shift.1.1 h), sync1.1.1 h);
    })

unchanged_version : (version : ℕ) (b : Bool) → version ≡ 1 → (version == 2 && b) ≡ false
unchanged_version version b e = rw e refl

unchanged_kind : (a b : Bool) → b ≡ false → (a && b) ≡ false
unchanged_kind true b e = e
unchanged_kind false b e = refl

pub slave_ranges : (version cycle_ns : ℕ) (d : Data) (s : SlaveValue) → 1 ≤ cycle_ns → slave_of version cycle_ns d ≡ Ok s → IsSlave version cycle_ns s
unfolding slave_of
slave_ranges version cycle_ns d s some e =
    let ms = bind_ok (members_at [] d) _ s e in
    let place = bind_ok (place_of d) _ s ms.2 in
    let times = bind_ok (times_of version cycle_ns place.0.kind d) _ s place.2 in
    let p = place_ranges d place.0 place.1 in
    let t = times_ranges version cycle_ns place.0.kind d times.0 some times.1 in
    subst (IsSlave version cycle_ns) (only_ok [] (slave_keys (changes version place.0.kind)) ms.0 (slave place.0 times.0) s times.2) (record {
      id = p.id;
      tp_ns = p.tp_ns;
      tf_ns = p.tf_ns;
      cable_ps = p.cable_ps;
      parent = p.parent;
      start = t.start.most;
      phase_fs = t.phase_fs.most;
      period_fs = t.period_fs.most;
      measuring = λ m. (t.phase_fs.least m, t.period_fs.least m);
      few = t.rates.0;
      rates = t.rates.1.each;
      rising = t.rates.1.rising;
      shift_ns = t.shift_ns;
      sync1_ns = t.sync1_ns;
      silent = λ m. (t.start.none m, t.phase_fs.none m, t.period_fs.none m, t.unchanged (unchanged_kind (version == 2) (measures place.0.kind) m));
      steady = λ one. t.unchanged (unchanged_version version (measures place.0.kind) one);
      signalless = t.signalless;
    })

-- ---- a loss and a file

unlisted_ok : (phase : Phase) (rows : List LossRow) (n m : ℕ) → unlisted phase rows n ≡ Ok m → (n ≡ m) × (is_listed phase n rows ≡ false)
unlisted_ok phase rows n m e = by_test (is_listed phase n rows) e refl
  where
    by_test : (b : Bool) → (if b then Err (codes "number") else Ok n) ≡ Ok m → is_listed phase n rows ≡ b → (n ≡ m) × (is_listed phase n rows ≡ false)
    by_test true h is = absurd (cc h)
    by_test false h is = (cc h, is)

-- a loss that none of these rows lists
loss_ranges : (slaves : ℕ) (rows : List LossRow) (d : Data) (r : LossRow) → loss_in slaves rows d ≡ Ok r → IsLoss slaves r × (is_listed r.phase r.number rows ≡ false)
unfolding loss_in
loss_ranges slaves rows d r e =
    let ms = bind_ok (members_at [] d) _ r e in
    let phase = bind_ok (phase_at d) _ r ms.2 in
    let number = number_then (codes "number") 1 100000 d _ r phase.2 in
    let new = bind_ok (unlisted phase.0 rows number.0) _ r number.1.1 in
    let after = number_then (codes "after") 0 slaves d _ r new.2 in
    let same = unlisted_ok phase.0 rows number.0 new.0 new.1 in
    subst (λ r. IsLoss slaves r × (is_listed r.phase r.number rows ≡ false)) (only_ok [] loss_keys ms.0 _ r after.1.1) (
      record { number = subst (λ n. (1 ≤ n) × (n ≤ 100000)) same.0 number.1.0; after = after.1.0.1 },
      subst (λ n. is_listed phase.0 n rows ≡ false) same.0 same.1,
    )

once_push : (rows : List LossRow) (r : LossRow) → AreOnce rows → is_listed r.phase r.number rows ≡ false → AreOnce (rows ++ r ∷ [])
once_push rows r once new =
    all_pairs_push (λ q r. is_loss_of r.phase r.number q ≡ false) rows r once (λ k d low. unlisted_at (is_loss_of r.phase r.number) rows k d new low)

distinct_ok : (r : Reading ShapeValue) (s : ShapeValue) → with_distinct_ids r ≡ Ok s → (r ≡ Ok s) × (first_again [] (map (λ r. r.id) s.slaves) ≡ None)
distinct_ok (Err path) s e = absurd (cc e)
distinct_ok (Ok t) s e = by_ids (first_again [] (map (λ r. r.id) t.slaves)) refl e
  where
    by_ids : (again : Option (List ℕ)) → first_again [] (map (λ r. r.id) t.slaves) ≡ again → unless_again t again ≡ Ok s
        → (◌≡◌ {A = Reading ShapeValue} (Ok t) (Ok s)) × (first_again [] (map (λ r. r.id) s.slaves) ≡ None)
    by_ids None is h =
        let same : t ≡ s = cc h in
        (ap Ok same, ap (λ s. first_again [] (map (λ r. r.id) s.slaves)) (sym same) ∙ is)
    by_ids (Some id) is h = absurd (cc h)

pub file_ranges : (d : Data) (s : ShapeValue) → file_of d ≡ Ok s → IsFile s
unfolding file_of shape_of
file_ranges d s e =
    let whole = distinct_ok (shape_of d) s e in
    let ms = bind_ok (members_at root d) _ s whole.0 in
    let first = bind_ok (head_of d) _ s ms.2 in
    let slaves = bind_ok (items_at (codes "slaves") 256 d) _ s first.2 in
    let losses = bind_ok (items_if_any (codes "losses") 10000 d) _ s slaves.2 in
    let head = bind_ok (only root head_keys ms.0 first.0) _ s losses.2 in
    let rows = bind_ok (rows_after (codes "slaves") (slave_in head.0.version head.0.cycle_ns) [] slaves.0) _ s head.2 in
    let lost = bind_ok (rows_after (codes "losses") (loss_in (length rows.0)) [] losses.0) _ s rows.2 in
    let same = ok_same _ s lost.2 in
    let whole_head = subst IsHead (only_ok root head_keys ms.0 first.0 head.0 head.1) (head_ranges d first.0 first.1) in
    let some : 1 ≤ head.0.cycle_ns = omega (arith, whole_head.cycle_ns.0) in
    let many_slaves = rows_many (codes "slaves") (slave_in head.0.version head.0.cycle_ns) [] slaves.0 rows.0 rows.1 in
    let few_slaves = items_at_ok (codes "slaves") 256 d slaves.0 slaves.1 in
    let many_losses = rows_many (codes "losses") (loss_in (length rows.0)) [] losses.0 lost.0 lost.1 in
    let few_losses = items_if_any_ok (codes "losses") 10000 d losses.0 losses.1 in
    subst IsFile same (record {
      head = whole_head;
      few_slaves = omega (arith, many_slaves, few_slaves);
      slaves = rows_keep (codes "slaves") (slave_in head.0.version head.0.cycle_ns) (All (IsSlave head.0.version head.0.cycle_ns))
          (λ rs d r h is. All-push (IsSlave head.0.version head.0.cycle_ns) rs r h (slave_ranges head.0.version head.0.cycle_ns d r some is))
          [] slaves.0 rows.0 (All-nil (IsSlave head.0.version head.0.cycle_ns)) rows.1;
      few_losses = omega (arith, many_losses, few_losses);
      losses = rows_keep (codes "losses") (loss_in (length rows.0)) (All (IsLoss (length rows.0)))
          (λ rs d r h is. All-push (IsLoss (length rows.0)) rs r h (loss_ranges (length rows.0) rs d r is).0)
          [] losses.0 lost.0 (All-nil (IsLoss (length rows.0))) lost.1;
      once = rows_keep (codes "losses") (loss_in (length rows.0)) AreOnce (λ rs d r h is. once_push rs r h (loss_ranges (length rows.0) rs d r is).1)
          [] losses.0 lost.0 (λ i j d above within. absurd (omega (arith, within))) lost.1;
      distinct = ap (λ s. first_again [] (map (λ r. r.id) s.slaves)) same ∙ whole.1;
    })
