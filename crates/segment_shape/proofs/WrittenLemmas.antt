-- A file's written value says it.
use Rattle.std.proofs.Common.{◌≡◌, ◌∙◌, sym, ap, subst, ℕ, ◌+◌, ◌-◌, ◌<◌, ◌≤◌, Bool, true, false, ◌&&◌, List, [], ◌∷◌, ◌++◌, length, Option, Some, None, Ok, Err, option_and_then, refl, get_or, arith}
use Rattle.std.specs.Prelude.{◌==◌, IfSome, option_map, codes, if◌then◌else◌}
use Rattle.std.specs.List.{All}
use Rattle.std.proofs.lemmas.Bool.Decides.{nat_tests}
use Rattle.std.proofs.lemmas.List.{append_assoc, get_or_at, get_or_append_left, length-append}
use Rattle.std.proofs.lemmas.List.Folds.{list_any_none}
use Rattle.std.proofs.lemmas.List.Elements.{All-head, All-tail}
use Rattle.serde_json.specs.Data.{Data, string, array, object, Items, Members}
use Rattle.serde_json.specs.Find.{get, as_object, as_str}
use Rattle.osc_clock.specs.Ticks.{Rate, AreRising}
use Rattle.esc_regs.specs.declared.clock_kind.ClockKind.{ClockKind}
use Rattle.esc_regs.specs.declared.clock_kind.ClockKind.TheVariants as kind
use Rattle.segment_shape.specs.Paths.{root}
use Rattle.segment_shape.specs.Values.{or_fault, must_lack, id_of, id_at, number_at, number_where, option_where, items_at, items_if_any, members_at}
use Rattle.segment_shape.specs.Keys.{are_among, only, head_keys, slave_keys, rate_keys, loss_keys}
use Rattle.segment_shape.specs.Rows.{rows_after}
use Rattle.segment_shape.specs.Head.{HeadValue, head_of}
use Rattle.segment_shape.specs.Rates.{last_tick, rate_behind, rate_in, rates_of}
use Rattle.segment_shape.specs.Slaves.{ParentValue, SlaveValue, kind_named, kind_at, port_of, parent_of, place_of, changes, rates_where, times_of, slave_of, slave_in}
use Rattle.esc_regs.specs.Kinds.{measures, has_clock, greatest_start}
use Rattle.segment_shape.specs.Losses.{phase_named, phase_at, unlisted, loss_in}
use Rattle.loss_list.specs.Losses.{is_loss_of, is_listed}
use Rattle.segment_shape.specs.ShapeOf.{ShapeValue, shape_of, file_of}
use Rattle.segment_shape.specs.Ranges.{IsHead, IsRate, IsParent, IsSlave, IsLoss, AreOnce, IsFile}
use Rattle.segment_shape.specs.Written.{members_of, items_for, whole, kind_name, phase_name, rate_entries, rate_data, slave_entries, slave_data, loss_entries, loss_data, file_entries, file_data}
use Rattle.loss_list.specs.declared.loss_row.LossRow.{LossRow}
use Rattle.loss_list.specs.declared.loss_row.Phase.{Phase}
use Rattle.loss_list.specs.declared.loss_row.Phase.TheVariants.{Commission, Drift}
use Rattle.segment_shape.proofs.EntryLemmas.{id_is, if_false, object_read, get_entry, known, known_keys, only_known, then_ok, number_read, where_read, shift_read, option_read, id_read, items_many, items_read, items_read_if_any, AreRead, rows_read}

rate_says : (before : ℕ) (r : Rate) (d : Data) (ms : Members) → as_object d ≡ Some ms → get (codes "tick") d ≡ Some (whole r.tick) → get (codes "period_fs") d ≡ Some (whole r.period)
    → are_among rate_keys ms ≡ true → before < r.tick → 0 < r.period → IsRate r → rate_behind before d ≡ Ok r
unfolding rate_behind
rate_says before r d ms o tick period known low some is =
    then_ok (members_at [] d) _ ms (Ok r) (object_read d ms _ o)
    (then_ok (number_at (codes "tick") (before + 1) 1000000000000 d) _ r.tick (Ok r) (number_read (codes "tick") (before + 1) 1000000000000 r.tick d tick (omega (arith, low), is.tick))
    (then_ok (number_at (codes "period_fs") 1 20000000 d) _ r.period (Ok r) (number_read (codes "period_fs") 1 20000000 r.period d period (omega (arith, some), is.period))
    (only_known [] rate_keys ms r known)))

rate_read : (before : ℕ) (r : Rate) → before < r.tick → 0 < r.period → IsRate r → rate_behind before (rate_data r) ≡ Ok r
unfolding rate_keys
rate_read before r low some is =
    let es = rate_entries r in
    rate_says before r (rate_data r) (members_of es) refl (get_entry (codes "tick") es refl) (get_entry (codes "period_fs") es refl) (known_keys rate_keys es refl) low some is

last_push : (tick : ℕ) (rows : List Rate) (r : Rate) → last_tick tick (rows ++ r ∷ []) ≡ r.tick
last_push tick [] r = refl
last_push tick (q ∷ rows) r = last_push q.tick rows r

rates_read : (done rest : List Rate) → AreRising (last_tick 0 done) rest → All IsRate rest → AreRead rate_in rate_data done rest
rates_read done [] rising all = tt
rates_read done (r ∷ rs) rising all = (
  rate_read (last_tick 0 done) r rising.0 rising.1 (All-head IsRate r rs all),
  rates_read (done ++ r ∷ []) rs (subst (λ tick. AreRising tick rs) (sym (last_push 0 done r)) rising.2) (All-tail IsRate r rs all),
)

listed_rates : (rates : List Rate) (d : Data) → get (codes "rates") d ≡ Some (array (items_for rate_data rates)) → length rates ≤ 64 → AreRising 0 rates → All IsRate rates
    → rates_of d ≡ Ok rates
unfolding rates_of
listed_rates rates d e few rising all =
    then_ok (items_if_any (codes "rates") 64 d) _ (items_for rate_data rates) _ (items_read_if_any (codes "rates") 64 (items_for rate_data rates) d e (omega (arith, few, items_many rate_data rates)))
    (rows_read (codes "rates") rate_in rate_data [] rates (rates_read [] rates rising all))

rates_where_read : (b : Bool) (rates : List Rate) (d : Data) → get (codes "rates") d ≡ (if b then Some (array (items_for rate_data rates)) else None) → length rates ≤ 64 → AreRising 0 rates
    → All IsRate rates → (b ≡ false → rates ≡ []) → rates_where b d ≡ Ok rates
rates_where_read true rates d e few rising all none = listed_rates rates d e few rising all
rates_where_read false rates d e few rising all none = ap Ok (sym (none refl))

-- ---- a slave

kind_read : (k : ClockKind) (d : Data) → get (codes "clock") d ≡ Some (string (kind_name k)) → kind_at d ≡ Ok k
unfolding kind_named
kind_read kind.None d e = ap (λ o. or_fault (codes "clock") (option_and_then kind_named (option_and_then as_str o))) e
kind_read kind.R32 d e = ap (λ o. or_fault (codes "clock") (option_and_then kind_named (option_and_then as_str o))) e
kind_read kind.C32 d e = ap (λ o. or_fault (codes "clock") (option_and_then kind_named (option_and_then as_str o))) e
kind_read kind.C64 d e = ap (λ o. or_fault (codes "clock") (option_and_then kind_named (option_and_then as_str o))) e

parent_read : (p : Option ParentValue) (d : Data) → get (codes "parent") d ≡ option_map (λ p. string p.id) p → get (codes "port") d ≡ option_map (λ p. whole p.port) p → IfSome p IsParent
    → parent_of d ≡ Ok p
unfolding parent_of
parent_read None d e f is = ap (λ o. port_of o d) e ∙ ap (must_lack (codes "port") None) f
parent_read (Some p) d e f is =
    ap (λ o. port_of o d) e
    ∙ then_ok (or_fault (codes "parent") (id_of (string p.id))) _ p.id (Ok (Some p)) (ap (or_fault (codes "parent")) (id_is p.id is.id))
    (then_ok (number_at (codes "port") 1 3 d) _ p.port (Ok (Some p)) (number_read (codes "port") 1 3 p.port d f is.port) refl)

place_read : (d : Data) (s : SlaveValue) (version cycle_ns : ℕ) → IsSlave version cycle_ns s → get (codes "id") d ≡ Some (string s.id) → get (codes "clock") d ≡ Some (string (kind_name s.kind))
    → get (codes "tp_ns") d ≡ Some (whole s.tp_ns) → get (codes "tf_ns") d ≡ Some (whole s.tf_ns) → get (codes "cable_ps") d ≡ Some (whole s.cable_ps)
    → get (codes "parent") d ≡ option_map (λ p. string p.id) s.parent → get (codes "port") d ≡ option_map (λ p. whole p.port) s.parent
    → place_of d ≡ Ok (record { id = s.id; kind = s.kind; tp_ns = s.tp_ns; tf_ns = s.tf_ns; cable_ps = s.cable_ps; parent = s.parent })
unfolding place_of
place_read d s version cycle_ns is id clock tp tf cable parent port =
    then_ok (id_at (codes "id") d) _ s.id _ (id_read (codes "id") s.id d id is.id)
    (then_ok (kind_at d) _ s.kind _ (kind_read s.kind d clock)
    (then_ok (number_at (codes "tp_ns") 1 10000 d) _ s.tp_ns _ (number_read (codes "tp_ns") 1 10000 s.tp_ns d tp is.tp_ns)
    (then_ok (number_at (codes "tf_ns") 1 10000 d) _ s.tf_ns _ (number_read (codes "tf_ns") 1 10000 s.tf_ns d tf is.tf_ns)
    (then_ok (number_at (codes "cable_ps") 0 100000000 d) _ s.cable_ps _ (number_read (codes "cable_ps") 0 100000000 s.cable_ps d cable (omega arith, is.cable_ps))
    (then_ok (parent_of d) _ s.parent _ (parent_read s.parent d parent port is.parent) refl)))))

unchanged : (version : ℕ) (k : ClockKind) (rates : List Rate) → (1 ≤ version) × (version ≤ 2) → (version ≡ 1 → rates ≡ []) → (measures k ≡ false → rates ≡ []) → changes version k ≡ false → rates ≡ []
unchanged version k rates within one silent e = by_version (version == 2) refl e
  where
    by_version : (b : Bool) → (version == 2) ≡ b → (b && measures k) ≡ false → rates ≡ []
    by_version true is g = silent g
    by_version false is g = one (grind (arith, nat_tests, is, within))

times_read : (d : Data) (s : SlaveValue) (version cycle_ns : ℕ) → (1 ≤ version) × (version ≤ 2) → IsSlave version cycle_ns s
    → get (codes "start") d ≡ (if measures s.kind then Some (whole s.start) else None)
    → get (codes "phase_fs") d ≡ (if measures s.kind then Some (whole s.phase_fs) else None)
    → get (codes "period_fs") d ≡ (if measures s.kind then Some (whole s.period_fs) else None)
    → get (codes "rates") d ≡ (if changes version s.kind then Some (array (items_for rate_data s.rates)) else None)
    → get (codes "shift_ns") d ≡ (if has_clock s.kind then Some (whole s.shift_ns) else None)
    → get (codes "sync1_ns") d ≡ option_map whole s.sync1_ns
    → times_of version cycle_ns s.kind d
    ≡ Ok (record { start = s.start; phase_fs = s.phase_fs; period_fs = s.period_fs; rates = s.rates; shift_ns = s.shift_ns; sync1_ns = s.sync1_ns })
unfolding times_of
times_read d s version cycle_ns versions is start phase period rates shift sync1 =
    let shifted = shift_read (has_clock s.kind) (codes "shift_ns") (cycle_ns - 1) s.shift_ns d shift (omega (arith, is.shift_ns)) (λ h. (is.signalless h).0) in
    then_ok (number_where (measures s.kind) (codes "start") 0 (greatest_start s.kind) d) _ s.start _ (where_read (measures s.kind) (codes "start") 0 (greatest_start s.kind) s.start d start (λ _. omega arith) is.start (λ h. (is.silent h).0))
    (then_ok (number_where (measures s.kind) (codes "phase_fs") 1 20000000 d) _ s.phase_fs _ (where_read (measures s.kind) (codes "phase_fs") 1 20000000 s.phase_fs d phase (λ h. (is.measuring h).0) is.phase_fs (λ h. (is.silent h).1))
    (then_ok (number_where (measures s.kind) (codes "period_fs") 1 20000000 d) _ s.period_fs _ (where_read (measures s.kind) (codes "period_fs") 1 20000000 s.period_fs d period (λ h. (is.measuring h).1) is.period_fs (λ h. (is.silent h).2))
    (then_ok (rates_where (changes version s.kind) d) _ s.rates _ (rates_where_read (changes version s.kind) s.rates d rates is.few is.rising is.rates (unchanged version s.kind s.rates versions is.steady (λ h. (is.silent h).3)))
    (then_ok (option_where (has_clock s.kind) (codes "shift_ns") 0 (cycle_ns - 1) d) _ shifted.0 _ shifted.1
    (then_ok (option_where (has_clock s.kind) (codes "sync1_ns") 1 (cycle_ns - 1) d) _ s.sync1_ns _ (option_read (has_clock s.kind) (codes "sync1_ns") 1 (cycle_ns - 1) s.sync1_ns d sync1 (sync1_most cycle_ns s.sync1_ns is.sync1_ns) (λ h. (is.signalless h).1))
    (ap (λ n. Ok (record { start = s.start; phase_fs = s.phase_fs; period_fs = s.period_fs; rates = s.rates; shift_ns = n; sync1_ns = s.sync1_ns })) shifted.2))))))
  where
    sync1_most : (cycle_ns : ℕ) (o : Option ℕ) → IfSome o (λ ns. (1 ≤ ns) × (ns < cycle_ns)) → IfSome o (λ ns. (1 ≤ ns) × (ns ≤ cycle_ns - 1))
    sync1_most cycle_ns None h = tt
    sync1_most cycle_ns (Some n) h = (h.0, omega (arith, h.1))

slave_known : (b : Bool) (s : SlaveValue) → known (slave_keys b) (slave_entries b s) ≡ true
unfolding slave_keys
slave_known true s = refl
slave_known false s = refl

slave_says : (version cycle_ns : ℕ) (s : SlaveValue) (d : Data) (ms : Members) → as_object d ≡ Some ms
    → place_of d ≡ Ok (record { id = s.id; kind = s.kind; tp_ns = s.tp_ns; tf_ns = s.tf_ns; cable_ps = s.cable_ps; parent = s.parent })
    → times_of version cycle_ns s.kind d ≡ Ok (record { start = s.start; phase_fs = s.phase_fs; period_fs = s.period_fs; rates = s.rates; shift_ns = s.shift_ns; sync1_ns = s.sync1_ns })
    → are_among (slave_keys (changes version s.kind)) ms ≡ true → slave_of version cycle_ns d ≡ Ok s
unfolding slave_of
slave_says version cycle_ns s d ms o place times known =
    then_ok (members_at [] d) _ ms (Ok s) (object_read d ms _ o)
    (then_ok (place_of d) _ _ (Ok s) place (then_ok (times_of version cycle_ns s.kind d) _ _ (Ok s) times (only_known [] (slave_keys (changes version s.kind)) ms s known)))

pub slave_read : (version cycle_ns : ℕ) (s : SlaveValue) → (1 ≤ version) × (version ≤ 2) → IsSlave version cycle_ns s → slave_of version cycle_ns (slave_data version s) ≡ Ok s
unfolding slave_data
slave_read version cycle_ns s versions is =
    let es = slave_entries (changes version s.kind) s in
    let d = object (members_of es) in
    slave_says version cycle_ns s d (members_of es) refl
    (place_read d s version cycle_ns is (get_entry (codes "id") es refl) (get_entry (codes "clock") es refl) (get_entry (codes "tp_ns") es refl) (get_entry (codes "tf_ns") es refl)
    (get_entry (codes "cable_ps") es refl) (get_entry (codes "parent") es refl) (get_entry (codes "port") es refl))
    (times_read d s version cycle_ns versions is (get_entry (codes "start") es refl) (get_entry (codes "phase_fs") es refl) (get_entry (codes "period_fs") es refl)
    (get_entry (codes "rates") es refl) (get_entry (codes "shift_ns") es refl) (get_entry (codes "sync1_ns") es refl))
    (known_keys (slave_keys (changes version s.kind)) es (slave_known (changes version s.kind) s))

slaves_read : (version cycle_ns : ℕ) (done rest : List SlaveValue) → (1 ≤ version) × (version ≤ 2) → All (IsSlave version cycle_ns) rest
    → AreRead (slave_in version cycle_ns) (slave_data version) done rest
slaves_read version cycle_ns done [] versions all = tt
slaves_read version cycle_ns done (s ∷ ss) versions all =
    (slave_read version cycle_ns s versions (All-head (IsSlave version cycle_ns) s ss all), slaves_read version cycle_ns (done ++ s ∷ []) ss versions (All-tail (IsSlave version cycle_ns) s ss all))

-- ---- losses

phase_read : (p : Phase) (d : Data) → get (codes "phase") d ≡ Some (string (phase_name p)) → phase_at d ≡ Ok p
unfolding phase_named
phase_read Commission d e = ap (λ o. or_fault (codes "phase") (option_and_then phase_named (option_and_then as_str o))) e
phase_read Drift d e = ap (λ o. or_fault (codes "phase") (option_and_then phase_named (option_and_then as_str o))) e

new_number : (phase : Phase) (rows : List LossRow) (number : ℕ) → is_listed phase number rows ≡ false → unlisted phase rows number ≡ Ok number
new_number phase rows number new = if_false (is_listed phase number rows) (Err (codes "number")) (Ok number) new

loss_says : (slaves : ℕ) (rows : List LossRow) (r : LossRow) (d : Data) (ms : Members) → as_object d ≡ Some ms → phase_at d ≡ Ok r.phase
    → get (codes "number") d ≡ Some (whole r.number) → get (codes "after") d ≡ Some (whole r.after) → are_among loss_keys ms ≡ true → IsLoss slaves r
    → is_listed r.phase r.number rows ≡ false → loss_in slaves rows d ≡ Ok r
unfolding loss_in
loss_says slaves rows r d ms o phase number after known is new =
    then_ok (members_at [] d) _ ms (Ok r) (object_read d ms _ o)
    (then_ok (phase_at d) _ r.phase (Ok r) phase
    (then_ok (number_at (codes "number") 1 100000 d) _ r.number (Ok r) (number_read (codes "number") 1 100000 r.number d number is.number)
    (then_ok (unlisted r.phase rows r.number) _ r.number (Ok r) (new_number r.phase rows r.number new)
    (then_ok (number_at (codes "after") 0 slaves d) _ r.after (Ok r) (number_read (codes "after") 0 slaves r.after d after (omega arith, is.after)) (only_known [] loss_keys ms r known)))))

loss_read : (slaves : ℕ) (rows : List LossRow) (r : LossRow) → IsLoss slaves r → is_listed r.phase r.number rows ≡ false → loss_in slaves rows (loss_data r) ≡ Ok r
unfolding loss_data loss_keys
loss_read slaves rows r is new =
    let es = loss_entries r in
    let d = object (members_of es) in
    loss_says slaves rows r d (members_of es) refl (phase_read r.phase d (get_entry (codes "phase") es refl)) (get_entry (codes "number") es refl) (get_entry (codes "after") es refl)
    (known_keys loss_keys es refl) is new

-- a loss that is listed once is not listed before
once_before : (done : List LossRow) (r : LossRow) (rest : List LossRow) → AreOnce (done ++ r ∷ rest) → is_listed r.phase r.number done ≡ false
once_before done r rest once = list_any_none (is_loss_of r.phase r.number) done
    (λ k d low.
    let left = get_or_append_left done (r ∷ rest) d k low in
    let here = get_or_at done r rest d (length done) refl in
    let pair = once k (length done) d low (omega (arith, length-append done (r ∷ rest))) in
    subst (λ q. is_loss_of r.phase r.number q ≡ false) left (subst (λ q. is_loss_of q.phase q.number (get_or (done ++ r ∷ rest) k d) ≡ false) here pair))

losses_read : (slaves : ℕ) (done rest : List LossRow) → All (IsLoss slaves) rest → AreOnce (done ++ rest) → AreRead (loss_in slaves) loss_data done rest
losses_read slaves done [] all once = tt
losses_read slaves done (r ∷ rs) all once = (
  loss_read slaves done r (All-head (IsLoss slaves) r rs all) (once_before done r rs once),
  losses_read slaves (done ++ r ∷ []) rs (All-tail (IsLoss slaves) r rs all) (subst AreOnce (sym (append_assoc done (r ∷ []) rs)) once),
)

-- ---- a file

head_read : (d : Data) (h : HeadValue) → IsHead h → get (codes "version") d ≡ Some (whole h.version) → get (codes "ppm") d ≡ Some (whole h.ppm)
    → get (codes "frame_ns") d ≡ Some (whole h.frame_ns) → get (codes "speed") d ≡ Some (whole h.speed) → get (codes "loss_run") d ≡ Some (whole h.loss_run)
    → get (codes "epoch_ns") d ≡ Some (whole h.epoch_ns) → get (codes "cycle_ns") d ≡ Some (whole h.cycle_ns) → get (codes "cycles") d ≡ Some (whole h.cycles) → head_of d ≡ Ok h
unfolding head_of
head_read d h is version ppm frame speed run epoch cycle cycles =
    then_ok (number_at (codes "version") 1 2 d) _ h.version _ (number_read (codes "version") 1 2 h.version d version is.version)
    (then_ok (number_at (codes "ppm") 0 100 d) _ h.ppm _ (number_read (codes "ppm") 0 100 h.ppm d ppm (omega arith, is.ppm))
    (then_ok (number_at (codes "frame_ns") 50000 10000000 d) _ h.frame_ns _ (number_read (codes "frame_ns") 50000 10000000 h.frame_ns d frame is.frame_ns)
    (then_ok (number_at (codes "speed") 128 16383 d) _ h.speed _ (number_read (codes "speed") 128 16383 h.speed d speed is.speed)
    (then_ok (number_at (codes "loss_run") 0 15 d) _ h.loss_run _ (number_read (codes "loss_run") 0 15 h.loss_run d run (omega arith, is.loss_run))
    (then_ok (number_at (codes "epoch_ns") 0 4000000000000000000 d) _ h.epoch_ns _ (number_read (codes "epoch_ns") 0 4000000000000000000 h.epoch_ns d epoch (omega arith, is.epoch_ns))
    (then_ok (number_at (codes "cycle_ns") 50000 500000000 d) _ h.cycle_ns _ (number_read (codes "cycle_ns") 50000 500000000 h.cycle_ns d cycle is.cycle_ns)
    (then_ok (number_at (codes "cycles") 1 100000 d) _ h.cycles _ (number_read (codes "cycles") 1 100000 h.cycles d cycles is.cycles) refl)))))))

shape_says : (s : ShapeValue) (d : Data) (ms : Members) (slaves losses : Items) → as_object d ≡ Some ms → head_of d ≡ Ok s.head → items_at (codes "slaves") 256 d ≡ Ok slaves
    → items_if_any (codes "losses") 10000 d ≡ Ok losses → are_among head_keys ms ≡ true
    → rows_after (codes "slaves") (slave_in s.head.version s.head.cycle_ns) [] slaves ≡ Ok s.slaves → rows_after (codes "losses") (loss_in (length s.slaves)) [] losses ≡ Ok s.losses
    → shape_of d ≡ Ok s
unfolding shape_of
shape_says s d ms slaves losses o head slaves_at losses_at known slave_rows loss_rows =
    then_ok (members_at root d) _ ms (Ok s) (object_read d ms _ o)
    (then_ok (head_of d) _ s.head (Ok s) head
    (then_ok (items_at (codes "slaves") 256 d) _ slaves (Ok s) slaves_at
    (then_ok (items_if_any (codes "losses") 10000 d) _ losses (Ok s) losses_at
    (then_ok (only root head_keys ms s.head) _ s.head (Ok s) (only_known root head_keys ms s.head known)
    (then_ok (rows_after (codes "slaves") (slave_in s.head.version s.head.cycle_ns) [] slaves) _ s.slaves (Ok s) slave_rows
    (then_ok (rows_after (codes "losses") (loss_in (length s.slaves)) [] losses) _ s.losses (Ok s) loss_rows refl))))))

shape_read : (s : ShapeValue) → IsFile s → shape_of (file_data s) ≡ Ok s
unfolding file_data head_keys
shape_read s is =
    let es = file_entries s in
    let d = object (members_of es) in
    let version = s.head.version in
    let cycle = s.head.cycle_ns in
    shape_says s d (members_of es) (items_for (slave_data version) s.slaves) (items_for loss_data s.losses) refl
    (head_read d s.head is.head (get_entry (codes "version") es refl) (get_entry (codes "ppm") es refl) (get_entry (codes "frame_ns") es refl) (get_entry (codes "speed") es refl)
    (get_entry (codes "loss_run") es refl) (get_entry (codes "epoch_ns") es refl) (get_entry (codes "cycle_ns") es refl) (get_entry (codes "cycles") es refl))
    (items_read (codes "slaves") 256 (items_for (slave_data version) s.slaves) d (get_entry (codes "slaves") es refl) (omega (arith, is.few_slaves, items_many (slave_data version) s.slaves)))
    (items_read_if_any (codes "losses") 10000 (items_for loss_data s.losses) d (get_entry (codes "losses") es refl) (omega (arith, is.few_losses, items_many loss_data s.losses)))
    (known_keys head_keys es refl)
    (rows_read (codes "slaves") (slave_in version cycle) (slave_data version) [] s.slaves (slaves_read version cycle [] s.slaves is.head.version is.slaves))
    (rows_read (codes "losses") (loss_in (length s.slaves)) loss_data [] s.losses (losses_read (length s.slaves) [] s.losses is.losses is.once))

-- the written value of a file says it
pub file_read : (s : ShapeValue) → IsFile s → file_of (file_data s) ≡ Ok s
unfolding file_of
file_read s is = rw (shape_read s is, is.distinct) refl
