-- The told unit and its edges are those of its calls.
use Rattle.std.proofs.Common.{◌≡◌, ℕ, ◌+◌, ◌≤◌, List, [], ◌∷◌, ◌++◌, Option, Some, None, Bool, true, false, ◌||◌, nat_le, refl, sym, ap, ap₂, ◌∙◌, arith, append_assoc}
use Rattle.std.specs.Prelude.{IfSome}
use Rattle.std.specs.Option.{is_some}
use Rattle.std.proofs.lemmas.Bool.Decides.{nat_tests}
use Rattle.std.proofs.lemmas.List.{append-nil}
use Rattle.ecat_frame.specs.FrameGrammar.{DatagramValue}
use Rattle.osc_clock.specs.Ticks.{Oscillator}
use Rattle.sync_units.specs.Calls.{Call, AreInTurn, end_of, unit_after_calls, list_after_calls}
use Rattle.sync_units.specs.Interval.{unit_at, edges_to}
use Rattle.sync_units.specs.KeptEdges.{Kept, put_all}
use Rattle.sync_units.specs.SyncRule.{Armed}
use Rattle.esc_regs.specs.declared.answers.Written.{Written}
use Rattle.esc_regs.specs.RegisterFile.{Registers}
use Rattle.esc_regs.specs.RegisterWrite.{written, told}
use Rattle.esc_regs.proofs.Exported.{written_kind}
use Rattle.frame_pass.specs.SlaveState.{Timing, Measuring, Slave, width, width_of, offset, on_measuring_of}
use Rattle.latch_unit.specs.Stamp.{stamp_by}
use Rattle.frame_pass.specs.Advancing.{advanced_to, measuring_at, ticked_to}
use Rattle.frame_pass.specs.WriteEffects.{latched, compared, reset_by, activated, affected, wrote}
use Rattle.frame_pass.specs.DatagramTable.{writes}
use Rattle.frame_pass.specs.DatagramAtSlave.{doing, slave_after}
use Rattle.frame_pass.specs.FramePass.{slave_behind, port_latched, port_taken, ports_taken, comes_by, at_arrival, are_latching, slave_passed}
use Rattle.frame_pass.specs.UnitHistory.{calls_until, calls_on, calls_to, calls_of_port, calls_of_ports, calls_passed, is_activating, are_activating, IsRun, HasRun}
use Rattle.frame_pass.proofs.History.{kind_of_stamped}

-- one call more, at the end
turn_more : (o : Oscillator) (t : ℕ) (cs : List Call) (c : Call) → AreInTurn o t cs → c.clock.osc ≡ o → c.clock.instant ≡ end_of t cs → end_of t cs ≤ c.until
    → AreInTurn o t (cs ++ c ∷ [])
turn_more o t [] c turn osc at late = (osc, at, late, tt)
turn_more o t (d ∷ cs) c turn osc at late = (turn.0, turn.1, turn.2, turn_more o d.until cs c turn.3 osc at late)

end_more : (t : ℕ) (cs : List Call) (c : Call) → end_of t (cs ++ c ∷ []) ≡ c.until
end_more t [] c = refl
end_more t (d ∷ cs) c = end_more d.until cs c

unit_more : (w : ℕ) (cs : List Call) (c : Call) (u : Option Armed) → unit_after_calls w (cs ++ c ∷ []) u ≡ unit_at w c.clock c.offset c.until (unit_after_calls w cs u)
unit_more w [] c u = refl
unit_more w (d ∷ cs) c u = unit_more w cs c (unit_at w d.clock d.offset d.until u)

list_more : (w : ℕ) (cs : List Call) (c : Call) (u : Option Armed) (l : Kept)
    → list_after_calls w (cs ++ c ∷ []) u l ≡ put_all (edges_to w c.clock c.offset c.until (unit_after_calls w cs u)) (list_after_calls w cs u l)
list_more w [] c u l = refl
list_more w (d ∷ cs) c u l = list_more w cs c (unit_at w d.clock d.offset d.until u) (put_all (edges_to w d.clock d.offset d.until u) l)

-- what all of the below is about
pub record Since : Type 0 where
  pub bits : ℕ
  pub osc : Oscillator
  pub start : ℕ
  pub unit : Option Armed
  pub edges : Kept

abbrev pub Goes : Since → List Call → Measuring → Type 0
Goes x cs m = IsRun x.bits x.osc x.start x.unit x.edges cs m

abbrev pub Has : Since → List Call → Slave → Type 0
Has x cs s = HasRun x.bits x.osc x.start x.unit x.edges cs s

goes_time : (x : Since) (cs : List Call) (t : ℕ) (m : Measuring) → Goes x cs m → Goes x (cs ++ calls_until t m) (measuring_at t m)
unfolding measuring_at ticked_to
goes_time x cs t m h = by (nat_le m.timing.clock.instant t) refl
  where
    by : (b : Bool) → nat_le m.timing.clock.instant t ≡ b → Goes x (cs ++ calls_until t m) (measuring_at t m)
    by true e =
        let late : m.timing.clock.instant ≤ t = grind (arith, nat_tests, e) in
        let c : Call = record { clock = m.timing.clock; offset = offset m.registers; until = t } in
        rw e (record {
          width = ap width (kind_of_stamped (stamp_by (width_of m) m.timing.clock (offset m.registers) t m.timing.event) m.registers) ∙ h.width;
          oscillator = h.oscillator;
          in_turn = turn_more x.osc x.start cs c h.in_turn h.oscillator (sym h.end) (omega (arith, h.end, late));
          end = end_more x.start cs c;
          unit_is = ap (λ w. unit_at w c.clock c.offset t m.timing.unit) h.width ∙ ap (unit_at x.bits c.clock c.offset t) h.unit_is ∙ sym (unit_more x.bits cs c x.unit);
          edges_are = ap (λ w. put_all (edges_to w c.clock c.offset t m.timing.unit) m.timing.edges) h.width
              ∙ ap₂ (λ u l. put_all (edges_to x.bits c.clock c.offset t u) l) h.unit_is h.edges_are ∙ sym (list_more x.bits cs c x.unit x.edges);
        })
    by false e = rw (e, append-nil cs) h

goes_latched : (x : Since) (cs : List Call) (b : Bool) (m : Measuring) → Goes x cs m → Goes x cs (latched b m)
unfolding latched
goes_latched x cs true m h =
    record { width = h.width; oscillator = h.oscillator; in_turn = h.in_turn; end = h.end; unit_is = h.unit_is; edges_are = h.edges_are }
goes_latched x cs false m h = h

goes_compared : (x : Since) (cs : List Call) (o : Option ℕ) (m : Measuring) → Goes x cs m → Goes x cs (compared o m)
unfolding compared
goes_compared x cs (Some r) m h =
    record { width = h.width; oscillator = h.oscillator; in_turn = h.in_turn; end = h.end; unit_is = h.unit_is; edges_are = h.edges_are }
goes_compared x cs None m h = h

goes_reset : (x : Since) (cs : List Call) (o : Option ℕ) (m : Measuring) → Goes x cs m → Goes x cs (reset_by o m)
unfolding reset_by
goes_reset x cs (Some r) m h =
    record { width = h.width; oscillator = h.oscillator; in_turn = h.in_turn; end = h.end; unit_is = h.unit_is; edges_are = h.edges_are }
goes_reset x cs None m h = h

goes_activated : (x : Since) (cs : List Call) (o : Option ℕ) (m : Measuring) → o ≡ None → Goes x cs m → Goes x cs (activated o m)
unfolding activated
goes_activated x cs None m e h = h
goes_activated x cs (Some byte) m e h = absurd (let z = e in cc)

goes_affected : (x : Since) (cs : List Call) (tells : Written) (m : Measuring) → tells.activation ≡ None → Goes x cs m → Goes x cs (affected tells m)
goes_affected x cs tells m e h =
    goes_activated x cs tells.activation _ e (goes_reset x cs tells.rate _ (goes_compared x cs tells.received _ (goes_latched x cs tells.latched m h)))

-- what keeps the calls of a measuring slave keeps those of the slave
on_slave : (x : Since) (cs : List Call) (f : Measuring → Measuring) (s : Slave) (o : Option Timing) → s.timing ≡ o
    → ((m : Measuring) → Goes x cs m → Goes x cs (f m)) → Has x cs s → Has x cs (on_measuring_of f s o)
on_slave x cs f s None e keep h = h
on_slave x cs f s (Some t) e keep h =
    let now : Goes x cs (record { registers = s.registers; timing = t }) = (rw e at h) in
    keep (record { registers = s.registers; timing = t }) now

has_written : (x : Since) (cs : List Call) (r : Registers) (v : Slave) (o : Option Timing) → v.timing ≡ o → r.kind ≡ v.registers.kind → Has x cs v
    → IfSome o (λ m. Goes x cs (record { registers = r; timing = m }))
has_written x cs r v None e kind h = tt
has_written x cs r v (Some t) e kind h =
    let now : Goes x cs (record { registers = v.registers; timing = t }) = (rw e at h) in
    record { width = rw kind now.width; oscillator = now.oscillator; in_turn = now.in_turn; end = now.end; unit_is = now.unit_is; edges_are = now.edges_are }

has_wrote : (x : Since) (cs : List Call) (addr : ℕ) (bytes : List ℕ) (s : Slave) → (told s.registers.kind addr bytes).activation ≡ None → Has x cs s → Has x cs (wrote addr bytes s)
unfolding wrote
has_wrote x cs addr bytes s e h =
    let r = written s.registers addr bytes in
    on_slave x cs (affected (told s.registers.kind addr bytes)) (record s { registers = r }) s.timing refl
    (λ m k. goes_affected x cs (told s.registers.kind addr bytes) m e k)
    (has_written x cs r s s.timing refl (written_kind s.registers addr bytes) h)

none_told : (o : Option ℕ) → is_some o ≡ false → o ≡ None
none_told None e = refl
none_told (Some n) e = absurd (let z = e in cc)

has_datagram : (x : Since) (cs : List Call) (s : Slave) (d : DatagramValue) → is_activating s d ≡ false → Has x cs s → Has x cs (slave_after s d)
unfolding is_activating slave_after
has_datagram x cs s d e h = by (writes (doing s d)) refl
  where
    by : (b : Bool) → writes (doing s d) ≡ b → Has x cs (slave_after s d)
    by true w = rw w (has_wrote x cs d.head.ado d.payload s (none_told _ (rw w at e)) h)
    by false w = rw w h

neither : (a b : Bool) → (a || b) ≡ false → (a ≡ false) × (b ≡ false)
neither false b e = (refl, e)
neither true b e = absurd (let z = e in cc)

has_datagrams : (x : Since) (cs : List Call) (s : Slave) (ds : List DatagramValue) → are_activating s ds ≡ false → Has x cs s → Has x cs (slave_behind s ds)
unfolding are_activating slave_behind
has_datagrams x cs s [] e h = h
has_datagrams x cs s (d ∷ ds) e h =
    let both = neither (is_activating s d) (are_activating (slave_after s d) ds) e in
    has_datagrams x cs (slave_after s d) ds both.1 (has_datagram x cs s d both.0 h)

has_time_of : (x : Since) (cs : List Call) (t : ℕ) (s : Slave) (o : Option Timing) → s.timing ≡ o → Has x cs s
    → Has x (cs ++ calls_on t s.registers o) (on_measuring_of (measuring_at t) s o)
has_time_of x cs t s None e h = rw e tt
has_time_of x cs t s (Some m) e h =
    let now : Goes x cs (record { registers = s.registers; timing = m }) = (rw e at h) in
    goes_time x cs t (record { registers = s.registers; timing = m }) now

has_time : (x : Since) (cs : List Call) (t : ℕ) (s : Slave) → Has x cs s → Has x (cs ++ calls_to t s) (advanced_to t s)
unfolding advanced_to
has_time x cs t s h = has_time_of x cs t s s.timing refl h

has_port : (x : Since) (cs : List Call) (sent : ℕ) (end : Option ℕ) (addr : ℕ) (o : Option ℕ) (s : Slave) → Has x cs s
    → Has x (cs ++ calls_of_port sent end o s) (port_taken sent end addr o s)
unfolding port_taken
has_port x cs sent end addr None s h = rw (append-nil cs) h
has_port x cs sent end addr (Some at) s h = by (comes_by end at) refl
  where
    by : (b : Bool) → comes_by end at ≡ b → Has x (cs ++ calls_of_port sent end (Some at) s) (port_taken sent end addr (Some at) s)
    by true e =
        let a = advanced_to (sent + at) s in
        rw e (on_slave x (cs ++ calls_to (sent + at) s) (port_latched addr) a a.timing refl
        (λ m i. record { width = i.width; oscillator = i.oscillator; in_turn = i.in_turn; end = i.end; unit_is = i.unit_is; edges_are = i.edges_are })
        (has_time x cs (sent + at) s h))
    by false e = rw (e, append-nil cs) h

has_ports : (x : Since) (cs : List Call) (sent : ℕ) (end : Option ℕ) (s : Slave) → Has x cs s → Has x (cs ++ calls_of_ports sent end s) (ports_taken sent end s)
unfolding calls_of_ports ports_taken
has_ports x cs sent end s h =
    let s3 = port_taken sent end 0x090C s.visits.back3 s in
    let s1 = port_taken sent end 0x0904 s.visits.back1 s3 in
    let a = calls_of_port sent end s.visits.back3 s in
    let b = calls_of_port sent end s.visits.back1 s3 in
    let c = calls_of_port sent end s.visits.back2 s1 in
    let list : ((cs ++ a) ++ b) ++ c ≡ cs ++ (a ++ (b ++ c)) = append_assoc (cs ++ a) b c ∙ append_assoc cs a (b ++ c) in
    rw (← list) (has_port x ((cs ++ a) ++ b) sent end 0x0908 s.visits.back2 s1
    (has_port x (cs ++ a) sent end 0x0904 s.visits.back1 s3 (has_port x cs sent end 0x090C s.visits.back3 s h)))

pub run_passed : (w : ℕ) (o : Oscillator) (start : ℕ) (unit : Option Armed) (edges : Kept) (calls : List Call) (sent : ℕ) (end : Option ℕ) (s : Slave) (ds : List DatagramValue)
    → are_activating (at_arrival sent s) ds ≡ false → HasRun w o start unit edges calls s
    → HasRun w o start unit edges (calls ++ calls_passed sent end s ds) (slave_passed sent end s ds)
unfolding calls_passed slave_passed
run_passed w o start unit edges cs sent end s ds quiet h = by (are_latching a ds) refl
  where
    x : Since
    x = record { bits = w; osc = o; start = start; unit = unit; edges = edges }

    a : Slave
    a = at_arrival sent s

    first : List Call
    first = calls_to (sent + s.visits.arrive) s

    there : Has x (cs ++ first) (slave_behind a ds)
    there = has_datagrams x (cs ++ first) a ds quiet (has_time x cs (sent + s.visits.arrive) s h)

    by : (b : Bool) → are_latching a ds ≡ b → HasRun w o start unit edges (cs ++ calls_passed sent end s ds) (slave_passed sent end s ds)
    by true e = rw (e, ← append_assoc cs first (calls_of_ports sent end (slave_behind a ds))) (has_ports x (cs ++ first) sent end (slave_behind a ds) there)
    by false e = rw (e, append-nil first) there

pub run_advanced : (w : ℕ) (o : Oscillator) (start : ℕ) (unit : Option Armed) (edges : Kept) (calls : List Call) (t : ℕ) (s : Slave)
    → HasRun w o start unit edges calls s → HasRun w o start unit edges (calls ++ calls_to t s) (advanced_to t s)
run_advanced w o start unit edges calls t s h = has_time (record { bits = w; osc = o; start = start; unit = unit; edges = edges }) calls t s h

pub run_start : (w : ℕ) (s : Slave) (m : Timing) → s.timing ≡ Some m → width s.registers.kind ≡ w → HasRun w m.clock.osc m.clock.instant m.unit m.edges [] s
run_start w s m e wide = rw e (record { width = wide; oscillator = refl; in_turn = tt; end = refl; unit_is = refl; edges_are = refl })
