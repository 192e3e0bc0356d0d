-- One visit of a frame after commissioning: the frame of Arm at its clock, and any frame that activates nothing.
use Rattle.std.proofs.Common.{◌≡◌, ◌≢◌, ℕ, ◌+◌, ◌%◌, ◌^◌, ◌<◌, ◌≤◌, Bool, true, false, List, [], ◌∷◌, ◌++◌, Option, Some, None, refl, sym, ap, subst, arith, inl, inr}
use Rattle.std.specs.Prelude.{slice_get, ◌==◌}
use Rattle.std.proofs.lemmas.Bool.Decides.{nat_tests}
use Rattle.ecat_frame.specs.FrameGrammar.{DatagramValue}
use Rattle.edge_law.proofs.ArmingDatagrams.{IsPlan, activates_there, armed_there, arms_there, before_arm, five}
use Rattle.esc_regs.specs.Kinds.{has_clock}
use Rattle.esc_regs.specs.RegisterTable.{is_wide}
use Rattle.esc_regs.specs.declared.clock_kind.ClockKind.{ClockKind}
use Rattle.frame_pass.specs.Arming.{armed_from}
use Rattle.frame_pass.specs.Aside.{AreAside, HaveSize}
use Rattle.frame_pass.specs.ClockHistory.{HasHistory, events_passed}
use Rattle.frame_pass.specs.Copies.{HasCopies}
use Rattle.frame_pass.specs.DatagramAtSlave.{slave_after}
use Rattle.frame_pass.specs.FramePass.{are_latching, at_arrival, datagrams_behind, slave_behind, slave_passed}
use Rattle.frame_pass.specs.PlainRegisters.{AreLeft}
use Rattle.frame_pass.specs.SlaveState.{Slave, Timing, width}
use Rattle.frame_pass.specs.UnitHistory.{HasRun, are_activating, calls_passed, calls_to}
use Rattle.frame_pass.specs.Advancing.{advanced_to}
use Rattle.frame_pass.proofs.Exported.{HasSize, armed_passed, aside_behind, frame_copies, left_by, never_activating, never_latching, run_advanced, run_passed, start_copies, time_copies}
use Rattle.honest_slaves.specs.Mindful.{AreMindful}
use Rattle.honest_slaves.specs.Standing.{Stands, own_address}
use Rattle.honest_slaves.specs.Told.{AreInOrder}
use Rattle.honest_slaves.proofs.Exported.{stands_at}
use Rattle.local_clock.specs.Reading.{Clock, Happening}
use Rattle.master_script.specs.Frames.{activation, arm_datagrams}
use Rattle.osc_clock.specs.Ticks.{IsRunning}
use Rattle.sync_units.specs.Calls.{Call}
use Rattle.sync_units.specs.KeptEdges.{empty_list}
use Rattle.sync_units.specs.SyncRule.{Armed, armed_by}

-- The unit of a slave was armed so at an instant, and then no edge was kept. What it is now, and raised since, is what these calls made of
-- it, with the copies of a history.
pub record RunsSince (w : ℕ) (c : Clock) (start keep : ℕ) (first : Armed) (events : List Happening) (v : Slave) : Type 0 where
  pub calls : List Call
  pub unit : HasRun w c.osc start (Some first) (empty_list keep) calls v
  pub copies : HasCopies w c events start calls v

-- a run without calls begins at the present time of its slave
begins_copies : (w : ℕ) (c : Clock) (events : List Happening) (start keep : ℕ) (unit : Armed) (v : Slave) (o : Option Timing) → v.timing ≡ o → HasRun w c.osc start (Some unit) (empty_list keep) [] v
    → HasCopies w c events start [] v
begins_copies w c events start keep unit v None is h = record { in_turn = tt; end = rw is tt; copies = λ k some few. absurd (omega (arith, some, few)) }
begins_copies w c events start keep unit v (Some m) is h =
    let now : start ≡ m.clock.instant = (let k = (rw is at h) in k.end) in
    subst (λ t. HasCopies w c events t [] v) (sym now) (start_copies w c events v m is)

-- a frame that activates nothing there, and leaves the offset, carries it on
pub quiet_visit : (w : ℕ) (c : Clock) (start keep : ℕ) (unit : Armed) (events : List Happening) (sent : ℕ) (end : Option ℕ) (v : Slave) (m : Timing) (ds : List DatagramValue) → IsRunning c.osc → v.timing ≡ Some m
    → HasSize v.registers → m.clock.instant ≤ sent + v.visits.arrive → AreLeft 0x0981 1 (at_arrival sent v) ds → AreLeft 0x0920 8 (at_arrival sent v) ds → HasHistory w c events v
    → RunsSince w c start keep unit events v → RunsSince w c start keep unit (events ++ events_passed sent v ds) (slave_passed sent end v ds)
quiet_visit w c start keep unit events sent end v m ds runs is size early quiet far history h = record {
  calls = h.calls ++ calls_passed sent end v ds;
  unit = run_passed w c.osc start (Some unit) (empty_list keep) h.calls sent end v ds (never_activating (at_arrival sent v) ds quiet) h.unit;
  copies = frame_copies w c events start h.calls sent end v m ds runs is size early far history h.copies;
}

-- so does time
pub later_visit : (w : ℕ) (c : Clock) (start keep : ℕ) (unit : Armed) (events : List Happening) (t : ℕ) (v : Slave) (m : Timing) → IsRunning c.osc → v.timing ≡ Some m → HasSize v.registers → HasHistory w c events v
    → RunsSince w c start keep unit events v → RunsSince w c start keep unit events (advanced_to t v)
later_visit w c start keep unit events t v m runs is size history h = record {
  calls = h.calls ++ calls_to t v;
  unit = run_advanced w c.osc start (Some unit) (empty_list keep) h.calls t v h.unit;
  copies = time_copies w c events start h.calls t v m runs is size history h.copies;
}

-- Arm leaves these places at every slave, and the activation at every slave but its own
arm_aside : (at n own r p cycle x : ℕ) (wide : Bool) (sync1 : Option ℕ) → at + n ≤ 0x0910 → AreAside at n own (arm_datagrams r p wide cycle sync1 x)
arm_aside at n own r p cycle x wide sync1 low =
    (inr (inr (inr (omega (arith, low)))), (inr (inr (inr (omega (arith, low)))), (inr (inr (inr (omega (arith, low)))), (inr (inr (inr (omega (arith, low)))), (inr (inr (inr (omega (arith, low)))), tt)))))

offset_aside : (own r p cycle x : ℕ) (wide : Bool) (sync1 : Option ℕ) → AreAside 0x0920 8 own (arm_datagrams r p wide cycle sync1 x)
offset_aside own r p cycle x wide sync1 =
    (inr (inr (inl (omega arith))), (inr (inr (inr (omega arith))), (inr (inr (inr (omega arith))), (inr (inr (inr (omega arith))), (inr (inr (inr (omega arith))), tt)))))

differ : (a b : ℕ) → (a ≡ b → ⊥) → (a == b) ≡ false
differ a b far = grind (arith, nat_tests, far)

another : (p q : ℕ) → q ≢ p → (own_address p == own_address q) ≡ false
another p q other = differ (own_address p) (own_address q) (λ e. other (omega (arith, e)))

activation_aside : (p q r cycle x : ℕ) (wide : Bool) (sync1 : Option ℕ) → q ≢ p → AreAside 0x0981 1 (own_address q) (arm_datagrams r p wide cycle sync1 x)
activation_aside p q r cycle x wide sync1 other =
    let far = another p q other in
    (inr (inr (inl (omega arith))), (inr (inl (refl, far)), (inr (inl (refl, far)), (inr (inl (refl, far)), (inr (inl (refl, far)), tt)))))

-- what a frame of Arm leaves of a slave that has its station address
module _ (k : ClockKind) (status q sent : ℕ) (ss : List Slave) (sizes : HaveSize ss) (v : Slave) (stands : Stands k status true q v) (r p cycle x : ℕ) (wide : Bool) (sync1 : Option ℕ) where
  abbrev come : List DatagramValue
  come = datagrams_behind q sent ss (arm_datagrams r p wide cycle sync1 x)

  left : (at n : ℕ) → AreAside at n (own_address q) (arm_datagrams r p wide cycle sync1 x) → AreLeft at n (at_arrival sent v) come
  left at n aside =
      let h = stands_at k status true q (sent + v.visits.arrive) v stands in
      left_by at n (own_address q) (at_arrival sent v) come h.slave.size h.address (aside_behind at n (own_address q) q sent ss (arm_datagrams r p wide cycle sync1 x) sizes aside)
      (aside_behind 0x0010 2 (own_address q) q sent ss (arm_datagrams r p wide cycle sync1 x) sizes (arm_aside 0x0010 2 (own_address q) r p cycle x wide sync1 (omega arith)))

  pub unlatched : are_latching (at_arrival sent v) come ≡ false
  unlatched = never_latching (at_arrival sent v) come (left 0x0900 4 (arm_aside 0x0900 4 (own_address q) r p cycle x wide sync1 (omega arith)))

  pub offset_left : AreLeft 0x0920 8 (at_arrival sent v) come
  offset_left = left 0x0920 8 (offset_aside (own_address q) r p cycle x wide sync1)

  pub activation_left : q ≢ p → AreLeft 0x0981 1 (at_arrival sent v) come
  activation_left other = left 0x0981 1 (activation_aside p q r cycle x wide sync1 other)

-- nothing comes after the last datagram
none_activates : (u : Slave) → are_activating u [] ≡ false
unfolding are_activating
none_activates u = refl

-- At its own clock the frame arms the unit, as the plan says, at its arrival.
module _ (kinds : ℕ → ClockKind) (statuses : ℕ → ℕ) (n sent : ℕ) (ss : List Slave) (sizes : HaveSize ss) (are : AreInOrder kinds statuses n n ss) (p : ℕ) (v : Slave) (there : slice_get ss p ≡ Some v)
    (stands : Stands (kinds p) (statuses p) true p v) (clock : has_clock (kinds p) ≡ true) (r cycle x : ℕ) (sync1 : Option ℕ)
    (mindful : AreMindful 0 (arm_datagrams r p (is_wide (kinds p)) cycle sync1 x)) (least_cycle : 1000 ≤ cycle) (fits : cycle < 2 ^ 32) (plan : IsPlan cycle sync1) where
  abbrev arriving : List DatagramValue
  arriving = datagrams_behind p sent ss (arm_datagrams r p (is_wide (kinds p)) cycle sync1 x)

  abbrev planned : Armed
  planned = armed_by (width (kinds p)) (x % 2 ^ width (kinds p)) cycle sync1

  pub armed_visit : (end : Option ℕ) (m : Timing) → v.timing ≡ Some m → m.clock.instant ≤ sent + v.visits.arrive
      → HasRun (width (kinds p)) m.clock.osc (sent + v.visits.arrive) (Some planned) (empty_list m.edges.keep) [] (slave_passed sent end v arriving)
  armed_visit end m is early =
      let f = five kinds statuses n sent ss are p v there clock r cycle x sync1 mindful in
      let first = before_arm kinds statuses n sent ss are p v there clock r cycle x sync1 mindful in
      let none : are_latching (at_arrival sent v) (first ++ f.arm ∷ []) ≡ false =
      subst (λ es. are_latching (at_arrival sent v) es ≡ false) f.are (unlatched (kinds p) (statuses p) p sent ss sizes v stands r p cycle x (is_wide (kinds p)) sync1) in
      let run = armed_passed (activation sync1) sent end v m first f.arm [] is stands.slave.size early none
      (activates_there kinds statuses n sent ss are p v there clock r cycle x sync1 mindful)
      (none_activates (slave_after (slave_behind (at_arrival sent v) first) f.arm))
      (arms_there kinds statuses n sent ss are p v there clock r cycle x sync1 mindful least_cycle fits plan) in
      let unit : armed_from (activation sync1) (slave_after (slave_behind (at_arrival sent v) first) f.arm).registers ≡ planned =
      armed_there kinds statuses n sent ss are p v there clock r cycle x sync1 mindful least_cycle fits plan in
      let kind : width v.registers.kind ≡ width (kinds p) = ap width stands.slave.kind_is in
      subst (λ es. HasRun (width (kinds p)) m.clock.osc (sent + v.visits.arrive) (Some planned) (empty_list m.edges.keep) [] (slave_passed sent end v es)) (sym f.are)
      (subst (λ a. HasRun (width (kinds p)) m.clock.osc (sent + v.visits.arrive) (Some a) (empty_list m.edges.keep) [] (slave_passed sent end v (first ++ f.arm ∷ []))) unit
      (subst (λ w. HasRun w m.clock.osc (sent + v.visits.arrive) (Some (armed_from (activation sync1) (slave_after (slave_behind (at_arrival sent v) first) f.arm).registers)) (empty_list m.edges.keep) []
      (slave_passed sent end v (first ++ f.arm ∷ []))) kind run))

  -- and its copies begin there
  pub own_visit : (c : Clock) (keep : ℕ) (events : List Happening) (end : Option ℕ) (m : Timing) → v.timing ≡ Some m → m.clock.instant ≤ sent + v.visits.arrive → m.clock.osc ≡ c.osc → m.edges.keep ≡ keep
      → RunsSince (width (kinds p)) c (sent + v.visits.arrive) keep planned events (slave_passed sent end v arriving)
  own_visit c keep events end m is early osc keeps =
      let u = slave_passed sent end v arriving in
      let run : HasRun (width (kinds p)) c.osc (sent + v.visits.arrive) (Some planned) (empty_list keep) [] u =
      subst (λ o. HasRun (width (kinds p)) o (sent + v.visits.arrive) (Some planned) (empty_list keep) [] u) osc
      (subst (λ j. HasRun (width (kinds p)) m.clock.osc (sent + v.visits.arrive) (Some planned) (empty_list j) [] u) keeps (armed_visit end m is early)) in
      record { calls = []; unit = run; copies = begins_copies (width (kinds p)) c events (sent + v.visits.arrive) keep planned u u.timing refl run }
