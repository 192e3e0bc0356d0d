-- A property of slaves that time, writes and port latches keep is kept by frames.
use Rattle.std.proofs.Common.{◌≡◌, ℕ, zero, suc, ◌+◌, ◌≤◌, List, [], ◌∷◌, Option, Some, None, Bool, true, false, refl, arith}
use Rattle.std.specs.Prelude.{IfSome}
use Rattle.std.specs.List.{AllByRecursion}
use Rattle.ecat_frame.specs.FrameGrammar.{DatagramValue}
use Rattle.frame_pass.specs.SlaveState.{Visits, Slave, on_measuring}
use Rattle.frame_pass.specs.Advancing.{advanced_to}
use Rattle.frame_pass.specs.WriteEffects.{wrote}
use Rattle.frame_pass.specs.DatagramTable.{writes}
use Rattle.frame_pass.specs.DatagramAtSlave.{slave_after, doing}
use Rattle.frame_pass.specs.FramePass.{slave_behind, port_latched, port_taken, ports_taken, comes_by, at_arrival, when_latching, are_latching, slave_passed, slaves_passed, datagrams_passed}

-- a frame that was sent then visits the slave at times with T
pub record IsVisited (T : ℕ → Type 0) (sent : ℕ) (v : Visits) : Type 0 where
  pub arrive : T (sent + v.arrive)
  pub back3 : IfSome v.back3 (λ at. T (sent + at))
  pub back1 : IfSome v.back1 (λ at. T (sent + at))
  pub back2 : IfSome v.back2 (λ at. T (sent + at))

-- what happens to a slave at times with T keeps P
pub record Keeps (T : ℕ → Type 0) (P : Slave → Type 0) : Type 0 where
  pub advances : (t : ℕ) (s : Slave) → T t → P s → P (advanced_to t s)
  pub writes : (addr : ℕ) (bytes : List ℕ) (s : Slave) → P s → P (wrote addr bytes s)
  pub latches : (addr : ℕ) (s : Slave) → addr + 4 ≤ 4096 → P s → P (on_measuring (port_latched addr) s)

pub kept_after : (T : ℕ → Type 0) (P : Slave → Type 0) → Keeps T P → (s : Slave) (d : DatagramValue) → P s → P (slave_after s d)
unfolding slave_after
kept_after T P k s d h = by (writes (doing s d)) refl
  where
    by : (b : Bool) → writes (doing s d) ≡ b → P (slave_after s d)
    by true e = rw e (k.writes d.head.ado d.payload s h)
    by false e = rw e h

pub kept_behind : (T : ℕ → Type 0) (P : Slave → Type 0) → Keeps T P → (s : Slave) (ds : List DatagramValue) → P s → P (slave_behind s ds)
unfolding slave_behind
kept_behind T P k s [] h = h
kept_behind T P k s (d ∷ ds) h = kept_behind T P k (slave_after s d) ds (kept_after T P k s d h)

pub kept_port : (T : ℕ → Type 0) (P : Slave → Type 0) → Keeps T P → (sent : ℕ) (end : Option ℕ) (addr : ℕ) → addr + 4 ≤ 4096 → (o : Option ℕ) → IfSome o (λ at. T (sent + at))
    → (s : Slave) → P s → P (port_taken sent end addr o s)
unfolding port_taken
kept_port T P k sent end addr room None v s h = h
kept_port T P k sent end addr room (Some at) v s h = by (comes_by end at) refl
  where
    by : (b : Bool) → comes_by end at ≡ b → P (port_taken sent end addr (Some at) s)
    by true e = rw e (k.latches addr (advanced_to (sent + at) s) room (k.advances (sent + at) s v h))
    by false e = rw e h

kept_ports : (T : ℕ → Type 0) (P : Slave → Type 0) → Keeps T P → (sent : ℕ) (end : Option ℕ) (b : Bool) (s : Slave) → IsVisited T sent s.visits → P s
    → P (when_latching b sent end s)
unfolding ports_taken
kept_ports T P k sent end false s v h = h
kept_ports T P k sent end true s v h =
    kept_port T P k sent end 0x0908 (omega arith) s.visits.back2 v.back2 _
    (kept_port T P k sent end 0x0904 (omega arith) s.visits.back1 v.back1 _
    (kept_port T P k sent end 0x090C (omega arith) s.visits.back3 v.back3 s h))

pub kept_passed : (T : ℕ → Type 0) (P : Slave → Type 0) → Keeps T P → (sent : ℕ) (end : Option ℕ) → ((s : Slave) → P s → IsVisited T sent s.visits)
    → (s : Slave) (ds : List DatagramValue) → P s → P (slave_passed sent end s ds)
unfolding slave_passed
kept_passed T P k sent end visit s ds h =
    let there = k.advances (sent + s.visits.arrive) s (visit s h).arrive h in
    let behind = kept_behind T P k (at_arrival sent s) ds there in
    kept_ports T P k sent end (are_latching (at_arrival sent s) ds) (slave_behind (at_arrival sent s) ds) (visit _ behind) behind

pub kept_by_all : (T : ℕ → Type 0) (P : Slave → Type 0) → Keeps T P → (sent : ℕ) (end : Option ℕ) → ((s : Slave) → P s → IsVisited T sent s.visits)
    → (h : ℕ) (ss : List Slave) (ds : List DatagramValue) → AllByRecursion P ss → AllByRecursion P (slaves_passed h sent end ss ds)
unfolding slaves_passed
kept_by_all T P k sent end visit zero ss ds a = a
kept_by_all T P k sent end visit (suc h) [] ds a = a
kept_by_all T P k sent end visit (suc h) (s ∷ ss) ds a =
    (kept_passed T P k sent end visit s ds a.0, kept_by_all T P k sent end visit h ss (datagrams_passed sent s ds) a.1)
