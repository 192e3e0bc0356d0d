-- The datagrams of a drift frame on its way: the first, and those behind it.
use Rattle.std.proofs.Common.{◌≡◌, ℕ, zero, suc, ◌+◌, List, [], ◌∷◌, length, inr, refl, ◌∙◌, arith}
use Rattle.copy_law.specs.Untouched.{WriteNone}
use Rattle.copy_law.proofs.Unwritten.{datagrams_none}
use Rattle.ecat_frame.specs.FrameGrammar.{DatagramValue}
use Rattle.frame_pass.specs.DatagramAtSlave.{datagram_after, slave_after}
use Rattle.frame_pass.specs.FramePass.{at_arrival, datagrams_after, datagrams_behind, datagrams_passed}
use Rattle.frame_pass.specs.SegmentState.{phase_of}
use Rattle.frame_pass.specs.SlaveState.{Slave}
use Rattle.master_script.specs.Config.{ConfigValue}
use Rattle.master_script.specs.Frames.{drift_datagram}
use Rattle.master_script.specs.Steps.{datagrams_of}
use Rattle.master_script.specs.Words.{Words, reference_of}
use Rattle.master_script.specs.declared.step.Step.{Step}
use Rattle.master_script.specs.declared.step.Step.TheVariants.{Count, Identify, Rate, Latch, Times, Set, Settle, Drift, Arm}
use Rattle.loss_list.specs.declared.loss_row.Phase.TheVariants as phase
use Rattle.frame_pass.specs.Aside.{HaveSize}
use Rattle.frame_pass.specs.Drift.{first_behind}
use Rattle.frame_pass.proofs.Exported.{same_size, size_advanced, size_after}

-- the datagrams of a drift frame: the first brings the time, and the others write neither the system time nor the speed
pub record IsDrifting (r : ℕ) (ds : List DatagramValue) : Type 0 where
  pub others : List DatagramValue
  pub are : ds ≡ drift_datagram r ∷ others
  pub time : WriteNone 0x0910 4 others
  pub speed : WriteNone 0x0930 2 others

pub drifting_step : (cfg : ConfigValue) (w : Words) (step : Step) → phase_of (datagrams_of cfg w step) ≡ phase.Drift → IsDrifting (reference_of w) (datagrams_of cfg w step)
drifting_step cfg w Count is = absurd (let x = is in cc)
drifting_step cfg w (Identify p) is = absurd (let x = is in cc)
drifting_step cfg w Rate is = absurd (let x = is in cc)
drifting_step cfg w Latch is = absurd (let x = is in cc)
drifting_step cfg w (Times p) is = absurd (let x = is in cc)
drifting_step cfg w (Set p) is = absurd (let x = is in cc)
drifting_step cfg w Settle is = record { others = []; are = refl; time = tt; speed = tt }
drifting_step cfg w (Drift k) is = record { others = []; are = refl; time = tt; speed = tt }
drifting_step cfg w (Arm p) is = record {
  others = _;
  are = refl;
  time = (inr (inr (omega arith)), (inr (inr (omega arith)), (inr (inr (omega arith)), (inr (inr (omega arith)), tt))));
  speed = (inr (inr (omega arith)), (inr (inr (omega arith)), (inr (inr (omega arith)), (inr (inr (omega arith)), tt))));
}

-- what becomes of the others behind slaves
pub others_behind : ℕ → ℕ → List Slave → DatagramValue → List DatagramValue → List DatagramValue
others_behind zero sent ss d ds = ds
others_behind (suc h) sent [] d ds = ds
others_behind (suc h) sent (s ∷ ss) d ds = others_behind h sent ss (datagram_after (at_arrival sent s) d) (datagrams_after (slave_after (at_arrival sent s) d) ds)

pub cut_behind : (h sent : ℕ) (ss : List Slave) (d : DatagramValue) (ds : List DatagramValue) → datagrams_behind h sent ss (d ∷ ds) ≡ first_behind h sent ss d ∷ others_behind h sent ss d ds
unfolding datagrams_behind datagrams_passed datagrams_after first_behind others_behind
cut_behind zero sent ss d ds = refl
cut_behind (suc h) sent [] d ds = refl
cut_behind (suc h) sent (s ∷ ss) d ds = cut_behind h sent ss (datagram_after (at_arrival sent s) d) (datagrams_after (slave_after (at_arrival sent s) d) ds)

pub others_none : (at n h sent : ℕ) (ss : List Slave) (d : DatagramValue) (ds : List DatagramValue) → HaveSize ss → WriteNone at n ds → WriteNone at n (others_behind h sent ss d ds)
unfolding others_behind
others_none at n zero sent ss d ds sizes none = none
others_none at n (suc h) sent [] d ds sizes none = none
others_none at n (suc h) sent (s ∷ ss) d ds sizes none =
    let a = at_arrival sent s in
    let size = size_advanced (sent + s.visits.arrive) s sizes.0 in
    others_none at n h sent ss (datagram_after a d) (datagrams_after (slave_after a d) ds) sizes.1 (datagrams_none at n (slave_after a d) ds (size_after a d size) none)

-- the first is of the same registers everywhere
same_ado : (s : Slave) (d : DatagramValue) → (datagram_after s d).head.ado ≡ d.head.ado
unfolding datagram_after
same_ado s d = refl

pub record IsLike (d e : DatagramValue) : Type 0 where
  pub ado : e.head.ado ≡ d.head.ado
  pub size : length e.payload ≡ length d.payload

pub first_like : (h sent : ℕ) (ss : List Slave) (d : DatagramValue) → HaveSize ss → IsLike d (first_behind h sent ss d)
unfolding first_behind
first_like zero sent ss d sizes = record { ado = refl; size = refl }
first_like (suc h) sent [] d sizes = record { ado = refl; size = refl }
first_like (suc h) sent (s ∷ ss) d sizes =
    let a = at_arrival sent s in
    let rest = first_like h sent ss (datagram_after a d) sizes.1 in
    record { ado = rest.ado ∙ same_ado a d; size = rest.size ∙ same_size a d (size_advanced (sent + s.visits.arrive) s sizes.0) }
