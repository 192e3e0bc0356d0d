-- What Identify tells of the slaves: which of them measure, which are clocks, and whether they can be commissioned.
use Rattle.std.specs.Prelude.{ℕ, ◌==◌, ◌&&◌, Bool, List, length, map, filter, Option, Some, None, Result, Ok, Err}
use Rattle.dc_topology.specs.DlStatus.{bit}
use Rattle.dc_topology.specs.Listed.{Place}
use Rattle.dc_topology.specs.declared.error.TopologyError.{TopologyError}
use Rattle.dc_bounds.specs.Weight.{flag}
use Rattle.dc_delay.specs.Refusals.{first_timed, first_unmeasurable}
use Rattle.dc_delay.specs.ShapeRows.{positions}
use Rattle.master_script.specs.ListedTree.{tree_of}
use Rattle.master_script.specs.declared.step.Refusal.{Refusal}
use Rattle.master_script.specs.declared.step.Refusal.TheVariants.{Topology, NoReference, Unmeasurable}

-- the features and the DL status of a slave, and the counter of the read of its system time
pub record SlaveWords : Type 0 where
  pub features : ℕ
  pub status : ℕ
  pub fourth : ℕ

-- a slave measures where it has distributed clocks
abbrev pub is_measuring : SlaveWords → Bool
is_measuring s = bit s.features 2

-- it is a clock where it measures and has a system time
abbrev pub is_clock : SlaveWords → Bool
is_clock s = is_measuring s && (s.fourth == 1)

-- its times have 64 bits
abbrev pub is_wide : SlaveWords → Bool
is_wide s = bit s.features 3

-- the positions of the slaves that measure, in frame order; there are N_m
abbrev pub measuring : List SlaveWords → List ℕ
measuring ss = filter (flag (map is_measuring ss)) (positions (length ss))

-- the positions of the clocks, in frame order; there are N_c
abbrev pub clocks : List SlaveWords → List ℕ
clocks ss = filter (flag (map is_clock ss)) (positions (length ss))

-- the tree that the slaves list by their statuses, if they list one
abbrev pub tree_told : List SlaveWords → Result (List Place) TopologyError
tree_told ss = tree_of (map (λ (s : SlaveWords). s.status) ss)

-- by the first clock, if there is one, and the first slave that cannot be measured, if there is one
abbrev pub judged_clocks : Option ℕ → Option ℕ → Result ℕ Refusal
judged_clocks None unmeasurable = Err NoReference
judged_clocks (Some reference) (Some position) = Err (Unmeasurable position)
judged_clocks (Some reference) None = Ok reference

-- by the tree of the statuses, if they list one
abbrev pub judged_tree : List SlaveWords → Result (List Place) TopologyError → Result ℕ Refusal
judged_tree ss (Err e) = Err (Topology e)
judged_tree ss (Ok hung) = judged_clocks (first_timed hung (flag (map is_clock ss))) (first_unmeasurable hung (flag (map is_measuring ss)))

-- after the last Identify: Topology, NoReference or Unmeasurable, in this order, or the position of the reference
unfoldable pub judgement : List SlaveWords → Result ℕ Refusal
judgement ss = judged_tree ss (tree_told ss)
