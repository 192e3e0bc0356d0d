-- Why statuses list no tree.
use Rattle.std.specs.Prelude.{◌≡◌, ℕ, ◌<◌, ◌≤◌, true, false, List, length, take, slice_index}
use Rattle.dc_topology.specs.declared.error.TopologyError.{TopologyError}
use Rattle.dc_topology.specs.declared.error.TopologyError.TheVariants.{BadStatus, Surplus, Missing}
use Rattle.dc_topology.specs.DlStatus.{is_formed}
use Rattle.dc_topology.specs.Listed.{Place, Lists}

-- the first k statuses list a tree
abbrev pub ListsFront : List ℕ → ℕ → Type 0
ListsFront statuses k = (hung : List Place) × Lists (take k statuses) hung

-- no front of 1 to k statuses does
abbrev pub ListsNoFront : List ℕ → ℕ → Type 0
ListsNoFront statuses k = (j : ℕ) → 1 ≤ j → j ≤ k → ¬ ListsFront statuses j

-- the first k statuses are well formed
abbrev pub AreFormed : List ℕ → ℕ → Type 0
AreFormed statuses k = (j : ℕ) → j < k → is_formed (slice_index statuses j) ≡ true

-- Surplus: a front lists a tree, and another status follows. BadStatus: the first status that is not well formed, where no
-- front up to it lists a tree. Missing: all are well formed, and none of the fronts lists a tree, nor all of them
abbrev pub IsRefused : List ℕ → TopologyError → Type 0
IsRefused statuses (Surplus k) = (1 ≤ k) × (k < length statuses) × ListsFront statuses k
IsRefused statuses (BadStatus k) =
    (k < length statuses) × (is_formed (slice_index statuses k) ≡ false) × AreFormed statuses k × ListsNoFront statuses k
IsRefused statuses Missing = AreFormed statuses (length statuses) × ListsNoFront statuses (length statuses)
