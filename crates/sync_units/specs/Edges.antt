-- When a signal has its edges, where edge 0 is due at the word v: a definition without a unit.
use Rattle.std.specs.Prelude.{◌≡◌, ℕ, suc, zero, ◌+◌, ◌*◌, ◌%◌, ◌^◌, ◌<◌, ◌≤◌, min, Bool, true, false, List, length, Option, Some, slice_get, nat_lt}
use Rattle.std.specs.List.{filter}
use Rattle.std.specs.Option.{option_map}
use Rattle.local_clock.specs.FirstReaching.{is_behind}
use Rattle.sync_units.specs.declared.edge.Edge.{Edge}
use Rattle.sync_units.specs.declared.edge.Signal.{Signal}
use Rattle.sync_units.specs.declared.edge.Signal.TheVariants.{Sync0, Sync1}

-- the word at which edge 0 of a signal is due, by the start and the time of SYNC1; None where the unit is armed without it
abbrev pub start_of : ℕ → ℕ → Option ℕ → Signal → Option ℕ
start_of w start sync1 Sync0 = Some start
start_of w start sync1 Sync1 = option_map (λ time. (start + time) % 2 ^ w) sync1

-- tick n is the least tick after tick m at which the local copy is not behind v
pub record IsNextReached (w : ℕ) (copy : ℕ → ℕ) (v m n : ℕ) : Type 0 where
  pub after : m < n
  pub reached : is_behind w (copy n) v ≡ false
  pub before : (i : ℕ) → m < i → i < n → is_behind w (copy i) v ≡ true

-- edge k is at tick n: the least one after the arming, or after edge k - 1, at which the local copy is not
-- behind v + k·cycle
abbrev pub EdgeAt : ℕ → (ℕ → ℕ) → ℕ → ℕ → ℕ → ℕ → Type 0
EdgeAt w copy cycle v zero n = IsNextReached w copy v 0 n
EdgeAt w copy cycle v (suc k) n =
    (m : ℕ) × EdgeAt w copy cycle v k m × IsNextReached w copy ((v + suc k * cycle) % 2 ^ w) m n

-- edge k as it is told; its index is 2^32 from there on
abbrev pub edge_of : Signal → ℕ → ℕ → Edge
edge_of signal k at = record { signal = signal; index = min k (2 ^ 32); time_fs = at }

-- the edges up to tick n, in order and each once
pub record AreEdges (w : ℕ) (copy time : ℕ → ℕ) (cycle v : ℕ) (signal : Signal) (n : ℕ) (edges : List Edge) : Type 0 where
  pub all : (k m : ℕ) → EdgeAt w copy cycle v k m → m ≤ n → slice_get edges k ≡ Some (edge_of signal k (time m))
  pub only : (k : ℕ) → k < length edges → (m : ℕ) × EdgeAt w copy cycle v k m × (m ≤ n)

abbrev pub is_same : Signal → Signal → Bool
is_same Sync0 Sync0 = true
is_same Sync1 Sync1 = true
is_same _ _ = false

-- those of one signal
abbrev pub edges_of : Signal → List Edge → List Edge
edges_of signal edges = filter (λ e. is_same e.signal signal) edges

-- the first `keep` edges of each signal
abbrev pub first_edges : ℕ → List Edge → List Edge
first_edges keep edges = filter (λ e. nat_lt e.index keep) edges
