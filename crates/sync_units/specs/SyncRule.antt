-- A unit's SYNC signals, tick by tick: which edges a tick raises, and what it leaves the unit.
use Rattle.std.specs.Prelude.{ℕ, suc, zero, ◌+◌, ◌%◌, ◌^◌, min, List, [], ◌∷◌, ◌++◌, Option, Some, if◌then◌else◌}
use Rattle.std.specs.Option.{option_map, option_map_or}
use Rattle.local_clock.specs.FirstReaching.{is_behind}
use Rattle.sync_units.specs.declared.edge.Edge.{Edge}
use Rattle.sync_units.specs.declared.edge.Signal.{Signal}
use Rattle.sync_units.specs.declared.edge.Signal.TheVariants.{Sync0, Sync1}

-- the word at which a signal is next due, and the index of that edge, which stays at 2^32 once it is reached
pub record Due : Type 0 where
  pub value : ℕ
  pub index : ℕ

-- a unit that is armed: its cycle (ns), and what is due of SYNC0, and of SYNC1 where it is armed with it
pub record Armed : Type 0 where
  pub cycle : ℕ
  pub sync0 : Due
  pub sync1 : Option Due

-- what is due of a signal, where the unit is armed with it
abbrev pub due_of : Signal → Armed → Option Due
due_of Sync0 a = Some a.sync0
due_of Sync1 a = a.sync1

-- edge 0 of SYNC0 is due at the start, and that of SYNC1 its time later
abbrev pub first_due : ℕ → Due
first_due v = record { value = v; index = 0 }

abbrev pub armed_by : ℕ → ℕ → ℕ → Option ℕ → Armed
armed_by w start cycle sync1 = record {
  cycle = cycle;
  sync0 = first_due start;
  sync1 = option_map (λ time. first_due ((start + time) % 2 ^ w)) sync1;
}

-- after its edge a signal is due a cycle later, as a word of w bits, with the next index
abbrev pub moved_on : ℕ → ℕ → Due → Due
moved_on w cycle d = record { value = (d.value + cycle) % 2 ^ w; index = min (d.index + 1) (2 ^ 32) }

-- a tick at which the local copy is x raises a signal where the copy is not behind its due value
abbrev pub due_after_tick : ℕ → ℕ → ℕ → Due → Due
due_after_tick w cycle x d = if is_behind w x d.value then d else moved_on w cycle d

abbrev pub raised : ℕ → Signal → ℕ → ℕ → Due → List Edge
raised w signal x at d =
    if is_behind w x d.value then [] else record { signal = signal; index = d.index; time_fs = at } ∷ []

-- the unit after such a tick, and the edges that it raises; SYNC0 comes first
abbrev pub after_tick : ℕ → ℕ → Armed → Armed
after_tick w x a = record {
  cycle = a.cycle;
  sync0 = due_after_tick w a.cycle x a.sync0;
  sync1 = option_map (due_after_tick w a.cycle x) a.sync1;
}

abbrev pub tick_edges : ℕ → ℕ → ℕ → Armed → List Edge
tick_edges w x at a = raised w Sync0 x at a.sync0 ++ option_map_or (raised w Sync1 x at) a.sync1 []

-- the same for one signal of the unit
abbrev pub after_tick_of : ℕ → ℕ → Signal → Armed → Armed
after_tick_of w x Sync0 a = record a { sync0 = due_after_tick w a.cycle x a.sync0 }
after_tick_of w x Sync1 a = record a { sync1 = option_map (due_after_tick w a.cycle x) a.sync1 }

abbrev pub raised_of : ℕ → Signal → ℕ → ℕ → Armed → List Edge
raised_of w signal x at a = option_map_or (raised w signal x at) (due_of signal a) []

-- the unit and the edges over k ticks, where copy and time give the local copy and the instant of each, from tick 1 on
abbrev pub after_ticks : ℕ → (ℕ → ℕ) → ℕ → Armed → Armed
after_ticks w copy zero a = a
after_ticks w copy (suc k) a = after_tick w (copy (suc k)) (after_ticks w copy k a)

abbrev pub ticks_edges : ℕ → (ℕ → ℕ) → (ℕ → ℕ) → ℕ → Armed → List Edge
ticks_edges w copy time zero a = []
ticks_edges w copy time (suc k) a =
    ticks_edges w copy time k a ++ tick_edges w (copy (suc k)) (time (suc k)) (after_ticks w copy k a)

-- a unit that is not armed stays so, and raises nothing
abbrev pub unit_after : ℕ → (ℕ → ℕ) → ℕ → Option Armed → Option Armed
unit_after w copy k unit = option_map (after_ticks w copy k) unit

abbrev pub unit_edges : ℕ → (ℕ → ℕ) → (ℕ → ℕ) → ℕ → Option Armed → List Edge
unit_edges w copy time k unit = option_map_or (ticks_edges w copy time k) unit []
