-- The changes of a slave's period.
use Rattle.std.specs.Prelude.{ℕ, ◌+◌, List, [], ◌∷◌, codes}
use Rattle.serde_json.specs.Data.{Data}
use Rattle.osc_clock.specs.Ticks.{Rate}
use Rattle.segment_shape.specs.Paths.{Reading, ◌>>=◌}
use Rattle.segment_shape.specs.Values.{number_at, members_at, items_if_any}
use Rattle.segment_shape.specs.Keys.{only, rate_keys}
use Rattle.segment_shape.specs.Rows.{rows_after}

-- the tick of the last row, or this one where there is none
abbrev pub last_tick : ℕ → List Rate → ℕ
last_tick tick [] = tick
last_tick tick (r ∷ rs) = last_tick r.tick rs

-- a rate row behind a tick
unfoldable pub rate_behind : ℕ → Data → Reading Rate
rate_behind before d = do
  ms ← members_at [] d
  tick ← number_at (codes "tick") (before + 1) 1000000000000 d
  period ← number_at (codes "period_fs") 1 20000000 d
  only [] rate_keys ms (record { tick = tick; period = period })

-- a rate row behind these
abbrev pub rate_in : List Rate → Data → Reading Rate
rate_in rows d = rate_behind (last_tick 0 rows) d

-- the changes of a slave row, none where it lists none
unfoldable pub rates_of : Data → Reading (List Rate)
rates_of d = items_if_any (codes "rates") 64 d >>= rows_after (codes "rates") rate_in []
