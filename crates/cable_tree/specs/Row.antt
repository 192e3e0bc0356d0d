-- A row: a slave by where it hangs, how long it keeps a frame, and its cable.
use Rattle.std.specs.Prelude.{ℕ, ◌*◌, ◌≤◌, Option, None, List, slice_index_or}
use Rattle.cable_tree.specs.declared.port.Above.{Above}

-- the parent's row and port, if any, tP and tF in ns, and the delay of the cable towards the parent in ps
pub record Row : Type 0 where
  pub above : Option Above
  pub tp_ns : ℕ
  pub tf_ns : ℕ
  pub cable_ps : ℕ

-- tP and tF are from 1 to 10,000 ns, and the cable has at most 100,000,000 ps
pub record IsRow (row : Row) : Type 0 where
  pub tp_some : 1 ≤ row.tp_ns
  pub tp_most : row.tp_ns ≤ 10000
  pub tf_some : 1 ≤ row.tf_ns
  pub tf_most : row.tf_ns ≤ 10000
  pub cable_most : row.cable_ps ≤ 100000000

-- what stands at a place past the end
abbrev pub no_row : Row
no_row = record { above = None; tp_ns = 0; tf_ns = 0; cable_ps = 0 }

abbrev pub row_at : List Row → ℕ → Row
row_at rows r = slice_index_or rows r no_row

-- the parent and its port, None at a row without a parent
abbrev pub above : List Row → ℕ → Option Above
above rows r = (row_at rows r).above

-- the delay from port 0 to the first port out, in fs
abbrev pub tp : List Row → ℕ → ℕ
tp rows r = 1000000 * (row_at rows r).tp_ns

-- the delay of every later forwarding, in fs
abbrev pub tf : List Row → ℕ → ℕ
tf rows r = 1000000 * (row_at rows r).tf_ns

-- the delay of the cable towards the parent or the master, one way, in fs
abbrev pub cable : List Row → ℕ → ℕ
cable rows r = 1000 * (row_at rows r).cable_ps
