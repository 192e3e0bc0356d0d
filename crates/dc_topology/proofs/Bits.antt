-- What a status tells of the ports.
use Rattle.std.specs.Prelude.{◌≡◌, ℕ, zero, suc, ◌+◌, ◌*◌, ◌<◌, Bool, true, false, not, ◌&&◌, Option, Some, None, List, length}
use Rattle.std.specs.List.{All}
use Rattle.std.specs.Option.{is_some, option_map}
use Rattle.std.proofs.Common.{◌≤◌, lit≤, arith, refl, ap, ap₂, ◌∙◌}
use Rattle.cable_tree.specs.declared.port.Port.{Port}
use Rattle.cable_tree.specs.declared.port.Port.TheVariants.{P1, P2, P3}
use Rattle.cable_tree.specs.Row.{Row, IsRow}
use Rattle.cable_tree.specs.Segment.{IsTree}
use Rattle.cable_tree.specs.Positions.{position_of, renumbered}
use Rattle.cable_tree.proofs.Exported.{children}
use Rattle.cable_tree.specs.FrameOrder.{child}
use Rattle.cable_tree.specs.PathSums.{back_from}
use Rattle.dc_topology.specs.DlStatus.{bit, is_connected, is_closed, is_formed}
use Rattle.dc_topology.specs.Listed.{port_number}
use Rattle.dc_topology.specs.Status.{port_bits, status_of}

abbrev word : Bool → Bool → Bool → ℕ
word one two three = port_bits true 0 + port_bits one 1 + port_bits two 2 + port_bits three 3

-- link and communication, and the loop, of a port
abbrev Shows : ℕ → ℕ → Bool → Type 0
Shows status port connected = (bit status (4 + port) ≡ connected) × (bit status (9 + 2 * port) ≡ connected) × (bit status (8 + 2 * port) ≡ not connected)

record Tells (status : ℕ) (one two three : Bool) : Type 0 where
  formed : is_formed status ≡ true
  master : is_connected status 0 ≡ true
  first : Shows status 1 one
  second : Shows status 2 two
  third : Shows status 3 three
  low : (bit status 0 ≡ false) × (bit status 1 ≡ false) × (bit status 2 ≡ false) × (bit status 3 ≡ false)

tells : (one two three : Bool) → Tells (word one two three) one two three
unfolding is_formed
tells true true true = record { formed = refl; master = refl; first = (refl, refl, refl); second = (refl, refl, refl); third = (refl, refl, refl); low = (refl, refl, refl, refl) }
tells true true false = record { formed = refl; master = refl; first = (refl, refl, refl); second = (refl, refl, refl); third = (refl, refl, refl); low = (refl, refl, refl, refl) }
tells true false true = record { formed = refl; master = refl; first = (refl, refl, refl); second = (refl, refl, refl); third = (refl, refl, refl); low = (refl, refl, refl, refl) }
tells true false false = record { formed = refl; master = refl; first = (refl, refl, refl); second = (refl, refl, refl); third = (refl, refl, refl); low = (refl, refl, refl, refl) }
tells false true true = record { formed = refl; master = refl; first = (refl, refl, refl); second = (refl, refl, refl); third = (refl, refl, refl); low = (refl, refl, refl, refl) }
tells false true false = record { formed = refl; master = refl; first = (refl, refl, refl); second = (refl, refl, refl); third = (refl, refl, refl); low = (refl, refl, refl, refl) }
tells false false true = record { formed = refl; master = refl; first = (refl, refl, refl); second = (refl, refl, refl); third = (refl, refl, refl); low = (refl, refl, refl, refl) }
tells false false false = record { formed = refl; master = refl; first = (refl, refl, refl); second = (refl, refl, refl); third = (refl, refl, refl); low = (refl, refl, refl, refl) }

-- a port that shows it is connected, or closed
all_three : (b : Bool) → (b && not (not b) && b) ≡ b
all_three true = refl
all_three false = refl

both : (b : Bool) → (not b && not b) ≡ not b
both true = refl
both false = refl

shows_connected : (status port : ℕ) (b : Bool) → Shows status port b → is_connected status port ≡ b
shows_connected status port b shown = ap₂ (λ x y. x && y) (ap₂ (λ x y. x && not y) shown.0 shown.2) shown.1 ∙ all_three b

shows_closed : (status port : ℕ) (b : Bool) → Shows status port b → is_closed status port ≡ not b
shows_closed status port b shown = ap₂ (λ x y. x && not y) shown.2 shown.1 ∙ both b

module _ (rows : List Row) (r : ℕ) where
  all_told : Tells (status_of rows r) (is_some (child rows r P1)) (is_some (child rows r P2)) (is_some (child rows r P3))
  unfolding status_of
  all_told = tells (is_some (child rows r P1)) (is_some (child rows r P2)) (is_some (child rows r P3))

  pub formed : is_formed (status_of rows r) ≡ true
  formed = all_told.formed

  pub master : is_connected (status_of rows r) 0 ≡ true
  master = all_told.master

  pub bits : (p : Port) → Shows (status_of rows r) (port_number p) (is_some (child rows r p))
  bits P1 = all_told.first
  bits P2 = all_told.second
  bits P3 = all_told.third

  pub connected : (p : Port) → is_connected (status_of rows r) (port_number p) ≡ is_some (child rows r p)
  connected p = shows_connected (status_of rows r) (port_number p) (is_some (child rows r p)) (bits p)

  pub closed : (p : Port) → is_closed (status_of rows r) (port_number p) ≡ not (is_some (child rows r p))
  closed p = shows_closed (status_of rows r) (port_number p) (is_some (child rows r p)) (bits p)

  pub low : (place : ℕ) → place < 4 → bit (status_of rows r) place ≡ false
  low zero less = all_told.low.0
  low (suc zero) less = all_told.low.1
  low (suc (suc zero)) less = all_told.low.2
  low (suc (suc (suc zero))) less = all_told.low.3
  low (suc (suc (suc (suc n)))) less = absurd (omega arith)

-- the same rows by position show the same
kept_some : (rows : List Row) (o : Option ℕ) → is_some (option_map (position_of rows) o) ≡ is_some o
kept_some rows None = refl
kept_some rows (Some k) = refl

pub status_here : (rows : List Row) → IsTree rows → All IsRow rows → (r : ℕ) → r < length rows → status_of (renumbered rows) (position_of rows r) ≡ status_of rows r
unfolding status_of
status_here rows tree slaves r within =
    let bits : (p : Port) → is_some (child (renumbered rows) (position_of rows r) p) ≡ is_some (child rows r p)
    = λ p. ap is_some (children rows tree slaves r within p) ∙ kept_some rows (child rows r p) in
    ap₂ (λ x y. x + y) (ap₂ (λ x y. x + y) (ap (λ b. port_bits true 0 + port_bits b 1) (bits P1)) (ap (λ b. port_bits b 2) (bits P2))) (ap (λ b. port_bits b 3) (bits P3))

-- a frame comes back into a port exactly where a slave hangs there
pub comes_back : (rows : List Row) (o : Option ℕ) → is_some (back_from rows o) ≡ is_some o
comes_back rows None = refl
comes_back rows (Some k) = refl

-- a status has sixteen bits
pub first_most : (b : Bool) → port_bits b 1 ≤ 2080
first_most true = lit≤ tt
first_most false = lit≤ tt

pub second_most : (b : Bool) → port_bits b 2 ≤ 8256
second_most true = lit≤ tt
second_most false = lit≤ tt

pub third_most : (b : Bool) → port_bits b 3 ≤ 32896
third_most true = lit≤ tt
third_most false = lit≤ tt
