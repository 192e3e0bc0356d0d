-- Every sum of a segment of 256 rows fits a `u64`.
use Rattle.std.proofs.Common.{ℕ, ◌+◌, ◌<◌, ◌≤◌, List, length, arith}
use Rattle.std.proofs.lemmas.List.Elements.{All-get_or}
use Rattle.cable_tree.specs.Row.{Row, IsRow, no_row, cable}
use Rattle.cable_tree.specs.Segment.{IsSegment}
use Rattle.cable_tree.specs.FrameOrder.{root}
use Rattle.cable_tree.specs.PathSums.{span, arrive}
use Rattle.cable_tree.proofs.Children.{root_of}
use Rattle.cable_tree.proofs.Rising.{subtree_few, span_most}
use Rattle.cable_tree.proofs.Members.{inside}

module _ (rows : List Row) (segment : IsSegment rows) where
  pub span_small : (r : ℕ) → r < length rows → span rows r ≤ 56320000000000
  span_small r within =
      let few = subtree_few rows segment.tree segment.slaves r within in
      let most = span_most rows segment.tree segment.slaves r within in
      let rows-few = segment.few in
      omega arith

  pub cable_small : (r : ℕ) → r < length rows → cable rows r ≤ 100000000000
  cable_small r within = let row = All-get_or IsRow rows r no_row within segment.slaves in let most = row.cable_most in omega arith

  pub inside_small : (r : ℕ) → r < length rows → arrive rows r + span rows r ≤ 56420000000000
  inside_small r within =
      let top = (root_of rows segment.tree).0 in
      let far = inside rows segment.tree segment.slaves r within in
      let a = span_small (root rows) top in
      let b = cable_small (root rows) top in
      omega arith
