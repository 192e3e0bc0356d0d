-- The first line: how many slaves and clocks there are, and where the reference clock stands.
use Rattle.std.specs.Prelude.{ℕ, List, [], ◌∷◌, ◌++◌, length, codes, decimal}
use Rattle.segment_file.specs.Segment.{SegmentValue, clocks}
use Rattle.edge_report.specs.Slaves.{reference_position}

-- `slaves N clocks C reference P`
unfoldable pub slaves_text : ℕ → ℕ → ℕ → List ℕ
slaves_text slaves clocks reference =
    codes "slaves " ++ (decimal slaves ++ (codes " clocks " ++ (decimal clocks ++ (codes " reference " ++ (decimal reference ++ 10 ∷ [])))))

abbrev pub first_line : SegmentValue → List ℕ
first_line s = slaves_text (length s.rows) (clocks s.rows) (reference_position s)
