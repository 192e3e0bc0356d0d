-- What `check` writes of a legal segment.
use Rattle.std.specs.Prelude.{ℕ, ℤ, List, [], ◌∷◌, ◌++◌, length, codes, decimal}
use Rattle.std.specs.Fmt.{signed_decimal}
use Rattle.segment_bounds.specs.Window.{window_of}
use Rattle.segment_file.specs.Faults.{lock_in, step_of}
use Rattle.segment_file.specs.Segment.{SegmentValue, clocks, counts_of}

-- how many slaves and clocks there are, after how many drift frames the clocks are together, by how many ns at least a difference
-- falls from one that arrives to the next, unless it falls to what comes up again, and how far apart edges of two slaves can be (fs)
unfoldable pub numbers_text : ℕ → ℕ → ℕ → ℤ → ℕ → List ℕ
numbers_text slaves clocks lock_in mu window =
    codes "legal slaves " ++ (decimal slaves ++ (codes " clocks " ++ (decimal clocks ++ (codes " lock_in " ++ (decimal lock_in
    ++ (codes " mu " ++ (signed_decimal mu ++ (codes " window_fs " ++ (decimal window ++ 10 ∷ [])))))))))

abbrev pub check_text : SegmentValue → List ℕ
check_text s = numbers_text (length s.rows) (clocks s.rows) (lock_in s.head (counts_of s.rows)) (step_of s.head) (window_of s)
