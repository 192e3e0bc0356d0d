-- The line of a slave: its position, id, station address and kind; and of a clock the measured delay (ns), the true one (fs), and by how
-- much these two can differ (fs).
use Rattle.std.specs.Prelude.{ℕ, ◌+◌, ◌-◌, ◌^◌, Bool, false, nat_eq, List, [], ◌∷◌, ◌++◌, length, codes, decimal, if◌then◌else◌, Option, Some, None, slice_index_or}
use Rattle.std.specs.Fmt.{digits, padded_integral, format_spec}
use Rattle.std.specs.List.{flat_map, range_with_len}
use Rattle.esc_regs.specs.declared.clock_kind.ClockKind.{ClockKind}
use Rattle.esc_regs.specs.declared.clock_kind.ClockKind.TheVariants as kind
use Rattle.segment_bounds.specs.Bounds.{wire_delay_at, delay_bound_at}
use Rattle.segment_file.specs.Segment.{SegmentValue, row_at}
use Rattle.edge_report.specs.Slaves.{slave_at, reference_position}

-- four hexadecimal digits of lower case
abbrev pub hex_word : ℕ → List ℕ
hex_word n = padded_integral (format_spec 32 0 4 4 (2 ^ 64 - 1)) false [] (digits 16 false n)

-- the station address of a position: 0x1001 and the position
abbrev pub station_of : ℕ → ℕ
station_of position = 4097 + position

-- the kind of a slave in words; the reference clock is told from other clocks
unfoldable pub kind_text : Bool → ClockKind → List ℕ
kind_text reference kind.None = codes "none"
kind_text reference kind.R32 = codes "r32"
kind_text reference kind.C32 = if reference then codes "ref32" else codes "c32"
kind_text reference kind.C64 = if reference then codes "ref64" else codes "c64"

-- `POS ID STATION KIND `
unfoldable pub place_text : ℕ → List ℕ → List ℕ → List ℕ
place_text position id kind =
    decimal position ++ (codes " " ++ (id ++ (codes " " ++ (hex_word (station_of position) ++ (codes " " ++ (kind ++ codes " "))))))

-- `DELAY WIRE BOUND`
unfoldable pub numbers_text : ℕ → ℕ → ℕ → List ℕ
numbers_text delay wire bound = decimal delay ++ (codes " " ++ (decimal wire ++ (codes " " ++ (decimal bound ++ 10 ∷ []))))

-- these three of the clock at a row, or three dashes where no delay is measured
unfoldable pub measured_text : SegmentValue → ℕ → Option ℕ → List ℕ
measured_text s row None = codes "- - -" ++ 10 ∷ []
measured_text s row (Some delay) = numbers_text delay (wire_delay_at s row) (delay_bound_at s row)

-- the line of the slave at a position
unfoldable pub slave_line : SegmentValue → ℕ → Option ℕ → List ℕ
slave_line s p delay =
    place_text p (slave_at s p).id (kind_text (nat_eq p (reference_position s)) (slave_at s p).kind) ++ measured_text s (row_at s p) delay

-- with its entry among the delays
abbrev pub line_among : SegmentValue → List (Option ℕ) → ℕ → List ℕ
line_among s delays p = slave_line s p (slice_index_or delays p None)

-- the lines of all slaves, in frame order
abbrev pub slave_lines : SegmentValue → List (Option ℕ) → List ℕ
slave_lines s delays = flat_map (line_among s delays) (range_with_len 0 (length s.rows))
