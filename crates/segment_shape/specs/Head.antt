-- The head of a segment file: what is said of the whole segment.
use Rattle.std.specs.Prelude.{ℕ, codes, Ok}
use Rattle.serde_json.specs.Data.{Data}
use Rattle.segment_shape.specs.Paths.{Reading, ◌>>=◌}
use Rattle.segment_shape.specs.Values.{number_at}

pub record HeadValue : Type 0 where
  pub version : ℕ
  pub ppm : ℕ
  pub frame_ns : ℕ
  pub speed : ℕ
  pub loss_run : ℕ
  pub epoch_ns : ℕ
  pub cycle_ns : ℕ
  pub cycles : ℕ

-- the head's numbers, in the order in which they are checked
unfoldable pub head_of : Data → Reading HeadValue
head_of d = do
  version ← number_at (codes "version") 1 2 d
  ppm ← number_at (codes "ppm") 0 100 d
  frame_ns ← number_at (codes "frame_ns") 50000 10000000 d
  speed ← number_at (codes "speed") 128 16383 d
  loss_run ← number_at (codes "loss_run") 0 15 d
  epoch_ns ← number_at (codes "epoch_ns") 0 4000000000000000000 d
  cycle_ns ← number_at (codes "cycle_ns") 50000 500000000 d
  cycles ← number_at (codes "cycles") 1 100000 d
  Ok (record {
    version = version;
    ppm = ppm;
    frame_ns = frame_ns;
    speed = speed;
    loss_run = loss_run;
    epoch_ns = epoch_ns;
    cycle_ns = cycle_ns;
    cycles = cycles;
  })
