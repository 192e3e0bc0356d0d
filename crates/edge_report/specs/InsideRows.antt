-- A `csv` writer between two rows.
use Rattle.std.specs.Prelude.{◌≡◌, ℕ, false, List, Option, Some}
use Rattle.csv.specs.Writing.{default_writer, fields_written, has_written, text_written, writer_setup}
use Rattle.csv.specs.declared.writer.Writer.{Writer}

-- it stands between two rows, and these bytes were written
pub record Wrote {W : Type 0} (contents : W → Option (List ℕ)) (w : Writer W) (bytes : List ℕ) : Type 0 where
  pub setup : writer_setup w ≡ default_writer
  pub fields : fields_written w ≡ 0
  pub clean : has_written w ≡ false
  pub text : text_written contents w ≡ Some bytes
