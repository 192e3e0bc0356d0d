use Rattle.segment_text.proofs.FileLength.{text_short}
use Rattle.segment_text.proofs.laws.written_files_are_short.Goals as goal

pub returns : goal.returns
returns c = text_short
