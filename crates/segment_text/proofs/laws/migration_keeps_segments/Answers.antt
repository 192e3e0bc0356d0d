use Rattle.std.proofs.Common.{refl}
use Rattle.segment_file.proofs.Exported.{written_text}
use Rattle.segment_text.specs.Migrated.{migrated}
use Rattle.segment_text.proofs.MigratedLemmas.{newest, migrated_legal, text_again}
use Rattle.segment_text.proofs.laws.migration_keeps_segments.Goals as goal

pub returns : goal.returns
returns c = record {
  rows = λ s. refl;
  losses = λ s. refl;
  head = λ s. refl;
  newest = newest;
  legal = migrated_legal;
  text = λ s legal. written_text (migrated s) (migrated_legal s legal);
  once = λ s. refl;
  again = text_again;
}
