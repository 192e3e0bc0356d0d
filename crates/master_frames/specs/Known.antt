-- What a master has learned, with lists in place of its arrays.
use Rattle.std.specs.Prelude.{ℕ, [], None, replicate}
use Rattle.master_frames.specs.declared.learned.Learned.{Learned}
use Rattle.master_script.specs.Words.{Words}

abbrev pub words_of : Learned → Words
words_of l = record {
  slaves = l.slaves.items;
  reference = l.reference;
  latches = l.latches.items;
  latched = l.latched;
  time = l.time;
}

-- before anything is learned of so many slaves
abbrev pub nothing : ℕ → Words
nothing n = record { slaves = []; reference = None; latches = replicate n None; latched = 0; time = None }
