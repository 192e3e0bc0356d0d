use Rattle.std.proofs.Common.{◌∙◌, ap, take, List, Option, None}
use Rattle.std.proofs.lemmas.List.{take-replicate}
use Rattle.dc_delay.specs.declared.latch.Latch.{Latch}
use Rattle.master_frames.proofs.learned.unread.Goals as goal

pub returns : goal.returns
returns c =
    c.truncate.ensures.items ∙ ap (λ (xs : List (Option Latch)). take c.args.slaves xs) c.from-latches.ensures.0
    ∙ take-replicate {X = Option Latch} c.args.slaves 256 None c.requires
