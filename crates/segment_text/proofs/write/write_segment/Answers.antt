use Rattle.std.proofs.Common.{sym, subst, ap, ◌∙◌, ◌++◌}
use Rattle.segment_file.specs.Told.{IsSegmentText}
use Rattle.segment_file.specs.Written.{segment_text}
use Rattle.segment_text.proofs.write.write_segment.Goals as goal

pub returns-clause-read : goal.returns-clause-read
returns-clause-read c = subst (λ bytes. IsSegmentText bytes c.args.segment.now) (sym (c.in_ok-push_segment.ensures.is ∙ ap (λ bytes. bytes ++ segment_text c.args.segment.now) c.new-text.ensures.items)) c.in_ok-push_segment.ensures.read
