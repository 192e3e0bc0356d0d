use Rattle.std.proofs.Common.{◌∙◌, ap, rules, arith, refl}
use Rattle.master_steps.specs.ConfigRange.{value_of}
use Rattle.master_steps.specs.Known.{nothing, words_of}
use Rattle.dc_master.proofs.Calls.{fresh_is}
use Rattle.dc_master.proofs.Making.{stands_fresh}
use Rattle.dc_master.proofs.master.Master.new.Goals as goal

pub returns-clause-fresh : goal.returns-clause-fresh
returns-clause-fresh c = fresh_is (value_of c.args.config) (words_of c.new-learned.result) c.new.result.items (c.new-learned.ensures ∙ ap (λ n. nothing n) (search rules)) c.new.ensures

pub invariant_of-result : goal.invariant_of-result
invariant_of-result c =
    record {
      config = c.requires;
      lost = omega arith;
      drifts = omega arith;
      started = λ h. absurd (omega (arith, h));
      stage = record { sent = refl; lost = refl; drifts = refl; words = c.new-learned.ensures ∙ ap (λ n. nothing n) (search rules); delays = c.new.ensures };
      stands = stands_fresh _ refl (fresh_is (value_of c.args.config) (words_of c.new-learned.result) c.new.result.items (c.new-learned.ensures ∙ ap (λ n. nothing n) (search rules)) c.new.ensures);
    }
