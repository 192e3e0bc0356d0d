-- How a call ends: one lemma for all calls and answers.
use Rattle.std.proofs.Common.{◌≡◌, List, sym, ap, ◌∙◌}
use Rattle.ecat_link.specs.Exchanges.{Exchange}
use Rattle.ecat_link.specs.Serves.{End}
use Rattle.master_script.specs.Config.{ConfigValue}
use Rattle.master_script.specs.Kept.{Ends, given, kept_after, kept_at}
use Rattle.master_script.specs.Progress.{Progress, progress}
use Rattle.master_script.specs.Script.{Answer, Call, script, next_by}

pub ends_at : (cfg : ConfigValue) (call : Call) (es : List Exchange) (p : Progress) (answer : Answer) → progress cfg es ≡ p → next_by cfg p call p.refused ≡ End answer
    → Ends cfg call (kept_at cfg (given call) p) answer es
unfolding script kept_after
ends_at cfg call es p answer e n = record {
  end = ap (λ (q : Progress). next_by cfg q call q.refused) e ∙ n;
  stands = ap (λ (q : Progress). kept_at cfg (given call) q) (sym e);
}
