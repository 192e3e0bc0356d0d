-- The reply to a step was judged.
use Rattle.std.proofs.Common.{◌≡◌, ℕ, List, ◌∷◌, Some, Result, Ok, Err, ap, sym, ◌∙◌}
use Rattle.ecat_frame.specs.FrameGrammar.{FrameValue}
use Rattle.ecat_link.specs.Exchanges.{Exchange}
use Rattle.master_steps.specs.Asking.{AfterStep, IsBack, IsReceived, stood}
use Rattle.master_steps.specs.declared.exchange.Counters.{Counters}
use Rattle.master_script.specs.Config.{ConfigValue}
use Rattle.master_script.specs.Progress.{Phase, answered, turned}
use Rattle.master_script.specs.Steps.{expected}
use Rattle.master_script.specs.Words.{Words}
use Rattle.master_script.specs.declared.step.Refusal.{Refusal}
use Rattle.master_script.specs.declared.step.Step.{Step}
use Rattle.master_steps.proofs.Shapes.{never_lost}
use Rattle.master_script.specs.declared.step.Refusal.TheVariants.{Lost}

pub received : (cfg : ConfigValue) (s : Phase) (n : Counters) (w later : Words) (step : Step) (rest : List Step) (sent reply : FrameValue) (r : Result (Unit {0}) Refusal) (es : List Exchange)
    → IsReceived cfg n.sent step sent reply w later r → IsBack cfg s n w step rest sent reply es → AfterStep cfg s n later step rest r es
received cfg s n w later step rest sent reply (Ok u) es h b =
    b.place ∙ ap (λ o. answered (record (stood s n w (step ∷ rest)) { tries = b.tries }) step rest reply o) h.0
    ∙ ap (λ (x : Words). turned (stood s n x rest) rest) (sym h.1)
received cfg s n w later step rest sent reply (Err r) es h b =
    let e : later ≡ w = h.1 in
    rw e (record { tries = b.tries; place = b.place ∙ ap (λ o. answered (record (stood s n w (step ∷ rest)) { tries = b.tries }) step rest reply o) h.0 })

pub refused_otherwise : (cfg : ConfigValue) (number : ℕ) (step q : Step) (sent reply : FrameValue) (w later : Words) (r : Result (Unit {0}) Refusal) → IsReceived cfg number step sent reply w later r → r ≡ Err (Lost q) → ⊥
refused_otherwise cfg number step q sent reply w later (Ok u) h e = absurd cc
refused_otherwise cfg number step q sent reply w later (Err r) h e =
    let s : r ≡ Lost q = cc in
    never_lost step q (expected cfg w step reply) sent reply (h.0 ∙ ap (λ x. Some x) s)
