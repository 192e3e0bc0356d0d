use Rattle.master_script.proofs.Grammar.{fit_of, built_of}
use Rattle.master_script.proofs.Wants.{wants, wanted_valid}
use Rattle.master_script.proofs.laws.frames_are_of_the_grammar.Goals as goal

pub returns : goal.returns
returns c = record {
  some = λ cfg w step. (fit_of cfg w step).some;
  fits = λ cfg w step. (fit_of cfg w step).few;
  built = built_of;
  of_step = λ cfg call es wait_ns frame some h. let w = wants cfg call es wait_ns frame some h in (w.step, w.is);
  wait = λ cfg call es wait_ns frame some h. (wants cfg call es wait_ns frame some h).wait;
  valid = wanted_valid;
}
