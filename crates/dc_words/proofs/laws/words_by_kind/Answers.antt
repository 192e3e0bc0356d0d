use Rattle.std.proofs.Common.{ap, option_and_then}
use Rattle.dc_words.specs.CommandOfWords.{made}
use Rattle.dc_words.proofs.Walking.{given_is}
use Rattle.dc_words.proofs.laws.words_by_kind.Goals as goal

pub returns : goal.returns
returns c = record {
  given = given_is;
  command = λ words utf8. ap (option_and_then made) (given_is words utf8);
}
