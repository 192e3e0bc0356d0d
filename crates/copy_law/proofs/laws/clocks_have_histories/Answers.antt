use Rattle.std.proofs.Common.{arith}
use Rattle.honest_slaves.proofs.Exported.{low_where}
use Rattle.copy_law.proofs.History.{has_behind}
use Rattle.copy_law.proofs.Standing.{stands_behind}
use Rattle.copy_law.proofs.laws.clocks_have_histories.Goals as goal

pub returns : goal.returns
returns c = λ s k p t v legal behind there clock.
    let within = low_where t.slaves p v there in
    let many = (stands_behind s legal k t behind).file.many in
    has_behind s legal k p t v behind (omega (arith, within, many)) clock there
