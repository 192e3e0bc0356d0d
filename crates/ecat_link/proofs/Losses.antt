-- Losses of exchanges, and of calls.
use Rattle.std.proofs.Common.{◌≡◌, ℕ, ◌+◌, List, ◌++◌, is_none, cond, arith}
use Rattle.std.proofs.lemmas.List.Sums.{sum_by-append}
use Rattle.dc_base.specs.Causes.{Rose}
use Rattle.ecat_link.specs.Exchanges.{Exchange, lost_among}
use Rattle.ecat_link.specs.RoseBy.{RoseBy}

-- exchanges, and then more
pub lost_then : (es fs : List Exchange) → lost_among (es ++ fs) ≡ lost_among es + lost_among fs
lost_then = sum_by-append (λ e. cond (is_none e.back) 1 0)

-- one loss
pub rose_once : (a b : ℕ) → Rose a b → RoseBy 1 a b
rose_once a b rose = rose

-- losses of a call, and then of another
pub rose_then : (j k a b c : ℕ) → RoseBy j a b → RoseBy k b c → RoseBy (j + k) a c
rose_then j k a b c first second = omega arith
