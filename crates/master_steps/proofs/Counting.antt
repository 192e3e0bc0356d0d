-- The losses that are counted, and those of the link.
use Rattle.std.proofs.Common.{ℕ, arith}
use Rattle.master_steps.specs.Asking.{IsCounted}
use Rattle.master_steps.specs.declared.exchange.Counters.{Counters}

pub counted_none : (n : Counters) (a : ℕ) → IsCounted n n a a
counted_none n a = omega arith

pub counted_then : (n m k : Counters) (a b c : ℕ) → IsCounted n m a b → IsCounted m k b c → IsCounted n k a c
counted_then n m k a b c p q = omega (arith, p, q)
