use Rattle.std.proofs.Common.{◌≡◌, ℕ, ◌+◌, ◌-◌, ◌*◌, ◌/◌, ◌%◌, ◌^◌, ◌<◌, ◌≤◌, ap₂, ◌∙◌, arith}
use Rattle.std.proofs.Math.Nat.{div-mul-le_self, mod-lt}
use Rattle.local_clock.specs.AtOnce.{share_of}
use Rattle.local_clock.proofs.Share.{divided, rest_is}
use Rattle.local_clock.proofs.steps.rounds.Goals as goal

-- the rounds and the rest of n ticks, as the code computes them
record Rounds (n k count g share f h : ℕ) : Type 0 where
  rounds : n * share / 2 ^ 32 ≡ (count + k) / g
  rest : n - n * share / 2 ^ 32 * h ≡ (count + k) % g
  under : n * share / 2 ^ 32 * h ≤ n
  low : (count + k) % g < 256

rounds_of : (k count g share f h : ℕ) → count < g → g < 256 → k < 2 ^ 23 → share ≡ share_of g → f ≡ count → h ≡ g → Rounds (f + k) k count g share f h
rounds_of k count g share f h below small few is first second =
    let some : 0 < g = omega (arith, below) in
    let same : f + k ≡ count + k = omega (arith, first) in
    let whole : (f + k) * share / 2 ^ 32 ≡ (count + k) / g =
    ap₂ (λ n m. n * m / 2 ^ 32) same is ∙ divided (count + k) g some small (omega (arith, below, small, few)) in
    let product : (f + k) * share / 2 ^ 32 * h ≡ (count + k) / g * g = ap₂ (λ a b. a * b) whole second in
    let most = div-mul-le_self (count + k) g in
    let low = mod-lt (count + k) some in record {
      rounds = whole;
      rest = ap₂ (λ n m. n - m) same product ∙ rest_is (count + k) g;
      under = omega (arith, product, most, same);
      low = omega (arith, low, small);
    }

pub overflow_sub-rest : goal.overflow_sub-rest
overflow_sub-rest c =
    (rounds_of c.args.k c.args.count c.args.g c.args.share c.from.result c.from-2.result c.requires.below c.ranges.g.fits (omega (arith, c.if-k.false)) c.requires.share c.from.ensures c.from-2.ensures).under

pub overflow_cast-result : goal.overflow_cast-result
overflow_cast-result c =
    let r = rounds_of c.args.k c.args.count c.args.g c.args.share c.from.result c.from-2.result c.requires.below c.ranges.g.fits (omega (arith, c.if-k.false)) c.requires.share c.from.ensures c.from-2.ensures in
    let is = r.rest in
    let low = r.low in
    omega (arith, is, low)

pub returns-clause-rounds : goal.returns-clause-rounds
returns-clause-rounds c =
    (rounds_of c.args.k c.args.count c.args.g c.args.share c.from.result c.from-2.result c.requires.below c.ranges.g.fits (omega (arith, c.if-k.false)) c.requires.share c.from.ensures c.from-2.ensures).rounds

pub returns-clause-rest : goal.returns-clause-rest
returns-clause-rest c =
    (rounds_of c.args.k c.args.count c.args.g c.args.share c.from.result c.from-2.result c.requires.below c.ranges.g.fits (omega (arith, c.if-k.false)) c.requires.share c.from.ensures c.from-2.ensures).rest
