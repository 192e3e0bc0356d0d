use Rattle.std.proofs.Common.{rules, ◌≡◌, ℕ, ◌+◌, ℤ, to_z, of_z, arith, ap, ◌∙◌, sym, refl, suc}
use Rattle.std.specs.Int.{int_min, w128}
use Rattle.std.proofs.lemmas.Int.{to_z-of_z}
use Rattle.dc_bounds.specs.LockNumbers.{gain, least_of}
use Rattle.dc_bounds.proofs.lock.lock_step.Goals as goal

one_more : (f : ℕ → ℤ) (n : ℕ) → least_of f (n + 1) ≡ int_min (least_of f n) (f (n + 2))
one_more f n = let e : n + 1 ≡ suc n = omega arith in rw e refl

pub loop-more-preserved : goal.loop-more-preserved
loop-more-preserved c =
    let so_far : to_z w128 c.loop-more.least-bits ≡ least_of (gain c.args.ppm c.args.frame_ns c.args.speed) c.loop-more.more = c.loop-more.invariant in
    let here : to_z w128 (of_z w128 c.gain.result) ≡ gain c.args.ppm c.args.frame_ns c.args.speed (c.loop-more.more + 2) = to_z-of_z w128 c.gain.result (search rules) ∙ c.gain.ensures in
    let least : c.min-least.result ≡ int_min (to_z w128 c.loop-more.least-bits) (to_z w128 (of_z w128 c.gain.result)) = c.min-least.ensures.value in
    to_z-of_z w128 c.min-least.result (search rules) ∙ least ∙ ap (λ z. int_min z (to_z w128 (of_z w128 c.gain.result))) so_far
    ∙ ap (int_min (least_of (gain c.args.ppm c.args.frame_ns c.args.speed) c.loop-more.more)) here ∙ sym (one_more (gain c.args.ppm c.args.frame_ns c.args.speed) c.loop-more.more)
