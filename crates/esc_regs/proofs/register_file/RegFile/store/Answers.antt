use Rattle.std.proofs.Common.{◌≡◌, ◌+◌, ◌≤◌, false, length, refl, ap, ◌∙◌, arith}
use Rattle.std.specs.Option.{is_some}
use Rattle.esc_regs.specs.RegisterAccess.{is_refused}
use Rattle.esc_regs.proofs.Bytes.{bytes_after_write, bytes_below}
use Rattle.esc_regs.proofs.Zeros.{zeros_after_write, zeros_along}
use Rattle.esc_regs.proofs.Storing.{stores, not_past, told_bounds, write_is, write_tells}
use Rattle.esc_regs.proofs.register_file.RegFile.store.Goals as goal
use Rattle.esc_regs.proofs.register_file.RegFile.store.Goals.{After-activation}

done : (c : After-activation) → is_refused c.self.inside.kind c.args.start (length c.args.bytes.now) ≡ false
done c =
    let kind : c.self.inside.kind ≡ c.args.self.now.kind = cc in
    ap (λ k. is_refused k c.args.start (length c.args.bytes.now)) kind ∙ c.requires

pub invariant_of-self : goal.invariant_of-self
invariant_of-self c =
    let fits = not_past c.self.inside.kind c.args.start (length c.args.bytes.now) (done c) in
    let room : c.args.start + length c.args.bytes.now ≤ length c.self.inside.bytes = omega (arith, fits, c.self.told) in
    let s = stores c.self.inside.kind c.is_some.result c.args.start c.args.bytes.now c.self.inside.bytes room in
    let are = bytes_below c.args.bytes.now (λ j. let fit = c.type_inv.bytes j in omega (arith, fit)) in (
      zeros_along _ _ _ c.store_bytes.ensures (zeros_after_write _ _ _ _ _ _ s c.self.invariant.0),
      rw c.store_bytes.ensures (bytes_after_write _ _ _ _ _ _ s are c.self.invariant.1),
    )

pub returns-clause-whole : goal.returns-clause-whole
returns-clause-whole c = record { size = omega (arith, c.store_bytes.auto.bytes_held, c.self.told); zeros = (invariant_of-self c).0; are_bytes = (invariant_of-self c).1 }

pub returns-clause-is : goal.returns-clause-is
returns-clause-is c =
    let kind : c.self.inside.kind ≡ c.args.self.now.kind = cc in
    let bytes : c.self.inside.bytes ≡ c.args.self.now.bytes = cc in
    write_is c.args.self.now c.self.inside.kind c.args.start c.args.start c.args.bytes.now c.self.inside.bytes c.store_bytes.new.bytes_held c.is_some.result kind bytes refl (done c)
    (c.is_some.ensures ∙ ap is_some c.rate-rate.ensures) c.store_bytes.ensures

pub returns-clause-tells : goal.returns-clause-tells
returns-clause-tells c =
    let kind : c.self.inside.kind ≡ c.args.self.now.kind = cc in
    write_tells c.args.self.now.kind c.self.inside.kind c.args.start c.args.start c.args.bytes.now _ _ _ _ kind refl (done c) c.latches.ensures c.received.ensures c.rate-rate.ensures c.activation.ensures

pub returns-clause-rate : goal.returns-clause-rate
returns-clause-rate c = told_bounds _ c.args.start c.args.bytes.now c.rate-rate.ensures
