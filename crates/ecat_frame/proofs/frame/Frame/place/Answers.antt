use Rattle.std.proofs.Common.{refl, arith}
use Rattle.ecat_frame.proofs.Kept.{begins_at, keeps_value}
use Rattle.ecat_frame.proofs.frame.Frame.place.Goals as goal

pub place_of-requires : goal.place_of-requires
place_of-requires c =
    let b = begins_at c.self.inside c.args.self.now c.args.k _ (keeps_value c.self.inside c.args.self.now c.self.invariant c.self.view_is) c.requires refl in
    omega (arith, b.within, c.self.told)

pub returns : goal.returns
returns c =
    begins_at c.self.inside c.args.self.now c.args.k c.place_of.result (keeps_value c.self.inside c.args.self.now c.self.invariant c.self.view_is) c.requires c.place_of.ensures
