use Rattle.std.proofs.Common.{◌≡◌, ◌+◌, ◌-◌, [], ◌∷◌, ◌++◌, length, refl, ap, ◌∙◌, arith}
use borrow.Rule.Slice.PartMut.{put_mid}
use Rattle.ecat_frame.specs.Built.{fresh}
use Rattle.ecat_frame.specs.Changed.{put}
use Rattle.ecat_frame.proofs.Chained.{length-chained}
use Rattle.ecat_frame.proofs.Datagrams.{length-all_spelled, length-all_spelled-ge}
use Rattle.ecat_frame.proofs.Filled.{Holds, datagrams_of-filled, filled_from, holds_more, holds_value}
use Rattle.ecat_frame.proofs.Puts.{put_mid-part}
use Rattle.ecat_frame.proofs.Spelled.{length-spelled}
use Rattle.ecat_frame.proofs.builder.Builder.push.Goals as goal
use Rattle.ecat_frame.proofs.builder.Builder.push.Goals.{After-write_datagram}

pub returns-then-len-gt-MAX_LENGTH-clause-full : goal.returns-then-len-gt-MAX_LENGTH-clause-full
returns-then-len-gt-MAX_LENGTH-clause-full c =
    let h = holds_value c.self.inside c.args.self.now c.self.invariant c.self.view_is in
    (λ _. omega (arith, h.len, length-chained c.args.self.now), λ _. refl)

pub returns-then-len-gt-MAX_LENGTH-clause-fits : goal.returns-then-len-gt-MAX_LENGTH-clause-fits
returns-then-len-gt-MAX_LENGTH-clause-fits c =
    let h = holds_value c.self.inside c.args.self.now c.self.invariant c.self.view_is in
    λ m. absurd (omega (arith, h.len, length-chained c.args.self.now, length-all_spelled c.args.self.now))

pub overflow_add-self : goal.overflow_add-self
overflow_add-self c =
    let h = holds_value c.self.inside c.args.self.now c.self.invariant c.self.view_is in
    omega (arith, h.len, h.count, h.room, length-chained c.args.self.now, length-all_spelled-ge c.args.self.now)

pub returns-clause-full : goal.returns-clause-full
returns-clause-full c =
    let h = holds_value c.self.inside c.args.self.now c.self.invariant c.self.view_is in
    (λ e. cc, λ m. absurd (omega (arith, h.len, length-chained c.args.self.now)))

holds : (c : After-write_datagram) → Holds (record { bytes = put_mid c.self.inside.len (c.self.inside.len + 12 + length c.args.payload.now - c.self.inside.len) c.self.inside.bytes c.write_datagram.new.bytes; len = c.self.inside.len + 12 + length c.args.payload.now; count = c.self.inside.count + 1 }) (c.args.self.now ++ fresh c.args.head c.args.payload.now ∷ [])
holds c =
    let h = holds_value c.self.inside c.args.self.now c.self.invariant c.self.view_is in
    let d = fresh c.args.head c.args.payload.now in
    let part : length c.write_datagram.new.bytes ≡ c.self.inside.len + 12 + length c.args.payload.now - c.self.inside.len = ap length c.write_datagram.ensures.bytes ∙ length-spelled 1 d ∙ omega arith in
    holds_more c.self.inside c.args.self.now d _ _ h c.write_datagram.ensures.valid
    (put_mid-part c.self.inside.len _ c.self.inside.bytes c.write_datagram.new.bytes part ∙ ap (λ ys. put c.self.inside.len ys c.self.inside.bytes) c.write_datagram.ensures.bytes) (omega arith) c.if-len-gt-MAX_LENGTH.false

pub invariant_of-self : goal.invariant_of-self
invariant_of-self c = filled_from _ _ (holds (goal.at.invariant_of-self c).After-write_datagram)

pub returns-clause-ok : goal.returns-clause-ok
returns-clause-ok c = datagrams_of-filled _ _ (holds (goal.at.returns-clause-ok c).After-write_datagram)
