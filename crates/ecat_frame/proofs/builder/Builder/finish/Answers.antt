use Rattle.std.proofs.Common.{ℕ, ◌+◌, ◌-◌, ◌<◌, ◌≤◌, ◌≡◌, List, length, drop, refl, arith}
use Rattle.ecat_frame.specs.Built.{built}
use Rattle.ecat_frame.specs.FrameGrammar.{DatagramValue}
use Rattle.ecat_frame.specs.InsideBuilder.{IsFilled, datagrams_of}
use Rattle.ecat_frame.specs.Reading.{place_in}
use Rattle.ecat_frame.specs.declared.builder.Builder.TheInside.{Inside}
use Rattle.ecat_frame.proofs.Build.{closing, keeps_built}
use Rattle.ecat_frame.proofs.Filled.{holds_value, length-held}
use Rattle.ecat_frame.proofs.Kept.{Keeps, kept_from, value_of-kept}
use Rattle.ecat_frame.proofs.builder.Builder.finish.Goals as goal
use Rattle.ecat_frame.proofs.builder.Builder.finish.Goals.{After-max}

-- the last datagram lies within the bytes
within : (a : Inside) (ds : List DatagramValue) (at : ℕ) → IsFilled a → datagrams_of a ≡ ds → 0 < length ds → at ≡ 16 + place_in (a.count - 1) (drop 16 a.bytes) → (at + 12 ≤ 1514) × (length a.bytes ≡ 1514)
within a ds at w e some place =
    let h = holds_value a ds w e in
    ((closing a ds at h some place).within, length-held a ds h)

pub place_of-at-requires : goal.place_of-at-requires
place_of-at-requires c =
    let h = within c.self.inside c.args.self _ c.self.invariant c.self.view_is c.requires refl in
    omega (arith, h.0, h.1)

pub overflow_add-at : goal.overflow_add-at
overflow_add-at c =
    let h = within c.self.inside c.args.self c.place_of-at.result c.self.invariant c.self.view_is c.requires c.place_of-at.ensures in
    omega (arith, h.0)

pub read_word-length_word-requires : goal.read_word-length_word-requires
read_word-length_word-requires c =
    let h = within c.self.inside c.args.self c.place_of-at.result c.self.invariant c.self.view_is c.requires c.place_of-at.ensures in
    omega (arith, h.0, h.1)

pub write_word-requires : goal.write_word-requires
write_word-requires c =
    let h = within c.self.inside c.args.self c.place_of-at.result c.self.invariant c.self.view_is c.requires c.place_of-at.ensures in
    omega (arith, h.0, h.1)

keeps : (c : After-max) → Keeps (record { bytes = c.write_front.new.bytes; len = c.max.result; count = c.self.inside.count }) (built c.args.self)
keeps c =
    keeps_built c.self.inside c.args.self c.place_of-at.result c.read_word-length_word.result c.max.result c.write_word.new.bytes c.write_front.new.bytes (holds_value c.self.inside c.args.self c.self.invariant c.self.view_is) c.requires c.place_of-at.ensures c.read_word-length_word.ensures c.write_word.ensures c.write_front.ensures c.max.ensures

pub invariant_of-result : goal.invariant_of-result
invariant_of-result c = kept_from _ _ (keeps c)

pub returns : goal.returns
returns c = value_of-kept _ _ (keeps c)
