use Rattle.std.proofs.Common.{◌≡◌, ℕ, ◌+◌, List, [], ◌∷◌, ◌++◌, bit_or, drop, refl, ◌∙◌, arith}
use Rattle.std.proofs.lemmas.Nat.{or_shifted}
use Rattle.ecat_frame.specs.FrameGrammar.{word}
use Rattle.ecat_frame.proofs.Puts.{put_next}
use Rattle.ecat_frame.proofs.builder.write_front.Goals as goal

pub returns : goal.returns
returns c =
    let old = c.args.bytes.now in
    let to : List ℕ = 255 ∷ 255 ∷ 255 ∷ 255 ∷ 255 ∷ 255 ∷ [] in
    let from : List ℕ = 2 ∷ 0 ∷ 0 ∷ 0 ∷ 0 ∷ 1 ∷ [] in
    let type : List ℕ = 0x88 ∷ 0xA4 ∷ [] in
    let both : bit_or 4096 c.args.len ≡ c.args.len + 4096 = or_shifted 1 12 c.args.len (omega (arith, c.requires.short)) ∙ omega arith in
    let f2 = put_next 6 12 to from old _ c.write_part-2.new.bytes c.write_part.ensures c.write_part-2.ensures refl refl in
    let f3 = put_next 12 14 (to ++ from) type old _ c.write_part-3.new.bytes f2 c.write_part-3.ensures refl refl in
    let f4 : c.write_word.new.bytes ≡ (to ++ from ++ type ++ word (bit_or 4096 c.args.len)) ++ drop 16 old = put_next 14 16 (to ++ from ++ type) (word (bit_or 4096 c.args.len)) old _ c.write_word.new.bytes f3 c.write_word.ensures refl refl in
    rw both at f4
