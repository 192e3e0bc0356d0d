-- Equal bytes are those of equal frames.
use Rattle.std.proofs.Common.{◌≡◌, ◌/◌, ◌%◌, List, [], ◌∷◌, ◌++◌, length, take, drop, refl, sym, ap, ◌∙◌, arith}
use Rattle.std.specs.List.{All}
use Rattle.std.proofs.lemmas.List.{length-append, take_at, drop_at, append-nil}
use Rattle.std.proofs.lemmas.List.Elements.{All-head, All-tail}
use Rattle.ecat_frame.specs.FrameGrammar.{DatagramValue, FrameValue, IsDatagram, IsFrame, spelled, all_spelled, spelling, more, header_word}
use Rattle.ecat_frame.specs.InsideFrame.{header_in}
use Rattle.ecat_frame.specs.Reading.{first_datagram, behind_first}
use Rattle.ecat_frame.proofs.Datagrams.{cons_path, more-lt}
use Rattle.ecat_frame.proofs.Spelled.{first_datagram-spelled, behind_first-spelled, length-spelled}
use Rattle.ecat_frame.proofs.Spelling.{take-spelling, take-drop-spelling, header_in-spelling, drop-spelling, header_word-mod, header_word-div, frame_path}

pub all_spelled-injective : (ds es : List DatagramValue) → All IsDatagram ds → All IsDatagram es → all_spelled ds ≡ all_spelled es → ds ≡ es
unfolding all_spelled
all_spelled-injective [] [] p q e = refl
all_spelled-injective [] (f ∷ es) p q e =
    absurd (omega (arith, ap length e, length-append (spelled (more es) f) (all_spelled es), length-spelled (more es) f))
all_spelled-injective (d ∷ ds) [] p q e =
    absurd (omega (arith, ap length e, length-append (spelled (more ds) d) (all_spelled ds), length-spelled (more ds) d))
all_spelled-injective (d ∷ ds) (f ∷ es) p q e =
    let w = All-head IsDatagram d ds p in
    let v = All-head IsDatagram f es q in
    let first = sym (first_datagram-spelled (more ds) d (all_spelled ds) (more-lt ds) w) ∙ ap first_datagram e ∙ first_datagram-spelled (more es) f (all_spelled es) (more-lt es) v in
    let rest = sym (behind_first-spelled (more ds) d (all_spelled ds) (more-lt ds) w) ∙ ap (λ bs. behind_first bs) e ∙ behind_first-spelled (more es) f (all_spelled es) (more-lt es) v in
    cons_path d f ds es first (all_spelled-injective ds es (All-tail IsDatagram d ds p) (All-tail IsDatagram f es q) rest)

pub spelling-injective : (f g : FrameValue) → IsFrame f → IsFrame g → spelling f ≡ spelling g → f ≡ g
spelling-injective f g w v e =
    let whole : spelling f ++ [] ≡ spelling g ++ [] = ap (λ bs. bs ++ []) e in
    let header : header_word f ≡ header_word g = sym (header_in-spelling f w []) ∙ ap (λ bs. header_in bs) whole ∙ header_in-spelling g v [] in
    let size : length (all_spelled f.datagrams) ≡ length (all_spelled g.datagrams) = sym (header_word-mod f w) ∙ ap (λ n. n % 2048) header ∙ header_word-mod g v in
    let rest : all_spelled f.datagrams ++ (f.padding ++ []) ≡ all_spelled g.datagrams ++ (g.padding ++ []) = sym (drop-spelling f w []) ∙ ap (drop 16) whole ∙ drop-spelling g v [] in
    let bodies : all_spelled f.datagrams ≡ all_spelled g.datagrams =
    sym (take_at (all_spelled f.datagrams) (f.padding ++ []) (length (all_spelled g.datagrams)) size) ∙ ap (take (length (all_spelled g.datagrams))) rest
    ∙ take_at (all_spelled g.datagrams) (g.padding ++ []) (length (all_spelled g.datagrams)) refl in
    let ends : f.padding ++ [] ≡ g.padding ++ [] =
    sym (drop_at (all_spelled f.datagrams) (f.padding ++ []) (length (all_spelled g.datagrams)) size) ∙ ap (drop (length (all_spelled g.datagrams))) rest
    ∙ drop_at (all_spelled g.datagrams) (g.padding ++ []) (length (all_spelled g.datagrams)) refl in
    frame_path f.destination g.destination f.source g.source f.reserved g.reserved f.datagrams g.datagrams f.padding g.padding
    (sym (take-spelling f w []) ∙ ap (take 6) whole ∙ take-spelling g v [])
    (sym (take-drop-spelling f w []) ∙ ap (λ bs. take 6 (drop 6 bs)) whole ∙ take-drop-spelling g v [])
    (sym (header_word-div f w) ∙ ap (λ n. n / 2048 % 2) header ∙ header_word-div g v)
    (all_spelled-injective f.datagrams g.datagrams w.datagrams v.datagrams bodies)
    (sym (append-nil f.padding) ∙ ends ∙ append-nil g.padding)
