-- One call after another, by the bytes that an object tells.
use Rattle.std.proofs.Common.{◌≡◌, ℕ, ◌+◌, ◌≤◌, List, ◌++◌, length, take, drop, Option, sym, ◌∙◌, ap}
use Rattle.std.proofs.KnownBytes.{Appends-trans, Consumes-trans}
use Rattle.std.proofs.Math.Seq.{take-append-add}
use Rattle.std.proofs.lemmas.List.{take_at, length-take-le, drop-drop, take-append-drop}
use Rattle.std.specs.Io.KnownBytes.{Appends, Consumes}
use Rattle.dc_base.specs.Told.{AppendsFront}

-- bytes were given, and then more
pub Consumes-more : (a b c : Option (List ℕ)) (xs ys : List ℕ) → Consumes a b xs → Consumes b c ys → Consumes a c (xs ++ ys)
Consumes-more = Consumes-trans

-- bytes were taken, and then more
pub Appends-more : (a b c : Option (List ℕ)) (xs ys : List ℕ) → Appends a b xs → Appends b c ys → Appends a c (xs ++ ys)
Appends-more = Appends-trans

-- bytes were taken, and then a front of more
pub AppendsFront-more : (a b c : Option (List ℕ)) (xs ys : List ℕ) → Appends a b xs → AppendsFront b c ys → AppendsFront a c (xs ++ ys)
AppendsFront-more a b c xs ys p q = (length xs + q.0, rw (take-append-add xs ys q.0) (Appends-more a b c xs (take q.0 ys) p q.1))

-- the first n of the items from at on were given, by a copy to the front of a buffer
pub Consumes-copied : (items buf piece : List ℕ) (at n : ℕ) → piece ≡ take n (drop at items) → n ≤ length (drop at items) → drop at items ≡ take n (piece ++ drop n buf) ++ drop (at + n) items
Consumes-copied items buf piece at n given fits =
    let size : length piece ≡ n = ap length given ∙ length-take-le n (drop at items) fits in
    rw (take_at piece (drop n buf) n size) (rw given (rw (← drop-drop n at items) (sym (take-append-drop n (drop at items)))))
