-- The walk over the length words.
use Rattle.std.proofs.Common.{◌≡◌, ℕ, suc, ◌+◌, ◌-◌, ◌<◌, ◌≤◌, List, drop, refl, arith}
use Rattle.std.proofs.lemmas.List.{drop-drop}
use Rattle.ecat_frame.specs.Reading.{data_length, place_in}

place_in-next : (n m : ℕ) (bs : List ℕ) → n ≡ suc m → place_in n bs ≡ 12 + data_length bs + place_in m (drop (12 + data_length bs) bs)
unfolding place_in
place_in-next n m bs e = rw e refl

-- one datagram further
pub walked : (k i at to n : ℕ) (bs : List ℕ) → i < k → n ≡ data_length (drop at bs) → at + place_in (k - i) (drop at bs) ≡ to → at + (12 + n) + place_in (k - (i + 1)) (drop (at + (12 + n)) bs) ≡ to
walked k i at to n bs h e f =
    let step = place_in-next (k - i) (k - (i + 1)) (drop at bs) (omega arith) in
    let joined = drop-drop (12 + data_length (drop at bs)) at bs in
    rw e (rw (← joined) (omega (arith, step)))

-- at the last one
pub walked_all : (k i at to : ℕ) (bs : List ℕ) → k ≤ i → at + place_in (k - i) (drop at bs) ≡ to → at ≡ to
unfolding place_in
walked_all k i at to bs h f =
    let none : k - i ≡ 0 = omega arith in
    let g = rw none at f in
    omega arith
