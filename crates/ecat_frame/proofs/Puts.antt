-- Bytes written at a place.
use Rattle.std.proofs.Common.{◌≡◌, ℕ, ◌+◌, ◌-◌, List, [], ◌∷◌, ◌++◌, length, take, drop, refl, sym, ap, ◌∙◌, arith}
use Rattle.std.proofs.lemmas.List.{take_at, drop_at, append_assoc, take_rest, drop_all, drop-drop, append-nil, length-drop}
use borrow.Rule.Slice.PartMut.{put_mid}
use Rattle.ecat_frame.specs.Changed.{put}
use Rattle.ecat_frame.specs.FrameGrammar.{word}

-- a write at the front of all that lies behind a place
pub put_mid-rest : (at : ℕ) (bs ys part : List ℕ) → ys ≡ part ++ drop (length part) (take (length bs - at) (drop at bs)) → put_mid at (length bs - at) bs ys ≡ put at part bs
put_mid-rest at bs ys part e =
    let none : drop (length bs - at) (drop at bs) ≡ [] = drop_all (length bs - at) (drop at bs) (omega (arith, length-drop at bs)) in
    let end : drop (length part) (take (length bs - at) (drop at bs)) ≡ drop (at + length part) bs = ap (drop (length part)) (take_rest bs at) ∙ drop-drop (length part) at bs in
    ap (λ zs. take at bs ++ zs) (ap (λ zs. ys ++ zs) none ∙ append-nil ys ∙ e ∙ ap (λ zs. part ++ zs) end)

-- a write to a part
pub put_mid-part : (at n : ℕ) (bs ys : List ℕ) → length ys ≡ n → put_mid at n bs ys ≡ put at ys bs
put_mid-part at n bs ys e = ap (λ zs. take at bs ++ (ys ++ zs)) (drop-drop n at bs ∙ ap (λ (i : ℕ). drop (at + i) bs) (sym e))

-- one part written behind another
pub put_next : (at n : ℕ) (front part bs xs ys : List ℕ) → xs ≡ front ++ drop at bs → ys ≡ put at part xs → length front ≡ at → n ≡ at + length part → ys ≡ (front ++ part) ++ drop n bs
put_next at n front part bs xs ys e f len end =
    let rest : drop (at + length part) (front ++ drop at bs) ≡ drop n bs =
    sym (drop-drop (length part) at (front ++ drop at bs)) ∙ ap (drop (length part)) (drop_at front (drop at bs) at len) ∙ drop-drop (length part) at bs ∙ ap (λ i. drop i bs) (sym end) in
    f ∙ rw (e, take_at front (drop at bs) at len, rest) (sym (append_assoc front part (drop n bs)))

-- the head of a datagram, its data and its working counter, one behind the other
pub written : (p q adp ado lw n : ℕ) (payload bs b1 b2 b3 b4 b5 b6 b7 : List ℕ) → n ≡ length payload → length bs ≡ 12 + n → b1 ≡ put 0 (p ∷ q ∷ []) bs → b2 ≡ put 2 (word adp) b1 → b3 ≡ put 4 (word ado) b2 → b4 ≡ put 6 (word lw) b3 → b5 ≡ put 8 (word 0) b4 → b6 ≡ put 10 payload b5 → b7 ≡ put (10 + n) (word 0) b6
    → b7 ≡ p ∷ q ∷ word adp ++ word ado ++ word lw ++ word 0 ++ payload ++ word 0
written p q adp ado lw n payload bs b1 b2 b3 b4 b5 b6 b7 size room e1 e2 e3 e4 e5 e6 e7 =
    let h : List ℕ = p ∷ q ∷ [] in
    let f1 : b1 ≡ h ++ drop 2 bs = e1 in
    let f2 : b2 ≡ (h ++ word adp) ++ drop 4 bs = put_next 2 4 h (word adp) bs b1 b2 f1 e2 refl refl in
    let f3 : b3 ≡ (h ++ word adp ++ word ado) ++ drop 6 bs = put_next 4 6 (h ++ word adp) (word ado) bs b2 b3 f2 e3 refl refl in
    let f4 : b4 ≡ (h ++ word adp ++ word ado ++ word lw) ++ drop 8 bs = put_next 6 8 (h ++ word adp ++ word ado) (word lw) bs b3 b4 f3 e4 refl refl in
    let f5 : b5 ≡ (h ++ word adp ++ word ado ++ word lw ++ word 0) ++ drop 10 bs = put_next 8 10 (h ++ word adp ++ word ado ++ word lw) (word 0) bs b4 b5 f4 e5 refl refl in
    let f6 : b6 ≡ (h ++ word adp ++ word ado ++ word lw ++ word 0 ++ payload) ++ drop (10 + n) bs = put_next 10 (10 + n) (h ++ word adp ++ word ado ++ word lw ++ word 0) payload bs b5 b6 f5 e6 refl (omega arith) in
    let none : drop (12 + n) bs ≡ [] = drop_all (12 + n) bs (omega arith) in
    put_next (10 + n) (12 + n) (h ++ word adp ++ word ado ++ word lw ++ word 0 ++ payload) (word 0) bs b6 b7 f6 e7 (omega arith) (omega arith)
    ∙ ap (λ zs. (h ++ word adp ++ word ado ++ word lw ++ word 0 ++ payload ++ word 0) ++ zs) none
    ∙ append-nil (h ++ word adp ++ word ado ++ word lw ++ word 0 ++ payload ++ word 0)
