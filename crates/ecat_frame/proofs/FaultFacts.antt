-- What an error says of the bytes.
use Rattle.std.proofs.Common.{◌≡◌, ℕ, ◌+◌, ◌<◌, List, [], ◌∷◌, ◌++◌, length, take, drop, get_or, Err, arith, sym, ap, ◌∙◌, subst, inl, inr, append_assoc}
use Rattle.std.proofs.lemmas.List.{take-append-drop, take_more, take-take}
use Rattle.std.proofs.lemmas.List.Elements.{All-append, All-from_get_or, All-take}
use Rattle.std.proofs.lemmas.Bool.{cases_lt}
use Rattle.ecat_frame.specs.Faults.{IsFault, IsRefused, IsShort}
use Rattle.ecat_frame.specs.FrameGrammar.{AreBytes, InGrammar, IsViable}
use Rattle.ecat_frame.specs.InsideScan.{IsLive, LeadsTo, StopsAt}
use Rattle.ecat_frame.specs.FramePart.{Part}
use Rattle.ecat_frame.specs.Refusals.{Reaches, Reason, refusal, step}
use Rattle.ecat_frame.specs.Refusals as reason
use Rattle.ecat_frame.specs.declared.error.FrameError.{FrameError}
use Rattle.ecat_frame.specs.declared.error.FrameError.TheVariants as fault
use Rattle.ecat_frame.specs.FramePart as part
use Rattle.ecat_frame.proofs.Completions.{completes}
use Rattle.ecat_frame.proofs.FrameInverse.{frame_inverse}
use Rattle.ecat_frame.proofs.FrameRead.{frame_read}
use Rattle.ecat_frame.proofs.Steps.{reaches_append, reaches_split, same_place}

abbrev IsByte : ℕ → Type 0
IsByte b = b < 256

pub bytes_below : (bytes : List ℕ) → ((i : ℕ) → get_or bytes i 0 < 256) → AreBytes bytes
bytes_below bytes h = All-from_get_or IsByte bytes 0 (λ i _. h i)

-- a front of these bytes is the front of each frame that they are the front of
pub front_viable : (n : ℕ) (bytes : List ℕ) → IsViable bytes → IsViable (take n bytes)
front_viable n bytes v =
    let e : bytes ++ v.0 ≡ take n bytes ++ (drop n bytes ++ v.0) = ap (λ bs. bs ++ v.0) (sym (take-append-drop n bytes)) ∙ append_assoc (take n bytes) (drop n bytes) v.0 in
    (drop n bytes ++ v.0, subst InGrammar e v.1)

pub frame_viable : (n : ℕ) (bytes : List ℕ) → InGrammar bytes → IsViable (take n bytes)
frame_viable n bytes g = (drop n bytes, subst InGrammar (sym (take-append-drop n bytes)) g)

read_to_end : (bytes : List ℕ) → InGrammar bytes → (room : ℕ) × Reaches (part.Front 0) bytes (part.Padding room)
read_to_end bytes g =
    let r = frame_read g.0 g.1.0 in
    (r.0, subst (λ bs. Reaches (part.Front 0) bs (part.Padding r.0)) (sym g.1.1) r.1)

pub viable_from_live : (front : List ℕ) (q : Part) → AreBytes front → IsLive q → Reaches (part.Front 0) front q → IsViable front
viable_from_live front q are live h =
    let c = completes q live in
    (c.rest, frame_inverse (front ++ c.rest) c.room (All-append IsByte front c.rest are c.are) (reaches_append front c.rest (part.Front 0) q (part.Padding c.room) h c.goes))

-- where a byte is refused no frame goes on
no_more : (front rest : List ℕ) (b room : ℕ) (q : Part) (r : Reason) → Reaches (part.Front 0) front q → step q b ≡ Err r → Reaches (part.Front 0) ((front ++ b ∷ []) ++ rest) (part.Padding room) → ⊥
no_more front rest b room q r before refused whole =
    let split = reaches_split (front ++ b ∷ []) rest (part.Front 0) (part.Padding room) whole in
    let two = reaches_split front (b ∷ []) (part.Front 0) split.0 split.1.0 in
    let same = same_place front (part.Front 0) two.0 q two.1.0 before in
    let stepped = two.1.1.1.0 in
    cc

stop_ends : (bytes : List ℕ) (n : ℕ) (at : Part) (r : Reason) → n < length bytes → Reaches (part.Front 0) (take n bytes) at → step at (get_or bytes n 0) ≡ Err r → IsViable (take (n + 1) bytes) → ⊥
stop_ends bytes n at r inside reached refused v =
    let f = read_to_end (take (n + 1) bytes ++ v.0) v.1 in
    no_more (take n bytes) v.0 (get_or bytes n 0) f.0 at r reached refused
    (subst (λ l. Reaches (part.Front 0) (l ++ v.0) (part.Padding f.0)) (take_more bytes n 0 inside) f.1)

fault_of_refusal : (bytes : List ℕ) (why : Reason) (n : ℕ) → IsRefused why n bytes → IsFault bytes (refusal why n)
fault_of_refusal bytes reason.EtherType n h = h
fault_of_refusal bytes reason.FrameType n h = h
fault_of_refusal bytes reason.Length n h = h
fault_of_refusal bytes reason.Command n h = h
fault_of_refusal bytes reason.More n h = h
fault_of_refusal bytes reason.TooLong n h = h

refused_from_stop : (bytes : List ℕ) (e : FrameError) → AreBytes bytes → (s : StopsAt bytes e) → IsRefused s.why s.n bytes
refused_from_stop bytes e are s = record {
  inside = s.inside;
  viable = viable_from_live (take s.n bytes) s.at (All-take IsByte s.n bytes are) s.live s.reached;
  ends = stop_ends bytes s.n s.at s.why s.inside s.reached s.refused;
  at = s.at;
  reached = s.reached;
  refused = s.refused;
}

pub fault_from_stop : (bytes : List ℕ) (e : FrameError) → AreBytes bytes → StopsAt bytes e → IsFault bytes e
fault_from_stop bytes e are s = subst (IsFault bytes) (sym s.is) (fault_of_refusal bytes s.why s.n (refused_from_stop bytes e are s))

pub grammar_from_end : (bytes : List ℕ) (q : Part) (room : ℕ) → AreBytes bytes → q ≡ part.Padding room → LeadsTo bytes q → InGrammar bytes
grammar_from_end bytes q room are e h = frame_inverse bytes room are (subst (Reaches (part.Front 0) bytes) e h.reached)

pub short_from_inside : (bytes : List ℕ) (q : Part) (n : ℕ) → n ≡ length bytes → AreBytes bytes → LeadsTo bytes q → ((room : ℕ) → q ≡ part.Padding room → ⊥) → IsShort n bytes
short_from_inside bytes q n e are h other = record {
  number = e;
  viable = viable_from_live bytes q are h.live h.reached;
  unfinished = λ g. let f = read_to_end bytes g in other f.0 (same_place bytes (part.Front 0) q (part.Padding f.0) h.reached f.1);
}

-- ---- an error rules out a frame and each other error

-- an error other than Short, by its reason
pub data Told (bytes : List ℕ) : FrameError → Type 0 where
  Ends : (n : ℕ) → IsShort n bytes → Told bytes (fault.Short n)
  Refuses : (why : Reason) (n : ℕ) → IsRefused why n bytes → Told bytes (refusal why n)

told_by : (bytes : List ℕ) (e : FrameError) → IsFault bytes e → Told bytes e
told_by bytes (fault.Short n) h = Ends n h
told_by bytes (fault.EtherType n) h = Refuses reason.EtherType n h
told_by bytes (fault.FrameType n) h = Refuses reason.FrameType n h
told_by bytes (fault.Length n) h = Refuses reason.Length n h
told_by bytes (fault.Command n) h = Refuses reason.Command n h
told_by bytes (fault.More n) h = Refuses reason.More n h
told_by bytes (fault.TooLong n) h = Refuses reason.TooLong n h

refused_no_frame : (bytes : List ℕ) (why : Reason) (n : ℕ) → IsRefused why n bytes → InGrammar bytes → ⊥
refused_no_frame bytes why n h g = h.ends (frame_viable (n + 1) bytes g)

pub fault_no_frame : (bytes : List ℕ) (e : FrameError) → IsFault bytes e → InGrammar bytes → ⊥
fault_no_frame bytes (fault.Short n) h g = h.unfinished g
fault_no_frame bytes (fault.EtherType n) h g = refused_no_frame bytes reason.EtherType n h g
fault_no_frame bytes (fault.FrameType n) h g = refused_no_frame bytes reason.FrameType n h g
fault_no_frame bytes (fault.Length n) h g = refused_no_frame bytes reason.Length n h g
fault_no_frame bytes (fault.Command n) h g = refused_no_frame bytes reason.Command n h g
fault_no_frame bytes (fault.More n) h g = refused_no_frame bytes reason.More n h g
fault_no_frame bytes (fault.TooLong n) h g = refused_no_frame bytes reason.TooLong n h g

short_not_refused : (bytes : List ℕ) (n m : ℕ) (why : Reason) → IsShort n bytes → IsRefused why m bytes → ⊥
short_not_refused bytes n m why s r = r.ends (front_viable (m + 1) bytes s.viable)

not_earlier : (bytes : List ℕ) (n m : ℕ) (why why' : Reason) → IsRefused why n bytes → IsRefused why' m bytes → n < m → ⊥
not_earlier bytes n m why why' a b h =
    a.ends (subst IsViable (take-take (n + 1) m bytes (omega arith)) (front_viable (n + 1) (take m bytes) b.viable))

same_reason : (bytes : List ℕ) (n m : ℕ) (why why' : Reason) → n ≡ m → IsRefused why n bytes → IsRefused why' m bytes → why ≡ why'
same_reason bytes n m why why' e a b =
    let there : Reaches (part.Front 0) (take n bytes) b.at = subst (λ i. Reaches (part.Front 0) (take i bytes) b.at) (sym e) b.reached in
    let at = same_place (take n bytes) (part.Front 0) a.at b.at a.reached there in
    let one = a.refused in
    let two : step b.at (get_or bytes n 0) ≡ Err why' = subst (λ i. step b.at (get_or bytes i 0) ≡ Err why') (sym e) b.refused in
    cc

same_refusal : (bytes : List ℕ) (n m : ℕ) (why why' : Reason) → IsRefused why n bytes → IsRefused why' m bytes → refusal why n ≡ refusal why' m
same_refusal bytes n m why why' a b =
    let e : n ≡ m = same_place_of n m (not_earlier bytes n m why why' a b) (not_earlier bytes m n why' why b a) in
    let r = same_reason bytes n m why why' e a b in
    cc
  where
    same_place_of : (i j : ℕ) → (i < j → ⊥) → (j < i → ⊥) → i ≡ j
    same_place_of i j h k =
        elim (cases_lt i j) [ inl l ↦ absurd (h l) | inr l ↦ elim (cases_lt j i) [ inl g ↦ absurd (k g) | inr g ↦ omega arith ] ]

same_told : (bytes : List ℕ) (e e' : FrameError) → Told bytes e → Told bytes e' → e ≡ e'
same_told bytes e e' (Ends n a) (Ends m b) = ap fault.Short (a.number ∙ sym b.number)
same_told bytes e e' (Ends n a) (Refuses why m b) = absurd (short_not_refused bytes n m why a b)
same_told bytes e e' (Refuses why n a) (Ends m b) = absurd (short_not_refused bytes m n why b a)
same_told bytes e e' (Refuses why n a) (Refuses why' m b) = same_refusal bytes n m why why' a b

-- at most one error fits the bytes
pub fault_unique : (bytes : List ℕ) (e e' : FrameError) → IsFault bytes e → IsFault bytes e' → e ≡ e'
fault_unique bytes e e' a b = same_told bytes e e' (told_by bytes e a) (told_by bytes e' b)
