-- Frames without what may change on their way.
use Rattle.std.proofs.Common.{◌≡◌, ◌∙◌, sym, ap, ℕ, zero, suc, ◌<◌, List, [], ◌∷◌, ◌++◌, length, map, replicate, Some, None, slice_get, refl, arith}
use Rattle.std.specs.List.{All}
use Rattle.std.proofs.lemmas.List.{append-nil, length-append, length-replicate}
use Rattle.std.proofs.lemmas.List.Elements.{All-cons, All-head, All-nil, All-tail, All-replicate}
use Rattle.ecat_frame.specs.Changed.{answered, changed, modify}
use Rattle.ecat_frame.specs.Commands.{code_of}
use Rattle.ecat_frame.specs.Difference.{first_apart, first_difference, wiped, wiped_datagram}
use Rattle.ecat_frame.specs.FrameGrammar.{DatagramValue, FrameValue, IsDatagram, IsFrame, all_spelled, header_word, length_word_of, more, spelled, spelling, word}
use Rattle.ecat_frame.proofs.Apart.{apart_none, apart_same}
use Rattle.ecat_frame.proofs.Injective.{spelling-injective}
use Rattle.ecat_frame.proofs.Spelled.{length-spelled, spelled-append}
use Rattle.ecat_frame.proofs.Spelling.{spelling-append}

pub more_wiped : (ds : List DatagramValue) → more (map wiped_datagram ds) ≡ more ds
more_wiped [] = refl
more_wiped (d ∷ ds) = refl

length-spelled-wiped : (m n : ℕ) (d : DatagramValue) → length (spelled m (wiped_datagram d)) ≡ length (spelled n d)
length-spelled-wiped m n d = omega (arith, length-spelled m (wiped_datagram d), length-spelled n d, let z : ℕ = 0 in length-replicate (length d.payload) z)

pub length-all_spelled-wiped : (ds : List DatagramValue) → length (all_spelled (map wiped_datagram ds)) ≡ length (all_spelled ds)
unfolding all_spelled
length-all_spelled-wiped [] = refl
length-all_spelled-wiped (d ∷ ds) =
    omega (
      arith,
      length-append (spelled (more (map wiped_datagram ds)) (wiped_datagram d)) (all_spelled (map wiped_datagram ds)),
      length-append (spelled (more ds) d) (all_spelled ds),
      length-spelled-wiped (more (map wiped_datagram ds)) (more ds) d,
      length-all_spelled-wiped ds,
    )

IsDatagram-wiped : (d : DatagramValue) → IsDatagram d → IsDatagram (wiped_datagram d)
IsDatagram-wiped d w = record {
  index = w.index;
  adp = omega arith;
  ado = w.ado;
  flags = omega arith;
  size = let z : ℕ = 0 in let long = length-replicate (length d.payload) z in let size = w.size in omega arith;
  irq = omega arith;
  payload = All-replicate (λ b. b < 256) (length d.payload) 0 (omega arith);
  wkc = omega arith;
}

All-wiped : (ds : List DatagramValue) → All IsDatagram ds → All IsDatagram (map wiped_datagram ds)
All-wiped [] w = All-nil IsDatagram
All-wiped (d ∷ ds) w =
    All-cons IsDatagram (wiped_datagram d) (map wiped_datagram ds) (IsDatagram-wiped d (All-head IsDatagram d ds w)) (All-wiped ds (All-tail IsDatagram d ds w))

pub IsFrame-wiped : (f : FrameValue) → IsFrame f → IsFrame (wiped f)
IsFrame-wiped f w =
    let size = length-all_spelled-wiped f.datagrams in
    record {
      destination = (refl, All-replicate (λ b. b < 256) 6 0 (omega arith));
      source = (refl, All-replicate (λ b. b < 256) 6 0 (omega arith));
      reserved = w.reserved;
      datagrams = All-wiped f.datagrams w.datagrams;
      least = rw size w.least;
      most = rw size w.most;
      padding = All-nil (λ b. b < 256);
      padded = omega arith;
    }

pub none_is_same : (f g : FrameValue) → IsFrame f → IsFrame g → first_difference f g ≡ None → wiped f ≡ wiped g
unfolding first_difference
none_is_same f g v w e =
    spelling-injective (wiped f) (wiped g) (IsFrame-wiped f v) (IsFrame-wiped g w) (apart_none (spelling (wiped f)) (spelling (wiped g)) e)

pub same_is_none : (f g : FrameValue) → wiped f ≡ wiped g → first_difference f g ≡ None
unfolding first_difference
same_is_none f g e = ap (λ h. first_apart (spelling h) (spelling (wiped g))) e ∙ apart_same (spelling (wiped g))

-- a change of what is wiped
wiped-modify : (k : ℕ) (h : DatagramValue → DatagramValue) (ds : List DatagramValue) (d : DatagramValue) → slice_get ds k ≡ Some d → wiped_datagram (h d) ≡ wiped_datagram d → map wiped_datagram (modify k h ds) ≡ map wiped_datagram ds
wiped-modify k h [] d is e = refl
wiped-modify zero h (c ∷ ds) d is e =
    let same : c ≡ d = cc in
    rw same (ap (λ x. x ∷ map wiped_datagram ds) e)
wiped-modify (suc k) h (c ∷ ds) d is e = ap (λ es. wiped_datagram c ∷ es) (wiped-modify k h ds d is e)

pub wiped-changed : (k : ℕ) (h : DatagramValue → DatagramValue) (f : FrameValue) (d : DatagramValue) → slice_get f.datagrams k ≡ Some d → wiped_datagram (h d) ≡ wiped_datagram d → wiped (changed k h f) ≡ wiped f
wiped-changed k h f d is e = ap (λ ds. record (wiped f) { datagrams = ds }) (wiped-modify k h f.datagrams d is e)

pub wiped-answered : (k adp wkc : ℕ) (payload : List ℕ) (f : FrameValue) (d : DatagramValue) → slice_get f.datagrams k ≡ Some d → length payload ≡ length d.payload → wiped (changed k (answered adp payload wkc) f) ≡ wiped f
wiped-answered k adp wkc payload f d is long =
    wiped-changed k (answered adp payload wkc) f d is (ap (λ n. record (wiped_datagram d) { payload = replicate n 0 }) long)

-- the bytes of a wiped frame
pub spelling-wiped : (f : FrameValue) → spelling (wiped f) ≡ (0 ∷ 0 ∷ 0 ∷ 0 ∷ 0 ∷ 0 ∷ 0 ∷ 0 ∷ 0 ∷ 0 ∷ 0 ∷ 0 ∷ 0x88 ∷ 0xA4 ∷ []) ++ (word (header_word f) ++ all_spelled (map wiped_datagram f.datagrams))
spelling-wiped f =
    sym (append-nil (spelling (wiped f))) ∙ spelling-append (wiped f) [] ∙ rw (append-nil (all_spelled (map wiped_datagram f.datagrams)), length-all_spelled-wiped f.datagrams) refl

-- and of a wiped datagram: its head up to the IRQ, and zeros
unfoldable pub heading_of : ℕ → DatagramValue → List ℕ
heading_of m d = code_of d.head.command ∷ d.head.index ∷ 0 ∷ 0 ∷ word d.head.ado ++ word (length_word_of m (wiped_datagram d))

pub length-heading_of : (m : ℕ) (d : DatagramValue) → length (heading_of m d) ≡ 8
unfolding heading_of
length-heading_of m d = refl

pub spelled-wiped : (m : ℕ) (d : DatagramValue) (xs : List ℕ) → spelled m (wiped_datagram d) ++ xs ≡ heading_of m d ++ (0 ∷ 0 ∷ (replicate (length d.payload) 0 ++ (0 ∷ 0 ∷ xs)))
unfolding heading_of
spelled-wiped m d xs = rw (spelled-append m (wiped_datagram d) xs) refl
