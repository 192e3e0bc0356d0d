-- Where a frame that came back differs from the frame that was sent.
use Rattle.std.specs.Prelude.{ℕ, ◌+◌, ◌%◌, ◌==◌, if◌then◌else◌, List, [], ◌∷◌, length, map, replicate, Option, Some, None, option_map}
use Rattle.ecat_frame.specs.FrameGrammar.{DatagramValue, FrameValue, spelling}

-- A datagram without what may change on its way: ADP, the circulating bit, IRQ, data and working
-- counter.
abbrev pub wiped_datagram : DatagramValue → DatagramValue
wiped_datagram d = record {
  head = record d.head { adp = 0 };
  flags = d.flags % 8;
  irq = 0;
  payload = replicate (length d.payload) 0;
  wkc = 0;
}

-- a frame without that, without addresses and without padding
abbrev pub wiped : FrameValue → FrameValue
wiped f = record {
  destination = 0 ∷ 0 ∷ 0 ∷ 0 ∷ 0 ∷ 0 ∷ [];
  source = 0 ∷ 0 ∷ 0 ∷ 0 ∷ 0 ∷ 0 ∷ [];
  reserved = f.reserved;
  datagrams = map wiped_datagram f.datagrams;
  padding = [];
}

-- the first place at which lists differ, or the length of the shorter one; None where they are equal
abbrev pub first_apart : List ℕ → List ℕ → Option ℕ
first_apart [] [] = None
first_apart [] (y ∷ ys) = Some 0
first_apart (x ∷ xs) [] = Some 0
first_apart (x ∷ xs) (y ∷ ys) = if x == y then option_map (λ n. n + 1) (first_apart xs ys) else Some 0

-- the first byte at which the frames differ outside of what is wiped
unfoldable pub first_difference : FrameValue → FrameValue → Option ℕ
first_difference sent reply = first_apart (spelling (wiped sent)) (spelling (wiped reply))
