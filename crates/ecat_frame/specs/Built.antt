-- What a master sends: datagrams with nothing in them but what it asks, in a frame that is padded.
use Rattle.std.specs.Prelude.{ℕ, ◌+◌, ◌-◌, List, [], ◌∷◌, length, replicate}
use Rattle.std.specs.List.{sum_by}
use Rattle.ecat_frame.specs.FrameGrammar.{DatagramValue, FrameValue, all_spelled, word}
use Rattle.ecat_frame.specs.declared.datagram.Head.{Head}

-- a datagram that no slave has passed yet
abbrev pub fresh : Head → List ℕ → DatagramValue
fresh head payload = record { head = head; flags = 0; irq = 0; payload = payload; wkc = 0 }

-- the bytes that datagrams take, twelve and the data of each
abbrev pub size_of : List DatagramValue → ℕ
size_of datagrams = sum_by (λ d. 12 + length d.payload) datagrams

-- a frame to all, from the master's address, with zeros up to 60 bytes
abbrev pub built : List DatagramValue → FrameValue
built datagrams = record {
  destination = 0xff ∷ 0xff ∷ 0xff ∷ 0xff ∷ 0xff ∷ 0xff ∷ [];
  source = 0x02 ∷ 0 ∷ 0 ∷ 0 ∷ 0 ∷ 0x01 ∷ [];
  reserved = 0;
  datagrams = datagrams;
  padding = replicate (60 - (16 + length (all_spelled datagrams))) 0;
}

-- what stands before datagrams of this length in such a frame
abbrev pub front_of : ℕ → List ℕ
front_of n = 0xff ∷ 0xff ∷ 0xff ∷ 0xff ∷ 0xff ∷ 0xff ∷ 0x02 ∷ 0 ∷ 0 ∷ 0 ∷ 0 ∷ 0x01 ∷ 0x88 ∷ 0xA4 ∷ word (n + 4096)
