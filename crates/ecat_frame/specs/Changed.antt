-- A frame in which one datagram is changed.
use Rattle.std.specs.Prelude.{ℕ, zero, suc, ◌+◌, List, [], ◌∷◌, ◌++◌, length, take, drop}
use Rattle.ecat_frame.specs.FrameGrammar.{DatagramValue, FrameValue}

-- the datagrams, the k-th of them changed
abbrev pub modify : ℕ → (DatagramValue → DatagramValue) → List DatagramValue → List DatagramValue
modify k g [] = []
modify zero g (d ∷ ds) = g d ∷ ds
modify (suc k) g (d ∷ ds) = d ∷ modify k g ds

-- the frame, its k-th datagram changed
abbrev pub changed : ℕ → (DatagramValue → DatagramValue) → FrameValue → FrameValue
changed k g f = record f { datagrams = modify k g f.datagrams }

-- these bytes written at a place
abbrev pub put : ℕ → List ℕ → List ℕ → List ℕ
put at part bytes = take at bytes ++ (part ++ drop (at + length part) bytes)

-- a datagram with this ADP, data and working counter
abbrev pub answered : ℕ → List ℕ → ℕ → DatagramValue → DatagramValue
answered adp payload wkc d = record d { head = record d.head { adp = adp }; payload = payload; wkc = wkc }
