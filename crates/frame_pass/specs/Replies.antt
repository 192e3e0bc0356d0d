-- What of a frame no slave changes.
use Rattle.std.specs.Prelude.{length, map, replicate}
use Rattle.ecat_frame.specs.FrameGrammar.{DatagramValue, FrameValue}

-- a datagram without what slaves change: the ADP, the data and the working counter
abbrev pub unanswered_datagram : DatagramValue → DatagramValue
unanswered_datagram d = record d { head = record d.head { adp = 0 }; payload = replicate (length d.payload) 0; wkc = 0 }

abbrev pub unanswered : FrameValue → FrameValue
unanswered f = record f { datagrams = map unanswered_datagram f.datagrams }
