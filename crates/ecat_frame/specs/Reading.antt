-- How the parts of a frame are read back from its bytes.
use Rattle.std.specs.Prelude.{ℕ, zero, suc, ◌+◌, ◌/◌, ◌%◌, List, [], ◌∷◌, take, drop, slice_index, slice_index_or}
use Rattle.byteorder.specs.Endian.{little_number}
use Rattle.ecat_frame.specs.Commands.{commands}
use Rattle.ecat_frame.specs.FrameGrammar.{DatagramValue}
use Rattle.ecat_frame.specs.declared.command.Command.TheVariants.{Nop}
use Rattle.ecat_frame.specs.declared.datagram.Datagram.{Datagram}

-- the length of the data of the datagram at the start of these bytes
abbrev pub data_length : List ℕ → ℕ
data_length bytes = little_number 2 (drop 6 bytes) % 2048

-- the datagram at the start of these bytes
unfoldable pub first_datagram : List ℕ → DatagramValue
first_datagram bytes = record {
  head = record {
    command = slice_index_or commands (slice_index bytes 0) Nop;
    index = slice_index bytes 1;
    adp = little_number 2 (drop 2 bytes);
    ado = little_number 2 (drop 4 bytes);
  };
  flags = little_number 2 (drop 6 bytes) / 2048 % 16;
  irq = little_number 2 (drop 8 bytes);
  payload = take (data_length bytes) (drop 10 bytes);
  wkc = little_number 2 (drop (10 + data_length bytes) bytes);
}

-- the bytes behind that datagram
abbrev pub behind_first : List ℕ → List ℕ
behind_first bytes = drop (12 + data_length bytes) bytes

-- so many datagrams at the start of these bytes
unfoldable pub read_datagrams : ℕ → List ℕ → List DatagramValue
read_datagrams zero bytes = []
read_datagrams (suc n) bytes = first_datagram bytes ∷ read_datagrams n (behind_first bytes)

-- where datagram k begins in these bytes
unfoldable pub place_in : ℕ → List ℕ → ℕ
place_in zero bytes = 0
place_in (suc k) bytes = 12 + data_length bytes + place_in k (behind_first bytes)

-- a datagram of a program as its value; its length word tells the flags
abbrev pub seen : Datagram → DatagramValue
seen d = record {
  head = d.head;
  flags = d.length_word / 2048 % 16;
  irq = d.irq;
  payload = d.payload.now;
  wkc = d.wkc;
}
