-- The bytes of one datagram in front of others, read again.
use Rattle.std.proofs.Common.{◌≡◌, ℕ, ◌+◌, ◌^◌, ◌<◌, ◌≤◌, List, [], ◌∷◌, ◌++◌, length, drop, refl, arith, slice_index, slice_index_or}
use Rattle.std.proofs.lemmas.List.{append_assoc, length-append, take_at, drop_at, drop-drop}
use Rattle.byteorder.specs.Endian.{little_number}
use Rattle.byteorder.specs.Numbers.{little_number-reads_back}
use Rattle.ecat_frame.specs.Commands.{code_of, commands}
use Rattle.ecat_frame.specs.FrameGrammar.{DatagramValue, IsDatagram, spelled, word, length_word_of}
use Rattle.ecat_frame.specs.Reading.{data_length, first_datagram, behind_first}
use Rattle.ecat_frame.specs.declared.command.Command.{Command}
use Rattle.ecat_frame.specs.declared.command.Command.TheVariants.{Nop, Aprd, Apwr, Aprw, Fprd, Fpwr, Fprw, Brd, Bwr, Brw, Lrd, Lwr, Lrw, Armw, Frmw}

pub word_back : (n : ℕ) → n < 2 ^ 16 → little_number 2 (word n) ≡ n
word_back n h = little_number-reads_back 2 n [] h

code_back : (c : Command) → slice_index_or commands (code_of c) Nop ≡ c
code_back Nop = refl
code_back Aprd = refl
code_back Apwr = refl
code_back Aprw = refl
code_back Fprd = refl
code_back Fpwr = refl
code_back Fprw = refl
code_back Brd = refl
code_back Bwr = refl
code_back Brw = refl
code_back Lrd = refl
code_back Lwr = refl
code_back Lrw = refl
code_back Armw = refl
code_back Frmw = refl

pub code_of-lt : (c : Command) → code_of c < 15
code_of-lt Nop = omega arith
code_of-lt Aprd = omega arith
code_of-lt Apwr = omega arith
code_of-lt Aprw = omega arith
code_of-lt Fprd = omega arith
code_of-lt Fpwr = omega arith
code_of-lt Fprw = omega arith
code_of-lt Brd = omega arith
code_of-lt Bwr = omega arith
code_of-lt Brw = omega arith
code_of-lt Lrd = omega arith
code_of-lt Lwr = omega arith
code_of-lt Lrw = omega arith
code_of-lt Armw = omega arith
code_of-lt Frmw = omega arith

-- part behind part
pub spelled-append : (m : ℕ) (d : DatagramValue) (xs : List ℕ)
    → spelled m d ++ xs ≡ code_of d.head.command ∷ d.head.index ∷ (word d.head.adp ++ (word d.head.ado ++ (word (length_word_of m d) ++ (word d.irq ++ (d.payload ++ (word d.wkc ++ xs))))))
unfolding spelled
spelled-append m d xs = rw (append_assoc d.payload (word d.wkc) xs) refl

pub length-spelled : (m : ℕ) (d : DatagramValue) → length (spelled m d) ≡ 12 + length d.payload
unfolding spelled
length-spelled m d = omega (arith, length-append d.payload (word d.wkc))

pub length_word-lt : (m : ℕ) (d : DatagramValue) → m < 2 → IsDatagram d → length_word_of m d < 2 ^ 16
length_word-lt m d h w = omega (arith, w.flags, w.size)

pub length_word-spelled : (m : ℕ) (d : DatagramValue) (xs : List ℕ) → m < 2 → IsDatagram d → little_number 2 (drop 6 (spelled m d ++ xs)) ≡ length_word_of m d
length_word-spelled m d xs h w =
    rw (spelled-append m d xs) (word_back (length_word_of m d) (length_word-lt m d h w))

pub data_length-spelled : (m : ℕ) (d : DatagramValue) (xs : List ℕ) → m < 2 → IsDatagram d → data_length (spelled m d ++ xs) ≡ length d.payload
data_length-spelled m d xs h w = rw (length_word-spelled m d xs h w) (omega (arith, w.flags, w.size))

pub behind_first-spelled : (m : ℕ) (d : DatagramValue) (xs : List ℕ) → m < 2 → IsDatagram d → behind_first (spelled m d ++ xs) ≡ xs
behind_first-spelled m d xs h w =
    rw (data_length-spelled m d xs h w) (drop_at (spelled m d) xs (12 + length d.payload) (length-spelled m d))

pub datagram_path : (c c' : Command) (i i' adp adp' ado ado' flags flags' irq irq' wkc wkc' : ℕ) (payload payload' : List ℕ) → c ≡ c' → i ≡ i' → adp ≡ adp' → ado ≡ ado' → flags ≡ flags' → irq ≡ irq' → payload ≡ payload' → wkc ≡ wkc'
    → ◌≡◌ {A = DatagramValue} (record { head = record { command = c; index = i; adp = adp; ado = ado }; flags = flags; irq = irq; payload = payload; wkc = wkc }) (record { head = record { command = c'; index = i'; adp = adp'; ado = ado' }; flags = flags'; irq = irq'; payload = payload'; wkc = wkc' })
datagram_path c c' i i' adp adp' ado ado' flags flags' irq irq' wkc wkc' payload payload' p1 p2 p3 p4 p5 p6 p7 p8 = cc

pub first_datagram-spelled : (m : ℕ) (d : DatagramValue) (xs : List ℕ) → m < 2 → IsDatagram d → first_datagram (spelled m d ++ xs) ≡ d
unfolding first_datagram
first_datagram-spelled m d xs h w =
    let all = spelled m d ++ xs in
    let parts = spelled-append m d xs in
    let size = data_length-spelled m d xs h w in
    let body : drop 10 all ≡ d.payload ++ (word d.wkc ++ xs) = rw parts refl in
    datagram_path _ d.head.command _ d.head.index _ d.head.adp _ d.head.ado _ d.flags _ d.irq _ d.wkc _ d.payload
    (rw parts (code_back d.head.command))
    (rw parts refl)
    (rw parts (word_back d.head.adp w.adp))
    (rw parts (word_back d.head.ado w.ado))
    (rw (length_word-spelled m d xs h w) (omega (arith, w.flags, w.size)))
    (rw parts (word_back d.irq w.irq))
    (rw (size, body) (take_at d.payload (word d.wkc ++ xs) (length d.payload) refl))
    (rw (size, ← drop-drop (length d.payload) 10 all, body, drop_at d.payload (word d.wkc ++ xs) (length d.payload) refl) (word_back d.wkc w.wkc))

-- what is read at the start of these bytes is a datagram with this more bit
pub record Reads (bytes : List ℕ) (m : ℕ) (d : DatagramValue) : Type 0 where
  pub whole : 12 + data_length bytes ≤ length bytes
  pub command : slice_index bytes 0 < 15
  pub is : first_datagram bytes ≡ d
  pub length_word : little_number 2 (drop 6 bytes) ≡ length_word_of m d

pub reads_spelled : (m : ℕ) (d : DatagramValue) (xs : List ℕ) → m < 2 → IsDatagram d → Reads (spelled m d ++ xs) m d
reads_spelled m d xs h w = record {
  whole = omega (arith, data_length-spelled m d xs h w, length-append (spelled m d) xs, length-spelled m d);
  command = rw (spelled-append m d xs) (code_of-lt d.head.command);
  is = first_datagram-spelled m d xs h w;
  length_word = length_word-spelled m d xs h w;
}
