-- Datagrams that give no slave a station address but its own.
use Rattle.std.specs.Prelude.{◌≡◌, ◌⊎◌, ℕ, ◌<◌, true, List, length}
use Rattle.std.specs.List.{AllByRecursion}
use Rattle.byteorder.specs.Endian.{little_bytes}
use Rattle.ecat_frame.specs.FrameGrammar.{DatagramValue}
use Rattle.ecat_frame.specs.declared.command.Command.TheVariants.{Apwr}
use Rattle.esc_regs.specs.RegisterBytes.{AreApart}
use Rattle.wrap_time.specs.WordLess.{word_less}
use Rattle.frame_pass.specs.DatagramTable.{raised_by}
use Rattle.frame_pass.specs.Aside.{never_writes}
use Rattle.honest_slaves.specs.Standing.{own_address}

-- the datagram by which the slave at position p is given its station address, as it comes to the slave at position q
pub record Names (p q : ℕ) (d : DatagramValue) : Type 0 where
  pub command : d.head.command ≡ Apwr
  pub ado : d.head.ado ≡ 0x0010
  pub adp : d.head.adp ≡ raised_by q (word_less 16 0 p)
  pub payload : d.payload ≡ little_bytes 2 (own_address p)
  pub few : p < 256

-- as it comes to the slave at position q, the datagram writes nothing, or nothing of the station address, or it gives some
-- slave its own
abbrev pub IsMindful : ℕ → DatagramValue → Type 0
IsMindful q d =
    (never_writes d.head.command ≡ true) ⊎ (AreApart d.head.ado (length d.payload) 0x0010 2 ⊎ ((p : ℕ) × Names p q d))

abbrev pub AreMindful : ℕ → List DatagramValue → Type 0
AreMindful q ds = AllByRecursion (IsMindful q) ds
