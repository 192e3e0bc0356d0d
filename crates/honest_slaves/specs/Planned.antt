-- Datagrams that write the activation of a SYNC unit (0x0981) only as the plan of its slave says.
use Rattle.std.specs.Prelude.{◌≡◌, ◌⊎◌, ℕ, Bool, true, List, [], ◌∷◌, length, is_some}
use Rattle.std.specs.List.{AllByRecursion}
use Rattle.ecat_frame.specs.FrameGrammar.{DatagramValue}
use Rattle.ecat_frame.specs.declared.command.Command.TheVariants.{Fpwr}
use Rattle.esc_regs.specs.RegisterBytes.{AreApart}
use Rattle.frame_pass.specs.WriteEffects.{has_bit}
use Rattle.frame_pass.specs.Aside.{never_writes}
use Rattle.honest_slaves.specs.Standing.{own_address}
use Rattle.master_script.specs.Config.{ConfigValue, plan_at}

-- whether a master is to arm the slave at a position with SYNC1
abbrev pub plans_sync1 : ConfigValue → ℕ → Bool
plans_sync1 cfg p = is_some (plan_at cfg p).sync1_ns

-- it brings one slave, by its station address, an activation whose bit of SYNC1 is set only where that is planned
pub record BringsActivation (sync1 : ℕ → Bool) (d : DatagramValue) : Type 0 where
  pub position : ℕ
  pub byte : ℕ
  pub command : d.head.command ≡ Fpwr
  pub adp : d.head.adp ≡ own_address position
  pub ado : d.head.ado ≡ 0x0981
  pub payload : d.payload ≡ byte ∷ []
  pub planned : has_bit 2 byte ≡ true → sync1 position ≡ true

-- no slave writes for the datagram, or none its activation, or it is such a one
abbrev pub IsPlanned : (ℕ → Bool) → DatagramValue → Type 0
IsPlanned sync1 d = (never_writes d.head.command ≡ true) ⊎ (AreApart d.head.ado (length d.payload) 0x0981 1 ⊎ BringsActivation sync1 d)

abbrev pub ArePlanned : (ℕ → Bool) → List DatagramValue → Type 0
ArePlanned sync1 ds = AllByRecursion (IsPlanned sync1) ds
