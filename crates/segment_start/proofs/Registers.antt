-- The registers at the start.
use Rattle.std.proofs.Common.{◌≡◌, ℕ, length, arith}
use Rattle.esc_regs.specs.declared.clock_kind.ClockKind.{ClockKind}
use Rattle.esc_regs.specs.StartOfRegisters.{registers_at_start}
use Rattle.esc_regs.proofs.Exported.{start_whole}
use Rattle.frame_pass.proofs.Exported.{size_holding}
use Rattle.segment_start.specs.Start.{registers_of}

pub start_size : (k : ClockKind) (status : ℕ) → length (registers_of k status).bytes ≡ 4096
unfolding registers_of
start_size k status = size_holding 2 0x0110 status (registers_at_start k) (omega arith) (start_whole k).size
