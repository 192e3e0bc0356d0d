use Rattle.std.proofs.Common.{take}
use Rattle.esc_regs.proofs.RowWrites.{StoresBy}
use Rattle.esc_regs.proofs.rules.store_bytes.Given as goal

abbrev pub invariant-loop-row : goal.invariant-loop-row
invariant-loop-row l = StoresBy (take l.row-index l.rows) l.kind l.in_range l.addr l.bytes l.initial.bytes_held l.bytes_held
