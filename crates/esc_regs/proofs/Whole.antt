-- What writes and live numbers leave of a whole register file.
use Rattle.std.specs.Prelude.{◌≡◌, ℕ, ◌+◌, ◌≤◌, true, List, length, Option, Some, None}
use Rattle.std.specs.Option.{is_some}
use Rattle.std.proofs.Common.{arith, refl, ◌∙◌, inl, inr}
use Rattle.std.proofs.lemmas.Bool.{cases_lt}
use Rattle.esc_regs.specs.declared.live.Live.{Live}
use Rattle.esc_regs.specs.RegisterBytes.{AreBytes}
use Rattle.esc_regs.specs.RegisterTable.{is_register, held}
use Rattle.esc_regs.specs.RegisterAccess.{is_refused, rate_by}
use Rattle.esc_regs.specs.RegisterFile.{Registers, IsWhole}
use Rattle.esc_regs.specs.RegisterWrite.{stored_bytes, written}
use Rattle.esc_regs.specs.ShownRegisters.{showing, shown}
use Rattle.esc_regs.proofs.Bytes.{bytes_after_set, bytes_after_write}
use Rattle.esc_regs.proofs.Numbers.{byte_outside, same_length}
use Rattle.esc_regs.proofs.Storing.{decide, not_past, stores}
use Rattle.esc_regs.proofs.TableFacts.{held_few, register_within}
use Rattle.esc_regs.proofs.Zeros.{past_held, zeros_after_write}

pub written_whole : (r : Registers) (addr : ℕ) (bytes : List ℕ) → IsWhole r → AreBytes bytes → IsWhole (written r addr bytes)
written_whole r addr bytes whole are = elim (decide (is_refused r.kind addr (length bytes))) [
  | inl refused ↦ rw refused whole
  | inr done ↦
      let in_range = is_some (rate_by addr bytes) in
      let after = stored_bytes r.kind in_range addr bytes r.bytes in
      let past = not_past r.kind addr (length bytes) done in
      let size = whole.size in
      let s = stores r.kind in_range addr bytes r.bytes (omega (arith, past, size)) in
      rw done
      (record {
        size = s.size ∙ whole.size;
        zeros = zeros_after_write r.kind in_range addr bytes r.bytes after s whole.zeros;
        are_bytes = bytes_after_write r.kind in_range addr bytes r.bytes after s are whole.are_bytes;
      })
]

showing_whole : (r : Registers) (at : ℕ) (number : Option ℕ) → is_register at 8 ≡ true → IsWhole r → IsWhole (record r { bytes = showing r.kind at number r.bytes })
showing_whole r at None register whole = whole
showing_whole r at (Some x) register whole =
    let few = held_few r.kind in
    let within = register_within at 8 register in
    let size = whole.size in
    let room : at + held r.kind 8 ≤ length r.bytes = omega (arith, few, within, size) in
    record {
      size = same_length (held r.kind 8) at x r.bytes room ∙ size;
      zeros = record {
        zero_at = λ a undefined.
            byte_outside (held r.kind 8) at x r.bytes a room
            (elim (cases_lt a at) [ inl before ↦ inl before | inr from ↦ inr (past_held r.kind at 8 a register undefined from) ])
            ∙ whole.zeros.zero_at a undefined;
      };
      are_bytes = bytes_after_set (held r.kind 8) at x r.bytes whole.are_bytes;
    }

pub shown_whole : (live : Live) (r : Registers) → IsWhole r → IsWhole (shown live r)
shown_whole live r whole =
    showing_whole (record r { bytes = showing r.kind 0x0910 live.system_time r.bytes }) 0x0990 live.next_due refl
    (showing_whole r 0x0910 live.system_time refl whole)
