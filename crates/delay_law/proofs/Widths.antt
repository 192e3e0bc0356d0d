-- Words of 32 and 64 bits in registers of 8 bytes.
use Rattle.std.proofs.Common.{◌≡◌, ℕ, ◌+◌, ◌*◌, ◌^◌, ◌<◌, List, drop, slice_index, refl, ap, ◌∙◌, arith}
use Rattle.std.specs.Prelude.{slice_index_or}
use Rattle.std.proofs.lemmas.List.FromFn.{get_or-map-range_with_len}
use Rattle.byteorder.specs.Endian.{little_from}
use Rattle.esc_regs.specs.RegisterBytes.{number_at}
use Rattle.esc_regs.specs.RegisterTable.{is_wide}
use Rattle.esc_regs.specs.declared.clock_kind.ClockKind.{ClockKind}
use Rattle.esc_regs.specs.declared.clock_kind.ClockKind.TheVariants as kind
use Rattle.frame_pass.specs.SlaveState.{width}
use Rattle.master_script.specs.Frames.{width as bytes_by}
use Rattle.master_script.specs.Slaves.{is_wide as is_wide_word}
use Rattle.master_script.specs.Words.{Words, wide_at}
use Rattle.honest_slaves.specs.Told.{word_of, words_of}

-- what a master is told of a slave's width
wide_word : (k : ClockKind) (status : ℕ) → is_wide_word (word_of k status) ≡ is_wide k
wide_word kind.None status = refl
wide_word kind.R32 status = refl
wide_word kind.C32 status = refl
wide_word kind.C64 status = refl

pub wide_told : (kinds : ℕ → ClockKind) (statuses : ℕ → ℕ) (n : ℕ) (w : Words) (q : ℕ) → w.slaves ≡ words_of kinds statuses n → q < n → wide_at w q ≡ is_wide (kinds q)
wide_told kinds statuses n w q are low =
    ap (λ ss. is_wide_word (slice_index_or ss q (record { features = 0; status = 0; fourth = 0 }))) are
    ∙ ap is_wide_word (get_or-map-range_with_len (λ q. word_of (kinds q) (statuses q)) 0 n q q (record { features = 0; status = 0; fourth = 0 }) low (omega arith))
    ∙ wide_word (kinds q) (statuses q)

-- a number of 8 bytes by its halves
split : (a b c d low high : ℕ) → low ≡ a + 256 * (b + 256 * (c + 256 * (d + 256 * 0))) → a + 256 * (b + 256 * (c + 256 * (d + 256 * high))) ≡ low + 2 ^ 32 * high
split a b c d low high e = omega (arith, e)

pub number_split : (at : ℕ) (bytes : List ℕ) → number_at 8 at bytes ≡ number_at 4 at bytes + 2 ^ 32 * little_from 4 4 (drop at bytes)
unfolding number_at
number_split at bytes =
    let xs = drop at bytes in
    split (slice_index xs 0) (slice_index xs 1) (slice_index xs 2) (slice_index xs 3) (little_from 0 4 xs) (little_from 4 4 xs) refl

-- a word that the low half tells
low_half : (whole low high x : ℕ) → whole ≡ low + 2 ^ 32 * high → whole ≡ x → x < 2 ^ 32 → low ≡ x
low_half whole low high x e f few = omega (arith, e, f, few)

narrow : (at x : ℕ) (bytes : List ℕ) → number_at 8 at bytes ≡ x → x < 2 ^ 32 → number_at 4 at bytes ≡ x
narrow at x bytes is few = low_half (number_at 8 at bytes) (number_at 4 at bytes) (little_from 4 4 (drop at bytes)) x (number_split at bytes) is few

-- the bytes that a slave's width has tell a word of that width
pub word_told : (k : ClockKind) (at x : ℕ) (bytes : List ℕ) → number_at 8 at bytes ≡ x → x < 2 ^ width k → number_at (bytes_by (is_wide k)) at bytes ≡ x
unfolding width
word_told kind.None at x bytes is few = narrow at x bytes is few
word_told kind.R32 at x bytes is few = narrow at x bytes is few
word_told kind.C32 at x bytes is few = narrow at x bytes is few
word_told kind.C64 at x bytes is few = is
