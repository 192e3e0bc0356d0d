-- What a master keeps stays kept.
use Rattle.std.specs.Prelude.{◌≡◌, ◌≢◌, ℕ, ◌<◌, ◌≤◌, List, [], ◌++◌, Some, None, slice_index_or}
use Rattle.dc_delay.specs.declared.latch.Latch.{Latch}
use Rattle.master_script.specs.Kept.{Kept}
use Rattle.master_script.specs.Slaves.{SlaveWords}
use Rattle.master_script.specs.declared.step.Refusal.{Refusal}

-- Between what is kept and what is kept later counts never fall; slaves are only added; the refusal, the reference, the
-- sending of Latch, the receive times of a slave, the delays and the start, once there, stay.
pub record StaysKept (kept later : Kept) : Type 0 where
  pub refusal : (r : Refusal) → kept.refusal ≡ Some r → later.refusal ≡ Some r
  pub sent : kept.sent ≤ later.sent
  pub lost : kept.lost ≤ later.lost
  pub drifts : kept.drifts ≤ later.drifts
  pub slaves : (others : List SlaveWords) × (later.words.slaves ≡ kept.words.slaves ++ others)
  pub reference : (r : ℕ) → kept.words.reference ≡ Some r → later.words.reference ≡ Some r
  pub latched : 0 < kept.words.latched → later.words.latched ≡ kept.words.latched
  pub latches : (p : ℕ) (latch : Latch) → slice_index_or kept.words.latches p None ≡ Some latch
      → slice_index_or later.words.latches p None ≡ Some latch
  pub delays : kept.delays ≢ [] → later.delays ≡ kept.delays
  pub start : (s : ℕ) → kept.start ≡ Some s → later.start ≡ Some s
