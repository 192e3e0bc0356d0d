-- Sound slaves, one by one.
use Rattle.std.proofs.Common.{◌≡◌, ℕ, zero, suc, List, [], ◌∷◌, Some, subst}
use Rattle.std.specs.Prelude.{slice_get}
use Rattle.std.specs.List.{AllByRecursion}
use Rattle.frame_pass.specs.Invariants.{IsSound}
use Rattle.frame_pass.specs.SlaveState.{Slave}
use Rattle.frame_pass.specs.Aside.{HaveSize}

some_same : {X : Type 0} {x y : X} → Some x ≡ Some y → x ≡ y
some_same e = cc

pub sound_at : (trip limit : ℕ) (ss : List Slave) (p : ℕ) (v : Slave) → AllByRecursion (IsSound trip limit) ss → slice_get ss p ≡ Some v → IsSound trip limit v
sound_at trip limit [] p v sound is = absurd (let z = is in cc)
sound_at trip limit (s ∷ ss) zero v sound is = subst (IsSound trip limit) (some_same is) sound.0
sound_at trip limit (s ∷ ss) (suc p) v sound is = sound_at trip limit ss p v sound.1 is

-- each has 4096 bytes of registers
pub sizes_of : (trip limit : ℕ) (ss : List Slave) → AllByRecursion (IsSound trip limit) ss → HaveSize ss
sizes_of trip limit [] sound = tt
sizes_of trip limit (s ∷ ss) sound = (sound.0.size, sizes_of trip limit ss sound.1)
