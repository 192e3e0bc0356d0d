-- Slaves that a frame does not reach, and those that it does.
use Rattle.std.proofs.Common.{◌≡◌, ℕ, zero, suc, ◌<◌, List, [], ◌∷◌, length, Option, Some, drop, refl, ap, arith, ◌≤◌}
use Rattle.std.specs.Prelude.{slice_get}
use Rattle.ecat_frame.specs.FrameGrammar.{DatagramValue}
use Rattle.frame_pass.specs.SlaveState.{Slave}
use Rattle.frame_pass.specs.FramePass.{slave_passed, slaves_passed, datagrams_passed, datagrams_behind}

pub unreached : (h sent : ℕ) (end : Option ℕ) (ss : List Slave) (ds : List DatagramValue) → drop h (slaves_passed h sent end ss ds) ≡ drop h ss
unfolding slaves_passed
unreached zero sent end ss ds = refl
unreached (suc h) sent end [] ds = refl
unreached (suc h) sent end (s ∷ ss) ds = unreached h sent end ss (datagrams_passed sent s ds)

pub same_count : (h sent : ℕ) (end : Option ℕ) (ss : List Slave) (ds : List DatagramValue) → length (slaves_passed h sent end ss ds) ≡ length ss
unfolding slaves_passed
same_count zero sent end ss ds = refl
same_count (suc h) sent end [] ds = refl
same_count (suc h) sent end (s ∷ ss) ds = ap suc (same_count h sent end ss (datagrams_passed sent s ds))

-- the slave at a position that the frame reaches: the frame passes it as the slaves before leave it
pub reached : (h sent : ℕ) (end : Option ℕ) (ss : List Slave) (ds : List DatagramValue) (p : ℕ) (s : Slave) → p < h → slice_get ss p ≡ Some s
    → slice_get (slaves_passed h sent end ss ds) p ≡ Some (slave_passed sent end s (datagrams_behind p sent ss ds))
unfolding slaves_passed datagrams_behind
reached zero sent end ss ds p s low e = absurd (omega (arith, low))
reached (suc h) sent end [] ds p s low e = absurd (let x = e in cc)
reached (suc h) sent end (x ∷ ss) ds zero s low e = let same : x ≡ s = cc in ap (λ (y : Slave). Some (slave_passed sent end y ds)) same
reached (suc h) sent end (x ∷ ss) ds (suc p) s low e = reached h sent end ss (datagrams_passed sent x ds) p s (omega (arith, low)) e

-- one that it does not reach stays
pub stays : (h sent : ℕ) (end : Option ℕ) (ss : List Slave) (ds : List DatagramValue) (p : ℕ) → h ≤ p
    → slice_get (slaves_passed h sent end ss ds) p ≡ slice_get ss p
unfolding slaves_passed
stays zero sent end ss ds p low = refl
stays (suc h) sent end [] ds p low = refl
stays (suc h) sent end (x ∷ ss) ds zero low = absurd (omega (arith, low))
stays (suc h) sent end (x ∷ ss) ds (suc p) low = stays h sent end ss (datagrams_passed sent x ds) p (omega (arith, low))
