-- The datagrams of a frame at one slave, one after another.
use Rattle.std.proofs.Common.{◌≡◌, ℕ, zero, suc, ◌+◌, ◌<◌, ◌≤◌, List, [], ◌∷◌, ◌++◌, length, take, drop, Some, Bool, true, false, ◌||◌, refl, sym, ap, ◌∙◌, arith, add-one, append_assoc}
use Rattle.std.specs.Prelude.{slice_get, IfSome}
use Rattle.ecat_frame.specs.FrameGrammar.{DatagramValue, FrameValue}
use Rattle.ecat_frame.specs.Changed.{changed, modify}
use Rattle.frame_pass.specs.SlaveState.{Slave}
use Rattle.frame_pass.specs.DatagramAtSlave.{datagram_after, slave_after, is_latching}
use Rattle.frame_pass.specs.FramePass.{slave_behind, datagrams_after, are_latching}

pub found : (ds : List DatagramValue) (k : ℕ) → k < length ds → (d : DatagramValue) × (slice_get ds k ≡ Some d)
found [] k h = absurd (omega arith)
found (d ∷ ds) zero h = (d, refl)
found (d ∷ ds) (suc k) h = found ds k (omega arith)

drop_at : (ds : List DatagramValue) (k : ℕ) (d : DatagramValue) → slice_get ds k ≡ Some d → drop k ds ≡ d ∷ drop (suc k) ds
drop_at [] k d e = absurd cc
drop_at (x ∷ ds) zero d e = let h : x ≡ d = cc in ap (λ z. z ∷ ds) h
drop_at (x ∷ ds) (suc k) d e = drop_at ds k d e

drop_modify : (ds : List DatagramValue) (k : ℕ) (g : DatagramValue → DatagramValue) → drop (suc k) (modify k g ds) ≡ drop (suc k) ds
drop_modify [] zero g = refl
drop_modify [] (suc k) g = refl
drop_modify (x ∷ ds) zero g = refl
drop_modify (x ∷ ds) (suc k) g = drop_modify ds k g

take_modify : (ds : List DatagramValue) (k : ℕ) (g : DatagramValue → DatagramValue) (d : DatagramValue) → slice_get ds k ≡ Some d → take (suc k) (modify k g ds) ≡ take k ds ++ (g d ∷ [])
take_modify [] k g d e = absurd cc
take_modify (x ∷ ds) zero g d e = let h : x ≡ d = cc in ap (λ z. g z ∷ []) h
take_modify (x ∷ ds) (suc k) g d e = ap (λ zs. x ∷ zs) (take_modify ds k g d e)

behind_step : (s : Slave) (d : DatagramValue) (ds : List DatagramValue) → slave_behind s (d ∷ ds) ≡ slave_behind (slave_after s d) ds
unfolding slave_behind
behind_step s d ds = refl

after_step : (s : Slave) (d : DatagramValue) (ds : List DatagramValue) → datagrams_after s (d ∷ ds) ≡ datagram_after s d ∷ datagrams_after (slave_after s d) ds
unfolding datagrams_after
after_step s d ds = refl

latching_step : (s : Slave) (d : DatagramValue) (ds : List DatagramValue) → are_latching s (d ∷ ds) ≡ (is_latching s d || are_latching (slave_after s d) ds)
unfolding are_latching
latching_step s d ds = refl

or_assoc : (a b c : Bool) → ((a || b) || c) ≡ (a || (b || c))
or_assoc true b c = refl
or_assoc false b c = refl

-- what one datagram more leaves for the others to do
pub slave_more : (f g : FrameValue) (k : ℕ) (s t : Slave) (d : DatagramValue) → slice_get f.datagrams k ≡ Some d → g ≡ changed k (datagram_after s) f → t ≡ slave_after s d
    → slave_behind t (drop (k + 1) g.datagrams) ≡ slave_behind s (drop k f.datagrams)
slave_more f g k s t d is e h =
    rw (e, h, add-one k, drop_modify f.datagrams k (datagram_after s), drop_at f.datagrams k d is) (sym (behind_step s d _))

pub latching_more : (f g : FrameValue) (k : ℕ) (s t : Slave) (b r : Bool) (d : DatagramValue) → slice_get f.datagrams k ≡ Some d → g ≡ changed k (datagram_after s) f → t ≡ slave_after s d
    → r ≡ is_latching s d → ((b || r) || are_latching t (drop (k + 1) g.datagrams)) ≡ (b || are_latching s (drop k f.datagrams))
latching_more f g k s t b r d is e h l =
    rw (e, h, l, add-one k, drop_modify f.datagrams k (datagram_after s), drop_at f.datagrams k d is)
    (or_assoc b _ _ ∙ ap (λ z. b || z) (sym (latching_step s d _)))

-- the frame with these datagrams in place of its own
abbrev pub with_datagrams : FrameValue → List DatagramValue → FrameValue
with_datagrams f ds = record f { datagrams = ds }

pub frame_more : (f g : FrameValue) (k : ℕ) (s t : Slave) (d : DatagramValue) → slice_get f.datagrams k ≡ Some d → g ≡ changed k (datagram_after s) f → t ≡ slave_after s d
    → with_datagrams g (take (k + 1) g.datagrams ++ datagrams_after t (drop (k + 1) g.datagrams)) ≡ with_datagrams f (take k f.datagrams ++ datagrams_after s (drop k f.datagrams))
frame_more f g k s t d is e h =
    rw (e, h, add-one k, drop_modify f.datagrams k (datagram_after s), take_modify f.datagrams k (datagram_after s) d is, drop_at f.datagrams k d is)
    (ap (with_datagrams f) (append_assoc (take k f.datagrams) (datagram_after s d ∷ []) _ ∙ ap (λ zs. take k f.datagrams ++ zs) (sym (after_step s d _))))

drop_all : (ds : List DatagramValue) (k : ℕ) → length ds ≤ k → drop k ds ≡ []
drop_all [] zero h = refl
drop_all [] (suc k) h = refl
drop_all (d ∷ ds) zero h = absurd (omega arith)
drop_all (d ∷ ds) (suc k) h = drop_all ds k (omega arith)

take_all : (ds : List DatagramValue) (k : ℕ) → length ds ≤ k → take k ds ++ [] ≡ ds
take_all [] zero h = refl
take_all [] (suc k) h = refl
take_all (d ∷ ds) zero h = absurd (omega arith)
take_all (d ∷ ds) (suc k) h = ap (λ zs. d ∷ zs) (take_all ds k (omega arith))

pub slave_end : (f : FrameValue) (k : ℕ) (s : Slave) → length f.datagrams ≤ k → slave_behind s (drop k f.datagrams) ≡ s
unfolding slave_behind
slave_end f k s h = rw (drop_all f.datagrams k h) refl

pub latching_end : (f : FrameValue) (k : ℕ) (s : Slave) (b : Bool) → length f.datagrams ≤ k → (b || are_latching s (drop k f.datagrams)) ≡ b
unfolding are_latching
latching_end f k s true h = refl
latching_end f k s false h = rw (drop_all f.datagrams k h) refl

pub frame_end : (f : FrameValue) (k : ℕ) (s : Slave) → length f.datagrams ≤ k → with_datagrams f (take k f.datagrams ++ datagrams_after s (drop k f.datagrams)) ≡ f
unfolding datagrams_after
frame_end f k s h = rw (drop_all f.datagrams k h) (ap (with_datagrams f) (take_all f.datagrams k h))

pub at_found : (ds : List DatagramValue) (k : ℕ) (P : DatagramValue → Type 0) (d : DatagramValue) → slice_get ds k ≡ Some d → IfSome (slice_get ds k) P → P d
at_found ds k P d e h = (rw e at h)
