-- A turn of the loop that reads a frame.
use Rattle.std.proofs.Common.{◌≡◌, ℕ, ◌+◌, ◌<◌, List, length, take, get_or, Result, Ok, Err, refl}
use Rattle.ecat_frame.specs.InsideScan.{IsLive, LeadsTo, StopsAt, part_of, told}
use Rattle.ecat_frame.specs.FramePart.{Part}
use Rattle.ecat_frame.specs.Refusals.{Reason, refusal, step}
use Rattle.ecat_frame.specs.declared.error.FrameError.{FrameError}
use Rattle.ecat_frame.specs.declared.part.Part.{Part as Kept}
use Rattle.ecat_frame.specs.declared.part.Part.TheVariants as kept
use Rattle.ecat_frame.specs.FramePart as part
use Rattle.ecat_frame.proofs.Steps.{reaches_more}

told_ok : (n : ℕ) (s : Result Part Reason) (q : Part) → Ok q ≡ told n s → s ≡ Ok q
told_ok n (Ok p) q e = cc
told_ok n (Err r) q e = cc

told_err : (n : ℕ) (s : Result Part Reason) (e : FrameError) → Err e ≡ told n s → (why : Reason) × ((s ≡ Err why) × (e ≡ refusal why n))
told_err n (Ok p) e h = cc
told_err n (Err r) e h = (r, (refl, cc))

pub leads_more : (bs : List ℕ) (n : ℕ) (p q : Part) → n < length bs → LeadsTo (take n bs) p → Ok q ≡ told n (step p (get_or bs n 0)) → IsLive q → LeadsTo (take (n + 1) bs) q
leads_more bs n p q inside l e live = record {
  live = live;
  reached = reaches_more bs n (part.Front 0) p q inside l.reached (told_ok n (step p (get_or bs n 0)) q e);
}

pub stops_at : (bs : List ℕ) (n : ℕ) (p : Part) (e : FrameError) → n < length bs → LeadsTo (take n bs) p → Err e ≡ told n (step p (get_or bs n 0)) → StopsAt bs e
stops_at bs n p e inside l h =
    let t = told_err n (step p (get_or bs n 0)) e h in
    record { n = n; why = t.0; is = t.1.1; inside = inside; at = p; live = l.live; reached = l.reached; refused = t.1.0 }

-- only padding is seen as padding
pub was_padding : (p : Kept) (room : ℕ) → part_of p ≡ part.Padding room → p ≡ kept.Padding room
was_padding (kept.Front n) room e = cc
was_padding kept.HeaderLow room e = cc
was_padding (kept.HeaderHigh low) room e = cc
was_padding (kept.Head r left at) room e = cc
was_padding (kept.LengthLow r left) room e = cc
was_padding (kept.LengthHigh r left low) room e = cc
was_padding (kept.Body r left body) room e = cc
was_padding (kept.Padding r) room e = cc
