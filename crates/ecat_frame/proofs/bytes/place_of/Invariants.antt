use Rattle.std.proofs.Common.{◌≡◌, ◌+◌, ◌-◌, drop}
use Rattle.ecat_frame.specs.Reading.{place_in}
use Rattle.ecat_frame.proofs.bytes.place_of.Given as goal

abbrev pub invariant-loop-i : goal.invariant-loop-i
invariant-loop-i l = l.at + place_in (l.k - l._i) (drop l.at l.bytes) ≡ 16 + place_in l.k (drop 16 l.bytes)
