-- The numbers of a drawn segment keep to what a file may ask for.
use Rattle.std.proofs.Common.{◌≡◌, refl, ℕ, ◌+◌, ◌-◌, ◌*◌, ◌<◌, ◌≤◌, false, List, [], ◌∷◌, None, arith, nat_le, nat_lt}
use Rattle.std.specs.Int.{div_ceil}
use Rattle.std.specs.List.{find, range_with_len}
use Rattle.std.proofs.lemmas.Bool.Decides.{nat_tests}
use Rattle.cable_tree.specs.Row.{Row}
use Rattle.cable_tree.specs.PathSums.{round_trip}
use Rattle.dc_bounds.specs.LockNumbers.{period_fs, reach_fs, silence_fs, sure_fall}
use Rattle.dc_bounds.specs.TickBounds.{jump}
use Rattle.dc_bounds.proofs.Exported.{jump_rises}
use Rattle.segment_file.specs.Counted.{IsCounted}
use Rattle.segment_file.specs.Faults.{time_fault, frame_fault, ahead_ns, lock_in, frames_of_run, most_frames}
use Rattle.segment_file.specs.Runs.{is_run, first_run, greatest_number}
use Rattle.segment_file.specs.Segment.{CountsValue}
use Rattle.segment_draw.specs.Generated.{drawn_head}

pub times_hold : (c : CountsValue) (rows : List Row) → c.clocks ≤ 256 → round_trip rows < 1000000000000 → time_fault drawn_head c rows ≡ None
unfolding time_fault
times_hold c rows few short =
    let trip : nat_le (period_fs drawn_head.frame_ns) (round_trip rows) ≡ false = grind (arith, nat_tests) in
    let ahead : nat_le 2000000000 (ahead_ns drawn_head c) ≡ false = grind (arith, nat_tests) in
    rw (trip, ahead) refl

nothing_listed : (k n m : ℕ) → find (is_run [] 3) (range_with_len n m) ≡ None
nothing_listed k n m = none_in (range_with_len n m)
  where
    none_in : (xs : List ℕ) → find (is_run [] 3) xs ≡ None
    none_in [] = refl
    none_in (x ∷ xs) = none_in xs

falls_few : (x : ℕ) → x ≤ 153927 → div_ceil (x - 320) 1442 ≤ 108
falls_few x few = omega arith

silent_jump : jump 50 (silence_fs 2 1000000) ≡ 320
silent_jump = refl

fall : sure_fall 50 1000000 4096 2 ≡ 1442
fall = refl

longest : jump 50 1539000000000000 ≡ 153927
longest = refl

lock_few : (c : CountsValue) → c.measuring ≤ 256 → c.clocks ≤ 256 → lock_in drawn_head c ≤ 324
lock_few c measuring clocks =
    let reach = reach_fs c.measuring c.clocks 2 1000000 in
    let within : reach ≤ 1539000000000000 = omega arith in
    let most = jump_rises 50 reach 1539000000000000 (omega arith) within in
    let few : jump 50 reach ≤ 153927 = omega (arith, most, longest) in
    let falls = falls_few (jump 50 reach) few in
    rw (silent_jump, fall) (omega (arith, falls))

frames_few : (c : CountsValue) → c.clocks ≤ 256 → frames_of_run drawn_head c ≤ 1000
frames_few c clocks = omega arith

pub frames_hold : (c : CountsValue) → IsCounted c → frame_fault drawn_head c [] ≡ None
unfolding frame_fault
frames_hold c few =
    let clocks : c.clocks ≤ 256 = omega (arith, few.clocks, few.measuring) in
    let lock = lock_few c few.measuring clocks in
    let run = frames_few c clocks in
    let slaves = few.slaves in
    let measuring = few.measuring in
    let signals = few.signals in
    let none : first_run [] 3 ≡ None = nothing_listed 0 1 greatest_number in
    let frames : nat_lt 100000 (most_frames drawn_head c) ≡ false = less (lock_in drawn_head c) (frames_of_run drawn_head c) (3 * (c.slaves + c.measuring + c.clocks + 3)) (3 * c.clocks) lock run (omega arith) (omega arith) in
    let edges : nat_lt 200000 (4 * c.signals) ≡ false = grind (arith, nat_tests) in
    rw (none, frames, edges) refl
  where
    less : (lock run exchanges arms : ℕ) → lock ≤ 324 → run ≤ 1000 → exchanges ≤ 2313 → arms ≤ 768 → nat_lt 100000 (exchanges + lock + 2 + 1 + arms + run) ≡ false
    less lock run exchanges arms a b c d = grind (arith, nat_tests)
