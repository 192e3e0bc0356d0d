-- What a master has counted at the end of a run.
use Rattle.std.proofs.Common.{◌≡◌, ℕ, ◌+◌, ◌≤◌, ◌++◌, length, Option, None, Ok, ap, ◌∙◌, arith}
use Rattle.ecat_link.specs.Exchanges.{lost_among}
use Rattle.ecat_link.proofs.Exported.{lost_then}
use Rattle.frame_pass.specs.SegmentState.{SegmentState}
use Rattle.master_script.specs.Kept.{Kept}
use Rattle.master_script.specs.Script.{Answer}
use Rattle.master_script.proofs.Exported.{kept_counts}
use Rattle.run_counts.specs.Phases.{Phases}
use Rattle.run_counts.specs.Transmissions.{AreCounted, HasCounted, commissioning_sends}
use Rattle.run_counts.proofs.Counting.{commission_counted, phases_counted, whole_counted}
use Rattle.run_counts.proofs.Few.{few_in_all, few_in_commissioning}
use Rattle.run_of_file.specs.AtEnd.{IsAtEnd}
use Rattle.run_of_file.specs.MasterOfFile.{master_of}
use Rattle.run_of_file.specs.RunOfFile.{RunEnd, commissioned, ran, run_of}
use Rattle.segment_file.specs.Legal.{IsLegal}
use Rattle.segment_file.specs.Segment.{SegmentValue}

-- the counts of a master at the end of a run are those of its exchanges
counts_at_end : (s : SegmentValue) (frames : Option ℕ) (o : Option RunEnd) (state : SegmentState) (m : Kept) (answer : Answer) → (a : IsAtEnd s frames o state m answer)
    → (m.sent ≡ length a.end.exchanges) × (m.lost ≡ lost_among a.end.exchanges)
counts_at_end s frames o state m answer a =
    let counts = kept_counts (master_of s) frames a.end.exchanges in
    (ap (λ (k : Kept). k.sent) a.master_is ∙ counts.0, ap (λ (k : Kept). k.lost) a.master_is ∙ counts.1)

pub delays_at_end : (s : SegmentValue) (state : SegmentState) (m : Kept) → IsLegal s → IsAtEnd s None (commissioned s) state m (Ok tt) → m.sent ≡ commissioning_sends s + m.lost
delays_at_end s state m legal a =
    let counts = counts_at_end s None (commissioned s) state m (Ok tt) a in
    let sent = counts.0 in
    let lost = counts.1 in
    let many = commission_counted s legal a.end a.run_is a.answer_is in
    omega (arith, sent, lost, many)

-- and so those of its phases
counted_at_end : (s : SegmentValue) (frames : Option ℕ) (o : Option RunEnd) (state : SegmentState) (m : Kept) (answer : Answer) → (a : IsAtEnd s frames o state m answer)
    → (phases : Phases s a.end) × AreCounted s a.end phases → (phases : Phases s a.end) × HasCounted s m a.end phases
counted_at_end s frames o state m answer a told =
    let phases = told.0 in
    let counts = counts_at_end s frames o state m answer a in
    let sent = counts.0 in
    let lost = counts.1 in
    let whole = told.1.whole in
    let all = ap lost_among phases.all in
    let ran = lost_then ((phases.commissioning ++ phases.settling) ++ phases.arming) phases.running in
    let armed = lost_then (phases.commissioning ++ phases.settling) phases.arming in
    let settled = lost_then phases.commissioning phases.settling in
    (phases, record { sent = omega (arith, sent, whole); lost = omega (arith, lost, all, ran, armed, settled) })

pub ran_at_end : (s : SegmentValue) (frames : Option ℕ) (state : SegmentState) (m : Kept) → IsLegal s → (a : IsAtEnd s frames (ran s) state m (Ok tt))
    → (phases : Phases s a.end) × HasCounted s m a.end phases
ran_at_end s frames state m legal a = counted_at_end s frames (ran s) state m (Ok tt) a (phases_counted s legal a.end a.run_is a.answer_is)

pub whole_at_end : (s : SegmentValue) (frames : Option ℕ) (state : SegmentState) (m : Kept) → IsLegal s → (a : IsAtEnd s frames (run_of s) state m (Ok tt))
    → (phases : Phases s a.end) × HasCounted s m a.end phases
whole_at_end s frames state m legal a = counted_at_end s frames (run_of s) state m (Ok tt) a (whole_counted s legal a.end a.run_is a.answer_is)

pub commissioning_few : (s : SegmentValue) (frames : Option ℕ) (state : SegmentState) (m : Kept) (answer : Answer) → IsLegal s → IsAtEnd s frames (commissioned s) state m answer → m.sent ≤ 100000
commissioning_few s frames state m answer legal a =
    let sent = (counts_at_end s frames (commissioned s) state m answer a).0 in
    let few = few_in_commissioning s legal a.end a.run_is in
    omega (arith, sent, few)

pub whole_few : (s : SegmentValue) (frames : Option ℕ) (state : SegmentState) (m : Kept) (answer : Answer) → IsLegal s → IsAtEnd s frames (run_of s) state m answer → m.sent ≤ 100000
whole_few s frames state m answer legal a =
    let sent = (counts_at_end s frames (run_of s) state m answer a).0 in
    let few = few_in_all s legal a.end a.run_is in
    omega (arith, sent, few)
