-- The whole run has the answer and the exchanges of its last phase.
use Rattle.std.proofs.Common.{◌≡◌, Option, Some, None, true, refl, sym, ap, ◌∙◌}
use Rattle.std.specs.Prelude.{Ok, Err, option_map}
use Rattle.lost_step.specs.LostStep.{lost_step_of}
use Rattle.master_script.specs.Script.{Answer}
use Rattle.run_of_file.specs.RunOfFile.{RunEnd, ran, rounded_off, run_of}
use Rattle.run_counts.specs.Answers.{answer_for}
use Rattle.run_counts.proofs.Joined.{ran_answers}
use Rattle.segment_file.specs.Legal.{IsLegal}
use Rattle.segment_file.specs.Segment.{SegmentValue}
use Rattle.run_counts.proofs.Premise.{honest_replies}

-- a run behind its last phase
pub record Follows (s : SegmentValue) (o : Option RunEnd) (run : RunEnd) : Type 0 where
  pub last : RunEnd
  pub is : o ≡ Some last
  pub answer : run.answer ≡ last.answer
  pub exchanges : run.exchanges ≡ last.exchanges

rounded : (s : SegmentValue) (r : RunEnd) (answer : Answer) → ((rounded_off s r answer).answer ≡ r.answer) × ((rounded_off s r answer).exchanges ≡ r.exchanges)
rounded s r (Ok tt) = (refl, refl)
rounded s r (Err e) = (refl, refl)

behind : (s : SegmentValue) (o : Option RunEnd) (run : RunEnd) → option_map (λ r. rounded_off s r r.answer) o ≡ Some run → Follows s o run
behind s None run is = absurd (let x = is in cc)
behind s (Some r) run is =
    let same : rounded_off s r r.answer ≡ run = cc in
    record {
      last = r;
      is = refl;
      answer = ap (λ (x : RunEnd). x.answer) (sym same) ∙ (rounded s r r.answer).0;
      exchanges = ap (λ (x : RunEnd). x.exchanges) (sym same) ∙ (rounded s r r.answer).1;
    }

pub whole_follows : (s : SegmentValue) (run : RunEnd) → run_of s ≡ Some run → Follows s (ran s) run
unfolding run_of
whole_follows s run is = behind s (ran s) run is

pub whole_answers : (s : SegmentValue) (run : RunEnd) → IsLegal s → run_of s ≡ Some run → run.answer ≡ answer_for (lost_step_of s true)
whole_answers s run legal is = let f = whole_follows s run is in f.answer ∙ ran_answers s legal (honest_replies s legal) f.last f.is
