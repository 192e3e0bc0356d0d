-- What commissioning has measured stays to the end of a run.
use Rattle.std.proofs.Common.{◌≡◌, ℕ, List, [], ◌++◌, length, Option, Some, None, refl, sym, ap, subst, ◌∙◌, append_assoc, arith}
use Rattle.std.specs.Prelude.{Ok, Err, is_some, map, option_map}
use Rattle.std.proofs.lemmas.List.{append-nil, length-map}
use Rattle.cable_tree.specs.FrameOrder.{order}
use Rattle.ecat_link.specs.Exchanges.{Exchange}
use Rattle.ecat_link.proofs.Exported.{driven}
use Rattle.frame_pass.specs.SegmentState.{segment_step}
use Rattle.master_script.specs.Config.{ConfigValue}
use Rattle.master_script.specs.Kept.{kept_after}
use Rattle.master_script.specs.Script.{Answer, Arm, Call, Run, Settle, script}
use Rattle.master_script.proofs.Exported.{stays_kept}
use Rattle.run_of_file.specs.MasterOfFile.{master_of}
use Rattle.run_of_file.specs.RunOfFile.{RunEnd, armed, call_run, commissioned, followed_by, frames_given, master_after, next_call, ran, rounded_off, run_of, settled, turns}
use Rattle.run_of_file.proofs.Exported.{some_rows}
use Rattle.run_counts.proofs.Exported.{some_kinds}
use Rattle.segment_file.specs.Legal.{IsLegal}
use Rattle.segment_file.specs.Segment.{SegmentValue, clock_at, tree_rows}
use Rattle.segment_file.proofs.Exported.{order_many}
use Rattle.honest_slaves.proofs.Exported.{delays_whole}
use Rattle.delay_law.specs.NearDelays.{AreNear}
use Rattle.delay_law.proofs.Near.{commissioned_near}

some_same : {X : Type 0} {x y : X} → Some x ≡ Some y → x ≡ y
some_same e = cc

-- the commissioning of a run, which went well where the run did
record Behind (s : SegmentValue) (run : RunEnd) : Type 0 where
  first : RunEnd
  is : commissioned s ≡ Some first
  ok : run.answer ≡ Ok tt → first.answer ≡ Ok tt
  more : List Exchange
  all : run.exchanges ≡ first.exchanges ++ more

abbrev AreBehind : SegmentValue → Option RunEnd → Type 0
AreBehind s o = (run : RunEnd) → o ≡ Some run → Behind s run

-- a call follows a phase that ended with Ok; after a refusal none does
module _ (s : SegmentValue) (call : Call) where
  called : (last run : RunEnd) → last.answer ≡ Ok tt → Behind s last → call_run s call last.exchanges last.state ≡ Some run → Behind s run
  called last run fine b is =
      let d = driven segment_step (script (master_of s) call) turns last.exchanges last.state run is in
      record {
        first = b.first;
        is = b.is;
        ok = λ e. b.ok fine;
        more = b.more ++ d.more;
        all = d.all ∙ ap (λ es. es ++ d.more) b.all ∙ append_assoc b.first.exchanges b.more d.more;
      }

  next : (last run : RunEnd) (answer : Answer) → last.answer ≡ answer → Behind s last → next_call s call last answer ≡ Some run → Behind s run
  next last run (Ok tt) fine b is = called last run fine b is
  next last run (Err x) refused b is = subst (Behind s) (some_same is) b

  followed : (o : Option RunEnd) → AreBehind s o → AreBehind s (followed_by call s o)
  followed None before run is = absurd (let x = is in cc)
  followed (Some last) before run is = next last run last.answer refl (before last refl) is

commissioned_first : (s : SegmentValue) → AreBehind s (commissioned s)
commissioned_first s run is = record { first = run; is = is; ok = λ e. e; more = []; all = sym (append-nil run.exchanges) }

settled_first : (s : SegmentValue) → AreBehind s (settled s)
unfolding settled
settled_first s = followed s Settle (commissioned s) (commissioned_first s)

armed_first : (s : SegmentValue) → AreBehind s (armed s)
unfolding armed
armed_first s = followed s Arm (settled s) (settled_first s)

ran_first : (s : SegmentValue) → AreBehind s (ran s)
unfolding ran
ran_first s = followed s (Run (frames_given s)) (armed s) (armed_first s)

-- behind its last phase a run makes no exchange
rounded : (s : SegmentValue) (r : RunEnd) (answer : Answer) → ((rounded_off s r answer).answer ≡ r.answer) × ((rounded_off s r answer).exchanges ≡ r.exchanges)
rounded s r (Ok tt) = (refl, refl)
rounded s r (Err e) = (refl, refl)

behind_last : (s : SegmentValue) (o : Option RunEnd) → AreBehind s o → AreBehind s (option_map (λ r. rounded_off s r r.answer) o)
behind_last s None before run is = absurd (let x = is in cc)
behind_last s (Some r) before run is =
    let b = before r refl in
    let at = rounded s r r.answer in
    subst (Behind s) (some_same is) (record { first = b.first; is = b.is; ok = λ e. b.ok (sym at.0 ∙ e); more = b.more; all = at.1 ∙ b.all })

whole_first : (s : SegmentValue) → AreBehind s (run_of s)
unfolding run_of
whole_first s = behind_last s (ran s) (ran_first s)

-- delays are kept alike, whatever `run` is given
same_delays : (cfg : ConfigValue) (frames : Option ℕ) (es : List Exchange) → (kept_after cfg frames es).delays ≡ (kept_after cfg None es).delays
unfolding kept_after
same_delays cfg frames es = refl

some_delays : (s : SegmentValue) (first : RunEnd) → IsLegal s → commissioned s ≡ Some first → first.answer ≡ Ok tt → (master_after s None first.exchanges).delays ≡ [] → ⊥
some_delays s first legal is ok none =
    let some = some_rows s legal in
    let n : 0 ≡ length s.rows =
    ap (λ ds. length (map is_some ds)) (sym none) ∙ ap length (delays_whole s legal first is ok) ∙ length-map (order (tree_rows s.rows)) (clock_at s.rows) ∙ order_many s legal in
    omega (arith, n, some)

near_behind : (s : SegmentValue) (run : RunEnd) (frames : Option ℕ) → IsLegal s → (b : Behind s run) → b.first.answer ≡ Ok tt → AreNear s (master_after s frames run.exchanges).delays
near_behind s run frames legal b fine =
    let cfg = master_of s in
    let stays = stays_kept cfg frames b.first.exchanges b.more (some_kinds s legal) in
    let alike = same_delays cfg frames b.first.exchanges in
    let same : (master_after s frames run.exchanges).delays ≡ (master_after s None b.first.exchanges).delays =
    ap (λ es. (kept_after cfg frames es).delays) b.all ∙ stays.delays (λ none. some_delays s b.first legal b.is fine (sym alike ∙ none)) ∙ alike in
    subst (AreNear s) (sym same) (commissioned_near s legal b.first b.is fine)

-- once commissioning has ended with Ok, whatever comes later
pub later_near : (s : SegmentValue) (first run : RunEnd) (frames : Option ℕ) → IsLegal s → commissioned s ≡ Some first → first.answer ≡ Ok tt → run_of s ≡ Some run
    → AreNear s (master_after s frames run.exchanges).delays
later_near s first run frames legal first_is fine is =
    let b = whole_first s run is in
    let same : first ≡ b.first = some_same (sym first_is ∙ b.is) in
    near_behind s run frames legal b (ap (λ (r : RunEnd). r.answer) (sym same) ∙ fine)

-- so where the whole run does
pub whole_near : (s : SegmentValue) (run : RunEnd) (frames : Option ℕ) → IsLegal s → run_of s ≡ Some run → run.answer ≡ Ok tt → AreNear s (master_after s frames run.exchanges).delays
whole_near s run frames legal is fine = let b = whole_first s run is in near_behind s run frames legal b (b.ok fine)
