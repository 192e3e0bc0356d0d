-- What commissioning has measured stays to the end of a run.
use Rattle.std.proofs.Common.{◌≡◌, ℕ, List, [], ◌++◌, length, map, Option, Some, None, is_some, refl, sym, ap, ◌∙◌, append_assoc, arith}
use Rattle.std.specs.Prelude.{Ok, Err}
use Rattle.std.proofs.lemmas.List.{length-map}
use Rattle.cable_tree.specs.FrameOrder.{order}
use Rattle.ecat_link.specs.Exchanges.{Exchange}
use Rattle.ecat_link.proofs.Exported.{driven}
use Rattle.frame_pass.specs.SegmentState.{segment_step}
use Rattle.honest_slaves.proofs.Exported.{delays_whole}
use Rattle.master_script.specs.Config.{ConfigValue}
use Rattle.master_script.specs.Kept.{kept_after}
use Rattle.master_script.specs.Script.{Answer, Arm, Call, Run, Settle, script}
use Rattle.master_script.proofs.Exported.{stays_kept}
use Rattle.run_of_file.specs.MasterOfFile.{master_of}
use Rattle.run_of_file.specs.RunOfFile.{RunEnd, armed, call_run, commissioned, followed_by, frames_given, master_after, next_call, ran, run_of, settled, turns}
use Rattle.run_of_file.proofs.Exported.{as_many_kinds, some_rows}
use Rattle.segment_file.specs.Legal.{IsLegal}
use Rattle.segment_file.specs.Segment.{SegmentValue, clock_at, tree_rows}
use Rattle.segment_file.proofs.Exported.{order_many}
use Rattle.run_counts.proofs.Whole.{whole_follows}

-- what stood before a call that ended with Ok
record Before (o : Option RunEnd) (run : RunEnd) : Type 0 where
  first : RunEnd
  is : o ≡ Some first
  ok : first.answer ≡ Ok tt
  more : List Exchange
  all : run.exchanges ≡ first.exchanges ++ more

called : (s : SegmentValue) (call : Call) (first run : RunEnd) → first.answer ≡ Ok tt → call_run s call first.exchanges first.state ≡ Some run → Before (Some first) run
called s call first run ok is =
    let d = driven segment_step (script (master_of s) call) turns first.exchanges first.state run is in
    record { first = first; is = refl; ok = ok; more = d.more; all = d.all }

next : (s : SegmentValue) (call : Call) (first run : RunEnd) (answer : Answer) → first.answer ≡ answer → next_call s call first answer ≡ Some run → run.answer ≡ Ok tt → Before (Some first) run
next s call first run (Ok tt) e is ok = called s call first run e is
next s call first run (Err x) e is ok = absurd (let same : first ≡ run = cc in let no : Err x ≡ Ok tt = sym e ∙ ap (λ (r : RunEnd). r.answer) same ∙ ok in cc)

followed : (s : SegmentValue) (call : Call) (o : Option RunEnd) (run : RunEnd) → followed_by call s o ≡ Some run → run.answer ≡ Ok tt → Before o run
followed s call None run is ok = absurd (let x = is in cc)
followed s call (Some first) run is ok = next s call first run first.answer refl is ok

settled_before : (s : SegmentValue) (run : RunEnd) → settled s ≡ Some run → run.answer ≡ Ok tt → Before (commissioned s) run
unfolding settled
settled_before s run is ok = followed s Settle (commissioned s) run is ok

armed_before : (s : SegmentValue) (run : RunEnd) → armed s ≡ Some run → run.answer ≡ Ok tt → Before (settled s) run
unfolding armed
armed_before s run is ok = followed s Arm (settled s) run is ok

ran_before : (s : SegmentValue) (run : RunEnd) → ran s ≡ Some run → run.answer ≡ Ok tt → Before (armed s) run
unfolding ran
ran_before s run is ok = followed s (Run (frames_given s)) (armed s) run is ok

-- the commissioning of a run that ended with Ok
commissioning_of : (s : SegmentValue) (run : RunEnd) → ran s ≡ Some run → run.answer ≡ Ok tt → Before (commissioned s) run
commissioning_of s run is ok =
    let c = ran_before s run is ok in
    let b = armed_before s c.first c.is c.ok in
    let a = settled_before s b.first b.is b.ok in
    record {
      first = a.first;
      is = a.is;
      ok = a.ok;
      more = a.more ++ (b.more ++ c.more);
      all = c.all ∙ ap (λ es. es ++ c.more) b.all ∙ append_assoc b.first.exchanges b.more c.more ∙ ap (λ es. es ++ (b.more ++ c.more)) a.all
          ∙ append_assoc a.first.exchanges a.more (b.more ++ c.more);
    }

-- delays are kept alike, whatever `run` is given
same_delays : (cfg : ConfigValue) (frames : Option ℕ) (es : List Exchange) → (kept_after cfg frames es).delays ≡ (kept_after cfg None es).delays
unfolding kept_after
same_delays cfg frames es = refl

pub ran_delays : (s : SegmentValue) (run : RunEnd) → IsLegal s → ran s ≡ Some run → run.answer ≡ Ok tt
    → map is_some (master_after s (Some (frames_given s)) run.exchanges).delays ≡ map (clock_at s.rows) (order (tree_rows s.rows))
ran_delays s run legal is ok =
    let cfg = master_of s in
    let frames = Some (frames_given s) in
    let c = commissioning_of s run is ok in
    let kinds = as_many_kinds s legal in
    let some = some_rows s legal in
    let whole = delays_whole s legal c.first c.is c.ok in
    let stays = stays_kept cfg frames c.first.exchanges c.more (omega (arith, kinds, some)) in
    let there : (kept_after cfg frames c.first.exchanges).delays ≡ [] → ⊥ =
    λ none.
    let n : 0 ≡ length s.rows =
    ap (λ ds. length (map is_some ds)) (sym none ∙ same_delays cfg frames c.first.exchanges) ∙ ap length whole
    ∙ length-map (order (tree_rows s.rows)) (clock_at s.rows) ∙ order_many s legal in
    omega (arith, n, some) in
    ap (λ es. map is_some (kept_after cfg frames es).delays) c.all ∙ ap (map is_some) (stays.delays there ∙ same_delays cfg frames c.first.exchanges) ∙ whole

pub whole_delays : (s : SegmentValue) (run : RunEnd) → IsLegal s → run_of s ≡ Some run → run.answer ≡ Ok tt
    → map is_some (master_after s (Some (frames_given s)) run.exchanges).delays ≡ map (clock_at s.rows) (order (tree_rows s.rows))
whole_delays s run legal is ok =
    let f = whole_follows s run is in
    ap (λ es. map is_some (master_after s (Some (frames_given s)) es).delays) f.exchanges ∙ ran_delays s f.last legal f.is (sym f.answer ∙ ok)
