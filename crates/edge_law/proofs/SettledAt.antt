-- Where settling ends: after its drift frames, which the whole run goes on from.
use Rattle.std.proofs.Common.{◌≡◌, List, [], ◌++◌, length, length-append, Option, Some, None, Ok, refl, sym, ap, ◌∙◌, append_assoc, arith}
use Rattle.std.specs.Prelude.{IsSome}
use Rattle.std.proofs.lemmas.List.{append-nil}
use Rattle.copy_law.specs.Drifting.{IsBehind}
use Rattle.ecat_link.specs.Exchanges.{Exchange}
use Rattle.master_script.specs.Config.{settle_frames}
use Rattle.master_script.specs.Script.{Arm, Call, Run}
use Rattle.run_counts.specs.Transmissions.{settling_sends}
use Rattle.run_counts.proofs.Exported.{Drifted, Followed, followed, honest_replies, off, on, settled_drifted, settled_sends}
use Rattle.run_of_file.specs.Commissioned.{IsCommissioned}
use Rattle.run_of_file.specs.MasterOfFile.{master_of}
use Rattle.run_of_file.specs.RunOfFile.{RunEnd, armed, frames_given, ran, settled}
use Rattle.run_of_file.proofs.Exported.{ran_on}
use Rattle.segment_file.specs.Segment.{SegmentValue}

some_same : {X : Type 0} {x y : X} → Some x ≡ Some y → x ≡ y
some_same e = cc

-- a run that goes on from another, or is that one
record GoesOn (first run : RunEnd) : Type 0 where
  more : List Exchange
  all : run.exchanges ≡ first.exchanges ++ more

goes_on : (s : SegmentValue) (call : Call) (first run : RunEnd) → Followed s call first run → GoesOn first run
goes_on s call first run (on ok gone) = record { more = gone.more; all = gone.all }
goes_on s call first run (off e told same) = record { more = []; all = ap (λ (r : RunEnd). r.exchanges) (sym same) ∙ sym (append-nil first.exchanges) }

then_on : (first before run : RunEnd) → GoesOn first before → GoesOn before run → GoesOn first run
then_on first before run g h = record {
  more = g.more ++ h.more;
  all = h.all ∙ ap (λ (es : List Exchange). es ++ h.more) g.all ∙ append_assoc first.exchanges g.more h.more;
}

ran_goes_on : (s : SegmentValue) (before run : RunEnd) → settled s ≡ Some before → ran s ≡ Some run → GoesOn before run
unfolding ran armed
ran_goes_on s before run is there =
    let f = followed s (Run (frames_given s)) (armed s) run there in
    let g = followed s Arm (settled s) f.0 f.1 in
    let same : g.0 ≡ before = some_same (sym g.1 ∙ is) in
    let first = goes_on s Arm g.0 f.0 g.2 in
    then_on before f.0 run (record { more = first.more; all = first.all ∙ ap (λ (r : RunEnd). r.exchanges ++ first.more) same }) (goes_on s (Run (frames_given s)) f.0 run f.2)

pub settle_frames_are : (s : SegmentValue) → settle_frames (master_of s) ≡ settling_sends s
unfolding master_of
settle_frames_are s = refl

module _ (s : SegmentValue) (first run : RunEnd) (it : IsCommissioned s first) (is : settled s ≡ Some run) (ok : run.answer ≡ Ok tt) where
  abbrev pub settling : Drifted s first run
  settling = settled_drifted s it.legal first run it.is is

  pub settling_many : settling_sends s ≡ length settling.more
  settling_many =
      let sent = settled_sends s it.legal (honest_replies s it.legal) first run it.is is ok in
      let frames = settle_frames_are s in
      let whole = ap (λ (es : List Exchange). length es) settling.all in
      let parts = length-append first.exchanges settling.more in
      omega (arith, sent, frames, whole, parts)

  -- the states after its drift frames are those of the run, so far
  pub record IsSettledAt : Type 0 where
    pub behind : IsBehind s (settling_sends s) run.state
    pub same_first : behind.first ≡ first
    pub same_before : behind.before ≡ settling.more

  pub settled_at : IsSettledAt
  settled_at = by (ran s) refl (ran_on s it.legal).some
    where
      by : (o : Option RunEnd) → ran s ≡ o → IsSome o → IsSettledAt
      by None e h = absurd (let x = h in cc)
      by (Some last) e h =
          let more = ran_goes_on s run last is e in
          record {
            behind = record {
              first = first;
              run = last;
              commissioned = it.is;
              ok = it.ok;
              ran = e;
              before = settling.more;
              rest = more.more;
              all = more.all ∙ ap (λ (es : List Exchange). es ++ more.more) settling.all ∙ append_assoc first.exchanges settling.more more.more;
              number = settling_many;
              led = settling.runs;
            };
            same_first = refl;
            same_before = refl;
          }

  abbrev pub settled_behind : IsBehind s (settling_sends s) run.state
  settled_behind = settled_at.behind

  pub settled_exchanges_are : settled_behind.first.exchanges ++ settled_behind.before ≡ run.exchanges
  settled_exchanges_are =
      ap (λ (r : RunEnd). r.exchanges ++ settled_at.behind.before) settled_at.same_first ∙ ap (λ (es : List Exchange). first.exchanges ++ es) settled_at.same_before ∙ sym settling.all
