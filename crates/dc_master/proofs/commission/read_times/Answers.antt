use Rattle.std.proofs.Common.{◌≡◌, ◌+◌, ◌-◌, ◌<◌, ◌∷◌, ◌++◌, [], ℕ, List, Option, true, false, length, map, refl, ap, sym, ◌∙◌, arith, filter}
use Rattle.dc_master.proofs.Causes.{step_causes}
use Rattle.master_script.specs.Script.{Commission}
use Rattle.std.specs.List.{range_with_len}
use Rattle.std.proofs.lemmas.List.{length-map, length-set}
use Rattle.ecat_link.proofs.Exported.{serves_none, serves_weaker}
use Rattle.dc_bounds.specs.Weight.{flag}
use Rattle.dc_delay.specs.Latched.{measures}
use Rattle.dc_delay.specs.declared.latch.Latch.{Latch}
use Rattle.master_frames.proofs.Exported.{left, left_end}
use Rattle.master_steps.proofs.Exported.{counted_none, counted_then}
use Rattle.master_steps.specs.ConfigRange.{value_of}
use Rattle.master_steps.specs.Known.{words_of}
use Rattle.dc_master.proofs.Parts.{at_todo, steps_no, steps_yes, then_err, then_ok}
use Rattle.dc_master.proofs.Times.{read_all, read_more, read_over, shown_ahead, unread_more}
use Rattle.dc_master.proofs.commission.read_times.Goals as goal
use Rattle.dc_master.proofs.commission.read_times.Goals.{then-is_measuring+in_default, else-is_measuring}
use Rattle.master_script.specs.Progress.{Commissioning}
use Rattle.master_script.specs.Slaves.{SlaveWords, is_measuring, measuring}
use Rattle.master_script.specs.Steps.{latch_in}
use Rattle.master_script.specs.Words.{Words, wide_at}
use Rattle.master_script.specs.declared.step.Step.TheVariants.{Times}

pub loop-position-init : goal.loop-position-init
loop-position-init g c =
    let cfg = value_of c.args.config.now in
    let w = words_of c.args.notes.now.learned in
    let n = length w.slaves in
    let flags = flag (map is_measuring w.slaves) in
    let whole : n ≡ n - 0 = omega arith in
    record {
      serves = λ rest. serves_none g.L.Link.step _ _ _ _
          (λ es b. at_todo cfg Commissioning c.args.notes.now.counters w (map Times (measuring w.slaves) ++ rest) (map Times (left flags n 0) ++ rest) es (ap (λ k. map Times (filter flags (range_with_len 0 k)) ++ rest) whole) b);
      slaves = refl;
      reference = refl;
      latches = refl;
      read = λ p h. absurd (omega (arith, h));
      unread = λ p h. c.requires.unread p;
      delays = c.requires.delays;
      sent = record { more = omega arith; few = omega arith; lost = c.requires.room.lost; drifts = c.requires.room.drifts };
      drifts = refl;
      later = omega arith;
      counted = counted_none c.args.notes.now.counters _;
    }

pub returns-in-Err-clause-serves : goal.returns-in-Err-clause-serves
returns-in-Err-clause-serves g c rest =
    let cfg = value_of c.args.config.now in
    let l = c.loop-position in
    let ss = (words_of c.args.notes.now.learned).slaves in
    let n = length ss in
    let flags = flag (map is_measuring ss) in
    let w = words_of l.notes.learned in
    let v = words_of c.take.new.notes.learned in
    let less : l.position < n = omega (arith, c.loop-position-test.true, c.len-position-end.ensures.value, c.requires.few) in
    let yes : flags l.position ≡ true = ap (λ (xs : List SlaveWords). flag (map is_measuring xs) l.position) (sym l.invariant.slaves) ∙ sym c.is_measuring.ensures ∙ c.if-is_measuring.true in
    let others = map Times (left flags n (l.position + 1)) ++ rest in
    then_err g.L.Link.step cfg (Times l.position) _ l.notes.counters c.take.new.notes.counters w v (map Times (left flags n l.position) ++ rest) others _ _ _ [] c.in-Err.refusal
    (steps_yes Times flags n l.position rest less yes) (shown_ahead cfg v (Times l.position ∷ others) refl) (l.invariant.serves rest) (c.in-Err.ensures.serves others)

pub loop-position-preserved : goal.loop-position-preserved
loop-position-preserved g c =
    let cfg = value_of c.args.config.now in
    let l = c.loop-position in
    let ss = (words_of c.args.notes.now.learned).slaves in
    let n = length ss in
    let flags = flag (map is_measuring ss) in
    let w = words_of l.notes.learned in
    let i = l.invariant in
    let less : l.position < n = omega (arith, c.loop-position-test.true, c.len-position-end.ensures.value, c.requires.few) in
    let told = ap (λ (xs : List SlaveWords). flag (map is_measuring xs) l.position) (sym i.slaves) ∙ sym c.is_measuring.ensures in
    elim c.if-is_measuring.branch [
      | then-is_measuring+in_default b ↦
          let yes : flags l.position ≡ true = told ∙ b.if-is_measuring.true in
          let e = b.in_default.ensures in
          let v = words_of b.take.new.notes.learned in
          let same = e.learned.1 in
          let latch = latch_in (wide_at w l.position) e.learned.0 in
          let room : l.position < length w.latches = omega (arith, less, i.latches, c.requires.latches) in
          let latches = ap (λ (x : Words). x.latches) same in
          rw (b.notes-is, b.link-is) (record {
            serves = λ rest.
                let others = map Times (left flags n (l.position + 1)) ++ rest in
                then_ok g.L.Link.step cfg (Times l.position) _ l.notes.counters b.take.new.notes.counters w v (map Times (left flags n l.position) ++ rest) others _ _ _
                (steps_yes Times flags n l.position rest less yes) (i.serves rest) (e.serves others);
            slaves = ap (λ (x : Words). x.slaves) same ∙ i.slaves;
            reference = ap (λ (x : Words). x.reference) same ∙ i.reference;
            latches = ap (λ (x : List (Option Latch)). length x) latches ∙ length-set w.latches l.position _ ∙ i.latches;
            read = λ p h. ap (λ (x : List (Option Latch)). measures x p) latches ∙ read_more w.latches l.position latch flags room yes i.read p h;
            unread = λ p h. ap (λ (x : List (Option Latch)). measures x p) latches ∙ unread_more w.latches l.position latch flags i.unread p h;
            delays = e.delays ∙ i.delays;
            sent = record { more = omega (arith, e.sent.0, i.sent.more); few = omega (arith, e.sent.1, i.sent.few); lost = e.fewer; drifts = e.drifts };
            drifts = e.still refl ∙ i.drifts;
            later = omega (arith, e.later, i.later);
            counted = counted_then c.args.notes.now.counters l.notes.counters b.take.new.notes.counters _ _ _ i.counted e.counted;
          })
      | else-is_measuring b ↦
          let no : flags l.position ≡ false = told ∙ b.if-is_measuring.false in
          rw (b.notes-is, b.link-is) (record {
            serves = λ rest. serves_weaker g.L.Link.step _ _ _ _ _ _ _ (λ es p. p)
                (λ es p. at_todo cfg Commissioning l.notes.counters w _ _ es (steps_no Times flags n l.position rest less no) p) (i.serves rest);
            slaves = i.slaves;
            reference = i.reference;
            latches = i.latches;
            read = read_over w.latches flags l.position (i.unread l.position (omega arith)) no i.read;
            unread = λ p h. i.unread p (omega (arith, h));
            delays = i.delays;
            sent = record { more = i.sent.more; few = omega (arith, i.sent.few); lost = i.sent.lost; drifts = i.sent.drifts };
            drifts = i.drifts;
            later = i.later;
            counted = i.counted;
          })
    ]

pub returns-clause-serves : goal.returns-clause-serves
returns-clause-serves g c rest =
    let cfg = value_of c.args.config.now in
    let l = c.loop-position in
    let ss = (words_of c.args.notes.now.learned).slaves in
    let n = length ss in
    let flags = flag (map is_measuring ss) in
    serves_weaker g.L.Link.step _ _ _ _ _ _ _ (λ es p. p)
    (λ es p. at_todo cfg Commissioning l.notes.counters (words_of l.notes.learned) (map Times (left flags n l.position) ++ rest) rest es
    (ap (λ (ps : List ℕ). map Times ps ++ rest) (left_end flags n l.position (omega (arith, c.loop-position-test.false, c.len-position-end.ensures.value, c.requires.few)))) p)
    (l.invariant.serves rest)

pub returns-clause-read : goal.returns-clause-read
returns-clause-read g c =
    let l = c.loop-position in
    let ss = (words_of c.args.notes.now.learned).slaves in
    let whole = length-map ss is_measuring in
    let end = c.loop-position-test.false in
    let last = c.loop-position.auto.position-end in
    let value = c.len-position-end.ensures.value in
    let few = c.requires.few in
    read_all (words_of l.notes.learned).latches (map is_measuring ss) (λ q h. l.invariant.read q (omega (arith, h, whole, end, value, few)))
    (λ q h. l.invariant.unread q (omega (arith, h, whole, last, value, few)))

pub returns-in-Err-clause-caused : goal.returns-in-Err-clause-caused
returns-in-Err-clause-caused g c =
    step_causes (value_of c.args.config.now) Commission c.take.new.notes.counters.drifts (words_of c.take.new.notes.learned) (Times c.loop-position.position) c.in-Err.refusal tt tt c.in-Err.ensures.caused
