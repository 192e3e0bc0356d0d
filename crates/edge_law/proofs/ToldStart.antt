-- What a master knows of the time of the reference, drift frame by drift frame of settling, and the start that follows from it.
use Rattle.std.proofs.Common.{◌≡◌, ◌⊎◌, ℕ, ◌+◌, ◌-◌, ◌*◌, ◌%◌, ◌^◌, ◌<◌, ◌≤◌, ◌==◌, Bool, true, false, List, [], ◌∷◌, ◌++◌, length, Option, Some, None, is_none, Ok, inl, inr, refl, sym, ap, ap₂, subst, ◌∙◌, append_assoc, arith}
use Rattle.std.specs.Prelude.{⊤, if◌then◌else◌, unwrap_or}
use Rattle.std.proofs.Math.Nat.{mod-eq_of_lt}
use Rattle.std.proofs.lemmas.Bool.{cases_lt}
use Rattle.std.proofs.lemmas.Bool.Decides.{nat_tests}
use Rattle.std.proofs.lemmas.List.{append-nil, append_cancel_left}
use Rattle.copy_law.specs.Drawn.{arrives_at}
use Rattle.copy_law.specs.Drifting.{IsBehind}
use Rattle.copy_law.specs.DriftFrames.{IsDriftFrame}
use Rattle.copy_law.specs.Receipts.{IsReference}
use Rattle.copy_law.specs.WholeTimes.{reference_time}
use Rattle.copy_law.proofs.Behind.{IsWanted, is_wanted}
use Rattle.copy_law.proofs.Exported.{behind_induction, comes_back, found_behind, low_told, one_before}
use Rattle.dc_bounds.specs.RunNumbers.{lead_ns, start_ns}
use Rattle.ecat_frame.specs.FrameGrammar.{FrameValue}
use Rattle.ecat_link.specs.Exchanges.{Exchange}
use Rattle.edge_law.specs.ToldStart.{KnowsTime, start_from}
use Rattle.edge_law.proofs.SettledAt.{settle_frames_are, settled_behind, settled_exchanges_are}
use Rattle.edge_law.proofs.ToldTimes.{start_early, whole_again}
use Rattle.frame_pass.specs.SegmentState.{SegmentState, segment_step}
use Rattle.loss_list.specs.declared.loss_row.Phase.TheVariants as frames
use Rattle.lost_step.specs.LostStep.{loses}
use Rattle.master_script.specs.Config.{ConfigValue, settle_frames, start_of}
use Rattle.master_script.specs.Judged.{judged}
use Rattle.master_script.specs.Progress.{Phase, Progress, Settling, after, brought, counted, drift_one, expected_time, moved, progress, settled as settled_step, settled_by, settling, timed}
use Rattle.master_script.specs.Slaves.{SlaveWords, clocks as clocks_told}
use Rattle.master_script.specs.Steps.{expected, low_in}
use Rattle.master_script.specs.Words.{Words, start_at}
use Rattle.master_script.specs.declared.step.Refusal.{Refusal}
use Rattle.master_script.specs.declared.step.Step.TheVariants.{Drift}
use Rattle.master_script.proofs.Exported.{commission_done, progress_push, progress_sent}
use Rattle.run_counts.specs.Numbered.{AreNumbered}
use Rattle.run_counts.specs.Transmissions.{settling_sends}
use Rattle.run_counts.proofs.Exported.{clocks_counted, ended, has_commissioned, honest_replies, in_phase, is_settled, one_drift_comes, ran_drifted}
use Rattle.run_of_file.specs.Commissioned.{IsCommissioned, words_after}
use Rattle.run_of_file.specs.MasterOfFile.{master_of}
use Rattle.run_of_file.specs.RunOfFile.{RunEnd, frames_given, settled}
use Rattle.segment_file.specs.Segment.{SegmentValue, clocks}
use Rattle.wrap_time.specs.Extended.{extended}

some_same : {X : Type 0} {x y : X} → Some x ≡ Some y → x ≡ y
some_same e = cc

none_there : (es : List Exchange) → 0 ≡ length es → es ≡ []
none_there [] none = refl
none_there (x ∷ es) none = absurd (omega (arith, none))

-- a drift frame does not come back exactly where its number is listed
lost_there : (s : SegmentValue) (number : ℕ) (es : List Exchange) (e : Exchange) (rest : List Exchange) → AreNumbered s frames.Drift number (es ++ e ∷ rest)
    → is_none e.back ≡ loses s frames.Drift (number + length es)
lost_there s number [] e rest h = h.1 ∙ ap (loses s frames.Drift) (let same : number ≡ number + 0 = omega arith in same)
lost_there s number (x ∷ es) e rest h =
    lost_there s (number + 1) es e rest h.2 ∙ ap (loses s frames.Drift) (let same : number + 1 + length es ≡ number + length (x ∷ es) = omega arith in same)

expected_is : (s : SegmentValue) (p : Progress) (sent latched : ℕ) → p.sent ≡ sent → p.words.latched ≡ latched
    → expected_time (master_of s) p ≡ (s.head.epoch_ns + s.head.frame_ns * (sent - latched)) % 2 ^ 64
unfolding master_of
expected_is s p sent latched a b = ap₂ (λ (x y : ℕ). (s.head.epoch_ns + s.head.frame_ns * (x - y)) % 2 ^ 64) a b

settling_is : (cfg : ConfigValue) (p : Progress) (e : Exchange) → p.refused ≡ None → p.phase ≡ Settling → after cfg p e ≡ settling cfg (counted p e.back) e.sent e.back
unfolding after
settling_is cfg p e unrefused phase = ap₂ (moved cfg (counted p e.back) e.sent e.back) unrefused phase

module _ (s : SegmentValue) (first : RunEnd) (it : IsCommissioned s first) (r : ℕ) (reference : IsReference s r) where
  abbrev cfg : ConfigValue
  cfg = master_of s

  abbrev latched : ℕ
  latched = (words_after s first).latched

  -- the whole time of the reference at the arrival of a drift frame
  abbrev known : ℕ → ℕ
  known k = reference_time s (words_after s first) r (arrives_at s first k r)

  -- the drift frames after number j are lost, up to number k
  abbrev AreLost : ℕ → ℕ → Type 0
  AreLost j k = (i : ℕ) → j < i → i ≤ k → loses s frames.Drift i ≡ true

  record IsLast (k : ℕ) (w : Words) : Type 0 where
    frame : ℕ
    within : frame ≤ k
    came : loses s frames.Drift frame ≡ false
    silent : AreLost frame k
    time : w.time ≡ Some (known frame)

  abbrev IsTold : ℕ → Words → Type 0
  IsTold k w = AreLost 0 k ⊎ IsLast k w

  record Stands (k : ℕ) (p : Progress) : Type 0 where
    latch : p.words.latched ≡ latched
    drifts : p.drifts ≡ k
    sent : p.sent ≡ length first.exchanges + k
    told : IsTold k p.words

  -- after k drift frames, where nothing was refused
  abbrev StandsBy : ℕ → Progress → Option Refusal → Type 0
  StandsBy k p (Some x) = ⊤
  StandsBy k p None = Stands k p × (k < settling_sends s → p.phase ≡ Settling)

  one_more : (j k : ℕ) → AreLost j k → loses s frames.Drift (k + 1) ≡ true → AreLost j (k + 1)
  one_more j k h now i after few =
      elim (cases_lt k i) [
        | inl past ↦ let same : i ≡ k + 1 = omega (arith, past, few) in ap (loses s frames.Drift) same ∙ now
        | inr until ↦ h i after until
      ]

  still_told : (k : ℕ) (w : Words) → loses s frames.Drift (k + 1) ≡ true → IsTold k w → IsTold (k + 1) w
  still_told k w now (inl silent) = inl (one_more 0 k silent now)
  still_told k w now (inr h) =
      let within = h.within in
      inr (record { frame = h.frame; within = omega (arith, within); came = h.came; silent = one_more h.frame k h.silent now; time = h.time })

  -- the end of settling
  module _ (k : ℕ) (q : Progress) (unrefused : q.refused ≡ None) (phase : q.phase ≡ Settling) (h : Stands k q) where
    last_stands : (time : Option ℕ) → k ≡ settling_sends s → StandsBy k (settled_by q time) (settled_by q time).refused
    last_stands None last = tt
    last_stands (Some x) last =
        subst (StandsBy k (settled_by q (Some x))) (sym unrefused)
        (record { latch = h.latch; drifts = h.drifts; sent = h.sent; told = h.told }, λ early. absurd (omega (arith, early, last)))

    settled_stands : StandsBy k (settled_step cfg q) (settled_step cfg q).refused
    settled_stands = by (q.drifts == settle_frames cfg) refl
      where
        by : (b : Bool) → (q.drifts == settle_frames cfg) ≡ b → StandsBy k (if b then settled_by q q.words.time else q) (if b then settled_by q q.words.time else q).refused
        by true is =
            let same : q.drifts ≡ settle_frames cfg = grind (arith, nat_tests, is) in
            last_stands q.words.time (sym h.drifts ∙ same ∙ settle_frames_are s)
        by false is = subst (StandsBy k q) (sym unrefused) (h, λ early. phase)

  -- one drift frame of settling
  module _ (k : ℕ) (below : k < settling_sends s) where
    brings_time : (q : Progress) (g : FrameValue) → q.sent ≡ length first.exchanges + (k + 1) → q.words.latched ≡ latched → low_in g ≡ known (k + 1) % 2 ^ 32
        → (brought cfg q g).words.time ≡ Some (known (k + 1))
    brings_time q g sent latch low =
        ap (λ (x : ℕ). Some x)
        (ap₂ extended low (expected_is s q (length first.exchanges + (k + 1)) latched sent latch) ∙ whole_again s first it r reference (k + 1) (omega (arith, below)))

    module _ (q : Progress) (unrefused : q.refused ≡ None) (phase : q.phase ≡ Settling) (latch : q.words.latched ≡ latched) (drifts : q.drifts ≡ k + 1) (sent : q.sent ≡ length first.exchanges + (k + 1))
        (told : IsTold k q.words) (f : FrameValue) where
      came_stands : (g : FrameValue) (o : Option Refusal) → loses s frames.Drift (k + 1) ≡ false → low_in g ≡ known (k + 1) % 2 ^ 32 → StandsBy (k + 1) (timed cfg q g o) (timed cfg q g o).refused
      came_stands g (Some x) comes low = tt
      came_stands g None comes low =
          settled_stands (k + 1) (brought cfg q g) unrefused phase
          (record {
            latch = latch;
            drifts = drifts;
            sent = sent;
            told = inr (record { frame = k + 1; within = omega arith; came = comes; silent = λ i after few. absurd (omega (arith, after, few)); time = brings_time q g sent latch low });
          })

      back_stands : (back : Option FrameValue) → is_none back ≡ loses s frames.Drift (k + 1) → ((g : FrameValue) → back ≡ Some g → low_in g ≡ known (k + 1) % 2 ^ 32)
          → StandsBy (k + 1) (settling cfg q f back) (settling cfg q f back).refused
      back_stands None now low =
          settled_stands (k + 1) q unrefused phase (record { latch = latch; drifts = drifts; sent = sent; told = still_told k q.words (sym now) told })
      back_stands (Some g) now low = came_stands g (judged (Drift q.drifts) (expected cfg q.words (Drift q.drifts) g) f g) (sym now) (low g refl)

    after_stands : (p : Progress) (e : Exchange) → p.refused ≡ None → p.phase ≡ Settling → Stands k p → is_none e.back ≡ loses s frames.Drift (k + 1)
        → ((g : FrameValue) → e.back ≡ Some g → low_in g ≡ known (k + 1) % 2 ^ 32) → StandsBy (k + 1) (after cfg p e) (after cfg p e).refused
    after_stands p e unrefused phase h now low =
        let drifts = h.drifts in
        let sent = h.sent in
        let one : (counted p e.back).drifts ≡ p.drifts + 1 = ap (λ (x : Phase). p.drifts + drift_one x) phase in
        subst (λ (x : Progress). StandsBy (k + 1) x x.refused) (sym (settling_is cfg p e unrefused phase))
        (back_stands (counted p e.back) unrefused phase h.latch (omega (arith, one, drifts)) (omega (arith, sent)) h.told e.sent e.back now low)

  stands_of : (k : ℕ) (p : Progress) (o : Option Refusal) → o ≡ None → StandsBy k p o → Stands k p × (k < settling_sends s → p.phase ≡ Settling)
  stands_of k p None e h = h
  stands_of k p (Some x) e h = absurd (let z = e in cc)

  abbrev StandsAt : ℕ → List Exchange → Type 0
  StandsAt k es = StandsBy k (progress cfg es) (progress cfg es).refused

  -- where commissioning ended
  begins_settling : StandsAt 0 first.exchanges
  begins_settling =
      let c = has_commissioned s it.legal first it.is in
      let b = (commission_done cfg first.exchanges c.0.sends (c.1 ∙ ap ended it.ok)).0 in
      let sent = progress_sent cfg first.exchanges in
      subst (StandsBy 0 (progress cfg first.exchanges)) (sym b.unrefused) (
        record { latch = refl; drifts = b.drifts; sent = omega (arith, sent); told = inl (λ i some few. absurd (omega (arith, some, few))) },
        λ early. b.phase_is,
      )

  module _ (k : ℕ) (t : SegmentState) (e : Exchange) (f : IsDriftFrame s (k + 1) t e) where
    abbrev sofar : List Exchange
    sofar = f.first.exchanges ++ f.before

    same_first : f.first ≡ first
    same_first = some_same (sym f.commissioned ∙ it.is)

    wanted : IsWanted cfg (frames_given s) sofar e
    wanted = is_wanted s it.legal (k + 1) t e f

    unrefused_here : (progress cfg sofar).refused ≡ None
    unrefused_here = (in_phase cfg wanted.call sofar e.wait_ns e.sent wanted.wanted).0

    listed : is_none e.back ≡ loses s frames.Drift (k + 1)
    listed =
        let d = ran_drifted s it.legal f.first f.run f.commissioned f.ran in
        let are : d.more ≡ f.before ++ e ∷ f.rest = append_cancel_left f.first.exchanges d.more (f.before ++ e ∷ f.rest) (sym d.all ∙ f.all) in
        let number = f.number in
        lost_there s 1 f.before e f.rest (subst (AreNumbered s frames.Drift 1) are d.numbered) ∙ ap (loses s frames.Drift) (let same : 1 + length f.before ≡ k + 1 = omega (arith, number) in same)

    tells : (g : FrameValue) → e.back ≡ Some g → low_in g ≡ known (k + 1) % 2 ^ 32
    tells g came =
        low_told s it.legal k t e f r reference g (sym (comes_back s it.legal k t e f) ∙ came)
        ∙ ap (λ (x : RunEnd). reference_time s (words_after s x) r (arrives_at s x (k + 1) r) % 2 ^ 32) same_first

    one_on : k < settling_sends s → StandsAt k sofar → StandsAt (k + 1) (sofar ++ e ∷ [])
    one_on below h =
        let n = stands_of k (progress cfg sofar) (progress cfg sofar).refused unrefused_here h in
        subst (λ (x : Progress). StandsBy (k + 1) x x.refused) (sym (progress_push cfg sofar e))
        (after_stands k below (progress cfg sofar) e unrefused_here (n.1 below) n.0 listed tells)

  -- The exchanges after no drift frame, and after one more.
  none_yet : (b : IsBehind s 0 first.state) → b.first.exchanges ++ b.before ≡ first.exchanges
  none_yet b =
      let same : b.first ≡ first = some_same (sym b.commissioned ∙ it.is) in
      ap (λ (es : List Exchange). b.first.exchanges ++ es) (none_there b.before b.number) ∙ append-nil b.first.exchanges ∙ ap (λ (x : RunEnd). x.exchanges) same

  one_longer : (k : ℕ) (t : SegmentState) (e : Exchange) (f : IsDriftFrame s (k + 1) t e) (c : IsBehind s (k + 1) (segment_step t e.wait_ns e.sent).0)
      → c.first.exchanges ++ c.before ≡ (f.first.exchanges ++ f.before) ++ e ∷ []
  one_longer k t e f c =
      let b = found_behind s it.legal k t e f in
      let same : c.first ≡ f.first = some_same (sym c.commissioned ∙ f.commissioned) in
      ap (λ (x : RunEnd). x.exchanges ++ c.before) same ∙ ap (λ (es : List Exchange). f.first.exchanges ++ es) (one_before s it.legal k t e f b c) ∙ sym (append_assoc f.first.exchanges f.before (e ∷ []))

  settles : (k : ℕ) (t : SegmentState) (b : IsBehind s k t) → k ≤ settling_sends s → StandsAt k (b.first.exchanges ++ b.before)
  settles k t b =
      behind_induction s first it.is (λ (k : ℕ) (t : SegmentState). (b : IsBehind s k t) → k ≤ settling_sends s → StandsAt k (b.first.exchanges ++ b.before))
      (λ b within. subst (StandsAt 0) (sym (none_yet b)) begins_settling)
      (λ k t e b f h c within.
      subst (StandsAt (k + 1)) (sym (one_longer k t e f c))
      (one_on k t e f (omega (arith, within)) (h (found_behind s it.legal k t e f) (omega (arith, within))))) k t b b

  -- the last of its frames that came back
  knows : (w : Words) → IsTold (settling_sends s) w → KnowsTime s first r w
  knows w (inl silent) =
      let c = one_drift_comes s it.legal 1 in
      let low = c.1 in
      let high = c.2 in
      absurd (let x : true ≡ false = sym (silent c.0 (omega (arith, low)) (omega (arith, high))) ∙ c.3 in cc)
  knows w (inr h) = record {
    frame = h.frame;
    within = h.within;
    came = h.came;
    last = h.silent;
    recent = by (cases_lt (h.frame + s.head.loss_run) (settling_sends s));
    time = h.time;
  }
    where
      by : (h.frame + s.head.loss_run < settling_sends s) ⊎ (settling_sends s ≤ h.frame + s.head.loss_run) → settling_sends s ≤ h.frame + s.head.loss_run
      by (inr recent) = recent
      by (inl old) =
          let c = one_drift_comes s it.legal (h.frame + 1) in
          let low = c.1 in
          let high = c.2 in
          absurd (let x : true ≡ false = sym (h.silent c.0 (omega (arith, low)) (omega (arith, high, old))) ∙ c.3 in cc)

  module _ (run : RunEnd) (is : settled s ≡ Some run) (ok : run.answer ≡ Ok tt) where
    pub knows_time : KnowsTime s first r (words_after s run)
    knows_time =
        let at = is_settled s it.legal (honest_replies s it.legal) run is ok in
        let b = settled_behind s first run it is ok in
        let stands = subst (StandsAt (settling_sends s)) (settled_exchanges_are s first run it is ok) (settles (settling_sends s) run.state b (omega arith)) in
        knows (words_after s run) (stands_of (settling_sends s) (progress cfg run.exchanges) (progress cfg run.exchanges).refused at.begins.begins.unrefused stands).0.told

    start_is : (count time : ℕ) → start_of (master_of s) count time ≡ start_ns time (lead_ns count s.head.loss_run s.head.frame_ns) s.head.cycle_ns % 2 ^ 64
    unfolding start_of master_of
    start_is count time = refl

    pub start_told : (told : KnowsTime s first r (words_after s run)) → start_at (master_of s) (words_after s run) ≡ start_from s (known told.frame)
    start_told told =
        let at = is_settled s it.legal (honest_replies s it.legal) run is ok in
        let many : length (clocks_told (words_after s run).slaves) ≡ clocks s.rows =
        ap (λ (ss : List SlaveWords). length (clocks_told ss)) at.begins.slaves ∙ ap (λ (ps : List ℕ). length ps) at.clocks_told ∙ clocks_counted s it.legal in
        let early = start_early s first it r reference told.frame told.within in
        ap₂ (start_of (master_of s)) many (ap (λ (o : Option ℕ). unwrap_or o 0) told.time) ∙ start_is (clocks s.rows) (known told.frame)
        ∙ mod-eq_of_lt (let less : start_from s (known told.frame) < 2 ^ 64 = omega (arith, early) in less)
