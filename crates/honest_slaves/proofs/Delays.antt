-- What is kept behind a commissioning that ended with Ok.
use Rattle.std.proofs.Common.{◌≡◌, ℕ, ◌<◌, ◌≤◌, Bool, true, false, List, [], length, map, Option, Some, None, Ok, refl, sym, ap, subst, ◌∙◌, arith, inl, inr, zero, suc, ap₂, ◌∷◌, ◌+◌}
use Rattle.std.specs.Prelude.{slice_index_or, if◌then◌else◌}
use Rattle.std.specs.List.{range_with_len}
use Rattle.std.specs.Option.{is_some}
use Rattle.std.proofs.lemmas.List.{get_or_past, get_or-map, length-map}
use Rattle.std.proofs.lemmas.List.FromFn.{get_or-map-range_with_len, length-map-range_with_len, fill_by_all}
use Rattle.cable_tree.specs.FrameOrder.{order}
use Rattle.cable_tree.specs.Positions.{position_of}
use Rattle.dc_bounds.specs.Weight.{flag}
use Rattle.dc_delay.specs.ShapeRows.{positions}
use Rattle.ecat_link.specs.Serves.{End, Sends}
use Rattle.ecat_link.proofs.Exported.{driven}
use Rattle.esc_regs.specs.declared.clock_kind.ClockKind.{ClockKind}
use Rattle.frame_pass.specs.SlaveState.{Slave}
use Rattle.frame_pass.specs.SegmentState.{segment_step}
use Rattle.master_script.specs.Begins.{Begins}
use Rattle.master_script.specs.Kept.{kept_after, has_delays}
use Rattle.master_script.specs.Progress.{Commissioning, Settling, Progress, progress}
use Rattle.master_script.specs.Script.{Commission, Answer, script}
use Rattle.master_script.specs.Slaves.{SlaveWords, is_clock, judgement}
use Rattle.master_script.specs.Words.{delays_of, hung_of}
use Rattle.master_script.proofs.Exported.{commission_done, hung_length}
use Rattle.segment_file.specs.Legal.{IsLegal}
use Rattle.segment_file.specs.Segment.{SegmentValue, tree_rows, clock_at, row_at}
use Rattle.segment_file.proofs.Exported.{legal_reference, order_many}
use Rattle.esc_regs.specs.Kinds.{has_clock}
use Rattle.segment_start.specs.Start.{started_segment}
use Rattle.honest_slaves.specs.Told.{words_of}
use Rattle.honest_slaves.proofs.ByKind.{clock_word}
use Rattle.honest_slaves.proofs.Numbers.{flagged, words_many}
use Rattle.run_of_file.specs.MasterOfFile.{master_of}
use Rattle.run_of_file.specs.RunOfFile.{RunEnd, turns, commissioned, master_after}
use Rattle.honest_slaves.specs.FileSlaves.{kind_at, status_at}
use Rattle.honest_slaves.proofs.Progressing.{IsLate, IsHonest}
use Rattle.honest_slaves.proofs.Judged.{judged_ok}
use Rattle.honest_slaves.proofs.Positions.{row_has}
use Rattle.honest_slaves.proofs.Runs.{commissioned_honest}

nothing_past : (f : ℕ → Option ℕ) (n p : ℕ) → n ≤ p → slice_index_or (map f (positions n)) p None ≡ None
nothing_past f n p high = get_or_past (map f (positions n)) p None (let long = length-map-range_with_len f 0 n in omega (arith, long, high))

-- of a list of what is there by a flag, what is there
marks : (timed : ℕ → Bool) (number : ℕ → ℕ) (ps : List ℕ) → map is_some (map (λ r. if timed r then Some (number r) else None) ps) ≡ map timed ps
marks timed number [] = refl
marks timed number (p ∷ ps) = ap₂ (λ (b : Bool) (bs : List Bool). b ∷ bs) (by (timed p)) (marks timed number ps)
  where
    by : (b : Bool) → is_some (if b then Some (number p) else None) ≡ b
    by true = refl
    by false = refl

map_same : (f g : ℕ → Bool) (a m : ℕ) → ((p : ℕ) → p < a + m → f p ≡ g p) → map f (range_with_len a m) ≡ map g (range_with_len a m)
map_same f g a zero each = refl
map_same f g a (suc m) each = ap₂ (λ (b : Bool) (bs : List Bool). b ∷ bs) (each a (omega arith)) (map_same f g (a + 1) m (λ p low. each p (omega (arith, low))))

-- the settle phase begins there
settling_begins : (s : SegmentValue) (run : RunEnd) → commissioned s ≡ Some run → run.answer ≡ Ok tt → Begins (master_of s) Settling (progress (master_of s) run.exchanges)
unfolding commissioned
settling_begins s run is ok =
    let cfg = master_of s in
    let d = driven segment_step (script cfg Commission) turns [] (started_segment s) run is in
    let sends : Sends (script cfg Commission) [] run.exchanges = subst (Sends (script cfg Commission) []) (sym d.all) d.script in
    (commission_done cfg run.exchanges sends (d.end ∙ ap (λ (a : Answer). End a) ok)).0

module _ (s : SegmentValue) (legal : IsLegal s) (run : RunEnd) (is : commissioned s ≡ Some run) (ok : run.answer ≡ Ok tt) where
  -- behind the judgement, with nothing left to ask
  pub record EndsLate : Type 0 where
    pub late : IsLate (kind_at s) (status_at s) (length s.rows) (position_of (tree_rows s.rows) (legal_reference s legal).0) (progress (master_of s) run.exchanges) run.state.slaves
    pub todo : (progress (master_of s) run.exchanges).todo ≡ []

  pub commissioned_late : EndsLate
  commissioned_late = by (commissioned_honest s legal run is).honest
    where
      b : Begins (master_of s) Settling (progress (master_of s) run.exchanges)
      b = settling_begins s run is ok

      by : IsHonest (kind_at s) (status_at s) (length s.rows) (position_of (tree_rows s.rows) (legal_reference s legal).0) (progress (master_of s) run.exchanges) run.state.slaves → EndsLate
      by (inl h) = absurd (let z : Settling ≡ Commissioning = sym b.phase_is ∙ h.phase in cc)
      by (inr (inl h)) = record { late = h; todo = b.todo }
      by (inr (inr h)) = absurd (h.refused b.unrefused)

  -- so its delays are those of the words
  are_there : (p : Progress) → is_some p.words.reference ≡ true → p.todo ≡ [] → has_delays p ≡ true
  are_there p e t = rw (e, t) refl

  kept_delays : (master_after s None run.exchanges).delays ≡ delays_of (master_of s) (progress (master_of s) run.exchanges).words
  unfolding kept_after
  kept_delays =
      let p = progress (master_of s) run.exchanges in
      let h = commissioned_late in
      ap (λ b. if b then delays_of (master_of s) p.words else []) (are_there p (ap is_some h.late.knows.reference) h.todo)

  hung_many : length (hung_of (progress (master_of s) run.exchanges).words) ≡ length s.rows
  hung_many =
      let slaves = commissioned_late.late.knows.slaves in
      hung_length (progress (master_of s) run.exchanges).words.slaves (position_of (tree_rows s.rows) (legal_reference s legal).0) (ap judgement slaves ∙ judged_ok s legal)
      ∙ ap length slaves ∙ words_many (kind_at s) (status_at s) (length s.rows)

  some_if : (b : Bool) (x : ℕ) → is_some (if b then Some x else None) ≡ b
  some_if true x = refl
  some_if false x = refl

  told_clock : (p : ℕ) → p < length s.rows → flag (map is_clock (progress (master_of s) run.exchanges).words.slaves) p ≡ has_clock (kind_at s p)
  told_clock p low =
      ap (λ (ss : List SlaveWords). flag (map is_clock ss) p) commissioned_late.late.knows.slaves ∙ flagged is_clock has_clock (kind_at s) (status_at s) (length s.rows) p clock_word low

  pub delays_there : (p : ℕ) → p < length s.rows → is_some (slice_index_or (master_after s None run.exchanges).delays p None) ≡ clock_at s.rows (row_at s p)
  unfolding delays_of
  delays_there p low =
      let many = hung_many in
      ap (λ ds. is_some (slice_index_or ds p None)) kept_delays
      ∙ ap is_some (get_or-map-range_with_len _ 0 (length (hung_of (progress (master_of s) run.exchanges).words)) p p None (omega (arith, low, many)) (omega arith))
      ∙ some_if _ _ ∙ told_clock p low ∙ row_has has_clock s legal p low

  -- in one equation: a delay exactly where a clock stands
  pub delays_whole : map is_some (master_after s None run.exchanges).delays ≡ map (clock_at s.rows) (order (tree_rows s.rows))
  unfolding delays_of
  delays_whole =
      let n = length s.rows in
      let rows = order (tree_rows s.rows) in
      let many = order_many s legal in
      ap (map is_some) kept_delays
      ∙ marks _ _ (positions (length (hung_of (progress (master_of s) run.exchanges).words)))
      ∙ ap (λ k. map (flag (map is_clock (progress (master_of s) run.exchanges).words.slaves)) (positions k)) hung_many
      ∙ map_same _ (λ q. clock_at s.rows (row_at s q)) 0 n (λ q less. let low : q < n = omega (arith, less) in told_clock q low ∙ row_has has_clock s legal q low)
      ∙ sym (fill_by_all (λ q. clock_at s.rows (row_at s q)) (map (clock_at s.rows) rows) n false (length-map rows (clock_at s.rows) ∙ many)
      (λ k low. get_or-map (clock_at s.rows) rows k 0 false (omega (arith, low, many))))

  pub delays_past : (p : ℕ) → length s.rows ≤ p → slice_index_or (master_after s None run.exchanges).delays p None ≡ None
  unfolding delays_of
  delays_past p high =
      let many = hung_many in
      ap (λ ds. slice_index_or ds p None) kept_delays ∙ nothing_past _ (length (hung_of (progress (master_of s) run.exchanges).words)) p (omega (arith, many, high))

-- what is told of the slaves once they are judged, also where commissioning was refused after that
told_by : (kinds : ℕ → ClockKind) (statuses : ℕ → ℕ) (n r : ℕ) (p : Progress) (ss : List Slave) → IsHonest kinds statuses n r p ss → (x : ℕ) → p.words.reference ≡ Some x → p.words.slaves ≡ words_of kinds statuses n
told_by kinds statuses n r p ss (inl h) x e = absurd (let z : None ≡ Some x = sym h.unjudged ∙ e in cc)
told_by kinds statuses n r p ss (inr (inl h)) x e = h.knows.slaves
told_by kinds statuses n r p ss (inr (inr h)) x e = h.told x e

pub judged_told : (s : SegmentValue) (run : RunEnd) (x : ℕ) → IsLegal s → commissioned s ≡ Some run → (progress (master_of s) run.exchanges).words.reference ≡ Some x
    → (progress (master_of s) run.exchanges).words.slaves ≡ words_of (kind_at s) (status_at s) (length s.rows)
judged_told s run x legal is e =
    told_by (kind_at s) (status_at s) (length s.rows) (position_of (tree_rows s.rows) (legal_reference s legal).0) (progress (master_of s) run.exchanges) run.state.slaves
    (commissioned_honest s legal run is).honest x e
