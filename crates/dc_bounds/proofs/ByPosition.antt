-- The rows in frame order have the measuring parents, weights and reference of the rows of the file.
use Rattle.std.specs.Prelude.{◌≡◌, ℕ, suc, zero, ◌+◌, ◌<◌, Bool, true, false, not, ◌&&◌, ◌||◌, nat_eq, nat_le, if◌then◌else◌, Option, Some, None, List, [], ◌∷◌, length, drop, filter, map, slice_index}
use Rattle.std.specs.List.{All, find}
use Rattle.std.specs.Option.{is_some, option_map}
use Rattle.std.proofs.Common.{arith, rules, refl, sym, ap, ap₂, ◌∙◌, subst}
use Rattle.std.proofs.lemmas.Bool.{false≢true, eqb-true}
use Rattle.std.proofs.lemmas.Bool.Decides.{nat_tests}
use Rattle.cable_tree.specs.declared.port.Above.{Above}
use Rattle.cable_tree.specs.declared.port.Port.{Port}
use Rattle.cable_tree.specs.declared.port.Port.TheVariants.{P1, P2, P3}
use Rattle.cable_tree.specs.Row.{Row, IsRow, above}
use Rattle.cable_tree.specs.Segment.{IsTree}
use Rattle.cable_tree.specs.FrameOrder.{child, order}
use Rattle.cable_tree.proofs.Exported.{some_same, order_within, above_here, children}
use Rattle.cable_tree.proofs.Exported.{order_moved, same_row, whole}
use Rattle.dc_bounds.specs.Weight.{measuring_step, measuring_within, measuring_parent, is_connected, has_earlier, has_later, hop_weight, hops_step, hops_within, is_leaf, weight_below, is_over_step, is_over, is_over_within, meeting_step, meeting_within, meeting, reference, weight_to, weight}
use Rattle.dc_bounds.specs.Measurable.{branches, is_measured_step, is_measured_within, is_measurable, unmeasurable}
use Rattle.cable_tree.specs.Positions.{IsByPosition, position_of, by_position, renumbered}

kept_some : (f : ℕ → ℕ) (o : Option ℕ) → is_some (option_map f o) ≡ is_some o
kept_some f None = refl
kept_some f (Some k) = refl

module _ (rows : List Row) (tree : IsTree rows) (slaves : All IsRow rows) where
  abbrev there : List Row
  there = renumbered rows

  abbrev pos : ℕ → ℕ
  pos = position_of rows

  count : length there ≡ length rows
  count = whole rows tree slaves

  connected : (r : ℕ) → r < length rows → (p : Port) → is_connected there (pos r) p ≡ is_connected rows r p
  connected r within p = ap is_some (children rows tree slaves r within p) ∙ kept_some pos (child rows r p)

  abbrev moved : Above → Above
  moved a = record { row = pos a.row; port = a.port }

  earlier_at : (r : ℕ) → r < length rows → (p : Port) → has_earlier there (record { row = pos r; port = p }) ≡ has_earlier rows (record { row = r; port = p })
  earlier_at r within P3 = refl
  earlier_at r within P1 = connected r within P3
  earlier_at r within P2 = ap₂ (λ x y. x || y) (connected r within P3) (connected r within P1)

  later_at : (r : ℕ) → r < length rows → (p : Port) → has_later there (record { row = pos r; port = p }) ≡ has_later rows (record { row = r; port = p })
  later_at r within P3 = ap₂ (λ x y. x || y) (connected r within P1) (connected r within P2)
  later_at r within P1 = connected r within P2
  later_at r within P2 = refl

  hop_here : (a : Above) → a.row < length rows → hop_weight there (moved a) ≡ hop_weight rows a
  hop_here a within = ap₂ (λ x y. (if x then 1 else 0) + (if y then 1 else 0)) (earlier_at a.row within a.port) (later_at a.row within a.port)

  leaf_here : (r : ℕ) → r < length rows → is_leaf there (pos r) ≡ is_leaf rows r
  leaf_here r within = ap₂ (λ x y. not (x || y)) (ap₂ (λ x y. x || y) (connected r within P3) (connected r within P1)) (connected r within P2)

  branches_here : (r : ℕ) → r < length rows → branches there (pos r) ≡ branches rows r
  branches_here r within =
      ap (nat_le 2)
      (ap₂ (λ x y. x + y) (ap₂ (λ x y. (if x then 1 else 0) + (if y then 1 else 0)) (connected r within P3) (connected r within P1)) (ap (λ y. if y then 1 else 0) (connected r within P2)))

  same_test : (q r : ℕ) → q < length rows → r < length rows → nat_eq (pos q) (pos r) ≡ nat_eq q r
  same_test q r lq lr = by (nat_eq q r) refl (nat_eq (pos q) (pos r)) refl
    where
      by : (b : Bool) → nat_eq q r ≡ b → (d : Bool) → nat_eq (pos q) (pos r) ≡ d → nat_eq (pos q) (pos r) ≡ nat_eq q r
      by true e true d = d ∙ sym e
      by false e false d = d ∙ sym e
      by true e false d =
          let is : q ≡ r = eqb-true q r e in
          let one : pos q ≡ pos r = ap pos is in
          let yes : nat_eq (pos q) (pos r) ≡ true = search (rules, nat_tests) in
          absurd (false≢true (sym d ∙ yes))
      by false e true d =
          let is : q ≡ r = same_row rows tree slaves q r lq lr (eqb-true (pos q) (pos r) d) in
          let yes : nat_eq q r ≡ true = search (rules, nat_tests) in
          absurd (false≢true (sym e ∙ yes))

  module _ (measures at_place : ℕ → Bool) (alike : IsByPosition rows measures at_place) where
    -- the measuring parent
    measuring_at : (g h : ℕ → Option Above) (o : Option Above) → ((a : Above) → o ≡ Some a → (a.row < length rows) × (g (pos a.row) ≡ by_position rows (h a.row)))
        → measuring_step at_place g (by_position rows o) ≡ by_position rows (measuring_step measures h o)
    measuring_at g h None known = refl
    measuring_at g h (Some a) known = by (measures a.row) refl
      where
        by : (m : Bool) → measures a.row ≡ m → measuring_step at_place g (by_position rows (Some a)) ≡ by_position rows (measuring_step measures h (Some a))
        by true e =
            ap (λ m. if m then Some (moved a) else g (pos a.row)) (alike a.row (known a refl).0 ∙ e)
            ∙ sym (ap (λ m. by_position rows (if m then Some a else h a.row)) e)
        by false e =
            ap (λ m. if m then Some (moved a) else g (pos a.row)) (alike a.row (known a refl).0 ∙ e)
            ∙ (known a refl).1
            ∙ sym (ap (λ m. by_position rows (if m then Some a else h a.row)) e)

    measuring_levels : (s r : ℕ) → r < length rows → measuring_within there at_place s (pos r) ≡ by_position rows (measuring_within rows measures s r)
    unfolding measuring_within
    measuring_levels zero r within = refl
    measuring_levels (suc s) r within =
        ap (measuring_step at_place (measuring_within there at_place s)) (above_here rows tree slaves r within)
        ∙ measuring_at (measuring_within there at_place s) (measuring_within rows measures s) (above rows r)
        (λ a e. let low = tree.parents r a within e in (low, measuring_levels s a.row low))

    pub measuring_here : (r : ℕ) → r < length rows → measuring_parent there at_place (pos r) ≡ by_position rows (measuring_parent rows measures r)
    measuring_here r within = ap (λ n. measuring_within there at_place n (pos r)) count ∙ measuring_levels (length rows) r within

    parent_at : (a : Above) (g : ℕ → Option Above) (o : Option Above) → ((b : Above) → o ≡ Some b → (b.row < length rows) × (g b.row ≡ Some a → a.row < length rows))
        → measuring_step measures g o ≡ Some a → a.row < length rows
    parent_at a g None known found = absurd cc
    parent_at a g (Some b) known found = by (measures b.row) refl
      where
        by : (m : Bool) → measures b.row ≡ m → a.row < length rows
        by true e = let is : Some b ≡ Some a = sym (rw e refl) ∙ found in subst (λ (x : Above). x.row < length rows) (some_same is) (known b refl).0
        by false e = let on : g b.row ≡ Some a = sym (rw e refl) ∙ found in (known b refl).1 on

    parent_levels : (s r : ℕ) (a : Above) → r < length rows → measuring_within rows measures s r ≡ Some a → a.row < length rows
    unfolding measuring_within
    parent_levels zero r a within found = absurd cc
    parent_levels (suc s) r a within found =
        parent_at a (measuring_within rows measures s) (above rows r)
        (λ b e. let low = tree.parents r b within e in (low, λ h. parent_levels s b.row a low h)) found

    parent_low : (r : ℕ) (a : Above) → r < length rows → measuring_parent rows measures r ≡ Some a → a.row < length rows
    parent_low r a within up = parent_levels (length rows) r a within up

    -- what can be measured
    leads_at : (g h : ℕ → Bool) (o : Option Above) → ((a : Above) → o ≡ Some a → (a.row < length rows) × (g (pos a.row) ≡ h a.row))
        → is_measured_step at_place (branches there) g (by_position rows o) ≡ is_measured_step measures (branches rows) h o
    leads_at g h None known = refl
    leads_at g h (Some a) known =
        let low = (known a refl).0 in
        ap₂ (λ x y. x || y) (alike a.row low) (ap₂ (λ x y. not x && y) (branches_here a.row low) (known a refl).1)

    measured_levels : (s r : ℕ) → r < length rows → is_measured_within there at_place s (pos r) ≡ is_measured_within rows measures s r
    unfolding is_measured_within
    measured_levels zero r within = refl
    measured_levels (suc s) r within =
        ap (is_measured_step at_place (branches there) (is_measured_within there at_place s)) (above_here rows tree slaves r within)
        ∙ leads_at (is_measured_within there at_place s) (is_measured_within rows measures s) (above rows r)
        (λ a e. let low = tree.parents r a within e in (low, measured_levels s a.row low))

    pub measured_here : (r : ℕ) → r < length rows → is_measurable there at_place (pos r) ≡ is_measurable rows measures r
    measured_here r within = ap (λ n. is_measured_within there at_place n (pos r)) count ∙ measured_levels (length rows) r within

    -- the hops
    hops_at : (f g : ℕ → ℕ) (o : Option Above) → ((a : Above) → o ≡ Some a → (a.row < length rows) × (f (pos a.row) ≡ g a.row))
        → hops_step there f (by_position rows o) ≡ hops_step rows g o
    hops_at f g None known = refl
    hops_at f g (Some a) known = ap₂ (λ x y. x + y) (hop_here a (known a refl).0) (known a refl).1

    hops_levels : (c : ℕ) → c < length rows → (s r : ℕ) → r < length rows → hops_within there at_place (pos c) s (pos r) ≡ hops_within rows measures c s r
    unfolding hops_within
    hops_levels c low zero r within = refl
    hops_levels c low (suc s) r within =
        ap₂ (λ b x. if b then 0 else x) (same_test r c within low)
        (ap (hops_step there (hops_within there at_place (pos c) s)) (measuring_here r within)
        ∙ hops_at (hops_within there at_place (pos c) s) (hops_within rows measures c s) (measuring_parent rows measures r)
        (λ a e. let up = parent_low r a within e in (up, hops_levels c low s a.row up)))

    below_here : (c : ℕ) → c < length rows → (r : ℕ) → r < length rows → weight_below there at_place (pos c) (pos r) ≡ weight_below rows measures c r
    below_here c low r within =
        ap₂ (λ b x. if b then 0 else x) (same_test r c within low)
        (ap₂ (λ h l. 1 + h + (if l then 0 else 1))
        (ap (λ n. hops_within there at_place (pos c) n (pos r)) count ∙ hops_levels c low (length rows) r within) (leaf_here r within))

    -- who is over whom
    reaches_at : (f g : ℕ → Bool) (o : Option Above) → ((a : Above) → o ≡ Some a → f (pos a.row) ≡ g a.row) → is_over_step f (by_position rows o) ≡ is_over_step g o
    reaches_at f g None known = refl
    reaches_at f g (Some a) known = known a refl

    over_levels : (c : ℕ) → c < length rows → (s r : ℕ) → r < length rows → is_over_within there at_place (pos c) s (pos r) ≡ is_over_within rows measures c s r
    unfolding is_over_within
    over_levels c low zero r within = refl
    over_levels c low (suc s) r within =
        ap₂ (λ x y. x || y) (same_test r c within low)
        (ap (is_over_step (is_over_within there at_place (pos c) s)) (measuring_here r within)
        ∙ reaches_at (is_over_within there at_place (pos c) s) (is_over_within rows measures c s) (measuring_parent rows measures r)
        (λ a e. over_levels c low s a.row (parent_low r a within e)))

    over_here : (c : ℕ) → c < length rows → (r : ℕ) → r < length rows → is_over there at_place (pos c) (pos r) ≡ is_over rows measures c r
    over_here c low r within = ap (λ n. is_over_within there at_place (pos c) n (pos r)) count ∙ over_levels c low (length rows) r within

    -- where the ways part
    higher_at : (r : ℕ) (f g : ℕ → ℕ) (o : Option Above) → ((a : Above) → o ≡ Some a → f (pos a.row) ≡ pos (g a.row)) → meeting_step (pos r) f (by_position rows o) ≡ pos (meeting_step r g o)
    higher_at r f g None known = refl
    higher_at r f g (Some a) known = known a refl

    if_pos : (b : Bool) (x y : ℕ) (z : ℕ) → z ≡ pos y → (if b then pos x else z) ≡ pos (if b then x else y)
    if_pos true x y z e = refl
    if_pos false x y z e = e

    meeting_levels : (q : ℕ) → q < length rows → (s r : ℕ) → r < length rows → meeting_within there at_place (pos q) s (pos r) ≡ pos (meeting_within rows measures q s r)
    unfolding meeting_within
    meeting_levels q low zero r within = refl
    meeting_levels q low (suc s) r within =
        ap (λ b. if b then pos r else meeting_step (pos r) (meeting_within there at_place (pos q) s) (measuring_parent there at_place (pos r))) (over_here r within q low)
        ∙ if_pos (is_over rows measures r q) r (meeting_step r (meeting_within rows measures q s) (measuring_parent rows measures r))
        (meeting_step (pos r) (meeting_within there at_place (pos q) s) (measuring_parent there at_place (pos r)))
        (ap (meeting_step (pos r) (meeting_within there at_place (pos q) s)) (measuring_here r within)
        ∙ higher_at r (meeting_within there at_place (pos q) s) (meeting_within rows measures q s) (measuring_parent rows measures r)
        (λ a e. meeting_levels q low s a.row (parent_low r a within e)))

    if_low : (b : Bool) (x y : ℕ) → x < length rows → y < length rows → (if b then x else y) < length rows
    if_low true x y lx ly = lx
    if_low false x y lx ly = ly

    or_low : (r : ℕ) → r < length rows → (g : ℕ → ℕ) (o : Option Above) → ((a : Above) → o ≡ Some a → g a.row < length rows) → meeting_step r g o < length rows
    or_low r within g None known = within
    or_low r within g (Some a) known = known a refl

    meeting_low : (q s r : ℕ) → r < length rows → meeting_within rows measures q s r < length rows
    unfolding meeting_within
    meeting_low q zero r within = within
    meeting_low q (suc s) r within =
        if_low (is_over rows measures r q) r (meeting_step r (meeting_within rows measures q s) (measuring_parent rows measures r)) within
        (or_low r within (meeting_within rows measures q s) (measuring_parent rows measures r) (λ a e. meeting_low q s a.row (parent_low r a within e)))

    meeting_here : (q : ℕ) → q < length rows → (r : ℕ) → r < length rows → meeting there at_place (pos q) (pos r) ≡ pos (meeting rows measures q r)
    meeting_here q low r within = ap (λ n. meeting_within there at_place (pos q) n (pos r)) count ∙ meeting_levels q low (length rows) r within

  -- the first row of the frame order that passes a test
  abbrev AreRows : List ℕ → Type 0
  AreRows xs = (i : ℕ) → i < length xs → slice_index xs i < length rows

  rest_rows : (x : ℕ) (xs : List ℕ) → AreRows (x ∷ xs) → AreRows xs
  rest_rows x xs h i less = h (suc i) (omega arith)

  module _ (test test' : ℕ → Bool) (alike : IsByPosition rows test test') where
    find_step : (x y : ℕ) (b : Bool) (o o' : Option ℕ) → y ≡ pos x → o' ≡ option_map pos o → (if b then Some y else o') ≡ option_map pos (if b then Some x else o)
    find_step x y true o o' e f = ap Some e
    find_step x y false o o' e f = f

    find_map : (xs : List ℕ) → AreRows xs → find test' (map pos xs) ≡ option_map pos (find test xs)
    find_map [] h = refl
    find_map (x ∷ xs) h =
        ap (λ b. if b then Some (pos x) else find test' (map pos xs)) (alike x (h 0 (omega arith)))
        ∙ find_step x (pos x) (test x) (find test xs) (find test' (map pos xs)) refl (find_map xs (rest_rows x xs h))

  pub reference_here : (timed clocks : ℕ → Bool) → IsByPosition rows timed clocks → reference there clocks ≡ option_map pos (reference rows timed)
  reference_here timed clocks alike = ap (find clocks) (order_moved rows tree slaves) ∙ find_map timed clocks alike (order rows) (order_within rows tree slaves)

  -- the first slave that cannot be measured
  module _ (measures at_place : ℕ → Bool) (alike : IsByPosition rows measures at_place)
      (bad bad' : ℕ → Bool) (worse : IsByPosition rows bad bad') where
    all_map : (xs : List ℕ) → AreRows xs → find bad' (filter at_place (map pos xs)) ≡ option_map pos (find bad (filter measures xs))
    all_map [] h = refl
    all_map (x ∷ xs) h = by (measures x) refl (bad x) refl (all_map xs (rest_rows x xs h))
      where
        by : (m : Bool) → measures x ≡ m → (b : Bool) → bad x ≡ b → find bad' (filter at_place (map pos xs)) ≡ option_map pos (find bad (filter measures xs))
            → find bad' (filter at_place (map pos (x ∷ xs))) ≡ option_map pos (find bad (filter measures (x ∷ xs)))
        by true e true f rest =
            let e' = alike x (h 0 (omega arith)) ∙ e in
            let f' = worse x (h 0 (omega arith)) ∙ f in
            rw (e, e', f, f') refl
        by true e false f rest =
            let e' = alike x (h 0 (omega arith)) ∙ e in
            let f' = worse x (h 0 (omega arith)) ∙ f in
            rw (e, e', f, f') rest
        by false e b f rest =
            let e' = alike x (h 0 (omega arith)) ∙ e in
            rw (e, e') rest

    but_first : (xs : List ℕ) → AreRows xs → find bad' (drop 1 (filter at_place (map pos xs))) ≡ option_map pos (find bad (drop 1 (filter measures xs)))
    but_first [] h = refl
    but_first (x ∷ xs) h = by (measures x) refl (but_first xs (rest_rows x xs h))
      where
        by : (m : Bool) → measures x ≡ m → find bad' (drop 1 (filter at_place (map pos xs))) ≡ option_map pos (find bad (drop 1 (filter measures xs)))
            → find bad' (drop 1 (filter at_place (map pos (x ∷ xs)))) ≡ option_map pos (find bad (drop 1 (filter measures (x ∷ xs))))
        by true e rest = let e' = alike x (h 0 (omega arith)) ∙ e in rw (e, e') (all_map xs (rest_rows x xs h))
        by false e rest = let e' = alike x (h 0 (omega arith)) ∙ e in rw (e, e') rest

  pub unmeasurable_here : (measures at_place : ℕ → Bool) → IsByPosition rows measures at_place
      → unmeasurable there at_place (order there) ≡ option_map pos (unmeasurable rows measures (order rows))
  unmeasurable_here measures at_place alike =
      ap (unmeasurable there at_place) (order_moved rows tree slaves)
      ∙ but_first measures at_place alike (λ r. not (is_measurable rows measures r)) (λ r. not (is_measurable there at_place r))
      (λ r within. ap not (measured_here measures at_place alike r within)) (order rows) (order_within rows tree slaves)

  -- the weights
  pub find_low : (test : ℕ → Bool) (xs : List ℕ) → AreRows xs → (q : ℕ) → find test xs ≡ Some q → q < length rows
  find_low test [] h q found = absurd cc
  find_low test (x ∷ xs) h q found = by (test x) refl (find_low test xs (rest_rows x xs h) q)
    where
      by : (b : Bool) → test x ≡ b → (find test xs ≡ Some q → q < length rows) → q < length rows
      by true e later = let is : Some x ≡ Some q = sym (rw e refl) ∙ found in subst (λ y. y < length rows) (some_same is) (h 0 (omega arith))
      by false e later = later (sym (rw e refl) ∙ found)

  pub weight_here : (measures m timed t : ℕ → Bool) → IsByPosition rows measures m → IsByPosition rows timed t
      → (r : ℕ) → r < length rows → weight there m t (pos r) ≡ weight rows measures timed r
  weight_here measures m timed t alike clocks r within = ap (weight_to there m (pos r)) (reference_here timed t clocks) ∙ by (reference rows timed) refl
    where
      by : (o : Option ℕ) → reference rows timed ≡ o → weight_to there m (pos r) (option_map pos o) ≡ weight_to rows measures r o
      by None e = refl
      by (Some q) e =
          let low = find_low timed (order rows) (order_within rows tree slaves) q e in
          let c = meeting rows measures q r in
          let c_low = meeting_low measures m alike q (length rows) r within in
          ap (λ c. weight_below there m c (pos r) + weight_below there m c (pos q)) (meeting_here measures m alike q low r within)
          ∙ ap₂ (λ x y. x + y) (below_here measures m alike c c_low r within) (below_here measures m alike c c_low q low)
