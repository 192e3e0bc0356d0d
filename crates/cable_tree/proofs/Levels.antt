-- How deep a tree is: one level more than there are changes nothing, and n rows have at most n.
use Rattle.std.proofs.Common.{◌≡◌, ℕ, suc, zero, ◌+◌, ◌*◌, ◌<◌, ◌≤◌, Option, Some, None, List, ◌∷◌, ◌++◌, length, arith, refl, sym, ap, ◌∙◌, subst}
use Rattle.std.specs.Prelude.{MatchOption}
use Rattle.cable_tree.specs.declared.port.Above.{Above}
use Rattle.cable_tree.specs.declared.port.Port.{Port}
use Rattle.cable_tree.specs.declared.port.Port.TheVariants.{P1, P2, P3}
use Rattle.cable_tree.specs.Row.{Row, above, tp, tf, cable}
use Rattle.cable_tree.specs.Segment.{IsTree, IsRoot, LeadsToRoot}
use Rattle.cable_tree.specs.FrameOrder.{child, behind, subtree_within, subtree}
use Rattle.cable_tree.specs.PathSums.{detour_to, detour, earlier, span_within, span, arrive_step, arrive_within, arrive}
use Rattle.cable_tree.proofs.Children.{at_spot, child_hangs}

-- the subtree has at most so many levels
unfoldable pub HasLevels : List Row → ℕ → ℕ → Type 0
HasLevels rows zero r = ⊥
HasLevels rows (suc levels) r = (p : Port) (k : ℕ) → child rows r p ≡ Some k → HasLevels rows levels k

behind_same : (f g : ℕ → List ℕ) (o : Option ℕ) → ((k : ℕ) → o ≡ Some k → f k ≡ g k) → behind f o ≡ behind g o
behind_same f g None same = refl
behind_same f g (Some k) same = same k refl

detour_same : (rows : List Row) (f g : ℕ → ℕ) (r : ℕ) (o : Option ℕ) → ((k : ℕ) → o ≡ Some k → f k ≡ g k) → detour_to rows f r o ≡ detour_to rows g r o
detour_same rows f g r None same = refl
detour_same rows f g r (Some k) same = ap (λ s. 2 * cable rows k + s + tf rows r) (same k refl)

pub none_some : {A : Type 0} (a : A) → None ≡ Some a → ⊥
none_some a e = subst (λ o. MatchOption o (Unit {0}) (λ _. ⊥)) e tt

pub some_same : {A : Type 0} {a b : A} → Some a ≡ Some b → a ≡ b
some_same e = cc

below_same : (rows : List Row) (f g : ℕ → ℕ) (r : ℕ) (P : ℕ → Type 0) → ((q : ℕ) → P q → f q ≡ g q) → (o : Option Above)
    → MatchOption o (Unit {0}) (λ a. P a.row) → arrive_step rows f r o ≡ arrive_step rows g r o
below_same rows f g r P same None h = refl
below_same rows f g r P same (Some a) h = ap (λ t. t + tp rows a.row + earlier rows a.row a.port + cable rows r) (same a.row h)

module _ (rows : List Row) where
  order_same : (f g : ℕ → List ℕ) (r : ℕ) → ((p : Port) (k : ℕ) → child rows r p ≡ Some k → f k ≡ g k) →
      behind f (child rows r P3) ++ behind f (child rows r P1) ++ behind f (child rows r P2)
      ≡ behind g (child rows r P3) ++ behind g (child rows r P1) ++ behind g (child rows r P2)
  order_same f g r same =
      rw (behind_same f g (child rows r P3) (same P3), behind_same f g (child rows r P1) (same P1), behind_same f g (child rows r P2) (same P2)) refl

  order_more : (levels r : ℕ) → HasLevels rows levels r → subtree_within rows (suc levels) r ≡ subtree_within rows levels r
  unfolding subtree_within HasLevels
  order_more zero r h = absurd h
  order_more (suc levels) r h =
      ap (λ t. r ∷ t) (order_same (subtree_within rows (suc levels)) (subtree_within rows levels) r (λ p k e. order_more levels k (h p k e)))

  order_next : (levels r : ℕ) → HasLevels rows levels r → subtree_within rows levels r
      ≡ r ∷ (behind (subtree_within rows levels) (child rows r P3) ++ behind (subtree_within rows levels) (child rows r P1) ++ behind (subtree_within rows levels) (child rows r P2))
  unfolding subtree_within HasLevels
  order_next zero r h = absurd h
  order_next (suc levels) r h =
      ap (λ t. r ∷ t) (sym (order_same (subtree_within rows (suc levels)) (subtree_within rows levels) r (λ p k e. order_more levels k (h p k e))))

  span_same : (f g : ℕ → ℕ) (r : ℕ) → ((p : Port) (k : ℕ) → child rows r p ≡ Some k → f k ≡ g k) →
      tp rows r + (detour_to rows f r (child rows r P3) + detour_to rows f r (child rows r P1) + detour_to rows f r (child rows r P2))
      ≡ tp rows r + (detour_to rows g r (child rows r P3) + detour_to rows g r (child rows r P1) + detour_to rows g r (child rows r P2))
  span_same f g r same =
      let a = detour_same rows f g r (child rows r P3) (same P3) in
      let b = detour_same rows f g r (child rows r P1) (same P1) in
      let c = detour_same rows f g r (child rows r P2) (same P2) in
      omega (arith, a, b, c)

  span_more : (levels r : ℕ) → HasLevels rows levels r → span_within rows (suc levels) r ≡ span_within rows levels r
  unfolding span_within HasLevels
  span_more zero r h = absurd h
  span_more (suc levels) r h = span_same (span_within rows (suc levels)) (span_within rows levels) r (λ p k e. span_more levels k (h p k e))

  span_next : (levels r : ℕ) → HasLevels rows levels r → span_within rows levels r
      ≡ tp rows r + (detour_to rows (span_within rows levels) r (child rows r P3) + detour_to rows (span_within rows levels) r (child rows r P1) + detour_to rows (span_within rows levels) r (child rows r P2))
  unfolding span_within HasLevels
  span_next zero r h = absurd h
  span_next (suc levels) r h = sym (span_same (span_within rows (suc levels)) (span_within rows levels) r (λ p k e. span_more levels k (h p k e)))

  -- how many steps a row is below a root
  unfoldable pub Depth : ℕ → ℕ → Type 0
  Depth zero r = IsRoot rows r
  Depth (suc d) r = (a : Above) × (above rows r ≡ Some a) × Depth d a.row

  depth_same : (d e r : ℕ) → Depth d r → Depth e r → d ≡ e
  unfolding Depth
  depth_same zero zero r a b = refl
  depth_same zero (suc e) r a b = absurd (none_some b.0 (sym a ∙ b.1))
  depth_same (suc d) zero r a b = absurd (none_some a.0 (sym b ∙ a.1))
  depth_same (suc d) (suc e) r a b =
      let same : a.0 ≡ b.0 = some_same (sym a.1 ∙ b.1) in
      ap suc (depth_same d e b.0.row (subst (λ (x : Above). Depth d x.row) same a.2) b.2)

  leads_depth_at : (s r : ℕ) (o : Option Above) → above rows r ≡ o → ((q : ℕ) → LeadsToRoot rows s q → (d : ℕ) × (d < s) × Depth d q)
      → MatchOption o (Unit {0}) (λ a. LeadsToRoot rows s a.row) → (d : ℕ) × (d < suc s) × Depth d r
  unfolding Depth
  leads_depth_at s r None e before h = (0, omega arith, e)
  leads_depth_at s r (Some a) e before h = let up = before a.row h in (suc up.0, omega arith, (a, e, up.2))

  leads_depth : (s r : ℕ) → LeadsToRoot rows s r → (d : ℕ) × (d < s) × Depth d r
  unfolding LeadsToRoot
  leads_depth zero r h = absurd h
  leads_depth (suc s) r h = leads_depth_at s r (above rows r) refl (leads_depth s) h

  levels_below : IsTree rows → (m d r : ℕ) → r < length rows → Depth d r → length rows ≤ d + m → HasLevels rows m r
  unfolding HasLevels Depth
  levels_below tree zero d r within depth deep =
      let up = leads_depth (length rows) r (tree.leads r within) in
      let same = depth_same d up.0 r depth up.2 in
      let less = up.1 in
      absurd (omega arith)
  levels_below tree (suc m) d r within depth deep = λ p k e.
      let is = child_hangs rows r p k e in
      levels_below tree m (suc d) k is.0 (at_spot r p, is.1, depth) (omega arith)

  -- n rows have at most n levels
  pub has_levels : IsTree rows → (r : ℕ) → r < length rows → HasLevels rows (length rows) r
  has_levels tree r within =
      let up = leads_depth (length rows) r (tree.leads r within) in
      levels_below tree (length rows) up.0 r within up.2 (omega arith)

  induct : (P : ℕ → Type 0) → ((r : ℕ) → r < length rows → ((p : Port) (k : ℕ) → child rows r p ≡ Some k → P k) → P r)
      → (levels r : ℕ) → r < length rows → HasLevels rows levels r → P r
  unfolding HasLevels
  induct P step zero r within h = absurd h
  induct P step (suc levels) r within h =
      step r within (λ p k e. induct P step levels k (child_hangs rows r p k e).0 (h p k e))

  -- what holds of a row wherever it holds of its children holds of every row
  pub tree_induction : IsTree rows → (P : ℕ → Type 0) → ((r : ℕ) → r < length rows → ((p : Port) (k : ℕ) → child rows r p ≡ Some k → P k) → P r)
      → (r : ℕ) → r < length rows → P r
  tree_induction tree P step r within = induct P step (length rows) r within (has_levels tree r within)

  -- the subtree of a row, by those of its children
  pub subtree_is : IsTree rows → (r : ℕ) → r < length rows → subtree rows r
      ≡ r ∷ (behind (subtree rows) (child rows r P3) ++ behind (subtree rows) (child rows r P1) ++ behind (subtree rows) (child rows r P2))
  subtree_is tree r within = order_next (length rows) r (has_levels tree r within)

  pub span_is : IsTree rows → (r : ℕ) → r < length rows → span rows r ≡ tp rows r + (detour rows r P3 + detour rows r P1 + detour rows r P2)
  span_is tree r within = span_next (length rows) r (has_levels tree r within)

  arrive_more : (s r : ℕ) → LeadsToRoot rows s r → arrive_within rows (suc s) r ≡ arrive_within rows s r
  unfolding arrive_within LeadsToRoot
  arrive_more zero r h = absurd h
  arrive_more (suc s) r h = below_same rows (arrive_within rows (suc s)) (arrive_within rows s) r (LeadsToRoot rows s) (arrive_more s) (above rows r) h

  arrive_next : (s r : ℕ) → LeadsToRoot rows s r → arrive_within rows s r ≡ arrive_step rows (arrive_within rows s) r (above rows r)
  unfolding arrive_within LeadsToRoot
  arrive_next zero r h = absurd h
  arrive_next (suc s) r h = sym (below_same rows (arrive_within rows (suc s)) (arrive_within rows s) r (LeadsToRoot rows s) (arrive_more s) (above rows r) h)

  pub arrive_is : IsTree rows → (r : ℕ) → r < length rows → arrive rows r ≡ arrive_step rows (arrive rows) r (above rows r)
  arrive_is tree r within = arrive_next (length rows) r (tree.leads r within)

  pub arrive_at_root : IsTree rows → (r : ℕ) → r < length rows → IsRoot rows r → arrive rows r ≡ cable rows r
  arrive_at_root tree r within is = arrive_is tree r within ∙ ap (arrive_step rows (arrive rows) r) is

  pub arrive_at_child : IsTree rows → (r : ℕ) (p : Port) (k : ℕ) → child rows r p ≡ Some k →
      arrive rows k ≡ arrive rows r + tp rows r + earlier rows r p + cable rows k
  arrive_at_child tree r p k e =
      let is = child_hangs rows r p k e in
      arrive_is tree k is.0 ∙ ap (arrive_step rows (arrive rows) k) is.1
