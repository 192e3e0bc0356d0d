-- The walk: what is still to be visited stands on the stack, the next row on top.
use Rattle.std.proofs.Common.{◌≡◌, ℕ, ◌<◌, List, [], ◌∷◌, ◌++◌, length, reverse, refl, arith, sym, ap, ◌∙◌, append_assoc, append-nil, Option, Some, None}
use Rattle.std.proofs.lemmas.List.{reverse-append}
use Rattle.std.proofs.lemmas.List.Elements.{All-append, All-cons, All-nil, All-contains, All-pop, Contains-push}
use Rattle.std.specs.List.{flat_map, All}
use Rattle.cable_tree.specs.declared.port.Port.{Port}
use Rattle.cable_tree.specs.declared.port.Port.TheVariants.{P1, P2, P3}
use Rattle.cable_tree.specs.Row.{Row}
use Rattle.cable_tree.specs.Segment.{IsTree}
use Rattle.cable_tree.specs.FrameOrder.{child, behind, subtree}
use Rattle.cable_tree.specs.WalkStack.{one_or_none, with_children}
use Rattle.cable_tree.proofs.Children.{child_hangs}
use Rattle.cable_tree.proofs.Levels.{subtree_is}

-- the visits to come, by the stack
abbrev pub to_visit : List Row → List ℕ → List ℕ
to_visit rows stack = flat_map (subtree rows) (reverse stack)

module _ (rows : List Row) where
  visit_one : (rest : List ℕ) (r : ℕ) → to_visit rows (rest ++ r ∷ []) ≡ subtree rows r ++ to_visit rows rest
  visit_one rest r = ap (flat_map (subtree rows)) (reverse-append rest (r ∷ []))

  visit_child : (rest : List ℕ) (o : Option ℕ) → to_visit rows (rest ++ one_or_none o) ≡ behind (subtree rows) o ++ to_visit rows rest
  visit_child rest None = ap (to_visit rows) (append-nil rest)
  visit_child rest (Some k) = visit_one rest k

  -- a row is visited, and then its children
  pub turn : IsTree rows → (rest : List ℕ) (r : ℕ) → r < length rows → to_visit rows (rest ++ r ∷ []) ≡ r ∷ to_visit rows (with_children rows r rest)
  turn tree rest r within =
      let a = behind (subtree rows) (child rows r P3) in
      let b = behind (subtree rows) (child rows r P1) in
      let c = behind (subtree rows) (child rows r P2) in
      let two = visit_child rest (child rows r P2) in
      let one = visit_child (rest ++ one_or_none (child rows r P2)) (child rows r P1) in
      let three = visit_child (rest ++ one_or_none (child rows r P2) ++ one_or_none (child rows r P1)) (child rows r P3) in
      let new : to_visit rows (with_children rows r rest) ≡ a ++ (b ++ (c ++ to_visit rows rest)) = three ∙ ap (λ t. a ++ t) (one ∙ ap (λ t. b ++ t) two) in
      let joined : (a ++ b ++ c) ++ to_visit rows rest ≡ a ++ (b ++ (c ++ to_visit rows rest)) = append_assoc (a ++ b) c (to_visit rows rest) ∙ append_assoc a b (c ++ to_visit rows rest) in
      visit_one rest r ∙ ap (λ t. t ++ to_visit rows rest) (subtree_is rows tree r within) ∙ ap (λ t. r ∷ t) (joined ∙ sym new)

  pub turn_same : IsTree rows → (done rest : List ℕ) (r : ℕ) → r < length rows →
      (done ++ r ∷ []) ++ to_visit rows (with_children rows r rest) ≡ done ++ to_visit rows (rest ++ r ∷ [])
  turn_same tree done rest r within = append_assoc done (r ∷ []) (to_visit rows (with_children rows r rest)) ∙ ap (λ t. done ++ t) (sym (turn tree rest r within))

  pub turn_smaller : IsTree rows → (rest : List ℕ) (r : ℕ) → r < length rows → length (to_visit rows (with_children rows r rest)) < length (to_visit rows (rest ++ r ∷ []))
  turn_smaller tree rest r within = let e = ap length (turn tree rest r within) in omega arith

  one_within : (r : ℕ) (p : Port) → (o : Option ℕ) → child rows r p ≡ o → All (λ k. k < length rows) (one_or_none o)
  one_within r p None e = All-nil (λ k. k < length rows)
  one_within r p (Some k) e = All-cons (λ k. k < length rows) k [] (child_hangs rows r p k e).0 (All-nil (λ k. k < length rows))

  pub turn_within : (rest : List ℕ) (r : ℕ) → All (λ k. k < length rows) rest → All (λ k. k < length rows) (with_children rows r rest)
  turn_within rest r h =
      let P = λ (k : ℕ). k < length rows in
      let a = one_or_none (child rows r P2) in
      let b = one_or_none (child rows r P1) in
      All-append P (rest ++ a ++ b) (one_or_none (child rows r P3))
      (All-append P (rest ++ a) b (All-append P rest a h (one_within r P2 (child rows r P2) refl)) (one_within r P1 (child rows r P1) refl))
      (one_within r P3 (child rows r P3) refl)

  -- what holds of the rows on a stack holds of the top and of the rest
  pub last_within : (rest : List ℕ) (r : ℕ) → All (λ k. k < length rows) (rest ++ r ∷ []) → r < length rows
  last_within rest r h = All-contains (λ k. k < length rows) (rest ++ r ∷ []) r h (Contains-push rest r)

  pub rest_within : (rest : List ℕ) (r : ℕ) → All (λ k. k < length rows) (rest ++ r ∷ []) → All (λ k. k < length rows) rest
  rest_within rest r h = (All-pop (λ k. k < length rows) (rest ++ r ∷ []) rest (Some r) refl h).0

  pub first_visit : (r : ℕ) → to_visit rows (r ∷ []) ≡ subtree rows r
  first_visit r = visit_one [] r ∙ append-nil (subtree rows r)

  pub one_row : (r : ℕ) → r < length rows → All (λ k. k < length rows) (r ∷ [])
  one_row r within = All-cons (λ k. k < length rows) r [] within (All-nil (λ k. k < length rows))
