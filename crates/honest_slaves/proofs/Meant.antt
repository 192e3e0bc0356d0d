-- The steps behind the judgement ask of each slave what it has.
use Rattle.std.proofs.Common.{◌≡◌, ℕ, zero, suc, ◌+◌, ◌<◌, Bool, true, false, cond, List, [], ◌∷◌, ◌++◌, length, map, filter, refl, sym, subst, ◌∙◌, arith}
use Rattle.std.specs.List.{AllByRecursion, range_with_len}
use Rattle.dc_bounds.specs.Weight.{flag}
use Rattle.dc_delay.specs.ShapeRows.{positions}
use Rattle.esc_regs.specs.declared.clock_kind.ClockKind.{ClockKind}
use Rattle.esc_regs.specs.Kinds.{measures, has_clock}
use Rattle.master_script.specs.Progress.{later_steps, arm_steps}
use Rattle.master_script.specs.Slaves.{SlaveWords, is_measuring, is_clock, measuring, clocks}
use Rattle.master_script.specs.declared.step.Step.{Step}
use Rattle.master_script.specs.declared.step.Step.TheVariants.{Times, Set, Arm}
use Rattle.honest_slaves.specs.Told.{word_of, words_of, IsMeant}
use Rattle.honest_slaves.proofs.ByKind.{clock_word, measuring_word}
use Rattle.honest_slaves.proofs.Numbers.{flagged, words_many}

-- each of these positions is that of a slave with P
abbrev AreWith : (ClockKind → Bool) → (ℕ → ClockKind) → ℕ → List ℕ → Type 0
AreWith P kinds n ps = AllByRecursion (λ p. (p < n) × (P (kinds p) ≡ true)) ps

picked : (f : ℕ → Bool) (Q : ℕ → Type 0) (a m : ℕ) → ((p : ℕ) → p < a + m → f p ≡ true → Q p) → AllByRecursion Q (filter f (range_with_len a m))
picked f Q a zero each = tt
picked f Q a (suc m) each = by (f a) refl (picked f Q (a + 1) m (λ p low is. each p (omega (arith, low)) is))
  where
    by : (b : Bool) → f a ≡ b → AllByRecursion Q (filter f (range_with_len (a + 1) m)) → AllByRecursion Q (cond b (a ∷ filter f (range_with_len (a + 1) m)) (filter f (range_with_len (a + 1) m)))
    by true e rest = (each a (omega arith) e, rest)
    by false e rest = rest

with_all : (f : SlaveWords → Bool) (P : ClockKind → Bool) (kinds : ℕ → ClockKind) (statuses : ℕ → ℕ) (n : ℕ) → ((k : ClockKind) (status : ℕ) → f (word_of k status) ≡ P k)
    → AreWith P kinds n (filter (flag (map f (words_of kinds statuses n))) (positions (length (words_of kinds statuses n))))
with_all f P kinds statuses n same =
    let many = words_many kinds statuses n in
    picked (flag (map f (words_of kinds statuses n))) (λ p. (p < n) × (P (kinds p) ≡ true)) 0 (length (words_of kinds statuses n))
    (λ p low is. let less : p < n = omega (arith, low, many) in (less, sym (flagged f P kinds statuses n p same less) ∙ is))

times_then : (kinds : ℕ → ClockKind) (n : ℕ) (ps : List ℕ) (rest : List Step) → AreWith measures kinds n ps → AllByRecursion (IsMeant kinds n) rest → AllByRecursion (IsMeant kinds n) (map Times ps ++ rest)
times_then kinds n [] rest h t = t
times_then kinds n (p ∷ ps) rest h t = (h.0, times_then kinds n ps rest h.1 t)

sets : (kinds : ℕ → ClockKind) (n : ℕ) (ps : List ℕ) → AreWith has_clock kinds n ps → AllByRecursion (IsMeant kinds n) (map Set ps)
sets kinds n [] h = tt
sets kinds n (p ∷ ps) h = (h.0, sets kinds n ps h.1)

arms : (kinds : ℕ → ClockKind) (n : ℕ) (ps : List ℕ) → AreWith has_clock kinds n ps → AllByRecursion (IsMeant kinds n) (map Arm ps)
arms kinds n [] h = tt
arms kinds n (p ∷ ps) h = (h.0, arms kinds n ps h.1)

pub later_meant : (kinds : ℕ → ClockKind) (statuses : ℕ → ℕ) (n : ℕ) (ss : List SlaveWords) → ss ≡ words_of kinds statuses n → AllByRecursion (IsMeant kinds n) (later_steps ss)
later_meant kinds statuses n ss is =
    subst (λ xs. AllByRecursion (IsMeant kinds n) (later_steps xs)) (sym is) (
      tt,
      (
        tt,
        times_then kinds n (measuring (words_of kinds statuses n)) (map Set (clocks (words_of kinds statuses n))) (with_all is_measuring measures kinds statuses n measuring_word)
            (sets kinds n (clocks (words_of kinds statuses n)) (with_all is_clock has_clock kinds statuses n clock_word)),
      ),
    )

pub arming_meant : (kinds : ℕ → ClockKind) (statuses : ℕ → ℕ) (n : ℕ) (ss : List SlaveWords) → ss ≡ words_of kinds statuses n → AllByRecursion (IsMeant kinds n) (arm_steps ss)
arming_meant kinds statuses n ss is =
    subst (λ xs. AllByRecursion (IsMeant kinds n) (arm_steps xs)) (sym is) (arms kinds n (clocks (words_of kinds statuses n)) (with_all is_clock has_clock kinds statuses n clock_word))
