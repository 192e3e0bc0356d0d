-- The positions that steps and words name are those of slaves, and each phase asks its own steps.
use Rattle.std.proofs.Common.{◌≡◌, ℕ, zero, suc, ◌+◌, ◌<◌, ◌≤◌, Bool, true, false, cond, List, [], ◌∷◌, ◌++◌, length, map, filter, Option, Some, None, Result, Ok, Err, fold, unwrap_or, refl, sym, ap, subst, arith}
use Rattle.std.specs.List.{find, range_with_len}
use Rattle.std.proofs.lemmas.List.{length-map}
use Rattle.std.proofs.lemmas.List.FromFn.{length-range_with_len}
use Rattle.ecat_frame.specs.FrameGrammar.{FrameValue}
use Rattle.ecat_link.specs.Exchanges.{Exchange}
use Rattle.dc_topology.specs.DlStatus.{is_formed}
use Rattle.dc_topology.specs.Listed.{Place, places}
use Rattle.dc_topology.specs.declared.error.TopologyError.{TopologyError}
use Rattle.dc_topology.specs.declared.error.TopologyError.TheVariants.{BadStatus}
use Rattle.dc_bounds.specs.Weight.{flag}
use Rattle.dc_delay.specs.Refusals.{first_timed, first_unmeasurable}
use Rattle.dc_delay.specs.ShapeRows.{positions}
use Rattle.master_script.specs.Config.{ConfigValue}
use Rattle.master_script.specs.Judged.{judged}
use Rattle.master_script.specs.ListedTree.{walk, tree_of, behind}
use Rattle.master_script.specs.Progress.{Phase, Commissioning, Settling, Arming, Running, Progress, progress, beginning, later_steps, arm_steps, after, asked, answered, noted, done, turned, planned, counted, moved, settling, settled_by, timed, brought, running}
use Rattle.master_script.specs.Slaves.{SlaveWords, is_measuring, is_clock, measuring, clocks, judgement, judged_tree, judged_clocks, tree_told}
use Rattle.master_script.specs.Steps.{expected}
use Rattle.master_script.specs.Words.{hung_or_none}
use Rattle.master_script.specs.declared.step.Refusal.{Refusal}
use Rattle.master_script.specs.declared.step.Step.{Step}
use Rattle.master_script.specs.declared.step.Step.TheVariants.{Count, Identify, Rate, Latch, Times, Set, Settle, Drift, Arm}
use Rattle.master_script.proofs.Todo.{identifies, later_none, arm_none, learned_slaves, learned_reference, all_identify}

-- numbers below n
abbrev pub Below : ℕ → List ℕ → Type 0
Below n [] = Unit {0}
Below n (x ∷ xs) = (x < n) × Below n xs

range_below : (n a m : ℕ) → a + m ≤ n → Below n (range_with_len a m)
range_below n a zero h = tt
range_below n a (suc m) h = (omega (arith, h), range_below n (a + 1) m (omega (arith, h)))

filter_below : (n : ℕ) (p : ℕ → Bool) (xs : List ℕ) → Below n xs → Below n (filter p xs)
filter_below n p [] h = tt
filter_below n p (x ∷ xs) h = by_test (p x) (filter_below n p xs h.1)
  where
    by_test : (b : Bool) → Below n (filter p xs) → Below n (cond b (x ∷ filter p xs) (filter p xs))
    by_test true t = (h.0, t)
    by_test false t = t

find_below : (n : ℕ) (p : ℕ → Bool) (xs : List ℕ) (x : ℕ) → Below n xs → find p xs ≡ Some x → x < n
find_below n p [] x h e = absurd cc
find_below n p (y ∷ ys) x h e = by_test (p y) e (find_below n p ys x h.1)
  where
    by_test : (b : Bool) → cond b (Some y) (find p ys) ≡ Some x → (find p ys ≡ Some x → x < n) → x < n
    by_test true e t = let s : y ≡ x = cc in let l = h.0 in omega (arith, l, s)
    by_test false e t = t e

positions_below : (n m : ℕ) → m ≤ n → Below n (positions m)
positions_below n m h = range_below n 0 m (omega (arith, h))

-- a tree has one place for each status
abbrev pub HasLength : ℕ → Result (List Place) TopologyError → Type 0
HasLength n (Ok hung) = length hung ≡ n
HasLength n (Err e) = Unit {0}

walk_length : (free : List Place) (q : ℕ) (ss : List ℕ) → HasLength (length ss) (walk free q ss)
unfolding walk
walk_length [] q [] = refl
walk_length (place ∷ free) q [] = tt
walk_length [] q (status ∷ rest) = tt
walk_length (place ∷ free) q (status ∷ rest) = by_test (is_formed status) (walk (places q status ++ free) (suc q) rest) (walk_length (places q status ++ free) (suc q) rest)
  where
    by_test : (b : Bool) (r : Result (List Place) TopologyError) → HasLength (length rest) r → HasLength (length (status ∷ rest)) (cond b (behind place r) (Err (BadStatus q)))
    by_test true (Ok hung) h = omega (arith, h)
    by_test true (Err e) h = tt
    by_test false r h = tt

-- the reference is one of the slaves
reference_of_clocks : (a b : Option ℕ) (x : ℕ) → judged_clocks a b ≡ Ok x → a ≡ Some x
reference_of_clocks None b x e = absurd cc
reference_of_clocks (Some r) (Some q) x e = absurd cc
reference_of_clocks (Some r) None x e = cc

reference_of_tree : (ss : List SlaveWords) (r : Result (List Place) TopologyError) (x : ℕ) → HasLength (length ss) r → judged_tree ss r ≡ Ok x → x < length ss
reference_of_tree ss (Err e) x h j = absurd cc
reference_of_tree ss (Ok hung) x h j =
    let clocks_told = first_timed hung (flag (map is_clock ss)) in
    let others = first_unmeasurable hung (flag (map is_measuring ss)) in
    let f = reference_of_clocks clocks_told others x j in
    find_below (length ss) (flag (map is_clock ss)) (positions (length hung)) x (positions_below (length ss) (length hung) (omega (arith, h))) f

-- the tree of judged slaves has them all
hung_all : (ss : List SlaveWords) (r : Result (List Place) TopologyError) (x : ℕ) → HasLength (length ss) r → judged_tree ss r ≡ Ok x → length (hung_or_none r) ≡ length ss
hung_all ss (Err e) x h j = absurd cc
hung_all ss (Ok hung) x h j = h

pub tree_length : (ss : List SlaveWords) → HasLength (length ss) (tree_told ss)
tree_length ss =
    let statuses = map (λ (s : SlaveWords). s.status) ss in
    subst (λ k. HasLength k (tree_of statuses)) (length-map ss (λ (s : SlaveWords). s.status)) (walk_length (None ∷ []) 0 statuses)

pub hung_length : (ss : List SlaveWords) (x : ℕ) → judgement ss ≡ Ok x → length (hung_or_none (tree_told ss)) ≡ length ss
unfolding judgement
hung_length ss x j = hung_all ss (tree_told ss) x (tree_length ss) j

pub judged_below : (ss : List SlaveWords) (x : ℕ) → judgement ss ≡ Ok x → x < length ss
unfolding judgement
judged_below ss x j = reference_of_tree ss (tree_told ss) x (tree_length ss) j

-- the position of a step
abbrev pub StepWithin : ℕ → Step → Type 0
StepWithin n Count = Unit {0}
StepWithin n (Identify p) = p < n
StepWithin n Rate = Unit {0}
StepWithin n Latch = Unit {0}
StepWithin n (Times p) = p < n
StepWithin n (Set p) = p < n
StepWithin n Settle = Unit {0}
StepWithin n (Drift k) = Unit {0}
StepWithin n (Arm p) = p < n

abbrev pub StepsWithin : ℕ → List Step → Type 0
StepsWithin n [] = Unit {0}
StepsWithin n (step ∷ rest) = StepWithin n step × StepsWithin n rest

-- the steps of a phase
abbrev pub IsOf : Phase → Step → Type 0
IsOf Commissioning Settle = ⊥
IsOf Commissioning (Drift k) = ⊥
IsOf Commissioning (Arm p) = ⊥
IsOf Commissioning step = Unit {0}
IsOf Settling (Drift k) = Unit {0}
IsOf Arming (Arm p) = Unit {0}
IsOf Running (Drift k) = Unit {0}
IsOf s step = ⊥

abbrev pub AreOf : Phase → List Step → Type 0
AreOf s [] = Unit {0}
AreOf s (step ∷ rest) = IsOf s step × AreOf s rest

none_of : (s : Phase) (todo : List Step) → todo ≡ [] → AreOf s todo
none_of s todo e = subst (λ x. AreOf s x) (sym e) tt

identify_of : (ps : List ℕ) → AreOf Commissioning (map Identify ps)
identify_of [] = tt
identify_of (p ∷ ps) = (tt, identify_of ps)

set_of : (ps : List ℕ) → AreOf Commissioning (map Set ps)
set_of [] = tt
set_of (p ∷ ps) = (tt, set_of ps)

times_of : (ps : List ℕ) (rest : List Step) → AreOf Commissioning rest → AreOf Commissioning (map Times ps ++ rest)
times_of [] rest h = h
times_of (p ∷ ps) rest h = (tt, times_of ps rest h)

arm_of : (ps : List ℕ) → AreOf Arming (map Arm ps)
arm_of [] = tt
arm_of (p ∷ ps) = (tt, arm_of ps)

identify_within : (n : ℕ) (ps : List ℕ) → Below n ps → StepsWithin n (map Identify ps)
identify_within n [] h = tt
identify_within n (p ∷ ps) h = (h.0, identify_within n ps h.1)

arm_within : (n : ℕ) (ps : List ℕ) → Below n ps → StepsWithin n (map Arm ps)
arm_within n [] h = tt
arm_within n (p ∷ ps) h = (h.0, arm_within n ps h.1)

set_within : (n : ℕ) (ps : List ℕ) → Below n ps → StepsWithin n (map Set ps)
set_within n [] h = tt
set_within n (p ∷ ps) h = (h.0, set_within n ps h.1)

times_within : (n : ℕ) (ps : List ℕ) (rest : List Step) → Below n ps → StepsWithin n rest → StepsWithin n (map Times ps ++ rest)
times_within n [] rest h t = t
times_within n (p ∷ ps) rest h t = (h.0, times_within n ps rest h.1 t)

later_within : (n : ℕ) (ss : List SlaveWords) → length ss ≤ n → StepsWithin n (later_steps ss)
later_within n ss h =
    let all = positions_below n (length ss) h in
    let ms = filter_below n (flag (map is_measuring ss)) (positions (length ss)) all in
    let cs = filter_below n (flag (map is_clock ss)) (positions (length ss)) all in
    (tt, (tt, times_within n (measuring ss) (map Set (clocks ss)) ms (set_within n (clocks ss) cs)))

arming_within : (n : ℕ) (ss : List SlaveWords) → length ss ≤ n → StepsWithin n (arm_steps ss)
arming_within n ss h =
    arm_within n (clocks ss) (filter_below n (flag (map is_clock ss)) (positions (length ss)) (positions_below n (length ss) h))

-- it holds of every progress
pub record Within (n : ℕ) (p : Progress) : Type 0 where
  pub todo : StepsWithin n p.todo
  pub room : length p.words.slaves + identifies p.todo ≤ n
  pub reference : unwrap_or p.words.reference 0 < n
  pub steps : AreOf p.phase p.todo

planned_within : (n : ℕ) (p : Progress) (j : Result ℕ Refusal) → judgement p.words.slaves ≡ j → p.phase ≡ Commissioning → Within n p → Within n (planned p j)
planned_within n p (Err r) j e w = record { todo = w.todo; room = w.room; reference = w.reference; steps = w.steps }
planned_within n p (Ok x) j e w =
    let a = later_none p.words.slaves in
    let b = judged_below p.words.slaves x j in
    let c = w.room in
    record {
      todo = later_within n p.words.slaves (omega (arith, c));
      room = omega (arith, a, c);
      reference = omega (arith, b, c);
      steps = subst (λ s. AreOf s (later_steps p.words.slaves)) (sym e) (tt, (tt, times_of (measuring p.words.slaves) (map Set (clocks p.words.slaves)) (set_of (clocks p.words.slaves))));
    }

done_within : (n : ℕ) (p : Progress) (s : Phase) (reference : Option ℕ) → p.phase ≡ s → p.todo ≡ [] → Within n p → Within n (done p s reference)
done_within n p Commissioning None e t w = planned_within n p (judgement p.words.slaves) refl e w
done_within n p Commissioning (Some r) e t w = record { todo = w.todo; room = w.room; reference = w.reference; steps = none_of Settling p.todo t }
done_within n p Settling r e t w = w
done_within n p Arming r e t w = record { todo = w.todo; room = w.room; reference = w.reference; steps = none_of Running p.todo t }
done_within n p Running r e t w = w

turned_within : (n : ℕ) (p : Progress) (rest : List Step) → p.todo ≡ rest → Within n p → Within n (turned p rest)
turned_within n p [] t w = done_within n p p.phase p.words.reference refl t w
turned_within n p (next ∷ rest) t w = w

noted_within : (n : ℕ) (p : Progress) (step : Step) (rest : List Step) (f : FrameValue) → p.todo ≡ step ∷ rest → Within n p → Within n (noted p step rest f)
noted_within n p step rest f t w =
    let a = learned_slaves p.sent step f p.words in
    let b = ap (λ x. identifies x) t in
    let c = w.room in
    record {
      todo = (subst (λ x. StepsWithin n x) t w.todo).1;
      room = omega (arith, a, b, c);
      reference = subst (λ x. unwrap_or x 0 < n) (sym (learned_reference p.sent step f p.words)) w.reference;
      steps = (subst (λ x. AreOf p.phase x) t w.steps).1;
    }

answered_within : (n : ℕ) (p : Progress) (step : Step) (rest : List Step) (f : FrameValue) (o : Option Refusal) → p.todo ≡ step ∷ rest → Within n p → Within n (answered p step rest f o)
answered_within n p step rest f (Some r) t w = record { todo = w.todo; room = w.room; reference = w.reference; steps = w.steps }
answered_within n p step rest f None t w = turned_within n (noted p step rest f) rest refl (noted_within n p step rest f t w)

asked_within : (n : ℕ) (cfg : ConfigValue) (p : Progress) (sent : FrameValue) (back : Option FrameValue) (todo : List Step) → p.todo ≡ todo → Within n p → Within n (asked cfg p sent back todo)
asked_within n cfg p sent back [] t w = w
asked_within n cfg p sent None (step ∷ rest) t w = record { todo = w.todo; room = w.room; reference = w.reference; steps = w.steps }
asked_within n cfg p sent (Some f) (step ∷ rest) t w = answered_within n p step rest f (judged step (expected cfg p.words step f) sent f) t w

settled_by_within : (n : ℕ) (p : Progress) (time : Option ℕ) → Within n p → Within n (settled_by p time)
settled_by_within n p None w = record { todo = w.todo; room = w.room; reference = w.reference; steps = w.steps }
settled_by_within n p (Some r) w =
    let a = arm_none p.words.slaves in
    let c = w.room in
    record { todo = arming_within n p.words.slaves (omega (arith, c)); room = omega (arith, a, c); reference = w.reference; steps = arm_of (clocks p.words.slaves) }

settled_within : (n : ℕ) (p : Progress) (last : Bool) → Within n p → Within n (cond last (settled_by p p.words.time) p)
settled_within n p true w = settled_by_within n p p.words.time w
settled_within n p false w = w

timed_within : (n : ℕ) (cfg : ConfigValue) (p : Progress) (f : FrameValue) (o : Option Refusal) → Within n p → Within n (timed cfg p f o)
timed_within n cfg p f (Some r) w = record { todo = w.todo; room = w.room; reference = w.reference; steps = w.steps }
timed_within n cfg p f None w = settled_within n (brought cfg p f) _ (record { todo = w.todo; room = w.room; reference = w.reference; steps = w.steps })

settling_within : (n : ℕ) (cfg : ConfigValue) (p : Progress) (sent : FrameValue) (back : Option FrameValue) → Within n p → Within n (settling cfg p sent back)
settling_within n cfg p sent None w = settled_within n p _ w
settling_within n cfg p sent (Some f) w = timed_within n cfg p f _ w

running_within : (n : ℕ) (cfg : ConfigValue) (p : Progress) (sent : FrameValue) (back : Option FrameValue) → Within n p → Within n (running cfg p sent back)
running_within n cfg p sent None w = w
running_within n cfg p sent (Some f) w = record { todo = w.todo; room = w.room; reference = w.reference; steps = w.steps }

moved_within : (n : ℕ) (cfg : ConfigValue) (p : Progress) (sent : FrameValue) (back : Option FrameValue) (o : Option Refusal) (s : Phase) → Within n p → Within n (moved cfg p sent back o s)
moved_within n cfg p sent back (Some r) s w = w
moved_within n cfg p sent back None Commissioning w = asked_within n cfg p sent back p.todo refl w
moved_within n cfg p sent back None Settling w = settling_within n cfg p sent back w
moved_within n cfg p sent back None Arming w = asked_within n cfg p sent back p.todo refl w
moved_within n cfg p sent back None Running w = running_within n cfg p sent back w

pub after_within : (n : ℕ) (cfg : ConfigValue) (p : Progress) (e : Exchange) → Within n p → Within n (after cfg p e)
unfolding after
after_within n cfg p e w =
    moved_within n cfg (counted p e.back) e.sent e.back p.refused p.phase (record { todo = w.todo; room = w.room; reference = w.reference; steps = w.steps })

fold_within : (n : ℕ) (cfg : ConfigValue) (p : Progress) (es : List Exchange) → Within n p → Within n (fold (after cfg) p es)
fold_within n cfg p [] w = w
fold_within n cfg p (e ∷ es) w = fold_within n cfg (after cfg p e) es (after_within n cfg p e w)

beginning_within : (cfg : ConfigValue) → 0 < length cfg.kinds → Within (length cfg.kinds) (beginning cfg)
beginning_within cfg some =
    let a = all_identify (positions (length cfg.kinds)) in
    let b = length-range_with_len 0 (length cfg.kinds) in
    record {
      todo = (tt, identify_within (length cfg.kinds) (positions (length cfg.kinds)) (positions_below (length cfg.kinds) (length cfg.kinds) (omega arith)));
      room = omega (arith, a, b);
      reference = some;
      steps = (tt, identify_of (positions (length cfg.kinds)));
    }

pub progress_within : (cfg : ConfigValue) (es : List Exchange) → 0 < length cfg.kinds → Within (length cfg.kinds) (progress cfg es)
unfolding progress
progress_within cfg es some = fold_within (length cfg.kinds) cfg (beginning cfg) es (beginning_within cfg some)
