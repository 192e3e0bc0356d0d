-- A text has one answer.
use Rattle.std.specs.Prelude.{◌≡◌, ℕ, List, Some, None, Ok, Err, IsUtf8}
use Rattle.std.proofs.Common.{ap, sym, subst, refl, inl, inr, ◌∙◌}
use Rattle.serde_json.specs.Data.{Data}
use Rattle.serde_json.specs.Read.{read}
use Rattle.cable_tree.specs.Refusals as tree
use Rattle.cable_tree.specs.Row.{Row}
use Rattle.cable_tree.specs.declared.error.TreeError.{TreeError}
use Rattle.cable_tree.specs.declared.error.TreeError.TheVariants as trees
use Rattle.cable_tree.proofs.Exported.{refusal_same, tree_unrefused}
use Rattle.segment_shape.specs.ShapeOf.{ShapeValue, Refusal, bad_shape, id_twice, file_of}
use Rattle.segment_shape.specs.Told.{IsText}
use Rattle.segment_file.specs.Segment.{SegmentValue, tree_rows}
use Rattle.segment_file.specs.Placed.{placed}
use Rattle.segment_file.specs.Faults.{Fault, rate, no_reference, unmeasured, too_slow, no_lock, lead, loss_run, too_much, fault_of}
use Rattle.segment_file.specs.FaultOf.{tree_error}
use Rattle.segment_file.specs.Told.{Says, IsFileOf, HasNoTree, HasFault, IsRefused, IsSegmentText, IsTold}
use Rattle.segment_file.specs.Failed.{Failed, no_text, no_shape, no_tree, faulty, failed_by}
use Rattle.segment_file.specs.declared.seg_error.SegError.{SegError}
use Rattle.segment_file.specs.declared.seg_error.SegError.TheVariants.{BadText, Shape, Twice, Tree, Rate, NoReference, Unmeasurable, TooSlow, NoLock, Lead, LossRun, TooMuch, NoMemory}

same_value : (bytes : List ℕ) (d e : Data) → IsText bytes d → IsText bytes e → d ≡ e
same_value bytes d e p q = let r = p.1 in let s = q.1 in cc

same_shape : (d : Data) (a b : ShapeValue) → file_of d ≡ Ok a → file_of d ≡ Ok b → a ≡ b
same_shape d a b p q = cc

says_one : (d : Data) (s t : SegmentValue) → Says d s → Says d t → s ≡ t
says_one d s t p q = p.is ∙ ap placed (same_shape d p.shape q.shape p.file q.file) ∙ sym q.is

pub one_segment : (bytes : List ℕ) (s t : SegmentValue) → IsSegmentText bytes s → IsSegmentText bytes t → s ≡ t
one_segment bytes s t (d, text, file) (e, text', file') =
    says_one d s t file.says (subst (λ x. Says x t) (same_value bytes e d text' text) file'.says)

treed : (d : Data) (s : SegmentValue) (e : TreeError) → IsFileOf d s → HasNoTree d e → ⊥
treed d s e file never =
    let same : never.segment ≡ s = says_one d never.segment s never.says file.says in
    tree_unrefused (tree_rows s.rows) e file.tree (subst (λ x. tree.IsRefused (tree_rows x.rows) e) same never.refused)

faultless : (d : Data) (s : SegmentValue) (f : Fault) → IsFileOf d s → HasFault d f → ⊥
faultless d s f file never =
    let same : never.segment ≡ s = says_one d never.segment s never.says file.says in
    let none = file.faultless in
    let some = subst (λ x. fault_of x ≡ Some f) same never.fault in
    cc

shaped : (d : Data) (s : SegmentValue) (r : Refusal) → IsFileOf d s → file_of d ≡ Err r → ⊥
shaped d s r file e = let ok = file.says.file in cc

unrefused : (d : Data) (s : SegmentValue) → IsFileOf d s → (e : SegError) → IsRefused d e → ⊥
unrefused d s file BadText never = never
unrefused d s file (Shape path) e = shaped d s (bad_shape path.bytes) file e
unrefused d s file (Twice id) e = shaped d s (id_twice id.bytes) file e
unrefused d s file (Tree t) never = treed d s (tree_error t) file never
unrefused d s file (Rate id) never = faultless d s (rate id.bytes) file never
unrefused d s file NoReference never = faultless d s no_reference file never
unrefused d s file (Unmeasurable id) never = faultless d s (unmeasured id.bytes) file never
unrefused d s file TooSlow never = faultless d s too_slow file never
unrefused d s file NoLock never = faultless d s no_lock file never
unrefused d s file Lead never = faultless d s lead file never
unrefused d s file (LossRun number) never = faultless d s (loss_run number) file never
unrefused d s file TooMuch never = faultless d s too_much file never
unrefused d s file NoMemory never = never

refused_value : (bytes : List ℕ) (s : SegmentValue) (e : SegError) → IsSegmentText bytes s → ((d : Data) × IsText bytes d × IsRefused d e) → ⊥
refused_value bytes s e (d, text, file) (d', text', refused) = unrefused d s file e (subst (λ x. IsRefused x e) (same_value bytes d' d text' text) refused)

texted : (bytes : List ℕ) (s : SegmentValue) → IsSegmentText bytes s → (IsUtf8 bytes → read bytes ≡ None) → ⊥
texted bytes s (d, text, file) never = let none = never text.0 in let some = text.1 in cc

pub legal_unrefused : (bytes : List ℕ) (s : SegmentValue) (e : SegError) → IsSegmentText bytes s → IsTold bytes e → e ≡ NoMemory
legal_unrefused bytes s BadText legal told = absurd (texted bytes s legal told)
legal_unrefused bytes s (Shape path) legal told = absurd (refused_value bytes s (Shape path) legal told)
legal_unrefused bytes s (Twice id) legal told = absurd (refused_value bytes s (Twice id) legal told)
legal_unrefused bytes s (Tree t) legal told = absurd (refused_value bytes s (Tree t) legal told)
legal_unrefused bytes s (Rate id) legal told = absurd (refused_value bytes s (Rate id) legal told)
legal_unrefused bytes s NoReference legal told = absurd (refused_value bytes s NoReference legal told)
legal_unrefused bytes s (Unmeasurable id) legal told = absurd (refused_value bytes s (Unmeasurable id) legal told)
legal_unrefused bytes s TooSlow legal told = absurd (refused_value bytes s TooSlow legal told)
legal_unrefused bytes s NoLock legal told = absurd (refused_value bytes s NoLock legal told)
legal_unrefused bytes s Lead legal told = absurd (refused_value bytes s Lead legal told)
legal_unrefused bytes s (LossRun number) legal told = absurd (refused_value bytes s (LossRun number) legal told)
legal_unrefused bytes s TooMuch legal told = absurd (refused_value bytes s TooMuch legal told)
legal_unrefused bytes s NoMemory legal told = refl

-- a text fails this check
abbrev pub Fails : List ℕ → Failed → Type 0
Fails bytes no_text = IsUtf8 bytes → read bytes ≡ None
Fails bytes (no_shape r) = (d : Data) × IsText bytes d × (file_of d ≡ Err r)
Fails bytes (no_tree e) = (d : Data) × IsText bytes d × HasNoTree d e
Fails bytes (faulty f) = (d : Data) × IsText bytes d × HasFault d f

fails : (bytes : List ℕ) (x a : Failed) → Some x ≡ Some a → Fails bytes x → Fails bytes a
fails bytes x a e h = let same : x ≡ a = cc in subst (Fails bytes) same h

fails_by : (bytes : List ℕ) (e : SegError) (a : Failed) → IsTold bytes e → failed_by e ≡ Some a → Fails bytes a
fails_by bytes BadText a h is = fails bytes no_text a is h
fails_by bytes (Shape path) a h is = fails bytes (no_shape (bad_shape path.bytes)) a is h
fails_by bytes (Twice id) a h is = fails bytes (no_shape (id_twice id.bytes)) a is h
fails_by bytes (Tree t) a h is = fails bytes (no_tree (tree_error t)) a is h
fails_by bytes (Rate id) a h is = fails bytes (faulty (rate id.bytes)) a is h
fails_by bytes NoReference a h is = fails bytes (faulty no_reference) a is h
fails_by bytes (Unmeasurable id) a h is = fails bytes (faulty (unmeasured id.bytes)) a is h
fails_by bytes TooSlow a h is = fails bytes (faulty too_slow) a is h
fails_by bytes NoLock a h is = fails bytes (faulty no_lock) a is h
fails_by bytes Lead a h is = fails bytes (faulty lead) a is h
fails_by bytes (LossRun number) a h is = fails bytes (faulty (loss_run number)) a is h
fails_by bytes TooMuch a h is = fails bytes (faulty too_much) a is h
fails_by bytes NoMemory a h is = absurd cc

may : (rows : List Row) (e : TreeError) → tree.IsRefused rows e → tree.MayAnswer rows e
may rows trees.Empty h = h
may rows (trees.NoParent r) h = h
may rows (trees.TwoRoots r) h = h
may rows (trees.PortTaken r) h = h
may rows (trees.Cycle r) h = h
may rows trees.NoMemory h = absurd h

same_refusal : (rows : List Row) (e f : TreeError) → tree.IsRefused rows e → tree.IsRefused rows f → e ≡ f
same_refusal rows e f p q = elim (refusal_same rows e f (may rows e p) q) [
  | inl same ↦ same
  | inr memory ↦ absurd (subst (tree.IsRefused rows) memory p)
]

same_tree : (d : Data) (e f : TreeError) → HasNoTree d e → HasNoTree d f → e ≡ f
same_tree d e f p q =
    let same = says_one d q.segment p.segment q.says p.says in
    same_refusal (tree_rows p.segment.rows) e f p.refused (subst (λ x. tree.IsRefused (tree_rows x.rows) f) same q.refused)

tree_or_fault : (d : Data) (e : TreeError) (f : Fault) → HasNoTree d e → HasFault d f → ⊥
tree_or_fault d e f p q =
    let same = says_one d p.segment q.segment p.says q.says in
    tree_unrefused (tree_rows q.segment.rows) e q.tree (subst (λ x. tree.IsRefused (tree_rows x.rows) e) same p.refused)

same_fault : (d : Data) (f g : Fault) → HasFault d f → HasFault d g → f ≡ g
same_fault d f g p q =
    let same = says_one d p.segment q.segment p.says q.says in
    let one = subst (λ x. fault_of x ≡ Some f) same p.fault in
    let other = q.fault in
    cc

shape_or_tree : (d : Data) (r : Refusal) (e : TreeError) → file_of d ≡ Err r → HasNoTree d e → ⊥
shape_or_tree d r e h q = let ok = q.says.file in cc

shape_or_fault : (d : Data) (r : Refusal) (f : Fault) → file_of d ≡ Err r → HasFault d f → ⊥
shape_or_fault d r f h q = let ok = q.says.file in cc

same_file : (d : Data) (r s : Refusal) → file_of d ≡ Err r → file_of d ≡ Err s → r ≡ s
same_file d r s h k = cc

textless : (bytes : List ℕ) (d : Data) → (IsUtf8 bytes → read bytes ≡ None) → IsText bytes d → ⊥
textless bytes d never text = let none = never text.0 in let some = text.1 in cc

one_failed : (bytes : List ℕ) (a b : Failed) → Fails bytes a → Fails bytes b → a ≡ b
one_failed bytes no_text no_text p q = refl
one_failed bytes no_text (no_shape s) p q = absurd (textless bytes q.0 p q.1)
one_failed bytes no_text (no_tree f) p q = absurd (textless bytes q.0 p q.1)
one_failed bytes no_text (faulty g) p q = absurd (textless bytes q.0 p q.1)
one_failed bytes (no_shape r) no_text p q = absurd (textless bytes p.0 q p.1)
one_failed bytes (no_shape r) (no_shape s) p q = ap no_shape (same_file p.0 r s p.2 (subst (λ d. file_of d ≡ Err s) (same_value bytes q.0 p.0 q.1 p.1) q.2))
one_failed bytes (no_shape r) (no_tree f) p q = absurd (shape_or_tree p.0 r f p.2 (subst (λ d. HasNoTree d f) (same_value bytes q.0 p.0 q.1 p.1) q.2))
one_failed bytes (no_shape r) (faulty g) p q = absurd (shape_or_fault p.0 r g p.2 (subst (λ d. HasFault d g) (same_value bytes q.0 p.0 q.1 p.1) q.2))
one_failed bytes (no_tree e) no_text p q = absurd (textless bytes p.0 q p.1)
one_failed bytes (no_tree e) (no_shape s) p q = absurd (shape_or_tree q.0 s e q.2 (subst (λ d. HasNoTree d e) (same_value bytes p.0 q.0 p.1 q.1) p.2))
one_failed bytes (no_tree e) (no_tree f) p q = ap no_tree (same_tree p.0 e f p.2 (subst (λ d. HasNoTree d f) (same_value bytes q.0 p.0 q.1 p.1) q.2))
one_failed bytes (no_tree e) (faulty g) p q = absurd (tree_or_fault p.0 e g p.2 (subst (λ d. HasFault d g) (same_value bytes q.0 p.0 q.1 p.1) q.2))
one_failed bytes (faulty f) no_text p q = absurd (textless bytes p.0 q p.1)
one_failed bytes (faulty f) (no_shape s) p q = absurd (shape_or_fault q.0 s f q.2 (subst (λ d. HasFault d f) (same_value bytes p.0 q.0 p.1 q.1) p.2))
one_failed bytes (faulty f) (no_tree g) p q = absurd (tree_or_fault q.0 g f q.2 (subst (λ d. HasFault d f) (same_value bytes p.0 q.0 p.1 q.1) p.2))
one_failed bytes (faulty f) (faulty g) p q = ap faulty (same_fault p.0 f g p.2 (subst (λ d. HasFault d g) (same_value bytes q.0 p.0 q.1 p.1) q.2))

pub one_refusal : (bytes : List ℕ) (e f : SegError) (a b : Failed) → IsTold bytes e → IsTold bytes f → failed_by e ≡ Some a → failed_by f ≡ Some b → a ≡ b
one_refusal bytes e f a b p q ea fb = one_failed bytes a b (fails_by bytes e a p ea) (fails_by bytes f b q fb)
