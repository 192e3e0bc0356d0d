-- How many slaves answer, counted over slaves and over what a master was told.
use Rattle.std.proofs.Common.{◌≡◌, ℕ, zero, suc, ◌+◌, ◌<◌, ◌≤◌, Bool, true, false, cond, List, [], ◌∷◌, length, map, filter, Some, refl, sym, ap, ap₂, ◌∙◌, arith}
use Rattle.std.specs.Prelude.{slice_get, count_by, not}
use Rattle.std.specs.List.{sum_by, range_with_len}
use Rattle.std.proofs.lemmas.List.Sums.{length-filter, count_by-le-length, sum_by-cons}
use Rattle.std.proofs.lemmas.List.FromFn.{length-range_with_len, length-map-range_with_len, get_or-map-range_with_len}
use Rattle.std.proofs.lemmas.Simd.{map-map}
use Rattle.std.proofs.Math.Seq.{take-length}
use Rattle.ecat_frame.specs.FrameGrammar.{DatagramValue}
use Rattle.dc_bounds.specs.Weight.{flag}
use Rattle.dc_delay.specs.ShapeRows.{positions}
use Rattle.esc_regs.specs.RegisterAccess.{is_refused}
use Rattle.esc_regs.specs.declared.clock_kind.ClockKind.{ClockKind}
use Rattle.frame_pass.specs.SlaveState.{Slave}
use Rattle.frame_pass.specs.DatagramTable.{raised_by}
use Rattle.frame_pass.specs.FramePass.{datagrams_behind}
use Rattle.esc_regs.specs.Kinds.{measures, has_clock}
use Rattle.frame_pass.specs.Aside.{HaveSize}
use Rattle.frame_pass.specs.Counters.{gains}
use Rattle.frame_pass.proofs.Exported.{counts}
use Rattle.master_script.specs.Slaves.{SlaveWords, is_measuring, is_clock, measuring, clocks}
use Rattle.honest_slaves.specs.Broadcasts.{asks_all, accepting}
use Rattle.honest_slaves.proofs.Answering.{all_answer}
use Rattle.honest_slaves.specs.Told.{word_of, words_of, AreInOrder}
use Rattle.honest_slaves.proofs.ByKind.{IsFor, all, clock_word, measuring_word}

-- how many of the first n slaves are of a kind with P
abbrev pub number : (ClockKind → Bool) → (ℕ → ClockKind) → ℕ → ℕ
number P kinds n = count_by (λ q. P (kinds q)) (positions n)

-- over slaves
accepts : (P : ClockKind → Bool) (addr n : ℕ) (s : Slave) (k : ClockKind) → IsFor P addr n → s.registers.kind ≡ k → accepting addr n s ≡ cond (P k) 1 0
accepts P addr n s k for is = by (P k) (ap (λ x. is_refused x addr n) is ∙ for k)
  where
    by : (b : Bool) → is_refused s.registers.kind addr n ≡ not b → accepting addr n s ≡ cond b 1 0
    by true e = rw e refl
    by false e = rw e refl

answer_from : (P : ClockKind → Bool) (addr n : ℕ) (kinds : ℕ → ClockKind) (a : ℕ) (ss : List Slave) → IsFor P addr n → ((i : ℕ) (s : Slave) → slice_get ss i ≡ Some s → s.registers.kind ≡ kinds (a + i))
    → sum_by (accepting addr n) ss ≡ count_by (λ q. P (kinds q)) (range_with_len a (length ss))
answer_from P addr n kinds a [] for each = refl
answer_from P addr n kinds a (s ∷ ss) for each =
    sum_by-cons (accepting addr n) s ss
    ∙ ap₂ (λ x y. x + y) (accepts P addr n s (kinds a) for (each 0 s refl ∙ (let e : a + 0 ≡ a = omega arith in ap kinds e)))
    (answer_from P addr n kinds (a + 1) ss for (λ i v is. each (suc i) v is ∙ (let e : a + suc i ≡ a + 1 + i = omega arith in ap kinds e)))
    ∙ sym (sum_by-cons (λ q. cond (P (kinds q)) 1 0) a (range_with_len (a + 1) (length ss)))

pub answer : (P : ClockKind → Bool) (addr k : ℕ) (kinds : ℕ → ClockKind) (statuses : ℕ → ℕ) (n named : ℕ) (ss : List Slave) → IsFor P addr k → AreInOrder kinds statuses n named ss
    → sum_by (accepting addr k) ss ≡ number P kinds n
answer P addr k kinds statuses n named ss for are =
    answer_from P addr k kinds 0 ss for (λ i s is. (are.standing i s is).slave.kind_is ∙ (let e : i ≡ 0 + i = omega arith in ap kinds e))
    ∙ ap (λ m. count_by (λ q. P (kinds q)) (range_with_len 0 m)) are.many

-- over words
same_from : (p q : ℕ → Bool) (a n : ℕ) → ((i : ℕ) → a ≤ i → i < a + n → p i ≡ q i) → count_by p (range_with_len a n) ≡ count_by q (range_with_len a n)
same_from p q a zero each = refl
same_from p q a (suc n) each =
    sum_by-cons (λ x. cond (p x) 1 0) a (range_with_len (a + 1) n)
    ∙ ap₂ (λ x y. x + y) (ap (λ b. cond b 1 0) (each a (omega arith) (omega arith)))
    (same_from p q (a + 1) n (λ i low high. each i (omega (arith, low)) (omega (arith, high))))
    ∙ sym (sum_by-cons (λ x. cond (q x) 1 0) a (range_with_len (a + 1) n))

pub words_many : (kinds : ℕ → ClockKind) (statuses : ℕ → ℕ) (n : ℕ) → length (words_of kinds statuses n) ≡ n
words_many kinds statuses n = length-map-range_with_len (λ q. word_of (kinds q) (statuses q)) 0 n

pub flagged : (f : SlaveWords → Bool) (P : ClockKind → Bool) (kinds : ℕ → ClockKind) (statuses : ℕ → ℕ) (n q : ℕ) → ((k : ClockKind) (status : ℕ) → f (word_of k status) ≡ P k) → q < n
    → flag (map f (words_of kinds statuses n)) q ≡ P (kinds q)
flagged f P kinds statuses n q same low =
    ap (λ bs. flag bs q) (map-map f (λ q. word_of (kinds q) (statuses q)) (positions n))
    ∙ get_or-map-range_with_len (λ q. f (word_of (kinds q) (statuses q))) 0 n q q false low (omega arith)
    ∙ same (kinds q) (statuses q)

pub marked : (f : SlaveWords → Bool) (P : ClockKind → Bool) (kinds : ℕ → ClockKind) (statuses : ℕ → ℕ) (n : ℕ) → ((k : ClockKind) (status : ℕ) → f (word_of k status) ≡ P k)
    → length (filter (flag (map f (words_of kinds statuses n))) (positions (length (words_of kinds statuses n)))) ≡ number P kinds n
marked f P kinds statuses n same =
    length-filter (flag (map f (words_of kinds statuses n))) (positions (length (words_of kinds statuses n)))
    ∙ ap (λ m. count_by (flag (map f (words_of kinds statuses n))) (positions m)) (words_many kinds statuses n)
    ∙ same_from (flag (map f (words_of kinds statuses n))) (λ q. P (kinds q)) 0 n (λ i low high. flagged f P kinds statuses n i same (omega (arith, high)))

pub clocks_many : (kinds : ℕ → ClockKind) (statuses : ℕ → ℕ) (n : ℕ) → length (clocks (words_of kinds statuses n)) ≡ number has_clock kinds n
clocks_many kinds statuses n = marked is_clock has_clock kinds statuses n clock_word

pub measuring_many : (kinds : ℕ → ClockKind) (statuses : ℕ → ℕ) (n : ℕ) → length (measuring (words_of kinds statuses n)) ≡ number measures kinds n
measuring_many kinds statuses n = marked is_measuring measures kinds statuses n measuring_word

all_counted : (a n : ℕ) (kinds : ℕ → ClockKind) → count_by (λ q. all (kinds q)) (range_with_len a n) ≡ n
all_counted a zero kinds = refl
all_counted a (suc n) kinds =
    let rest = all_counted (a + 1) n kinds in
    sum_by-cons (λ (q : ℕ). cond true 1 0) a (range_with_len (a + 1) n) ∙ (let e : 1 + count_by (λ (q : ℕ). true) (range_with_len (a + 1) n) ≡ suc n = omega (arith, rest) in e)

pub all_many : (n : ℕ) (kinds : ℕ → ClockKind) → number all kinds n ≡ n
all_many n kinds = all_counted 0 n kinds

pub few_number : (P : ClockKind → Bool) (kinds : ℕ → ClockKind) (n : ℕ) → number P kinds n ≤ n
few_number P kinds n = let a = count_by-le-length (λ q. P (kinds q)) (positions n) in let b = length-range_with_len 0 n in omega (arith, a, b)

-- a datagram for all counts those that are of such a kind
sizes_of : (kinds : ℕ → ClockKind) (statuses : ℕ → ℕ) (named a : ℕ) (ss : List Slave) → ((i : ℕ) (s : Slave) → slice_get ss i ≡ Some s → length s.registers.bytes ≡ 4096) → HaveSize ss
sizes_of kinds statuses named a [] each = tt
sizes_of kinds statuses named a (s ∷ ss) each = (each 0 s refl, sizes_of kinds statuses named (a + 1) ss (λ i v is. each (suc i) v is))

raised_few : (g x c e : ℕ) → c ≡ 0 → g ≡ x → x ≤ 256 → e ≡ raised_by g c → e ≡ x
raised_few g x c e none same few is = omega (arith, none, same, few, is)

pub broadcast : (P : ClockKind → Bool) (kinds : ℕ → ClockKind) (statuses : ℕ → ℕ) (n named k sent : ℕ) (ss : List Slave) (ds : List DatagramValue) (d e : DatagramValue) → AreInOrder kinds statuses n named ss
    → IsFor P d.head.ado (length d.payload) → slice_get ds k ≡ Some d → asks_all d.head.command ≡ true → d.wkc ≡ 0 → slice_get (datagrams_behind (length ss) sent ss ds) k ≡ Some e
    → e.wkc ≡ number P kinds n
broadcast P kinds statuses n named k sent ss ds d e are for is asks fresh at =
    let sizes = sizes_of kinds statuses named 0 ss (λ i s there. (are.standing i s there).slave.size) in
    let sum : gains k (length ss) sent ss ds ≡ number P kinds n =
    all_answer k (length ss) sent ss ds d sizes is asks ∙ ap (sum_by (accepting d.head.ado (length d.payload))) (take-length ss)
    ∙ answer P d.head.ado (length d.payload) kinds statuses n named ss for are in
    raised_few (gains k (length ss) sent ss ds) (number P kinds n) d.wkc e.wkc fresh sum (let a = few_number P kinds n in let b = are.few in omega (arith, a, b))
    (counts k (length ss) sent ss ds d e is at (omega (arith, fresh)))
