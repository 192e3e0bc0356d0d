-- What slaves leave of a frame.
use Rattle.std.proofs.Common.{◌≡◌, ℕ, zero, suc, ◌+◌, ◌≤◌, List, [], ◌∷◌, length, map, replicate, Option, Some, None, Bool, true, false, nat_lt, ◌==◌, refl, ap, ap₂, ◌∙◌, arith}
use Rattle.std.specs.Prelude.{IfSome, slice_range}
use Rattle.std.specs.List.{AllByRecursion}
use Rattle.std.proofs.lemmas.Bool.Decides.{nat_tests}
use Rattle.ecat_frame.specs.FrameGrammar.{DatagramValue, FrameValue, spelling}
use Rattle.ecat_frame.specs.Difference.{wiped, wiped_datagram, first_apart, first_difference}
use Rattle.esc_regs.specs.RegisterAccess.{is_refused}
use Rattle.esc_regs.specs.ShownRegisters.{shown}
use Rattle.esc_regs.proofs.Exported.{range_length, not_past}
use Rattle.loss_list.specs.Losses.{loss_at}
use Rattle.loss_list.specs.declared.loss_row.Phase.{Phase}
use Rattle.frame_pass.specs.SlaveState.{Slave}
use Rattle.frame_pass.specs.LiveRegisters.{live, read_of}
use Rattle.frame_pass.specs.DatagramTable.{Doing, reads, merges}
use Rattle.frame_pass.specs.DatagramAtSlave.{merged, data_with, payload_after, datagram_after, slave_after, doing}
use Rattle.frame_pass.specs.FramePass.{datagrams_after, datagrams_passed, datagrams_behind, at_arrival}
use Rattle.frame_pass.specs.Replies.{unanswered_datagram, unanswered}
use Rattle.frame_pass.specs.Invariants.{IsSound, IsSoundSegment}
use Rattle.frame_pass.specs.SegmentState.{SegmentState, segment_step, carried, numbered, leaving, leaves_at, phase_of, number_of}
use Rattle.frame_pass.proofs.Sizes.{HasSize, size_shown}
use Rattle.frame_pass.proofs.Keeping.{kept_after}
use Rattle.frame_pass.proofs.Sound.{keeps_sound, sound_at, timely_numbered, timely_leaving, returns_by}

length-merged : (xs ys : List ℕ) → length (merged xs ys) ≡ length xs
unfolding merged
length-merged [] ys = refl
length-merged (x ∷ xs) [] = refl
length-merged (x ∷ xs) (y ∷ ys) = ap suc (length-merged xs ys)

length-data : (m : Bool) (xs ys : List ℕ) → length ys ≡ length xs → length (data_with m xs (Some ys)) ≡ length xs
length-data true xs ys e = length-merged xs ys
length-data false xs ys e = e

length-read : (m : Bool) (s : Slave) (addr : ℕ) (xs : List ℕ) → HasSize s.registers → length (data_with m xs (read_of s addr (length xs))) ≡ length xs
unfolding read_of
length-read m s addr xs whole = by (is_refused s.registers.kind addr (length xs)) refl
  where
    by : (b : Bool) → is_refused s.registers.kind addr (length xs) ≡ b → length (data_with m xs (read_of s addr (length xs))) ≡ length xs
    by true e = rw e refl
    by false e =
        let room : addr + length xs ≤ 4096 = not_past s.registers.kind addr (length xs) e in
        let bytes = (shown (live s.registers s.timing) s.registers).bytes in
        let size : length bytes ≡ 4096 = size_shown (live s.registers s.timing) s.registers whole in
        rw e (length-data m xs (slice_range bytes addr (addr + length xs)) (range_length bytes addr (length xs) (omega (arith, room, size))))

length-payload : (does : Doing) (s : Slave) (d : DatagramValue) → HasSize s.registers → length (payload_after does s d) ≡ length d.payload
unfolding payload_after
length-payload does s d whole = by (reads does) refl
  where
    by : (b : Bool) → reads does ≡ b → length (payload_after does s d) ≡ length d.payload
    by true e = rw e (length-read (merges d.head.command) s d.head.ado d.payload whole)
    by false e = rw e refl

-- what no slave changes of a datagram
abbrev pub IsLeft : {X : Type 0} → (DatagramValue → X) → Type 0
IsLeft part = (s : Slave) (d : DatagramValue) → HasSize s.registers → part (datagram_after s d) ≡ part d

same_unanswered : IsLeft unanswered_datagram
unfolding datagram_after
same_unanswered s d whole =
    ap (λ n. record d { head = record d.head { adp = 0 }; payload = replicate n 0; wkc = 0 }) (length-payload (doing s d) s d whole)

same_wiped : IsLeft wiped_datagram
unfolding datagram_after
same_wiped s d whole = ap (λ n. wiped_of n d) (length-payload (doing s d) s d whole)
  where
    wiped_of : ℕ → DatagramValue → DatagramValue
    wiped_of n d = record (wiped_datagram d) { payload = replicate n 0 }

same_datagrams : {X : Type 0} (part : DatagramValue → X) → IsLeft part → (trip limit : ℕ) (s : Slave) (ds : List DatagramValue) → IsSound trip limit s
    → map part (datagrams_after s ds) ≡ map part ds
unfolding datagrams_after
same_datagrams part left trip limit s [] h = refl
same_datagrams {X} part left trip limit s (d ∷ ds) h =
    let next = kept_after (λ t. t ≤ limit) (IsSound trip limit) (keeps_sound trip limit) s d h in
    ap₂ (λ (e : X) (es : List X). e ∷ es) (left s d h.size) (same_datagrams part left trip limit (slave_after s d) ds next)

same_at : {X : Type 0} (part : DatagramValue → X) → IsLeft part → (sent trip limit : ℕ) (s : Slave) (ds : List DatagramValue) → IsSound trip limit (at_arrival sent s)
    → map part (datagrams_passed sent s ds) ≡ map part ds
unfolding datagrams_passed
same_at part left sent trip limit s ds here = same_datagrams part left trip limit (at_arrival sent s) ds here

same_behind : {X : Type 0} (part : DatagramValue → X) → IsLeft part → (h sent trip limit : ℕ) (ss : List Slave) (ds : List DatagramValue) → sent + trip ≤ limit
    → AllByRecursion (IsSound trip limit) ss → map part (datagrams_behind h sent ss ds) ≡ map part ds
unfolding datagrams_behind
same_behind part left zero sent trip limit ss ds low a = refl
same_behind part left (suc h) sent trip limit [] ds low a = refl
same_behind part left (suc h) sent trip limit (s ∷ ss) ds low a =
    let at = a.0.visits.arrive in
    let here = sound_at trip limit (sent + s.visits.arrive) s (omega (arith, low, at)) a.0 in
    same_behind part left h sent trip limit ss (datagrams_passed sent s ds) low a.1 ∙ same_at part left sent trip limit s ds here

-- a reply with Q, whatever the slaves do
replied : (Q : FrameValue → Type 0) (s : SegmentState) (wait : ℕ) (f : FrameValue) → IsSoundSegment s
    → ((h sent trip limit : ℕ) (ss : List Slave) → sent + trip ≤ limit → AllByRecursion (IsSound trip limit) ss → Q (record f { datagrams = datagrams_behind h sent ss f.datagrams }))
    → IfSome (segment_step s wait f).1 Q
unfolding segment_step
replied Q s wait f h has = by (nat_lt s.sent 1000000) refl
  where
    left : Phase → SegmentState
    left phase = numbered phase (leaving (leaves_at s wait) s)

    from : (phase : Phase) (o : Option ℕ) → IfSome (carried o (left phase) f).1 Q
    from phase None = has (length (left phase).slaves) (left phase).last (left phase).round_trip (left phase).free (left phase).slaves
        (returns_by phase s (leaves_at s wait)) (timely_numbered phase (leaving (leaves_at s wait) s) (timely_leaving s (leaves_at s wait) (omega arith) h))
    from phase (Some n) = tt

    by : (b : Bool) → nat_lt s.sent 1000000 ≡ b → IfSome (segment_step s wait f).1 Q
    by true e = rw e (from (phase_of f.datagrams) (loss_at (left (phase_of f.datagrams)).losses (phase_of f.datagrams) (number_of (phase_of f.datagrams) (left (phase_of f.datagrams)))))
    by false e = rw e tt

pub same_reply : (s : SegmentState) (wait : ℕ) (f : FrameValue) → IsSoundSegment s → IfSome (segment_step s wait f).1 (λ g. unanswered g ≡ unanswered f)
same_reply s wait f h =
    replied (λ g. unanswered g ≡ unanswered f) s wait f h
    (λ n sent trip limit ss low a. ap (λ ds. record f { datagrams = ds }) (same_behind unanswered_datagram same_unanswered n sent trip limit ss f.datagrams low a))

none_apart : (xs : List ℕ) → first_apart xs xs ≡ None
none_apart [] = refl
none_apart (x ∷ xs) =
    let same : (x == x) ≡ true = grind (arith, nat_tests) in
    rw (same, none_apart xs) refl

pub none_differs : (f g : FrameValue) → wiped g ≡ wiped f → first_difference f g ≡ None
unfolding first_difference
none_differs f g e = rw e (none_apart (spelling (wiped f)))

pub no_difference : (s : SegmentState) (wait : ℕ) (f : FrameValue) → IsSoundSegment s → IfSome (segment_step s wait f).1 (λ g. first_difference f g ≡ None)
no_difference s wait f h =
    replied (λ g. first_difference f g ≡ None) s wait f h
    (λ n sent trip limit ss low a. none_differs f _ (ap (λ ds. record (wiped f) { datagrams = ds }) (same_behind wiped_datagram same_wiped n sent trip limit ss f.datagrams low a)))
