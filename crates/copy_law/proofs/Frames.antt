-- What a frame of commissioning leaves of the offsets and delays of all slaves.
use Rattle.std.proofs.Common.{◌≡◌, ◌≢◌, ℕ, ◌+◌, ◌^◌, ◌*◌, ◌<◌, ◌≤◌, Bool, true, false, nat_lt, List, Some, refl, sym, ap, subst, ◌∙◌, arith, inl, inr}
use Rattle.std.specs.Prelude.{⊤, slice_get, ◌==◌, ◌%◌}
use Rattle.std.proofs.lemmas.Bool.Decides.{nat_tests}
use Rattle.ecat_frame.specs.FrameGrammar.{DatagramValue, FrameValue}
use Rattle.esc_regs.specs.RegisterTable.{is_wide}
use Rattle.esc_regs.specs.declared.clock_kind.ClockKind.{ClockKind}
use Rattle.esc_regs.specs.Kinds.{has_clock}
use Rattle.frame_pass.specs.FramePass.{at_arrival, datagrams_behind, end_of, slave_passed}
use Rattle.frame_pass.specs.Invariants.{IsSound, IsSoundSegment}
use Rattle.frame_pass.specs.Reach.{reach_of}
use Rattle.frame_pass.specs.SegmentState.{SegmentState, leaves_at, segment_step}
use Rattle.frame_pass.specs.SlaveState.{Slave, delay, offset}
use Rattle.frame_pass.proofs.Exported.{step_reached, timely_leaving, aside_behind, left_by, sizes_of, sound_at}
use Rattle.frame_pass.specs.Aside.{AreAside, HaveSize, never_writes}
use Rattle.master_script.specs.Config.{ConfigValue}
use Rattle.master_script.specs.Frames.{set_datagrams, width as bytes_by}
use Rattle.master_script.specs.Steps.{datagrams_of}
use Rattle.master_script.specs.Words.{Words}
use Rattle.master_script.specs.declared.step.Step.{Step}
use Rattle.master_script.specs.declared.step.Step.TheVariants.{Count, Identify, Rate, Latch, Times, Set, Settle, Drift, Arm}
use Rattle.honest_slaves.specs.Mindful.{AreMindful}
use Rattle.honest_slaves.specs.Standing.{Stands, own_address}
use Rattle.honest_slaves.proofs.Exported.{Had, had_before, low_where, same_many, stands_at}
use Rattle.honest_slaves.specs.Told.{AreInOrder}
use Rattle.delay_law.specs.Far.{AreFar}
use Rattle.delay_law.proofs.Exported.{far_behind, far_left, each_after}
use Rattle.copy_law.proofs.Registers.{HoldsOn, on_same, passed_on}
use Rattle.copy_law.proofs.Writing.{delay_set, offset_set}

some_same : {X : Type 0} {x y : X} → Some x ≡ Some y → x ≡ y
some_same e = cc

-- the steps before Set
abbrev pub IsBefore : Step → Type 0
IsBefore Count = ⊤
IsBefore (Identify p) = ⊤
IsBefore Rate = ⊤
IsBefore Latch = ⊤
IsBefore (Times p) = ⊤
IsBefore step = ⊥

-- none of them writes the offset or the delay
pub far_before : (at n : ℕ) → 0x0920 ≤ at → at + n ≤ 0x092C → (cfg : ConfigValue) (w : Words) (step : Step) → IsBefore step → AreFar at n (datagrams_of cfg w step)
unfolding never_writes
far_before at n low high cfg w Count h own = (inl refl, tt)
far_before at n low high cfg w (Identify p) h own = (inr (inr (inl (omega (arith, low)))), (inl refl, (inl refl, (inl refl, tt))))
far_before at n low high cfg w Rate h own = (inr (inr (inr (omega (arith, high)))), tt)
far_before at n low high cfg w Latch h own = (inr (inr (inl (omega (arith, low)))), tt)
far_before at n low high cfg w (Times p) h own = (inl refl, (inl refl, tt))
far_before at n low high cfg w (Set p) h own = absurd h
far_before at n low high cfg w Settle h own = absurd h
far_before at n low high cfg w (Drift k) h own = absurd h
far_before at n low high cfg w (Arm p) h own = absurd h

-- and Set writes at its own slave alone
differ : (a b : ℕ) → (a ≡ b → ⊥) → (a == b) ≡ false
differ a b far = grind (arith, nat_tests, far)

another : (p q : ℕ) → q ≢ p → (own_address p == own_address q) ≡ false
another p q other = differ (own_address p) (own_address q) (λ e. other (omega (arith, e)))

set_aside : (at n p q : ℕ) (wide : Bool) (x y : ℕ) → q ≢ p → AreAside at n (own_address q) (set_datagrams p wide x y)
set_aside at n p q wide x y other = (inr (inl (refl, another p q other)), (inr (inl (refl, another p q other)), tt))

is_below : (p n : ℕ) → p < n → nat_lt p n ≡ true
is_below p n low = grind (arith, nat_tests, low)

-- the slaves behind a frame, one by one, hold on what they held
abbrev pub AreHeldOn : (ℕ → Type 0) → List Slave → List Slave → Type 0
AreHeldOn P ss us = (q : ℕ) (v u : Slave) → P q → slice_get ss q ≡ Some v → slice_get us q ≡ Some u → HoldsOn v u

module _ (t : SegmentState) (sound : IsSoundSegment t) (wait_ns : ℕ) (f : FrameValue) where
  abbrev at : ℕ
  at = leaves_at t wait_ns

  abbrev next : List Slave
  next = (segment_step t wait_ns f).0.slaves

  abbrev behind : ℕ → Slave → Slave
  behind q v = slave_passed at (end_of (reach_of t f) t.slaves) v (datagrams_behind q at t.slaves f.datagrams)

  sound_leaving : (q : ℕ) (v : Slave) → slice_get t.slaves q ≡ Some v → IsSound t.round_trip (at + t.round_trip) v
  sound_leaving q v is = sound_at t.round_trip (at + t.round_trip) t.slaves q v (timely_leaving t at (omega arith) sound) is

  sizes : HaveSize t.slaves
  sizes = sizes_of t.round_trip t.free t.slaves sound

  -- where that is so of those that it reaches
  held_on : (P : ℕ → Type 0) → ((q : ℕ) (v : Slave) → P q → slice_get t.slaves q ≡ Some v → HoldsOn v (behind q v)) → AreHeldOn P t.slaves next
  held_on P each q v u has is after =
      each_after (λ q v. slice_get t.slaves q ≡ Some v) (λ q u. (v : Slave) → P q → slice_get t.slaves q ≡ Some v → HoldsOn v u) t wait_ns f (record {
        passed = λ q v early reached is h w has there. subst (λ x. HoldsOn x (behind q v)) (some_same (sym is ∙ there)) (each q v has is);
        beyond = λ q v early past low is w has there. subst (λ x. HoldsOn x v) (some_same (sym is ∙ there)) (on_same v);
        unsent = λ q v late is w has there. subst (λ x. HoldsOn x v) (some_same (sym is ∙ there)) (on_same v);
      }) (λ q v is. is) q u after v has is

  pub before_held : AreFar 0x0920 8 f.datagrams → AreFar 0x0928 4 f.datagrams → AreHeldOn (λ q. ⊤) t.slaves next
  before_held offset delay =
      held_on (λ q. ⊤)
      (λ q v has is.
      let ds = datagrams_behind q at t.slaves f.datagrams in
      passed_on at t.round_trip (end_of (reach_of t f) t.slaves) v ds (sound_leaving q v is) (far_left 0x0920 8 (at_arrival at v) ds (far_behind 0x0920 8 q at t.slaves f.datagrams sizes offset))
      (far_left 0x0928 4 (at_arrival at v) ds (far_behind 0x0928 4 q at t.slaves f.datagrams sizes delay)))

  -- Set, where all are named
  module _ (kinds : ℕ → ClockKind) (statuses : ℕ → ℕ) (n : ℕ) (are : AreInOrder kinds statuses n n t.slaves) (p : ℕ) (wide : Bool) (x y : ℕ) (sets : f.datagrams ≡ set_datagrams p wide x y) where
    named : (q : ℕ) (v : Slave) → slice_get t.slaves q ≡ Some v → Stands (kinds q) (statuses q) true q v
    named q v is =
        let many = are.many in
        let within = low_where t.slaves q v is in
        subst (λ b. Stands (kinds q) (statuses q) b q v) (is_below q n (omega (arith, many, within))) (are.standing q v is)

    aside : (m k q : ℕ) → q ≢ p → AreAside m k (own_address q) (datagrams_behind q at t.slaves f.datagrams)
    aside m k q other = aside_behind m k (own_address q) q at t.slaves f.datagrams sizes (subst (AreAside m k (own_address q)) (sym sets) (set_aside m k p q wide x y other))

    -- at the other slaves
    pub others_held : AreHeldOn (λ q. q ≢ p) t.slaves next
    others_held =
        held_on (λ q. q ≢ p)
        (λ q v other is.
        let ds = datagrams_behind q at t.slaves f.datagrams in
        let h = stands_at (kinds q) (statuses q) true q (at + v.visits.arrive) v (named q v is) in
        passed_on at t.round_trip (end_of (reach_of t f) t.slaves) v ds (sound_leaving q v is)
        (left_by 0x0920 8 (own_address q) (at_arrival at v) ds h.slave.size h.address (aside 0x0920 8 q other) (aside 0x0010 2 q other))
        (left_by 0x0928 4 (own_address q) (at_arrival at v) ds h.slave.size h.address (aside 0x0928 4 q other) (aside 0x0010 2 q other)))

    -- at its own, where the frame comes so far
    module _ (clock : has_clock (kinds p) ≡ true) (is_width : wide ≡ is_wide (kinds p)) (fits : x < 2 ^ (8 * bytes_by wide)) (mindful : AreMindful 0 (set_datagrams p wide x y)) (early : t.sent < 1000000)
        (reached : p < reach_of t f) (u : Slave) (after : slice_get next p ≡ Some u) where
      had : Had (slice_get t.slaves p)
      had = had_before t.slaves p (let many = same_many t wait_ns f in let within = low_where next p u after in omega (arith, many, within))

      abbrev there : Slave
      there = had.slave

      is_there : slice_get t.slaves p ≡ Some there
      is_there = had.is

      abbrev by_kind : List DatagramValue
      by_kind = set_datagrams p (is_wide (kinds p)) x y

      sent_by_kind : f.datagrams ≡ by_kind
      sent_by_kind = sets ∙ ap (λ b. set_datagrams p b x y) is_width

      passed_is : slave_passed at (end_of (reach_of t f) t.slaves) there (datagrams_behind p at t.slaves by_kind) ≡ u
      passed_is =
          ap (λ ds. slave_passed at (end_of (reach_of t f) t.slaves) there (datagrams_behind p at t.slaves ds)) (sym sent_by_kind)
          ∙ some_same (sym (step_reached t wait_ns f p there early reached is_there) ∙ after)

      mindful_by_kind : AreMindful 0 by_kind
      mindful_by_kind = subst (λ b. AreMindful 0 (set_datagrams p b x y)) is_width mindful

      pub own_offset : offset u.registers ≡ x
      own_offset =
          ap (λ (v : Slave). offset v.registers) (sym passed_is)
          ∙ offset_set kinds statuses n at t.slaves are p there is_there clock x y mindful_by_kind t.round_trip (end_of (reach_of t f) t.slaves) (sound_leaving p there is_there)
          (subst (λ b. x < 2 ^ (8 * bytes_by b)) is_width fits)

      pub own_delay : delay u.registers ≡ y % 2 ^ 32
      own_delay =
          ap (λ (v : Slave). delay v.registers) (sym passed_is)
          ∙ delay_set kinds statuses n at t.slaves are p there is_there clock x y mindful_by_kind t.round_trip (end_of (reach_of t f) t.slaves) (sound_leaving p there is_there)
