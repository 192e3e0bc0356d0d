-- Each frame of the script is of the grammar.
use Rattle.std.proofs.Common.{◌≡◌, ℕ, zero, suc, ◌+◌, ◌<◌, ◌≤◌, ◌^◌, Bool, true, false, List, [], ◌∷◌, ◌++◌, length, Option, Some, None, refl, sym, subst, replicate, arith}
use Rattle.std.specs.Int.{byte_at, bytes_low_first}
use Rattle.std.proofs.Math.Nat.{mod-lt}
use Rattle.std.proofs.lemmas.List.Elements.{All-nil, All-cons, All-append, All-replicate}
use Rattle.byteorder.specs.Endian.{little_bytes}
use Rattle.byteorder.specs.Numbers.{length-bytes_low_first}
use Rattle.ecat_frame.specs.Built.{built, size_of}
use Rattle.ecat_frame.specs.FrameGrammar.{AreBytes, DatagramValue, IsDatagram, IsFrame}
use Rattle.ecat_frame.specs.declared.command.Command.{Command}
use Rattle.ecat_frame.proofs.Exported.{IsFrame-built, length-all_spelled}
use Rattle.wrap_time.specs.WordLess.{word_less}
use Rattle.std.specs.List.{All}
use Rattle.master_script.specs.Config.{ConfigValue, plan_at}
use Rattle.master_script.specs.Frames.{asks, blank, station, width, count_datagrams, identify_datagrams, rate_datagrams, latch_datagrams, times_datagrams, set_datagrams, drift_datagram, drift_datagrams, arm_datagrams, sync1_or_0, activation}
use Rattle.master_script.specs.Steps.{datagrams_of, frame_of}
use Rattle.master_script.specs.Words.{Words, wide_at, reference_of, offset_at, delay_at, start_at}
use Rattle.master_script.specs.declared.step.Step.{Step}
use Rattle.master_script.specs.declared.step.Step.TheVariants.{Count, Identify, Rate, Latch, Times, Set, Settle, Drift, Arm}
use Rattle.master_script.proofs.Within.{StepWithin}

byte_at_lt : (i x : ℕ) → byte_at i x < 256
byte_at_lt zero x = mod-lt x (omega arith)
byte_at_lt (suc i) x = mod-lt _ (omega arith)

low_bytes : (i n x : ℕ) → AreBytes (bytes_low_first i n x)
low_bytes i zero x = All-nil (λ b. b < 256)
low_bytes i (suc n) x = All-cons (λ b. b < 256) (byte_at i x) (bytes_low_first (suc i) n x) (byte_at_lt i x) (low_bytes (suc i) n x)

-- data that a datagram takes
record IsData (payload : List ℕ) : Type 0 where
  size : length payload ≤ 16
  bytes : AreBytes payload

blank_data : (n : ℕ) → n ≤ 16 → IsData (blank n)
blank_data n h = record {
  size = let z : ℕ = 0 in subst (λ k. k ≤ 16) (sym (length-blank n z)) h;
  bytes = All-replicate (λ b. b < 256) n 0 (omega arith);
}
  where
    length-blank : (n z : ℕ) → length (replicate n z) ≡ n
    length-blank zero z = refl
    length-blank (suc n) z = let a = length-blank n z in omega (arith, a)

number_data : (n x : ℕ) → n ≤ 16 → IsData (little_bytes n x)
number_data n x h = record { size = subst (λ k. k ≤ 16) (sym (length-bytes_low_first 0 n x)) h; bytes = low_bytes 0 n x }

width_few : (wide : Bool) → width wide ≤ 16
width_few true = omega arith
width_few false = omega arith

byte_data : (x : ℕ) → x < 256 → IsData (x ∷ [])
byte_data x h = record { size = omega arith; bytes = All-cons (λ b. b < 256) x [] h (All-nil (λ b. b < 256)) }

valid : (index : ℕ) (command : Command) (adp ado : ℕ) (payload : List ℕ) → index < 256 → adp < 2 ^ 16 → ado < 2 ^ 16 → IsData payload → IsDatagram (asks index command adp ado payload)
valid index command adp ado payload i a o d = let s = d.size in record {
  index = i;
  adp = a;
  ado = o;
  flags = omega arith;
  size = omega (arith, s);
  irq = omega arith;
  payload = d.bytes;
  wkc = omega arith;
}

at_station : (p : ℕ) → p < 256 → station p < 2 ^ 16
at_station p h = omega (arith, h)

module _ {X : Type 0} (P : X → Type 0) where
  one : (a : X) → P a → All P (a ∷ [])
  one a x = All-cons P a [] x (All-nil P)

  two : (a b : X) → P a → P b → All P (a ∷ b ∷ [])
  two a b x y = All-cons P a (b ∷ []) x (one b y)

  three : (a b c : X) → P a → P b → P c → All P (a ∷ b ∷ c ∷ [])
  three a b c x y z = All-cons P a (b ∷ c ∷ []) x (two b c y z)

  four : (a b c d : X) → P a → P b → P c → P d → All P (a ∷ b ∷ c ∷ d ∷ [])
  four a b c d x y z w = All-cons P a (b ∷ c ∷ d ∷ []) x (three b c d y z w)

  five : (a b c d e : X) → P a → P b → P c → P d → P e → All P (a ∷ b ∷ c ∷ d ∷ e ∷ [])
  five a b c d e x y z w v = All-cons P a (b ∷ c ∷ d ∷ e ∷ []) x (four b c d e y z w v)

count_valid : All IsDatagram count_datagrams
count_valid = one IsDatagram _ (valid 0 _ 0 0x0000 (blank 1) (omega arith) (omega arith) (omega arith) (blank_data 1 (omega arith)))

identify_valid : (p : ℕ) → p < 256 → All IsDatagram (identify_datagrams p)
identify_valid p h =
    four IsDatagram _ _ _ _
    (valid 0 _ (word_less 16 0 p) 0x0010 (little_bytes 2 (station p)) (omega arith) (mod-lt _ (omega arith)) (omega arith) (number_data 2 (station p) (omega arith)))
    (valid 1 _ (station p) 0x0008 (blank 2) (omega arith) (at_station p h) (omega arith) (blank_data 2 (omega arith)))
    (valid 2 _ (station p) 0x0110 (blank 2) (omega arith) (at_station p h) (omega arith) (blank_data 2 (omega arith)))
    (valid 3 _ (station p) 0x0910 (blank 4) (omega arith) (at_station p h) (omega arith) (blank_data 4 (omega arith)))

rate_valid : (speed : ℕ) → All IsDatagram (rate_datagrams speed)
rate_valid speed = one IsDatagram _ (valid 0 _ 0 0x0930 (little_bytes 2 speed) (omega arith) (omega arith) (omega arith) (number_data 2 speed (omega arith)))

latch_valid : All IsDatagram latch_datagrams
latch_valid = one IsDatagram _ (valid 0 _ 0 0x0900 (blank 4) (omega arith) (omega arith) (omega arith) (blank_data 4 (omega arith)))

times_valid : (p : ℕ) (wide : Bool) → p < 256 → All IsDatagram (times_datagrams p wide)
times_valid p wide h =
    two IsDatagram _ _
    (valid 0 _ (station p) 0x0900 (blank 16) (omega arith) (at_station p h) (omega arith) (blank_data 16 (omega arith)))
    (valid 1 _ (station p) 0x0918 (blank (width wide)) (omega arith) (at_station p h) (omega arith) (blank_data (width wide) (width_few wide)))

set_valid : (p : ℕ) (wide : Bool) (offset delay : ℕ) → p < 256 → All IsDatagram (set_datagrams p wide offset delay)
set_valid p wide offset delay h =
    two IsDatagram _ _
    (valid 0 _ (station p) 0x0920 (little_bytes (width wide) offset) (omega arith) (at_station p h) (omega arith) (number_data (width wide) offset (width_few wide)))
    (valid 1 _ (station p) 0x0928 (little_bytes 4 delay) (omega arith) (at_station p h) (omega arith) (number_data 4 delay (omega arith)))

drift_one_valid : (r : ℕ) → r < 256 → IsDatagram (drift_datagram r)
drift_one_valid r h = valid 0 _ (station r) 0x0910 (blank 4) (omega arith) (at_station r h) (omega arith) (blank_data 4 (omega arith))

drift_valid : (r : ℕ) → r < 256 → All IsDatagram (drift_datagrams r)
drift_valid r h = one IsDatagram _ (drift_one_valid r h)

activation_lt : (sync1_ns : Option ℕ) → activation sync1_ns < 256
activation_lt None = omega arith
activation_lt (Some ns) = omega arith

cycle_data : (cycle_ns sync1_ns : ℕ) → IsData (little_bytes 4 cycle_ns ++ little_bytes 4 sync1_ns)
cycle_data cycle_ns sync1_ns = record {
  size = omega arith;
  bytes = All-append (λ b. b < 256) (little_bytes 4 cycle_ns) (little_bytes 4 sync1_ns) (low_bytes 0 4 cycle_ns) (low_bytes 0 4 sync1_ns);
}

arm_valid : (r p : ℕ) (wide : Bool) (cycle_ns : ℕ) (sync1_ns : Option ℕ) (start : ℕ) → r < 256 → p < 256 → All IsDatagram (arm_datagrams r p wide cycle_ns sync1_ns start)
arm_valid r p wide cycle_ns sync1_ns start l h =
    five IsDatagram _ _ _ _ _ (drift_one_valid r l)
    (valid 1 _ (station p) 0x0981 (0 ∷ []) (omega arith) (at_station p h) (omega arith) (byte_data 0 (omega arith)))
    (valid 2 _ (station p) 0x09A0 (little_bytes 4 cycle_ns ++ little_bytes 4 (sync1_or_0 sync1_ns)) (omega arith) (at_station p h) (omega arith) (cycle_data cycle_ns (sync1_or_0 sync1_ns)))
    (valid 3 _ (station p) 0x0990 (little_bytes (width wide) start) (omega arith) (at_station p h) (omega arith) (number_data (width wide) start (width_few wide)))
    (valid 4 _ (station p) 0x0981 (activation sync1_ns ∷ []) (omega arith) (at_station p h) (omega arith) (byte_data (activation sync1_ns) (activation_lt sync1_ns)))

valid_of : (cfg : ConfigValue) (w : Words) (step : Step) → StepWithin 256 step → reference_of w < 256 → All IsDatagram (datagrams_of cfg w step)
valid_of cfg w Count h r = count_valid
valid_of cfg w (Identify p) h r = identify_valid p h
valid_of cfg w Rate h r = rate_valid cfg.speed
valid_of cfg w Latch h r = latch_valid
valid_of cfg w (Times p) h r = times_valid p (wide_at w p) h
valid_of cfg w (Set p) h r = set_valid p (wide_at w p) (offset_at cfg w p) (delay_at cfg w p) h
valid_of cfg w Settle h r = drift_valid (reference_of w) r
valid_of cfg w (Drift k) h r = drift_valid (reference_of w) r
valid_of cfg w (Arm p) h r =
    arm_valid (reference_of w) p (wide_at w p) cfg.cycle_ns (plan_at cfg p).sync1_ns (start_at cfg w + (plan_at cfg p).shift_ns) r h

-- the datagrams fit into a frame
pub record Fits (ds : List DatagramValue) : Type 0 where
  pub some : 0 < length ds
  pub few : 16 + size_of ds ≤ 98

times_fit : (p : ℕ) (wide : Bool) → Fits (times_datagrams p wide)
times_fit p true = record { some = omega arith; few = omega arith }
times_fit p false = record { some = omega arith; few = omega arith }

set_fit : (p : ℕ) (wide : Bool) (offset delay : ℕ) → Fits (set_datagrams p wide offset delay)
set_fit p true offset delay = record { some = omega arith; few = omega arith }
set_fit p false offset delay = record { some = omega arith; few = omega arith }

arm_fit : (r p : ℕ) (wide : Bool) (cycle_ns : ℕ) (sync1_ns : Option ℕ) (start : ℕ) → Fits (arm_datagrams r p wide cycle_ns sync1_ns start)
arm_fit r p true cycle_ns sync1_ns start = record { some = omega arith; few = omega arith }
arm_fit r p false cycle_ns sync1_ns start = record { some = omega arith; few = omega arith }

pub fit_of : (cfg : ConfigValue) (w : Words) (step : Step) → Fits (datagrams_of cfg w step)
fit_of cfg w Count = record { some = omega arith; few = omega arith }
fit_of cfg w (Identify p) = record { some = omega arith; few = omega arith }
fit_of cfg w Rate = record { some = omega arith; few = omega arith }
fit_of cfg w Latch = record { some = omega arith; few = omega arith }
fit_of cfg w (Times p) = times_fit p (wide_at w p)
fit_of cfg w (Set p) = set_fit p (wide_at w p) (offset_at cfg w p) (delay_at cfg w p)
fit_of cfg w Settle = record { some = omega arith; few = omega arith }
fit_of cfg w (Drift k) = record { some = omega arith; few = omega arith }
fit_of cfg w (Arm p) =
    arm_fit (reference_of w) p (wide_at w p) cfg.cycle_ns (plan_at cfg p).sync1_ns (start_at cfg w + (plan_at cfg p).shift_ns)

pub valid_frame : (cfg : ConfigValue) (w : Words) (step : Step) → StepWithin 256 step → reference_of w < 256 → IsFrame (frame_of cfg w step)
unfolding frame_of
valid_frame cfg w step h r =
    let ds = datagrams_of cfg w step in
    let f = fit_of cfg w step in
    let few = f.few in
    let size = length-all_spelled ds in
    IsFrame-built ds (valid_of cfg w step h r) f.some (omega (arith, few, size))

pub built_of : (cfg : ConfigValue) (w : Words) (step : Step) → frame_of cfg w step ≡ built (datagrams_of cfg w step)
unfolding frame_of
built_of cfg w step = refl
