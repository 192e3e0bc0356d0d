-- A frame that is sent again while it is lost, at most three times.
use Rattle.std.specs.Prelude.{◌≡◌, ℕ, zero, suc, ◌≤◌, List, [], ◌∷◌, Option, Some, None}
use Rattle.ecat_frame.specs.FrameGrammar.{FrameValue}
use Rattle.ecat_link.specs.Exchanges.{Exchange}

-- the exchanges of a frame that was lost so often, each after the same wait, and then came back, if it did
abbrev pub tries : ℕ → FrameValue → ℕ → Option FrameValue → List Exchange
tries wait_ns frame zero None = []
tries wait_ns frame zero (Some back) = record { wait_ns = wait_ns; sent = frame; back = Some back } ∷ []
tries wait_ns frame (suc lost) back = record { wait_ns = wait_ns; sent = frame; back = None } ∷ tries wait_ns frame lost back

-- at most three tries: the frame came back after two losses at most, or was lost three times
abbrev pub AreTries : ℕ → Option FrameValue → Type 0
AreTries lost (Some back) = lost ≤ 2
AreTries lost None = lost ≡ 3
