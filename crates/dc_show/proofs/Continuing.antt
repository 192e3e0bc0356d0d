-- A line and what stands behind it.
use Rattle.std.proofs.Common.{ap, ℕ, ◌<◌, List, ◌∷◌, length, arith}
use Rattle.std.proofs.lemmas.List.{length-append}
use Rattle.dc_show.specs.Shown.{IsFirstLine, IsShowError, IsLineError, Refuses, here, at_the_end, IsOneLine, without_return}
use Rattle.dc_show.specs.declared.error.FrameFault.{FrameFault}
use Rattle.dc_show.specs.declared.error.ShowError.{ShowError}
use Rattle.dc_show.specs.declared.error.ShowError.TheVariants.{BadFrame, NoMemory}

-- the rest is shorter
pub shorter : (bytes line rest : List ℕ) → IsFirstLine bytes line rest → length rest < length bytes
shorter bytes line rest first = omega (arith, ap length first.parts, length-append line (10 ∷ rest))

module _ (bytes rest : List ℕ) (number : ℕ) (from : (n : ℕ) (fault : FrameFault) → Refuses number rest n fault → Refuses 1 bytes n fault) where
  -- the error of a line that ends at a line feed
  pub error_here : (line behind : List ℕ) → IsFirstLine rest line behind → (e : ShowError) → IsLineError number (without_return line) e → IsShowError bytes e
  error_here line behind first NoMemory r = tt
  error_here line behind first (BadFrame n fault) r = from n fault (rw r.0 (here number rest line behind fault first r.1))

  -- and of the last one
  pub error_at_end : IsOneLine rest → (e : ShowError) → IsLineError number rest e → IsShowError bytes e
  error_at_end one NoMemory r = tt
  error_at_end one (BadFrame n fault) r = from n fault (rw r.0 (at_the_end number rest fault one r.1))
