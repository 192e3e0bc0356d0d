-- A frame that is sent a number of times.
use Rattle.std.proofs.Common.{◌≡◌, ℕ, ◌+◌, ◌<◌, nat_lt, if◌then◌else◌, List, [], length, Option, Some, None, refl, ◌∙◌, ap, arith, add-zero}
use Rattle.std.proofs.lemmas.List.{length_push}
use Rattle.std.proofs.lemmas.Bool.Decides.{nat_tests}
use Rattle.ecat_frame.specs.FrameGrammar.{FrameValue}
use Rattle.ecat_link.specs.Exchanges.{Exchange, StepOf, Follows, lost_among}
use Rattle.ecat_link.specs.Serves.{Next, Send, End, Serves}
use Rattle.ecat_link.proofs.Losses.{lost_then}
use Rattle.ecat_link.proofs.Serving.{serves_one, serves_then}

-- the script that sends the frame so many times, and answers how often it was lost
abbrev pub repeated : ℕ → FrameValue → ℕ → List Exchange → Next ℕ
repeated wait_ns frame times es = if nat_lt (length es) times then Send wait_ns frame else End (lost_among es)

-- n exchanges were made, and k of them were lost
pub record HasSent (n k : ℕ) (es : List Exchange) : Type 0 where
  pub count : length es ≡ n
  pub lost : lost_among es ≡ k

-- nothing was sent before
pub none_sent : (es : List Exchange) → es ≡ [] → HasSent 0 0 es
none_sent es e = rw e (record { count = refl; lost = refl })

-- the frame is to be sent again
sends : (wait_ns : ℕ) (frame : FrameValue) (times n : ℕ) (es : List Exchange) → n < times → length es ≡ n → repeated wait_ns frame times es ≡ Send wait_ns frame
sends w f times n es less e = rw e (grind (arith, nat_tests))

-- it was sent as often as is wanted
pub ends : (wait_ns : ℕ) (frame : FrameValue) (times n k : ℕ) (es : List Exchange) → n ≡ times → HasSent n k es → repeated wait_ns frame times es ≡ End k
ends w f times n k es e h = rw (h.count, h.lost, e) (grind (arith, nat_tests))

module _ {S : Type 0} (step : StepOf S) (wait_ns times : ℕ) (frame : FrameValue) where
  -- it is lost
  pub once_lost : (P : List Exchange → Type 0) (s t u : Option S) (n k : ℕ) → n < times → Serves step (repeated wait_ns frame times) P s t (HasSent n k)
      → Follows step t u (record { wait_ns = wait_ns; sent = frame; back = None })
      → Serves step (repeated wait_ns frame times) P s u (HasSent (n + 1) (k + 1))
  once_lost P s t u n k less p f =
      serves_then step _ P (HasSent n k) (HasSent (n + 1) (k + 1)) s t u p
      (serves_one step _ (HasSent n k) (HasSent (n + 1) (k + 1)) t u _ f
      (λ es h. (sends wait_ns frame times n es less h.count, record { count = length_push es _ ∙ ap (λ m. m + 1) h.count; lost = lost_then es _ ∙ ap (λ m. m + 1) h.lost })))

  -- it comes back
  pub once_came : (P : List Exchange → Type 0) (s t u : Option S) (n k : ℕ) (came : FrameValue) → n < times → Serves step (repeated wait_ns frame times) P s t (HasSent n k)
      → Follows step t u (record { wait_ns = wait_ns; sent = frame; back = Some came })
      → Serves step (repeated wait_ns frame times) P s u (HasSent (n + 1) k)
  once_came P s t u n k came less p f =
      serves_then step _ P (HasSent n k) (HasSent (n + 1) k) s t u p
      (serves_one step _ (HasSent n k) (HasSent (n + 1) k) t u _ f
      (λ es h. (sends wait_ns frame times n es less h.count, record { count = length_push es _ ∙ ap (λ m. m + 1) h.count; lost = lost_then es _ ∙ add-zero _ ∙ h.lost })))
