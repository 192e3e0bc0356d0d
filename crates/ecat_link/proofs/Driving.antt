-- Exchanges that follow a script, and the run of the script.
use Rattle.std.proofs.Common.{◌≡◌, ℕ, zero, suc, ◌<◌, List, [], ◌∷◌, ◌++◌, length, Option, Some, None, refl, sym, ap, subst, ◌∙◌, append_assoc, arith}
use Rattle.std.proofs.lemmas.List.{append-nil}
use Rattle.ecat_frame.specs.FrameGrammar.{FrameValue}
use Rattle.ecat_link.specs.Drive.{Ending, IsDriven, drive, exchange_of}
use Rattle.ecat_link.specs.Exchanges.{Exchange, StepOf, Runs}
use Rattle.ecat_link.specs.Serves.{Next, Send, End, Sends}

some_same : {X : Type 0} {x y : X} → Some x ≡ Some y → x ≡ y
some_same e = cc

module _ {S A : Type 0} (step : StepOf S) (next : List Exchange → Next A) where
  turn_send : (n : ℕ) (before : List Exchange) (s : S) (e : Exchange) → next before ≡ Send e.wait_ns e.sent → drive step next (suc n) before s ≡ drive step next n (before ++ exchange_of step s e.wait_ns e.sent ∷ []) (step s e.wait_ns e.sent).0
  unfolding drive
  turn_send n before s e h = rw (h, drive) refl

  turn_end : (n : ℕ) (before : List Exchange) (s : S) (a : A) → next before ≡ End a → drive step next (suc n) before s ≡ Some (record { exchanges = before; state = s; answer = a })
  unfolding drive
  turn_end n before s a h = rw (h, drive) refl

  same_exchange : (s : S) (e : Exchange) → e.back ≡ (step s e.wait_ns e.sent).1 → e ≡ exchange_of step s e.wait_ns e.sent
  same_exchange s e h = ap (λ (b : Option FrameValue). record { wait_ns = e.wait_ns; sent = e.sent; back = b }) h

  -- exchanges that follow the script to its end are those of the run
  pub run_is : (es : List Exchange) (turns : ℕ) (before : List Exchange) (s : S) (t : Option S) (a : A) → Runs step (Some s) es t → Sends next before es → next (before ++ es) ≡ End a → length es < turns
      → (u : S) × (t ≡ Some u) × (drive step next turns before s ≡ Some (record { exchanges = before ++ es; state = u; answer = a }))
  run_is [] zero before s t a r d e l = absurd (omega arith)
  run_is [] (suc n) before s t a r d e l =
      (s, r, turn_end n before s a (ap next (sym (append-nil before)) ∙ e) ∙ ap (λ (b : List Exchange). Some (record { exchanges = b; state = s; answer = a })) (sym (append-nil before)))
  run_is (x ∷ es) zero before s t a r d e l = absurd (omega arith)
  run_is (x ∷ es) (suc n) before s t a r d e l =
      let b = append_assoc before (x ∷ []) es in
      let p = run_is es n (before ++ x ∷ []) (step s x.wait_ns x.sent).0 t a r.1 d.1 (ap next b ∙ e) (omega arith) in (
        p.0,
        p.1,
        turn_send n before s x d.0
            ∙ ap (λ y. drive step next n (before ++ y ∷ []) (step s x.wait_ns x.sent).0) (sym (same_exchange s x r.0))
            ∙ p.2
            ∙ ap (λ (z : List Exchange). Some (record { exchanges = z; state = p.0; answer = a })) b,
      )

  -- a run is made of exchanges that follow the script to its end
  pub driven : (turns : ℕ) (before : List Exchange) (s : S) (run : Ending S A) → drive step next turns before s ≡ Some run → IsDriven step next before s run
  unfolding drive
  driven zero before s run h = absurd (let x = h in cc)
  driven (suc turns) before s run h =
      by_next (next before) refl (λ wait_ns frame. driven turns (before ++ exchange_of step s wait_ns frame ∷ []) (step s wait_ns frame).0 run) h
    where
      at_end : (answer : A) → next before ≡ End answer → IsDriven step next before s (record { exchanges = before; state = s; answer = answer })
      at_end answer e = record { more = []; all = sym (append-nil before); runs = refl; script = tt; end = e }

      behind : (x : Exchange) → x ≡ exchange_of step s x.wait_ns x.sent → next before ≡ Send x.wait_ns x.sent
          → IsDriven step next (before ++ x ∷ []) (step s x.wait_ns x.sent).0 run → IsDriven step next before s run
      behind x same e d = record {
        more = x ∷ d.more;
        all = d.all ∙ append_assoc before (x ∷ []) d.more;
        runs = (ap (λ (y : Exchange). y.back) same, d.runs);
        script = (e, d.script);
        end = d.end;
      }

      by_next : (n : Next A) → next before ≡ n
          → ((wait_ns : ℕ) (frame : FrameValue) → drive step next turns (before ++ exchange_of step s wait_ns frame ∷ []) (step s wait_ns frame).0 ≡ Some run
          → IsDriven step next (before ++ exchange_of step s wait_ns frame ∷ []) (step s wait_ns frame).0 run)
          → (elim n [
            | End answer ↦ Some (record { exchanges = before; state = s; answer = answer })
            | Send wait_ns frame ↦ drive step next turns (before ++ exchange_of step s wait_ns frame ∷ []) (step s wait_ns frame).0
          ]) ≡ Some run
          → IsDriven step next before s run
      by_next (End answer) e go g =
          let same : record { exchanges = before; state = s; answer = answer } ≡ run = some_same g in
          subst (IsDriven step next before s) same (at_end answer e)
      by_next (Send wait_ns frame) e go g = behind (exchange_of step s wait_ns frame) refl e (go wait_ns frame g)
