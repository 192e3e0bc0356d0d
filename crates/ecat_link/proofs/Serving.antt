-- Exchanges one after another.
use Rattle.std.proofs.Common.{◌≡◌, List, [], ◌∷◌, ◌++◌, Option, Some, None, refl, sym, subst, append_assoc}
use Rattle.std.proofs.lemmas.List.{append-nil}
use Rattle.ecat_link.specs.Exchanges.{Exchange, StepOf, Runs, Follows}
use Rattle.ecat_link.specs.Serves.{Next, Send, Sends, Serves}

-- exchanges by the step, and then more
pub runs_then : {S : Type 0} (step : StepOf S) (es fs : List Exchange) (s t u : Option S) → Runs step s es t → Runs step t fs u → Runs step s (es ++ fs) u
runs_then step es fs None t u p q = tt
runs_then step [] fs (Some s) t u p q = subst (λ v. Runs step v fs u) p q
runs_then step (e ∷ es) fs (Some s) t u p q = (p.0, runs_then step es fs (Some (step s e.wait_ns e.sent).0) t u p.1 q)

-- exchanges that the script wants, and then more
sends_then : {A : Type 0} (next : List Exchange → Next A) (before es fs : List Exchange) → Sends next before es → Sends next (before ++ es) fs → Sends next before (es ++ fs)
sends_then next before [] fs p q = subst (λ b. Sends next b fs) (append-nil before) q
sends_then next before (e ∷ es) fs p q =
    (p.0, sends_then next (before ++ e ∷ []) es fs p.1 (subst (λ b. Sends next b fs) (sym (append_assoc before (e ∷ []) es)) q))

module _ {S A : Type 0} (step : StepOf S) (next : List Exchange → Next A) where
  -- nothing is sent
  pub serves_none : (P Q : List Exchange → Type 0) (s : Option S) → ((before : List Exchange) → P before → Q before) → Serves step next P s s Q
  serves_none P Q s h = record {
    exchanges = [];
    runs = elim s as (λ v. Runs step v [] v) [ None ↦ tt | Some x ↦ refl ];
    script = λ before p. tt;
    stands = λ before p. subst Q (sym (append-nil before)) (h before p);
  }

  -- one exchange
  pub serves_one : (P Q : List Exchange → Type 0) (s t : Option S) (e : Exchange) → Follows step s t e → ((before : List Exchange) → P before → (next before ≡ Send e.wait_ns e.sent) × Q (before ++ e ∷ [])) → Serves step next P s t Q
  serves_one P Q s t e f h = record {
    exchanges = e ∷ [];
    runs = elim s as (λ v. Follows step v t e → Runs step v (e ∷ []) t) [ None ↦ λ g. tt | Some x ↦ λ g. (g.1, g.0) ] f;
    script = λ before p. ((h before p).0, tt);
    stands = λ before p. (h before p).1;
  }

  -- exchanges, and then more
  pub serves_then : (P Q R : List Exchange → Type 0) (s t u : Option S) → Serves step next P s t Q → Serves step next Q t u R → Serves step next P s u R
  serves_then P Q R s t u p q = record {
    exchanges = p.exchanges ++ q.exchanges;
    runs = runs_then step p.exchanges q.exchanges s t u p.runs q.runs;
    script = λ before h. sends_then next before p.exchanges q.exchanges (p.script before h) (q.script (before ++ p.exchanges) (p.stands before h));
    stands = λ before h. subst R (append_assoc before p.exchanges q.exchanges) (q.stands (before ++ p.exchanges) (p.stands before h));
  }

  -- from a stronger claim, and to a weaker one
  pub serves_weaker : (P P' Q Q' : List Exchange → Type 0) (s t : Option S) → ((b : List Exchange) → P' b → P b) → ((b : List Exchange) → Q b → Q' b) → Serves step next P s t Q → Serves step next P' s t Q'
  serves_weaker P P' Q Q' s t f g p = record {
    exchanges = p.exchanges;
    runs = p.runs;
    script = λ before h. p.script before (f before h);
    stands = λ before h. g _ (p.stands before (f before h));
  }
