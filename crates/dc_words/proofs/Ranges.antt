-- The numbers of a command lie in their ranges.
use Rattle.std.proofs.Common.{◌≡◌, ℕ, ◌≤◌, ◌-◌, ◌^◌, ◌&&◌, Bool, true, false, cond, List, codes, Option, Some, None, IfSome, option_and_then, subst, sym, bytes_eq, nat_le, refl}
use Rattle.std.proofs.lemmas.Bool.{and_parts, leb-true}
use Rattle.std.specs.Str.Parse.{digits_value}
use Rattle.dc_words.specs.declared.command.Command.{Command}
use Rattle.dc_words.specs.declared.command.Command.TheVariants.{Gen, Drill, Latch}
use Rattle.dc_words.specs.CommandOfWords.{Given, HasRanges, alone, asked, both, command_of, given, is_numeral, made, number_in, with_numbers}

number_lies : (low high : ℕ) (text : List ℕ) → IfSome (number_in low high text) (λ n. (low ≤ n) × (n ≤ high))
number_lies low high text = go (is_numeral text && nat_le low (digits_value 10 text) && nat_le (digits_value 10 text) high) refl
  where
    go : (b : Bool) → (is_numeral text && nat_le low (digits_value 10 text) && nat_le (digits_value 10 text) high) ≡ b
        → IfSome (cond b (Some (digits_value 10 text)) None) (λ n. (low ≤ n) × (n ≤ high))
    go true e =
        let p = and_parts _ _ e in
        let q = and_parts _ _ p.0 in
        (leb-true low (digits_value 10 text) q.1, leb-true (digits_value 10 text) high p.1)
    go false e = tt

both_lie : (make : ℕ → ℕ → Command) (Q : ℕ → Type 0) → ((a b : ℕ) → Q a → HasRanges (make a b)) → (o p : Option ℕ) → IfSome o Q → IfSome (both make o p) HasRanges
both_lie make Q step (Some a) (Some b) h = step a b h
both_lie make Q step (Some a) None h = tt
both_lie make Q step None b h = tt

either : (t : Bool) (x y : Option Command) → IfSome x HasRanges → IfSome y HasRanges → IfSome (cond t x y) HasRanges
either true x y h k = h
either false x y h k = k

alone_lies : (w : List ℕ) (edges : Bool) → IfSome (alone w edges) HasRanges
unfolding alone
alone_lies w true = either (bytes_eq w (codes "run")) _ _ tt tt
alone_lies w false =
    either (bytes_eq w (codes "run")) _ _ tt (either (bytes_eq w (codes "delays")) _ _ tt (either (bytes_eq w (codes "check")) _ _ tt
    (either (bytes_eq w (codes "show")) _ _ tt (either (bytes_eq w (codes "migrate")) _ _ tt (either (bytes_eq w (codes "trace")) _ _ tt
    (either (bytes_eq w (codes "audit")) _ _ tt (either (bytes_eq w (codes "again")) _ _ tt (either (bytes_eq w (codes "rate")) _ _ tt tt))))))))

numbers_lie : (w a b : List ℕ) → IfSome (with_numbers w a b) HasRanges
unfolding with_numbers
numbers_lie w a b =
    let n = number_in 0 (2 ^ 64 - 1) b in
    let slaves = number_lies 1 256 a in
    either (bytes_eq w (codes "gen")) _ _ (both_lie Gen (λ n. (1 ≤ n) × (n ≤ 256)) (λ _ _ h. h) (number_in 1 256 a) n slaves)
    (either (bytes_eq w (codes "drill")) _ _ (both_lie Drill (λ n. (1 ≤ n) × (n ≤ 256)) (λ _ _ h. h) (number_in 1 256 a) n slaves)
    (either (bytes_eq w (codes "latch")) _ _ (both_lie Latch (λ n. (0 ≤ n) × (n ≤ 255)) (λ _ _ h. h.1) (number_in 0 255 a) n (number_lies 0 255 a)) tt))

asked_lies : (w : List ℕ) (a b : Option (List ℕ)) (edges : Bool) → IfSome (asked w a b edges) HasRanges
asked_lies w None None edges = alone_lies w edges
asked_lies w None (Some b) edges = tt
asked_lies w (Some a) None edges = tt
asked_lies w (Some a) (Some b) true = tt
asked_lies w (Some a) (Some b) false = numbers_lie w a b

made_lies : (g : Given) → IfSome (made g) HasRanges
made_lies g = go g.command
  where
    go : (w : Option (List ℕ)) → IfSome (option_and_then (λ w. asked w g.first g.second g.edges) w) HasRanges
    go None = tt
    go (Some w) = asked_lies w g.first g.second g.edges

command_lies : (ws : List (List ℕ)) → IfSome (command_of ws) HasRanges
command_lies ws = go (given ws)
  where
    go : (o : Option Given) → IfSome (option_and_then made o) HasRanges
    go None = tt
    go (Some g) = made_lies g

pub in_ranges : (o : Option Command) (ws : List (List ℕ)) → o ≡ command_of ws → IfSome o HasRanges
in_ranges o ws e = subst (λ c. IfSome c HasRanges) (sym e) (command_lies ws)
