-- How many elements an array has.
use Rattle.std.proofs.Common.{◌≡◌, ◌∙◌, sym, ap, ℕ, ◌<◌, ◌≤◌, List, length, nat_le, true, false, Option, Some, None, rules, refl, option_and_then}
use Rattle.std.proofs.lemmas.Bool.Decides.{nat_tests}
use Rattle.serde_json.specs.Data.{Items}
use Rattle.serde_json.specs.View.{items_view}
use Rattle.serde_json.specs.declared.value.Value.{Value}
use Rattle.serde_json.proofs.Views.{items_len-items_view}
use Rattle.segment_shape.specs.Values.{few_items}

pub items_few : (most : ℕ) (vs us : List Value) (o : Option Items) → vs ≡ us → Some (items_view us) ≡ o → length vs ≤ most
    → Some (items_view vs) ≡ option_and_then (few_items most) o
items_few most vs us o same e h =
    let few : nat_le (length vs) most ≡ true = search (rules, nat_tests) in
    let k : few_items most (items_view vs) ≡ Some (items_view vs) = rw (items_len-items_view, few) refl in
    sym k ∙ ap (option_and_then (few_items most)) (ap (λ ws. Some (items_view ws)) same ∙ e)

pub items_many : (most : ℕ) (vs us : List Value) (o : Option Items) → vs ≡ us → Some (items_view us) ≡ o → most < length vs
    → None ≡ option_and_then (few_items most) o
items_many most vs us o same e h =
    let many : nat_le (length vs) most ≡ false = search (rules, nat_tests) in
    let k : few_items most (items_view vs) ≡ None = rw (items_len-items_view, many) refl in
    sym k ∙ ap (option_and_then (few_items most)) (ap (λ ws. Some (items_view ws)) same ∙ e)
