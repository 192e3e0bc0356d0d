-- Where a script stands after one exchange more.
use Rattle.std.proofs.Common.{◌≡◌, List, [], ◌∷◌, ◌++◌, fold, refl}
use Rattle.ecat_link.specs.Exchanges.{Exchange}
use Rattle.master_script.specs.Config.{ConfigValue}
use Rattle.master_script.specs.Progress.{progress, after, beginning}

fold_push : {X Y : Type 0} (f : Y → X → Y) (a : Y) (xs : List X) (x : X) → fold f a (xs ++ x ∷ []) ≡ f (fold f a xs) x
fold_push f a [] x = refl
fold_push f a (y ∷ xs) x = fold_push f (f a y) xs x

pub progress_push : (cfg : ConfigValue) (es : List Exchange) (e : Exchange) → progress cfg (es ++ e ∷ []) ≡ after cfg (progress cfg es) e
unfolding progress
progress_push cfg es e = fold_push (after cfg) (beginning cfg) es e
