-- The measured delays by the kinds, and by a configuration.
use Rattle.std.proofs.Common.{◌≡◌, ℕ, List, Option, None, slice_index_or, unwrap_or, refl, ap}
use Rattle.master_script.specs.Config.{ConfigValue}
use Rattle.master_script.specs.Words.{Words, delay_at, delay_by, delays_by, delays_of}

pub delays_by_kinds : (cfg : ConfigValue) (w : Words) → delays_of cfg w ≡ delays_by cfg.kinds w
unfolding delays_of
delays_by_kinds cfg w = refl

pub delay_by_kinds : (cfg : ConfigValue) (w : Words) (p : ℕ) → delay_at cfg w p ≡ delay_by cfg.kinds w p
delay_by_kinds cfg w p = ap (λ (ds : List (Option ℕ)). unwrap_or (slice_index_or ds p None) 0) (delays_by_kinds cfg w)
