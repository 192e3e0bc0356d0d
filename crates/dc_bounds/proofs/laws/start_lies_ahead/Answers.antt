use Rattle.dc_bounds.proofs.RunLength.{start_after, start_soon, lead_periods, ahead, not_far, start_fits}
use Rattle.dc_bounds.proofs.laws.start_lies_ahead.Goals as goal

pub returns : goal.returns
returns c = record { after = start_after; soon = start_soon; lead = lead_periods; ahead = ahead; not_far = not_far; fits = start_fits }
