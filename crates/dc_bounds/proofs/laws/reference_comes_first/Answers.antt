use Rattle.dc_bounds.proofs.FirstClock.{reference_within, reference_timed, reference_first}
use Rattle.dc_bounds.proofs.laws.reference_comes_first.Goals as goal

pub returns : goal.returns
returns c = record {
  clock = λ rows tree slaves timed q first. (reference_within rows tree slaves timed q first, reference_timed rows tree slaves timed q first);
  arrives = reference_first;
}
