use Rattle.copy_law.proofs.Readings.{offset_by_reading, reference_delay}
use Rattle.copy_law.proofs.laws.offsets_come_of_readings.Goals as goal

pub returns : goal.returns
returns c = record { offset = λ s run p it low clock. offset_by_reading s run it.legal it.is it.ok p low clock; reference = λ s run r it there. reference_delay s run it.legal it.is it.ok r there }
