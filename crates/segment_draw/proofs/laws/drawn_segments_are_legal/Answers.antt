use Rattle.segment_draw.proofs.LegalLemmas.{drawn_legal, generated_legal}
use Rattle.segment_draw.proofs.MadeLemmas.{all_low, length_drawn}
use Rattle.segment_draw.proofs.laws.drawn_segments_are_legal.Goals as goal

pub returns : goal.returns
returns c = record { drawn = drawn_legal; low = all_low; many = length_drawn; generated = generated_legal }
