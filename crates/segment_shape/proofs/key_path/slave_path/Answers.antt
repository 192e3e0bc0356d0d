use Rattle.std.proofs.Common.{codes, arith, append_assoc}
use Rattle.std.proofs.lemmas.List.{length-append}
use Rattle.segment_shape.proofs.PathLemmas.{dotted_element, element_short_u8}
use Rattle.segment_shape.proofs.key_path.slave_path.Goals as goal

pub push_fault-requires-in-Rate : goal.push_fault-requires-in-Rate
push_fault-requires-in-Rate c =
    let slave = element_short_u8 (codes "slaves") c.from.result (omega arith) in
    let rate = element_short_u8 (codes "rates") c.from-in-Rate.result (omega arith) in
    simp (c.push_element-in-Rate.ensures, c.push_str.ensures.bytes, c.push_element.ensures, c.new-path.ensures, length-append) (omega (arith, slave, rate))

pub returns-in-Rate : goal.returns-in-Rate
returns-in-Rate c =
    simp (c.push_fault-in-Rate.ensures, c.push_element-in-Rate.ensures, c.push_str.ensures.bytes, c.push_element.ensures, c.new-path.ensures, c.from.ensures, c.from-in-Rate.ensures, c.in-Rate.is, dotted_element, append_assoc) cc
