use Rattle.segment_shape.proofs.ItemLemmas.{items_few, items_many}
use Rattle.segment_shape.proofs.value_at.items_of.Goals as goal

pub returns-then-items-most-clause-is : goal.returns-then-items-most-clause-is
returns-then-items-most-clause-is c =
    items_few c.args.most c.as_slice-items.result.now c.in_ok-as_array.field-0.now.items _ c.as_slice-items.ensures.value c.in_ok-as_array.ensures c.if-items-most.true

pub returns-else-items-most-clause-is : goal.returns-else-items-most-clause-is
returns-else-items-most-clause-is c =
    items_many c.args.most c.as_slice-items.result.now c.in_ok-as_array.field-0.now.items _ c.as_slice-items.ensures.value c.in_ok-as_array.ensures c.if-items-most.false
