use Rattle.std.proofs.Common.{arith}
use Rattle.std.proofs.lemmas.List.{get_or_default}
use Rattle.esc_regs.proofs.RowWrites.{one_on, one_off, by_table}
use Rattle.esc_regs.proofs.Storing.{is_stored}
use Rattle.esc_regs.proofs.rules.store_bytes.Goals as goal
use Rattle.esc_regs.proofs.rules.store_bytes.Goals.{then-stores, else-stores}

pub loop-row-preserved : goal.loop-row-preserved
loop-row-preserved c =
    let rows = c.rows-rows.result.now in
    let i = c.loop-row.row-index in
    let a = c.args in
    let l = c.loop-row in
    elim c.if-stores.branch [
      | then-stores w ↦ rw w.bytes_held-is
          (one_on rows i _ c.stores.result w.held.result a.kind a.in_range a.addr a.bytes.now a.bytes_held.now l.bytes_held w.store_in.new.held
          c.stores.ensures c.loop-row-test.true (get_or_default rows i _ _ c.loop-row-test.true) w.if-stores.true w.held.ensures.is w.store_in.auto.held w.store_in.ensures l.invariant)
      | else-stores w ↦ rw w.bytes_held-is
          (one_off rows i _ c.stores.result a.kind a.in_range a.addr a.bytes.now a.bytes_held.now l.bytes_held
          c.stores.ensures c.loop-row-test.true (get_or_default rows i _ _ c.loop-row-test.true) w.if-stores.false l.invariant)
    ]

pub returns : goal.returns
returns c =
    is_stored c.args.kind c.args.in_range c.args.addr c.args.bytes.now c.args.bytes_held.now c.loop-row.bytes_held
    (by_table c.rows-rows.result.now c.args.kind c.args.in_range c.args.addr c.args.bytes.now c.args.bytes_held.now c.loop-row.bytes_held c.loop-row.row-index c.rows-rows.ensures.table (omega arith) c.loop-row.invariant)
