-- What a table says of rows.
use Rattle.std.specs.Prelude.{◌≡◌, ℕ, ◌<◌, ◌≤◌, Bool, true, Option, None, List, length}
use Rattle.std.specs.Option.{is_some}
use Rattle.std.proofs.Common.{sym, ap, ◌∙◌, inl, inr}
use Rattle.std.proofs.Math.ListN.{get_or-map}
use Rattle.std.proofs.lemmas.Bool.{cases_lt, false≢true}
use Rattle.std.proofs.lemmas.List.{length-map, get_or_past}
use Rattle.cable_tree.specs.declared.port.Above.{Above}
use Rattle.cable_tree.specs.Row.{Row, row_at, above}
use Rattle.dc_delay.specs.declared.slave.Slave.{Slave}
use Rattle.dc_delay.specs.ShapeRows.{tp_ns, tf_ns}
use Rattle.dc_delay.specs.Table.{no_slave, slave_at, row_of_slave, table_rows, table_measures}

pub table_length : (slaves : List Slave) → length (table_rows slaves) ≡ length slaves
table_length slaves = length-map slaves row_of_slave

pub table_row : (slaves : List Slave) (r : ℕ) → row_at (table_rows slaves) r ≡ row_of_slave (slave_at slaves r)
table_row slaves r = get_or-map row_of_slave slaves r no_slave

pub table_above : (slaves : List Slave) (r : ℕ) → above (table_rows slaves) r ≡ (slave_at slaves r).above
table_above slaves r = ap (λ (row : Row). row.above) (table_row slaves r)

pub table_tp : (slaves : List Slave) (r : ℕ) → tp_ns (table_rows slaves) r ≡ (slave_at slaves r).kind.tp_ns
table_tp slaves r = ap (λ (row : Row). row.tp_ns) (table_row slaves r)

pub table_tf : (slaves : List Slave) (r : ℕ) → tf_ns (table_rows slaves) r ≡ (slave_at slaves r).kind.tf_ns
table_tf slaves r = ap (λ (row : Row). row.tf_ns) (table_row slaves r)

-- what a slave that was read from it says
pub above_is : (slaves : List Slave) (r : ℕ) (slave : Slave) (o : Option Above) → slave ≡ slave_at slaves r → slave.above ≡ o → above (table_rows slaves) r ≡ o
above_is slaves r slave o read is = table_above slaves r ∙ ap (λ (s : Slave). s.above) (sym read) ∙ is

pub measures_is : (slaves : List Slave) (r : ℕ) (slave : Slave) (b : Bool) → slave ≡ slave_at slaves r → is_some slave.latch ≡ b → table_measures slaves r ≡ b
measures_is slaves r slave b read is = ap (λ (s : Slave). is_some s.latch) (sym read) ∙ is

pub tp_is : (slaves : List Slave) (r : ℕ) (slave : Slave) → slave ≡ slave_at slaves r → tp_ns (table_rows slaves) r ≡ slave.kind.tp_ns
tp_is slaves r slave read = table_tp slaves r ∙ ap (λ (s : Slave). s.kind.tp_ns) (sym read)

pub tf_is : (slaves : List Slave) (r : ℕ) (slave : Slave) → slave ≡ slave_at slaves r → tf_ns (table_rows slaves) r ≡ slave.kind.tf_ns
tf_is slaves r slave read = table_tf slaves r ∙ ap (λ (s : Slave). s.kind.tf_ns) (sym read)

-- nothing hangs past the end
pub above_past : (slaves : List Slave) (r : ℕ) → length slaves ≤ r → above (table_rows slaves) r ≡ None
above_past slaves r past = table_above slaves r ∙ ap (λ (s : Slave). s.above) (get_or_past slaves r no_slave past)

-- what measures is there
pub measures_within : (slaves : List Slave) (r : ℕ) → table_measures slaves r ≡ true → r < length slaves
measures_within slaves r is =
    elim (cases_lt r (length slaves)) [
      | inl lt ↦ lt
      | inr le ↦ absurd (false≢true (ap (λ (s : Slave). is_some s.latch) (sym (get_or_past slaves r no_slave le)) ∙ is))
    ]
