use Rattle.std.proofs.Common.{◌≡◌, ◌+◌, ◌≤◌, arith, length, take, drop, ap, sym, ◌∙◌}
use Rattle.std.proofs.lemmas.List.{drop_all, length-append, length-drop, take_rest}
use Rattle.dc_base.proofs.ToldLemmas.{Consumes-copied}
use Rattle.dc_base.proofs.mem_source.MemSourceSource.read.Goals as goal

pub returns-clause-bytes : goal.returns-clause-bytes
returns-clause-bytes c =
    let items = c.self.inside.bytes.items in
    let at = c.self.inside.at in
    let n = c.min-count.result in
    let buf = c.args.buf.now in
    let left : drop at items ≡ c.args.self.now.left = ap (λ s. s.left) c.self.view_is in
    let given : c.copy_from_slice.new.self ≡ take n (drop at items) = rw take_rest at (rw c.deref-2.ensures.value at c.copy_from_slice.ensures.after) in
    let fits : n ≤ length (drop at items) = rw length-drop (omega (arith, ap length c.deref-2.ensures.value)) in (
      sym left ∙ Consumes-copied items buf _ at n given fits,
      λ none room. drop_all (at + n) items (omega (arith, c.self.invariant, ap length c.deref-2.ensures.value, length-append c.copy_from_slice.new.self (drop n buf), length-drop n buf, ap length given)),
    )
