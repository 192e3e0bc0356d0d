use Rattle.std.proofs.Common.{◌≡◌, ◌∙◌, sym, ap, rules, ◌+◌, ◌++◌, Err, inl, inr, arith, subst}
use Rattle.std.proofs.lemmas.List.{append_assoc}
use Rattle.dc_show.specs.Shown.{Shows, goes_on, ends, later, ShowsLine, IsLineError, IsShowError, without_return}
use Rattle.dc_show.proofs.Continuing.{error_here, error_at_end, shorter}
use Rattle.dc_show.proofs.OneAnswer.{own_refusal, no_refusal, text_or_refusal}
use Rattle.dc_show.proofs.lines.show.Goals as goal
use Rattle.dc_show.proofs.lines.show.Goals.{After-drop-text, After-drop-text-in_err-show_line-2, In_ok-show_line-2}

-- what the error of a line that ends at a line feed says of the input
told : (c : After-drop-text) → IsShowError c.args.bytes.now c.in_err-show_line.field-0.0
told c =
    error_here c.args.bytes.now c.loop-line.rest.now c.loop-line.number c.loop-line.invariant.refuses c.in-Some.line.now c.in-Some.behind.now c.in-Some.ensures c.in_err-show_line.field-0.0
    (subst (λ l. IsLineError c.loop-line.number l c.in_err-show_line.field-0.0) c.without_return.ensures c.in_err-show_line.ensures.err)

pub returns-in_err-show_line-clause-refused : goal.returns-in_err-show_line-clause-refused
returns-in_err-show_line-clause-refused c =
    let h : c.from_residual.result ≡ Err c.in_err-show_line.field-0.0 = search rules in
    rw h (told c)

pub returns-in_err-show_line-clause-exactly : goal.returns-in_err-show_line-clause-exactly
returns-in_err-show_line-clause-exactly c n fault r =
    let h : c.from_residual.result ≡ Err c.in_err-show_line.field-0.0 = search rules in
    elim (own_refusal c.args.bytes.now c.in_err-show_line.field-0.0 (told c) n fault r) [ inl e ↦ inl (h ∙ ap Err e) | inr e ↦ inr (h ∙ ap Err e) ]

pub returns-in_err-show_line-clause-only : goal.returns-in_err-show_line-clause-only
returns-in_err-show_line-clause-only c text s =
    let h : c.from_residual.result ≡ Err c.in_err-show_line.field-0.0 = search rules in
    rw h (no_refusal c.args.bytes.now c.in_err-show_line.field-0.0 (told c) text s)

pub loop-line-preserved : goal.loop-line-preserved
loop-line-preserved c =
    let number = c.loop-line.number in
    let rest = c.loop-line.rest.now in
    let line = c.in-Some.line.now in
    let behind = c.in-Some.behind.now in
    let first = c.in-Some.ensures in
    let added = c.in_ok-show_line.ensures.ok in
    let shown = subst (λ l. ShowsLine number l added.0) c.without_return.ensures added.1.0 in
    record {
      shows = λ text s.
          subst (Shows 1 c.args.bytes.now) (sym (append_assoc c.loop-line.text.items added.0 text) ∙ ap (λ t. t ++ text) (sym added.1.1))
          (c.loop-line.invariant.shows (added.0 ++ text) (goes_on number rest line behind added.0 text first shown s));
      refuses = λ n fault r. c.loop-line.invariant.refuses n fault (later number rest line behind added.0 n fault first shown r);
      few = let less = shorter rest line behind first in let few = c.loop-line.invariant.few in omega arith;
    }

-- and of the last line
told_at_end : (c : After-drop-text-in_err-show_line-2) → IsShowError c.args.bytes.now c.in_err-show_line-2.field-0.0
told_at_end c =
    error_at_end c.args.bytes.now c.loop-line.rest.now c.loop-line.number c.loop-line.invariant.refuses c.in_default.ensures c.in_err-show_line-2.field-0.0 c.in_err-show_line-2.ensures.err

pub returns-in_err-show_line-2-clause-refused : goal.returns-in_err-show_line-2-clause-refused
returns-in_err-show_line-2-clause-refused c =
    let h : c.from_residual-in_err-show_line-2.result ≡ Err c.in_err-show_line-2.field-0.0 = search rules in
    rw h (told_at_end c)

pub returns-in_err-show_line-2-clause-exactly : goal.returns-in_err-show_line-2-clause-exactly
returns-in_err-show_line-2-clause-exactly c n fault r =
    let h : c.from_residual-in_err-show_line-2.result ≡ Err c.in_err-show_line-2.field-0.0 = search rules in
    elim (own_refusal c.args.bytes.now c.in_err-show_line-2.field-0.0 (told_at_end c) n fault r) [ inl e ↦ inl (h ∙ ap Err e) | inr e ↦ inr (h ∙ ap Err e) ]

pub returns-in_err-show_line-2-clause-only : goal.returns-in_err-show_line-2-clause-only
returns-in_err-show_line-2-clause-only c text s =
    let h : c.from_residual-in_err-show_line-2.result ≡ Err c.in_err-show_line-2.field-0.0 = search rules in
    rw h (no_refusal c.args.bytes.now c.in_err-show_line-2.field-0.0 (told_at_end c) text s)

-- what was written is the text of the input
shown : (c : In_ok-show_line-2) → Shows 1 c.args.bytes.now c.show_line-2.new.text.items
shown c =
    let added = c.in_ok-show_line-2.ensures.ok in
    subst (Shows 1 c.args.bytes.now) (sym added.1.1) (c.loop-line.invariant.shows added.0 (ends c.loop-line.number c.loop-line.rest.now added.0 c.in_default.ensures added.1.0))

pub returns-clause-shown : goal.returns-clause-shown
returns-clause-shown c = shown c

pub returns-clause-exactly : goal.returns-clause-exactly
returns-clause-exactly c n fault r = absurd (text_or_refusal 1 c.args.bytes.now _ n fault (shown c) r)
