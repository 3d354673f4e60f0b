use Rattle.std.proofs.Common.{◌≡◌, true, false, sym, ap, ◌∙◌}
use Rattle.trace_reader.specs.Form.{is_blank, without_end}
use Rattle.trace_reader.proofs.TrimLemmas.{end_dropped, end_kept}
use Rattle.trace_reader.proofs.form.without_blanks_after.Goals as goal

pub returns-then-not-is_blank : goal.returns-then-not-is_blank
returns-then-not-is_blank c =
    let whole = c.in-Some.ensures.cases.0 in
    let kept : is_blank c.in-Some.last.now ≡ false = sym c.if-not-is_blank.ensures in
    whole ∙ sym (end_kept is_blank c.in-Some.others.now c.in-Some.last.now kept) ∙ ap (without_end is_blank) (sym whole) ∙ c.loop-last.invariant

pub loop-last-preserved : goal.loop-last-preserved
loop-last-preserved c =
    let whole = c.in-Some.ensures.cases.0 in
    let dropped : is_blank c.in-Some.last.now ≡ true = sym c.if-not-is_blank.ensures in
    sym (end_dropped is_blank c.in-Some.others.now c.in-Some.last.now dropped) ∙ ap (without_end is_blank) (sym whole) ∙ c.loop-last.invariant
