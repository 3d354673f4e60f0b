use Rattle.std.proofs.Common.{sym, ap, ◌∙◌, chars}
use Rattle.std.specs.List.{list_all}
use Rattle.unicode_ident.specs.Ident.{is_xid_continue}
use Rattle.trace_reader.proofs.NameLemmas.{name_characters}
use Rattle.trace_reader.proofs.name.are_name_characters.Goals as goal

pub returns-then-begins_name : goal.returns-then-begins_name
returns-then-begins_name c =
    let is = rw c.chars-rest.ensures.rest at c.in-Some.ensures.steps.0 in
    c.all_go_on.ensures ∙ ap (λ text. list_all is_xid_continue (chars text)) c.as_str.ensures
    ∙ name_characters c.args.name.now _ c.in-Some.first c.utf8.name is (sym c.if-begins_name.ensures)
