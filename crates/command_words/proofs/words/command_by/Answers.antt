use Rattle.std.proofs.Common.{◌∙◌, ap, sym}
use Rattle.std.proofs.lemmas.Result.{IfOk-weaker}
use Rattle.command_words.specs.declared.command.Form.TheVariants as form
use Rattle.command_words.specs.declared.words.Verb.{Verb}
use Rattle.command_words.specs.Words.{asked_by}
use Rattle.command_words.proofs.Commands.{written_asked}
use Rattle.command_words.proofs.words.command_by.Goals as goal

pub returns-in-Check : goal.returns-in-Check
returns-in-Check c =
    IfOk-weaker c.written_by.result _ _
    (λ asked says. λ words matches. written_asked form.Check words c.args.matches.now asked says matches ∙ ap (λ (v : Verb). asked_by v words) (sym c.in-Check.is)) c.written_by.ensures

pub returns-in-Flat : goal.returns-in-Flat
returns-in-Flat c =
    IfOk-weaker c.written_by-in-Flat.result _ _
    (λ asked says. λ words matches. written_asked form.Flat words c.args.matches.now asked says matches ∙ ap (λ (v : Verb). asked_by v words) (sym c.in-Flat.is)) c.written_by-in-Flat.ensures

pub returns-in-Show : goal.returns-in-Show
returns-in-Show c =
    IfOk-weaker c.written_by-in-Show.result _ _
    (λ asked says. λ words matches. written_asked form.Show words c.args.matches.now asked says matches ∙ ap (λ (v : Verb). asked_by v words) (sym c.in-Show.is)) c.written_by-in-Show.ensures

pub returns-in-Code : goal.returns-in-Code
returns-in-Code c =
    IfOk-weaker c.written_by-in-Code.result _ _
    (λ asked says. λ words matches. written_asked form.Code words c.args.matches.now asked says matches ∙ ap (λ (v : Verb). asked_by v words) (sym c.in-Code.is)) c.written_by-in-Code.ensures
