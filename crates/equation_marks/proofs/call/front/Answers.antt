use Rattle.std.proofs.Common.{◌≡◌, [], ◌∷◌, ◌++◌, rules, sym, ap, ◌∙◌}
use Rattle.equation_marks.specs.inner.Calls.{front}
use Rattle.equation_marks.proofs.CallPartsLemmas.{front-append}
use Rattle.equation_marks.proofs.call.front.Goals as goal

pub returns-in-Some : goal.returns-in-Some
returns-in-Some c =
    let whole : c.args.arguments.now ≡ c.in-Some.streams.now ++ c.in-Some.field-0-0.now ∷ [] = search rules in
    sym (ap front whole ∙ front-append c.in-Some.streams.now c.in-Some.field-0-0.now)
