use Rattle.std.specs.Prelude.{IfNone, IfSome}
use Rattle.std.proofs.Common.{Option, ℕ, subst}
use Rattle.slice_text.specs.Text.{HasOutput, IsOutputCalled}
use Rattle.slice_text.proofs.Named.{called_within}
use Rattle.slice_text.proofs.print.slice_text.Goals as goal

pub text_of-requires-clause-there : goal.text_of-requires-clause-there
text_of-requires-clause-there c =
    let name = c.args.name.now in
    called_within c.args.flat.now name c.in-Some.number (subst (λ (x : Option ℕ). IfSome x (IsOutputCalled c.args.flat.now name)) c.in-Some.is c.number_of.ensures.some)

pub returns-in_ok-text_of-in-Some-clause-some : goal.returns-in_ok-text_of-in-Some-clause-some
returns-in_ok-text_of-in-Some-clause-some c =
    let name = c.args.name.now in
    (c.in-Some.number, subst (λ (x : Option ℕ). IfSome x (IsOutputCalled c.args.flat.now name)) c.in-Some.is c.number_of.ensures.some, c.in_ok-text_of-in-Some.ensures)

pub returns-in-None-clause-none : goal.returns-in-None-clause-none
returns-in-None-clause-none c = subst (λ (x : Option ℕ). IfNone x (HasOutput c.args.flat.now c.args.name.now → ⊥)) c.in-None.is c.number_of.ensures.none
