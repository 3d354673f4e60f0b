use Rattle.std.proofs.Common.{◌≡◌, ◌++◌, sym, ap, ◌∙◌}
use Rattle.name_check.specs.Scope.{meaning, seen}
use Rattle.name_check.specs.inner.Levels.{levels_of}
use Rattle.name_check.proofs.AgreeLemmas.{found_inside, found_outside}
use Rattle.name_check.proofs.scope.Scope.+find.Goals as goal

pub returns-in-Some : goal.returns-in-Some
returns-in-Some t c =
    let whole : c.in-Inner.level ++ seen c.in-Inner.outer.now ≡ seen c.args.self.now = ap seen (sym (ap levels_of c.in-Inner.is) ∙ c.self.view_is) in
    found_inside c.in-Inner.level (seen c.in-Inner.outer.now) c.args.name.now c.in-Some.declaration c.in-Some.ensures ∙ ap (λ s. meaning s c.args.name.now) whole

pub returns-in-None : goal.returns-in-None
returns-in-None t c =
    let whole : c.in-Inner.level ++ seen c.in-Inner.outer.now ≡ seen c.args.self.now = ap seen (sym (ap levels_of c.in-Inner.is) ∙ c.self.view_is) in
    found_outside c.in-Inner.level (seen c.in-Inner.outer.now) c.args.name.now c.find-in-None.result c.in-None.ensures c.find-in-None.ensures ∙ ap (λ s. meaning s c.args.name.now) whole

pub returns-in-Some-find : goal.returns-in-Some-find
returns-in-Some-find t c =
    let whole : c.in-Within.level.now ++ seen c.in-Within.outer.now ≡ seen c.args.self.now = ap seen (sym (ap levels_of c.in-Within.is) ∙ c.self.view_is) in
    found_inside c.in-Within.level.now (seen c.in-Within.outer.now) c.args.name.now c.in-Some-find.declaration c.in-Some-find.ensures ∙ ap (λ s. meaning s c.args.name.now) whole

pub returns-in-None-find : goal.returns-in-None-find
returns-in-None-find t c =
    let whole : c.in-Within.level.now ++ seen c.in-Within.outer.now ≡ seen c.args.self.now = ap seen (sym (ap levels_of c.in-Within.is) ∙ c.self.view_is) in
    found_outside c.in-Within.level.now (seen c.in-Within.outer.now) c.args.name.now c.find-in-None-find.result c.in-None-find.ensures c.find-in-None-find.ensures ∙ ap (λ s. meaning s c.args.name.now) whole
