use Rattle.std.proofs.Common.{◌≡◌, Some, sym, ap, ◌∙◌}
use Rattle.std.specs.Prelude.{IsTrue}
use Rattle.flat_core.specs.System.{equation, runs}
use Rattle.alias_rules.specs.Uses.{read_of, passed_of, last_of, written_of}
use Rattle.alias_paths.proofs.Using.{use_added}
use Rattle.alias_paths.proofs.uses.push_uses.Goals as goal

pub returns : goal.returns
returns c =
    let s = c.args.flat.now in
    let number = c.args.number in
    let old = c.args.uses.now in
    let e = c.equation.result.now in
    let taken = c.taken_of-taken in
    let found : equation s number ≡ Some e = ap (equation s) (sym c.new-id.ensures) ∙ c.equation.ensures in
    let run : IsTrue (runs s number) = ap (runs s) (sym c.new-id.ensures) ∙ sym c.runs.ensures ∙ c.if-not-runs.false in
    record {
      read = use_added s number read_of taken.result.read.now e old.read c.push_variables.new.pairs found run taken.ensures.read c.in_ok-push_variables.ensures;
      passed = use_added s number passed_of taken.result.passed.now e old.passed c.push_variables-2.new.pairs found run taken.ensures.passed c.in_ok-push_variables-2.ensures;
      lasts = use_added s number last_of taken.result.last.now e old.lasts c.push_variables-3.new.pairs found run taken.ensures.last c.in_ok-push_variables-3.ensures;
      written = use_added s number written_of taken.result.written.now e old.written c.push_variables-4.new.pairs found run taken.ensures.written c.in_ok-push_variables-4.ensures;
    }
