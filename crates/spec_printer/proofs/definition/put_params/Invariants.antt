use Rattle.std.proofs.Common.{◌≡◌, ◌++◌, take}
use Rattle.spec_lexer.specs.declared.token.Symbol.TheVariants as symbol
use Rattle.syntax_tree.specs.inner.OneLevel.{params_in}
use Rattle.spec_printer.specs.inner.Marks.{text_of}
use Rattle.spec_printer.specs.inner.Print.{param_marks_after}
use Rattle.spec_printer.proofs.Turns.{separator}
use Rattle.spec_printer.proofs.definition.put_params.Given as goal

abbrev pub invariant-loop-param : goal.invariant-loop-param
invariant-loop-param l = (l.before ≡ separator symbol.Open (params_in (take l.param-index l.params))) × (l.out ≡ l.initial.out ++ text_of (param_marks_after symbol.Open (params_in (take l.param-index l.params))))
