-- Tables of what is seen at the top.
use Rattle.name_check.specs.Scope.{Scope, Agree, functions_of}
use Rattle.definition_cycles.specs.declared.top.Top.{Top}

pub record IsTop (scope : Scope) (top : Top) : Type 0 where
  pub names : Agree top.names scope
  pub functions : Agree top.functions (functions_of scope)
