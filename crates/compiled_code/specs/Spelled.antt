-- Code and its file.
use Rattle.std.specs.Prelude.{◌≡◌, ℕ, List}
use Rattle.flat_core.specs.System.{System}
use Rattle.syntax_tree.specs.Tree as tree
use Rattle.register_code.specs.Code.{Code}
use Rattle.compiled_meaning.specs.Compiled.{Compiles}
use Rattle.alike_systems.specs.Alike.{AreAlike}
use Rattle.code_file.specs.Form.{HasSpelling, IsForm, bare_system}
use Rattle.code_file.specs.Spelling.{spelling}

-- the code of what is compiled has a spelling
abbrev pub CompiledCodeHasASpelling : Type 0
CompiledCodeHasASpelling = (source : List ℕ) (items : List tree.Item) (u : System) → Compiles source items u → HasSpelling u

-- a system is like what its spelling keeps of it
abbrev pub BareIsAlike : Type 0
BareIsAlike = (s : System) → AreAlike s (bare_system s)

-- Codes whose systems are alike, and whose plan is one.
pub record IsLikeCode (c d : Code) : Type 0 where
  pub alike : AreAlike c.system d.system
  pub one_set : c.in_place ≡ d.in_place
  pub one_order : c.order ≡ d.order

abbrev pub OneSpellingIsAlike : Type 0
OneSpellingIsAlike = (c d : Code) → IsForm c → IsForm d → spelling c ≡ spelling d → IsLikeCode c d
