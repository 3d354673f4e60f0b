-- No tree has two answers, other than out of memory.
use Rattle.std.proofs.Common.{◌≡◌, List, [], ◌∷◌, Some, Result, Ok, Err, sym, ap, ◌∙◌}
use Rattle.tsl_value.specs.declared.place.Place.{Place}
use Rattle.syntax_tree.specs.Tree as tree
use Rattle.syntax_tree.specs.inner.OneLevel.{items_of}
use Rattle.name_check.specs.declared.check.NameFault.{NameFault}
use Rattle.name_check.specs.declared.check.NameFault.TheVariants as fault
use Rattle.name_check.specs.Scope.{Scope}
use Rattle.name_check.specs.Faults.{first}
use Rattle.name_check.specs.inner.Answer.{IsAnswerOf}
use Rattle.name_check.specs.inner.Laws.{IsNotMemory, HasOneAnswer}

-- a list with a first place is not empty
not_empty : {A : Type 0} (xs : List Place) (p : Place) → first xs ≡ Some p → xs ≡ [] → A
not_empty [] p h e = cc
not_empty (x ∷ xs) p h e = cc

agree : (items : List tree.Item) (r s : Result Scope NameFault) → IsAnswerOf items r → IsAnswerOf items s → IsNotMemory r → IsNotMemory s → r ≡ s
agree items (Ok a) (Ok b) h k m n = ap Ok (h.2 ∙ sym k.2)
agree items (Ok a) (Err (fault.DefinedTwice q)) h k m n = not_empty _ q k h.0
agree items (Ok a) (Err (fault.UnknownName q)) h k m n = not_empty _ q k.1 h.1
agree items (Ok a) (Err fault.Memory) h k m n = absurd n
agree items (Err (fault.DefinedTwice p)) (Ok b) h k m n = not_empty _ p h k.0
agree items (Err (fault.DefinedTwice p)) (Err (fault.DefinedTwice q)) h k m n = cc (sym h ∙ k)
agree items (Err (fault.DefinedTwice p)) (Err (fault.UnknownName q)) h k m n = not_empty _ p h k.0
agree items (Err (fault.DefinedTwice p)) (Err fault.Memory) h k m n = absurd n
agree items (Err (fault.UnknownName p)) (Ok b) h k m n = not_empty _ p h.1 k.1
agree items (Err (fault.UnknownName p)) (Err (fault.DefinedTwice q)) h k m n = not_empty _ q k h.0
agree items (Err (fault.UnknownName p)) (Err (fault.UnknownName q)) h k m n = cc (sym h.1 ∙ k.1)
agree items (Err (fault.UnknownName p)) (Err fault.Memory) h k m n = absurd n
agree items (Err fault.Memory) s h k m n = absurd m

pub one_answer : HasOneAnswer
one_answer t r s h k m n = agree (items_of t) r s h k m n
