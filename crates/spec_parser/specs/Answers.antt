-- What the parser answers.
use Rattle.std.specs.Prelude.{◌≡◌, List, [], ◌∷◌, Result, Ok, Err}
use Rattle.tsl_value.specs.declared.place.Place.{Place}
use Rattle.spec_lexer.specs.declared.token.Token.{Token}
use Rattle.syntax_tree.specs.declared.tree.Tree.{Tree}
use Rattle.spec_parser.specs.declared.parse.ParseFault.{ParseFault}
use Rattle.spec_parser.specs.declared.parse.ParseFault.TheVariants as fault
use Rattle.syntax_tree.specs.Tree.{Item}
use Rattle.syntax_tree.specs.inner.OneLevel.{items_of}
use Rattle.spec_parser.specs.Refusals.{IsUnexpected, IsTooDeep}
use Rattle.spec_parser.specs.declared.limits.TheConstants.{MOST_LEVELS}

-- the first token's place, or the end of the source
abbrev pub place_at : List Token → Place → Place
place_at [] end = end
place_at (t ∷ ts) end = t.place

-- the fault is that of the tokens; out of memory is one of all tokens
abbrev pub IsFaultOf : ParseFault → List Token → Place → Type 0
IsFaultOf (fault.Unexpected p) ts end =
    (front : List Token) × (rest : List Token) × IsUnexpected MOST_LEVELS ts front rest × (p ≡ place_at rest end)
IsFaultOf (fault.TooDeep p) ts end =
    (front : List Token) × (t : Token) × (rest : List Token) × IsTooDeep MOST_LEVELS ts front t rest × (p ≡ t.place)
IsFaultOf fault.Memory ts end = Unit {0}

-- the answer is the tree of these items, that a token there is unexpected, or that it is too deep, unless memory ran out
abbrev pub IsTreeUnlessMemory : Result Tree ParseFault → List Item → Type 0
IsTreeUnlessMemory (Ok t) items = items_of t ≡ items
IsTreeUnlessMemory (Err fault.Memory) items = Unit {0}
IsTreeUnlessMemory (Err _) items = ⊥

abbrev pub IsUnexpectedUnlessMemory : Result Tree ParseFault → Place → Type 0
IsUnexpectedUnlessMemory (Err (fault.Unexpected p)) place = p ≡ place
IsUnexpectedUnlessMemory (Err fault.Memory) place = Unit {0}
IsUnexpectedUnlessMemory _ place = ⊥

abbrev pub IsTooDeepUnlessMemory : Result Tree ParseFault → Place → Type 0
IsTooDeepUnlessMemory (Err (fault.TooDeep p)) place = p ≡ place
IsTooDeepUnlessMemory (Err fault.Memory) place = Unit {0}
IsTooDeepUnlessMemory _ place = ⊥
