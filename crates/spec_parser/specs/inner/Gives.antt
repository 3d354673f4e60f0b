-- What a function of the parser returns, against the outcome of reading.
use Rattle.std.specs.Prelude.{◌≡◌, List, Option, Some, None, Result, Ok, Err}
use Rattle.spec_lexer.specs.declared.token.Token.{Token}
use Rattle.token_reader.specs.inner.Reader.{Unexpected, TooDeep, Outcome, Read, Stopped}
use Rattle.spec_parser.specs.declared.stop.Stop.{Stop}
use Rattle.spec_parser.specs.declared.stop.Stop.TheVariants as stop
use Rattle.spec_parser.specs.inner.Reading.{Reader}

abbrev pub Fails : {B : Type 0} → Stop → Outcome Token B → Type 0
Fails (stop.Unexpected rest) o = o ≡ Stopped Unexpected rest.now
Fails (stop.TooDeep rest) o = o ≡ Stopped TooDeep rest.now
Fails stop.Memory o = Unit {0}

-- seen by view, the outcome, unless memory ran out
abbrev pub Gives : {X B : Type 0} → (X → B × List Token) → Result X Stop → Outcome Token B → Type 0
Gives view (Ok x) o = o ≡ Read (view x).0 (view x).1
Gives view (Err e) o = Fails e o

abbrev pub IsMemory : Stop → Type 0
IsMemory (stop.Unexpected rest) = ⊥
IsMemory (stop.TooDeep rest) = ⊥
IsMemory stop.Memory = Unit {0}

abbrev pub IfOkOrMemory : {X : Type 0} → Result X Stop → (X → Type 0) → Type 0
IfOkOrMemory (Ok x) P = P x
IfOkOrMemory (Err e) P = IsMemory e

-- what is answered at a token that may begin an item: nothing where none does
abbrev pub TurnGives : {X B : Type 0} → (X → B × List Token) → Result (Option X) Stop → Option (Reader B) → List Token → Type 0
TurnGives view (Ok None) None ts = Unit {0}
TurnGives view (Ok None) (Some p) ts = ⊥
TurnGives view (Ok (Some x)) None ts = ⊥
TurnGives view (Ok (Some x)) (Some p) ts = p ts ≡ Read (view x).0 (view x).1
TurnGives view (Err e) None ts = IsMemory e
TurnGives view (Err e) (Some p) ts = Fails e (p ts)
