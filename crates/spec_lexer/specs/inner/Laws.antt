-- Laws of sources: each has one list of tokens or one fault.
use Rattle.std.specs.Prelude.{◌≡◌, ◌⊎◌, ℕ, List}
use Rattle.spec_lexer.specs.declared.fault.LexFault.{LexFault}
use Rattle.spec_lexer.specs.Tokens.{Spelled}
use Rattle.spec_lexer.specs.Source.{HasTokens, HasFault}

-- a source has one list of tokens at most
abbrev pub OneList : Type 0
OneList = (source : List ℕ) (a b : Spelled) → HasTokens source a → HasTokens source b → a ≡ b

-- a source has one fault at most
abbrev pub OneFault : Type 0
OneFault = (source : List ℕ) (a b : LexFault) → HasFault source a → HasFault source b → a ≡ b

-- a source that has a fault has no tokens
abbrev pub FaultExcludesTokens : Type 0
FaultExcludesTokens = (source : List ℕ) (a : Spelled) (e : LexFault) → HasTokens source a → ¬ (HasFault source e)

-- each source has tokens or a fault
abbrev pub SomeAnswer : Type 0
SomeAnswer = (source : List ℕ) → ((spelled : Spelled) × HasTokens source spelled) ⊎ ((fault : LexFault) × HasFault source fault)
