-- Which tokens are refused, and where.
use Rattle.std.specs.Prelude.{◌≡◌, ◌⊎◌, ℕ, suc, true, false, List, [], ◌∷◌, ◌++◌}
use Rattle.spec_lexer.specs.declared.token.Token.{Token}
use Rattle.syntax_tree.specs.Tree.{Item}
use Rattle.spec_parser.specs.Words.{may_open, opens_level}
use Rattle.spec_parser.specs.Grammar.{Spells}

-- some tree begins with the tokens, in which no more than so many levels are open
abbrev pub Begins : ℕ → List Token → Type 0
Begins room front = (more : List Token) × (items : List Item) × Spells room (front ++ more) items

-- tokens that open no level
abbrev pub ArePlain : List Token → Type 0
ArePlain [] = Unit {0}
ArePlain (t ∷ ts) = (may_open t.kind ≡ false) × ArePlain ts

-- more tokens after a front, before which its last token opens a level where it opens one before what is left
abbrev pub OpensAlike : List Token → List Token → List Token → Type 0
OpensAlike [] left more = Unit {0}
OpensAlike (t ∷ []) left more = opens_level t left ≡ true → opens_level t more ≡ true
OpensAlike (t ∷ u ∷ front) left more = OpensAlike (u ∷ front) left more

-- a tree begins with the front, in which no more than so many levels are open; it opens a level at the front's last token where
-- that opens one before what is left
abbrev pub BeginsAlike : ℕ → List Token → List Token → Type 0
BeginsAlike room front left = (more : List Token) × (items : List Item) × Spells room (front ++ more) items × OpensAlike front left more

-- none of the tokens, before the rest, is deeper: a tree begins with them, or with a front of them after which none may open a
-- level
abbrev pub IsWithin : ℕ → List Token → List Token → Type 0
IsWithin room tokens rest =
    (front : List Token) × (last : List Token)
    × (tokens ≡ front ++ last)
    × BeginsAlike room front (last ++ rest)
    × ArePlain last

-- a tree of any depth begins with the tokens of the front, but none with one token more, nor is the front a tree where nothing
-- is left; no token of the front is too deep
pub record IsUnexpected (room : ℕ) (ts front rest : List Token) : Type 0 where
  pub whole : ts ≡ front ++ rest
  pub within : IsWithin room front rest
  pub begun : (deeper : ℕ) × Begins deeper front
  pub refused : (t : Token) (us : List Token) → rest ≡ t ∷ us → (deeper : ℕ) → Begins deeper (front ++ t ∷ []) → ⊥
  pub unfinished : rest ≡ [] → (deeper : ℕ) (items : List Item) → Spells deeper ts items → ⊥

-- the token after the front opens the first level that is too deep: no token of the front is too deep, and a tree of one level
-- more begins with the front and the token, but none within the levels in which the token opens one
pub record IsTooDeep (room : ℕ) (ts front : List Token) (t : Token) (rest : List Token) : Type 0 where
  pub whole : ts ≡ front ++ t ∷ rest
  pub within : IsWithin room front (t ∷ rest)
  pub opens : opens_level t rest ≡ true
  pub begun : Begins (suc room) (front ++ t ∷ [])
  pub refused : (more : List Token) → opens_level t more ≡ true → (items : List Item) → Spells room (front ++ t ∷ more) items → ⊥

-- the tokens spell a tree, or are refused
abbrev pub HasAnswer : ℕ → List Token → Type 0
HasAnswer room ts =
    ((items : List Item) × Spells room ts items)
    ⊎ (((front : List Token) × (rest : List Token) × IsUnexpected room ts front rest)
    ⊎ ((front : List Token) × (t : Token) × (rest : List Token) × IsTooDeep room ts front t rest))
