-- The names among the tokens of a source are names of the language, and so are those of the items that they spell.
use Rattle.std.proofs.Common.{◌≡◌, ℕ, true, ◌&&◌, List, [], ◌∷◌, ◌++◌, refl, subst, sym, ap, ◌∙◌}
use Rattle.std.specs.List.{AllByRecursion}
use Rattle.std.specs.Str.{all_scalars, encode_utf8_all}
use Rattle.std.proofs.lemmas.Bool.{and_parts}
use Rattle.tsl_value.specs.declared.place.Place.{Place}
use Rattle.spec_lexer.specs.declared.token.Token.{Token}
use Rattle.spec_lexer.specs.declared.token.TokenKind.{TokenKind}
use Rattle.spec_lexer.specs.declared.token.TokenKind.TheVariants as kind
use Rattle.spec_lexer.specs.Pieces.{Makes}
use Rattle.spec_lexer.specs.Pieces as pieces
use Rattle.spec_lexer.specs.Source.{Lexes, HasTokens}
use Rattle.spec_lexer.specs.Source as source
use Rattle.spec_lexer.specs.Tokens.{Spelled}
use Rattle.compiled_code.specs.Held.{IsShortName}

-- ---- characters
front_scalars : (xs ys : List ℕ) → all_scalars (xs ++ ys) ≡ true → all_scalars xs ≡ true
front_scalars [] ys h = refl
front_scalars (x ∷ xs) ys h = let parts = and_parts _ _ h in λ k. parts.0 k && front_scalars xs ys parts.1 k

rest_scalars : (xs ys : List ℕ) → all_scalars (xs ++ ys) ≡ true → all_scalars ys ≡ true
rest_scalars [] ys h = h
rest_scalars (x ∷ xs) ys h = rest_scalars xs ys (and_parts _ _ h).1

-- ---- tokens
abbrev pub NamedToken : Token → Type 0
NamedToken t = (n : List ℕ) → t.kind ≡ kind.Name n → IsShortName n

name_is : (m n : List ℕ) → kind.Name m ≡ kind.Name n → m ≡ n
name_is m n h = cc

made_named : {front rest : List ℕ} {k : TokenKind} → Makes front rest k → all_scalars front ≡ true → (n : List ℕ) → k ≡ kind.Name n → IsShortName n
made_named (pieces.Makes.word name spelled) scalars n is = cc
made_named (pieces.Makes.name {first = first} {more = more} name no_word few) scalars n is =
    subst IsShortName (name_is (encode_utf8_all (first ∷ more)) n is) (
      record {
        first = first;
        more = more;
        text = record { scalars = scalars; encoded = refl };
        begins = name.begins;
        continues = name.run.all_pass;
        no_word = no_word;
      },
      few,
    )
made_named (pieces.Makes.number number fits) scalars n is = cc
made_named (pieces.Makes.text means few) scalars n is = cc
made_named (pieces.Makes.symbol symbol) scalars n is = cc

lexed_named : {at : Place} {last : ℕ} {characters : List ℕ} {tokens : List Token} → Lexes at last characters tokens → all_scalars characters ≡ true → AllByRecursion NamedToken tokens
lexed_named source.Lexes.end scalars = tt
lexed_named (source.Lexes.skip {front = front} {rest = rest} is skipped more) scalars =
    lexed_named more (rest_scalars front rest (ap all_scalars (sym is) ∙ scalars))
lexed_named (source.Lexes.token {front = front} {rest = rest} is makes more) scalars =
    let both = ap all_scalars (sym is) ∙ scalars in
    (λ n same. made_named makes (front_scalars front rest both) n same, lexed_named more (rest_scalars front rest both))

pub tokens_named : {bytes : List ℕ} {spelled : Spelled} → HasTokens bytes spelled → AllByRecursion NamedToken spelled.tokens
tokens_named (source.HasTokens.lexed few text lexes end) = lexed_named lexes text.scalars
