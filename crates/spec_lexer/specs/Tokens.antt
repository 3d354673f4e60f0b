-- What a contract sees of the tokens of a source.
use Rattle.std.specs.Prelude.{List, refl}
use Rattle.std.specs.Coded.{Coded, code_by, coded×, coded_list}
use Rattle.tsl_value.specs.declared.place.Place.{Place}
use Rattle.tsl_value.specs.contracts.place.Place as place_row
use Rattle.spec_lexer.specs.declared.token.Token.{Token}
use Rattle.spec_lexer.specs.contracts.token.Token as token_row

-- the tokens, and the place after the last character of the source
pub record Spelled : Type 0 where
  pub tokens : List Token
  pub end : Place

abbrev pub spelled_code : Coded Spelled
spelled_code =
    code_by (List Token × Place) (coded× (coded_list (token_row.the_row).coded) (place_row.the_row).coded) (λ s. (s.tokens, s.end))
    (λ p. record { tokens = p.0; end = p.1 }) (λ _. refl)
