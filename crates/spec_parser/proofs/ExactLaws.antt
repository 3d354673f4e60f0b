-- What is answered wherever tokens spell a tree or are refused.
use Rattle.std.proofs.Common.{List, Err, ap, ◌∙◌}
use Rattle.tsl_value.specs.declared.place.Place.{Place}
use Rattle.spec_lexer.specs.declared.token.Token.{Token}
use Rattle.spec_parser.specs.declared.parse.ParseFault.{ParseFault}
use Rattle.spec_parser.specs.declared.parse.ParseFault.TheVariants as fault
use Rattle.syntax_tree.specs.Tree.{Item}
use Rattle.spec_parser.specs.Grammar.{Spells}
use Rattle.spec_parser.specs.Refusals.{IsUnexpected, IsTooDeep}
use Rattle.spec_parser.specs.Answers.{place_at, IsFaultOf, IsTreeUnlessMemory, IsUnexpectedUnlessMemory, IsTooDeepUnlessMemory}
use Rattle.spec_parser.proofs.AnswerLaws.{tree_or_unexpected, tree_or_too_deep}
use Rattle.spec_parser.proofs.OneRefusal.{one_refusal, one_unexpected, one_too_deep}
use Rattle.spec_parser.specs.declared.limits.TheConstants.{MOST_LEVELS}

module _ (ts : List Token) (end : Place) where
  pub no_tree : (e : ParseFault) → IsFaultOf e ts end → (items : List Item) → Spells MOST_LEVELS ts items → IsTreeUnlessMemory (Err e) items
  no_tree (fault.Unexpected p) f items s = tree_or_unexpected MOST_LEVELS ts items f.0 f.1 s f.2
  no_tree (fault.TooDeep p) f items s = tree_or_too_deep MOST_LEVELS ts items f.0 f.1 f.2 s f.3
  no_tree fault.Memory f items s = tt

  pub that_unexpected : (e : ParseFault) → IsFaultOf e ts end → (front rest : List Token) → IsUnexpected MOST_LEVELS ts front rest → IsUnexpectedUnlessMemory (Err e) (place_at rest end)
  that_unexpected (fault.Unexpected p) f front rest u = f.3 ∙ ap (λ r. place_at r end) (one_unexpected MOST_LEVELS ts f.0 f.1 f.2 front rest u)
  that_unexpected (fault.TooDeep p) f front rest u = one_refusal MOST_LEVELS ts front rest u f.0 f.1 f.2 f.3
  that_unexpected fault.Memory f front rest u = tt

  pub that_too_deep : (e : ParseFault) → IsFaultOf e ts end → (front : List Token) (t : Token) (rest : List Token) → IsTooDeep MOST_LEVELS ts front t rest → IsTooDeepUnlessMemory (Err e) t.place
  that_too_deep (fault.Unexpected p) f front t rest d = one_refusal MOST_LEVELS ts f.0 f.1 f.2 front t rest d
  that_too_deep (fault.TooDeep p) f front t rest d = f.4 ∙ ap (λ r. place_at r end) (one_too_deep MOST_LEVELS ts f.0 f.1 f.2 f.3 front t rest d)
  that_too_deep fault.Memory f front t rest d = tt
