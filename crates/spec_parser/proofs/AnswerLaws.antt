-- Each list of tokens has an answer.
use Rattle.std.proofs.Common.{ℕ, List, [], ◌∷◌, refl, sym, subst, ◌∙◌, inl, inr, append_assoc}
use Rattle.spec_lexer.specs.declared.token.Token.{Token}
use Rattle.token_reader.specs.inner.Reader.{Unexpected, TooDeep, Outcome, Read, Stopped}
use Rattle.token_reader.proofs.Meets.{Meets}
use Rattle.syntax_tree.specs.Tree.{Item}
use Rattle.spec_parser.specs.inner.Reading.{specification}
use Rattle.spec_parser.specs.Grammar.{Spells}
use Rattle.spec_parser.specs.Refusals.{IsUnexpected, IsTooDeep, HasAnswer}
use Rattle.spec_parser.proofs.Items.{sound}
use Rattle.spec_parser.proofs.RefusalLaws.{Refuses, refused_rightly}

answer : (room : ℕ) (ts : List Token) (o : Outcome Token (List Item)) → Meets (λ items rest. Spells room ts items) o → Refuses room ts o → HasAnswer room ts
answer room ts (Read items rest) m r = inl (items, m)
answer room ts (Stopped Unexpected rest) m r = inr (inl (r.0, rest, r.1))
answer room ts (Stopped TooDeep rest) m r = inr (inr (r.0, r.1, rest, r.2))

pub has_answer : (room : ℕ) (ts : List Token) → HasAnswer room ts
has_answer room ts = answer room ts (specification room ts) (sound room ts) (refused_rightly room ts)

-- and no tree beside a refusal
pub tree_or_unexpected : (room : ℕ) (ts : List Token) (items : List Item) (front rest : List Token) → Spells room ts items → IsUnexpected room ts front rest → ⊥
tree_or_unexpected room ts items front [] s u = u.unfinished refl room items s
tree_or_unexpected room ts items front (t ∷ us) s u = u.refused t us refl room (us, items, subst (λ l. Spells room l items) (u.whole ∙ sym (append_assoc front (t ∷ []) us)) s)

pub tree_or_too_deep : (room : ℕ) (ts : List Token) (items : List Item) (front : List Token) (t : Token) (rest : List Token) → Spells room ts items → IsTooDeep room ts front t rest → ⊥
tree_or_too_deep room ts items front t rest s u = u.refused rest u.opens items (subst (λ l. Spells room l items) u.whole s)
