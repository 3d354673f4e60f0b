-- From the outcome of reading to what the parser answers.
use Rattle.std.proofs.Common.{◌≡◌, ℕ, ◌+◌, ◌-◌, ◌<◌, ◌≤◌, Some, List, [], ◌∷◌, ◌++◌, length, get_or, refl, ap, subst, ◌∙◌, arith, length-append}
use Rattle.tsl_value.specs.declared.place.Place.{Place}
use Rattle.spec_lexer.specs.declared.token.Token.{Token}
use Rattle.token_reader.specs.inner.Reader.{Unexpected, TooDeep, Outcome, Read, Stopped, many, rest_of}
use Rattle.token_reader.proofs.LocalLaws.{IsLocal, IsLocalTurn, shorter}
use Rattle.token_reader.proofs.Meets.{Meets, meets_bind, meets-many}
use Rattle.spec_parser.specs.declared.parse.ParseFault.TheVariants as fault
use Rattle.syntax_tree.specs.Tree.{Item}
use Rattle.spec_parser.specs.inner.Reading.{Reader, at_item, items_at, ended, specification}
use Rattle.spec_parser.specs.Grammar.{Spells}
use Rattle.spec_parser.specs.Answers.{place_at, IsFaultOf}
use Rattle.spec_parser.proofs.RefusalLaws.{Refuses, refused_rightly, spelled}
use Rattle.spec_parser.proofs.ItemLaws.{local_items, item_signs}
use Rattle.spec_parser.specs.declared.limits.TheConstants.{MOST_LEVELS}

pub tree_is : (room : ℕ) (ts : List Token) (items : List Item) → specification room ts ≡ Read items [] → Spells room ts items
tree_is = spelled

pub unexpected_is : (ts rest : List Token) (p end : Place) → specification MOST_LEVELS ts ≡ Stopped Unexpected rest → p ≡ place_at rest end → IsFaultOf (fault.Unexpected p) ts end
unexpected_is ts rest p end h at = let r = subst (Refuses MOST_LEVELS ts) h (refused_rightly MOST_LEVELS ts) in (r.0, rest, r.1, at)

pub too_deep_shorter : (room : ℕ) (ts rest : List Token) → specification room ts ≡ Stopped TooDeep rest → length rest < length ts
too_deep_shorter room ts rest h =
    let r = subst (Refuses room ts) h (refused_rightly room ts) in
    omega (arith, ap length r.2.whole, length-append r.0 (r.1 ∷ rest))

get_at : (front rest : List Token) (t d : Token) → get_or (front ++ t ∷ rest) (length front) d ≡ t
get_at [] rest t d = refl
get_at (x ∷ front) rest t d = get_at front rest t d

pub too_deep_is : (ts rest : List Token) (p end : Place) → specification MOST_LEVELS ts ≡ Stopped TooDeep rest → ((t : Token) → p ≡ (get_or ts (length ts - length rest - 1) t).place) → IsFaultOf (fault.TooDeep p) ts end
too_deep_is ts rest p end h at =
    let r = subst (Refuses MOST_LEVELS ts) h (refused_rightly MOST_LEVELS ts) in
    let t = r.1 in
    let index : length ts - length rest - 1 ≡ length r.0 = omega (arith, ap length r.2.whole, length-append r.0 (r.1 ∷ rest)) in
    (r.0, r.1, rest, r.2, at r.1 ∙ (λ k. (get_or (r.2.whole k) (index k) r.1).place) ∙ ap (λ x. x.place) (get_at r.0 rest r.1 r.1))

-- no more items than tokens
module _ (room : ℕ) where
  abbrev Counted : List Token → List Item → List Token → Type 0
  Counted ts items rest = length items + length rest ≤ length ts

  count_by : (t : Token) (ts : List Token) (o : Outcome Token Item) → length (rest_of o) ≤ length ts → Meets (λ i us. (others : List Item) (rest : List Token) → Counted us others rest → Counted (t ∷ ts) (i ∷ others) rest) o
  count_by t ts (Read i us) h = λ others rest k. omega arith
  count_by t ts (Stopped r us) h = tt

  count_go : (t : Token) (p : Reader Item) → at_item room t.place t.kind ≡ Some p → (ts : List Token) → Meets (λ i us. (others : List Item) (rest : List Token) → Counted us others rest → Counted (t ∷ ts) (i ∷ others) rest) (p ts)
  count_go t p is ts = let local : IsLocal item_signs p = subst (IsLocalTurn item_signs) is (local_items room t) in count_by t ts (p ts) (shorter item_signs p ts (p ts) (local ts))

  counts : (ts : List Token) → Meets (Counted ts) (many (items_at room) ts)
  counts = meets-many item_signs (items_at room) (local_items room) Counted (omega arith) (λ t ts h. omega arith) count_go

  counted : (ts : List Token) → Meets (λ items rest. length items ≤ length ts) (specification room ts)
  counted ts = meets_bind (Counted ts) (λ items rest. length items ≤ length ts) (many (items_at room) ts) ended (counts ts) by
    where
      by : (items : List Item) (us : List Token) → Counted ts items us → Meets (λ items rest. length items ≤ length ts) (ended items us)
      by items [] m = omega arith
      by items (u ∷ us) m = tt

  pub size_is : (ts : List Token) (items : List Item) → specification room ts ≡ Read items [] → length items ≤ length ts
  size_is ts items h = subst (Meets (λ items rest. length items ≤ length ts)) h (counted ts)
