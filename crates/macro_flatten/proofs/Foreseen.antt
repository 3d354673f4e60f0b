-- The streams that the definitions of the top will have.
use Rattle.std.proofs.Common.{◌≡◌, ℕ, zero, suc, ◌+◌, ◌-◌, ◌<◌, ◌≤◌, true, false, List, [], ◌∷◌, ◌++◌, map, length, get_or, take, set, Option, Some, None, refl, ap, sym, subst, ◌∙◌, add-one, arith, below_more, length-set}
use Rattle.std.specs.Prelude.{slice_get}
use Rattle.std.specs.Option.{option_map}
use Rattle.std.proofs.lemmas.Bool.{true≢false}
use Rattle.std.proofs.lemmas.List.{append-nil, length-map, take-map}
use Rattle.std.proofs.lemmas.Option.{slice_get_within}
use Rattle.syntax_tree.specs.Tree as tree
use Rattle.syntax_tree.specs.inner.OneLevel.{body_of, item_of}
use Rattle.syntax_tree.specs.declared.tree.DefinitionParts.{DefinitionParts}
use Rattle.syntax_tree.specs.declared.tree.Item.{Item}
use Rattle.type_rules.specs.Asked.{inner}
use Rattle.expr_types.specs.Around.{Around}
use Rattle.type_rules.specs.Kinds.{Kinds}
use Rattle.expr_types.specs.Bodies.{at_top}
use Rattle.stream_constructs.specs.declared.construct.Stream.{Stream}
use Rattle.spec_meaning.specs.Occurrence.{result_of}
use Rattle.checked_spec.specs.inner.Formed.{is_stream}
use Rattle.equation_marks.specs.inner.Counted.{counted}
use Rattle.equation_marks.specs.Marks.{Mark, body_marks, macro_marks, stream_marks}
use Rattle.equation_marks.proofs.Counts.{counted_then}
use Rattle.macro_flatten.specs.inner.Items.{AreForeseen, IsStreamDefinition, count_to}
use Rattle.macro_flatten.proofs.Lists.{items_more, no_stream_marks, stream_marks_after}
use Rattle.definition_cycles.specs.declared.limits.TheConstants.{MOST_CALLS}
use Rattle.flat_core.specs.declared.limits.TheConstants.{MOST_EQUATIONS}
use Rattle.function_bodies.proofs.EndLemmas.{item_at}

-- ---- a write in a list
pub set_same : {X : Type 0} (xs : List X) (i : ℕ) (x : X) → i < length xs → slice_get (set xs i x) i ≡ Some x
set_same [] i x lt = absurd (omega arith)
set_same (y ∷ xs) zero x lt = refl
set_same (y ∷ xs) (suc i) x lt = set_same xs i x (omega arith)

pub set_other : {X : Type 0} (xs : List X) (i j : ℕ) (x : X) → (j ≡ i → ⊥) → slice_get (set xs i x) j ≡ slice_get xs j
set_other [] i j x other = refl
set_other (y ∷ xs) zero zero x other = absurd (other refl)
set_other (y ∷ xs) zero (suc j) x other = refl
set_other (y ∷ xs) (suc i) zero x other = refl
set_other (y ∷ xs) (suc i) (suc j) x other = set_other xs i j x (λ h. other (ap suc h))

-- ---- the turns
abbrev pub foreseen : List tree.Item → Kinds → ℕ → ℕ → Option Stream
foreseen items kinds n i = option_map (λ t. record { id = count_to items kinds n i - 1; of = inner t }) (kinds.item i)

-- the definitions among the first k items are foreseen
pub record IsForeseenTo (xs : List Item) (kinds : Kinds) (n k count : ℕ) (old now : List (Option Stream)) : Type 0 where
  pub count_is : count ≡ counted n (stream_marks (map item_of xs) kinds 0 (map item_of (take k xs)))
  pub same_length : length now ≡ length xs
  pub definitions : (i : ℕ) → i < k → is_stream (slice_get (map item_of xs) i) ≡ true → slice_get now i ≡ Some (foreseen (map item_of xs) kinds n i)
  pub others : (i : ℕ) → is_stream (slice_get (map item_of xs) i) ≡ false → slice_get now i ≡ slice_get old i

pub none_foreseen : (xs : List Item) (kinds : Kinds) (n : ℕ) (old : List (Option Stream)) → n ≤ MOST_EQUATIONS → length old ≡ length xs → IsForeseenTo xs kinds n 0 n old old
none_foreseen xs kinds n old few same = record {
  count_is = omega arith;
  same_length = same;
  definitions = λ i lt is. absurd (omega arith);
  others = λ i is. refl;
}

pub all_foreseen : (xs : List Item) (kinds : Kinds) (n k count : ℕ) (old now : List (Option Stream)) → length xs ≤ k → IsForeseenTo xs kinds n k count old now → AreForeseen (map item_of xs) kinds n old now
all_foreseen xs kinds n k count old now past h = record { definitions = λ i is. h.definitions i (there i is) is; others = h.others }
  where
    there : (i : ℕ) → is_stream (slice_get (map item_of xs) i) ≡ true → i < k
    there i is = by (slice_get (map item_of xs) i) refl is
      where
        by : (o : Option tree.Item) → slice_get (map item_of xs) i ≡ o → is_stream o ≡ true → i < k
        by None none h = absurd (true≢false (sym h))
        by (Some item) some h = omega (arith, slice_get_within (map item_of xs) i item some, length-map xs item_of)

module _ (xs : List Item) (kinds : Kinds) (n k count : ℕ) (old now : List (Option Stream)) (item : Item) (lt : k < length xs) (is : item ≡ get_or xs k item) (h : IsForeseenTo xs kinds n k count old now) where
  abbrev items : List tree.Item
  items = map item_of xs

  -- the marks before it
  abbrev front : List Mark
  front = stream_marks items kinds 0 (map item_of (take k xs))

  marks_more : stream_marks items kinds 0 (map item_of (take (k + 1) xs)) ≡ front ++ stream_marks items kinds k (item_of item ∷ [])
  marks_more = ap (stream_marks items kinds 0) (items_more xs k item lt is) ∙ stream_marks_after items kinds xs k (item_of item ∷ []) lt

  -- another item
  none_more : is_stream (Some (item_of item)) ≡ false → IsForeseenTo xs kinds n (k + 1) count old now
  none_more other = record {
    count_is = h.count_is ∙ ap (counted n) (sym (marks_more ∙ ap (λ ms. front ++ ms) (no_stream_marks items kinds k (item_of item) other) ∙ append-nil front));
    same_length = h.same_length;
    definitions = below_more (λ i. is_stream (slice_get items i) ≡ true → slice_get now i ≡ Some (foreseen items kinds n i)) k h.definitions (λ stream. absurd (true≢false (sym stream ∙ ap is_stream (item_at xs k item lt is) ∙ other)));
    others = h.others;
  }

  pub other_turn : (next : ℕ) (new : List (Option Stream)) → is_stream (Some (item_of item)) ≡ false → next ≡ count → new ≡ now → IsForeseenTo xs kinds n (k + 1) next old new
  other_turn next new other same_count same_streams = subst (λ c. IsForeseenTo xs kinds n (k + 1) c old new) (sym same_count) (subst (λ l. IsForeseenTo xs kinds n (k + 1) count old l) (sym same_streams) (none_more other))

  -- a definition without parameters, which makes so many
  module _ (d : DefinitionParts) (around : Around) (next : ℕ) (new : List (Option Stream)) (def : IsStreamDefinition (item_of item) d) (place : around ≡ at_top items kinds k) (made : next ≡ counted count (body_marks around (macro_marks items kinds MOST_CALLS) (result_of (body_of d.body)))) (written : new ≡ set now k (option_map (λ t. record { id = next - 1; of = inner t }) (kinds.item k))) where
    abbrev own : List Mark
    own = body_marks (at_top items kinds k) (macro_marks items kinds MOST_CALLS) (result_of (body_of d.body))

    abbrev stream : Option Stream
    stream = option_map (λ t. record { id = next - 1; of = inner t }) (kinds.item k)

    own_marks : stream_marks items kinds k (item_of item ∷ []) ≡ own
    own_marks = ap (λ it. stream_marks items kinds k (it ∷ [])) def.is ∙ append-nil own

    next_is : next ≡ counted n (front ++ own)
    next_is = counted_then n count next front own h.count_is (made ∙ ap (λ a. counted count (body_marks a (macro_marks items kinds MOST_CALLS) (result_of (body_of d.body)))) place)

    up_to : stream_marks items kinds 0 (map item_of (take (k + 1) xs)) ≡ front ++ own
    up_to = marks_more ∙ ap (λ ms. front ++ ms) own_marks

    count_here : next ≡ count_to items kinds n k
    count_here = next_is ∙ ap (counted n) (sym up_to ∙ ap (stream_marks items kinds 0) (sym (ap (λ m. take m items) (sym (add-one k)) ∙ take-map item_of (k + 1) xs)))

    here : is_stream (slice_get items k) ≡ true
    here = ap is_stream (item_at xs k item lt is ∙ ap Some def.is)

    pub stream_turn : IsForeseenTo xs kinds n (k + 1) next old new
    stream_turn = record {
      count_is = next_is ∙ ap (counted n) (sym up_to);
      same_length = ap length written ∙ length-set now k stream ∙ h.same_length;
      definitions = below_more (λ i. is_stream (slice_get items i) ≡ true → slice_get new i ≡ Some (foreseen items kinds n i)) k
          (λ i low is_one. ap (λ l. slice_get l i) written ∙ set_other now k i stream (λ e. absurd (omega arith)) ∙ h.definitions i low is_one)
          (λ is_one. ap (λ l. slice_get l k) written ∙ set_same now k stream (omega (arith, h.same_length)) ∙ ap (λ m. Some (option_map (λ t. record { id = m - 1; of = inner t }) (kinds.item k))) count_here);
      others = λ i none. ap (λ l. slice_get l i) written ∙ set_other now k i stream (λ e. true≢false (sym here ∙ ap (λ j. is_stream (slice_get items j)) (sym e) ∙ none)) ∙ h.others i none;
    }
