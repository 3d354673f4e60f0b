-- The cycle that is answered is one of equations that are there.
use Rattle.std.proofs.Common.{◌≡◌, ℕ, ◌<◌, List, [], ◌∷◌, length, map, Some, None, ap, sym, ◌∙◌, subst}
use Rattle.std.specs.Prelude.{slice_get}
use Rattle.std.specs.List.{All}
use Rattle.std.proofs.lemmas.List.Elements.{All-nil, All-cons, All-get_or}
use Rattle.std.proofs.lemmas.Option.{slice_get_within, get_or_from_slice_get}
use Rattle.tsl_value.specs.declared.place.Place.{Place}
use Rattle.flat_core.specs.declared.equation.Equation.{Equation}
use Rattle.flat_core.specs.Complete.{IsFlat}
use Rattle.flat_core.specs.System.{System, equation}
use Rattle.flat_core.specs.WellFormed.{IsWellFormed}
use Rattle.syntax_tree.specs.Tree as tree
use Rattle.translation_order.specs.Order.{Before}
use Rattle.translation_order.specs.Cycle.{Through, IsCycle, IsCycleOfWalk}
use Rattle.translation_order.proofs.Alike.{cycle_alike}
use Rattle.translation_order.proofs.Cycles.{walked_cycle}
use Rattle.recursion_check.specs.Feeds.{Feeds}
use Rattle.recursion_check.proofs.FeedLemmas.{pairs, from_feeds, not_well_formed}
use Rattle.source_rules.specs.Source.{HasSystem, IsCyclic}
use Rattle.program_text.specs.Text.{label_text}

module _ (s : System) where
  abbrev pub IsThere : ℕ → Type 0
  IsThere i = i < length s.equations

  through_there : (a : ℕ) (xs : List ℕ) (b : ℕ) → Through (Feeds s) a xs b → IsThere b × All IsThere xs
  through_there a [] b h = (slice_get_within s.equations b h.at h.is, All-nil IsThere)
  through_there a (x ∷ xs) b h =
      let others = through_there x xs b h.1 in
      (others.0, All-cons IsThere x xs (slice_get_within s.equations x h.0.at h.0.is) others.1)

  -- the last of some edges leads to an equation
  last_there : (a : ℕ) (xs : List ℕ) (b : ℕ) → Through (Feeds s) a xs b → (e : Equation) × (equation s b ≡ Some e)
  last_there a [] b h = (h.at, h.is)
  last_there a (x ∷ xs) b h = last_there x xs b h.1

  -- each of its equations uses another one, and is there
  cycle_there : (cycle : List ℕ) → IsCycle (Feeds s) cycle → All IsThere cycle
  cycle_there cycle c =
      let there = through_there c.first c.rest c.first c.around in
      subst (All IsThere) (sym c.is) (All-cons IsThere c.first c.rest there.0 there.1)

  module _ (cycle : List ℕ) (walked : IsCycleOfWalk (length s.equations) (Feeds s) cycle) where
    abbrev pub as_cycle : IsCycle (Feeds s) cycle
    as_cycle = walked_cycle (length s.equations) (Feeds s) cycle walked

    pub walked_there : All IsThere cycle
    walked_there = cycle_there cycle as_cycle

    pub first_there : (e : Equation) × (equation s as_cycle.first ≡ Some e)
    first_there = last_there as_cycle.first as_cycle.rest as_cycle.first as_cycle.around

    pub there_at : (k i : ℕ) → slice_get cycle k ≡ Some i → IsThere i
    there_at k i at = subst IsThere (get_or_from_slice_get cycle k i i at) (All-get_or IsThere cycle k i (slice_get_within cycle k i at) walked_there)

    pub walked_some : slice_get cycle 0 ≡ None → ⊥
    walked_some none = let e = sym none ∙ ap (λ l. slice_get l 0) as_cycle.is in cc

    pub no_order : IsFlat s → IsWellFormed s → ⊥
    no_order flat = not_well_formed s flat cycle (cycle_alike (Feeds s) (Before (pairs s flat)) (from_feeds s flat) cycle as_cycle)

    -- with what its equations are called, and the place of the first
    pub is_cyclic : (source : List ℕ) (items : List tree.Item) (place : Place) (names : List (List ℕ)) (first : ℕ) (e : Equation) → HasSystem source items s → names ≡ map (label_text s) cycle → slice_get cycle 0 ≡ Some first → equation s first ≡ Some e → place ≡ e.place → IsCyclic source place names
    is_cyclic source items place names first e has names_are at there place_is = record {
      items = items;
      system = s;
      is_system = has;
      cycle = cycle;
      walked = walked;
      names_are = names_are;
      place_is = λ i rest d is at_i. place_is ∙ ap (λ (x : Equation). x.place) (same i rest d is at_i);
    }
      where
        same : (i : ℕ) (rest : List ℕ) (d : Equation) → cycle ≡ i ∷ rest → equation s i ≡ Some d → e ≡ d
        same i rest d is at_i =
            let begins : Some first ≡ Some i = sym at ∙ ap (λ l. slice_get l 0) is in
            let one : first ≡ i = cc in
            let whole : Some e ≡ Some d = sym there ∙ ap (equation s) one ∙ at_i in cc
