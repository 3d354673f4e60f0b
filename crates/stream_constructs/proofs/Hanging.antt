-- Equations hang together where what spreads from the last one along its arguments comes to all of them and to the parts.
use Rattle.std.proofs.Common.{◌≡◌, ◌⊎◌, ℕ, ◌+◌, ◌<◌, true, List, [], ◌∷◌, ◌++◌, map, length, Some, refl, sym, subst, inl, inr}
use Rattle.std.specs.Prelude.{slice_get}
use Rattle.std.specs.List.{AllByRecursion, Contains}
use Rattle.std.proofs.lemmas.Option.{slice_get_within}
use Rattle.flat_core.specs.declared.equation.Equation.{Equation}
use Rattle.translation_order.specs.Graph.{Path, Walk, edge, stay, onward}
use Rattle.flat_core.specs.System.{System}
use Rattle.flat_core.specs.TypedSystem.{IsOfType, IsTypedEquation}
use Rattle.flat_core.specs.Needed.{HasArgument}
use Rattle.flat_core.specs.WellFormed.{Needs, unguarded_of}
use Rattle.flat_core.proofs.Members.{all_from, all_at, all_append}
use Rattle.translation_order.proofs.PathLemmas.{walk_on, path_on}
use Rattle.flat_core.proofs.Depth.{unguarded_in}
use Rattle.stream_constructs.specs.declared.construct.Stream.{Stream}
use Rattle.stream_constructs.specs.Construct.{Construct}
use Rattle.stream_constructs.specs.Agree.{HangTogether, is_used_part, last_number}
use Rattle.stream_constructs.proofs.Numbered.{At, at_none, at_more, at_first, at_front, at_back, at_both, at_number}
use Rattle.stream_constructs.proofs.Making.{last_of_push}
use Rattle.tsl_value.proofs.Lists.{all_by_place, map_contains}

module _ (s : System) where
  abbrev pub Stands : ℕ → Equation → Type 0
  Stands i e = slice_get s.equations i ≡ Some e

  -- what spreads along the arguments after edges that are not guarded
  abbrev pub Spreads : (ℕ → Type 0) → Type 0
  Spreads Q = (i j : ℕ) → Needs s i j → Q i → Q j

  abbrev pub Reached : (ℕ → Type 0) → ℕ → List Stream → List Equation → Type 0
  Reached Q n parts before = At (λ i f. Q i) n before × AllByRecursion (λ a. Q a.id) parts

  -- where K holds of the parts and of the equations, it holds of the arguments
  abbrev pub Knows : (ℕ → Type 0) → ℕ → List Equation → Equation → Type 0
  Knows K n before e = At (λ i f. AllByRecursion K f.args) n before × AllByRecursion K e.args

  abbrev pub AreTyped : List Stream → List Equation → Equation → Type 0
  AreTyped parts before e = AllByRecursion (λ a. IsOfType s.equations a.id a.of) parts → AllByRecursion (IsTypedEquation s.equations) before × IsTypedEquation s.equations e

  module _ (c : Construct) (n : ℕ) (parts : List Stream) (before : List Equation) (e : Equation) (stands : At Stands n (before ++ e ∷ [])) where
    abbrev m : ℕ
    m = n + length before

    stands_last : Stands m e
    stands_last = at_first (at_back before (e ∷ []) stands)

    abbrev Known : ℕ → Type 0
    Known j = Contains (map (λ a. a.id) parts) j ⊎ ((i : ℕ) × (i < length (before ++ e ∷ [])) × (j ≡ n + i))

    pub hang_from :
        ((Q : ℕ → Type 0) → Spreads Q → Q m → AllByRecursion Q e.args → Reached Q n parts before)
        → ((k : ℕ) (a : Stream) → slice_get parts k ≡ Some a → is_used_part c k ≡ true → Path (Needs s) m a.id)
        → ((K : ℕ → Type 0) → AllByRecursion (λ a. K a.id) parts → At (λ i f. K i) n before → Knows K n before e)
        → AreTyped parts before e
        → HangTogether c (before ++ e ∷ []) n parts s
    hang_from spread falls knows typed =
        let is_last = sym (last_of_push n before e) in
        let from_last : (j : ℕ) → Walk (HasArgument s.equations) m j → Walk (HasArgument s.equations) (last_number n (before ++ e ∷ [])) j = λ j w. subst (λ i. Walk (HasArgument s.equations) i j) is_last w in
        let along : Spreads (λ j. Walk (HasArgument s.equations) m j) = λ i j need w. walk_on w (record { at = need.at; is = need.is; argument = unguarded_in need.at.op need.at.args j need.argument }) in
        let reached = spread (λ j. Walk (HasArgument s.equations) m j) along stay (all_from (λ j. Walk (HasArgument s.equations) m j) e.args (λ j there. onward (record { at = e; is = stands_last; argument = there }) stay)) in
        let everywhere : At (λ i f. Walk (HasArgument s.equations) m i) n (before ++ e ∷ []) = at_both before (e ∷ []) reached.0 (at_more stay at_none) in
        let numbered : At (λ i f. Known i) n (before ++ e ∷ []) = record { each = λ k f is. inr (k, slice_get_within (before ++ e ∷ []) k f is, refl) } in
        let known = knows Known (all_from (λ a. Known a.id) parts (λ a there. inl (map_contains (λ b. b.id) parts a there))) (at_front before (e ∷ []) numbered) in
        let arguments : At (λ i f. AllByRecursion Known f.args) n (before ++ e ∷ []) = at_both before (e ∷ []) known.0 (at_more known.1 at_none) in
        record {
          reach = λ k lt. from_last (n + k) (at_number (before ++ e ∷ []) everywhere k lt);
          reach_parts = λ a there. from_last a.id (all_at (λ b. Walk (HasArgument s.equations) m b.id) parts reached.1 a there);
          arguments = λ k f j is there. all_at Known f.args (arguments.each k f is) j there;
          falls = λ k a is used. subst (λ i. Path (Needs s) i a.id) is_last (falls k a is used);
          typed = λ of_type. let own = typed of_type in all_append (IsTypedEquation s.equations) before (e ∷ []) own.0 (own.1, tt);
        }

    -- where no edge of the last one is guarded
    pub hang :
        unguarded_of e.op e.args ≡ e.args
        → ((Q : ℕ → Type 0) → Spreads Q → AllByRecursion Q e.args → Reached Q n parts before)
        → ((K : ℕ → Type 0) → AllByRecursion (λ a. K a.id) parts → At (λ i f. K i) n before → Knows K n before e)
        → AreTyped parts before e
        → HangTogether c (before ++ e ∷ []) n parts s
    hang unguarded spread knows typed =
        let along : Spreads (λ j. Path (Needs s) m j) = λ i j need w. path_on w need in
        let reached = spread (λ j. Path (Needs s) m j) along (all_from (λ j. Path (Needs s) m j) e.args (λ j there. edge (record { at = e; is = stands_last; argument = subst (λ args. Contains args j) (sym unguarded) there }))) in
        hang_from (λ Q along here args. spread Q along args) (λ k a is used. all_by_place (λ b. Path (Needs s) m b.id) parts reached.1 k a is) knows typed
