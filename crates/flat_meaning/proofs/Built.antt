-- The equations of constructs, of choices, of aliases and of inputs make streams of occurrences.
use Rattle.std.proofs.Common.{◌≡◌, ◌⊎◌, ℕ, zero, suc, ◌+◌, ◌-◌, ◌<◌, true, List, [], ◌∷◌, ◌++◌, map, length, Some, None, Ok, refl, ap, sym, subst, ◌∙◌, inl, arith, append-nil}
use Rattle.std.specs.Prelude.{◌==◌, slice_get, if◌then◌else◌}
use Rattle.std.specs.List.{AllByRecursion, Contains}
use Rattle.std.proofs.lemmas.Bool.{false≢true}
use Rattle.std.proofs.lemmas.Option.{same_Some, none-some}
use Rattle.tsl_value.specs.declared.place.Place.{Place}
use Rattle.tsl_value.specs.declared.scalar.ValueType.{ValueType}
use Rattle.lift_func.specs.BodyTree.{BodyTree}
use Rattle.flat_core.specs.declared.equation.Op.TheVariants as op
use Rattle.flat_core.specs.declared.equation.Equation.{Equation}
use Rattle.flat_core.specs.Case.{root_fault}
use Rattle.flat_core.specs.Events.{outcome_of}
use Rattle.translation_order.specs.Graph.{Walk, stay}
use Rattle.flat_core.specs.Needed.{HasArgument}
use Rattle.flat_core.specs.System.{System}
use Rattle.flat_core.specs.Typed.{unit_type}
use Rattle.flat_core.proofs.Uniqueness.{all_by}
use Rattle.syntax_tree.specs.Tree as tree
use Rattle.syntax_tree.specs.Tree.{Expr, place_of}
use Rattle.type_rules.specs.Kinds.{Kinds}
use Rattle.stream_constructs.specs.declared.construct.Stream.{Stream}
use Rattle.stream_constructs.specs.Construct.{Construct, outcome, root, operand_trees}
use Rattle.stream_constructs.specs.Construct as construct
use Rattle.stream_constructs.specs.Equations.{equation, own_equations, choice_equations, choice, alias_equation}
use Rattle.stream_constructs.specs.Agree.{Makes as MakesConstruct, HangTogether, IsItself, Fits, FitsChoice, last_number, ConstructsAreMade, ConstructsHangTogether, ChoicesAreMade, ChoicesHangTogether, AliasesAreMade, AliasesHangTogether}
use Rattle.spec_meaning.specs.Occurrence.{Occurrence}
use Rattle.spec_meaning.specs.Shape.{Shape, shape, itself}
use Rattle.spec_meaning.specs.Makes.{Standing, MakesAll, is_own, is_choice, choice_operands, with_itself}
use Rattle.flat_meaning.proofs.Plain.{plain, Within, IsNameless, stands}
use Rattle.flat_meaning.proofs.OwnEquations.{IsOwn, own_made, choice_made, own_some, choice_some, IsOneDelay, delay_own}
use Rattle.flat_meaning.proofs.Shapes.{parts_beside, choice_construct}
use Rattle.flat_meaning.proofs.Placed.{Each, each_end, Entered, IsMade, Placed, placed, IsPlaced, AreJoined, IsBuilt}
use Rattle.flat_meaning.proofs.Lookup.{all_made, parts_placed}

-- the laws of constructs
pub record TheLaws : Type 0 where
  pub constructs_made : ConstructsAreMade
  pub constructs_hang : ConstructsHangTogether
  pub choices_made : ChoicesAreMade
  pub choices_hang : ChoicesHangTogether
  pub aliases_made : AliasesAreMade
  pub aliases_hang : AliasesHangTogether

pub one_number : (n : ℕ) (own : List Equation) → IsOneDelay own → last_number n own ≡ n
one_number n own one = let many : length own ≡ 1 = ap length one.alone in omega arith

pub is_itself : (c : Construct) (m : ℕ) (parts : List Stream) → IsItself c m (with_itself c m parts)
is_itself construct.Delay m [] = tt
is_itself construct.Delay m (a ∷ []) = tt
is_itself construct.Delay m (a ∷ b ∷ []) = refl
is_itself construct.Delay m (a ∷ b ∷ c ∷ parts) = longer (parts ++ record { id = m; of = unit_type } ∷ []) refl
  where
    longer : (more : List Stream) → parts ++ record { id = m; of = unit_type } ∷ [] ≡ more → IsItself construct.Delay m (a ∷ b ∷ c ∷ (parts ++ record { id = m; of = unit_type } ∷ []))
    longer [] is = absurd (some_end parts is)
      where
        some_end : (parts : List Stream) → parts ++ record { id = m; of = unit_type } ∷ [] ≡ [] → ⊥
        some_end [] h = cc
        some_end (d ∷ parts) h = cc
    longer (d ∷ more) is = subst (λ xs. IsItself construct.Delay m (a ∷ b ∷ c ∷ xs)) (sym is) tt
is_itself c m parts = tt

-- own equations have no name
pub nameless : (c : Construct) (p : Place) (own : List Equation) → AllByRecursion (IsOwn c p) own → AllByRecursion IsNameless own
nameless c p own all = all_by (IsOwn c p) IsNameless (λ e h. record { nameless = h.nameless }) own all

module _ (items : List tree.Item) (kinds : Kinds) (top : ℕ → Stream) (s : System) (laws : TheLaws) where
  joined_from : (c : Construct) (own : List Equation) (n : ℕ) (parts : List Stream) → HangTogether c own n parts (plain s) → AreJoined items kinds top s c own n parts
  joined_from c own n parts hang = record { reach = hang.reach; reach_parts = hang.reach_parts; arguments = hang.arguments; falls = hang.falls }

  each_itself : (c : Construct) (m : ℕ) (o : Occurrence) (os : List Occurrence) (parts : List Stream) → Each (IsPlaced items kinds top s) os parts → (c ≡ construct.Delay → Placed items kinds top s o m) → Each (IsPlaced items kinds top s) (os ++ itself c o) (with_itself c m parts)
  each_itself construct.Delay m o os parts each self = each_end (IsPlaced items kinds top s) os parts o (record { id = m; of = unit_type }) each (self refl)
  each_itself c m o os parts each self = subst (λ xs. Each (IsPlaced items kinds top s) xs parts) (sym (append-nil os)) each

  -- a construct
  pub own_built : (at : Standing) (e : Expr) (n m : ℕ) (sh : Shape) (parts : List Stream) (before : List Equation) (of : ValueType) (stream : Stream) → Entered items kinds top s at → shape items (record { calls = at.calls; expr = e }) ≡ Some sh → is_own sh.construct ≡ true → MakesAll items kinds top at (map (λ o. o.expr) sh.parts) n before parts → Within s n before → Fits sh.construct (with_itself sh.construct m parts) of → Within s m (own_equations (place_of e) of m sh.construct (with_itself sh.construct m parts)) → stream.id ≡ last_number m (own_equations (place_of e) of m sh.construct (with_itself sh.construct m parts)) → IsMade items kinds top s at e stream → IsBuilt items kinds top s (record { calls = at.calls; expr = e }) stream.id
  own_built at e n m sh parts before of stream entered is own_sh makes before_within fits within number self =
      let o : Occurrence = record { calls = at.calls; expr = e } in
      let streams : List Stream = with_itself sh.construct m parts in
      let own : List Equation = own_equations (place_of e) of m sh.construct streams in
      let has = own_made (place_of e) of m sh.construct streams in
      let standing = stands s m own within (nameless sh.construct (place_of e) own has) in
      let there = parts_placed items kinds top s entered sh.parts parts (parts_beside items o sh is own_sh) (all_made items kinds top s makes before_within) in
      let one : sh.construct ≡ construct.Delay → IsOneDelay own = delay_own (place_of e) of m sh.construct streams fits in
      record {
        of = sh;
        is = is;
        first = m;
        own = own;
        parts = streams;
        stands = standing;
        some = own_some (place_of e) of m sh.construct streams fits;
        number_is = number;
        makes = laws.constructs_made sh.construct (place_of e) of m streams fits (is_itself sh.construct m parts);
        joined = joined_from sh.construct own m streams (laws.constructs_hang sh.construct (place_of e) of m streams (plain s) fits (is_itself sh.construct m parts) standing);
        placed = each_itself sh.construct m o sh.parts parts there (λ delay. subst (Placed items kinds top s o) (number ∙ one_number m own (one delay)) (placed entered self));
        places = λ _. all_by (IsOwn sh.construct (place_of e)) (λ f. f.place ≡ place_of e) (λ f h. h.place_is) own has;
        delays = all_by (IsOwn sh.construct (place_of e)) _ (λ f h. h.delays) own has;
        one_delay = one;
      }

  -- a choice between sets or maps
  pub choice_built : (at : Standing) (e : Expr) (n m : ℕ) (sh : Shape) (parts : List Stream) (before : List Equation) (of : ValueType) (stream : Stream) → Entered items kinds top s at → shape items (record { calls = at.calls; expr = e }) ≡ Some sh → is_choice e ≡ true → MakesAll items kinds top at (map (λ o. o.expr) sh.parts) n before parts → Within s n before → FitsChoice (choice_operands e) parts of → Within s m (choice_equations (place_of e) of m (choice_operands e) parts) → stream.id ≡ last_number m (choice_equations (place_of e) of m (choice_operands e) parts) → IsBuilt items kinds top s (record { calls = at.calls; expr = e }) stream.id
  choice_built at e n m sh parts before of stream entered is chosen makes before_within fits within number =
      let o : Occurrence = record { calls = at.calls; expr = e } in
      let body : BodyTree = choice (operand_trees 0 (choice_operands e)) in
      let same : sh.construct ≡ construct.Signal body = choice_construct items at.calls e sh chosen is in
      let own_sh : is_own sh.construct ≡ true = ap is_own same in
      let own : List Equation = choice_equations (place_of e) of m (choice_operands e) parts in
      let has = choice_made sh.construct (place_of e) of m (choice_operands e) parts in
      let standing = stands s m own within (nameless sh.construct (place_of e) own has) in
      let there = parts_placed items kinds top s entered sh.parts parts (parts_beside items o sh is own_sh) (all_made items kinds top s makes before_within) in
      record {
        of = sh;
        is = is;
        first = m;
        own = own;
        parts = parts;
        stands = standing;
        some = choice_some (place_of e) of m (choice_operands e) parts;
        number_is = number;
        makes = subst (λ c. MakesConstruct c own m parts) (sym same) (laws.choices_made (place_of e) of m (choice_operands e) parts fits);
        joined = subst (λ c. AreJoined items kinds top s c own m parts) (sym same) (joined_from (construct.Signal body) own m parts (laws.choices_hang (place_of e) of m (choice_operands e) parts (plain s) fits standing));
        placed = subst (λ c. Each (IsPlaced items kinds top s) (sh.parts ++ itself c o) parts) (sym same) (subst (λ xs. Each (IsPlaced items kinds top s) xs parts) (sym (append-nil sh.parts)) there);
        places = λ _. all_by (IsOwn sh.construct (place_of e)) (λ f. f.place ≡ place_of e) (λ f h. h.place_is) own has;
        delays = all_by (IsOwn sh.construct (place_of e)) _ (λ f h. h.delays) own has;
        one_delay = λ delay. absurd (signal_delay body (sym same ∙ delay));
      }
    where
      signal_delay : (body : BodyTree) → construct.Signal body ≡ construct.Delay → ⊥
      signal_delay body h = cc

  -- a definition that is only a name
  pub alias_built : (o next : Occurrence) (p : Place) (n : ℕ) (a : Stream) → shape items o ≡ Some (record { construct = construct.Same; parts = next ∷ [] }) → Placed items kinds top s next a.id → Within s n (alias_equation p a ∷ []) → IsBuilt items kinds top s o n
  alias_built o next p n a is there within =
      let own : List Equation = alias_equation p a ∷ [] in
      let standing = stands s n own within (record { nameless = refl }, tt) in
      record {
        of = record { construct = construct.Same; parts = next ∷ [] };
        is = is;
        first = n;
        own = own;
        parts = a ∷ [];
        stands = standing;
        some = omega arith;
        number_is = omega arith;
        makes = laws.aliases_made p n a;
        joined = joined_from construct.Same own n (a ∷ []) (laws.aliases_hang p n a (plain s) standing);
        placed = (there, tt);
        places = λ h. absurd (false≢true h);
        delays = ((λ h. absurd (false≢true h)), tt);
        one_delay = λ delay. absurd (same_delay delay);
      }
    where
      same_delay : construct.Same ≡ construct.Delay → ⊥
      same_delay h = cc

  -- an input
  input_makes : (p : Place) (of : ValueType) (k : ℕ) → MakesConstruct (construct.Input k) (equation p op.Input [] of ∷ []) k []
  input_makes p of k inputs z t solved =
      record {
        outcome_is =
            let here : k + 1 - 1 ≡ k + 0 = omega arith in
            let same : k + 0 ≡ k = omega arith in
            ap (λ i. z i t) here ∙ solved 0 (equation p op.Input [] of) refl ∙ ap (λ i. outcome_of (Ok (inputs i t))) same;
        root_is = roots;
      }
    where
      roots : (j : ℕ) (e : Equation) → slice_get (equation p op.Input [] of ∷ []) j ≡ Some e → root_fault inputs z (k + j) e t ≡ (if suc j == 1 then root inputs (construct.Input k) [] t else None)
      roots zero e is = ap (λ f. root_fault inputs z (k + 0) f t) (sym (same_Some (equation p op.Input [] of) e is))
      roots (suc j) e is = absurd (none-some e is)

  input_joined : (p : Place) (of : ValueType) (k : ℕ) → AreJoined items kinds top s (construct.Input k) (equation p op.Input [] of ∷ []) k []
  input_joined p of k = record {
    reach = λ j lt. let e : k + 1 - 1 ≡ k + j = omega arith in subst (λ i. Walk (HasArgument (plain s).equations) (k + 1 - 1) i) e stay;
    reach_parts = λ a (j, lt, is). absurd (omega arith);
    arguments = arguments;
    falls = λ j a is used. absurd (none-some a is);
  }
    where
      arguments : (j : ℕ) (e : Equation) (i : ℕ) → slice_get (equation p op.Input [] of ∷ []) j ≡ Some e → Contains e.args i → Contains (map (λ (a : Stream). a.id) []) i ⊎ ((l : ℕ) × (l < 1) × (i ≡ k + l))
      arguments zero e i is c = inl (subst (λ f. Contains f.args i) (sym (same_Some (equation p op.Input [] of) e is)) c)
      arguments (suc j) e i is c = absurd (none-some e is)

  pub input_built : (o : Occurrence) (p : Place) (of : ValueType) (k : ℕ) → shape items o ≡ Some (record { construct = construct.Input k; parts = [] }) → Within s k (equation p op.Input [] of ∷ []) → IsBuilt items kinds top s o k
  input_built o p of k is within =
      let own : List Equation = equation p op.Input [] of ∷ [] in
      record {
        of = record { construct = construct.Input k; parts = [] };
        is = is;
        first = k;
        own = own;
        parts = [];
        stands = stands s k own within (record { nameless = refl }, tt);
        some = omega arith;
        number_is = omega arith;
        makes = input_makes p of k;
        joined = input_joined p of k;
        placed = tt;
        places = λ h. absurd (false≢true h);
        delays = ((λ h. absurd (false≢true h)), tt);
        one_delay = λ delay. absurd (input_delay delay);
      }
    where
      input_delay : construct.Input k ≡ construct.Delay → ⊥
      input_delay h = cc
