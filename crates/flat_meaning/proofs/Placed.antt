-- Where occurrences stand in a flat system, and which equations make their streams.
use Rattle.std.proofs.Common.{◌≡◌, ◌⊎◌, ℕ, zero, suc, ◌+◌, ◌<◌, true, List, [], ◌∷◌, ◌++◌, map, length, Some, None, refl, ap, subst, ◌∙◌, arith}
use Rattle.std.specs.Prelude.{slice_get}
use Rattle.std.specs.List.{AllByRecursion, Contains}
use Rattle.std.specs.Option.{option_map}
use Rattle.std.proofs.lemmas.Option.{same_Some, none-some, slice_get-map, get_or_from_slice_get}
use Rattle.flat_core.specs.declared.equation.Equation.{Equation}
use Rattle.flat_core.specs.Case.{Streams}
use Rattle.translation_order.specs.Graph.{Path, Walk}
use Rattle.flat_core.specs.Instant.{is_delay_op}
use Rattle.flat_core.specs.Needed.{HasArgument}
use Rattle.flat_core.specs.System.{System}
use Rattle.flat_core.specs.WellFormed.{Needs}
use Rattle.flat_core.proofs.Members.{contains_head, contains_tail}
use Rattle.syntax_tree.specs.Tree as tree
use Rattle.syntax_tree.specs.Tree.{Expr, Exprs, place_of}
use Rattle.type_rules.specs.Kinds.{Kinds}
use Rattle.stream_constructs.specs.declared.construct.Stream.{Stream}
use Rattle.stream_constructs.specs.Construct.{Construct}
use Rattle.stream_constructs.specs.Construct as construct
use Rattle.stream_constructs.specs.Agree.{StandsAt, Makes as MakesConstruct, last_number, history_of, is_used_part}
use Rattle.spec_meaning.specs.Occurrence.{Occurrence, body_of, block_of}
use Rattle.spec_meaning.specs.Happens.{history}
use Rattle.spec_meaning.specs.Shape.{Shape, shape, all_parts, expressions}
use Rattle.spec_meaning.specs.Makes.{Standing, Makes, MakesAll, MakesBody, MakesBlock, inside_call, is_own}
use Rattle.spec_meaning.specs.Flat.{outermost}
use Rattle.flat_meaning.proofs.Plain.{plain, Within}
use Rattle.flat_meaning.proofs.OwnEquations.{IsOneDelay}

-- ---- two lists side by side
abbrev pub Each : {A B : Type 0} → (A → B → Type 0) → List A → List B → Type 0
Each R [] [] = Unit {0}
Each R (x ∷ xs) (y ∷ ys) = R x y × Each R xs ys
Each R xs ys = ⊥

pub each_length : {A B : Type 0} (R : A → B → Type 0) (xs : List A) (ys : List B) → Each R xs ys → length xs ≡ length ys
each_length R [] [] each = refl
each_length R [] (y ∷ ys) each = absurd each
each_length R (x ∷ xs) [] each = absurd each
each_length R (x ∷ xs) (y ∷ ys) each = ap suc (each_length R xs ys each.1)

pub each_at : {A B : Type 0} (R : A → B → Type 0) (xs : List A) (ys : List B) → Each R xs ys → (k : ℕ) (x : A) → slice_get xs k ≡ Some x → (y : B) × (slice_get ys k ≡ Some y) × R x y
each_at R [] ys each k x is = absurd (none-some x is)
each_at R (x ∷ xs) [] each k w is = absurd each
each_at R (x ∷ xs) (y ∷ ys) each zero w is = (y, refl, subst (λ v. R v y) (same_Some x w is) each.0)
each_at R (x ∷ xs) (y ∷ ys) each (suc k) w is = each_at R xs ys each.1 k w is

-- to an element of either list there is one of the other
pub each_from : {A B : Type 0} (R : A → B → Type 0) (xs : List A) (ys : List B) → Each R xs ys → (x : A) → Contains xs x → (y : B) × Contains ys y × R x y
each_from R [] ys each x (k, lt, is) = absurd (omega arith)
each_from R (x ∷ xs) [] each w c = absurd each
each_from R (x ∷ xs) (y ∷ ys) each w (zero, lt, is) = (y, contains_head y ys, subst (λ v. R v y) is each.0)
each_from R (x ∷ xs) (y ∷ ys) each w (suc k, lt, is) = let found = each_from R xs ys each.1 w (k, omega arith, is) in (found.0, contains_tail y ys found.0 found.1, found.2)

pub each_to : {A B : Type 0} (R : A → B → Type 0) (xs : List A) (ys : List B) → Each R xs ys → (y : B) → Contains ys y → (x : A) × Contains xs x × R x y
each_to R [] [] each y (k, lt, is) = absurd (omega arith)
each_to R [] (y ∷ ys) each w c = absurd each
each_to R (x ∷ xs) [] each y (k, lt, is) = absurd (omega arith)
each_to R (x ∷ xs) (y ∷ ys) each w (zero, lt, is) = (x, contains_head x xs, subst (R x) is each.0)
each_to R (x ∷ xs) (y ∷ ys) each w (suc k, lt, is) = let found = each_to R xs ys each.1 w (k, omega arith, is) in (found.0, contains_tail x xs found.0 found.1, found.2)

pub each_end : {A B : Type 0} (R : A → B → Type 0) (xs : List A) (ys : List B) (x : A) (y : B) → Each R xs ys → R x y → Each R (xs ++ x ∷ []) (ys ++ y ∷ [])
each_end R [] [] x y each more = (more, tt)
each_end R [] (v ∷ ys) x y each more = absurd each
each_end R (w ∷ xs) [] x y each more = absurd each
each_end R (w ∷ xs) (v ∷ ys) x y each more = (each.0, each_end R xs ys x y each.1 more)

-- the stream of a part by its place
pub history_is : (z : Streams) (parts : List Stream) (k : ℕ) (a : Stream) → slice_get parts k ≡ Some a → history (history_of z parts) k ≡ z a.id
history_is z parts k a is = get_or_from_slice_get (history_of z parts) k (z a.id) (λ t. None) (slice_get-map (λ b. z b.id) parts k ∙ ap (option_map (λ (b : Stream). z b.id)) is)

module _ (items : List tree.Item) (kinds : Kinds) (top : ℕ → Stream) (s : System) where
  -- the calls around an expression are laid out in the system
  pub data Entered : Standing → Type 0 where
    outside : Entered outermost
    inside : {at : Standing} {es : Exprs} {n m : ℕ} (i : ℕ) {params locals : List Stream} (b : tree.Body) {before block : List Equation} → Entered at → body_of (slice_get items i) ≡ Some b → MakesAll items kinds top at (expressions es) n before params → Within s n before → MakesBlock items kinds top (inside_call items top at i es params locals) (block_of (Some b)) m block locals → Within s m block → Entered (inside_call items top at i es params locals)

  -- an expression is made there, with this stream
  pub record IsMade (at : Standing) (e : Expr) (stream : Stream) : Type 0 where
    pub number : ℕ
    pub made : List Equation
    pub makes : Makes items kinds top at e number made stream
    pub within : Within s number made

  pub record IsMadeBody (at : Standing) (e : Expr) (stream : Stream) : Type 0 where
    pub number : ℕ
    pub made : List Equation
    pub makes : MakesBody items kinds top at e number made stream
    pub within : Within s number made

  -- an occurrence stands in the system, and its stream is that of this equation
  pub data Placed : Occurrence → ℕ → Type 0 where
    placed : {at : Standing} {e : Expr} {stream : Stream} → Entered at → IsMade at e stream → Placed (record { calls = at.calls; expr = e }) stream.id

  abbrev pub IsPlaced : Occurrence → Stream → Type 0
  IsPlaced o a = Placed o a.id

  -- own equations hang together, but for their types
  pub record AreJoined (c : Construct) (own : List Equation) (n : ℕ) (parts : List Stream) : Type 0 where
    pub reach : (k : ℕ) → k < length own → Walk (HasArgument (plain s).equations) (last_number n own) (n + k)
    pub reach_parts : (a : Stream) → Contains parts a → Walk (HasArgument (plain s).equations) (last_number n own) a.id
    pub arguments : (k : ℕ) (e : Equation) (j : ℕ) → slice_get own k ≡ Some e → Contains e.args j → Contains (map (λ a. a.id) parts) j ⊎ ((i : ℕ) × (i < length own) × (j ≡ n + i))
    pub falls : (k : ℕ) (a : Stream) → slice_get parts k ≡ Some a → is_used_part c k ≡ true → Path (Needs (plain s)) (last_number n own) a.id

  -- equations make the stream of an occurrence out of those of its parts
  pub record IsBuilt (o : Occurrence) (i : ℕ) : Type 0 where
    pub of : Shape
    pub is : shape items o ≡ Some of
    pub first : ℕ
    pub own : List Equation
    pub parts : List Stream
    pub stands : StandsAt (plain s).equations first own
    pub some : 0 < length own
    pub number_is : i ≡ last_number first own
    pub makes : MakesConstruct of.construct own first parts
    pub joined : AreJoined of.construct own first parts
    pub placed : Each IsPlaced (all_parts o of) parts
    pub places : is_own of.construct ≡ true → AllByRecursion (λ e. e.place ≡ place_of o.expr) own
    pub delays : AllByRecursion (λ e. is_delay_op e.op ≡ true → of.construct ≡ construct.Delay) own
    pub one_delay : of.construct ≡ construct.Delay → IsOneDelay own

  -- an occurrence has such equations, or it stands for another one that leads to some
  pub data Leads : Occurrence → ℕ → Type 0 where
    here : {o : Occurrence} {i : ℕ} → IsBuilt o i → Leads o i
    onward : {o : Occurrence} {i : ℕ} (next : Occurrence) → shape items o ≡ Some (record { construct = construct.Same; parts = next ∷ [] }) → Placed next i → Leads next i → Leads o i
