-- Expressions in which all texts are short.
use Rattle.std.proofs.Common.{◌≡◌, ℕ, suc, ◌+◌, ◌≤◌, true, false, List, [], ◌∷◌, ◌++◌, length, Option, Some, None, refl, subst}
use Rattle.std.specs.Prelude.{slice_get, if◌then◌else◌}
use Rattle.std.specs.List.{AllByRecursion, Contains}
use Rattle.std.proofs.lemmas.Option.{same_Some, none-some}
use Rattle.std.proofs.lemmas.List.Elements.{Contains-append_left, Contains-append_right}
use Rattle.tsl_value.specs.declared.place.Place.{Place}
use Rattle.flat_core.proofs.Members.{contains_head, contains_tail}
use Rattle.syntax_tree.specs.Tree as tree
use Rattle.syntax_tree.specs.Tree.{Expr, Exprs, no_exprs, more_exprs, Links, no_links, more_links}
use Rattle.name_check.specs.Bodies.{Seen, bodies, block_bodies, item_bodies}
use Rattle.name_check.specs.Builtin.{is_lift}
use Rattle.name_check.specs.Parts.{Part, Operand, parts, argument_parts, lift_parts, link_parts}
use Rattle.name_check.specs.Scope.{Scope, count_in, inside, in_block, top}
use Rattle.spec_meaning.specs.Occurrence.{body_of, result_of}
use Rattle.spec_meaning.specs.Shape.{expressions}
use Rattle.tsl_value.proofs.Lists.{contains_at}
use Rattle.tsl_value.specs.declared.limits.TheConstants.{MOST_TEXT_BYTES}
use Rattle.parsed_spec.specs.inner.Short.{HaveShortTexts}

-- ---- where an expression is read part by part
abbrev mutual
  pub ShortExpr : Expr → Type 0
  ShortExpr (tree.If p c a b) = ShortExpr c × ShortExpr a × ShortExpr b
  ShortExpr (tree.Chain p l e ls) = ShortExpr e × ShortLinks ls
  ShortExpr (tree.Compare p o a b) = ShortExpr a × ShortExpr b
  ShortExpr (tree.Negate p e) = ShortExpr e
  ShortExpr (tree.Not p e) = ShortExpr e
  ShortExpr (tree.Text p t) = length t ≤ MOST_TEXT_BYTES
  ShortExpr (tree.Call p n es) = (is_lift n ≡ true → ShortFront es) × (is_lift n ≡ false → ShortExprs es)
  ShortExpr (tree.CallDotted p d es) = ShortExprs es
  ShortExpr e = Unit {0}

  pub ShortExprs : Exprs → Type 0
  ShortExprs no_exprs = Unit {0}
  ShortExprs (more_exprs e es) = ShortExpr e × ShortExprs es

  -- of a `lift` all but the last
  pub ShortFront : Exprs → Type 0
  ShortFront no_exprs = Unit {0}
  ShortFront (more_exprs e no_exprs) = Unit {0}
  ShortFront (more_exprs e (more_exprs f es)) = ShortExpr e × ShortFront (more_exprs f es)

  pub ShortLinks : Links → Type 0
  ShortLinks no_links = Unit {0}
  ShortLinks (more_links o e ls) = ShortExpr e × ShortLinks ls

pub exprs_short : (es : Exprs) → ShortExprs es → AllByRecursion ShortExpr (expressions es)
exprs_short no_exprs h = tt
exprs_short (more_exprs e es) h = (h.0, exprs_short es h.1)

-- ---- what holds of all its parts
pub record AreShort (ps : List Part) : Type 0 where
  pub each : (p : Place) (text : List ℕ) → Contains ps (Operand (tree.Text p text)) → length text ≤ MOST_TEXT_BYTES

after : (x : Part) (ps : List Part) → AreShort (x ∷ ps) → AreShort ps
after x ps h = record { each = λ p text c. h.each p text (contains_tail x ps _ c) }

left : (ps qs : List Part) → AreShort (ps ++ qs) → AreShort ps
left ps qs h = record { each = λ p text c. h.each p text (Contains-append_left ps qs _ c) }

right : (ps qs : List Part) → AreShort (ps ++ qs) → AreShort qs
right ps qs h = record { each = λ p text c. h.each p text (Contains-append_right ps qs _ c) }

mutual
  pub expr_short : (e : Expr) → AreShort (parts e) → ShortExpr e
  expr_short (tree.If p c a b) h =
      let all = after (Operand (tree.If p c a b)) (parts c ++ parts a ++ parts b) h in
      let front = left (parts c ++ parts a) (parts b) all in
      (expr_short c (left (parts c) (parts a) front), expr_short a (right (parts c) (parts a) front), expr_short b (right (parts c ++ parts a) (parts b) all))
  expr_short (tree.Chain p l e ls) h =
      let all = after (Operand (tree.Chain p l e ls)) (parts e ++ link_parts ls) h in
      (expr_short e (left (parts e) (link_parts ls) all), links_short ls (right (parts e) (link_parts ls) all))
  expr_short (tree.Compare p o a b) h =
      let all = after (Operand (tree.Compare p o a b)) (parts a ++ parts b) h in
      (expr_short a (left (parts a) (parts b) all), expr_short b (right (parts a) (parts b) all))
  expr_short (tree.Negate p e) h = expr_short e (after (Operand (tree.Negate p e)) (parts e) h)
  expr_short (tree.Not p e) h = expr_short e (after (Operand (tree.Not p e)) (parts e) h)
  expr_short (tree.Text p t) h = h.each p t (contains_head (Operand (tree.Text p t)) [])
  expr_short (tree.Call p n es) h =
      let all = after (Operand (tree.Call p n es)) (if is_lift n then lift_parts es else argument_parts es) h in
      (λ lifts. front_short es (subst (λ b. AreShort (if b then lift_parts es else argument_parts es)) lifts all), λ calls. arguments_short es (subst (λ b. AreShort (if b then lift_parts es else argument_parts es)) calls all))
  expr_short (tree.CallDotted p d es) h = arguments_short es (after (Operand (tree.CallDotted p d es)) (argument_parts es) h)
  expr_short e h = tt

  arguments_short : (es : Exprs) → AreShort (argument_parts es) → ShortExprs es
  arguments_short no_exprs h = tt
  arguments_short (more_exprs e es) h = (expr_short e (left (parts e) (argument_parts es) h), arguments_short es (right (parts e) (argument_parts es) h))

  front_short : (es : Exprs) → AreShort (lift_parts es) → ShortFront es
  front_short no_exprs h = tt
  front_short (more_exprs e no_exprs) h = tt
  front_short (more_exprs e (more_exprs f es)) h =
      (expr_short e (left (parts e) (lift_parts (more_exprs f es)) h), front_short (more_exprs f es) (right (parts e) (lift_parts (more_exprs f es)) h))

  links_short : (ls : Links) → AreShort (link_parts ls) → ShortLinks ls
  links_short no_links h = tt
  links_short (more_links o e ls) h = (expr_short e (left (parts e) (link_parts ls) h), links_short ls (right (parts e) (link_parts ls) h))

-- ---- the bodies of items
abbrev mutual
  pub ShortBody : tree.Body → Type 0
  ShortBody (tree.Plain e) = ShortExpr e
  ShortBody (tree.Block ds e) = ShortDefinitions ds × ShortExpr e

  pub ShortDefinitions : tree.Definitions → Type 0
  ShortDefinitions tree.no_definitions = Unit {0}
  ShortDefinitions (tree.more_definitions (tree.Define q n ps w b) ds) = ShortBody b × ShortDefinitions ds

pub result_short : (b : tree.Body) → ShortBody b → ShortExpr (result_of b)
result_short (tree.Plain e) h = h
result_short (tree.Block ds e) h = h.1

record AreSeenShort (seen : List Seen) : Type 0 where
  each : (s : Seen) → Contains seen s → ShortExpr s.expr

seen_left : (xs ys : List Seen) → AreSeenShort (xs ++ ys) → AreSeenShort xs
seen_left xs ys h = record { each = λ s c. h.each s (Contains-append_left xs ys s c) }

seen_right : (xs ys : List Seen) → AreSeenShort (xs ++ ys) → AreSeenShort ys
seen_right xs ys h = record { each = λ s c. h.each s (Contains-append_right xs ys s c) }

seen_one : (s : Seen) → AreSeenShort (s ∷ []) → ShortExpr s.expr
seen_one s h = h.each s (contains_head s [])

mutual
  body_short : (k : ℕ) (scope : Scope) (b : tree.Body) → AreSeenShort (bodies k scope b) → ShortBody b
  body_short k scope (tree.Plain e) h = seen_one (record { scope = scope; expr = e }) h
  body_short k scope (tree.Block ds e) h =
      let within = in_block k scope ds in
      let result : Seen = record { scope = within; expr = e } in
      (block_short k within ds (seen_left (block_bodies k within ds) (result ∷ []) h), seen_one result (seen_right (block_bodies k within ds) (result ∷ []) h))

  block_short : (k : ℕ) (scope : Scope) (ds : tree.Definitions) → AreSeenShort (block_bodies k scope ds) → ShortDefinitions ds
  block_short k scope tree.no_definitions h = tt
  block_short k scope (tree.more_definitions (tree.Define q n ps w b) ds) h =
      let first = bodies (suc k) scope b in
      let rest = block_bodies (suc k + count_in b) scope ds in
      (body_short (suc k) scope b (seen_left first rest h), block_short (suc k + count_in b) scope ds (seen_right first rest h))

-- the texts of each item are short
pub record AreBodiesShort (items : List tree.Item) : Type 0 where
  pub body : (i : ℕ) (b : tree.Body) → body_of (slice_get items i) ≡ Some b → ShortBody b
  pub output : (p q : Place) (e : Expr) (n : List ℕ) → Contains items (tree.OutputAs p e q n) → ShortExpr e

item_short : (items : List tree.Item) → HaveShortTexts items → (item : tree.Item) → Contains items item → AreSeenShort (item_bodies (top items) item)
item_short items short item there = record { each = λ s c. expr_short s.expr (record { each = λ p text h. short.each item s p text there c h }) }

pub bodies_short : (items : List tree.Item) → HaveShortTexts items → AreBodiesShort items
bodies_short items short = record {
  body = λ i b is. at_item i (slice_get items i) refl b is;
  output = λ p q e n there. seen_one (record { scope = top items; expr = e }) (item_short items short (tree.OutputAs p e q n) there);
}
  where
    at_item : (i : ℕ) (o : Option tree.Item) → slice_get items i ≡ o → (b : tree.Body) → body_of o ≡ Some b → ShortBody b
    at_item i None there b is = absurd (none-some b is)
    at_item i (Some (tree.Defined p (tree.Define q n ps w c))) there b is =
        subst ShortBody (same_Some c b is) (body_short 0 (inside (top items) ps) c (item_short items short _ (contains_at items i _ there)))
    at_item i (Some item) there b is = absurd (none-some b is)
