-- A code for trees, so that a model's value may have them: a tree as a binary tree of lists of numbers, and that as a list.
use Rattle.std.specs.Prelude.{◌≡◌, ◌⊎◌, ℕ, zero, suc, Bool, true, false, List, [], ◌∷◌, Option, Some, None, refl}
use Rattle.std.proofs.Common.{ap, ◌∙◌, inl, inr}
use Rattle.std.specs.Coded.{Coded, code_by, coded_list, coded_option, coded⊎, coded_ℕ}
use Rattle.tsl_value.specs.declared.place.Place.{Place}
use Rattle.syntax_tree.specs.declared.tree.Level.{Level}
use Rattle.syntax_tree.specs.declared.tree.Level.TheVariants as level
use Rattle.syntax_tree.specs.declared.tree.Operator.{Operator}
use Rattle.syntax_tree.specs.declared.tree.Operator.TheVariants as operator
use Rattle.syntax_tree.specs.declared.tree.Comparison.{Comparison}
use Rattle.syntax_tree.specs.declared.tree.Comparison.TheVariants as comparison
use Rattle.vocabulary.specs.declared.dotted.Dotted.{Dotted}
use Rattle.vocabulary.specs.declared.dotted.Dotted.TheVariants as dotted
use Rattle.vocabulary.specs.contracts.dotted.Dotted as dotted_row
use Rattle.syntax_tree.specs.contracts.tree.Level as level_row
use Rattle.syntax_tree.specs.contracts.tree.Operator as operator_row
use Rattle.syntax_tree.specs.contracts.tree.Comparison as comparison_row
use Rattle.syntax_tree.specs.Tree as tree
use Rattle.syntax_tree.specs.Tree.{TypeName, Aggregate, Expr, Exprs, no_exprs, Links, no_links, Param, Body, Definition, Definitions}

-- a level, an operator, a comparison, or a function with a dot
abbrev pub Word : Type 0
Word = Level ⊎ (Operator ⊎ (Comparison ⊎ Dotted))

pub data Binary : Type 0 where
  leaf : List ℕ ⊎ Word → Binary
  fork : Binary → Binary → Binary

-- in the order in which it is put together, last step first
abbrev pub steps : Binary → List (Option (List ℕ ⊎ Word)) → List (Option (List ℕ ⊎ Word))
steps (leaf w) rest = Some w ∷ rest
steps (fork a b) rest = None ∷ steps a (steps b rest)

abbrev pub put : Option (List ℕ ⊎ Word) → List Binary → List Binary
put (Some w) s = leaf w ∷ s
put None (a ∷ b ∷ s) = fork a b ∷ s
put None _ = []

abbrev pub read : List (Option (List ℕ ⊎ Word)) → List Binary
read [] = []
read (w ∷ ws) = put w (read ws)

pub read_steps : (b : Binary) (rest : List (Option (List ℕ ⊎ Word))) → read (steps b rest) ≡ b ∷ read rest
read_steps (leaf w) rest = refl
read_steps (fork a b) rest = ap (put None) (read_steps a (steps b rest) ∙ ap (λ s. a ∷ s) (read_steps b rest))

abbrev pub top : List Binary → Binary
top [] = leaf (inl [])
top (b ∷ s) = b

abbrev pub coded_word : Coded Word
coded_word =
    coded⊎ (level_row.the_row).coded
    (coded⊎ (operator_row.the_row).coded (coded⊎ (comparison_row.the_row).coded (dotted_row.the_row).coded))

pub coded_binary : Coded Binary
coded_binary =
    code_by (List (Option (List ℕ ⊎ Word))) (coded_list (coded_option (coded⊎ (coded_list coded_ℕ) coded_word)))
    (λ b. steps b []) (λ ws. top (read ws)) (λ b. ap top (read_steps b []))

abbrev pub bool_number : Bool → ℕ
bool_number true = suc zero
bool_number false = zero

abbrev pub bool_at : ℕ → Bool
bool_at zero = false
bool_at (suc n) = true

pub bool_again : (b : Bool) → bool_at (bool_number b) ≡ b
bool_again true = refl
bool_again false = refl

abbrev pub place_at : ℕ → ℕ → Place
place_at line column = record { line = line; column = column }

abbrev pub first_number : List ℕ → ℕ
first_number [] = zero
first_number (n ∷ ns) = n

abbrev pub no_place : Place
no_place = place_at zero zero

-- a part of a tree, of any kind
pub data Part : Type 0 where
  expr : Expr → Part
  exprs : Exprs → Part
  links : Links → Part
  type : TypeName → Part
  aggregate : Aggregate → Part
  params : List Param → Part
  written : Option TypeName → Part
  body : Body → Part
  definition : Definition → Part
  definitions : Definitions → Part
  one_level : Level → Part
  one_operator : Operator → Part
  one_comparison : Comparison → Part
  one_dotted : Dotted → Part

abbrev pub to_expr : Part → Expr
to_expr (expr x) = x
to_expr _ = tree.Unit no_place

abbrev pub to_exprs : Part → Exprs
to_exprs (exprs x) = x
to_exprs _ = no_exprs

abbrev pub to_links : Part → Links
to_links (links x) = x
to_links _ = no_links

abbrev pub to_type : Part → TypeName
to_type (type x) = x
to_type _ = tree.UnitType no_place

abbrev pub to_aggregate : Part → Aggregate
to_aggregate (aggregate x) = x
to_aggregate _ = tree.SetOf (tree.UnitType no_place)

abbrev pub to_params : Part → List Param
to_params (params x) = x
to_params _ = []

abbrev pub to_written : Part → Option TypeName
to_written (written x) = x
to_written _ = None

abbrev pub to_body : Part → Body
to_body (body x) = x
to_body _ = tree.Plain (tree.Unit no_place)

abbrev pub to_definition : Part → Definition
to_definition (definition x) = x
to_definition _ = tree.Define no_place [] [] None (tree.Plain (tree.Unit no_place))

abbrev pub to_definitions : Part → Definitions
to_definitions (definitions x) = x
to_definitions _ = tree.no_definitions

abbrev pub to_level : Part → Level
to_level (one_level v) = v
to_level _ = level.Disjunction

abbrev pub to_operator : Part → Operator
to_operator (one_operator v) = v
to_operator _ = operator.Or

abbrev pub to_comparison : Part → Comparison
to_comparison (one_comparison v) = v
to_comparison _ = comparison.Same

abbrev pub to_dotted : Part → Dotted
to_dotted (one_dotted v) = v
to_dotted _ = dotted.SetAdd

abbrev pub node_with : ℕ → ℕ → Place → List ℕ → Binary → Binary → Binary → Binary
node_with kind tag p ns a b c = fork (leaf (inl (kind ∷ tag ∷ p.line ∷ p.column ∷ ns))) (fork a (fork b c))

abbrev pub level_leaf : Level → Binary
level_leaf v = leaf (inr (inl v))

abbrev pub operator_leaf : Operator → Binary
operator_leaf v = leaf (inr (inr (inl v)))

abbrev pub comparison_leaf : Comparison → Binary
comparison_leaf v = leaf (inr (inr (inr (inl v))))

abbrev pub dotted_leaf : Dotted → Binary
dotted_leaf v = leaf (inr (inr (inr (inr v))))

abbrev pub none : Binary
none = leaf (inl [])

abbrev mutual
  pub type_tree : TypeName → Binary
  type_tree (tree.UnitType p) = node_with (suc (suc (suc zero))) zero p [] none none none
  type_tree (tree.IntType p) = node_with (suc (suc (suc zero))) (suc zero) p [] none none none
  type_tree (tree.BoolType p) = node_with (suc (suc (suc zero))) (suc (suc zero)) p [] none none none
  type_tree (tree.TextType p) = node_with (suc (suc (suc zero))) (suc (suc (suc zero))) p [] none none none
  type_tree (tree.AggregateType p a) = node_with (suc (suc (suc zero))) (suc (suc (suc (suc zero)))) p [] (aggregate_tree a) none none
  type_tree (tree.OptionType p a) = node_with (suc (suc (suc zero))) (suc (suc (suc (suc (suc zero))))) p [] (type_tree a) none none
  type_tree (tree.EventsType p a) = node_with (suc (suc (suc zero))) (suc (suc (suc (suc (suc (suc zero)))))) p [] (type_tree a) none none

  pub aggregate_tree : Aggregate → Binary
  aggregate_tree (tree.SetOf a) =
      node_with (suc (suc (suc (suc (suc (suc (suc (suc (suc zero))))))))) zero no_place [] (type_tree a) none none
  aggregate_tree (tree.MapOf a b) =
      node_with (suc (suc (suc (suc (suc (suc (suc (suc (suc zero))))))))) (suc zero) no_place [] (type_tree a) (type_tree b) none
  aggregate_tree (tree.QueueOf a) =
      node_with (suc (suc (suc (suc (suc (suc (suc (suc (suc zero))))))))) (suc (suc zero)) no_place [] (type_tree a) none none

abbrev mutual
  pub expr_tree : Expr → Binary
  expr_tree (tree.If p a b c) = node_with zero zero p [] (expr_tree a) (expr_tree b) (expr_tree c)
  expr_tree (tree.Chain p v a b) = node_with zero (suc zero) p [] (expr_tree a) (links_tree b) (level_leaf v)
  expr_tree (tree.Compare p v a b) = node_with zero (suc (suc zero)) p [] (expr_tree a) (expr_tree b) (comparison_leaf v)
  expr_tree (tree.Negate p a) = node_with zero (suc (suc (suc zero))) p [] (expr_tree a) none none
  expr_tree (tree.Not p a) = node_with zero (suc (suc (suc (suc zero)))) p [] (expr_tree a) none none
  expr_tree (tree.Number p n) = node_with zero (suc (suc (suc (suc (suc zero))))) p (n ∷ []) none none none
  expr_tree (tree.Negative p n) = node_with zero (suc (suc (suc (suc (suc (suc zero)))))) p (n ∷ []) none none none
  expr_tree (tree.Text p ns) = node_with zero (suc (suc (suc (suc (suc (suc (suc zero))))))) p ns none none none
  expr_tree (tree.Boolean p v) = node_with zero (suc (suc (suc (suc (suc (suc (suc (suc zero)))))))) p (bool_number v ∷ []) none none none
  expr_tree (tree.Unit p) = node_with zero (suc (suc (suc (suc (suc (suc (suc (suc (suc zero))))))))) p [] none none none
  expr_tree (tree.Name p ns) = node_with zero (suc (suc (suc (suc (suc (suc (suc (suc (suc (suc zero)))))))))) p ns none none none
  expr_tree (tree.Call p ns a) =
      node_with zero (suc (suc (suc (suc (suc (suc (suc (suc (suc (suc (suc zero))))))))))) p ns (exprs_tree a) none none
  expr_tree (tree.CallDotted p v a) =
      node_with zero (suc (suc (suc (suc (suc (suc (suc (suc (suc (suc (suc (suc zero)))))))))))) p [] (exprs_tree a)
      (dotted_leaf v) none
  expr_tree (tree.Nil p a) =
      node_with zero (suc (suc (suc (suc (suc (suc (suc (suc (suc (suc (suc (suc (suc zero))))))))))))) p [] (type_tree a) none none
  expr_tree (tree.None p a) =
      node_with zero (suc (suc (suc (suc (suc (suc (suc (suc (suc (suc (suc (suc (suc (suc zero)))))))))))))) p [] (type_tree a) none none
  expr_tree (tree.Empty p a) =
      node_with zero (suc (suc (suc (suc (suc (suc (suc (suc (suc (suc (suc (suc (suc (suc (suc zero))))))))))))))) p [] (aggregate_tree a)
      none none

  pub exprs_tree : Exprs → Binary
  exprs_tree tree.no_exprs = node_with (suc zero) zero no_place [] none none none
  exprs_tree (tree.more_exprs a b) = node_with (suc zero) (suc zero) no_place [] (expr_tree a) (exprs_tree b) none

  pub links_tree : Links → Binary
  links_tree tree.no_links = node_with (suc (suc zero)) zero no_place [] none none none
  links_tree (tree.more_links v a b) =
      node_with (suc (suc zero)) (suc zero) no_place [] (expr_tree a) (links_tree b) (operator_leaf v)

abbrev pub params_tree : List Param → Binary
params_tree [] = node_with (suc (suc (suc (suc zero)))) zero no_place [] none none none
params_tree (x ∷ b) = node_with (suc (suc (suc (suc zero)))) (suc zero) x.place x.name (type_tree x.of) (params_tree b) none

abbrev pub written_tree : Option TypeName → Binary
written_tree None = node_with (suc (suc (suc (suc (suc zero))))) zero no_place [] none none none
written_tree (Some a) = node_with (suc (suc (suc (suc (suc zero))))) (suc zero) no_place [] (type_tree a) none none

abbrev mutual
  pub body_tree : Body → Binary
  body_tree (tree.Plain a) = node_with (suc (suc (suc (suc (suc (suc zero)))))) zero no_place [] (expr_tree a) none none
  body_tree (tree.Block a b) =
      node_with (suc (suc (suc (suc (suc (suc zero)))))) (suc zero) no_place [] (definitions_tree a) (expr_tree b) none

  pub definition_tree : Definition → Binary
  definition_tree (tree.Define p ns a b c) =
      node_with (suc (suc (suc (suc (suc (suc (suc zero))))))) zero p ns (params_tree a) (written_tree b) (body_tree c)

  pub definitions_tree : Definitions → Binary
  definitions_tree tree.no_definitions = node_with (suc (suc (suc (suc (suc (suc (suc (suc zero)))))))) zero no_place [] none none none
  definitions_tree (tree.more_definitions a b) =
      node_with (suc (suc (suc (suc (suc (suc (suc (suc zero)))))))) (suc zero) no_place [] (definition_tree a) (definitions_tree b) none

abbrev pub expr_with : ℕ → Place → List ℕ → Part → Part → Part → Expr
expr_with zero p ns a b c = tree.If p (to_expr a) (to_expr b) (to_expr c)
expr_with (suc zero) p ns a b c = tree.Chain p (to_level c) (to_expr a) (to_links b)
expr_with (suc (suc zero)) p ns a b c = tree.Compare p (to_comparison c) (to_expr a) (to_expr b)
expr_with (suc (suc (suc zero))) p ns a b c = tree.Negate p (to_expr a)
expr_with (suc (suc (suc (suc zero)))) p ns a b c = tree.Not p (to_expr a)
expr_with (suc (suc (suc (suc (suc zero))))) p ns a b c = tree.Number p (first_number ns)
expr_with (suc (suc (suc (suc (suc (suc zero)))))) p ns a b c = tree.Negative p (first_number ns)
expr_with (suc (suc (suc (suc (suc (suc (suc zero))))))) p ns a b c = tree.Text p ns
expr_with (suc (suc (suc (suc (suc (suc (suc (suc zero)))))))) p ns a b c = tree.Boolean p (bool_at (first_number ns))
expr_with (suc (suc (suc (suc (suc (suc (suc (suc (suc zero))))))))) p ns a b c = tree.Unit p
expr_with (suc (suc (suc (suc (suc (suc (suc (suc (suc (suc zero)))))))))) p ns a b c = tree.Name p ns
expr_with (suc (suc (suc (suc (suc (suc (suc (suc (suc (suc (suc zero))))))))))) p ns a b c = tree.Call p ns (to_exprs a)
expr_with (suc (suc (suc (suc (suc (suc (suc (suc (suc (suc (suc (suc zero)))))))))))) p ns a b c =
    tree.CallDotted p (to_dotted b) (to_exprs a)
expr_with (suc (suc (suc (suc (suc (suc (suc (suc (suc (suc (suc (suc (suc zero))))))))))))) p ns a b c = tree.Nil p (to_type a)
expr_with (suc (suc (suc (suc (suc (suc (suc (suc (suc (suc (suc (suc (suc (suc zero)))))))))))))) p ns a b c = tree.None p (to_type a)
expr_with (suc (suc (suc (suc (suc (suc (suc (suc (suc (suc (suc (suc (suc (suc (suc n))))))))))))))) p ns a b c =
    tree.Empty p (to_aggregate a)

abbrev pub exprs_with : ℕ → Place → List ℕ → Part → Part → Part → Exprs
exprs_with zero p ns a b c = tree.no_exprs
exprs_with (suc n) p ns a b c = tree.more_exprs (to_expr a) (to_exprs b)

abbrev pub links_with : ℕ → Place → List ℕ → Part → Part → Part → Links
links_with zero p ns a b c = tree.no_links
links_with (suc n) p ns a b c = tree.more_links (to_operator c) (to_expr a) (to_links b)

abbrev pub type_with : ℕ → Place → List ℕ → Part → Part → Part → TypeName
type_with zero p ns a b c = tree.UnitType p
type_with (suc zero) p ns a b c = tree.IntType p
type_with (suc (suc zero)) p ns a b c = tree.BoolType p
type_with (suc (suc (suc zero))) p ns a b c = tree.TextType p
type_with (suc (suc (suc (suc zero)))) p ns a b c = tree.AggregateType p (to_aggregate a)
type_with (suc (suc (suc (suc (suc zero))))) p ns a b c = tree.OptionType p (to_type a)
type_with (suc (suc (suc (suc (suc (suc n)))))) p ns a b c = tree.EventsType p (to_type a)

abbrev pub aggregate_with : ℕ → Part → Part → Aggregate
aggregate_with zero a b = tree.SetOf (to_type a)
aggregate_with (suc zero) a b = tree.MapOf (to_type a) (to_type b)
aggregate_with (suc (suc n)) a b = tree.QueueOf (to_type a)

abbrev pub params_with : ℕ → Place → List ℕ → Part → Part → Part → List Param
params_with zero p ns a b c = []
params_with (suc n) p ns a b c = record { place = p; name = ns; of = to_type a } ∷ to_params b

abbrev pub written_with : ℕ → Place → List ℕ → Part → Part → Part → Option TypeName
written_with zero p ns a b c = None
written_with (suc n) p ns a b c = Some (to_type a)

abbrev pub body_with : ℕ → Place → List ℕ → Part → Part → Part → Body
body_with zero p ns a b c = tree.Plain (to_expr a)
body_with (suc n) p ns a b c = tree.Block (to_definitions a) (to_expr b)

abbrev pub definition_with : ℕ → Place → List ℕ → Part → Part → Part → Definition
definition_with n p ns a b c = tree.Define p ns (to_params a) (to_written b) (to_body c)

abbrev pub definitions_with : ℕ → Place → List ℕ → Part → Part → Part → Definitions
definitions_with zero p ns a b c = tree.no_definitions
definitions_with (suc n) p ns a b c = tree.more_definitions (to_definition a) (to_definitions b)

abbrev pub part_with : ℕ → ℕ → Place → List ℕ → Part → Part → Part → Part
part_with zero tag p ns a b c = expr (expr_with tag p ns a b c)
part_with (suc zero) tag p ns a b c = exprs (exprs_with tag p ns a b c)
part_with (suc (suc zero)) tag p ns a b c = links (links_with tag p ns a b c)
part_with (suc (suc (suc zero))) tag p ns a b c = type (type_with tag p ns a b c)
part_with (suc (suc (suc (suc zero)))) tag p ns a b c = params (params_with tag p ns a b c)
part_with (suc (suc (suc (suc (suc zero))))) tag p ns a b c = written (written_with tag p ns a b c)
part_with (suc (suc (suc (suc (suc (suc zero)))))) tag p ns a b c = body (body_with tag p ns a b c)
part_with (suc (suc (suc (suc (suc (suc (suc zero))))))) tag p ns a b c = definition (definition_with tag p ns a b c)
part_with (suc (suc (suc (suc (suc (suc (suc (suc zero)))))))) tag p ns a b c = definitions (definitions_with tag p ns a b c)
part_with (suc (suc (suc (suc (suc (suc (suc (suc (suc m))))))))) tag p ns a b c = aggregate (aggregate_with tag a b)

abbrev pub word_part : Word → Part
word_part (inl v) = one_level v
word_part (inr (inl v)) = one_operator v
word_part (inr (inr (inl v))) = one_comparison v
word_part (inr (inr (inr v))) = one_dotted v

abbrev pub back : Binary → Part
back (leaf (inr w)) = word_part w
back (fork (leaf (inl (kind ∷ tag ∷ line ∷ column ∷ ns))) (fork a (fork b c))) =
    part_with kind tag (place_at line column) ns (back a) (back b) (back c)
back _ = exprs no_exprs

mutual
  pub type_again : (x : TypeName) → back (type_tree x) ≡ type x
  type_again (tree.UnitType p) = refl
  type_again (tree.IntType p) = refl
  type_again (tree.BoolType p) = refl
  type_again (tree.TextType p) = refl
  type_again (tree.AggregateType p a) = λ k. type (tree.AggregateType p (to_aggregate (aggregate_again a k)))
  type_again (tree.OptionType p a) = λ k. type (tree.OptionType p (to_type (type_again a k)))
  type_again (tree.EventsType p a) = λ k. type (tree.EventsType p (to_type (type_again a k)))

  pub aggregate_again : (x : Aggregate) → back (aggregate_tree x) ≡ aggregate x
  aggregate_again (tree.SetOf a) = λ k. aggregate (tree.SetOf (to_type (type_again a k)))
  aggregate_again (tree.MapOf a b) = λ k. aggregate (tree.MapOf (to_type (type_again a k)) (to_type (type_again b k)))
  aggregate_again (tree.QueueOf a) = λ k. aggregate (tree.QueueOf (to_type (type_again a k)))

mutual
  pub expr_again : (x : Expr) → back (expr_tree x) ≡ expr x
  expr_again (tree.If p a b c) = λ k. expr (tree.If p (to_expr (expr_again a k)) (to_expr (expr_again b k)) (to_expr (expr_again c k)))
  expr_again (tree.Chain p v a b) = λ k. expr (tree.Chain p v (to_expr (expr_again a k)) (to_links (links_again b k)))
  expr_again (tree.Compare p v a b) =
      λ k. expr (tree.Compare p v (to_expr (expr_again a k)) (to_expr (expr_again b k)))
  expr_again (tree.Negate p a) = λ k. expr (tree.Negate p (to_expr (expr_again a k)))
  expr_again (tree.Not p a) = λ k. expr (tree.Not p (to_expr (expr_again a k)))
  expr_again (tree.Number p n) = refl
  expr_again (tree.Negative p n) = refl
  expr_again (tree.Text p ns) = refl
  expr_again (tree.Boolean p v) = λ k. expr (tree.Boolean p (bool_again v k))
  expr_again (tree.Unit p) = refl
  expr_again (tree.Name p ns) = refl
  expr_again (tree.Call p ns a) = λ k. expr (tree.Call p ns (to_exprs (exprs_again a k)))
  expr_again (tree.CallDotted p v a) = λ k. expr (tree.CallDotted p v (to_exprs (exprs_again a k)))
  expr_again (tree.Nil p a) = λ k. expr (tree.Nil p (to_type (type_again a k)))
  expr_again (tree.None p a) = λ k. expr (tree.None p (to_type (type_again a k)))
  expr_again (tree.Empty p a) = λ k. expr (tree.Empty p (to_aggregate (aggregate_again a k)))

  pub exprs_again : (x : Exprs) → back (exprs_tree x) ≡ exprs x
  exprs_again tree.no_exprs = refl
  exprs_again (tree.more_exprs a b) = λ k. exprs (tree.more_exprs (to_expr (expr_again a k)) (to_exprs (exprs_again b k)))

  pub links_again : (x : Links) → back (links_tree x) ≡ links x
  links_again tree.no_links = refl
  links_again (tree.more_links v a b) =
      λ k. links (tree.more_links v (to_expr (expr_again a k)) (to_links (links_again b k)))

pub params_again : (x : List Param) → back (params_tree x) ≡ params x
params_again [] = refl
params_again (x ∷ b) =
    λ k. params (record { place = x.place; name = x.name; of = to_type (type_again x.of k) } ∷ to_params (params_again b k))

pub written_again : (x : Option TypeName) → back (written_tree x) ≡ written x
written_again None = refl
written_again (Some a) = λ k. written (Some (to_type (type_again a k)))

mutual
  pub body_again : (x : Body) → back (body_tree x) ≡ body x
  body_again (tree.Plain a) = λ k. body (tree.Plain (to_expr (expr_again a k)))
  body_again (tree.Block a b) = λ k. body (tree.Block (to_definitions (definitions_again a k)) (to_expr (expr_again b k)))

  pub definition_again : (x : Definition) → back (definition_tree x) ≡ definition x
  definition_again (tree.Define p ns a b c) =
      λ k. definition (tree.Define p ns (to_params (params_again a k)) (to_written (written_again b k)) (to_body (body_again c k)))

  pub definitions_again : (x : Definitions) → back (definitions_tree x) ≡ definitions x
  definitions_again tree.no_definitions = refl
  definitions_again (tree.more_definitions a b) =
      λ k. definitions (tree.more_definitions (to_definition (definition_again a k)) (to_definitions (definitions_again b k)))

abbrev pub type_code : Coded TypeName
type_code = code_by Binary coded_binary type_tree (λ b. to_type (back b)) (λ x. ap to_type (type_again x))

abbrev pub expr_code : Coded Expr
expr_code = code_by Binary coded_binary expr_tree (λ b. to_expr (back b)) (λ x. ap to_expr (expr_again x))

abbrev pub definition_code : Coded Definition
definition_code = code_by Binary coded_binary definition_tree (λ b. to_definition (back b)) (λ x. ap to_definition (definition_again x))
