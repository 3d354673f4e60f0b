-- The language's own names in value functions.
use Rattle.std.proofs.Common.{◌≡◌, ℕ, Bool, true, false, ◌||◌, cond, List, [], ◌∷◌, Some, None, refl, ap, sym, subst, ◌∙◌}
use Rattle.std.specs.Prelude.{Ok}
use Rattle.std.specs.List.{AllByRecursion, list_any, find}
use Rattle.std.specs.Option.{option_map}
use Rattle.std.specs.Str.{bytes_eq}
use Rattle.std.proofs.lemmas.Bool.{or_parts}
use Rattle.std.proofs.lemmas.Option.{same_Some, none-some}
use Rattle.std.proofs.lemmas.Slice.Eq.{bytes_eq-Decides}
use Rattle.tsl_value.specs.declared.operation.Unary.TheVariants as unary
use Rattle.lift_func.specs.BodyTree.{BodyTree, One}
use Rattle.lift_func.specs.Typing.{ValueKind, HasKind, one}
use Rattle.lift_func.specs.Typing as typing
use Rattle.vocabulary.specs.declared.plain.Plain.TheVariants as language
use Rattle.vocabulary.specs.PlainTable.{spelling}
use Rattle.name_check.specs.Builtin.{is_built_in, is_unit}
use Rattle.name_check.specs.Builtin as own
use Rattle.name_check.specs.Scope.{Scope}
use Rattle.type_rules.specs.declared.rule.ExprType.{ExprType}
use Rattle.type_rules.specs.declared.rule.ExprType.TheVariants as expr_type
use Rattle.type_rules.specs.declared.rule.Family.TheVariants as family
use Rattle.type_rules.specs.declared.rule.Setting.TheVariants as setting
use Rattle.type_rules.specs.declared.rule.Asked.TheVariants as asked
use Rattle.type_rules.specs.declared.rule.Builtin.{Builtin}
use Rattle.type_rules.specs.declared.rule.Builtin.TheVariants as builtin
use Rattle.type_rules.specs.Asked.{ask, and_then, inner, unit, int, bool}
use Rattle.type_rules.specs.Rules.{any_stream, stream, ask_two, ask_streams, ask_options, builtin_one, builtin_two, builtin_rule, const_rule, lift_rule}
use Rattle.form_check.specs.Arity.{takes_one, takes_two, names_of_one, names_of_two}
use Rattle.expr_types.specs.Judge.{builtins, builtin_of}
use Rattle.spec_meaning.specs.Function.{option_tree, call_tree}
use Rattle.checked_spec.proofs.FunctionAsks.{checked, of_family, option_of, same_Ok}
use Rattle.checked_spec.proofs.FunctionFitting.{Fits, FitAll, stream_fits, asked_stream}
use Rattle.tsl_value.proofs.Lists.{none_of}

-- ---- names that are none of the language's
pub none_among : (n : List ℕ) (xs : List (List ℕ)) → AllByRecursion (λ x. bytes_eq n x ≡ false) xs → list_any (bytes_eq n) xs ≡ false
none_among n [] none = refl
none_among n (x ∷ xs) none = let rest = none_among n xs none.1 in λ i. none.0 i || rest i

pub record TakesItsOwn (n : List ℕ) : Type 0 where
  pub no_unit : is_unit n ≡ false
  pub takes_none : takes_one n ≡ false
  pub takes_neither : takes_two n ≡ false

-- the places of the names: unit time last delay merge default lift const filter isSome isNone getSome Some
pub takes_its_own : (n : List ℕ) → is_built_in n ≡ false → TakesItsOwn n
unfolding is_built_in is_unit takes_one takes_two
takes_its_own n none =
    let a = none_of (bytes_eq n) (own.unit_name ∷ own.callable_names) (or_parts (list_any (bytes_eq n) (own.unit_name ∷ own.callable_names)) (list_any (bytes_eq n) own.prefixes) none).0 in
    let names = a.1 in
    let time = names.0 in
    let last = names.1.0 in
    let delay = names.1.1.0 in
    let merge = names.1.1.1.0 in
    let default = names.1.1.1.1.0 in
    let const = names.1.1.1.1.1.1.0 in
    let filter = names.1.1.1.1.1.1.1.0 in
    let is_some = names.1.1.1.1.1.1.1.1.0 in
    let is_none = names.1.1.1.1.1.1.1.1.1.0 in
    let get_some = names.1.1.1.1.1.1.1.1.1.1.0 in
    let some = names.1.1.1.1.1.1.1.1.1.1.1.0 in
    record {
      no_unit = a.0;
      takes_none = none_among n names_of_one (time, (is_some, (is_none, (get_some, (some, tt)))));
      takes_neither = none_among n names_of_two (last, (delay, (merge, (default, (const, (filter, tt))))));
    }

-- ---- names that are
abbrev IsSpelled : Builtin → List ℕ → Type 0
IsSpelled builtin.IsSome n = n ≡ spelling language.IsSome
IsSpelled builtin.IsNone n = n ≡ spelling language.IsNone
IsSpelled builtin.GetSome n = n ≡ spelling language.GetSome
IsSpelled builtin.Some n = n ≡ spelling language.Some
IsSpelled o n = Unit {0}

pub record IsOwn (o : Builtin) (n : List ℕ) : Type 0 where
  pub built_in : is_built_in n ≡ true
  pub spelled : IsSpelled o n

builtin_found : (P : Builtin → List ℕ → Type 0) (n : List ℕ) (o : Builtin) (bs : List (List ℕ × Builtin)) → AllByRecursion (λ b. P b.1 b.0) bs → option_map (λ b. b.1) (find (λ b. bytes_eq n b.0) bs) ≡ Some o → P o n
builtin_found P n o [] all is = absurd (none-some o is)
builtin_found P n o (b ∷ bs) all is = either (bytes_eq n b.0) refl is (builtin_found P n o bs all.1)
  where
    either : (x : Bool) → bytes_eq n b.0 ≡ x → option_map (λ b. b.1) (cond x (Some b) (find (λ b. bytes_eq n b.0) bs)) ≡ Some o → (option_map (λ b. b.1) (find (λ b. bytes_eq n b.0) bs) ≡ Some o → P o n) → P o n
    either true same h more = subst (λ x. P x n) (same_Some b.1 o h) (subst (P b.1) (sym ((bytes_eq-Decides n b.0).0 same)) all.0)
    either false same h more = more h

all_built_in : AllByRecursion (λ b. is_built_in b.0 ≡ true) builtins
unfolding is_built_in
all_built_in = (refl, (refl, (refl, (refl, (refl, (refl, (refl, (refl, (refl, (refl, tt))))))))))

all_spelled : AllByRecursion (λ b. IsSpelled b.1 b.0) builtins
all_spelled = (tt, (tt, (tt, (tt, (tt, (tt, (refl, (refl, (refl, (refl, tt))))))))))

pub own_name : (n : List ℕ) (o : Builtin) → builtin_of n ≡ Some o → IsOwn o n
unfolding builtin_of
own_name n o is =
    record { built_in = builtin_found (λ o n. is_built_in n ≡ true) n o builtins all_built_in is; spelled = builtin_found IsSpelled n o builtins all_spelled is }

-- ---- what their rules allow
module _ (ks : List ValueKind) where
  option_fits : (t s : BodyTree) (a u : ExprType) (y : ExprType) → Fits ks t a → a ≡ expr_type.Optional (inner a) → y ≡ u → (HasKind ks t (typing.Optional (inner a)) → Fits ks s y) → Fits ks s u
  option_fits t s a u y f is gives typed = subst (Fits ks s) gives (typed (subst (Fits ks t) is f))

  one_fits : (o : Builtin) (n : List ℕ) (t : BodyTree) (a u : ExprType) → IsSpelled o n → Fits ks t a → builtin_one o a ≡ Ok u → Fits ks (option_tree n t) u
  one_fits builtin.IsSome n t a u spelled f h =
      let c = checked (ask (asked.OptionOf family.Any) a) (Ok (expr_type.Value bool)) u h in
      subst (λ x. Fits ks (option_tree x t) u) (sym spelled)
      (option_fits t (One unary.IsSome t) a u (expr_type.Value bool) f (option_of family.Any a c.0) (same_Ok (expr_type.Value bool) u c.1) (λ k. one k typing.is_some))
  one_fits builtin.IsNone n t a u spelled f h =
      let c = checked (ask (asked.OptionOf family.Any) a) (Ok (expr_type.Value bool)) u h in
      subst (λ x. Fits ks (option_tree x t) u) (sym spelled)
      (option_fits t (One unary.IsNone t) a u (expr_type.Value bool) f (option_of family.Any a c.0) (same_Ok (expr_type.Value bool) u c.1) (λ k. one k typing.is_none))
  one_fits builtin.GetSome n t a u spelled f h =
      let c = checked (ask (asked.OptionOf family.Any) a) (Ok (expr_type.Value (inner a))) u h in
      subst (λ x. Fits ks (option_tree x t) u) (sym spelled)
      (option_fits t (One unary.GetSome t) a u (expr_type.Value (inner a)) f (option_of family.Any a c.0) (same_Ok (expr_type.Value (inner a)) u c.1) (λ k. one k typing.get_some))
  one_fits builtin.Some n t a u spelled f h =
      let c = checked (ask (asked.ValueOf family.Any) a) (Ok (expr_type.Optional (inner a))) u h in
      let v = of_family setting.Values family.Any a c.0 in
      let same : a ≡ expr_type.Value (inner a) = v.is ∙ ap (λ x. expr_type.Value (inner x)) (sym v.is) in
      subst (λ x. Fits ks (option_tree x t) u) (sym spelled)
      (subst (Fits ks (One unary.Some t)) (same_Ok (expr_type.Optional (inner a)) u c.1) (some_typed t a (subst (Fits ks t) same f)))
    where
      some_typed : (t : BodyTree) (a : ExprType) → HasKind ks t (typing.Value (inner a)) → HasKind ks (One unary.Some t) (typing.Optional (inner a))
      some_typed t a k = one k typing.some
  one_fits builtin.Time n t a u spelled f h =
      stream_fits ks (option_tree n t) u int (sym (same_Ok (stream int) u (checked (ask any_stream a) (Ok (stream int)) u h).1))
  one_fits o n t a u spelled f h = stream_fits ks (option_tree n t) u unit (sym (same_Ok (stream unit) u h))

  two_fit : (o : Builtin) (t : BodyTree) (a b u : ExprType) → builtin_two o a b ≡ Ok u → Fits ks t u
  two_fit builtin.Last t a b u h =
      let c = checked (ask any_stream a) (and_then (ask any_stream b) (Ok a)) u h in
      let d = checked (ask any_stream b) (Ok a) u c.1 in
      asked_stream ks t family.Any a u c.0 (same_Ok a u d.1)
  two_fit builtin.Delay t a b u h =
      let c = checked (ask (asked.Exactly (stream int)) a) (and_then (ask any_stream b) (Ok (stream unit))) u h in
      let d = checked (ask any_stream b) (Ok (stream unit)) u c.1 in
      stream_fits ks t u unit (sym (same_Ok (stream unit) u d.1))
  two_fit builtin.Merge t a b u h =
      let c = checked (ask_two any_stream a b) (Ok a) u h in
      let d = checked (ask any_stream a) (ask (asked.Exactly a) b) tt c.0 in
      asked_stream ks t family.Any a u d.0 (same_Ok a u c.1)
  two_fit builtin.Filter t a b u h =
      let c = checked (ask any_stream a) (and_then (ask (asked.Exactly (stream bool)) b) (Ok a)) u h in
      let d = checked (ask (asked.Exactly (stream bool)) b) (Ok a) u c.1 in
      asked_stream ks t family.Any a u c.0 (same_Ok a u d.1)
  two_fit o t a b u h = stream_fits ks t u unit (sym (same_Ok (stream unit) u h))

  pub own_fits : (scope : Scope) (args : List BodyTree) (call : ℕ → List BodyTree → BodyTree) (o : Builtin) (n : List ℕ) (ts : List BodyTree) (us : List ExprType) (u : ExprType) → IsOwn o n → FitAll ks ts us → builtin_rule o us ≡ Ok u → Fits ks (call_tree scope args call None n ts) u
  own_fits scope args call o n ts [] u own f h = stream_fits ks (call_tree scope args call None n ts) u unit (sym (same_Ok (stream unit) u h))
  own_fits scope args call o n [] (a ∷ []) u own f h = absurd f
  own_fits scope args call o n (t ∷ []) (a ∷ []) u own f h = one_fits o n t a u own.spelled f.0 h
  own_fits scope args call o n (t ∷ s ∷ ts) (a ∷ []) u own f h = absurd f.1
  own_fits scope args call o n ts (a ∷ b ∷ []) u own f h = two_fit o (call_tree scope args call None n ts) a b u h
  own_fits scope args call o n ts (a ∷ b ∷ c ∷ us) u own f h = stream_fits ks (call_tree scope args call None n ts) u unit (sym (same_Ok (stream unit) u h))

  -- a constant and a lifted function are streams
  pub const_fits : (t : BodyTree) (literal : Bool) (a b u : ExprType) → const_rule literal a b ≡ Ok u → Fits ks t u
  const_fits t true a b u h =
      let c = checked (ask any_stream b) (Ok (stream (inner a))) u h in
      stream_fits ks t u (inner a) (sym (same_Ok (stream (inner a)) u c.1))
  const_fits t false a b u h = (cc)

  pub lift_fits : (t : BodyTree) (streams params : List ExprType) (result u : ExprType) → lift_rule streams params result ≡ Ok u → Fits ks t u
  lift_fits t streams params result u h =
      let last = and_then (ask (asked.Exactly (expr_type.Optional (inner result))) result) (Ok (stream (inner result))) in
      let c = checked (ask_streams streams) (and_then (ask_options streams params) last) u h in
      let d = checked (ask_options streams params) last u c.1 in
      let e = checked (ask (asked.Exactly (expr_type.Optional (inner result))) result) (Ok (stream (inner result))) u d.1 in
      stream_fits ks t u (inner result) (sym (same_Ok (stream (inner result)) u e.1))
