-- What the rule of a function with a dot allows: keys and entries of some types, and with them the type of each part and of the whole.
use Rattle.std.proofs.Common.{◌≡◌, Bool, true, false, ◌&&◌, refl, sym, ap, ◌∙◌}
use Rattle.std.specs.Prelude.{Ok}
use Rattle.std.proofs.lemmas.Bool.{and_parts, false≢true}
use Rattle.tsl_value.specs.declared.scalar.KeyType.{KeyType}
use Rattle.tsl_value.specs.declared.scalar.KeyType.TheVariants as key_type
use Rattle.tsl_value.specs.declared.scalar.ScalarType.{ScalarType}
use Rattle.tsl_value.specs.declared.scalar.ScalarType.TheVariants as scalar_type
use Rattle.tsl_value.specs.declared.scalar.ValueType.{ValueType}
use Rattle.tsl_value.specs.declared.scalar.ValueType.TheVariants as value_type
use Rattle.lift_func.specs.Typing.{scalar_of}
use Rattle.vocabulary.specs.declared.kind.Kind.{Kind}
use Rattle.vocabulary.specs.declared.kind.Kind.TheVariants as aggregate_kind
use Rattle.vocabulary.specs.declared.signature.Term.{Term}
use Rattle.vocabulary.specs.declared.signature.Term.TheVariants as term
use Rattle.vocabulary.specs.declared.signature.Parameters.TheVariants as parameters
use Rattle.vocabulary.proofs.Listed.{same_kind, has_key, has_entry, admits, is_scoped}
use Rattle.type_rules.specs.declared.rule.ExprType.{ExprType}
use Rattle.type_rules.specs.declared.rule.Family.TheVariants as family
use Rattle.type_rules.specs.declared.rule.Setting.{Setting}
use Rattle.type_rules.specs.Asked.{is_in, lifted, inner, of_key, key_of, entry_of}
use Rattle.type_rules.specs.Rules.{of_term, ask_first, ask_other, ask_terms, rule_of_one, rule_of_two, rule_of_three}
use Rattle.checked_spec.proofs.OperationTypes.{aggregate_type, at_types}
use Rattle.checked_spec.proofs.SameLemmas.{exactly}
use Rattle.checked_spec.proofs.FunctionAsks.{checked, of_family, inner_lifted, same_Ok}

-- ---- aggregates
key_is : (k : KeyType) → of_key k ≡ value_type.Scalar (scalar_of k)
key_is key_type.Int = refl
key_is key_type.Bool = refl
key_is key_type.Text = refl

-- the type is one of the aggregates of this kind
record IsOfKind (g : Kind) (of : ValueType) : Type 0 where
  key : KeyType
  entry : ScalarType
  is : of ≡ aggregate_type g key entry

of_kind : (g : Kind) (of : ValueType) → is_in (family.Of g) of ≡ true → IsOfKind g of
of_kind aggregate_kind.Set (value_type.Set k) h = record { key = k; entry = scalar_type.Unit; is = refl }
of_kind aggregate_kind.Map (value_type.Map k s) h = record { key = k; entry = s; is = refl }
of_kind aggregate_kind.Queue (value_type.Queue s) h = record { key = key_type.Int; entry = s; is = refl }
of_kind g of h = absurd (false≢true h)

keys_of : (g : Kind) (k : KeyType) (x : ScalarType) → has_key g ≡ true → key_of (aggregate_type g k x) ≡ value_type.Scalar (scalar_of k)
keys_of aggregate_kind.Set k x h = key_is k
keys_of aggregate_kind.Map k x h = key_is k
keys_of aggregate_kind.Queue k x h = absurd (false≢true h)

entries_of : (g : Kind) (k : KeyType) (x : ScalarType) → has_entry g ≡ true → entry_of (aggregate_type g k x) ≡ value_type.Scalar x
entries_of aggregate_kind.Map k x h = refl
entries_of aggregate_kind.Queue k x h = refl
entries_of g k x h = absurd (false≢true h)

-- ---- the first part fixes the types of keys and of entries
record IsFixed (at : Setting) (p : Term) (a : ExprType) : Type 0 where
  key : KeyType
  entry : ScalarType
  first : a ≡ lifted at (at_types key entry p)
  others : (t : Term) → admits p t ≡ true → of_term at a t ≡ lifted at (at_types key entry t)

fixed : (at : Setting) (p : Term) (a : ExprType) → admits p p ≡ true → ask_first at p a ≡ Ok tt → IsFixed at p a
fixed at (term.Of g) a own h =
    let s = of_family at (family.Of g) a h in
    let m = of_kind g s.of s.within in
    let whole = s.is ∙ ap (lifted at) m.is in
    record { key = m.key; entry = m.entry; first = whole; others = by m.key m.entry whole }
  where
    by : (k : KeyType) (x : ScalarType) → a ≡ lifted at (aggregate_type g k x) → (t : Term) → admits (term.Of g) t ≡ true → of_term at a t ≡ lifted at (at_types k x t)
    by k x is (term.Of h) ok = is ∙ ap (λ j. lifted at (aggregate_type j k x)) (sym (same_kind g h ok))
    by k x is term.Key ok = ap (λ u. lifted at (key_of (inner u))) is ∙ ap (λ v. lifted at (key_of v)) (inner_lifted at (aggregate_type g k x)) ∙ ap (lifted at) (keys_of g k x ok)
    by k x is term.Entry ok = ap (λ u. lifted at (entry_of (inner u))) is ∙ ap (λ v. lifted at (entry_of v)) (inner_lifted at (aggregate_type g k x)) ∙ ap (lifted at) (entries_of g k x ok)
    by k x is (term.Scalar t) ok = refl
fixed at (term.Scalar s) a own h = record { key = key_type.Int; entry = scalar_type.Unit; first = exactly (lifted at (value_type.Scalar s)) a h; others = by }
  where
    by : (t : Term) → admits (term.Scalar s) t ≡ true → of_term at a t ≡ lifted at (at_types key_type.Int scalar_type.Unit t)
    by (term.Scalar t) ok = refl
    by t ok = absurd (false≢true ok)
fixed at p a own h = absurd (false≢true own)

-- ---- what is allowed, by the number of parts
pub record HasOne (at : Setting) (p g : Term) (a u : ExprType) : Type 0 where
  pub key : KeyType
  pub entry : ScalarType
  pub first : a ≡ lifted at (at_types key entry p)
  pub whole : lifted at (at_types key entry g) ≡ u

pub one_allowed : (at : Setting) (p g : Term) (a u : ExprType) → is_scoped (parameters.One p) g ≡ true → rule_of_one at (parameters.One p) g a ≡ Ok u → HasOne at p g a u
one_allowed at p g a u scoped h =
    let c = checked (ask_first at p a) (Ok (of_term at a g)) u h in
    let s = and_parts (admits p p) (admits p g) scoped in
    let f = fixed at p a s.0 c.0 in
    record { key = f.key; entry = f.entry; first = f.first; whole = sym (f.others g s.1) ∙ same_Ok (of_term at a g) u c.1 }

pub record HasTwo (at : Setting) (p q g : Term) (a b u : ExprType) : Type 0 where
  pub key : KeyType
  pub entry : ScalarType
  pub first : a ≡ lifted at (at_types key entry p)
  pub second : b ≡ lifted at (at_types key entry q)
  pub whole : lifted at (at_types key entry g) ≡ u

pub two_allowed : (at : Setting) (p q g : Term) (a b u : ExprType) → is_scoped (parameters.Two p q) g ≡ true → rule_of_two at (parameters.Two p q) g a b ≡ Ok u → HasTwo at p q g a b u
two_allowed at p q g a b u scoped h =
    let c = checked (ask_terms at p q a b) (Ok (of_term at a g)) u h in
    let d = checked (ask_first at p a) (ask_other at a q b) tt c.0 in
    let s = and_parts (admits p p) (admits p q && admits p g) scoped in
    let r = and_parts (admits p q) (admits p g) s.1 in
    let f = fixed at p a s.0 d.0 in
    record {
      key = f.key;
      entry = f.entry;
      first = f.first;
      second = exactly (of_term at a q) b d.1 ∙ f.others q r.0;
      whole = sym (f.others g r.1) ∙ same_Ok (of_term at a g) u c.1;
    }

pub record HasThree (at : Setting) (p q r g : Term) (a b c u : ExprType) : Type 0 where
  pub key : KeyType
  pub entry : ScalarType
  pub first : a ≡ lifted at (at_types key entry p)
  pub second : b ≡ lifted at (at_types key entry q)
  pub third : c ≡ lifted at (at_types key entry r)
  pub whole : lifted at (at_types key entry g) ≡ u

pub three_allowed : (at : Setting) (p q r g : Term) (a b c u : ExprType) → is_scoped (parameters.Three p q r) g ≡ true → rule_of_three at (parameters.Three p q r) g a b c ≡ Ok u → HasThree at p q r g a b c u
three_allowed at p q r g a b c u scoped h =
    let k = checked (ask_terms at p q a b) _ u h in
    let l = checked (ask_other at a r c) (Ok (of_term at a g)) u k.1 in
    let d = checked (ask_first at p a) (ask_other at a q b) tt k.0 in
    let s = and_parts (admits p p) (admits p q && (admits p r && admits p g)) scoped in
    let m = and_parts (admits p q) (admits p r && admits p g) s.1 in
    let n = and_parts (admits p r) (admits p g) m.1 in
    let f = fixed at p a s.0 d.0 in
    record {
      key = f.key;
      entry = f.entry;
      first = f.first;
      second = exactly (of_term at a q) b d.1 ∙ f.others q m.0;
      third = exactly (of_term at a r) c l.0 ∙ f.others r n.0;
      whole = sym (f.others g n.1) ∙ same_Ok (of_term at a g) u l.1;
    }
