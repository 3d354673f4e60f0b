-- What the tests of a name say, by what is found of it in the table, and of a name that is not the language's own.
use Rattle.std.proofs.Common.{◌≡◌, ℕ, false, List, Option, Some, None, refl, ap, ◌∙◌}
use Rattle.std.specs.Option.{option_map, option_and_then}
use Rattle.std.specs.Str.{bytes_eq}
use Rattle.vocabulary.specs.declared.plain.Plain.{Plain}
use Rattle.vocabulary.specs.declared.plain.Plain.TheVariants as plain
use Rattle.vocabulary.specs.PlainTable.{plain_of}
use Rattle.vocabulary.proofs.Plains.{is_found, spelled_as_found, said_of_plain}
use Rattle.name_check.specs.Builtin.{is_lift, is_called, callable_names}
use Rattle.stream_constructs.specs.Construct.{Construct}
use Rattle.spec_meaning.specs.Shape.{plain_construct, plain_names, plain_name, is_delay, is_const, is_filter}
use Rattle.spec_meaning.specs.inner.Plain.{by_tests, by_plain}
use Rattle.tsl_value.proofs.Lists.{none_of, none_found}

module _ {X : Type 0} (whole : Construct → X) (delay const filter lift other : X) where
  as_found : (o : Option Plain) → by_tests whole delay const filter lift other (option_and_then plain_construct o) (is_found plain.Delay o) (is_found plain.Const o) (is_found plain.Filter o) (is_found plain.Lift o) ≡ by_plain whole delay const filter lift other o
  as_found None = refl
  as_found (Some plain.Time) = refl
  as_found (Some plain.Last) = refl
  as_found (Some plain.Delay) = refl
  as_found (Some plain.Merge) = refl
  as_found (Some plain.Default) = refl
  as_found (Some plain.Lift) = refl
  as_found (Some plain.Const) = refl
  as_found (Some plain.Filter) = refl
  as_found (Some plain.IsSome) = refl
  as_found (Some plain.IsNone) = refl
  as_found (Some plain.GetSome) = refl
  as_found (Some plain.Some) = refl

  pub tests_as_found : (n : List ℕ) → by_tests whole delay const filter lift other (plain_name n) (is_delay n) (is_const n) (is_filter n) (is_lift n) ≡ by_plain whole delay const filter lift other (plain_of n)
  unfolding plain_name is_delay is_const is_filter is_lift
  tests_as_found n =
      (λ i.
      by_tests whole delay const filter lift other (said_of_plain plain_construct n i) (spelled_as_found plain.Delay n i) (spelled_as_found plain.Const n i) (spelled_as_found plain.Filter n i) (spelled_as_found plain.Lift n i))
      ∙ as_found (plain_of n)

-- no construct of the language has this name
pub record IsNoBuiltin (n : List ℕ) : Type 0 where
  pub no_plain : plain_name n ≡ None
  pub no_delay : is_delay n ≡ false
  pub no_const : is_const n ≡ false
  pub no_filter : is_filter n ≡ false
  pub no_lift : is_lift n ≡ false

pub no_builtin : (n : List ℕ) → is_called n ≡ false → IsNoBuiltin n
unfolding is_called plain_name is_delay is_const is_filter is_lift
no_builtin n none =
    let all = none_of (bytes_eq n) callable_names none in
    record {
      no_plain = ap (option_map (λ c. c.1)) (none_found (λ c. bytes_eq n c.0) plain_names (all.0, (all.1.0, (all.1.1.1.0, (all.1.1.1.1.0, tt)))));
      no_delay = all.1.1.0;
      no_const = all.1.1.1.1.1.1.0;
      no_filter = all.1.1.1.1.1.1.1.0;
      no_lift = all.1.1.1.1.1.0;
    }
