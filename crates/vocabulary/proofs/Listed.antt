-- What is found by two names has them. What holds of all functions that are listed holds of each.
use Rattle.std.proofs.Common.{◌≡◌, ℕ, Bool, true, false, cond, ◌&&◌, ◌||◌, List, [], ◌∷◌, Some, refl, ap, subst}
use Rattle.std.specs.List.{find, list_all}
use Rattle.std.specs.Str.{bytes_eq}
use Rattle.std.proofs.lemmas.Bool.{and_parts, false≢true}
use Rattle.std.proofs.lemmas.Option.{same_Some}
use Rattle.std.proofs.lemmas.Slice.Eq.{bytes_eq-Decides}
use Rattle.vocabulary.specs.declared.kind.Kind.{Kind}
use Rattle.vocabulary.specs.declared.kind.Kind.TheVariants as kind
use Rattle.vocabulary.specs.Kinds.{kind_name, kinds, kind_named, is_kind}
use Rattle.vocabulary.specs.declared.dotted.Family.{Family}
use Rattle.vocabulary.specs.declared.dotted.Family.TheVariants as family
use Rattle.vocabulary.specs.declared.dotted.Dotted.{Dotted}
use Rattle.vocabulary.specs.declared.signature.Term.{Term}
use Rattle.vocabulary.specs.declared.signature.Term.TheVariants as term
use Rattle.vocabulary.specs.declared.signature.Parameters.{Parameters}
use Rattle.vocabulary.specs.declared.signature.Parameters.TheVariants as parameters
use Rattle.vocabulary.specs.declared.signature.Role.{Role}
use Rattle.vocabulary.specs.declared.signature.Role.TheVariants as role
use Rattle.vocabulary.specs.Table.{family_in, member_name, parameters_of, gives_of, role_of, is_family, every, dotted_of, dotted_again}

-- what is found passes the test, and whatever all pass
pub found : {A : Type 0} (p : A → Bool) (xs : List A) (x : A) → find p xs ≡ Some x → p x ≡ true
found p [] x h = absurd (cc)
found p (y ∷ ys) x h = by (p y) refl (found p ys x) h
  where
    by : (b : Bool) → p y ≡ b → (find p ys ≡ Some x → p x ≡ true) → cond b (Some y) (find p ys) ≡ Some x → p x ≡ true
    by true is more same = subst (λ z. p z ≡ true) (same_Some y x same) is
    by false is more other = more other

-- ---- kinds
-- what is found by a name has it, and each is found by its name
pub kind_is : (n : List ℕ) (g : Kind) → kind_named n ≡ Some g → n ≡ kind_name g
kind_is n g h = (bytes_eq-Decides n (kind_name g)).0 (found (λ g. bytes_eq n (kind_name g)) kinds g h)

pub kind_again : (g : Kind) → kind_named (kind_name g) ≡ Some g
kind_again kind.Set = refl
kind_again g = refl

pub same_kind : (g h : Kind) → is_kind g h ≡ true → h ≡ g
same_kind kind.Set kind.Set same = refl
same_kind kind.Map kind.Map same = refl
same_kind kind.Queue kind.Queue same = refl
same_kind g h same = absurd (false≢true same)

-- ---- functions with a dot
same_family : (f g : Family) → is_family f g ≡ true → g ≡ f
same_family (family.Of g) (family.Of h) same = ap family.Of (same_kind g h same)
same_family family.Text family.Text h = refl
same_family f g h = absurd (false≢true h)

pub dotted_is : (f : Family) (n : List ℕ) (d : Dotted) → dotted_of f n ≡ Some d → (f ≡ family_in d) × (n ≡ member_name d)
unfolding dotted_of
dotted_is f n d h =
    let both = and_parts (is_family (family_in d) f) (bytes_eq n (member_name d)) (found (λ d. is_family (family_in d) f && bytes_eq n (member_name d)) every d h) in
    (same_family (family_in d) f both.0, (bytes_eq-Decides n (member_name d)).0 both.1)

held : {A : Type 0} (p q : A → Bool) (xs : List A) (x : A) → list_all q xs ≡ true → find p xs ≡ Some x → q x ≡ true
held p q [] x all h = absurd (cc)
held p q (y ∷ ys) x all h = let both = and_parts (q y) (list_all q ys) all in by (p y) both.0 (held p q ys x both.1) h
  where
    by : (b : Bool) → q y ≡ true → (find p ys ≡ Some x → q x ≡ true) → cond b (Some y) (find p ys) ≡ Some x → q x ≡ true
    by true here more same = subst (λ z. q z ≡ true) (same_Some y x same) here
    by false here more other = more other

-- a test that all pass, which is found out by computing
pub all_true : (q : Dotted → Bool) → list_all q every ≡ true → (d : Dotted) → q d ≡ true
unfolding dotted_of
all_true q all d = held (λ e. is_family (family_in e) (family_in d) && bytes_eq (member_name d) (member_name e)) q every d all (dotted_again d)

-- ---- signatures
-- the type of an aggregate of this kind has a type of keys, or one of entries
abbrev pub has_key : Kind → Bool
has_key kind.Set = true
has_key kind.Map = true
has_key kind.Queue = false

abbrev pub has_entry : Kind → Bool
has_entry kind.Set = false
has_entry kind.Map = true
has_entry kind.Queue = true

-- what the first argument fixes is enough for this type
abbrev pub admits : Term → Term → Bool
admits (term.Of g) (term.Of h) = is_kind g h
admits (term.Of g) term.Key = has_key g
admits (term.Of g) term.Entry = has_entry g
admits (term.Of g) (term.Scalar t) = true
admits (term.Scalar s) (term.Scalar t) = true
admits p t = false

abbrev pub is_scoped : Parameters → Term → Bool
is_scoped (parameters.One p) g = admits p p && admits p g
is_scoped (parameters.Two p q) g = admits p p && (admits p q && admits p g)
is_scoped (parameters.Three p q r) g = admits p p && (admits p q && (admits p r && admits p g))

pub each_scoped : (d : Dotted) → is_scoped (parameters_of d) (gives_of d) ≡ true
each_scoped d = all_true (λ d. is_scoped (parameters_of d) (gives_of d)) refl d

-- an operation gives no aggregate
abbrev pub is_update : Role → Bool
is_update (role.Update o) = true
is_update r = false

abbrev pub is_scalar : Term → Bool
is_scalar (term.Of g) = false
is_scalar t = true

abbrev pub gives_scalar : Role → Term → Bool
gives_scalar r g = is_update r || is_scalar g

pub each_scalar : (d : Dotted) → gives_scalar (role_of d) (gives_of d) ≡ true
each_scalar d = all_true (λ d. gives_scalar (role_of d) (gives_of d)) refl d
