-- Names that the grammar knows: from the reader's tests to their spelling.
use Rattle.std.proofs.Common.{◌≡◌, ℕ, Bool, true, false, if◌then◌else◌, List, Option, Some, None, refl, ap, subst, arith}
use Rattle.std.specs.Prelude.{codes}
use Rattle.std.specs.Option.{option_map}
use Rattle.std.specs.Str.{bytes_eq}
use Rattle.std.proofs.lemmas.Slice.Eq.{bytes_eq-Decides}
use Rattle.vocabulary.specs.declared.kind.Kind.{Kind}
use Rattle.vocabulary.specs.declared.kind.Kind.TheVariants as kind
use Rattle.vocabulary.specs.declared.dotted.Dotted.{Dotted}
use Rattle.spec_parser.specs.declared.words.TypeWord.{TypeWord}
use Rattle.spec_parser.specs.declared.words.TypeWord.TheVariants as type_word
use Rattle.spec_parser.specs.declared.words.TypedWord.{TypedWord}
use Rattle.spec_parser.specs.declared.words.TypedWord.TheVariants as typed_word
use Rattle.vocabulary.specs.declared.dotted.Family.{Family}
use Rattle.vocabulary.specs.declared.dotted.Family.TheVariants as family
use Rattle.spec_parser.specs.declared.words.Member.{Member}
use Rattle.spec_parser.specs.declared.words.Member.TheVariants as member
use Rattle.vocabulary.specs.Kinds.{kind_name, kind_named}
use Rattle.vocabulary.specs.Table.{family_of, family_name, family_in, member_name, dotted_of, dotted_again}
use Rattle.spec_parser.specs.Words.{type_word_of, typed_word_of}
use Rattle.vocabulary.proofs.Listed.{kind_is, dotted_is}
use Rattle.spec_parser.specs.inner.Reading.{empty_of, empty_member, called_or, member_of}

bytes_are : (n a : List ℕ) → bytes_eq n a ≡ true → n ≡ a
bytes_are n a h = grind (arith, h, bytes_eq-Decides n a)

module _ {W : Type 0} where
  some_same : (x w : W) → Some x ≡ Some w → x ≡ w
  some_same x w h = cc

  none_some : (w : W) → None ≡ Some w → ⊥
  none_some w h = cc

  -- one step of a search
  step : (n : List ℕ) (w : W) (Q : W → Type 0) (a : List ℕ) (x : W) (rest : Option W) → (n ≡ a → Q x) → (rest ≡ Some w → Q w) → (if bytes_eq n a then Some x else rest) ≡ Some w → Q w
  step n w Q a x rest here others = by (bytes_eq n a) refl
    where
      by : (b : Bool) → bytes_eq n a ≡ b → (if b then Some x else rest) ≡ Some w → Q w
      by true e h = subst Q (some_same x w h) (here (bytes_are n a e))
      by false e h = others h

  -- the last one, by the name of a kind
  last_step : (n : List ℕ) (w : W) (Q : W → Type 0) (of : Kind → W) → ((g : Kind) → n ≡ kind_name g → Q (of g)) → option_map of (kind_named n) ≡ Some w → Q w
  last_step n w Q of each = by (kind_named n) refl
    where
      by : (o : Option Kind) → kind_named n ≡ o → option_map of o ≡ Some w → Q w
      by (Some g) is h = subst Q (some_same (of g) w h) (each g (kind_is n g is))
      by None is h = absurd (none_some w h)

abbrev pub type_name : TypeWord → List ℕ
type_name type_word.Unit = codes "Unit"
type_name type_word.Int = codes "Int"
type_name type_word.Bool = codes "Bool"
type_name type_word.Text = codes "String"
type_name (type_word.Of g) = kind_name g
type_name type_word.Option = codes "Option"
type_name type_word.Events = codes "Events"

pub type_word_is : (n : List ℕ) (w : TypeWord) → type_word_of n ≡ Some w → n ≡ type_name w
type_word_is n w =
    let Q : TypeWord → Type 0 = λ w. n ≡ type_name w in
    step n w Q (codes "Unit") type_word.Unit _ (λ e. e)
    (step n w Q (codes "Int") type_word.Int _ (λ e. e)
    (step n w Q (codes "Bool") type_word.Bool _ (λ e. e)
    (step n w Q (codes "String") type_word.Text _ (λ e. e)
    (step n w Q (codes "Option") type_word.Option _ (λ e. e)
    (step n w Q (codes "Events") type_word.Events _ (λ e. e) (last_step n w Q type_word.Of (λ g e. e)))))))

abbrev pub typed_name : TypedWord → List ℕ
typed_name typed_word.Nil = codes "nil"
typed_name typed_word.None = codes "None"

pub typed_word_is : (n : List ℕ) (w : TypedWord) → typed_word_of n ≡ Some w → n ≡ typed_name w
typed_word_is n w =
    let Q : TypedWord → Type 0 = λ w. n ≡ typed_name w in
    step n w Q (codes "nil") typed_word.Nil _ (λ e. e)
    (step n w Q (codes "None") typed_word.None _ (λ e. e) (λ h. absurd (none_some w h)))

pub family_is : (n : List ℕ) (w : Family) → family_of n ≡ Some w → n ≡ family_name w
family_is n w =
    let Q : Family → Type 0 = λ w. n ≡ family_name w in
    step n w Q (codes "String") family.Text _ (λ e. e) (last_step n w Q family.Of (λ g e. e))

abbrev pub member_spelling : Member → List ℕ
member_spelling (member.Called o) = member_name o
member_spelling (member.Empty g) = codes "empty"

abbrev pub member_family : Member → Family
member_family (member.Called o) = family_in o
member_family (member.Empty g) = family.Of g

no_empty : (b : Bool) (w : Member) → (if b then empty_of family.Text else None) ≡ Some w → ⊥
no_empty true w h = none_some w h
no_empty false w h = none_some w h

empty_is : (f : Family) (n : List ℕ) (w : Member) → empty_member f n ≡ Some w → (f ≡ member_family w) × (n ≡ member_spelling w)
empty_is (family.Of g) n w = step n w (λ w. (family.Of g ≡ member_family w) × (n ≡ member_spelling w)) (codes "empty") (member.Empty g) None (λ e. (refl, e)) (λ h. absurd (none_some w h))
empty_is family.Text n w = λ h. absurd (no_empty (bytes_eq n (codes "empty")) w h)

pub member_is : (f : Family) (n : List ℕ) (w : Member) → member_of f n ≡ Some w → (f ≡ member_family w) × (n ≡ member_spelling w)
unfolding member_of
member_is f n w = by (dotted_of f n) refl
  where
    by : (o : Option Dotted) → dotted_of f n ≡ o → called_or (empty_member f n) o ≡ Some w → (f ≡ member_family w) × (n ≡ member_spelling w)
    by (Some d) is h = subst (λ w. (f ≡ member_family w) × (n ≡ member_spelling w)) (some_same (member.Called d) w h) (dotted_is f n d is)
    by None is h = empty_is f n w h

-- and back
pub type_again : (g : Kind) → type_word_of (kind_name g) ≡ Some (type_word.Of g)
type_again kind.Set = refl
type_again g = refl

pub family_again : (f : Family) → family_of (family_name f) ≡ Some f
family_again (family.Of kind.Set) = refl
family_again (family.Of g) = refl
family_again family.Text = refl

pub member_again : (o : Dotted) → member_of (family_in o) (member_name o) ≡ Some (member.Called o)
unfolding member_of
member_again o = ap (called_or (empty_member (family_in o) (member_name o))) (dotted_again o)

pub empty_again : (g : Kind) → member_of (family.Of g) (codes "empty") ≡ Some (member.Empty g)
unfolding member_of dotted_of
empty_again kind.Set = refl
empty_again g = refl
