-- Names that are all there and all different.
use Rattle.std.proofs.Common.{◌≡◌, ◌&&◌, ◌||◌, ℕ, zero, suc, Bool, true, false, not, cond, List, [], ◌∷◌, ◌++◌, map, Option, Some, None, String, refl, sym, ap, subst, ◌∙◌, arith}
use Rattle.std.specs.Prelude.{IsTrue, slice_get}
use Rattle.std.specs.List.{AllByRecursion, list_any}
use Rattle.std.specs.BTreeSet.{insert_key}
use Rattle.std.specs.Cmp.{Equal-is}
use Rattle.std.specs.Ordering.{is_eq, match_ordering}
use Rattle.std.specs.declared.cmp.Ordering.{Ordering}
use Rattle.std.specs.declared.cmp.Ordering.TheVariants.{Less, Equal, Greater}
use Rattle.std.specs.Str.{bytes_eq}
use Rattle.std.specs.String.{string_bytes, string_cmp}
use Rattle.std.proofs.Math.Bool.{or-false, or_assoc, or_comm}
use Rattle.std.proofs.lemmas.Bool.{and_from, and_parts, false≢true, not-true, not_from_false, or_from, or_parts}
use Rattle.std.proofs.lemmas.List.Folds.{list_any-append}
use Rattle.std.proofs.lemmas.Map.Text.{is_eq-slice_cmp}
use Rattle.std.proofs.lemmas.Slice.Eq.{bytes_eq-Decides}
use Rattle.flat_core.specs.declared.equation.Equation.{Equation}
use Rattle.flat_core.specs.declared.equation.Output.{Output}
use Rattle.flat_core.specs.Complete.{HaveDifferentNames}
use Rattle.flat_core.specs.System.{System}
use Rattle.trace_reader.specs.Reading.{is_input}
use Rattle.code_reader.specs.inner.Joined.{HasInputNames}
use Rattle.code_reader.specs.inner.Names.{Adds, are_apart, input_names, output_names}

-- ---- one name more

in_more : (m n : List ℕ) (before : List (List ℕ)) → list_any (bytes_eq m) (before ++ n ∷ []) ≡ (list_any (bytes_eq m) before || bytes_eq m n)
in_more m n before = list_any-append (bytes_eq m) before (n ∷ []) ∙ ap (λ b. list_any (bytes_eq m) before || b) (or-false (bytes_eq m n))

-- ---- a set of names

-- whether all names differ depends on which were before, and not on their order
same_before : (names : List (Option (List ℕ))) (a b : List (List ℕ)) → ((m : List ℕ) → list_any (bytes_eq m) a ≡ list_any (bytes_eq m) b) → are_apart a names ≡ are_apart b names
same_before [] a b same = refl
same_before (None ∷ names) a b same = refl
same_before (Some n ∷ names) a b same =
    let rest = same_before names (a ++ n ∷ []) (b ++ n ∷ []) (λ m. in_more m n a ∙ ap (λ there. there || bytes_eq m n) (same m) ∙ sym (in_more m n b)) in
    (λ k. not (same n k) && rest k)

absorbed : (a b c : Bool) → b ≡ a → ((a || c) || b) ≡ (a || c)
absorbed a true c same = ap (λ d. (d || c) || true) (sym same) ∙ ap (λ d. d || c) same
absorbed a false c same = or-false (a || c)

module _ {A : Type 0} where
  abbrev has : List ℕ → List (String A) → Bool
  has m keys = list_any (bytes_eq m) (map string_bytes keys)

  key_is : (k x : String A) → bytes_eq (string_bytes k) (string_bytes x) ≡ is_eq (string_cmp k x)
  key_is k x = sym (is_eq-slice_cmp (string_bytes k) (string_bytes x))

  has_key : (k : String A) (keys : List (String A)) → has (string_bytes k) keys ≡ list_any (λ x. is_eq (string_cmp k x)) keys
  has_key k [] = refl
  has_key k (x ∷ keys) = (λ i. key_is k x i || has_key k keys i)

  -- at its place, the key stands among the others
  module _ (m : List ℕ) (k x : String A) (keys : List (String A)) (rest : has m (insert_key string_cmp keys k) ≡ (has m keys || bytes_eq m (string_bytes k))) where
    by_order : (o : Ordering) → string_cmp k x ≡ o
        → has m (match_ordering o (k ∷ x ∷ keys) (x ∷ keys) (x ∷ insert_key string_cmp keys k)) ≡ (has m (x ∷ keys) || bytes_eq m (string_bytes k))
    by_order Less is = or_comm (bytes_eq m (string_bytes k)) (has m (x ∷ keys))
    by_order Equal is =
        let same = (bytes_eq-Decides (string_bytes k) (string_bytes x)).0 (key_is k x ∙ (Equal-is (string_cmp k x)).1 is) in
        sym (absorbed (bytes_eq m (string_bytes x)) (bytes_eq m (string_bytes k)) (has m keys) (ap (λ n. bytes_eq m n) same))
    by_order Greater is = ap (λ later. bytes_eq m (string_bytes x) || later) rest ∙ sym (or_assoc (bytes_eq m (string_bytes x)) (has m keys) (bytes_eq m (string_bytes k)))

  has_inserted : (m : List ℕ) (k : String A) (keys : List (String A)) → has m (insert_key string_cmp keys k) ≡ (has m keys || bytes_eq m (string_bytes k))
  has_inserted m k [] = or-false (bytes_eq m (string_bytes k))
  has_inserted m k (x ∷ keys) = by_order m k x keys (has_inserted m k keys) (string_cmp k x) refl

pub added : {A : Type 0} (keys more : List (String A)) (k : String A) (n : List ℕ) (new : Bool) → string_bytes k ≡ n
    → new ≡ not (list_any (λ x. is_eq (string_cmp k x)) keys)
    → more ≡ insert_key string_cmp keys k
    → Adds (map string_bytes keys) (map string_bytes more) (Some n ∷ []) new
added keys more k n new same is step names =
    let first : not (list_any (bytes_eq n) (map string_bytes keys)) ≡ new =
    ap (λ m. not (list_any (bytes_eq m) (map string_bytes keys))) (sym same) ∙ ap not (has_key k keys) ∙ sym is in
    let before = same_before names (map string_bytes keys ++ n ∷ []) (map string_bytes more)
    (λ m. in_more m n (map string_bytes keys)
    ∙ ap (λ s. list_any (bytes_eq m) (map string_bytes keys) || bytes_eq m s) (sym same)
    ∙ sym (has_inserted m k keys)
    ∙ ap (λ ks. list_any (bytes_eq m) (map string_bytes ks)) (sym step)) in
    (λ i. first i && before i)

new_parts : (m n : List ℕ) (before : List (List ℕ)) → list_any (bytes_eq m) (before ++ n ∷ []) ≡ false → (list_any (bytes_eq m) before ≡ false) × (m ≡ n → ⊥)
new_parts m n before new =
    let both = or_parts (list_any (bytes_eq m) before) (bytes_eq m n) (sym (in_more m n before) ∙ new) in
    (both.0, λ same. false≢true (sym both.1 ∙ (bytes_eq-Decides m n).1 same))

new_from : (m n : List ℕ) (before : List (List ℕ)) → list_any (bytes_eq m) before ≡ false → (m ≡ n → ⊥) → list_any (bytes_eq m) (before ++ n ∷ []) ≡ false
new_from m n before new other = in_more m n before ∙ or_from (list_any (bytes_eq m) before) (bytes_eq m n) new (unequal (bytes_eq m n) refl)
  where
    unequal : (b : Bool) → bytes_eq m n ≡ b → b ≡ false
    unequal true is = absurd (other ((bytes_eq-Decides m n).0 is))
    unequal false is = refl

-- ---- outputs

abbrev IsNew : List (List ℕ) → Output → Type 0
IsNew before o = list_any (bytes_eq o.name) before ≡ false

each_new : (before : List (List ℕ)) (n : List ℕ) (os : List Output) → AllByRecursion (IsNew (before ++ n ∷ [])) os → AllByRecursion (IsNew before) os × AllByRecursion (λ p. ¬ (p.name ≡ n)) os
each_new before n [] all = (tt, tt)
each_new before n (o ∷ os) all =
    let one = new_parts o.name n before all.0 in
    let rest = each_new before n os all.1 in
    ((one.0, rest.0), (one.1, rest.1))

each_more : (before : List (List ℕ)) (n : List ℕ) (os : List Output) → AllByRecursion (IsNew before) os → AllByRecursion (λ p. ¬ (p.name ≡ n)) os → AllByRecursion (IsNew (before ++ n ∷ [])) os
each_more before n [] all others = tt
each_more before n (o ∷ os) all others = (new_from o.name n before all.0 others.0, each_more before n os all.1 others.1)

none_before : (os : List Output) → AllByRecursion (IsNew []) os
none_before [] = tt
none_before (o ∷ os) = (refl, none_before os)

differ_to : (before : List (List ℕ)) (os : List Output) → IsTrue (are_apart before (output_names os)) → AllByRecursion (IsNew before) os × HaveDifferentNames os
differ_to before [] apart = (tt, tt)
differ_to before (o ∷ os) apart =
    let both = and_parts (not (list_any (bytes_eq o.name) before)) (are_apart (before ++ o.name ∷ []) (output_names os)) apart in
    let rest = differ_to (before ++ o.name ∷ []) os both.1 in
    let parts = each_new before o.name os rest.0 in
    ((not-true (list_any (bytes_eq o.name) before) both.0, parts.0), (parts.1, rest.1))

differ_from : (before : List (List ℕ)) (os : List Output) → AllByRecursion (IsNew before) os → HaveDifferentNames os → IsTrue (are_apart before (output_names os))
differ_from before [] all differ = refl
differ_from before (o ∷ os) all differ =
    and_from (not (list_any (bytes_eq o.name) before)) (are_apart (before ++ o.name ∷ []) (output_names os))
    (not_from_false (list_any (bytes_eq o.name) before) all.0)
    (differ_from (before ++ o.name ∷ []) os (each_more before o.name os all.1 differ.0) differ.1)

pub outputs_to : (os : List Output) → IsTrue (are_apart [] (output_names os)) → HaveDifferentNames os
outputs_to os apart = (differ_to [] os apart).1

pub outputs_from : (os : List Output) → HaveDifferentNames os → IsTrue (are_apart [] (output_names os))
outputs_from os differ = differ_from [] os (none_before os) differ

-- ---- inputs

-- all inputs have names, none of those before, and no two of them the same
record AreApart (before : List (List ℕ)) (es : List Equation) : Type 0 where
  named : (i : ℕ) (e : Equation) → slice_get es i ≡ Some e → IsTrue (is_input e.op) → (name : List ℕ) × (e.name ≡ Some name)
  new : (i : ℕ) (e : Equation) (name : List ℕ) → slice_get es i ≡ Some e → IsTrue (is_input e.op) → e.name ≡ Some name → list_any (bytes_eq name) before ≡ false
  differ : (i j : ℕ) (e f : Equation) → slice_get es i ≡ Some e → slice_get es j ≡ Some f → IsTrue (is_input e.op) → IsTrue (is_input f.op) → e.name ≡ f.name → i ≡ j

none_apart : (before : List (List ℕ)) → AreApart before []
none_apart before = record {
  named = λ i e is input. absurd (cc is);
  new = λ i e name is input named. absurd (cc is);
  differ = λ i j e f is there input other same. absurd (cc is);
}

-- one equation more in front that is no input
module _ (before : List (List ℕ)) (head : Equation) (es : List Equation) where
  module _ (other : is_input head.op ≡ false) (rest : AreApart before es) where
    none_first : {P : Type 0} (e : Equation) → Some head ≡ Some e → IsTrue (is_input e.op) → P
    none_first e is input = let same : head ≡ e = cc in absurd (false≢true (sym other ∙ ap (λ f. is_input f.op) same ∙ input))

    named_other : (i : ℕ) (e : Equation) → slice_get (head ∷ es) i ≡ Some e → IsTrue (is_input e.op) → (name : List ℕ) × (e.name ≡ Some name)
    named_other zero e is input = none_first e is input
    named_other (suc i) e is input = rest.named i e is input

    new_other : (i : ℕ) (e : Equation) (name : List ℕ) → slice_get (head ∷ es) i ≡ Some e → IsTrue (is_input e.op) → e.name ≡ Some name → list_any (bytes_eq name) before ≡ false
    new_other zero e name is input named = none_first e is input
    new_other (suc i) e name is input named = rest.new i e name is input named

    differ_other : (i j : ℕ) (e f : Equation) → slice_get (head ∷ es) i ≡ Some e → slice_get (head ∷ es) j ≡ Some f → IsTrue (is_input e.op) → IsTrue (is_input f.op) → e.name ≡ f.name → i ≡ j
    differ_other zero j e f is there input other_input same = none_first e is input
    differ_other (suc i) zero e f is there input other_input same = none_first f there other_input
    differ_other (suc i) (suc j) e f is there input other_input same = ap suc (rest.differ i j e f is there input other_input same)

    apart_other : AreApart before (head ∷ es)
    apart_other = record { named = named_other; new = new_other; differ = differ_other }

  -- and one that is an input
  module _ (n : List ℕ) (first : head.name ≡ Some n) (fresh : list_any (bytes_eq n) before ≡ false) (rest : AreApart (before ++ n ∷ []) es) where
    name_of_first : (e : Equation) → Some head ≡ Some e → e.name ≡ Some n
    name_of_first e is = let same : head ≡ e = cc in ap (λ f. f.name) (sym same) ∙ first

    -- no later input has that name
    not_again : {P : Type 0} (j : ℕ) (f : Equation) → slice_get es j ≡ Some f → IsTrue (is_input f.op) → f.name ≡ Some n → P
    not_again j f there input named = absurd ((new_parts n n before (rest.new j f n there input named)).1 refl)

    named_more : (i : ℕ) (e : Equation) → slice_get (head ∷ es) i ≡ Some e → IsTrue (is_input e.op) → (name : List ℕ) × (e.name ≡ Some name)
    named_more zero e is input = (n, name_of_first e is)
    named_more (suc i) e is input = rest.named i e is input

    new_more : (i : ℕ) (e : Equation) (name : List ℕ) → slice_get (head ∷ es) i ≡ Some e → IsTrue (is_input e.op) → e.name ≡ Some name → list_any (bytes_eq name) before ≡ false
    new_more zero e name is input named =
        let both : Some n ≡ Some name = sym (name_of_first e is) ∙ named in
        let same : n ≡ name = cc in
        subst (λ m. list_any (bytes_eq m) before ≡ false) same fresh
    new_more (suc i) e name is input named = (new_parts name n before (rest.new i e name is input named)).0

    differ_more : (i j : ℕ) (e f : Equation) → slice_get (head ∷ es) i ≡ Some e → slice_get (head ∷ es) j ≡ Some f → IsTrue (is_input e.op) → IsTrue (is_input f.op) → e.name ≡ f.name → i ≡ j
    differ_more zero zero e f is there input other_input same = refl
    differ_more zero (suc j) e f is there input other_input same = not_again j f there other_input (sym same ∙ name_of_first e is)
    differ_more (suc i) zero e f is there input other_input same = not_again i e is input (same ∙ name_of_first f there)
    differ_more (suc i) (suc j) e f is there input other_input same = ap suc (rest.differ i j e f is there input other_input same)

    apart_more : AreApart before (head ∷ es)
    apart_more = record { named = named_more; new = new_more; differ = differ_more }

  by_kind : ((more : List (List ℕ)) → IsTrue (are_apart more (input_names es)) → AreApart more es) → (input : Bool) → is_input head.op ≡ input → (name : Option (List ℕ)) → head.name ≡ name
      → IsTrue (are_apart before (cond input (name ∷ input_names es) (input_names es))) → AreApart before (head ∷ es)
  by_kind rest true is None named apart = absurd (false≢true apart)
  by_kind rest true is (Some n) named apart =
      let both = and_parts (not (list_any (bytes_eq n) before)) (are_apart (before ++ n ∷ []) (input_names es)) apart in
      apart_more n named (not-true (list_any (bytes_eq n) before) both.0) (rest (before ++ n ∷ []) both.1)
  by_kind rest false is name named apart = apart_other is (rest before apart)

  -- and back
  module _ (all : AreApart before (head ∷ es)) where
    later : AreApart before es
    later = record {
      named = λ i e is input. all.named (suc i) e is input;
      new = λ i e name is input named. all.new (suc i) e name is input named;
      differ = λ i j e f is there input other_input same. let next = all.differ (suc i) (suc j) e f is there input other_input same in omega arith;
    }

    later_more : (n : List ℕ) → IsTrue (is_input head.op) → head.name ≡ Some n → AreApart (before ++ n ∷ []) es
    later_more n first_input first = record {
      named = λ i e is input. all.named (suc i) e is input;
      new = λ i e name is input named. new_from name n before (all.new (suc i) e name is input named)
          (λ same. let again = all.differ (suc i) 0 e head is refl input first_input (named ∙ ap (λ m. Some m) same ∙ sym first) in absurd (omega arith));
      differ = λ i j e f is there input other_input same. let next = all.differ (suc i) (suc j) e f is there input other_input same in omega arith;
    }

    kind_by : ((more : List (List ℕ)) → AreApart more es → IsTrue (are_apart more (input_names es))) → (input : Bool) → is_input head.op ≡ input → (name : Option (List ℕ)) → head.name ≡ name
        → IsTrue (are_apart before (cond input (name ∷ input_names es) (input_names es)))
    kind_by rest true is None named = let has = all.named 0 head refl is in let none : None ≡ Some has.0 = sym named ∙ has.1 in absurd (cc none)
    kind_by rest true is (Some n) named =
        and_from (not (list_any (bytes_eq n) before)) (are_apart (before ++ n ∷ []) (input_names es))
        (not_from_false (list_any (bytes_eq n) before) (all.new 0 head n refl is named))
        (rest (before ++ n ∷ []) (later_more n is named))
    kind_by rest false is name named = rest before later

apart_to : (before : List (List ℕ)) (es : List Equation) → IsTrue (are_apart before (input_names es)) → AreApart before es
apart_to before [] apart = none_apart before
apart_to before (e ∷ es) apart = by_kind before e es (λ more h. apart_to more es h) (is_input e.op) refl e.name refl apart

apart_from : (before : List (List ℕ)) (es : List Equation) → AreApart before es → IsTrue (are_apart before (input_names es))
apart_from before [] all = refl
apart_from before (e ∷ es) all = kind_by before e es all (λ more h. apart_from more es h) (is_input e.op) refl e.name refl

pub inputs_to : (s : System) → IsTrue (are_apart [] (input_names s.equations)) → HasInputNames s
inputs_to s apart =
    let all = apart_to [] s.equations apart in
    record {
      named = λ i e it. all.named i e it.is it.input;
      differ = λ i j e f it other same. all.differ i j e f it.is other.is it.input other.input same;
    }

pub inputs_from : (s : System) → HasInputNames s → IsTrue (are_apart [] (input_names s.equations))
inputs_from s names = apart_from [] s.equations (record {
  named = λ i e is input. names.named i e (record { is = is; input = input });
  new = λ i e name is input named. refl;
  differ = λ i j e f is there input other_input same. names.differ i j e f (record { is = is; input = input }) (record { is = there; input = other_input }) same;
})
