-- The table of names, by its entries.
use Rattle.std.proofs.Common.{◌≡◌, ◌+◌, ◌&&◌, ℕ, Bool, true, false, not, cond, if◌then◌else◌, List, [], ◌∷◌, ◌++◌, drop, Option, Some, None, Result, Ok, Err, OnOk, is_some, is_none, String, refl, slice_get, sym, ap, ◌∙◌}
use Rattle.std.proofs.lemmas.List.{map-append}
use Rattle.std.proofs.lemmas.Slice.Eq.{bytes_eq-Decides}
use Rattle.std.specs.List.{position_from}
use Rattle.std.specs.Map.{lookup}
use Rattle.std.specs.Option.{option_or}
use Rattle.std.specs.Str.{bytes_eq}
use Rattle.std.specs.String.{string_bytes, string_eq}
use Rattle.indexmap.specs.IndexMap.{insert_entry}
use Rattle.flat_core.specs.declared.equation.Equation.{Equation}
use Rattle.flat_core.specs.System.{System, equation}
use Rattle.flat_core.specs.declared.equation.Op.TheVariants as op
use Rattle.trace_reader.specs.Reading.{is_called, is_input, is_input_called}
use Rattle.trace_reader.specs.inner.Places.{Places, noted, place_in, places_in}
use Rattle.trace_reader.proofs.PlaceLemmas.{drop-get}

-- a look-up among the entries
pub place_is : {A : Type 0} (name : List ℕ) (es : List (String A × ℕ)) → lookup (λ k. bytes_eq name (string_bytes k)) es ≡ place_in (places_in es) name
place_is name [] = refl
place_is name (e ∷ es) = ap (λ o. cond (bytes_eq name (string_bytes e.0)) (Some e.1) o) (place_is name es)

pub found_in : {A : Type 0} (places : Places) (name : List ℕ) (es : List (String A × ℕ)) (r : Option ℕ) → places_in es ≡ places → r ≡ lookup (λ k. bytes_eq name (string_bytes k)) es → r ≡ place_in places name
found_in places name es r is h = h ∙ place_is name es ∙ ap (λ ps. place_in ps name) is

-- the first of the entries, where it has the name
pub first_is : {A : Type 0} (places : Places) (name : List ℕ) (es : List (String A × ℕ)) (key : String A) (i : ℕ) → places_in es ≡ places → slice_get es 0 ≡ Some (key, i) → bytes_eq name (string_bytes key) ≡ true → place_in places name ≡ Some i
first_is places name [] key i is at same = absurd (cc)
first_is places name (e ∷ es) key i is at same =
    let whole : e ≡ (key, i) = cc in
    ap (λ ps. place_in ps name) (sym is)
    ∙ ap (λ (p : String _ × ℕ). if bytes_eq name (string_bytes p.0) then Some p.1 else place_in (places_in es) name) whole
    ∙ ap (λ b. if b then Some i else place_in (places_in es) name) same

-- a key that is not there goes last
insert_absent : {A : Type 0} (es : List (String A × ℕ)) (k : String A) (i : ℕ) → false ≡ is_some (lookup (λ x. bytes_eq (string_bytes k) (string_bytes x)) es) → insert_entry string_eq es k i ≡ es ++ (k, i) ∷ []
insert_absent [] k i h = refl
insert_absent {A} (e ∷ es) k i h = by (bytes_eq (string_bytes k) (string_bytes e.0)) refl (insert_absent es k i)
  where
    by :
        (b : Bool) → bytes_eq (string_bytes k) (string_bytes e.0) ≡ b →
        (false ≡ is_some (lookup (λ x. bytes_eq (string_bytes k) (string_bytes x)) es) → insert_entry string_eq es k i ≡ es ++ (k, i) ∷ []) →
        insert_entry string_eq (e ∷ es) k i ≡ (e ∷ es) ++ (k, i) ∷ []
    by true p rest = absurd (cc (h ∙ ap (λ b. is_some (cond b (Some e.1) (lookup (λ x. bytes_eq (string_bytes k) (string_bytes x)) es))) p))
    by false p rest =
        ap (λ b. if b then (e.0, i) ∷ es else e ∷ insert_entry string_eq es k i) p
        ∙ ap (λ l. e ∷ l) (rest (h ∙ ap (λ b. is_some (cond b (Some e.1) (lookup (λ x. bytes_eq (string_bytes k) (string_bytes x)) es))) p))

none_is : (o : Option ℕ) (there : Bool) → there ≡ is_some o → is_none o ≡ not there
none_is None there is = ap not (sym is)
none_is (Some i) there is = ap not (sym is)

-- what is noted, where the name is there, and where it is not
module _ {A : Type 0} (places : Places) (name : List ℕ) (i : ℕ) (es : List (String A × ℕ)) (is : places_in es ≡ places) (there : Bool) (told : there ≡ is_some (lookup (λ k. bytes_eq name (string_bytes k)) es)) where
  none_there : is_none (place_in places name) ≡ not there
  none_there = none_is (place_in places name) there (told ∙ ap is_some (place_is name es ∙ ap (λ ps. place_in ps name) is))

  pub noted_there : there ≡ true → places ≡ noted places name i
  noted_there yes_there = sym (ap (λ b. if b then places ++ (name, i) ∷ [] else places) (none_there ∙ ap not yes_there))

  pub noted_new : (key : String A) (fs : List (String A × ℕ)) → there ≡ false → string_bytes key ≡ name → fs ≡ insert_entry string_eq es key i → places_in fs ≡ noted places name i
  noted_new key fs absent same more =
      ap places_in (more ∙ insert_absent es key i (sym absent ∙ told ∙ ap (λ m. is_some (lookup (λ x. bytes_eq m (string_bytes x)) es)) (sym same)))
      ∙ map-append (λ (e : String A × ℕ). (string_bytes e.0, e.1)) es ((key, i) ∷ [])
      ∙ (λ k. is k ++ (same k, i) ∷ [])
      ∙ sym (ap (λ b. if b then places ++ (name, i) ∷ [] else places) (none_there ∙ ap not absent))

-- The table after an input.
place_push : (places : Places) (name other : List ℕ) (i : ℕ) → place_in (places ++ (other, i) ∷ []) name ≡ option_or (place_in places name) (if bytes_eq name other then Some i else None)
place_push [] name other i = refl
place_push (p ∷ places) name other i = by (bytes_eq name p.0) (place_push places name other i)
  where
    by :
        (here : Bool) → place_in (places ++ (other, i) ∷ []) name ≡ option_or (place_in places name) (if bytes_eq name other then Some i else None) →
        (if here then Some p.1 else place_in (places ++ (other, i) ∷ []) name) ≡ option_or (if here then Some p.1 else place_in places name) (if bytes_eq name other then Some i else None)
    by true rest = refl
    by false rest = rest

or_self : (o : Option ℕ) (b : Bool) (i : ℕ) → (b ≡ true → is_none o ≡ false) → o ≡ option_or o (if b then Some i else None)
or_self (Some j) b i some = refl
or_self None false i some = refl
or_self None true i some = absurd (let it = some refl in cc)

pub noted_place : (places : Places) (name other : List ℕ) (i : ℕ) → place_in (noted places other i) name ≡ option_or (place_in places name) (if bytes_eq name other then Some i else None)
noted_place places name other i = by (is_none (place_in places other)) refl
  where
    by :
        (absent : Bool) → is_none (place_in places other) ≡ absent →
        place_in (if absent then places ++ (other, i) ∷ [] else places) name ≡ option_or (place_in places name) (if bytes_eq name other then Some i else None)
    by true is = place_push places name other i
    by false is = or_self (place_in places name) (bytes_eq name other) i (λ same. ap (λ n. is_none (place_in places n)) ((bytes_eq-Decides name other).0 same) ∙ is)

pub input_noted : (places new : Places) (stream : List ℕ) (i : ℕ) (e : Equation) → e.op ≡ op.Input → e.name ≡ Some stream → new ≡ noted places stream i →
    (name : List ℕ) → place_in new name ≡ option_or (place_in places name) (if is_input_called name e then Some i else None)
input_noted places new stream i e input named is name =
    ap (λ ps. place_in ps name) is ∙ noted_place places name stream i
    ∙ λ k. option_or (place_in places name) (if is_input (sym input k) && is_called name (sym named k) then Some i else None)

pub on_ok : {A E : Type 0} {P Q : Type 0} (r : Result A E) → (P → Q) → OnOk r P → OnOk r Q
on_ok (Ok x) f p = f p
on_ok (Err e) f p = tt

-- What is noted of the equations before a number, and what stands after it, give the first input.
pub table_next : (s : System) (name : List ℕ) (n : ℕ) (e : Equation) (before after : Option ℕ) → equation s n ≡ Some e → after ≡ option_or before (if is_input_called name e then Some n else None) →
    option_or before (position_from (is_input_called name) n (drop n s.equations)) ≡ option_or after (position_from (is_input_called name) (n + 1) (drop (n + 1) s.equations))
table_next s name n e before after is next =
    ap (λ es. option_or before (position_from (is_input_called name) n es)) (drop-get s.equations n e is)
    ∙ by before (is_input_called name e) ∙ ap (λ o. option_or o (position_from (is_input_called name) (n + 1) (drop (n + 1) s.equations))) (sym next)
  where
    by :
        (o : Option ℕ) (here : Bool) →
        option_or o (if here then Some n else position_from (is_input_called name) (n + 1) (drop (n + 1) s.equations))
        ≡ option_or (option_or o (if here then Some n else None)) (position_from (is_input_called name) (n + 1) (drop (n + 1) s.equations))
    by (Some i) here = refl
    by None true = refl
    by None false = refl
