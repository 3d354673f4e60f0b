-- Tables of names, and the entries that they stand for.
use Rattle.std.proofs.Common.{◌≡◌, ℕ, Bool, true, false, not, cond, if◌then◌else◌, List, [], ◌∷◌, ◌++◌, Option, Some, None, is_some, is_none, String, refl, sym, ap, ◌∙◌}
use Rattle.std.specs.Option.{option_map}
use Rattle.std.specs.List.{find, IsDistinct, AllByRecursion}
use Rattle.std.specs.Map.{lookup, keys_of}
use Rattle.std.specs.Str.{bytes_eq}
use Rattle.std.specs.String.{string_bytes, string_eq}
use Rattle.std.specs.Cmp.Lexicographic.{nat_list_eq_equiv}
use Rattle.std.proofs.lemmas.List.{map-append}
use Rattle.std.proofs.lemmas.Map.Keys.{IsDistinct-head, IsDistinct-tail}
use Rattle.std.proofs.lemmas.Slice.Eq.{bytes_eq-Decides}
use Rattle.indexmap.specs.IndexMap.{insert_entry}
use Rattle.name_check.specs.declared.declaration.Declaration.{Declaration}
use Rattle.name_check.specs.Scope.{Scope, meaning, is_function, functions_of}
use Rattle.name_check.specs.inner.Tables.{entries_in}

map_cond : {A B : Type 0} (f : A → B) (b : Bool) (x : A) (o : Option A) → option_map f (cond b (Some x) o) ≡ cond b (Some (f x)) (option_map f o)
map_cond f true x o = refl
map_cond f false x o = refl

-- a look-up among the entries of a table
pub meaning_in : {A : Type 0} (n : List ℕ) (es : List (String A × Declaration)) → lookup (λ k. bytes_eq n (string_bytes k)) es ≡ meaning (entries_in es) n
meaning_in n [] = refl
meaning_in n (e ∷ es) =
    ap (λ b. cond b (Some e.1) (lookup (λ k. bytes_eq n (string_bytes k)) es)) (nat_list_eq_equiv.symm n (string_bytes e.0))
    ∙ ap (λ o. cond (bytes_eq (string_bytes e.0) n) (Some e.1) o) (meaning_in n es)
    ∙ sym (map_cond (λ x. x.is) (bytes_eq (string_bytes e.0) n) (record { name = string_bytes e.0; is = e.1 }) (find (λ x. bytes_eq x.name n) (entries_in es)))

pub found_in : {A : Type 0} (s : Scope) (n : List ℕ) (es : List (String A × Declaration)) (r : Option Declaration) → entries_in es ≡ s → r ≡ lookup (λ k. bytes_eq n (string_bytes k)) es → r ≡ meaning s n
found_in s n es r is h = h ∙ meaning_in n es ∙ ap (λ t. meaning t n) is

none_of_some : {A : Type 0} (o : Option A) (b : Bool) → b ≡ is_some o → not b ≡ is_none o
none_of_some None b h = ap not h
none_of_some (Some x) b h = ap not h

-- whether a name is new
pub new_in : {A : Type 0} (s : Scope) (n : List ℕ) (es : List (String A × Declaration)) (b c : Bool) → entries_in es ≡ s → b ≡ is_some (lookup (λ k. bytes_eq n (string_bytes k)) es) → b ≡ c → not c ≡ is_none (meaning s n)
new_in s n es b c is h same = none_of_some (meaning s n) c (sym same ∙ h ∙ ap is_some (meaning_in n es ∙ ap (λ t. meaning t n) is))

-- a key that is not there goes last
insert_absent : {A : Type 0} (es : List (String A × Declaration)) (k : String A) (d : Declaration) → false ≡ is_some (lookup (λ x. bytes_eq (string_bytes k) (string_bytes x)) es) → insert_entry string_eq es k d ≡ es ++ (k, d) ∷ []
insert_absent [] k d h = refl
insert_absent {A} (e ∷ es) k d h = by (bytes_eq (string_bytes k) (string_bytes e.0)) refl (insert_absent es k d)
  where
    by :
        (b : Bool) → bytes_eq (string_bytes k) (string_bytes e.0) ≡ b →
        (false ≡ is_some (lookup (λ x. bytes_eq (string_bytes k) (string_bytes x)) es) → insert_entry string_eq es k d ≡ es ++ (k, d) ∷ []) →
        insert_entry string_eq (e ∷ es) k d ≡ (e ∷ es) ++ (k, d) ∷ []
    by true p rest = absurd (cc (h ∙ ap (λ b. is_some (cond b (Some e.1) (lookup (λ x. bytes_eq (string_bytes k) (string_bytes x)) es))) p))
    by false p rest =
        ap (λ b. if b then (e.0, d) ∷ es else e ∷ insert_entry string_eq es k d) p
        ∙ ap (λ l. e ∷ l) (rest (h ∙ ap (λ b. is_some (cond b (Some e.1) (lookup (λ x. bytes_eq (string_bytes k) (string_bytes x)) es))) p))

-- a new name goes last
pub declared_in : {A : Type 0} (s : Scope) (n : List ℕ) (k : String A) (d : Declaration) (es fs : List (String A × Declaration)) (b : Bool) → entries_in es ≡ s → string_bytes k ≡ n → b ≡ is_some (lookup (λ x. bytes_eq n (string_bytes x)) es) → b ≡ false → fs ≡ insert_entry string_eq es k d → entries_in fs ≡ s ++ record { name = n; is = d } ∷ []
declared_in s n k d es fs b is same h none more =
    ap entries_in (more ∙ insert_absent es k d (sym none ∙ h ∙ ap (λ m. is_some (lookup (λ x. bytes_eq m (string_bytes x)) es)) (sym same)))
    ∙ map-append (λ e. record { name = string_bytes e.0; is = e.1 }) es ((k, d) ∷ [])
    ∙ ap (λ t. t ++ record { name = string_bytes k; is = d } ∷ []) is
    ∙ ap (λ m. s ++ record { name = m; is = d } ∷ []) same

-- ---- the value functions of a table, in which no key stands twice
none_past : {A : Type 0} (k : String A) (n : List ℕ) (es : List (String A × Declaration)) → n ≡ string_bytes k → AllByRecursion (λ y. string_eq k y ≡ false) (keys_of es) → lookup (λ x. bytes_eq n (string_bytes x)) es ≡ None
none_past k n [] h a = refl
none_past k n (e ∷ es) h a =
    ap (λ b. cond b (Some e.1) (lookup (λ x. bytes_eq n (string_bytes x)) es)) (ap (λ m. bytes_eq m (string_bytes e.0)) h ∙ a.0)
    ∙ none_past k n es h a.1

abbrev only_function : Option Declaration → Option Declaration
only_function None = None
only_function (Some d) = cond (is_function d) (Some d) None

functions_in : {A : Type 0} (n : List ℕ) (es : List (String A × Declaration)) → IsDistinct string_eq (keys_of es) → meaning (functions_of (entries_in es)) n ≡ only_function (lookup (λ x. bytes_eq n (string_bytes x)) es)
functions_in n [] h = refl
functions_in {A} n (e ∷ es) h =
    by (bytes_eq n (string_bytes e.0)) (is_function e.1) refl refl (functions_in n es (IsDistinct-tail string_eq e.0 (keys_of es) h))
  where
    by :
        (b f : Bool) → bytes_eq n (string_bytes e.0) ≡ b → is_function e.1 ≡ f →
        meaning (functions_of (entries_in es)) n ≡ only_function (lookup (λ x. bytes_eq n (string_bytes x)) es) →
        meaning (functions_of (entries_in (e ∷ es))) n ≡ only_function (lookup (λ x. bytes_eq n (string_bytes x)) (e ∷ es))
    by true true p q rest =
        ap (λ f. meaning (cond f (record { name = string_bytes e.0; is = e.1 } ∷ functions_of (entries_in es)) (functions_of (entries_in es))) n) q
        ∙ ap (λ b. option_map (λ x. x.is) (cond b (Some (record { name = string_bytes e.0; is = e.1 })) (find (λ x. bytes_eq x.name n) (functions_of (entries_in es))))) (nat_list_eq_equiv.symm (string_bytes e.0) n ∙ p)
        ∙ sym (ap (λ b. only_function (cond b (Some e.1) (lookup (λ x. bytes_eq n (string_bytes x)) es))) p ∙ ap (λ f. cond f (Some e.1) None) q)
    by true false p q rest =
        ap (λ f. meaning (cond f (record { name = string_bytes e.0; is = e.1 } ∷ functions_of (entries_in es)) (functions_of (entries_in es))) n) q
        ∙ rest
        ∙ ap only_function (none_past e.0 n es ((bytes_eq-Decides n (string_bytes e.0)).0 p) (IsDistinct-head string_eq e.0 (keys_of es) h))
        ∙ sym (ap (λ b. only_function (cond b (Some e.1) (lookup (λ x. bytes_eq n (string_bytes x)) es))) p ∙ ap (λ f. cond f (Some e.1) None) q)
    by false true p q rest =
        ap (λ f. meaning (cond f (record { name = string_bytes e.0; is = e.1 } ∷ functions_of (entries_in es)) (functions_of (entries_in es))) n) q
        ∙ ap (λ b. option_map (λ x. x.is) (cond b (Some (record { name = string_bytes e.0; is = e.1 })) (find (λ x. bytes_eq x.name n) (functions_of (entries_in es))))) (nat_list_eq_equiv.symm (string_bytes e.0) n ∙ p)
        ∙ rest
        ∙ sym (ap (λ b. only_function (cond b (Some e.1) (lookup (λ x. bytes_eq n (string_bytes x)) es))) p)
    by false false p q rest =
        ap (λ f. meaning (cond f (record { name = string_bytes e.0; is = e.1 } ∷ functions_of (entries_in es)) (functions_of (entries_in es))) n) q
        ∙ rest
        ∙ sym (ap (λ b. only_function (cond b (Some e.1) (lookup (λ x. bytes_eq n (string_bytes x)) es))) p)

pub function_in : {A : Type 0} (s : Scope) (n : List ℕ) (es : List (String A × Declaration)) (r : Option Declaration) → entries_in es ≡ s → IsDistinct string_eq (keys_of es) → r ≡ lookup (λ k. bytes_eq n (string_bytes k)) es → only_function r ≡ meaning (functions_of s) n
function_in s n es r is distinct h = ap only_function h ∙ sym (functions_in n es distinct) ∙ ap (λ t. meaning (functions_of t) n) is

pub function_there : (d : Declaration) (r : Option Declaration) → is_function d ≡ true → only_function (Some d) ≡ r → Some d ≡ r
function_there d r h k = sym (ap (λ b. cond b (Some d) None) h) ∙ k

pub no_function : (d : Declaration) (r : Option Declaration) → is_function d ≡ false → only_function (Some d) ≡ r → None ≡ r
no_function d r h k = sym (ap (λ b. cond b (Some d) None) h) ∙ k
