-- Scopes in which each name stands for the same.
use Rattle.std.proofs.Common.{◌≡◌, ℕ, suc, ◌+◌, ◌<◌, ◌≤◌, Bool, true, false, cond, if◌then◌else◌, List, [], ◌∷◌, ◌++◌, length, get_or, drop, Option, Some, None, is_none, refl, sym, ap, ◌∙◌, append_assoc, add-one}
use Rattle.std.specs.Option.{option_map, option_or}
use Rattle.std.specs.List.{find}
use Rattle.std.specs.Str.{bytes_eq}
use Rattle.std.proofs.lemmas.List.{append-nil, drop_all}
use Rattle.std.proofs.lemmas.List.Folds.{find-append}
use Rattle.std.proofs.lemmas.Slice.Eq.{bytes_eq-Decides}
use Rattle.syntax_tree.specs.Tree as tree
use Rattle.syntax_tree.specs.declared.tree.Param.{Param}
use Rattle.syntax_tree.specs.inner.OneLevel.{params_in, definitions_of}
use Rattle.name_check.specs.declared.declaration.Declaration.{Declaration}
use Rattle.name_check.specs.declared.declaration.Declaration.TheVariants as declaration
use Rattle.name_check.specs.Scope.{Scope, Entry, meaning, parameters_from, count_in, locals_from, Agree}
use Rattle.name_check.specs.inner.Steps.{local_name, local_body}
use Rattle.tsl_value.proofs.Lists.{left_at}

map_of_or : {A B : Type 0} (f : A → B) (a b : Option A) → option_map f (option_or a b) ≡ option_or (option_map f a) (option_map f b)
map_of_or f None b = refl
map_of_or f (Some x) b = refl

pub meaning-append : (a b : Scope) (n : List ℕ) → meaning (a ++ b) n ≡ option_or (meaning a n) (meaning b n)
meaning-append a b n =
    ap (option_map (λ e. e.is)) (find-append (λ e. bytes_eq e.name n) a b)
    ∙ map_of_or (λ e. e.is) (find (λ e. bytes_eq e.name n) a) (find (λ e. bytes_eq e.name n) b)

pub agree_same : (a b : Scope) → a ≡ b → Agree a b
agree_same a b h = record { at = λ n. ap (λ t. meaning t n) h }

pub agree_trans : (a b c : Scope) → Agree a b → Agree b c → Agree a c
agree_trans a b c h k = record { at = λ n. h.at n ∙ k.at n }

pub agree_append : (a b c d : Scope) → Agree a b → Agree c d → Agree (a ++ c) (b ++ d)
agree_append a b c d h k = record {
  at = λ n. meaning-append a c n ∙ ap (λ o. option_or o (meaning c n)) (h.at n) ∙ ap (λ o. option_or (meaning b n) o) (k.at n) ∙ sym (meaning-append b d n);
}

-- what is found through a level, and through those around it
pub found_inside : (a b : Scope) (n : List ℕ) (d : Declaration) → Some d ≡ meaning a n → Some d ≡ meaning (a ++ b) n
found_inside a b n d h = ap (λ o. option_or o (meaning b n)) h ∙ sym (meaning-append a b n)

pub found_outside : (a b : Scope) (n : List ℕ) (r : Option Declaration) → None ≡ meaning a n → r ≡ meaning b n → r ≡ meaning (a ++ b) n
found_outside a b n r h k = k ∙ ap (λ o. option_or o (meaning b n)) h ∙ sym (meaning-append a b n)

-- ---- one more name, which counts where it is new
or_of_some : {A : Type 0} (o a b : Option A) → false ≡ is_none o → option_or o a ≡ option_or o b
or_of_some None a b h = cc
or_of_some (Some x) a b h = refl

known : (s : Scope) (e : Entry) (rest : Scope) → false ≡ is_none (meaning s e.name) → (n : List ℕ) → meaning (s ++ rest) n ≡ meaning (s ++ (e ∷ rest)) n
known s e rest h n = meaning-append s rest n ∙ by (bytes_eq e.name n) refl ∙ sym (meaning-append s (e ∷ rest) n)
  where
    by : (b : Bool) → bytes_eq e.name n ≡ b → option_or (meaning s n) (meaning rest n) ≡ option_or (meaning s n) (meaning (e ∷ rest) n)
    by true p = or_of_some (meaning s n) (meaning rest n) (meaning (e ∷ rest) n) (h ∙ ap (λ m. is_none (meaning s m)) ((bytes_eq-Decides e.name n).0 p))
    by false p = ap (λ b. option_or (meaning s n) (option_map (λ x. x.is) (cond b (Some e) (find (λ x. bytes_eq x.name n) rest)))) (sym p)

pub declared_agrees : (s : Scope) (e : Entry) (rest : Scope) (new : Bool) → new ≡ is_none (meaning s e.name) → Agree ((if new then s ++ e ∷ [] else s) ++ rest) (s ++ (e ∷ rest))
declared_agrees s e rest true h = agree_same ((s ++ e ∷ []) ++ rest) (s ++ (e ∷ rest)) (append_assoc s (e ∷ []) rest)
declared_agrees s e rest false h = record { at = known s e rest h }

turn : (s t all rest left : Scope) (e : Entry) (new : Bool) → new ≡ is_none (meaning s e.name) → t ≡ (if new then s ++ e ∷ [] else s) → left ≡ e ∷ rest → Agree (s ++ left) all → Agree (t ++ rest) all
turn s t all rest left e new h more step done =
    agree_trans (t ++ rest) (s ++ (e ∷ rest)) all
    (agree_trans (t ++ rest) ((if new then s ++ e ∷ [] else s) ++ rest) (s ++ (e ∷ rest)) (agree_same _ _ (ap (λ l. l ++ rest) more)) (declared_agrees s e rest new h))
    (agree_trans (s ++ (e ∷ rest)) (s ++ left) all (agree_same _ _ (ap (λ l. s ++ l) (sym step))) done)

end : (s all left : Scope) → left ≡ [] → Agree (s ++ left) all → Agree s all
end s all left none done =
    agree_trans s (s ++ left) all (agree_same s (s ++ left) (sym (append-nil s) ∙ ap (λ l. s ++ l) (sym none))) done

pub parameters_turn : (ps : List Param) (i : ℕ) (p : Param) (s t all : Scope) (new : Bool) → i < length ps → p ≡ get_or ps i p → new ≡ is_none (meaning s p.name) → t ≡ (if new then s ++ record { name = p.name; is = declaration.Parameter i } ∷ [] else s) → Agree (s ++ parameters_from i (params_in (drop i ps))) all → Agree (t ++ parameters_from (i + 1) (params_in (drop (i + 1) ps))) all
parameters_turn ps i p s t all new h is found more done =
    turn s t all (parameters_from (i + 1) (params_in (drop (i + 1) ps))) (parameters_from i (params_in (drop i ps))) (record { name = p.name; is = declaration.Parameter i }) new found more
    (ap (λ l. parameters_from i (params_in l)) (left_at ps i p h is) ∙ ap (λ j. record { name = p.name; is = declaration.Parameter i } ∷ parameters_from j (params_in (drop (i + 1) ps))) (sym (add-one i)))
    done

pub parameters_end : (ps : List Param) (i : ℕ) (s all : Scope) → length ps ≤ i → Agree (s ++ parameters_from i (params_in (drop i ps))) all → Agree s all
parameters_end ps i s all h done = end s all (parameters_from i (params_in (drop i ps))) (ap (λ l. parameters_from i (params_in l)) (drop_all i ps h)) done

locals_from-cons : (k : ℕ) (d : tree.Definition) (ds : tree.Definitions) → locals_from k (tree.more_definitions d ds) ≡ record { name = local_name d; is = declaration.Local k } ∷ locals_from (suc k + count_in (local_body d)) ds
locals_from-cons k (tree.Define q n ps w b) ds = refl

pub locals_turn : (ds : List tree.Definition) (i j k : ℕ) (d : tree.Definition) (n : List ℕ) (s t all : Scope) (new : Bool) → i < length ds → d ≡ get_or ds i d → n ≡ local_name d → j ≡ suc k + count_in (local_body d) → new ≡ is_none (meaning s n) → t ≡ (if new then s ++ record { name = n; is = declaration.Local k } ∷ [] else s) → Agree (s ++ locals_from k (definitions_of (drop i ds))) all → Agree (t ++ locals_from j (definitions_of (drop (i + 1) ds))) all
locals_turn ds i j k d n s t all new h is same after found more done =
    turn s t all (locals_from j (definitions_of (drop (i + 1) ds))) (locals_from k (definitions_of (drop i ds))) (record { name = n; is = declaration.Local k }) new found more
    (ap (λ l. locals_from k (definitions_of l)) (left_at ds i d h is) ∙ locals_from-cons k d (definitions_of (drop (i + 1) ds))
    ∙ ap (λ m. record { name = m; is = declaration.Local k } ∷ locals_from (suc k + count_in (local_body d)) (definitions_of (drop (i + 1) ds))) (sym same)
    ∙ ap (λ x. record { name = n; is = declaration.Local k } ∷ locals_from x (definitions_of (drop (i + 1) ds))) (sym after))
    done

pub locals_end : (ds : List tree.Definition) (i k : ℕ) (s all : Scope) → length ds ≤ i → Agree (s ++ locals_from k (definitions_of (drop i ds))) all → Agree s all
locals_end ds i k s all h done = end s all (locals_from k (definitions_of (drop i ds))) (ap (λ l. locals_from k (definitions_of l)) (drop_all i ds h)) done

-- ---- what a name stands for, but for the number of a block's definition
abbrev pub without_number : Declaration → Declaration
without_number (declaration.Local k) = declaration.Local 0
without_number d = d

-- each name stands for the same in both, but for such numbers
pub record Alike (a b : Scope) : Type 0 where
  pub at : (n : List ℕ) → option_map without_number (meaning a n) ≡ option_map without_number (meaning b n)

-- what does not hang on such numbers is the same
pub alike_by : {A : Type 0} (f : Option Declaration → A) → ((o : Option Declaration) → f (option_map without_number o) ≡ f o) → (o p : Option Declaration) → option_map without_number o ≡ option_map without_number p → f o ≡ f p
alike_by f still o p h = sym (still o) ∙ ap f h ∙ still p

pub agree_alike : (a b : Scope) → Agree a b → Alike a b
agree_alike a b h = record { at = λ n. ap (option_map without_number) (h.at n) }

pub alike_append : (a b c d : Scope) → Alike a b → Alike c d → Alike (a ++ c) (b ++ d)
alike_append a b c d h k = record {
  at = λ n.
      ap (option_map without_number) (meaning-append a c n) ∙ map_of_or without_number (meaning a n) (meaning c n)
      ∙ ap (λ o. option_or o (option_map without_number (meaning c n))) (h.at n)
      ∙ ap (λ o. option_or (option_map without_number (meaning b n)) o) (k.at n)
      ∙ sym (ap (option_map without_number) (meaning-append b d n) ∙ map_of_or without_number (meaning b n) (meaning d n));
}

entry_alike : (e f : Entry) (a b : Scope) → e.name ≡ f.name → without_number e.is ≡ without_number f.is → Alike a b → Alike (e ∷ a) (f ∷ b)
entry_alike e f a b same is h = alike_append (e ∷ []) (f ∷ []) a b (record { at = one }) h
  where
    by : (t : Bool) → option_map without_number (option_map (λ x. x.is) (cond t (Some e) None)) ≡ option_map without_number (option_map (λ x. x.is) (cond t (Some f) None))
    by true = ap Some is
    by false = refl

    one : (n : List ℕ) → option_map without_number (meaning (e ∷ []) n) ≡ option_map without_number (meaning (f ∷ []) n)
    one n = by (bytes_eq e.name n) ∙ ap (λ m. option_map without_number (option_map (λ x. x.is) (cond (bytes_eq m n) (Some f) None))) same

pub locals_alike : (j k : ℕ) (ds : tree.Definitions) → Alike (locals_from j ds) (locals_from k ds)
locals_alike j k tree.no_definitions = record { at = λ n. refl }
locals_alike j k (tree.more_definitions (tree.Define q n ps w b) ds) =
    entry_alike (record { name = n; is = declaration.Local j }) (record { name = n; is = declaration.Local k }) (locals_from (suc j + count_in b) ds) (locals_from (suc k + count_in b) ds) refl refl
    (locals_alike (suc j + count_in b) (suc k + count_in b) ds)
