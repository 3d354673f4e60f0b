-- What is found in the bodies of items, one body after the other, where it hangs on what the names that are seen stand for alone,
-- whatever numbers the definitions of blocks have.
use Rattle.std.proofs.Common.{◌≡◌, ℕ, suc, ◌+◌, ◌<◌, if◌then◌else◌, List, [], ◌∷◌, ◌++◌, length, get_or, drop, Option, Some, None, Result, Ok, Err, IfOk, refl, sym, ap, ◌∙◌}
use Rattle.std.specs.List.{flat_map}
use Rattle.std.proofs.lemmas.List.{append-nil}
use Rattle.std.proofs.lemmas.List.Concat.{flat_map-append}
use Rattle.tsl_value.specs.declared.place.Place.{Place}
use Rattle.syntax_tree.specs.Tree as tree
use Rattle.syntax_tree.specs.Tree.{Expr}
use Rattle.syntax_tree.specs.inner.OneLevel.{definitions_of}
use Rattle.name_check.specs.Scope.{Scope, are_values, functions_of, parameters_from, count_in, locals_from, inside, in_block, Agree}
use Rattle.name_check.specs.Bodies.{Seen, bodies, block_bodies}
use Rattle.name_check.specs.Faults.{first}
use Rattle.name_check.specs.inner.Steps.{local_body}
use Rattle.tsl_value.proofs.Lists.{left_at}
use Rattle.name_check.proofs.FirstLemmas.{first_after, first_of_front}
use Rattle.name_check.proofs.AgreeLemmas.{agree_same, agree_append, Alike, agree_alike, alike_append, locals_alike}

abbrev pub IsSame : (Seen → List Place) → Type 0
IsSame f = (s t : Scope) → Alike s t → (e : Expr) → f (record { scope = s; expr = e }) ≡ f (record { scope = t; expr = e })

abbrev at : (Seen → List Place) → Scope → Expr → List Place
at f s e = f (record { scope = s; expr = e })

-- the first definition in them has number k
abbrev in_body : (Seen → List Place) → ℕ → Scope → tree.Body → List Place
in_body f k s b = flat_map f (bodies k s b)

abbrev in_locals : (Seen → List Place) → ℕ → Scope → tree.Definitions → List Place
in_locals f k s ds = flat_map f (block_bodies k s ds)

block_split : (f : Seen → List Place) (k : ℕ) (s : Scope) (ds : tree.Definitions) (e : Expr) → in_body f k s (tree.Block ds e) ≡ in_locals f k (in_block k s ds) ds ++ at f (in_block k s ds) e
block_split f k s ds e =
    flat_map-append f (block_bodies k (in_block k s ds) ds) (record { scope = in_block k s ds; expr = e } ∷ [])
    ∙ ap (λ l. in_locals f k (in_block k s ds) ds ++ l) (append-nil (at f (in_block k s ds) e))

alike_block : (j k : ℕ) (s t : Scope) (ds : tree.Definitions) → Alike s t → Alike (in_block j s ds) (in_block k t ds)
alike_block j k s t ds h = alike_append (locals_from j ds) (locals_from k ds) s t (locals_alike j k ds) h

mutual
  same_in_body : (f : Seen → List Place) → IsSame f → (j k : ℕ) (s t : Scope) → Alike s t → (b : tree.Body) → in_body f j s b ≡ in_body f k t b
  same_in_body f same j k s t h (tree.Plain e) = ap (λ l. l ++ []) (same s t h e)
  same_in_body f same j k s t h (tree.Block ds e) =
      block_split f j s ds e
      ∙ ap (λ l. l ++ at f (in_block j s ds) e) (same_in_locals f same j k (in_block j s ds) (in_block k t ds) (alike_block j k s t ds h) ds)
      ∙ ap (λ l. in_locals f k (in_block k t ds) ds ++ l) (same (in_block j s ds) (in_block k t ds) (alike_block j k s t ds h) e)
      ∙ sym (block_split f k t ds e)

  same_in_locals : (f : Seen → List Place) → IsSame f → (j k : ℕ) (s t : Scope) → Alike s t → (ds : tree.Definitions) → in_locals f j s ds ≡ in_locals f k t ds
  same_in_locals f same j k s t h tree.no_definitions = refl
  same_in_locals f same j k s t h (tree.more_definitions (tree.Define q n ps w b) ds) =
      flat_map-append f (bodies (suc j) s b) (block_bodies (suc j + count_in b) s ds)
      ∙ ap (λ l. l ++ in_locals f (suc j + count_in b) s ds) (same_in_body f same (suc j) (suc k) s t h b)
      ∙ ap (λ l. in_body f (suc k) t b ++ l) (same_in_locals f same (suc j + count_in b) (suc k + count_in b) s t h ds)
      ∙ sym (flat_map-append f (bodies (suc k) t b) (block_bodies (suc k + count_in b) t ds))

-- ---- a block
inner_alike : (level s : Scope) (ds : tree.Definitions) → Agree level (locals_from 0 ds) → Alike (level ++ s) (in_block 0 s ds)
inner_alike level s ds h = agree_alike (level ++ s) (in_block 0 s ds) (agree_append level (locals_from 0 ds) s s h (agree_same _ _ refl))

inner_split : (f : Seen → List Place) → IsSame f → (level s : Scope) (ds : tree.Definitions) (e : Expr) → Agree level (locals_from 0 ds) → in_body f 0 s (tree.Block ds e) ≡ in_locals f 0 (level ++ s) ds ++ at f (level ++ s) e
inner_split f same level s ds e h =
    block_split f 0 s ds e
    ∙ ap (λ l. l ++ at f (in_block 0 s ds) e) (sym (same_in_locals f same 0 0 (level ++ s) (in_block 0 s ds) (inner_alike level s ds h) ds))
    ∙ ap (λ l. in_locals f 0 (level ++ s) ds ++ l) (sym (same (level ++ s) (in_block 0 s ds) (inner_alike level s ds h) e))

pub block_hit : (f : Seen → List Place) → IsSame f → (level s : Scope) (ds : tree.Definitions) (e : Expr) (p : Place) → Agree level (locals_from 0 ds) → Some p ≡ first (flat_map f (block_bodies 0 (level ++ s) ds)) → Some p ≡ first (flat_map f (bodies 0 s (tree.Block ds e)))
block_hit f same level s ds e p h found =
    sym (ap first (inner_split f same level s ds e h) ∙ first_of_front (in_locals f 0 (level ++ s) ds) (at f (level ++ s) e) p (sym found))

pub block_rest : (f : Seen → List Place) → IsSame f → (level s : Scope) (ds : tree.Definitions) (e : Expr) → Agree level (locals_from 0 ds) → None ≡ first (flat_map f (block_bodies 0 (level ++ s) ds)) → first (f (record { scope = level ++ s; expr = e })) ≡ first (flat_map f (bodies 0 s (tree.Block ds e)))
block_rest f same level s ds e h none =
    sym (ap first (inner_split f same level s ds e h) ∙ first_after (in_locals f 0 (level ++ s) ds) (at f (level ++ s) e) (sym none))

-- ---- the definitions of a block, one after the other
locals-cons : (f : Seen → List Place) → IsSame f → (s : Scope) (d : tree.Definition) (ds : tree.Definitions) → in_locals f 0 s (tree.more_definitions d ds) ≡ in_body f 0 s (local_body d) ++ in_locals f 0 s ds
locals-cons f same s (tree.Define q n ps w b) ds =
    flat_map-append f (bodies 1 s b) (block_bodies (1 + count_in b) s ds)
    ∙ ap (λ l. l ++ in_locals f (1 + count_in b) s ds) (same_in_body f same 1 0 s s (agree_alike s s (agree_same s s refl)) b)
    ∙ ap (λ l. in_body f 0 s b ++ l) (same_in_locals f same (1 + count_in b) 0 s s (agree_alike s s (agree_same s s refl)) ds)

locals_left : (f : Seen → List Place) → IsSame f → (s : Scope) (ds : List tree.Definition) (i : ℕ) (d e : tree.Definition) → i < length ds → d ≡ get_or ds i d → e ≡ d → in_locals f 0 s (definitions_of (drop i ds)) ≡ in_body f 0 s (local_body e) ++ in_locals f 0 s (definitions_of (drop (i + 1) ds))
locals_left f same s ds i d e h is as_d =
    ap (λ l. in_locals f 0 s (definitions_of l)) (left_at ds i d h is)
    ∙ locals-cons f same s d (definitions_of (drop (i + 1) ds))
    ∙ ap (λ x. in_body f 0 s (local_body x) ++ in_locals f 0 s (definitions_of (drop (i + 1) ds))) (sym as_d)

pub locals_turn : (f : Seen → List Place) → IsSame f → (s : Scope) (ds : List tree.Definition) (i : ℕ) (d e : tree.Definition) (all : Option Place) → i < length ds → d ≡ get_or ds i d → e ≡ d → first (flat_map f (block_bodies 0 s (definitions_of (drop i ds)))) ≡ all → None ≡ first (flat_map f (bodies 0 s (local_body e))) → first (flat_map f (block_bodies 0 s (definitions_of (drop (i + 1) ds)))) ≡ all
locals_turn f same s ds i d e all h is as_d done none =
    sym
    (ap first (locals_left f same s ds i d e h is as_d)
    ∙ first_after (in_body f 0 s (local_body e)) (in_locals f 0 s (definitions_of (drop (i + 1) ds))) (sym none))
    ∙ done

pub locals_hit : (f : Seen → List Place) → IsSame f → (s : Scope) (ds : List tree.Definition) (i : ℕ) (d e : tree.Definition) (p : Place) (all : Option Place) → i < length ds → d ≡ get_or ds i d → e ≡ d → first (flat_map f (block_bodies 0 s (definitions_of (drop i ds)))) ≡ all → Some p ≡ first (flat_map f (bodies 0 s (local_body e))) → Some p ≡ all
locals_hit f same s ds i d e p all h is as_d done found =
    sym
    (ap first (locals_left f same s ds i d e h is as_d)
    ∙ first_of_front (in_body f 0 s (local_body e)) (in_locals f 0 s (definitions_of (drop (i + 1) ds))) p (sym found))
    ∙ done

-- ---- the definition of an item
pub definition_same : (f : Seen → List Place) → IsSame f → (names level outer : Scope) (ps : List tree.Param) (b : tree.Body) → outer ≡ (if are_values ps then functions_of names else names) → Agree level (parameters_from 0 ps) → first (flat_map f (bodies 0 (level ++ (outer ++ [])) b)) ≡ first (flat_map f (bodies 0 (inside names ps) b))
definition_same f same names level outer ps b h k =
    ap first (same_in_body f same 0 0 (level ++ (outer ++ [])) (inside names ps) (agree_alike _ _ agrees) b)
  where
    agrees : Agree (level ++ (outer ++ [])) (inside names ps)
    agrees = agree_append level (parameters_from 0 ps) (outer ++ []) (if are_values ps then functions_of names else names) k (agree_same _ _ (append-nil outer ∙ h))

-- an expression under all of the names
pub alone_same : (f : Seen → List Place) (names : Scope) (e : Expr) → first (f (record { scope = names ++ []; expr = e })) ≡ first (f (record { scope = names; expr = e }) ++ [])
alone_same f names e = ap (λ s. first (at f s e)) (append-nil names) ∙ ap first (sym (append-nil (at f names e)))

-- what is found is the same
pub ok_same : {E : Type 0} (r : Result (Option Place) E) (a b : Option Place) → a ≡ b → IfOk r (λ found. found ≡ a) → IfOk r (λ found. found ≡ b)
ok_same (Ok x) a b e h = h ∙ e
ok_same (Err x) a b e h = tt
