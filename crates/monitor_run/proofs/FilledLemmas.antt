-- Cells that were made of contents.
use Rattle.std.proofs.Common.{◌≡◌, ◌&&◌, ℕ, zero, suc, ◌+◌, ◌<◌, List, [], ◌∷◌, ◌++◌, length, map, take, get_or, Contains, Option, Some, None, refl, sym, ap, subst, ◌∙◌, inl, inr, arith}
use Rattle.std.proofs.lemmas.Bool.{cases_eq, false≢true}
use Rattle.std.proofs.lemmas.List.{take_more}
use Rattle.std.proofs.lemmas.Option.{same_Some, none-some}
use Rattle.std.specs.Prelude.{IsTrue, is_some, slice_get, slice_index, unwrap_or}
use Rattle.std.specs.List.{AllByRecursion}
use Rattle.std.specs.FinMap as finite_map
use Rattle.std.specs.FinSet as set
use Rattle.std.specs.Ordering.{nat_cmp}
use Rattle.tsl_value.specs.declared.scalar.Scalar.{Scalar}
use Rattle.tsl_value.specs.declared.scalar.Scalar.TheVariants as scalar
use Rattle.tsl_value.specs.declared.scalar.KeyType.{KeyType}
use Rattle.tsl_value.specs.declared.scalar.ScalarType.{ScalarType}
use Rattle.tsl_value.specs.declared.scalar.ValueType.{ValueType}
use Rattle.tsl_value.specs.declared.scalar.ValueType.TheVariants as value_type
use Rattle.tsl_value.specs.View.{View, Plain, is_of, is_of_key, is_of_scalar}
use Rattle.tsl_value.proofs.Lists.{cons_cases, later, none_in_nil}
use Rattle.cell_reader.specs.inner.Cells.{Cells, IsLive, view_at}
use Rattle.lift_func.proofs.TypedUpdates.{first, second, is_of-empty, set_with, map_with}
use Rattle.aggregate_store.specs.declared.content.Content.{Content}
use Rattle.aggregate_store.specs.declared.content.Content.TheVariants as content
use Rattle.aggregate_store.specs.Content.{AreInOrder, content_of, is_content_of, view_in}
use Rattle.aggregate_store.specs.inner.Stored.{Stored}
use Rattle.aggregate_store.proofs.Contents.{contents}
use Rattle.register_machine.proofs.Cells.{get-here, get-there}
use Rattle.monitor_run.specs.inner.Resuming.{AreViews, HasCells}
use Rattle.monitor_run.proofs.Placed.{once_push}

-- ---- a view of a content is of the content's type

typed_set : (k : KeyType) (keys : List Scalar) → IsTrue (is_content_of (value_type.Set k) (content.Set keys)) → IsTrue (is_of (value_type.Set k) (view_in (content.Set keys)))
typed_set k [] all = is_of-empty (value_type.Set k) refl
typed_set k (x ∷ keys) all = set_with k (set.from_list keys) x (first _ _ all) (typed_set k keys (second _ _ all))

typed_map : (k : KeyType) (t : ScalarType) (entries : List (Scalar × Scalar)) → IsTrue (is_content_of (value_type.Map k t) (content.Map entries)) → IsTrue (is_of (value_type.Map k t) (view_in (content.Map entries)))
typed_map k t [] all = is_of-empty (value_type.Map k t) refl
typed_map k t (e ∷ entries) all =
    map_with k t (finite_map.from_entries entries) e.0 e.1 (first _ _ (first (is_of_key k e.0 && is_of_scalar t e.1) _ all)) (second _ _ (first (is_of_key k e.0 && is_of_scalar t e.1) _ all)) (typed_map k t entries (second _ _ all))

pub typed_view : (of : ValueType) (c : Content) → IsTrue (is_content_of of c) → IsTrue (is_of of (view_in c))
typed_view (value_type.Scalar t) (content.Scalar s) is = is
typed_view (value_type.Set k) (content.Set keys) is = typed_set k keys is
typed_view (value_type.Map k t) (content.Map entries) is = typed_map k t entries is
typed_view (value_type.Queue t) (content.Queue elements) is = is
typed_view _ _ is = absurd (false≢true is)

-- ---- one cell more

live_get : (cells : Cells) (h : ℕ) (v : View) → finite_map.get cells h ≡ Some v → IsLive cells h
live_get cells h v is = ap is_some is

view_some : (cells : Cells) (h : ℕ) → IsLive cells h → (v : View) × (finite_map.get cells h ≡ Some v)
view_some cells h live = from (finite_map.get cells h) refl live
  where
    from : (o : Option View) → finite_map.get cells h ≡ o → IsTrue (is_some o) → (v : View) × (finite_map.get cells h ≡ Some v)
    from None is some = absurd (false≢true some)
    from (Some v) is some = (v, is)

-- each handle is that of a cell
pub views_there : (cells : Cells) (cs : List Content) (hs : List ℕ) → AreViews cells cs hs → (h : ℕ) → Contains hs h → IsLive cells h
views_there cells [] [] views h there = absurd (none_in_nil h there)
views_there cells [] (k ∷ hs) views h there = absurd views
views_there cells (c ∷ cs) [] views h there = absurd views
views_there cells (c ∷ cs) (k ∷ hs) views h there = elim (cons_cases k h hs there) [
  | inl same ↦ live_get cells h (view_in c) (subst (λ n. finite_map.get cells n ≡ Some (view_in c)) same views.0)
  | inr after ↦ views_there cells cs hs views.1 h after
]

module _ (old : Cells) (handle : ℕ) (c : Content) (fresh : ¬ (IsLive old handle)) where
  abbrev new : Cells
  new = finite_map.insert old handle (view_in c)

  views_push : (cs : List Content) (hs : List ℕ) → AreViews old cs hs → AreViews new (cs ++ c ∷ []) (hs ++ handle ∷ [])
  views_push [] [] views = (get-here old handle (view_in c), tt)
  views_push [] (k ∷ hs) views = absurd views
  views_push (d ∷ cs) [] views = absurd views
  views_push (d ∷ cs) (k ∷ hs) views =
      (get-there old handle (view_in c) k (λ same. fresh (subst (IsLive old) same (live_get old k (view_in d) views.0))) ∙ views.0, views_push cs hs views.1)

  other_live : (h : ℕ) → (h ≡ handle → ⊥) → IsLive new h → IsLive old h
  other_live h other live = let found = view_some new h live in live_get old h found.0 (sym (get-there old handle (view_in c) h other) ∙ found.1)

  in_push : (hs : List ℕ) (h : ℕ) → Contains hs h → Contains (hs ++ handle ∷ []) h
  in_push [] h there = absurd (none_in_nil h there)
  in_push (k ∷ hs) h there = elim (cons_cases k h hs there) [ inl same ↦ (0, omega arith, same) | inr after ↦ later k h (hs ++ handle ∷ []) (in_push hs h after) ]

  last_in : (hs : List ℕ) → Contains (hs ++ handle ∷ []) handle
  last_in [] = (0, omega arith, refl)
  last_in (k ∷ hs) = later k handle (hs ++ handle ∷ []) (last_in hs)

  pub cells_push : (cs : List Content) (hs : List ℕ) → HasCells cs hs old → HasCells (cs ++ c ∷ []) (hs ++ handle ∷ []) new
  cells_push cs hs has = record {
    views = views_push cs hs has.views;
    once = once_push hs handle has.once (λ there. fresh (views_there old cs hs has.views handle there));
    no_other = λ h live. elim (cases_eq h handle) [
      | inl same ↦ subst (Contains (hs ++ handle ∷ [])) (sym same) (last_in hs)
      | inr other ↦ in_push hs h (has.no_other h (other_live h other live))
    ];
  }

-- one content more has its cell
pub cells_more : (cs : List Content) (n : ℕ) (c : Content) (handle : ℕ) (old new : Stored) (hs more : List ℕ) (ledger : List ℕ)
    → n < length cs
    → c ≡ get_or cs n c
    → ¬ (IsLive old.cells handle)
    → new ≡ record old { cells = finite_map.insert old.cells handle (view_in c) }
    → more ≡ hs ++ handle ∷ []
    → HasCells (take n cs) hs old.cells × (old.ledger ≡ ledger)
    → HasCells (take (n + 1) cs) more new.cells × (new.ledger ≡ ledger)
cells_more cs n c handle old new hs more ledger there is fresh made pushed was = (
  subst (λ xs. HasCells xs more new.cells) (ap (λ k. take n cs ++ k ∷ []) is ∙ sym (take_more cs n c there))
      (subst (λ ms. HasCells (take n cs ++ c ∷ []) ms new.cells) (sym pushed)
      (subst (HasCells (take n cs ++ c ∷ []) (hs ++ handle ∷ [])) (sym (ap (λ (st : Stored). st.cells) made)) (cells_push old.cells handle c fresh (take n cs) hs was.0))),
  ap (λ (st : Stored). st.ledger) made ∙ was.1,
)

pub cells_none : (cells : Cells) → cells ≡ finite_map.empty → HasCells [] [] cells
cells_none cells empty = record {
  views = tt;
  once = tt;
  no_other = λ h live.
      let found = view_some cells h live in
      let nothing = sym (ap (λ m. finite_map.get m h) empty ∙ finite_map.get-empty nat_cmp h) ∙ found.1 in absurd (cc);
}

-- ---- all cells

pub as_many : (cells : Cells) (cs : List Content) (hs : List ℕ) → AreViews cells cs hs → length hs ≡ length cs
as_many cells [] [] views = refl
as_many cells [] (h ∷ hs) views = absurd views
as_many cells (c ∷ cs) [] views = absurd views
as_many cells (c ∷ cs) (h ∷ hs) views = ap suc (as_many cells cs hs views.1)

pub view_of_place : (cells : Cells) (cs : List Content) (hs : List ℕ) → AreViews cells cs hs → (k : ℕ) (c : Content) → slice_get cs k ≡ Some c → finite_map.get cells (slice_index hs k) ≡ Some (view_in c)
view_of_place cells [] hs views k c is = absurd (none-some c is)
view_of_place cells (d ∷ cs) [] views k c is = absurd views
view_of_place cells (d ∷ cs) (h ∷ hs) views zero c is = views.0 ∙ ap (λ x. Some (view_in x)) (same_Some d c is)
view_of_place cells (d ∷ cs) (h ∷ hs) views (suc k) c is = view_of_place cells cs hs views.1 k c is

-- the content of a cell
pub view_at_place : (cells : Cells) (cs : List Content) (hs : List ℕ) → AreViews cells cs hs → (h : ℕ) → Contains hs h → (c : Content) × Contains cs c × (finite_map.get cells h ≡ Some (view_in c))
view_at_place cells [] [] views h there = absurd (none_in_nil h there)
view_at_place cells [] (k ∷ hs) views h there = absurd views
view_at_place cells (c ∷ cs) [] views h there = absurd views
view_at_place cells (c ∷ cs) (k ∷ hs) views h there = elim (cons_cases k h hs there) [
  | inl same ↦ (c, (0, omega arith, refl), subst (λ n. finite_map.get cells n ≡ Some (view_in c)) same views.0)
  | inr after ↦ let rest = view_at_place cells cs hs views.1 h after in (rest.0, later c rest.0 cs rest.1, rest.2)
]

pub contents_back : (cells : Cells) (cs : List Content) (hs : List ℕ) → AreViews cells cs hs → AllByRecursion AreInOrder cs → map (λ h. content_of (view_at cells h)) hs ≡ cs
contents_back cells [] [] views ordered = refl
contents_back cells [] (h ∷ hs) views ordered = absurd views
contents_back cells (c ∷ cs) [] views ordered = absurd views
contents_back cells (c ∷ cs) (h ∷ hs) views ordered =
    let first = ap (λ o. content_of (unwrap_or o (Plain scalar.Unit))) views.0 ∙ contents.same c ordered.0 in
    let rest = contents_back cells cs hs views.1 ordered.1 in
    λ k. first k ∷ rest k
