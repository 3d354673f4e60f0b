-- The map of the leaves.
use Rattle.std.proofs.Common.{◌≡◌, ◌≢◌, ℕ, zero, suc, ◌+◌, ◌*◌, ◌<◌, ◌≤◌, true, false, List, [], ◌∷◌, Option, Some, None, length, drop, refl, sym, ap, subst, ◌∙◌, inl, inr, arith, cond, replicate}
use Rattle.std.proofs.lemmas.Bool.{cases_lt, cases_order}
use Rattle.std.proofs.lemmas.List.{get_or_read, get_or-drop, get_or_past, get_or-replicate, length-replicate}
use Rattle.std.specs.Option.{option_map}
use Rattle.std.specs.Prelude.{MatchOption, slice_index_or}
use Rattle.std.specs.Ordering.{nat_cmp, eq_by_cmp, is_eq}
use Rattle.std.specs.declared.cmp.Ordering.TheVariants.{Less, Equal, Greater}
use Rattle.std.specs.Cmp.{nat_cmp_is, nat_cmp_total}
use Rattle.std.specs.FinMap as map
use Rattle.delay_timers.specs.declared.tree.Due.{Due}
use Rattle.delay_timers.specs.inner.Pending.{Times, NoneIsDueAt, IsLeastDueAt}
use Rattle.delay_timers.specs.inner.Tournament.{slot, time_at, IsOf, IsUpTo, IsTree, IsFirstDue, ChangesLeaf, NoLeafAt, IsFirstLeafAt, entries_from, times_of}
use Rattle.delay_timers.proofs.TournamentLemmas.{root_comes_first, root_is_a_leaf}

pub tied : (a b : ℕ) → a ≡ b → eq_by_cmp nat_cmp a b ≡ true
tied a b same = ap is_eq (sym (nat_cmp_is a b Equal same))

pub apart : (a b : ℕ) → a ≢ b → eq_by_cmp nat_cmp a b ≡ false
apart a b else = elim (cases_order a b) [
  | inl same ↦ absurd (else same)
  | inr (inl less) ↦ ap is_eq (sym (nat_cmp_is a b Less less))
  | inr (inr more) ↦ ap is_eq (sym (nat_cmp_is a b Greater more))
]

-- no entry from d on is below d
none_below : (leaves : List (Option Due)) (d q : ℕ) → q < d → map.find nat_cmp q (entries_from d leaves) ≡ None
none_below [] d q below = refl
none_below (None ∷ leaves) d q below = none_below leaves (d + 1) q (omega arith)
none_below (Some due ∷ leaves) d q below =
    ap (λ b. cond b (Some due.time) (map.find nat_cmp q (entries_from (d + 1) leaves))) (apart q d (omega arith))
    ∙ none_below leaves (d + 1) q (omega arith)

leaf_found : (leaves : List (Option Due)) (d k : ℕ) → map.find nat_cmp (d + k) (entries_from d leaves) ≡ option_map (λ due. due.time) (slot leaves k)
leaf_found [] d k = refl
leaf_found (None ∷ leaves) d zero = none_below leaves (d + 1) (d + 0) (omega arith)
leaf_found (None ∷ leaves) d (suc k) =
    let same : d + suc k ≡ (d + 1) + k = omega arith in
    ap (λ q. map.find nat_cmp q (entries_from (d + 1) leaves)) same ∙ leaf_found leaves (d + 1) k
leaf_found (Some due ∷ leaves) d zero =
    ap (λ b. cond b (Some due.time) (map.find nat_cmp (d + 0) (entries_from (d + 1) leaves))) (tied (d + 0) d (omega arith))
leaf_found (Some due ∷ leaves) d (suc k) =
    let same : d + suc k ≡ (d + 1) + k = omega arith in
    ap (λ b. cond b (Some due.time) (map.find nat_cmp (d + suc k) (entries_from (d + 1) leaves))) (apart (d + suc k) d (omega arith))
    ∙ ap (λ q. map.find nat_cmp q (entries_from (d + 1) leaves)) same ∙ leaf_found leaves (d + 1) k

-- the map has at each delay what its leaf has
pub get-times_of : (nodes : List (Option Due)) (delays q : ℕ) → map.get (times_of (drop delays nodes)) q ≡ time_at nodes delays q
get-times_of nodes delays q =
    map.get-from_entries nat_cmp_total (entries_from 0 (drop delays nodes)) q
    ∙ ap (λ k. map.find nat_cmp k (entries_from 0 (drop delays nodes))) (omega arith)
    ∙ leaf_found (drop delays nodes) 0 q
    ∙ ap (option_map (λ due. due.time)) (get_or-drop delays nodes q None)

-- what is read in the leaf of a delay is when it is due
pub read_time : (nodes : List (Option Due)) (delays d : ℕ) (read : Option Due) → IsTree nodes delays → d < delays → read ≡ slice_index_or nodes (delays + d) read
    → option_map (λ (due : Due). due.time) read ≡ map.get (times_of (drop delays nodes)) d
read_time nodes delays d read tree below is =
    let inside : delays + d < length nodes = omega (arith, tree.room) in
    ap (option_map (λ (due : Due). due.time)) (get_or_read nodes (delays + d) read inside is None) ∙ sym (get-times_of nodes delays d)

pub same_times : (a b : Times) → ((q : ℕ) → map.get a q ≡ map.get b q) → a ≡ b
same_times a b same = map.same_map nat_cmp_total map.nat_cmp-IsAntisymmetric a b same

past_the_leaves : (nodes : List (Option Due)) (delays q : ℕ) → length nodes ≡ 2 * delays → delays ≤ q → time_at nodes delays q ≡ None
past_the_leaves nodes delays q room past = ap (option_map (λ due. due.time)) (get_or_past nodes (delays + q) None (omega arith))

pub none_pending : (nodes : List (Option Due)) (delays : ℕ) → length nodes ≡ 2 * delays → ((d : ℕ) → d < delays → slot nodes (delays + d) ≡ None) → times_of (drop delays nodes) ≡ map.empty
none_pending nodes delays room none = same_times _ _ (λ q.
    get-times_of nodes delays q
    ∙ elim (cases_lt q delays) [
      | inl there ↦ ap (option_map (λ due. due.time)) (none q there)
      | inr past ↦ past_the_leaves nodes delays q room past
    ]
    ∙ sym (map.get-empty nat_cmp q))

none_up_to : (b : Option Due) → IsUpTo None b → b ≡ None
none_up_to None up = refl
none_up_to (Some b) up = absurd up

time_found : (leaf : Option Due) (time : ℕ) → option_map (λ due. due.time) leaf ≡ Some time → (due : Due) × (leaf ≡ Some due) × (due.time ≡ time)
time_found None time is = absurd (cc)
time_found (Some due) time is = (due, refl, cc)

-- what is pending stands in a leaf
pub pending_leaf : (nodes : List (Option Due)) (delays d time : ℕ) → IsTree nodes delays → time_at nodes delays d ≡ Some time → (due : Due) × (slot nodes (delays + d) ≡ Some due) × (due.time ≡ time) × (d < delays) × (due.delay ≡ d)
pending_leaf nodes delays d time tree is =
    let found = time_found (slot nodes (delays + d)) time is in
    elim (cases_lt d delays) [
      | inl there ↦ (found.0, found.1, found.2, there, subst (IsOf d) found.1 (tree.own d there))
      | inr past ↦ let nothing : time_at nodes delays d ≡ None = past_the_leaves nodes delays d tree.room past in absurd (cc)
    ]

pub all_below : (nodes : List (Option Due)) (delays : ℕ) → IsTree nodes delays → (d time : ℕ) → map.get (times_of (drop delays nodes)) d ≡ Some time → d < delays
all_below nodes delays tree d time is =
    let leaf = pending_leaf nodes delays d time tree (sym (get-times_of nodes delays d) ∙ is) in
    leaf.3

pub root_is_first : (nodes : List (Option Due)) (delays : ℕ) → IsTree nodes delays → 0 < delays → MatchOption (slot nodes 1) (times_of (drop delays nodes) ≡ map.empty) (IsFirstDue (times_of (drop delays nodes)))
root_is_first nodes delays tree some =
    elim (slot nodes 1) as (λ r. slot nodes 1 ≡ r → MatchOption r (times_of (drop delays nodes) ≡ map.empty) (IsFirstDue (times_of (drop delays nodes)))) [
      | None ↦ λ root. none_pending nodes delays tree.room (λ d there. none_up_to _ (subst (λ r. IsUpTo r (slot nodes (delays + d))) root (root_comes_first nodes delays tree d there)))
      | Some due ↦ λ root.
          let leaf = root_is_a_leaf nodes delays tree some in
          let is : slot nodes (delays + leaf.0) ≡ Some due = sym leaf.2 ∙ root in
          let own : due.delay ≡ leaf.0 = subst (IsOf leaf.0) is (tree.own leaf.0 leaf.1) in
          record {
            is_due = get-times_of nodes delays due.delay ∙ ap (time_at nodes delays) own ∙ ap (option_map (λ e. e.time)) is;
            first = λ delay time pending.
                let other = pending_leaf nodes delays delay time tree (sym (get-times_of nodes delays delay) ∙ pending) in
                let up : IsUpTo (Some due) (Some other.0) = subst (IsUpTo (Some due)) other.1 (subst (λ r. IsUpTo r (slot nodes (delays + delay))) root (root_comes_first nodes delays tree delay other.3)) in
                record { no_later = omega (arith, up.no_later, other.2); tied = λ same. omega (arith, up.tied, other.2, other.4, same) };
          }
    ] refl

changed : (old new : List (Option Due)) (delays d : ℕ) (x : Option Due) → ChangesLeaf old new delays d x → (q : ℕ) → time_at new delays q ≡ cond (eq_by_cmp nat_cmp q d) (option_map (λ due. due.time) x) (time_at old delays q)
changed old new delays d x changes q =
    elim (cases_order q d) [
      | inl same ↦
          ap (time_at new delays) same ∙ ap (option_map (λ due. due.time)) changes.leaf
          ∙ sym (ap (λ b. cond b (option_map (λ due. due.time) x) (time_at old delays q)) (tied q d same))
      | inr other ↦
          let else : q ≢ d = omega (arith, other) in
          ap (option_map (λ due. due.time)) (changes.others q else)
          ∙ sym (ap (λ b. cond b (option_map (λ due. due.time) x) (time_at old delays q)) (apart q d else))
    ]

pub is_set : (old new : List (Option Due)) (delays d : ℕ) (due : Due) → ChangesLeaf old new delays d (Some due) → times_of (drop delays new) ≡ map.insert (times_of (drop delays old)) d due.time
is_set old new delays d due changes = same_times _ _ (λ q.
    get-times_of new delays q ∙ changed old new delays d (Some due) changes q
    ∙ ap (cond (eq_by_cmp nat_cmp q d) (Some due.time)) (sym (get-times_of old delays q))
    ∙ sym (map.get-insert nat_cmp_total (times_of (drop delays old)) d due.time q))

pub is_cancelled : (old new : List (Option Due)) (delays d : ℕ) → ChangesLeaf old new delays d None → times_of (drop delays new) ≡ map.remove (times_of (drop delays old)) d
is_cancelled old new delays d changes = same_times _ _ (λ q.
    get-times_of new delays q ∙ changed old new delays d None changes q
    ∙ ap (cond (eq_by_cmp nat_cmp q d) None) (sym (get-times_of old delays q))
    ∙ sym (map.get-remove nat_cmp_total (times_of (drop delays old)) d q))

pub none_due_of_none : (times : Times) (time : ℕ) → times ≡ map.empty → NoneIsDueAt times time
none_due_of_none times time none d is =
    let nothing : map.get times d ≡ None = ap (λ m. map.get m d) none ∙ map.get-empty nat_cmp d in
    absurd (cc)

-- the first leaf of a time is the least delay that is due at it
pub leaf_is_due : (nodes : List (Option Due)) (delays time : ℕ) (r : Option ℕ) → MatchOption r (NoLeafAt nodes delays time) (IsFirstLeafAt nodes delays time) → MatchOption r (NoneIsDueAt (times_of (drop delays nodes)) time) (IsLeastDueAt (times_of (drop delays nodes)) time)
leaf_is_due nodes delays time None none = λ d is. none d (sym (get-times_of nodes delays d) ∙ is)
leaf_is_due nodes delays time (Some d) first = record {
  is_due = get-times_of nodes delays d ∙ first.has;
  least = λ other below is. first.none_before other below (sym (get-times_of nodes delays other) ∙ is);
}

-- no delay is pending in a tree of empty slots
module _ (nodes : List (Option Due)) (delays : ℕ) (is : nodes ≡ replicate (2 * delays) None) where
  pub empty_room : length nodes ≡ 2 * delays
  empty_room = ap length is ∙ length-replicate (2 * delays) None

  slot_is_empty : (k : ℕ) → slot nodes k ≡ None
  slot_is_empty k = elim (cases_lt k (2 * delays)) [
    | inl there ↦ ap (λ ns. slot ns k) is ∙ get_or-replicate (2 * delays) k None None there
    | inr past ↦ get_or_past nodes k None (omega (arith, empty_room))
  ]

  pub empty_tree : IsTree nodes delays
  empty_tree = record {
    room = empty_room;
    own = λ d there. subst (IsOf d) (sym (slot_is_empty (delays + d))) tt;
    heads = λ k low high. record {
      one = inl (slot_is_empty k ∙ sym (slot_is_empty (2 * k)));
      left = subst (IsUpTo (slot nodes k)) (sym (slot_is_empty (2 * k))) tt;
      right = subst (IsUpTo (slot nodes k)) (sym (slot_is_empty (2 * k + 1))) tt;
    };
  }

  pub empty_times : times_of (drop delays nodes) ≡ map.empty
  empty_times = none_pending nodes delays empty_room (λ d there. slot_is_empty (delays + d))
