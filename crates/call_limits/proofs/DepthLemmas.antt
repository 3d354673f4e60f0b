-- The depths of items, one after the other.
use Rattle.std.proofs.Common.{◌≡◌, ℕ, suc, ◌+◌, ◌<◌, ◌≤◌, List, [], ◌∷◌, ◌++◌, length, get_or, set, take, drop, Option, Some, None, Contains, refl, sym, ap, subst, ◌∙◌, inl, inr, get_or-set_same, get_or-set_other, length-set, drop-cons, take_all, arith}
use Rattle.std.specs.Prelude.{slice_index, max, unwrap_or, ◌↔◌, IsNone, IfSome, MatchOption}
use Rattle.std.specs.List.{All}
use Rattle.std.proofs.lemmas.Bool.{cases_eq, cases_lt}
use Rattle.std.proofs.lemmas.List.{take_more, get_or_past, get_or_read, take-append-drop}
use Rattle.std.proofs.lemmas.List.Elements.{Contains-push_cases, Contains-append_left, All-contains, All-contains_itself, All-weaker}
use Rattle.translation_order.specs.OnCycle.{Edge, AreBetween}
use Rattle.translation_order.specs.inner.Searching.{AreSuccessors, Leads}
use Rattle.translation_order.proofs.SearchLists.{none_in}
use Rattle.translation_order.proofs.Lists.{split_at}
use Rattle.call_limits.specs.inner.Depths.{Nests, ends, counts, passes, IsDepth, AreDepths, StandsAfter, AreAfter, one_deeper, IsDepthBy, IsDeep, NestsTooDeep, IsFirst}
use Rattle.call_limits.proofs.ChainLemmas.{nests_alike, nests_fewer, nests_at}
use Rattle.definition_cycles.specs.declared.limits.TheConstants.{MOST_CALLS}

-- ---- one item, where the depths of those to which its edges lead are known
module _ (C P : ℕ → ℕ → Type 0) (depths : List ℕ) (x d : ℕ) (counted passed : List ℕ) (by : IsDepthBy depths counted passed d) where
  no_deeper : ((y : ℕ) → C x y → Contains counted y × IsDepth C P y (slice_index depths y)) → ((y : ℕ) → P x y → Contains passed y × IsDepth C P y (slice_index depths y)) → (n : ℕ) → Nests C P n x → n ≤ suc MOST_CALLS → n ≤ d
  no_deeper of_counted of_passed _ ends few = omega arith
  no_deeper of_counted of_passed _ (counts {n = n} {b = y} e r) few =
      let to = of_counted y e in
      let less = to.1.greatest n (omega arith) r in
      let here = by.counts y to.0 in omega arith
  no_deeper of_counted of_passed n (passes {b = y} e r) few =
      let to = of_passed y e in
      let less = to.1.greatest n few r in
      let here = by.passes y to.0 in omega arith

  one_more : (y : ℕ) → C x y → IsDepth C P y (slice_index depths y) → d ≡ one_deeper (slice_index depths y) → Nests C P d x
  one_more y e of is = nests_fewer C P (suc (slice_index depths y)) x (counts e of.nests) d (omega arith)

  limited : ((y : ℕ) → Contains passed y → slice_index depths y ≤ suc MOST_CALLS) → d ≤ suc MOST_CALLS
  limited small = elim by.reached [
    | inl is ↦ omega arith
    | inr (inl (y, c, is)) ↦ omega arith
    | inr (inr (y, c, is)) ↦ let l = small y c in omega arith
  ]

-- ---- the greatest depth of those that are called
pub record Greatest (depths items : List ℕ) (found : Option ℕ) : Type 0 where
  pub none : IsNone found ↔ (items ≡ [])
  pub one_of : IfSome found (λ d. (x : ℕ) × Contains items x × (slice_index depths x ≡ d))
  pub greatest : IfSome found (λ d. All (λ x. slice_index depths x ≤ d) items)

abbrev pub deepest : Option ℕ → ℕ
deepest None = 0
deepest (Some d) = one_deeper d

pub deepest_is : (found : Option ℕ) (through : ℕ) → MatchOption found (through ≡ 0) (λ d. through ≡ one_deeper d) → through ≡ deepest found
deepest_is None through is = is
deepest_is (Some d) through is = is

none_there : {A : Type 0} (depths items : List ℕ) → Greatest depths items None → (x : ℕ) → Contains items x → A
none_there depths items g x c = absurd (none_in items x (g.none.0 refl) c)

at_most : (depths items : List ℕ) (d : ℕ) → Greatest depths items (Some d) → (x : ℕ) → Contains items x → slice_index depths x ≤ d
at_most depths items d g x c = All-contains (λ y. slice_index depths y ≤ d) items x g.greatest c

pub depth_by : (depths counted passed : List ℕ) (a b : Option ℕ) (d : ℕ) → Greatest depths counted a → Greatest depths passed b → d ≡ max (deepest a) (unwrap_or b 0) → IsDepthBy depths counted passed d
depth_by depths counted passed None None d g h is = record {
  counts = λ x c. none_there depths counted g x c;
  passes = λ x c. none_there depths passed h x c;
  reached = inl is;
}
depth_by depths counted passed None (Some q) d g h is = record {
  counts = λ x c. none_there depths counted g x c;
  passes = λ x c. let most = at_most depths passed q h x c in omega arith;
  reached = inr (inr (h.one_of.0, h.one_of.1, omega (arith, h.one_of.2)));
}
depth_by depths counted passed (Some p) None d g h is = record {
  counts = λ x c. let most = at_most depths counted p g x c in omega arith;
  passes = λ x c. none_there depths passed h x c;
  reached = inr (inl (g.one_of.0, g.one_of.1, omega (arith, g.one_of.2)));
}
depth_by depths counted passed (Some p) (Some q) d g h is = record {
  counts = λ x c. let most = at_most depths counted p g x c in omega arith;
  passes = λ x c. let most = at_most depths passed q h x c in omega arith;
  reached = elim (cases_lt (one_deeper p) q) [
    | inl less ↦ inr (inr (h.one_of.0, h.one_of.1, omega (arith, h.one_of.2)))
    | inr more ↦ inr (inl (g.one_of.0, g.one_of.1, omega (arith, g.one_of.2)))
  ];
}

module _ (counted passed : List (List ℕ)) where
  pub is_depth : (depths : List ℕ) (x d : ℕ) → ((y : ℕ) → Leads counted x y → IsDepth (Leads counted) (Leads passed) y (slice_index depths y)) → ((y : ℕ) → Leads passed x y → IsDepth (Leads counted) (Leads passed) y (slice_index depths y)) → IsDepthBy depths (get_or counted x []) (get_or passed x []) d → IsDepth (Leads counted) (Leads passed) x d
  is_depth depths x d of_counted of_passed by = record {
    nests = elim by.reached [
      | inl is ↦ subst (λ n. Nests (Leads counted) (Leads passed) n x) (sym is) ends
      | inr (inl (y, c, is)) ↦ one_more (Leads counted) (Leads passed) depths x d (get_or counted x []) (get_or passed x []) by y c (of_counted y c) is
      | inr (inr (y, c, is)) ↦ subst (λ n. Nests (Leads counted) (Leads passed) n x) (sym is) (passes c (of_passed y c).nests)
    ];
    limited = limited (Leads counted) (Leads passed) depths x d (get_or counted x []) (get_or passed x []) by (λ y c. (of_passed y c).limited);
    greatest = λ n few r. no_deeper (Leads counted) (Leads passed) depths x d (get_or counted x []) (get_or passed x []) by (λ y e. (e, of_counted y e)) (λ y e. (e, of_passed y e)) n r few;
  }

-- ---- all items, in their order
-- the items that stand in front have their depths
pub record AreKnown (counted passed : List (List ℕ)) (count : ℕ) (front depths : List ℕ) : Type 0 where
  pub one_each : length depths ≡ count
  pub known : (x : ℕ) → Contains front x → IsDepth (Leads counted) (Leads passed) x (slice_index depths x)

-- a list of the table, as it was read
pub read_is : (table : List (List ℕ)) (x : ℕ) (was list : List ℕ) → x < length table → was ≡ get_or table x was → list ≡ was → list ≡ get_or table x []
read_is table x was list low read is = is ∙ get_or_read table x was low read []

split_here : (order : List ℕ) (k : ℕ) → k < length order → order ≡ take k order ++ get_or order k 0 ∷ drop (suc k) order
split_here order k low = sym (take-append-drop k order) ∙ ap (λ l. take k order ++ l) (drop-cons order k 0 low)

module _ (counted passed : List (List ℕ)) (count : ℕ) (order : List ℕ) (after : AreAfter (Leads counted) (Leads passed) count order) where
  pub is_below : (x : ℕ) → Contains order x → x < count
  is_below x c = let parts = split_at order x c in (after.each parts.0 parts.1 x parts.2).is_item

  stands_at : (k : ℕ) → k < length order → StandsAfter (Leads counted) (Leads passed) count (take k order) (get_or order k 0)
  stands_at k low = after.each (take k order) (drop (suc k) order) (get_or order k 0) (split_here order k low)

  pub is_item : (k : ℕ) → k < length order → get_or order k 0 < count
  is_item k low = (stands_at k low).is_item

  front_below : (k : ℕ) → k < length order → (xs depths : List ℕ) → length depths ≡ count → ((y : ℕ) → Contains xs y → Contains (take k order) y) → All (λ y. y < length depths) xs
  front_below k low xs depths long front =
      All-weaker (Contains xs) (λ y. y < length depths)
      (λ y c. let there = is_below y (subst (λ l. Contains l y) (take-append-drop k order) (Contains-append_left (take k order) (drop k order) y (front y c))) in omega arith)
      xs (All-contains_itself xs)

  pub counted_below : (k : ℕ) (depths : List ℕ) → k < length order → length depths ≡ count → All (λ y. y < length depths) (get_or counted (get_or order k 0) [])
  counted_below k depths low long = front_below k low (get_or counted (get_or order k 0) []) depths long (stands_at k low).counted

  pub passed_below : (k : ℕ) (depths : List ℕ) → k < length order → length depths ≡ count → All (λ y. y < length depths) (get_or passed (get_or order k 0) [])
  passed_below k depths low long = front_below k low (get_or passed (get_or order k 0) []) depths long (stands_at k low).passed

  pub known_turn : (k d : ℕ) (depths : List ℕ) → k < length order → AreKnown counted passed count (take k order) depths → IsDepthBy depths (get_or counted (get_or order k 0) []) (get_or passed (get_or order k 0) []) d → AreKnown counted passed count (take (k + 1) order) (set depths (get_or order k 0) d)
  known_turn k d depths low known by =
      let x = get_or order k 0 in
      let at = stands_at k low in
      let long = known.one_each in
      let small = at.is_item in
      let depth : IsDepth (Leads counted) (Leads passed) x d = is_depth counted passed depths x d (λ y e. known.known y (at.counted y e)) (λ y e. known.known y (at.passed y e)) by in
      let same : get_or (set depths x d) x 0 ≡ d = get_or-set_same depths x d 0 (omega arith) in
      let here : IsDepth (Leads counted) (Leads passed) x (slice_index (set depths x d) x) = subst (IsDepth (Leads counted) (Leads passed) x) (sym same) depth in
      record {
        one_each = length-set depths x d ∙ known.one_each;
        known = λ y c. elim (cases_eq y x) [
          | inl is ↦ subst (λ z. IsDepth (Leads counted) (Leads passed) z (slice_index (set depths x d) z)) (sym is) here
          | inr other ↦ elim (Contains-push_cases (take k order) x y (subst (λ l. Contains l y) (take_more order k 0 low) c)) [
            | inl old ↦ subst (IsDepth (Leads counted) (Leads passed) y) (sym (get_or-set_other depths x y d 0 other)) (known.known y old)
            | inr is ↦ absurd (other (sym is))
          ]
        ];
      }

  pub all_known : (k : ℕ) (depths : List ℕ) → length order ≤ k → AreKnown counted passed count (take k order) depths → AreDepths (Leads counted) (Leads passed) count depths
  all_known k depths past known = record {
    one_each = known.one_each;
    at = λ x low. known.known x (subst (λ l. Contains l x) (sym (take_all k order past)) (after.all x low));
  }

-- ---- the same of what is known to be equal
pub same_successors : (count : ℕ) (edges same : List (ℕ × ℕ)) (xs ys : List (List ℕ)) → same ≡ edges → xs ≡ ys → AreSuccessors count same ys → AreSuccessors count edges xs
same_successors count edges same xs ys is_same is s =
    subst (λ e. AreSuccessors count e xs) is_same (subst (AreSuccessors count same) (sym is) s)

pub same_depths : (count : ℕ) (counted passed xs ys : List (List ℕ)) (depths slice : List ℕ) → counted ≡ xs → passed ≡ ys → length xs ≡ count → slice ≡ depths → AreDepths (Leads counted) (Leads passed) (length counted) depths → AreDepths (Leads xs) (Leads ys) count slice
same_depths count counted passed xs ys depths slice is_counted is_passed long is d =
    subst (λ l. AreDepths (Leads xs) (Leads ys) count l) (sym is)
    (subst (λ n. AreDepths (Leads xs) (Leads ys) n depths) long
    (subst (λ l. AreDepths (Leads xs) (Leads l) (length xs) depths) is_passed
    (subst (λ l. AreDepths (Leads l) (Leads passed) (length l) depths) is_counted d)))

-- ---- what is too deep
-- a relation the other way round, and relations that hold alike
pub after_alike : (C D P Q : ℕ → ℕ → Type 0) (count : ℕ) (order : List ℕ) → ((a b : ℕ) → D a b → C a b) → ((a b : ℕ) → Q a b → P a b) → AreAfter C P count order → AreAfter D Q count order
after_alike C D P Q count order counted passed b = record {
  each = λ front rest x is.
      let s = b.each front rest x is in
      record { is_item = s.is_item; counted = λ y e. s.counted y (counted x y e); passed = λ y e. s.passed y (passed x y e) };
  all = b.all;
}

pub after_swapped : (C P : ℕ → ℕ → Type 0) (count : ℕ) (order : List ℕ) → AreAfter C P count order → AreAfter P C count order
after_swapped C P count order b = record {
  each = λ front rest x is. let s = b.each front rest x is in record { is_item = s.is_item; counted = s.passed; passed = s.counted };
  all = b.all;
}

-- what is beyond the last depth is not deep
deep_below : (depths : List ℕ) (x : ℕ) → MOST_CALLS < slice_index depths x → x < length depths
deep_below depths x deep = elim (cases_lt x (length depths)) [
  | inl low ↦ low
  | inr past ↦ let none = get_or_past depths x 0 past in absurd (omega arith)
]

module _ (C P : ℕ → ℕ → Type 0) (count : ℕ) (depths : List ℕ) (are : AreDepths C P count depths) where
  deep_nests : (x : ℕ) → MOST_CALLS < slice_index depths x → Nests C P (suc MOST_CALLS) x
  deep_nests x deep =
      let low = deep_below depths x deep in
      let long = are.one_each in
      nests_fewer C P (slice_index depths x) x (are.at x (omega arith)).nests (suc MOST_CALLS) (omega arith)

  nests_deep : (x : ℕ) → x < count → Nests C P (suc MOST_CALLS) x → MOST_CALLS < slice_index depths x
  nests_deep x low r = let most = (are.at x low).greatest (suc MOST_CALLS) (omega arith) r in omega arith

pub first_alike : (P Q : ℕ → Type 0) → ((x : ℕ) → P x → Q x) → ((x : ℕ) → Q x → P x) → (found : Option ℕ) → IsFirst P found → IsFirst Q found
first_alike P Q go back None f = λ x q. f x (back x q)
first_alike P Q go back (Some x) f = record { holds = go x f.holds; least = λ y q. f.least y (back y q) }

first_below : (count : ℕ) (edges : List (ℕ × ℕ)) → AreBetween count edges → (x y : ℕ) → Edge edges x y → x < count
first_below count edges between x y e = (All-contains (λ p. (p.0 < count) × (p.1 < count)) edges (x, y) between e).0

module _ (count : ℕ) (macros functions : List (ℕ × ℕ)) (of_macros of_functions : List (List ℕ)) (m : AreSuccessors count macros of_macros) (f : AreSuccessors count functions of_functions) where
  -- the order of the code
  pub order_leads : (order : List ℕ) → AreAfter (Edge macros) (Edge functions) count order → AreAfter (Leads of_macros) (Leads of_functions) (length of_macros) order
  order_leads order b =
      subst (λ n. AreAfter (Leads of_macros) (Leads of_functions) n order) (sym m.one_each)
      (after_alike (Edge macros) (Leads of_macros) (Edge functions) (Leads of_functions) count order m.from_edges f.from_edges b)

  pub order_swapped : (order : List ℕ) → AreAfter (Edge macros) (Edge functions) count order → AreAfter (Leads of_functions) (Leads of_macros) (length of_functions) order
  order_swapped order b =
      subst (λ n. AreAfter (Leads of_functions) (Leads of_macros) n order) (sym f.one_each)
      (after_swapped (Leads of_macros) (Leads of_functions) count order
      (after_alike (Edge macros) (Leads of_macros) (Edge functions) (Leads of_functions) count order m.from_edges f.from_edges b))

  module _ (macro_depths function_depths : List ℕ) (between_macros : AreBetween count macros) (between_functions : AreBetween count functions) (ms : AreDepths (Leads of_macros) (Leads of_functions) count macro_depths) (fs : AreDepths (Leads of_functions) (Leads of_macros) count function_depths) where
    deep_means : (x : ℕ) → IsDeep macro_depths function_depths x → NestsTooDeep macros functions x
    deep_means x (inl deep) =
        inl (nests_alike (Leads of_macros) (Edge macros) (Leads of_functions) (Edge functions) m.from_edges f.from_edges (suc MOST_CALLS) x (deep_nests (Leads of_macros) (Leads of_functions) count macro_depths ms x deep))
    deep_means x (inr deep) =
        inr (nests_alike (Leads of_functions) (Edge functions) (Leads of_macros) (Edge macros) f.from_edges m.from_edges (suc MOST_CALLS) x (deep_nests (Leads of_functions) (Leads of_macros) count function_depths fs x deep))

    means_deep : (x : ℕ) → NestsTooDeep macros functions x → IsDeep macro_depths function_depths x
    means_deep x (inl r) =
        inl (nests_deep (Leads of_macros) (Leads of_functions) count macro_depths ms x
        (nests_at (Edge macros) (Edge functions) (x < count) (suc MOST_CALLS) x (first_below count macros between_macros x) (first_below count functions between_functions x) r (omega arith))
        (nests_alike (Edge macros) (Leads of_macros) (Edge functions) (Leads of_functions) m.of_edges f.of_edges (suc MOST_CALLS) x r))
    means_deep x (inr r) =
        inr (nests_deep (Leads of_functions) (Leads of_macros) count function_depths fs x
        (nests_at (Edge functions) (Edge macros) (x < count) (suc MOST_CALLS) x (first_below count functions between_functions x) (first_below count macros between_macros x) r (omega arith))
        (nests_alike (Edge functions) (Leads of_functions) (Edge macros) (Leads of_macros) f.of_edges m.of_edges (suc MOST_CALLS) x r))

    pub first_too_deep : (found : Option ℕ) → IsFirst (IsDeep macro_depths function_depths) found → IsFirst (NestsTooDeep macros functions) found
    first_too_deep found = first_alike (IsDeep macro_depths function_depths) (NestsTooDeep macros functions) deep_means means_deep found
