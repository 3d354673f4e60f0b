-- Sharing is that content of one place went into both stores.
use Rattle.std.proofs.Common.{◌≡◌, ◌↔◌, ◌⊎◌, ℕ, ◌+◌, ◌-◌, ◌<◌, ◌≤◌, Bool, true, false, List, [], ◌∷◌, ◌++◌, length, take, replicate, Some, refl, sym, ap, subst, ◌∙◌, inl, inr, arith}
use Rattle.std.specs.Prelude.{IsTrue, slice_get}
use Rattle.std.specs.List.{Contains}
use Rattle.std.proofs.Math.Seq.{take-length}
use Rattle.std.proofs.lemmas.Option.{slice_get_within, same_Some}
use Rattle.tsl_value.specs.declared.scalar.ValueType.{ValueType}
use Rattle.flat_core.specs.declared.equation.Equation.{Equation}
use Rattle.flat_core.specs.declared.equation.Op.{Op}
use Rattle.flat_core.specs.declared.equation.Op.TheVariants as op
use Rattle.flat_core.specs.Complete.{IsFlat}
use Rattle.translation_order.specs.Graph.{Walk, stay, onward}
use Rattle.flat_core.specs.inner.Marks.{has_mark}
use Rattle.flat_core.specs.Members.{is_in}
use Rattle.flat_core.specs.System.{System}
use Rattle.tsl_value.specs.Aggregate.{is_aggregate}
use Rattle.flat_core.specs.Typed.{IsTyped, last, update}
use Rattle.flat_core.specs.Updates.{update_in}
use Rattle.flat_core.proofs.UpdateOps.{no_update}
use Rattle.flat_core.specs.TypedSystem.{AreOfTypes}
use Rattle.flat_core.proofs.MarkLemmas.{mark_within}
use Rattle.flat_core.proofs.Members.{Contains-in, in-Contains}
use Rattle.translation_order.proofs.PathLemmas.{walk_on, walk_keeps}
use Rattle.alias_rules.specs.Uses.{first_of, last_of, IsLast, IsStored}
use Rattle.alias_rules.specs.Roots.{begins_content, Carries, IsOrigin, ComesFromLast}
use Rattle.alias_rules.specs.Sharing.{Shares, itself, turned, common_root, last_roots, last_root}
use Rattle.alias_rules.proofs.Sharing.{both_stored}
use Rattle.tsl_value.proofs.Lists.{none_in_nil, cons_cases}
use Rattle.translation_order.specs.Order.{Before, AreOfSteps}
use Rattle.alias_paths.specs.inner.Search.{AreReached, AreMarkedIn}
use Rattle.alias_paths.specs.inner.Pairs.{ArePairs, Adds, IsWanted, IsGiven, IsKeyBelow, AreTurned}
use Rattle.alias_paths.specs.inner.Marking.{AreJust, AddsMarks, IsChosen, IsMarkedBy}
use Rattle.alias_paths.specs.inner.Kept.{AreStoredMarks}
use Rattle.alias_paths.specs.inner.Flows.{store_of, Flows, carried, kept, taken, IsSource, IsStoreOf, HasStoreAt, SharesWithOne, GoesThroughStore, into, out_of, IsMarkedPair}
use Rattle.alias_paths.proofs.Adding.{adds_as, adds_then, adds_pushed, keyed_next, keyed_all, pairs_of, of_steps_from, marks_none, marks_as, first_added}
use Rattle.alias_paths.proofs.Rooting.{carrier_low, walk_as, walk_back, just_as}
use Rattle.alias_paths.proofs.Using.{taken_low, taker_low}

-- ---- a last value of an aggregate is an aggregate at which content begins

of_last : (o : Op) (args : List ℕ) (x : ℕ) → Contains (last_of o args) x → (o ≡ op.Last) × Contains (first_of args) x
of_last op.Last args x c = (refl, c)
of_last o args x c = absurd (none_in_nil x c)

first_is : (args : List ℕ) (x : ℕ) → Contains (first_of args) x → (rest : List ℕ) × (args ≡ x ∷ rest)
first_is [] x c = absurd (none_in_nil x c)
first_is (a ∷ args) x c = elim (cons_cases a x [] c) [ inl same ↦ (args, ap (λ z. z ∷ args) same) | inr none ↦ absurd (none_in_nil x none) ]

of_last_type : {o : Op} {types : List ValueType} {of : ValueType} → IsTyped o types of → o ≡ op.Last → (equations : List Equation) (v : ℕ) (rest : List ℕ) → AreOfTypes equations (v ∷ rest) types → (e : Equation) → slice_get equations v ≡ Some e → IsTrue (is_aggregate e.of) → IsTrue (is_aggregate of)
of_last_type (last {t} {u}) is equations v rest args e found aggregate =
    let same : e ≡ args.0.at = same_Some e args.0.at (sym found ∙ args.0.is) in
    ap is_aggregate (sym args.0.of_is) ∙ ap (λ (d : Equation). is_aggregate d.of) (sym same) ∙ aggregate
of_last_type (update h row) is equations v rest args e found aggregate = no_update (sym (ap update_in is) ∙ h)
of_last_type h is equations v rest args e found aggregate = cc

module _ (s : System) (flat : IsFlat s) (set : List ℕ) where
  pub last_origin : (v r : ℕ) → IsLast s v r → IsOrigin s set r
  last_origin v r l =
      let is_last = of_last l.at.op l.at.args v l.argument in
      let args_are = first_is l.at.args v is_last.1 in
      let typed = flat.complete.typed.each r l.at l.is in
      let arguments = subst (λ args. AreOfTypes s.equations args typed.types) args_are.1 typed.arguments in
      record {
        variable = record { at = l.at; is = l.is; running = l.running; aggregate = of_last_type typed.typed is_last.0 s.equations v args_are.0 arguments l.variable.at l.variable.is l.variable.aggregate };
        at = l.at;
        is = l.is;
        begins = ap (λ o. begins_content o (is_in set r)) is_last.0;
      }

  -- ---- content that comes from one place is shared

  -- what t shares with, where content is at a node
  record Keeps (t node : ℕ) : Type 0 where
    pub in_store : (v : ℕ) → node ≡ store_of s v → Shares s set t v
    pub goes_on : node < length s.equations → (w : ℕ) → IsStored s w → Walk (Carries s set) node w → Shares s set t w

  keeps_on : (t a b : ℕ) → Flows s set a b → Keeps t a → Keeps t b
  keeps_on t a b (carried c) k = let low = carrier_low s set a b c in record {
    in_store = λ v is. absurd (let high = low.1 in omega arith);
    goes_on = λ lt w st walk. k.goes_on low.0 w st (onward c walk);
  }
  keeps_on t a b (kept r l is) k = record {
    in_store = λ v same. let e : a ≡ v = omega arith in subst (Shares s set t) e (k.goes_on (taken_low s last_of a r l) a (record { last = r; taken = l }) stay);
    goes_on = λ lt w st walk. absurd (omega arith);
  }
  keeps_on t a b (taken v l is) k = record {
    in_store = λ w same. absurd (let low = taker_low s last_of v b l in omega arith);
    goes_on = λ lt w st walk. turned (last_root st (record { root = b; is_root = record { origin = last_origin v b l; leads = walk }; last = l }) (turned (k.in_store v is)));
  }

  keeps_along : (t a b : ℕ) → Walk (Flows s set) a b → Keeps t a → Keeps t b
  keeps_along t a b walk k = walk_keeps (Keeps t) (keeps_on t) walk k

  in_own_store : (t u : ℕ) → Shares s set t u → Keeps t (store_of s u)
  in_own_store t u h = record {
    in_store = λ v is. let e : u ≡ v = omega arith in subst (Shares s set t) e h;
    goes_on = λ lt w st walk. absurd (omega arith);
  }

  origin_low : (r : ℕ) → IsOrigin s set r → r < length s.equations
  origin_low r o = slice_get_within s.equations r o.at o.is

  at_origin : (t r : ℕ) → IsOrigin s set r → ((w : ℕ) → IsStored s w → Walk (Carries s set) r w → Shares s set t w) → Keeps t r
  at_origin t r o each = record {
    in_store = λ v is. absurd (let low = origin_low r o in omega arith);
    goes_on = λ lt. each;
  }

  -- a store from which content comes into the store of a stored variable is that of one
  store_stored : (z b u w : ℕ) → z ≡ store_of s u → b ≡ store_of s w → IsStored s w → Walk (Flows s set) z b → IsStored s u
  store_stored z b u w is to st stay = let e : w ≡ u = omega arith in subst (IsStored s) e st
  store_stored z b u w is to st (onward (carried c) walk) = absurd (let low = (carrier_low s set z _ c).0 in omega arith)
  store_stored z b u w is to st (onward (kept r l same) walk) = absurd (let low = taken_low s last_of z r l in omega arith)
  store_stored z b u w is to st (onward {b = m} (taken v l same) walk) = let e : v ≡ u = omega arith in subst (IsStored s) e (record { last = m; taken = l })

  from_store : (z u v w : ℕ) → z ≡ store_of s u → IsStored s w → Walk (Flows s set) z (store_of s v) → Walk (Flows s set) z (store_of s w) → Shares s set v w
  from_store z u v w is st to_v to_w =
      let own = itself (store_stored z (store_of s w) u w is refl st to_w) in
      let begin = subst (Keeps u) (sym is) (in_own_store u u own) in
      let other = (keeps_along u z (store_of s w) to_w begin).in_store w refl in
      let again = subst (Keeps w) (sym is) (in_own_store w u (turned other)) in
      turned ((keeps_along w z (store_of s v) to_v again).in_store v refl)

  from_origin : (z v w : ℕ) → IsOrigin s set z → Walk (Flows s set) z (store_of s v) → Walk (Flows s set) z (store_of s w) → Shares s set v w
  from_origin z v w o to_v to_w =
      let first = λ (t : ℕ) (st : IsStored s t) (way : Walk (Carries s set) z t).
      (keeps_along t z (store_of s w) to_w (at_origin t z o (λ x sx walk. common_root z st sx (record { origin = o; leads = way }) (record { origin = o; leads = walk })))).in_store w refl in
      turned ((keeps_along w z (store_of s v) to_v (at_origin w z o (λ x sx walk. turned (first x sx walk)))).in_store v refl)

  pub came_share : (z v w : ℕ) → IsOrigin s set z ⊎ (length s.equations ≤ z) → IsStored s w → Walk (Flows s set) z (store_of s v) → Walk (Flows s set) z (store_of s w) → Shares s set v w
  came_share z v w begins st to_v to_w = elim begins [
    | inl o ↦ from_origin z v w o to_v to_w
    | inr high ↦ from_store z (z - length s.equations) v w (omega arith) st to_v to_w
  ]

  -- ---- what is shared came from one place

  pub record CameFromOne (v w : ℕ) : Type 0 where
    pub source : ℕ
    pub begins : IsOrigin s set source ⊎ (length s.equations ≤ source)
    pub first : Walk (Flows s set) source (store_of s v)
    pub second : Walk (Flows s set) source (store_of s w)

  joined : {a b c : ℕ} → Walk (Flows s set) a b → Walk (Flows s set) b c → Walk (Flows s set) a c
  joined stay more = more
  joined (onward e w) more = onward e (joined w more)

  flows_on : {a b : ℕ} → Walk (Carries s set) a b → Walk (Flows s set) a b
  flows_on w = walk_as (Carries s set) (Flows s set) (λ x y c. carried c) w

  into_store : (v : ℕ) {a : ℕ} → IsStored s v → Walk (Flows s set) a v → Walk (Flows s set) a (store_of s v)
  into_store v st w = walk_on w (kept st.last st.taken refl)

  further : (v u : ℕ) {a : ℕ} → IsStored s v → ComesFromLast s set v u → Walk (Flows s set) a (store_of s u) → Walk (Flows s set) a (store_of s v)
  further v u st c w = into_store v st (joined (walk_on w (taken u c.last refl)) (flows_on c.is_root.leads))

  pub shared_came : (v w : ℕ) → Shares s set v w → CameFromOne v w
  shared_came v w (itself st) = record { source = store_of s v; begins = inr (omega arith); first = stay; second = stay }
  shared_came v w (turned h) = let came = shared_came w v h in record { source = came.source; begins = came.begins; first = came.second; second = came.first }
  shared_came v w (common_root r sv sw p q) = record { source = r; begins = inl p.origin; first = into_store v sv (flows_on p.leads); second = into_store w sw (flows_on q.leads) }
  shared_came v w (last_roots {u} {x} sv sw c d h) = let came = shared_came u x h in record { source = came.source; begins = came.begins; first = further v u sv c came.first; second = further w x sw d came.second }
  shared_came v w (last_root {u} sv c h) = let came = shared_came u w h in record { source = came.source; begins = came.begins; first = further v u sv c came.first; second = came.second }

-- ---- marks of stores

abbrev pub MarksStore : ℕ → ℕ → ℕ → Type 0
MarksStore count number x = IsChosen true (count + number) x

pub stores_all : (marks : List Bool) (listed : List ℕ) (k count : ℕ) (old new : List Bool) → k ≡ length listed → AreMarkedIn marks listed → count ≡ length marks → old ≡ replicate (count + count) false → AddsMarks old (IsMarkedBy (take k listed) (MarksStore count)) new → AreJust (length marks + length marks) (IsStoreOf marks) new
stores_all marks listed k count old new all are size none h =
    let whole : take k listed ≡ listed = ap (λ m. take m listed) all ∙ take-length listed in
    first_added (length marks + length marks) (IsStoreOf marks) old new (none ∙ ap (λ m. replicate (m + m) false) size)
    (marks_as old (IsMarkedBy (take k listed) (MarksStore count)) (IsStoreOf marks) new h
    (λ x m. record {
      variable = m.item;
      marked = sym (are m.item) ∙ in-Contains listed m.item (subst (λ zs. Contains zs m.item) whole m.among);
      is = m.marks.is ∙ ap (λ z. z + m.item) size;
    })
    (λ x st. record {
      item = st.variable;
      among = subst (λ zs. Contains zs st.variable) (sym whole) (Contains-in listed st.variable (are st.variable ∙ st.marked));
      marks = record { is_wanted = refl; is = st.is ∙ ap (λ z. z + st.variable) (sym size) };
    }))

pub no_store : (count number : ℕ) (old : List Bool) → number < count → AddsMarks old (HasStoreAt count number) old
no_store count number old low = marks_none old (HasStoreAt count number) (λ v is. absurd (omega arith))

pub one_store : (count number v : ℕ) (old new : List Bool) → count ≤ number → v ≡ number - count → AddsMarks old (IsChosen true v) new → AddsMarks old (HasStoreAt count number) new
one_store count number v old new high is h =
    marks_as old (IsChosen true v) (HasStoreAt count number) new h
    (λ x c. let same = c.is in omega arith)
    (λ x same. record { is_wanted = refl; is = omega arith })

pub with_stores_all : (marks : List Bool) (listed : List ℕ) (k count : ℕ) (old new : List Bool) → k ≡ length listed → AreMarkedIn marks listed → old ≡ replicate count false → AddsMarks old (IsMarkedBy (take k listed) (HasStoreAt count)) new → AreJust count (λ v. IsTrue (has_mark marks (count + v))) new
with_stores_all marks listed k count old new all are none h =
    let whole : take k listed ≡ listed = ap (λ m. take m listed) all ∙ take-length listed in
    first_added count (λ v. IsTrue (has_mark marks (count + v))) old new none
    (marks_as old (IsMarkedBy (take k listed) (HasStoreAt count)) (λ v. IsTrue (has_mark marks (count + v))) new h
    (λ v m. subst (λ z. IsTrue (has_mark marks z)) m.marks (sym (are m.item) ∙ in-Contains listed m.item (subst (λ zs. Contains zs m.item) whole m.among)))
    (λ v t. record {
      item = count + v;
      among = subst (λ zs. Contains zs (count + v)) (sym whole) (Contains-in listed (count + v) (are (count + v) ∙ t));
      marks = refl;
    }))

pub both_halves : (m n : ℕ) → m ≡ n → m + m ≡ n + n
both_halves m n same = ap (λ k. k + k) same

module _ (s : System) (flat : IsFlat s) (set : List ℕ) (pairs back : List (ℕ × ℕ)) (are : ArePairs (Flows s set) pairs) (around : AreTurned pairs back) (stored stores before sources after : List Bool) (size : length stored ≡ length s.equations) (are_stored : AreStoredMarks s stored) (stores_just : AreJust (length stored + length stored) (IsStoreOf stored) stores) (reached : AreReached (Before back) stores before) (found : (x : ℕ) → IsTrue (has_mark sources x) ↔ IsSource s set before x) (ends : AreReached (Before pairs) sources after) where
  abbrev n : ℕ
  n = length s.equations

  forward : (a b : ℕ) → Before back a b → Flows s set b a
  forward a b c = (are.each b a).0 ((around.each a b).0 c)

  backward : (a b : ℕ) → Flows s set a b → Before back b a
  backward a b c = (around.each b a).1 ((are.each a b).1 c)

  shares_from : (v : ℕ) → IsTrue (has_mark after (n + v)) → SharesWithOne s set stored v
  shares_from v h =
      let end = (ends.each (n + v)).0 h in
      let z = end.start in
      let source = (found z).0 end.is_start in
      let way = (reached.each z).0 source.marked in
      let begun = (stores_just.each way.start).0 way.is_start in
      let u = begun.variable in
      let store : way.start ≡ n + u = begun.is ∙ ap (λ m. m + u) size in
      let to_v = walk_as (Before pairs) (Flows s set) (λ a b c. (are.each a b).0 c) end.walk in
      let to_u : Walk (Flows s set) z (store_of s u) = subst (Walk (Flows s set) z) store (walk_back (Before back) (Flows s set) forward way.walk) in
      record { one = u; marked = begun.marked; shares = came_share s flat set z v u source.begins (are_stored u begun.marked) to_v to_u }

  from_shares : (v : ℕ) → SharesWithOne s set stored v → IsTrue (has_mark after (n + v))
  from_shares v h =
      let came = shared_came s flat set v h.one h.shares in
      let start : IsTrue (has_mark stores (n + h.one)) = (stores_just.each (n + h.one)).1 (record { variable = h.one; marked = h.marked; is = ap (λ m. m + h.one) (sym size) }) in
      let seen = (reached.each came.source).1 (record { start = n + h.one; is_start = start; walk = walk_back (Flows s set) (Before back) backward came.second }) in
      let source = (found came.source).1 (record { marked = seen; begins = came.begins }) in
      (ends.each (n + v)).1 (record { start = came.source; is_start = source; walk = walk_as (Flows s set) (Before pairs) (λ a b c. (are.each a b).1 c) came.first })

  pub sharers_are : (result : List Bool) → AreJust n (λ v. IsTrue (has_mark after (n + v))) result → AreJust n (SharesWithOne s set stored) result
  sharers_are result h = just_as n (λ v. IsTrue (has_mark after (n + v))) (SharesWithOne s set stored) result h shares_from from_shares

-- ---- the edges through variables and stores

pub flows_are : (s : System) (set : List ℕ) (carriers lasts mid new : List (ℕ × ℕ)) (count : ℕ) → count ≡ length s.equations → ArePairs (Carries s set) carriers → ArePairs (IsLast s) lasts → mid ≡ carriers → Adds mid (GoesThroughStore lasts count) new → ArePairs (Flows s set) new
flows_are s set carriers lasts mid new count all are last_are is h = record { each = λ a b. (λ c. to a b (h.from a b c), from a b) }
  where
    to : (a b : ℕ) → Before mid a b ⊎ GoesThroughStore lasts count a b → Flows s set a b
    to a b (inl before) = carried ((are.each a b).0 (subst (λ l. Before l a b) is before))
    to a b (inr (into r c same)) = kept r ((last_are.each a r).0 c) (same ∙ ap (λ m. m + a) all)
    to a b (inr (out_of v c same)) = taken v ((last_are.each v b).0 c) (same ∙ ap (λ m. m + v) all)

    from : (a b : ℕ) → Flows s set a b → Before new a b
    from a b (carried c) = h.kept a b (subst (λ l. Before l a b) (sym is) ((are.each a b).1 c))
    from a b (kept r l same) = h.there a b (into r ((last_are.each a r).1 l) (same ∙ ap (λ m. m + a) (sym all)))
    from a b (taken v l same) = h.there a b (out_of v ((last_are.each v b).1 l) (same ∙ ap (λ m. m + v) (sym all)))

flow_low : (s : System) (set : List ℕ) (a b : ℕ) → Flows s set a b → (a < length s.equations + length s.equations) × (b < length s.equations + length s.equations)
flow_low s set a b (carried c) = let low = carrier_low s set a b c in (let x = low.0 in omega arith, let y = low.1 in omega arith)
flow_low s set a b (kept r l is) = let low = taken_low s last_of a r l in (omega arith, omega arith)
flow_low s set a b (taken v l is) = let low = taken_low s last_of v b l in let high = taker_low s last_of v b l in (omega arith, omega arith)

pub flows_of_steps : (s : System) (set : List ℕ) (pairs : List (ℕ × ℕ)) → ArePairs (Flows s set) pairs → AreOfSteps (length s.equations + length s.equations) pairs
flows_of_steps s set pairs are = of_steps_from (length s.equations + length s.equations) pairs (λ a b c. flow_low s set a b ((are.each a b).0 c))

-- ---- one more last value

abbrev pub GivesStore : ℕ → ℕ × ℕ → ℕ → ℕ → Type 0
GivesStore count p a b = ((a ≡ p.0) × (b ≡ count + p.0)) ⊎ ((a ≡ count + p.0) × (b ≡ p.1))

pub store_pushed : (count : ℕ) (p : ℕ × ℕ) (old mid new : List (ℕ × ℕ)) → mid ≡ old ++ (p.0, count + p.0) ∷ [] → new ≡ mid ++ (count + p.0, p.1) ∷ [] → Adds old (GivesStore count p) new
store_pushed count p old mid new first second =
    adds_then old mid new (IsWanted true p.0 (count + p.0)) (IsWanted true (count + p.0) p.1) (GivesStore count p)
    (adds_pushed old mid p.0 (count + p.0) first) (adds_pushed mid new (count + p.0) p.1 second)
    (λ a b w. inl (w.first, w.second)) (λ a b w. inr (w.first, w.second))
    (λ a b g. elim g [
      | inl e ↦ inl (record { is_wanted = refl; first = e.0; second = e.1 })
      | inr e ↦ inr (record { is_wanted = refl; first = e.0; second = e.1 })
    ])

pub gone_through : (lasts : List (ℕ × ℕ)) (count k : ℕ) (old new : List (ℕ × ℕ)) → k ≡ length lasts → Adds old (IsGiven (take k lasts) (GivesStore count)) new → Adds old (GoesThroughStore lasts count) new
gone_through lasts count k old new all h =
    let same : take k lasts ≡ lasts = ap (λ m. take m lasts) all ∙ take-length lasts in
    adds_as old (IsGiven (take k lasts) (GivesStore count)) (GoesThroughStore lasts count) new h
    (λ a b g.
    let p = g.item in
    let among = subst (λ zs. Contains zs p) same g.among in
    elim g.gives [
      | inl e ↦ into p.1 (subst (λ z. Before lasts z p.1) (sym e.0) among) (e.1 ∙ ap (λ z. count + z) (sym e.0))
      | inr e ↦ out_of p.0 (subst (λ z. Before lasts p.0 z) (sym e.1) among) e.0
    ])
    (λ a b g. from a b g same)
  where
    from : (a b : ℕ) → GoesThroughStore lasts count a b → take k lasts ≡ lasts → IsGiven (take k lasts) (GivesStore count) a b
    from a b (into r c is) same = record { item = (a, r); among = subst (λ zs. Contains zs (a, r)) (sym same) c; gives = inl (refl, is) }
    from a b (out_of v c is) same = record { item = (v, b); among = subst (λ zs. Contains zs (v, b)) (sym same) c; gives = inr (is, refl) }

-- ---- stored variables, and the pairs that share

abbrev pub MarksVariable : ℕ × ℕ → ℕ → Type 0
MarksVariable p x = IsChosen true p.0 x

pub stored_are : (s : System) (lasts : List (ℕ × ℕ)) (k count : ℕ) (old new : List Bool) → k ≡ length lasts → count ≡ length s.equations → ArePairs (IsLast s) lasts → old ≡ replicate count false → AddsMarks old (IsMarkedBy (take k lasts) MarksVariable) new → AreJust (length s.equations) (IsStored s) new
stored_are s lasts k count old new all size are none h =
    let whole : take k lasts ≡ lasts = ap (λ m. take m lasts) all ∙ take-length lasts in
    first_added (length s.equations) (IsStored s) old new (none ∙ ap (λ m. replicate m false) size)
    (marks_as old (IsMarkedBy (take k lasts) MarksVariable) (IsStored s) new h
    (λ x m.
    let p = m.item in
    record { last = p.1; taken = (are.each x p.1).0 (subst (λ zs. Contains zs (x, p.1)) whole (subst (λ z. Contains (take k lasts) (z, p.1)) (sym m.marks.is) m.among)) })
    (λ x st. record {
      item = (x, st.last);
      among = subst (λ zs. Contains zs (x, st.last)) (sym whole) ((are.each x st.last).1 st.taken);
      marks = record { is_wanted = refl; is = refl };
    }))

pub one_stored : (s : System) (n number : ℕ) (wanted : Bool) (stored one : List Bool) → wanted ≡ has_mark stored number → AreJust (length s.equations) (IsStored s) stored → AreJust n (IsChosen wanted number) one → AreStoredMarks s one
one_stored s n number wanted stored one is are just x m =
    let chosen = (just.each x).0 m in
    (are.each x).0 (ap (has_mark stored) chosen.is ∙ sym is ∙ chosen.is_wanted)

pub sharers_of_one : (s : System) (set : List ℕ) (n number : ℕ) (wanted : Bool) (stored one marks : List Bool) → wanted ≡ has_mark stored number → AreJust (length s.equations) (IsStored s) stored → AreJust n (IsChosen wanted number) one → AreJust (length s.equations) (SharesWithOne s set one) marks → AreJust (length s.equations) (Shares s set number) marks
sharers_of_one s set n number wanted stored one marks is are just h =
    just_as (length s.equations) (SharesWithOne s set one) (Shares s set number) marks h
    (λ v m. turned (subst (Shares s set v) ((just.each m.one).0 m.marked).is m.shares))
    (λ v shares. record {
      one = number;
      marked = (just.each number).1 (record { is_wanted = is ∙ (are.each number).1 (both_stored s set number v shares).first; is = refl });
      shares = turned shares;
    })

pub shared_next : (s : System) (set : List ℕ) (k n : ℕ) (marks : List Bool) (old mid new : List (ℕ × ℕ)) → AreJust n (Shares s set k) marks → Adds old (IsKeyBelow (λ a b. a) k (Shares s set)) mid → Adds mid (IsMarkedPair k marks) new → Adds old (IsKeyBelow (λ a b. a) (k + 1) (Shares s set)) new
shared_next s set k n marks old mid new just first second =
    keyed_next (λ a b. a) (Shares s set) (IsMarkedPair k marks) k old mid new first second
    (λ a b m. (m.first, subst (λ z. Shares s set z b) (sym m.first) ((just.each b).0 m.marked)))
    (λ a b is shares. record { first = is; marked = (just.each b).1 (subst (λ z. Shares s set z b) is shares) })

pub shared_all : (s : System) (set : List ℕ) (k : ℕ) (pairs : List (ℕ × ℕ)) → length s.equations ≤ k → Adds [] (IsKeyBelow (λ a b. a) k (Shares s set)) pairs → ArePairs (Shares s set) pairs
shared_all s set k pairs all h =
    pairs_of (Shares s set) pairs (keyed_all (λ a b. a) (Shares s set) k [] pairs (λ a b shares. let st = (both_stored s set a b shares).first in let low = taken_low s last_of a st.last st.taken in omega arith) h)

-- a number with each marked one
pub marked_pairs_next : (number : ℕ) (marks : List Bool) (k j : ℕ) (wanted : Bool) (old mid new : List (ℕ × ℕ)) → j ≡ k → wanted ≡ has_mark marks k → Adds old (IsKeyBelow (λ a b. b) k (IsMarkedPair number marks)) mid → Adds mid (IsWanted wanted number j) new → Adds old (IsKeyBelow (λ a b. b) (k + 1) (IsMarkedPair number marks)) new
marked_pairs_next number marks k j wanted old mid new same is first second =
    keyed_next (λ a b. b) (IsMarkedPair number marks) (IsWanted wanted number j) k old mid new first second
    (λ a b w. (w.second ∙ same, record { first = w.first; marked = ap (has_mark marks) (w.second ∙ same) ∙ sym is ∙ w.is_wanted }))
    (λ a b e m. record { is_wanted = is ∙ ap (has_mark marks) (sym e) ∙ m.marked; first = m.first; second = e ∙ sym same })

pub marked_pairs_all : (number : ℕ) (marks : List Bool) (k : ℕ) (old new : List (ℕ × ℕ)) → length marks ≤ k → Adds old (IsKeyBelow (λ a b. b) k (IsMarkedPair number marks)) new → Adds old (IsMarkedPair number marks) new
marked_pairs_all number marks k old new all h =
    keyed_all (λ a b. b) (IsMarkedPair number marks) k old new (λ a b m. let low = mark_within marks b m.marked in omega arith) h
