-- Turns of a search.
use Rattle.std.proofs.Common.{◌≡◌, ◌≢◌, ℕ, ◌+◌, ◌/◌, ◌<◌, ◌≤◌, ◌⊎◌, Bool, true, false, List, [], ◌∷◌, ◌++◌, length, get_or, take, take_all, Contains, Some, sym, ap, subst, ◌∙◌, inl, inr, arith}
use Rattle.std.specs.Prelude.{◌↔◌, IsTrue, IsFalse, slice_get}
use Rattle.std.proofs.lemmas.Bool.{cases_lt, cases_eq, cases_Bool, both_ways, false_from_ne_true, false≢true}
use Rattle.std.proofs.lemmas.Option.{slice_get_within}
use Rattle.std.proofs.lemmas.List.{get_or_default, take_more}
use Rattle.std.proofs.lemmas.List.Elements.{All-contains, Contains-append_left, Contains-append_right, Contains-append_cases, Contains-push, Contains-push_cases, Contains-get_or}
use Rattle.gate_circuits.specs.declared.circuit.Gate.{Gate}
use Rattle.gate_circuits.specs.declared.circuit.Gate.TheVariants as gate
use Rattle.gate_circuits.specs.Circuit.{IsOrdered, IsOn, leaf, all, any, Implies}
use Rattle.gate_circuits.specs.inner.Marks.{has, AreKeptIn, IsLastBefore}
use Rattle.gate_circuits.specs.inner.Knowledge.{AreAllOn, AreImplied, Follow, IsModel, IsRefuted}
use Rattle.gate_circuits.specs.inner.Search.{AreHeld, AreSummands, AreDivided, IsAnyOn, IsHeld, IsDecided, IsPartly, IsSearched, IsSum}
use Rattle.gate_circuits.proofs.Gates.{on_by, on_within, wanted_on, least_on}

-- ---- wanted gates that are held
module _ (gates : List Gate) (set : List ℕ) (x : ℕ) where
  pub held_leaf : slice_get gates x ≡ Some gate.Leaf → IsHeld gates set x
  held_leaf is leaves before own = leaf is (own is)

  pub held_all : IsOrdered gates → (inputs : List ℕ) → slice_get gates x ≡ Some (gate.All inputs) → ((i : ℕ) → Contains inputs i → IsTrue (has set i)) → IsHeld gates set x
  held_all ordered inputs is there leaves before own =
      all is (λ i c. before i (All-contains (λ n. n < x) inputs i (ordered x (gate.All inputs) is) c) (there i c))

  pub held_any : IsOrdered gates → (inputs : List ℕ) → slice_get gates x ≡ Some (gate.Any inputs) → (i : ℕ) → Contains inputs i → IsTrue (has set i) → IsHeld gates set x
  held_any ordered inputs is i c there leaves before own =
      any is c (before i (All-contains (λ n. n < x) inputs i (ordered x (gate.Any inputs) is) c) there)

  pub held_by : (y : ℕ) → y < x → IsTrue (has set y) → Implies gates y x → IsHeld gates set x
  held_by y low there implies leaves before own = implies leaves (before y low there)

pub held_more : (gates : List Gate) (old new : List ℕ) → ((x : ℕ) → IsTrue (has old x) → IsTrue (has new x)) → (x : ℕ) → IsHeld gates old x → IsHeld gates new x
held_more gates old new kept x held leaves before own = held leaves (λ y low h. before y low (kept y h)) own

-- the inputs of a gate are in a circuit
pub input_room : (gates : List Gate) (x : ℕ) (it : Gate) → slice_get gates x ≡ Some it → (i : ℕ) → i < x → i / 64 < length gates / 64 + 1
input_room gates x it is i low =
    let within = slice_get_within gates x it is in
    omega arith

-- ---- more is wanted in the same assignments
module _ (gates : List Gate) (old new : List ℕ) where
  pub forced_all : (x : ℕ) (inputs : List ℕ) → slice_get gates x ≡ Some (gate.All inputs) → IsTrue (has old x) → ((y : ℕ) → IsTrue (has new y) → IsTrue (has old y) ⊎ Contains inputs y) → Follow gates old new
  forced_all x inputs is there from leaves on y h = elim (from y h) [
    | inl was ↦ on y was
    | inr c ↦ on_by gates leaves x (gate.All inputs) is (on x there) y c
  ]

  pub forced_one : (known : List ℕ) (i : ℕ) → Follow gates old known → IsTrue (has old i) ⊎ IsTrue (has known i) → ((y : ℕ) → y ≢ i → has new y ≡ has old y) → Follow gates old new
  forced_one known i follow either others leaves on y h = elim (cases_eq y i) [
    | inl same ↦ subst (λ n. IsOn gates leaves n) (sym same) (elim either [
      | inl was ↦ on i was
      | inr is ↦ follow leaves on i is
    ])
    | inr ne ↦ on y (sym (others y ne) ∙ h)
  ]

-- one more is in a set
pub one_kept : (old new : List ℕ) (i : ℕ) → IsTrue (has new i) → ((y : ℕ) → y ≢ i → has new y ≡ has old y) → (x : ℕ) → IsTrue (has old x) → IsTrue (has new x)
one_kept old new i here others x h = elim (cases_eq x i) [
  | inl same ↦ subst (λ n. IsTrue (has new n)) (sym same) here
  | inr ne ↦ others x ne ∙ h
]

pub one_from : (old new : List ℕ) (i : ℕ) → ((y : ℕ) → y ≢ i → has new y ≡ has old y) → (x : ℕ) → IsTrue (has new x) → IsTrue (has old x) ⊎ (x ≡ i)
one_from old new i others x h = elim (cases_eq x i) [
  | inl same ↦ inr same
  | inr ne ↦ inl (sym (others x ne) ∙ h)
]

-- ---- one gate after the other
module _ (gates : List Gate) (old new : List ℕ) (end x : ℕ) (last : IsLastBefore old end x) (held : AreHeld gates old end) (kept : (y : ℕ) → IsTrue (has old y) → IsTrue (has new y)) where
  -- the gates after the last one before a place are held as those from the place on
  module _ (from : (y : ℕ) → IsTrue (has new y) → IsTrue (has old y) ⊎ (y < x)) where
    pub held_after : AreHeld gates new (x + 1)
    held_after y above h = elim (from y h) [
      | inl was ↦ elim (cases_lt y end) [
        | inl low ↦ absurd (both_ways (has old y) (last.last y (omega arith) low) was)
        | inr high ↦ held_more gates old new kept y (held y high was)
      ]
      | inr low ↦ absurd (omega arith)
    ]

    pub held_same : AreHeld gates new end
    held_same y above h = elim (from y h) [
      | inl was ↦ held_more gates old new kept y (held y above was)
      | inr low ↦ absurd (let less = last.before in omega arith)
    ]

    pub last_same : IsLastBefore new end x
    last_same = record {
      before = last.before;
      there = kept x last.there;
      last = λ y above low. false_from_ne_true (has new y) (λ h. elim (from y h) [
        | inl was ↦ both_ways (has old y) (last.last y above low) was
        | inr less ↦ omega arith
      ]);
    }

    pub held_from : IsHeld gates new x → AreHeld gates new x
    held_from here y above h = elim (cases_eq y x) [
      | inl same ↦ subst (λ n. IsHeld gates new n) (sym same) here
      | inr ne ↦ held_after y (omega arith) h
    ]

-- ---- what is left over after a turn
module _ (gates : List Gate) (wanted known old : List ℕ) (follow : Follow gates wanted known) where
  -- each wanted gate is held
  pub searched_model : AreHeld gates wanted 0 → (model new : List ℕ) → IsModel gates (has wanted) model → AreKeptIn old model known new → IsSearched gates wanted old new true
  searched_model held model new exact keep = record {
    kept = keep.kept;
    rest = λ ended leaves on b h. elim (keep.from b h) [
      | inl in_model ↦ least_on gates wanted leaves on b ((exact b).0 in_model)
      | inr in_known ↦ follow leaves on b in_known
    ];
    refuted = λ a b w was is. record {
      leaves = has wanted;
      on = wanted_on gates wanted held a w;
      off = λ o. both_ways (has model b) (keep.gone b was is) ((exact b).1 o);
    };
  }

-- no assignment has all wanted gates
pub searched_never : (gates : List Gate) (wanted old : List ℕ) → ((leaves : ℕ → Bool) → AreAllOn gates leaves wanted → ⊥) → IsSearched gates wanted old old true
searched_never gates wanted old never = record {
  kept = λ b h. h;
  rest = λ ended leaves on b h. absurd (never leaves on);
  refuted = λ a b w was is. absurd (both_ways (has old b) is was);
}

-- a turn that is given up at once
pub searched_not : (gates : List Gate) (wanted old : List ℕ) → IsSearched gates wanted old old false
searched_not gates wanted old = record {
  kept = λ b h. h;
  rest = λ ended. absurd (false≢true ended);
  refuted = λ a b w was is. absurd (both_ways (has old b) is was);
}

-- a turn with less wanted
pub searched_less : (gates : List Gate) (less wanted old new : List ℕ) (done : Bool) → ((x : ℕ) → IsTrue (has less x) → IsTrue (has wanted x)) → Follow gates less wanted → IsSearched gates wanted old new done → IsSearched gates less old new done
searched_less gates less wanted old new done kept forced is = record {
  kept = is.kept;
  rest = λ ended leaves on b h. is.rest ended leaves (forced leaves on) b h;
  refuted = λ a b w was gone. is.refuted a b (kept a w) was gone;
}

-- ---- one turn for each summand
module _ (gates : List Gate) (wanted list old : List ℕ) where
  -- whether a number is still left over after one more turn
  pub partly_more : (left next new : List ℕ) (n y : ℕ) (done : Bool) → done ≡ true → IsPartly gates wanted list old left n → y ≡ get_or list n 0 → ((x : ℕ) → IsTrue (has wanted x) → IsTrue (has next x)) → ((x : ℕ) → IsTrue (has next x) → IsTrue (has wanted x) ⊎ (x ≡ y)) → IsSearched gates next left new done → IsPartly gates wanted list old new (n + 1)
  partly_more left next new n y done ended part is kept from turn = record {
    kept = λ b h. part.kept b (turn.kept b h);
    done = λ b h k low leaves on o. elim (cases_eq k n) [
      | inl same ↦ turn.rest ended leaves (λ x w. elim (from x w) [
        | inl was ↦ on x was
        | inr at ↦ subst (λ m. IsOn gates leaves m) (ap (λ j. get_or list j 0) same ∙ sym is ∙ sym at) o
      ]) b h
      | inr ne ↦ part.done b (turn.kept b h) k (omega arith) leaves on o
    ];
    refuted = λ a b w was gone. elim (cases_Bool (has left b)) [
      | inl here ↦ turn.refuted a b (kept a w) here gone
      | inr off ↦ part.refuted a b w was off
    ];
  }

  -- a turn that gives up, after some that did not
  pub partly_not : (left next new : List ℕ) (n : ℕ) (done : Bool) → IsPartly gates wanted list old left n → ((x : ℕ) → IsTrue (has wanted x) → IsTrue (has next x)) → IsSearched gates next left new done → IsSearched gates wanted old new false
  partly_not left next new n done part kept turn = record {
    kept = λ b h. part.kept b (turn.kept b h);
    rest = λ ended. absurd (false≢true ended);
    refuted = λ a b w was gone. elim (cases_Bool (has left b)) [
      | inl here ↦ turn.refuted a b (kept a w) here gone
      | inr off ↦ part.refuted a b w was off
    ];
  }

  pub partly_all : (left : List ℕ) (n sum : ℕ) → IsPartly gates wanted list old left n → length list ≤ n → IsTrue (has wanted sum) → ((leaves : ℕ → Bool) → IsOn gates leaves sum → IsAnyOn gates leaves list) → IsSearched gates wanted old left true
  partly_all left n sum part every there cover = record {
    kept = part.kept;
    rest = λ ended leaves on b h.
        let some = cover leaves (on sum there) in
        let (k, low, is) = some.1 in
        let at : get_or list k 0 ≡ some.0 = get_or_default list k 0 some.0 low ∙ is in
        part.done b h k (omega arith) leaves on (subst (λ m. IsOn gates leaves m) (sym at) some.2);
    refuted = part.refuted;
  }

-- the same summands in another order
pub reordered : (gates : List Gate) (sum : ℕ) (list new : List ℕ) → AreSummands gates sum list → ((x : ℕ) → Contains new x ↔ Contains list x) → AreSummands gates sum new
reordered gates sum list new are same = record {
  below = λ is y c. are.below is y ((same y).0 c);
  imply = λ y c. are.imply y ((same y).0 c);
  cover = λ leaves on. let some = are.cover leaves on in (some.0, (same some.0).1 some.1, some.2);
}

-- ---- a gate with what it implies
pub decided_is : (gates : List Gate) (a : ℕ) (wanted old left new : List ℕ) (done : Bool) → IsTrue (has wanted a) → ((x : ℕ) → IsTrue (has wanted x) → x ≡ a) → ((b : ℕ) → IsTrue (has old b) → IsFalse (has left b) → IsRefuted gates a b) → IsSearched gates wanted left new done → IsDecided gates a old new done
decided_is gates a wanted old left new done there only before is = record {
  rest = λ ended b h leaves on. is.rest ended leaves (λ x w. subst (λ n. IsOn gates leaves n) (sym (only x w)) on) b h;
  refuted = λ b was gone. elim (cases_Bool (has left b)) [
    | inl here ↦ is.refuted a b there here gone
    | inr off ↦ before b was off
  ];
}

-- ---- sums
module _ (gates : List Gate) (sum : ℕ) (inputs : List ℕ) (is : slice_get gates sum ≡ Some (gate.Any inputs)) where
  -- what an input doesn't imply
  pub sum_refuted : (i : ℕ) → Contains inputs i → (b : ℕ) → IsRefuted gates i b → IsRefuted gates sum b
  sum_refuted i c b nay = record { leaves = nay.leaves; on = any is c nay.on; off = nay.off }

  pub sum_implies : (known : List ℕ) (n : ℕ) → length inputs ≤ n → ((b : ℕ) → IsTrue (has known b) → (k : ℕ) → k < n → Implies gates (get_or inputs k 0) b) → AreImplied gates sum known
  sum_implies known n every each b h leaves on =
      let (i, c, o) = on_by gates leaves sum (gate.Any inputs) is on in
      let (k, low, at) = c in
      let here : get_or inputs k 0 ≡ i = get_or_default inputs k 0 i low ∙ at in
      each b h k (omega arith) leaves (subst (λ m. IsOn gates leaves m) (sym here) o)

-- ---- the summands of a gate, from above down
module _ (gates : List Gate) (sum end x : ℕ) (marked list : List ℕ) (are : AreDivided gates sum end marked list) (last : IsLastBefore marked end x) where
  pub divided_sum : IsOrdered gates → (inputs new : List ℕ) → slice_get gates x ≡ Some (gate.Any inputs) → length new ≡ length marked → ((y : ℕ) → IsTrue (has marked y) → IsTrue (has new y)) → ((y : ℕ) → Contains inputs y → y / 64 < length marked → IsTrue (has new y)) → ((y : ℕ) → IsTrue (has new y) → IsTrue (has marked y) ⊎ Contains inputs y) → AreDivided gates sum x new list
  divided_sum ordered inputs new is room kept there from = record {
    room = room ∙ are.room;
    low = λ y h. elim (from y h) [
      | inl was ↦ are.low y was
      | inr c ↦
          let here = are.low x last.there in
          let less : y < x = All-contains (λ n. n < x) inputs y (ordered x (gate.Any inputs) is) c in
          omega arith
    ];
    marked_imply = λ y h. elim (from y h) [
      | inl was ↦ are.marked_imply y was
      | inr c ↦ λ leaves on. are.marked_imply x last.there leaves (any is c on)
    ];
    below = are.below;
    imply = are.imply;
    cover = λ leaves on. elim (are.cover leaves on) [
      | inl found ↦ inl found
      | inr open_one ↦ inr (next leaves open_one)
    ];
  }
    where
      next : (leaves : ℕ → Bool) → (y : ℕ) × (y < end) × IsTrue (has marked y) × IsOn gates leaves y → (y : ℕ) × (y < x) × IsTrue (has new y) × IsOn gates leaves y
      next leaves (y, low, h, o) = elim (cases_lt y x) [
        | inl less ↦ (y, less, kept y h, o)
        | inr above ↦ elim (cases_eq y x) [
          | inl same ↦
              let (i, c, on) = on_by gates leaves x (gate.Any inputs) is (subst (λ n. IsOn gates leaves n) same o) in
              let less : i < x = All-contains (λ n. n < x) inputs i (ordered x (gate.Any inputs) is) c in
              let room_there : i / 64 < length marked = omega (arith, are.room, slice_get_within gates x (gate.Any inputs) is) in
              (i, less, there i c room_there, on)
          | inr ne ↦ absurd (both_ways (has marked y) (last.last y (omega arith) low) h)
        ]
      ]

  pub divided_other : (IsSum gates x → ⊥) → AreDivided gates sum x marked (list ++ x ∷ [])
  divided_other no_sum = record {
    room = are.room;
    low = are.low;
    marked_imply = are.marked_imply;
    below = λ is y c. elim (Contains-push_cases list x y c) [
      | inl was ↦ are.below is y was
      | inr same ↦
          let here = are.low x last.there in
          let ne : x ≢ sum = λ e. no_sum (subst (λ n. IsSum gates n) (sym e) is) in
          omega arith
    ];
    imply = λ y c. elim (Contains-push_cases list x y c) [
      | inl was ↦ are.imply y was
      | inr same ↦ subst (λ n. Implies gates n sum) same (are.marked_imply x last.there)
    ];
    cover = λ leaves on. elim (are.cover leaves on) [
      | inl found ↦ inl (found.0, Contains-append_left list (x ∷ []) found.0 found.1, found.2)
      | inr open_one ↦ next leaves open_one
    ];
  }
    where
      next : (leaves : ℕ → Bool) → (y : ℕ) × (y < end) × IsTrue (has marked y) × IsOn gates leaves y → IsAnyOn gates leaves (list ++ x ∷ []) ⊎ ((y : ℕ) × (y < x) × IsTrue (has marked y) × IsOn gates leaves y)
      next leaves (y, low, h, o) = elim (cases_lt y x) [
        | inl less ↦ inr (y, less, h, o)
        | inr above ↦ elim (cases_eq y x) [
          | inl same ↦ inl (x, Contains-push list x, subst (λ n. IsOn gates leaves n) same o)
          | inr ne ↦ absurd (both_ways (has marked y) (last.last y (omega arith) low) h)
        ]
      ]

pub divided_start : (gates : List Gate) (sum : ℕ) (none marked : List ℕ) → length marked ≡ length gates / 64 + 1 → ((x : ℕ) → IsFalse (has none x)) → (sum / 64 < length marked → IsTrue (has marked sum)) → ((x : ℕ) → x ≢ sum → has marked x ≡ has none x) → AreDivided gates sum (length gates) marked []
divided_start gates sum none marked room empty here others = record {
  room = room;
  low = λ x h. let same = only x h in omega arith;
  marked_imply = λ x h. subst (λ n. Implies gates n sum) (sym (only x h)) (λ leaves on. on);
  below = λ is y (k, low, at). absurd (omega arith);
  imply = λ y (k, low, at). absurd (omega arith);
  cover = λ leaves on.
      let within = on_within gates leaves sum on in
      let fits : sum / 64 < length marked = omega (arith, room) in
      inr (sum, within, here fits, on);
}
  where
    only : (x : ℕ) → IsTrue (has marked x) → x ≡ sum
    only x h = elim (cases_eq x sum) [
      | inl same ↦ same
      | inr ne ↦ absurd (both_ways (has none x) (empty x) (sym (others x ne) ∙ h))
    ]

pub divided_begin : (gates shown : List Gate) (sum end : ℕ) (none marked list : List ℕ) → shown ≡ gates → end ≡ length shown → length none ≡ length shown / 64 + 1 → length marked ≡ length none → list ≡ [] → ((x : ℕ) → IsFalse (has none x)) → (sum / 64 < length none → IsTrue (has marked sum)) → ((x : ℕ) → x ≢ sum → has marked x ≡ has none x) → AreDivided gates sum end marked list
divided_begin gates shown sum end none marked list value end_is room same list_is empty here others =
    subst (λ (l : List ℕ). AreDivided gates sum end marked l) (sym list_is)
    (subst (λ (n : ℕ). AreDivided gates sum n marked []) (sym (end_is ∙ ap length value))
    (divided_start gates sum none marked (same ∙ room ∙ ap (λ (g : List Gate). length g / 64 + 1) value) empty (λ low. here (subst (λ (n : ℕ). sum / 64 < n) same low)) others))

-- the one of two lists to which a gate is appended
module _ (first others : List ℕ) (gate : ℕ) where
  abbrev pub IsParted : List ℕ → List ℕ → Type 0
  IsParted front back = (x : ℕ) → (Contains front x ⊎ Contains back x) ↔ ((Contains first x ⊎ Contains others x) ⊎ (gate ≡ x))

-- one more of a list is parted
pub parted_more : (list first others front back : List ℕ) (n : ℕ) → n < length list → ((x : ℕ) → (Contains first x ⊎ Contains others x) ↔ Contains (take n list) x) → IsParted first others (get_or list n 0) front back → (x : ℕ) → (Contains front x ⊎ Contains back x) ↔ Contains (take (n + 1) list) x
parted_more list first others front back n low before next x = (
  λ c. subst (λ (l : List ℕ). Contains l x) (sym (take_more list n 0 low)) (elim ((next x).0 c) [
    | inl was ↦ Contains-append_left (take n list) (get_or list n 0 ∷ []) x ((before x).0 was)
    | inr same ↦ subst (λ m. Contains (take n list ++ get_or list n 0 ∷ []) m) same (Contains-push (take n list) (get_or list n 0))
  ]),
  λ c. (next x).1 (elim (Contains-push_cases (take n list) (get_or list n 0) x (subst (λ (l : List ℕ). Contains l x) (take_more list n 0 low) c)) [
    | inl was ↦ inl ((before x).1 was)
    | inr same ↦ inr same
  ]),
)

pub parted_all : (list first others : List ℕ) (n : ℕ) → length list ≤ n → ((x : ℕ) → (Contains first x ⊎ Contains others x) ↔ Contains (take n list) x) → (x : ℕ) → Contains (first ++ others) x ↔ Contains list x
parted_all list first others n every parted x =
    let whole : take n list ≡ list = take_all n list every in (
      λ c. subst (λ (l : List ℕ). Contains l x) whole ((parted x).0 (Contains-append_cases first others x c)),
      λ c. elim ((parted x).1 (subst (λ (l : List ℕ). Contains l x) (sym whole) c)) [
        | inl front ↦ Contains-append_left first others x front
        | inr back ↦ Contains-append_right first others x back
      ],
    )

-- the summand of a turn
pub turn_item : (list given new shown : List ℕ) (n : ℕ) → given ≡ list → ((x : ℕ) → Contains new x ↔ Contains given x) → shown ≡ new → n < length shown → Contains list (get_or shown n 0)
turn_item list given new shown n value same shows low =
    subst (λ (l : List ℕ). Contains l (get_or shown n 0)) value
    ((same (get_or shown n 0)).0 (subst (λ (l : List ℕ). Contains l (get_or shown n 0)) shows (Contains-get_or shown n 0 low)))
