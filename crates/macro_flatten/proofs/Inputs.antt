-- The equations of inputs, and their streams.
use Rattle.std.proofs.Common.{◌≡◌, ℕ, zero, suc, ◌+◌, ◌-◌, ◌<◌, ◌≤◌, true, false, List, [], ◌∷◌, ◌++◌, map, length, get_or, drop, Option, Some, None, Contains, refl, ap, sym, subst, ◌∙◌, append_assoc, arith, length-append}
use Rattle.std.specs.Prelude.{slice_get}
use Rattle.std.specs.Option.{option_map}
use Rattle.std.proofs.lemmas.Bool.{true≢false}
use Rattle.std.proofs.lemmas.List.{append-nil, drop_all}
use Rattle.std.proofs.lemmas.Option.{none-some, same_Some}
use Rattle.tsl_value.specs.declared.place.Place.{Place}
use Rattle.tsl_value.specs.declared.scalar.ValueType.{ValueType}
use Rattle.flat_core.specs.System.{System}
use Rattle.flat_core.proofs.Members.{contains_head, contains_tail}
use Rattle.syntax_tree.specs.Tree as tree
use Rattle.syntax_tree.specs.inner.OneLevel.{item_of}
use Rattle.syntax_tree.specs.declared.tree.Item.{Item}
use Rattle.type_rules.specs.declared.rule.ExprType.TheVariants as expr_type
use Rattle.type_rules.specs.Written.{as_stream, bad_as_stream}
use Rattle.form_check.specs.Types.{bad_in_item, bad_types}
use Rattle.type_rules.specs.Kinds.{Kinds}
use Rattle.stream_constructs.specs.declared.construct.Stream.{Stream}
use Rattle.stream_constructs.specs.declared.maker.MakeFault.{MakeFault}
use Rattle.stream_constructs.specs.Limits.{IsRefusal}
use Rattle.stream_constructs.specs.Made.{input_equation, stream_of, with_equations}
use Rattle.stream_constructs.proofs.Refusals.{IsRefusal_longer}
use Rattle.tsl_value.proofs.Lists.{left_at}
use Rattle.spec_meaning.specs.Flat.{MakesInputs, event_type}
use Rattle.spec_meaning.specs.Flat as flat
use Rattle.checked_spec.specs.inner.Formed.{is_input}
use Rattle.checked_spec.proofs.ListLemmas.{flat_empty}
use Rattle.checked_spec.proofs.WrittenLemmas.{Has, value_there}
use Rattle.equation_marks.specs.Marks.{input_marks, mark_of}
use Rattle.macro_flatten.specs.inner.Items.{Follows, HasEventType, HaveEventTypes, input_streams}
use Rattle.spec_meaning.specs.Inputs.{declared_inputs, type_or_unit}
use Rattle.macro_flatten.proofs.Lists.{with_both}

-- ---- one item, and those after it
pub equations_split : (item : tree.Item) (rest : List tree.Item) → declared_inputs (item ∷ rest) ≡ declared_inputs (item ∷ []) ++ declared_inputs rest
equations_split (tree.Input p q x y) rest = refl
equations_split (tree.Defined p d) rest = refl
equations_split (tree.Output p q x) rest = refl
equations_split (tree.OutputAs p e q x) rest = refl

pub streams_split : (n : ℕ) (item : tree.Item) (rest : List tree.Item) → input_streams n (item ∷ rest) ≡ input_streams n (item ∷ []) ++ input_streams (n + length (declared_inputs (item ∷ []))) rest
streams_split n (tree.Input p q x y) rest = let next : suc n ≡ n + 1 = omega arith in ap (λ m. Some (record { id = n; of = type_or_unit (event_type y) }) ∷ input_streams m rest) next
streams_split n (tree.Defined p d) rest = let same : n ≡ n + 0 = omega arith in ap (λ m. None ∷ input_streams m rest) same
streams_split n (tree.Output p q x) rest = let same : n ≡ n + 0 = omega arith in ap (λ m. None ∷ input_streams m rest) same
streams_split n (tree.OutputAs p e q x) rest = let same : n ≡ n + 0 = omega arith in ap (λ m. None ∷ input_streams m rest) same

-- ---- what is made so far, with what is left, is the whole
pub record AreLeft (whole : List tree.Item) (old now : System) (streams : List (Option Stream)) (left : List tree.Item) : Type 0 where
  pub made : with_equations now (declared_inputs left) ≡ with_equations old (declared_inputs whole)
  pub table : streams ++ input_streams (length now.equations) left ≡ input_streams (length old.equations) whole

-- all is left
pub left_all : (whole : List tree.Item) (now : System) (streams : List (Option Stream)) → streams ≡ [] → AreLeft whole now now streams whole
left_all whole now streams none = record { made = refl; table = ap (λ ss. ss ++ input_streams (length now.equations) whole) none }

-- an input more
pub left_turn : (whole : List tree.Item) (old now next : System) (streams more : List (Option Stream)) (s : Option Stream) (items : List Item) (k : ℕ) (item : Item) → AreLeft whole old now streams (map item_of (drop k items)) → k < length items → item ≡ get_or items k item → s ∷ [] ≡ input_streams (length now.equations) (item_of item ∷ []) → next ≡ with_equations now (declared_inputs (item_of item ∷ [])) → more ≡ streams ++ s ∷ [] → AreLeft whole old next more (map item_of (drop (k + 1) items))
left_turn whole old now next streams more s items k item left lt is table made pushed =
    let rest = map item_of (drop (k + 1) items) in
    let here : map item_of (drop k items) ≡ item_of item ∷ rest = ap (map item_of) (left_at items k item lt is) in
    let own = declared_inputs (item_of item ∷ []) in
    let count : length next.equations ≡ length now.equations + length own = ap (λ (t : System). length t.equations) made ∙ length-append now.equations own in
    record {
      made =
          ap (λ t. with_equations t (declared_inputs rest)) made
          ∙ with_both now own (declared_inputs rest)
          ∙ ap (with_equations now) (sym (equations_split (item_of item) rest) ∙ sym (ap declared_inputs here))
          ∙ left.made;
      table =
          ap (λ ss. ss ++ input_streams (length next.equations) rest) pushed
          ∙ append_assoc streams (s ∷ []) (input_streams (length next.equations) rest)
          ∙ ap (λ ss. streams ++ ss) ((λ i. table i ++ input_streams (count i) rest) ∙ sym (streams_split (length now.equations) (item_of item) rest) ∙ sym (ap (input_streams (length now.equations)) here))
          ∙ left.table;
    }

-- an input that is refused
pub left_refused : (whole : List tree.Item) (old now : System) (streams : List (Option Stream)) (items : List Item) (k : ℕ) (item : Item) (f : MakeFault) → AreLeft whole old now streams (map item_of (drop k items)) → k < length items → item ≡ get_or items k item → IsRefusal (now.equations ++ declared_inputs (item_of item ∷ [])) f → IsRefusal (old.equations ++ declared_inputs whole) f
left_refused whole old now streams items k item f left lt is refused =
    let rest = map item_of (drop (k + 1) items) in
    let own = declared_inputs (item_of item ∷ []) in
    let here : map item_of (drop k items) ≡ item_of item ∷ rest = ap (map item_of) (left_at items k item lt is) in
    let all : (now.equations ++ own) ++ declared_inputs rest ≡ old.equations ++ declared_inputs whole =
    append_assoc now.equations own (declared_inputs rest)
    ∙ ap (λ es. now.equations ++ es) (sym (equations_split (item_of item) rest) ∙ sym (ap declared_inputs here))
    ∙ ap (λ (t : System). t.equations) left.made in
    subst (λ es. IsRefusal es f) all (IsRefusal_longer (now.equations ++ own) (declared_inputs rest) f refused)

-- nothing is left
pub left_none : (whole : List tree.Item) (old now : System) (streams : List (Option Stream)) (items : List Item) (k : ℕ) → AreLeft whole old now streams (map item_of (drop k items)) → length items ≤ k → (now ≡ with_equations old (declared_inputs whole)) × (streams ≡ input_streams (length old.equations) whole)
left_none whole old now streams items k h past =
    let none : map item_of (drop k items) ≡ [] = ap (map item_of) (drop_all k items past) in (
      ap (λ es. record now { equations = es }) (sym (append-nil now.equations)) ∙ ap (λ l. with_equations now (declared_inputs l)) (sym none) ∙ h.made,
      sym (append-nil streams) ∙ ap (λ l. streams ++ input_streams (length now.equations) l) (sym none) ∙ h.table,
    )

-- ---- one item where the code makes it
module _ (item : tree.Item) (p q : Place) (x : List ℕ) (y : tree.TypeName) (is : item ≡ tree.Input p q x y) (of : Option ValueType) (of_is : of ≡ event_type y) where
  -- it has a type
  pub has_type : HasEventType item → of ≡ None → ⊥
  has_type has none =
      let there : HasEventType (tree.Input p q x y) = subst HasEventType is has in
      none-some there.0 (sym none ∙ of_is ∙ there.1)

  module _ (z : List ℕ) (t : ValueType) (some : of ≡ Some t) (copied : z ≡ x) where
    same_type : t ≡ type_or_unit (event_type y)
    same_type = ap type_or_unit (sym some ∙ of_is)

    own_equations : input_equation q z t ∷ [] ≡ declared_inputs (item ∷ [])
    own_equations = (λ k. input_equation q (copied k) (same_type k) ∷ []) ∙ ap (λ it. declared_inputs (it ∷ [])) (sym is)

    pub input_made_is : (old new : System) → new ≡ with_equations old (input_equation q z t ∷ []) → new ≡ with_equations old (declared_inputs (item ∷ []))
    input_made_is old new made = made ∙ ap (with_equations old) own_equations

    pub input_refused_is : (old : System) (f : MakeFault) → IsRefusal (old.equations ++ input_equation q z t ∷ []) f → IsRefusal (old.equations ++ declared_inputs (item ∷ [])) f
    input_refused_is old f h = subst (λ es. IsRefusal (old.equations ++ es) f) own_equations h

    pub input_stream_is : (old : System) (s : Stream) → s ≡ stream_of old (input_equation q z t ∷ []) t → Some s ∷ [] ≡ input_streams (length old.equations) (item ∷ [])
    input_stream_is old s h =
        let number : length old.equations + 1 - 1 ≡ length old.equations = omega arith in
        ap (λ r. Some r ∷ []) (h ∙ (λ k. record { id = number k; of = same_type k }))
        ∙ ap (λ it. input_streams (length old.equations) (it ∷ [])) (sym is)

-- another item has no stream, and makes nothing
pub other_stream : (item : tree.Item) (n : ℕ) → is_input (Some item) ≡ false → None ∷ [] ≡ input_streams n (item ∷ [])
other_stream (tree.Input p q x y) n other = absurd (true≢false other)
other_stream (tree.Defined p d) n other = refl
other_stream (tree.Output p q x) n other = refl
other_stream (tree.OutputAs p e q x) n other = refl

pub other_makes : (item : tree.Item) (old : System) → is_input (Some item) ≡ false → old ≡ with_equations old (declared_inputs (item ∷ []))
other_makes item old other = ap (λ es. record old { equations = es }) (sym (append-nil old.equations)) ∙ ap (with_equations old) (none item other)
  where
    none : (item : tree.Item) → is_input (Some item) ≡ false → [] ≡ declared_inputs (item ∷ [])
    none (tree.Input p q x y) h = absurd (true≢false h)
    none (tree.Defined p d) h = refl
    none (tree.Output p q x) h = refl
    none (tree.OutputAs p e q x) h = refl

-- ---- what they are
-- their marks
pub declared_inputs_marks : (all : List tree.Item) (kinds : Kinds) (items : List tree.Item) → map mark_of (declared_inputs items) ≡ input_marks all kinds items
declared_inputs_marks all kinds [] = refl
declared_inputs_marks all kinds (tree.Input p q x y ∷ items) = ap (λ ms. record { place = q; is_update = false } ∷ ms) (declared_inputs_marks all kinds items)
declared_inputs_marks all kinds (tree.Defined p d ∷ items) = declared_inputs_marks all kinds items
declared_inputs_marks all kinds (tree.Output p q x ∷ items) = declared_inputs_marks all kinds items
declared_inputs_marks all kinds (tree.OutputAs p e q x ∷ items) = declared_inputs_marks all kinds items

-- an input in a table of streams
pub record IsInputAt (n : ℕ) (items : List tree.Item) (k : ℕ) : Type 0 where
  pub place : Place
  pub at : Place
  pub name : List ℕ
  pub written : tree.TypeName
  pub item_is : slice_get items k ≡ Some (tree.Input place at name written)
  pub stream : Stream
  pub stream_is : slice_get (input_streams n items) k ≡ Some (Some stream)
  pub of_is : stream.of ≡ type_or_unit (event_type written)

-- the same after another item
after_item : (n m : ℕ) (item : tree.Item) (s : Option Stream) (items : List tree.Item) (k : ℕ) → input_streams n (item ∷ items) ≡ s ∷ input_streams m items → IsInputAt m items k → IsInputAt n (item ∷ items) (suc k)
after_item n m item s items k split h = record {
  place = h.place;
  at = h.at;
  name = h.name;
  written = h.written;
  item_is = h.item_is;
  stream = h.stream;
  stream_is = ap (λ l. slice_get l (suc k)) split ∙ h.stream_is;
  of_is = h.of_is;
}

pub input_at : (n : ℕ) (items : List tree.Item) (k : ℕ) → is_input (slice_get items k) ≡ true → IsInputAt n items k
input_at n [] k is = absurd (true≢false (sym is))
input_at n (tree.Input p q x y ∷ items) zero is = record { place = p; at = q; name = x; written = y; item_is = refl; stream = record { id = n; of = type_or_unit (event_type y) }; stream_is = refl; of_is = refl }
input_at n (tree.Defined p d ∷ items) zero is = absurd (true≢false (sym is))
input_at n (tree.Output p q x ∷ items) zero is = absurd (true≢false (sym is))
input_at n (tree.OutputAs p e q x ∷ items) zero is = absurd (true≢false (sym is))
input_at n (tree.Input p q x y ∷ items) (suc k) is = after_item n (suc n) (tree.Input p q x y) (Some (record { id = n; of = type_or_unit (event_type y) })) items k refl (input_at (suc n) items k is)
input_at n (tree.Defined p d ∷ items) (suc k) is = after_item n n (tree.Defined p d) None items k refl (input_at n items k is)
input_at n (tree.Output p q x ∷ items) (suc k) is = after_item n n (tree.Output p q x) None items k refl (input_at n items k is)
input_at n (tree.OutputAs p e q x ∷ items) (suc k) is = after_item n n (tree.OutputAs p e q x) None items k refl (input_at n items k is)

-- no other item has one
no_such : (s : Stream) → ◌≡◌ {A = Option (Option Stream)} (Some None) (Some (Some s)) → ⊥
no_such s is = none-some s (same_Some None (Some s) is)

pub input_here : (n : ℕ) (items : List tree.Item) (k : ℕ) (s : Stream) → slice_get (input_streams n items) k ≡ Some (Some s) → is_input (slice_get items k) ≡ true
input_here n [] k s at = absurd (none-some (Some s) at)
input_here n (tree.Input p q x y ∷ items) zero s at = refl
input_here n (tree.Input p q x y ∷ items) (suc k) s at = input_here (suc n) items k s at
input_here n (tree.Defined p d ∷ items) zero s at = absurd (no_such s at)
input_here n (tree.Defined p d ∷ items) (suc k) s at = input_here n items k s at
input_here n (tree.Output p q x ∷ items) zero s at = absurd (no_such s at)
input_here n (tree.Output p q x ∷ items) (suc k) s at = input_here n items k s at
input_here n (tree.OutputAs p e q x ∷ items) zero s at = absurd (no_such s at)
input_here n (tree.OutputAs p e q x ∷ items) (suc k) s at = input_here n items k s at

pub table_length : (n : ℕ) (items : List tree.Item) → length (input_streams n items) ≡ length items
table_length n [] = refl
table_length n (tree.Input p q x y ∷ items) = ap suc (table_length (suc n) items)
table_length n (tree.Defined p d ∷ items) = ap suc (table_length n items)
table_length n (tree.Output p q x ∷ items) = ap suc (table_length n items)
table_length n (tree.OutputAs p e q x ∷ items) = ap suc (table_length n items)

-- ---- they are what is asked for
module _ (all : List tree.Item) (kinds : Kinds) (top : ℕ → Stream) where
  follows_after : (i : ℕ) (s : Option Stream) (streams : List (Option Stream)) → Follows top i (s ∷ streams) → Follows top (suc i) streams
  follows_after i s streams h = record { each = λ k t is. let e : suc i + k ≡ i + suc k = omega arith in ap top e ∙ h.each (suc k) t is }

  pub inputs_made : (i n : ℕ) (items : List tree.Item) → ((item : tree.Item) → Contains items item → HasEventType item) → Follows top i (input_streams n items) → MakesInputs all kinds top i items n (declared_inputs items)
  inputs_made i n [] types follows = flat.MakesInputs.end
  inputs_made i n (tree.Input p q x y ∷ items) types follows =
      let typed = types (tree.Input p q x y) (contains_head (tree.Input p q x y) items) in
      let of_is : type_or_unit (event_type y) ≡ typed.0 = ap type_or_unit typed.1 in
      let e : i ≡ i + 0 = omega arith in
      let first : top i ≡ record { id = n; of = type_or_unit (event_type y) } = ap top e ∙ follows.each 0 (record { id = n; of = type_or_unit (event_type y) }) refl in
      flat.MakesInputs.input typed.0 (declared_inputs items) typed.1 (first ∙ (λ k. record { id = n; of = of_is k }))
      (inputs_made (suc i) (suc n) items (λ item c. types item (contains_tail (tree.Input p q x y) items item c)) (follows_after i (Some (record { id = n; of = type_or_unit (event_type y) })) (input_streams (suc n) items) follows))
      (ap (λ t. input_equation q x t ∷ declared_inputs items) of_is)
  inputs_made i n (tree.Defined p d ∷ items) types follows = flat.MakesInputs.defined (inputs_made (suc i) n items (λ item c. types item (contains_tail (tree.Defined p d) items item c)) (follows_after i None (input_streams n items) follows))
  inputs_made i n (tree.Output p q x ∷ items) types follows = flat.MakesInputs.output (inputs_made (suc i) n items (λ item c. types item (contains_tail (tree.Output p q x) items item c)) (follows_after i None (input_streams n items) follows))
  inputs_made i n (tree.OutputAs p e q x ∷ items) types follows = flat.MakesInputs.output_as (inputs_made (suc i) n items (λ item c. types item (contains_tail (tree.OutputAs p e q x) items item c)) (follows_after i None (input_streams n items) follows))

-- ---- their types
event_there : (y : tree.TypeName) → bad_as_stream y ≡ [] → Has (event_type y)
event_there (tree.EventsType p y) good = value_there y good
event_there (tree.UnitType p) good = value_there (tree.UnitType p) good
event_there (tree.IntType p) good = value_there (tree.IntType p) good
event_there (tree.BoolType p) good = value_there (tree.BoolType p) good
event_there (tree.TextType p) good = value_there (tree.TextType p) good
event_there (tree.AggregateType p a) good = value_there (tree.AggregateType p a) good
event_there (tree.OptionType p y) good = value_there (tree.OptionType p y) good

pub have_event_types : (items : List tree.Item) → bad_types items ≡ [] → HaveEventTypes items
have_event_types items good = record { each = λ item c. each item (flat_empty bad_in_item items good item c) }
  where
    each : (item : tree.Item) → bad_in_item item ≡ [] → HasEventType item
    each (tree.Input p q x y) h = let has = event_there y h in (has.it, has.is)
    each (tree.Defined p d) h = tt
    each (tree.Output p q x) h = tt
    each (tree.OutputAs p e q x) h = tt

-- what is written is a stream of such events
pub event_stream : (y : tree.TypeName) → as_stream y ≡ option_map expr_type.Stream (event_type y)
event_stream (tree.EventsType p y) = refl
event_stream (tree.UnitType p) = refl
event_stream (tree.IntType p) = refl
event_stream (tree.BoolType p) = refl
event_stream (tree.TextType p) = refl
event_stream (tree.AggregateType p a) = refl
event_stream (tree.OptionType p y) = refl
