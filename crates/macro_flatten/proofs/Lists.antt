-- Items one after the other: their marks, and what they make.
use Rattle.std.proofs.Common.{◌≡◌, ℕ, suc, ◌+◌, ◌<◌, List, [], ◌∷◌, ◌++◌, map, length, get_or, take, drop, false, Some, Result, Ok, Err, refl, ap, sym, subst, ◌∙◌, append_assoc, arith, length-append}
use Rattle.std.specs.Prelude.{IfErr}
use Rattle.std.proofs.lemmas.List.{length-map, length-take-le, map-append, take-append-drop, take_more}
use Rattle.std.proofs.lemmas.Bool.{true≢false}
use Rattle.flat_core.specs.declared.equation.Equation.{Equation}
use Rattle.flat_core.specs.declared.equation.Output.{Output}
use Rattle.flat_core.specs.System.{System}
use Rattle.syntax_tree.specs.Tree as tree
use Rattle.syntax_tree.specs.inner.OneLevel.{item_of}
use Rattle.syntax_tree.specs.declared.tree.Item.{Item}
use Rattle.type_rules.specs.Kinds.{Kinds}
use Rattle.expr_types.specs.Bodies.{in_definition}
use Rattle.stream_constructs.specs.declared.construct.Stream.{Stream}
use Rattle.stream_constructs.specs.declared.maker.MakeFault.{MakeFault}
use Rattle.stream_constructs.specs.declared.maker.MakeFault.TheVariants as fault
use Rattle.stream_constructs.specs.Limits.{IsRefusal}
use Rattle.stream_constructs.specs.Made.{with_equations}
use Rattle.tsl_value.proofs.Lists.{left_at}
use Rattle.spec_meaning.specs.Occurrence.{result_of}
use Rattle.spec_meaning.specs.Flat.{MakesOutputs, MakesStreams, named}
use Rattle.spec_meaning.specs.Flat as flat
use Rattle.flat_meaning.proofs.Plain.{named_length}
use Rattle.checked_spec.specs.inner.Formed.{is_stream}
use Rattle.equation_marks.specs.Marks.{Mark, body_marks, macro_marks, output_marks, printed_marks, stream_marks}
use Rattle.equation_marks.specs.Refused.{AreRefused}
use Rattle.macro_flatten.specs.inner.Answers.{IsRefusedAfter}
use Rattle.definition_cycles.specs.declared.limits.TheConstants.{MOST_CALLS}

-- ---- equations that are added in two steps
pub with_both : (s : System) (xs ys : List Equation) → with_equations (with_equations s xs) ys ≡ with_equations s (xs ++ ys)
with_both s xs ys = ap (λ es. record s { equations = es }) (append_assoc s.equations xs ys)

-- ---- the item of a turn
pub items_more : (xs : List Item) (k : ℕ) (x : Item) → k < length xs → x ≡ get_or xs k x → map item_of (take (k + 1) xs) ≡ map item_of (take k xs) ++ item_of x ∷ []
items_more xs k x lt is =
    ap (map item_of) (take_more xs k x lt ∙ ap (λ y. take k xs ++ y ∷ []) (sym is)) ∙ map-append item_of (take k xs) (x ∷ [])

-- what comes before it, it, and what comes after it
pub items_split : (xs : List Item) (k : ℕ) (x : Item) → k < length xs → x ≡ get_or xs k x → map item_of xs ≡ map item_of (take k xs) ++ (item_of x ∷ map item_of (drop (k + 1) xs))
items_split xs k x lt is =
    ap (map item_of) (sym (take-append-drop k xs) ∙ ap (λ ys. take k xs ++ ys) (left_at xs k x lt is)) ∙ map-append item_of (take k xs) (x ∷ drop (k + 1) xs)

-- how many come before it
pub items_before : (xs : List Item) (k : ℕ) → k < length xs → length (map item_of (take k xs)) ≡ k
items_before xs k lt = length-map (take k xs) item_of ∙ length-take-le k xs (omega arith)

-- ---- what is returned where something is refused
pub refusal_at : {T : Type 0} (r : Result T MakeFault) (y f : MakeFault) (es : List Equation) → r ≡ Err y → y ≡ f → IsRefusal es f → IfErr r (IsRefusal es)
refusal_at (Ok x) y f es is same h = tt
refusal_at (Err g) y f es is same h = let found : f ≡ g = cc in subst (IsRefusal es) found h

pub after_at : {T : Type 0} (r : Result T MakeFault) (y f : MakeFault) (old : System) (ms : List Mark) → r ≡ Err y → y ≡ f → IsRefusedAfter old ms f → IfErr r (IsRefusedAfter old ms)
after_at (Ok x) y f old ms is same h = tt
after_at (Err g) y f old ms is same h = let found : f ≡ g = cc in subst (IsRefusedAfter old ms) found h

pub refused_at : {T : Type 0} (r : Result T MakeFault) (y f : MakeFault) (ms : List Mark) → r ≡ Err y → y ≡ f → AreRefused ms f → IfErr r (AreRefused ms)
refused_at (Ok x) y f ms is same h = tt
refused_at (Err g) y f ms is same h = let found : f ≡ g = cc in subst (AreRefused ms) found h

-- out of memory says nothing of equations
pub memory_after : {T : Type 0} (r : Result T MakeFault) (old : System) (ms : List Mark) → IfErr r (λ f. f ≡ fault.Memory) → IfErr r (IsRefusedAfter old ms)
memory_after (Ok x) old ms h = tt
memory_after (Err f) old ms h = subst (IsRefusedAfter old ms) (sym h) tt

-- ---- marks
module _ (items : List tree.Item) (kinds : Kinds) where
  next_index : (i : ℕ) (xs : List tree.Item) → suc i + length xs ≡ i + suc (length xs)
  next_index i xs = omega arith

  -- after an item that makes nothing
  streams_after : (i : ℕ) (xs ys : List tree.Item) → stream_marks items kinds (suc i) (xs ++ ys) ≡ stream_marks items kinds (suc i) xs ++ stream_marks items kinds (suc i + length xs) ys → stream_marks items kinds (suc i) (xs ++ ys) ≡ stream_marks items kinds (suc i) xs ++ stream_marks items kinds (i + suc (length xs)) ys
  streams_after i xs ys h = h ∙ ap (λ j. stream_marks items kinds (suc i) xs ++ stream_marks items kinds j ys) (next_index i xs)

  outputs_after : (i : ℕ) (xs ys : List tree.Item) → output_marks items kinds (suc i) (xs ++ ys) ≡ output_marks items kinds (suc i) xs ++ output_marks items kinds (suc i + length xs) ys → output_marks items kinds (suc i) (xs ++ ys) ≡ output_marks items kinds (suc i) xs ++ output_marks items kinds (i + suc (length xs)) ys
  outputs_after i xs ys h = h ∙ ap (λ j. output_marks items kinds (suc i) xs ++ output_marks items kinds j ys) (next_index i xs)

  -- after one that makes something
  after_own : (own front back whole : List Mark) → whole ≡ front ++ back → own ++ whole ≡ own ++ front ++ back
  after_own own front back whole h = ap (λ ms. own ++ ms) h ∙ sym (append_assoc own front back)

  pub stream_marks-append : (i : ℕ) (xs ys : List tree.Item) → stream_marks items kinds i (xs ++ ys) ≡ stream_marks items kinds i xs ++ stream_marks items kinds (i + length xs) ys
  stream_marks-append i [] ys = let e : i ≡ i + 0 = omega arith in ap (λ j. stream_marks items kinds j ys) e
  stream_marks-append i (tree.Defined p (tree.Define q x [] w b) ∷ xs) ys =
      after_own (body_marks (in_definition items kinds i []) (macro_marks items kinds MOST_CALLS) (result_of b)) (stream_marks items kinds (suc i) xs) (stream_marks items kinds (i + suc (length xs)) ys) (stream_marks items kinds (suc i) (xs ++ ys))
      (streams_after i xs ys (stream_marks-append (suc i) xs ys))
  stream_marks-append i (tree.Defined p (tree.Define q x (a ∷ ps) w b) ∷ xs) ys = streams_after i xs ys (stream_marks-append (suc i) xs ys)
  stream_marks-append i (tree.Input p q x y ∷ xs) ys = streams_after i xs ys (stream_marks-append (suc i) xs ys)
  stream_marks-append i (tree.Output p q x ∷ xs) ys = streams_after i xs ys (stream_marks-append (suc i) xs ys)
  stream_marks-append i (tree.OutputAs p e q x ∷ xs) ys = streams_after i xs ys (stream_marks-append (suc i) xs ys)

  pub output_marks-append : (i : ℕ) (xs ys : List tree.Item) → output_marks items kinds i (xs ++ ys) ≡ output_marks items kinds i xs ++ output_marks items kinds (i + length xs) ys
  output_marks-append i [] ys = let e : i ≡ i + 0 = omega arith in ap (λ j. output_marks items kinds j ys) e
  output_marks-append i (tree.Output p q x ∷ xs) ys =
      after_own (printed_marks items kinds i (tree.Name q x)) (output_marks items kinds (suc i) xs) (output_marks items kinds (i + suc (length xs)) ys) (output_marks items kinds (suc i) (xs ++ ys)) (outputs_after i xs ys (output_marks-append (suc i) xs ys))
  output_marks-append i (tree.OutputAs p e q x ∷ xs) ys =
      after_own (printed_marks items kinds i e) (output_marks items kinds (suc i) xs) (output_marks items kinds (i + suc (length xs)) ys) (output_marks items kinds (suc i) (xs ++ ys)) (outputs_after i xs ys (output_marks-append (suc i) xs ys))
  output_marks-append i (tree.Input p q x y ∷ xs) ys = outputs_after i xs ys (output_marks-append (suc i) xs ys)
  output_marks-append i (tree.Defined p d ∷ xs) ys = outputs_after i xs ys (output_marks-append (suc i) xs ys)

  -- after the first k items
  pub stream_marks_after : (xs : List Item) (k : ℕ) (ys : List tree.Item) → k < length xs → stream_marks items kinds 0 (map item_of (take k xs) ++ ys) ≡ stream_marks items kinds 0 (map item_of (take k xs)) ++ stream_marks items kinds k ys
  stream_marks_after xs k ys lt =
      let count = items_before xs k lt in
      let e : 0 + length (map item_of (take k xs)) ≡ k = omega arith in
      stream_marks-append 0 (map item_of (take k xs)) ys ∙ ap (λ j. stream_marks items kinds 0 (map item_of (take k xs)) ++ stream_marks items kinds j ys) e

  pub output_marks_after : (xs : List Item) (k : ℕ) (ys : List tree.Item) → k < length xs → output_marks items kinds 0 (map item_of (take k xs) ++ ys) ≡ output_marks items kinds 0 (map item_of (take k xs)) ++ output_marks items kinds k ys
  output_marks_after xs k ys lt =
      let count = items_before xs k lt in
      let e : 0 + length (map item_of (take k xs)) ≡ k = omega arith in
      output_marks-append 0 (map item_of (take k xs)) ys ∙ ap (λ j. output_marks items kinds 0 (map item_of (take k xs)) ++ output_marks items kinds j ys) e

  -- an item that is no definition without parameters
  pub no_stream_marks : (i : ℕ) (item : tree.Item) → is_stream (Some item) ≡ false → stream_marks items kinds i (item ∷ []) ≡ []
  no_stream_marks i (tree.Input p q x y) h = refl
  no_stream_marks i (tree.Defined p (tree.Define q x [] w b)) h = absurd (true≢false h)
  no_stream_marks i (tree.Defined p (tree.Define q x (a ∷ ps) w b)) h = refl
  no_stream_marks i (tree.Output p q x) h = refl
  no_stream_marks i (tree.OutputAs p e q x) h = refl

-- ---- equations
module _ (items : List tree.Item) (kinds : Kinds) (top : ℕ → Stream) where
  pub streams_moved : (i j n m : ℕ) (ys : List tree.Item) (bs : List Equation) → i ≡ j → n ≡ m → MakesStreams items kinds top i ys n bs → MakesStreams items kinds top j ys m bs
  streams_moved i j n m ys bs e f h =
      subst (λ k. MakesStreams items kinds top k ys m bs) e (subst (λ k. MakesStreams items kinds top i ys k bs) f h)

  pub outputs_moved : (n m : ℕ) (ys : List tree.Item) (bs : List Equation) (os : List Output) → n ≡ m → MakesOutputs items kinds top ys n bs os → MakesOutputs items kinds top ys m bs os
  outputs_moved n m ys bs os e h = subst (λ k. MakesOutputs items kinds top ys k bs os) e h

  -- after an item that makes nothing
  next_streams : (i n : ℕ) (xs ys : List tree.Item) (front bs : List Equation) → MakesStreams items kinds top (i + suc (length xs)) ys (n + length front) bs → MakesStreams items kinds top (suc i + length xs) ys (n + length front) bs
  next_streams i n xs ys front bs h =
      let e : i + suc (length xs) ≡ suc i + length xs = omega arith in
      streams_moved (i + suc (length xs)) (suc i + length xs) (n + length front) (n + length front) ys bs e refl h

  pub streams_join : {i n : ℕ} {xs ys : List tree.Item} {front bs : List Equation} → MakesStreams items kinds top i xs n front → MakesStreams items kinds top (i + length xs) ys (n + length front) bs → MakesStreams items kinds top i (xs ++ ys) n (front ++ bs)
  streams_join {i} {n} {ys = ys} {bs = bs} flat.MakesStreams.end rest =
      let e : i + 0 ≡ i = omega arith in
      let f : n + 0 ≡ n = omega arith in
      streams_moved (i + 0) i (n + 0) n ys bs e f rest
  streams_join {i} {n} {ys = ys} {front = front} {bs = bs} (flat.MakesStreams.stream {x = x} {rest = xs} s first made is kind body more all_is) rest =
      let e : i + suc (length xs) ≡ suc i + length xs = omega arith in
      let f : n + length front ≡ n + length first + length made = omega (arith, ap length all_is, length-append (named x first) made, named_length x first) in
      flat.MakesStreams.stream s first (made ++ bs) is kind body (streams_join more (streams_moved (i + suc (length xs)) (suc i + length xs) (n + length front) (n + length first + length made) ys bs e f rest)) (ap (λ es. es ++ bs) all_is ∙ append_assoc (named x first) made bs)
  streams_join {i} {n} {ys = ys} {front = front} {bs = bs} (flat.MakesStreams.with_parameters {rest = xs} more) rest = flat.MakesStreams.with_parameters (streams_join more (next_streams i n xs ys front bs rest))
  streams_join {i} {n} {ys = ys} {front = front} {bs = bs} (flat.MakesStreams.input {rest = xs} more) rest = flat.MakesStreams.input (streams_join more (next_streams i n xs ys front bs rest))
  streams_join {i} {n} {ys = ys} {front = front} {bs = bs} (flat.MakesStreams.output {rest = xs} more) rest = flat.MakesStreams.output (streams_join more (next_streams i n xs ys front bs rest))
  streams_join {i} {n} {ys = ys} {front = front} {bs = bs} (flat.MakesStreams.output_as {rest = xs} more) rest = flat.MakesStreams.output_as (streams_join more (next_streams i n xs ys front bs rest))

  pub outputs_join : {n : ℕ} {xs ys : List tree.Item} {front bs : List Equation} {os ps : List Output} → MakesOutputs items kinds top xs n front os → MakesOutputs items kinds top ys (n + length front) bs ps → MakesOutputs items kinds top (xs ++ ys) n (front ++ bs) (os ++ ps)
  outputs_join {n} {ys = ys} {bs = bs} {ps = ps} flat.MakesOutputs.end rest = let f : n + 0 ≡ n = omega arith in outputs_moved (n + 0) n ys bs ps f rest
  outputs_join {n} {ys = ys} {front = front} {bs = bs} {ps = ps} (flat.MakesOutputs.output s first made outs one more all_is printed_is) rest =
      let f : n + length front ≡ n + length first + length made = omega (arith, ap length all_is, length-append first made) in
      flat.MakesOutputs.output s first (made ++ bs) (outs ++ ps) one (outputs_join more (outputs_moved (n + length front) (n + length first + length made) ys bs ps f rest)) (ap (λ es. es ++ bs) all_is ∙ append_assoc first made bs) (ap (λ rs. rs ++ ps) printed_is)
  outputs_join {n} {ys = ys} {front = front} {bs = bs} {ps = ps} (flat.MakesOutputs.output_as s first made outs one more all_is printed_is) rest =
      let f : n + length front ≡ n + length first + length made = omega (arith, ap length all_is, length-append first made) in
      flat.MakesOutputs.output_as s first (made ++ bs) (outs ++ ps) one (outputs_join more (outputs_moved (n + length front) (n + length first + length made) ys bs ps f rest)) (ap (λ es. es ++ bs) all_is ∙ append_assoc first made bs) (ap (λ rs. rs ++ ps) printed_is)
  outputs_join (flat.MakesOutputs.input more) rest = flat.MakesOutputs.input (outputs_join more rest)
  outputs_join (flat.MakesOutputs.defined more) rest = flat.MakesOutputs.defined (outputs_join more rest)
