-- The text that is due, by other streams, other lines and another bound.
use Rattle.std.proofs.Common.{◌≡◌, ℕ, ◌<◌, ◌≤◌, Bool, true, false, not, if◌then◌else◌, List, [], ◌∷◌, ◌++◌, take, refl, ◌∙◌, ap, arith}
use Rattle.std.specs.List.{AllByRecursion, filter, flat_map}
use Rattle.std.proofs.lemmas.List.Concat.{flat_map-append}
use Rattle.std.proofs.lemmas.List.Elements.{filter-append}
use Rattle.flat_core.specs.Case.{Streams}
use Rattle.flat_core.specs.inner.BoundLaws.{HappensAlike, OutputsAgree}
use Rattle.flat_core.specs.Fault.{is_over}
use Rattle.flat_core.specs.Instant.{instants}
use Rattle.flat_core.specs.Line.{Line, inputs_of}
use Rattle.flat_core.specs.Stream.{event}
use Rattle.flat_core.specs.System.{System}
use Rattle.flat_core.specs.declared.equation.Output.{Output}
use Rattle.flat_core.specs.Text.{event_line, text_at, due_text}
use Rattle.flat_core.proofs.SmallerBound.{instants_first}
use Rattle.flat_core.proofs.Instants.{instants_below}
use Rattle.tsl_value.proofs.Lists.{take_append, all_take}

-- the same lines at the times that pass the same test
texts_same : (f g : ℕ → List ℕ) (p q : ℕ → Bool) (bound : ℕ) (ts : List ℕ) → ((t : ℕ) → t < bound → p t ≡ q t) → ((t : ℕ) → t < bound → f t ≡ g t)
    → AllByRecursion (λ t. t < bound) ts → flat_map f (filter p ts) ≡ flat_map g (filter q ts)
texts_same f g p q bound [] tests texts all = refl
texts_same f g p q bound (t ∷ ts) tests texts all =
    let rest = texts_same f g p q bound ts tests texts all.1 in
    ap (λ b. flat_map f (if b then t ∷ filter p ts else filter p ts)) (tests t all.0)
    ∙ elim (q t) as (λ b. flat_map f (if b then t ∷ filter p ts else filter p ts) ≡ flat_map g (if b then t ∷ filter q ts else filter q ts)) [
      | true ↦ (λ k. texts t all.0 k ++ rest k)
      | false ↦ rest
    ]

-- the lines of a time, where the outputs agree
lines_same : (t bound : ℕ) (z w : Streams) (outputs : List Output) → t < bound → AllByRecursion (λ o. (u : ℕ) → u < bound → event (z o.equation u) ≡ event (w o.equation u)) outputs
    → flat_map (λ o. event_line t o.name (event (z o.equation t))) outputs ≡ flat_map (λ o. event_line t o.name (event (w o.equation t))) outputs
lines_same t bound z w [] lt agree = refl
lines_same t bound z w (o ∷ outputs) lt agree = let rest = lines_same t bound z w outputs lt agree.1 in λ k. event_line t o.name (agree.0 t lt k) ++ rest k

-- Streams with lines, and others with other lines, that happen alike instants_below a bound have the same text due instants_below it.
pub due_alike : (s : System) (bound limit : ℕ) (ls ms : List Line) (z w : Streams) → HappensAlike s bound ls z ms w → OutputsAgree s bound z w → due_text s ls z bound limit ≡ due_text s ms w bound limit
due_alike s bound limit ls ms z w alike agree =
    let same : instants s ls z bound ≡ instants s ms w bound = alike.instants_same bound (omega arith) in
    texts_same (text_at s z) (text_at s w) (λ t. not (is_over s (inputs_of ls) z t)) (λ t. not (is_over s (inputs_of ms) w t)) bound (take limit (instants s ls z bound))
    (λ t lt. ap not (alike.over_same t lt)) (λ t lt. lines_same t bound z w s.outputs lt agree) (all_take (λ t. t < bound) limit (instants s ls z bound) (instants_below s ls z bound))
    ∙ ap (λ l. flat_map (text_at s w) (filter (λ t. not (is_over s (inputs_of ms) w t)) (take limit l))) same

texts_at : (f g : ℕ → List ℕ) (bound : ℕ) (ts : List ℕ) → ((t : ℕ) → t < bound → f t ≡ g t) → AllByRecursion (λ t. t < bound) ts → flat_map f ts ≡ flat_map g ts
texts_at f g bound [] texts all = refl
texts_at f g bound (t ∷ ts) texts all = let rest = texts_at f g bound ts texts all.1 in λ k. texts t all.0 k ++ rest k

-- and the same text of all instants below it
pub written_alike : (s : System) (bound : ℕ) (ls : List Line) (z w : Streams) → HappensAlike s bound ls z ls w → OutputsAgree s bound z w
    → flat_map (text_at s z) (instants s ls z bound) ≡ flat_map (text_at s w) (instants s ls w bound)
written_alike s bound ls z w alike agree =
    texts_at (text_at s z) (text_at s w) bound (instants s ls z bound) (λ t lt. lines_same t bound z w s.outputs lt agree) (instants_below s ls z bound)
    ∙ ap (flat_map (text_at s w)) (alike.instants_same bound (omega arith))

-- what is due instants_below a bound begins what is due instants_below a higher one
pub due_grows : (s : System) (lines : List Line) (z : Streams) (low high limit : ℕ) → low ≤ high → (more : List ℕ) × (due_text s lines z high limit ≡ due_text s lines z low limit ++ more)
due_grows s lines z low high limit le =
    let (rest, is, all) = instants_first s lines z low high le in
    let (more, takes) = take_append limit (instants s lines z low) rest in
    let p = λ (t : ℕ). not (is_over s (inputs_of lines) z t) in (
      flat_map (text_at s z) (filter p more),
      ap (λ l. flat_map (text_at s z) (filter p (take limit l))) is ∙ ap (λ l. flat_map (text_at s z) (filter p l)) takes
          ∙ ap (λ l. flat_map (text_at s z) l) (filter-append p (take limit (instants s lines z low)) more)
          ∙ flat_map-append (text_at s z) (filter p (take limit (instants s lines z low))) (filter p more),
    )
