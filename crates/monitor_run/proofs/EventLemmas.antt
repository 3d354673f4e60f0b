-- What outputs print, and lines of events, one after another.
use Rattle.std.proofs.Common.{◌≡◌, ℕ, zero, suc, ◌+◌, ◌<◌, ◌≤◌, Bool, true, false, List, [], ◌∷◌, ◌++◌, length, get_or, set, take, drop, refl, sym, ap, subst, ◌∙◌, Ok, Err, append_assoc, append-nil, length-set, inl, inr, arith}
use Rattle.std.proofs.lemmas.Bool.{cases_eq, cases_lt, false≢true}
use Rattle.std.proofs.lemmas.List.{get_or-set_same, get_or-set_other, take_all, take_more}
use Rattle.std.proofs.lemmas.Grind.{flat_map-append}
use Rattle.std.proofs.lemmas.List.Elements.{All-from_recursion}
use Rattle.std.proofs.lemmas.Option.{slice_get_read}
use Rattle.std.proofs.Math.ListN.{take-append-drop}
use Rattle.std.specs.Prelude.{◌≢◌, IsFalse, IsTrue, Result, OnErr, Some, slice_get, slice_index_or}
use Rattle.agenda.specs.inner.Marks.{HasNoMark, IsLeastMark, has_mark}
use Rattle.monitor_run.specs.inner.Visits.{AreUnprinted}
use Rattle.std.specs.List.{flat_map}
use Rattle.std.specs.Option.{option_map_or}
use Rattle.tsl_value.specs.declared.scalar.ValueType.{ValueType}
use Rattle.body_eval.specs.declared.register.Register.{Register}
use Rattle.cell_reader.specs.inner.Cells.{Cells}
use Rattle.body_eval.specs.inner.Registers.{HoldsLive}
use Rattle.flat_core.specs.declared.equation.Output.{Output}
use Rattle.flat_core.specs.Complete.{IsFlat}
use Rattle.flat_core.specs.System.{System, runs}
use Rattle.register_machine.specs.Content.{print_of}
use Rattle.monitor_run.specs.inner.Begun.{IsBegunOf}
use Rattle.monitor_run.specs.inner.Instant.{name_of}
use Rattle.monitor_run.specs.inner.Registers.{AreHeld, register_at}

-- ---- output k

module _ (s : System) (k : ℕ) (o : Output) (there : k < length s.outputs) (is : o ≡ get_or s.outputs k o) where
  output_at : slice_get s.outputs k ≡ Some o
  output_at = slice_get_read s.outputs (length s.outputs) k o refl there is

  pub name_is : name_of (slice_get s.outputs k) ≡ o.name
  name_is = ap name_of output_at

  pub print_is : print_of s k ≡ o.equation
  print_is = ap (λ q. option_map_or (λ (x : Output). x.equation) q 0) output_at

  -- the cell that its register holds is live
  pub output_live : IsFlat s → (types : ℕ → ValueType) (cells : Cells) (registers : List Register) → AreHeld s types cells registers → HoldsLive cells (register_at registers o.equation)
  output_live whole types cells registers held =
      let printed = All-from_recursion (λ (q : Output). IsTrue (runs s q.equation)) s.outputs whole.outputs_run k o there in
      let run : IsTrue (runs s o.equation) = subst (λ (q : Output). IsTrue (runs s q.equation)) (sym is) printed in
      let found = whole.proper.runs_all o.equation run in
      let here = held.each o.equation found.0 run found.1 in
      here.live

-- ---- lines

pub blank_text : (text : List ℕ) → length text ≡ 0 → text ≡ []
blank_text [] none = refl
blank_text (b ∷ text) some = absurd (omega arith)

-- the first k of them were appended
pub begun : {X : Type 0} (f : X → List ℕ) (xs : List X) (k : ℕ) (before mid after : List ℕ) → after ≡ mid → mid ≡ before ++ flat_map f (take k xs) → IsBegunOf before after (flat_map f xs)
begun f xs k before mid after same is = record {
  added = flat_map f (take k xs);
  rest = flat_map f (drop k xs);
  after_is = same ∙ is;
  text_is = sym (ap (flat_map f) (take-append-drop k xs)) ∙ flat_map-append f (take k xs) (drop k xs);
}

pub on_err : {A E : Type 0} (r : Result A E) (P : Type 0) → P → OnErr r P
on_err (Ok v) P p = tt
on_err (Err e) P p = p

-- ---- texts that are moved to the end of what is to be written

flat_taken : (texts : List (List ℕ)) (k p : ℕ) → k ≤ p → ((q : ℕ) → k ≤ q → q < p → slice_index_or texts q [] ≡ []) → flat_map (λ x. x) (take p texts) ≡ flat_map (λ x. x) (take k texts)
flat_taken [] zero zero le blank = refl
flat_taken [] zero (suc p) le blank = refl
flat_taken [] (suc k) zero le blank = refl
flat_taken [] (suc k) (suc p) le blank = refl
flat_taken (x ∷ texts) zero zero le blank = refl
flat_taken (x ∷ texts) zero (suc p) le blank =
    let here : x ≡ [] = blank 0 (omega arith) (omega arith) in
    let rest = flat_taken texts 0 p (omega arith) (λ q low lt. blank (suc q) (omega arith) (omega arith)) in
    λ j. here j ++ rest j
flat_taken (x ∷ texts) (suc k) zero le blank = absurd (omega arith)
flat_taken (x ∷ texts) (suc k) (suc p) le blank = ap (λ ys. x ++ ys) (flat_taken texts k p (omega arith) (λ q low lt. blank (suc q) (omega arith) (omega arith)))

flat_more : (texts : List (List ℕ)) (p : ℕ) → p < length texts → flat_map (λ x. x) (take (p + 1) texts) ≡ flat_map (λ x. x) (take p texts) ++ slice_index_or texts p []
flat_more texts p lt = ap (flat_map (λ x. x)) (take_more texts p [] lt) ∙ flat_map-append (λ x. x) (take p texts) (slice_index_or texts p [] ∷ []) ∙ ap (λ ys. flat_map (λ x. x) (take p texts) ++ ys) (append-nil (slice_index_or texts p []))

-- the texts before the next one have been moved, and those after it are marked where there are any
pub record AreMoved (first texts : List (List ℕ)) (before out : List ℕ) (marks : List Bool) (next : ℕ) : Type 0 where
  pub size : length marks ≡ length first
  pub each : length texts ≡ length first
  pub low : next ≤ length first
  pub ahead : (k : ℕ) → IsTrue (has_mark marks k) → next ≤ k
  pub so_far : out ≡ before ++ flat_map (λ x. x) (take next first)
  pub done : (k : ℕ) → k < next → slice_index_or texts k [] ≡ []
  pub later : (k : ℕ) → next ≤ k → slice_index_or texts k [] ≡ slice_index_or first k []
  pub unmarked : (k : ℕ) → next ≤ k → IsFalse (has_mark marks k) → slice_index_or first k [] ≡ []

pub none_moved : (texts : List (List ℕ)) (before : List ℕ) (marks : List Bool) → length marks ≡ length texts → AreUnprinted marks texts → AreMoved texts texts before before marks 0
none_moved texts before marks size unprinted = record {
  size = size;
  each = refl;
  low = omega arith;
  ahead = λ k marked. omega arith;
  so_far = sym (append-nil before);
  done = λ k lt. absurd (omega arith);
  later = λ k low. refl;
  unmarked = λ k low none. unprinted k none;
}

module _ (first texts : List (List ℕ)) (before out : List ℕ) (marks : List Bool) (next : ℕ) (m : AreMoved first texts before out marks next) where
  -- up to a place nothing is marked
  up_to : (p : ℕ) → next ≤ p → p ≤ length first → ((q : ℕ) → q < p → IsFalse (has_mark marks q)) → out ≡ before ++ flat_map (λ x. x) (take p first)
  up_to p low high none = m.so_far ∙ ap (λ ys. before ++ ys) (sym (flat_taken first next p low (λ q from lt. m.unmarked q from (none q lt))))

  pub move_next : (p : ℕ) → p < length marks → IsLeastMark marks p → (marks2 : List Bool) → marks2 ≡ set marks p false → (text : List ℕ) → text ≡ slice_index_or texts p [] → (more : List ℕ) → more ≡ out ++ text → (texts2 : List (List ℕ)) → texts2 ≡ set texts p [] → AreMoved first texts2 before more marks2 (p + 1)
  move_next p there least marks2 marks_is text text_is more more_is texts2 texts_is =
      let low = m.ahead p least.marked in
      let size = m.size in
      let each = m.each in
      record {
        size = ap length marks_is ∙ length-set marks p false ∙ size;
        each = ap length texts_is ∙ length-set texts p [] ∙ each;
        low = omega arith;
        ahead = λ k marked. elim (cases_lt k p) [
          | inl before_p ↦
              absurd (false≢true (sym (least.least k before_p) ∙ sym (get_or-set_other marks p k false false (λ same. absurd (omega arith))) ∙ sym (ap (λ xs. has_mark xs k) marks_is) ∙ marked))
          | inr from ↦ elim (cases_eq k p) [
            | inl same ↦ absurd (false≢true (sym (get_or-set_same marks p false false there) ∙ sym (ap (λ xs. has_mark xs p) marks_is) ∙ subst (λ j. has_mark marks2 j ≡ true) same marked))
            | inr other ↦ omega_later k p other from
          ]
        ];
        so_far = more_is ∙ (λ j. up_to p low (omega arith) least.least j ++ (text_is ∙ m.later p low) j) ∙ append_assoc before (flat_map (λ x. x) (take p first)) (slice_index_or first p []) ∙ ap (λ ys. before ++ ys) (sym (flat_more first p (omega arith)));
        done = λ k lt. elim (cases_eq k p) [
          | inl same ↦ ap (λ xs. slice_index_or xs k []) texts_is ∙ subst (λ j. slice_index_or (set texts p []) j [] ≡ []) (sym same) (get_or-set_same texts p [] [] (omega arith))
          | inr other ↦ ap (λ xs. slice_index_or xs k []) texts_is ∙ get_or-set_other texts p k [] [] other ∙ elim (cases_lt k next) [
            | inl early ↦ m.done k early
            | inr late ↦ m.later k late ∙ m.unmarked k late (least.least k (omega_below k p other lt))
          ]
        ];
        later = λ k from. ap (λ xs. slice_index_or xs k []) texts_is ∙ get_or-set_other texts p k [] [] (λ same. absurd (omega arith)) ∙ m.later k (omega arith);
        unmarked = λ k from none. m.unmarked k (omega arith) (sym (get_or-set_other marks p k false false (λ same. absurd (omega arith))) ∙ sym (ap (λ xs. has_mark xs k) marks_is) ∙ none);
      }
    where
      omega_later : (k p : ℕ) → k ≢ p → p ≤ k → p + 1 ≤ k
      omega_later k p other from = elim (cases_lt p k) [
        | inl lt ↦ omega arith
        | inr le ↦ absurd (other (omega arith))
      ]

      omega_below : (k p : ℕ) → k ≢ p → k < p + 1 → k < p
      omega_below k p other lt = elim (cases_lt k p) [
        | inl below ↦ below
        | inr le ↦ absurd (other (omega arith))
      ]

  pub all_moved : HasNoMark marks → (out ≡ before ++ flat_map (λ x. x) first) × ((k : ℕ) → slice_index_or texts k [] ≡ [])
  all_moved none = (
    up_to (length first) m.low (omega arith) (λ q lt. none q) ∙ ap (λ ts. before ++ flat_map (λ x. x) ts) (take_all (length first) first (omega arith)),
    λ k. elim (cases_lt k next) [
      | inl early ↦ m.done k early
      | inr late ↦ m.later k late ∙ m.unmarked k late (none k)
    ],
  )
