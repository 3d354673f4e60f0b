-- What is kept of an instant.
use Rattle.std.proofs.Common.{◌≡◌, ◌==◌, ℕ, zero, suc, ◌+◌, ◌<◌, ◌≤◌, Bool, true, false, ◌&&◌, ◌||◌, List, [], ◌∷◌, ◌++◌, length, map, get_or, set, take, drop, cond, Option, Some, None, refl, sym, ap, subst, arith, ◌∙◌, inl, inr}
use Rattle.std.proofs.lemmas.Bool.{cases_Bool, cases_lt, eqb-true, eqb-false, eq-eqb, or_cases, false≢true, true≢false}
use Rattle.std.specs.FinMap as finite_map
use Rattle.std.specs.Cmp.{nat_cmp_total}
use Rattle.std.specs.Ordering.{nat_cmp}
use Rattle.std.specs.List.{All}
use Rattle.std.proofs.lemmas.List.Elements.{All-from_recursion}
use Rattle.tsl_value.specs.View.{View}
use Rattle.flat_core.specs.System.{System}
use Rattle.flat_core.proofs.Members.{all_from, in-Contains}
use Rattle.flat_core.specs.Kept.{keeps_of}
use Rattle.monitor_run.specs.inner.Visits.{AreFilled, AreKept}
use Rattle.std.proofs.Math.Bool.{or-false, or-true}
use Rattle.std.proofs.Common.{length-set}
use Rattle.std.proofs.lemmas.List.{drop_more, get_or_at, get_or_default, get_or_past, get_or-set_same, get_or-set_other, length-map, length-take}
use Rattle.std.proofs.lemmas.List.Folds.{list_any_more}
use Rattle.std.specs.Prelude.{◌≢◌, if◌then◌else◌, IsFalse, is_some, slice_index_or}
use Rattle.body_eval.specs.declared.register.Register.{Register}
use Rattle.body_eval.specs.declared.register.Register.TheVariants as register
use Rattle.cell_reader.specs.inner.Cells.{Cells, IsLive}
use Rattle.body_eval.specs.inner.Registers.{HoldsLive, held}
use Rattle.flat_core.specs.Members.{is_in}
use Rattle.event_writer.specs.Text.{IsPrintable}
use Rattle.monitor_run.specs.inner.Here.{IsBare}
use Rattle.monitor_run.specs.inner.Instant.{AreBare, kept_in, kept_register}
use Rattle.monitor_run.specs.inner.Registers.{register_at}

-- the registers of the first k that were filled have been emptied, and moved where they are kept
pub record AreKeeping (kept : ℕ → Bool) (filled : List ℕ) (k : ℕ) (registers last now after : List Register) : Type 0 where
  pub last_is : (i : ℕ) → register_at after i ≡ (if is_in (take k filled) i && kept i then kept_register (register_at registers i) (register_at last i) else register_at last i)
  pub moved : (i : ℕ) → register_at now i ≡ (if is_in (take k filled) i then register.Empty else register_at registers i)

module _ (kept : ℕ → Bool) (filled : List ℕ) (k d : ℕ) (lt : k < length filled) (is : d ≡ get_or filled k 0) (registers last now after : List Register) (a : AreKeeping kept filled k registers last now after) where
  more : (i : ℕ) → is_in (take (k + 1) filled) i ≡ (is_in (take k filled) i || (d == i))
  more i = list_any_more (λ j. j == i) filled k 0 lt ∙ sym (λ j. is_in (take k filled) i || (is j == i))

  more-other : (i : ℕ) → (d == i) ≡ false → is_in (take (k + 1) filled) i ≡ is_in (take k filled) i
  more-other i other = more i ∙ (λ j. is_in (take k filled) i || other j) ∙ or-false (is_in (take k filled) i)

  more-same : is_in (take (k + 1) filled) d ≡ true
  more-same = more d ∙ (λ j. is_in (take k filled) d || eq-eqb d d refl j) ∙ or-true (is_in (take k filled) d)

  module _ (now_next after_next : List Register) (others_last : (i : ℕ) → i ≢ d → register_at after_next i ≡ register_at after i) (others_now : (i : ℕ) → i ≢ d → register_at now_next i ≡ register_at now i)
      (last_here : register_at after_next d ≡ (if kept d then kept_register (register_at registers d) (register_at last d) else register_at last d)) (now_here : register_at now_next d ≡ register.Empty) where
    keeping-next : AreKeeping kept filled (k + 1) registers last now_next after_next
    keeping-next = record {
      last_is = λ i. elim (cases_Bool (d == i)) [
        | inl here ↦
            subst (λ i. register_at after_next i ≡ (if is_in (take (k + 1) filled) i && kept i then kept_register (register_at registers i) (register_at last i) else register_at last i)) (eqb-true d i here)
            (last_here ∙ sym (λ j. if more-same j && kept d then kept_register (register_at registers d) (register_at last d) else register_at last d))
        | inr other ↦
            others_last i (λ same. eqb-false d i other (sym same)) ∙ a.last_is i
            ∙ sym (λ j. if more-other i other j && kept i then kept_register (register_at registers i) (register_at last i) else register_at last i)
      ];
      moved = λ i. elim (cases_Bool (d == i)) [
        | inl here ↦
            subst (λ i. register_at now_next i ≡ (if is_in (take (k + 1) filled) i then register.Empty else register_at registers i)) (eqb-true d i here)
            (now_here ∙ sym (λ j. if more-same j then register.Empty else register_at registers d))
        | inr other ↦ others_now i (λ same. eqb-false d i other (sym same)) ∙ a.moved i ∙ sym (λ j. if more-other i other j then register.Empty else register_at registers i)
      ];
    }

  -- it is emptied
  pub keeping-one : d < length now → d < length after → AreKeeping kept filled (k + 1) registers last (set now d register.Empty) (if kept d then kept_in (register_at now d) d after else after)
  keeping-one there place =
      keeping-next (set now d register.Empty) (if kept d then kept_in (register_at now d) d after else after) (others (kept d)) (λ i apart. get_or-set_other now d i register.Empty register.Empty apart)
      (here (kept d) (a.last_is d)) (get_or-set_same now d register.Empty register.Empty there)
    where
      others_in : (r : Register) (i : ℕ) → i ≢ d → register_at (kept_in r d after) i ≡ register_at after i
      others_in register.Empty i apart = refl
      others_in (register.Scalar s) i apart = get_or-set_other after d i (register.Scalar s) register.Empty apart
      others_in (register.Aggregate h) i apart = get_or-set_other after d i (register.Aggregate h) register.Empty apart

      others : (q : Bool) (i : ℕ) → i ≢ d → register_at (if q then kept_in (register_at now d) d after else after) i ≡ register_at after i
      others true i apart = others_in (register_at now d) i apart
      others false i apart = refl

      here_in : (r : Register) → register_at (kept_in r d after) d ≡ kept_register r (register_at after d)
      here_in register.Empty = refl
      here_in (register.Scalar s) = get_or-set_same after d (register.Scalar s) register.Empty place
      here_in (register.Aggregate h) = get_or-set_same after d (register.Aggregate h) register.Empty place

      split : (b : Bool) → register_at after d ≡ (if b && true then kept_register (register_at registers d) (register_at last d) else register_at last d) → register_at now d ≡ (if b then register.Empty else register_at registers d) → kept_register (register_at now d) (register_at after d) ≡ kept_register (register_at registers d) (register_at last d)
      split true was moved = (λ j. kept_register (moved j) (was j))
      split false was moved = (λ j. kept_register (moved j) (was j))

      unkept : (b : Bool) → (if b && false then kept_register (register_at registers d) (register_at last d) else register_at last d) ≡ register_at last d
      unkept true = refl
      unkept false = refl

      here : (q : Bool) → register_at after d ≡ (if is_in (take k filled) d && q then kept_register (register_at registers d) (register_at last d) else register_at last d)
          → register_at (if q then kept_in (register_at now d) d after else after) d ≡ (if q then kept_register (register_at registers d) (register_at last d) else register_at last d)
      here true was = here_in (register_at now d) ∙ split (is_in (take k filled) d) was (a.moved d)
      here false was = was ∙ unkept (is_in (take k filled) d)

  -- whether one of them held a cell
  pub bare-one : ((i : ℕ) → is_in (take k filled) i ≡ true → IsBare (register_at registers i)) → IsBare (register_at now d) → (i : ℕ) → is_in (take (k + 1) filled) i ≡ true → IsBare (register_at registers i)
  bare-one before here i there = elim (or_cases (is_in (take k filled) i) (d == i) (sym (more i) ∙ there)) [
    | inl earlier ↦ before i earlier
    | inr same ↦ subst (λ j. IsBare (register_at registers j)) (eqb-true d i same) (by (is_in (take k filled) d) refl)
  ]
    where
      by : (b : Bool) → is_in (take k filled) d ≡ b → IsBare (register_at registers d)
      by true listed = before d listed
      by false none = subst IsBare (a.moved d ∙ (λ j. if none j then register.Empty else register_at registers d)) here

-- those that were emptied first held none, and the others hold none now
pub bare_either : (keeps : List ℕ) (registers after : List Register) → ((i : ℕ) → register_at after i ≡ (if is_in keeps i then register.Empty else register_at registers i)) → ((i : ℕ) → is_in keeps i ≡ true → IsBare (register_at registers i)) → AreBare after → AreBare registers
bare_either keeps registers after after_is first rest i = by (is_in keeps i) refl
  where
    by : (b : Bool) → is_in keeps i ≡ b → IsBare (register_at registers i)
    by true listed = first i listed
    by false none = subst IsBare (after_is i ∙ (λ k. if none k then register.Empty else register_at registers i)) (rest i)

-- registers that are emptied one after another: so far none held a cell
pub bare_next : (registers now : List Register) (k : ℕ) (r : Register) → k < length registers → now ≡ map (λ q. register.Empty) (take k registers) ++ drop k registers → r ≡ get_or now k r → ((i : ℕ) → i < k → IsBare (register_at registers i)) → IsBare r → (i : ℕ) → i < k + 1 → IsBare (register_at registers i)
bare_next registers now k r lt is read before here i below = elim (cases_lt i k) [
  | inl earlier ↦ before i earlier
  | inr later ↦ let same : k ≡ i = omega arith in subst (λ j. IsBare (register_at registers j)) same (subst IsBare there here)
]
  where
    front : List Register
    front = map (λ q. register.Empty) (take k registers)

    long : length front ≡ k
    long = let size = length-take k registers in length-map (take k registers) (λ q. register.Empty) ∙ omega arith

    there : r ≡ register_at registers k
    there =
        read ∙ ap (λ l. get_or l k r) (is ∙ ap (λ l. front ++ l) (drop_more registers k r lt)) ∙ get_or_at front (get_or registers k r) (drop (k + 1) registers) r k long
        ∙ get_or_default registers k r register.Empty lt

-- and none of all
pub bare_all : (registers : List Register) (k : ℕ) → length registers ≤ k → ((i : ℕ) → i < k → IsBare (register_at registers i)) → AreBare registers
bare_all registers k all before i = elim (cases_lt i k) [
  | inl within ↦ before i within
  | inr past ↦ subst IsBare (sym (get_or_past registers i register.Empty (omega arith))) tt
]

pub kept_length : (r : Register) (i : ℕ) (last : List Register) → length (kept_in r i last) ≡ length last
kept_length register.Empty i last = refl
kept_length (register.Scalar s) i last = length-set last i (register.Scalar s)
kept_length (register.Aggregate h) i last = length-set last i (register.Aggregate h)

pub moved_length : (b : Bool) (r : Register) (i : ℕ) (last : List Register) → length (if b then kept_in r i last else last) ≡ length last
moved_length true r i last = kept_length r i last
moved_length false r i last = refl

pub kept_some : (r : Register) (i : ℕ) (last : List Register) → ((c : Cells) → is_some (held c r) ≡ true) → kept_in r i last ≡ set last i r
kept_some register.Empty i last some = absurd (false≢true (some finite_map.empty))
kept_some (register.Scalar s) i last some = refl
kept_some (register.Aggregate h) i last some = refl

pub kept_none : (r : Register) (i : ℕ) (last : List Register) → ((c : Cells) → is_some (held c r) ≡ false) → kept_in r i last ≡ last
kept_none register.Empty i last none = refl
kept_none (register.Scalar s) i last none = absurd (true≢false (none finite_map.empty))
kept_none (register.Aggregate h) i last none = absurd (true≢false (none finite_map.empty))

pub blank_register : (r : Register) → ((c : Cells) → is_some (held c r) ≡ false) → r ≡ register.Empty
blank_register register.Empty none = refl
blank_register (register.Scalar s) none = absurd (true≢false (none finite_map.empty))
blank_register (register.Aggregate h) none = absurd (true≢false (none finite_map.empty))

pub is_printable : (cells : Cells) (r : Register) → ((c : Cells) → is_some (held c r) ≡ true) → HoldsLive cells r → IsPrintable cells r
is_printable cells register.Empty some live = false≢true (some finite_map.empty)
is_printable cells (register.Scalar s) some live = tt
is_printable cells (register.Aggregate h) some live = live.0

-- ---- what is kept over what was filled
pub kept_wider : (filled : List ℕ) (kept listed : Bool) (i : ℕ) (r l : Register) → (is_in filled i ≡ true → kept ≡ listed) → (is_in filled i ≡ false → r ≡ register.Empty) → (if is_in filled i && kept then kept_register r l else l) ≡ (if listed then kept_register r l else l)
kept_wider filled kept listed i r l same blank = split (is_in filled i) refl
  where
    none : (b : Bool) → l ≡ (if b then l else l)
    none true = refl
    none false = refl

    split : (q : Bool) → is_in filled i ≡ q → (if is_in filled i && kept then kept_register r l else l) ≡ (if listed then kept_register r l else l)
    split true so = (λ k. if so k && same so k then kept_register r l else l)
    split false fails = (λ k. if fails k && kept then kept_register r l else l) ∙ none listed ∙ sym (λ k. if listed then kept_register (blank fails k) l else l)

pub kept_wider_at : (s : System) (filled : List ℕ) (kept : List Bool) (registers : List Register) → AreFilled filled registers → length registers ≡ length s.equations → AreKept s kept → (l : Register) (i : ℕ)
    → (if is_in filled i && slice_index_or kept i false then kept_register (register_at registers i) l else l) ≡ (if is_in (keeps_of s) i then kept_register (register_at registers i) l else l)
kept_wider_at s filled kept registers f each are l i =
    kept_wider filled (slice_index_or kept i false) (is_in (keeps_of s) i) i (register_at registers i) l (λ listed. are i (let lt = f.known i listed in omega arith)) (f.rest i)

-- the same where all is emptied, and what is kept is listed
pub kept_there : (keeps : List ℕ) (kept : List Bool) (i : ℕ) → (is_in keeps i ≡ true → slice_index_or kept i false ≡ true) → (is_in keeps i && slice_index_or kept i false) ≡ is_in keeps i
kept_there keeps kept i are = split (is_in keeps i) refl
  where
    split : (b : Bool) → is_in keeps i ≡ b → (is_in keeps i && slice_index_or kept i false) ≡ is_in keeps i
    split true listed = (λ k. listed k && are listed k) ∙ sym listed
    split false none = (λ k. none k && slice_index_or kept i false) ∙ sym none

pub all_blank : (registers : List Register) (i : ℕ) → register_at (map (λ r. register.Empty) registers) i ≡ register.Empty
all_blank [] i = refl
all_blank (r ∷ registers) zero = refl
all_blank (r ∷ registers) (suc i) = all_blank registers i

pub kept_either : (s : System) (all : Bool) (filled keeps : List ℕ) (kept : List Bool) (registers : List Register) → (IsFalse all → AreFilled filled registers) → length registers ≡ length s.equations → AreKept s kept → keeps ≡ keeps_of s → (l : Register) (i : ℕ)
    → (if (if all then is_in keeps i else is_in filled i && slice_index_or kept i false) then kept_register (register_at registers i) l else l) ≡ (if is_in (keeps_of s) i then kept_register (register_at registers i) l else l)
kept_either s true filled keeps kept registers f each are keeps_are l i = λ k. if is_in (keeps_are k) i then kept_register (register_at registers i) l else l
kept_either s false filled keeps kept registers f each are keeps_are l i = kept_wider_at s filled kept registers (f refl) each are l i

-- all is emptied
pub all_emptied : (filled : List ℕ) (registers : List Register) → AreFilled filled registers → (i : ℕ) → (if is_in filled i then register.Empty else register_at registers i) ≡ register.Empty
all_emptied filled registers f i = split (is_in filled i) refl
  where
    split : (q : Bool) → is_in filled i ≡ q → (if is_in filled i then register.Empty else register_at registers i) ≡ register.Empty
    split true listed = λ k. if listed k then register.Empty else register_at registers i
    split false none = (λ k. if none k then register.Empty else register_at registers i) ∙ f.rest i none

pub emptied_either : (all : Bool) (filled : List ℕ) (registers : List Register) → (IsFalse all → AreFilled filled registers) → (i : ℕ) → (if all || is_in filled i then register.Empty else register_at registers i) ≡ register.Empty
emptied_either true filled registers f i = refl
emptied_either false filled registers f i = all_emptied filled registers (f refl) i

pub all_known : (filled : List ℕ) (registers : List Register) → AreFilled filled registers → (n : ℕ) → n ≡ length registers → All (λ i. i < n) filled
all_known filled registers f n size = All-from_recursion (λ i. i < n) filled (all_from (λ i. i < n) filled (λ i there. let lt = f.known i (in-Contains filled i there) in omega arith))

-- nothing is dropped where each cell is listed
pub all_listed : (cells : Cells) (listed : ℕ → Bool) → ((h : ℕ) → IsLive cells h → listed h ≡ true) → cells ≡ finite_map.retain_keys cells listed
all_listed cells listed are =
    finite_map.same_map nat_cmp_total finite_map.nat_cmp-IsAntisymmetric cells (finite_map.retain_keys cells listed) (λ q. sym (kept q ∙ stays q (finite_map.get cells q) refl))
  where
    kept : (q : ℕ) → finite_map.get (finite_map.retain_keys cells listed) q ≡ cond (listed q) (finite_map.get cells q) None
    kept q = finite_map.get-retain_keys cells listed q (λ x tied. ap listed (sym (finite_map.nat_cmp-IsAntisymmetric q x tied)))

    none : (b : Bool) → ◌≡◌ {A = Option View} (cond b None None) None
    none true = refl
    none false = refl

    stays : (q : ℕ) (o : Option View) → finite_map.get cells q ≡ o → cond (listed q) (finite_map.get cells q) None ≡ finite_map.get cells q
    stays q None is = (λ k. cond (listed q) (is k) None) ∙ none (listed q) ∙ sym is
    stays q (Some v) is = λ k. cond (are q (ap is_some is) k) (finite_map.get cells q) None

-- no cell is kept of none
pub none_kept : (cells : Cells) (listed : ℕ → Bool) → finite_map.len cells ≡ 0 → cells ≡ finite_map.retain_keys cells listed
none_kept cells listed none =
    let empty = finite_map.empty_of_len cells none in
    all_listed cells listed (λ h live. absurd (false≢true (sym (ap (λ c. is_some (finite_map.get c h)) empty ∙ ap is_some (finite_map.get-empty nat_cmp h)) ∙ live)))
