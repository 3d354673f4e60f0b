-- The bytes of a state, all of them: read where they spell one that fits, and the laws of the spelling.
use Rattle.std.proofs.Common.{◌≡◌, ◌==◌, ℕ, ◌<◌, ◌^◌, true, false, cond, List, [], ◌++◌, length, take, drop, Some, None, Result, Ok, Err, IfOk, refl, sym, ap, subst, ◌∙◌, append_assoc, append-nil, bytes_eq, arith}
use Rattle.std.specs.Prelude.{◌&&◌}
use Rattle.std.proofs.lemmas.Bool.{and_parts, eqb-true, false≢true}
use Rattle.std.proofs.lemmas.List.{drop_at, length-append, nil_from_length, take-append-drop, take_at}
use Rattle.std.proofs.lemmas.Slice.Eq.{bytes_eq-Decides}
use Rattle.flat_core.specs.Complete.{IsFlat}
use Rattle.flat_core.specs.System.{System}
use Rattle.register_code.specs.Code.{Code}
use Rattle.register_code.specs.Text.{code_text}
use Rattle.state_snapshot.specs.declared.fault.StateFault.{StateFault}
use Rattle.state_snapshot.specs.declared.fault.StateFault.TheVariants as fault
use Rattle.run_state.specs.declared.state.RunState.{RunState}
use Rattle.run_state.specs.Fits.{FitsRun}
use Rattle.state_snapshot.specs.Laws.{NoneBegins, SpellOneState}
use Rattle.run_state.specs.Spelling.{IsOfOther, mark, number, spelling, text}
use Rattle.state_snapshot.specs.inner.Reading.{◌>>=◌, BeginsWrong, Gives, fields_at, fits_rest, if_fits, marked_at, state_at, text_at, with_seen}
use Rattle.state_snapshot.proofs.Alone.{same_front}
use Rattle.state_snapshot.proofs.Formats.{IsBytes, IsBytes-drop, bind_some, passed_first, passed_test, some_is, text_format}
use Rattle.state_snapshot.proofs.RunFields.{fields_again, fields_bytes, fields_take}
use Rattle.state_snapshot.proofs.Fitting.{run_fits, run_is, run_passes, seen_again, without_seen}

-- ---- the mark and the program

same_bytes : (xs ys : List ℕ) → bytes_eq xs ys ≡ true → xs ≡ ys
same_bytes xs ys e = (bytes_eq-Decides xs ys).0 e

pub apart : (xs ys : List ℕ) → bytes_eq xs ys ≡ false → xs ≡ ys → ⊥
apart xs ys other same = false≢true (sym other ∙ (bytes_eq-Decides xs ys).1 same)

bytes_same : (xs : List ℕ) → bytes_eq xs xs ≡ true
bytes_same xs = (bytes_eq-Decides xs xs).1 refl

marked_takes : (bytes t rest : List ℕ) → IsBytes bytes → marked_at bytes ≡ Some (t, rest) → (bytes ≡ mark ++ (text t ++ rest)) × (length t < 2 ^ 64) × IsBytes rest
marked_takes bytes t rest fits e =
    let g = passed_first (bytes_eq (take 8 bytes) mark) (text_at (drop 8 bytes)) (t, rest) e in
    let taken = text_format.takes (drop 8 bytes) t rest (IsBytes-drop 8 bytes fits) g.1 in
    (sym (take-append-drop 8 bytes) ∙ (λ i. same_bytes (take 8 bytes) mark g.0 i ++ taken.0.parts i), taken.1, taken.0.rest_fits)

marked_again : (t rest : List ℕ) → length t < 2 ^ 64 → marked_at (mark ++ (text t ++ rest)) ≡ Some (t, rest)
marked_again t rest short =
    let front = take_at mark (text t ++ rest) 8 refl in
    let back = drop_at mark (text t ++ rest) 8 refl in
    (λ i. cond (bytes_eq (front i) mark) (text_at (back i)) None)
    ∙ ap (λ b. cond b (text_at (text t ++ rest)) None) (bytes_same mark)
    ∙ text_format.again t rest short

-- ---- the fields

few_equations : (s : System) → IsFlat s → length s.equations < 2 ^ 64
few_equations s whole = omega (arith, whole.few_equations)

state_takes : (s : System) (bytes : List ℕ) (st : RunState) → IsBytes bytes → state_at s bytes ≡ Some st → FitsRun s st × (bytes ≡ fields_bytes st)
unfolding state_at
state_takes s bytes st fits e =
    let a = bind_some (fields_at s bytes) if_fits st e in
    let g = passed_test ((length a.0.1 == 0) && fits_rest a.0.0) (with_seen a.0.0) st a.2 in
    let both = and_parts (length a.0.1 == 0) (fits_rest a.0.0) g.0 in
    let taken = fields_take s bytes a.0.0 a.0.1 fits a.1 in
    let nothing : a.0.1 ≡ [] = nil_from_length a.0.1 (eqb-true (length a.0.1) 0 both.0) in
    subst (λ (x : RunState). FitsRun s x × (bytes ≡ fields_bytes x)) g.1 (
      run_fits s a.0.0 taken.1 both.1,
      taken.0.parts ∙ ap (λ (l : List ℕ). fields_bytes a.0.0 ++ l) nothing ∙ append-nil (fields_bytes a.0.0),
    )

state_again : (s : System) (st : RunState) → IsFlat s → FitsRun s st → state_at s (fields_bytes st) ≡ Some st
unfolding state_at
state_again s st whole fits =
    let plain = without_seen st in
    let read : fields_at s (fields_bytes st) ≡ Some (plain, []) = ap (fields_at s) (sym (append-nil (fields_bytes st))) ∙ fields_again s plain [] (run_is s st (few_equations s whole) fits) in
    ap (λ r. r >>= if_fits) read ∙ ap (λ b. cond b (Some (with_seen plain)) None) (run_passes s st fits) ∙ ap Some (seen_again s st fits)

-- ---- what a code's states spell

after_mark : (c : Code) (st : RunState) (more : List ℕ) → spelling c st ++ more ≡ mark ++ (text (code_text c) ++ (fields_bytes st ++ more))
after_mark c st more = append_assoc mark (text (code_text c) ++ fields_bytes st) more ∙ ap (λ (l : List ℕ). mark ++ l) (append_assoc (text (code_text c)) (fields_bytes st) more)

fields_alike : (c : Code) (a b : RunState) (x y : List ℕ) → spelling c a ++ x ≡ spelling c b ++ y → fields_bytes a ++ x ≡ fields_bytes b ++ y
fields_alike c a b x y is =
    let program = text (code_text c) in
    let marked = same_front mark (program ++ (fields_bytes a ++ x)) mark (program ++ (fields_bytes b ++ y)) refl (sym (after_mark c a x) ∙ is ∙ after_mark c b y) in
    (same_front program (fields_bytes a ++ x) program (fields_bytes b ++ y) refl marked.1).1

pub spell_one_state : SpellOneState
spell_one_state c a b of other is =
    let alike = fields_alike c a b [] [] (ap (λ (l : List ℕ). l ++ []) is) in
    let same : fields_bytes a ≡ fields_bytes b = sym (append-nil (fields_bytes a)) ∙ alike ∙ append-nil (fields_bytes b) in
    some_is a b (sym (state_again c.system a of.code.is_flat of.fits) ∙ ap (state_at c.system) same ∙ state_again c.system b other.code.is_flat other.fits)

pub none_begins : NoneBegins
none_begins c a b more of other is =
    let alike = fields_alike c a b more [] (is ∙ sym (append-nil (spelling c b))) in
    let first = fields_again c.system (without_seen a) more (run_is c.system a (few_equations c.system of.code.is_flat) of.fits) in
    let second = fields_again c.system (without_seen b) [] (run_is c.system b (few_equations c.system other.code.is_flat) other.fits) in
    ap (λ p. p.1) (some_is (without_seen a, more) (without_seen b, []) (sym first ∙ ap (fields_at c.system) alike ∙ second))

-- ---- what is answered

pub is_found : (c : Code) (bytes rest : List ℕ) (st : RunState) → IsBytes bytes → marked_at bytes ≡ Some (code_text c, rest) → state_at c.system rest ≡ Some st → FitsRun c.system st × (bytes ≡ spelling c st)
is_found c bytes rest st fits marked read =
    let taken = marked_takes bytes (code_text c) rest fits marked in
    let fields = state_takes c.system rest st taken.2 read in
    (fields.0, taken.0 ∙ ap (λ (l : List ℕ). mark ++ (text (code_text c) ++ l)) fields.1)

pub is_other : (c : Code) (bytes program rest : List ℕ) → IsBytes bytes → marked_at bytes ≡ Some (program, rest) → (program ≡ code_text c → ⊥) → IsOfOther c bytes
is_other c bytes program rest fits marked other =
    let taken = marked_takes bytes program rest fits marked in
    record { program = program; rest = rest; is = taken.0; short = taken.1; other = other }

none_some : {A : Type 0} {x : A} → None ≡ Some x → ⊥
none_some e = absurd cc

spelled_marked : (c : Code) (bytes : List ℕ) (st : RunState) → length bytes < 2 ^ 64 → bytes ≡ spelling c st → marked_at bytes ≡ Some (code_text c, fields_bytes st)
spelled_marked c bytes st few is =
    let program = code_text c in
    let rest = fields_bytes st in
    let long = ap length is in
    let short : length program < 2 ^ 64 = omega (arith, few, long, length-append mark (text program ++ rest), length-append (text program) rest, length-append (number (length program)) program) in
    ap marked_at is ∙ marked_again program rest short

-- bytes that do not begin as a state of a program are none of another, and spell no state
pub no_other : (c : Code) (bytes : List ℕ) → marked_at bytes ≡ None → IsOfOther c bytes → ⊥
no_other c bytes none other = none_some (sym none ∙ ap marked_at other.is ∙ marked_again other.program other.rest other.short)

pub no_state : (c : Code) (bytes : List ℕ) (st : RunState) → length bytes < 2 ^ 64 → marked_at bytes ≡ None → bytes ≡ spelling c st → ⊥
no_state c bytes st few none is = none_some (sym none ∙ spelled_marked c bytes st few is)

-- bytes that begin as a state of this program are none of another
pub not_other : (c : Code) (bytes rest : List ℕ) → marked_at bytes ≡ Some (code_text c, rest) → IsOfOther c bytes → ⊥
not_other c bytes rest marked other =
    other.other (ap (λ p. p.0) (some_is (other.program, other.rest) (code_text c, rest) (sym (ap marked_at other.is ∙ marked_again other.program other.rest other.short) ∙ marked)))

pub not_state : (c : Code) (bytes rest : List ℕ) (st : RunState) → IsFlat c.system → length bytes < 2 ^ 64 → marked_at bytes ≡ Some (code_text c, rest) → state_at c.system rest ≡ None → FitsRun c.system st → bytes ≡ spelling c st → ⊥
not_state c bytes rest st whole few marked none fits is =
    let same : rest ≡ fields_bytes st = ap (λ p. p.1) (some_is (code_text c, rest) (code_text c, fields_bytes st) (sym marked ∙ spelled_marked c bytes st few is)) in
    none_some (sym none ∙ ap (state_at c.system) same ∙ state_again c.system st whole fits)

-- neither one of another program nor a state that fits
abbrev pub IsWrong : Code → List ℕ → Type 0
IsWrong c bytes = (IsOfOther c bytes → ⊥) × ((st : RunState) → FitsRun c.system st → bytes ≡ spelling c st → ⊥)

abbrev fault_or : StateFault → Result RunState StateFault → StateFault
fault_or e (Ok st) = e
fault_or e (Err f) = f

same_err : (r : Result RunState StateFault) (e f : StateFault) → r ≡ Err e → r ≡ Err f → e ≡ f
same_err r e f is other = ap (fault_or e) (sym is ∙ other)

-- where the mark and the program were refused
module _ (c : Code) (bytes : List ℕ) (r : Result RunState StateFault) (v e : StateFault) (is : r ≡ Err v) (same : v ≡ e) (begins : BeginsWrong c bytes e) where
  pub begins_other : r ≡ Err fault.OtherProgram → IsOfOther c bytes
  begins_other other = subst (BeginsWrong c bytes) (sym same ∙ same_err r v fault.OtherProgram is other) begins

  pub begins_wrong : length bytes < 2 ^ 64 → r ≡ Err fault.WrongForm → IsWrong c bytes
  begins_wrong few wrong =
      let none : marked_at bytes ≡ None = subst (BeginsWrong c bytes) (sym same ∙ same_err r v fault.WrongForm is wrong) begins in
      (no_other c bytes none, λ st fits spelled. no_state c bytes st few none spelled)

-- where this program's fields were read, or refused
module _ (c : Code) (bytes rest : List ℕ) (r : Result RunState StateFault) (fits : IsBytes bytes) (marked : marked_at bytes ≡ Some (code_text c, rest)) (gives : Gives (λ st. st) r (state_at c.system rest)) where
  pub found : IfOk r (λ st. FitsRun c.system st × (bytes ≡ spelling c st))
  found = by r gives where
    by : (q : Result RunState StateFault) → Gives (λ st. st) q (state_at c.system rest) → IfOk q (λ st. FitsRun c.system st × (bytes ≡ spelling c st))
    by (Ok st) read = is_found c bytes rest st fits marked read
    by (Err e) read = tt

  pub fields_other : r ≡ Err fault.OtherProgram → IsOfOther c bytes
  fields_other is = absurd (subst (λ q. Gives (λ st. st) q (state_at c.system rest)) is gives)

  pub fields_wrong : IsFlat c.system → length bytes < 2 ^ 64 → r ≡ Err fault.WrongForm → IsWrong c bytes
  fields_wrong whole few is =
      let none : state_at c.system rest ≡ None = subst (λ q. Gives (λ st. st) q (state_at c.system rest)) is gives in
      (not_other c bytes rest marked, λ st of spelled. not_state c bytes rest st whole few marked none of spelled)
