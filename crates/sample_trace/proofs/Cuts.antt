-- The sample trace, cut at its line feeds.
use Rattle.std.proofs.Common.{◌≡◌, ◌==◌, ℕ, zero, suc, ◌+◌, ◌%◌, ◌<◌, ◌≤◌, ◌^◌, false, List, [], ◌∷◌, ◌++◌, codes, map, refl, ap, subst, ◌∙◌, append_assoc, arith, inl, inr}
use Rattle.std.proofs.lemmas.Bool.{cases_Bool, eqb-true}
use Rattle.std.proofs.lemmas.Fmt.{decimal_is_IsNumeral}
use Rattle.std.proofs.lemmas.List.Elements.{All-append, All-cons, All-nil}
use Rattle.std.proofs.lemmas.List.Splits.{slice_split_at}
use Rattle.std.specs.Char.{digit_value}
use Rattle.std.specs.Fmt.{decimal}
use Rattle.std.specs.List.{All, range_with_len, slice_split}
use Rattle.std.specs.Str.Parse.{AllDigits}
use Rattle.sample_trace.specs.inner.Laws.{HasOneLineEach, said_text}
use Rattle.sample_trace.specs.Trace.{line_text, lines_text}

abbrev IsInLine : ℕ → Type 0
IsInLine b = (b == 10) ≡ false

digit_in_line : (b : ℕ) → digit_value b < 10 → IsInLine b
digit_in_line b low = elim (cases_Bool (b == 10)) [
  | inl feed ↦ let none : digit_value 10 < 10 = subst (λ (n : ℕ). digit_value n < 10) (eqb-true b 10 feed) low in absurd (omega arith)
  | inr other ↦ other
]

digits_in_line : (ds : List ℕ) → AllDigits 10 ds → All IsInLine ds
digits_in_line [] all = All-nil IsInLine
digits_in_line (d ∷ ds) all = All-cons IsInLine d ds (digit_in_line d all.0) (digits_in_line ds all.1)

number_in_line : (n : ℕ) → n < 2 ^ 64 → All IsInLine (decimal n)
number_in_line n low = digits_in_line (decimal n) (decimal_is_IsNumeral n low).0.1

mark_in_line : All IsInLine (codes ": i = ")
mark_in_line =
    All-cons IsInLine 58 (codes " i = ") refl (All-cons IsInLine 32 (codes "i = ") refl (All-cons IsInLine 105 (codes " = ") refl (All-cons IsInLine 32 (codes "= ") refl
    (All-cons IsInLine 61 (codes " ") refl (All-cons IsInLine 32 [] refl (All-nil IsInLine))))))

said_in_line : (time : ℕ) → time < 2 ^ 64 → All IsInLine (said_text time)
unfolding said_text
said_in_line time low =
    All-append IsInLine (decimal time) (codes ": i = " ++ decimal (time % 1000)) (number_in_line time low)
    (All-append IsInLine (codes ": i = ") (decimal (time % 1000)) mark_in_line (number_in_line (time % 1000) (omega arith)))

line_ends : (time : ℕ) (rest : List ℕ) → line_text time ++ rest ≡ said_text time ++ 10 ∷ rest
unfolding line_text said_text
line_ends time rest = simp append_assoc

cut_lines : (from n : ℕ) → from + n ≤ 2 ^ 64 → slice_split (λ b. b == 10) (lines_text from n) ≡ map said_text (range_with_len from n) ++ [] ∷ []
cut_lines from zero low = refl
cut_lines from (suc n) low =
    let rest = lines_text (from + 1) n in
    ap (slice_split (λ b. b == 10)) (line_ends from rest) ∙ slice_split_at (λ b. b == 10) (said_text from) 10 rest (said_in_line from (omega arith)) refl
    ∙ ap (λ (l : List (List ℕ)). said_text from ∷ l) (cut_lines (from + 1) n (omega arith))

pub one_line_each : HasOneLineEach
one_line_each count low = cut_lines 1 count (omega arith)
