-- The lines of the sample trace, one after the other, and how long they are.
use Rattle.std.proofs.Common.{◌≡◌, ℕ, zero, suc, ◌+◌, ◌*◌, ◌%◌, ◌<◌, ◌≤◌, ◌^◌, ◌-◌, List, [], ◌++◌, length, codes, refl, sym, ap, ◌∙◌, append_assoc, append-nil, arith, length-append, inl, inr}
use Rattle.std.proofs.lemmas.Bool.{cases_lt}
use Rattle.std.proofs.lemmas.Fmt.{length-decimal-le}
use Rattle.std.specs.Fmt.{decimal}
use Rattle.sample_trace.specs.Trace.{line_text, lines_text, most_line}

pub lines_more : (from n : ℕ) → lines_text from (suc n) ≡ lines_text from n ++ line_text (from + n)
lines_more from zero = append-nil (line_text from) ∙ ap line_text (omega arith)
lines_more from (suc n) =
    let here : (from + 1) + n ≡ from + suc n = omega arith in
    ap (λ (l : List ℕ). line_text from ++ l) (lines_more (from + 1) n ∙ ap (λ (t : ℕ). lines_text (from + 1) n ++ line_text t) here) ∙ sym (append_assoc (line_text from) (lines_text (from + 1) n) (line_text (from + suc n)))

-- one time more
pub lines_to : (from time : ℕ) → from ≤ time → lines_text from (time + 1 - from) ≡ lines_text from (time - from) ++ line_text time
lines_to from time le =
    let more : time + 1 - from ≡ suc (time - from) = omega arith in
    let here : from + (time - from) ≡ time = omega arith in
    ap (lines_text from) more ∙ lines_more from (time - from) ∙ ap (λ (t : ℕ). lines_text from (time - from) ++ line_text t) here

line_short : (time : ℕ) → time < 2 ^ 64 → length (line_text time) ≤ 30
unfolding line_text
line_short time low =
    let long : length (decimal time) ≤ 20 = length-decimal-le 20 time (omega arith) (omega arith) low in
    let value : length (decimal (time % 1000)) ≤ 3 = length-decimal-le 3 (time % 1000) (omega arith) (omega arith) (omega arith) in
    omega (arith, length-append (decimal time) (codes ": i = " ++ (decimal (time % 1000) ++ codes "\n")), length-append (decimal (time % 1000)) (codes "\n"))

pub lines_short : (from n : ℕ) → from + n ≤ 2 ^ 64 → length (lines_text from n) ≤ n * most_line
lines_short from zero low = omega arith
lines_short from (suc n) low =
    omega (arith, length-append (line_text from) (lines_text (from + 1) n), line_short from (omega arith), lines_short (from + 1) n (omega arith))

pub to_short : (from to : ℕ) → to < 2 ^ 64 → length (lines_text from (to - from)) ≤ (to - from) * most_line
to_short from to low = elim (cases_lt to from) [
  | inl none ↦ let same : to - from ≡ 0 = omega arith in rw same (omega arith)
  | inr some ↦ lines_short from (to - from) (omega arith)
]

-- so many lines, and more after them
pub lines_join : (from n more : ℕ) → lines_text from (n + more) ≡ lines_text from n ++ lines_text (from + n) more
lines_join from zero more = let here : from ≡ from + 0 = omega arith in let all : 0 + more ≡ more = omega arith in ap (lines_text from) all ∙ ap (λ (t : ℕ). lines_text t more) here
lines_join from (suc n) more =
    let next : suc n + more ≡ suc (n + more) = omega arith in
    let here : (from + 1) + n ≡ from + suc n = omega arith in
    ap (lines_text from) next ∙ ap (λ (l : List ℕ). line_text from ++ l) (lines_join (from + 1) n more ∙ ap (λ (t : ℕ). lines_text (from + 1) n ++ lines_text t more) here)
    ∙ sym (append_assoc (line_text from) (lines_text (from + 1) n) (lines_text (from + suc n) more))

line_there : (time : ℕ) → 5 < length (line_text time)
unfolding line_text
line_there time =
    omega (arith, length-append (decimal time) (codes ": i = " ++ (decimal (time % 1000) ++ codes "\n")), length-append (decimal (time % 1000)) (codes "\n"))

-- no line is empty
pub lines_none : (from n : ℕ) → lines_text from n ≡ [] → n ≡ 0
lines_none from zero is = refl
lines_none from (suc n) is =
    absurd (omega (arith, ap length is, length-append (line_text from) (lines_text (from + 1) n), line_there from))
