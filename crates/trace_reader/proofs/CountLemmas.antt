-- How many lines stand in bytes.
use Rattle.std.proofs.Common.{◌≡◌, ◌==◌, ◌≤◌, ℕ, ◌+◌, Bool, true, false, List, [], ◌∷◌, ◌++◌, length, take, drop, Option, Some, None, refl, ap, subst, ◌∙◌, arith, length-append}
use Rattle.std.specs.Prelude.{if◌then◌else◌}
use Rattle.std.specs.Option.{option_or}
use Rattle.std.proofs.lemmas.Option.{same_Some}
use Rattle.trace_reader.specs.Form.{split_once}
use Rattle.trace_reader.specs.Reading.{alone, cut, last_line, lines_of, put_before}
use Rattle.trace_reader.specs.inner.Reader.{IsFirstLine, Passes}
use Rattle.trace_reader.proofs.CutLemmas.{cut-first, cut_by}

-- the bytes of a line more make no line
put_count : (b : ℕ) (ls : List (List ℕ)) (rest : List ℕ) → length (put_before b ls rest).0 ≡ length ls
put_count b [] rest = refl
put_count b (l ∷ ls) rest = refl

-- each whole line has an end
few_step : (is_end : Bool) (b : ℕ) (bytes : List ℕ) → length (cut bytes).0 ≤ length bytes →
    length (let c = (if is_end then ([] ∷ (cut bytes).0, (cut bytes).1) else put_before b (cut bytes).0 (cut bytes).1) in c.0) ≤ length (b ∷ bytes)
few_step true b bytes few = omega arith
few_step false b bytes few = let same = put_count b (cut bytes).0 (cut bytes).1 in omega arith

pub lines_few : (bytes : List ℕ) → length (cut bytes).0 ≤ length bytes
lines_few [] = omega arith
lines_few (b ∷ bytes) = few_step (b == 10) b bytes (lines_few bytes)

-- bytes that follow make a line each at most
added_step : (is_end : Bool) (b : ℕ) (front back : List ℕ) → length (cut (front ++ back)).0 ≤ length (cut front).0 + length back →
    length (let c = (if is_end then ([] ∷ (cut (front ++ back)).0, (cut (front ++ back)).1) else put_before b (cut (front ++ back)).0 (cut (front ++ back)).1) in c.0)
    ≤ length (let c = (if is_end then ([] ∷ (cut front).0, (cut front).1) else put_before b (cut front).0 (cut front).1) in c.0) + length back
added_step true b front back few = omega arith
added_step false b front back few =
    let whole = put_count b (cut (front ++ back)).0 (cut (front ++ back)).1 in
    let same = put_count b (cut front).0 (cut front).1 in
    omega arith

pub lines_added : (front back : List ℕ) → length (cut (front ++ back)).0 ≤ length (cut front).0 + length back
lines_added [] back = let few = lines_few back in omega arith
lines_added (b ∷ front) back = added_step (b == 10) b front back (lines_added front back)

-- at the end of the trace one more may stand
last_few : (rest : List ℕ) (ended : Bool) → length (if ended then last_line rest else []) ≤ 1
last_few rest false = omega arith
last_few [] true = omega arith
last_few (b ∷ rest) true = omega arith

pub lines_whole : (bytes : List ℕ) → length (lines_of bytes false) ≡ length (cut bytes).0
lines_whole bytes = let both = length-append (cut bytes).0 [] in omega arith

pub lines_one : (bytes : List ℕ) (ended : Bool) → length (lines_of bytes ended) ≤ length (lines_of bytes false) + 1
lines_one bytes ended =
    let both = length-append (cut bytes).0 (if ended then last_line (cut bytes).1 else []) in
    let few = last_few (cut bytes).1 ended in
    let whole = lines_whole bytes in
    omega arith

-- the first line, and those after it
abbrev lines_by : List (List ℕ) × List ℕ → Bool → List (List ℕ)
lines_by c ended = c.0 ++ (if ended then last_line c.1 else [])

alone_first : (bytes line rest : List ℕ) → alone bytes ≡ Some (line, rest) → length (lines_by (cut_by None bytes) true) ≡ length (lines_of rest true) + 1
alone_first [] line rest is = absurd (cc)
alone_first (b ∷ bytes) line rest is =
    let none : [] ≡ rest = ap (λ (p : List ℕ × List ℕ). p.1) (same_Some (b ∷ bytes, []) (line, rest) is) in
    subst (λ (r : List ℕ). 1 ≡ length (lines_of r true) + 1) none refl

first_by : (ended : Bool) (bytes : List ℕ) (o : Option (List ℕ × List ℕ)) (line rest : List ℕ) → option_or o (if ended then alone bytes else None) ≡ Some (line, rest) →
    length (lines_by (cut_by o bytes) ended) ≡ length (lines_of rest ended) + 1
first_by ended bytes (Some p) line rest is =
    let same = ap (λ (q : List ℕ × List ℕ). length (lines_of q.1 ended)) (same_Some p (line, rest) is) in
    omega arith
first_by true bytes None line rest is = alone_first bytes line rest is
first_by false bytes None line rest is = absurd (cc)

pub lines_first : (bytes : List ℕ) (ended : Bool) (len : ℕ) → IsFirstLine bytes ended len → length (lines_of bytes ended) ≡ length (lines_of (drop (len + 1) bytes) ended) + 1
lines_first bytes ended len has =
    ap (λ c. length (lines_by c ended)) (cut-first bytes) ∙ first_by ended bytes (split_once 10 bytes) (take len bytes) (drop (len + 1) bytes) has

-- lines that are skipped
pub passes_lines : (ended : Bool) (bytes : List ℕ) (count : ℕ) (rest : List ℕ) → Passes ended bytes count rest → count + length (lines_of rest ended) ≡ length (lines_of bytes ended)
passes_lines ended bytes _ _ Passes.none = omega arith
passes_lines ended bytes _ _ (Passes.more {count} {rest} len before has skips) =
    let sum = passes_lines ended bytes count rest before in
    let first = lines_first rest ended len has in
    omega arith
