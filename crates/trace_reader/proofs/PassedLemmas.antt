-- What was taken off the front of the bytes that were fed are whole lines.
use Rattle.std.proofs.Common.{◌≡◌, ◌==◌, ℕ, suc, ◌+◌, ◌-◌, Bool, true, false, List, [], ◌∷◌, ◌++◌, length, take, drop, Some, None, refl, ap, sym, ◌∙◌, arith, append_assoc, length-append}
use Rattle.std.specs.Prelude.{if◌then◌else◌}
use Rattle.trace_reader.specs.Form.{split_once}
use Rattle.trace_reader.specs.Reading.{cut, put_before}
use Rattle.trace_reader.specs.inner.Reads.{HasPassed}
use Rattle.trace_reader.proofs.CutLemmas.{cut-first, cut_by, split_by, split_once-append, take-append}
use Rattle.trace_reader.proofs.FormLemmas.{joined}
use Rattle.trace_reader.proofs.LawLemmas.{cut-append}
use Rattle.trace_reader.proofs.UnreadLemmas.{none_before}

-- a line with its end is one line
cut_line : (line : List ℕ) → split_once 10 line ≡ None → cut (line ++ 10 ∷ []) ≡ ((line ++ []) ∷ [], [])
cut_line line none =
    cut-first (line ++ 10 ∷ [])
    ∙ ap (λ o. cut_by o (line ++ 10 ∷ [])) (split_once-append 10 line (10 ∷ []) ∙ ap (λ o. split_by 10 o line (10 ∷ [])) none)

pub cut_none : (bytes : List ℕ) → split_once 10 bytes ≡ None → cut bytes ≡ ([], bytes)
cut_none bytes none = cut-first bytes ∙ ap (λ o. cut_by o bytes) none

-- what follows whole lines
pub cut_after : (past more : List ℕ) → (cut past).1 ≡ [] → cut (past ++ more) ≡ ((cut past).0 ++ (cut more).0, (cut more).1)
cut_after past more whole = cut-append past more ∙ ap (λ rest. ((cut past).0 ++ (cut (rest ++ more)).0, (cut (rest ++ more)).1)) whole

-- a line more was taken
pub passed_line : (limit count len : ℕ) (unread fed : List ℕ) → split_once 10 unread ≡ Some (take len unread, drop (len + 1) unread) → HasPassed limit count unread fed → HasPassed limit (count + 1) (drop (len + 1) unread) fed
passed_line limit count len unread fed at it =
    let line = take len unread in
    let rest = drop (len + 1) unread in
    let whole = cut_after it.past (line ++ 10 ∷ []) it.whole ∙ ap (λ (c : List (List ℕ) × List ℕ). ((cut it.past).0 ++ c.0, c.1)) (cut_line line (none_before 10 unread (line, rest) at)) in
    let both = length-append (cut it.past).0 ((line ++ []) ∷ []) in
    let counted = it.counted in
    let sum : length ((cut it.past).0 ++ (line ++ []) ∷ []) ≡ count + 1 = omega arith in
    record {
      past = it.past ++ (line ++ 10 ∷ []);
      parts =
          it.parts ∙ ap (λ bytes. it.past ++ bytes) (joined 10 unread (line, rest) at ∙ sym (append_assoc line (10 ∷ []) rest))
          ∙ sym (append_assoc it.past (line ++ 10 ∷ []) rest);
      whole = ap (λ (c : List (List ℕ) × List ℕ). c.1) whole;
      counted = ap (λ (c : List (List ℕ) × List ℕ). length c.0) whole ∙ sum;
    }

-- a piece more was fed
pub passed_piece : (limit count : ℕ) (unread fed piece : List ℕ) (left : ℕ) → limit - length fed ≡ left → HasPassed limit count unread fed → HasPassed limit count (unread ++ take left piece) (fed ++ piece)
passed_piece limit count unread fed piece left is it = record {
  past = it.past;
  parts = take-append limit fed piece ∙ (λ k. it.parts k ++ take (is k) piece) ∙ append_assoc it.past unread (take left piece);
  whole = it.whole;
  counted = it.counted;
}

-- The whole lines at the front of bytes: bytes that are cut so are these and what stands after the last line's end.
pub record HasFront (bytes : List ℕ) (c : List (List ℕ) × List ℕ) : Type 0 where
  pub front : List ℕ
  pub parts : bytes ≡ front ++ c.1
  pub whole : (cut front).1 ≡ []
  pub counted : length (cut front).0 ≡ length c.0
  pub none : c.0 ≡ [] → front ≡ []

put_by : (b n : ℕ) (ls : List (List ℕ)) (rest : List ℕ) → rest ≡ [] → length ls ≡ suc n → ((put_before b ls rest).1 ≡ []) × (length (put_before b ls rest).0 ≡ suc n)
put_by b n [] rest none count = absurd (omega arith)
put_by b n (l ∷ ls) rest none count = (none, count)

front_put : (b : ℕ) (bytes : List ℕ) (ls : List (List ℕ)) (rest : List ℕ) → b == 10 ≡ false → HasFront bytes (ls, rest) → HasFront (b ∷ bytes) (put_before b ls rest)
front_put b bytes [] rest no_end it = record {
  front = [];
  parts = ap (λ bs. b ∷ bs) (it.parts ∙ ap (λ front. front ++ rest) (it.none refl));
  whole = refl;
  counted = refl;
  none = λ is. refl;
}
front_put b bytes (l ∷ ls) rest no_end it =
    let front = it.front in
    let step : cut (b ∷ front) ≡ put_before b (cut front).0 (cut front).1 = λ k. if no_end k then ([] ∷ (cut front).0, (cut front).1) else put_before b (cut front).0 (cut front).1 in
    let both = put_by b (length ls) (cut front).0 (cut front).1 it.whole it.counted in
    record {
      front = b ∷ front;
      parts = ap (λ bs. b ∷ bs) it.parts;
      whole = ap (λ (c : List (List ℕ) × List ℕ). c.1) step ∙ both.0;
      counted = ap (λ (c : List (List ℕ) × List ℕ). length c.0) step ∙ both.1;
      none = λ is. absurd (cc);
    }

front_step : (is_end : Bool) (b : ℕ) (bytes : List ℕ) → b == 10 ≡ is_end → HasFront bytes (cut bytes) →
    HasFront (b ∷ bytes) (if is_end then ([] ∷ (cut bytes).0, (cut bytes).1) else put_before b (cut bytes).0 (cut bytes).1)
front_step true b bytes is it =
    let front = it.front in
    let step : cut (b ∷ front) ≡ ([] ∷ (cut front).0, (cut front).1) = λ k. if is k then ([] ∷ (cut front).0, (cut front).1) else put_before b (cut front).0 (cut front).1 in
    record {
      front = b ∷ front;
      parts = ap (λ bs. b ∷ bs) it.parts;
      whole = ap (λ (c : List (List ℕ) × List ℕ). c.1) step ∙ it.whole;
      counted = ap (λ (c : List (List ℕ) × List ℕ). length c.0) step ∙ ap suc it.counted;
      none = λ is. absurd (cc);
    }
front_step false b bytes is it = front_put b bytes (cut bytes).0 (cut bytes).1 is it

pub has_front : (bytes : List ℕ) → HasFront bytes (cut bytes)
has_front [] = record { front = []; parts = refl; whole = refl; counted = refl; none = λ is. refl }
has_front (b ∷ bytes) = front_step (b == 10) b bytes refl (has_front bytes)
