-- A line's end after bytes that were searched.
use Rattle.std.proofs.Common.{drop-drop, ◌≡◌, ◌==◌, ◌≤◌, ◌<◌, ℕ, suc, ◌+◌, ◌-◌, Bool, true, false, List, [], ◌∷◌, ◌++◌, length, take, drop, Option, Some, None, refl, sym, ap, subst, ◌∙◌, arith, length-append, length-take, length-drop}
use Rattle.std.proofs.lemmas.List.{take-append-drop}
use Rattle.std.specs.Prelude.{if◌then◌else◌, position}
use Rattle.std.specs.Option.{option_map}
use Rattle.trace_reader.specs.Form.{put_first, split_once}
use Rattle.trace_reader.proofs.CutLemmas.{split_by, split_once-append}
use Rattle.trace_reader.proofs.SplitLemmas.{split_once-none, split_once-some}

-- the front is that of the list, and so is what stands after the mark
pub record IsSplit (bytes : List ℕ) (p : List ℕ × List ℕ) : Type 0 where
  pub within : length p.0 < length bytes
  pub front : p.0 ≡ take (length p.0) bytes
  pub after : p.1 ≡ drop (length p.0 + 1) bytes

abbrev IfSplit : List ℕ → Option (List ℕ × List ℕ) → Type 0
IfSplit bytes None = Unit {0}
IfSplit bytes (Some p) = IsSplit bytes p

put_split : (b : ℕ) (bytes : List ℕ) (o : Option (List ℕ × List ℕ)) → IfSplit bytes o → IfSplit (b ∷ bytes) (option_map (put_first b) o)
put_split b bytes None it = tt
put_split b bytes (Some p) it =
    let lt = it.within in
    let same : suc (length p.0 + 1) ≡ suc (length p.0) + 1 = omega arith in
    record {
      within = omega arith;
      front = ap (λ bs. b ∷ bs) it.front;
      after = it.after ∙ ap (λ n. drop n (b ∷ bytes)) same;
    }

split_step : (is_mark : Bool) (mark b : ℕ) (bytes : List ℕ) → IfSplit bytes (split_once mark bytes) → IfSplit (b ∷ bytes) (if is_mark then Some ([], bytes) else option_map (put_first b) (split_once mark bytes))
split_step true mark b bytes it = record { within = omega arith; front = refl; after = refl }
split_step false mark b bytes it = put_split b bytes (split_once mark bytes) it

splits : (mark : ℕ) (bytes : List ℕ) → IfSplit bytes (split_once mark bytes)
splits mark [] = tt
splits mark (b ∷ bytes) = split_step (b == mark) mark b bytes (splits mark bytes)

pub is_split : (mark : ℕ) (bytes : List ℕ) (p : List ℕ × List ℕ) → split_once mark bytes ≡ Some p → IsSplit bytes p
is_split mark bytes p is = subst (IfSplit bytes) is (splits mark bytes)

-- no mark stands in what stands before the first one
abbrev IfBefore : ℕ → Option (List ℕ × List ℕ) → Type 0
IfBefore mark None = Unit {0}
IfBefore mark (Some p) = split_once mark p.0 ≡ None

put_before : (mark b : ℕ) (o : Option (List ℕ × List ℕ)) → (b == mark) ≡ false → IfBefore mark o → IfBefore mark (option_map (put_first b) o)
put_before mark b None differs it = tt
put_before mark b (Some p) differs it = ap (λ c. if c then Some ([], p.0) else option_map (put_first b) (split_once mark p.0)) differs ∙ ap (option_map (put_first b)) it

before_step : (is_mark : Bool) (mark b : ℕ) (bytes : List ℕ) → (b == mark) ≡ is_mark → IfBefore mark (split_once mark bytes) → IfBefore mark (if is_mark then Some ([], bytes) else option_map (put_first b) (split_once mark bytes))
before_step true mark b bytes is it = refl
before_step false mark b bytes is it = put_before mark b (split_once mark bytes) is it

befores : (mark : ℕ) (bytes : List ℕ) → IfBefore mark (split_once mark bytes)
befores mark [] = tt
befores mark (b ∷ bytes) = before_step (b == mark) mark b bytes refl (befores mark bytes)

pub none_before : (mark : ℕ) (bytes : List ℕ) (p : List ℕ × List ℕ) → split_once mark bytes ≡ Some p → split_once mark p.0 ≡ None
none_before mark bytes p is = subst (IfBefore mark) is (befores mark bytes)

module _ (bytes : List ℕ) (start searched : ℕ) (low : start ≤ searched) (high : searched ≤ length bytes) (none : split_once 10 (take (searched - start) (drop start bytes)) ≡ None) where
  abbrev whole : List ℕ
  whole = drop start bytes

  abbrev front : List ℕ
  front = take (searched - start) whole

  abbrev back : List ℕ
  back = drop searched bytes

  whole_is : whole ≡ front ++ back
  whole_is =
      let same : start + (searched - start) ≡ searched = omega arith in
      sym (take-append-drop (searched - start) whole) ∙ ap (λ bs. front ++ bs) (drop-drop (searched - start) start bytes ∙ ap (λ n. drop n bytes) same)

  by_back : split_once 10 whole ≡ option_map (λ (p : List ℕ × List ℕ). (front ++ p.0, p.1)) (split_once 10 back)
  by_back = ap (split_once 10) whole_is ∙ split_once-append 10 front back ∙ ap (λ o. split_by 10 o front back) none

  pub none_after : None ≡ position (λ b. b == 10) back → split_once 10 whole ≡ None
  none_after is = by_back ∙ ap (option_map (λ (p : List ℕ × List ℕ). (front ++ p.0, p.1))) (split_once-none 10 back is)

  pub found_after : (more : ℕ) → Some more ≡ position (λ b. b == 10) back →
      (searched + more - start < length whole) × (split_once 10 whole ≡ Some (take (searched + more - start) whole, drop (searched + more - start + 1) whole))
  found_after more is =
      let at = split_once-some 10 more back is in
      let line : List ℕ × List ℕ = (front ++ take more back, drop (more + 1) back) in
      let here : split_once 10 whole ≡ Some line = by_back ∙ ap (option_map (λ (p : List ℕ × List ℕ). (front ++ p.0, p.1))) at in
      let later = is_split 10 back (take more back, drop (more + 1) back) at in
      let within = later.within in
      let it = is_split 10 whole line here in
      let lt = it.within in
      let taken = length-take more back in
      let fronts = length-take (searched - start) whole in
      let wholes = length-drop start bytes in
      let both = length-append front (take more back) in
      let len : length line.0 ≡ searched + more - start = omega arith in (
        subst (λ (n : ℕ). n < length whole) len it.within,
        here ∙ λ k. Some ((it.front ∙ ap (λ n. take n whole) len) k, (it.after ∙ ap (λ n. drop (n + 1) whole) len) k),
      )

  pub none_searched : (more : ℕ) → Some more ≡ position (λ b. b == 10) back → split_once 10 (take (searched + more - start) whole) ≡ None
  none_searched more is = none_before 10 whole (take (searched + more - start) whole, drop (searched + more - start + 1) whole) (found_after more is).1
