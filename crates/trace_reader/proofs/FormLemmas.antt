-- The forms of a line by cuts are those of the relation.
use Rattle.std.proofs.Common.{◌≡◌, ◌==◌, ◌<◌, ℕ, Bool, true, false, ◌&&◌, ◌||◌, not, List, [], ◌∷◌, ◌++◌, length, Option, Some, None, refl, sym, ap, subst, ◌∙◌, arith, append-nil, append_assoc}
use Rattle.std.proofs.lemmas.Bool.{and_parts, eq-eqb, eqb-true, false≢true}
use Rattle.std.specs.Prelude.{if◌then◌else◌, codes}
use Rattle.std.specs.Char.{is_ascii_digit}
use Rattle.std.specs.List.{list_all}
use Rattle.std.specs.Option.{option_and_then, option_map}
use Rattle.std.proofs.lemmas.Option.{same_Some}
use Rattle.tsl_value.specs.Literal.{are_digits}
use Rattle.tsl_value.proofs.Digits.{are_digits-parts}
use Rattle.trace_reader.specs.Form.{LineParts, put_first, split_once, is_blank, is_end_blank, is_name, without_front, without_end, content, says_nothing, line_of_name, valued, named_by, after_time, timed, parts_of}
use Rattle.trace_reader.specs.inner.Spelling.{AreBlanks, AreDigits, AreEndBlanks, HasForm, IsSkippedLine, IsWhole, SpellsName}
use Rattle.trace_reader.proofs.CutLemmas.{split_by, split_once-append}
use Rattle.trace_reader.proofs.JudgedLemmas.{came}
use Rattle.trace_reader.proofs.NameLemmas.{is_inner, name_inner, name_read, name_some, name_spelled}
use Rattle.trace_reader.proofs.TrimLemmas.{EndTo, FrontTo, LastOf, StopsAt, all_joined, all_weaker, end_all, end_at, end_following, end_to, front_all, front_to, last_of, not_mark}

pub record Mapped {A B : Type 0} (f : A → B) (o : Option A) (y : B) : Type 0 where
  pub at : A
  pub is : o ≡ Some at
  pub gives : f at ≡ y

pub mapped : {A B : Type 0} (f : A → B) (o : Option A) (y : B) → option_map f o ≡ Some y → Mapped f o y
mapped f None y is = absurd (cc)
mapped f (Some x) y is = record { at = x; is = refl; gives = same_Some (f x) y is }

-- Bytes that pass a test which the mark doesn't pass have no mark, and split off at one after them.
module _ (p : ℕ → Bool) (mark : ℕ) (no_mark : p mark ≡ false) where
  none_step : (b : ℕ) (bytes : List ℕ) (is_mark : Bool) → b == mark ≡ is_mark → p b ≡ true → split_once mark bytes ≡ None →
      (if is_mark then Some ([], bytes) else option_map (put_first b) (split_once mark bytes)) ≡ None
  none_step b bytes true is passes ih = absurd (false≢true (sym no_mark ∙ ap p (sym (eqb-true b mark is)) ∙ passes))
  none_step b bytes false is passes ih = ap (option_map (put_first b)) ih

  pub none_among : (bytes : List ℕ) → list_all p bytes ≡ true → split_once mark bytes ≡ None
  none_among [] all = refl
  none_among (b ∷ bytes) all =
      let parts = and_parts (p b) (list_all p bytes) all in
      none_step b bytes (b == mark) refl parts.0 (none_among bytes parts.1)

  at_mark : (b : ℕ) (back : List ℕ) → b == mark ≡ true → split_once mark (b ∷ back) ≡ Some ([], back)
  at_mark b back is = λ k. if is k then Some ([], back) else option_map (put_first b) (split_once mark back)

  pub splits_off : (front back : List ℕ) → list_all p front ≡ true → split_once mark (front ++ mark ∷ back) ≡ Some (front, back)
  splits_off front back all =
      split_once-append mark front (mark ∷ back)
      ∙ ap (λ o. split_by mark o front (mark ∷ back)) (none_among front all)
      ∙ ap (option_map (λ (q : List ℕ × List ℕ). (front ++ q.0, q.1))) (at_mark mark back (eq-eqb mark mark refl))
      ∙ ap (λ bytes. Some (bytes, back)) (append-nil front)

-- What is split at a mark is joined by it.
joined_step : (mark b : ℕ) (bytes : List ℕ) (p : List ℕ × List ℕ) (is_mark : Bool) → b == mark ≡ is_mark →
    (if is_mark then Some ([], bytes) else option_map (put_first b) (split_once mark bytes)) ≡ Some p →
    ((q : List ℕ × List ℕ) → split_once mark bytes ≡ Some q → bytes ≡ q.0 ++ mark ∷ q.1) → b ∷ bytes ≡ p.0 ++ mark ∷ p.1
joined_step mark b bytes p true same is ih =
    subst (λ (q : List ℕ × List ℕ). b ∷ bytes ≡ q.0 ++ mark ∷ q.1) (same_Some ([], bytes) p is) (ap (λ c. c ∷ bytes) (eqb-true b mark same))
joined_step mark b bytes p false same is ih =
    let front = mapped (put_first b) (split_once mark bytes) p is in
    subst (λ (q : List ℕ × List ℕ). b ∷ bytes ≡ q.0 ++ mark ∷ q.1) front.gives (ap (λ bs. b ∷ bs) (ih front.at front.is))

pub joined : (mark : ℕ) (bytes : List ℕ) (p : List ℕ × List ℕ) → split_once mark bytes ≡ Some p → bytes ≡ p.0 ++ mark ∷ p.1
joined mark [] p is = absurd (cc)
joined mark (b ∷ bytes) p is = joined_step mark b bytes p (b == mark) refl is (joined mark bytes)

-- bytes of each kind
digit_no_blank : (b : ℕ) → is_ascii_digit b ≡ true → is_blank b ≡ false
digit_no_blank b is = λ k. not_mark is_ascii_digit b 32 is refl k || not_mark is_ascii_digit b 9 is refl k

blank_end : (b : ℕ) → is_blank b ≡ true → is_end_blank b ≡ true
blank_end b is = ap (λ t. t || (b == 13)) is

inner_no_blank : (b : ℕ) → is_inner b ≡ true → is_blank b ≡ false
inner_no_blank b is = λ k. not_mark is_inner b 32 is refl k || not_mark is_inner b 9 is refl k

inner_no_end : (b : ℕ) → is_inner b ≡ true → is_end_blank b ≡ false
inner_no_end b is = λ k. inner_no_blank b is k || not_mark is_inner b 13 is refl k

-- all but a colon, and all but `=`
abbrev no_colon : ℕ → Bool
no_colon b = not (b == 58)

abbrev no_equals : ℕ → Bool
no_equals b = not (b == 61)

not_by : (b mark : ℕ) → (b == mark) ≡ false → not (b == mark) ≡ true
not_by b mark is = ap not is

early : (time b : List ℕ) → are_digits time ≡ true → list_all is_blank b ≡ true → list_all no_colon (time ++ b) ≡ true
early time b digits blanks =
    all_joined no_colon time b
    (all_weaker is_ascii_digit no_colon time (λ c is. not_by c 58 (not_mark is_ascii_digit c 58 is refl)) (are_digits-parts time digits).1)
    (all_weaker is_blank no_colon b (λ c is. not_by c 58 (not_mark is_blank c 58 is refl)) blanks)

-- what begins with digits or a name begins with no blank, and has a last byte
digits_stop : (time rest : List ℕ) → are_digits time ≡ true → StopsAt is_blank (time ++ rest)
digits_stop [] rest is = let none = (are_digits-parts [] is).0 in absurd (omega arith)
digits_stop (t ∷ time) rest is = digit_no_blank t (and_parts (is_ascii_digit t) (list_all is_ascii_digit time) (are_digits-parts (t ∷ time) is).1).0

digits_last : (time : List ℕ) → are_digits time ≡ true → LastOf is_ascii_digit time
digits_last [] is = let none = (are_digits-parts [] is).0 in absurd (omega arith)
digits_last (t ∷ time) is = last_of is_ascii_digit t time (are_digits-parts (t ∷ time) is).1

pub says_digit : (t : ℕ) (bytes : List ℕ) → is_ascii_digit t ≡ true → says_nothing (t ∷ bytes) ≡ false
says_digit t [] is = not_mark is_ascii_digit t 35 is refl
says_digit t (c ∷ bytes) is = λ k. not_mark is_ascii_digit t 35 is refl k || (not_mark is_ascii_digit t 45 is refl k && (c == 45))

digits_say : (time rest : List ℕ) → are_digits time ≡ true → says_nothing (time ++ rest) ≡ false
digits_say [] rest is = let none = (are_digits-parts [] is).0 in absurd (omega arith)
digits_say (t ∷ time) rest is = says_digit t (time ++ rest) (and_parts (is_ascii_digit t) (list_all is_ascii_digit time) (are_digits-parts (t ∷ time) is).1).0

inner_stops : (name rest : List ℕ) → 0 < length name → list_all is_inner name ≡ true → StopsAt is_blank (name ++ rest)
inner_stops [] rest some all = absurd (omega arith)
inner_stops (b ∷ name) rest some all = inner_no_blank b (and_parts (is_inner b) (list_all is_inner name) all).0

inner_last : (name : List ℕ) → 0 < length name → list_all is_inner name ≡ true → LastOf is_inner name
inner_last [] some all = absurd (omega arith)
inner_last (b ∷ name) some all = last_of is_inner b name all

-- After a time: by what stands after the colon without its blanks.
after_some : (time bytes : List ℕ) → 0 < length bytes → after_time time bytes ≡ named_by time bytes (split_once 61 bytes)
after_some time [] some = absurd (omega arith)
after_some time (b ∷ bytes) some = refl

valued_some : (time name value : List ℕ) → 0 < length value → valued time name value ≡ line_of_name time name (Some value)
valued_some time name [] some = absurd (omega arith)
valued_some time name (b ∷ value) some = refl

called_is : (time name : List ℕ) (value : Option (List ℕ)) → SpellsName name → line_of_name time name value ≡ Some (record { time = time; name = Some name; value = value })
called_is time name value it = ap (λ ok. if ok then Some (record { time = time; name = Some name; value = value }) else None) (name_read name it)

-- A line of a time and what stands after its colon, of which the end is not dropped.
module _ (line a time b rest z : List ℕ) (blanks : AreBlanks a) (digits : AreDigits time) (between : AreBlanks b) (ends : without_end is_end_blank (rest ++ z) ≡ rest) (is : line ≡ a ++ (time ++ (b ++ (codes ":" ++ (rest ++ z))))) where
  abbrev core : List ℕ
  core = time ++ (b ++ (58 ∷ rest))

  whole_is : (tail : List ℕ) → a ++ (time ++ (b ++ (58 ∷ tail))) ≡ (a ++ (time ++ b)) ++ (58 ∷ tail)
  whole_is tail = ap (λ bs. a ++ bs) (sym (append_assoc time b (58 ∷ tail))) ∙ sym (append_assoc a (time ++ b) (58 ∷ tail))

  content_is : content line ≡ core
  content_is =
      ap content is
      ∙ ap (without_front is_blank) (ap (without_end is_end_blank) (whole_is (rest ++ z)) ∙ end_following is_end_blank (a ++ (time ++ b)) 58 (rest ++ z) refl
      ∙ ap (λ bs. (a ++ (time ++ b)) ++ (58 ∷ bs)) ends ∙ sym (whole_is rest))
      ∙ front_all is_blank a core blanks (digits_stop time (b ++ (58 ∷ rest)) digits)

  pub says_something : says_nothing (content line) ≡ false
  says_something = ap says_nothing content_is ∙ digits_say time (b ++ (58 ∷ rest)) digits

  time_trimmed : without_end is_blank (time ++ b) ≡ time
  time_trimmed = let last = digits_last time digits in end_at is_blank time last.front last.last b last.is (digit_no_blank last.last last.passes) between

  pub parts_are : parts_of (content line) ≡ after_time time (without_front is_blank rest)
  parts_are =
      ap parts_of (content_is ∙ sym (append_assoc time b (58 ∷ rest)))
      ∙ ap (option_and_then (λ (p : List ℕ × List ℕ). timed (without_end is_blank p.0) (without_front is_blank p.1))) (splits_off no_colon 58 refl (time ++ b) rest (early time b digits between))
      ∙ ap (λ t. timed t (without_front is_blank rest)) time_trimmed
      ∙ ap (λ ok. if ok then after_time time (without_front is_blank rest) else None) digits

-- Each form is cut into its parts.
record IsCut (line : List ℕ) (parts : LineParts) : Type 0 where
  says : says_nothing (content line) ≡ false
  parts_is : parts_of (content line) ≡ Some parts

cut_alone : (line a time b z : List ℕ) → AreBlanks a → AreDigits time → AreBlanks b → AreEndBlanks z → line ≡ a ++ (time ++ (b ++ (codes ":" ++ z))) → IsCut line (record { time = time; name = None; value = None })
cut_alone line a time b z blanks digits between end is = record {
  says = says_something line a time b [] z blanks digits between (end_all is_end_blank z end) is;
  parts_is = parts_are line a time b [] z blanks digits between (end_all is_end_blank z end) is;
}

cut_named : (line a time b c name z : List ℕ) → AreBlanks a → AreDigits time → AreBlanks b → AreBlanks c → SpellsName name → AreEndBlanks z →
    line ≡ a ++ (time ++ (b ++ (codes ":" ++ (c ++ (name ++ z))))) → IsCut line (record { time = time; name = Some name; value = None })
cut_named line a time b c name z blanks digits between before named end is =
    let some = name_some name named in
    let inner = name_inner name named in
    let last = inner_last name some inner in
    let ends : without_end is_end_blank ((c ++ name) ++ z) ≡ c ++ name =
    end_at is_end_blank (c ++ name) (c ++ last.front) last.last z (ap (λ bs. c ++ bs) last.is ∙ sym (append_assoc c last.front (last.last ∷ []))) (inner_no_end last.last last.passes) end in
    let whole : line ≡ a ++ (time ++ (b ++ (codes ":" ++ ((c ++ name) ++ z)))) = is ∙ ap (λ bs. a ++ (time ++ (b ++ (58 ∷ bs)))) (sym (append_assoc c name z)) in
    let front : without_front is_blank (c ++ name) ≡ name = front_all is_blank c name before (subst (StopsAt is_blank) (append-nil name) (inner_stops name [] some inner)) in
    record {
      says = says_something line a time b (c ++ name) z blanks digits between ends whole;
      parts_is =
          parts_are line a time b (c ++ name) z blanks digits between ends whole
          ∙ ap (after_time time) front ∙ after_some time name some
          ∙ ap (named_by time name) (none_among no_equals 61 refl name (all_weaker is_inner no_equals name (λ n is. not_by n 61 (not_mark is_inner n 61 is refl)) inner))
          ∙ called_is time name None named;
    }

-- a value, by its front and its last byte
whole_last : (value : List ℕ) → IsWhole value → LastOf (λ b. not (is_end_blank b)) value
whole_last [] it = absurd (it.some refl)
whole_last (b ∷ value) it =
    let last = last_of (λ c. true) b value (all_true (b ∷ value)) in
    record { front = last.front; last = last.last; is = last.is; passes = ap not (it.end last.front last.last last.is) }
  where
    all_true : (bytes : List ℕ) → list_all (λ c. true) bytes ≡ true
    all_true [] = refl
    all_true (c ∷ bytes) = all_true bytes

whole_stops : (value : List ℕ) → IsWhole value → StopsAt is_blank value
whole_stops [] it = tt
whole_stops (b ∷ value) it = it.front b value refl

whole_some : (value : List ℕ) → IsWhole value → 0 < length value
whole_some [] it = absurd (it.some refl)
whole_some (b ∷ value) it = omega arith

not_true : (b : Bool) → not b ≡ true → b ≡ false
not_true true is = absurd (cc)
not_true false is = refl

cut_valued : (line a time b c name d e value z : List ℕ) → AreBlanks a → AreDigits time → AreBlanks b → AreBlanks c → SpellsName name → AreBlanks d → AreBlanks e → IsWhole value → AreEndBlanks z →
    line ≡ a ++ (time ++ (b ++ (codes ":" ++ (c ++ (name ++ (d ++ (codes "=" ++ (e ++ (value ++ z))))))))) → IsCut line (record { time = time; name = Some name; value = Some value })
cut_valued line a time b c name d e value z blanks digits between before named after next whole end is =
    let some = name_some name named in
    let inner = name_inner name named in
    let last = inner_last name some inner in
    let final = whole_last value whole in
    let rest : List ℕ = c ++ (name ++ (d ++ (61 ∷ (e ++ value)))) in
    let to_end : (tail : List ℕ) → c ++ (name ++ (d ++ (61 ∷ (e ++ tail)))) ≡ (c ++ (name ++ (d ++ (61 ∷ e)))) ++ tail =
    λ tail. sym (append_assoc c (name ++ (d ++ (61 ∷ e))) tail ∙ ap (λ bs. c ++ bs) (append_assoc name (d ++ (61 ∷ e)) tail ∙ ap (λ bs. name ++ bs) (append_assoc d (61 ∷ e) tail))) in
    let rest_end : rest ++ z ≡ c ++ (name ++ (d ++ (61 ∷ (e ++ (value ++ z))))) =
    ap (λ bs. bs ++ z) (to_end value) ∙ append_assoc (c ++ (name ++ (d ++ (61 ∷ e)))) value z ∙ sym (to_end (value ++ z)) in
    let front_is : rest ≡ ((c ++ (name ++ (d ++ (61 ∷ e)))) ++ final.front) ++ final.last ∷ [] =
    to_end value ∙ ap (λ bs. (c ++ (name ++ (d ++ (61 ∷ e)))) ++ bs) final.is ∙ sym (append_assoc (c ++ (name ++ (d ++ (61 ∷ e)))) final.front (final.last ∷ [])) in
    let ends : without_end is_end_blank (rest ++ z) ≡ rest = end_at is_end_blank rest _ final.last z front_is (not_true (is_end_blank final.last) final.passes) end in
    let all : line ≡ a ++ (time ++ (b ++ (codes ":" ++ (rest ++ z)))) = is ∙ ap (λ bs. a ++ (time ++ (b ++ (58 ∷ bs)))) (sym rest_end) in
    let named_rest : List ℕ = name ++ (d ++ (61 ∷ (e ++ value))) in
    let front : without_front is_blank rest ≡ named_rest = front_all is_blank c named_rest before (inner_stops name (d ++ (61 ∷ (e ++ value))) some inner) in
    let long : 0 < length named_rest = some_longer name (d ++ (61 ∷ (e ++ value))) some in
    let split : split_once 61 named_rest ≡ Some (name ++ d, e ++ value) =
    ap (split_once 61) (sym (append_assoc name d (61 ∷ (e ++ value))))
    ∙ splits_off no_equals 61 refl (name ++ d) (e ++ value)
    (all_joined no_equals name d (all_weaker is_inner no_equals name (λ n is. not_by n 61 (not_mark is_inner n 61 is refl)) inner) (all_weaker is_blank no_equals d (λ n is. not_by n 61 (not_mark is_blank n 61 is refl)) after)) in
    let trimmed : without_end is_blank (name ++ d) ≡ name = end_at is_blank name last.front last.last d last.is (inner_no_blank last.last last.passes) after in
    let value_is : without_front is_blank (e ++ value) ≡ value = front_all is_blank e value next (whole_stops value whole) in
    record {
      says = says_something line a time b rest z blanks digits between ends all;
      parts_is =
          parts_are line a time b rest z blanks digits between ends all
          ∙ ap (after_time time) front ∙ after_some time named_rest long
          ∙ ap (named_by time named_rest) split
          ∙ (λ k. valued time (trimmed k) (value_is k))
          ∙ valued_some time name value (whole_some value whole)
          ∙ called_is time name (Some value) named;
    }
  where
    some_longer : (xs ys : List ℕ) → 0 < length xs → 0 < length (xs ++ ys)
    some_longer [] ys lt = absurd (omega arith)
    some_longer (x ∷ xs) ys lt = omega arith

is_cut : (line : List ℕ) (parts : LineParts) → HasForm line parts → IsCut line parts
is_cut line parts (HasForm.time_alone a time b z blanks digits between end is parts_are) = subst (IsCut line) (sym parts_are) (cut_alone line a time b z blanks digits between end is)
is_cut line parts (HasForm.named a time b c name z blanks digits between before named end is parts_are) = subst (IsCut line) (sym parts_are) (cut_named line a time b c name z blanks digits between before named end is)
is_cut line parts (HasForm.valued a time b c name d e value z blanks digits between before named after next whole end is parts_are) =
    subst (IsCut line) (sym parts_are) (cut_valued line a time b c name d e value z blanks digits between before named after next whole end is)

pub form_says : (line : List ℕ) (parts : LineParts) → HasForm line parts → says_nothing (content line) ≡ false
form_says line parts it = let cut = is_cut line parts it in cut.says

pub form_parts : (line : List ℕ) (parts : LineParts) → HasForm line parts → parts_of (content line) ≡ Some parts
form_parts line parts it = let cut = is_cut line parts it in cut.parts_is

-- From the cuts to the relation. What is split at a mark, and without the blanks around it.
module _ (mark : ℕ) (bytes x y front b c rest : List ℕ) (is : bytes ≡ x ++ mark ∷ y) (x_is : x ≡ front ++ b) (y_is : y ≡ c ++ rest) where
  parted : (z : List ℕ) → bytes ++ z ≡ front ++ (b ++ (mark ∷ (c ++ (rest ++ z))))
  parted z =
      ap (λ bs. bs ++ z) is ∙ append_assoc x (mark ∷ y) z
      ∙ ap (λ bs. bs ++ mark ∷ (y ++ z)) x_is ∙ append_assoc front b (mark ∷ (y ++ z))
      ∙ ap (λ bs. front ++ (b ++ (mark ∷ bs))) (ap (λ bs. bs ++ z) y_is ∙ append_assoc c rest z)

  ends_in : bytes ≡ ((front ++ b) ++ mark ∷ c) ++ rest
  ends_in = is ∙ (λ k. x_is k ++ mark ∷ y_is k) ∙ sym (append_assoc (front ++ b) (mark ∷ c) rest)

-- the last byte of bytes is that of what they end in
abbrev EndsFit : List ℕ → Type 0
EndsFit bytes = (front : List ℕ) (b : ℕ) → bytes ≡ front ++ b ∷ [] → is_end_blank b ≡ false

ends_fit : (bytes before rest : List ℕ) → bytes ≡ before ++ rest → EndsFit bytes → EndsFit rest
ends_fit bytes before rest is fit front b last = fit (before ++ front) b (is ∙ ap (λ bs. before ++ bs) last ∙ sym (append_assoc before front (b ∷ [])))

record Named (name : List ℕ) (made : LineParts) (parts : LineParts) : Type 0 where
  spelled : SpellsName name
  is : parts ≡ made

called_by : (name : List ℕ) (made parts : LineParts) (ok : Bool) → is_name name ≡ ok → (if ok then Some made else None) ≡ Some parts → Named name made parts
called_by name made parts true named is = record { spelled = name_spelled name named; is = sym (same_Some made parts is) }
called_by name made parts false named is = absurd (cc)

head_same : (b c : ℕ) (xs ys : List ℕ) → b ∷ xs ≡ c ∷ ys → b ≡ c
head_same b c xs ys is = cc

whole_by : (v : ℕ) (value : List ℕ) → is_blank v ≡ false → EndsFit (v ∷ value) → IsWhole (v ∷ value)
whole_by v value stops fit = record {
  front = λ b rest is. ap is_blank (sym (head_same v b value rest is)) ∙ stops;
  end = fit;
  some = λ is. cc;
}

module _ (line a time b z : List ℕ) (blanks : AreBlanks a) (digits : AreDigits time) (between : AreBlanks b) (end : AreEndBlanks z) where
  abbrev AtRest : List ℕ → List ℕ → Type 0
  AtRest c rest = line ≡ a ++ (time ++ (b ++ (codes ":" ++ (c ++ (rest ++ z)))))

  value_form : (c rest name d e : List ℕ) (parts : LineParts) (value : List ℕ) → AreBlanks c → AreBlanks d → AreBlanks e → StopsAt is_blank value → EndsFit value →
      line ≡ a ++ (time ++ (b ++ (codes ":" ++ (c ++ (name ++ (d ++ (codes "=" ++ (e ++ (value ++ z))))))))) → valued time name value ≡ Some parts → HasForm line parts
  value_form c rest name d e parts [] before after next stops fit is gives = absurd (cc)
  value_form c rest name d e parts (v ∷ value) before after next stops fit is gives =
      let it = called_by name (record { time = time; name = Some name; value = Some (v ∷ value) }) parts (is_name name) refl gives in
      HasForm.valued a time b c name d e (v ∷ value) z blanks digits between before it.spelled after next (whole_by v value stops fit) end is it.is

  named_form : (c rest : List ℕ) (parts : LineParts) (o : Option (List ℕ × List ℕ)) → split_once 61 rest ≡ o → AreBlanks c → AtRest c rest → EndsFit rest → named_by time rest o ≡ Some parts → HasForm line parts
  named_form c rest parts None split before is fit gives =
      let it = called_by rest (record { time = time; name = Some rest; value = None }) parts (is_name rest) refl gives in
      HasForm.named a time b c rest z blanks digits between before it.spelled end is it.is
  named_form c rest parts (Some p) split before is fit gives =
      let u = end_to is_blank p.0 in
      let w = front_to is_blank p.1 in
      let whole = joined 61 rest p split in
      value_form c rest (without_end is_blank p.0) u.dropped w.dropped parts (without_front is_blank p.1) before u.all w.all w.stops
      (ends_fit rest _ (without_front is_blank p.1) (ends_in 61 rest p.0 p.1 (without_end is_blank p.0) u.dropped w.dropped (without_front is_blank p.1) whole u.is w.is) fit)
      (is ∙ ap (λ bs. a ++ (time ++ (b ++ (58 ∷ (c ++ bs))))) (parted 61 rest p.0 p.1 (without_end is_blank p.0) u.dropped w.dropped (without_front is_blank p.1) whole u.is w.is z))
      gives

  rest_form : (c rest : List ℕ) (parts : LineParts) → AreBlanks c → AtRest c rest → EndsFit rest → after_time time rest ≡ Some parts → HasForm line parts
  rest_form c [] parts before is fit gives =
      HasForm.time_alone a time b (c ++ z) blanks digits between (all_joined is_end_blank c z (all_weaker is_blank is_end_blank c blank_end before) end) is
      (sym (same_Some (record { time = time; name = None; value = None }) parts gives))
  rest_form c (r ∷ rest) parts before is fit gives = named_form c (r ∷ rest) parts (split_once 61 (r ∷ rest)) refl before is fit gives

timed_by : (ok : Bool) (o : Option LineParts) (parts : LineParts) → (if ok then o else None) ≡ Some parts → (ok ≡ true) × (o ≡ Some parts)
timed_by true o parts is = (refl, is)
timed_by false o parts is = absurd (cc)

-- the blanks around a line's content
module _ (line : List ℕ) where
  abbrev at_end : EndTo is_end_blank line (without_end is_end_blank line)
  at_end = end_to is_end_blank line

  abbrev at_front : FrontTo is_blank (without_end is_end_blank line) (content line)
  at_front = front_to is_blank (without_end is_end_blank line)

  around : line ≡ at_front.dropped ++ (content line ++ at_end.dropped)
  around = at_end.is ∙ ap (λ bs. bs ++ at_end.dropped) at_front.is ∙ append_assoc at_front.dropped (content line) at_end.dropped

  pub parts_form : (parts : LineParts) → parts_of (content line) ≡ Some parts → HasForm line parts
  parts_form parts is =
      let split = came (λ (p : List ℕ × List ℕ). timed (without_end is_blank p.0) (without_front is_blank p.1)) (split_once 58 (content line)) parts is in
      let x = split.at.0 in
      let y = split.at.1 in
      let u = end_to is_blank split.at.0 in
      let w = front_to is_blank split.at.1 in
      let whole = joined 58 (content line) split.at split.is in
      let both = timed_by (are_digits (without_end is_blank split.at.0)) (after_time (without_end is_blank split.at.0) (without_front is_blank split.at.1)) parts split.gives in
      rest_form line at_front.dropped (without_end is_blank x) u.dropped at_end.dropped at_front.all both.0 u.all at_end.all w.dropped (without_front is_blank y) parts w.all
      (around ∙ ap (λ bs. at_front.dropped ++ bs) (parted 58 (content line) x y (without_end is_blank x) u.dropped w.dropped (without_front is_blank y) whole u.is w.is at_end.dropped))
      (ends_fit (content line) _ (without_front is_blank y) (ends_in 58 (content line) x y (without_end is_blank x) u.dropped w.dropped (without_front is_blank y) whole u.is w.is)
      (ends_fit (without_end is_end_blank line) at_front.dropped (content line) at_front.is at_end.stops))
      both.1

-- Lines that say nothing.
hash_by : (line a z bytes : List ℕ) (b : ℕ) → AreBlanks a → line ≡ a ++ (b ∷ bytes ++ z) → b == 35 ≡ true → IsSkippedLine line
hash_by line a z bytes b blanks is same = IsSkippedLine.hash a (bytes ++ z) blanks (is ∙ ap (λ c. a ++ (c ∷ bytes ++ z)) (eqb-true b 35 same))

dashes_by : (line a z bytes : List ℕ) (b c : ℕ) (hash : Bool) → AreBlanks a → line ≡ a ++ (b ∷ c ∷ bytes ++ z) → b == 35 ≡ hash → (hash || ((b == 45) && (c == 45))) ≡ true → IsSkippedLine line
dashes_by line a z bytes b c true blanks is same either = hash_by line a z (c ∷ bytes) b blanks is same
dashes_by line a z bytes b c false blanks is same either =
    let both = and_parts (b == 45) (c == 45) either in
    IsSkippedLine.dashes a (bytes ++ z) blanks (is ∙ λ k. a ++ (eqb-true b 45 both.0 k ∷ eqb-true c 45 both.1 k ∷ bytes ++ z))

skipped_by : (line a z bytes : List ℕ) → AreBlanks a → AreEndBlanks z → line ≡ a ++ (bytes ++ z) → says_nothing bytes ≡ true → IsSkippedLine line
skipped_by line a z [] blanks end is nothing =
    IsSkippedLine.blank (ap (list_all is_end_blank) is ∙ all_joined is_end_blank a z (all_weaker is_blank is_end_blank a blank_end blanks) end)
skipped_by line a z (b ∷ []) blanks end is nothing = hash_by line a z [] b blanks is nothing
skipped_by line a z (b ∷ c ∷ bytes) blanks end is nothing = dashes_by line a z bytes b c (b == 35) blanks is refl nothing

pub nothing_skipped : (line : List ℕ) → says_nothing (content line) ≡ true → IsSkippedLine line
nothing_skipped line nothing =
    let end = end_to is_end_blank line in
    let front = front_to is_blank (without_end is_end_blank line) in
    skipped_by line front.dropped end.dropped (content line) front.all end.all (around line) nothing

-- a comment stays a comment without what is dropped
comment_content : (a rest : List ℕ) (b : ℕ) → AreBlanks a → is_end_blank b ≡ false → is_blank b ≡ false → content (a ++ (b ∷ rest)) ≡ b ∷ without_end is_end_blank rest
comment_content a rest b blanks no_end no_blank =
    ap (without_front is_blank) (end_following is_end_blank a b rest no_end) ∙ front_all is_blank a (b ∷ without_end is_end_blank rest) blanks no_blank

hash_says : (bytes : List ℕ) → says_nothing (35 ∷ bytes) ≡ true
hash_says [] = refl
hash_says (c ∷ bytes) = refl

pub skipped_nothing : (line : List ℕ) → IsSkippedLine line → says_nothing (content line) ≡ true
skipped_nothing line (IsSkippedLine.blank all) = ap (λ bs. says_nothing (without_front is_blank bs)) (end_all is_end_blank line all)
skipped_nothing line (IsSkippedLine.hash a comment blanks is) =
    ap (λ bs. says_nothing (content bs)) is ∙ ap says_nothing (comment_content a comment 35 blanks refl refl) ∙ hash_says (without_end is_end_blank comment)
skipped_nothing line (IsSkippedLine.dashes a comment blanks is) =
    ap (λ bs. says_nothing (content bs)) is ∙ ap says_nothing (comment_content a (45 ∷ comment) 45 blanks refl refl ∙ ap (λ bs. 45 ∷ bs) (end_following is_end_blank [] 45 comment refl))
