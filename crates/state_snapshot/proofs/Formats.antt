-- Formats: what is read is spelled so, and what was spelled is read again.
use Rattle.std.proofs.Common.{◌≡◌, ℕ, zero, suc, ◌+◌, ◌^◌, ◌<◌, ◌≤◌, Bool, true, false, cond, ltb, List, [], ◌∷◌, ◌++◌, length, get_or, take, drop, Option, Some, None, refl, sym, ap, subst, ◌∙◌, append_assoc, arith, inl, inr}
use Rattle.std.specs.Prelude.{IfSome}
use Rattle.std.specs.Int.{w64, from_be_bytes}
use Rattle.std.specs.List.{AllByRecursion, flat_map}
use Rattle.std.proofs.lemmas.Bool.{cases_lt, ltb-false, ltb-true, le-ltb, lt-ltb}
use Rattle.std.proofs.lemmas.List.{take_at, drop_at, take-append-drop, length-append, length-take, get_or-drop, get_or-take, get_or_past}
use Rattle.std.proofs.lemmas.List.Concat.{flat_map-cons}
use Rattle.std.proofs.lemmas.Nat.{be_bytes_8, from_be_bytes-to_be_bytes_8}
use Rattle.run_state.specs.Spelling.{flag, number, optional, text}
use Rattle.state_snapshot.specs.inner.Reading.{◌>>=◌, Read, flag_at, if_time, items_at, number_at, optional_at, text_at}

abbrev pub IsBytes : List ℕ → Type 0
IsBytes bytes = (i : ℕ) → get_or bytes i 0 < 256

pub IsBytes-drop : (n : ℕ) (bytes : List ℕ) → IsBytes bytes → IsBytes (drop n bytes)
IsBytes-drop n bytes h i = rw get_or-drop (h (n + i))

IsBytes-take : (n : ℕ) (bytes : List ℕ) → IsBytes bytes → IsBytes (take n bytes)
IsBytes-take n bytes h i =
    elim (cases_lt i n) [
      | inl lt ↦ rw (get_or-take n bytes i 0 lt) (h i)
      | inr le ↦ rw (get_or_past (take n bytes) i 0 (omega (arith, length-take n bytes))) (omega arith)
    ]

pub IsBytes-rest : (b : ℕ) (bytes : List ℕ) → IsBytes (b ∷ bytes) → IsBytes bytes
IsBytes-rest b bytes h i = h (suc i)

-- the value of a step that gave one
pub bind_some : {A B : Type 0} (r : Option A) (f : A → Option B) (y : B) → (r >>= f) ≡ Some y → (x : A) × (r ≡ Some x) × (f x ≡ Some y)
bind_some (Some x) f y e = (x, refl, e)
bind_some None f y e = absurd cc

pub some_is : {A : Type 0} (x y : A) → Some x ≡ Some y → x ≡ y
some_is x y e = cc

-- a test that was passed
pub passed_test : {A : Type 0} (b : Bool) (x y : A) → cond b (Some x) None ≡ Some y → (b ≡ true) × (x ≡ y)
passed_test true x y e = (refl, cc)
passed_test false x y e = absurd cc

-- such a test before what may give nothing
pub passed_first : {A : Type 0} (b : Bool) (x : Option A) (y : A) → cond b x None ≡ Some y → (b ≡ true) × (x ≡ Some y)
passed_first true x y e = (refl, e)
passed_first false x y e = absurd cc

-- a test that was not met
pub failed_test : {A : Type 0} (b : Bool) (x y : A) → cond b None (Some x) ≡ Some y → (b ≡ false) × (x ≡ y)
failed_test true x y e = absurd cc
failed_test false x y e = (refl, cc)

-- what was taken from the front
pub record Takes (bytes front rest : List ℕ) : Type 0 where
  pub parts : bytes ≡ front ++ rest
  pub rest_fits : IsBytes rest

pub Takes-then : (a x b y c : List ℕ) → Takes a x b → Takes b y c → Takes a (x ++ y) c
Takes-then a x b y c p q = record { parts = p.parts ∙ ap (λ (t : List ℕ). x ++ t) q.parts ∙ sym (append_assoc x y c); rest_fits = q.rest_fits }

-- Bytes are read as a value exactly where they begin with its spelling, and the value fits.
pub record IsFormat {A : Type 0} (spell : A → List ℕ) (read : List ℕ → Read A) (Fits : A → Type 0) : Type 0 where
  pub takes : (bytes : List ℕ) (x : A) (rest : List ℕ) → IsBytes bytes → read bytes ≡ Some (x, rest) → Takes bytes (spell x) rest × Fits x
  pub again : (x : A) (rest : List ℕ) → Fits x → read (spell x ++ rest) ≡ Some (x, rest)

-- ---- numbers

back_8 : (bytes : List ℕ) → length bytes ≡ 8 → IsBytes bytes → number (from_be_bytes w64 bytes) ≡ bytes
back_8 bytes len fits = be_bytes_8 bytes _ len fits refl

below_8 : (bytes : List ℕ) → IsBytes bytes → from_be_bytes w64 bytes < 2 ^ 64
below_8 bytes fits = omega (arith, fits 0, fits 1, fits 2, fits 3, fits 4, fits 5, fits 6, fits 7)

pub length-number : (n : ℕ) → length (number n) ≡ 8
length-number n = refl

number_takes : (bytes : List ℕ) (n : ℕ) (rest : List ℕ) → IsBytes bytes → number_at bytes ≡ Some (n, rest) → Takes bytes (number n) rest × (n < 2 ^ 64)
number_takes bytes n rest fits e =
    let g = failed_test (ltb (length bytes) 8) (from_be_bytes w64 (take 8 bytes), drop 8 bytes) (n, rest) e in
    let long : 8 ≤ length bytes = ltb-false _ _ g.0 in
    let len : length (take 8 bytes) ≡ 8 = omega (arith, length-take 8 bytes) in
    let front = IsBytes-take 8 bytes fits in
    subst (λ (p : ℕ × List ℕ). Takes bytes (number p.0) p.1 × (p.0 < 2 ^ 64)) g.1 (
      record { parts = sym (take-append-drop 8 bytes) ∙ ap (λ (t : List ℕ). t ++ drop 8 bytes) (sym (back_8 (take 8 bytes) len front)); rest_fits = IsBytes-drop 8 bytes fits },
      below_8 (take 8 bytes) front,
    )

number_again : (n : ℕ) (rest : List ℕ) → n < 2 ^ 64 → number_at (number n ++ rest) ≡ Some (n, rest)
number_again n rest lt =
    let bytes = number n ++ rest in
    let long : ltb (length bytes) 8 ≡ false = le-ltb _ _ (omega (arith, length-append (number n) rest, length-number n)) in
    let front = take_at (number n) rest 8 (sym (length-number n)) in
    let back = drop_at (number n) rest 8 (sym (length-number n)) in
    ap (λ b. cond b None (Some (from_be_bytes w64 (take 8 bytes), drop 8 bytes))) long
    ∙ (λ i. Some (from_be_bytes w64 (front i), back i))
    ∙ ap (λ m. Some (m, rest)) (from_be_bytes-to_be_bytes_8 n lt)

pub number_format : IsFormat number number_at (λ n. n < 2 ^ 64)
number_format = record { takes = number_takes; again = number_again }

-- ---- texts

text_takes : (bytes t rest : List ℕ) → IsBytes bytes → text_at bytes ≡ Some (t, rest) → Takes bytes (text t) rest × (length t < 2 ^ 64)
unfolding text_at
text_takes bytes t rest fits e =
    let a = bind_some (number_at bytes) (λ n. cond (ltb (length n.1) n.0) None (Some (take n.0 n.1, drop n.0 n.1))) (t, rest) e in
    let n = a.0.0 in let more = a.0.1 in
    let first = number_takes bytes n more fits a.1 in
    let g = failed_test (ltb (length more) n) (take n more, drop n more) (t, rest) a.2 in
    let long : n ≤ length more = ltb-false _ _ g.0 in
    let len : length (take n more) ≡ n = omega (arith, length-take n more) in
    let second : Takes more (take n more) (drop n more) = record { parts = sym (take-append-drop n more); rest_fits = IsBytes-drop n more first.0.rest_fits } in
    let both = Takes-then bytes (number n) more (take n more) (drop n more) first.0 second in
    subst (λ (p : List ℕ × List ℕ). Takes bytes (text p.0) p.1 × (length p.0 < 2 ^ 64)) g.1 (
      subst (λ (k : ℕ). Takes bytes (number k ++ take n more) (drop n more)) (sym len) both,
      omega (arith, first.1, len),
    )

text_again : (t rest : List ℕ) → length t < 2 ^ 64 → text_at (text t ++ rest) ≡ Some (t, rest)
unfolding text_at
text_again t rest lt =
    let regrouped : text t ++ rest ≡ number (length t) ++ (t ++ rest) = append_assoc (number (length t)) t rest in
    let long : ltb (length (t ++ rest)) (length t) ≡ false = le-ltb _ _ (omega (arith, length-append t rest)) in
    ap text_at regrouped ∙ rw (number_again (length t) (t ++ rest) lt, long, take_at t rest (length t) refl, drop_at t rest (length t) refl) refl

pub text_format : IsFormat text text_at (λ t. length t < 2 ^ 64)
text_format = record { takes = text_takes; again = text_again }

-- ---- flags, and times that may be there

flag_takes : (bytes : List ℕ) (b : Bool) (rest : List ℕ) → IsBytes bytes → flag_at bytes ≡ Some (b, rest) → Takes bytes (flag b) rest × Unit {0}
flag_takes [] b rest fits e = absurd cc
flag_takes (zero ∷ bytes) b rest fits e =
    subst (λ (p : Bool × List ℕ). Takes (0 ∷ bytes) (flag p.0) p.1 × Unit {0}) (some_is (false, bytes) (b, rest) e) (record { parts = refl; rest_fits = IsBytes-rest 0 bytes fits }, tt)
flag_takes (suc zero ∷ bytes) b rest fits e =
    subst (λ (p : Bool × List ℕ). Takes (1 ∷ bytes) (flag p.0) p.1 × Unit {0}) (some_is (true, bytes) (b, rest) e) (record { parts = refl; rest_fits = IsBytes-rest 1 bytes fits }, tt)
flag_takes (suc (suc n) ∷ bytes) b rest fits e = absurd cc

flag_again : (b : Bool) (rest : List ℕ) → Unit {0} → flag_at (flag b ++ rest) ≡ Some (b, rest)
flag_again false rest fits = refl
flag_again true rest fits = refl

pub flag_format : IsFormat flag flag_at (λ b. Unit {0})
flag_format = record { takes = flag_takes; again = flag_again }

optional_takes : (bytes : List ℕ) (o : Option ℕ) (rest : List ℕ) → IsBytes bytes → optional_at bytes ≡ Some (o, rest) → Takes bytes (optional o) rest × IfSome o (λ t. t < 2 ^ 63)
unfolding optional_at
optional_takes [] o rest fits e = absurd cc
optional_takes (zero ∷ bytes) o rest fits e =
    subst (λ (p : Option ℕ × List ℕ). Takes (0 ∷ bytes) (optional p.0) p.1 × IfSome p.0 (λ t. t < 2 ^ 63)) (some_is (None, bytes) (o, rest) e) (record { parts = refl; rest_fits = IsBytes-rest 0 bytes fits }, tt)
optional_takes (suc zero ∷ bytes) o rest fits e =
    let a = bind_some (number_at bytes) if_time (o, rest) e in
    let first = number_takes bytes a.0.0 a.0.1 (IsBytes-rest 1 bytes fits) a.1 in
    let g = passed_test (ltb a.0.0 0x8000_0000_0000_0000) (Some a.0.0, a.0.1) (o, rest) a.2 in
    subst (λ (p : Option ℕ × List ℕ). Takes (1 ∷ bytes) (optional p.0) p.1 × IfSome p.0 (λ t. t < 2 ^ 63)) g.1 (
      record { parts = ap (λ (t : List ℕ). 1 ∷ t) first.0.parts; rest_fits = first.0.rest_fits },
      ltb-true _ _ g.0,
    )
optional_takes (suc (suc n) ∷ bytes) o rest fits e = absurd cc

optional_again : (o : Option ℕ) (rest : List ℕ) → IfSome o (λ t. t < 2 ^ 63) → optional_at (optional o ++ rest) ≡ Some (o, rest)
unfolding optional_at
optional_again None rest fits = refl
optional_again (Some t) rest fits =
    let low : ltb t 0x8000_0000_0000_0000 ≡ true = lt-ltb _ _ fits in
    rw (number_again t rest (omega (arith, fits)), low) refl

pub optional_format : IsFormat optional optional_at (λ o. IfSome o (λ t. t < 2 ^ 63))
optional_format = record { takes = optional_takes; again = optional_again }

-- ---- so many items of one format

module _ {A : Type 0} {spell : A → List ℕ} {read : List ℕ → Read A} {Fits : A → Type 0} (format : IsFormat spell read Fits) where
  pub items_take : (n : ℕ) (bytes : List ℕ) (xs : List A) (rest : List ℕ) → IsBytes bytes → items_at read n bytes ≡ Some (xs, rest) → Takes bytes (flat_map spell xs) rest × (length xs ≡ n) × AllByRecursion Fits xs
  items_take zero bytes xs rest fits e =
      subst (λ (p : List A × List ℕ). Takes bytes (flat_map spell p.0) p.1 × (length p.0 ≡ 0) × AllByRecursion Fits p.0) (some_is ([], bytes) (xs, rest) e) (record { parts = refl; rest_fits = fits }, refl, tt)
  items_take (suc n) bytes xs rest fits e =
      let a = bind_some (read bytes) (λ first. items_at read n first.1 >>= λ others. Some (first.0 ∷ others.0, others.1)) (xs, rest) e in
      let b = bind_some (items_at read n a.0.1) (λ others. Some (a.0.0 ∷ others.0, others.1)) (xs, rest) a.2 in
      let first = format.takes bytes a.0.0 a.0.1 fits a.1 in
      let others = items_take n a.0.1 b.0.0 b.0.1 first.0.rest_fits b.1 in
      let both = Takes-then bytes (spell a.0.0) a.0.1 (flat_map spell b.0.0) b.0.1 first.0 others.0 in
      subst (λ (p : List A × List ℕ). Takes bytes (flat_map spell p.0) p.1 × (length p.0 ≡ suc n) × AllByRecursion Fits p.0) (some_is (a.0.0 ∷ b.0.0, b.0.1) (xs, rest) b.2)
      (rw flat_map-cons both, ap suc others.1, (first.1, others.2))

  pub items_again : (xs : List A) (rest : List ℕ) → AllByRecursion Fits xs → items_at read (length xs) (flat_map spell xs ++ rest) ≡ Some (xs, rest)
  items_again [] rest fits = refl
  items_again (x ∷ xs) rest fits =
      let regrouped : flat_map spell (x ∷ xs) ++ rest ≡ spell x ++ (flat_map spell xs ++ rest) = ap (λ (t : List ℕ). t ++ rest) (flat_map-cons spell x xs) ∙ append_assoc (spell x) (flat_map spell xs) rest in
      ap (items_at read (suc (length xs))) regrouped ∙ rw (format.again x (flat_map spell xs ++ rest) fits.0, items_again xs rest fits.1) refl
