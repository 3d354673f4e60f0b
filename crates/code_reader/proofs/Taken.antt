-- What is read as a number, a name, a list or a type is spelled so.
use Rattle.std.proofs.Common.{◌≡◌, ℕ, zero, suc, ◌+◌, ◌^◌, ◌<◌, ◌≤◌, Bool, true, false, cond, ltb, eqb, List, [], ◌∷◌, ◌++◌, length, get_or, take, drop, Option, Some, None, refl, sym, ap, subst, ◌∙◌, append_assoc, arith, inl, inr}
use Rattle.std.specs.Prelude.{IfSome, ◌&&◌, nat_le}
use Rattle.std.specs.Int.{w32, w64, from_be_bytes, to_be_bytes}
use Rattle.std.specs.List.{AllByRecursion, flat_map}
use Rattle.std.proofs.lemmas.Bool.{and_parts, cases_Bool, cases_lt, eqb-true, leb-true, ltb-false}
use Rattle.std.proofs.lemmas.List.{get_or-drop, get_or-take, get_or_past, length-take, take-append-drop}
use Rattle.std.proofs.lemmas.List.Concat.{flat_map-cons}
use Rattle.std.proofs.lemmas.Nat.{be_bytes_4, be_bytes_8}
use Rattle.tsl_value.specs.declared.scalar.KeyType.{KeyType}
use Rattle.tsl_value.specs.declared.scalar.ScalarType.{ScalarType}
use Rattle.tsl_value.specs.declared.scalar.ValueType.{ValueType}
use Rattle.tsl_value.specs.declared.scalar.ValueType.TheVariants as value_type
use Rattle.spec_lexer.specs.declared.limits.TheConstants.{MOST_NAME_BYTES}
use Rattle.trace_reader.specs.Form.{is_name}
use Rattle.trace_reader.proofs.NameLemmas.{name_spelled}
use Rattle.code_file.specs.Form.{IsName}
use Rattle.code_file.specs.Spelling.{key_place, list_bytes, name_bytes, number, optional_name, scalar_place, type_bytes}
use Rattle.code_file.specs.inner.Reading.{◌>>=◌, Read, at_place, byte_at, bytes_at, if_name, items_at, key_type_of, key_types, list_at, name_at, named_at, number_at, optional_name_at, scalar_type_of, scalar_types, type_after, type_at, wide_at}

-- ---- steps of reading

abbrev pub IsBytes : List ℕ → Type 0
IsBytes bytes = (i : ℕ) → get_or bytes i 0 < 256

pub IsBytes-drop : (n : ℕ) (bytes : List ℕ) → IsBytes bytes → IsBytes (drop n bytes)
IsBytes-drop n bytes h i = rw get_or-drop (h (n + i))

IsBytes-take : (n : ℕ) (bytes : List ℕ) → IsBytes bytes → IsBytes (take n bytes)
IsBytes-take n bytes h i =
    elim (cases_lt i n) [
      | inl lt ↦ rw (get_or-take n bytes i 0 lt) (h i)
      | inr le ↦ rw (get_or_past (take n bytes) i 0 (omega (arith, length-take n bytes))) (omega arith)
    ]

pub IsBytes-rest : (b : ℕ) (bytes : List ℕ) → IsBytes (b ∷ bytes) → IsBytes bytes
IsBytes-rest b bytes h i = h (suc i)

-- the value of a step that gave one
pub bind_some : {A B : Type 0} (r : Option A) (f : A → Option B) (y : B) → (r >>= f) ≡ Some y → (x : A) × (r ≡ Some x) × (f x ≡ Some y)
bind_some (Some x) f y e = (x, refl, e)
bind_some None f y e = absurd cc

pub some_is : {A : Type 0} (x y : A) → Some x ≡ Some y → x ≡ y
some_is x y e = cc

-- a test that was passed, and one that was not met
pub passed_test : {A : Type 0} (b : Bool) (x y : A) → cond b (Some x) None ≡ Some y → (b ≡ true) × (x ≡ y)
passed_test true x y e = (refl, cc)
passed_test false x y e = absurd cc

pub failed_test : {A : Type 0} (b : Bool) (x y : A) → cond b None (Some x) ≡ Some y → (b ≡ false) × (x ≡ y)
failed_test true x y e = absurd cc
failed_test false x y e = (refl, cc)

-- a test, as it came out
pub if_true : {A : Type 0} (b : Bool) (x y z : A) → b ≡ true → cond b x y ≡ z → x ≡ z
if_true true x y z is e = e
if_true false x y z is e = absurd cc

pub if_false : {A : Type 0} (b : Bool) (x y z : A) → b ≡ false → cond b x y ≡ z → y ≡ z
if_false true x y z is e = absurd cc
if_false false x y z is e = e

-- what was taken from the front
pub record Takes (bytes front rest : List ℕ) : Type 0 where
  pub parts : bytes ≡ front ++ rest
  pub rest_fits : IsBytes rest

pub Takes-then : (a x b y c : List ℕ) → Takes a x b → Takes b y c → Takes a (x ++ y) c
Takes-then a x b y c p q = record { parts = p.parts ∙ ap (λ (t : List ℕ). x ++ t) q.parts ∙ sym (append_assoc x y c); rest_fits = q.rest_fits }

-- Bytes are read as values that fit and with whose spelling they begin.
abbrev pub AreTaken : {A : Type 0} → (A → List ℕ) → (A → Type 0) → (List ℕ → Read A) → Type 0
AreTaken {A} spell Fits read = (bytes : List ℕ) (x : A) (rest : List ℕ) → IsBytes bytes → read bytes ≡ Some (x, rest) → Takes bytes (spell x) rest × Fits x

-- ---- bytes and numbers

pub bytes_taken : (n : ℕ) → AreTaken (λ t. t) (λ t. length t ≡ n) (bytes_at n)
bytes_taken n bytes t rest fits e =
    let g = failed_test (ltb (length bytes) n) (take n bytes, drop n bytes) (t, rest) e in
    let long : n ≤ length bytes = ltb-false _ _ g.0 in
    subst (λ (p : List ℕ × List ℕ). Takes bytes p.0 p.1 × (length p.0 ≡ n)) g.1
    (record { parts = sym (take-append-drop n bytes); rest_fits = IsBytes-drop n bytes fits }, omega (arith, length-take n bytes))

below_4 : (bytes : List ℕ) → IsBytes bytes → from_be_bytes w32 bytes < 2 ^ 32
below_4 bytes fits = omega (arith, fits 0, fits 1, fits 2, fits 3)

below_8 : (bytes : List ℕ) → IsBytes bytes → from_be_bytes w64 bytes < 2 ^ 64
below_8 bytes fits = omega (arith, fits 0, fits 1, fits 2, fits 3, fits 4, fits 5, fits 6, fits 7)

pub number_taken : AreTaken number (λ n. n < 2 ^ 32) number_at
number_taken bytes n rest fits e =
    let g = failed_test (ltb (length bytes) 4) (from_be_bytes w32 (take 4 bytes), drop 4 bytes) (n, rest) e in
    let long : 4 ≤ length bytes = ltb-false _ _ g.0 in
    let len : length (take 4 bytes) ≡ 4 = omega (arith, length-take 4 bytes) in
    let front = IsBytes-take 4 bytes fits in
    let back : number (from_be_bytes w32 (take 4 bytes)) ≡ take 4 bytes = be_bytes_4 (take 4 bytes) _ len front refl in
    subst (λ (p : ℕ × List ℕ). Takes bytes (number p.0) p.1 × (p.0 < 2 ^ 32)) g.1 (
      record { parts = sym (take-append-drop 4 bytes) ∙ ap (λ (t : List ℕ). t ++ drop 4 bytes) (sym back); rest_fits = IsBytes-drop 4 bytes fits },
      below_4 (take 4 bytes) front,
    )

pub wide_taken : AreTaken (to_be_bytes w64) (λ n. n < 2 ^ 64) wide_at
wide_taken bytes n rest fits e =
    let g = failed_test (ltb (length bytes) 8) (from_be_bytes w64 (take 8 bytes), drop 8 bytes) (n, rest) e in
    let long : 8 ≤ length bytes = ltb-false _ _ g.0 in
    let len : length (take 8 bytes) ≡ 8 = omega (arith, length-take 8 bytes) in
    let front = IsBytes-take 8 bytes fits in
    let back : to_be_bytes w64 (from_be_bytes w64 (take 8 bytes)) ≡ take 8 bytes = be_bytes_8 (take 8 bytes) _ len front refl in
    subst (λ (p : ℕ × List ℕ). Takes bytes (to_be_bytes w64 p.0) p.1 × (p.0 < 2 ^ 64)) g.1 (
      record { parts = sym (take-append-drop 8 bytes) ∙ ap (λ (t : List ℕ). t ++ drop 8 bytes) (sym back); rest_fits = IsBytes-drop 8 bytes fits },
      below_8 (take 8 bytes) front,
    )

-- ---- names

if_name_is : (bytes name : List ℕ) → if_name bytes ≡ Some name → (bytes ≡ name) × IsName bytes
if_name_is bytes name e =
    let g = passed_test (is_name bytes && nat_le (length bytes) MOST_NAME_BYTES) bytes name e in
    let both = and_parts (is_name bytes) (nat_le (length bytes) MOST_NAME_BYTES) g.0 in
    (g.1, (name_spelled bytes both.0, leb-true _ _ both.1))

named_taken : (n : ℕ) → AreTaken (λ name. name) (λ name. (length name ≡ n) × IsName name) (named_at n)
named_taken n bytes name rest fits e =
    let a = bind_some (bytes_at n bytes) (λ p. if_name p.0 >>= λ x. Some (x, p.1)) (name, rest) e in
    let b = bind_some (if_name a.0.0) (λ x. Some (x, a.0.1)) (name, rest) a.2 in
    let t = bytes_taken n bytes a.0.0 a.0.1 fits a.1 in
    let named = if_name_is a.0.0 b.0 b.1 in
    subst (λ (p : List ℕ × List ℕ). Takes bytes p.0 p.1 × ((length p.0 ≡ n) × IsName p.0)) (some_is (b.0, a.0.1) (name, rest) b.2)
    (subst (λ (x : List ℕ). Takes bytes x a.0.1 × ((length x ≡ n) × IsName x)) named.0 (t.0, (t.1, named.1)))

-- after its length
counted_name : (bytes : List ℕ) (n : ℕ) (more name rest : List ℕ) → Takes bytes (number n) more → Takes more name rest → length name ≡ n → Takes bytes (name_bytes name) rest
counted_name bytes n more name rest first second size =
    subst (λ (m : ℕ). Takes bytes (number m ++ name) rest) (sym size) (Takes-then bytes (number n) more name rest first second)

pub name_taken : AreTaken name_bytes IsName name_at
unfolding name_at
name_taken bytes name rest fits e =
    let a = bind_some (number_at bytes) (λ n. named_at n.0 n.1) (name, rest) e in
    let first = number_taken bytes a.0.0 a.0.1 fits a.1 in
    let second = named_taken a.0.0 a.0.1 name rest first.0.rest_fits a.2 in
    (counted_name bytes a.0.0 a.0.1 name rest first.0 second.0 second.1.0, second.1.1)

pub optional_name_taken : AreTaken optional_name (λ name. IfSome name IsName) optional_name_at
unfolding optional_name_at
optional_name_taken bytes name rest fits e =
    let a = bind_some (number_at bytes) (λ n. cond (eqb n.0 0) (Some (None, n.1)) (named_at n.0 n.1 >>= λ x. Some (Some x.0, x.1))) (name, rest) e in
    let first = number_taken bytes a.0.0 a.0.1 fits a.1 in
    elim (cases_Bool (eqb a.0.0 0)) [
      | inl none ↦
          let is = if_true (eqb a.0.0 0) (Some (None, a.0.1)) (named_at a.0.0 a.0.1 >>= λ x. Some (Some x.0, x.1)) (Some (name, rest)) none a.2 in
          subst (λ (p : Option (List ℕ) × List ℕ). Takes bytes (optional_name p.0) p.1 × IfSome p.0 IsName) (some_is (None, a.0.1) (name, rest) is)
          (subst (λ (m : ℕ). Takes bytes (number m) a.0.1) (eqb-true a.0.0 0 none) first.0, tt)
      | inr some ↦
          let is = if_false (eqb a.0.0 0) (Some (None, a.0.1)) (named_at a.0.0 a.0.1 >>= λ x. Some (Some x.0, x.1)) (Some (name, rest)) some a.2 in
          let b = bind_some (named_at a.0.0 a.0.1) (λ x. Some (Some x.0, x.1)) (name, rest) is in
          let second = named_taken a.0.0 a.0.1 b.0.0 b.0.1 first.0.rest_fits b.1 in
          subst (λ (p : Option (List ℕ) × List ℕ). Takes bytes (optional_name p.0) p.1 × IfSome p.0 IsName) (some_is (Some b.0.0, b.0.1) (name, rest) b.2)
          (counted_name bytes a.0.0 a.0.1 b.0.0 b.0.1 first.0 second.0 second.1.0, second.1.1)
    ]

-- ---- items one after the other

module _ {A : Type 0} (spell : A → List ℕ) (Fits : A → Type 0) (read : List ℕ → Read A) (taken : AreTaken spell Fits read) where
  pub items_taken : (n : ℕ) → AreTaken (flat_map spell) (λ xs. (length xs ≡ n) × AllByRecursion Fits xs) (items_at read n)
  unfolding items_at
  items_taken zero bytes xs rest fits e =
      subst (λ (p : List A × List ℕ). Takes bytes (flat_map spell p.0) p.1 × ((length p.0 ≡ 0) × AllByRecursion Fits p.0)) (some_is ([], bytes) (xs, rest) e)
      (record { parts = refl; rest_fits = fits }, (refl, tt))
  items_taken (suc n) bytes xs rest fits e =
      let a = bind_some (read bytes) (λ first. items_at read n first.1 >>= λ others. Some (first.0 ∷ others.0, others.1)) (xs, rest) e in
      let b = bind_some (items_at read n a.0.1) (λ others. Some (a.0.0 ∷ others.0, others.1)) (xs, rest) a.2 in
      let first = taken bytes a.0.0 a.0.1 fits a.1 in
      let others = items_taken n a.0.1 b.0.0 b.0.1 first.0.rest_fits b.1 in
      let both = Takes-then bytes (spell a.0.0) a.0.1 (flat_map spell b.0.0) b.0.1 first.0 others.0 in
      subst (λ (p : List A × List ℕ). Takes bytes (flat_map spell p.0) p.1 × ((length p.0 ≡ suc n) × AllByRecursion Fits p.0)) (some_is (a.0.0 ∷ b.0.0, b.0.1) (xs, rest) b.2)
      (rw flat_map-cons both, (ap suc others.1.0, (first.1, others.1.1)))

pub list_taken : AreTaken list_bytes (λ ns. (length ns < 2 ^ 32) × AllByRecursion (λ n. n < 2 ^ 32) ns) list_at
unfolding list_at
list_taken bytes ns rest fits e =
    let a = bind_some (number_at bytes) (λ n. items_at number_at n.0 n.1) (ns, rest) e in
    let first = number_taken bytes a.0.0 a.0.1 fits a.1 in
    let second = items_taken number (λ n. n < 2 ^ 32) number_at number_taken a.0.0 a.0.1 ns rest first.0.rest_fits a.2 in
    let both = Takes-then bytes (number a.0.0) a.0.1 (flat_map number ns) rest first.0 second.0 in
    (subst (λ (m : ℕ). Takes bytes (number m ++ flat_map number ns) rest) (sym second.1.0) both, (omega (arith, first.1, second.1.0), second.1.1))

-- ---- types

pub at_place_is : {A : Type 0} (place : A → ℕ) (xs : List A) (b : ℕ) (x : A) → at_place place xs b ≡ Some x → b ≡ place x
at_place_is place [] b x e = absurd cc
at_place_is {A} place (y ∷ xs) b x e = elim (cases_Bool (eqb b (place y))) [
  | inl here ↦
      let is = if_true (eqb b (place y)) (Some y) (at_place place xs b) (Some x) here e in
      eqb-true b (place y) here ∙ ap place (some_is y x is)
  | inr later ↦ at_place_is place xs b x (if_false (eqb b (place y)) (Some y) (at_place place xs b) (Some x) later e)
]

scalar_type_is : (b : ℕ) (t : ScalarType) → scalar_type_of b ≡ Some t → b ≡ scalar_place t
unfolding scalar_type_of
scalar_type_is b t e = at_place_is scalar_place scalar_types b t e

key_type_is : (b : ℕ) (k : KeyType) → key_type_of b ≡ Some k → b ≡ key_place k
unfolding key_type_of
key_type_is b k e = at_place_is key_place key_types b k e

-- a byte
pub byte_taken : {A : Type 0} (place : A → ℕ) (of : ℕ → Option A) → ((b : ℕ) (x : A) → of b ≡ Some x → b ≡ place x)
    → (bytes : List ℕ) (x : A) (rest : List ℕ) → IsBytes bytes → byte_at of bytes ≡ Some (x, rest) → Takes bytes (place x ∷ []) rest
byte_taken place of right [] x rest fits e = absurd cc
byte_taken {A} place of right (b ∷ bytes) x rest fits e =
    let a = bind_some (of b) (λ y. Some (y, bytes)) (x, rest) e in
    subst (λ (p : A × List ℕ). Takes (b ∷ bytes) (place p.0 ∷ []) p.1) (some_is (a.0, bytes) (x, rest) a.2)
    (record { parts = ap (λ n. n ∷ bytes) (right b a.0 a.1); rest_fits = IsBytes-rest b bytes fits })

pub scalar_type_taken : (bytes : List ℕ) (t : ScalarType) (rest : List ℕ) → IsBytes bytes → byte_at scalar_type_of bytes ≡ Some (t, rest) → Takes bytes (scalar_place t ∷ []) rest
scalar_type_taken = byte_taken scalar_place scalar_type_of scalar_type_is

key_type_taken : (bytes : List ℕ) (k : KeyType) (rest : List ℕ) → IsBytes bytes → byte_at key_type_of bytes ≡ Some (k, rest) → Takes bytes (key_place k ∷ []) rest
key_type_taken = byte_taken key_place key_type_of key_type_is

-- one byte more in front
pub after_byte : (b c : ℕ) (bytes front rest : List ℕ) → b ≡ c → Takes bytes front rest → Takes (b ∷ bytes) (c ∷ front) rest
after_byte b c bytes front rest is t = record { parts = (λ k. is k ∷ t.parts k); rest_fits = t.rest_fits }

abbrev set_read : List ℕ → Read ValueType
set_read rest = byte_at key_type_of rest >>= λ k. Some (value_type.Set k.0, k.1)

abbrev map_read : List ℕ → Read ValueType
map_read rest = byte_at key_type_of rest >>= λ k. byte_at scalar_type_of k.1 >>= λ t. Some (value_type.Map k.0 t.0, t.1)

abbrev queue_read : List ℕ → Read ValueType
queue_read rest = byte_at scalar_type_of rest >>= λ t. Some (value_type.Queue t.0, t.1)

abbrev scalar_read : ℕ → List ℕ → Read ValueType
scalar_read b rest = scalar_type_of b >>= λ t. Some (value_type.Scalar t, rest)

abbrev IsType : List ℕ → ValueType × List ℕ → Type 0
IsType bytes p = Takes bytes (type_bytes p.0) p.1

set_taken : (b : ℕ) (bytes : List ℕ) (t : ValueType) (rest : List ℕ) → IsBytes bytes → b ≡ 4 → set_read bytes ≡ Some (t, rest) → Takes (b ∷ bytes) (type_bytes t) rest
set_taken b bytes t rest fits is e =
    let a = bind_some (byte_at key_type_of bytes) (λ k. Some (value_type.Set k.0, k.1)) (t, rest) e in
    subst (IsType (b ∷ bytes)) (some_is (value_type.Set a.0.0, a.0.1) (t, rest) a.2)
    (after_byte b 4 bytes (key_place a.0.0 ∷ []) a.0.1 is (key_type_taken bytes a.0.0 a.0.1 fits a.1))

map_taken : (b : ℕ) (bytes : List ℕ) (t : ValueType) (rest : List ℕ) → IsBytes bytes → b ≡ 5 → map_read bytes ≡ Some (t, rest) → Takes (b ∷ bytes) (type_bytes t) rest
map_taken b bytes t rest fits is e =
    let a = bind_some (byte_at key_type_of bytes) (λ k. byte_at scalar_type_of k.1 >>= λ x. Some (value_type.Map k.0 x.0, x.1)) (t, rest) e in
    let c = bind_some (byte_at scalar_type_of a.0.1) (λ x. Some (value_type.Map a.0.0 x.0, x.1)) (t, rest) a.2 in
    let key = key_type_taken bytes a.0.0 a.0.1 fits a.1 in
    let value = scalar_type_taken a.0.1 c.0.0 c.0.1 key.rest_fits c.1 in
    subst (IsType (b ∷ bytes)) (some_is (value_type.Map a.0.0 c.0.0, c.0.1) (t, rest) c.2)
    (after_byte b 5 bytes (key_place a.0.0 ∷ scalar_place c.0.0 ∷ []) c.0.1 is (Takes-then bytes (key_place a.0.0 ∷ []) a.0.1 (scalar_place c.0.0 ∷ []) c.0.1 key value))

queue_taken : (b : ℕ) (bytes : List ℕ) (t : ValueType) (rest : List ℕ) → IsBytes bytes → b ≡ 6 → queue_read bytes ≡ Some (t, rest) → Takes (b ∷ bytes) (type_bytes t) rest
queue_taken b bytes t rest fits is e =
    let a = bind_some (byte_at scalar_type_of bytes) (λ x. Some (value_type.Queue x.0, x.1)) (t, rest) e in
    subst (IsType (b ∷ bytes)) (some_is (value_type.Queue a.0.0, a.0.1) (t, rest) a.2)
    (after_byte b 6 bytes (scalar_place a.0.0 ∷ []) a.0.1 is (scalar_type_taken bytes a.0.0 a.0.1 fits a.1))

plain_taken : (b : ℕ) (bytes : List ℕ) (t : ValueType) (rest : List ℕ) → IsBytes bytes → scalar_read b bytes ≡ Some (t, rest) → Takes (b ∷ bytes) (type_bytes t) rest
plain_taken b bytes t rest fits e =
    let a = bind_some (scalar_type_of b) (λ x. Some (value_type.Scalar x, bytes)) (t, rest) e in
    subst (IsType (b ∷ bytes)) (some_is (value_type.Scalar a.0, bytes) (t, rest) a.2)
    (after_byte b (scalar_place a.0) bytes [] bytes (scalar_type_is b a.0 a.1) (record { parts = refl; rest_fits = fits }))

type_after_taken : (b : ℕ) (bytes : List ℕ) (t : ValueType) (rest : List ℕ) → IsBytes bytes → type_after b bytes ≡ Some (t, rest) → Takes (b ∷ bytes) (type_bytes t) rest
type_after_taken b bytes t rest fits e = elim (cases_Bool (eqb b 4)) [
  | inl set ↦ set_taken b bytes t rest fits (eqb-true b 4 set) (if_true (eqb b 4) (set_read bytes) _ (Some (t, rest)) set e)
  | inr no_set ↦
      let e1 = if_false (eqb b 4) (set_read bytes) _ (Some (t, rest)) no_set e in
      elim (cases_Bool (eqb b 5)) [
        | inl map ↦ map_taken b bytes t rest fits (eqb-true b 5 map) (if_true (eqb b 5) (map_read bytes) _ (Some (t, rest)) map e1)
        | inr no_map ↦
            let e2 = if_false (eqb b 5) (map_read bytes) _ (Some (t, rest)) no_map e1 in
            elim (cases_Bool (eqb b 6)) [
              | inl queue ↦ queue_taken b bytes t rest fits (eqb-true b 6 queue) (if_true (eqb b 6) (queue_read bytes) (scalar_read b bytes) (Some (t, rest)) queue e2)
              | inr no_queue ↦ plain_taken b bytes t rest fits (if_false (eqb b 6) (queue_read bytes) (scalar_read b bytes) (Some (t, rest)) no_queue e2)
            ]
      ]
]

pub type_taken : (bytes : List ℕ) (t : ValueType) (rest : List ℕ) → IsBytes bytes → type_at bytes ≡ Some (t, rest) → Takes bytes (type_bytes t) rest
unfolding type_at
type_taken [] t rest fits e = absurd cc
type_taken (b ∷ bytes) t rest fits e = type_after_taken b bytes t rest (IsBytes-rest b bytes fits) e
