-- Names, by their characters.
use Rattle.std.proofs.Common.{◌≡◌, ◌≢◌, ◌==◌, ◌≤◌, ◌<◌, ◌+◌, ◌/◌, ◌%◌, ℕ, Bool, true, false, ◌&&◌, ◌||◌, not, List, [], ◌∷◌, ◌++◌, length, nat_lt, Option, Some, None, refl, sym, ap, subst, ◌∙◌, arith, lit<, chars, is_some, inl, inr}
use Rattle.std.proofs.lemmas.Bool.{and_parts, cases_lt, eqb-true, ne_eqb, le-ltb}
use Rattle.std.specs.Prelude.{cond, if◌then◌else◌, is_none}
use Rattle.std.specs.Char.{encode_utf8}
use Rattle.std.specs.Str.{IsUtf8, is_utf8, encode_utf8_all}
use Rattle.std.proofs.lemmas.Str.{IsUtf8-from_is_utf8, chars_from_encodes, encode_ascii, encodes-chars, is_utf8-from_IsUtf8, length-le-encodes, scalars-chars}
use Rattle.std.specs.List.{list_all}
use Rattle.std.proofs.lemmas.Str.{chars_past_char}
use Rattle.std.proofs.Math.Bool.{and-false}
use Rattle.unicode_ident.specs.Ident.{is_xid_continue, is_xid_start}
use Rattle.unicode_ident.proofs.IdentLemmas.{is_xid_continue-ascii, is_xid_start-is_xid_continue}
use Rattle.spec_lexer.specs.declared.token.Word.{Word}
use Rattle.spec_lexer.specs.Spelling.{begins_name, word_spelling}
use Rattle.spec_lexer.specs.Source.{IsText}
use Rattle.spec_lexer.proofs.Words.{no_word, word_of-spells}
use Rattle.spec_lexer.specs.Found.{word_of}
use Rattle.trace_reader.specs.Form.{are_name_characters, is_end_blank, is_name}
use Rattle.trace_reader.specs.inner.Spelling.{SpellsName}
use Rattle.trace_reader.proofs.TrimLemmas.{all_joined, not_mark}

pub name_characters : (name rest : List ℕ) (first : ℕ) → IsUtf8 name → name ≡ encode_utf8 first ++ rest → begins_name first ≡ true → list_all is_xid_continue (chars rest) ≡ are_name_characters (chars name)
name_characters name rest first utf8 is begins =
    sym (ap are_name_characters (chars_past_char name rest first utf8 is) ∙ ap (λ b. b && list_all is_xid_continue (chars rest)) begins)

none_is : (o : Option Word) → is_none o ≡ not (is_some o)
none_is None = refl
none_is (Some w) = refl

-- bytes that are text, by whether they are a name's characters and a word
name_is : (bytes : List ℕ) (characters word : Bool) → is_utf8 bytes ≡ true → are_name_characters (chars bytes) ≡ characters → is_some (word_of bytes) ≡ word → is_name bytes ≡ (characters && not word)
unfolding is_name
name_is bytes characters word utf8 are is = λ k. utf8 k && (are k && (none_is (word_of bytes) ∙ ap not is) k)

pub no_text : (bytes : List ℕ) → is_utf8 bytes ≡ false → is_name bytes ≡ false
unfolding is_name
no_text bytes is = ap (λ b. b && (are_name_characters (chars bytes) && is_none (word_of bytes))) is

pub named : (bytes text : List ℕ) → text ≡ bytes → is_utf8 bytes ≡ true → true ≡ are_name_characters (chars text) → false ≡ is_some (word_of text) → Some text ≡ (if is_name bytes then Some bytes else None)
named bytes text same utf8 are word =
    let it = name_is bytes true false utf8 (ap (λ bs. are_name_characters (chars bs)) (sym same) ∙ sym are) (ap (λ bs. is_some (word_of bs)) (sym same) ∙ sym word) in
    ap (λ bs. Some bs) same ∙ ap (λ b. if b then Some bytes else None) (sym it)

pub not_named : (bytes : List ℕ) → is_name bytes ≡ false → None ≡ (if is_name bytes then Some bytes else None)
not_named bytes is = ap (λ b. if b then Some bytes else None) (sym is)

pub no_name : (bytes text : List ℕ) → text ≡ bytes → is_utf8 bytes ≡ true → false ≡ are_name_characters (chars text) → is_name bytes ≡ false
no_name bytes text same utf8 are = name_is bytes false (is_some (word_of bytes)) utf8 (ap (λ bs. are_name_characters (chars bs)) (sym same) ∙ sym are) refl

pub word_is_no_name : (bytes text : List ℕ) → text ≡ bytes → is_utf8 bytes ≡ true → true ≡ is_some (word_of text) → is_name bytes ≡ false
word_is_no_name bytes text same utf8 word =
    name_is bytes (are_name_characters (chars bytes)) true utf8 refl (ap (λ bs. is_some (word_of bs)) (sym same) ∙ sym word) ∙ and-false (are_name_characters (chars bytes))

-- a name's characters, as the relation has them
record HasCharacters (cs : List ℕ) : Type 0 where
  first : ℕ
  more : List ℕ
  is : cs ≡ first ∷ more
  begins : begins_name first ≡ true
  continues : list_all is_xid_continue more ≡ true

characters_of : (cs : List ℕ) → are_name_characters cs ≡ true → HasCharacters cs
characters_of [] is = absurd (cc)
characters_of (c ∷ cs) is = let parts = and_parts (begins_name c) (list_all is_xid_continue cs) is in record { first = c; more = cs; is = refl; begins = parts.0; continues = parts.1 }

none_from_test : (o : Option Word) → is_none o ≡ true → o ≡ None
none_from_test None is = refl
none_from_test (Some w) is = absurd (cc)

pub name_spelled : (bytes : List ℕ) → is_name bytes ≡ true → SpellsName bytes
unfolding is_name
name_spelled bytes is =
    let outer = and_parts (is_utf8 bytes) (are_name_characters (chars bytes) && is_none (word_of bytes)) is in
    let inner = and_parts (are_name_characters (chars bytes)) (is_none (word_of bytes)) outer.1 in
    let utf8 = IsUtf8-from_is_utf8 bytes outer.0 in
    let it = characters_of (chars bytes) inner.0 in
    record {
      first = it.first;
      more = it.more;
      text = subst (λ (cs : List ℕ). IsText cs bytes) it.is (record { scalars = scalars-chars bytes utf8; encoded = encodes-chars bytes utf8 });
      begins = it.begins;
      continues = it.continues;
      no_word = no_word bytes (none_from_test (word_of bytes) inner.1);
    }

no_word_found : (bytes : List ℕ) (o : Option Word) → word_of bytes ≡ o → ((w : Word) → bytes ≢ word_spelling w) → is_none o ≡ true
no_word_found bytes None is never = refl
no_word_found bytes (Some w) is never = absurd (never w (word_of-spells bytes w is))

pub name_read : (bytes : List ℕ) → SpellsName bytes → is_name bytes ≡ true
unfolding is_name
name_read bytes it =
    let utf8 : IsUtf8 bytes = (it.first ∷ it.more, (it.text.scalars, it.text.encoded)) in
    let same : chars bytes ≡ it.first ∷ it.more = sym (chars_from_encodes (it.first ∷ it.more) bytes utf8 it.text.encoded) in
    let are : are_name_characters (chars bytes) ≡ true = ap are_name_characters same ∙ λ k. it.begins k && it.continues k in
    let none = no_word_found bytes (word_of bytes) refl it.no_word in
    λ k. is_utf8-from_IsUtf8 bytes utf8 k && (are k && none k)

-- a byte that is no blank, even at an end, no `=` and no line's end
abbrev pub is_inner : ℕ → Bool
is_inner b = not ((is_end_blank b || (b == 61)) || (b == 10))

inner_from : (b : ℕ) → (b == 32) ≡ false → (b == 9) ≡ false → (b == 13) ≡ false → (b == 61) ≡ false → (b == 10) ≡ false → is_inner b ≡ true
inner_from b one two three four five = λ k. not ((((one k || two k) || three k) || four k) || five k)

continue_inner : (c : ℕ) → is_xid_continue c ≡ true → is_inner c ≡ true
continue_inner c is =
    inner_from c (not_mark is_xid_continue c 32 is (is_xid_continue-ascii 32 (lit< tt))) (not_mark is_xid_continue c 9 is (is_xid_continue-ascii 9 (lit< tt)))
    (not_mark is_xid_continue c 13 is (is_xid_continue-ascii 13 (lit< tt))) (not_mark is_xid_continue c 61 is (is_xid_continue-ascii 61 (lit< tt)))
    (not_mark is_xid_continue c 10 is (is_xid_continue-ascii 10 (lit< tt)))

high_inner : (b : ℕ) → 128 ≤ b → is_inner b ≡ true
high_inner b high =
    let differs : (m : ℕ) → m < 128 → (b == m) ≡ false = λ m low. (let other : b ≡ m → ⊥ = λ same. omega arith in ne_eqb b m other) in
    inner_from b (differs 32 (lit< tt)) (differs 9 (lit< tt)) (differs 13 (lit< tt)) (differs 61 (lit< tt)) (differs 10 (lit< tt))

cond_all : (b : Bool) (xs ys : List ℕ) → list_all is_inner xs ≡ true → list_all is_inner ys ≡ true → list_all is_inner (cond b xs ys) ≡ true
cond_all true xs ys one two = one
cond_all false xs ys one two = two

next_inner : (n : ℕ) → is_inner (128 + n % 64) ≡ true
next_inner n = high_inner (128 + n % 64) (omega arith)

encode_high : (c : ℕ) → nat_lt c 128 ≡ false → list_all is_inner (encode_utf8 c) ≡ true
unfolding encode_utf8
encode_high c high =
    (λ k. list_all is_inner (cond (high k) (c ∷ []) (cond (nat_lt c 2048) ((192 + c / 64) ∷ (128 + c % 64) ∷ []) (cond (nat_lt c 65536) ((224 + c / 4096) ∷ (128 + c / 64 % 64) ∷ (128 + c % 64) ∷ []) ((240 + c / 262144) ∷ (128 + c / 4096 % 64) ∷ (128 + c / 64 % 64) ∷ (128 + c % 64) ∷ [])))))
    ∙ cond_all (nat_lt c 2048) _ _ (λ k. high_inner (192 + c / 64) (omega arith) k && (next_inner c k && true))
    (cond_all (nat_lt c 65536) _ _ (λ k. high_inner (224 + c / 4096) (omega arith) k && (next_inner (c / 64) k && (next_inner c k && true)))
    (λ k. high_inner (240 + c / 262144) (omega arith) k && (next_inner (c / 4096) k && (next_inner (c / 64) k && (next_inner c k && true)))))

encode_inner : (c : ℕ) → is_xid_continue c ≡ true → list_all is_inner (encode_utf8 c) ≡ true
encode_inner c is = elim (cases_lt c 128) [
  | inl low ↦ ap (list_all is_inner) (encode_ascii c low) ∙ λ k. continue_inner c is k && true
  | inr high ↦ encode_high c (le-ltb c 128 high)
]

encodes_inner : (cs : List ℕ) → list_all is_xid_continue cs ≡ true → list_all is_inner (encode_utf8_all cs) ≡ true
encodes_inner [] all = refl
encodes_inner (c ∷ cs) all =
    let parts = and_parts (is_xid_continue c) (list_all is_xid_continue cs) all in
    all_joined is_inner (encode_utf8 c) (encode_utf8_all cs) (encode_inner c parts.0) (encodes_inner cs parts.1)

begins_by : (c : ℕ) (start underscore : Bool) → is_xid_start c ≡ start → c == 95 ≡ underscore → (start || underscore) ≡ true → is_xid_continue c ≡ true
begins_by c true underscore starts is either = is_xid_start-is_xid_continue c starts
begins_by c false true starts is either = ap is_xid_continue (eqb-true c 95 is) ∙ is_xid_continue-ascii 95 (lit< tt)
begins_by c false false starts is either = absurd (cc)

begins_continues : (c : ℕ) → begins_name c ≡ true → is_xid_continue c ≡ true
begins_continues c is = begins_by c (is_xid_start c) (c == 95) refl refl is

pub name_inner : (bytes : List ℕ) → SpellsName bytes → list_all is_inner bytes ≡ true
name_inner bytes it =
    ap (list_all is_inner) (sym it.text.encoded) ∙ encodes_inner (it.first ∷ it.more) (λ k. begins_continues it.first it.begins k && it.continues k)

pub name_some : (bytes : List ℕ) → SpellsName bytes → 0 < length bytes
name_some bytes it =
    let long = length-le-encodes (it.first ∷ it.more) in
    let same = ap length it.text.encoded in
    let lt : 0 < length (it.first ∷ it.more) = omega arith in
    omega arith
