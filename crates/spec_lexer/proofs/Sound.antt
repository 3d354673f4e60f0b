-- What is found in front of some characters stands there.
use Rattle.std.proofs.Common.{◌≡◌, ◌≢◌, ℕ, suc, ◌+◌, ◌<◌, ◌≤◌, ◌^◌, ◌&&◌, Bool, true, false, List, [], ◌∷◌, ◌++◌, length, take, drop, refl, sym, ap, subst, ◌∙◌, arith, Option, Some, None, Result, Ok, Err, inl, inr, append_assoc, length-append, lit<}
use Rattle.std.specs.Option.{option_map_or}
use Rattle.std.specs.List.{list_all, prefix_len}
use Rattle.std.specs.Cmp.Derive.{both_true}
use Rattle.std.specs.Char.{is_ascii_digit}
use Rattle.std.specs.Prelude.{◌==◌, not, nat_lt, encode_utf8, encode_utf8_all}
use Rattle.std.specs.Str.Parse.{digits_value}
use Rattle.std.proofs.lemmas.Bool.{eqb-true, eq-eqb, ltb-true, ltb-false, and_parts, or_parts}
use Rattle.std.proofs.lemmas.List.{take-append-drop}
use Rattle.std.proofs.lemmas.List.Folds.{length-prefix_len, list_all-append}
use Rattle.unicode_ident.specs.Ident.{is_xid_continue}
use Rattle.unicode_ident.proofs.IdentLemmas.{is_xid_continue-ascii}
use Rattle.tsl_value.specs.declared.place.Place.{Place}
use Rattle.tsl_value.specs.declared.limits.TheConstants.{MOST_TEXT_BYTES}
use Rattle.spec_lexer.specs.declared.fault.LexFault.{LexFault}
use Rattle.spec_lexer.specs.declared.fault.LexFault.TheVariants.{BadEscape}
use Rattle.spec_lexer.specs.declared.piece.Piece.{Piece}
use Rattle.spec_lexer.specs.declared.piece.Piece.TheVariants.{Blank, LineEnd, Made}
use Rattle.spec_lexer.specs.declared.token.TokenKind.TheVariants as kind
use Rattle.spec_lexer.specs.declared.token.Word.{Word}
use Rattle.spec_lexer.specs.declared.token.Symbol.{Symbol}
use Rattle.spec_lexer.specs.Spelling.{is_blank, is_within_line, begins_name, symbol_spelling, is_plain, escaped}
use Rattle.spec_lexer.specs.Pieces.{place_after, IsSkipped, blank, hash, dashes, IsName, IsNumber, Means, nothing, plain, escape, quoted, Makes, word as a_word, name as a_name, number as a_number, text as a_text, symbol as a_symbol, at_end, at_line_end, at_last_backslash, IsWrong, bad_character, name_too_long, literal_too_wide, open_text, bad_escape, text_too_long}
use Rattle.spec_lexer.specs.Found.{word_of, name_as, name_found, number_as, number_found, text_as, text_found, pair_of, single_of, symbol_as, symbol_found, next_of, begins_comment, found}
use Rattle.spec_lexer.proofs.Choices.{by_test, one_passes, not_true, no_such}
use Rattle.spec_lexer.proofs.Symbols.{pair_of-spells, single_of-spells, shape, double, single, spelled_within, no_nul, at_most_two, no_pair, no_single}
use Rattle.spec_lexer.proofs.Places.{place_after-within}
use Rattle.spec_lexer.proofs.Utf8.{encode-snoc}
use Rattle.spec_lexer.proofs.Words.{word_of-spells, no_word}
use Rattle.spec_lexer.proofs.Runs.{run_of}
use Rattle.spec_lexer.specs.declared.limits.TheConstants.{MOST_NAME_BYTES}

-- a front of so many characters, within one line
pub record Fronts (c : ℕ) (cs : List ℕ) (size : ℕ) (P : List ℕ → List ℕ → Type 0) : Type 0 where
  pub more : List ℕ
  pub rest : List ℕ
  pub whole : cs ≡ more ++ rest
  pub counted : size ≡ 1 + length more
  pub within : list_all is_within_line (c ∷ more) ≡ true
  pub holds : P (c ∷ more) rest

abbrev pub Stands : Place → ℕ → List ℕ → Result Piece LexFault → Type 0
Stands at c cs (Ok (Blank n)) = Fronts c cs n IsSkipped
Stands at c cs (Ok LineEnd) = c ≡ 10
Stands at c cs (Ok (Made k n)) = Fronts c cs n (λ front rest. Makes front rest k)
Stands at c cs (Err e) = (front : List ℕ) × (rest : List ℕ) × (c ∷ cs ≡ front ++ rest) × IsWrong at front rest e

pub within_one : (c : ℕ) → (c == 10) ≡ false → is_within_line c ≡ true
within_one c h = ap not h

-- ---- blanks and comments
blank_after : (c : ℕ) (cs : List ℕ) → is_within_line c ≡ true → is_blank c ≡ true → Fronts c cs 1 IsSkipped
blank_after c cs within h = record { more = []; rest = cs; whole = refl; counted = refl; within = both_true within refl; holds = blank h }

after_hash : (cs : List ℕ) → Fronts 35 cs (1 + prefix_len is_within_line cs) IsSkipped
after_hash cs =
    let long = length-prefix_len is_within_line cs in
    record { more = take (prefix_len is_within_line cs) cs; rest = drop (prefix_len is_within_line cs) cs; whole = sym (take-append-drop (prefix_len is_within_line cs) cs); counted = omega (arith, long); within = (run_of is_within_line cs).all_pass; holds = hash (run_of is_within_line cs) }

after_dashes : (cs : List ℕ) → Fronts 45 (45 ∷ cs) (1 + prefix_len is_within_line (45 ∷ cs)) IsSkipped
after_dashes cs =
    let long = length-prefix_len is_within_line cs in
    record { more = 45 ∷ take (prefix_len is_within_line cs) cs; rest = drop (prefix_len is_within_line cs) cs; whole = ap (λ l. 45 ∷ l) (sym (take-append-drop (prefix_len is_within_line cs) cs)); counted = omega (arith, long); within = (run_of is_within_line cs).all_pass; holds = dashes (run_of is_within_line cs) }

after_dash : (cs : List ℕ) → (next_of cs == 45) ≡ true → Fronts 45 cs (1 + prefix_len is_within_line cs) IsSkipped
after_dash [] next = cc
after_dash (d ∷ ds) next = subst (λ d. Fronts 45 (d ∷ ds) (1 + prefix_len is_within_line (d ∷ ds)) IsSkipped) (sym (eqb-true d 45 next)) (after_dashes ds)

comment_after : (c : ℕ) (cs : List ℕ) → begins_comment c (next_of cs) ≡ true → Fronts c cs (1 + prefix_len is_within_line cs) IsSkipped
comment_after c cs begins = elim (one_passes (c == 35) (c == 45 && next_of cs == 45) begins) [
  | inl h ↦ subst (λ c. Fronts c cs (1 + prefix_len is_within_line cs) IsSkipped) (sym (eqb-true c 35 h)) (after_hash cs)
  | inr h ↦ let parts = and_parts (c == 45) (next_of cs == 45) h in subst (λ c. Fronts c cs (1 + prefix_len is_within_line cs) IsSkipped) (sym (eqb-true c 45 parts.0)) (after_dash cs parts.1)
]

-- ---- names and numbers
-- a run within a line, after a first character
front_of : (p : ℕ → Bool) (c : ℕ) (cs : List ℕ) → take (1 + prefix_len p cs) (c ∷ cs) ≡ c ∷ take (prefix_len p cs) cs
front_of p c cs = let one : 1 + prefix_len p cs ≡ suc (prefix_len p cs) = omega arith in ap (λ n. take n (c ∷ cs)) one

pub all_within : (p : ℕ → Bool) → p 10 ≡ false → (cs : List ℕ) → list_all p cs ≡ true → list_all is_within_line cs ≡ true
all_within p no_end [] h = refl
all_within p no_end (c ∷ cs) h =
    let parts = and_parts (p c) (list_all p cs) h in
    both_true (ap not (no_such p 10 no_end c parts.0)) (all_within p no_end cs parts.1)

module _ (at : Place) (c : ℕ) (cs more rest : List ℕ) (n : ℕ) (whole : cs ≡ more ++ rest) (counted : n ≡ 1 + length more) (within : list_all is_within_line (c ∷ more) ≡ true) where
  name_stands : IsName c more rest → (o : Option Word) → word_of (encode_utf8_all (c ∷ more)) ≡ o → Stands at c cs (name_as at o (encode_utf8_all (c ∷ more)) n)
  name_stands named (Some w) is = record { more = more; rest = rest; whole = whole; counted = counted; within = within; holds = a_word named (word_of-spells (encode_utf8_all (c ∷ more)) w is) }
  name_stands named None is =
      by_test (Stands at c cs) (nat_lt MOST_NAME_BYTES (length (encode_utf8_all (c ∷ more)))) _ _
      (λ long. (c ∷ more, rest, ap (λ l. c ∷ l) whole, name_too_long named (ltb-true _ _ long)))
      (λ short. record { more = more; rest = rest; whole = whole; counted = counted; within = within; holds = a_name named (no_word (encode_utf8_all (c ∷ more)) is) (ltb-false _ _ short) })

  number_stands : IsNumber c more rest → Stands at c cs (number_as at (digits_value 10 (c ∷ more)) n)
  number_stands number =
      by_test (Stands at c cs) (nat_lt (digits_value 10 (c ∷ more)) (2 ^ 63)) _ _
      (λ low. record { more = more; rest = rest; whole = whole; counted = counted; within = within; holds = a_number number (ltb-true _ _ low) })
      (λ high. (c ∷ more, rest, ap (λ l. c ∷ l) whole, literal_too_wide number (ltb-false _ _ high)))

sound_name : (at : Place) (c : ℕ) (cs : List ℕ) → is_within_line c ≡ true → begins_name c ≡ true → Stands at c cs (name_found at (c ∷ cs) (1 + prefix_len is_xid_continue cs))
unfolding name_found
sound_name at c cs within begins =
    let k = prefix_len is_xid_continue cs in
    let run = run_of is_xid_continue cs in
    let long = length-prefix_len is_xid_continue cs in
    subst (λ front. Stands at c cs (name_as at (word_of (encode_utf8_all front)) (encode_utf8_all front) (1 + k))) (sym (front_of is_xid_continue c cs))
    (name_stands at c cs (take k cs) (drop k cs) (1 + k) (sym (take-append-drop k cs)) (omega (arith, long)) (both_true within (all_within is_xid_continue (is_xid_continue-ascii 10 (lit< tt)) (take k cs) run.all_pass))
    (record { begins = begins; run = run }) (word_of (encode_utf8_all (c ∷ take k cs))) refl)

sound_number : (at : Place) (c : ℕ) (cs : List ℕ) → is_within_line c ≡ true → is_ascii_digit c ≡ true → Stands at c cs (number_found at (c ∷ cs) (1 + prefix_len is_ascii_digit cs))
unfolding number_found
sound_number at c cs within begins =
    let k = prefix_len is_ascii_digit cs in
    let run = run_of is_ascii_digit cs in
    let long = length-prefix_len is_ascii_digit cs in
    subst (λ front. Stands at c cs (number_as at (digits_value 10 front) (1 + k))) (sym (front_of is_ascii_digit c cs))
    (number_stands at c cs (take k cs) (drop k cs) (1 + k) (sym (take-append-drop k cs)) (omega (arith, long)) (both_true within (all_within is_ascii_digit refl (take k cs) run.all_pass))
    (record { begins = begins; run = run }))

-- ---- texts
one_more : {c d : ℕ} {written meant : List ℕ} → Means (c ∷ []) (d ∷ []) → Means written meant → Means (written ++ c ∷ []) (meant ++ d ∷ [])
one_more last nothing = last
one_more last (plain h m) = plain h (one_more last m)
one_more last (escape h m) = escape h (one_more last m)

one_escape_more : (c d : ℕ) {written meant : List ℕ} → escaped c ≡ Some d → Means written meant → Means (written ++ 92 ∷ c ∷ []) (meant ++ d ∷ [])
one_escape_more c d is nothing = escape is nothing
one_escape_more c d is (plain h m) = plain h (one_escape_more c d is m)
one_escape_more c d is (escape h m) = escape h (one_escape_more c d is m)

plain_within : (c : ℕ) → is_plain c ≡ true → is_within_line c ≡ true
plain_within c h = (and_parts (not (c == 92)) (not (c == 10)) (and_parts (not (c == 34)) (not (c == 92) && not (c == 10)) h).1).1

escaped_within : (c d : ℕ) → escaped c ≡ Some d → is_within_line c ≡ true
escaped_within c d h = ap not (not_true (c == 10) (λ is. let same = ap escaped (sym (eqb-true c 10 is)) ∙ h in cc))

pub means_within : {written meant : List ℕ} → Means written meant → list_all is_within_line written ≡ true
means_within nothing = refl
means_within (plain {c = c} h m) = both_true (plain_within c h) (means_within m)
means_within (escape {c = c} {d = d} h m) = both_true (escaped_within c d h) (means_within m)

module _ (at : Place) (cs : List ℕ) where
  text_stands : (written meant rest bytes : List ℕ) (n : ℕ) → Means written meant → bytes ≡ encode_utf8_all meant → n ≡ 1 + length written → cs ≡ written ++ 34 ∷ rest → Stands at 34 cs (text_as at bytes (n + 1))
  text_stands written meant rest bytes n means is counted whole =
      let closed : cs ≡ (written ++ 34 ∷ []) ++ rest = whole ∙ sym (append_assoc written (34 ∷ []) rest) in
      by_test (Stands at 34 cs) (nat_lt MOST_TEXT_BYTES (length bytes)) _ _
      (λ long. (quoted written, rest, ap (λ l. 34 ∷ l) closed, text_too_long means (subst (λ b. MOST_TEXT_BYTES < length b) is (ltb-true _ _ long))))
      (λ short. record {
        more = written ++ 34 ∷ [];
        rest = rest;
        whole = closed;
        counted = omega (arith, counted, length-append written (34 ∷ []));
        within = both_true {s = true} refl (list_all-append is_within_line written (34 ∷ []) ∙ both_true (means_within means) refl);
        holds = subst (λ b. Makes (quoted written) rest (kind.Text b)) (sym is) (a_text means (subst (λ b. length b ≤ MOST_TEXT_BYTES) is (ltb-false _ _ short)));
      })

  mutual
    unfolding text_found

    text_goes_on : (rest written meant bytes : List ℕ) (n : ℕ) → Means written meant → bytes ≡ encode_utf8_all meant → n ≡ 1 + length written → cs ≡ written ++ rest → Stands at 34 cs (text_found at n bytes false rest)
    text_goes_on [] written meant bytes n means is counted whole = (34 ∷ written, [], ap (λ l. 34 ∷ l) whole, open_text means at_end)
    text_goes_on (c ∷ rest) written meant bytes n means is counted whole =
        by_test (Stands at 34 cs) (c == 34) _ _ (λ quote. text_stands written meant rest bytes n means is counted (whole ∙ ap (λ q. written ++ q ∷ rest) (eqb-true c 34 quote))) (λ no_quote.
        by_test (Stands at 34 cs) (c == 10) _ _ (λ line_end. (34 ∷ written, 10 ∷ rest, ap (λ l. 34 ∷ l) (whole ∙ ap (λ q. written ++ q ∷ rest) (eqb-true c 10 line_end)), open_text means at_line_end)) (λ no_end.
        by_test (Stands at 34 cs) (c == 92) _ _ (λ slash. text_escapes rest written meant bytes n means is counted (whole ∙ ap (λ q. written ++ q ∷ rest) (eqb-true c 92 slash))) (λ no_slash.
        text_goes_on rest (written ++ c ∷ []) (meant ++ c ∷ []) (bytes ++ encode_utf8 c) (n + 1)
        (one_more (plain (both_true (ap not no_quote) (both_true (ap not no_slash) (ap not no_end))) nothing) means)
        (encode-snoc meant c bytes is) (omega (arith, counted, length-append written (c ∷ []))) (whole ∙ sym (append_assoc written (c ∷ []) rest)))))

    text_escapes : (rest written meant bytes : List ℕ) (n : ℕ) → Means written meant → bytes ≡ encode_utf8_all meant → n ≡ 1 + length written → cs ≡ written ++ 92 ∷ rest → Stands at 34 cs (text_found at n bytes true rest)
    text_escapes [] written meant bytes n means is counted whole = (34 ∷ written, 92 ∷ [], ap (λ l. 34 ∷ l) whole, open_text means at_last_backslash)
    text_escapes (c ∷ rest) written meant bytes n means is counted whole =
        elim (escaped c) as (λ o. escaped c ≡ o → Stands at 34 cs (option_map_or (λ d. text_found at (n + 2) (bytes ++ encode_utf8 d) false rest) o (Err (BadEscape (record at { column = at.column + n }))))) [
          | None ↦ λ none.
              let moved : at.column + length (34 ∷ written) ≡ at.column + n = omega (arith, counted) in
              let there : place_after at (34 ∷ written) ≡ record at { column = at.column + n } = place_after-within at (34 ∷ written) (both_true {s = true} refl (means_within means)) ∙ (λ i. record { line = at.line; column = moved i }) in
              (34 ∷ written, 92 ∷ c ∷ rest, ap (λ l. 34 ∷ l) whole, subst (λ p. IsWrong at (34 ∷ written) (92 ∷ c ∷ rest) (BadEscape p)) there (bad_escape means none))
          | Some d ↦ λ some.
              text_goes_on rest (written ++ 92 ∷ c ∷ []) (meant ++ d ∷ []) (bytes ++ encode_utf8 d) (n + 2)
              (one_escape_more c d some means) (encode-snoc meant d bytes is) (omega (arith, counted, length-append written (92 ∷ c ∷ []))) (whole ∙ sym (append_assoc written (92 ∷ c ∷ []) rest))
        ] refl

sound_text : (at : Place) (cs : List ℕ) → Stands at 34 cs (text_found at 1 [] false cs)
sound_text at cs = text_goes_on at cs cs [] [] [] 1 nothing refl refl refl

-- ---- symbols
no_dashes : (c d : ℕ) (cs more : List ℕ) → begins_comment c d ≡ false → c ∷ d ∷ cs ≡ 45 ∷ 45 ∷ more → ⊥
no_dashes c d cs more no_comment is =
    let first : c ≡ 45 = cc in
    let second : d ≡ 45 = cc in
    let same : begins_comment c d ≡ true = (λ i. begins_comment (first i) (second i)) in cc

pair_stands : (c d : ℕ) (cs : List ℕ) (s : Symbol) → begins_comment c d ≡ false → pair_of c d ≡ Some s → Fronts c (d ∷ cs) 2 (λ front rest. Makes front rest (kind.Symbol s))
pair_stands c d cs s no_comment is =
    let spelled = pair_of-spells c d s is in
    record {
      more = d ∷ [];
      rest = cs;
      whole = refl;
      counted = refl;
      within = ap (list_all is_within_line) (sym spelled) ∙ spelled_within s;
      holds = subst (λ front. Makes front cs (kind.Symbol s)) spelled (a_symbol (record {
        longest = λ other more same. let size = ap length spelled in omega (arith, size, at_most_two other);
        no_comment = λ more same. no_dashes c d cs more no_comment (ap (λ f. f ++ cs) (sym spelled) ∙ same);
      }));
    }

two_stand : (c : ℕ) (cs : List ℕ) (s : Symbol) → begins_comment c (next_of cs) ≡ false → pair_of c (next_of cs) ≡ Some s → Fronts c cs 2 (λ front rest. Makes front rest (kind.Symbol s))
two_stand c (d ∷ cs) s no_comment is = pair_stands c d cs s no_comment is
two_stand c [] s no_comment is = absurd (no_nul s c (pair_of-spells c 0 s is))

not_longer : (c : ℕ) (cs : List ℕ) → pair_of c (next_of cs) ≡ None → (other : Symbol) (more : List ℕ) → c ∷ cs ≡ symbol_spelling other ++ more → length (symbol_spelling other) ≤ 1
not_longer c cs none other more same = elim (shape other) [
  | double {k = k} {l = l} is found ↦ absurd (no_pair c cs none k l more other (same ∙ ap (λ f. f ++ more) is) found)
  | single is found ↦ let size = ap length is in omega (arith, size)
]

one_stands : (c : ℕ) (cs : List ℕ) (s : Symbol) → begins_comment c (next_of cs) ≡ false → pair_of c (next_of cs) ≡ None → single_of c ≡ Some s → Fronts c cs 1 (λ front rest. Makes front rest (kind.Symbol s))
one_stands c cs s no_comment none is =
    let spelled = single_of-spells c s is in
    record {
      more = [];
      rest = cs;
      whole = refl;
      counted = refl;
      within = ap (list_all is_within_line) (sym spelled) ∙ spelled_within s;
      holds = subst (λ front. Makes front cs (kind.Symbol s)) spelled (a_symbol (record {
        longest = λ other more same. let size = ap length spelled in omega (arith, size, not_longer c cs none other more (ap (λ f. f ++ cs) (sym spelled) ∙ same));
        no_comment = λ more same. one_dash c cs more no_comment (ap (λ f. f ++ cs) (sym spelled) ∙ same);
      }));
    }
  where
    one_dash : (c : ℕ) (cs more : List ℕ) → begins_comment c (next_of cs) ≡ false → c ∷ cs ≡ 45 ∷ 45 ∷ more → ⊥
    one_dash c cs more no_comment is =
        let first : c ≡ 45 = cc in
        let after : cs ≡ 45 ∷ more = cc in
        let same : begins_comment c (next_of cs) ≡ true = λ i. begins_comment (first i) (next_of (after i)) in cc

none_stands : (c : ℕ) (cs : List ℕ) → pair_of c (next_of cs) ≡ None → single_of c ≡ None → (s : Symbol) (more : List ℕ) → c ∷ cs ≢ symbol_spelling s ++ more
none_stands c cs no_pairs no_singles s more same = elim (shape s) [
  | double {k = k} {l = l} is found ↦ no_pair c cs no_pairs k l more s (same ∙ ap (λ f. f ++ more) is) found
  | single {k = k} is found ↦ no_single c cs no_singles k more s (same ∙ ap (λ f. f ++ more) is) found
]

sound_symbol : (at : Place) (c : ℕ) (cs : List ℕ) → (c == 10) ≡ false → is_blank c ≡ false → begins_comment c (next_of cs) ≡ false → begins_name c ≡ false → is_ascii_digit c ≡ false → (c == 34) ≡ false → Stands at c cs (symbol_found at c (next_of cs))
unfolding symbol_found
sound_symbol at c cs no_end no_blank no_comment no_name no_digit no_quote =
    elim (pair_of c (next_of cs)) as (λ o. pair_of c (next_of cs) ≡ o → Stands at c cs (symbol_as at o (single_of c))) [
      | Some s ↦ λ is. two_stand c cs s no_comment is
      | None ↦ λ no_pairs. elim (single_of c) as (λ o. single_of c ≡ o → Stands at c cs (symbol_as at None o)) [
        | Some s ↦ λ is. one_stands c cs s no_comment no_pairs is
        | None ↦ λ no_singles. (
          c ∷ [],
          cs,
          refl,
          bad_character (record {
            no_blank = no_blank;
            no_line_end = λ is. let same = sym no_end ∙ eq-eqb c 10 is in cc;
            no_hash = λ is. let same = sym ((or_parts (c == 35) (c == 45 && next_of cs == 45) no_comment).0) ∙ eq-eqb c 35 is in cc;
            no_name = no_name;
            no_number = no_digit;
            no_text = λ is. let same = sym no_quote ∙ eq-eqb c 34 is in cc;
            no_symbol = none_stands c cs no_pairs no_singles;
          }),
        )
      ] refl
    ] refl

pub sound : (at : Place) (c : ℕ) (cs : List ℕ) → Stands at c cs (found at c cs)
unfolding found
sound at c cs =
    by_test (Stands at c cs) (c == 10) _ _ (eqb-true c 10) (λ no_end.
    by_test (Stands at c cs) (is_blank c) _ _ (blank_after c cs (within_one c no_end)) (λ no_blank.
    by_test (Stands at c cs) (begins_comment c (next_of cs)) _ _ (comment_after c cs) (λ no_comment.
    by_test (Stands at c cs) (begins_name c) _ _ (sound_name at c cs (within_one c no_end)) (λ no_name.
    by_test (Stands at c cs) (is_ascii_digit c) _ _ (sound_number at c cs (within_one c no_end)) (λ no_digit.
    by_test (Stands at c cs) (c == 34) _ _ (λ quote. subst (λ q. Stands at q cs (text_found at 1 [] false cs)) (sym (eqb-true c 34 quote)) (sound_text at cs))
    (sound_symbol at c cs no_end no_blank no_comment no_name no_digit))))))
