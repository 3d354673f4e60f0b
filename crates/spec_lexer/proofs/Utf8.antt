-- Sources and their characters.
use Rattle.std.proofs.Common.{◌≡◌, ◌⊎◌, ℕ, zero, suc, ◌<◌, ◌≤◌, inl, inr, true≢false, take_all, List, [], ◌∷◌, ◌++◌, length, take, drop, sym, ap, subst, ◌∙◌, arith, append_assoc, length-append, length-drop, Result, Ok, Err}
use Rattle.std.proofs.lemmas.List.{append-nil, take-append-drop, length-take-le}
use Rattle.std.proofs.Math.Seq.{take-append_seam}
use Rattle.std.proofs.lemmas.Str.{encodes-append, length-le-encodes, IsUtf8-append, IsUtf8-encode, IsUtf8-nil, IsUtf8-from_is_utf8, is_utf8-from_IsUtf8, length-encode, len_utf8_bounds}
use Rattle.std.proofs.lemmas.Bool.{cases_Bool, cases_lt}
use Rattle.std.specs.Prelude.{encode_utf8, encode_utf8_all, IfOk}
use Rattle.std.specs.Str.{IsUtf8, IsValidUpTo, StartsWithNoChar, is_utf8}
use Rattle.spec_lexer.specs.declared.fault.LexFault.{LexFault}
use Rattle.spec_lexer.specs.declared.fault.LexFault.TheVariants.{BadUtf8}
use Rattle.spec_lexer.specs.Tokens.{Spelled}
use Rattle.spec_lexer.specs.Pieces.{place_after}
use Rattle.spec_lexer.specs.Source.{start, IsText, Lexes, HasTokens, lexed, HasFault, bad_utf8}
use Rattle.spec_lexer.specs.declared.limits.TheConstants.{MOST_SOURCE_BYTES}

-- one character more
pub encode-snoc : (meant : List ℕ) (d : ℕ) (bytes : List ℕ) → bytes ≡ encode_utf8_all meant → bytes ++ encode_utf8 d ≡ encode_utf8_all (meant ++ d ∷ [])
encode-snoc meant d bytes is = ap (λ b. b ++ encode_utf8 d) is ∙ sym (encodes-append meant (d ∷ []) ∙ ap (λ e. encode_utf8_all meant ++ e) (append-nil (encode_utf8 d)))

-- a character takes a byte at least
pub text_length : (cs bs : List ℕ) → IsText cs bs → length cs ≤ length bs
text_length cs bs text = let size = ap length text.encoded in omega (arith, length-le-encodes cs, size)

-- what follows the longest front in UTF-8 begins with no character
no_character : (bs : List ℕ) (n : ℕ) → IsValidUpTo bs n → StartsWithNoChar (drop n bs)
no_character bs n valid c rest scalar is =
    let whole : bs ≡ (take n bs ++ encode_utf8 c) ++ rest = sym (take-append-drop n bs) ∙ ap (λ l. take n bs ++ l) is ∙ sym (append_assoc (take n bs) (encode_utf8 c) rest) in
    let m = length (take n bs ++ encode_utf8 c) in
    let front : take m bs ≡ take n bs ++ encode_utf8 c = ap (take m) whole ∙ take-append_seam (take n bs ++ encode_utf8 c) rest in
    let held : n ≤ length bs = omega (arith, valid.short) in
    let longer : n < m = omega (arith, length-append (take n bs) (encode_utf8 c), length-take-le n bs held, length-encode c, len_utf8_bounds c) in
    valid.longest m longer (subst IsUtf8 (sym front) (IsUtf8-append (take n bs) (encode_utf8 c) valid.front (IsUtf8-encode c scalar)))

pub no_text : (bs cs : List ℕ) (n : ℕ) → length bs ≤ MOST_SOURCE_BYTES → IsText cs (take n bs) → IsValidUpTo bs n → HasFault bs (BadUtf8 (place_after start cs))
no_text bs cs n short text valid =
    let size = length-drop n bs in
    bad_utf8 short (sym (take-append-drop n bs)) text (omega (arith, valid.short, size)) (no_character bs n valid)

-- the longest front of at most so many bytes that is UTF-8
record LongestFront (bs : List ℕ) (m : ℕ) : Type 0 where
  pub size : ℕ
  pub front : IsUtf8 (take size bs)
  pub longest : (k : ℕ) → size < k → k ≤ m → ¬ (IsUtf8 (take k bs))

longest_front : (bs : List ℕ) (m : ℕ) → LongestFront bs m
longest_front bs zero = record { size = 0; front = IsUtf8-nil; longest = λ k above within. absurd (omega arith) }
longest_front bs (suc m) = elim (cases_Bool (is_utf8 (take (suc m) bs))) [
  | inl passes ↦ record { size = suc m; front = IsUtf8-from_is_utf8 _ passes; longest = λ k above within. absurd (omega arith) }
  | inr stops ↦
      let shorter = longest_front bs m in
      record {
        size = shorter.size;
        front = shorter.front;
        longest = λ k above within u. elim (cases_lt m k) [
          | inl top ↦ let same : k ≡ suc m = omega arith in true≢false (sym (is_utf8-from_IsUtf8 _ (subst (λ n. IsUtf8 (take n bs)) same u)) ∙ stops)
          | inr low ↦ shorter.longest k above low u
        ];
      }
]

-- a source is UTF-8, or its longest front that is ends before it does
pub text_or_front : (bs : List ℕ) → IsUtf8 bs ⊎ ((n : ℕ) × IsValidUpTo bs n)
text_or_front bs =
    let f = longest_front bs (length bs) in
    elim (cases_lt f.size (length bs)) [
      | inl short ↦ inr (
        f.size,
        record {
          short = short;
          front = f.front;
          longest = λ m above u. elim (cases_lt (length bs) m) [
            | inl past ↦ f.longest (length bs) short (omega arith) (subst IsUtf8 (take_all m bs (omega arith) ∙ sym (take_all (length bs) bs (omega arith))) u)
            | inr within ↦ f.longest m above within u
          ];
        },
      )
      | inr whole ↦ inl (subst IsUtf8 (take_all f.size bs whole) f.front)
    ]

pub text_lexed : (bs cs : List ℕ) (r : Result Spelled LexFault) → length bs ≤ MOST_SOURCE_BYTES → IsText cs bs → IfOk r (λ t. Lexes start 0 cs t.tokens) → IfOk r (λ t. t.end ≡ place_after start cs) → IfOk r (HasTokens bs)
text_lexed bs cs (Ok t) short text lexes ends = lexed short text lexes ends
text_lexed bs cs (Err e) short text lexes ends = tt
