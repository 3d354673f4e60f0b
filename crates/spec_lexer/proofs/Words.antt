-- The words, and no others, are found as words.
use Rattle.std.proofs.Common.{◌≡◌, ◌≢◌, ◌≤◌, ℕ, true, List, length, Some, None, refl, sym, ap, ◌∙◌, lit≤}
use Rattle.std.specs.Str.{bytes_eq}
use Rattle.std.specs.Cmp.Lexicographic.{same_text}
use Rattle.spec_lexer.specs.declared.token.Word.{Word}
use Rattle.spec_lexer.specs.declared.token.Word.TheVariants as word
use Rattle.spec_lexer.specs.Spelling.{word_spelling}
use Rattle.spec_lexer.specs.Found.{word_of}
use Rattle.spec_lexer.proofs.Choices.{Tells, tell_next}

same : (name : List ℕ) (w : Word) → bytes_eq name (word_spelling w) ≡ true → name ≡ word_spelling w
same name w h = same_text name (word_spelling w) (sym h)

pub word_of-spells : (name : List ℕ) → Tells (λ w. name ≡ word_spelling w) (word_of name)
word_of-spells name =
    tell_next _ _ word.In _ (same name word.In)
    (tell_next _ _ word.Def _ (same name word.Def)
    (tell_next _ _ word.Out _ (same name word.Out)
    (tell_next _ _ word.As _ (same name word.As)
    (tell_next _ _ word.If _ (same name word.If)
    (tell_next _ _ word.Then _ (same name word.Then)
    (tell_next _ _ word.Else _ (same name word.Else)
    (tell_next _ _ word.True _ (same name word.True)
    (tell_next _ _ word.False _ (same name word.False) (λ w is. cc)))))))))

pub word_of-word_spelling : (w : Word) → word_of (word_spelling w) ≡ Some w
word_of-word_spelling word.In = refl
word_of-word_spelling word.Def = refl
word_of-word_spelling word.Out = refl
word_of-word_spelling word.As = refl
word_of-word_spelling word.If = refl
word_of-word_spelling word.Then = refl
word_of-word_spelling word.Else = refl
word_of-word_spelling word.True = refl
word_of-word_spelling word.False = refl

pub no_word : (name : List ℕ) → word_of name ≡ None → (w : Word) → name ≢ word_spelling w
no_word name none w is = let found = sym none ∙ ap word_of is ∙ word_of-word_spelling w in cc

pub words_are_short : (w : Word) → length (word_spelling w) ≤ 5
words_are_short word.In = lit≤ tt
words_are_short word.Def = lit≤ tt
words_are_short word.Out = lit≤ tt
words_are_short word.As = lit≤ tt
words_are_short word.If = lit≤ tt
words_are_short word.Then = lit≤ tt
words_are_short word.Else = lit≤ tt
words_are_short word.True = lit≤ tt
words_are_short word.False = lit≤ tt
