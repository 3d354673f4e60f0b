use Rattle.std.proofs.Common.{◌≡◌, ◌∙◌, ◌||◌, ap, sym, subst, ◌+◌, Bool, false, List, drop, slice_index_or, arith, rules, inl, inr}
use Rattle.std.proofs.lemmas.Bool.{cases_lt}
use Rattle.std.proofs.lemmas.List.{at_drop_more, get_or-map}
use Rattle.std.specs.Str.{IsUtf8}
use Rattle.std.specs.List.{list_any}
use Rattle.command_words.specs.declared.words.Word.{Word}
use Rattle.command_words.specs.Words.{is_empty, texts_of}
use Rattle.command_words.proofs.words.has_empty.Goals as goal

pub loop-word-preserved : goal.loop-word-preserved
loop-word-preserved c =
    let words = c.args.words.now in
    let i = c.loop-word.word-index in
    let d = c.word-item.result in
    let any : List Word → Bool = λ ws. list_any is_empty (texts_of ws) in
    let filled : is_empty (slice_index_or words i d).text ≡ false = ap (λ w. is_empty w.text) (sym c.word-item.is) ∙ (ap is_empty (sym c.as_str.ensures) ∙ (sym c.is_empty.ensures ∙ c.if-is_empty.false)) in
    let here : (slice_index_or words i d).text ≡ c.as_str.result.now = ap (λ w. w.text) (sym c.word-item.is) ∙ sym c.as_str.ensures in (
      c.loop-word.invariant.0 ∙ (at_drop_more any words i d (search rules) ∙ ap (λ b. b || any (drop (i + 1) words)) filled),
      λ k e lt. elim (cases_lt k i) [
        | inl below ↦ c.loop-word.invariant.1 k e below
        | inr above ↦
            let at : i ≡ k = omega arith in
            subst (λ j. IsUtf8 (slice_index_or (texts_of words) j e)) at (subst IsUtf8 (sym (get_or-map (λ w. w.text) words i d e (search rules) ∙ here)) c.as_str.utf8)
      ],
    )
