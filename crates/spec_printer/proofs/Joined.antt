-- Texts that are printed one after the other.
use Rattle.std.proofs.Common.{◌≡◌, ℕ, List, ◌++◌, length, take, drop, sym, ap, ◌∙◌, append_assoc}
use Rattle.std.proofs.lemmas.Grind.{flat_map-append}
use Rattle.std.proofs.lemmas.List.{take-append-drop}
use Rattle.std.proofs.Math.Seq.{take-append_seam}
use Rattle.spec_printer.specs.inner.Marks.{Mark, mark_text, text_of}

pub text-append : (ms ns : List Mark) → text_of (ms ++ ns) ≡ text_of ms ++ text_of ns
text-append ms ns = flat_map-append mark_text ms ns

-- first some marks, then more
pub after : (a b c : List ℕ) (ms ns : List Mark) → b ≡ a ++ text_of ms → c ≡ b ++ text_of ns → c ≡ a ++ text_of (ms ++ ns)
after a b c ms ns h k =
    k ∙ ap (λ x. x ++ text_of ns) h ∙ append_assoc a (text_of ms) (text_of ns) ∙ ap (λ x. a ++ x) (sym (text-append ms ns))

-- what begins with more begins with less
pub kept : (a b c : List ℕ) (ms : List Mark) → b ≡ a ++ text_of ms → take (length b) c ≡ b → take (length a) c ≡ a
kept a b c ms h k =
    let whole : c ≡ a ++ (text_of ms ++ drop (length b) c) = sym (take-append-drop (length b) c) ∙ ap (λ x. x ++ drop (length b) c) (k ∙ h) ∙ append_assoc a (text_of ms) (drop (length b) c) in
    ap (take (length a)) whole ∙ take-append_seam a (text_of ms ++ drop (length b) c)
