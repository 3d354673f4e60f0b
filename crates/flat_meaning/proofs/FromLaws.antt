-- That a flat system means what its specification means follows from the laws of constructs.
use Rattle.stream_constructs.proofs.Simple.{alias_made}
use Rattle.stream_constructs.proofs.Made.{construct_made}
use Rattle.stream_constructs.proofs.Operands.{chooses_of}
use Rattle.stream_constructs.proofs.Updates.{choice_made}
use Rattle.stream_constructs.proofs.Hangs.{alias_hangs}
use Rattle.stream_constructs.proofs.Hung.{construct_hangs, choice_hangs}
use Rattle.flat_meaning.specs.inner.Laws.{FlatMeansTheSame, FlatTextIsDue}
use Rattle.flat_meaning.proofs.Built.{TheLaws}
use Rattle.flat_meaning.proofs.Means.{means}
use Rattle.flat_meaning.proofs.DueText.{text_is_due}

pub flat_means_the_same : TheLaws → FlatMeansTheSame
flat_means_the_same laws items kinds s lines bound z of flat needs good solves = means items kinds s lines bound z laws of flat needs good solves

pub flat_text_is_due : TheLaws → FlatTextIsDue
flat_text_is_due laws items kinds s lines bound limit z of flat needs good solves = text_is_due items kinds s lines bound z laws of flat needs good solves limit

-- the laws of constructs, which their crate proves
pub the_laws : TheLaws
the_laws = record {
  constructs_made = λ c p of n parts fits itself inputs z t solved. construct_made p of n inputs z t c parts fits itself (record { each = solved });
  constructs_hang = λ c p of n parts s fits itself stands. construct_hangs p n s c of parts fits itself (record { each = stands });
  choices_made = λ p of n os parts fits inputs z t solved. choice_made p of n inputs z t (chooses_of os parts _ of fits.1 fits.0) (record { each = solved });
  choices_hang = λ p of n os parts s fits stands. choice_hangs p of n s os parts fits (record { each = stands });
  aliases_made = λ p n a inputs z t solved. alias_made p n a inputs z t (record { each = solved });
  aliases_hang = λ p n a s stands. alias_hangs p n a s (record { each = stands });
}
