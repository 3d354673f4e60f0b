-- What hangs on the name of a call: on tests of the name, or on what is found of it among the language's own names.
use Rattle.std.specs.Prelude.{Bool, if◌then◌else◌, Option, Some, None}
use Rattle.vocabulary.specs.declared.plain.Plain.{Plain}
use Rattle.vocabulary.specs.declared.plain.Plain.TheVariants as plain
use Rattle.stream_constructs.specs.Construct.{Construct}
use Rattle.stream_constructs.specs.Construct as construct

-- This for a construct whose arguments are all parts, one for each other construct, and one for any other name.
module _ {X : Type 0} (whole : Construct → X) (delay const filter lift other : X) where
  abbrev pub by_tests : Option Construct → Bool → Bool → Bool → Bool → X
  by_tests (Some c) is_delay is_const is_filter is_lift = whole c
  by_tests None is_delay is_const is_filter is_lift =
      if is_delay then delay else if is_const then const else if is_filter then filter else if is_lift then lift else other

  abbrev pub by_plain : Option Plain → X
  by_plain (Some plain.Time) = whole construct.Time
  by_plain (Some plain.Last) = whole construct.Last
  by_plain (Some plain.Merge) = whole construct.Merge
  by_plain (Some plain.Default) = whole construct.Merge
  by_plain (Some plain.Delay) = delay
  by_plain (Some plain.Const) = const
  by_plain (Some plain.Filter) = filter
  by_plain (Some plain.Lift) = lift
  by_plain p = other
