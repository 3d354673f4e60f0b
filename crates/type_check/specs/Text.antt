-- Kinds as they are printed.
use Rattle.std.specs.Prelude.{ℕ, List, ◌++◌, map, codes}
use Rattle.tsl_value.specs.Print.{listed, type_text}
use Rattle.type_check.specs.declared.fault.Kind.{Kind}
use Rattle.type_check.specs.declared.fault.Kind.TheVariants as kind
use Rattle.type_check.specs.Kind.{types_of}

-- a kind: a stream's type within `Events`, an option's within `Option`, a family as all its types with a comma and a blank between them
abbrev pub kind_text : Kind → List ℕ
kind_text (kind.Stream t) = codes "Events[" ++ (type_text t ++ codes "]")
kind_text (kind.Value t) = type_text t
kind_text (kind.Optional t) = codes "Option[" ++ (type_text t ++ codes "]")
kind_text kind.Function = codes "function"
kind_text kind.Literal = codes "literal"
kind_text (kind.OneOf f) = codes "one of " ++ listed (map type_text (types_of f))
