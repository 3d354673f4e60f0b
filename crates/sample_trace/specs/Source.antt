-- The specifications that are run over the sample trace.
use Rattle.std.specs.Prelude.{ℕ, List, ◌++◌, codes}

-- whether each value came before, by the set of the values so far
unfoldable pub seen_source : List ℕ
seen_source =
    codes "in i: Events[Int]\ndef m := merge(y, Set.empty[Int])\ndef yl := last(m, i)\n"
    ++ codes "def y: Events[Set[Int]] := Set.add(yl, i)\ndef s := Set.contains(yl, i)\nout s\n"

-- what it has in addition where the set is held as it was
unfoldable pub held_source : List ℕ
held_source = codes "in j: Events[Unit]\ndef prev := last(yl, j)\nout prev\n"

unfoldable pub copy_source : List ℕ
copy_source = seen_source ++ held_source
