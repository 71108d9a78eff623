-- Which indentations there are: none, or tabs or spaces, at most sixteen for each record around a tag. Assumes nothing.
use Rattle.std.specs.Prelude.{Bool, true, ◌&&◌, ◌||◌, Some, None, Option, ◌==◌, nat_le}
use Rattle.style.specs.declared.indentation.Indentation.{Indentation}

abbrev pub allowed : Option Indentation → Bool
allowed None = true
allowed (Some i) = (i.byte == 9 || i.byte == 32) && nat_le i.size 16
