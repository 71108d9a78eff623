-- What holds of the reader: bytes have at most one reading. Assumes nothing.
use Rattle.std.specs.Prelude.{◌≡◌, List}
use Rattle.reader.specs.Trees.{Bytes, Tree}
use Rattle.reader.specs.Reader.{Reads}

-- whoever reads the same bytes reads the same trees
abbrev pub OneReading : Type 0
OneReading = (bs : Bytes) (ts us : List Tree) → Reads bs ts → Reads bs us → ts ≡ us
