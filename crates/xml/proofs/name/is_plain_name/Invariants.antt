use Rattle.std.specs.Prelude.{◌≡◌, true, take}
use Rattle.std.specs.List.{list_all}
use Rattle.xml.proofs.Naming.{plain}
use Rattle.xml.proofs.name.is_plain_name.Given as goal

-- every byte so far stands in names
abbrev pub invariant-loop-byte : goal.invariant-loop-byte
invariant-loop-byte l = list_all plain (take l.byte-index l.rest) ≡ true
