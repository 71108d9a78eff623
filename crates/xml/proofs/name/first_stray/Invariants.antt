use Rattle.std.proofs.Common.{◌≡◌, None, IsUtf8}
use Rattle.std.specs.Str.Iter.{char_indices_rest, char_indices_offset}
use Rattle.std.specs.Str.{chars}
use Rattle.xml.specs.Names.{stray_from}
use Rattle.xml.proofs.name.first_stray.Given as goal

-- what is left gives the stray character of the whole
abbrev pub invariant-loop-at : goal.invariant-loop-at
invariant-loop-at l =
    IsUtf8 (char_indices_rest l.at-iterator) × (stray_from (chars (char_indices_rest l.at-iterator)) (char_indices_offset l.at-iterator) ≡ stray_from (chars l.name) 0) × (l.stray ≡ None)
