use Rattle.std.proofs.Common.{◌≡◌, drop, vec_items}
use Rattle.script.specs.Escapes.{led, unescaped_from, unescaped, Sound}
use Rattle.script.proofs.escapes.unescape.Given as goal

-- the bytes so far, and what is left from this place on, stand for the whole
abbrev pub invariant-loop-c : goal.invariant-loop-c
invariant-loop-c l =
    Sound l.place × (led (vec_items l.bytes) (unescaped_from l.place (drop l.c-index l.text)) ≡ unescaped l.text)
