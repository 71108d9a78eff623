use Rattle.std.specs.Prelude.{◌≡◌, ℕ, ◌&&◌, take}
use Rattle.xml.specs.Escaping.{among}
use Rattle.xml.specs.Marked.{marked}
use Rattle.xml.proofs.chosen.Chosen.by.Given as goal

-- of the bytes so far, those are marked that the rule chooses
abbrev pub invariant-loop-byte : goal.invariant-loop-byte
invariant-loop-byte g l = (b : ℕ) → marked l.bits b ≡ (among b (take l.byte-index l.byte-items) && g.R.EscapeRule.chooses l.rule l.target b)
