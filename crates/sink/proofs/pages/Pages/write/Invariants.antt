use Rattle.std.proofs.Common.{◌≡◌, length}
use lib.Seq.{paste}
use Rattle.sink.specs.Pages.{flat}
use Rattle.sink.proofs.pages.Pages.write.Given as goal

-- the first i bytes are laid down
abbrev pub invariant-loop-i : goal.invariant-loop-i
invariant-loop-i l = (length (flat l.self.pages) ≡ 4096) × (flat l.self.pages ≡ paste (flat l.initial.self.pages) l.from l.src l.i)
