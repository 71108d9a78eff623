-- What may be used of a lent slice. Assumes nothing.
use Rattle.std.specs.Prelude.{◌≡◌, List, take, drop}
use Rattle.memory.specs.declared.lent.Lent.{Lent}

-- what may be used of it, and what lies past that
abbrev pub usable : {A : Type 0} → Lent A → List A
usable b = take b.most b.all.now

abbrev pub past : {A : Type 0} → Lent A → List A
past b = drop b.most b.all.now

-- it is still the slice that was lent: the same reference, of which as much may be used, and past that it is as it was
abbrev pub StaysLent : {A : Type 0} → Lent A → Lent A → Type 0
StaysLent b c = (c.all.ghost_name ≡ b.all.ghost_name) × (c.most ≡ b.most) × (past c ≡ past b)
