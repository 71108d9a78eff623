-- The memory of a new writer. Assumes nothing.
use Rattle.std.specs.Prelude.{ℕ, false, List, take, drop, Option}
use Rattle.std.specs.Borrow.{MutBor}
use Rattle.style.specs.declared.indentation.Indentation.{Indentation}
use Rattle.style.specs.declared.style.EmptyElementHandling.{EmptyElementHandling}
use Rattle.model.specs.declared.place.Place.TheVariants.{Idle}
use Rattle.model.specs.declared.frame.Frame.{Frame}
use Rattle.engine.specs.Memory.{Buf, Mem}

-- a slice that is lent, of which no more than the first n may be used, and nothing is in use yet
abbrev pub unused : {A : Type 0} → ℕ → MutBor (List A) → Buf A
unused n lent = record { all = take n lent.now; used = 0; rest = drop n lent.now; reference = lent.ghost_name }

-- a writer of this style over this memory, before its first call
abbrev pub starting : EmptyElementHandling → Option Indentation → MutBor (List ℕ) → MutBor (List ℕ) → MutBor (List Frame) → Mem
starting f i stage names frames = record {
  stage = unused 65536 stage;
  names = unused 4096 names;
  frames = unused 64 frames;
  records = 0;
  place = Idle;
  wordy = false;
  form = f;
  indentation = i;
}
