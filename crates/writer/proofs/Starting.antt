-- A new writer: no more than the first part of each slice that the caller lends may be used, and nothing is in use. Assumes nothing.
use Rattle.std.proofs.Common.{◌≡◌, ℕ, ◌≤◌, true, false, ◌||◌, eqb, leb, List, Some, None, Option, refl, arith}
use Rattle.std.proofs.lemmas.List.{length-take}
use Rattle.std.proofs.lemmas.Bool.{leb-true, and_parts}
use Rattle.std.specs.Borrow.{MutBor}
use Rattle.style.specs.declared.indentation.Indentation.{Indentation}
use Rattle.style.specs.declared.style.EmptyElementHandling.{EmptyElementHandling}
use Rattle.style.specs.declared.style.Style.{Style}
use Rattle.style.specs.Indents.{allowed}
use Rattle.memory.specs.declared.lent.Lent.{Lent}
use Rattle.model.specs.declared.place.Place.TheVariants.{Idle}
use Rattle.model.specs.declared.frame.Frame.{Frame}
use Rattle.model.specs.Model.{idle}
use Rattle.engine.specs.Memory.{buf, mem, indent_size}
use Rattle.engine.specs.Lays.{Lays}
use Rattle.places.specs.Sound.{Sizes}
use Rattle.writer.specs.Starting.{unused, starting}

pub narrow : (i : Option Indentation) → allowed i ≡ true → indent_size i ≤ 16
narrow None e = omega arith
narrow (Some i) e = leb-true i.size 16 (and_parts (eqb i.byte 9 || eqb i.byte 32) (leb i.size 16) e).1

module _ (f : EmptyElementHandling) (i : Option Indentation) (stage names : MutBor (List ℕ)) (frames : MutBor (List Frame)) where
  -- nothing is in use, so it holds the idle model
  pub starting_idle : Lays idle (starting f i stage names frames)
  starting_idle =
      record {
        holds = record { stage = record { fits = omega arith; is = refl }; names = record { fits = omega arith; is = refl }; frames = record { fits = omega arith; is = refl }; records = refl; wordy = tt; fit = tt };
        place = refl;
      }

  pub starting_sizes : indent_size i ≤ 16 → Sizes (starting f i stage names frames)
  starting_sizes h =
      record {
        stage = omega (arith, length-take 65536 stage.now);
        names = omega (arith, length-take 4096 names.now);
        frames = omega (arith, length-take 64 frames.now);
        indent = h;
      }

-- a slice that was lent just now is that very slice
pub just_lent : {A : Type 0} (n : ℕ) (b : MutBor (List A)) (l : Lent A) → l.all.ghost_name ≡ b.ghost_name → l.all.now ≡ b.now → l.most ≡ n → l.used ≡ 0 → buf l ≡ unused n b
just_lent n b l g a m u = cc

-- and so is each of a writer's
pub started : (stage names : MutBor (List ℕ)) (frames : MutBor (List Frame)) (s : Style) (x y : Lent ℕ) (z : Lent Frame) → buf x ≡ unused 65536 stage → buf y ≡ unused 4096 names → buf z ≡ unused 64 frames → mem (record { stage = x; names = y; frames = z; records = 0; place = Idle; wordy = false; style = s }) ≡ starting s.empty_elements s.indentation stage names frames
started stage names frames s x y z p q r = cc
