-- A call keeps what is always true of a writer. Assumes nothing.
use Rattle.std.proofs.Common.{◌≡◌, ℕ, ◌≤◌, length, Result, sym, ap, subst, arith}
use mathlib.Core.Logic.{∥∥₁_map}
use Rattle.refusal.specs.declared.Refusal.{Refusal}
use Rattle.model.specs.Calls.{Call}
use Rattle.model.specs.Model.{State}
use Rattle.model.specs.Table.{Setting, Verdict, refuse, accept, verdict}
use Rattle.engine.specs.Memory.{Mem, indent_size}
use Rattle.engine.specs.Lays.{Lays, setting, Told, Does}
use Rattle.places.specs.Sound.{Sound, Sizes}
use Rattle.places.proofs.Standing.{always}

-- a refusal leaves the model, and an accepted call leads to the next one
told_lays : (x : Verdict) (m : State) (r : Result (Unit {0}) Refusal) (w v : Mem) → Lays m w → Told x r w v → (n : State) × Lays n v
told_lays (refuse e) m r w v lay t = (m, subst (λ y. Lays m y) (sym t.1) lay)
told_lays (accept n) m r w v lay t = (n, t.1)

sound_after : (c : Call) (room : ℕ) (r : Result (Unit {0}) Refusal) (w v : Mem) → Sound w → Does c room r w v → Sound v
sound_after c room r w v s d = ∥∥₁_map s (λ t. told_lays (verdict (setting w) room c t.0) t.0 r w v t.1 (d t.0 t.1))

-- the slices stay as long as they are, and the style stays
pub told_setting : (x : Verdict) (r : Result (Unit {0}) Refusal) (w v : Mem) → Told x r w v → setting v ≡ setting w
told_setting (refuse e) r w v t = ap setting t.1
told_setting (accept n) r w v t = let b = t.2 in same_setting b.form b.indentation b.stage.size b.names.size b.frames.size
  where
    same_setting : v.form ≡ w.form → v.indentation ≡ w.indentation → length v.stage.all ≡ length w.stage.all → length v.names.all ≡ length w.names.all → length v.frames.all ≡ length w.frames.all → setting v ≡ setting w
    same_setting f i a b d = cc

-- a bound on what the setting says
kept : (c : Call) (room : ℕ) (r : Result (Unit {0}) Refusal) (w v : Mem) → Sound w → Does c room r w v → (f : Setting → ℕ) (k : ℕ) → f (setting w) ≤ k → f (setting v) ≤ k
kept c room r w v s d f k h =
    always w (f (setting v)) k s (λ m lay. omega (arith, h, ap f (told_setting (verdict (setting w) room c m) r w v (d m lay))))

sizes_after : (c : Call) (room : ℕ) (r : Result (Unit {0}) Refusal) (w v : Mem) → Sound w → Does c room r w v → Sizes w → Sizes v
sizes_after c room r w v s d z =
    record {
      stage = kept c room r w v s d (λ x. x.memory.stage) 65536 z.stage;
      names = kept c room r w v s d (λ x. x.memory.names) 4096 z.names;
      frames = kept c room r w v s d (λ x. x.memory.frames) 64 z.frames;
      indent = kept c room r w v s d (λ x. indent_size x.indentation) 16 z.indent;
    }

-- all of it, as a writer has it
pub lasts : (c : Call) (room : ℕ) (r : Result (Unit {0}) Refusal) (w v : Mem) → Sound w → Sizes w → Does c room r w v → Sound v × Sizes v
lasts c room r w v s z d = (sound_after c room r w v s d, sizes_after c room r w v s d z)
