-- The first call on a record, and the one that drops it. Assumes nothing.
use Rattle.std.proofs.Common.{◌≡◌, ℕ, ◌+◌, ◌<◌, ◌≤◌, true, false, not, List, [], ◌∷◌, ◌++◌, length, Ok, Option, Result, sym, refl, ap, ◌∙◌, subst, arith}
use Rattle.std.proofs.lemmas.List.{append-nil}
use Rattle.std.proofs.lemmas.Bool.{not_from_true}
use Rattle.refusal.specs.declared.Refusal.{Refusal}
use Rattle.style.specs.declared.indentation.Indentation.{Indentation}
use Rattle.style.specs.declared.style.EmptyElementHandling.{EmptyElementHandling}
use Rattle.model.specs.declared.place.Place.{Place}
use Rattle.model.specs.declared.place.Place.TheVariants.{Idle, Field, Element, Content, Text, Simple, Attribute, TextItem, AttributeItem, Complete}
use Rattle.model.specs.Frames.{new_frame}
use Rattle.model.specs.Strings.{utf8}
use Rattle.model.specs.Calls.{call_open, call_abandon}
use Rattle.model.specs.Model.{State, idle, between, inside, quote, complete}
use Rattle.model.specs.Step.{new_level}
use Rattle.model.specs.Layout.{stage, record_frame}
use Rattle.model.specs.Grounds.{is_idle, sort, out_of_order}
use Rattle.model.specs.Table.{verdict, next}
use Rattle.engine.specs.Memory.{Mem, Safe, emptied, appended, name_put}
use Rattle.engine.specs.Lays.{Lays, setting, Told, Does}
use Rattle.engine.specs.Opening.{begun, Opens}
use Rattle.engine.proofs.Fronts.{front_length, front_as, front_grown, front_push, past_cut}
use Rattle.engine.proofs.Spots.{on_idle}
use Rattle.engine.proofs.Telling.{no_bytes, told_small}
use Rattle.engine.proofs.Begins.{Names, same_frame, opens_told}

abandon_next : (f : EmptyElementHandling) (m : State) → next f call_abandon m ≡ idle
abandon_next f idle = refl
abandon_next f (between l ls) = refl
abandon_next f (inside s rs l ls) = refl
abandon_next f (quote q l ls) = refl
abandon_next f (complete ms) = refl

pub lays_idle : (w : Mem) → Lays idle (emptied w)
lays_idle w =
    record {
      holds = record { stage = record { fits = omega arith; is = refl }; names = record { fits = omega arith; is = refl }; frames = record { fits = omega arith; is = refl }; records = refl; wordy = tt; fit = tt };
      place = refl;
    }

pub abandon_ok : (room : ℕ) (w : Mem) → Safe w → is_idle (sort w.place) ≡ false → Does call_abandon room (Ok tt) w (emptied w)
abandon_ok room w safe h m lay =
    let order : out_of_order call_abandon m ≡ false = ap (λ p. not (not (is_idle (sort p)))) (sym lay.place) ∙ ap (λ b. not (not b)) h in
    told_small w room call_abandon m (emptied w)
    (record { order = order; bytes = no_bytes; shape = refl; text = refl; name = refl })
    (record { brought = refl; takes = refl; handed = refl }) safe lay.holds
    (subst (λ x. Lays x (emptied w)) (sym (abandon_next w.form m)) (lays_idle w))
    (record { stage = past_cut w.stage 0; names = past_cut w.names 0; frames = past_cut w.frames 0; form = refl; indentation = refl })

not_idle : (p : Place) → (p ≡ Idle → ⊥) → is_idle (sort p) ≡ false
not_idle Idle h = absurd (h refl)
not_idle Field h = refl
not_idle (Element n) h = refl
not_idle (Content b) h = refl
not_idle Text h = refl
not_idle Simple h = refl
not_idle Attribute h = refl
not_idle (TextItem b) h = refl
not_idle (AttributeItem b) h = refl
not_idle Complete h = refl

pub abandon_told : (room : ℕ) (w v : Mem) → Safe w → (w.place ≡ Idle → ⊥) → v ≡ emptied w → Does call_abandon room (Ok tt) w v
abandon_told room w v safe h is = subst (λ x. Does call_abandon room (Ok tt) w x) (sym is) (abandon_ok room w safe (not_idle w.place h))

-- a root's tag, without attributes and children
stage_root : (i : Option Indentation) (n : List ℕ) → 60 ∷ n ≡ stage i (between (new_level [] n) [])
stage_root i n = ap (λ z. 60 ∷ z) (sym (append-nil n) ∙ sym (append-nil (n ++ [])) ∙ sym (append-nil ((n ++ []) ++ [])))

module _ (n : List ℕ) (w : Mem) (lay : Lays idle w) where
  unused : w.stage.used ≡ 0
  unused = front_length w.stage [] lay.holds.stage

  unnamed : w.names.used ≡ 0
  unnamed = front_length w.names [] lay.holds.names

  root_framed : new_frame (w.stage.used + length (60 ∷ n)) (w.names.used + length n) w.names.used ≡ record_frame w.indentation (new_level [] n) [] []
  root_framed =
      let size : length (60 ∷ n) ≡ length (60 ∷ ((n ++ []) ++ [])) = ap (λ z. length (60 ∷ z)) (sym (append-nil n) ∙ sym (append-nil (n ++ []))) in
      same_frame refl (omega (arith, unused, size)) (omega (arith, unnamed)) unnamed

  lays_root : w.names.used + length n ≤ length w.names.all → w.frames.used < length w.frames.all → w.stage.used + length (60 ∷ n) ≤ length w.stage.all → Lays (between (new_level [] n) []) (begun w.names.used (name_put n (appended (60 ∷ n) w)))
  lays_root b d a =
      let i = w.indentation in
      let v = begun w.names.used (name_put n (appended (60 ∷ n) w)) in
      let f = new_frame (w.stage.used + length (60 ∷ n)) (w.names.used + length n) w.names.used in
      record {
        holds = record {
          stage = front_as v.stage (60 ∷ n) (stage i (between (new_level [] n) [])) (stage_root i n) (front_grown w.stage [] (60 ∷ n) a lay.holds.stage);
          names = front_grown w.names [] n b lay.holds.names;
          frames = front_as v.frames (f ∷ []) (record_frame i (new_level [] n) [] [] ∷ []) (ap (λ x. x ∷ []) root_framed) (front_push w.frames [] f d lay.holds.frames);
          records = ap (λ k. k + 1) lay.holds.records;
          wordy = refl;
          fit = tt;
        };
        place = refl;
      }

module _ (n : List ℕ) (room : ℕ) (w v : Mem) (safe : Safe w) (at : w.place ≡ Idle) (fine : utf8 n ≡ true) where
  names_open : Names (call_open n) idle n w
  names_open = record { order = refl; bytes = not_from_true (utf8 n) fine; shape = refl; text = refl; fault = refl; brought = refl; handed = refl }

  pub open_told : (res : Result (Unit {0}) Refusal) → Opens res (60 ∷ []) n w v → Does (call_open n) room res w v
  open_told res o m lay =
      on_idle (λ x. Told (verdict (setting w) room (call_open n) x) res w v) w m lay at
      (λ y.
      opens_told room (call_open n) idle n w names_open safe y.holds (60 ∷ []) res v refl
      (λ r. omega (arith, unused n w y, ap length (stage_root w.indentation n))) (lays_root n w y) o)
