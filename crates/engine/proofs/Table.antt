-- A change in the frame table, which is made on the whole slice: within the bound and past it. Assumes nothing.
use Rattle.std.proofs.Common.{◌≡◌, ℕ, ◌+◌, ◌-◌, ◌<◌, List, length, take, drop, sym, ap, ◌∙◌, arith}
use Rattle.std.specs.Prelude.{slice_index_or, slice_set}
use Rattle.std.proofs.lemmas.List.{get_or-take}
use Rattle.style.specs.declared.result.WriteResult.{WriteResult}
use Rattle.memory.specs.Opened.{opened}
use Rattle.memory.proofs.Lending.{fits_both, take_stored, drop_stored}
use Rattle.model.specs.declared.place.Place.{Place}
use Rattle.model.specs.declared.frame.Frame.{Frame}
use Rattle.engine.specs.Frames.{no_frame, settled_frame, longer_tag, next_place}
use Rattle.engine.specs.Memory.{Buf, Mem, frame_at, top_frame, settled, in_tag}

module _ (n : ℕ) (xs ys : List Frame) (at : ℕ) (g : Frame → Frame) (low : at < length (take n xs)) (is : ys ≡ slice_set xs at (g (slice_index_or xs at no_frame))) where
  same : slice_index_or xs at no_frame ≡ slice_index_or (take n xs) at no_frame
  same = let f = fits_both n (at + 1) xs (omega (arith, low)) in sym (get_or-take n xs at no_frame (omega (arith, f.0)))

  pub changed_within : take n ys ≡ slice_set (take n xs) at (g (slice_index_or (take n xs) at no_frame))
  changed_within = ap (take n) is ∙ take_stored n xs at (g (slice_index_or xs at no_frame)) low ∙ ap (λ f. slice_set (take n xs) at (g f)) same

  pub kept_past : drop n ys ≡ drop n xs
  kept_past = ap (drop n) is ∙ drop_stored n xs at (g (slice_index_or xs at no_frame)) low

-- what the whole slice has on top is what stands there within the bound
pub same_top : (n : ℕ) (xs : List Frame) (at : ℕ) (f : Frame) → at < length (take n xs) → f ≡ slice_index_or xs at no_frame → f ≡ slice_index_or (take n xs) at no_frame
same_top n xs at f low is = let h = fits_both n (at + 1) xs (omega (arith, low)) in is ∙ sym (get_or-take n xs at no_frame (omega (arith, h.0)))

-- a value is complete
pub settled_so : (w : Mem) (r : WriteResult) (f : Frame) (p : Place) (all rest : List Frame) → f ≡ top_frame w → p ≡ next_place f.kind w.wordy f.from → all ≡ slice_set w.frames.all (w.frames.used - 1) (settled_frame r (top_frame w)) → rest ≡ w.frames.rest → record w { names = record w.names { used = f.keep }; frames = record w.frames { all = all; rest = rest }; place = p } ≡ settled r w
settled_so w r f p all rest a b c d = cc

-- a tag is longer
pub longer_so : (w : Mem) (k : ℕ) (bs : List ℕ) (b : Buf ℕ) (all rest : List Frame) → b ≡ record w.stage { all = opened w.stage.all (frame_at w k).tag w.stage.used bs; used = w.stage.used + length bs } → all ≡ slice_set w.frames.all k (longer_tag ((frame_at w k).tag + length bs) (frame_at w k)) → rest ≡ w.frames.rest → record w { stage = b; frames = record w.frames { all = all; rest = rest } } ≡ in_tag k bs w
longer_so w k bs b all rest p q r = cc
