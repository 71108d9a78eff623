-- What the top frame says of the innermost open thing before a value. Assumes nothing.
use Rattle.std.proofs.Common.{◌≡◌, List, [], ◌∷◌, refl, ap, ◌∙◌}
use Rattle.model.specs.declared.frame.Frame.{Frame}
use Rattle.model.specs.Model.{Level, Row, named_row, content_row, Outer, Spot, inside, flag}
use Rattle.model.specs.Layout.{row_frame, record_frame, outer_frames, spot_frames}
use Rattle.engine.specs.Memory.{Mem, top_frame}
use Rattle.engine.specs.Lays.{Holds}
use Rattle.engine.proofs.Settling.{top_is, below_row, row_on_top, record_on_top}

-- the frame of the innermost record or row
abbrev pub innermost_frame : List Row → Mem → Level → List Outer → Frame
innermost_frame [] w l ls = record_frame w.indentation l ls []
innermost_frame (r ∷ rs) w l ls = row_frame r

pub top_is_innermost : (s : Spot) (rs : List Row) (l : Level) (ls : List Outer) (w : Mem) → spot_frames s ≡ [] → Holds (inside s rs l ls) w → top_frame w ≡ innermost_frame rs w l ls
top_is_innermost s [] l ls w e h = top_is w (outer_frames w.indentation ls) (record_frame w.indentation l ls []) (record_on_top s l ls w e h)
top_is_innermost s (r ∷ rs) l ls w e h = top_is w (below_row w.indentation rs l ls) (row_frame r) (row_on_top s r rs l ls w e h)

flag_of_innermost : (rs : List Row) (w : Mem) (l : Level) (ls : List Outer) → (innermost_frame rs w l ls).flag ≡ flag rs l.body
flag_of_innermost [] w l ls = refl
flag_of_innermost (named_row u n g ∷ rs) w l ls = refl
flag_of_innermost (content_row t r g ∷ rs) w l ls = refl

pub top_flag : (s : Spot) (rs : List Row) (l : Level) (ls : List Outer) (w : Mem) → spot_frames s ≡ [] → Holds (inside s rs l ls) w → (top_frame w).flag ≡ flag rs l.body
top_flag s rs l ls w e h = ap (λ f. f.flag) (top_is_innermost s rs l ls w e h) ∙ flag_of_innermost rs w l ls
