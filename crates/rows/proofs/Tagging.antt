-- The bytes that the code writes for an element are those of the model's marks. Assumes nothing.
use Rattle.std.proofs.Common.{◌≡◌, ℕ, suc, not, ◌&&◌, List, [], ◌∷◌, ◌++◌, length, codes, sym, ap, ◌∙◌, append_assoc, arith}
use Rattle.model.specs.Marks.{flatten, bytes_of_mark, less_than, shut, tagged, texted, empty_element, text_element}
use Rattle.model.specs.Model.{Level, Row, Outer, Spot, element, inside, flag, child_start}
use Rattle.model.specs.Layout.{spot_frames}
use Rattle.model.proofs.Flatten.{flatten-++, flatten_tagged, flatten_texted}
use Rattle.engine.specs.Memory.{Mem}
use Rattle.engine.specs.Lays.{Holds}
use Rattle.engine.proofs.Fronts.{front_second}
use Rattle.engine.proofs.Tops.{top_flag}
use Rattle.rows.specs.Pieces.{lead_of, name_of, empty_bytes, close_bytes, text_bytes}

pub lead_is_start : (s : Spot) (rs : List Row) (l : Level) (ls : List Outer) (w : Mem) → spot_frames s ≡ [] → Holds (inside s rs l ls) w → lead_of w ≡ bytes_of_mark w.indentation (child_start rs l.body (suc (length ls)))
lead_is_start s rs l ls w e h =
    let i = w.indentation in
    let d : w.records ≡ suc (length ls) = omega (arith, h.records) in
    ap (λ g. bytes_of_mark i (less_than (g && not w.wordy) w.records)) (top_flag s rs l ls w e h)
    ∙ ap (λ t. bytes_of_mark i (less_than (flag rs l.body && not t) w.records)) h.wordy
    ∙ ap (λ k. bytes_of_mark i (less_than (flag rs l.body && not l.body.wordy) k)) d

pub name_is : (u n : List ℕ) (rs : List Row) (l : Level) (ls : List Outer) (w : Mem) (from : ℕ) → from ≡ length u → Holds (inside (element u n) rs l ls) w → name_of w from ≡ n
name_is u n rs l ls w from e h = front_second w.names u n from e h.names

pub empty_is : (s : Spot) (n : List ℕ) (rs : List Row) (l : Level) (ls : List Outer) (w : Mem) → spot_frames s ≡ [] → Holds (inside s rs l ls) w → empty_bytes w n ≡ flatten w.indentation (child_start rs l.body (suc (length ls)) ∷ empty_element w.form n)
empty_is s n rs l ls w e h =
    let i = w.indentation in
    ap (λ x. x ++ (n ++ shut w.form n)) (lead_is_start s rs l ls w e h) ∙ ap (λ x. bytes_of_mark i (child_start rs l.body (suc (length ls))) ++ x) (sym (flatten_tagged i (n ++ shut w.form n)))

pub text_is : (s : Spot) (n v : List ℕ) (rs : List Row) (l : Level) (ls : List Outer) (w : Mem) → spot_frames s ≡ [] → Holds (inside s rs l ls) w → text_bytes w n v ≡ flatten w.indentation (child_start rs l.body (suc (length ls)) ∷ text_element n v)
text_is s n v rs l ls w e h =
    let i = w.indentation in
    let m = bytes_of_mark i (child_start rs l.body (suc (length ls))) in
    let open_tag : List ℕ = n ++ codes ">" in
    let tail : flatten i (texted v ++ tagged (close_bytes n)) ≡ v ++ close_bytes n =
    flatten-++ i (texted v) (tagged (close_bytes n)) ∙ ap (λ x. x ++ flatten i (tagged (close_bytes n))) (flatten_texted i v) ∙ ap (λ x. v ++ x) (flatten_tagged i (close_bytes n)) in
    let inner : flatten i (text_element n v) ≡ open_tag ++ (v ++ close_bytes n) =
    flatten-++ i (tagged open_tag) (texted v ++ tagged (close_bytes n)) ∙ ap (λ x. x ++ flatten i (texted v ++ tagged (close_bytes n))) (flatten_tagged i open_tag) ∙ ap (λ x. open_tag ++ x) tail in
    ap (λ x. (x ++ open_tag) ++ (v ++ close_bytes n)) (lead_is_start s rs l ls w e h) ∙ append_assoc m open_tag (v ++ close_bytes n) ∙ ap (λ x. m ++ x) (sym inner)
