use Rattle.std.proofs.Common.{◌≡◌, ◌+◌, length, inl, inr, rules}
use Rattle.std.proofs.lemmas.Result.{err_from_is_err_and}
use Rattle.model.specs.declared.place.Place.TheVariants.{Element}
use Rattle.model.specs.Frames.{named_frame}
use Rattle.model.proofs.Spelling.{utf8_from}
use Rattle.engine.specs.Memory.{mem, placed, name_put, pushed, top_frame}
use Rattle.records.proofs.Naming.{variants_refused, variants_ok}
use Rattle.records.proofs.names.open_named.Goals as goal

pub returns-in_err-name : goal.returns-in_err-name
returns-in_err-name c =
    let w = mem c.args.core.now in
    let n = c.args.text.now in
    let e = err_from_is_err_and c.from_residual.result c.from_residual.ensures.1 in
    rw (e.1, e.2) (record { does = λ room p at. variants_refused room w n p c.requires.safe at (utf8_from n c.utf8.text) c.requires.element _ (inl c.in_err-name.ensures.named) })

pub returns-in_err-frame_free : goal.returns-in_err-frame_free
returns-in_err-frame_free c =
    let w = mem c.args.core.now in
    let n = c.args.text.now in
    let e = err_from_is_err_and c.from_residual-in_err-frame_free.result c.from_residual-in_err-frame_free.ensures.1 in
    rw (e.1, e.2) (record { does = λ room p at. variants_refused room w n p c.requires.safe at (utf8_from n c.utf8.text) c.requires.element _ (inr (c.in_ok-name.ensures.named, c.in_err-frame_free.ensures.free)) })

pub returns : goal.returns
returns c =
    let w = mem c.args.core.now in
    let n = c.args.text.now in
    let from = c.push_name-from.result in
    let row : placed (Element from) (mem c.push.new.self) ≡ placed (Element w.names.used) (pushed (named_frame (top_frame w).flag (w.names.used + length n) w.names.used) (name_put n w)) = search rules in
    record { does = λ room p at. variants_ok room w n p c.requires.safe at (utf8_from n c.utf8.text) c.requires.element (placed (Element from) (mem c.push.new.self)) c.in_ok-name.ensures.named c.in_ok-frame_free.ensures.free row }
