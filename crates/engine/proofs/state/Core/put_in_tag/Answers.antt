use Rattle.std.proofs.Common.{◌≡◌, ◌+◌, ◌<◌, length, ap, ◌∙◌, rules}
use Rattle.std.specs.Prelude.{slice_index_or, slice_set}
use Rattle.memory.specs.Lending.{usable}
use Rattle.memory.specs.Opened.{opened}
use Rattle.engine.specs.Frames.{no_frame, longer_tag}
use Rattle.engine.specs.Memory.{mem, buf, frame_at}
use Rattle.engine.proofs.Table.{changed_within, kept_past, longer_so}
use Rattle.engine.proofs.state.Core.put_in_tag.Goals as goal

pub returns : goal.returns
returns g c =
    let core = c.args.self.now in
    let l = core.frames in
    let bs = g.P.Piece.bytes c.args.piece.now in
    let low : c.args.frame < length (usable l) = c.requires.within in
    let w = mem core in
    let tag = (frame_at w c.args.frame).tag in
    let end : c.insert_sized-end.result ≡ tag + length bs = search rules in
    let longer : c.lengthen_tag.new.frames ≡ slice_set l.all.now c.args.frame (longer_tag (tag + length bs) (slice_index_or l.all.now c.args.frame no_frame)) = c.lengthen_tag.ensures.frames ∙ ap (λ t. slice_set l.all.now c.args.frame (longer_tag t (slice_index_or l.all.now c.args.frame no_frame))) end in
    let stage : buf c.insert_sized-end.new.self ≡ record w.stage { all = opened w.stage.all tag w.stage.used bs; used = w.stage.used + length bs } = search rules in
    record {
      puts = (
        search rules,
        longer_so w c.args.frame bs (buf c.insert_sized-end.new.self) _ _ stage
            (changed_within l.most l.all.now c.lengthen_tag.new.frames c.args.frame (longer_tag (tag + length bs)) low longer)
            (kept_past l.most l.all.now c.lengthen_tag.new.frames c.args.frame (longer_tag (tag + length bs)) low longer),
      );
    }
