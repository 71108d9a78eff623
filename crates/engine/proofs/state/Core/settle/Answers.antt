use Rattle.std.proofs.Common.{◌-◌, ◌<◌, length, arith}
use Rattle.memory.specs.Lending.{usable}
use Rattle.engine.specs.Frames.{settled_frame}
use Rattle.engine.specs.Memory.{mem}
use Rattle.engine.proofs.Table.{changed_within, kept_past, same_top, settled_so}
use Rattle.engine.proofs.state.Core.settle.Goals as goal

pub returns : goal.returns
returns c =
    let core = c.args.self.now in
    let l = core.frames in
    let at = l.used - 1 in
    let top = c.settle_frame-frame in
    let low : at < length (usable l) = omega (arith, c.requires.within, c.requires.«open») in
    record {
      memory = settled_so (mem core) c.args.res top.result c.place_in-self.result _ _ (same_top l.most l.all.now at top.result low top.ensures.value) c.place_in-self.ensures.value
          (changed_within l.most l.all.now top.new.frames at (settled_frame c.args.res) low top.ensures.frames)
          (kept_past l.most l.all.now top.new.frames at (settled_frame c.args.res) low top.ensures.frames);
    }
