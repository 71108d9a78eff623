use Rattle.std.proofs.Common.{◌<◌, ◌≤◌, rules}
use Rattle.model.specs.Marks.{shut}
use Rattle.engine.specs.Memory.{mem, top_frame}
use Rattle.rows.specs.Pieces.{name_of}
use Rattle.closing.specs.Ends.{stage_shut, end_of}
use Rattle.closing.proofs.Ending.{shuts_empty, shuts_full, end_does}
use Rattle.closing.proofs.record.end_record.Goals as goal

pub returns-then-top-core : goal.returns-then-top-core
returns-then-top-core c =
    let w = mem c.args.core.now in
    let t = top_frame w in
    let some : t.tag < w.stage.used = search rules in
    record { does = λ room. end_does room w (mem c.end_full.new.core) c.end_full.result 1 (end_of w t.from) (stage_shut t.tag w) c.requires.safe c.requires.place (λ l ls h. shuts_full w l ls h some) c.end_full.ensures.ends }

pub returns-else-top-core : goal.returns-else-top-core
returns-else-top-core c =
    let w = mem c.args.core.now in
    let t = top_frame w in
    let none : w.stage.used ≤ t.tag = search rules in
    record { does = λ room. end_does room w (mem c.end_empty.new.core) c.end_empty.result 0 (shut w.form (name_of w t.from)) w.stage c.requires.safe c.requires.place (λ l ls h. shuts_empty w l ls h none) c.end_empty.ensures.ends }
