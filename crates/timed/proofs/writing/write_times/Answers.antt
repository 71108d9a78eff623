use Rattle.std.proofs.Common.{◌≡◌, ◌-◌, List, length, take, sym, ◌∙◌, subst, ap, arith, rules}
use Rattle.std.specs.Borrow.{GName, MutBor}
use Rattle.model.specs.Run.{new}
use Rattle.engine.specs.Memory.{mem}
use Rattle.timed.specs.Steps.{calls_of}
use Rattle.timed.specs.Whole.{Leaves, over}
use Rattle.timed.proofs.Starts.{turn}
use Rattle.timed.proofs.writing.write_times.Goals as goal

-- where a reference points is no part of what a new writer's memory says
abbrev at_some : {A : Type 0} → List A → GName → MutBor (List A)
at_some xs n = record { ref_ptr = (0, 0); ghost_name = n; now = xs }

pub loop-preserved : goal.loop-preserved
loop-preserved c =
    let l = c.loop in
    let a = c.args in
    let from = c.new-sink.result in
    let till = c.write.new.sink in
    let lent = over a.style.empty_elements a.style.indentation (length a.stage.now) (length a.names.now) in
    let wide : length l.frames ≡ 64 = search rules in
    let left : Leaves lent (calls_of a.sheet.now) (new (length a.out.now)) (length (take till.used till.buffer.now)) =
    turn a.style.empty_elements a.style.indentation (at_some l.stage _) (at_some l.names _) (at_some l.frames _) (mem c.new-writer.result.core) c.new-writer.ensures.memory
    (length a.stage.now) (length a.names.now) (length a.out.now) l.auto.stage l.auto.names wide
    (take from.used from.buffer.now) (length from.buffer.now - from.used) c.new-sink.ensures.held (c.new-sink.ensures.room ∙ l.auto.out)
    (calls_of a.sheet.now) (take till.used till.buffer.now) (length till.buffer.now - till.used) c.write.ensures.whole in
    (λ never. absurd (omega (arith, never)), λ some. subst (Leaves lent (calls_of a.sheet.now) (new (length a.out.now))) (sym (ap length c.held-len.ensures.value)) left)
