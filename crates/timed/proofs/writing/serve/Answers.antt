use Rattle.std.proofs.Common.{sym, subst}
use Rattle.engine.specs.Memory.{mem}
use Rattle.engine.specs.Lays.{Does}
use Rattle.timed.specs.Steps.{meant, call_of_part}
use Rattle.timed.proofs.Turns.{is_meant}
use Rattle.timed.proofs.writing.serve.Goals as goal

pub returns-in-Value : goal.returns-in-Value
returns-in-Value c =
    let x = c.in-Value.value in
    record { does = λ room. subst (λ p. Does (call_of_part p) room c.value.result (mem c.args.writer.now.core) (mem c.value.new.self.core)) (sym c.in-Value.is) (c.value.ensures.does room (meant x) (is_meant x)) }
