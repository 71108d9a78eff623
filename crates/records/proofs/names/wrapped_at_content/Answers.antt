use Rattle.engine.specs.Memory.{mem}
use Rattle.records.proofs.Naming.{wrapped_told, wrapped_text}
use Rattle.records.proofs.names.wrapped_at_content.Goals as goal

pub returns-in-Some : goal.returns-in-Some
returns-in-Some c =
    let told = rw c.in-Some.is at c.in_ok-name.ensures.announced in
    record {
      does = λ room. wrapped_told room (mem c.args.core.now) c.args.name.now c.args.texts c.requires.safe c.requires.place told.0 told.1 (mem c.await_element.new.self) c.await_element.result
          (rw told.2 at c.await_element.ensures.awaits);
    }

pub returns : goal.returns
returns c =
    let told = rw c.in_default.is at c.in_ok-name.ensures.announced in
    record { does = λ room. wrapped_text room (mem c.args.core.now) c.args.name.now c.args.texts c.requires.safe c.requires.place told.0 told.1 told.2 }
