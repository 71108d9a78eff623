use Rattle.std.proofs.Common.{◌≡◌, length, drop, ap, ◌∙◌, subst, sym, rules}
use Rattle.std.proofs.lemmas.List.{take_at}
use Rattle.engine.specs.Memory.{mem}
use Rattle.writer.specs.Served.{all_answered}
use Rattle.xml.specs.Escaping.{level_chooses}
use Rattle.writer.specs.Spelled.{CallsAre}
use Rattle.writer.specs.Replayed.{calls_of, answers_of}
use Rattle.runner.specs.Running.{set_up, Made}
use Rattle.runner.proofs.Making.{made}
use Rattle.runner.proofs.running.run_on.Goals as goal

pub returns : goal.returns
returns g c =
    let f = c.args.style.empty_elements in
    let i = c.args.style.indentation in
    let z = c.args.sizes in
    let held = g.S.Sink.held in
    let room = g.S.Sink.room in
    let stage : length c.deref_mut.result.now ≡ z.stage = search rules in
    let names : length c.deref_mut-2.result.now ≡ z.names = search rules in
    let frames : length c.deref_mut-3.result.now ≡ z.frames = search rules in
    let ran = c.replay-ticket in
    let given : c.deref_mut-4.result.now ≡ c.args.steps.items = search rules in
    let stored = ran.new.steps in
    let size : c.args.steps.len ≡ length stored = search rules in
    let kept : c.deref.result.now ≡ stored = c.deref.ensures.value ∙ take_at stored (drop (length stored) c.args.steps.items) c.args.steps.len (sym size) in
    let told : c.in_ok-answers_of.field-0.items ≡ answers_of ran.new.steps = c.in_ok-answers_of.ensures.value ∙ ap answers_of kept in
    record {
      err = tt;
      made = λ none cs are. subst (λ rs. Made (set_up f i z) cs (room c.args.sink.now) (held ran.new.sink) (room ran.new.sink) (all_answered rs)) (sym told)
          (made f i z c.deref_mut.result c.deref_mut-2.result c.deref_mut-3.result stage names frames held room g.S.Sink.leaves cs (answers_of ran.new.steps) (mem c.new-writer.result.core) (mem ran.new.self.core) c.args.sink.now ran.new.sink c.new-writer.ensures.memory none (ran.ensures.replayed cs (subst (λ xs. CallsAre level_chooses (calls_of xs) cs) (sym given) are)));
    }
