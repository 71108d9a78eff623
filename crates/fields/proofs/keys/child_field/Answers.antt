use Rattle.std.proofs.Common.{◌≡◌, true, false, Ok, Err, rules}
use Rattle.std.proofs.lemmas.Result.{err_from_is_err_and}
use Rattle.model.specs.Calls.{is_text_name, is_value_name}
use Rattle.model.proofs.Spelling.{utf8_from}
use Rattle.engine.specs.Memory.{mem}
use Rattle.fields.proofs.ChildKeys.{text_key, value_key, element_key}
use Rattle.fields.proofs.keys.child_field.Goals as goal

pub returns-then-is_text_name : goal.returns-then-is_text_name
returns-then-is_text_name c =
    let k = c.args.key.now in
    let t : is_text_name k ≡ true = search rules in
    record { does = λ room. text_key k room (mem c.args.core.now) c.requires.safe c.requires.place (utf8_from k c.utf8.key) c.requires.plain t }

pub returns-then-is_value_name : goal.returns-then-is_value_name
returns-then-is_value_name c =
    let k = c.args.key.now in
    let t : is_text_name k ≡ false = search rules in
    let v : is_value_name k ≡ true = search rules in
    record { does = λ room. value_key k room (mem c.args.core.now) c.requires.safe c.requires.place (utf8_from k c.utf8.key) c.requires.plain t v }

pub returns-in_err-await_element : goal.returns-in_err-await_element
returns-in_err-await_element c =
    let k = c.args.key.now in
    let t : is_text_name k ≡ false = search rules in
    let v : is_value_name k ≡ false = search rules in
    let p = err_from_is_err_and c.from_residual.result c.from_residual.ensures.1 in
    rw (p.1, p.2)
    (record { does = λ room. element_key k room (mem c.args.core.now) c.requires.safe c.requires.place (utf8_from k c.utf8.key) c.requires.plain t v (Err _) (mem c.await_element.new.self) c.in_err-await_element.ensures.awaits })

pub returns-in_ok-await_element : goal.returns-in_ok-await_element
returns-in_ok-await_element c =
    let k = c.args.key.now in
    let t : is_text_name k ≡ false = search rules in
    let v : is_value_name k ≡ false = search rules in
    record { does = λ room. element_key k room (mem c.args.core.now) c.requires.safe c.requires.place (utf8_from k c.utf8.key) c.requires.plain t v (Ok tt) (mem c.await_element.new.self) c.in_ok-await_element.ensures.awaits }
