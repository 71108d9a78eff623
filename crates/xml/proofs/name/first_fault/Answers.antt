use Rattle.std.proofs.Common.{◌≡◌, true, Some, None, ◌∙◌, subst}
use Rattle.std.proofs.lemmas.List.Sorted.{answers_always}
use Rattle.std.specs.Str.{IsAscii}
use Rattle.xml.specs.Names.{is_start, is_name}
use Rattle.xml.proofs.Naming.{faults_of, plain_no_fault, fault_here, fault_later}
use Rattle.xml.proofs.name.first_fault.Goals as goal

pub returns-then-is_plain_name-clause-value : goal.returns-then-is_plain_name-clause-value
returns-then-is_plain_name-clause-value c =
    let plain = c.is_plain_name.ensures.plain c.if-is_plain_name.true in
    let same = c.as_bytes.ensures.value in
    plain_no_fault c.args.name.now (subst (λ bs. is_name bs ≡ true) same plain.0) (subst IsAscii same plain.1)

pub returns-then-is_plain_name-clause-faults : goal.returns-then-is_plain_name-clause-faults
returns-then-is_plain_name-clause-faults c =
    faults_of c.args.name.now c.utf8.name None (returns-then-is_plain_name-clause-value c)

pub returns-then-starts_with : goal.returns-then-starts_with
returns-then-starts_with c =
    let name = c.args.name.now in
    let begun = c.if-starts_with.ensures.cases.1 is_start (answers_always _ _ _ (λ f a r f' k. k.met)) in
    let is = c.first_stray.ensures ∙ fault_later name _ c.utf8.name begun in
    record { value = is; faults = faults_of name c.utf8.name c.first_stray.result is }

pub returns-else-starts_with : goal.returns-else-starts_with
returns-else-starts_with c =
    let name = c.args.name.now in
    let none = c.if-starts_with.ensures.cases is_start (answers_always _ _ _ (λ f a r f' k. k.met)) in
    let is = fault_here name c.utf8.name none in
    record { value = is; faults = faults_of name c.utf8.name (Some 0) is }
