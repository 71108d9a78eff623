use Rattle.std.proofs.Common.{◌≡◌, ℕ, List, [], ◌++◌, Some, Err, Result, ◌∙◌, ap, subst, inr}
use Rattle.script.specs.declared.fault.ScriptError.{ScriptError}
use Rattle.script.specs.Faults.{told}
use Rattle.runner.specs.declared.feeding.Output.{Output}
use Rattle.runner.specs.declared.stop.Stop.{Stop}
use Rattle.runner.specs.declared.stop.Stop.TheVariants.{Script}
use Rattle.runner.specs.Printing.{ended}
use Rattle.runner.specs.Feeding.{Held, Feeds}
use Rattle.sheet_table.specs.Showing.{Gives}
use Rattle.sheet_table.proofs.feed.Goals as goal

abbrev held : List ℕ → List ℕ → Held
held out err = record { out = Some out; err = Some err }

-- both outputs were empty, and the error that stops the script is told behind what they hold
stopped : (o : Output) (text : List ℕ) (r : Result (Unit {0}) Stop) (s : Stop) (e : ScriptError) (a b x y out err : List ℕ) → a ≡ [] → b ≡ [] → r ≡ Err s → s ≡ Script e → Feeds o text r (held a b) (held x y) → out ≡ x → err ≡ y ++ ended (told e.line e.fault) → Gives o text (record { out = out; err = err })
stopped o text r s e a b x y out err bare empty is script feeds same last =
    let fed : Feeds o text (Err (Script e)) (held a b) (held x y) = subst (λ z. Feeds o text z (held a b) (held x y)) (is ∙ ap Err script) feeds in
    let w = fed.0 in
    let first : out ≡ w.out = same ∙ fed.2.0 ∙ ap (λ z. z ++ w.out) bare in
    let second : err ≡ w.err ++ ended (told e.line e.fault) = last ∙ ap (λ z. z ++ ended (told e.line e.fault)) (fed.2.1 ∙ ap (λ z. z ++ w.err) empty) in
    inr (w, e, fed.1, ap (λ z. record { out = z; err = err }) first ∙ ap (λ z. record { out = w.out; err = z }) second)

pub returns-in_ok-writeln-in-Err-Script : goal.returns-in_ok-writeln-in-Err-Script
returns-in_ok-writeln-in-Err-Script c =
    let new = c.new-feeding in
    let fed = c.feed-fed in
    let end = c.into_outputs-out in
    let script : c.in-Err-Script.field-0 ≡ Script c.in-Err-Script.error = rw c.in-Err-Script.is at c.in-Err-Script.field-0-is in
    let feeds = subst (λ o. Feeds o c.args.script.now fed.result (held new.result.out.items new.result.err.items) (held fed.new.self.out.items fed.new.self.err.items)) new.ensures.output fed.ensures.feeds in
    let told = c.in_ok-writeln-in-Err-Script.ensures.bytes ∙ ap (λ v. v.items ++ ended (told c.in-Err-Script.error.line c.in-Err-Script.error.fault)) end.ensures.err in
    record {
      gives = stopped c.args.output c.args.script.now fed.result c.in-Err-Script.field-0 c.in-Err-Script.error new.result.out.items new.result.err.items fed.new.self.out.items fed.new.self.err.items end.result.0.items c.writeln.new.self.items
          (ap (λ v. v.items) new.ensures.out ∙ c.new.ensures.items) (ap (λ v. v.items) new.ensures.err ∙ c.new-2.ensures.items) c.in-Err-Script.is script feeds (ap (λ v. v.items) end.ensures.out) told;
    }
