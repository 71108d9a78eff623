use Rattle.std.proofs.Common.{ℕ, List, ◌++◌, codes, Option, Ok, Err, Result, OnOk}
use Rattle.std.specs.Io.KnownBytes.{Appends}
use Rattle.runner.specs.declared.feeding.Output.TheVariants.{Plain, Trace}
use Rattle.runner.specs.Printing.{ended}
use Rattle.runner.specs.Feeding.{Written}
use Rattle.runner.proofs.Lines.{appends_then}
use Rattle.sheet_table.specs.Showing.{Gives, page, Shows}
use Rattle.sheet_table.proofs.show.Goals as goal

-- the page stands below the name
below : {E : Type 0} (r : Result (Unit {0}) E) (name script : List ℕ) (a b z : Option (List ℕ)) (trace xml : Written) → Gives Trace script trace → Gives Plain script xml → Appends a b (ended (codes "== " ++ name)) → OnOk r (Appends b z (page trace xml)) → OnOk r (Shows name script a z)
below (Ok x) name script a b z trace xml t p q r = (trace, xml, t, p, appends_then a b z (ended (codes "== " ++ name)) (page trace xml) q r)
below (Err e) name script a b z trace xml t p q r = tt

pub returns : goal.returns
returns g c =
    let held = g.O.Write.contents in
    let trace : Written = record { out = c.in_ok-trace.trace.0.items; err = c.in_ok-trace.trace.1.items } in
    let xml : Written = record { out = c.in_ok-xml.xml.0.items; err = c.in_ok-xml.xml.1.items } in
    record { shows = below c.print_page.result c.args.name.now c.args.script.now (held c.args.out.now) (held c.writeln.new.self) (held c.print_page.new.out) trace xml c.in_ok-trace.ensures.gives c.in_ok-xml.ensures.gives c.in_ok-writeln.ensures.bytes c.print_page.ensures.prints }
