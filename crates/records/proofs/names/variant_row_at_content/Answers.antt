use Rattle.std.proofs.Common.{false, subst}
use Rattle.model.specs.declared.place.Place.TheVariants.{TextItem}
use Rattle.engine.specs.Memory.{mem}
use Rattle.nests.specs.Frames.{Pushes}
use Rattle.records.proofs.Naming.{variants_list}
use Rattle.records.proofs.names.variant_row_at_content.Goals as goal

pub returns-in-Some : goal.returns-in-Some
returns-in-Some c =
    let told = rw c.in-Some.is at c.in_ok-name.ensures.announced in
    record { does = λ room. rw told.2 at c.open_named.ensures.does room c.args.texts c.requires.place }

pub returns : goal.returns
returns c =
    let w = mem c.args.core.now in
    let v = mem c.take_frame.new.core in
    let told = rw c.in_default.is at c.in_ok-name.ensures.announced in
    record {
      does = λ room. variants_list room w c.args.name.now c.args.texts c.requires.safe c.requires.place told.0 v c.take_frame.result told.1 told.2
          (subst (λ f. Pushes c.take_frame.result f (TextItem false) w v) c.list.ensures.value c.take_frame.ensures.pushes);
    }
