use Rattle.std.proofs.Common.{ℕ, List, [], map, Some, None, Option, Ok, Err, Result, ◌∙◌}
use Rattle.std.specs.Io.KnownBytes.{Appends, Keeps}
use Rattle.std.specs.Io.Buffered.{writer_contents}
use Rattle.runner.specs.declared.stop.Stop.{Stop}
use Rattle.runner.specs.declared.stop.Stop.TheVariants.{Script, Io}
use Rattle.sheet_feed.specs.declared.first_task.TheConstants.{STYLE, CALLS}
use Rattle.sheet_feed.specs.FirstTask.{page, Shows}
use Rattle.sheet_feed.proofs.buffered.show.Goals as goal

-- a flush keeps what was written
kept : (a b c : Option (List ℕ)) (xs : List ℕ) → Appends a b xs → Keeps b c → Appends a c xs
kept None b c xs p k = tt
kept (Some x) None c xs p k = absurd p
kept (Some x) (Some y) None xs p k = absurd k
kept (Some x) (Some y) (Some z) xs p k = k ∙ p

shows_kept : (style : List ℕ) (calls : List (List ℕ)) (r : Result (Unit {0}) Stop) (a b c : Option (List ℕ)) → Shows style calls r a b → Keeps b c → Shows style calls r a c
shows_kept style calls (Ok x) a b c h k = (h.0, h.1, h.2, h.3, kept a b c (page style calls h.1) h.4 k)
shows_kept style calls (Err (Script e)) a b c h k = kept a b c [] h k
shows_kept style calls (Err (Io e)) a b c h k = tt

pub returns-clause-shows : goal.returns-clause-shows
returns-clause-shows g c =
    let held = writer_contents g.O.Write.contents in
    shows_kept STYLE.now (map (λ call. call.now) CALLS) c.show-shown.result (held c.args.out.now) (held c.show-shown.new.out) (held c.flush.new.self) c.show-shown.ensures.shows c.in_ok-flush.ensures.bytes
