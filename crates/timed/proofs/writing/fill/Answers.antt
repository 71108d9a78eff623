use Rattle.std.proofs.Common.{[], map, get_or}
use Rattle.std.proofs.lemmas.List.{get_or-map, length-map}
use Rattle.engine.specs.Memory.{mem}
use Rattle.timed.specs.declared.record.Part.TheVariants.{Field}
use Rattle.timed.specs.Steps.{call_of_part}
use Rattle.timed.proofs.Turns.{one_more, one_fails, as_refused, all_of_them, hands_nothing}
use Rattle.timed.proofs.writing.fill.Goals as goal

pub returns-in_err-serve : goal.returns-in_err-serve
returns-in_err-serve c =
    let l = c.loop-part in
    let parts = c.args.parts.now in
    let x = get_or parts l.part-index (Field (record { ref_ptr = (0, 0); now = [] })) in
    let u = mem l.writer.core in
    let fails = one_fails (map call_of_part parts) (mem c.args.writer.now.core) l.part-index (call_of_part x) u (mem c.serve.new.writer.core) (rw length-map c.loop-part-test.true) (get_or-map call_of_part parts l.part-index (Field (record { ref_ptr = (0, 0); now = [] })) (call_of_part x) c.loop-part-test.true) l.invariant (hands_nothing x u) in
    record { filled = as_refused (map call_of_part parts) c.from_residual.result c.in_err-serve.field-0.0 (mem c.args.writer.now.core) (mem c.serve.new.writer.core) c.from_residual.ensures.0 (fails c.in_err-serve.field-0.0 c.in_err-serve.ensures.does) }

pub loop-part-preserved : goal.loop-part-preserved
loop-part-preserved c =
    let l = c.loop-part in
    let parts = c.args.parts.now in
    let x = get_or parts l.part-index (Field (record { ref_ptr = (0, 0); now = [] })) in
    let u = mem l.writer.core in
    one_more (map call_of_part parts) (mem c.args.writer.now.core) l.part-index (call_of_part x) u (mem c.serve.new.writer.core) (rw length-map c.loop-part-test.true) (get_or-map call_of_part parts l.part-index (Field (record { ref_ptr = (0, 0); now = [] })) (call_of_part x) c.loop-part-test.true) l.invariant (hands_nothing x u) c.in_ok-serve.ensures.does

pub returns : goal.returns
returns c =
    let l = c.loop-part in
    let parts = c.args.parts.now in
    record { filled = all_of_them (map call_of_part parts) (mem c.args.writer.now.core) l.part-index (mem l.writer.core) (rw length-map c.loop-part-test.false) l.invariant }
