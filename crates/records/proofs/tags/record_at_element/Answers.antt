use Rattle.std.proofs.lemmas.Result.{err_from_is_err_and}
use Rattle.engine.specs.Memory.{mem, buf}
use Rattle.records.proofs.Entering.{element_record_full, element_record_ok}
use Rattle.records.proofs.tags.record_at_element.Goals as goal

pub returns-in_err-put : goal.returns-in_err-put
returns-in_err-put c =
    let w = mem c.args.core.now in
    let b = buf c.put.new.stage in
    let p = err_from_is_err_and c.from_residual-in_err-put.result c.from_residual-in_err-put.ensures.1 in
    rw (p.1, p.2)
    (record {
      does = λ room. element_record_full room w c.args.from c.args.name.now c.requires.safe c.requires.place c.in_ok-check_bytes.ensures.checked c.in_ok-frame_free.ensures.free _ b
          (rw (c.lead-lead.ensures.value, c.tail-tag_name.ensures.value) at c.in_err-put.ensures.puts);
    })

pub returns : goal.returns
returns c =
    let w = mem c.args.core.now in
    let b = buf c.put.new.stage in
    record {
      does = λ room. element_record_ok room w c.args.from c.args.name.now c.requires.safe c.requires.place c.in_ok-check_bytes.ensures.checked c.in_ok-frame_free.ensures.free b (mem c.begin_record.new.self)
          (rw (c.lead-lead.ensures.value, c.tail-tag_name.ensures.value) at c.in_ok-put.ensures.puts) c.begin_record.ensures.memory;
    }
