use Rattle.std.proofs.Common.{rules}
use Rattle.epx_merge.specs.LogLines.{bytes_of}
use Rattle.epx_names.specs.Tasks.{HasInput}
use Rattle.epx_tool.proofs.MemoryTextLemmas.{AnswersTask-memory_refusal, AnswersTask-memory_text}
use Rattle.epx_tool.proofs.answers.answer_texts.Goals as goal

pub returns-in-Ok : goal.returns-in-Ok
returns-in-Ok g c =
    let has : HasInput c.args.task = search (rules, c.has_input.ensures) in
    let of_input = rw c.new-given.ensures at c.in-Ok.ensures in
    let of_sources = rw c.deref_mut.ensures.value at of_input in
    AnswersTask-memory_text c.args.input.now c.answer_with_input.new.input
    (bytes_of c.args.logs.now)
    c.answer_with_input.new.sources c.args.task has c.in-Ok.answer
    (rw c.in_ok-sources.ensures at of_sources)

pub returns : goal.returns
returns g c =
    let has : HasInput c.args.task = search (rules, c.has_input.ensures) in
    let of_input = rw c.new-given.ensures at c.in-Err.ensures in
    let of_sources = rw c.deref_mut.ensures.value at of_input in
    AnswersTask-memory_refusal c.args.input.now c.answer_with_input.new.input
    (bytes_of c.args.logs.now)
    c.answer_with_input.new.sources c.args.task has c.in-Err.fault
    (rw c.in_ok-sources.ensures at of_sources)
