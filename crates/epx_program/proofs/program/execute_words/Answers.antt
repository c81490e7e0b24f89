use Rattle.std.proofs.Common.{inr}
use Rattle.epx_program.proofs.StatusLemmas.{Keeps-by_text, of-text}
use Rattle.epx_program.proofs.program.execute_words.Goals as goal

pub returns-in-Work-clause-do_task : goal.returns-in-Work-clause-do_task
returns-in-Work-clause-do_task g c = rw c.in-Work.is c.do_work.ensures.do_task

pub returns-in-WorkWith-clause-do_task : goal.returns-in-WorkWith-clause-do_task
returns-in-WorkWith-clause-do_task g c =
    rw c.in-WorkWith.is c.do_work-in-WorkWith.ensures.do_task

pub returns-in-Work-clause-found : goal.returns-in-Work-clause-found
returns-in-Work-clause-found g c =
    rw c.in-Work.is (λ five. c.do_work.ensures.flushed (inr five))

pub returns-in-WorkWith-clause-found : goal.returns-in-WorkWith-clause-found
returns-in-WorkWith-clause-found g c =
    rw c.in-WorkWith.is (λ five. c.do_work-in-WorkWith.ensures.flushed (inr five))

pub returns-in-Follow-clause-follow : goal.returns-in-Follow-clause-follow
returns-in-Follow-clause-follow g c = rw c.in-Follow.is c.do_follow.ensures.ends

pub returns-in-Follow-clause-unsaved : goal.returns-in-Follow-clause-unsaved
returns-in-Follow-clause-unsaved g c = rw c.in-Follow.is (λ other. absurd (other tt))

pub returns-in-Follow-clause-nothing : goal.returns-in-Follow-clause-nothing
returns-in-Follow-clause-nothing g c = rw c.in-Follow.is (λ other. absurd (other tt))

pub returns-in-Text-clause-text : goal.returns-in-Text-clause-text
returns-in-Text-clause-text g c =
    rw c.in-Text.is (λ zero. of-text _ (c.print_text.ensures.status zero))

pub returns-in-Text-clause-nothing : goal.returns-in-Text-clause-nothing
returns-in-Text-clause-nothing g c =
    let W = g.W.Sink.model in
    λ other. Keeps-by_text W.contents c.args.output.now c.print_text.new.output c.in-Text.status
    _ (W.has_failed c.print_text.new.output) c.print_text.ensures.refused
    c.print_text.ensures.status
