use Rattle.std.proofs.Common.{inl, inr, refl}
use Rattle.epx_types.specs.declared.fault.Fault.TheVariants.{Memory}
use Rattle.epx_program.proofs.WordLemmas.{EndsAsAsked-cases}
use Rattle.epx_program.proofs.OutputLemmas.{Keeps-contents}
use Rattle.epx_program.proofs.StatusLemmas.{IfFollow-status, IfWork-found, of-words, IfWork-status}
use Rattle.epx_program.proofs.program.start.Goals as goal
use Rattle.epx_program.proofs.program.start.Goals.{in-Ok, in-Err}

pub returns-clause-status : goal.returns-clause-status
returns-clause-status g c = rw c.from.ensures (elim c.match-read_args.branch [
  | in-Ok w ↦
      let said = w.execute_words-status.ensures in
      let words = w.in-Ok.words in
      rw w.status-is (of-words _ _ words _ w.in-Ok.ensures.status
      (IfWork-status _ _ _ _ _ _ _ words said.do_task)
      (IfFollow-status _ _ _ _ _ _ words said.follow)
      said.text said.refused)
  | in-Err w ↦ rw (w.status-is, w.report_fault-status.ensures) (inl (inr (Memory, refl)))
])

pub returns-clause-flushed : goal.returns-clause-flushed
returns-clause-flushed g c = rw c.from.ensures (elim c.match-read_args.branch [
  | in-Ok w ↦
      let said = w.execute_words-status.ensures in
      rw (w.status-is, w.output-is) (λ well. elim well [
        | inl zero ↦ said.flushed zero
        | inr five ↦ IfWork-found _ _ _ w.in-Ok.words _ w.in-Ok.ensures.status said.found
            (IfFollow-status _ _ _ _ _ _ w.in-Ok.words said.follow) said.text said.refused five
      ])
  | in-Err w ↦ rw (w.status-is, w.report_fault-status.ensures) (λ well. elim well [
    | inl zero ↦ absurd (cc zero)
    | inr five ↦ absurd (cc five)
  ])
])

pub returns-clause-read_args : goal.returns-clause-read_args
returns-clause-read_args g c texts taken = rw c.from.ensures (elim c.match-read_args.branch [
  | in-Ok w ↦ let said = w.execute_words-status.ensures in
      rw (w.status-is, w.output-is, w.saver-is) (inr (
        w.in-Ok.words,
        w.in-Ok.ensures.read_args texts taken,
        EndsAsAsked-cases g.W.Sink.model.contents _ _ (g.I.Source.model.remaining c.args.input) _ _
            _
            _ _ w.in-Ok.words said.do_task said.follow said.shown said.prefix said.text
            said.refused,
      ))
  | in-Err w ↦ rw (w.status-is, w.report_fault-status.ensures) (inl refl)
])

pub returns-clause-nothing : goal.returns-clause-nothing
returns-clause-nothing g c = rw c.from.ensures (elim c.match-read_args.branch [
  | in-Ok w ↦ rw (w.status-is, w.output-is) (λ other. w.execute_words-status.ensures.nothing
      (λ follow. other (w.in-Ok.ensures.follow follow)))
  | in-Err w ↦ rw (w.status-is, w.output-is) (λ other well no.
      Keeps-contents g.W.Sink.model.contents c.args.output.now _ refl)
])

pub returns-clause-unsaved : goal.returns-clause-unsaved
returns-clause-unsaved g c = elim c.match-read_args.branch [
  | in-Ok w ↦ rw w.saver-is (λ other. w.execute_words-status.ensures.unsaved
      (λ follow. other (w.in-Ok.ensures.follow follow)))
  | in-Err w ↦ rw w.saver-is (λ other. refl)
]
