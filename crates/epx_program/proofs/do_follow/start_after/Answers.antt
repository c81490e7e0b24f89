use Rattle.std.proofs.Common.{◌≤◌, inl, inr, length, List, ℕ, rules, subst, sym}
use Rattle.epx_follow.specs.FollowingStops.{most_followed_bytes}
use Rattle.epx_state.specs.Starts.{GoesOnFrom, IsStartFault}
use Rattle.epx_program.proofs.StartLemmas.{GoesOnFrom-within, RefusesState-from_source}
use Rattle.epx_program.proofs.do_follow.start_after.Goals as goal

pub returns-in_err-bytes-clause-refused : goal.returns-in_err-bytes-clause-refused
returns-in_err-bytes-clause-refused g c =
    let refused =
    RefusesState-from_source g.O.Opener.model g.O.Opened.Source.model c.args.opener.now
    g.I.Source.model c.args.state.now c.args.log c.args.input.now c.source_at-source.new.input
    c.source_at-source.result c.read_state_bytes.new.source c.in_err-bytes.field-0.0
    c.source_at-source.ensures.at (inl c.in_err-bytes.ensures.stopped) in
    search (rules, refused)

pub returns-in_err-executor-clause-refused : goal.returns-in_err-executor-clause-refused
returns-in_err-executor-clause-refused g c =
    let fault = c.in_err-executor.field-0.0 in
    let none : IsStartFault c.in_ok-bytes.bytes.items fault =
    subst (λ (bs : List ℕ). IsStartFault bs fault) c.deref.ensures.value
    c.in_err-executor.ensures.refused in
    let refused =
    RefusesState-from_source g.O.Opener.model g.O.Opened.Source.model c.args.opener.now
    g.I.Source.model c.args.state.now c.args.log c.args.input.now c.source_at-source.new.input
    c.source_at-source.result c.read_state_bytes.new.source fault c.source_at-source.ensures.at
    (inr (c.in_ok-bytes.bytes.items, c.in_ok-bytes.ensures.delivered, none)) in
    search (rules, refused)

pub after-requires : goal.after-requires
after-requires g c =
    GoesOnFrom-within c.deref.result.now c.in_ok-executor.executor c.in_ok-executor.line
    c.in_ok-executor.ensures.restored
    (subst (λ (bs : List ℕ). length bs ≤ most_followed_bytes) (sym c.deref.ensures.value)
    c.in_ok-bytes.ensures.few)

pub returns-clause-started : goal.returns-clause-started
returns-clause-started g c =
    let v = c.in_ok-executor.executor in
    let line = c.in_ok-executor.line in (
      c.in_ok-bytes.bytes.items,
      record {
        source = c.source_at-source.result;
        last = c.read_state_bytes.new.source;
        at = c.source_at-source.ensures.at;
        delivered = c.in_ok-bytes.ensures.delivered;
      },
      (
        v,
        line,
        subst (λ (bs : List ℕ). GoesOnFrom bs v line) c.deref.ensures.value
            c.in_ok-executor.ensures.restored,
        c.in_ok-after.ensures,
      ),
    )
