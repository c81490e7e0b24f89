use Rattle.std.proofs.Common.{◌≡◌, ◌∙◌, ap, arith, length, map, string_bytes, subst, take_all, IfOk}
use Rattle.std.specs.Vec.Iter.{into_iter_items}
use Rattle.epx_program.proofs.BareWordLemmas.{IfOk-text_status}
use Rattle.epx_program.proofs.WordLemmas.{IfOk-asks, IfOk-names_follow, AreTakenFor-is_unique}
use Rattle.epx_program.proofs.WordLemmas.{AreTakenFor-at_end}
use Rattle.epx_program.specs.Calls.{Asks}
use Rattle.epx_program.proofs.read_args.read_args.Goals as goal

pub returns-clause-read_args : goal.returns-clause-read_args
returns-clause-read_args c texts taken =
    let rest = into_iter_items c.loop-word.word-iterator in
    let none : length rest ≡ 0 =
    omega (arith, c.in-None.ensures.steps.0, c.loop-word.word-iterator.rest.ok.0) in
    let lent = take_all c.loop-text.text-index c.deref-text-items.result.now
    (omega (arith, c.loop-text-test.false)) in
    let same = ap (map (λ w. w.now)) c.deref.ensures.value ∙ c.loop-text.invariant
    ∙ ap (map string_bytes) (lent ∙ c.deref-text-items.ensures.value) in
    let given = map (λ w. w.now) c.deref.result.now in
    let all = AreTakenFor-at_end c.args.words given c.loop-word.owned.items rest
    c.loop-word.invariant none
    same in
    let said = c.read_words.ensures in
    subst (λ words. IfOk c.read_words.result (Asks words))
    (AreTakenFor-is_unique c.args.words given texts all taken)
    (IfOk-asks given c.read_words.result said.bare said.task said.workers said.cut said.paths
    said.parts
    said.followed said.flags said.taken said.refused said.status)

pub returns-clause-follow : goal.returns-clause-follow
returns-clause-follow c =
    let rest = into_iter_items c.loop-word.word-iterator in
    let none : length rest ≡ 0 =
    omega (arith, c.in-None.ensures.steps.0, c.loop-word.word-iterator.rest.ok.0) in
    let lent = take_all c.loop-text.text-index c.deref-text-items.result.now
    (omega (arith, c.loop-text-test.false)) in
    let same = ap (map (λ w. w.now)) c.deref.ensures.value ∙ c.loop-text.invariant
    ∙ ap (map string_bytes) (lent ∙ c.deref-text-items.ensures.value) in
    let given = map (λ w. w.now) c.deref.result.now in
    let all = AreTakenFor-at_end c.args.words given c.loop-word.owned.items rest
    c.loop-word.invariant none
    same in
    let said = c.read_words.ensures in
    IfOk-names_follow given c.args.words all c.read_words.result said.bare said.followed

pub returns-clause-status : goal.returns-clause-status
returns-clause-status c =
    IfOk-text_status (map (λ w. w.now) c.deref.result.now) c.read_words.result
    c.read_words.ensures.bare c.read_words.ensures.status
