use Rattle.std.proofs.Common.{◌≡◌, ◌∙◌, ◌+◌, ◌-◌, ◌<◌, ◌∷◌, Bool, List, length, drop, get_or, ap}
use Rattle.std.proofs.Common.{reverse, sym, if◌then◌else◌, arith}
use Rattle.epx_types.specs.declared.id.Id.{Id}
use Rattle.epx_compare.specs.Gaps.{Gap, gaps_of, goes_on, widened}
use Rattle.epx_compare.proofs.GapLemmas.{gaps_of-lacked, gaps_of-had, is_log_marked-here}
use Rattle.epx_compare.proofs.gaps.find_gaps.Goals as goal

-- the gaps with one more instance in front, which goes on with the first gap or not
abbrev with_front : Id → Bool → List Gap → List Gap
with_front x goes gaps = if goes then widened x.number gaps else
    (record { replica = x.replica; from = x.number; to = x.number } ∷ gaps)

pub loop-index-preserved-in-Continue-1 : goal.loop-index-preserved-in-Continue-1
loop-index-preserved-in-Continue-1 c has marking =
    let zero : Id = record { replica = 0; number = 0 } in
    let ids = c.args.ids.now in
    let n = c.loop-index.index - 1 in
    let x = get_or ids n zero in
    let within : n < length ids = omega arith in
    let next : c.loop-index.index ≡ n + 1 = omega arith in
    let later = c.loop-index.invariant has marking ∙ ap (λ m. gaps_of has (drop m ids)) next in
    let marked = is_log_marked-here has ids n zero within c.args.log c.args.marks.now marking in
    c.in_ok-add_before.ensures
    ∙ (ap (λ g. with_front x g (reverse c.loop-index.gaps.items))
    (c.goes_on_at-goes_on.ensures has marking)
    ∙ (ap (with_front x (goes_on has x.replica (drop (n + 1) ids))) later
    ∙ sym (gaps_of-lacked has ids n zero within
    (marked ∙ (sym c.contains.ensures ∙ c.if-not-contains.true)))))

pub loop-index-preserved : goal.loop-index-preserved
loop-index-preserved c has marking =
    let zero : Id = record { replica = 0; number = 0 } in
    let ids = c.args.ids.now in
    let n = c.loop-index.index - 1 in
    let within : n < length ids = omega arith in
    let next : c.loop-index.index ≡ n + 1 = omega arith in
    let marked = is_log_marked-here has ids n zero within c.args.log c.args.marks.now marking in
    c.loop-index.invariant has marking ∙ (ap (λ m. gaps_of has (drop m ids)) next
    ∙ sym (gaps_of-had has ids n zero within
    (marked ∙ (sym c.contains.ensures ∙ c.if-not-contains.false))))
