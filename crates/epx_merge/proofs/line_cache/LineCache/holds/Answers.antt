use Rattle.std.proofs.Common.{◌≡◌, ◌∙◌, ◌<◌, List, Result, map, length, get_or, slice_get, ap}
use Rattle.std.proofs.Common.{rules, sym}
use Rattle.epx_types.specs.declared.fault.Why.{Why}
use Rattle.epx_lines.specs.Meaning.{meaning_of}
use Rattle.epx_lines.specs.declared.Line.{Line}
use Rattle.epx_merge.proofs.LineCacheLemmas.{slice_get-meaning_in}
use Rattle.epx_merge.proofs.line_cache.LineCache.holds.Goals as goal

pub returns-in-Some : goal.returns-in-Some
returns-in-Some c = λ equal.
    let lines = c.self.inside.kept.items in
    let same : map (λ line. meaning_of line.now) lines ≡ c.args.self.now = search rules in
    let within : c.args.number < length lines = search rules in
    let is : c.in-Some.line.now ≡ get_or lines c.args.number c.in-Some.line.now = search rules in
    let bytes : c.in-Some.line.now.now ≡ c.args.bytes.now = search (rules, equal) in
    ap (λ (cache : List (Result Line Why)). slice_get cache c.args.number) (sym same)
    ∙ slice_get-meaning_in lines c.args.number c.in-Some.line.now c.args.bytes.now within is bytes
