use Rattle.std.proofs.Common.{◌≡◌, rules}
use Rattle.epx_types.proofs.Common.{FitsKey}
use Rattle.serde_json.specs.Data.{string}
use Rattle.epx_lines.proofs.WrittenPartLemmas.{key_of-fits}
use Rattle.epx_lines.proofs.tokens.take_key.Goals as goal

pub returns : goal.returns
returns c =
    let s = c.in_ok-text.text.now in
    let fits : FitsKey s = search rules in
    let same : c.in_ok-branch.field-0 ≡ s = search rules in
    (string s, c.in_ok-text.ensures, rw same (key_of-fits s fits))
