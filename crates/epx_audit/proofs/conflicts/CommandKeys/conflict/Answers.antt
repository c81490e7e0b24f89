use Rattle.std.proofs.Common.{◌↔◌, IsTrue, map, ap, ◌∙◌, subst₂}
use Rattle.epx_audit.proofs.KeyConflictLemmas.{ShareKey, KeysConflict-by_first}
use Rattle.epx_audit.proofs.KeyConflictLemmas.{KeysConflict-by_second}
use Rattle.epx_audit.proofs.conflicts.CommandKeys.conflict.Goals as goal

pub returns-then-have_common_key : goal.returns-then-have_common_key
returns-then-have_common_key c =
    let v = c.args.self.now in
    let w = c.args.other.now in
    let first : IsTrue c.have_common_key.result ↔ ShareKey v.written w.touched =
    subst₂ (λ ks js. IsTrue c.have_common_key.result ↔ ShareKey ks js)
    (ap (map (λ k. k.now)) c.deref.ensures.value ∙ ap (λ v. v.written) c.self.view_is)
    (ap (map (λ k. k.now)) c.deref-2.ensures.value ∙ ap (λ v. v.touched) c.other.view_is)
    c.have_common_key.ensures in
    KeysConflict-by_first v w c.have_common_key.result first c.if-have_common_key.true

pub returns-else-have_common_key : goal.returns-else-have_common_key
returns-else-have_common_key c =
    let v = c.args.self.now in
    let w = c.args.other.now in
    let first : IsTrue c.have_common_key.result ↔ ShareKey v.written w.touched =
    subst₂ (λ ks js. IsTrue c.have_common_key.result ↔ ShareKey ks js)
    (ap (map (λ k. k.now)) c.deref.ensures.value ∙ ap (λ v. v.written) c.self.view_is)
    (ap (map (λ k. k.now)) c.deref-2.ensures.value ∙ ap (λ v. v.touched) c.other.view_is)
    c.have_common_key.ensures in
    let second : IsTrue c.have_common_key-else-have_common_key.result
    ↔ ShareKey v.touched w.written =
    subst₂ (λ ks js. IsTrue c.have_common_key-else-have_common_key.result ↔ ShareKey ks js)
    (ap (map (λ k. k.now)) c.deref-else-have_common_key.ensures.value
    ∙ ap (λ v. v.touched) c.self.view_is)
    (ap (map (λ k. k.now)) c.deref-else-have_common_key-2.ensures.value
    ∙ ap (λ v. v.written) c.other.view_is) c.have_common_key-else-have_common_key.ensures in
    KeysConflict-by_second v w c.have_common_key.result
    c.have_common_key-else-have_common_key.result
    first second c.if-have_common_key.false
