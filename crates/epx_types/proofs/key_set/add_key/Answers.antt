use Rattle.std.proofs.Common.{Bor, List, ℕ, map, ap, ◌∙◌}
use Rattle.epx_types.specs.Keys.{key_cmp}
use Rattle.epx_types.proofs.keys.BorrowedKeyLemmas.{map-insert_key}
use Rattle.epx_types.proofs.key_set.add_key.Goals as goal

pub returns : goal.returns
returns c =
    ap (λ ks. map (λ (k : Bor (List ℕ)). k.now) ks) c.in_ok-insert.ensures.keys
    ∙ map-insert_key (λ (k : Bor (List ℕ)). k.now) key_cmp c.args.keys.now.keys _
