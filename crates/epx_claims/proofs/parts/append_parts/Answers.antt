use Rattle.std.proofs.Common.{◌≡◌, ◌++◌, ◌∷◌, flat_map, append_assoc, ap, sym, ◌∙◌, rules}
use Rattle.epx_claims.proofs.parts.append_parts.Goals as goal

pub loop-part-preserved : goal.loop-part-preserved
loop-part-preserved g c =
    let more : c.loop-part.part-iterator.rest.items ≡ c.in-Some.part ∷ c.next.new.self.rest.items =
    search rules in
    let grown : c.append.new.self.items ≡ c.loop-part.items.items ++ c.in-Some.part.items =
    c.in_ok-append.ensures.items in
    ap (λ front. front ++ flat_map (λ part. part.items) c.next.new.self.rest.items) grown
    ∙ append_assoc c.loop-part.items.items c.in-Some.part.items
    (flat_map (λ part. part.items) c.next.new.self.rest.items)
    ∙ ap (λ rest. c.loop-part.items.items ++ flat_map (λ part. part.items) rest) (sym more)
    ∙ c.loop-part.invariant
