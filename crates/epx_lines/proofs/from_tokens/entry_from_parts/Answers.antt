use Rattle.std.proofs.Common.{◌≡◌, Option, Some, None, option_map, ap, ◌∙◌, sym, rules, Ok}
use Rattle.std.specs.Option.{option_zip}
use Rattle.epx_types.proofs.Common.{IfSome_then, items_of}
use Rattle.epx_lines.specs.declared.Line.TheVariants.{Entry}
use Rattle.epx_lines.specs.DependencyList.{rising_others}
use Rattle.epx_lines.proofs.EntryPartLemmas.{meaning_of_object-parts}
use Rattle.epx_lines.proofs.from_tokens.entry_from_parts.Goals as goal

both_there : {A B : Type 0} (a : Option A) (b : Option B) (x : A) (y : B)
    → option_zip a b ≡ Some (x, y) → (a ≡ Some x) × (b ≡ Some y)
both_there None b x y is = absurd (cc is)
both_there (Some a) None x y is = absurd (cc is)
both_there {A} {B} (Some a) (Some b) x y is =
    (ap (option_map (λ (p : A × B). p.0)) is, ap (option_map (λ (p : A × B). p.1)) is)

pub returns : goal.returns
returns c =
    let parts = c.args.parts in
    let all = c.in-Some-Some-Some in
    let lists = both_there parts.named parts.ops c.in_ok-named.named c.in_ok-named.ops
    (sym c.zip.ensures ∙ c.in_ok-named.was) in
    let deps_is : items_of c.in_ok-deps.deps
    ≡ rising_others (record { replica = all.replica; number = all.number })
    (items_of c.in_ok-named.named) = search rules in
    IfSome_then c.from_lists.result c.from_lists.ensures.entry (λ e is ms h.
    meaning_of_object-parts ms _ _ _ (items_of c.in_ok-named.named) (items_of c.in_ok-deps.deps)
    (items_of c.in_ok-named.ops)
    (rw all.is-0 at h.replica) (rw all.is-1 at h.number) (rw all.is-2 at h.seq)
    (rw lists.0 at h.named) (rw lists.1 at h.ops) h.status deps_is
    ∙ ap (λ e. Ok (Entry e)) (sym is))
