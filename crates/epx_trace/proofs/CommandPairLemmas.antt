-- Instances with their commands, from both apart.
use Rattle.std.proofs.Common.{◌≡◌, List, [], ◌∷◌, map, zip, refl, sym, ap, ap₂, ◌∙◌, map-id}
use Rattle.epx_types.proofs.Common.{commands_in, instance_of, ops_or_empty, Instance}
use Rattle.epx_types.specs.declared.command.Command.{Command}
use Rattle.epx_types.specs.declared.id.Id.{Id}
use Rattle.epx_trace.specs.TraceTexts.{command_of}

zip-maps : {A B C : Type 0} (f : A → B) (g : A → C) (xs : List A)
    → zip (map f xs) (map g xs) ≡ map (λ x. (f x, g x)) xs
zip-maps f g [] = refl
zip-maps f g (x ∷ xs) = ap (λ rest. (f x, g x) ∷ rest) (zip-maps f g xs)

pub map-command_of : (m : List Instance) (ids : List Id) (commands : List Command)
    → map (λ c. c.id) commands ≡ ids → map (λ c. c.ops.now) commands ≡ commands_in m ids
    → map (λ c. (c.id, c.ops.now)) commands ≡ map (command_of m) ids
map-command_of m ids commands same found =
    sym (zip-maps (λ (c : Command). c.id) (λ (c : Command). c.ops.now) commands)
    ∙ ap₂ zip (same ∙ sym (map-id ids)) found
    ∙ zip-maps (λ (x : Id). x) (λ x. ops_or_empty (instance_of m x)) ids
