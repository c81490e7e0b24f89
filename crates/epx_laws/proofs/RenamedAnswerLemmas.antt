-- Different replies and different contents differ under their new names.
use Rattle.std.proofs.Common.{[], ◌∷◌, map, Some, None, refl, sym, ap, ap₂, ◌∙◌}
use Rattle.std.specs.FinMap as contents
use Rattle.epx_types.proofs.Common.{Contents-extensional}
use Rattle.epx_types.specs.declared.reply.Reply.TheVariants.{Values, Abort}
use Rattle.epx_laws.specs.Renaming.{IsInjective, Renaming, renamed_value, renamed_reply}
use Rattle.epx_laws.specs.Renaming.{renamed_contents}
use Rattle.epx_laws.proofs.RenamedContentsLemmas.{get-renamed}

pub map-IsInjective : {X Y : Type 0} (f : X → Y) → IsInjective f → IsInjective (map f)
map-IsInjective f injective [] [] e = refl
map-IsInjective f injective [] (y ∷ ys) e = absurd (cc e)
map-IsInjective f injective (x ∷ xs) [] e = absurd (cc e)
map-IsInjective f injective (x ∷ xs) (y ∷ ys) e =
    ap₂ (λ z zs. z ∷ zs) (injective x y (cc e)) (map-IsInjective f injective xs ys (cc e))

module _ (r : Renaming) where
  pub renamed_value-IsInjective : IsInjective (renamed_value r)
  renamed_value-IsInjective None None e = refl
  renamed_value-IsInjective None (Some w) e = absurd (cc e)
  renamed_value-IsInjective (Some v) None e = absurd (cc e)
  renamed_value-IsInjective (Some v) (Some w) e =
      ap (λ z. Some z) (r.values_injective v w (cc e))

  pub renamed_reply-IsInjective : IsInjective (renamed_reply r)
  renamed_reply-IsInjective (Values got) (Values other) e =
      ap (λ values. Values values)
      (map-IsInjective (renamed_value r) renamed_value-IsInjective got other (cc e))
  renamed_reply-IsInjective (Values got) (Abort j) e = absurd (cc e)
  renamed_reply-IsInjective (Abort i) (Values got) e = absurd (cc e)
  renamed_reply-IsInjective (Abort i) (Abort j) e = e

  pub renamed_contents-IsInjective : IsInjective (renamed_contents r)
  renamed_contents-IsInjective c d e =
      Contents-extensional c d (λ k.
      renamed_value-IsInjective (contents.get c k) (contents.get d k)
      (sym (get-renamed r c k) ∙ ap (λ f. contents.get f (r.key k)) e ∙ get-renamed r d k))
