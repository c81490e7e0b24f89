-- The lines of a base, gathered by kind before it is known whether two of them name one instance.
use Rattle.std.specs.Prelude.{◌≡◌, ◌++◌, ◌∷◌, [], ◌==◌, ◌&&◌, ℕ, ℤ, T, List, length}
use Rattle.std.specs.Prelude.{Option, Some, None, option_map, option_and_then, if◌then◌else◌}
use Rattle.std.specs.FinMap as contents
use Rattle.std.specs.FinMap.{is_sorted}
use Rattle.epx_types.specs.declared.id.Id.{Id}
use Rattle.epx_types.specs.Contents.{Contents}
use Rattle.epx_types.specs.Ids.{id_cmp, IsRising}
use Rattle.epx_types.specs.Keys.{key_cmp}
use Rattle.epx_report.specs.declared.from_value.BaseLine.{BaseLine}
use Rattle.epx_report.specs.declared.from_value.BaseLine.TheVariants.{Header, Done, Reply, Waiting}
use Rattle.epx_report.specs.declared.from_value.BaseLine.TheVariants.{Store}
use Rattle.epx_report.specs.Bases.{BaseParts, AreBaseParts, AreDoneIn}
use Rattle.epx_report.specs.inner.Progress.{last, is_after_last}

-- with one more done line; None after a reply, waiting or store line, or if its Id is not greater
-- than that of the last done line
abbrev pub with_done : BaseParts → Id → Option BaseParts
with_done p x =
    if (length p.replied == 0) && (length p.waiting == 0) && (length p.stored == 0)
    && is_after_last id_cmp (last p.done) x
    then Some (record p { done = p.done ++ x ∷ [] }) else None

-- with one more reply line; None after a waiting or store line
abbrev pub with_reply : BaseParts → Id → Option BaseParts
with_reply p x =
    if (length p.waiting == 0) && (length p.stored == 0)
    then Some (record p { replied = p.replied ++ x ∷ [] }) else None

-- with one more waiting line; None after a store line, or if its Id is not greater than that of
-- the last waiting line
abbrev pub with_waiting : BaseParts → Id → Option BaseParts
with_waiting p x =
    if (length p.stored == 0) && is_after_last id_cmp (last p.waiting) x
    then Some (record p { waiting = p.waiting ++ x ∷ [] }) else None

-- with one more store line; None if its key is not greater than that of the last store line
abbrev pub with_stored : BaseParts → List ℕ → ℤ → Option BaseParts
with_stored p k v =
    if is_after_last key_cmp (option_map (λ e. e.0) (last p.stored)) k
    then Some (record p { stored = p.stored ++ (k, v) ∷ [] }) else None

-- with one more line of any kind; None if it may not follow, as a second header may not
unfoldable pub with_next : BaseParts → BaseLine → Option BaseParts
with_next p (Header c) = None
with_next p (Done x) = with_done p x
with_next p (Reply x) = with_reply p x
with_next p (Waiting x) = with_waiting p x
with_next p (Store k v) = with_stored p k v

-- with more lines, one after another; None if one of them may not follow
abbrev pub with_all : BaseParts → List BaseLine → Option BaseParts
with_all p [] = Some p
with_all p (l ∷ ls) = option_and_then (λ q. with_all q ls) (with_next p l)

-- what rises line by line
pub record Rise (p : BaseParts) : Type 0 where
  pub done : IsRising p.done
  pub waiting : IsRising p.waiting
  pub stored : T (is_sorted key_cmp p.stored)

-- a base of these parts
pub record IsBaseOf (p : BaseParts) (done : List Id) (stored : Contents) : Type 0 where
  pub are_parts : AreBaseParts p
  pub are_done : AreDoneIn p.done p.replied done
  pub are_stored : contents.entries stored ≡ p.stored
