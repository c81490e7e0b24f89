-- Lists that keep a lone item in themselves.
use Rattle.std.specs.Prelude.{List, [], ◌∷◌}
use Rattle.epx_types.specs.declared.small_list.SmallList.{SmallList}
use Rattle.epx_types.specs.declared.small_list.SmallList.TheVariants.{One, Many}

-- the items of a list, in order
abbrev pub items_of : {T : Type 0} → SmallList T → List T
items_of (One item) = item ∷ []
items_of (Many items) = items.items
