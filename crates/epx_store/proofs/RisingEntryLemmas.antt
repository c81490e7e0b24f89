-- Entries whose keys rise.
use Rattle.std.proofs.Common.{◌≡◌, ℕ, zero, suc, sym, ap, subst, T, Bool, true, false, ◌&&◌, List}
use Rattle.std.proofs.Common.{[], ◌∷◌, drop}
use Rattle.epx_types.proofs.Common.{is_lt, Less, is_sorted, below_all, key_cmp}
use Rattle.epx_types.proofs.Common.{key_cmp-IsTotalOrder}
use Rattle.epx_types.proofs.Common.{is_lt-trans, and-first, and-second, Less-from_is_lt}

pub T-both : (a b : Bool) → T a → T b → T (a && b)
T-both true b g h = h
T-both false b g h = absurd g

module _ {X : Type 0} where
  -- a key that is below a lower bound is a lower bound
  pub below_all-trans : (j k : List ℕ) (es : List (List ℕ × X)) → key_cmp j k ≡ Less
      → T (below_all key_cmp k es) → T (below_all key_cmp j es)
  below_all-trans j k [] below h = tt
  below_all-trans j k (e ∷ es) below h =
      let next : is_lt (key_cmp j e.0) ≡ true =
      is_lt-trans key_cmp-IsTotalOrder j k e.0 (ap is_lt below)
      (ap is_lt (Less-from_is_lt _ (and-first _ _ h))) in
      T-both _ _ (subst T (sym next) tt) (below_all-trans j k es below (and-second _ _ h))

  -- the rest of rising entries rises
  pub is_sorted-drop : (es : List (List ℕ × X)) (i : ℕ) → T (is_sorted key_cmp es)
      → T (is_sorted key_cmp (drop i es))
  is_sorted-drop es zero h = h
  is_sorted-drop [] (suc i) h = h
  is_sorted-drop (e ∷ es) (suc i) h = is_sorted-drop es i (and-second _ _ h)
