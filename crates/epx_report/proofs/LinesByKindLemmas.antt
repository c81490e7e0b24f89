-- Lines of a base gathered by kind: what they say, and when they are a base.
use Rattle.std.proofs.Common.{◌≡◌, ◌≢◌, ◌⊎◌, inl, inr, ℕ, true, false, List, [], ◌∷◌, ◌++◌, length}
use Rattle.std.proofs.Common.{map, Contains, AllPairs, Option, Some, None, refl, sym, ap, ap₂, ◌∙◌}
use Rattle.std.proofs.Common.{subst, append_assoc, append-nil}
use Rattle.std.specs.Cmp.{eq_by_cmp_equiv}
use Rattle.std.specs.FinMap as contents
use Rattle.epx_types.proofs.Common.{list_any, IsPermutation, eq_by_cmp, nil_from_length}
use Rattle.epx_types.proofs.Common.{Contains-append_left, Contains-append_right}
use Rattle.epx_types.proofs.Common.{Contains-append_cases, Contains-permutation, IsPermutation-sym}
use Rattle.epx_types.proofs.Common.{IsDistinct-IsPermutation, AllPairs-from_IsDistinct}
use Rattle.epx_types.proofs.Common.{IsDistinct-from_AllPairs, Contents, is_among, id_cmp, IsRising}
use Rattle.epx_types.proofs.Common.{id_cmp-IsTotalOrder, id_cmp-Decides, AllPairs-head}
use Rattle.epx_types.proofs.Common.{AllPairs-tail}
use Rattle.epx_types.proofs.Common.{Contains-nil, Contains-cons_cases, IsRising-push}
use Rattle.epx_types.proofs.Common.{AllPairs-rising_distinct}
use Rattle.epx_types.proofs.Common.{is_among-cases}
use Rattle.epx_types.specs.declared.id.Id.{Id}
use Rattle.epx_lines.specs.Lines.{lines_of}
use Rattle.epx_report.specs.declared.from_value.BaseLine.{BaseLine}
use Rattle.epx_report.specs.declared.from_value.BaseLine.TheVariants as line
use Rattle.epx_report.specs.declared.from_value.Counts.{Counts}
use Rattle.epx_report.specs.Bases.{BaseParts, Say, lines_in_order, IsBase}
use Rattle.epx_report.specs.Forms.{base_line_of}
use Rattle.epx_report.specs.between.PutPairs.{put_pairs}
use Rattle.epx_report.specs.inner.LinesByKind.{with_next, with_all, Rise, IsBaseOf}
use Rattle.epx_report.proofs.BaseLemmas.{entries-put_pairs}
use Rattle.epx_report.proofs.BegunBaseLemmas.{Some-from_if, and-both, eq-from_true, is_sorted-push}
use Rattle.epx_report.proofs.BegunBaseLemmas.{header_parts}
use Rattle.epx_report.proofs.IdSetLemmas.{Below-if_after_last}
use Rattle.epx_report.proofs.LineOrderLemmas.{lines-done, lines-replies, lines-waiting}
use Rattle.epx_report.proofs.LineOrderLemmas.{lines-stored}
use Rattle.epx_report.proofs.RisingListLemmas.{T-true}

-- ---- further lines

-- the lines of q are those of p and then these, and they rise
pub record Lead (p : BaseParts) (ls : List BaseLine) (q : BaseParts) : Type 0 where
  pub said : lines_in_order q ≡ lines_in_order p ++ ls
  pub rise : Rise q

module _ (p : BaseParts) (h : Rise p) where
  next_line : (l : BaseLine) (q : BaseParts) → with_next p l ≡ Some q → Lead p (l ∷ []) q
  unfolding with_next
  next_line (line.Header c) q e = absurd (cc e)
  next_line (line.Done x) q e =
      let goes = Some-from_if _ (record p { done = p.done ++ x ∷ [] }) q e in
      let rest = and-both _ _ goes.0 in
      let more = and-both _ _ rest.0 in
      let first = and-both _ _ more.0 in
      subst (Lead p (line.Done x ∷ [])) goes.1 (record {
        said = lines-done p.counts p.done (x ∷ []) p.replied p.waiting p.stored
            (nil_from_length p.replied (eq-from_true _ _ first.0))
            (nil_from_length p.waiting (eq-from_true _ _ first.1))
            (nil_from_length p.stored (eq-from_true _ _ more.1));
        rise = record {
          done = IsRising-push p.done x h.done
              (λ y k. Below-if_after_last p.done x y h.done rest.1 k);
          waiting = h.waiting;
          stored = h.stored;
        };
      })
  next_line (line.Reply x) q e =
      let goes = Some-from_if _ (record p { replied = p.replied ++ x ∷ [] }) q e in
      let tests = and-both _ _ goes.0 in
      subst (Lead p (line.Reply x ∷ [])) goes.1 (record {
        said = lines-replies p.counts p.done p.replied (x ∷ []) p.waiting p.stored
            (nil_from_length p.waiting (eq-from_true _ _ tests.0))
            (nil_from_length p.stored (eq-from_true _ _ tests.1));
        rise = record { done = h.done; waiting = h.waiting; stored = h.stored };
      })
  next_line (line.Waiting x) q e =
      let goes = Some-from_if _ (record p { waiting = p.waiting ++ x ∷ [] }) q e in
      let tests = and-both _ _ goes.0 in
      subst (Lead p (line.Waiting x ∷ [])) goes.1 (record {
        said = lines-waiting p.counts p.done p.replied p.waiting (x ∷ []) p.stored
            (nil_from_length p.stored (eq-from_true _ _ tests.0));
        rise = record {
          done = h.done;
          waiting = IsRising-push p.waiting x h.waiting
              (λ y k. Below-if_after_last p.waiting x y h.waiting tests.1 k);
          stored = h.stored;
        };
      })
  next_line (line.Store k v) q e =
      let goes = Some-from_if _ (record p { stored = p.stored ++ (k, v) ∷ [] }) q e in
      subst (Lead p (line.Store k v ∷ [])) goes.1 (record {
        said = lines-stored p.counts p.done p.replied p.waiting p.stored ((k, v) ∷ []);
        rise = record {
          done = h.done;
          waiting = h.waiting;
          stored = is_sorted-push p.stored (k, v) h.stored goes.0;
        };
      })

all_lead : (p : BaseParts) (ls : List BaseLine) (q : BaseParts) → Rise p
    → with_all p ls ≡ Some q → Lead p ls q
all_lead p [] q h e =
    let same : p ≡ q = cc e in
    subst (Lead p []) same (record { said = sym (append-nil (lines_in_order p)); rise = h })
all_lead p (l ∷ ls) q h e = next (with_next p l) refl (λ u. all_lead u ls q)
  where
    next : (o : Option BaseParts) → with_next p l ≡ o
        → ((u : BaseParts) → Rise u → with_all u ls ≡ Some q → Lead u ls q)
        → Lead p (l ∷ ls) q
    next None none rest =
        let stopped : with_all p (l ∷ ls) ≡ None = rw none refl in absurd (cc (stopped, e))
    next (Some u) some rest =
        let first = next_line p h l u some in
        let later : with_all u ls ≡ Some q = (rw some at e) in
        let more = rest u first.rise later in
        record {
          said = more.said ∙ ap (λ xs. xs ++ ls) first.said
              ∙ append_assoc (lines_in_order p) (l ∷ []) ls;
          rise = more.rise;
        }

-- ---- the base

-- a header, and lines after it, are a base of their parts
pub IsBase-from_lines : (bytes first rest : List ℕ) (c : Counts) (said : List BaseLine)
    (p : BaseParts) (done : List Id) (stored : Contents)
    → lines_of bytes ≡ first ∷ lines_of rest → base_line_of first ≡ Some (line.Header c)
    → Say (lines_of rest) said → with_all (header_parts c) said ≡ Some p
    → (Rise p → IsBaseOf p done stored) → IsBase bytes done stored
IsBase-from_lines bytes first rest c said p done stored lines header are taken made =
    let all = all_lead (header_parts c) said p
    (record { done = tt; waiting = tt; stored = tt }) taken in
    let is = made all.rise in
    record {
      parts = p;
      said = ap (map base_line_of) lines ∙ ap₂ (λ o os. o ∷ os) header are
          ∙ sym (ap (map Some) all.said);
      are_parts = is.are_parts;
      are_done = is.are_done;
      are_stored = is.are_stored;
    }

-- ---- the parts of a base

once_later : (xs ys : List Id) → AllPairs (λ x y. x ≢ y) (xs ++ ys) → AllPairs (λ x y. x ≢ y) ys
once_later [] ys once = once
once_later (x ∷ xs) ys once =
    once_later xs ys (AllPairs-tail (λ a b. a ≢ b) x (xs ++ ys) once)

once_apart : (xs ys : List Id) → AllPairs (λ x y. x ≢ y) (xs ++ ys) → (x : Id) → Contains ys x
    → ¬ Contains xs x
once_apart [] ys once x h k = Contains-nil x k
once_apart (z ∷ xs) ys once x h k =
    elim (Contains-cons_cases z xs x k) [
      | inl same ↦ AllPairs-head (λ a b. a ≢ b) z (xs ++ ys) x once
          (Contains-append_right xs ys x h) same
      | inr later ↦ once_apart xs ys (AllPairs-tail (λ a b. a ≢ b) z (xs ++ ys) once) x h later
    ]

-- Ids that rise once they are sorted are distinct
once_from_sorted : (xs sorted : List Id) → IsPermutation xs sorted → IsRising sorted
    → AllPairs (λ x y. x ≢ y) xs
once_from_sorted xs sorted moved rises =
    AllPairs-from_IsDistinct id_cmp-Decides xs
    (IsDistinct-IsPermutation (eq_by_cmp id_cmp) (eq_by_cmp_equiv id_cmp-IsTotalOrder).symm sorted
    xs
    (IsPermutation-sym xs sorted moved)
    (IsDistinct-from_AllPairs id_cmp-Decides sorted (AllPairs-rising_distinct sorted rises)))

none_among : (ids ws : List Id) → list_any (λ x. is_among ids x) ws ≡ false → (x : Id)
    → Contains ws x → ¬ Contains ids x
none_among ids [] e x h = absurd (Contains-nil x h)
none_among ids (w ∷ ws) e x h =
    elim (is_among-cases ids w) [
      | inl found ↦
          let some : list_any (λ y. is_among ids y) (w ∷ ws) ≡ true = rw found.0 refl in
          absurd (cc (some, e))
      | inr missed ↦ elim (Contains-cons_cases w ws x h) [
        | inl same ↦ subst (λ y. ¬ Contains ids y) same missed.1
        | inr later ↦ none_among ids ws (rw missed.0 at e) x later
      ]
    ]

-- parts with as many lines as the header says are those of a base, if no instance is named twice
pub IsBaseOf-if_counted : (p : BaseParts) (ids : List Id) (stored : Contents)
    → length p.replied ≡ p.counts.executed → length p.waiting ≡ p.counts.waiting → IsRising ids
    → IsPermutation (p.done ++ p.replied) ids → list_any (λ x. is_among ids x) p.waiting ≡ false
    → stored ≡ put_pairs p.stored contents.empty → Rise p → IsBaseOf p ids stored
IsBaseOf-if_counted p ids stored replies waiting rises moved none is_stored h =
    let all = p.done ++ p.replied in
    let once = once_from_sorted all ids moved rises in
    let there : (x : Id) → Contains p.done x ⊎ Contains p.replied x → Contains ids x =
    λ x k. Contains-permutation all ids x moved (elim k [
      | inl was ↦ Contains-append_left p.done p.replied x was
      | inr new ↦ Contains-append_right p.done p.replied x new
    ]) in
    let back : (x : Id) → Contains ids x → Contains p.done x ⊎ Contains p.replied x =
    λ x k. Contains-append_cases p.done p.replied x
    (Contains-permutation ids all x (IsPermutation-sym all ids moved) k) in
    record {
      are_parts = record {
        distinct = record {
          done_rise = h.done;
          replied_once = once_later p.done p.replied once;
          replied_new = once_apart p.done p.replied once;
          waiting_rise = h.waiting;
          waiting_left = λ x k. (
            λ was. none_among ids p.waiting none x k (there x (inl was)),
            λ new. none_among ids p.waiting none x k (there x (inr new)),
          );
        };
        stored_rise = T-true _ h.stored;
        replies_counted = replies;
        waiting_counted = waiting;
      };
      are_done = record { rising = rises; each = λ x. (back x, there x) };
      are_stored = ap contents.entries is_stored ∙ entries-put_pairs p.stored h.stored;
    }
