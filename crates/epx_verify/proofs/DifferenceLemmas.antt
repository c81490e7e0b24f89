-- There is no difference exactly where the replies and the store are right.
use Rattle.std.proofs.Common.{◌≡◌, ◌&&◌, ℕ, ℤ, int_lt, not, Bool, true, false, List, []}
use Rattle.std.proofs.Common.{◌∷◌, ◌++◌, length, map, flat_map, zip, Contains, Option, Some, None}
use Rattle.std.proofs.Common.{is_some, option_map, slice_get, refl, sym, ap, ap₂, ◌∙◌, subst, arith}
use Rattle.std.proofs.Common.{if◌then◌else◌, inl, inr}
use Rattle.std.specs.FinMap as contents
use Rattle.std.specs.Bool.{Decides}
use Rattle.std.specs.Ordering.{int_eq}
use Rattle.std.specs.Option.{option_eq}
use Rattle.std.specs.Cmp.Lexicographic.{pointwise}
use Rattle.std.proofs.lemmas.Int.{ints}
use Rattle.std.proofs.lemmas.Bool.Decides.{Decides-int_eq, same_from_decides}
use Rattle.std.proofs.lemmas.List.Elements.{Contains-append_left, Contains-append_right}
use Rattle.std.proofs.lemmas.Map.Views.{Contains-from_any}
use Rattle.std.proofs.lemmas.Option.{slice_get-map}
use Rattle.std.proofs.lemmas.Slice.Eq.{slice_eq-Decides}
use Rattle.epx_types.proofs.Common.{same_value, Contents, Contents-extensional}
use Rattle.epx_types.proofs.Common.{Contains-rising_keys, nat_tests, length-map, length-replies}
use Rattle.epx_types.proofs.Common.{commands_in, eq_by_cmp-same_key, Contains-cons_cases}
use Rattle.epx_types.proofs.Common.{Contains-nil}
use Rattle.epx_types.specs.declared.id.Id.{Id}
use Rattle.epx_types.specs.declared.reply.Reply.{Reply}
use Rattle.epx_types.specs.declared.reply.Reply.TheVariants.{Values, Abort}
use Rattle.epx_types.specs.Instances.{Instance}
use Rattle.epx_laws.proofs.PrefixLemmas.{reply-prefix}
use Rattle.serde_json.specs.Data.{Data}
use Rattle.serde_json.specs.Written.{compact_text}
use Rattle.epx_report.specs.ReportLines.{array_of, line_of}
use Rattle.epx_report.specs.ReportReadings.{replied_ids}
use Rattle.epx_verify.specs.ListExecutions.{list_execution}
use Rattle.epx_verify.specs.Differences.{same_reply, wrong_reply_data, reply_difference}
use Rattle.epx_verify.specs.Differences.{wrong_value_data, value_difference}
use Rattle.epx_verify.specs.Differences.{keys_of_either, store_differences}
use Rattle.epx_verify.specs.VerifyLaws.{NoDifferenceIfRight, ReplayHasNoDifference}
use Rattle.epx_verify.specs.VerifyLaws.{RightRepliesAreThoseOfAllOrders}

-- ---- equal values and equal replies

number_true : (v w : ℤ) → (not (int_lt v w) && not (int_lt w v)) ≡ true → v ≡ w
number_true v w e = grind (arith, ints)

number_itself : (v : ℤ) → (not (int_lt v v) && not (int_lt v v)) ≡ true
number_itself v = grind (arith, ints)

pub Decides-same_value : (a b : Option ℤ) → Decides (same_value a b) (a ≡ b)
Decides-same_value None None = (λ e. refl, λ e. refl)
Decides-same_value None (Some w) = (λ e. absurd (cc e), λ e. absurd (cc e))
Decides-same_value (Some v) None = (λ e. absurd (cc e), λ e. absurd (cc e))
Decides-same_value (Some v) (Some w) = (
  λ e. ap Some (number_true v w e),
  λ e. subst (λ o. same_value (Some v) o ≡ true) e (number_itself v),
)

lists_decide : (vs ws : List (Option ℤ)) → Decides (pointwise same_value vs ws) (vs ≡ ws)
lists_decide vs ws = slice_eq-Decides Decides-same_value vs ws (pointwise same_value vs ws) refl

pub Decides-same_reply : (a b : Reply) → Decides (same_reply a b) (a ≡ b)
Decides-same_reply (Values vs) (Values ws) = (
  λ e. ap Values ((lists_decide vs ws).0 e),
  λ e. (lists_decide vs ws).1 (cc e),
)
Decides-same_reply (Values vs) (Abort k) = (λ e. absurd (cc e), λ e. absurd (cc e))
Decides-same_reply (Abort j) (Values ws) = (λ e. absurd (cc e), λ e. absurd (cc e))
Decides-same_reply (Abort j) (Abort k) =
    (λ e. grind (arith, nat_tests), λ e. grind (arith, nat_tests))

-- `==` of values and of lists of values is the same test
pub option_eq-same_value : (a b : Option ℤ) → option_eq int_eq a b ≡ same_value a b
option_eq-same_value None None = refl
option_eq-same_value None (Some w) = refl
option_eq-same_value (Some v) None = refl
option_eq-same_value (Some v) (Some w) =
    same_from_decides (int_eq v w) (same_value (Some v) (Some w)) (Decides-int_eq v w)
    (number_true v w, λ e. subst (λ u. same_value (Some v) (Some u) ≡ true) e (number_itself v))

pub pointwise-same_value : (vs ws : List (Option ℤ))
    → pointwise (option_eq int_eq) vs ws ≡ pointwise same_value vs ws
pointwise-same_value [] [] = refl
pointwise-same_value [] (w ∷ ws) = refl
pointwise-same_value (v ∷ vs) [] = refl
pointwise-same_value (v ∷ vs) (w ∷ ws) =
    ap₂ (λ a b. a && b) (option_eq-same_value v w) (pointwise-same_value vs ws)

-- ---- texts without bytes

not_empty : (xs : List ℕ) (y : ℕ) → ¬ (xs ++ y ∷ [] ≡ [])
not_empty [] y e = cc e
not_empty (x ∷ xs) y e = cc e

nothing_if : (same : Bool) (ds : List Data) → (if same then [] else line_of ds) ≡ []
    → same ≡ true
nothing_if true ds e = refl
nothing_if false ds e = absurd (not_empty (compact_text (array_of ds)) 10 e)

pub append-both_nil : (xs ys : List ℕ) → xs ++ ys ≡ [] → (xs ≡ []) × (ys ≡ [])
append-both_nil [] ys e = (refl, e)
append-both_nil (x ∷ xs) ys e = absurd (cc e)

module _ {X : Type 0} (f : X → List ℕ) where
  each_empty : (xs : List X) → flat_map f xs ≡ [] → (x : X) → Contains xs x → f x ≡ []
  each_empty [] e x h = absurd (Contains-nil x h)
  each_empty (y ∷ ys) e x h =
      let parts = append-both_nil (f y) (flat_map f ys) e in
      elim (Contains-cons_cases y ys x h) [
        | inl same ↦ ap f (sym same) ∙ parts.0
        | inr rest ↦ each_empty ys parts.1 x rest
      ]

  all_empty : (xs : List X) → ((x : X) → f x ≡ []) → flat_map f xs ≡ []
  all_empty [] h = refl
  all_empty (x ∷ xs) h = ap₂ (λ a b. a ++ b) (h x) (all_empty xs h)

-- ---- replies

replies_right : (said : List (Id × Reply)) (right : List Reply) → length right ≡ length said
    → flat_map reply_difference (zip said right) ≡ [] → map (λ p. p.1) said ≡ right
replies_right [] [] l e = refl
replies_right [] (r ∷ right) l e = absurd (omega (arith, l))
replies_right (p ∷ said) [] l e = absurd (omega (arith, l))
replies_right (p ∷ said) (r ∷ right) l e =
    let parts =
    append-both_nil (reply_difference (p, r)) (flat_map reply_difference (zip said right)) e
    in
    let same = nothing_if (same_reply p.1 r) (wrong_reply_data p.0 p.1 r) parts.0 in
    ap₂ (λ a more. a ∷ more) ((Decides-same_reply p.1 r).0 same)
    (replies_right said right (omega (arith, l)) parts.1)

no_wrong_reply : (said : List (Id × Reply))
    → flat_map reply_difference (zip said (map (λ p. p.1) said)) ≡ []
no_wrong_reply [] = refl
no_wrong_reply (p ∷ said) = rw ((Decides-same_reply p.1 p.1).1 refl) (no_wrong_reply said)

-- ---- stores

present : (m : Contents) (q : List ℕ) (v : ℤ) → contents.get m q ≡ Some v
    → Contains (contents.keys m) q
present m q v e =
    Contains-from_any eq_by_cmp-same_key q (contents.keys m)
    (sym (contents.contains_key-keys m q) ∙ ap is_some e)

module _ (said right : Contents) where
  value_right : (q : List ℕ) → store_differences said right ≡ []
      → Contains (contents.keys said ++ contents.keys right) q
      → contents.get said q ≡ contents.get right q
  value_right q e h =
      let none = each_empty (value_difference said right) (keys_of_either said right) e q
      (Contains-rising_keys (contents.keys said ++ contents.keys right) q h) in
      let v = contents.get said q in
      let w = contents.get right q in
      (Decides-same_value v w).0 (nothing_if (same_value v w) (wrong_value_data q v w) none)

  value_right_at : (q : List ℕ) (v w : Option ℤ) → store_differences said right ≡ []
      → contents.get said q ≡ v → contents.get right q ≡ w
      → contents.get said q ≡ contents.get right q
  value_right_at q None None e a b = a ∙ sym b
  value_right_at q None (Some w) e a b = value_right q e
      (Contains-append_right (contents.keys said) (contents.keys right) q (present right q w b))
  value_right_at q (Some v) w e a b = value_right q e
      (Contains-append_left (contents.keys said) (contents.keys right) q (present said q v a))

  store_right : store_differences said right ≡ [] → said ≡ right
  store_right e = Contents-extensional said right (λ q.
      value_right_at q (contents.get said q) (contents.get right q) e refl refl)

no_wrong_value : (said : Contents) → store_differences said said ≡ []
no_wrong_value said = all_empty (value_difference said said) (keys_of_either said said) (λ k.
    rw ((Decides-same_value (contents.get said k) (contents.get said k)).1 refl) refl)

-- ---- the laws

as_many_replies : (m : List Instance) (ids : List Id)
    → length (list_execution m ids).replies ≡ length ids
as_many_replies m ids = length-replies (commands_in m ids) contents.empty ∙ length-map ids _

pub NoDifferenceIfRight-holds : NoDifferenceIfRight
NoDifferenceIfRight-holds m replies stored =
    let ids = replied_ids replies in
    let right = list_execution m ids in
    let many = as_many_replies m ids ∙ length-map replies (λ p. p.0) in (
      λ e.
          let parts = append-both_nil (flat_map reply_difference (zip replies right.replies))
          (store_differences stored right.final) e in (
            replies_right replies right.replies many parts.0,
            store_right stored right.final parts.1,
          ),
      λ h. ap₂ (λ a b. a ++ b)
          (ap (λ rs. flat_map reply_difference (zip replies rs)) (sym h.0) ∙ no_wrong_reply replies)
          (ap (store_differences stored) (sym h.1) ∙ no_wrong_value stored),
    )

module _ {X Y : Type 0} where
  first-zip : (xs : List X) (ys : List Y) → length ys ≡ length xs
      → map (λ p. p.0) (zip xs ys) ≡ xs
  first-zip [] [] l = refl
  first-zip [] (y ∷ ys) l = absurd (omega (arith, l))
  first-zip (x ∷ xs) [] l = absurd (omega (arith, l))
  first-zip (x ∷ xs) (y ∷ ys) l = ap (λ zs. x ∷ zs) (first-zip xs ys (omega (arith, l)))

  second-zip : (xs : List X) (ys : List Y) → length ys ≡ length xs
      → map (λ p. p.1) (zip xs ys) ≡ ys
  second-zip [] [] l = refl
  second-zip [] (y ∷ ys) l = absurd (omega (arith, l))
  second-zip (x ∷ xs) [] l = absurd (omega (arith, l))
  second-zip (x ∷ xs) (y ∷ ys) l = ap (λ zs. y ∷ zs) (second-zip xs ys (omega (arith, l)))

pub ReplayHasNoDifference-holds : ReplayHasNoDifference
ReplayHasNoDifference-holds m ids =
    let right = list_execution m ids in
    let many = as_many_replies m ids in
    let same = ap (list_execution m) (first-zip ids right.replies many) in
    (NoDifferenceIfRight-holds m (zip ids right.replies) right.final).1 (
      second-zip ids right.replies many ∙ ap (λ e. e.replies) (sym same),
      ap (λ e. e.final) (sym same),
    )

pub list_execution-right_replies : RightRepliesAreThoseOfAllOrders
list_execution-right_replies m rising covered replies stored whole prefix none lawful i j
    x r here there =
    let ids = replied_ids replies in
    let right = ((NoDifferenceIfRight-holds m replies stored).0 none).0 in
    let id = slice_get-map (λ p. p.0) replies i ∙ ap (option_map (λ p. p.0)) here in
    let reply = slice_get-map (λ p. p.1) replies i ∙ ap (option_map (λ p. p.1)) here in
    sym (reply-prefix m rising covered ids prefix.0 whole prefix.1 lawful contents.empty i j x id
    there) ∙ ap (λ rs. slice_get rs i) (sym right) ∙ reply
