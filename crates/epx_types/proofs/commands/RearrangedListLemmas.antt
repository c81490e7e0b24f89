-- Commands in another order that keeps the order of any two that conflict leave the same contents,
-- and each command has the same reply.
use Rattle.std.proofs.Common.{◌≡◌, ◌⊎◌, ◌∙◌, List, [], ◌∷◌, ◌++◌, length, map, Contains, refl, sym}
use Rattle.std.proofs.Common.{ap, ap₂, subst, inl, inr, drop, take}
use Rattle.std.proofs.lemmas.List.{map-append, length-map}
use Rattle.std.proofs.lemmas.List.Elements.{Contains-append_left, Contains-append_right}
use Rattle.std.proofs.lemmas.List.Elements.{Contains-append_cases}
use Rattle.std.proofs.Math.Seq.{drop-append_seam, take-append_seam}
use Rattle.epx_types.specs.declared.op.Op.{Op}
use Rattle.epx_types.specs.declared.reply.Reply.{Reply}
use Rattle.epx_types.specs.Conflicts.{Conflict, NoConflictWith}
use Rattle.epx_types.specs.Contents.{Contents}
use Rattle.epx_types.specs.Commands.{command_on}
use Rattle.epx_types.specs.Execution.{execute}
use Rattle.epx_types.proofs.lists.MembershipLemmas.{Contains-nil, Contains-head, Contains-cons}
use Rattle.epx_types.proofs.lists.MembershipLemmas.{Contains-cons_cases, Contains-from_map}
use Rattle.epx_types.proofs.commands.ExecutionLemmas.{length-replies, execute-append}
use Rattle.epx_types.proofs.commands.ConflictLemmas.{Conflict-symm}
use Rattle.epx_types.proofs.commands.ConflictListLemmas.{final-front, replies-front}

module _ {X : Type 0} where
  -- each element occurs once
  abbrev pub Once : List X → Type 0
  Once [] = Unit {0}
  Once (x ∷ xs) = (¬ Contains xs x) × Once xs

  -- x is before y in the list
  abbrev pub Precedes : List X → X → X → Type 0
  Precedes [] x y = ⊥
  Precedes (z ∷ zs) x y = ((z ≡ x) × Contains zs y) ⊎ Precedes zs x y

  -- a list, split at one of its elements
  split_at : (xs : List X) (x : X) → Contains xs x
      → (front rest : List X) × (xs ≡ front ++ x ∷ rest)
  split_at [] x h = absurd (Contains-nil x h)
  split_at (y ∷ xs) x h =
      elim (Contains-cons_cases y xs x h) [
        | inl same ↦ ([], xs, ap (λ z. z ∷ xs) same)
        | inr later ↦ let s = split_at xs x later in (y ∷ s.0, s.1, ap (λ zs. y ∷ zs) s.2)
      ]

  -- ---- removing an element from a list

  -- the other elements are elements of the list
  within_whole : (front rest : List X) (x y : X) → Contains (front ++ rest) y
      → Contains (front ++ x ∷ rest) y
  within_whole front rest x y h =
      elim (Contains-append_cases front rest y h) [
        | inl early ↦ Contains-append_left front (x ∷ rest) y early
        | inr late ↦ Contains-append_right front (x ∷ rest) y (Contains-cons x rest y late)
      ]

  -- and all elements except that one are among them
  taken_or_remaining : (front rest : List X) (x y : X) → Contains (front ++ x ∷ rest) y
      → (x ≡ y) ⊎ Contains (front ++ rest) y
  taken_or_remaining front rest x y h =
      elim (Contains-append_cases front (x ∷ rest) y h) [
        | inl early ↦ inr (Contains-append_left front rest y early)
        | inr late ↦ elim (Contains-cons_cases x rest y late) [
          | inl same ↦ inl same
          | inr later ↦ inr (Contains-append_right front rest y later)
        ]
      ]

  the_element : (front rest : List X) (x : X) → Contains (front ++ x ∷ rest) x
  the_element front rest x = Contains-append_right front (x ∷ rest) x (Contains-head x rest)

  Once-left : (front rest : List X) (x : X) → Once (front ++ x ∷ rest) → Once (front ++ rest)
  Once-left [] rest x once = once.1
  Once-left (y ∷ front) rest x once =
      (λ h. once.0 (within_whole front rest x y h), Once-left front rest x once.1)

  Once-taken : (front rest : List X) (x : X) → Once (front ++ x ∷ rest)
      → ¬ Contains (front ++ rest) x
  Once-taken [] rest x once h = once.0 h
  Once-taken (y ∷ front) rest x once h =
      elim (Contains-cons_cases y (front ++ rest) x h) [
        | inl same ↦ once.0
            (subst (Contains (front ++ x ∷ rest)) (sym same) (the_element front rest x))
        | inr later ↦ Once-taken front rest x once.1 later
      ]

  Precedes-left : (front rest : List X) (x y z : X) → Precedes (front ++ rest) y z
      → Precedes (front ++ x ∷ rest) y z
  Precedes-left [] rest x y z h = inr h
  Precedes-left (w ∷ front) rest x y z (inl h) = inl (h.0, within_whole front rest x z h.1)
  Precedes-left (w ∷ front) rest x y z (inr h) = inr (Precedes-left front rest x y z h)

  Precedes-front : (front rest : List X) (x y : X) → Contains front y
      → Precedes (front ++ x ∷ rest) y x
  Precedes-front [] rest x y h = absurd (Contains-nil y h)
  Precedes-front (w ∷ front) rest x y h =
      elim (Contains-cons_cases w front y h) [
        | inl same ↦ inl (same, the_element front rest x)
        | inr later ↦ inr (Precedes-front front rest x y later)
      ]

  Precedes-first : (xs : List X) (x y : X) → Precedes xs x y → Contains xs x
  Precedes-first [] x y h = absurd h
  Precedes-first (z ∷ zs) x y (inl h) = subst (Contains (z ∷ zs)) h.0 (Contains-head z zs)
  Precedes-first (z ∷ zs) x y (inr h) = Contains-cons z zs x (Precedes-first zs x y h)

  Precedes-second : (xs : List X) (x y : X) → Precedes xs x y → Contains xs y
  Precedes-second [] x y h = absurd h
  Precedes-second (z ∷ zs) x y (inl h) = Contains-cons z zs y h.1
  Precedes-second (z ∷ zs) x y (inr h) = Contains-cons z zs y (Precedes-second zs x y h)

-- if two lists are equal and their first parts have the same length, they are equal part by part
parts_of : {Y : Type 0} (front rest front' rest' : List Y) → length front ≡ length front'
    → front ++ rest ≡ front' ++ rest' → (front ≡ front') × (rest ≡ rest')
parts_of front rest front' rest' e same = (
  sym (take-append_seam front rest) ∙ ap (λ n. take n (front ++ rest)) e
      ∙ ap (take (length front')) same ∙ take-append_seam front' rest',
  sym (drop-append_seam front rest) ∙ ap (λ n. drop n (front ++ rest)) e
      ∙ ap (drop (length front')) same ∙ drop-append_seam front' rest',
)

module _ {X : Type 0} (f : X → List Op) where
  -- both lists have the same elements, each once, with any two that conflict in the same order
  pub record IsRearranged (xs ys : List X) : Type 0 where
    pub once : Once xs
    pub once_too : Once ys
    pub only : (x : X) → Contains xs x → Contains ys x
    pub whole : (x : X) → Contains ys x → Contains xs x
    pub keeps : (x y : X) → Precedes xs x y → Conflict (f x) (f y) → Precedes ys x y

  -- the elements before the one that is first in the other order do not conflict with it
  front_apart : (front rest ys : List X) (x : X) → IsRearranged (front ++ x ∷ rest) (x ∷ ys)
      → NoConflictWith (f x) (map f front)
  front_apart front rest ys x both b h conflict =
      let from = Contains-from_map f front b h in
      let turned : Conflict (f from.0) (f x) =
      Conflict-symm (f x) (f from.0) (subst (Conflict (f x)) (sym from.2) conflict) in
      elim (both.keeps from.0 x (Precedes-front front rest x from.0 from.1) turned) [
        | inl first ↦ both.once_too.0 first.1
        | inr later ↦ both.once_too.0 (Precedes-second ys from.0 x later)
      ]

  -- without that element both lists still satisfy this
  IsRearranged-left : (front rest ys : List X) (x : X) → IsRearranged (front ++ x ∷ rest) (x ∷ ys)
      → IsRearranged (front ++ rest) ys
  IsRearranged-left front rest ys x both = record {
    once = Once-left front rest x both.once;
    once_too = both.once_too.1;
    only = λ y h. elim (Contains-cons_cases x ys y (both.only y (within_whole front rest x y h))) [
      | inl same ↦ absurd
          (Once-taken front rest x both.once (subst (Contains (front ++ rest)) (sym same) h))
      | inr later ↦ later
    ];
    whole = λ y h. let within = both.whole y (Contains-cons x ys y h) in
        elim (taken_or_remaining front rest x y within) [
          | inl same ↦ absurd (both.once_too.0 (subst (Contains ys) (sym same) h))
          | inr left ↦ left
        ];
    keeps = λ y z h conflict. elim (both.keeps y z (Precedes-left front rest x y z h) conflict) [
      | inl first ↦ absurd (Once-taken front rest x both.once
          (subst (Contains (front ++ rest)) (sym first.0) (Precedes-first (front ++ rest) y z h)))
      | inr later ↦ later
    ];
  }

  -- both leave the same contents, and each command has the same reply
  pub record ExecutesAlike (reply_function : X → Reply) (xs ys : List X) (c : Contents) : Type
      0 where
    pub replies : (execute (map f ys) c).replies ≡ map reply_function ys
    pub final : (execute (map f ys) c).final ≡ (execute (map f xs) c).final

  module _ (reply_function : X → Reply) where
    -- the first command of the other order, executed first
    step : (front rest ys : List X) (x : X) (c : Contents) → NoConflictWith (f x) (map f front)
        → (execute (map f (front ++ x ∷ rest)) c).replies ≡ map reply_function (front ++ x ∷ rest)
        → ((command_on (f x) c).reply ≡ reply_function x)
        × ((execute (map f (front ++ rest)) (command_on (f x) c).after).replies
        ≡ map reply_function (front ++ rest))
        × ((execute (map f (front ++ x ∷ rest)) c).final
        ≡ (execute (map f (front ++ rest)) (command_on (f x) c).after).final)
    step front rest ys x c apart replied =
        let d = (command_on (f x) c).after in
        let early = (execute (map f front) d).replies in
        let late = (execute (map f rest) (execute (map f front) d).final).replies in
        let cut : early ++ (command_on (f x) c).reply ∷ late
        ≡ map reply_function front ++ reply_function x ∷ map reply_function rest =
        sym (replies-front (f x) (map f front) (map f rest) apart c)
        ∙ ap (λ os. (execute os c).replies) (sym (map-append f front (x ∷ rest)))
        ∙ replied
        ∙ map-append reply_function front (x ∷ rest) in
        let same_length : length early ≡ length (map reply_function front) =
        length-replies (map f front) d ∙ length-map front f
        ∙ sym (length-map front reply_function) in
        let parts = parts_of early ((command_on (f x) c).reply ∷ late) (map reply_function front)
        (reply_function x ∷ map reply_function rest) same_length cut in
        let here : (command_on (f x) c).reply ≡ reply_function x = cc (parts.1) in
        let after : late ≡ map reply_function rest = cc (parts.1) in (
          here,
          ap (λ os. (execute os d).replies) (map-append f front rest)
              ∙ (execute-append (map f front) (map f rest) d).0
              ∙ ap₂ (λ rs qs. rs ++ qs) parts.0 after ∙ sym (map-append reply_function front rest),
          ap (λ os. (execute os c).final) (map-append f front (x ∷ rest))
              ∙ final-front (f x) (map f front) (map f rest) apart c
              ∙ ap (λ os. (execute os d).final) (sym (map-append f front rest)),
        )

    pub execute-rearranged : (ys xs : List X) → IsRearranged xs ys → (c : Contents)
        → (execute (map f xs) c).replies ≡ map reply_function xs
        → ExecutesAlike reply_function xs ys c
    execute-rearranged [] [] both c replied = record { replies = refl; final = refl }
    execute-rearranged [] (x ∷ xs) both c replied =
        absurd (Contains-nil x (both.only x (Contains-head x xs)))
    execute-rearranged (y ∷ ys) xs both c replied =
        let s = split_at xs y (both.whole y (Contains-head y ys)) in
        let both' = subst (λ (zs : List X). IsRearranged zs (y ∷ ys)) s.2 both in
        let replied' =
        subst (λ (zs : List X). (execute (map f zs) c).replies ≡ map reply_function zs) s.2
        replied in
        let now = step s.0 s.1 ys y c (front_apart s.0 s.1 ys y both') replied' in
        let on = execute-rearranged ys (s.0 ++ s.1) (IsRearranged-left s.0 s.1 ys y both')
        (command_on (f y) c).after now.1 in
        record {
          replies = ap₂ (λ r rs. r ∷ rs) now.0 on.replies;
          final = on.final ∙ sym now.2 ∙ ap (λ zs. (execute (map f zs) c).final) (sym s.2);
        }
