-- The touches of commands are those of their keys.
use Rattle.std.proofs.Common.{◌≡◌, ◌↔◌, inl, inr, ℕ, ◌+◌, ◌<◌, Bool, true, List, [], length}
use Rattle.std.proofs.Common.{get_or, map, filter, flat_map, Contains, Some, slice_get, refl, sym}
use Rattle.std.proofs.Common.{ap}
use Rattle.std.proofs.Common.{zero, suc, ◌∷◌, subst, ◌∙◌, AllPairs, ◌≤◌, ◌++◌, arith}
use Rattle.epx_types.specs.Keys.{KeyBelow}
use Rattle.epx_types.specs.declared.command.Command.{Command}
use Rattle.epx_types.specs.declared.op.Op.{Op}
use Rattle.epx_types.proofs.Common.{accesses_of, touched_by, written_by, touched_keys}
use Rattle.epx_types.proofs.Common.{written_keys, Contains-from_rising_keys, Contains-rising_keys}
use Rattle.epx_types.proofs.Common.{Contains-map, Contains-from_map, Contains-from_filter}
use Rattle.epx_types.proofs.Common.{Contains-filter, passes-from_filter, Contains-flat_map}
use Rattle.epx_types.proofs.Common.{Contains-from_flat_map, AllPairs-rising_keys, cases_lt}
use Rattle.epx_types.proofs.Common.{get_or_past, Contains-get_or, Contains-nil}
use Rattle.epx_types.proofs.Common.{Contains-append_left, Contains-append_right}
use Rattle.epx_types.proofs.Common.{Contains-append_cases}
use Rattle.epx_neighbours.specs.Neighbours.{TouchesAt, WritesAt}
use Rattle.epx_neighbours.specs.declared.key_touch.KeyTouch.{KeyTouch}
use Rattle.epx_neighbours.specs.inner.KeyNumbers.{keys_in, number_of}
use Rattle.epx_neighbours.specs.inner.KeyTouches.{key_touch_of, key_touches_by, touches_in}
use Rattle.epx_neighbours.specs.inner.KeyTouches.{AreTouches}
use Rattle.epx_neighbours.specs.inner.KeyTouches.{TouchBelow}
use Rattle.epx_neighbours.specs.inner.NumberedPairs.{HasTouch, HasWrite}
use Rattle.epx_neighbours.proofs.KeyNumberLemmas.{slice_get-number_of, number_of-at_position}

-- the operations of the command at a position
pub ops-at : (xs : List Command) (i : ℕ) (x : Command) → i < length xs → x ≡ get_or xs i x
    → x.ops.now ≡ get_or (map (λ c. c.ops.now) xs) i []
ops-at [] i x l is = absurd (omega arith)
ops-at (y ∷ xs) zero x l is = ap (λ c. c.ops.now) is
ops-at (y ∷ xs) (suc i) x l is = ops-at xs i x (omega arith) is

-- each touch of a command is one of its accesses
pub record IsAccess (keys : List (List ℕ)) (p : ℕ) (ops : List Op) (t : KeyTouch) : Type 0 where
  pub op : Op
  pub key : List ℕ
  pub there : Contains ops op
  pub access : Contains (accesses_of op) (key, t.writes)
  pub is : t ≡ key_touch_of keys p (key, t.writes)

pub IsAccess-from_touch : (keys : List (List ℕ)) (p : ℕ) (ops : List Op) (t : KeyTouch)
    → Contains (touches_in keys p ops) t → IsAccess keys p ops t
IsAccess-from_touch keys p ops t h =
    let f = Contains-from_flat_map (key_touches_by keys p) ops t h in
    let a = Contains-from_map (key_touch_of keys p) (accesses_of f.0) t f.2 in
    let writes : a.0.1 ≡ t.writes = ap (λ (t : KeyTouch). t.writes) a.2 in
    record {
      op = f.0;
      key = a.0.0;
      there = f.1;
      access = subst (λ (w : Bool). Contains (accesses_of f.0) (a.0.0, w)) writes a.1;
      is = subst (λ (w : Bool). t ≡ key_touch_of keys p (a.0.0, w)) writes (sym a.2);
    }

pub Contains-touches_in : (keys : List (List ℕ)) (p : ℕ) (ops : List Op) (op : Op) (k : List ℕ)
    (w : Bool) → Contains ops op → Contains (accesses_of op) (k, w)
    → Contains (touches_in keys p ops) (key_touch_of keys p (k, w))
Contains-touches_in keys p ops op k w in_ops access =
    Contains-flat_map (key_touches_by keys p) ops op (key_touch_of keys p (k, w)) in_ops
    (Contains-map (key_touch_of keys p) (accesses_of op) (k, w) access)

-- touched keys and written ones are those of accesses
pub Contains-touched_keys : (ops : List Op) (op : Op) (k : List ℕ) (w : Bool) → Contains ops op
    → Contains (accesses_of op) (k, w) → Contains (touched_keys ops) k
Contains-touched_keys ops op k w in_ops access =
    Contains-rising_keys (flat_map touched_by ops) k (Contains-flat_map touched_by ops op k in_ops
    (Contains-map (λ (a : List ℕ × Bool). a.0) (accesses_of op) (k, w) access))

pub Contains-written_keys : (ops : List Op) (op : Op) (k : List ℕ) → Contains ops op
    → Contains (accesses_of op) (k, true) → Contains (written_keys ops) k
Contains-written_keys ops op k in_ops access =
    let writes : List ℕ × Bool → Bool = λ a. a.1 in
    Contains-rising_keys (flat_map written_by ops) k (Contains-flat_map written_by ops op k in_ops
    (Contains-map (λ (a : List ℕ × Bool). a.0) (filter writes (accesses_of op)) (k, true)
    (Contains-filter writes (accesses_of op) (k, true) access refl)))

pub Contains-from_touched_keys : (ops : List Op) (k : List ℕ) → Contains (touched_keys ops) k
    → (op : Op) × (w : Bool) × Contains ops op × Contains (accesses_of op) (k, w)
Contains-from_touched_keys ops k h =
    let f = Contains-from_flat_map touched_by ops k
    (Contains-from_rising_keys (flat_map touched_by ops) k h) in
    let a = Contains-from_map (λ (a : List ℕ × Bool). a.0) (accesses_of f.0) k f.2 in (
      f.0,
      a.0.1,
      f.1,
      subst (λ (q : List ℕ). Contains (accesses_of f.0) (q, a.0.1)) a.2 a.1,
    )

pub Contains-from_written_keys : (ops : List Op) (k : List ℕ) → Contains (written_keys ops) k
    → (op : Op) × Contains ops op × Contains (accesses_of op) (k, true)
Contains-from_written_keys ops k h =
    let writes : List ℕ × Bool → Bool = λ a. a.1 in
    let f = Contains-from_flat_map written_by ops k
    (Contains-from_rising_keys (flat_map written_by ops) k h) in
    let a = Contains-from_map (λ (a : List ℕ × Bool). a.0) (filter writes (accesses_of f.0)) k
    f.2 in
    let here = Contains-from_filter writes (accesses_of f.0) a.0 a.1 in
    let w = passes-from_filter writes (accesses_of f.0) a.0 a.1 in (
      f.0,
      f.1,
      subst (λ (q : List ℕ). Contains (accesses_of f.0) (q, true)) a.2
          (subst (λ (b : Bool). Contains (accesses_of f.0) (a.0.0, b)) w here),
    )

module _ (commands : List (List Op)) where
  -- a command with a touch is in the list
  command_in : (p : ℕ) (op : Op) → Contains (get_or commands p []) op
      → Contains commands (get_or commands p [])
  command_in p op h = elim (cases_lt p (length commands)) [
    | inl l ↦ Contains-get_or commands p [] l
    | inr past ↦ absurd (Contains-nil op
        (subst (λ (ops : List Op). Contains ops op) (get_or_past commands p [] past) h))
  ]

  -- the keys of accesses are among the keys of the commands
  pub Contains-keys_in : (p : ℕ) (op : Op) (k : List ℕ) (w : Bool)
      → Contains (get_or commands p []) op
      → Contains (accesses_of op) (k, w) → Contains (keys_in commands) k
  Contains-keys_in p op k w in_ops access =
      Contains-rising_keys (flat_map (flat_map touched_by) commands) k
      (Contains-flat_map (flat_map touched_by) commands (get_or commands p []) k
      (command_in p op in_ops)
      (Contains-flat_map touched_by (get_or commands p []) op k in_ops
      (Contains-map (λ (a : List ℕ × Bool). a.0) (accesses_of op) (k, w) access)))

  pub keys_in-touched : (p : ℕ) (k : List ℕ) → TouchesAt commands p k
      → Contains (keys_in commands) k
  keys_in-touched p k h = let a = Contains-from_touched_keys (get_or commands p []) k h in
      Contains-keys_in p a.0 k a.1 a.2 a.3

  pub AllPairs-keys_in : AllPairs KeyBelow (keys_in commands)
  AllPairs-keys_in = AllPairs-rising_keys (flat_map (flat_map touched_by) commands)

  module _ (touches : List KeyTouch) (are : AreTouches (keys_in commands) commands touches)
      (n : ℕ) (k : List ℕ) (at : slice_get (keys_in commands) n ≡ Some k) where
    key_of : (p : ℕ) (w : Bool) → Contains touches (record { key = n; position = p; writes = w })
        → (op : Op) × Contains (get_or commands p []) op × Contains (accesses_of op) (k, w)
    key_of p w h =
        let a =
        IsAccess-from_touch (keys_in commands) p (get_or commands p []) _ ((are.exact _).0 h) in
        let number : n ≡ number_of (keys_in commands) a.key =
        ap (λ (t : KeyTouch). t.key) a.is in
        let found : Some a.key ≡ Some k =
        sym (slice_get-number_of (keys_in commands) a.key
        (Contains-keys_in p a.op a.key w a.there a.access))
        ∙ ap (slice_get (keys_in commands)) (sym number) ∙ at in
        let same : a.key ≡ k = cc found in (
          a.op,
          a.there,
          subst (λ (q : List ℕ). Contains (accesses_of a.op) (q, w)) same a.access,
        )

    touch_in : (p : ℕ) (w : Bool) (op : Op) → Contains (get_or commands p []) op
        → Contains (accesses_of op) (k, w)
        → Contains touches (record { key = n; position = p; writes = w })
    touch_in p w op in_ops access =
        let number : number_of (keys_in commands) k ≡ n =
        number_of-at_position (keys_in commands) AllPairs-keys_in n k at in
        let made = Contains-touches_in (keys_in commands) p (get_or commands p []) op k w in_ops
        access in
        subst (λ (j : ℕ). Contains touches (record { key = j; position = p; writes = w })) number
        ((are.exact (key_touch_of (keys_in commands) p (k, w))).1 made)

    pub HasWrite-iff_writes_at : (p : ℕ) → HasWrite touches p n ↔ WritesAt commands p k
    HasWrite-iff_writes_at p = (
      λ h. let a = key_of p true h in Contains-written_keys (get_or commands p []) a.0 k a.1 a.2,
      λ h. let a =
          Contains-from_written_keys (get_or commands p []) k h in touch_in p true a.0 a.1 a.2,
    )

    pub HasTouch-iff_touches_at : (p : ℕ) → HasTouch touches p n ↔ TouchesAt commands p k
    HasTouch-iff_touches_at p = (
      λ (w, h). let a = key_of p w h in
          Contains-touched_keys (get_or commands p []) a.0 k w a.1 a.2,
      λ h. let a = Contains-from_touched_keys (get_or commands p []) k h in
          (a.1, touch_in p a.1 a.0 a.2 a.3),
    )

  -- the number of a touched key is that of a key, and its command is in the list
  pub HasTouch-within : (touches : List KeyTouch) → AreTouches (keys_in commands) commands touches
      → (p n : ℕ) → HasTouch touches p n
      → (p < length commands) × ((k : List ℕ) × (slice_get (keys_in commands) n ≡ Some k))
  HasTouch-within touches are p n (w, h) =
      let a =
      IsAccess-from_touch (keys_in commands) p (get_or commands p []) _ ((are.exact _).0 h) in
      let number : n ≡ number_of (keys_in commands) a.key =
      ap (λ (t : KeyTouch). t.key) a.is in (
        elim (cases_lt p (length commands)) [
          | inl l ↦ l
          | inr past ↦ absurd (Contains-nil a.op
              (subst (λ (ops : List Op). Contains ops a.op) (get_or_past commands p [] past)
              a.there))
        ],
        (
          a.key,
          ap (slice_get (keys_in commands)) number
              ∙ slice_get-number_of (keys_in commands) a.key
              (Contains-keys_in p a.op a.key w a.there a.access),
        ),
      )

-- ---- the touches of the first commands

abbrev pub AreTouchesUpTo : List (List ℕ) → List (List Op) → ℕ → List KeyTouch → Type 0
AreTouchesUpTo keys commands n touches = (t : KeyTouch) → Contains touches t
    ↔ ((t.position < n) × Contains (touches_in keys t.position (get_or commands t.position [])) t)

-- the touches of one more command
pub AreTouchesUpTo-step : (keys : List (List ℕ)) (commands : List (List Op)) (n : ℕ) (ops : List Op)
    (old new : List KeyTouch) → ops ≡ get_or commands n [] → new ≡ old ++ touches_in keys n ops
    → AreTouchesUpTo keys commands n old → AreTouchesUpTo keys commands (n + 1) new
AreTouchesUpTo-step keys commands n ops old new its is up t = (
  λ h. elim (Contains-append_cases old (touches_in keys n ops) t
      (subst (λ ts. Contains ts t) is h)) [
        | inl was ↦ let w = (up t).0 was in (omega (arith, w.0), w.1)
        | inr now ↦
            let a = IsAccess-from_touch keys n ops t now in
            let place : n ≡ t.position = sym (ap (λ (t : KeyTouch). t.position) a.is) in (
              omega (arith, place),
              subst (λ p. Contains (touches_in keys p (get_or commands p [])) t) place
                  (subst (λ x. Contains (touches_in keys n x) t) its now),
            )
      ],
  λ h. subst (λ ts. Contains ts t) (sym is) (elim (cases_lt t.position n) [
    | inl past ↦ Contains-append_left old (touches_in keys n ops) t ((up t).1 (past, h.1))
    | inr here ↦
        let place : t.position ≡ n = omega (arith, here, h.0) in
        Contains-append_right old (touches_in keys n ops) t
        (subst (λ x. Contains (touches_in keys n x) t) (sym its)
        (subst (λ p. Contains (touches_in keys p (get_or commands p [])) t) place h.1))
  ]),
)

-- the touches of all commands, sorted and each kept once
pub AreTouches-at_end : (keys : List (List ℕ)) (commands : List (List Op)) (n : ℕ)
    (gathered kept : List KeyTouch) → length commands ≤ n
    → AreTouchesUpTo keys commands n gathered
    → AllPairs TouchBelow kept × ((t : KeyTouch) → Contains kept t ↔ Contains gathered t)
    → AreTouches keys commands kept
AreTouches-at_end keys commands n gathered kept all up is = record {
  exact = λ t. (
    λ h. ((up t).0 ((is.1 t).0 h)).1,
    λ h.
        let a = IsAccess-from_touch keys t.position (get_or commands t.position []) t h in
        let l : t.position < length commands = elim (cases_lt t.position (length commands)) [
          | inl l ↦ l
          | inr past ↦ absurd (Contains-nil a.op (subst (λ (ops : List Op). Contains ops a.op)
              (get_or_past commands t.position [] past) a.there))
        ] in
        (is.1 t).1 ((up t).1 (omega (arith, l, all), h)),
  );
  rising = is.0;
}

-- at the start there is none
pub AreTouchesUpTo-start : (keys : List (List ℕ)) (commands : List (List Op))
    → AreTouchesUpTo keys commands 0 []
AreTouchesUpTo-start keys commands t =
    (λ h. absurd (Contains-nil t h), λ h. absurd (omega (arith, h.0)))
