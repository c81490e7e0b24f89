-- The Ids, keys and values of the instance on a log line are within their limits.
use Rattle.std.proofs.Common.{◌≡◌, ℕ, suc, ◌^◌, ◌<◌, ◌≤◌, ◌&&◌, nat_lt, nat_le, w64, List, [], ◌∷◌}
use Rattle.std.proofs.Common.{length, filter, codes, Contains, Option, Some, None, IsUtf8}
use Rattle.std.proofs.Common.{option_map, option_and_then, Result, Ok, Err, inl, inr, refl, ap}
use Rattle.std.proofs.Common.{arith, rules, ltb-true, leb-true, FitsSigned, IfSome, is_some}
use Rattle.epx_types.proofs.Common.{⊤, AllByRecursion, nat_cmp, is_utf8, and_parts, All-contains}
use Rattle.epx_types.proofs.Common.{All-from_recursion, IfSome_then, FitsKey, Instance}
use Rattle.epx_types.proofs.Common.{Contains-nil, Contains-from_filter}
use Rattle.epx_types.specs.declared.id.Id.{Id}
use Rattle.epx_types.specs.declared.op.Op.{Op}
use Rattle.epx_types.specs.declared.fault.Why.{Why}
use Rattle.epx_types.specs.declared.fault.Why.TheVariants.{NotJson, NotObject}
use Rattle.std.specs.Cmp.Lexicographic.{slice_cmp}
use Rattle.std.proofs.lemmas.Str.{IsUtf8-from_is_utf8}
use Rattle.serde_json.specs.Data.{Data, number, string, array, object, Items, no_items, item}
use Rattle.serde_json.specs.Data.{Members, no_members, member}
use Rattle.serde_json.specs.Find.{get, get_member, as_str, as_number, as_u64, as_i64, as_object}
use Rattle.epx_types.specs.declared.op.Op.TheVariants as op
use Rattle.epx_lines.specs.declared.Line.{Line}
use Rattle.epx_lines.specs.declared.Line.TheVariants.{Entry}
use Rattle.epx_lines.specs.Elements.{if_below, whole, signed, list_of, elements, at_most, every}
use Rattle.epx_lines.specs.Elements.{each_of_at_most}
use Rattle.epx_lines.specs.DependencyList.{id_of_pair, id_of, is_other, rising_others, deps_of}
use Rattle.epx_lines.specs.OperationList.{key_from, key_of, op_with_key, op_with_value}
use Rattle.epx_lines.specs.OperationList.{value_or_null, op_of_list, op_of, ops_of}
use Rattle.epx_lines.specs.Meaning.{json_of, at_member, is_committed, need, meaning_of_object}
use Rattle.epx_lines.specs.Meaning.{meaning_of_value, meaning_of}
use Rattle.epx_report.specs.ReportReadings.{FitsNumbers}
use Rattle.epx_report.proofs.IdSetLemmas.{Contains-with_cases}
use Rattle.epx_report.proofs.JsonStringLemmas.{cond-both, match_ordering-cases, IfSome-test}
use Rattle.epx_report.proofs.JsonStringLemmas.{IfSome-branch}
use Rattle.epx_report.proofs.JsonStringLemmas.{IfSome-map, IfSome-and_then, IfSome-trivial}
use Rattle.epx_report.proofs.JsonValueLemmas.{FitsNum, FitsData, FitItems, FitMembers, IfSome-read}

-- ---- the limits of an instance

-- a key of 1 to 64 bytes that is UTF-8
abbrev pub IsStoreKey : List ℕ → Type 0
IsStoreKey k = FitsKey k × IsUtf8 k

-- the key that an operation writes, and the value that it puts, are within their limits;
-- nothing is claimed about an operation that writes no key
abbrev pub FitsOp : Op → Type 0
FitsOp (op.Put k v) = IsStoreKey k × FitsSigned w64 v
FitsOp (op.Add k n) = IsStoreKey k
FitsOp (op.Copy k j) = IsStoreKey j
FitsOp _ = ⊤

-- each operation fits, and there are at most 64
pub record FitsCommand (ops : List Op) : Type 0 where
  pub each : AllByRecursion FitsOp ops
  pub few : length ops ≤ 64

-- the Ids and the command of an instance fit
pub record FitsInstance (e : Instance) : Type 0 where
  pub id : FitsNumbers e.id
  pub deps : (x : Id) → Contains e.deps x → FitsNumbers x
  pub command : FitsCommand e.ops

-- what holds for all elements holds for each
pub AllByRecursion-contains : {A : Type 0} (P : A → Type 0) (xs : List A) (x : A)
    → AllByRecursion P xs
    → Contains xs x → P x
AllByRecursion-contains P xs x h c = All-contains P xs x (All-from_recursion P xs h) c

-- ---- the parts of a JSON value

pub IfSome-json_of : (bytes : List ℕ) → IfSome (json_of bytes) FitsData
IfSome-json_of bytes =
    IfSome-test FitsData (is_utf8 bytes) _ _
    (λ u. IfSome-read bytes (IsUtf8-from_is_utf8 bytes u)) (λ _. tt)

get_member_fits : (k : List ℕ) (ms : Members) → FitMembers ms → IfSome (get_member k ms) FitsData
get_member_fits k no_members h = tt
get_member_fits k (member l d ms) h =
    let later = get_member_fits k ms h.1 in
    match_ordering-cases (λ (o : Option Data). IfSome o FitsData)
    (slice_cmp nat_cmp k l) _ _ _ later h.0 later

get_fits : (k : List ℕ) (d : Data) → FitsData d → IfSome (get k d) FitsData
get_fits k (object ms) h = get_member_fits k ms h
get_fits k d h = tt

at_member_fits : {A : Type 0} (P : A → Type 0) (name : List ℕ) (f : Data → Option A) (d : Data)
    → FitsData d → ((x : Data) → FitsData x → IfSome (f x) P) → IfSome (at_member name f d) P
at_member_fits P name f d h fits =
    IfSome-and_then FitsData P f (get name d) (get_fits name d h) fits

as_str_fits : (d : Data) → FitsData d → IfSome (as_str d) IsUtf8
as_str_fits (string s) h = h
as_str_fits d h = tt

as_number_fits : (d : Data) → FitsData d → IfSome (as_number d) FitsNum
as_number_fits (number n) h = h
as_number_fits d h = tt

pub IfSome-signed : (d : Data) → FitsData d → IfSome (signed d) (FitsSigned w64)
IfSome-signed d h =
    IfSome-and_then FitsNum (FitsSigned w64) as_i64 (as_number d) (as_number_fits d h)
    (λ n fits. fits)

whole_below : (bound : ℕ) (d : Data) → IfSome (whole bound d) (λ n. n < bound)
unfolding whole
whole_below bound d =
    IfSome-and_then (λ _. ⊤) (λ n. n < bound) (if_below bound)
    (option_and_then as_u64 (as_number d))
    (IfSome-trivial _)
    (λ n _. IfSome-test (λ m. m < bound) (nat_lt n bound) _ _ (λ e. ltb-true _ _ e) (λ _. tt))

pub IfSome-key_of : (d : Data) → FitsData d → IfSome (key_of d) IsStoreKey
unfolding key_of
IfSome-key_of d h =
    IfSome-and_then IsUtf8 IsStoreKey key_from (as_str d) (as_str_fits d h)
    (λ s u. IfSome-test IsStoreKey (nat_lt 0 (length s) && nat_le (length s) 64) _ _
    (λ e. let p = and_parts _ _ e in ((ltb-true _ _ p.0, leb-true _ _ p.1), u))
    (λ _. tt))

list_of_fits : (ds : Items) → FitItems ds → AllByRecursion FitsData (list_of ds)
list_of_fits no_items h = tt
list_of_fits (item d ds) h = (h.0, list_of_fits ds h.1)

pub IfSome-elements : (d : Data) → FitsData d → IfSome (elements d) (AllByRecursion FitsData)
IfSome-elements (array ds) h = list_of_fits ds h
IfSome-elements d h = tt

-- each element satisfies P, and there are at most n
abbrev AtMost : {A : Type 0} → (A → Type 0) → ℕ → List A → Type 0
AtMost P n xs = AllByRecursion P xs × (length xs ≤ n)

-- each element satisfies P, and there are exactly n
abbrev Exactly : {A : Type 0} → (A → Type 0) → ℕ → List A → Type 0
Exactly P n xs = AllByRecursion P xs × (length xs ≡ n)

module _ {B : Type 0} (P : B → Type 0) (f : Data → Option B)
    (fits : (d : Data) → FitsData d → IfSome (f d) P) where
  every_fits : (xs : List Data) → AllByRecursion FitsData xs
      → IfSome (every f xs) (Exactly P (length xs))
  every_fits [] h = (tt, refl)
  every_fits (x ∷ xs) h =
      IfSome-and_then P (Exactly P (suc (length xs)))
      (λ y. option_map (λ ys. y ∷ ys) (every f xs)) (f x) (fits x h.0)
      (λ y first. IfSome-map (Exactly P (length xs)) (Exactly P (suc (length xs))) (λ ys. y ∷ ys)
      (every f xs) (every_fits xs h.1)
      (λ ys rest. ((first, rest.0), ap suc rest.1)))

  each_of_at_most_fits : (n : ℕ) (d : Data) → FitsData d
      → IfSome (each_of_at_most n f d) (AtMost P n)
  each_of_at_most_fits n d h =
      IfSome-and_then (AtMost FitsData n) (AtMost P n) (every f)
      (option_and_then (at_most n) (elements d))
      (IfSome-and_then (AllByRecursion FitsData) (AtMost FitsData n) (at_most n) (elements d)
      (IfSome-elements d h)
      (λ xs all. IfSome-test (AtMost FitsData n) (nat_le (length xs) n) _ _
      (λ e. (all, leb-true _ _ e))
      (λ _. tt)))
      (λ xs q. IfSome_then (every f xs) (every_fits xs q.0)
      (λ ys made. let same = made.1 in let few = q.1 in (made.0, omega arith)))

-- ---- dependencies

pub IfSome-id_of_pair : (ds : List Data) → IfSome (id_of_pair ds) FitsNumbers
IfSome-id_of_pair (r ∷ i ∷ []) =
    IfSome-and_then (λ n. n < 256) FitsNumbers _ (whole 256 r) (whole_below 256 r)
    (λ replica small.
    IfSome-map (λ n. n < 2 ^ 64) FitsNumbers
    (λ number. record { replica = replica; number = number }) (whole (2 ^ 64) i)
    (whole_below (2 ^ 64) i) (λ number large. (small, large)))
IfSome-id_of_pair ds = tt

id_of_fits : (d : Data) → FitsData d → IfSome (id_of d) FitsNumbers
unfolding id_of
id_of_fits d h =
    IfSome-and_then (AllByRecursion FitsData) FitsNumbers id_of_pair (elements d)
    (IfSome-elements d h) (λ ds _. IfSome-id_of_pair ds)

-- each Id fits
abbrev FitIds : List Id → Type 0
FitIds ids = (x : Id) → Contains ids x → FitsNumbers x

rising_others_fit : (self : Id) (ids : List Id) → AllByRecursion FitsNumbers ids
    → FitIds (rising_others self ids)
rising_others_fit self ids h x c =
    elim (Contains-with_cases [] (filter (is_other self) ids) x c) [
      | inl none ↦ absurd (Contains-nil x none)
      | inr among ↦ AllByRecursion-contains FitsNumbers ids x h
          (Contains-from_filter (is_other self) ids x among)
    ]

deps_of_fits : (self : Id) (d : Data) → FitsData d → IfSome (deps_of self d) FitIds
unfolding deps_of
deps_of_fits self d h =
    IfSome-map (AtMost FitsNumbers 256) FitIds (rising_others self) (each_of_at_most 256 id_of d)
    (each_of_at_most_fits FitsNumbers id_of id_of_fits 256 d h)
    (λ ids fit. rising_others_fit self ids fit.0)

-- ---- operations

op_with_key_fits : (name k : List ℕ) → IfSome (op_with_key name k) FitsOp
unfolding op_with_key
op_with_key_fits name k = search (rules, IfSome-branch FitsOp)

op_with_value_fits : (name k : List ℕ) (d : Data) → IsStoreKey k → FitsData d
    → IfSome (op_with_value name k d) FitsOp
unfolding op_with_value
op_with_value_fits name k d key h =
    let value = IfSome-signed d h in
    let put = IfSome-map (FitsSigned w64) FitsOp (op.Put k) (signed d) value
    (λ v fits. (key, fits)) in
    let added = IfSome-map (FitsSigned w64) FitsOp (op.Add k) (signed d) value (λ v fits. key) in
    let compared = IfSome-map (λ _. ⊤) FitsOp (op.Is k) (value_or_null d) (IfSome-trivial _)
    (λ v _. tt) in
    let floored = IfSome-map (FitsSigned w64) FitsOp (op.Floor k) (signed d) value
    (λ v fits. tt) in
    let copied = IfSome-map IsStoreKey FitsOp (op.Copy k) (key_of d) (IfSome-key_of d h)
    (λ j fits. fits) in
    search (rules, IfSome-branch FitsOp, put, added, compared, floored, copied)

op_of_list_fits : (ds : List Data) → AllByRecursion FitsData ds → IfSome (op_of_list ds) FitsOp
op_of_list_fits (n ∷ k ∷ []) h =
    IfSome-and_then (λ _. ⊤) FitsOp _ (as_str n) (IfSome-trivial _) (λ name _.
    IfSome-and_then (λ _. ⊤) FitsOp (op_with_key name) (key_of k) (IfSome-trivial _)
    (λ key _. op_with_key_fits name key))
op_of_list_fits (n ∷ k ∷ d ∷ []) h =
    IfSome-and_then (λ _. ⊤) FitsOp _ (as_str n) (IfSome-trivial _) (λ name _.
    IfSome-and_then IsStoreKey FitsOp (λ key. op_with_value name key d) (key_of k)
    (IfSome-key_of k h.1.0)
    (λ key fits. op_with_value_fits name key d fits h.1.1.0))
op_of_list_fits ds h = tt

op_of_fits : (d : Data) → FitsData d → IfSome (op_of d) FitsOp
unfolding op_of
op_of_fits d h =
    IfSome-and_then (AllByRecursion FitsData) FitsOp op_of_list (elements d)
    (IfSome-elements d h) op_of_list_fits

ops_of_fits : (d : Data) → FitsData d → IfSome (ops_of d) FitsCommand
unfolding ops_of
ops_of_fits d h =
    IfSome_then _ {P = AtMost FitsOp 64} {Q = FitsCommand}
    (each_of_at_most_fits FitsOp op_of op_of_fits 64 d h)
    (λ ops fit. record { each = fit.0; few = fit.1 })

-- ---- lines

-- the instance on a line, if there is one, fits
abbrev pub IfEntry : Result Line Why → Type 0
IfEntry (Ok (Entry e)) = FitsInstance e
IfEntry _ = ⊤

need_fits : {A : Type 0} (P : A → Type 0) (why : Why) (o : Option A) (next : A → Result Line Why)
    → IfSome o P → ((a : A) → P a → IfEntry (next a)) → IfEntry (need why o next)
need_fits P why None next h rest = tt
need_fits P why (Some a) next h rest = rest a h

object_line_fits : (d : Data) → FitsData d → IfEntry (meaning_of_object d)
unfolding meaning_of_object
object_line_fits d h =
    need_fits (λ n. n < 256) _ _ _
    (at_member_fits (λ n. n < 256) (codes "r") (whole 256) d h (λ x _. whole_below 256 x))
    (λ r small. need_fits (λ n. n < 2 ^ 64) _ _ _
    (at_member_fits (λ n. n < 2 ^ 64) (codes "i") (whole (2 ^ 64)) d h
    (λ x _. whole_below (2 ^ 64) x))
    (λ i large. need_fits (λ _. ⊤) _ (at_member (codes "seq") (whole (2 ^ 64)) d) _
    (IfSome-trivial _)
    (λ seq _. need_fits (λ _. ⊤) _ (is_committed (get (codes "status") d)) _ (IfSome-trivial _)
    (λ committed _. cond-both IfEntry committed _ _
    (need_fits FitIds _ _ _
    (at_member_fits FitIds (codes "deps") (deps_of _) d h (deps_of_fits _))
    (λ deps fit. need_fits FitsCommand _ _ _
    (at_member_fits FitsCommand (codes "ops") ops_of d h ops_of_fits)
    (λ ops command. record { id = (small, large); deps = fit; command = command })))
    tt))))

-- the instance on a line fits
pub IfEntry-meaning_of : (bytes : List ℕ) → IfEntry (meaning_of bytes)
IfEntry-meaning_of bytes =
    let said = need_fits FitsData NotJson (json_of bytes) meaning_of_value (IfSome-json_of bytes)
    (λ d h. cond-both IfEntry (is_some (as_object d)) (meaning_of_object d) (Err NotObject)
    (object_line_fits d h) tt) in
    search (rules, cond-both IfEntry, said)
