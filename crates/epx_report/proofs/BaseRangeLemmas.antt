-- The Ids, keys and values of a base are within their limits.
use Rattle.std.proofs.Common.{◌≡◌, ℕ, ◌+◌, ℤ, w64, List, [], ◌∷◌, ◌++◌, Contains, Option, Some}
use Rattle.std.proofs.Common.{None, option_map, Result, inl, inr, sym, ◌∙◌, subst, rules}
use Rattle.std.proofs.Common.{FitsSigned, IfSome, IfOk}
use Rattle.epx_types.proofs.Common.{⊤, AllByRecursion, insert_key, id_cmp, Contents, assign}
use Rattle.epx_types.proofs.Common.{key_cmp, get-assign_cases, Contains-nil}
use Rattle.epx_types.specs.declared.id.Id.{Id}
use Rattle.std.specs.FinMap as contents
use Rattle.serde_json.specs.Data.{Data}
use Rattle.epx_lines.specs.Lines.{lines_of}
use Rattle.epx_lines.specs.Elements.{elements, signed}
use Rattle.epx_lines.specs.OperationList.{key_of}
use Rattle.epx_lines.specs.Meaning.{json_of}
use Rattle.epx_report.specs.declared.from_value.Counts.{Counts}
use Rattle.epx_report.specs.declared.from_value.BaseLine.{BaseLine}
use Rattle.epx_report.specs.declared.from_value.BaseLine.TheVariants.{Header, Done, Reply, Waiting}
use Rattle.epx_report.specs.declared.from_value.BaseLine.TheVariants.{Store}
use Rattle.epx_report.specs.Forms.{id_from, counts_of, header_of, id_line_of, short_line_of}
use Rattle.epx_report.specs.Forms.{form_of_list, form_of, base_line_of}
use Rattle.epx_report.specs.inner.Progress.{Progress, nothing_seen, after, after_with}
use Rattle.epx_report.specs.Bases.{IsBase}
use Rattle.epx_report.specs.between.PutPairs.{put_pairs}
use Rattle.epx_report.specs.inner.BaseReadings.{after_line, or_line_number, reading}
use Rattle.epx_report.specs.ReportReadings.{FitsNumbers}
use Rattle.epx_report.proofs.BaseLemmas.{IsReadBase-from_IsBase}
use Rattle.epx_report.proofs.RisingListLemmas.{Contains-insert_cases}
use Rattle.epx_report.proofs.JsonStringLemmas.{cond-both, IfSome-branch, IfSome-map}
use Rattle.epx_report.proofs.JsonStringLemmas.{IfSome-and_then, IfSome-trivial}
use Rattle.epx_report.proofs.JsonValueLemmas.{FitsData}
use Rattle.epx_report.proofs.LineRangeLemmas.{IsStoreKey, IfSome-signed, IfSome-key_of}
use Rattle.epx_report.proofs.LineRangeLemmas.{IfSome-elements}
use Rattle.epx_report.proofs.LineRangeLemmas.{IfSome-id_of_pair, IfSome-json_of}

-- ---- what a line says

-- an instance that is done, and an entry of the store, are within their limits
abbrev FitsLine : BaseLine → Type 0
FitsLine (Done x) = FitsNumbers x
FitsLine (Reply x) = FitsNumbers x
FitsLine (Store k v) = IsStoreKey k × FitsSigned w64 v
FitsLine _ = ⊤

header_of_fits : (n e o w p c : Data) → IfSome (header_of n e o w p c) FitsLine
unfolding header_of
header_of_fits n e o w p c =
    let counted = IfSome-map (λ _. ⊤) FitsLine Header (counts_of e w c) (IfSome-trivial _)
    (λ counts _. tt) in
    search (rules, IfSome-branch FitsLine, counted)

id_line_of_fits : (n r i a b : Data) → IfSome (id_line_of n r i a b) FitsLine
unfolding id_line_of
id_line_of_fits n r i a b =
    let id = IfSome-id_of_pair (r ∷ i ∷ []) in
    let replied = IfSome-map FitsNumbers FitsLine Reply (id_from r i) id (λ x fits. fits) in
    let waiting = IfSome-map FitsNumbers FitsLine Waiting (id_from r i) id (λ x fits. tt) in
    search (rules, IfSome-branch FitsLine, replied, waiting)

short_line_of_fits : (n a b : Data) → FitsData a → FitsData b
    → IfSome (short_line_of n a b) FitsLine
unfolding short_line_of
short_line_of_fits n a b p q =
    let done = IfSome-map FitsNumbers FitsLine Done (id_from a b) (IfSome-id_of_pair (a ∷ b ∷ []))
    (λ x fits. fits) in
    let stored = IfSome-and_then IsStoreKey FitsLine (λ k. option_map (Store k) (signed b))
    (key_of a) (IfSome-key_of a p)
    (λ k key. IfSome-map (FitsSigned w64) FitsLine (Store k) (signed b) (IfSome-signed b q)
    (λ v fits. (key, fits))) in
    search (rules, IfSome-branch FitsLine, done, stored)

form_of_list_fits : (ds : List Data) → AllByRecursion FitsData ds
    → IfSome (form_of_list ds) FitsLine
form_of_list_fits (n ∷ a ∷ b ∷ []) h = short_line_of_fits n a b h.1.0 h.1.1.0
form_of_list_fits (n ∷ r ∷ i ∷ a ∷ b ∷ []) h = id_line_of_fits n r i a b
form_of_list_fits (n ∷ e ∷ o ∷ w ∷ p ∷ c ∷ []) h = header_of_fits n e o w p c
form_of_list_fits ds h = tt

form_of_fits : (d : Data) → FitsData d → IfSome (form_of d) FitsLine
unfolding form_of
form_of_fits d h =
    IfSome-and_then (AllByRecursion FitsData) FitsLine form_of_list (elements d)
    (IfSome-elements d h) form_of_list_fits

base_line_of_fits : (bytes : List ℕ) → IfSome (base_line_of bytes) FitsLine
unfolding base_line_of
base_line_of_fits bytes =
    let said = IfSome-and_then FitsData FitsLine form_of (json_of bytes)
    (IfSome-json_of bytes) form_of_fits in
    search (rules, IfSome-branch FitsLine, said)

-- ---- what the lines so far say

-- an entry of the store is within its limits
abbrev IsStored : List ℕ × ℤ → Type 0
IsStored p = IsStoreKey p.0 × FitsSigned w64 p.1

-- the instances that are done, and the entries of the store, are within their limits
record FitsState (s : Progress) : Type 0 where
  done : (x : Id) → Contains s.done x → FitsNumbers x
  stored : AllByRecursion IsStored s.stored

nothing_fits : FitsState nothing_seen
nothing_fits = record { done = λ x c. absurd (Contains-nil x c); stored = tt }

stored_push : (ps : List (List ℕ × ℤ)) (p : List ℕ × ℤ) → AllByRecursion IsStored ps → IsStored p
    → AllByRecursion IsStored (ps ++ p ∷ [])
stored_push [] p h k = (k, tt)
stored_push (q ∷ ps) p h k = (h.0, stored_push ps p h.1 k)

done_insert : (s : Progress) (x : Id) → FitsState s → FitsNumbers x → (y : Id)
    → Contains (insert_key id_cmp s.done x) y → FitsNumbers y
done_insert s x h k y c =
    elim (Contains-insert_cases s.done x y c)
    [ inl same ↦ subst FitsNumbers same k | inr before ↦ h.done y before ]

after_with_fits : (c : Option Counts) (s : Progress) (l : BaseLine) → FitsState s → FitsLine l
    → IfSome (after_with c s l) FitsState
after_with_fits None s (Header c) h k = record { done = h.done; stored = h.stored }
after_with_fits (Some c) s (Done x) h k =
    IfSome-branch FitsState _ (Some (record s { done = insert_key id_cmp s.done x })) None
    (record { done = done_insert s x h k; stored = h.stored }) tt
after_with_fits (Some c) s (Reply x) h k =
    IfSome-branch FitsState _
    (Some (record s { done = insert_key id_cmp s.done x; replies = s.replies + 1 })) None
    (record { done = done_insert s x h k; stored = h.stored }) tt
after_with_fits (Some c) s (Waiting x) h k =
    IfSome-branch FitsState _ (Some (record s { waiting = s.waiting ++ x ∷ [] })) None
    (record { done = h.done; stored = h.stored }) tt
after_with_fits (Some c) s (Store key v) h k =
    IfSome-branch FitsState _ (Some (record s { stored = s.stored ++ (key, v) ∷ [] })) None
    (record { done = h.done; stored = stored_push s.stored (key, v) h.stored k }) tt
after_with_fits c s l h k = tt

after_fits : (s : Progress) (l : BaseLine) → FitsState s → FitsLine l → IfSome (after s l) FitsState
unfolding after
after_fits s l h k = after_with_fits s.counts s l h k

or_bad_fits : (n : ℕ) (o : Option Progress) (more : Progress → Result Progress ℕ)
    → IfSome o FitsState → ((s : Progress) → FitsState s → IfOk (more s) FitsState)
    → IfOk (or_line_number n o more) FitsState
or_bad_fits n None more h rest = tt
or_bad_fits n (Some s) more h rest = rest s h

reading_fits : (s : Progress) (n : ℕ) (ls : List (List ℕ)) → FitsState s
    → IfOk (reading s n ls) FitsState
reading_fits s n [] h = search (rules, cond-both (λ (r : Result Progress ℕ). IfOk r FitsState), h)
reading_fits s n (l ∷ ls) h =
    or_bad_fits n (after_line s l) (λ t. reading t (n + 1) ls)
    (IfSome-and_then FitsLine FitsState (after s) (base_line_of l) (base_line_of_fits l)
    (λ said fits. after_fits s said h fits))
    (λ t fits. reading_fits t (n + 1) ls fits)

-- ---- contents

-- each key, and the value that it has, are within their limits
abbrev pub FitsContents : Contents → Type 0
FitsContents c =
    (k : List ℕ) (v : ℤ) → contents.get c k ≡ Some v → IsStoreKey k × FitsSigned w64 v

pub FitsContents-empty : FitsContents contents.empty
FitsContents-empty k v e = let none = contents.get-empty {X = ℤ} key_cmp k in absurd (cc (none, e))

pub FitsContents-assign : (c : Contents) (k : List ℕ) (o : Option ℤ) → FitsContents c
    → ((v : ℤ) → o ≡ Some v → IsStoreKey k × FitsSigned w64 v) → FitsContents (assign c k o)
FitsContents-assign c k o h put q v e =
    elim (get-assign_cases c k o q) [
      | inl here ↦ subst (λ (q : List ℕ). IsStoreKey q × FitsSigned w64 v) (sym here.0)
          (put v (sym here.1 ∙ e))
      | inr other ↦ h q v (sym other.1 ∙ e)
    ]

pub FitsContents-insert : (c : Contents) (k : List ℕ) (v : ℤ) → FitsContents c → IsStoreKey k
    → FitsSigned w64 v → FitsContents (contents.insert c k v)
FitsContents-insert c k v h key fits =
    FitsContents-assign c k (Some v) h
    (λ w e. let same : v ≡ w = cc e in (key, subst (FitsSigned w64) same fits))

put_pairs_fit : (ps : List (List ℕ × ℤ)) (c : Contents) → AllByRecursion IsStored ps
    → FitsContents c → FitsContents (put_pairs ps c)
put_pairs_fit [] c h k = k
put_pairs_fit (p ∷ ps) c h k =
    put_pairs_fit ps (contents.insert c p.0 p.1) h.1 (FitsContents-insert c p.0 p.1 k h.0.0 h.0.1)

-- ---- a base

-- the instances that are done, and the store, are within their limits
pub record FitsBase (ids : List Id) (c : Contents) : Type 0 where
  pub done : (x : Id) → Contains ids x → FitsNumbers x
  pub stored : FitsContents c

-- the instances and the store of a base are within their limits
pub FitsBase-from_IsBase : (bytes : List ℕ) (done : List Id) (stored : Contents)
    → IsBase bytes done stored
    → FitsBase done stored
FitsBase-from_IsBase bytes done stored is =
    let h = IsReadBase-from_IsBase bytes done stored is in
    let seen : FitsState h.seen =
    subst (λ (r : Result Progress ℕ). IfOk r FitsState) h.read
    (reading_fits nothing_seen 1 (lines_of bytes) nothing_fits) in
    let all = put_pairs_fit h.seen.stored contents.empty seen.stored FitsContents-empty in
    record {
      done = λ x c. seen.done x (subst (λ (ids : List Id). Contains ids x) h.done_is c);
      stored = subst FitsContents (sym h.stored_is) all;
    }
