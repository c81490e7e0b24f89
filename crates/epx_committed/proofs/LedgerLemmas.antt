-- One more line in a ledger.
use Rattle.std.proofs.Common.{◌≡◌, ◌≢◌, ◌⊎◌, inl, inr, List, [], ◌∷◌, ◌++◌, map, Contains, refl}
use Rattle.std.proofs.Common.{sym, ap, subst, ◌∙◌, append_assoc, append-nil}
use Rattle.epx_types.proofs.Common.{Contains-append_left, Contains-push, Contains-push_cases}
use Rattle.epx_types.proofs.Common.{Placed, Differ, Contains-map, Contains-from_map}
use Rattle.epx_types.specs.declared.id.Id.{Id}
use Rattle.epx_committed.specs.declared.ledger.Disagreement.{Disagreement}
use Rattle.epx_committed.specs.between.Ledgers.{LedgerView, IsFirstWhere, IsLineOf}
use Rattle.epx_committed.specs.between.Ledgers.{IsDisagreementOf}
use Rattle.epx_committed.specs.between.Ledgers.{IsLedgerOf, NotesLines}
use Rattle.epx_committed.proofs.FirstWhereLemmas.{IsFirstWhere-holds, IsFirstWhere-unique}
use Rattle.epx_committed.proofs.FirstWhereLemmas.{IsFirstWhere-append, IsFirstWhere-push}

-- ---- entries with keys

module _ {V : Type 0} where
  abbrev pub keys : List (Id × V) → List Id
  keys es = map (λ e. e.0) es

  pub Contains-keys : (es : List (Id × V)) (x : Id) (v : V) → Contains es (x, v)
      → Contains (keys es) x
  Contains-keys es x v h = Contains-map (λ (e : Id × V). e.0) es (x, v) h

  key_kept : (es : List (Id × V)) (e : Id × V) (x : Id) → Contains (keys es) x
      → Contains (keys (es ++ e ∷ [])) x
  key_kept es e x h =
      let at = Contains-from_map (λ (d : Id × V). d.0) es x h in
      subst (Contains (keys (es ++ e ∷ []))) at.2
      (Contains-map (λ (d : Id × V). d.0) (es ++ e ∷ []) at.0
      (Contains-append_left es (e ∷ []) at.0 at.1))

  key_added : (es : List (Id × V)) (x : Id) (v : V) → Contains (keys (es ++ (x, v) ∷ [])) x
  key_added es x v = Contains-map (λ (d : Id × V). d.0) (es ++ (x, v) ∷ []) (x, v)
      (Contains-push es (x, v))

-- ---- no more lines, and more lines in two steps

pub NotesLines-nil : (noted : LedgerView) → NotesLines [] noted noted
NotesLines-nil noted done h = let P : List Placed → Type 0 = λ lines. IsLedgerOf lines noted in
    subst P (sym (append-nil done)) h

pub NotesLines-append : (lines more : List Placed) (a b c : LedgerView) → NotesLines lines a b
    → NotesLines more b c → NotesLines (lines ++ more) a c
NotesLines-append lines more a b c first second done h =
    let P : List Placed → Type 0 = λ l. IsLedgerOf l c in
    subst P (append_assoc done lines more) (second (done ++ lines) (first done h))

-- ---- one more line

module _ (done : List Placed) (p : Placed) where
  -- a disagreement stays the same
  IsDisagreementOf-push : (x : Id) (disagreement : Disagreement)
      → IsDisagreementOf done x disagreement → IsDisagreementOf (done ++ p ∷ []) x disagreement
  IsDisagreementOf-push x disagreement h = record {
    first = h.first;
    second = h.second;
    opens = IsFirstWhere-append (IsLineOf x) done (p ∷ []) h.first h.opens;
    differs = IsFirstWhere-append (Differ h.first) done (p ∷ []) h.second h.differs;
    first_place = h.first_place;
    second_place = h.second_place;
  }

-- the first line of an instance
pub NotesLines-new : (noted : LedgerView) (p : Placed)
    → ¬ Contains (keys noted.firsts) p.instance.id
    → NotesLines (p ∷ []) noted
    (record {
      firsts = noted.firsts ++ (p.instance.id, p) ∷ [];
      disagreements = noted.disagreements;
    })
NotesLines-new noted p none done h = record {
  firsts = λ x q has. elim (Contains-push_cases noted.firsts (p.instance.id, p) (x, q) has) [
    | inl old ↦ IsFirstWhere-append (IsLineOf x) done (p ∷ []) q (h.firsts x q old)
    | inr new ↦ here x q new
  ];
  whole = λ q has. elim (Contains-push_cases done p q has) [
    | inl old ↦ key_kept noted.firsts (p.instance.id, p) q.instance.id (h.whole q old)
    | inr new ↦ subst (λ (r : Placed). Contains (keys (noted.firsts ++ (p.instance.id, p) ∷ []))
        r.instance.id) new (key_added noted.firsts p.instance.id p)
  ];
  disagreements = λ x disagreement has. IsDisagreementOf-push done p x disagreement
      (h.disagreements x disagreement has);
  alike = λ x q has apart r in_r named.
      elim (Contains-push_cases noted.firsts (p.instance.id, p) (x, q) has) [
        | inl old ↦ elim (Contains-push_cases done p r in_r) [
          | inl before ↦ h.alike x q old apart r before named
          | inr last ↦ absurd
              (none (subst (Contains (keys noted.firsts))
              (sym named ∙ ap (λ (s : Placed). s.instance.id) (sym last))
              (Contains-keys noted.firsts x q old)))
        ]
        | inr new ↦ elim (Contains-push_cases done p r in_r) [
          | inl before ↦ absurd (fresh r before (named ∙ sym (ap (λ (e : Id × Placed). e.0) new)))
          | inr last ↦ ap (λ (e : Id × Placed). e.1.instance) (sym new)
              ∙ ap (λ (s : Placed). s.instance) last
        ]
      ];
}
  where
    fresh : (q : Placed) → Contains done q → ¬ IsLineOf p.instance.id q
    fresh q has same = none (subst (Contains (keys noted.firsts)) same (h.whole q has))

    here : (x : Id) (q : Placed) → ◌≡◌ {A = Id × Placed} (p.instance.id, p) (x, q)
        → IsFirstWhere (IsLineOf x) (done ++ p ∷ []) q
    here x q e =
        let P : Id × Placed → Type 0 = λ f. IsFirstWhere (IsLineOf f.0) (done ++ p ∷ []) f.1 in
        subst P e (IsFirstWhere-push (IsLineOf p.instance.id) done p fresh refl)

-- a line of a known instance that equals its first line, or whose instance has a disagreement
-- already
pub NotesLines-known : (noted : LedgerView) (p f : Placed)
    → Contains noted.firsts (p.instance.id, f) → (f.instance ≡ p.instance)
    ⊎ Contains (keys noted.disagreements) p.instance.id → NotesLines (p ∷ []) noted noted
NotesLines-known noted p f known reason done h = record {
  firsts = λ x q has. IsFirstWhere-append (IsLineOf x) done (p ∷ []) q (h.firsts x q has);
  whole = λ q has. elim (Contains-push_cases done p q has) [
    | inl old ↦ h.whole q old
    | inr new ↦ subst (λ (r : Placed). Contains (keys noted.firsts) r.instance.id) new
        (Contains-keys noted.firsts p.instance.id f known)
  ];
  disagreements = λ x disagreement has. IsDisagreementOf-push done p x disagreement
      (h.disagreements x disagreement has);
  alike = λ x q has apart r in_r named. elim (Contains-push_cases done p r in_r) [
    | inl before ↦ h.alike x q has apart r before named
    | inr last ↦ elim reason [
      | inl same ↦
          let id : p.instance.id ≡ x = ap (λ (s : Placed). s.instance.id) last ∙ named in
          let first : q ≡ f = IsFirstWhere-unique (IsLineOf x) done q f (h.firsts x q has)
          (let P : Id → Type 0 = λ y. IsFirstWhere (IsLineOf y) done f in
          subst P id (h.firsts p.instance.id f known)) in
          ap (λ (s : Placed). s.instance) first ∙ same ∙ ap (λ (s : Placed). s.instance) last
      | inr disagreement ↦ absurd
          (apart (subst (Contains (keys noted.disagreements))
          (ap (λ (s : Placed). s.instance.id) last ∙ named) disagreement))
    ]
  ];
}

-- the first line of an instance that differs from its first line
pub NotesLines-disagreement : (noted : LedgerView) (p f : Placed) (disagreement : Disagreement)
    → Contains noted.firsts (p.instance.id, f) → f.instance ≢ p.instance
    → ¬ Contains (keys noted.disagreements) p.instance.id
    → f.place ≡ disagreement.first → p.place ≡ disagreement.second
    → NotesLines (p ∷ []) noted
    (record {
      firsts = noted.firsts;
      disagreements =
          noted.disagreements ++ (p.instance.id, disagreement) ∷ [];
    })
NotesLines-disagreement noted p f disagreement known differ none first_place second_place done h =
    record {
      firsts = λ x q has. IsFirstWhere-append (IsLineOf x) done (p ∷ []) q (h.firsts x q has);
      whole = λ q has. elim (Contains-push_cases done p q has) [
        | inl old ↦ h.whole q old
        | inr new ↦ subst (λ (r : Placed). Contains (keys noted.firsts) r.instance.id) new
            (Contains-keys noted.firsts p.instance.id f known)
      ];
      disagreements = λ x other has.
          elim (Contains-push_cases noted.disagreements (p.instance.id, disagreement) (x, other)
          has) [
            | inl old ↦ IsDisagreementOf-push done p x other (h.disagreements x other old)
            | inr new ↦ (let P : Id × Disagreement → Type 0 =
                λ e. IsDisagreementOf (done ++ p ∷ []) e.0 e.1 in subst P new here)
          ];
      alike = λ x q has apart r in_r named. elim (Contains-push_cases done p r in_r) [
        | inl before ↦ h.alike x q
            has (λ among. apart
            (key_kept noted.disagreements (p.instance.id, disagreement) x among)) r
            before named
        | inr last ↦ absurd
            (apart (subst
            (Contains (keys (noted.disagreements ++ (p.instance.id, disagreement) ∷ [])))
            (ap (λ (s : Placed). s.instance.id) last ∙ named)
            (key_added noted.disagreements p.instance.id disagreement)))
      ];
    }
  where
    opening : IsFirstWhere (IsLineOf p.instance.id) done f
    opening = h.firsts p.instance.id f known

    same_id : f.instance.id ≡ p.instance.id
    same_id = IsFirstWhere-holds (IsLineOf p.instance.id) done f opening

    here : IsDisagreementOf (done ++ p ∷ []) p.instance.id disagreement
    here = record {
      first = f;
      second = p;
      opens = IsFirstWhere-append (IsLineOf p.instance.id) done (p ∷ []) f opening;
      differs = IsFirstWhere-push (Differ f) done p
          (λ q has other. other.1
          (h.alike p.instance.id f known none q has (sym other.0 ∙ same_id))) (same_id, differ);
      first_place = first_place;
      second_place = second_place;
    }
