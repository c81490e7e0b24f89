-- A list is replayed to exactly one text, and what a replica said has exactly one verdict. It is
-- that of a lawful list alone exactly where all is right.
use Rattle.std.proofs.Common.{◌≡◌, ◌⊎◌, ◌∙◌, ◌++◌, ◌∷◌, ℕ, List, [], refl, sym, ap}
use Rattle.std.proofs.Common.{inl, inr, append-nil, arith, length, subst}
use Rattle.epx_types.proofs.Common.{Contents, Instance, IsLawfulPrefix, IsRising, ids_of}
use Rattle.epx_types.proofs.Common.{length-append}
use Rattle.epx_types.specs.declared.id.Id.{Id}
use Rattle.epx_types.specs.declared.reply.Reply.{Reply}
use Rattle.epx_merge.proofs.UniquenessLemmas.{IsAccepted-is_unique}
use Rattle.epx_ranking.proofs.PrefixLemmas.{IsPrefixFault-not_lawful}
use Rattle.epx_report.specs.ReportReadings.{replied_ids}
use Rattle.epx_report.specs.ViewLines.{lawful_line}
use Rattle.epx_answer_laws.specs.CheckLaws.{LawfulTextMeansRight}
use Rattle.epx_tool.specs.CheckAnswers.{IsVerifyText}
use Rattle.epx_tool.specs.Verdicts.{IsSaidVerdict}
use Rattle.epx_tool.proofs.VerdictLemmas.{lawful_prefix-from_verdict, IsPrefixVerdict-exists}
use Rattle.epx_tool.proofs.VerdictLemmas.{IsPrefixVerdict-is_unique}
use Rattle.epx_verify.specs.Differences.{differences_text}
use Rattle.epx_verify.specs.ListExecutions.{replay_text}
use Rattle.epx_verify.specs.SaidTexts.{IsBadSaid, IsSaid}
use Rattle.epx_verify.specs.VerifyLaws.{NoDifferenceIfRight, SaidIsNoBadSaid, SaidOrBadSaid}
use Rattle.epx_verify.specs.VerifyLaws.{TextSaysOneThing}

-- ---- replays

abbrev pub IsReplayOf : List Instance → List Id → List ℕ → Type 0
IsReplayOf m ids text = text ≡ replay_text m ids

pub IsReplayOf-exists : (m : List Instance) (ids : List Id) → IsRising (ids_of m)
    → (text : List ℕ) × IsReplayOf m ids text
IsReplayOf-exists m ids rising = (replay_text m ids, refl)

pub IsReplayOf-is_unique : (m : List Instance) (ids : List Id) (text other : List ℕ)
    → IsReplayOf m ids text → IsReplayOf m ids other → text ≡ other
IsReplayOf-is_unique m ids text other p q = p ∙ sym q

-- ---- verdicts on what a replica said

module _ (m : List Instance) (replies : List (Id × Reply)) (stored : Contents) where
  abbrev ids : List Id
  ids = replied_ids replies

  said_verdict_exists : IsRising (ids_of m) → (text : List ℕ) × IsSaidVerdict m replies stored text
  said_verdict_exists rising =
      let v = IsPrefixVerdict-exists m ids rising in elim v.1 [
        | inl good ↦ (lawful_line ++ differences_text m replies stored, inl (good.0, refl))
        | inr bad ↦ (v.0, inr bad)
      ]

  said_verdict_is_unique : (text other : List ℕ) → IsSaidVerdict m replies stored text
      → IsSaidVerdict m replies stored other → text ≡ other
  said_verdict_is_unique text other (inl p) (inl q) = p.1 ∙ sym q.1
  said_verdict_is_unique text other (inl p) (inr q) =
      absurd (IsPrefixFault-not_lawful m ids q.0 q.1 p.0 q.2)
  said_verdict_is_unique text other (inr p) (inl q) =
      absurd (IsPrefixFault-not_lawful m ids p.0 p.1 q.0 p.2)
  said_verdict_is_unique text other (inr p) (inr q) =
      IsPrefixVerdict-is_unique m ids text other (inr p) (inr q)

pub IsBadSaid-not_if_verified : SaidIsNoBadSaid
    → (said : List ℕ) (m : List Instance) (text : List ℕ) (line : ℕ)
    → IsVerifyText said m text → ¬ IsBadSaid said line
IsBadSaid-not_if_verified good said m text line p = good said p.0 p.1 line p.2

pub IsVerifyText-or_bad_said : SaidOrBadSaid → (said : List ℕ)
    → ((m : List Instance) → IsRising (ids_of m) → (text : List ℕ) × IsVerifyText said m text)
    ⊎ ((line : ℕ) × IsBadSaid said line)
IsVerifyText-or_bad_said read said = elim (read said) [
  | inl is ↦ inl (λ m rising. let v = said_verdict_exists m is.0 is.1 rising in
      (v.0, (is.0, is.1, is.2, v.1)))
  | inr bad ↦ inr bad
]

module _ (one : TextSaysOneThing) (said : List ℕ) where
  -- the verdict is on what the text says
  verdict_on : (m : List Instance) (replies : List (Id × Reply)) (stored : Contents)
      → IsSaid said replies stored → (text : List ℕ) → IsVerifyText said m text
      → IsSaidVerdict m replies stored text
  verdict_on m replies stored is text p =
      let same = one said p.0 replies p.1 stored p.2 is in
      let Q : List (Id × Reply) → Contents → Type 0 = λ rs s. IsSaidVerdict m rs s text in
      subst (λ (s : Contents). Q replies s) same.1
      (subst (λ (rs : List (Id × Reply)). Q rs p.1) same.0 p.3)

  pub IsVerifyText-is_unique : (m : List Instance) (text other : List ℕ)
      → IsVerifyText said m text → IsVerifyText said m other → text ≡ other
  IsVerifyText-is_unique m text other p q =
      said_verdict_is_unique m q.0 q.1 text other (verdict_on m q.0 q.1 q.2 text p) q.3

-- ---- that of a lawful list alone

none_after : (xs ys : List ℕ) → xs ≡ xs ++ ys → ys ≡ []
none_after xs [] same = refl
none_after xs (y ∷ ys) same =
    absurd (omega (arith, ap length same, length-append xs (y ∷ ys)))

-- the order is a prefix, and nothing follows
alone : (m : List Instance) (replies : List (Id × Reply)) (stored : Contents)
    → IsSaidVerdict m replies stored lawful_line
    → IsLawfulPrefix m (replied_ids replies) × (differences_text m replies stored ≡ [])
alone m replies stored (inl good) =
    (good.0, none_after lawful_line (differences_text m replies stored) good.1)
alone m replies stored (inr bad) =
    let ids = replied_ids replies in
    absurd (IsPrefixFault-not_lawful m ids bad.0 bad.1 (lawful_prefix-from_verdict m ids (inr bad))
    bad.2)

pub LawfulTextMeansRight-holds : TextSaysOneThing → NoDifferenceIfRight → LawfulTextMeansRight
LawfulTextMeansRight-holds one right said logs replies stored m short is accepted = (
  λ h.
      let text = subst (λ (n : List Instance). IsVerifyText said n lawful_line)
      (IsAccepted-is_unique logs h.1.0 m h.1.1 accepted) h.1.2 in
      let found = alone m replies stored
      (verdict_on one said m replies stored is lawful_line text) in
      (found.0, (right m replies stored).0 found.1),
  λ h. (
    short,
    (
      m,
      accepted,
      (
        replies,
        stored,
        is,
        inl (
          h.0,
          sym (ap (λ more. lawful_line ++ more)
              ((right m replies stored).1 h.1) ∙ append-nil lawful_line),
        ),
      ),
    ),
  ),
)
