-- What is to name an instance or a part of the graph names one, or not.
use Rattle.std.proofs.Common.{◌≡◌, ◌≢◌, ℕ, Some, None, List, sym, subst, MatchOption}
use Rattle.std.specs.Option.{IfSome}
use Rattle.clap.specs.Words.{Row, Text}
use Rattle.epx_types.proofs.Common.{id_text}
use Rattle.epx_types.specs.declared.id.Id.{Id}
use Rattle.epx_names.specs.IdNames.{FitsIdTypes}
use Rattle.epx_words.specs.Subjects.{ArePartNames, IsIdName, IsNumberName, NameIds, NamesPart}
use Rattle.epx_words.specs.SubcommandRows.{around_in, first_in, reaches_in, steps_in}

-- no Id that fits its types has this text
abbrev pub NamesNone : Text → Type 0
NamesNone text = (x : Id) → FitsIdTypes x → text ≢ id_text x

names_none : (text : Text) → NamesNone text → ¬ IsIdName text
names_none text none named = none named.0 named.1.0 named.1.1

pub NameIds-not_without_first : (rows : List Row) → None ≡ first_in rows → ¬ NameIds rows
NameIds-not_without_first rows is named = subst (λ o. MatchOption o ⊥ IsIdName) (sym is) named.0

pub NameIds-not_bad_first : (rows : List Row) (text : Text) → Some text ≡ first_in rows
    → NamesNone text
    → ¬ NameIds rows
NameIds-not_bad_first rows text is none named =
    names_none text none (subst (λ o. MatchOption o ⊥ IsIdName) (sym is) named.0)

pub NameIds-not_bad_end : (rows : List Row) (text : Text) → Some text ≡ reaches_in rows
    → NamesNone text
    → ¬ NameIds rows
NameIds-not_bad_end rows text is none named =
    names_none text none (subst (λ o. IfSome o IsIdName) (sym is) named.1)

-- ---- the part of the graph

pub NamesPart-not_steps_alone : (rows : List Row) (text : Text) → None ≡ around_in rows
    → Some text ≡ steps_in rows → ¬ NamesPart rows
NamesPart-not_steps_alone rows text is steps named =
    let none : steps_in rows ≡ None = subst (λ o. ArePartNames o (steps_in rows)) (sym is) named in
    cc

pub NamesPart-not_bad_around : (rows : List Row) (text : Text) → Some text ≡ around_in rows
    → NamesNone text
    → ¬ NamesPart rows
NamesPart-not_bad_around rows text is none named =
    names_none text none (subst (λ o. ArePartNames o (steps_in rows)) (sym is) named).0

pub NamesPart-not_bad_steps : (rows : List Row) (text : Text) → Some text ≡ around_in rows
    → ¬ IfSome (steps_in rows) (λ far. (n : ℕ) × IsNumberName n far) → ¬ NamesPart rows
NamesPart-not_bad_steps rows text is none named =
    none (subst (λ o. ArePartNames o (steps_in rows)) (sym is) named).1
