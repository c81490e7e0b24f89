-- Prefixes of lawful orders: which lists are, and that they reply as the order does.
use Rattle.std.proofs.Common.{◌≡◌, ◌∙◌, ℕ, ◌<◌, List, [], ◌++◌, length, Contains, Some}
use Rattle.std.proofs.Common.{slice_get, get_or, sym, ap, subst, arith}
use Rattle.epx_types.proofs.Common.{length-map, map-append, append-nil, slice_get_within}
use Rattle.epx_types.proofs.Common.{slice_get-get_or, IsRising, Instance, Contents, ids_of}
use Rattle.epx_types.proofs.Common.{instance_of, ops_or_empty, commands_in, IsCovered, execute}
use Rattle.epx_types.proofs.Common.{remaining_ids, ranked_ids, IsLawfulPrefix, IsLawful}
use Rattle.epx_types.proofs.Common.{IsLawfulFor, Reaches, IsReady, length-replies, execute-append}
use Rattle.epx_types.proofs.Common.{slice_get-append_left, IsExecutionOrder-IsLawful, reply-lawful}
use Rattle.epx_types.proofs.Common.{IsLawful-part_and_rest, IsExecutionOrder-exists}
use Rattle.epx_types.specs.declared.id.Id.{Id}
use Rattle.epx_types.specs.declared.reply.Reply.TheVariants.{Abort}

-- each committed map has a lawful order
pub IsLawful-exists : (m : List Instance) → IsRising (ids_of m) → (ids : List Id) × IsLawful m ids
IsLawful-exists m rising =
    let order = IsExecutionOrder-exists m rising in
    (ranked_ids order.0, IsExecutionOrder-IsLawful m order.0 order.1)

-- a lawful order is a prefix of itself
pub IsLawfulPrefix-whole : (m : List Instance) (ids : List Id) → IsLawful m ids
    → IsLawfulPrefix m ids
IsLawfulPrefix-whole m ids lawful = ([], subst (IsLawful m) (sym (append-nil ids)) lawful)

-- a list that is lawful for ready instances with all that they reach begins a lawful order
pub IsLawfulPrefix-from_closed : (m : List Instance) → IsRising (ids_of m) → (ids : List Id)
    → ((x : Id) → Contains ids x → IsReady m x)
    → ((x y : Id) → Contains ids x → Reaches m x y → Contains ids y)
    → IsLawfulFor m (Contains ids) ids → IsLawfulPrefix m ids
IsLawfulPrefix-from_closed m rising ids ready closed lawful =
    let whole = IsLawful-exists m rising in (
      remaining_ids ids whole.0,
      IsLawful-part_and_rest m (Contains ids) ready closed ids whole.0 lawful whole.1,
    )

-- a list has the same replies where others follow it
pub reply-append_left : (m : List Instance) (ids others : List Id) (c : Contents) (i : ℕ)
    → i < length ids → slice_get (execute (commands_in m (ids ++ others)) c).replies i
    ≡ slice_get (execute (commands_in m ids) c).replies i
reply-append_left m ids others c i l =
    let commands = commands_in m ids in
    let rest = commands_in m others in
    let both : commands_in m (ids ++ others) ≡ commands ++ rest =
    map-append (λ x. ops_or_empty (instance_of m x)) ids others in
    let replies = (execute commands c).replies in
    let long : length replies ≡ length ids =
    length-replies commands c ∙ length-map ids (λ x. ops_or_empty (instance_of m x)) in
    let at = slice_get-get_or replies i (Abort 0) (omega (arith, l, long)) in
    ap (λ os. slice_get (execute os c).replies i) both
    ∙ ap (λ rs. slice_get rs i) (execute-append commands rest c).0
    ∙ slice_get-append_left replies (execute rest (execute commands c).final).replies i
    (get_or replies i (Abort 0)) at
    ∙ sym at

pub reply-prefix : (m : List Instance) → IsRising (ids_of m) → IsCovered m →
    (ids others whole : List Id) → IsLawful m (ids ++ others) → IsLawful m whole
    → (c : Contents) (i j : ℕ) (x : Id) → slice_get ids i ≡ Some x → slice_get whole j ≡ Some x
    → slice_get (execute (commands_in m ids) c).replies i
    ≡ slice_get (execute (commands_in m whole) c).replies j
reply-prefix m rising covered ids others whole lawful lawful' c i j x p q =
    sym (reply-append_left m ids others c i (slice_get_within ids i x p))
    ∙ sym (reply-lawful m rising covered (ids ++ others) whole lawful lawful' c i j x
    (slice_get-append_left ids others i x p) q)
