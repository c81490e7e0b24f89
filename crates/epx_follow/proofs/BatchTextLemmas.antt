-- The text of a batch, as it is written, and the pairs of instances and replies in it.
use Rattle.std.proofs.Common.{◌≡◌, ℕ, List, [], ◌∷◌, ◌++◌, flat_map, length, map, zip}
use Rattle.std.proofs.Common.{refl, ap, ◌∙◌, arith}
use Rattle.std.proofs.lemmas.Slice.Zip.{length-zip}
use Rattle.serde_json.specs.Data.{Data}
use Rattle.serde_json.specs.Written.{compact_text}
use Rattle.epx_types.specs.declared.id.Id.{Id}
use Rattle.epx_types.specs.declared.reply.Reply.{Reply}
use Rattle.epx_report.specs.ReportLines.{array_of, line_feed, reply_line}
use Rattle.epx_follow.specs.BatchEnds.{batch_text, came_data}

pub batch_text-written : (came waiting : ℕ) (ids : List Id) (replies : List Reply) (value : Data)
    (first last : List ℕ) → length ids ≡ length replies
    → value ≡ array_of (came_data came (length ids) waiting)
    → first ≡ compact_text value ++ line_feed ∷ []
    → last ≡ first ++ flat_map reply_line (zip ids replies)
    → last ≡ batch_text came waiting (zip ids replies)
batch_text-written came waiting ids replies value first last same is first_is last_is =
    let count : length ids ≡ length (zip ids replies) =
    omega (arith, length-zip ids replies, same) in
    last_is ∙ ap (λ t. t ++ flat_map reply_line (zip ids replies))
    (first_is ∙ ap (λ (d : Data). compact_text d ++ line_feed ∷ []) (is
    ∙ ap (λ e. array_of (came_data came e waiting)) count))

-- pairs are their first parts with their second ones
pub zip-parts : (pairs : List (Id × Reply))
    → zip (map (λ r. r.0) pairs) (map (λ r. r.1) pairs) ≡ pairs
zip-parts [] = refl
zip-parts (p ∷ pairs) = ap (λ more. p ∷ more) (zip-parts pairs)
