use Rattle.std.proofs.Common.{◌∙◌, arith}
use Rattle.epx_types.proofs.Common.{slice_get-from_Contains, slice_get_within}
use Rattle.epx_types.proofs.Common.{final-rearranged, reply-rearranged}
use Rattle.epx_linear.proofs.laws.linear_has_witness.Goals as goal

pub returns : goal.returns
returns c = λ ids commands contents h whole linear.
    let positions = linear.real_time.0 in
    let arranged = linear.real_time.1 in (
      positions,
      record {
        rearranged = arranged;
        in_time = linear.real_time.2;
        final = final-rearranged commands positions arranged contents;
        answers = λ a r t has returned answer.
            let at = slice_get-from_Contains ids a.id (linear.executed a t has returned) in
            let low = slice_get_within ids at.0 a.id at.1 in
            let place = slice_get-from_Contains positions at.0
            (arranged.whole at.0 (omega (arith, low, whole))) in (
              place.0,
              at.0,
              place.1,
              at.1,
              reply-rearranged commands positions arranged contents place.0 at.0 place.1
                  ∙ linear.answers a r at.0 has answer at.1,
            );
      },
    )
