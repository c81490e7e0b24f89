-- The parts of an instance and the object that they are read from.
use Rattle.std.proofs.Common.{◌≡◌, ℕ, ◌^◌, List, true, false, codes, Option, Some, None, option_map}
use Rattle.std.proofs.Common.{option_and_then, bytes_eq, refl, sym, ap, ◌∙◌, Ok}
use Rattle.epx_types.proofs.Common.{false≢true, bytes_eq-Decides, items_of}
use Rattle.epx_types.specs.declared.id.Id.{Id}
use Rattle.epx_types.specs.declared.op.Op.{Op}
use Rattle.epx_types.specs.declared.small_list.SmallList.{SmallList}
use Rattle.serde_json.specs.Data.{Data, Members, object, put}
use Rattle.serde_json.specs.Find.{get, get_member}
use Rattle.serde_json.proofs.Views.{get_member-put, get_member-put_other}
use Rattle.epx_lines.specs.declared.Line.TheVariants.{Entry}
use Rattle.epx_lines.specs.declared.from_tokens.Parts.{Parts}
use Rattle.epx_lines.specs.between.Tokens.{IsMember, HoldsParts}
use Rattle.epx_lines.specs.Elements.{whole, each_of_at_most}
use Rattle.epx_lines.specs.DependencyList.{id_of, rising_others, deps_of}
use Rattle.epx_lines.specs.OperationList.{ops_of}
use Rattle.epx_lines.specs.Meaning.{at_member, is_committed, meaning_of_object}

-- ---- a member that is put into an object, and the other members

unlike : (q k : List ℕ) → bytes_eq q k ≡ false → q ≡ k → ⊥
unlike q k e same = false≢true (sym e ∙ (bytes_eq-Decides q k).1 same)

kept : {A : Type 0} (q : List ℕ) (f : Data → Option A) (k : List ℕ) (d : Data) (ms : Members)
    (o : Option A) → bytes_eq q k ≡ false → IsMember q f ms o → IsMember q f (put k d ms) o
kept q f k d ms None e h = tt
kept q f k d ms (Some x) e h =
    ap (option_and_then f) (get_member-put_other q k d ms (unlike q k e)) ∙ h

added : {A : Type 0} (k : List ℕ) (f : Data → Option A) (d : Data) (ms : Members) (x : A)
    → f d ≡ Some x → at_member k f (object (put k d ms)) ≡ Some x
added k f d ms x e = ap (option_and_then f) (get_member-put k d ms) ∙ e

kept_status : (k : List ℕ) (d : Data) (ms : Members) → bytes_eq (codes "status") k ≡ false
    → is_committed (get (codes "status") (object ms)) ≡ Some true
    → is_committed (get (codes "status") (object (put k d ms))) ≡ Some true
kept_status k d ms e h = ap is_committed
    (get_member-put_other (codes "status") k d ms (unlike (codes "status") k e)) ∙ h

module _ (d : Data) (ms : Members) (old : Parts) (h : HoldsParts ms old) where
  pub HoldsParts-replica : (r : ℕ) → whole 256 d ≡ Some r
      → HoldsParts (put (codes "r") d ms) (record old { replica = Some r })
  HoldsParts-replica r e = record {
    replica = added (codes "r") (whole 256) d ms r e;
    number = kept (codes "i") (whole (2 ^ 64)) (codes "r") d ms (old.number) refl h.number;
    seq = kept (codes "seq") (whole (2 ^ 64)) (codes "r") d ms (old.seq) refl h.seq;
    named = kept (codes "deps") (each_of_at_most 256 id_of) (codes "r") d ms
        (option_map items_of old.named) refl h.named;
    ops = kept (codes "ops") (ops_of) (codes "r") d ms (option_map items_of old.ops) refl
        h.ops;
    status = kept_status (codes "r") d ms refl h.status;
  }

  pub HoldsParts-number : (i : ℕ) → whole (2 ^ 64) d ≡ Some i
      → HoldsParts (put (codes "i") d ms) (record old { number = Some i })
  HoldsParts-number i e = record {
    replica = kept (codes "r") (whole 256) (codes "i") d ms (old.replica) refl h.replica;
    number = added (codes "i") (whole (2 ^ 64)) d ms i e;
    seq = kept (codes "seq") (whole (2 ^ 64)) (codes "i") d ms (old.seq) refl h.seq;
    named = kept (codes "deps") (each_of_at_most 256 id_of) (codes "i") d ms
        (option_map items_of old.named) refl h.named;
    ops = kept (codes "ops") (ops_of) (codes "i") d ms (option_map items_of old.ops) refl
        h.ops;
    status = kept_status (codes "i") d ms refl h.status;
  }

  pub HoldsParts-seq : (n : ℕ) → whole (2 ^ 64) d ≡ Some n
      → HoldsParts (put (codes "seq") d ms) (record old { seq = Some n })
  HoldsParts-seq n e = record {
    replica = kept (codes "r") (whole 256) (codes "seq") d ms (old.replica) refl h.replica;
    number = kept (codes "i") (whole (2 ^ 64)) (codes "seq") d ms (old.number) refl h.number;
    seq = added (codes "seq") (whole (2 ^ 64)) d ms n e;
    named = kept (codes "deps") (each_of_at_most 256 id_of) (codes "seq") d ms
        (option_map items_of old.named) refl h.named;
    ops = kept (codes "ops") (ops_of) (codes "seq") d ms (option_map items_of old.ops) refl
        h.ops;
    status = kept_status (codes "seq") d ms refl h.status;
  }

  pub HoldsParts-named : (ids : SmallList Id) → each_of_at_most 256 id_of d ≡ Some (items_of ids)
      → HoldsParts (put (codes "deps") d ms) (record old { named = Some ids })
  HoldsParts-named ids e = record {
    replica = kept (codes "r") (whole 256) (codes "deps") d ms (old.replica) refl h.replica;
    number = kept (codes "i") (whole (2 ^ 64)) (codes "deps") d ms (old.number) refl h.number;
    seq = kept (codes "seq") (whole (2 ^ 64)) (codes "deps") d ms (old.seq) refl h.seq;
    named = added (codes "deps") (each_of_at_most 256 id_of) d ms (items_of ids) e;
    ops = kept (codes "ops") (ops_of) (codes "deps") d ms (option_map items_of old.ops) refl
        h.ops;
    status = kept_status (codes "deps") d ms refl h.status;
  }

  pub HoldsParts-ops : (ops : SmallList Op) → ops_of d ≡ Some (items_of ops)
      → HoldsParts (put (codes "ops") d ms) (record old { ops = Some ops })
  HoldsParts-ops ops e = record {
    replica = kept (codes "r") (whole 256) (codes "ops") d ms (old.replica) refl h.replica;
    number = kept (codes "i") (whole (2 ^ 64)) (codes "ops") d ms (old.number) refl h.number;
    seq = kept (codes "seq") (whole (2 ^ 64)) (codes "ops") d ms (old.seq) refl h.seq;
    named = kept (codes "deps") (each_of_at_most 256 id_of) (codes "ops") d ms
        (option_map items_of old.named) refl h.named;
    ops = added (codes "ops") ops_of d ms (items_of ops) e;
    status = kept_status (codes "ops") d ms refl h.status;
  }

  pub HoldsParts-status : is_committed (Some d) ≡ Some true
      → HoldsParts (put (codes "status") d ms) old
  HoldsParts-status e = record {
    replica = kept (codes "r") (whole 256) (codes "status") d ms (old.replica) refl h.replica;
    number = kept (codes "i") (whole (2 ^ 64)) (codes "status") d ms (old.number) refl h.number;
    seq = kept (codes "seq") (whole (2 ^ 64)) (codes "status") d ms (old.seq) refl h.seq;
    named = kept (codes "deps") (each_of_at_most 256 id_of) (codes "status") d ms
        (option_map items_of old.named) refl h.named;
    ops = kept (codes "ops") (ops_of) (codes "status") d ms (option_map items_of old.ops)
        refl h.ops;
    status = ap is_committed (get_member-put (codes "status") d ms) ∙ e;
  }

-- ---- the line

mapped_member : {A B : Type 0} (name : List ℕ) (f : Data → Option A) (g : A → B) (o : Option Data)
    (x : A) → option_and_then f o ≡ Some x
    → option_and_then (λ d. option_map g (f d)) o ≡ Some (g x)
mapped_member name f g None x e = absurd (cc)
mapped_member name f g (Some d) x e = ap (option_map g) e

module _ (ms : Members) (r i seq : ℕ) (named deps : List Id) (ops : List Op) where
  abbrev id : Id
  id = record { replica = r; number = i }

  pub meaning_of_object-parts : IsMember (codes "r") (whole 256) ms (Some r)
      → IsMember (codes "i") (whole (2 ^ 64)) ms (Some i)
      → IsMember (codes "seq") (whole (2 ^ 64)) ms (Some seq)
      → IsMember (codes "deps") (each_of_at_most 256 id_of) ms (Some named)
      → IsMember (codes "ops") ops_of ms (Some ops)
      → is_committed (get (codes "status") (object ms)) ≡ Some true
      → deps ≡ rising_others id named → meaning_of_object (object ms)
      ≡ Ok (Entry (record { id = id; seq = seq; deps = deps; ops = ops }))
  unfolding meaning_of_object deps_of
  meaning_of_object-parts r_is i_is seq_is named_is ops_is status_is deps_is =
      let others = mapped_member (codes "deps") (each_of_at_most 256 id_of) (rising_others id)
      (get_member (codes "deps") ms) named named_is in
      rw (r_is, i_is, seq_is, status_is, others, ops_is, deps_is)
