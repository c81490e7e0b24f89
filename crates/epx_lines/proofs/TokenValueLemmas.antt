-- Values at the front of tokens, and the lists and objects that they make.
use Rattle.std.proofs.Common.{◌≡◌, ℕ, ℤ, suc, ◌-◌, ◌<◌, ◌≤◌, List, [], ◌∷◌, ◌++◌, length, Option}
use Rattle.std.proofs.Common.{Some, None, IfSome, ltb, option_map, option_and_then, refl, sym, ap}
use Rattle.std.proofs.Common.{◌∙◌, subst, arith, append-nil, lt-ltb, ◌^◌}
use Rattle.std.proofs.lemmas.Option.{cond_some}
use Rattle.epx_types.proofs.Common.{w64}
use Rattle.epx_types.specs.declared.op.Op.{Op}
use Rattle.std.specs.Int.RustNames.{FitsSigned}
use Rattle.json.specs.Token.{Token}
use Rattle.json.specs.Json as json
use Rattle.json.specs.Lex.{tokens}
use Rattle.json.specs.Json.{parse_map, after_end_array, read_key, items, members, value, if_last}
use Rattle.json.proofs.Grammar.{value_is, value-begin_array, value-begin_object, items_end}
use Rattle.json.proofs.Grammar.{items_more, members_end, members_more, left, skip_value-shorter}
use Rattle.json.proofs.Grammar.{read_key-shorter}
use Rattle.serde_json.specs.Data.{Data, null, unsigned, number, string, array, object, item}
use Rattle.serde_json.specs.Data.{Members, no_members, put}
use Rattle.serde_json.specs.Find.{as_number, as_u64, of_integer}
use Rattle.serde_json.specs.Read.{number_of, of_json, of_items, of_members, converted, max_depth}
use Rattle.serde_json.specs.Read.{read}
use Rattle.serde_json.specs.View.{items_of}
use Rattle.epx_lines.specs.between.Tokens.{ReadsValue, ParsesTo, ReadsValues, ParsesAllTo}
use Rattle.epx_lines.specs.DependencyList.{id_of_pair}
use Rattle.epx_lines.specs.OperationList.{key_of, op_with_key, op_with_value, op_of_list}
use Rattle.epx_lines.specs.Elements.{if_below, whole, signed, list_of, elements, at_most, every}
use Rattle.epx_lines.specs.Elements.{each_of_at_most}
use Rattle.epx_lines.proofs.ElementLemmas.{at_most-within}
use Rattle.epx_lines.proofs.EntryLemmas.{length-every}
use Rattle.epx_lines.proofs.WrittenPartLemmas.{whole-fits, IsWritableValue-from_range}

-- ---- numbers, strings and null

pub ReadsValue-number : (s : List ℕ) (d : Data) (rest : List Token)
    → option_map number (number_of s) ≡ Some d → ReadsValue 0 (Token.number s ∷ rest) d rest
ReadsValue-number s d rest e depth h =
    ap (converted of_json) (value_is depth (Token.number s ∷ rest))
    ∙ ap (option_map (λ b. (b, rest))) e

pub ReadsValue-string : (s : List ℕ) (rest : List Token)
    → ReadsValue 0 (Token.string s ∷ rest) (string s) rest
ReadsValue-string s rest depth h = ap (converted of_json) (value_is depth (Token.string s ∷ rest))

pub ReadsValue-null : (rest : List Token) → ReadsValue 0 (Token.null ∷ rest) null rest
ReadsValue-null rest depth h = ap (converted of_json) (value_is depth (Token.null ∷ rest))

pub ReadsValue-deeper : (n m : ℕ) (ts : List Token) (d : Data) (rest : List Token) → n ≤ m
    → ReadsValue n ts d rest → ReadsValue m ts d rest
ReadsValue-deeper n m ts d rest l h depth k = h depth (omega arith)

-- ---- f of the value at the front

-- f of the value at the front, if it has one
pub ParsesTo-found : {A : Type 0} (n : ℕ) (f : Data → Option A) (ts rest : List Token) (d : Data)
    (o : Option A) → ReadsValue n ts d rest → o ≡ f d → IfSome o (λ x. ParsesTo n f ts x rest)
ParsesTo-found n f ts rest d None h e = tt
ParsesTo-found n f ts rest d (Some x) h e = (d, h, sym e)

pub ParsesTo-number : (s : List ℕ) (n : ℕ) (rest : List Token) → number_of s ≡ Some (unsigned n)
    → n < 2 ^ 64 → ParsesTo 0 (whole (2 ^ 64)) (Token.number s ∷ rest) n rest
ParsesTo-number s n rest is l = (
  number (unsigned n),
  ReadsValue-number s _ rest (ap (option_map number) is),
  whole-fits (2 ^ 64) n l,
)

pub ParsesTo-signed : (s : List ℕ) (z y : ℤ) (rest : List Token)
    → number_of s ≡ Some (of_integer z) → FitsSigned w64 z → y ≡ z
    → ParsesTo 0 signed (Token.number s ∷ rest) y rest
ParsesTo-signed s z y rest is l same = let fits = IsWritableValue-from_range z l in (
  number (of_integer z),
  ReadsValue-number s _ rest (ap (option_map number) is),
  fits.reads ∙ ap Some (sym same),
)

narrower : (b c n : ℕ) (o : Option ℕ) → option_and_then (if_below b) o ≡ Some n → n < c
    → option_and_then (if_below c) o ≡ Some n
narrower b c n None e l = absurd (cc e)
narrower b c n (Some m) e l = let same : m ≡ n = (cond_some (ltb m b) m n e).1 in
    rw (same, lt-ltb n c l)

pub ParsesTo-replica : (n : ℕ) (ts rest : List Token) → ParsesTo 0 (whole (2 ^ 64)) ts n rest
    → n < 256 → ParsesTo 0 (whole 256) ts n rest
unfolding whole
ParsesTo-replica n ts rest g l =
    (g.0, g.1, narrower (2 ^ 64) 256 n (option_and_then as_u64 (as_number g.0)) g.2 l)

-- ---- a value takes at least one token

abbrev pick : {A : Type 0} → A → Option A → A
pick d None = d
pick d (Some a) = a

found : {A B : Type 0} (a : A) (r s : List Token) (x : Option B) (b : B)
    → option_map {U = B × List Token} (λ y. (y, r)) x ≡ Some (b, s) → (r ≡ s) × (x ≡ Some b)
found a r s None b e = absurd (cc)
found a r s (Some y) b e = let same = ap (pick (y, r)) e in
    (ap (λ p. p.1) same, ap (λ p. Some p.0) same)

converted_some : {A B : Type 0} (f : A → Option B) (o : Option (A × List Token)) (b : B)
    (r : List Token) → converted f o ≡ Some (b, r) → (a : A) × (o ≡ Some (a, r)) × (f a ≡ Some b)
converted_some f None b r e = absurd (cc)
converted_some f (Some p) b r e = let both = found p.0 p.1 r (f p.0) b e in
    (p.0, ap (λ s. Some (p.0, s)) both.0, both.1)

pub ReadsValue-shorter : (n : ℕ) (ts : List Token) (d : Data) (rest : List Token)
    → ReadsValue n ts d rest → length rest < length ts
ReadsValue-shorter n ts d rest h = let j =
    converted_some of_json (value n ts) d rest (h n (omega arith)) in
    skip_value-shorter n ts rest (ap left j.1)

pub ParsesTo-shorter : {A : Type 0} (n : ℕ) (f : Data → Option A) (ts : List Token) (x : A)
    (rest : List Token) → ParsesTo n f ts x rest → length rest < length ts
ParsesTo-shorter n f ts x rest h = ReadsValue-shorter n ts h.0 rest h.1

-- no value begins with a closing bracket
not_array_end : (depth : ℕ) (ts : List Token) (p : json.Json × List Token)
    → value depth ts ≡ Some p → after_end_array ts ≡ None
not_array_end depth [] p e = refl
not_array_end depth (Token.begin_object ∷ ts) p e = refl
not_array_end depth (Token.end_object ∷ ts) p e = refl
not_array_end depth (Token.begin_array ∷ ts) p e = refl
not_array_end depth (Token.end_array ∷ ts) p e = let none =
    sym (value_is depth (Token.end_array ∷ ts)) ∙ e in absurd (cc none)
not_array_end depth (Token.key s ∷ ts) p e = refl
not_array_end depth (Token.string s ∷ ts) p e = refl
not_array_end depth (Token.number s ∷ ts) p e = refl
not_array_end depth (Token.boolean b ∷ ts) p e = refl
not_array_end depth (Token.null ∷ ts) p e = refl
not_array_end depth (Token.bad ∷ ts) p e = refl

-- ---- the items of an array, up to its end

abbrev pub AreItems : ℕ → List Token → List Data → List Token → Type 0
AreItems n ts [] rest = after_end_array ts ≡ Some rest
AreItems n ts (d ∷ ds) rest = (mid : List Token) × ReadsValue n ts d mid × AreItems n mid ds rest

-- ---- values one after another

pub ReadsValues-deeper : (n m : ℕ) (ts : List Token) (ds : List Data) (rest : List Token) → n ≤ m
    → ReadsValues n ts ds rest → ReadsValues m ts ds rest
ReadsValues-deeper n m ts [] rest l same = same
ReadsValues-deeper n m ts (d ∷ ds) rest l (mid, first, more) =
    (mid, ReadsValue-deeper n m ts d mid l first, ReadsValues-deeper n m mid ds rest l more)

pub ReadsValues-append : (n : ℕ) (ts : List Token) (xs ys : List Data) (mid rest : List Token)
    → ReadsValues n ts xs mid → ReadsValues n mid ys rest → ReadsValues n ts (xs ++ ys) rest
ReadsValues-append n ts [] ys mid rest same h = rw same h
ReadsValues-append n ts (x ∷ xs) ys mid rest (next, first, more) h =
    (next, first, ReadsValues-append n next xs ys mid rest more h)

-- one value in front of the others
pub ParsesAllTo-more : {A : Type 0} (n : ℕ) (f : List Data → Option A) (ts : List Token) (d : Data)
    (mid : List Token) (x : A) (rest : List Token)
    → ReadsValue n ts d mid → ParsesAllTo n (λ ds. f (d ∷ ds)) mid x rest
    → ParsesAllTo n f ts x rest
ParsesAllTo-more n f ts d mid x rest first g = (d ∷ g.0, (mid, first, g.1), g.2)

AreItems-in_turn : (n : ℕ) (ts : List Token) (ds : List Data) (mid rest : List Token)
    → ReadsValues n ts ds mid → after_end_array mid ≡ Some rest → AreItems n ts ds rest
AreItems-in_turn n ts [] mid rest same end = rw same end
AreItems-in_turn n ts (d ∷ ds) mid rest (next, first, more) end =
    (next, first, AreItems-in_turn n next ds mid rest more end)

twice : {A B : Type 0} (g : A → B) (r : List Token) (x : Option A)
    → option_map (λ b. (b, r)) (option_map g x) ≡ parse_map g (option_map (λ a. (a, r)) x)
twice g r None = refl
twice g r (Some a) = refl

converted-array : (o : Option (json.Items × List Token))
    → converted of_json (parse_map json.array o) ≡ parse_map array (converted of_items o)
converted-array None = refl
converted-array (Some p) = twice array p.1 (of_items p.0)

with_item : (j : json.Json) (d : Data) → of_json j ≡ Some d
    → (o : Option (json.Items × List Token))
    → converted of_items (parse_map (json.item j) o) ≡ parse_map (item d) (converted of_items o)
with_item j d e None = refl
with_item j d e (Some p) = rw e (twice (item d) p.1 (of_items p.0))

items_are : (n depth k : ℕ) (ts : List Token) (ds : List Data) (rest : List Token) → n ≤ depth
    → length ts ≤ k → AreItems n ts ds rest
    → converted of_items (items (value depth) k ts) ≡ Some (items_of ds, rest)
items_are n depth k ts [] rest deep enough h =
    ap (converted of_items) (items_end (value depth) k ts rest enough h)
items_are n depth k ts (d ∷ ds) rest deep enough (mid, first, more) =
    let j = converted_some of_json (value depth ts) d mid (first depth deep) in
    let shorter = ReadsValue-shorter n ts d mid first in
    let turn = items_more (value depth) k ts mid j.0 (omega arith)
    (not_array_end depth ts (j.0, mid) j.1) j.1 in
    ap (converted of_items) turn ∙ with_item j.0 d j.2 _
    ∙ ap (parse_map (item d)) (items_are n depth (k - 1) mid ds rest deep (omega arith) more)

pub ReadsValue-array : (n : ℕ) (ts : List Token) (ds : List Data) (rest : List Token)
    → AreItems n ts ds rest → ReadsValue (suc n) (Token.begin_array ∷ ts) (array (items_of ds))
    rest
ReadsValue-array n ts ds rest h depth deep =
    ap (converted of_json) (value-begin_array depth ts (omega arith))
    ∙ converted-array (items (value (depth - 1)) (length ts) ts) ∙ ap (parse_map array)
    (items_are n (depth - 1) (length ts) ts ds rest (omega arith) (omega arith) h)

pub list_of-items_of : (ds : List Data) → list_of (items_of ds) ≡ ds
list_of-items_of [] = refl
list_of-items_of (d ∷ ds) = ap (λ more. d ∷ more) (list_of-items_of ds)

-- an array of values for which f returns x
pub ParsesAllTo-array : {A : Type 0} (n : ℕ) (f : List Data → Option A) (ts : List Token) (x : A)
    (mid rest : List Token)
    → ParsesAllTo n f ts x mid → after_end_array mid ≡ Some rest
    → ParsesTo (suc n) (λ d. option_and_then f (elements d)) (Token.begin_array ∷ ts) x rest
ParsesAllTo-array n f ts x mid rest g end = (
  array (items_of g.0),
  ReadsValue-array n ts g.0 rest (AreItems-in_turn n ts g.0 mid rest g.1 end),
  rw (list_of-items_of g.0) g.2,
)

-- ---- a list to which f of each item is added

every-push_at : {B : Type 0} (o : Option B) (x : B) (p : Option (List B)) (xs : List B)
    (q : Option (List B)) → option_and_then (λ y. option_map (λ ys. y ∷ ys) p) o ≡ Some xs
    → ((ys : List B) → p ≡ Some ys → q ≡ Some (ys ++ x ∷ []))
    → option_and_then (λ y. option_map (λ ys. y ∷ ys) q) o ≡ Some (xs ++ x ∷ [])
every-push_at None x p xs q e h = absurd (cc)
every-push_at (Some y) x None xs q e h = absurd (cc)
every-push_at (Some y) x (Some ys) xs q e h = let same : xs ≡ y ∷ ys = cc in rw (h ys refl, same)

every-push : {A B : Type 0} (f : A → Option B) (before : List A) (a : A) (xs : List B) (x : B)
    → every f before ≡ Some xs → f a ≡ Some x → every f (before ++ a ∷ []) ≡ Some (xs ++ x ∷ [])
every-push f [] a xs x e is = let none : xs ≡ [] = cc in rw (is, none)
every-push f (b ∷ before) a xs x e is =
    every-push_at (f b) x (every f before) xs (every f (before ++ a ∷ [])) e
    (λ ys g. every-push f before a ys x g is)

AreItems-again : (n : ℕ) (start : List Token) (xs ys : List Data) (rest : List Token) → xs ≡ ys
    → AreItems n start xs rest → AreItems n start ys rest
AreItems-again n start xs ys rest e h = subst (λ ds. AreItems n start ds rest) e h

append-one : (ds : List Data) (d : Data) (more : List Data)
    → ds ++ d ∷ more ≡ (ds ++ d ∷ []) ++ more
append-one [] d more = refl
append-one (x ∷ ds) d more = ap (λ l. x ∷ l) (append-one ds d more)

module _ {A : Type 0} (n : ℕ) (f : Data → Option A) (start : List Token) where
  -- f of the items so far is xs, and the tokens `now` follow
  abbrev pub HasReadItems : List A → List Token → Type 0
  HasReadItems xs now = (ds : List Data) × (every f ds ≡ Some xs)
      × ((more : List Data) (rest : List Token) → AreItems n now more rest
      → AreItems n start (ds ++ more) rest)

  pub HasReadItems-nothing : (xs : List A) → xs ≡ [] → HasReadItems xs start
  HasReadItems-nothing xs e = ([], ap Some (sym e), λ more rest h. h)

  pub HasReadItems-more : (xs ys : List A) (x : A) (now next : List Token) → HasReadItems xs now
      → ParsesTo n f now x next → ys ≡ xs ++ x ∷ [] → HasReadItems ys next
  HasReadItems-more xs ys x now next t g e = (
    t.0 ++ g.0 ∷ [],
    every-push f t.0 g.0 xs x t.1 g.2 ∙ ap Some (sym e),
    λ more rest h. AreItems-again n start _ _ rest (append-one t.0 g.0 more)
        (t.2 (g.0 ∷ more) rest (next, g.1, h)),
  )

  pub HasReadItems-all : (m : ℕ) (xs : List A) (now rest : List Token) → HasReadItems xs now
      → after_end_array now ≡ Some rest → length xs ≤ m
      → ParsesTo (suc n) (each_of_at_most m f) (Token.begin_array ∷ start) xs rest
  HasReadItems-all m xs now rest t end few =
      let all = AreItems-again n start _ _ rest (append-nil t.0) (t.2 [] rest end) in
      let same = length-every f t.0 xs t.1 in
      let short : at_most m (list_of (items_of t.0)) ≡ Some t.0 =
      rw (list_of-items_of t.0) (at_most-within m t.0 (omega arith)) in (
        array (items_of t.0),
        ReadsValue-array n start t.0 rest all,
        ap (option_and_then (every f)) short ∙ t.1,
      )

-- ---- the members of an object, up to its end

abbrev pub AreMembers : ℕ → List Token → List (List ℕ × Data) → List Token → Type 0
AreMembers n ts [] rest = read_key ts ≡ Some (None, rest)
AreMembers n ts (m ∷ ms) rest = (mid : List Token) × (next : List Token)
    × (read_key ts ≡ Some (Some m.0, mid)) × ReadsValue n mid m.1 next × AreMembers n next ms rest

abbrev pub put_members : List (List ℕ × Data) → Members → Members
put_members [] found = found
put_members (m ∷ ms) found = put_members ms (put m.0 m.1 found)

converted-object : (o : Option (json.Members × List Token))
    → converted of_json (parse_map json.object o)
    ≡ parse_map object (converted (λ ms. of_members ms no_members) o)
converted-object None = refl
converted-object (Some p) = twice object p.1 (of_members p.0 no_members)

with_member : (k : List ℕ) (j : json.Json) (d : Data) (old : Members) → of_json j ≡ Some d
    → (o : Option (json.Members × List Token))
    → converted (λ ms. of_members ms old) (parse_map (json.member k j) o)
    ≡ converted (λ ms. of_members ms (put k d old)) o
with_member k j d old e None = refl
with_member k j d old e (Some p) = rw e

members_are : (n depth k : ℕ) (ts : List Token) (ms : List (List ℕ × Data)) (old : Members)
    (rest : List Token) → n ≤ depth → length ts ≤ k → AreMembers n ts ms rest
    → converted (λ more. of_members more old) (members (value depth) k ts)
    ≡ Some (put_members ms old, rest)
members_are n depth k ts [] old rest deep enough h =
    ap (converted (λ more. of_members more old)) (members_end (value depth) k ts rest enough h)
members_are n depth k ts (m ∷ ms) old rest deep enough (mid, next, key, first, more) =
    let j = converted_some of_json (value depth mid) m.1 next (first depth deep) in
    let shorter = ReadsValue-shorter n mid m.1 next first in
    let less = read_key-shorter ts (Some m.0) mid key in
    let turn = members_more (value depth) k m.0 ts mid next j.0 (omega arith) key j.1 in
    ap (converted (λ more. of_members more old)) turn ∙ with_member m.0 j.0 m.1 old j.2 _
    ∙ members_are n depth (k - 1) next ms (put m.0 m.1 old) rest deep (omega arith) more

pub ReadsValue-object : (n : ℕ) (ts : List Token) (ms : List (List ℕ × Data)) (rest : List Token)
    → AreMembers n ts ms rest → ReadsValue (suc n) (Token.begin_object ∷ ts)
    (object (put_members ms no_members)) rest
ReadsValue-object n ts ms rest h depth deep =
    ap (converted of_json) (value-begin_object depth ts (omega arith))
    ∙ converted-object (members (value (depth - 1)) (length ts) ts) ∙ ap (parse_map object)
    (members_are n (depth - 1) (length ts) ts ms no_members rest (omega arith)
    (omega arith) h)

AreMembers-again : (n : ℕ) (start : List Token) (xs ys : List (List ℕ × Data)) (rest : List Token)
    → xs ≡ ys → AreMembers n start xs rest → AreMembers n start ys rest
AreMembers-again n start xs ys rest e h = subst (λ ms. AreMembers n start ms rest) e h

append-member : (ms : List (List ℕ × Data)) (m : List ℕ × Data) (more : List (List ℕ × Data))
    → ms ++ m ∷ more ≡ (ms ++ m ∷ []) ++ more
append-member [] m more = refl
append-member (x ∷ ms) m more = ap (λ l. x ∷ l) (append-member ms m more)

pub put_members-last : (ms : List (List ℕ × Data)) (m : List ℕ × Data) (old : Members)
    → put_members (ms ++ m ∷ []) old ≡ put m.0 m.1 (put_members ms old)
put_members-last [] m old = refl
put_members-last (x ∷ ms) m old = put_members-last ms m (put x.0 x.1 old)

-- the members so far satisfy P, and the tokens `now` follow
abbrev pub HasReadMembers : ℕ → List Token → (List (List ℕ × Data) → Type 0) → List Token → Type 0
HasReadMembers n start P now = (ms : List (List ℕ × Data)) × P ms
    × ((more : List (List ℕ × Data)) (rest : List Token) → AreMembers n now more rest
    → AreMembers n start (ms ++ more) rest)

pub HasReadMembers-more : (n : ℕ) (start : List Token) (P Q : List (List ℕ × Data) → Type 0)
    (k : List ℕ) (d : Data) (now mid next : List Token) → HasReadMembers n start P now
    → read_key now ≡ Some (Some k, mid) → ReadsValue n mid d next
    → ((ms : List (List ℕ × Data)) → P ms → Q (ms ++ (k, d) ∷ [])) → HasReadMembers n start Q next
HasReadMembers-more n start P Q k d now mid next t key first keeps = (
  t.0 ++ (k, d) ∷ [],
  keeps t.0 t.1,
  λ more rest h. AreMembers-again n start _ _ rest (append-member t.0 (k, d) more)
      (t.2 ((k, d) ∷ more) rest (mid, next, key, first, h)),
)

pub HasReadMembers-all : (n : ℕ) (start : List Token) (P : List (List ℕ × Data) → Type 0)
    (now rest : List Token) → HasReadMembers n start P now → read_key now ≡ Some (None, rest)
    → (ms : List (List ℕ × Data)) × P ms
    × ReadsValue (suc n) (Token.begin_object ∷ start) (object (put_members ms no_members)) rest
HasReadMembers-all n start P now rest t end = (
  t.0,
  t.1,
  ReadsValue-object n start t.0 rest
      (AreMembers-again n start _ _ rest (append-nil t.0) (t.2 [] rest end)),
)

-- ---- a whole text

pub read-from_tokens : (text : List ℕ) (d : Data) → ReadsValue 3 (tokens text) d []
    → read text ≡ Some d
read-from_tokens text d h =
    let j = converted_some of_json (value max_depth (tokens text)) d []
    (h max_depth (omega arith)) in
    ap (λ o. option_and_then of_json (option_and_then (λ p. if_last p.0 p.1) o)) j.1 ∙ j.2

-- ---- what lists of scalars mean

pub id_of_pair-scalars : (a b : Data) (r i : ℕ) → whole 256 a ≡ Some r → whole (2 ^ 64) b ≡ Some i
    → id_of_pair (a ∷ b ∷ []) ≡ Some (record { replica = r; number = i })
id_of_pair-scalars a b r i r_is i_is = rw (r_is, i_is)

pub op_of_list-op_pair : (name : List ℕ) (a : Data) (k : List ℕ) (op : Op) → key_of a ≡ Some k
    → op_with_key name k ≡ Some op → op_of_list (string name ∷ a ∷ []) ≡ Some op
op_of_list-op_pair name a k op is e = rw (is, e)

pub op_of_list-op_triple : (name : List ℕ) (a : Data) (k : List ℕ) (d : Data) (op : Op)
    → key_of a ≡ Some k → op_with_value name k d ≡ Some op
    → op_of_list (string name ∷ a ∷ d ∷ []) ≡ Some op
op_of_list-op_triple name a k d op is e = rw (is, e)
