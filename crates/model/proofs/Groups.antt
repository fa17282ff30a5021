-- The items of a group stand side by side, by number; so do the relationships of a source, by id.
-- Assumes nothing.
use Prim.Native.Nat.{ℕ, ◌≤◌, ◌<◌}
use Prim.Native.Char.{code}
use mathlib.Core.Path.{◌≡◌, refl, ap, sym, ◌∙◌}
use mathlib.Core.Bool.{Bool, true, false, not, ◌&&◌, ◌||◌, cond, true≢false}
use mathlib.Core.List.{List, [], ◌∷◌}
use native.Mathlib.Omega.{arith}
use lib.Dec.{ltb, eqb}
use lib.ListN.{take, drop}
use lib.Seq.{slice}
use borrow.Author.Tests.{le-ltb, lt-ltb, ltb-true, ltb-false, le-leb, lt-leb, ne_eqb, not-false}
use Rattle.chars.specs.Bytes.{underscore, letter}
use Rattle.chars.specs.Lists.{same}
use Rattle.chars.specs.Folding.{fold, equivalent, order}
use Rattle.chars.proofs.Equivalence.{equivalent_fold, equivalent_refl}
use Rattle.chars.proofs.Orders.{order_refl}
use Rattle.std.specs.declared.cmp.Ordering.{Ordering}
use Rattle.std.specs.declared.cmp.Ordering.TheVariants.{Less, Equal, Greater}
use Rattle.names.specs.Types.{identifier}
use Rattle.names.proofs.Lengths.{identifier_first}
use Rattle.model.specs.Sets.{Bytes, then_by, key_order, is_less, is_equal, before, Each, AllPairs, Sorted}
use Rattle.model.specs.Places.{bound, lead}
use Rattle.model.specs.Fields.{prefix_of, suffix_of, relationship_fields}
use Rattle.model.specs.Package.{Item, Relationship, rank, key_of_item, key_of_relationship, group, relationship_kind}
use Rattle.model.specs.Texts.{of_source}
use Rattle.model.proofs.Lists.{each_map, pairs_filter}
use Rattle.model.proofs.Refusals.{all_none, unmet}
use Rattle.model.proofs.Walks.{Parted, filter_between}
use Rattle.model.proofs.Places.{not_before_monotone}
use Rattle.model.proofs.KeyOrders.{goes_on_less}
use Rattle.model.proofs.Keys.{order_same, number_less}
use Rattle.model.proofs.Spans.{span_past, span_from, span}

-- the test of a group
abbrev pub alike : Bytes → Item → Bool
alike p i = equivalent (prefix_of i.name) p

abbrev pub unlike : Bytes → Item → Bool
unlike p i = not (alike p i)

pub own : (x : Item) → alike (prefix_of x.name) x ≡ true
own x = equivalent_refl (prefix_of x.name)

-- equivalent prefixes have the same group
pub alike_same : (p q : Bytes) → fold p ≡ fold q → (i : Item) → alike p i ≡ alike q i
unfolding equivalent
alike_same p q e i = ap (same (fold (prefix_of i.name))) e

-- the item x of the group p, and those after it, up to the first that is not of the group
module _ (x : Item) (p : Bytes) (m : alike p x ≡ true) where
  pub group_past : (ys : List Item) → Sorted key_of_item (x ∷ ys) → Each (λ (i : Item). alike p i ≡ false) (drop (lead (alike p) ys) ys)
  unfolding equivalent
  group_past ys s = span_past key_of_item (fold p) x ys m s

  pub group_from : (ys : List Item) → Sorted key_of_item (x ∷ ys) → group p (x ∷ ys) ≡ x ∷ take (lead (alike p) ys) ys
  unfolding group equivalent
  group_from ys s = span_from key_of_item (fold p) x ys m s

-- a rank is not before 0, an id not before the empty text
least_rank : (t : Bytes) (n : ℕ) → before (t, n ∷ []) (t, 0 ∷ []) ≡ false
unfolding key_order then_by order
least_rank t n = rw (order_refl t, le-ltb n 0 (omega arith)) (go (ltb 0 n))
  where
    go : (b : Bool) → is_less (cond b Greater Equal) ≡ false
    go true = refl
    go false = refl

least_text : (u : Bytes) → is_less (order u []) ≡ false
unfolding order
least_text [] = refl
least_text (x ∷ u) = refl

least_item : (p : Bytes) (i : Item) → fold (prefix_of i.name) ≡ fold p → before (key_of_item i) (fold p, 0 ∷ []) ≡ false
least_item p i e = ap (λ (t : Bytes). before (t, rank (suffix_of i.name) ∷ []) (fold p, 0 ∷ [])) e
    ∙ least_rank (fold p) (rank (suffix_of i.name))

-- the group p is the run from the first item that is not before (p folded, rank 0)
pub group_run :
    (p : Bytes) (xs : List Item) → Sorted key_of_item xs →
    group p xs ≡ take (lead (alike p) (drop (bound key_of_item (fold p, 0 ∷ []) xs) xs)) (drop (bound key_of_item (fold p, 0 ∷ []) xs) xs)
unfolding group equivalent
group_run p xs s = span key_of_item (fold p) (0 ∷ []) (least_item p) xs s

-- every id is before `~`, which is above all letters and `_`
abbrev pub tilde : ℕ
tilde = code "~"

lead_small : (x : ℕ) → (letter x || eqb x underscore) ≡ true → x < tilde
unfolding letter
lead_small x e = go (ltb x tilde) refl
  where
    go : (b : Bool) → ltb x tilde ≡ b → x < tilde
    go true f = ltb-true x tilde f
    go false f =
        let l : 126 ≤ x = ltb-false x tilde f in
        absurd (true≢false (sym e ∙ rw (
          le-leb 65 x (omega arith),
          lt-leb x 90 (omega arith),
          le-leb 97 x (omega arith),
          lt-leb x 122 (omega arith),
          ne_eqb x underscore (λ z. omega arith),
        )))

id_before : (i : Bytes) → identifier i ≡ true → order i (tilde ∷ []) ≡ Less
unfolding order
id_before [] e = refl
id_before (x ∷ i) e = rw (lt-ltb x tilde (lead_small x (identifier_first (x ∷ i) e)))

relationship_id : (r : Relationship) → relationship_kind.fields r ≡ 0 → identifier r.id ≡ true
unfolding relationship_fields
relationship_id r z = not-false (identifier r.id) (unmet (not (identifier r.id)) 8 (omega arith) (all_none _ z).1.0)

-- so the relationships of a source are those between two bounds
pub source_between :
    (s : Bytes) (rs : List Relationship) → Sorted key_of_relationship rs → Each (λ (r : Relationship). relationship_kind.fields r ≡ 0) rs →
    of_source s rs
    ≡ slice (bound key_of_relationship (fold s, []) rs) (bound key_of_relationship (fold s, tilde ∷ []) rs) rs
unfolding key_order then_by equivalent
source_between s rs o z =
    filter_between p q eqv rs (not_before_monotone key_of_relationship (fold s, []) rs o)
    (not_before_monotone key_of_relationship (fold s, tilde ∷ []) rs o)
    (each_map (λ (r : Relationship). relationship_kind.fields r ≡ 0) (Parted p q eqv) rs
    (λ r h. parted r (id_before r.id (relationship_id r h))) z)
  where
    p : Relationship → Bool
    p r = not (before (key_of_relationship r) (fold s, []))

    q : Relationship → Bool
    q r = not (before (key_of_relationship r) (fold s, tilde ∷ []))

    eqv : Relationship → Bool
    eqv r = equivalent r.source s

    parted : (r : Relationship) → order r.id (tilde ∷ []) ≡ Less → Parted p q eqv r
    parted r l = rw (l, ← order_same (fold r.source) (fold s)) (go (order (fold r.source) (fold s)))
      where
        go : (o : Ordering) → (not (is_less (then_by o Less)) ≡ true → not (is_less (then_by o (order r.id []))) ≡ true)
            × (is_equal o ≡ (not (is_less (then_by o (order r.id []))) && not (not (is_less (then_by o Less)))))
        go Less = ((λ e. e), refl)
        go Equal = rw (least_text r.id) ((λ e. refl), refl)
        go Greater = ((λ e. refl), refl)

-- the pieces of a group stand by number: "the pieces joined by number"
pub group_numbered : (p : Bytes) (xs : List Item) → Sorted key_of_item xs →
    AllPairs (λ (i j : Item). rank (suffix_of i.name) < rank (suffix_of j.name)) (group p xs)
unfolding group order
group_numbered p xs s =
    pairs_filter (λ (i j : Item). before (key_of_item i) (key_of_item j) ≡ true)
    (λ (i j : Item). rank (suffix_of i.name) < rank (suffix_of j.name)) (alike p) xs
    (λ i j a b l. number_less (rank (suffix_of i.name)) (rank (suffix_of j.name))
    (goes_on_less (key_of_item i) (key_of_item j) l (equivalent_fold (prefix_of i.name) p a
    ∙ sym (equivalent_fold (prefix_of j.name) p b))))
    s

-- the relationships of a source stand "by id bytes"
pub source_by_id : (s : Bytes) (rs : List Relationship) → Sorted key_of_relationship rs →
    AllPairs (λ (q r : Relationship). order q.id r.id ≡ Less) (of_source s rs)
source_by_id s rs o =
    pairs_filter (λ (q r : Relationship). before (key_of_relationship q) (key_of_relationship r) ≡ true)
    (λ (q r : Relationship). order q.id r.id ≡ Less)
    (λ (r : Relationship). equivalent r.source s) rs
    (λ q r a b l. goes_on_less (key_of_relationship q) (key_of_relationship r) l (equivalent_fold q.source s a
    ∙ sym (equivalent_fold r.source s b))) o
