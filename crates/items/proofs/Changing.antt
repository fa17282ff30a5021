-- Put and drop of an item: each way out.
-- Assumes nothing.
use Prim.Native.Nat.{ℕ, ◌+◌, ◌-◌, ◌^◌, ◌≤◌, ◌<◌}
use mathlib.Core.Path.{◌≡◌, refl, ap, sym, ◌∙◌, subst}
use mathlib.Core.List.{[], ◌++◌, map}
use mathlib.Core.Option.{none, some}
use native.Mathlib.Nat.{zero-add}
use native.Mathlib.Omega.{arith}
use lib.ListN.{length, get_or, take, drop}
use borrow.Author.Tests.{ne_eqb}
use Rattle.base.proofs.Lists.{take_rest}
use Rattle.model.specs.Sets.{Bytes, remove}
use Rattle.model.specs.Places.{spot}
use Rattle.model.specs.Fields.{first, prefix_of, suffix_of, item_field}
use Rattle.model.specs.Package.{State, Item, item_key, key_of_item, item_at}
use Rattle.model.specs.Puts.{with_items, put_item_refusal, drop_item_refusal, misfits}
use Rattle.model.specs.Calls.{Changes, PutItem, DropItem, done, refused, changed, change}
use Rattle.names.proofs.Lengths.{part_name_size}
use Rattle.output.specs.Answers.{Answer}
use Rattle.output.specs.Refusals.{number}
use Rattle.output.specs.declared.refusals.Refusal.{Refusal}
use Rattle.output.proofs.Answering.{number_some}
use Rattle.model.proofs.Numbers.{numbered}
use Rattle.model.proofs.Rows.{rows_remove}
use Rattle.model.proofs.ItemNames.{accepted_prefix}
use Rattle.model.proofs.Refusals.{changed_done}
use Rattle.store.specs.Layout.{count_of}
use Rattle.store.specs.Rows.{Row, make_row, remove_at}
use Rattle.store.specs.Packages.{Sound, Removed}
use Rattle.contract.specs.Rows.{tag_of, set_of, item_row, other_rows, rows_for, item_rows}
use Rattle.contract.specs.Holds.{Lies, Holds}
use Rattle.contract.specs.Ran.{Ran}
use Rattle.contract.specs.Opening.{Open}
use Rattle.contract.proofs.RowKeys.{tag_small, tag_set}
use Rattle.contract.proofs.Rans.{field_refused, change_refused, change_made_lem, changed_refused}
use Rattle.contract.specs.Entries.{Entered}
use Rattle.contract.proofs.RowKinds.{item_rows_lem}
use Rattle.contract.proofs.SetCalls.{Putting, put_refused as set_put_refused, put_ran as set_put}
use Rattle.items.specs.Wants.{Located}
use Rattle.items.specs.Clashes.{Misfitting}
use Rattle.items.proofs.Naming.{prefix_take}

-- DROP
drop_named : (S : State) (s : Bytes) (k : ℕ) → item_field s ≡ k → (k ≡ 0 → ⊥) → drop_item_refusal S s ≡ k
unfolding drop_item_refusal first
drop_named S s k e z = rw (e, ne_eqb k 0 z)

drop_13 : (S : State) (s : Bytes) → item_field s ≡ 0 → item_at s S.items ≡ none → drop_item_refusal S s ≡ 13
unfolding drop_item_refusal first
drop_13 S s e z = rw (e, z)

drop_0 : (S : State) (s : Bytes) (i : Item) → item_field s ≡ 0 → item_at s S.items ≡ some i → drop_item_refusal S s ≡ 0
unfolding drop_item_refusal first
drop_0 S s i e z = rw (e, z)

drop_no : (S : State) (s : Bytes) (k : ℕ) → drop_item_refusal S s ≡ k → (k ≡ 0 → ⊥) → change S (DropItem s) ≡ (refused k, S)
unfolding change
drop_no S s k e z = ap (λ (n : ℕ). changed n S (with_items S (remove key_of_item (item_key s) S.items))) e ∙ changed_refused k S (with_items S (remove key_of_item (item_key s) S.items)) z

drop_yes : (S : State) (s : Bytes) → drop_item_refusal S s ≡ 0 → change S (DropItem s) ≡ (done, with_items S (remove key_of_item (item_key s) S.items))
unfolding change
drop_yes S s e = changed_done (drop_item_refusal S s) S (with_items S (remove key_of_item (item_key s) S.items)) e

-- the rows without the item's
removed_rows : (S : State) (s : Bytes) (r : ℕ) → r ≡ spot key_of_item (item_key s) S.items → r < length S.items → remove_at r (rows_for S) ≡ rows_for (with_items S (remove key_of_item (item_key s) S.items))
unfolding remove_at rows_for other_rows
removed_rows S s r e l =
    let k = spot key_of_item (item_key s) S.items in
    let z : 0 + k ≡ r = zero-add k ∙ sym e in
    sym (rows_remove key_of_item item_row [] (other_rows S) (item_key s) S.items (subst (λ (i : ℕ). i < length S.items) e l)
    ∙ ap (λ (i : ℕ). take i (map item_row S.items ++ other_rows S) ++ drop (i + 1) (map item_row S.items ++ other_rows S)) z)

-- PUT is a put of the items' set, with its own tests
pub putting : (s bytes : Bytes) → Putting item_rows (PutItem s bytes) (record { name = s; bytes = bytes }) (λ S. misfits s S.items)
unfolding put_item_refusal
putting s bytes = record { refusal = λ S. refl; made = λ S. refl }

pub made_row : (s bytes : Bytes) (n t : ℕ) → n ≡ length (prefix_of s) → t ≡ tag_of (suffix_of s) →
    make_row t (take n s) (take (length s - n) (drop n s)) bytes [] ≡ item_row (record { name = s; bytes = bytes })
unfolding item_row
made_row s bytes n t en et = rw (take_rest s n, prefix_take s n en, et, en)

-- AN ACCEPTED NAME
module _ (s : Bytes) (n t : ℕ) (named : (n ≡ length (prefix_of s)) × (t ≡ tag_of (suffix_of s)) × (item_field s ≡ 0)) where
  pub named_few : n ≤ 256
  named_few = omega (arith, named.0, part_name_size (prefix_of s) (accepted_prefix s named.2).0)

  pub named_some : 0 < length (take n s)
  named_some = rw (prefix_take s n named.0) (omega (arith, part_name_size (prefix_of s) (accepted_prefix s named.2).0))

  pub named_tag : t < 2 ^ 32
  named_tag = omega (arith, named.1, tag_small s)

  pub named_set : 0 ≡ set_of t
  named_set = sym (tag_set t (omega (arith, named.1, tag_small s)))

-- EACH WAY OUT
module _ (p : Bytes) (ok : Open p) (s : Bytes) where
  module _ (r : Refusal) (e : number r ≡ item_field s) where
    pub drop_refused : Ran (Changes (DropItem s)) p (refused (number r)) p
    drop_refused = field_refused p ok (DropItem s) r (λ S. drop_named S s (number r) (sym e) (number_some r))

    pub put_refused : (bytes : Bytes) → Ran (Changes (PutItem s bytes)) p (refused (number r)) p
    put_refused bytes =
        set_put_refused item_rows item_rows_lem p ok (PutItem s bytes) (record { name = s; bytes = bytes }) (λ S. misfits s S.items)
        (putting s bytes) r e

  module _ (n t : ℕ) (named : (n ≡ length (prefix_of s)) × (t ≡ tag_of (suffix_of s)) × (item_field s ≡ 0)) where
    module _ (r m : ℕ) (er : Located p s r) (em : m ≡ count_of p) where
      pub drop_missing : m ≤ r → Ran (Changes (DropItem s)) p (refused 13) p
      drop_missing l = change_refused p ok (DropItem s) 13 (numbered 13 (omega arith) (omega arith))
          (λ S h. drop_no S s 13 (drop_13 S s named.2 ((er.is S h).missing (omega arith))) (λ z. omega arith))

      pub drop_done : (q : Bytes) → length q ≡ length p → r < m → (Sound p → Removed p q r) → Ran (Changes (DropItem s)) p done q
      drop_done q lq l rm = change_made_lem p ok (DropItem s) q lq (λ S h. out S h)
        where
          out : (S : State) → Holds p S → ((change S (DropItem s)).0 ≡ done) × Lies q (change S (DropItem s)).1
          out S h =
              let f = er.is S h in
              let e = drop_yes S s (drop_0 S s (get_or S.items r _) named.2 (f.found (omega arith))) in
              let o = rm h.lies.sound in
              rw e (
                refl,
                record {
                  sound = o.sound;
                  format = o.format ∙ h.lies.format;
                  rows = o.rows ∙ ap (remove_at r) h.lies.rows ∙ removed_rows S s r (f.place (omega arith)) (f.within (omega arith));
                  capacity = o.cap ∙ h.lies.capacity;
                },
              )

    -- k is the refusal of the own tests
    pub put_ran : (bytes : Bytes) (k : ℕ) → Misfitting p s k → (a : Answer) (q : Bytes) → length q ≡ length p →
        Entered p k 256 (make_row t (take n s) (take (length s - n) (drop n s)) bytes []) a q → Ran (Changes (PutItem s bytes)) p a q
    put_ran bytes k ek a q lq w =
        set_put item_rows item_rows_lem p ok (PutItem s bytes) (record { name = s; bytes = bytes }) (λ S. misfits s S.items)
        (putting s bytes) (sym named.2) k ek.is a q lq
        (subst (λ (x : Row). Entered p k 256 x a q) (made_row s bytes n t named.0 named.1) w)
