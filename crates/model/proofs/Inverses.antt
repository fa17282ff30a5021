-- Put, then drop of the same: the package is what it was (not only equivalent to it).
-- Assumes nothing.
use Prim.Native.Nat.{ℕ}
use mathlib.Core.Path.{◌≡◌, refl, ap, ◌∙◌}
use mathlib.Core.Bool.{not}
use mathlib.Core.List.{List, [], ◌∷◌}
use mathlib.Core.Option.{Option, some}
use Rattle.output.specs.Answers.{Answer}
use Rattle.model.specs.Sets.{held, lookup, insert, remove, Each}
use Rattle.model.specs.Fields.{when, suffix_of, last, extension_field, part_field, source_field, id_field, default_fields, override_fields, relationship_fields}
use Rattle.model.specs.Package.{Item, Default, Override, Relationship, State, item_at, same_last, Kind, item_kind, default_kind, override_kind, relationship_kind, key_of_item}
use Rattle.model.specs.Puts.{put_refusal, drop_refusal, put_in, taken_out, misfits, put_item_refusal, put_default_refusal, put_override_refusal}
use Rattle.model.specs.Puts.{put_relationship_refusal, drop_item_refusal, drop_default_refusal, drop_override_refusal, drop_relationship_refusal}
use Rattle.model.specs.Calls.{Change, PutItem, DropItem, PutDefault, DropDefault, PutOverride, DropOverride, PutRelationship, DropRelationship}
use Rattle.model.specs.Calls.{JoinPart, ReadTypes, ReadRelationships, done, changed, change, change_refusal, change_made}
use Rattle.model.specs.Demand.{drop_of, IsPut}
use Rattle.model.proofs.Lists.{each_append}
use Rattle.model.proofs.Sets.{remove_insert}
use Rattle.model.proofs.Items.{same_last_own}
use Rattle.model.proofs.Refusals.{all_none, none_all, changed_done}
use Rattle.model.proofs.KindLaws.{Lawful, item_lawful, default_lawful, override_lawful, relationship_lawful}
use Rattle.model.proofs.Puts.{put_fields, put_free, put_found}

module _ {E : Type 0} (kind : Kind E) (L : Lawful kind) (S : State) (e : E) (own : List ℕ) (h : put_refusal kind S e own ≡ 0) where
  out_again : taken_out kind (put_in kind S e) (kind.key e) ≡ S
  out_again =
      let l = insert kind.key e (kind.entries S) in
      L.again S l (remove kind.key (kind.key e) (kind.entries (kind.renewed S l)))
      ∙ ap (λ (m : List E). kind.renewed S (remove kind.key (kind.key e) m)) (L.own S l)
      ∙ ap (kind.renewed S) (remove_insert kind.key e (kind.entries S) (put_free kind S e own h))
      ∙ L.same S

  -- the drop finds the entry
  drop_met : (fields : List ℕ) → Each (λ (n : ℕ). n ≡ 0) fields → drop_refusal kind (put_in kind S e) fields (kind.key e) ≡ 0
  drop_met fields f =
      let l = insert kind.key e (kind.entries S) in
      let found : lookup kind.key (kind.key e) (kind.entries (kind.renewed S l)) ≡ some e =
      ap (lookup kind.key (kind.key e)) (L.own S l) ∙ put_found kind S e own h in
      none_all _ (each_append (λ (n : ℕ). n ≡ 0) fields _ f (ap (λ (o : Option E). when (not (held o)) 13) found, tt))

  -- a drop that is accepted there, and takes out the entry
  undo : (d : Change) → change_refusal (put_in kind S e) d ≡ 0 → change_made (put_in kind S e) d
      ≡ taken_out kind (put_in kind S e) (kind.key e) →
      change (changed (put_refusal kind S e own) S (put_in kind S e)).1 d ≡ (done, S)
  unfolding change
  undo d r m =
      ap (λ (U : State). change U d) (ap (λ (q : Answer × State). q.1) (changed_done (put_refusal kind S e own) S (put_in kind S e) h))
      ∙ changed_done (change_refusal (put_in kind S e) d) (put_in kind S e) (change_made (put_in kind S e) d) r
      ∙ ap (λ (U : State). (done, U)) (m ∙ out_again)

-- a new item is what its name asks for
pub item_found : (S : State) (new : Item) → put_refusal item_kind S new (misfits new.name S.items) ≡ 0 →
    item_at new.name (insert key_of_item new S.items) ≡ some new
unfolding item_at
item_found S new h =
    ap (same_last (last (suffix_of new.name))) (put_found item_kind S new (misfits new.name S.items) h) ∙ same_last_own new

pub undone : (S : State) (c : Change) → IsPut c → change_refusal S c ≡ 0 → change (change S c).1 (drop_of c) ≡ (done, S)
unfolding change put_item_refusal drop_item_refusal put_default_refusal drop_default_refusal put_override_refusal drop_override_refusal
    put_relationship_refusal drop_relationship_refusal default_fields override_fields relationship_fields
undone S (PutItem name bytes) p h =
    let new : Item = record { name = name; bytes = bytes } in
    let own = misfits name S.items in
    undo item_kind item_lawful S new own h (DropItem name)
    (none_all _ (put_fields item_kind S new own h, (ap (λ (o : Option Item). when (not (held o)) 13) (item_found S new h), tt))) refl
undone S (DropItem name) p h = absurd p
undone S (PutDefault extension type) p h =
    let new : Default = record { extension = extension; type = type } in
    undo default_kind default_lawful S new [] h (DropDefault extension)
    (drop_met default_kind default_lawful S new [] h (extension_field extension ∷ []) (
      (all_none _ (put_fields default_kind S new [] h)).0,
      tt,
    )) refl
undone S (DropDefault extension) p h = absurd p
undone S (PutOverride name type) p h =
    let new : Override = record { name = name; type = type } in
    undo override_kind override_lawful S new [] h (DropOverride name)
    (drop_met override_kind override_lawful S new [] h (part_field name ∷ []) ((all_none _ (put_fields override_kind S new [] h)).0, tt)) refl
undone S (DropOverride name) p h = absurd p
undone S (PutRelationship source id type mode target) p h =
    let new : Relationship = record { source = source; id = id; type = type; mode = mode; target = target } in
    let f = all_none _ (put_fields relationship_kind S new [] h) in
    undo relationship_kind relationship_lawful S new [] h (DropRelationship source id)
    (drop_met relationship_kind relationship_lawful S new [] h (source_field source ∷ id_field id ∷ []) (f.0, (f.1.0, tt))) refl
undone S (DropRelationship source id) p h = absurd p
undone S (JoinPart name) p h = absurd p
undone S (ReadTypes stream) p h = absurd p
undone S (ReadRelationships source stream) p h = absurd p
