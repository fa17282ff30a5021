-- What `specs/Demand.antt` asks, but for the answers of parts (`FreshPuts`).
-- Assumes nothing.
use Prim.Native.Nat.{◌+◌}
use mathlib.Core.Path.{◌≡◌, refl, ap}
use mathlib.Core.Bool.{Bool, true, false, not}
use mathlib.Core.List.{[], ◌∷◌}
use mathlib.Core.Option.{Option, some}
use native.Mathlib.Omega.{arith}
use lib.Dec.{eqb}
use lib.ListN.{length}
use borrow.Author.Tests.{le-ltb}
use Rattle.output.specs.Answers.{Answer, answer}
use Rattle.model.specs.Sets.{Bytes, same_key, held, any, filter, sum_of, lookup}
use Rattle.model.specs.Fields.{when, first, suffix_of, last, item_field}
use Rattle.model.specs.Package.{Item, State, item_key, key_of_item, charge, group, item_at, same_last}
use Rattle.model.specs.Puts.{put_item_refusal}
use Rattle.model.specs.Calls.{Find, View, Look, PutItem, done, refused, pick, asked_refusal, change_refusal, change_made, change, look}
use Rattle.model.specs.Demand.{EveryList, TotalsAreSums, PutsAreFound, PutsKeepOthers, FirstPutsFit, DropsUndoPuts}
use Rattle.model.proofs.Lookups.{lookup_insert_other}
use Rattle.model.proofs.Refusals.{all_none, none_all, changed_done, changed_accepted}
use Rattle.model.proofs.Inverses.{item_found, undone}
use Rattle.model.proofs.Steps.{reachable_good}

pub every_list : EveryList
every_list = reachable_good

pub totals_are_sums : TotalsAreSums
unfolding look charge
totals_are_sums room S = refl

module _ (S : State) (name bytes : Bytes) (h : put_item_refusal S name bytes ≡ 0) where
  found : item_at name (change_made S (PutItem name bytes)).items ≡ some (record { name = name; bytes = bytes })
  unfolding put_item_refusal
  found = item_found S (record { name = name; bytes = bytes }) h

  asked : asked_refusal (change_made S (PutItem name bytes)) name ≡ 0
  unfolding asked_refusal put_item_refusal item_field
  asked = none_all _ ((all_none _ (all_none _ h).0).0, (ap (λ (o : Option Item). when (not (held o)) 13) found, tt))

  made : (change S (PutItem name bytes)).1 ≡ change_made S (PutItem name bytes)
  unfolding change
  made = ap (λ (r : Answer × State). r.1) (changed_done (put_item_refusal S name bytes) S (change_made S (PutItem name bytes)) h)

  find_put : look (change_made S (PutItem name bytes)) (Find name) ≡ answer 0 (length bytes ∷ []) []
  unfolding look
  find_put = rw (asked, found)

  view_put : look (change_made S (PutItem name bytes)) (View name) ≡ answer 0 [] bytes
  unfolding look
  view_put = rw (asked, found)

pub puts_are_found : PutsAreFound
unfolding change
puts_are_found room S name bytes h =
    let e = changed_accepted (put_item_refusal S name bytes) S (change_made S (PutItem name bytes)) h in
    (rw (made S name bytes e) (find_put S name bytes e), rw (made S name bytes e) (view_put S name bytes e))

-- a look at another item name sees the item set through its key only
module _ (S : State) (name bytes other : Bytes) (n : same_key (item_key other) (item_key name) ≡ false) where
  other_at : item_at other (change_made S (PutItem name bytes)).items ≡ item_at other S.items
  unfolding item_at
  other_at = ap (same_last (last (suffix_of other)))
      (lookup_insert_other key_of_item (item_key other) (record { name = name; bytes = bytes }) S.items n)

  find_other : look (change_made S (PutItem name bytes)) (Find other) ≡ look S (Find other)
  unfolding look asked_refusal
  find_other = rw other_at

  view_other : look (change_made S (PutItem name bytes)) (View other) ≡ look S (View other)
  unfolding look asked_refusal
  view_other = rw other_at

pub puts_keep_others : PutsKeepOthers
unfolding change
puts_keep_others room S name bytes other n = (
  either (Find other) (eqb (put_item_refusal S name bytes) 0) (find_other S name bytes other n),
  either (View other) (eqb (put_item_refusal S name bytes) 0) (view_other S name bytes other n),
)
  where
    either :
        (q : Look) (b : Bool) → look (change_made S (PutItem name bytes)) q ≡ look S q →
        look (pick b (done, change_made S (PutItem name bytes)) (refused (put_item_refusal S name bytes), S)).1 q ≡ look S q
    either q true h = h
    either q false h = refl

pub first_puts_fit : FirstPutsFit
unfolding change put_item_refusal lookup any group filter charge sum_of first
first_puts_fit room C name bytes h l = rw (h, le-ltb C (0 + (length name + length bytes)) (omega arith))

pub drops_undo_puts : DropsUndoPuts
unfolding change
drops_undo_puts room S c p h = undone S c p (changed_accepted (change_refusal S c) S (change_made S c) h)
