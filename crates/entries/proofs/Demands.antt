-- The entries are shown, in order, and found under their names.
-- Assumes nothing.
use Prim.Native.Nat.{ℕ, ◌<◌}
use mathlib.Core.Path.{◌≡◌, ap, ◌∙◌}
use mathlib.Core.Bool.{not}
use mathlib.Core.List.{[], ◌∷◌}
use mathlib.Core.Option.{Option, some}
use native.Mathlib.Omega.{arith}
use lib.ListN.{length, get_or, length-map}
use Rattle.output.specs.Answers.{Text, unless, answer, filled}
use Rattle.output.proofs.Answering.{filled_fits}
use Rattle.model.specs.Sets.{held}
use Rattle.model.specs.Fields.{when, suffix_of, last, item_field}
use Rattle.model.specs.Package.{Item, State, key_of_item, no_item, item_kind, same_last, item_at}
use Rattle.model.specs.Calls.{Find, View, asked_refusal, look}
use Rattle.model.specs.Good.{Good}
use Rattle.model.proofs.Refusals.{all_none, none_all}
use Rattle.model.proofs.Lists.{each_at, get_or_map_in}
use Rattle.model.proofs.Lookups.{lookup_own}
use Rattle.model.proofs.Items.{same_last_own}
use Rattle.contract.proofs.RowLists.{pairs_under}
use Rattle.entries.specs.Listing.{item_texts, default_texts, override_texts, relationship_texts, listed, shown, entry_at}
use Rattle.entries.specs.Demand.{EntriesAreShown, EntriesAreInOrder, ItemsShownAreFound}
use Rattle.entries.proofs.EntryCalls.{none_refused}

pub entries_are_shown : EntriesAreShown
unfolding entry_at
entries_are_shown S set position field output l m f =
    let t = shown S set position field in
    ap (λ (n : ℕ). filled 2 output (unless n (Text t (length (listed set S) ∷ [])))) (none_refused S set position field l m)
    ∙ filled_fits 2 output t (length (listed set S) ∷ []) f

pub entries_are_in_order : EntriesAreInOrder
unfolding listed
entries_are_in_order S g = record {
  items = pairs_under item_texts _ S.items g.items.sorted;
  defaults = pairs_under default_texts _ S.defaults g.defaults.sorted;
  overrides = pairs_under override_texts _ S.overrides g.overrides.sorted;
  relationships = pairs_under relationship_texts _ S.relationships g.relationships.sorted;
}

module _ (S : State) (g : Good S) (i : ℕ) (l : i < length S.items) where
  abbrev it : Item
  it = get_or S.items i no_item

  found : item_at it.name S.items ≡ some it
  unfolding item_at
  found = ap (same_last (last (suffix_of it.name))) (lookup_own key_of_item S.items i no_item g.items.sorted l) ∙ same_last_own it

  asked : asked_refusal S it.name ≡ 0
  unfolding asked_refusal item_field
  asked =
      let f = each_at (λ (x : Item). item_kind.fields x ≡ 0) S.items i no_item l g.items.fielded in
      none_all _ ((all_none _ f).0, (ap (λ (o : Option Item). when (not (held o)) 13) found, tt))

  item_found : (look S (Find it.name) ≡ answer 0 (length it.bytes ∷ []) []) × (look S (View it.name) ≡ answer 0 [] it.bytes)
  unfolding look
  item_found = (rw (asked, found), rw (asked, found))

pub items_shown_are_found : ItemsShownAreFound
unfolding listed
items_shown_are_found room S i g h =
    let l : i < length S.items = omega (arith, length-map S.items item_texts) in
    rw (get_or_map_in item_texts S.items i no_item [] l) (item_found S g i l)
