-- No line prints more than 101,888 bytes.
-- Assumes nothing.
use Prim.Native.Nat.{◌*◌, ◌≤◌}
use mathlib.Core.Path.{◌≡◌, refl}
use mathlib.Core.List.{List, [], ◌∷◌, flat_map}
use mathlib.Core.Option.{Option, none, some}
use native.Mathlib.Omega.{arith}
use lib.ListN.{length, length-append}
use Rattle.names.proofs.Lengths.{name_few}
use Rattle.model.specs.Sets.{Bytes, Each}
use Rattle.model.specs.Package.{Item, State, content, spelling, parts, media_type_of}
use Rattle.model.specs.Good.{Good}
use Rattle.model.specs.Calls.{change}
use Rattle.model.specs.Sheet.{Line, Does, Lists, Unreadable, type_or_dash, part_line, listing, shown_by}
use Rattle.model.proofs.Lists.{each_map}
use Rattle.model.proofs.Parts.{Unreserved, parts_few, parts_named}
use Rattle.model.proofs.FieldSizes.{type_size}
use Rattle.lines.proofs.Sends.{part_text_length, answer_length}
use Rattle.commands.specs.Feeding.{most_shown}

joined_length : (f : List Item → Bytes) (gs : List (List Item)) → Each (λ (g : List Item). length (f g) ≤ 398) gs → length (flat_map f gs) ≤ 398 * length gs
unfolding flat_map
joined_length f [] h = omega arith
joined_length f (g ∷ gs) h = simp length-append (omega (arith, h.0, joined_length f gs h.1))

module _ (S : State) (g : Good S) where
  type_few : (name : Bytes) → length (type_or_dash (media_type_of name S)) ≤ 127
  type_few name = go (media_type_of name S) refl
    where
      go : (o : Option Bytes) → media_type_of name S ≡ o → length (type_or_dash o) ≤ 127
      go none e = omega arith
      go (some t) e = (type_size S g name t e).1

  part_few : (q : List Item) → Unreserved (spelling q) → length (part_line S q) ≤ 398
  part_few q u =
      part_text_length (length q) (length (content q)) (spelling q) (media_type_of (spelling q) S) (name_few (spelling q) u.0) (type_few (spelling q))

  pub listing_length : length (listing S) ≤ most_shown
  unfolding listing
  listing_length =
      let l = joined_length (part_line S) (parts S.items) (each_map (λ (q : List Item). Unreserved (spelling q)) (λ (q : List Item). length (part_line S q) ≤ 398) (parts S.items) part_few (parts_named S g)) in
      omega (arith, l, parts_few S.items, g.items.few)

  pub shown_length : (l : Line) → length (shown_by S l).0 ≤ most_shown
  shown_length (Does c) = omega (arith, answer_length (change S c).0.number)
  shown_length Lists = listing_length
  shown_length Unreadable = omega (arith, answer_length 16)
