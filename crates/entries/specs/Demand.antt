-- What a viewer may rely on that goes through the entries of a package. `proofs/Demands.antt` proves it.
-- Assumes nothing.
use Rattle.std.specs.Prelude.{ℕ, ◌≤◌, ◌<◌, ◌≡◌, List, [], ◌∷◌, ◌++◌, length, get_or, drop}
use Rattle.output.specs.Answers.{answer}
use Rattle.model.specs.Sets.{Bytes, Sorted}
use Rattle.model.specs.Package.{State, item_key, name_key, relationship_key}
use Rattle.model.specs.Calls.{Looks, Find, View, step}
use Rattle.model.specs.Good.{Good}
use Rattle.entries.specs.Listing.{listed, field_count, shown, entry_at}

-- every field of every entry is shown to whom the output suffices
abbrev pub EntriesAreShown : Type 0
EntriesAreShown =
    (S : State) (set position field : ℕ) (output : Bytes) → field < field_count set → position < length (listed set S) →
    length (shown S set position field) ≤ length output →
    entry_at S set position field output
    ≡ answer 0 (length (shown S set position field) ∷ length (listed set S) ∷ [])
    (shown S set position field ++ drop (length (shown S set position field)) output)

-- in the order of the keys, so each entry once: the pieces of one name side by side, and the relationships of one source
pub record InOrder (S : State) : Type 0 where
  pub items : Sorted (λ (t : List Bytes). item_key (get_or t 0 [])) (listed 0 S)
  pub defaults : Sorted (λ (t : List Bytes). name_key (get_or t 0 [])) (listed 1 S)
  pub overrides : Sorted (λ (t : List Bytes). name_key (get_or t 0 [])) (listed 2 S)
  pub relationships : Sorted (λ (t : List Bytes). relationship_key (get_or t 0 []) (get_or t 1 [])) (listed 3 S)

abbrev pub EntriesAreInOrder : Type 0
EntriesAreInOrder = (S : State) → Good S → InOrder S

-- under the name that is shown, document 01's calls find and view the very bytes that are shown
abbrev pub ItemsShownAreFound : Type 0
ItemsShownAreFound =
    (room : ℕ) (S : State) (i : ℕ) → Good S → i < length (listed 0 S) →
    ((step room S (Looks (Find (shown S 0 i 0)))).0 ≡ answer 0 (length (shown S 0 i 1) ∷ []) [])
    × ((step room S (Looks (View (shown S 0 i 0)))).0 ≡ answer 0 [] (shown S 0 i 1))
