-- An IRI, from what the judges of its parts ensure.
-- Assumes nothing.
use mathlib.Core.Path.{◌≡◌}
use mathlib.Core.Bool.{Bool, not, ◌&&◌, ◌||◌}
use mathlib.Core.List.{List}
use Prim.Native.Nat.{ℕ, ◌+◌, ◌≤◌}
use lib.Dec.{leb, eqb}
use lib.ListN.{length, take, drop, get_or}
use borrow.Author.Tests.{le-leb}
use Rattle.chars.specs.Bytes.{colon, number_sign}
use Rattle.chars.specs.Lists.{index_of, lacks, tiled}
use Rattle.chars.specs.Characters.{unit}
use Rattle.chars.specs.declared.units.Grammar.TheVariants.{Iri}
use Rattle.base.proofs.Bools.{and_right_true}
use Rattle.names.specs.Iris.{scheme, scheme_end, colon_first, iri}

pub iri_is : (s : List ℕ) (k x : ℕ) (u h c : Bool) → length s ≤ 255 → k ≡ scheme_end s → u ≡ tiled (unit Iri) 0 s → h ≡ lacks number_sign (drop (index_of number_sign s + 1) s)
    → x ≡ get_or s k 0 → c ≡ scheme (take k s) → (leb 1 (length s) && u && h && (not (eqb x colon) || c)) ≡ iri s
unfolding iri colon_first
iri_is s k x u h c l ek eu eh ex ec = rw (eu, eh, ex, ec, ek, le-leb (length s) 255 l, and_right_true)
