-- What the inner functions ensure of scratch that a caller lends, and where they say that a component stands.
-- Assumes nothing.
use Rattle.std.specs.Prelude.{ℕ, ◌-◌, ◌≤◌, ◌≡◌, true, false, List, length, take, drop, Option, Some, None}
use Rattle.iri.specs.Components.{authority_of, path_of}
use Rattle.pack.specs.Pack.{pack_form, package_of}
use Rattle.pack.specs.declared.pack.Place.{Place}

-- the first k bytes of the scratch are the package IRI of an authority
pub record Decoded (s : List ℕ) (k : ℕ) (out' : List ℕ) : Type 0 where
  pub text : take k out' ≡ package_of s
  pub few : k ≤ length s

-- a pack IRI has its authority, without the two slashes, from x to y, and its path from y on
pub record AuthorityAt (s : List ℕ) (x y : ℕ) : Type 0 where
  pub form : pack_form s ≡ true
  pub authority : drop 2 (authority_of s) ≡ take (y - x) (drop x s)
  pub path : path_of s ≡ drop y s
  pub order : x ≤ y
  pub inside : y ≤ length s
  pub few : y - x ≤ 765

abbrev pub PlacedAs : List ℕ → Option Place → Type 0
PlacedAs s (Some place) = AuthorityAt s place.from place.to
PlacedAs s None = pack_form s ≡ false
