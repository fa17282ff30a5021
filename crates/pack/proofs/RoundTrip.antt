-- Demand 2: composing a pack IRI and resolving it gives the package IRI without its fragment, and the part name.
-- Assumes nothing.
use Prim.Native.Nat.{ℕ, suc, ◌≤◌}
use mathlib.Core.Path.{◌≡◌, refl, ◌∙◌, sym}
use mathlib.Core.Bool.{true, Bool, ◌||◌, false, ◌&&◌}
use mathlib.Core.List.{List, [], ◌∷◌, ◌++◌, append-nil}
use native.Mathlib.Omega.{arith}
use lib.Dec.{eqb}
use lib.ListN.{get_or, length}
use lib.Seq.{take-append_seam, drop-append_seam, take-length, drop-length}
use borrow.Author.Tests.{le-leb, ne_eqb, eqb-true}
use Rattle.chars.specs.Bytes.{slash, ascii, member, number_sign}
use Rattle.chars.specs.Folding.{equivalent, lower}
use Rattle.chars.specs.Lists.{same, first_passing, lacks, is_empty}
use Rattle.chars.specs.declared.search.Alphabet.TheVariants.{PathEnd, AuthorityEnd}
use Rattle.base.proofs.Bools.{and_right, and_left, or_true}
use Rattle.chars.proofs.Equivalence.{same_eq}
use Rattle.names.specs.Iris.{colon_first, package_iri, iri}
use Rattle.names.specs.Names.{part_name}
use Rattle.names.proofs.NameBytes.{name_slash}
use Rattle.iri.specs.Components.{scheme_of, scheme_length, after_scheme, authority_length, authority_of, after_authority, path_of, after_path, query_of, fragment_of, recompose}
use Rattle.pack.specs.Pack.{part_or_root, package_of, resolve_pack, Found, part_of, pack_form, unfragmented, unfragmented_iri, PackIrisReturn, pack_iri, escaped, TargetsResolve}
use Rattle.iri.specs.References.{resolve, transform, relative_path}
use Rattle.targets.specs.Targets.{resolve_path, internal}
use Rattle.pack.proofs.Escapes.{decode_escaped, escaped_few, first_escaped}
use Rattle.pack.proofs.Fragments.{before_size, before_index, before_package, before_lacks}
use Rattle.names.proofs.Lengths.{iri_some}
use Rattle.pack.proofs.PartNamePaths.{name_path}
use Rattle.iri.proofs.Splitting.{components_return}

-- a part name or / begins with a slash, and is a path to its end
root_slash : (n : List ℕ) → part_or_root n ≡ true → get_or n 0 0 ≡ slash
unfolding part_or_root
root_slash n h = go (same n (ascii "/")) refl h
  where
    go : (q : Bool) → same n (ascii "/") ≡ q → (q || part_name n) ≡ true → get_or n 0 0 ≡ slash
    go true e f = rw (same_eq n (ascii "/") e)
    go false e f = name_slash n f

root_path : (n : List ℕ) → part_or_root n ≡ true → first_passing (member PathEnd) n ≡ length n
unfolding part_or_root first_passing member
root_path n h = go (same n (ascii "/")) refl h
  where
    go : (q : Bool) → same n (ascii "/") ≡ q → (q || part_name n) ≡ true → first_passing (member PathEnd) n ≡ length n
    go true e f = rw (same_eq n (ascii "/") e)
    go false e f = name_path n f

slash_first : (n : List ℕ) → get_or n 0 0 ≡ slash → first_passing (member AuthorityEnd) n ≡ 0
unfolding first_passing member
slash_first [] e = refl
slash_first (x ∷ n) e = rw e

-- the components of pack:// a n, where nothing in a ends an authority, and n begins with a slash and has nothing that ends a path
module _ (a n : List ℕ) (f : first_passing (member AuthorityEnd) (a ++ n) ≡ length a) (g : first_passing (member PathEnd) n ≡ length n) where
  abbrev s : List ℕ
  s = ascii "pack://" ++ (a ++ n)

  scheme_is : scheme_of s ≡ ascii "pack:"
  unfolding scheme_of scheme_length colon_first first_passing member
  scheme_is = refl

  after_scheme_lem : after_scheme s ≡ slash ∷ slash ∷ (a ++ n)
  unfolding after_scheme scheme_length colon_first first_passing member
  after_scheme_lem = refl

  two_more : authority_length (after_scheme s) ≡ suc (suc (length a))
  unfolding authority_length
  two_more = rw (after_scheme_lem, f) (omega arith)

  authority_is : authority_of s ≡ slash ∷ slash ∷ a
  unfolding authority_of
  authority_is = rw (two_more, after_scheme_lem, take-append_seam a n)

  after_authority_lem : after_authority s ≡ n
  unfolding after_authority
  after_authority_lem = rw (two_more, after_scheme_lem, drop-append_seam a n)

  path_is : path_of s ≡ n
  unfolding path_of
  path_is = rw (after_authority_lem, g, take-length n)

  after_path_lem : after_path s ≡ []
  unfolding after_path
  after_path_lem = rw (after_authority_lem, g, drop-length n)

  query_is : query_of s ≡ []
  unfolding query_of first_passing
  query_is = rw (after_path_lem)

  fragment_is : fragment_of s ≡ []
  unfolding fragment_of first_passing
  fragment_is = rw (after_path_lem)

resolved_as : (s a n p : List ℕ) → scheme_of s ≡ ascii "pack:" → authority_of s ≡ slash ∷ slash ∷ a → path_of s ≡ n → query_of s ≡ [] → fragment_of s ≡ [] → package_of a ≡ p
    → package_iri p ≡ true → lacks number_sign p ≡ true → length a ≤ 765 → part_or_root n ≡ true → resolve_pack s ≡ Found p (part_of n)
unfolding resolve_pack pack_form unfragmented_iri equivalent same lower
resolved_as s a n p e1 e2 e3 e4 e5 e6 e7 e8 e9 e10 = rw (e1, e2, e3, e4, e5, e6, e7, e8, le-leb (length a) 765 e9, ne_eqb (suc (suc (length a))) 0 (λ q. absurd (omega arith)), e10, or_true (eqb (length n) 0))

pub pack_iris_return : PackIrisReturn
unfolding pack_iri
pack_iris_return p n hp hn =
    go (escaped (unfragmented p)) (decode_escaped (unfragmented p)) (omega (arith, escaped_few (unfragmented p), before_size p hp))
    (first_escaped (unfragmented p) n (before_index p hp) ∙ rw (slash_first n (root_slash n hn)) (omega arith)) (root_path n hn)
  where
    go : (a : List ℕ) → package_of a ≡ unfragmented p → length a ≤ 765 → first_passing (member AuthorityEnd) (a ++ n) ≡ length a → first_passing (member PathEnd) n ≡ length n
        → resolve_pack (ascii "pack://" ++ (a ++ n)) ≡ Found (unfragmented p) (part_of n)
    go a d l f g =
        resolved_as (s a n f g) a n (unfragmented p) (scheme_is a n f g) (authority_is a n f g) (path_is a n f g) (query_is a n f g) (fragment_is a n f g) d (before_package p hp) (before_lacks p hp) l hn

-- a path resolved against a base with an authority
resolved_path : (b a n t : List ℕ) → scheme_of b ≡ ascii "pack:" → authority_of b ≡ slash ∷ slash ∷ a → path_of b ≡ n
    → scheme_of t ≡ [] → authority_of t ≡ [] → path_of t ≡ t → is_empty t ≡ false → query_of t ≡ [] → fragment_of t ≡ []
    → resolve b t ≡ ascii "pack://" ++ (a ++ resolve_path n t)
unfolding resolve recompose transform resolve_path
resolved_path b a n t e1 e2 e3 e4 e5 e6 e7 e8 e9 =
    rw (e4, e5, e6, e7, e8, e9, e1, e2, e3, ne_eqb (suc (suc (length a))) 0 (λ q. absurd (omega arith)), append-nil (relative_path true n t))

-- an internal target is a path
none_nil : (l : List ℕ) → is_empty l ≡ true → l ≡ []
none_nil [] e = refl
none_nil (x ∷ l) e = absurd (omega (arith, eqb-true (suc (length l)) 0 e))

module _ (t : List ℕ) (h : internal t ≡ true) where
  abbrev A : Bool
  A = is_empty (scheme_of t)

  abbrev B : Bool
  B = is_empty (authority_of t)

  abbrev C : Bool
  C = is_empty (query_of t)

  abbrev D : Bool
  D = is_empty (fragment_of t)

  fragment_none : fragment_of t ≡ []
  unfolding internal
  fragment_none = none_nil (fragment_of t) (and_right (iri t && A && B && C) D h)

  query_none : query_of t ≡ []
  unfolding internal
  query_none = none_nil (query_of t) (and_right (iri t && A && B) C (and_left (iri t && A && B && C) D h))

  authority_none : authority_of t ≡ []
  unfolding internal
  authority_none = none_nil (authority_of t) (and_right (iri t && A) B (and_left (iri t && A && B) C (and_left (iri t && A && B && C) D h)))

  scheme_none : scheme_of t ≡ []
  unfolding internal
  scheme_none = none_nil (scheme_of t) (and_right (iri t) A (and_left (iri t && A) B (and_left (iri t && A && B) C (and_left (iri t && A && B && C) D h))))

  path_whole : path_of t ≡ t
  unfolding recompose
  path_whole =
      let e : scheme_of t ++ (authority_of t ++ (path_of t ++ (query_of t ++ fragment_of t))) ≡ t = components_return t in
      sym (append-nil (path_of t)) ∙ (rw (scheme_none, authority_none, query_none, fragment_none) at e)

  path_some : is_empty t ≡ false
  unfolding internal
  path_some = ne_eqb (length t) 0 (λ z. absurd (omega (arith, iri_some t (and_left (iri t) A (and_left (iri t && A) B (and_left (iri t && A && B) C (and_left (iri t && A && B && C) D h)))))))

pub targets_resolve : TargetsResolve
unfolding pack_iri
targets_resolve p n t hp hn ht =
    go (escaped (unfragmented p))
    (first_escaped (unfragmented p) n (before_index p hp) ∙ rw (slash_first n (root_slash n hn)) (omega arith)) (root_path n hn)
  where
    go : (a : List ℕ) → first_passing (member AuthorityEnd) (a ++ n) ≡ length a → first_passing (member PathEnd) n ≡ length n
        → resolve (ascii "pack://" ++ (a ++ n)) t ≡ ascii "pack://" ++ (a ++ resolve_path n t)
    go a f g = resolved_path (s a n f g) a n t (scheme_is a n f g) (authority_is a n f g) (path_is a n f g) (scheme_none t ht) (authority_none t ht) (path_whole t ht) (path_some t ht) (query_none t ht) (fragment_none t ht)
