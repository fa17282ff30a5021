-- Where a pack IRI has its authority and its path.
-- Assumes nothing.
use Prim.Native.Nat.{ℕ, ◌-◌, ◌<◌, ◌≤◌, ◌+◌}
use mathlib.Core.Path.{◌≡◌, ◌∙◌, ap, sym, refl}
use mathlib.Core.Bool.{Bool, ◌&&◌, not, ◌||◌, true, false}
use mathlib.Core.List.{List, ◌++◌}
use native.Mathlib.Omega.{arith}
use lib.Dec.{eqb, leb}
use lib.ListN.{take, length, drop, length-drop, length-append}
use lib.Seq.{length-take-le, drop-drop}
use borrow.Author.Tests.{not-true, not-false, eq-eqb, ne_eqb, lt-leb, le-leb}
use Rattle.chars.specs.Bytes.{ascii}
use Rattle.chars.specs.Folding.{equivalent}
use Rattle.chars.specs.Lists.{is_empty, same}
use Rattle.base.proofs.Lists.{take_rest, drop_take}
use Rattle.iri.specs.Components.{authority_of, path_of, authority_length, after_scheme}
use Rattle.iri.specs.Scratch.{SplitAt}
use Rattle.pack.specs.Scratch.{AuthorityAt, PlacedAs}
use Rattle.output.specs.Refusals.{number}
use Rattle.output.specs.declared.refusals.Refusal.{Refusal}
use Rattle.output.specs.declared.refusals.Unwritten.TheVariants as unwritten
use Rattle.std.specs.Prelude.{Option, None, Ok, Err}
use Rattle.pack.specs.Pack.{pack_form, part_or_root, located, Not, resolve_pack, Location, of_resolved, Found}
use Rattle.pack.specs.declared.pack.Place.{Place}
use Rattle.iri.proofs.Splitting.{authority_le, authority_length_lem, none_after, authority_two}
use Rattle.names.proofs.Lengths.{name_few}
use Rattle.names.specs.Names.{part_name}
use Rattle.chars.proofs.Equivalence.{same_eq}

-- a part name, and / beside it, have at most 255 bytes
pub part_or_root_few : (n : List ℕ) → part_or_root n ≡ true → length n ≤ 255
unfolding part_or_root
part_or_root_few n h = go (same n (ascii "/")) refl h
  where
    go : (q : Bool) → same n (ascii "/") ≡ q → (q || part_name n) ≡ true → length n ≤ 255
    go true e f = rw (same_eq n (ascii "/") e) (omega arith)
    go false e f = name_few n f

module _ (s : List ℕ) (a b p q : ℕ) (h : SplitAt s a b p q) (x : Bool) (ex : x ≡ equivalent (take a s) (ascii "pack:")) where
  two_less : length (drop 2 (authority_of s)) ≡ b - a - 2
  two_less = length-drop 2 (authority_of s) ∙ ap (λ (n : ℕ). n - 2) (authority_length_lem s a b p q h)

  form_is : pack_form s ≡ x && not (eqb (b - a) 0) && leb (b - a - 2) 765 && eqb p (length s) && (is_empty (path_of s) || part_or_root (path_of s))
  unfolding pack_form
  form_is = rw (two_less, none_after s a b p q h, authority_length_lem s a b p q h, ← h.scheme, ← ex)

  pub no_pack : not x ≡ true → pack_form s ≡ false
  no_pack e = form_is ∙ rw (not-true x e)

  module _ (gx : not x ≡ false) where
    hx : x ≡ true
    hx = not-false x gx

    pub no_authority : b ≡ a → pack_form s ≡ false
    no_authority e = form_is ∙ rw (hx, eq-eqb (b - a) 0 (omega arith))

    module _ (z : b ≡ a → ⊥) where
      some : eqb (b - a) 0 ≡ false
      some = ne_eqb (b - a) 0 (λ e. z (omega (arith, h.a_le)))

      pub no_room_lem : 767 < b - a → pack_form s ≡ false
      no_room_lem l = form_is ∙ rw (hx, some, lt-leb (b - a - 2) 765 (omega arith))

      module _ (l : b - a ≤ 767) where
        room : leb (b - a - 2) 765 ≡ true
        room = le-leb (b - a - 2) 765 (omega arith)

        pub no_end : (p ≡ length s → ⊥) → pack_form s ≡ false
        no_end e = form_is ∙ rw (hx, some, room, ne_eqb p (length s) e)

        module _ (e : p ≡ length s) (y : Bool) (ey : y ≡ (is_empty (take (length s - b) (drop b s)) || part_or_root (take (length s - b) (drop b s)))) where
          path_is : path_of s ≡ take (length s - b) (drop b s)
          path_is = sym h.path ∙ rw e

          whole : pack_form s ≡ y
          whole = form_is ∙ rw (hx, some, room, eq-eqb p (length s) e, path_is, ← ey)

          pub no_path : not y ≡ true → pack_form s ≡ false
          no_path g = whole ∙ not-true y g

          two : a + 2 ≤ b
          unfolding authority_of
          two =
              let n = authority_length (after_scheme s) in
              let k : length (take n (after_scheme s)) ≡ n = length-take-le n (after_scheme s) (authority_le (after_scheme s)) in
              let m : b - a ≡ n = sym (authority_length_lem s a b p q h) ∙ k in
              omega (arith, authority_two (after_scheme s) (λ f. z (omega (arith, m, h.a_le))), m)

          pub located_at : not y ≡ false → AuthorityAt s (a + 2) b
          located_at g = record {
            form = whole ∙ not-false y g;
            authority =
                ap (drop 2) (sym h.authority) ∙ drop_take 2 (b - a) (drop a s) ∙ ap (take (b - a - 2)) (drop-drop 2 a s)
                ∙ ap (λ (n : ℕ). take n (drop (a + 2) s)) (let f : b - a - 2 ≡ b - (a + 2) = omega arith in f);
            path = path_is ∙ take_rest s b;
            order = two;
            inside = omega (arith, h.b_le);
            few = omega arith;
          }

-- no place
pub placed_none : (s : List ℕ) (p : Option Place) → p ≡ None → PlacedAs s p → resolve_pack s ≡ Not 9
unfolding resolve_pack
placed_none s p e h = let f : pack_form s ≡ false = rw e at h in rw f

-- what resolving answers
pub located_refused : (t : Location) (r : Refusal) (out : List ℕ) → t ≡ Not (number r) → of_resolved (Err (unwritten.Refused r)) out ≡ located t out
located_refused t r out e = rw e

module _ (t : Location) (p n out : List ℕ) (a b : ℕ) (e : t ≡ Found p n) (ea : a ≡ length p) (eb : b ≡ length n) where
  sum : length (p ++ n) ≡ a + b
  sum = length-append p n ∙ ap (λ (z : ℕ). z + length n) (sym ea) ∙ ap (λ (z : ℕ). a + z) (sym eb)

  pub located_short : length out < a + b → of_resolved (Err (unwritten.TooShort (a + b))) out ≡ located t out
  located_short l = let g : leb (length (p ++ n)) (length out) ≡ false = lt-leb (length (p ++ n)) (length out) (omega (arith, sum)) in rw (e, g, sum)

  pub located_found : (out' : List ℕ) → a + b ≤ length out → out' ≡ (p ++ n) ++ drop (length (p ++ n)) out → of_resolved (Ok (record { «package» = a; part = b })) out' ≡ located t out
  located_found out' l f = let g : leb (length (p ++ n)) (length out) ≡ true = le-leb (length (p ++ n)) (length out) (omega (arith, sum)) in rw (e, g, f, ea, eb)
