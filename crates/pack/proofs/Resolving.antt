-- Resolving a pack IRI whose authority and path are located.
-- Assumes nothing.
use Prim.Native.Nat.{◌-◌, ℕ, ◌≤◌, ◌+◌, ◌<◌}
use mathlib.Core.Path.{◌≡◌, refl, sym, ap, ◌∙◌}
use mathlib.Core.Bool.{◌&&◌, ◌||◌, Bool, true, false, not, cond}
use mathlib.Core.List.{List, [], ◌∷◌, ◌++◌}
use native.Mathlib.Omega.{arith}
use lib.Dec.{leb}
use lib.ListN.{take, length, drop, length-drop, length-append}
use lib.Seq.{length-take-le, take_all}
use borrow.Author.Tests.{eqb-true, not-true, not-false}
use Rattle.chars.specs.Bytes.{ascii}
use Rattle.chars.specs.Folding.{equivalent}
use Rattle.chars.specs.Lists.{is_empty, same}
use Rattle.base.proofs.Bools.{and_right}
use Rattle.base.proofs.Lists.{take_rest, length_take_few}
use Rattle.iri.specs.Components.{path_of, scheme_of, defined, authority_of, query_of, fragment_of}
use Rattle.pack.specs.Pack.{pack_form, part_or_root, package_of, unfragmented_iri, resolve_pack, Not, part_of, Found, of_resolved, located}
use Rattle.pack.specs.Scratch.{AuthorityAt, Decoded}
use Rattle.output.specs.Sends.{Sent}
use Rattle.pack.proofs.Locating.{part_or_root_few, located_short, located_found}
use Rattle.output.proofs.Sending.{sent_more, sent_start}
use Rattle.output.specs.declared.refusals.Unwritten.TheVariants as unwritten
use Rattle.std.specs.Prelude.{Ok, Err}

zero_take : (l : List ℕ) → take 0 l ≡ []
zero_take [] = refl
zero_take (x ∷ l) = refl

module _ (s : List ℕ) (x y : ℕ) (h : AuthorityAt s x y) where
  pub pack_path_few : length (drop y s) ≤ 255
  unfolding pack_form
  pack_path_few =
      rw h.path at (go (is_empty (path_of s)) refl
      (and_right (equivalent (scheme_of s) (ascii "pack:") && defined (authority_of s) && leb (length (drop 2 (authority_of s))) 765
      && (is_empty (query_of s) && is_empty (fragment_of s))) (is_empty (path_of s) || part_or_root (path_of s)) h.form))
    where
      go : (q : Bool) → is_empty (path_of s) ≡ q → (q || part_or_root (path_of s)) ≡ true → length (path_of s) ≤ 255
      go true e f = omega (arith, eqb-true (length (path_of s)) 0 e)
      go false e f = part_or_root_few (path_of s) f

  pub authority_few : length (take (y - x) (drop x s)) ≤ 765
  authority_few = omega (arith, length_take_few (y - x) (drop x s), h.few)

  module _ (k : ℕ) (b : List ℕ) (d : Decoded (take (y - x) (drop x s)) k b) (lb : length b ≡ 765) where
    pub package_end_few : k ≤ 765
    package_end_few = omega (arith, d.few, authority_few)

    pub package_end_length : k ≡ length (take k b)
    package_end_length = sym (length-take-le k b (omega (arith, package_end_few, lb)))

    package_is : package_of (drop 2 (authority_of s)) ≡ take k b
    package_is = ap package_of h.authority ∙ sym d.text

    module _ (v : Bool) (ev : v ≡ unfragmented_iri (take k b)) where
      pub pack_refused : not v ≡ true → resolve_pack s ≡ Not 9
      unfolding resolve_pack
      pack_refused q = rw (h.form, package_is, ← ev, not-true v q)

      module _ (gv : not v ≡ false) (m : ℕ) (em : m ≡ length (part_of (take (length s - y) (drop y s)))) where
        abbrev N : List ℕ
        N = part_of (drop y s)

        pub m_is : m ≡ length N
        m_is = em ∙ ap (λ (l : List ℕ). length (part_of l)) (take_rest s y)

        form_is : resolve_pack s ≡ Found (take k b) N
        unfolding resolve_pack
        form_is = rw (h.form, package_is, ← ev, not-false v gv, h.path)

        part_is : take (y + m - y) (drop y s) ≡ N
        part_is = ap (λ (n : ℕ). take n (drop y s)) (let e : y + m - y ≡ m = omega arith in e) ∙ ap (λ (n : ℕ). take n (drop y s)) m_is ∙ go (same (drop y s) (ascii "/"))
          where
            go : (q : Bool) → take (length (cond q [] (drop y s))) (drop y s) ≡ cond q [] (drop y s)
            go true = zero_take (drop y s)
            go false = take_all (length (drop y s)) (drop y s) (omega arith)

        pub part_end_le : y + m ≤ length s
        part_end_le = omega (arith, h.inside, length-drop y s, m_is, small (same (drop y s) (ascii "/")))
          where
            small : (q : Bool) → length (cond q [] (drop y s)) ≤ length (drop y s)
            small true = omega arith
            small false = omega arith

        pub part_end_few : m ≤ 255
        part_end_few = omega (arith, pack_path_few, length-drop y s, part_end_le)

        pub pack_short : (out : List ℕ) → length out < k + m → of_resolved (Err (unwritten.TooShort (k + m))) out ≡ located (resolve_pack s) out
        pack_short out l = located_short (resolve_pack s) (take k b) N out k m form_is package_end_length m_is l

        pub pack_found : (out o₁ o₂ : List ℕ) (i j : ℕ) → k + m ≤ length out → Sent out 0 (take k b) i o₁ → length o₁ ≡ length out → Sent o₁ i (take (y + m - y) (drop y s)) j o₂
            → of_resolved (Ok (record { «package» = k; part = m })) o₂ ≡ located (resolve_pack s) out
        pack_found out o₁ o₂ i j l s₁ e s₂ =
            let w : Sent out 0 (take k b ++ N) j o₂ = sent_more out o₁ o₂ (take k b) N 0 i j s₁ e (rw part_is at s₂) in
            located_found (resolve_pack s) (take k b) N out k m form_is package_end_length m_is o₂ l (sent_start out o₂ (take k b ++ N) j w (omega (arith, length-append (take k b) N, package_end_length, m_is)))
